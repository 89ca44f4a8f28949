use Rattle.node_session.proofs.Closing.{plain_talk, no_quit}
use Rattle.node_session.proofs.serving.serve_session.Goals as goal

pub returns-clause-exact : goal.returns-clause-exact
returns-clause-exact g c =
    let e = c.serve_with_questions.ensures.exact in
    (e.0, e.1, e.2, e.3, e.4, plain_talk _ _ _ _ _ _ _ _ _ e.5, e.6, e.8, e.9)

pub returns-clause-stays : goal.returns-clause-stays
returns-clause-stays g c =
    let e = c.serve_with_questions.ensures.exact in
    no_quit _ e.2 (plain_talk _ _ _ _ _ _ _ _ _ e.5).exchanges e.7
