use Rattle.loopback_servers.proofs.Growing.{chain_grows}
use Rattle.loopback_servers.proofs.asking.tell_session.Goals as goal

pub returns-clause-served : goal.returns-clause-served
returns-clause-served g c =
    let e = c.serve_with_questions.ensures.exact in (e.0, e.1, e.2, e.3, e.4, e.5, e.6, e.7, e.9)

pub returns-clause-grows : goal.returns-clause-grows
returns-clause-grows g c = chain_grows (λ p. p.seat) _ _ _ c.serve_with_questions.ensures.exact.5.chain
