use Rattle.std.proofs.Common.{Some, ap, ◌∙◌}
use Rattle.cluster_views.specs.Views.{number_of}
use Rattle.cluster_views.proofs.Naming.{within_book}
use Rattle.cluster_views.proofs.named_book.NamedBook.number_of.Goals as goal

pub returns-clause-within : goal.returns-clause-within
returns-clause-within c =
    within_book c.args.self.now c.args.name.now (Some c.in_ok-node.node.now)
    (c.in_ok-node.ensures.value
    ∙ c.self.invariant c.args.name.now
    ∙ ap (λ b. number_of b c.args.name.now) c.self.view_is)
