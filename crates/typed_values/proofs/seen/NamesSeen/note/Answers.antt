use Rattle.std.proofs.Common.{◌∙◌, ℕ, List, Bor, map, ap, not}
use Rattle.typed_values.specs.Members.{has, with_member}
use Rattle.typed_values.proofs.NamesRead.{twice_not, has_borrowed, with_borrowed}
use Rattle.typed_values.proofs.seen.NamesSeen.note.Goals as goal

pub returns-clause-repeated : goal.returns-clause-repeated
returns-clause-repeated c =
    ap not c.in_ok-insert.ensures.added
    ∙ twice_not _
    ∙ has_borrowed c.args.name.now c.self.inside.set.keys
    ∙ ap (λ ks. has ks c.args.name.now) c.self.view_is

pub returns-clause-noted : goal.returns-clause-noted
returns-clause-noted c =
    ap (λ ks. map (λ (b : Bor (List ℕ)). b.now) ks) c.in_ok-insert.ensures.keys
    ∙ with_borrowed c.self.inside.set.keys c.args.name
    ∙ ap (λ ks. with_member ks c.args.name.now) c.self.view_is
