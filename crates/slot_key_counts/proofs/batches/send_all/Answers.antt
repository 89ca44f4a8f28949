use Rattle.std.proofs.Common.{◌∙◌, ℕ, List, Ok, Err, inr, refl, subst}
use Rattle.server_links.specs.Asking.{AsksAt}
use Rattle.server_links.specs.Links.{Sends}
use Rattle.slot_key_counts.proofs.batches.send_all.Goals as goal

pub returns-in-Ok-clause-sent : goal.returns-in-Ok-clause-sent
returns-in-Ok-clause-sent g c =
    subst
    (λ (x : List ℕ). AsksAt (Sends (record { gave = g.I.ByteIn.gave; took = g.O.ByteOut.took }) x) c.args.links.now.items
    c.args.node (Ok c.in-Ok.field-0) c.send_at.new.links.items)
    (c.as_slice.ensures.value ∙ c.in_ok-requests.ensures) c.in-Ok.ensures.sent

pub returns-clause-sent : goal.returns-clause-sent
returns-clause-sent g c =
    inr (
      c.in-Err.field-0,
      subst
          (λ (x : List ℕ). AsksAt (Sends (record { gave = g.I.ByteIn.gave; took = g.O.ByteOut.took }) x) c.args.links.now.items
          c.args.node (Err c.in-Err.field-0) c.send_at.new.links.items)
          (c.as_slice.ensures.value ∙ c.in_ok-requests.ensures) c.in-Err.ensures.sent,
      refl,
    )
