use Rattle.std.proofs.Common.{◌≡◌, ◌∙◌, List, ℕ, Ok, Err, ap, subst, inl, inr, refl}
use Rattle.server_links.specs.Asking.{AsksAt}
use Rattle.server_commands.specs.Spelling.{spelled}
use Rattle.server_links.specs.Links.{ExchangesList}
use Rattle.server_links.specs.declared.link.Link as link
use Rattle.server_settling.specs.Asking.{IsGone, Sends}
use Rattle.server_settling.proofs.asking.ask_list_at.Goals as goal

pub returns-in-Ok-ask_list_at-clause-asked : goal.returns-in-Ok-ask_list_at-clause-asked
unfolding Sends
returns-in-Ok-ask_list_at-clause-asked g c = inl (inr (inr (
  c.in-Ok-ask_list_at.reply,
  subst (λ (q : List ℕ). AsksAt (ExchangesList (record { gave = g.I.ByteIn.gave; took = g.O.ByteOut.took }) q) c.args.links.now.items c.args.node (Ok c.in-Ok-ask_list_at.reply) c.ask_list_at.new.links.items)
      (c.as_slice.ensures.value ∙ c.in-Ok.ensures ∙ ap spelled c.get.ensures)
      c.in-Ok-ask_list_at.ensures.asked,
  c.in-Ok-ask_list_at.ensures.within,
  refl,
)))

pub returns-clause-asked : goal.returns-clause-asked
unfolding Sends
returns-clause-asked g c = inl (
  (
    c.in-Err.field-0,
    subst (λ (q : List ℕ). AsksAt (ExchangesList (record { gave = g.I.ByteIn.gave; took = g.O.ByteOut.took }) q) c.args.links.now.items c.args.node (Err c.in-Err.field-0) c.ask_list_at.new.links.items)
        (c.as_slice.ensures.value ∙ c.in-Ok.ensures ∙ ap spelled c.get.ensures)
        c.in-Err.ensures.asked,
  ),
  subst (λ (ls : List (link.Link g.row.I.Denot g.row.O.Denot)). IsGone c.args.node ls c.gone.result) c.as_slice-in-Err.ensures.value c.gone.ensures,
)
