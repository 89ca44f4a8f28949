use Rattle.std.proofs.Common.{◌∙◌, Err, subst, sym}
use Rattle.resp2_wire.specs.declared.reply.Reply.TheVariants as reply
use Rattle.server_links.specs.LongLists.{bulks}
use Rattle.server_settling.proofs.LongListing.{few_listed, too_many_listed}
use Rattle.server_settling.specs.Listing.{Lists}
use Rattle.server_settling.specs.declared.stop.SettleStop.{SettleStop}
use Rattle.server_settling.proofs.listing.few_texts.Goals as goal

pub returns-in-Some : goal.returns-in-Some
returns-in-Some c = λ s. few_listed c.args.node s c.args.most c.args.texts c.sorted.result c.in-Some.keys c.sorted.ensures.same
    c.sorted.ensures.ascending (sym c.few_in.ensures ∙ c.in-Some.is)

pub returns-in-None : goal.returns-in-None
returns-in-None c = λ s. subst (λ (e : SettleStop). Lists c.args.node s c.args.most (reply.Array (bulks c.args.texts)) (Err e))
    (sym c.stop_by.ensures)
    (too_many_listed c.args.node s c.args.most c.args.texts c.sorted.result c.sorted.ensures.same c.sorted.ensures.ascending
    (sym c.few_in.ensures ∙ c.in-None.is))
