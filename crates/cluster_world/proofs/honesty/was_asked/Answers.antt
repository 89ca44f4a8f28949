use Rattle.std.proofs.Common.{◌∙◌, ap, sym}
use Rattle.cluster_world.specs.Imported.{is_after, place_in}
use Rattle.cluster_world.proofs.Errors.{by_places}
use Rattle.cluster_world.proofs.honesty.was_asked.Goals as goal

pub returns : goal.returns
returns c past told places =
    c.in_ok-has_after.ensures
    ∙ ap (λ u. is_after (place_in c.args.errors.now u c.args.keys.now) c.in-Some-since.since) (c.get.ensures.value)
    ∙ by_places c.args.base_port c.args.node c.args.marks.now c.args.keys.now c.in-Some.slot c.in-Some-since.since c.in_ok-text.text c.args.errors.now past
    (sym c.slot_if_one.ensures ∙ c.in-Some.is) (sym c.since.ensures ∙ c.in-Some-since.is) c.in_ok-text.ensures told places
