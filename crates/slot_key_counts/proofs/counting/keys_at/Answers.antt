use Rattle.std.proofs.Common.{rules, ◌≡◌, ◌<◌, length, ap, subst, slice_set, refl, Some}
use Rattle.std.specs.Prelude.{slice_get}
use Rattle.std.proofs.lemmas.Option.{slice_get_read}
use Rattle.slot_key_counts.proofs.counting.keys_at.Goals as goal

pub returns-clause-counted : goal.returns-clause-counted
returns-clause-counted g c =
    let same : c.from.result ≡ c.args.node = search rules in
    let within : c.from.result < length c.args.links.now.items = search rules in (
      c.index_mut-link.result.now,
      c.keys_of_slot.new.link,
      subst (λ i. slice_get c.args.links.now.items i ≡ Some c.index_mut-link.result.now) same
          (slice_get_read c.args.links.now.items (length c.args.links.now.items) c.from.result c.index_mut-link.result.now refl within c.index_mut-link.ensures.value),
      c.keys_of_slot.ensures,
      ap (λ i. slice_set c.args.links.now.items i c.keys_of_slot.new.link) same,
    )
