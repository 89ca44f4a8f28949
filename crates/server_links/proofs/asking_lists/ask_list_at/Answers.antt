use Rattle.std.proofs.Common.{rules, ◌≡◌, ◌<◌, length, ap, subst, slice_set, refl, Some}
use Rattle.std.specs.Prelude.{slice_get}
use Rattle.std.proofs.lemmas.Option.{slice_get_read}
use Rattle.server_links.proofs.asking_lists.ask_list_at.Goals as goal

pub returns-clause-asked : goal.returns-clause-asked
returns-clause-asked g c =
    let same : c.from.result ≡ c.args.node = search rules in
    let within : c.from.result < length c.args.links.now.items = search rules in (
      c.index_mut-link.result.now,
      c.ask_list.new.self,
      subst (λ i. slice_get c.args.links.now.items i ≡ Some c.index_mut-link.result.now) same
          (slice_get_read c.args.links.now.items (length c.args.links.now.items) c.from.result c.index_mut-link.result.now refl within c.index_mut-link.ensures.value),
      c.ask_list.ensures.exchanged,
      ap (λ i. slice_set c.args.links.now.items i c.ask_list.new.self) same,
    )
