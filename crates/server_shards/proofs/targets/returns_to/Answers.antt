use Rattle.std.proofs.Common.{rules, ◌≡◌, ◌<◌, ◌∙◌, length, ap, subst, subst₂, slice_set, refl, Some}
use Rattle.std.specs.Prelude.{slice_get}
use Rattle.std.proofs.lemmas.Option.{slice_get_read}
use Rattle.server_commands.specs.declared.book.Server.{Server}
use Rattle.server_shards.specs.Returning.{MayTakeBack, asks_of}
use Rattle.server_shards.proofs.targets.returns_to.Goals as goal

pub returns-clause-checked : goal.returns-clause-checked
returns-clause-checked g c =
    let links = c.args.links.now.items in
    let asks = asks_of (record { gave = g.I.ByteIn.gave; took = g.O.ByteOut.took }) in
    let same : c.from.result ≡ c.args.node = search rules in
    let within : c.from.result < length links = search rules in (
      c.index_mut-link.result.now,
      c.may_take_back.new.link,
      subst (λ i. slice_get links i ≡ Some c.index_mut-link.result.now) same
          (slice_get_read links (length links) c.from.result c.index_mut-link.result.now refl within
          c.index_mut-link.ensures.value),
      subst₂
          (λ own gone. MayTakeBack asks c.args.node own gone c.index_mut-link.result.now c.may_take_back.result
          c.may_take_back.new.link)
          (c.get-own.ensures.value ∙ ap (λ (s : Server). s.name) c.server.ensures) c.get-gone.ensures.value
          c.may_take_back.ensures,
      ap (λ i. slice_set links i c.may_take_back.new.link) same,
    )
