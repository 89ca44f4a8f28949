use Rattle.std.proofs.Common.{◌≡◌, ◌<◌, length, arith, ap, sym, ◌∙◌}
use Rattle.std.specs.FinMap.{keys}
use Rattle.slot_keyspace.specs.Listing.{keys_of}
use Rattle.slot_keyspace.specs.Union.{map_at}
use Rattle.slot_keyspace.proofs.Union.{map-found, keys_of-union}
use Rattle.slot_keyspace.proofs.keyspace.Keyspace.count_in.Goals as goal

pub returns : goal.returns
returns c =
    let ms = c.self.inside.slots.items in
    let place : c.from.result ≡ c.args.slot = c.from.ensures ∙ c.get.ensures.value in
    let inside : c.from.result < 16384 = omega (arith, c.from.ensures, c.get.ensures.within) in
    c.len.ensures
    ∙ ap (λ m. length (keys m)) (map-found ms c.from.result c.index.result.now c.self.invariant inside c.index.ensures)
    ∙ ap (λ s. length (keys (map_at ms s))) place
    ∙ ap length (sym (keys_of-union ms c.self.invariant c.args.slot))
    ∙ ap (λ s. length (keys_of s c.args.slot)) c.self.view_is
