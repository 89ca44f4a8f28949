use Rattle.std.proofs.Common.{◌≡◌, Some, IsSome, subst, sym, ap, ◌∙◌}
use Rattle.std.specs.Option.{option_copied_mut}
use Rattle.std.specs.FinMap.{get, insert}
use Rattle.std.specs.Map.{set_value}
use Rattle.slot_keyspace.specs.KeyspaceView.{store_of}
use Rattle.slot_keyspace.proofs.Places.{store_of-set_value, get-store_of, some_lent, key_test}
use Rattle.slot_keyspace.proofs.slot_keys.SlotKeys.exchange.Goals as goal
use Rattle.slot_keyspace.proofs.slot_keys.SlotKeys.exchange.Goals.{After-get_mut}

found : (c : After-get_mut) → option_copied_mut c.get_mut.result ≡ get c.args.self.now c.args.key.now
found c = c.get_mut.ensures.value ∙ sym (get-store_of c.self.inside.map.entries c.args.key.now) ∙ ap (λ s. get s c.args.key.now) c.self.view_is

pub unwrap-place-requires : goal.unwrap-place-requires
unwrap-place-requires c = some_lent _ (subst IsSome (sym (found c)) c.requires)

pub returns-clause-old : goal.returns-clause-old
returns-clause-old c =
    sym (found (goal.at.returns-clause-old c).After-get_mut)
    ∙ ap option_copied_mut c.unwrap-place.ensures
    ∙ ap Some (sym c.replace.ensures.value)

pub returns-clause-new : goal.returns-clause-new
returns-clause-new c =
    ap store_of (c.get_mut.follows.holds c.replace.new.dest).0
    ∙ ap (λ w. store_of (set_value (key_test c.args.key.now) c.self.inside.map.entries w)) c.replace.ensures.after
    ∙ store_of-set_value c.args.key.now c.self.inside.map.entries c.args.value (subst (λ s. IsSome (get s c.args.key.now)) (sym c.self.view_is) c.requires)
    ∙ ap (λ s. insert s c.args.key.now c.args.value) c.self.view_is
