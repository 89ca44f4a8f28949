-- Commands whose keys have one slot: they look at the keys of that slot and change them alone (Redis Cluster
-- specification, "Implemented subset": multi-key operations work where all keys have the same slot).
use Rattle.std.specs.Prelude.{◌≡◌, ◌==◌, ℕ, cond, List, None}
use Rattle.std.specs.FinMap.{get}
use Rattle.std.specs.List.{All}
use Rattle.key_slots.specs.HashSlot.{slot_of}
use Rattle.resp2_wire.specs.declared.reply.Reply.{Reply}
use Rattle.client_commands.specs.Commands.{keys}
use Rattle.client_commands.specs.declared.command.Command.{Command}
use Rattle.store_commands.specs.Effects.{IsChange}
use Rattle.store_commands.specs.Store.{Key, Store}
use Rattle.store_commands.specs.declared.effect.Effect.{Effect}

abbrev pub AreInSlot : ℕ → List Key → Type 0
AreInSlot s ks = All (λ k. slot_of k ≡ s) ks

-- the keys of the slot with their values, and no other
abbrev pub IsPart : Store → ℕ → Store → Type 0
IsPart store s part = (q : Key) → get part q ≡ cond (slot_of q == s) (get store q) None

-- a reply and an effect are what the command, whose keys have the slot, asks for at the slot's part of the store
pub record IsPreparedIn (store : Store) (s : ℕ) (c : Command) (d : Reply × Effect) : Type 0 where
  pub one_slot : AreInSlot s (keys c)
  pub part : Store
  pub is_part : IsPart store s part
  pub is_change : IsChange part c d
