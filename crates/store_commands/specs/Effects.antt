-- What is still to be done to a store, and when that is what a command asks for.
use Rattle.std.specs.Prelude.{◌≡◌, ℕ, List, [], ◌∷◌}
use Rattle.std.specs.FinMap.{get, insert, remove}
use Rattle.typed_values.specs.declared.edit.Edit.{Edit}
use Rattle.typed_values.specs.declared.edit.Edit.TheVariants as edit
use Rattle.typed_values.specs.declared.edit.SetEdit.TheVariants.{AddMembers, RemoveMembers}
use Rattle.resp2_wire.specs.declared.reply.Reply.{Reply}
use Rattle.store_commands.specs.Store.{Key, Store}
use Rattle.store_commands.specs.Found.{place, edit_left}
use Rattle.store_commands.specs.Act.{rename_result, texts_put}
use Rattle.store_commands.specs.Apply.{answer, apply, look_up, put_all}
use Rattle.client_commands.specs.declared.command.Command.{Command}
use Rattle.store_commands.specs.declared.effect.Effect.{Effect}
use Rattle.store_commands.specs.declared.effect.Effect.TheVariants as effect

-- without the keys
abbrev pub without : Store → List Key → Store
without s [] = s
without s (k ∷ ks) = without (remove s k) ks

-- with the edit made at the key
abbrev pub with_edit_at : Store → Key → Edit → Store
with_edit_at s k e = put_all s (k ∷ []) (edit_left e (get s k))

-- with the member put in at the second key, and then taken out at the first
abbrev pub member_moved_at : Store → List Key → List ℕ → Store
member_moved_at s (k ∷ j ∷ []) m = with_edit_at (with_edit_at s j (edit.Set (AddMembers (m ∷ [])))) k
    (edit.Set (RemoveMembers (m ∷ [])))
member_moved_at s ks m = s

abbrev pub with_effect : Effect → Store → Store
with_effect effect.Nothing s = s
with_effect (effect.Put k v) s = insert s k v
with_effect (effect.Edit k e) s = with_edit_at s k e
with_effect (effect.Assign ps) s = put_all s ps.0 (texts_put ps.1)
with_effect (effect.Remove ks) s = without s ks
with_effect (effect.Move ks) s = put_all s ks (rename_result (place 0 (look_up s ks))).1
with_effect (effect.MoveMember ks m) s = member_moved_at s ks m

-- a reply and a work are what the command asks for at this store
abbrev pub IsChange : Store → Command → Reply × Effect → Type 0
IsChange s c d = (d.0 ≡ answer s c) × (with_effect d.1 s ≡ apply s c)
