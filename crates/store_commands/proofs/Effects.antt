-- Works that are done where a value stands.
use Rattle.std.proofs.Common.{◌≡◌, Bool, true, false, if◌then◌else◌, List, [], ◌∷◌, ℕ, Option, None, Some, IsSome, is_some, refl, ap, sym, subst, ◌∙◌}
use Rattle.std.proofs.lemmas.Bool.{true≢false}
use Rattle.std.specs.FinMap.{get, insert, remove}
use Rattle.typed_values.specs.Edits.{edit_of}
use Rattle.typed_values.specs.Members.{members_without}
use Rattle.typed_values.specs.Values.{is_empty_collection}
use Rattle.typed_values.specs.declared.value.Value.{Value}
use Rattle.typed_values.specs.declared.value.Value.TheVariants as value
use Rattle.typed_values.specs.declared.edit.Edit.{Edit}
use Rattle.typed_values.specs.declared.edit.Edit.TheVariants as edit
use Rattle.typed_values.specs.declared.edit.SetEdit.TheVariants.{RemoveMembers}
use Rattle.store_commands.specs.Act.{rename_result}
use Rattle.store_commands.specs.Apply.{look_up, put_all}
use Rattle.store_commands.specs.Found.{Found, value_left, stands, fresh, edit_left}
use Rattle.store_commands.specs.Store.{Store, Key, same_key, write}
use Rattle.store_commands.specs.Effects.{with_edit_at, with_effect}
use Rattle.store_commands.specs.declared.effect.Effect.TheVariants as effect
use Rattle.store_commands.proofs.Stores.{write-again, write-same, write-commutes, get-write-other, unequal_back, is_there}

-- ---- edits

-- the value that was taken out is put back
pub put_back : (s t u : Store) (k : Key) (x v w : Value) → get s k ≡ Some v → t ≡ insert s k x → w ≡ v → u ≡ insert t k w → u ≡ s
put_back s t u k x v w there taken same put =
    put ∙ ap (λ t. insert t k w) taken ∙ write-again s k (Some x) (Some w) ∙ ap (λ w. insert s k w) same ∙ write-same s k (Some v) there

chosen : (b : Bool) (c : Bool) (vs ws : Found) → b ≡ c → (if b then vs else ws) ≡ (if c then vs else ws)
chosen b c vs ws e = ap (λ b. if b then vs else ws) e

pub edit_made : (s t u : Store) (k : Key) (e : Edit) (x v w : Value) (b : Bool) → get s k ≡ Some v → t ≡ insert s k x
    → b ≡ true → stands (edit_of e v) ≡ (if b then value_left w ∷ [] else []) → u ≡ write t k (value_left w) → u ≡ with_edit_at s k e
unfolding put_all
edit_made s t u k e x v w b there taken is made put =
    put ∙ ap (λ t. write t k (value_left w)) taken ∙ write-again s k (Some x) (value_left w)
    ∙ ap (λ vs. put_all s (k ∷ []) vs) (sym (made ∙ chosen b true (value_left w ∷ []) [] is))
    ∙ ap (λ o. put_all s (k ∷ []) (edit_left e o)) (sym there)

pub edit_not_made : (s t u : Store) (k : Key) (e : Edit) (x v w : Value) (b : Bool) → get s k ≡ Some v → t ≡ insert s k x → w ≡ v
    → b ≡ false → stands (edit_of e v) ≡ (if b then value_left w ∷ [] else []) → u ≡ insert t k w → u ≡ with_edit_at s k e
unfolding put_all
edit_not_made s t u k e x v w b there taken same is made put =
    put_back s t u k x v w there taken same put
    ∙ ap (λ vs. put_all s (k ∷ []) vs) (sym (made ∙ chosen b false (value_left w ∷ []) [] is))
    ∙ ap (λ o. put_all s (k ∷ []) (edit_left e o)) (sym there)

-- an edit of a value that is not there yet
pub fresh_left : (s : Store) (k : Key) (e : Edit) (v w : Value) (b : Bool) → get s k ≡ None → v ≡ fresh e → stands (edit_of e v) ≡ (if b then value_left w ∷ [] else [])
    → put_all s (k ∷ []) (if b then value_left w ∷ [] else []) ≡ with_edit_at s k e
fresh_left s k e v w b missing is made =
    ap (λ vs. put_all s (k ∷ []) vs) (sym made)
    ∙ ap (λ v. put_all s (k ∷ []) (stands (edit_of e v))) is
    ∙ ap (λ o. put_all s (k ∷ []) (edit_left e o)) (sym missing)

pub fresh_not_made : (s : Store) (k : Key) (e : Edit) (v w : Value) (b : Bool) → get s k ≡ None → v ≡ fresh e → b ≡ false
    → stands (edit_of e v) ≡ (if b then value_left w ∷ [] else []) → s ≡ with_edit_at s k e
unfolding put_all
fresh_not_made s k e v w b missing is not_made made =
    ap (λ vs. put_all s (k ∷ []) vs) (sym (chosen b false (value_left w ∷ []) [] not_made)) ∙ fresh_left s k e v w b missing is made

kept_by : (w : Value) (b : Bool) → is_empty_collection w ≡ b → value_left w ≡ (if b then None else Some w)
kept_by w b e = ap (λ b. if b then None else Some w) e

pub fresh_empty : (s : Store) (k : Key) (e : Edit) (v w : Value) (b : Bool) → get s k ≡ None → v ≡ fresh e → b ≡ true
    → stands (edit_of e v) ≡ (if b then value_left w ∷ [] else []) → is_empty_collection w ≡ true → s ≡ with_edit_at s k e
unfolding put_all
fresh_empty s k e v w b missing is done made empty =
    sym (write-same s k None missing)
    ∙ ap (write s k) (sym (kept_by w true empty))
    ∙ ap (λ vs. put_all s (k ∷ []) vs) (sym (chosen b true (value_left w ∷ []) [] done))
    ∙ fresh_left s k e v w b missing is made

pub fresh_made : (s u : Store) (k : Key) (e : Edit) (v w : Value) (b : Bool) → get s k ≡ None → v ≡ fresh e → b ≡ true
    → stands (edit_of e v) ≡ (if b then value_left w ∷ [] else []) → is_empty_collection w ≡ false → u ≡ insert s k w → u ≡ with_edit_at s k e
unfolding put_all
fresh_made s u k e v w b missing is done made full put =
    put
    ∙ ap (write s k) (sym (kept_by w false full))
    ∙ ap (λ vs. put_all s (k ∷ []) vs) (sym (chosen b true (value_left w ∷ []) [] done))
    ∙ fresh_left s k e v w b missing is made

-- ---- moves

abbrev pub moved : Store → List Key → Store
moved s ks = with_effect (effect.Move ks) s

from_first : (s : Store) (k j : Key) (o : Option Value) → get s k ≡ o → moved s (k ∷ j ∷ []) ≡ put_all s (k ∷ j ∷ []) (rename_result o).1
unfolding look_up
from_first s k j o is = ap (λ o. put_all s (k ∷ j ∷ []) (rename_result o).1) is

same_first : (s : Store) (k : Key) (o : Option Value) → get s k ≡ o → s ≡ put_all s (k ∷ k ∷ []) (rename_result o).1
unfolding put_all
same_first s k None is = refl
same_first s k (Some v) is = sym (write-again s k None (Some v) ∙ write-same s k (Some v) is)

pub move_to_itself : (s : Store) (ks : List Key) (k j : Key) → ks ≡ k ∷ j ∷ [] → k ≡ j → s ≡ moved s ks
move_to_itself s ks k j both same =
    same_first s k (get s k) refl ∙ sym (from_first s k k (get s k) refl) ∙ ap (λ j. moved s (k ∷ j ∷ [])) same ∙ ap (moved s) (sym both)

pub move_nothing : (s : Store) (ks : List Key) (k j : Key) → ks ≡ k ∷ j ∷ [] → get s k ≡ None → s ≡ moved s ks
unfolding put_all
move_nothing s ks k j both missing = sym (ap (moved s) both ∙ from_first s k j None missing)

pub still_there : (s t u : Store) (k j : Key) (x : Value) → same_key k j ≡ false → t ≡ insert s j x → u ≡ remove t k → IsSome (get u j)
still_there s t u k j x apart placed taken =
    subst (λ u. IsSome (get u j)) (sym taken) (subst IsSome (sym (get-write-other t k None j (unequal_back k j apart))) (is_there s t j x placed))

pub was_there : (s t : Store) (k j : Key) (x : Value) → same_key k j ≡ false → t ≡ insert s j x → get t k ≡ get s k
was_there s t k j x apart placed = ap (λ t. get t k) placed ∙ get-write-other s j (Some x) k apart

pub move_done : (s t u w : Store) (ks : List Key) (k j : Key) (x v : Value) → ks ≡ k ∷ j ∷ [] → same_key k j ≡ false → t ≡ insert s j x → Some v ≡ get t k
    → u ≡ remove t k → w ≡ insert u j v → w ≡ moved s ks
unfolding put_all
move_done s t u w ks k j x v both apart placed found taken put =
    put
    ∙ ap (λ u. insert u j v) (taken ∙ ap (λ t. remove t k) placed ∙ sym (write-commutes s j k (Some x) None apart))
    ∙ write-again (remove s k) j (Some x) (Some v)
    ∙ sym (ap (moved s) both ∙ from_first s k j (Some v) (sym (was_there s t k j x apart placed) ∙ sym found))

pub move_impossible : (s t u : Store) (ks : List Key) (k j : Key) (x : Value) → same_key k j ≡ false → t ≡ insert s j x → is_some (get s k) ≡ true → None ≡ get t k → u ≡ moved s ks
move_impossible s t u ks k j x apart placed there gone = absurd (true≢false (sym there ∙ sym (ap is_some (gone ∙ was_there s t k j x apart placed))))

-- ---- members

pub nothing_without : (ms : List (List ℕ)) → members_without [] ms ≡ []
nothing_without [] = refl
nothing_without (m ∷ ms) = nothing_without ms

pub none_taken : (s : Store) (k : Key) (ms : List (List ℕ)) → get s k ≡ None → s ≡ with_edit_at s k (edit.Set (RemoveMembers ms))
unfolding put_all
none_taken s k ms missing =
    sym (write-same s k None missing)
    ∙ ap (λ rest. write s k (value_left (value.Set rest))) (sym (nothing_without ms))
    ∙ ap (λ o. put_all s (k ∷ []) (edit_left (edit.Set (RemoveMembers ms)) o)) (sym missing)

pub members_taken : (s t u : Store) (k : Key) (x : Value) (held left ms : List (List ℕ)) → get s k ≡ Some (value.Set held) → t ≡ insert s k x → left ≡ members_without held ms
    → u ≡ write t k (value_left (value.Set left)) → u ≡ with_edit_at s k (edit.Set (RemoveMembers ms))
members_taken s t u k x held left ms there taken is put =
    edit_made s t u k (edit.Set (RemoveMembers ms)) x (value.Set held) (value.Set left) true there taken refl (ap (λ rest. value_left (value.Set rest) ∷ []) (sym is)) put

not_edited : (ms : List (List ℕ)) (v : Value) → ((held : List (List ℕ)) → v ≡ value.Set held → ⊥) → stands (edit_of (edit.Set (RemoveMembers ms)) v) ≡ []
not_edited ms (value.Text t) h = refl
not_edited ms (value.Hash es) h = refl
not_edited ms (value.List l) h = refl
not_edited ms (value.Set held) h = absurd (h held refl)

pub no_set_left : (s t u : Store) (k : Key) (x v w : Value) (ms : List (List ℕ)) → get s k ≡ Some v → t ≡ insert s k x → ((held : List (List ℕ)) → v ≡ value.Set held → ⊥) → w ≡ v
    → u ≡ insert t k w → u ≡ with_edit_at s k (edit.Set (RemoveMembers ms))
no_set_left s t u k x v w ms there taken other same put = edit_not_made s t u k (edit.Set (RemoveMembers ms)) x v w false there taken same refl (not_edited ms v other) put
