-- What commands on several keys answer and do.
use Rattle.std.proofs.Common.{◌≡◌, ℕ, suc, ◌+◌, ◌<◌, ◌≤◌, Bool, true, false, cond, if◌then◌else◌, List, [], ◌∷◌, ◌++◌, length, drop, map, get_or, Option, None, Some, is_some, Result, Ok, Err, refl, ap, sym, ◌∙◌, add-one, arith, append_assoc, append-nil, nat_lt}
use Rattle.std.proofs.Math.Seq.{drop-cons}
use Rattle.std.proofs.lemmas.Bool.{true≢false}
use Rattle.std.proofs.lemmas.List.{drop_all}
use Rattle.std.specs.FinMap.{get}
use Rattle.typed_values.specs.Faults.{map_ok, within}
use Rattle.typed_values.specs.Members.{has, with_member, members_added, members_without}
use Rattle.typed_values.specs.declared.fault.ValueFault.{ValueFault}
use Rattle.typed_values.specs.declared.fault.ValueFault.TheVariants.{TooLong}
use Rattle.typed_values.specs.declared.value.Value.{Value}
use Rattle.typed_values.specs.declared.value.Value.TheVariants as value
use Rattle.typed_values.specs.declared.edit.Edit.{Edit}
use Rattle.typed_values.specs.declared.edit.Edit.TheVariants as edit
use Rattle.typed_values.specs.declared.edit.SetEdit.TheVariants.{AddMembers, RemoveMembers}
use Rattle.resp2_wire.specs.declared.reply.Reply.{Reply}
use Rattle.resp2_wire.specs.declared.reply.Reply.TheVariants.{Array}
use Rattle.resp2_wire.specs.View.{trees}
use Rattle.store_commands.specs.Act.{act, present, rename_result, text_if_one}
use Rattle.store_commands.specs.Apply.{look_up, put_all, answer, apply}
use Rattle.client_commands.specs.Commands.{keys}
use Rattle.store_commands.specs.Found.{Found, place, edit_left, stands, value_left}
use Rattle.store_commands.specs.Replies.{count, truth, collection_reply}
use Rattle.store_commands.specs.SetActs.{goes_over, both_left}
use Rattle.store_commands.specs.Store.{Store, Key, same_key, write}
use Rattle.store_commands.specs.Effects.{with_effect, with_edit_at, member_moved_at, IsChange}
use Rattle.store_commands.specs.declared.effect.Effect.{Effect}
use Rattle.client_commands.specs.declared.command.Command.TheVariants as command
use Rattle.store_commands.specs.declared.effect.Effect.TheVariants as effect
use Rattle.store_commands.proofs.Stores.{write-again, write-same, write-commutes, get-write-other}

stays : (s : Store) (ks : List Key) → s ≡ put_all s ks []
unfolding put_all
stays s [] = refl
stays s (k ∷ ks) = refl

-- ---- RENAME

pub rename-answer : (s : Store) (ks : List Key) (k j q : Key) → ks ≡ k ∷ j ∷ [] → q ≡ k → (rename_result (get s q)).0 ≡ answer s (command.Rename ks)
unfolding answer act keys look_up
rename-answer s ks k j q both is = ap (λ q. (rename_result (get s q)).0) is ∙ ap (λ ks. (rename_result (place 0 (look_up s ks))).0) (sym both)

pub rename-apply : (s : Store) (ks : List Key) → with_effect (effect.Move ks) s ≡ apply s (command.Rename ks)
unfolding apply act keys
rename-apply s ks = refl

-- ---- EXISTS

abbrev pub there : Store → List Key → ℕ
there s ks = length (present ks (look_up s ks))

there_by : (k : Key) (ks : List Key) (vs : Found) (o : Option Value) → length (present (k ∷ ks) (o ∷ vs)) ≡ (if is_some o then 1 else 0) + length (present ks vs)
there_by k ks vs None = omega arith
there_by k ks vs (Some v) = omega arith

there-cons : (s : Store) (k : Key) (ks : List Key) → there s (k ∷ ks) ≡ (if is_some (get s k) then 1 else 0) + there s ks
unfolding look_up
there-cons s k ks = there_by k ks (look_up s ks) (get s k)

pub there-step : (s : Store) (ks : List Key) (i : ℕ) (k : Key) (n total : ℕ) → i < length ks → k ≡ get_or ks i k → n + there s (drop i ks) ≡ total
    → (n + (if is_some (get s k) then 1 else 0)) + there s (drop (i + 1) ks) ≡ total
there-step s ks i k n total lt is inv = omega (arith, inv, ap (there s) split, there-cons s k (drop (i + 1) ks))
  where
    split : drop i ks ≡ k ∷ drop (i + 1) ks
    split = drop-cons ks i k lt ∙ ap (λ q. q ∷ drop (suc i) ks) (sym is) ∙ ap (λ j. k ∷ drop j ks) (sym (add-one i))

pub exists-answer : (s : Store) (ks : List Key) → count (there s ks) ≡ answer s (command.Exists ks)
unfolding answer act keys
exists-answer s ks = refl

pub exists-apply : (s : Store) (ks : List Key) → s ≡ apply s (command.Exists ks)
unfolding apply act keys
exists-apply s ks = stays s ks

-- ---- MGET

pub mget-answer : (s : Store) (ks : List Key) → Array (trees (map text_if_one (look_up s ks))) ≡ answer s (command.MGet ks)
unfolding answer act keys
mget-answer s ks = refl

pub mget-apply : (s : Store) (ks : List Key) → s ≡ apply s (command.MGet ks)
unfolding apply act keys
mget-apply s ks = stays s ks

pub texts-end : (s : Store) (ks : List Key) (i : ℕ) (done total : List Reply) → length ks ≤ i → done ++ map text_if_one (look_up s (drop i ks)) ≡ total → done ≡ total
unfolding look_up
texts-end s ks i done total past inv = sym (append-nil done) ∙ ap (λ js. done ++ map text_if_one (look_up s js)) (sym (drop_all i ks past)) ∙ inv

pub texts-step : (s : Store) (ks : List Key) (i : ℕ) (k : Key) (done next total : List Reply) → i < length ks → k ≡ get_or ks i k → next ≡ done ++ text_if_one (get s k) ∷ []
    → done ++ map text_if_one (look_up s (drop i ks)) ≡ total → next ++ map text_if_one (look_up s (drop (i + 1) ks)) ≡ total
unfolding look_up
texts-step s ks i k done next total lt is after inv =
    ap (λ n. n ++ map text_if_one (look_up s (drop (i + 1) ks))) after
    ∙ append_assoc done (text_if_one (get s k) ∷ []) (map text_if_one (look_up s (drop (i + 1) ks)))
    ∙ ap (λ js. done ++ map text_if_one (look_up s js)) (sym split)
    ∙ inv
  where
    split : drop i ks ≡ k ∷ drop (i + 1) ks
    split = drop-cons ks i k lt ∙ ap (λ q. q ∷ drop (suc i) ks) (sym is) ∙ ap (λ j. k ∷ drop j ks) (sym (add-one i))

-- ---- SMOVE

-- what each key has where the member goes over
one_each : (m : List ℕ) (r : Result (List (List ℕ)) ValueFault) (h : Bool) → (if h then map_ok (λ _. true) r else Ok false) ≡ Ok true → (y : Option Value) × (stands (map_ok (λ ms. value.Set ms) r) ≡ y ∷ [])
one_each m (Ok now) true e = (value_left (value.Set now), refl)
one_each m (Err f) true e = cc
one_each m r false e = absurd (true≢false (cc))

abbrev pub removal : List ℕ → Edit
removal m = edit.Set (RemoveMembers (m ∷ []))

abbrev pub insertion : List ℕ → Edit
insertion m = edit.Set (AddMembers (m ∷ []))

pub singles : (m : List ℕ) (from to : Option Value) → goes_over m from to ≡ Ok true → (x : Option Value) × (y : Option Value) × (edit_left (removal m) from ≡ x ∷ []) × (edit_left (insertion m) to ≡ y ∷ [])
singles m None to e = absurd (let h : ⊥ = cc in h)
singles m (Some (value.Text t)) to e = absurd (let h : ⊥ = cc in h)
singles m (Some (value.Hash es)) to e = absurd (let h : ⊥ = cc in h)
singles m (Some (value.List l)) to e = absurd (let h : ⊥ = cc in h)
singles m (Some (value.Set a)) None e = let y = one_each m (members_added [] (m ∷ [])) (has a m) e in (value_left (value.Set (members_without a (m ∷ []))), y.0, refl, y.1)
singles m (Some (value.Set a)) (Some (value.Text t)) e = absurd (let h : ⊥ = cc in h)
singles m (Some (value.Set a)) (Some (value.Hash es)) e = absurd (let h : ⊥ = cc in h)
singles m (Some (value.Set a)) (Some (value.List l)) e = absurd (let h : ⊥ = cc in h)
singles m (Some (value.Set a)) (Some (value.Set b)) e = let y = one_each m (members_added b (m ∷ [])) (has a m) e in (value_left (value.Set (members_without a (m ∷ []))), y.0, refl, y.1)

pub smove-answer : (s : Store) (ks : List Key) (k j : Key) (m : List ℕ) → ks ≡ k ∷ j ∷ [] → collection_reply truth (goes_over m (get s k) (get s j)) ≡ answer s (command.SMove ks m)
unfolding answer act keys look_up
smove-answer s ks k j m both = ap (λ ks. collection_reply truth (goes_over m (place 0 (look_up s ks)) (place 1 (look_up s ks)))) (sym both)

pub smove-apply : (s : Store) (ks : List Key) (k j : Key) (m : List ℕ) (r : Result Bool ValueFault) → ks ≡ k ∷ j ∷ [] → goes_over m (get s k) (get s j) ≡ r
    → put_all s (k ∷ j ∷ []) (both_left m (get s k) (get s j) r) ≡ apply s (command.SMove ks m)
unfolding apply act keys look_up
smove-apply s ks k j m r both is =
    ap (λ r. put_all s (k ∷ j ∷ []) (both_left m (get s k) (get s j) r)) (sym is)
    ∙ ap (λ ks. put_all s ks (both_left m (place 0 (look_up s ks)) (place 1 (look_up s ks)) (goes_over m (place 0 (look_up s ks)) (place 1 (look_up s ks))))) (sym both)

-- a reply and a work are a move's, where they tell and do what comes of it
pub smove_left : (s : Store) (ks : List Key) (k j : Key) (m : List ℕ) (r : Result Bool ValueFault) (d : Reply × Effect) (w : Effect) → ks ≡ k ∷ j ∷ [] → goes_over m (get s k) (get s j) ≡ r
    → d ≡ (collection_reply truth r, w) → with_effect w s ≡ put_all s (k ∷ j ∷ []) (both_left m (get s k) (get s j) r) → IsChange s (command.SMove ks m) d
smove_left s ks k j m r d w both goes is does = (
  ap (λ d. d.0) is ∙ ap (λ r. collection_reply truth r) (sym goes) ∙ smove-answer s ks k j m both,
  ap (λ d. with_effect d.1 s) is ∙ does ∙ smove-apply s ks k j m r both goes,
)

pub goes_by : (m n : List ℕ) (s : Store) (o p : Option Value) (k j q r : Key) (given : Result Bool ValueFault) → given ≡ goes_over n o p → n ≡ m → o ≡ get s q → p ≡ get s r → q ≡ k → r ≡ j
    → goes_over m (get s k) (get s j) ≡ given
goes_by m n s o p k j q r given tells same from to at_k at_j =
    ap (λ k. goes_over m (get s k) (get s j)) (sym at_k) ∙ ap (λ j. goes_over m (get s q) (get s j)) (sym at_j)
    ∙ ap (λ o. goes_over m o (get s r)) (sym from) ∙ ap (λ p. goes_over m o p) (sym to) ∙ ap (λ m. goes_over m o p) (sym same) ∙ sym tells

pub stays_refused : (s : Store) (k j : Key) (m : List ℕ) (e : ValueFault) → with_effect effect.Nothing s ≡ put_all s (k ∷ j ∷ []) (both_left m (get s k) (get s j) (Err e))
unfolding put_all
stays_refused s k j m e = refl

pub stays_unmoved : (s : Store) (k j : Key) (m : List ℕ) → with_effect effect.Nothing s ≡ put_all s (k ∷ j ∷ []) (both_left m (get s k) (get s j) (Ok false))
unfolding put_all
stays_unmoved s k j m = refl

-- a member that is there already, in a set that has it
with_again : (a : List (List ℕ)) (m : List ℕ) → has a m ≡ true → with_member a m ≡ a
with_again a m h = ap (λ b. cond b a (a ++ m ∷ [])) h

kept_again : (a : List (List ℕ)) (m : List ℕ) → has a m ≡ true → value_left (value.Set a) ≡ Some (value.Set a)
kept_again [] m h = absurd (true≢false (sym h))
kept_again (x ∷ a) m h = refl

within_again : (a : List (List ℕ)) (b : Bool) → map_ok {X = List (List ℕ)} (λ _. true) (if b then Err TooLong else Ok a) ≡ Ok true
    → stands (map_ok (λ ms. value.Set ms) (if b then Err TooLong else Ok a)) ≡ value_left (value.Set a) ∷ []
within_again a true e = absurd (let h : ⊥ = cc in h)
within_again a false e = refl

added_again : (a : List (List ℕ)) (m : List ℕ) (h : Bool) → has a m ≡ h → (if h then map_ok (λ _. true) (members_added a (m ∷ [])) else Ok false) ≡ Ok true
    → stands (map_ok (λ ms. value.Set ms) (members_added a (m ∷ []))) ≡ Some (value.Set a) ∷ []
added_again a m false is e = absurd (let h : ⊥ = cc in h)
added_again a m true is e =
    let same = with_again a m is in
    ap (λ now. stands (map_ok (λ ms. value.Set ms) (within (length now) now))) same
    ∙ within_again a (nat_lt 1048576 (length a)) (sym (ap (λ (now : List (List ℕ)). map_ok {X = List (List ℕ)} (λ _. true) (within (length now) now)) same) ∙ e)
    ∙ ap (λ o. o ∷ []) (kept_again a m is)

moved_again : (s : Store) (k : Key) (m : List ℕ) (o : Option Value) → get s k ≡ o → goes_over m o o ≡ Ok true → s ≡ put_all s (k ∷ k ∷ []) (both_left m o o (Ok true))
unfolding put_all
moved_again s k m None is e = absurd (let h : ⊥ = cc in h)
moved_again s k m (Some (value.Text t)) is e = absurd (let h : ⊥ = cc in h)
moved_again s k m (Some (value.Hash es)) is e = absurd (let h : ⊥ = cc in h)
moved_again s k m (Some (value.List l)) is e = absurd (let h : ⊥ = cc in h)
moved_again s k m (Some (value.Set a)) is e =
    sym (write-again s k (value_left (value.Set (members_without a (m ∷ [])))) (Some (value.Set a)) ∙ write-same s k (Some (value.Set a)) is)
    ∙ ap (λ vs. put_all s (k ∷ k ∷ []) (value_left (value.Set (members_without a (m ∷ []))) ∷ vs)) (sym (added_again a m (has a m) refl e))

pub stays_same : (s : Store) (k j : Key) (m : List ℕ) → k ≡ j → goes_over m (get s k) (get s j) ≡ Ok true → with_effect effect.Nothing s ≡ put_all s (k ∷ j ∷ []) (both_left m (get s k) (get s j) (Ok true))
stays_same s k j m same goes =
    moved_again s k m (get s k) refl (ap (λ j. goes_over m (get s k) (get s j)) same ∙ goes)
    ∙ ap (λ j. put_all s (k ∷ j ∷ []) (both_left m (get s k) (get s j) (Ok true))) same

pub moves_apart : (s : Store) (ks : List Key) (k j : Key) (m : List ℕ) → ks ≡ k ∷ j ∷ [] → same_key k j ≡ false → goes_over m (get s k) (get s j) ≡ Ok true
    → with_effect (effect.MoveMember ks m) s ≡ put_all s (k ∷ j ∷ []) (both_left m (get s k) (get s j) (Ok true))
unfolding put_all
moves_apart s ks k j m both apart goes =
    let each = singles m (get s k) (get s j) goes in
    let x = each.0 in
    let y = each.1 in
    let at_k : edit_left (removal m) (get s k) ≡ x ∷ [] = each.2 in
    let at_j : edit_left (insertion m) (get s j) ≡ y ∷ [] = each.3 in
    ap (λ ks. member_moved_at s ks m) both
    ∙ ap (λ vs. with_edit_at (put_all s (j ∷ []) vs) k (removal m)) at_j
    ∙ ap (λ o. put_all (write s j y) (k ∷ []) (edit_left (removal m) o)) (get-write-other s j y k apart)
    ∙ ap (λ vs. put_all (write s j y) (k ∷ []) vs) at_k
    ∙ sym (write-commutes s j k y x apart)
    ∙ ap (λ vs. put_all s (k ∷ j ∷ []) (vs ++ y ∷ [])) (sym at_k)
    ∙ ap (λ vs. put_all s (k ∷ j ∷ []) (edit_left (removal m) (get s k) ++ vs)) (sym at_j)
