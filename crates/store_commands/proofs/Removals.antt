-- Keys that are taken out, and how many of them were there.
use Rattle.std.proofs.Common.{◌≡◌, ℕ, suc, ◌+◌, ◌<◌, ◌≤◌, List, [], ◌∷◌, length, drop, fold, map, get_or, cond, Option, Some, None, is_some, refl, Bool, true, false, ◌++◌, length-append, ap, sym, ◌∙◌, add-one, arith, pos}
use Rattle.std.proofs.Math.Seq.{drop-cons}
use Rattle.std.specs.FinMap.{get, remove}
use Rattle.typed_values.specs.declared.value.Value.{Value}
use Rattle.typed_values.specs.Members.{with_member, has}
use Rattle.resp2_wire.specs.declared.reply.Reply.TheVariants.{Number}
use Rattle.store_commands.specs.Store.{Key, Store}
use Rattle.store_commands.specs.Found.{Found}
use Rattle.store_commands.specs.Act.{act, present, each_once}
use Rattle.store_commands.specs.Apply.{look_up, put_all, answer, apply}
use Rattle.client_commands.specs.Commands.{keys}
use Rattle.store_commands.specs.Effects.{without}
use Rattle.client_commands.specs.declared.command.Command.TheVariants as command

pub without-put_all : (ks : List Key) (s : Store) → without s ks ≡ put_all s ks (map (λ _. None) ks)
unfolding put_all
without-put_all [] s = refl
without-put_all (k ∷ ks) s = without-put_all ks (remove s k)

pub del-apply : (s : Store) (ks : List Key) → without s ks ≡ apply s (command.Del ks)
unfolding apply act keys
del-apply s ks = without-put_all ks s

pub del-answer : (s : Store) (ks : List Key) → answer s (command.Del ks) ≡ Number (pos (length (each_once (present ks (look_up s ks)))))
unfolding answer act keys
del-answer s ks = refl

-- the key is counted, and the others are still to be
abbrev pub counted : List Key → Store → List Key → List Key
counted seen s ks = fold with_member seen (present ks (look_up s ks))

counted_by : (seen : List Key) (k : Key) (ks : List Key) (vs : Found) (o : Option Value) → fold with_member seen (present (k ∷ ks) (o ∷ vs)) ≡ fold with_member (cond (is_some o) (with_member seen k) seen) (present ks vs)
counted_by seen k ks vs None = refl
counted_by seen k ks vs (Some v) = refl

counted-cons : (seen : List Key) (s : Store) (k : Key) (ks : List Key) → counted seen s (k ∷ ks) ≡ counted (cond (is_some (get s k)) (with_member seen k) seen) s ks
unfolding look_up
counted-cons seen s k ks = counted_by seen k ks _ (get s k)

-- one more key of the list is counted, if it is there
pub counted-step : (seen next : List Key) (s : Store) (ks : List Key) (i : ℕ) (k : Key) (total : List Key) (b : Bool) → i < length ks → k ≡ get_or ks i k
    → is_some (get s k) ≡ b → next ≡ cond b (with_member seen k) seen → counted seen s (drop i ks) ≡ total → counted next s (drop (i + 1) ks) ≡ total
counted-step seen next s ks i k total b lt is there after inv =
    ap (λ n. counted n s (drop (i + 1) ks)) (after ∙ ap (λ t. cond t (with_member seen k) seen) (sym there))
    ∙ sym (counted-cons seen s k (drop (i + 1) ks))
    ∙ ap (counted seen s) (sym split)
    ∙ inv
  where
    split : drop i ks ≡ k ∷ drop (i + 1) ks
    split = drop-cons ks i k lt ∙ ap (λ q. q ∷ drop (suc i) ks) (sym is) ∙ ap (λ j. k ∷ drop j ks) (sym (add-one i))

pub length-with_member : (seen : List Key) (k : Key) → length (with_member seen k) ≤ length seen + 1
length-with_member seen k = elim (has seen k) as (λ b. length (cond b seen (seen ++ k ∷ [])) ≤ length seen + 1) [ true ↦ omega arith | false ↦ omega (arith, length-append seen (k ∷ [])) ]
