-- A command looks at and changes its named keys alone.
use Rattle.std.proofs.Common.{◌≡◌, true, false, cond, ◌||◌, List, [], ◌∷◌, map, Option, Some, None, sym, refl, ap, ◌∙◌, arith, Ordering, Equal, Less, Greater, is_eq}
use Rattle.std.proofs.lemmas.Bool.{true≢false, cond-false, or_parts}
use Rattle.std.specs.FinMap.{get, get-insert, get-remove, slice_cmp-IsAntisymmetric, nat_cmp-IsAntisymmetric}
use Rattle.std.specs.Cmp.{tied_itself}
use Rattle.std.specs.Cmp.Lexicographic.{nat_list_cmp_total}
use Rattle.typed_values.specs.declared.value.Value.{Value}
use Rattle.store_commands.specs.Store.{Key, order, same_key, Store, is_named, write}
use Rattle.store_commands.specs.Found.{Found}
use Rattle.store_commands.specs.Act.{act}
use Rattle.store_commands.specs.Apply.{put_all, look_up, answer, apply}
use Rattle.client_commands.specs.Commands.{keys}
use Rattle.store_commands.specs.Locality.{LeavesOthers, SeesNamed}
use Rattle.client_commands.specs.declared.command.Command.{Command}

tie : (r : Ordering) → is_eq r ≡ true → r ≡ Equal
tie Less e = absurd (true≢false (sym e))
tie Equal e = refl
tie Greater e = absurd (true≢false (sym e))

pub same_is : (q k : Key) → same_key q k ≡ true → q ≡ k
same_is q k e = slice_cmp-IsAntisymmetric nat_cmp-IsAntisymmetric q k (tie (order q k) e)

pub same_itself : (q : Key) → same_key q q ≡ true
same_itself q = ap is_eq (tied_itself nat_list_cmp_total q)

pub get-write : (store : Store) (k : Key) (v : Option Value) (q : Key) → get (write store k v) q ≡ cond (same_key q k) v (get store q)
get-write store k None q = get-remove nat_list_cmp_total store k q
get-write store k (Some v) q = get-insert nat_list_cmp_total store k v q

-- what stands at q once the values are written at the keys, where d stood before
abbrev pub standing : List Key → Found → Key → Option Value → Option Value
standing [] vs q d = d
standing (k ∷ ks) [] q d = d
standing (k ∷ ks) (v ∷ vs) q d = standing ks vs q (cond (same_key q k) v d)

pub get-put_all : (store : Store) (ks : List Key) (vs : Found) (q : Key) → get (put_all store ks vs) q ≡ standing ks vs q (get store q)
unfolding put_all
get-put_all store [] vs q = refl
get-put_all store (k ∷ ks) [] q = refl
get-put_all store (k ∷ ks) (v ∷ vs) q = get-put_all (write store k v) ks vs q ∙ ap (standing ks vs q) (get-write store k v q)

-- a key that is not named stays
pub standing-other : (ks : List Key) (vs : Found) (q : Key) (d : Option Value) → is_named q ks ≡ false → standing ks vs q d ≡ d
standing-other [] vs q d e = refl
standing-other (k ∷ ks) [] q d e = refl
standing-other (k ∷ ks) (v ∷ vs) q d e =
    let p = or_parts (same_key q k) (is_named q ks) e in
    standing-other ks vs q (cond (same_key q k) v d) p.1 ∙ cond-false (same_key q k) v d p.0

-- stores that agree on the keys are looked up alike
pub look_up-agree : (a b : Store) (ks : List Key) → ((q : Key) → is_named q ks ≡ true → get a q ≡ get b q) → look_up a ks ≡ look_up b ks
unfolding look_up
look_up-agree a b [] h = refl
look_up-agree a b (k ∷ ks) h =
    let here : get a k ≡ get b k = h k (ap (λ t. t || is_named k ks) (same_itself k)) in
    let rest : map (λ k. get a k) ks ≡ map (λ k. get b k) ks = look_up-agree a b ks (λ q e. h q (step q e)) in
    λ i. here i ∷ rest i
  where
    step : (q : Key) → is_named q ks ≡ true → (same_key q k || is_named q ks) ≡ true
    step q e = grind (arith, e)

-- ---- the four facts on commands that the laws of moves use

-- what a command writes at q, from what it finds
unfoldable pub wrote : Command → Found → Key → Option Value → Option Value
wrote c vs q d = standing (keys c) (act c vs).1 q d

pub answer_is : (store : Store) (c : Command) → answer store c ≡ (act c (look_up store (keys c))).0
unfolding answer
answer_is store c = refl

pub get-apply : (store : Store) (c : Command) (q : Key) → get (apply store c) q ≡ wrote c (look_up store (keys c)) q (get store q)
unfolding apply wrote
get-apply store c q = get-put_all store (keys c) _ q

pub wrote-other : (c : Command) (vs : Found) (q : Key) (d : Option Value) → is_named q (keys c) ≡ false → wrote c vs q d ≡ d
unfolding wrote
wrote-other c vs q d e = standing-other (keys c) _ q d e

-- ---- the laws

pub leaves_others : LeavesOthers
leaves_others s c q e = get-apply s c q ∙ wrote-other c (look_up s (keys c)) q (get s q) e

pub sees_named : SeesNamed
sees_named a b c h =
    let found = look_up-agree a b (keys c) h in (
      answer_is a c ∙ ap (λ vs. (act c vs).0) found ∙ sym (answer_is b c),
      λ q e. get-apply a c q ∙ ap (λ d. wrote c (look_up a (keys c)) q d) (h q e) ∙ ap (λ vs. wrote c vs q (get b q)) found ∙ sym (get-apply b c q),
    )
