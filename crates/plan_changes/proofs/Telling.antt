-- Each slot has the owner that it was told last, and legal plans tell nodes of the cluster.
use Rattle.std.proofs.Common.{◌≡◌, ◌≢◌, ℕ, ◌<◌, Bool, true, false, cond, inl, inr, List, [], ◌∷◌, ◌++◌, fold, length, get_or, set, eqb, ap, refl, sym, subst, ◌∙◌, arith, eq-eqb, get_or-set_same, get_or-set_other, length-set}
use Rattle.std.proofs.lemmas.Bool.{cases_eq}
use Rattle.std.proofs.lemmas.Bool.Decides.{nat_tests}
use Rattle.std.proofs.lemmas.List.Elements.{All-set}
use Rattle.std.specs.List.{All, AllByRecursion}
use Rattle.cluster_admin.specs.Phases.{closed_by}
use Rattle.plan_language.specs.declared.plan_command.PlanCommand.{PlanCommand}
use Rattle.plan_language.specs.declared.plan_command.PlanCommand.TheVariants.{Importing, Migrating, Drain, SetNode, Stable}
use Rattle.plan_semantics.specs.Plans.{AreLegs, IsPart, Legal, Leg, Move, Try, last_told, legs_of, part, slot_named, tell}
use Rattle.plan_changes.specs.Finals.{IsToldBelow, LegalTellsNodes, OwnersAreFinal, TellsNodes, owners_after, told}

-- a command that tells nothing changes nothing, whether it names the slot or not
skipped : (b : Bool) (o : ℕ) (c : PlanCommand) (rest : List PlanCommand) → last_told o (c ∷ rest) ≡ last_told o rest → last_told o rest ≡ last_told o (cond b (c ∷ rest) rest)
skipped true o c rest e = sym e
skipped false o c rest e = refl

one_told : (c : PlanCommand) (os : List ℕ) (s : ℕ) (rest : List PlanCommand) → s < length os → last_told (get_or (told os c) s 0) rest ≡ last_told (get_or os s 0) (cond (eqb (slot_named c) s) (c ∷ rest) rest)
one_told (Importing x m at) os s rest lt = skipped (eqb x s) (get_or os s 0) (Importing x m at) rest refl
one_told (Migrating x m at) os s rest lt = skipped (eqb x s) (get_or os s 0) (Migrating x m at) rest refl
one_told (Drain x m t b) os s rest lt = skipped (eqb x s) (get_or os s 0) (Drain x m t b) rest refl
one_told (Stable x at) os s rest lt = skipped (eqb x s) (get_or os s 0) (Stable x at) rest refl
one_told (SetNode x m at) os s rest lt =
    elim (cases_eq x s) [
      | inl e ↦
          let here : x < length os = subst (λ (k : ℕ). k < length os) (sym e) lt in
          let now : get_or (set os x m) s 0 ≡ m = ap (λ k. get_or (set os x m) k 0) (sym e) ∙ get_or-set_same os x m 0 here in
          let test : eqb x s ≡ true = eq-eqb x s e in
          ap (λ o. last_told o rest) now ∙ sym (ap (λ b. last_told (get_or os s 0) (cond b (SetNode x m at ∷ rest) rest)) test)
      | inr ne ↦
          let other : s ≢ x = λ e. ne (sym e) in
          let now : get_or (set os x m) s 0 ≡ get_or os s 0 = get_or-set_other os x s m 0 other in
          let test : eqb x s ≡ false = grind (arith, nat_tests) in
          ap (λ o. last_told o rest) now ∙ sym (ap (λ b. last_told (get_or os s 0) (cond b (SetNode x m at ∷ rest) rest)) test)
    ]

told_length : (c : PlanCommand) (os : List ℕ) → length (told os c) ≡ length os
told_length (Importing x m at) os = refl
told_length (Migrating x m at) os = refl
told_length (Drain x m t b) os = refl
told_length (Stable x at) os = refl
told_length (SetNode x m at) os = length-set os x m

pub width_after : (plan : List PlanCommand) (os : List ℕ) → length (fold told os plan) ≡ length os
width_after [] os = refl
width_after (c ∷ plan) os = width_after plan (told os c) ∙ told_length c os

last_of : (plan : List PlanCommand) (os : List ℕ) (s : ℕ) → s < length os → get_or (fold told os plan) s 0 ≡ last_told (get_or os s 0) (part plan s)
last_of [] os s lt = refl
last_of (c ∷ plan) os s lt =
    let same : length (told os c) ≡ length os = told_length c os in
    last_of plan (told os c) s (omega (arith, same, lt)) ∙ one_told c os s (part plan s) lt

pub are_final : OwnersAreFinal
unfolding owners_after
are_final plan os long = record {
  width = width_after plan os ∙ long;
  owner = λ s lt. last_of plan os s (omega (arith, long, lt));
}

-- ---- the nodes that are told

one_named : (n : ℕ) (c : PlanCommand) (os : List ℕ) → IsToldBelow n c → All (λ m. m < n) os → All (λ m. m < n) (told os c)
one_named n (Importing x m at) os h all = all
one_named n (Migrating x m at) os h all = all
one_named n (Drain x m t b) os h all = all
one_named n (Stable x at) os h all = all
one_named n (SetNode x m at) os h all = All-set (λ k. k < n) os x m h all

pub named_after : (n : ℕ) (plan : List PlanCommand) (os : List ℕ) → TellsNodes n plan → All (λ m. m < n) os → All (λ m. m < n) (fold told os plan)
named_after n [] os h all = all
named_after n (c ∷ plan) os h all = named_after n plan (told os c) h.1 (one_named n c os h.0 all)

others_told : (n s t : ℕ) (ms : List ℕ) → t < n → (rest : List PlanCommand) → TellsNodes n rest → TellsNodes n (tell s t ms ++ rest)
others_told n s t [] lt rest h = h
others_told n s t (m ∷ ms) lt rest h = (lt, others_told n s t ms lt rest h)

legs_tell : (version n s o : ℕ) (legs : List Leg) → AreLegs version n o legs → TellsNodes n (legs_of s o legs)
legs_tell version n s o [] h = tt
legs_tell version n s o (Move t b others ∷ legs) h =
    (tt, (tt, (tt, (h.1.target_below, (h.1.target_below, others_told n s t others h.1.target_below (legs_of s t legs) (legs_tell version n s t legs h.2))))))
legs_tell version n s o (Try t ∷ legs) h = (tt, (tt, legs_tell version n s o legs h.2))

part_tells : (version n s : ℕ) (owners : List ℕ) (commands : List PlanCommand) → IsPart version n s (closed_by owners s) commands → TellsNodes n commands
part_tells version n s owners commands p =
    subst (TellsNodes n) (sym (p.is ∙ ap (λ cs. cs ++ legs_of s p.owner p.legs) p.closes.0)) (legs_tell version n s p.owner p.legs p.are)

-- what holds of each part holds of the whole
from_parts : (P : PlanCommand → Type 0) (plan : List PlanCommand) → ((s : ℕ) → AllByRecursion P (part plan s)) → AllByRecursion P plan
from_parts P [] h = tt
from_parts P (o ∷ plan) h = (head (h (slot_named o)), from_parts P plan (λ s. tail s (eqb (slot_named o) s) (h s)))
  where
    head : AllByRecursion P (cond (eqb (slot_named o) (slot_named o)) (o ∷ part plan (slot_named o)) (part plan (slot_named o))) → P o
    head g = (subst (λ b. AllByRecursion P (cond b (o ∷ part plan (slot_named o)) (part plan (slot_named o)))) (eq-eqb (slot_named o) (slot_named o) refl) g).0

    tail : (s : ℕ) (b : Bool) → AllByRecursion P (cond b (o ∷ part plan s) (part plan s)) → AllByRecursion P (part plan s)
    tail s true g = g.1
    tail s false g = g

pub legal_tells : LegalTellsNodes
legal_tells version n plan owners legal =
    from_parts (IsToldBelow n) plan (λ s. part_tells version n s owners (part plan s) (legal s))

-- the table in the end names nodes of the cluster, as the one before does; f gives the plan's commands among n nodes
pub finals_named : (version n m : ℕ) (f : ℕ → List PlanCommand) (commands read : List PlanCommand) (owners before first after last : List ℕ) → m ≡ n → Legal version (f n) (closed_by owners) n → read ≡ commands → commands ≡ f m → first ≡ before → before ≡ owners → last ≡ after → All (λ k. k < n) owners → ((k : ℕ) → TellsNodes k read → All (λ j. j < k) first → All (λ j. j < k) after) → All (λ k. k < m) last
finals_named version n m f commands read owners before first after last same legal r is fb bo la named h =
    let tells : TellsNodes n read = subst (TellsNodes n) (sym (r ∙ is ∙ ap f same)) (legal_tells version n (f n) owners legal) in
    let begun : All (λ j. j < n) first = subst (All (λ j. j < n)) (sym (fb ∙ bo)) named in
    let ended : All (λ j. j < n) last = subst (All (λ j. j < n)) (sym la) (h n tells begun) in
    subst (λ (k : ℕ). All (λ j. j < k) last) (sym same) ended
