-- The targets that each slot had, after more commands of one slot.
use Rattle.std.proofs.Common.{◌≡◌, ◌≢◌, ℕ, ◌<◌, Bool, true, false, ◌||◌, eqb, List, [], ◌∷◌, ◌++◌, map, sym, refl, ap, ◌∙◌, subst, inl, inr, get_or, set, length-set, append_assoc, append-nil}
use Rattle.std.proofs.lemmas.Bool.{cases_eq, true≢false, eq-eqb, ne_eqb, or_left, or_right, or_cases, or_parts}
use Rattle.std.specs.List.{AllByRecursion}
use Rattle.plan_language.specs.Moves.{move_of}
use Rattle.plan_language.specs.declared.plan_command.PlanCommand.{PlanCommand}
use Rattle.plan_language.specs.declared.plan_command.PlanCommand.TheVariants as planned
use Rattle.cluster_admin.specs.Phases.{Phase, Phases, among, IsDistinct}
use Rattle.cluster_admin.specs.Phases as phase
use Rattle.plan_semantics.specs.Plans.{part}
use Rattle.plan_semantics.specs.Retargets.{HasNoRetarget, importings, phase_target}
use Rattle.plan_runner.specs.Targets.{targets_of, Marks, marked, comes_again, KnowsTargets}
use Rattle.plan_runner.proofs.OneSlot.{told_same, told_other}
use Rattle.plan_runner.proofs.Parts.{Name, part_append, part_same, part_none}

-- ---- lists

among-append : (m : ℕ) (xs ys : List ℕ) → among m (xs ++ ys) ≡ (among m xs || among m ys)
among-append m [] ys = refl
among-append m (x ∷ xs) ys = by (eqb m x) (among-append m xs ys)
  where
    by : (b : Bool) → among m (xs ++ ys) ≡ (among m xs || among m ys) → (b || among m (xs ++ ys)) ≡ ((b || among m xs) || among m ys)
    by true e = refl
    by false e = e

neither : (a b : Bool) → a ≡ false → b ≡ false → (a || b) ≡ false
neither true b e f = absurd (true≢false e)
neither false b e f = f

distinct_end : (xs : List ℕ) (m : ℕ) → IsDistinct xs → among m xs ≡ false → IsDistinct (xs ++ m ∷ [])
distinct_end [] m d e = (refl, tt)
distinct_end (x ∷ xs) m d e =
    let p = or_parts (eqb m x) (among m xs) e in
    (among-append x xs (m ∷ []) ∙ neither (among x xs) (eqb x m || false) d.0 (neither (eqb x m) false (ne_eqb x m (λ u. true≢false (sym (eq-eqb m x (sym u)) ∙ p.0))) refl), distinct_end xs m d.1 p.1)

distinct_front : (xs : List ℕ) (m : ℕ) → IsDistinct (xs ++ m ∷ []) → among m xs ≡ false
distinct_front [] m d = refl
distinct_front (x ∷ xs) m d =
    let p = or_parts (among x xs) (eqb x m || false) (sym (among-append x xs (m ∷ [])) ∙ d.0) in
    let q = or_parts (eqb x m) false p.1 in
    neither (eqb m x) (among m xs) (ne_eqb m x (λ u. true≢false (sym (eq-eqb x m (sym u)) ∙ q.0))) (distinct_front xs m d.1)

first_distinct : (xs ys : List ℕ) → IsDistinct (xs ++ ys) → IsDistinct xs
first_distinct [] ys d = tt
first_distinct (x ∷ xs) ys d = ((or_parts (among x xs) (among x ys) (sym (among-append x xs ys) ∙ d.0)).0, first_distinct xs ys d.1)

-- ---- one more target

marks_more : (marks : List Bool) (xs : List ℕ) (m : ℕ) → m < 255 → Marks marks xs → Marks (set marks m true) (xs ++ m ∷ [])
marks_more marks xs m low h = record {
  width = length-set marks m true ∙ h.width;
  are = λ q b. elim (cases_eq q m) [
    | inl u ↦ ap (λ x. get_or (set marks m true) x false) u ∙ told_same marks m (subst (λ w. m < w) (sym h.width) low)
        ∙ sym (among-append q xs (m ∷ []) ∙ either (among q xs) (eqb q m || false) (or_left (eqb q m) false (eq-eqb q m u)))
    | inr u ↦ told_other marks m q u ∙ h.are q b
        ∙ sym (among-append q xs (m ∷ []) ∙ only (among q xs) (eqb q m || false) (neither (eqb q m) false (ne_eqb q m u) refl))
  ];
}
  where
    either : (a b : Bool) → b ≡ true → (a || b) ≡ true
    either a b e = or_right a b e

    only : (a b : Bool) → b ≡ false → (a || b) ≡ a
    only true b e = refl
    only false b e = e

along : (xs : List ℕ) (m : ℕ) (ns : List ℕ) → (xs ++ m ∷ []) ++ ns ≡ xs ++ m ∷ ns
along xs m ns = append_assoc xs (m ∷ []) ns

pub marks_all : (marks : List Bool) (xs ns : List ℕ) → AllByRecursion (λ m. m < 255) ns → Marks marks xs → Marks (marked marks ns) (xs ++ ns)
marks_all marks xs [] low h = subst (Marks marks) (sym (append-nil xs)) h
marks_all marks xs (m ∷ ns) low h =
    subst (Marks (marked (set marks m true) ns)) (along xs m ns) (marks_all (set marks m true) (xs ++ m ∷ []) ns low.1 (marks_more marks xs m low.0 h))

pub none_again : (marks : List Bool) (xs ns : List ℕ) → AllByRecursion (λ m. m < 255) ns → Marks marks xs → IsDistinct xs → comes_again marks ns ≡ false → IsDistinct (xs ++ ns)
none_again marks xs [] low h d e = subst IsDistinct (sym (append-nil xs)) d
none_again marks xs (m ∷ ns) low h d e =
    let p = or_parts (get_or marks m false) (comes_again (set marks m true) ns) e in
    subst IsDistinct (along xs m ns) (none_again (set marks m true) (xs ++ m ∷ []) ns low.1 (marks_more marks xs m low.0 h)
    (distinct_end xs m d (sym (h.are m low.0) ∙ p.0)) p.1)

pub some_again : (marks : List Bool) (xs ns : List ℕ) → AllByRecursion (λ m. m < 255) ns → Marks marks xs → comes_again marks ns ≡ true → IsDistinct (xs ++ ns) → ⊥
some_again marks xs [] low h e d = true≢false (sym e)
some_again marks xs (m ∷ ns) low h e d = elim (or_cases (get_or marks m false) (comes_again (set marks m true) ns) e) [
  | inl u ↦ true≢false (sym (sym (h.are m low.0) ∙ u) ∙ distinct_front xs m (first_distinct (xs ++ m ∷ []) ns (subst IsDistinct (sym (along xs m ns)) d)))
  | inr u ↦ some_again (set marks m true) (xs ++ m ∷ []) ns low.1 (marks_more marks xs m low.0 h) u (subst IsDistinct (sym (along xs m ns)) d)
]

-- ---- commands

pub importings-append : (xs ys : List PlanCommand) → importings (xs ++ ys) ≡ importings xs ++ importings ys
importings-append [] ys = refl
importings-append (planned.Importing s m at ∷ xs) ys = ap (λ l. at ∷ l) (importings-append xs ys)
importings-append (planned.Migrating s m at ∷ xs) ys = importings-append xs ys
importings-append (planned.Drain s m t b ∷ xs) ys = importings-append xs ys
importings-append (planned.SetNode s m at ∷ xs) ys = importings-append xs ys
importings-append (planned.Stable s at ∷ xs) ys = importings-append xs ys

-- telling imports nothing
none_told : (s t : ℕ) (ms : List ℕ) → importings (map (λ m. planned.SetNode s t m) ms) ≡ []
none_told s t [] = refl
none_told s t (m ∷ ms) = none_told s t ms

pub importings-move : (s source target b : ℕ) (others : List ℕ) → importings (move_of s source target b others) ≡ target ∷ []
importings-move s source target b others = ap (λ l. target ∷ l) (none_told s target others)

targets_more : (phases : Phases) (prefix more : List PlanCommand) (s : ℕ) → targets_of phases (prefix ++ more) s ≡ targets_of phases prefix s ++ importings (part more s)
targets_more phases prefix more s =
    ap (λ p. phase_target (phases s) ++ importings p) (part_append prefix more s)
    ∙ ap (λ l. phase_target (phases s) ++ l) (importings-append (part prefix s) (part more s))
    ∙ sym (append_assoc (phase_target (phases s)) (importings (part prefix s)) (importings (part more s)))

-- more commands of one slot
pub targets_known : (phases : Phases) (prefix more : List PlanCommand) (s : ℕ) (marks next : ℕ → List Bool) (r : Bool) (ns : List ℕ) → s < 16384 → Name s more
    → importings more ≡ ns → AllByRecursion (λ m. m < 255) ns
    → next s ≡ marked (marks s) ns → ((q : ℕ) → q ≢ s → next q ≡ marks q)
    → KnowsTargets phases prefix marks r → KnowsTargets phases (prefix ++ more) next (r || comes_again (marks s) ns)
targets_known phases prefix more s marks next r ns low names is few here others h = record {
  each = λ q b. elim (cases_eq q s) [
    | inl u ↦ subst (λ x. Marks (next x) (targets_of phases (prefix ++ more) x)) (sym u)
        (subst (λ ms. Marks ms (targets_of phases (prefix ++ more) s)) (sym here) (subst (Marks (marked (marks s) ns)) (sym there) (marks_all (marks s) (targets_of phases prefix s) ns few (h.each s low))))
    | inr u ↦ subst (λ ms. Marks ms (targets_of phases (prefix ++ more) q)) (sym (others q u)) (subst (Marks (marks q)) (sym (same q u)) (h.each q b))
  ];
  none = λ e. let p = or_parts r (comes_again (marks s) ns) e in λ q. elim (cases_eq q s) [
    | inl u ↦ subst (λ x. IsDistinct (targets_of phases (prefix ++ more) x)) (sym u) (subst IsDistinct (sym there)
        (none_again (marks s) (targets_of phases prefix s) ns few (h.each s low) (h.none p.0 s) p.1))
    | inr u ↦ subst IsDistinct (sym (same q u)) (h.none p.0 q)
  ];
  some = λ e all. elim (or_cases r (comes_again (marks s) ns) e) [
    | inl u ↦ h.some u (λ q. first_distinct (targets_of phases prefix q) (importings (part more q)) (subst IsDistinct (targets_more phases prefix more q) (all q)))
    | inr u ↦ some_again (marks s) (targets_of phases prefix s) ns few (h.each s low) u (subst IsDistinct there (all s))
  ];
}
  where
    there : targets_of phases (prefix ++ more) s ≡ targets_of phases prefix s ++ ns
    there = targets_more phases prefix more s ∙ ap (λ p. targets_of phases prefix s ++ importings p) (part_same s more names) ∙ ap (λ l. targets_of phases prefix s ++ l) is

    same : (q : ℕ) → q ≢ s → targets_of phases (prefix ++ more) q ≡ targets_of phases prefix q
    same q u = targets_more phases prefix more q ∙ ap (λ p. targets_of phases prefix q ++ importings p) (part_none s q more u names) ∙ append-nil (targets_of phases prefix q)

-- before the first command each slot has the target of its phase at most
pub first_distinct_targets : (phases : Phases) → HasNoRetarget [] phases
first_distinct_targets phases s = by (phases s)
  where
    by : (p : Phase) → IsDistinct (phase_target p ++ [])
    by (phase.Closed o) = tt
    by (phase.Importing a z) = (refl, tt)
    by (phase.Migrating a z) = (refl, tt)
    by (phase.TargetTold a z) = (refl, tt)
    by (phase.SourceTold a z left) = (refl, tt)
