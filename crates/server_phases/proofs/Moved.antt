-- Moves of slots that are put at the end of a plan.
use Rattle.std.proofs.Common.{◌≡◌, ℕ, zero, suc, ◌+◌, ◌-◌, ◌*◌, ◌<◌, ◌≤◌, Bool, true, false, cond, eqb, List, [], ◌∷◌, ◌++◌}
use Rattle.std.proofs.Common.{length, drop, take, get_or, append_assoc, append-nil, add-one, inl, inr, refl, sym, ap, ◌∙◌}
use Rattle.std.proofs.Common.{subst, arith}
use Rattle.std.proofs.lemmas.Bool.{cases_lt}
use Rattle.std.proofs.lemmas.List.{length-append, take-append-drop, take_more}
use Rattle.std.specs.List.{AllByRecursion}
use Rattle.std.specs.Prelude.{Option, None, Some, Result, Ok, Err, MatchResult}
use Rattle.cluster_views.proofs.Firsts.{drop_item}
use Rattle.cluster_admin.specs.Phases.{Phase, Phases}
use Rattle.cluster_admin.specs.Phases as phase
use Rattle.cluster_admin.specs.Surveys.{Survey, HasPhaseIn, importing_at, migrating_at, owner_at}
use Rattle.node_names.specs.Names.{Names}
use Rattle.plan_language.specs.Limits.{limits_of}
use Rattle.plan_language.specs.Lines.{count, line_commands, line_count, moves, others, plan_commands}
use Rattle.plan_language.specs.Moves.{move_of}
use Rattle.plan_language.specs.PlanView.{PlanView}
use Rattle.plan_language.specs.declared.limits.Limits.{Limits}
use Rattle.plan_language.specs.declared.line.Line.{Line}
use Rattle.plan_language.specs.declared.line.Line.TheVariants as line
use Rattle.plan_language.specs.declared.plan_command.PlanCommand.{PlanCommand}
use Rattle.plan_semantics.proofs.OnePhase.{SamePhase, one_phase}
use Rattle.plan_semantics.specs.Surveyed.{Shows, node_count}
use Rattle.reshard_planner.specs.Resuming.{width}
use Rattle.server_phases.specs.Resumed.{AddsMoves, AreNoRests, AreRests, AreStill, HasBeyond, HasCommand, IsBeyond}
use Rattle.server_phases.specs.Resumed.{IsCommand, IsLineFault, IsNotResumed, IsResumed, IsTooLong, IsUnmoved, SlotMove}
use Rattle.server_phases.specs.Resumed.{commands_of, moves_count, plan_count, rests, run, slot_move, stays_at, still}
use Rattle.server_phases.specs.Resumed.{still_left, still_of}
use Rattle.server_phases.specs.declared.resume_fault.ResumeFault.{ResumeFault}
use Rattle.server_phases.specs.declared.resume_fault.ResumeFault.TheVariants as fault

-- ---- lists

pub commands-append : (n : ℕ) (xs ys : List SlotMove) → commands_of n (xs ++ ys) ≡ commands_of n xs ++ commands_of n ys
commands-append n [] ys = refl
commands-append n (x ∷ xs) ys =
    ap (λ t. commands n x ++ t) (commands-append n xs ys) ∙ sym (append_assoc (commands n x) (commands_of n xs) (commands_of n ys))
  where
    commands : (n : ℕ) → SlotMove → List PlanCommand
    commands n m = move_of m.slot m.source m.target m.batch (others n m.source m.target)

plan-append : (n : ℕ) (xs ys : List Line) → plan_commands n (xs ++ ys) ≡ plan_commands n xs ++ plan_commands n ys
plan-append n [] ys = refl
plan-append n (x ∷ xs) ys =
    ap (λ t. line_commands n x ++ t) (plan-append n xs ys)
    ∙ sym (append_assoc (line_commands n x) (plan_commands n xs) (plan_commands n ys))

pub count-append : (l : Limits) (xs ys : List Line) → count l (xs ++ ys) ≡ count l xs + count l ys
count-append l [] ys = omega arith
count-append l (x ∷ xs) ys =
    let e : count l (xs ++ ys) ≡ count l xs + count l ys = count-append l xs ys in
    omega (arith, e)

-- ---- how many commands moves count as

moves_none : (names : Option Names) → moves_count names 0 ≡ 0
unfolding moves_count
moves_none None = omega arith
moves_none (Some names) = omega arith

moves_both : (names : Option Names) (m n : ℕ) → moves_count names (m + n) ≡ moves_count names m + moves_count names n
unfolding moves_count
moves_both None m n = omega arith
moves_both (Some names) m n = omega arith

moves_less : (names : Option Names) (m n : ℕ) → m ≤ n → moves_count names m ≤ moves_count names n
unfolding moves_count
moves_less None m n le = omega (arith, le)
moves_less (Some names) m n le = omega (arith, le)

moves_of_line : (names : Option Names) (first last s t b : ℕ)
    → line_count (limits_of names) (line.Move first last s t b) ≡ moves_count names (last + 1 - first)
unfolding moves_count
moves_of_line names first last s t b = refl

pub commands_most : (names : Option Names) → (limits_of names).commands ≤ 4227072
commands_most None = omega arith
commands_most (Some names) = omega arith

-- ---- the moves of some slots

pub length-run : (k i s t b : ℕ) → length (run k i s t b) ≡ i
length-run k zero s t b = refl
length-run k (suc i) s t b = ap (λ x. suc x) (length-run (suc k) i s t b)

commands-run : (n k i s t b : ℕ) → commands_of n (run k i s t b) ≡ moves n k i s t b
unfolding moves
commands-run n k zero s t b = refl
commands-run n k (suc i) s t b =
    ap (λ x. move_of k s t b (others n s t) ++ x)
    (commands-run n (suc k) i s t b ∙ ap (λ x. moves n x i s t b) (sym (add-one k)))

pub still_split : (phases : Phases) (k i j s t b : ℕ)
    → still phases k (i + j) s t b ≡ still phases k i s t b ++ still phases (k + i) j s t b
still_split phases k zero j s t b =
    let a : 0 + j ≡ j = omega arith in
    let c : k ≡ k + 0 = omega arith in
    ap (λ x. still phases k x s t b) a ∙ ap (λ x. still phases x j s t b) c
still_split phases k (suc i) j s t b =
    let a : suc i + j ≡ suc (i + j) = omega arith in
    let c : suc k + i ≡ k + suc i = omega arith in
    ap (λ x. still phases k x s t b) a ∙ by (stays_at (phases k) s) (still_split phases (suc k) i j s t b)
    ∙ ap (λ x. still phases k (suc i) s t b ++ still phases x j s t b) c
  where
    by : (c : Bool) → still phases (suc k) (i + j) s t b ≡ still phases (suc k) i s t b ++ still phases (suc k + i) j s t b
        → cond c (slot_move k s t b ∷ still phases (suc k) (i + j) s t b) (still phases (suc k) (i + j) s t b)
        ≡ cond c (slot_move k s t b ∷ still phases (suc k) i s t b) (still phases (suc k) i s t b)
        ++ still phases (suc k + i) j s t b
    by true e = ap (λ x. slot_move k s t b ∷ x) e
    by false e = e

-- between three numbers
pub still_parts : (phases : Phases) (k m e s t b : ℕ) → k ≤ m → m ≤ e
    → still phases k (e - k) s t b ≡ still phases k (m - k) s t b ++ still phases m (e - m) s t b
still_parts phases k m e s t b le le' =
    let a : e - k ≡ (m - k) + (e - m) = omega (arith, le, le') in
    let c : k + (m - k) ≡ m = omega (arith, le) in
    ap (λ x. still phases k x s t b) a ∙ still_split phases k (m - k) (e - m) s t b
    ∙ ap (λ x. still phases k (m - k) s t b ++ still phases x (e - m) s t b) c

-- each of these slots is still at the source
pub still_run : (phases : Phases) (k i s t b : ℕ) → ((x : ℕ) → k ≤ x → x < k + i → stays_at (phases x) s ≡ true)
    → still phases k i s t b ≡ run k i s t b
still_run phases k zero s t b all = refl
still_run phases k (suc i) s t b all =
    ap (λ c. cond c (slot_move k s t b ∷ still phases (suc k) i s t b) (still phases (suc k) i s t b))
    (all k (omega arith) (omega arith))
    ∙ ap (λ x. slot_move k s t b ∷ x) (still_run phases (suc k) i s t b (λ x le lt. all x (omega (arith, le)) (omega (arith, lt))))

pub run_still : (v : Survey) (phases : Phases) (k e s t b : ℕ) → Shows v phases → AreStill v s k e
    → still phases k (e + 1 - k) s t b ≡ run k (e + 1 - k) s t b
run_still v phases k e s t b shows all =
    still_run phases k (e + 1 - k) s t b (λ x ge lt. all phases shows x (omega (arith, ge)) (omega (arith, ge, lt)))

pub run_within : (v : Survey) (phases : Phases) (k e l s t b : ℕ) → Shows v phases → AreStill v s k e → k ≤ e → e ≤ l
    → length (run k (e + 1 - k) s t b) ≤ length (still phases k (l + 1 - k) s t b)
run_within v phases k e l s t b shows all le le' =
    let a = still_parts phases k (e + 1) (l + 1) s t b (omega (arith, le)) (omega (arith, le')) in
    let c : length (still phases k (l + 1 - k) s t b)
    ≡ length (still phases k (e + 1 - k) s t b) + length (still phases (e + 1) (l + 1 - (e + 1)) s t b)
    = ap length a ∙ length-append (still phases k (e + 1 - k) s t b) (still phases (e + 1) (l + 1 - (e + 1)) s t b) in
    let d : length (still phases k (e + 1 - k) s t b) ≡ length (run k (e + 1 - k) s t b)
    = ap length (run_still v phases k e s t b shows all) in
    omega (arith, c, d)

-- it is not
pub none_still : (phases : Phases) (k s t b : ℕ) → stays_at (phases k) s ≡ false → still phases k (k + 1 - k) s t b ≡ []
none_still phases k s t b e =
    let one : k + 1 - k ≡ 1 = omega arith in
    ap (λ i. still phases k i s t b) one ∙ ap (λ c. cond c (slot_move k s t b ∷ []) []) e

pub match_each : {A E : Type 0} (r : Result A E) (P P' : A → Type 0) (Q Q' : E → Type 0) → MatchResult r P Q
    → ((x : A) → P x → P' x) → ((e : E) → Q e → Q' e) → MatchResult r P' Q'
match_each (Ok x) P P' Q Q' h f g = f x h
match_each (Err e) P P' Q Q' h f g = g e h

-- those of two lists of moves
many_both : (names : Option Names) (xs ys : List SlotMove)
    → moves_count names (length (xs ++ ys)) ≡ moves_count names (length xs) + moves_count names (length ys)
many_both names xs ys = ap (moves_count names) (length-append xs ys) ∙ moves_both names (length xs) (length ys)

-- ---- what was put

pub adds_none : (n : ℕ) (p : PlanView) → AddsMoves n p p []
adds_none n p = record {
  version = refl;
  names = refl;
  commands = sym (append-nil (plan_commands n p.lines));
  counted = omega (arith, moves_none p.names);
}

pub adds_then : (n : ℕ) (p q r : PlanView) (xs ys : List SlotMove) → AddsMoves n p q xs → AddsMoves n q r ys
    → AddsMoves n p r (xs ++ ys)
adds_then n p q r xs ys a b = record {
  version = b.version ∙ a.version;
  names = b.names ∙ a.names;
  commands = b.commands ∙ ap (λ c. c ++ commands_of n ys) a.commands
      ∙ append_assoc (plan_commands n p.lines) (commands_of n xs) (commands_of n ys)
      ∙ ap (λ c. plan_commands n p.lines ++ c) (sym (commands-append n xs ys));
  counted = (
      let l = limits_of p.names in
      let c : count l r.lines ≡ count l q.lines + moves_count p.names (length ys) =
      subst (λ ns. count (limits_of ns) r.lines ≡ count (limits_of ns) q.lines + moves_count ns (length ys)) a.names b.counted in
      omega (arith, a.counted, c, many_both p.names xs ys));
}

pub adds_same : (n : ℕ) (p q : PlanView) (xs ys : List SlotMove) → xs ≡ ys → AddsMoves n p q xs → AddsMoves n p q ys
adds_same n p q xs ys e a = subst (AddsMoves n p q) e a

pub adds_run : (n : ℕ) (p q : PlanView) (first last s t b : ℕ)
    → q ≡ record { version = p.version; names = p.names; lines = p.lines ++ line.Move first last s t b ∷ [] }
    → AddsMoves n p q (run first (last + 1 - first) s t b)
adds_run n p q first last s t b e = record {
  version = ap (λ (x : PlanView). x.version) e;
  names = ap (λ (x : PlanView). x.names) e;
  commands = ap (λ (x : PlanView). plan_commands n x.lines) e
      ∙ plan-append n p.lines (line.Move first last s t b ∷ [])
      ∙ ap (λ c. plan_commands n p.lines ++ c)
      (append-nil (moves n first (last + 1 - first) s t b) ∙ sym (commands-run n first (last + 1 - first) s t b));
  counted = (
      let l = limits_of p.names in
      let m = line.Move first last s t b in
      let a : count l q.lines ≡ count l (p.lines ++ m ∷ []) = ap (λ (x : PlanView). count l x.lines) e in
      let c = count-append l p.lines (m ∷ []) in
      let d : line_count l m ≡ moves_count p.names (length (run first (last + 1 - first) s t b)) =
      moves_of_line p.names first last s t b
      ∙ ap (moves_count p.names) (sym (length-run first (last + 1 - first) s t b)) in
      omega (arith, a, c, d));
}

-- as the program counts them
pub run_total : (p q : PlanView) (l : Limits) (total more first last s t b : ℕ) → l ≡ limits_of p.names
    → total ≡ plan_count p.names p.lines → more ≡ line_count l (line.Move first last s t b)
    → q ≡ record { version = p.version; names = p.names; lines = p.lines ++ line.Move first last s t b ∷ [] }
    → total + more ≡ plan_count q.names q.lines
run_total p q l total more first last s t b limits before one e =
    let m = line.Move first last s t b in
    let k = limits_of p.names in
    let a : plan_count q.names q.lines ≡ count k (p.lines ++ m ∷ []) = ap (λ (x : PlanView). plan_count x.names x.lines) e in
    let c = count-append k p.lines (m ∷ []) in
    let d : more ≡ line_count k m = one ∙ ap (λ x. line_count x m) limits in
    omega (arith, a, c, d, before)

pub too_long : (p : PlanView) (l : Limits) (total more first last s t b : ℕ) → l ≡ limits_of p.names
    → total ≡ plan_count p.names p.lines → more ≡ line_count l (line.Move first last s t b) → l.commands < total + more
    → IsUnmoved p (run first (last + 1 - first) s t b) (fault.TooLong l.commands)
too_long p l total more first last s t b limits before one long =
    let m = line.Move first last s t b in
    let d : more ≡ moves_count p.names (length (run first (last + 1 - first) s t b)) =
    one ∙ ap (λ x. line_count x m) limits ∙ moves_of_line p.names first last s t b
    ∙ ap (moves_count p.names) (sym (length-run first (last + 1 - first) s t b)) in
    (ap (λ (x : Limits). x.commands) limits, omega (arith, long, d, before))

-- ---- why nothing more was put

-- moves more make a plan no shorter
pub unmoved_more : (p : PlanView) (xs ys : List SlotMove) (e : ResumeFault) → length xs ≤ length ys → IsUnmoved p xs e
    → IsUnmoved p ys e
unmoved_more p xs ys fault.Memory le h = tt
unmoved_more p xs ys (fault.TooLong most) le h =
    (h.0, omega (arith, moves_less p.names (length xs) (length ys) le, h.1))
unmoved_more p xs ys fault.NoMove le h = h
unmoved_more p xs ys fault.Beyond le h = h
unmoved_more p xs ys fault.Strange le h = h

-- so many moves after some that were put
long_after : (n : ℕ) (p q : PlanView) (xs ys : List SlotMove) (m most : ℕ) → AddsMoves n p q xs
    → moves_count p.names (length xs) + moves_count p.names (length ys) ≤ m
    → IsUnmoved q ys (fault.TooLong most) → IsTooLong p.names (plan_count p.names p.lines + m) most
long_after n p q xs ys m most a more h =
    let l = limits_of p.names in
    let there : (most ≡ l.commands) × (most < count l q.lines + moves_count p.names (length ys)) =
    subst (λ ns. (most ≡ (limits_of ns).commands) × (most < count (limits_of ns) q.lines + moves_count ns (length ys)))
    a.names h in
    (there.0, omega (arith, there.1, a.counted, more))

pub unmoved_after : (n : ℕ) (p q : PlanView) (xs ys zs : List SlotMove) (e : ResumeFault) → AddsMoves n p q xs
    → zs ≡ xs ++ ys → IsUnmoved q ys e → IsUnmoved p zs e
unmoved_after n p q xs ys zs fault.Memory a is h = tt
unmoved_after n p q xs ys zs (fault.TooLong most) a is h =
    let many = ap (λ (ms : List SlotMove). moves_count p.names (length ms)) is ∙ many_both p.names xs ys in
    long_after n p q xs ys (moves_count p.names (length zs)) most a (omega (arith, many)) h
unmoved_after n p q xs ys zs fault.NoMove a is h = h
unmoved_after n p q xs ys zs fault.Beyond a is h = h
unmoved_after n p q xs ys zs fault.Strange a is h = h

pub line_fault : (p : PlanView) (xs : List SlotMove) (e : ResumeFault) (no_move beyond : Type 0) → IsUnmoved p xs e
    → IsLineFault p xs no_move beyond e
line_fault p xs fault.Memory no_move beyond h = tt
line_fault p xs (fault.TooLong most) no_move beyond h = h
line_fault p xs fault.NoMove no_move beyond h = absurd h
line_fault p xs fault.Beyond no_move beyond h = absurd h
line_fault p xs fault.Strange no_move beyond h = absurd h

pub fault_after : (n : ℕ) (p q : PlanView) (xs ys rest zs : List SlotMove) (here there near far : Type 0) (e : ResumeFault)
    → AddsMoves n p q xs → zs ≡ xs ++ (ys ++ rest) → (here → there) → (near → far) → IsLineFault q ys here near e
    → IsLineFault p zs there far e
fault_after n p q xs ys rest zs here there near far fault.Memory a is from to h = tt
fault_after n p q xs ys rest zs here there near far (fault.TooLong most) a is from to h =
    let many = ap (λ (ms : List SlotMove). moves_count p.names (length ms)) is ∙ many_both p.names xs (ys ++ rest) in
    let more = many_both p.names ys rest in
    long_after n p q xs ys (moves_count p.names (length zs)) most a (omega (arith, many, more)) h
fault_after n p q xs ys rest zs here there near far fault.NoMove a is from to h = from h
fault_after n p q xs ys rest zs here there near far fault.Beyond a is from to h = to h
fault_after n p q xs ys rest zs here there near far fault.Strange a is from to h = h

-- ---- the phase of a slot

same_stay : (p q : Phase) (m : ℕ) → SamePhase p q → stays_at p m ≡ stays_at q m
same_stay (phase.Closed o) (phase.Closed u) m e = ap (λ k. eqb k m) e
same_stay (phase.Closed o) (phase.Importing s t) m e = absurd e
same_stay (phase.Closed o) (phase.Migrating s t) m e = absurd e
same_stay (phase.Closed o) (phase.TargetTold s t) m e = absurd e
same_stay (phase.Closed o) (phase.SourceTold s t left) m e = absurd e
same_stay (phase.Importing s t) (phase.Closed o) m e = absurd e
same_stay (phase.Migrating s t) (phase.Closed o) m e = absurd e
same_stay (phase.TargetTold s t) (phase.Closed o) m e = absurd e
same_stay (phase.SourceTold s t left) (phase.Closed o) m e = absurd e
same_stay (phase.Importing s t) (phase.Importing a b) m e = ap (λ k. eqb k m) e.0
same_stay (phase.Importing s t) (phase.Migrating a b) m e = absurd e
same_stay (phase.Importing s t) (phase.TargetTold a b) m e = absurd e
same_stay (phase.Importing s t) (phase.SourceTold a b left) m e = absurd e
same_stay (phase.Migrating s t) (phase.Importing a b) m e = absurd e
same_stay (phase.Migrating s t) (phase.Migrating a b) m e = refl
same_stay (phase.Migrating s t) (phase.TargetTold a b) m e = refl
same_stay (phase.Migrating s t) (phase.SourceTold a b left) m e = refl
same_stay (phase.TargetTold s t) (phase.Importing a b) m e = absurd e
same_stay (phase.TargetTold s t) (phase.Migrating a b) m e = refl
same_stay (phase.TargetTold s t) (phase.TargetTold a b) m e = refl
same_stay (phase.TargetTold s t) (phase.SourceTold a b left) m e = refl
same_stay (phase.SourceTold s t left) (phase.Importing a b) m e = absurd e
same_stay (phase.SourceTold s t left) (phase.Migrating a b) m e = refl
same_stay (phase.SourceTold s t left) (phase.TargetTold a b) m e = refl
same_stay (phase.SourceTold s t left) (phase.SourceTold a b others) m e = refl

pub stay_by : (v : Survey) (s m : ℕ) (p q : Phase) → HasPhaseIn v s p → HasPhaseIn v s q
    → stays_at p m ≡ stays_at q m
stay_by v s m p q a b =
    same_stay p q m
    (one_phase (length v.rows) (λ n. owner_at v n s) (λ n. migrating_at v n s) (λ n. importing_at v n s) p q a b)

-- one slot more is still at the source
pub still_more : (v : Survey) (s from end slot : ℕ) (b : Bool) → AreStill v s from end → slot ≡ end + 1
    → ((phases : Phases) → Shows v phases → b ≡ stays_at (phases slot) s) → b ≡ true → AreStill v s from slot
still_more v s from end slot b before next test is phases shows k ge lt = by (test phases shows)
  where
    by : b ≡ stays_at (phases slot) s → stays_at (phases k) s ≡ true
    by e = elim (cases_lt k slot) [
      | inl less ↦ before phases shows k ge (omega (arith, less, next))
      | inr more ↦ (let same : slot ≡ k = omega (arith, more, lt) in subst (λ j. stays_at (phases j) s ≡ true) same (sym e ∙ is))
    ]

-- ---- lines

pub all_at : {A : Type 0} (P : A → Type 0) (xs : List A) (i : ℕ) (x : A) → AllByRecursion P xs → i < length xs
    → x ≡ get_or xs i x → P x
all_at P [] i x all lt is = absurd (omega (arith, lt))
all_at P (y ∷ ys) zero x all lt is = subst P (sym is) all.0
all_at P (y ∷ ys) (suc i) x all lt is = all_at P ys i x all.1 (omega (arith, lt)) is

pub left-append : (phases : Phases) (xs ys : List Line) → still_left phases (xs ++ ys) ≡ still_left phases xs ++ still_left phases ys
left-append phases [] ys = refl
left-append phases (x ∷ xs) ys =
    ap (λ t. still_of phases x ++ t) (left-append phases xs ys)
    ∙ sym (append_assoc (still_of phases x) (still_left phases xs) (still_left phases ys))

-- the lines before, one line, and those after it
pub left_parts : (phases : Phases) (xs : List Line) (i : ℕ) (x : Line) → i < length xs → x ≡ get_or xs i x
    → still_left phases xs ≡ still_left phases (take i xs) ++ (still_of phases x ++ still_left phases (drop (i + 1) xs))
left_parts phases xs i x lt is =
    ap (still_left phases) (sym (take-append-drop i xs))
    ∙ left-append phases (take i xs) (drop i xs)
    ∙ ap (λ ys. still_left phases (take i xs) ++ still_left phases ys) (drop_item xs i x lt is)

pub left_more : (phases : Phases) (xs : List Line) (i : ℕ) (x : Line) → i < length xs → x ≡ get_or xs i x
    → still_left phases (take i xs) ++ still_of phases x ≡ still_left phases (take (i + 1) xs)
left_more phases xs i x lt is =
    ap (λ t. still_left phases (take i xs) ++ t) (sym (append-nil (still_of phases x)) ∙ ap (λ y. still_left phases (y ∷ [])) is)
    ∙ sym (left-append phases (take i xs) (get_or xs i x ∷ []))
    ∙ ap (still_left phases) (sym (take_more xs i x lt))

pub command_there : (xs : List Line) (i : ℕ) (x : Line) → i < length xs → x ≡ get_or xs i x → IsCommand x → HasCommand xs
command_there [] i x lt is h = absurd (omega (arith, lt))
command_there (y ∷ ys) zero x lt is h = first y (subst IsCommand is h)
  where
    first : (l : Line) → IsCommand l → HasCommand (l ∷ ys)
    first (line.Command c) h = tt
    first (line.Move f l s t b) h = absurd h
command_there (y ∷ ys) (suc i) x lt is h = any y (command_there ys i x (omega (arith, lt)) is h)
  where
    any : (l : Line) → HasCommand ys → HasCommand (l ∷ ys)
    any (line.Command c) h = tt
    any (line.Move f l s t b) h = h

pub beyond_there : (width : ℕ) (xs : List Line) (i : ℕ) (x : Line) → i < length xs → x ≡ get_or xs i x → IsBeyond width x
    → HasBeyond width xs
beyond_there width [] i x lt is h = absurd (omega (arith, lt))
beyond_there width (y ∷ ys) zero x lt is h = inl (subst (IsBeyond width) is h)
beyond_there width (y ∷ ys) (suc i) x lt is h = inr (beyond_there width ys i x (omega (arith, lt)) is h)

pub count_more : (l : Limits) (xs : List Line) (i total : ℕ) (x : Line) → i < length xs → x ≡ get_or xs i x
    → total + count l (drop i xs) ≡ count l xs → total + line_count l x + count l (drop (i + 1) xs) ≡ count l xs
count_more l xs i total x lt is before =
    let e : count l (drop i xs) ≡ line_count l x + count l (drop (i + 1) xs) = ap (count l) (drop_item xs i x lt is) in
    omega (arith, e, before)

-- ---- the whole plan

pub resumed : (v : Survey) (b : ℕ) (lines : List Line) (p q : PlanView) → AreRests v b p
    → ((n : ℕ) (phases : Phases) → Shows v phases → AddsMoves n p q (still_left phases lines)) → IsResumed v b lines q
resumed v b lines p q are adds = record {
  version = (adds 0 (λ s. (are.open_slots s).0) (λ s. (are.open_slots s).1)).version ∙ are.version;
  names = (adds 0 (λ s. (are.open_slots s).0) (λ s. (are.open_slots s).1)).names ∙ are.names;
  open_slots = are.open_slots;
  commands = λ phases shows. (adds (node_count v) phases shows).commands
      ∙ ap (λ ls. plan_commands (node_count v) ls ++ commands_of (node_count v) (still_left phases lines))
      (are.lines phases shows);
}

pub not_resumed : (v : Survey) (b : ℕ) (lines : List Line) (p : PlanView) (e : ResumeFault) → AreRests v b p
    → ((phases : Phases) → Shows v phases
    → IsLineFault p (still_left phases lines) (HasCommand lines) (HasBeyond (width p) lines) e)
    → IsNotResumed v b lines e
not_resumed v b lines p fault.Memory are h = tt
not_resumed v b lines p fault.Strange are h = absurd (h (λ s. (are.open_slots s).0) (λ s. (are.open_slots s).1))
not_resumed v b lines p fault.NoMove are h = h (λ s. (are.open_slots s).0) (λ s. (are.open_slots s).1)
not_resumed v b lines p fault.Beyond are h =
    subst (λ ns. HasBeyond (limits_of ns).nodes lines) are.names (h (λ s. (are.open_slots s).0) (λ s. (are.open_slots s).1))
not_resumed v b lines p (fault.TooLong most) are h = λ phases shows.
    let left = length (still_left phases lines) in
    subst (λ ns. IsTooLong ns (plan_count ns (rests v b phases) + moves_count ns left) most) are.names
    (subst (λ ls. IsTooLong p.names (plan_count p.names ls + moves_count p.names left) most) (are.lines phases shows)
    (h phases shows))

pub no_rests : (v : Survey) (b : ℕ) (lines : List Line) (e : ResumeFault) → AreNoRests v e → IsNotResumed v b lines e
no_rests v b lines fault.Memory h = tt
no_rests v b lines fault.Strange h = h
no_rests v b lines fault.NoMove h = absurd h
no_rests v b lines fault.Beyond h = absurd h
no_rests v b lines (fault.TooLong most) h = absurd h
