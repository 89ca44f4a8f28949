-- The commands of a plan that is accepted can be sent.
use Rattle.std.proofs.Common.{◌≡◌, ℕ, zero, suc, ◌+◌, ◌-◌, ◌<◌, ◌≤◌, List, [], ◌∷◌, ◌++◌, map, sym}
use Rattle.std.specs.List.{AllByRecursion}
use Rattle.plan_language.specs.Lines.{HasBatch, IsLine, line_commands, plan_commands, others, moves}
use Rattle.plan_language.specs.Moves.{move_of}
use Rattle.plan_language.specs.declared.line.Line.{Line}
use Rattle.plan_language.specs.declared.line.Line.TheVariants.{Command, Move}
use Rattle.plan_language.specs.declared.plan_command.PlanCommand.{PlanCommand}
use Rattle.plan_language.specs.declared.plan_command.PlanCommand.TheVariants as planned
use Rattle.std.proofs.Common.{Bool, true, false, ◌&&◌, ltb, refl, Ok}
use Rattle.std.proofs.lemmas.Bool.{true≢false, ltb-true}
use Rattle.plan_language.specs.Lines.{FitsVersion}
use Rattle.plan_runner.specs.declared.command_fault.CommandFault.TheVariants as fault
use Rattle.plan_runner.specs.SlotStates.{State, first_state, is_known, next_by_row, next_state, state_after, state_of}
use Rattle.cluster_admin.specs.Phases.{Phases}
use Rattle.plan_semantics.specs.Plans.{part}
use Rattle.plan_runner.proofs.OneSlot.{went_on, let_in}
use Rattle.plan_runner.specs.Sound.{is_at, AreSound}
use Rattle.plan_runner.proofs.Parts.{from_parts}

-- the command may stand in a plan of the version
abbrev pub FitsCommand : ℕ → PlanCommand → Type 0
FitsCommand v o = FitsVersion v (Command o)

-- ---- batches

all_more : (P : PlanCommand → Type 0) (xs ys : List PlanCommand) → AllByRecursion P xs → AllByRecursion P ys
    → AllByRecursion P (xs ++ ys)
all_more P [] ys g h = h
all_more P (x ∷ xs) ys g h = (g.0, all_more P xs ys g.1 h)

told_batches : (f t : ℕ) (ms : List ℕ) → AllByRecursion HasBatch (map (λ m. planned.SetNode f t m) ms)
told_batches f t [] = tt
told_batches f t (m ∷ ms) = (tt, told_batches f t ms)

moves_batches : (n k first s t b : ℕ) → (1 ≤ b) × (b ≤ 1000) → AllByRecursion HasBatch (moves n first k s t b)
unfolding moves
moves_batches n zero first s t b h = tt
moves_batches n (suc k) first s t b h =
    all_more HasBatch (move_of first s t b (others n s t)) (moves n (first + 1) k s t b)
    (tt, (tt, (h, (tt, (tt, told_batches first t (others n s t)))))) (moves_batches n k (first + 1) s t b h)

line_batches : (n : ℕ) (line : Line) → IsLine line → AllByRecursion HasBatch (line_commands n line)
line_batches n (Command command) h = (h, tt)
line_batches n (Move first last s t b) h = moves_batches n (last + 1 - first) first s t b (h.1, h.2)

pub batches : (n : ℕ) (lines : List Line) → AllByRecursion IsLine lines → AllByRecursion HasBatch (plan_commands n lines)
batches n [] h = tt
batches n (line ∷ lines) h =
    all_more HasBatch (line_commands n line) (plan_commands n lines) (line_batches n line h.0) (batches n lines h.1)

-- ---- lines that fit the version

told_fit : (v f t : ℕ) (ms : List ℕ) → AllByRecursion (FitsCommand v) (map (λ m. planned.SetNode f t m) ms)
told_fit v f t [] = tt
told_fit v f t (m ∷ ms) = (tt, told_fit v f t ms)

moves_fit : (v n k first s t b : ℕ) → AllByRecursion (FitsCommand v) (moves n first k s t b)
unfolding moves
moves_fit v n zero first s t b = tt
moves_fit v n (suc k) first s t b =
    all_more (FitsCommand v) (move_of first s t b (others n s t)) (moves n (first + 1) k s t b)
    (tt, (tt, (tt, (tt, (tt, told_fit v first t (others n s t)))))) (moves_fit v n k (first + 1) s t b)

line_fits : (v n : ℕ) (line : Line) → FitsVersion v line → AllByRecursion (FitsCommand v) (line_commands n line)
line_fits v n (Command command) h = (h, tt)
line_fits v n (Move first last s t b) h = moves_fit v n (last + 1 - first) first s t b

pub commands_fit : (v n : ℕ) (lines : List Line) → AllByRecursion (FitsVersion v) lines
    → AllByRecursion (FitsCommand v) (plan_commands n lines)
commands_fit v n [] h = tt
commands_fit v n (line ∷ lines) h =
    all_more (FitsCommand v) (line_commands n line) (plan_commands n lines) (line_fits v n line h.0)
    (commands_fit v n lines h.1)

-- ---- nodes

first : (a b : Bool) → (a && b) ≡ true → a ≡ true
first true b e = refl
first false b e = absurd (true≢false (sym e))

second : (a b : Bool) → (a && b) ≡ true → b ≡ true
second true b e = e
second false b e = absurd (true≢false (sym e))

-- a command of known nodes goes to one of them
known_at : (n : ℕ) (o : PlanCommand) → is_known n o ≡ true → is_at o < n
known_at n (planned.Importing s m at) e = ltb-true at n (second (ltb m n) (ltb at n) e)
known_at n (planned.Migrating s m at) e = ltb-true at n (second (ltb m n) (ltb at n) e)
known_at n (planned.Drain s m t b) e = ltb-true m n (first (ltb m n) (ltb t n) e)
known_at n (planned.SetNode s m at) e = ltb-true at n (second (ltb m n) (ltb at n) e)
known_at n (planned.Stable s at) e = ltb-true at n e

taken_below : (v n : ℕ) (os : List PlanCommand) (q x : State) → state_after v n q os ≡ Ok x → AllByRecursion (λ o. is_at o < n) os
taken_below v n [] q x e = tt
taken_below v n (o ∷ os) q x e =
    let g = went_on (next_state v n q o) (λ next. state_after v n next os) x e in
    (known_at n o (let_in (is_known n o) (next_by_row v n q o) fault.UnknownNode g.0 g.1).0, taken_below v n os g.0 x g.2)

both : (n : ℕ) (plan : List PlanCommand) → AllByRecursion (λ o. is_at o < n) plan → AllByRecursion HasBatch plan
    → AreSound n plan
both n [] g h = tt
both n (o ∷ plan) g h = (g.0, h.0, both n plan g.1 h.1)

-- where every slot's commands are taken, they can be sent
pub taken_sound : (v n : ℕ) (phases : Phases) (plan : List PlanCommand)
    → ((s : ℕ) → (x : State) × (state_of v n phases plan s ≡ Ok x)) → AllByRecursion HasBatch plan → AreSound n plan
taken_sound v n phases plan taken h =
    both n plan (from_parts (λ o. is_at o < n) plan (λ s. taken_below v n (part plan s) (first_state n (phases s)) (taken s).0 (taken s).1)) h
