-- A plan's lines, and the commands that they stand for.
use Rattle.std.specs.Prelude.{◌≡◌, ◌≢◌, ℕ, zero, suc, ◌+◌, ◌-◌, ◌*◌, ◌<◌, ◌≤◌, Bool, true, not, ◌&&◌, ◌==◌}
use Rattle.std.specs.Prelude.{List, [], ◌∷◌, ◌++◌, filter, Option, None, Some}
use Rattle.std.specs.List.{AllByRecursion}
use Rattle.node_names.specs.Names.{AreNames, Names, has_node}
use Rattle.plan_language.specs.declared.line.Line.{Line}
use Rattle.plan_language.specs.declared.line.Line.TheVariants.{Command, Move}
use Rattle.plan_language.specs.declared.plan_command.PlanCommand.{PlanCommand}
use Rattle.plan_language.specs.declared.plan_command.PlanCommand.TheVariants.{Importing, Migrating, Drain, SetNode}
use Rattle.plan_language.specs.declared.plan_command.PlanCommand.TheVariants.{Stable}
use Rattle.plan_language.specs.declared.limits.Limits.{Limits}
use Rattle.plan_language.specs.Limits.{limits_of}
use Rattle.plan_language.specs.Moves.{move_of}
use Rattle.plan_language.specs.PlanView.{PlanView}

-- so many numbers from the first on
unfoldable pub numbers_from : (first count : ℕ) → List ℕ
numbers_from first zero = []
numbers_from first (suc k) = first ∷ numbers_from (first + 1) k

-- the nodes of n but the two, ascending
unfoldable pub others : (n source target : ℕ) → List ℕ
others n s t = filter (λ m. not (m == s) && not (m == t)) (numbers_from 0 n)

-- the moves of so many slots from the first on
unfoldable pub moves : (n first count source target batch : ℕ) → List PlanCommand
moves n first zero s t b = []
moves n first (suc k) s t b = move_of first s t b (others n s t) ++ moves n (first + 1) k s t b

-- the commands of a line, and of a plan
abbrev pub line_commands : ℕ → Line → List PlanCommand
line_commands n (Command command) = command ∷ []
line_commands n (Move first last s t b) = moves n first (last + 1 - first) s t b

abbrev pub plan_commands : ℕ → List Line → List PlanCommand
plan_commands n [] = []
plan_commands n (line ∷ lines) = line_commands n line ++ plan_commands n lines

-- a batch is 1 to 1,000 keys
abbrev pub HasBatch : PlanCommand → Type 0
HasBatch (Drain slot s t b) = (1 ≤ b) × (b ≤ 1000)
HasBatch command = Unit {0}

-- and a range's first slot is not above its last
abbrev pub IsLine : Line → Type 0
IsLine (Command command) = HasBatch command
IsLine (Move first last s t b) = (first ≤ last) × (1 ≤ b) × (b ≤ 1000)

-- its slots are below 16,384, and its nodes below the limit
abbrev pub IsWithin : Limits → Line → Type 0
IsWithin l (Command (Importing slot s at)) = (slot < 16384) × (s < l.nodes) × (at < l.nodes)
IsWithin l (Command (Migrating slot t at)) = (slot < 16384) × (t < l.nodes) × (at < l.nodes)
IsWithin l (Command (Drain slot s t b)) = (slot < 16384) × (s < l.nodes) × (t < l.nodes)
IsWithin l (Command (SetNode slot owner at)) = (slot < 16384) × (owner < l.nodes) × (at < l.nodes)
IsWithin l (Command (Stable slot at)) = (slot < 16384) × (at < l.nodes)
IsWithin l (Move first last s t b) = (last < 16384) × (s < l.nodes) × (t < l.nodes)

-- a slot is set stable in version 3 alone
abbrev pub FitsVersion : ℕ → Line → Type 0
FitsVersion version (Command (Stable slot at)) = version ≡ 3
FitsVersion version line = Unit {0}

-- the line may stand in a plan of each version
abbrev pub FitsEach : Line → Type 0
FitsEach line = (version : ℕ) → FitsVersion version line

-- how many commands a line counts as, a move as three and one for each node that there can be, at each slot: the most
-- that it stands for between two nodes of a cluster
abbrev pub line_count : Limits → Line → ℕ
line_count l (Command command) = 1
line_count l (Move first last s t b) = (l.nodes + 3) * (last + 1 - first)

abbrev pub count : Limits → List Line → ℕ
count l [] = 0
count l (line ∷ lines) = line_count l line + count l lines

-- a plan counts as no more commands than the limit
abbrev pub ArePlanLines : Limits → List Line → Type 0
ArePlanLines l lines =
    AllByRecursion IsLine lines × (count l lines ≤ l.commands) × AllByRecursion (IsWithin l) lines

-- the versions of the rules are 1, 2 and 3
abbrev pub IsVersion : ℕ → Type 0
IsVersion version = (1 ≤ version) × (version ≤ 3)

-- the two nodes that a line mentions: one twice, where it is set stable
abbrev pub nodes_of : Line → ℕ × ℕ
nodes_of (Command (Importing slot s at)) = (s, at)
nodes_of (Command (Migrating slot t at)) = (t, at)
nodes_of (Command (Drain slot s t b)) = (s, t)
nodes_of (Command (SetNode slot owner at)) = (owner, at)
nodes_of (Command (Stable slot at)) = (at, at)
nodes_of (Move first last s t b) = (s, t)

-- whether both are listed, where there are names
abbrev pub are_listed : Option Names → Line → Bool
are_listed None line = true
are_listed (Some names) line = has_node names (nodes_of line).0 && has_node names (nodes_of line).1

-- the names of a plan; no version with names has the rules of version 2
abbrev pub FitNames : (version : ℕ) → Option Names → Type 0
FitNames version None = Unit {0}
FitNames version (Some names) = (version ≢ 2) × AreNames names

abbrev pub IsPlan : PlanView → Type 0
IsPlan plan =
    IsVersion plan.version × FitNames plan.version plan.names × ArePlanLines (limits_of plan.names) plan.lines
    × AllByRecursion (FitsVersion plan.version) plan.lines

-- each node that a plan mentions is listed, as in each plan that is read; while a plan is made it may mention more
abbrev pub IsListed : PlanView → Type 0
IsListed plan = AllByRecursion (λ line. are_listed plan.names line ≡ true) plan.lines
