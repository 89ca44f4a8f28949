-- The section of the commands: how many there are of each kind, and how many calls they take.
use Rattle.std.specs.Prelude.{ℕ, ◌+◌, ◌==◌, List, [], ◌∷◌, ◌++◌, Option, None, Some, cond, codes, decimal}
use Rattle.plan_outlines.specs.declared.counts.CommandCounts.{CommandCounts}
use Rattle.plan_outlines.specs.declared.counts.KeyLoad.{KeyLoad}
use Rattle.plan_outlines.specs.declared.outline.PlanOutline.{PlanOutline}
use Rattle.plan_pages.specs.Words.{key_word, right}

unfoldable pub commands_heading : List ℕ
commands_heading = codes "\ncommands\n"

-- `     1365 SETSLOT NODE`
unfoldable pub count_line : (count : ℕ) (word : List ℕ) → List ℕ
count_line n word = right 9 (decimal n) ++ word

unfoldable pub importing_word : List ℕ
importing_word = codes " SETSLOT IMPORTING\n"

unfoldable pub migrating_word : List ℕ
migrating_word = codes " SETSLOT MIGRATING\n"

unfoldable pub node_word : List ℕ
node_word = codes " SETSLOT NODE\n"

unfoldable pub stable_word : List ℕ
stable_word = codes " SETSLOT STABLE\n"

unfoldable pub known_word : List ℕ
known_word = codes " calls at most, if no slot holds more keys than now\n          when its move begins\n"

unfoldable pub unknown_word : List ℕ
unknown_word = codes " calls at most where slots hold no keys;\n          each batch of keys takes two more\n"

-- ` to 100`, or nothing where all batches are alike
abbrev pub most_part : (least most : ℕ) → List ℕ
most_part a b = cond (a == b) [] (codes " to " ++ decimal b)

unfoldable pub batches_word : List ℕ
batches_word = codes ", in batches of "

-- `, in batches of 10 to 100 keys`
unfoldable pub batches_text : (least most : ℕ) → List ℕ
batches_text a b = batches_word ++ (decimal a ++ (most_part a b ++ key_word b))

-- nothing where nothing is drained
abbrev pub batches_part : (drains least most : ℕ) → List ℕ
batches_part n a b = cond (n == 0) [] (batches_text a b)

-- `     1365 drains, in batches of 10 to 100 keys`
unfoldable pub drains_line : (drains least most : ℕ) → List ℕ
drains_line n a b = right 9 (decimal n) ++ (codes " drains" ++ (batches_part n a b ++ 10 ∷ []))

-- all commands
abbrev pub commands_of : CommandCounts → ℕ
commands_of c = c.importing + c.migrating + c.drain + c.node + c.stable

abbrev pub calls_line : CommandCounts → Option KeyLoad → List ℕ
calls_line c None = count_line (commands_of c) unknown_word
calls_line c (Some l) = count_line l.calls known_word

unfoldable pub commands_section : PlanOutline → List ℕ
commands_section o = commands_heading ++ (count_line o.counts.importing importing_word
    ++ (count_line o.counts.migrating migrating_word ++ (drains_line o.counts.drain o.least_batch o.most_batch
    ++ (count_line o.counts.node node_word ++ (count_line o.counts.stable stable_word ++ calls_line o.counts o.load)))))
