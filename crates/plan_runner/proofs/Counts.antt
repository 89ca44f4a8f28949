-- The lines of a plan count as no more by the limits of few nodes than by its own.
use Rattle.std.proofs.Common.{◌≡◌, ℕ, ◌+◌, ◌-◌, ◌*◌, ◌≤◌, List, [], ◌∷◌, Option, None, Some, refl, arith}
use Rattle.node_names.specs.Names.{Names}
use Rattle.plan_language.specs.Limits.{few, many, limits_of}
use Rattle.plan_language.specs.Lines.{count, line_count, ArePlanLines}
use Rattle.plan_language.specs.declared.line.Line.{Line}
use Rattle.plan_language.specs.declared.line.Line.TheVariants.{Command, Move}

line_fewer : (line : Line) → line_count few line ≤ line_count many line
line_fewer (Command command) = omega arith
line_fewer (Move first last s t b) =
    let x : line_count few (Move first last s t b) ≡ 11 * (last + 1 - first) = refl in
    let y : line_count many (Move first last s t b) ≡ 258 * (last + 1 - first) = refl in omega (arith, x, y)

fewer : (lines : List Line) → count few lines ≤ count many lines
fewer [] = omega arith
fewer (line ∷ lines) = let a = line_fewer line in let b = fewer lines in omega (arith, a, b)

pub few_are_fewer : (names : Option Names) (lines : List Line) → ArePlanLines (limits_of names) lines
    → count few lines ≤ 4227072
few_are_fewer None lines are = let most : count few lines ≤ 200000 = are.1 in omega (arith, most)
few_are_fewer (Some names) lines are =
    let a = fewer lines in let most : count many lines ≤ 4227072 = are.1 in omega (arith, a, most)
