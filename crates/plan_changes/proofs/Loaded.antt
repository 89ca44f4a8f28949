-- The load of what is left of a plan, beside the load so far.
use Rattle.std.proofs.Common.{◌≡◌, ◌≤◌, ◌<◌, ℕ, ◌+◌, ◌*◌, List, [], ◌∷◌, arith, refl, subst}
use Rattle.std.specs.Prelude.{min}
use Rattle.plan_language.specs.declared.plan_command.PlanCommand.{PlanCommand}
use Rattle.plan_language.specs.declared.plan_command.PlanCommand.TheVariants.{Importing, Migrating, Drain, SetNode, Stable}
use Rattle.plan_semantics.specs.Costs.{rounds}
use Rattle.plan_changes.specs.Loads.{commands_in, keys_at, keys_in, load_of, most, moves_in}
use Rattle.plan_changes.specs.LoadSteps.{with_command}
use Rattle.plan_changes.specs.declared.load.PlanLoad.{PlanLoad}

-- the load so far with that of what is left is that of the whole
pub record Carries (ks : List ℕ) (whole left : List PlanCommand) (l : PlanLoad) : Type 0 where
  pub moves : most (l.moves + moves_in left) ≡ most (moves_in whole)
  pub keys : most (l.keys + keys_in ks left) ≡ most (keys_in ks whole)
  pub commands : most (l.commands + commands_in ks left) ≡ most (commands_in ks whole)
  pub fits_moves : l.moves ≤ 18446744073709551615
  pub fits_keys : l.keys ≤ 18446744073709551615
  pub fits_commands : l.commands ≤ 18446744073709551615

more : (a b c : ℕ) → most (most (a + b) + c) ≡ most (a + (b + c))
more a b c = omega arith

counts_on : (ks : List ℕ) (whole left : List PlanCommand) (l : PlanLoad)
    → most (l.moves + moves_in left) ≡ most (moves_in whole) → most (l.keys + keys_in ks left) ≡ most (keys_in ks whole)
    → most (l.commands + (1 + commands_in ks left)) ≡ most (commands_in ks whole) → l.moves ≤ 18446744073709551615
    → l.keys ≤ 18446744073709551615 → Carries ks whole left (record l { commands = most (l.commands + 1) })
counts_on ks whole left l moves keys commands fits_moves fits_keys = record {
  moves = moves;
  keys = keys;
  commands = omega (arith, more l.commands 1 (commands_in ks left), commands);
  fits_moves = fits_moves;
  fits_keys = fits_keys;
  fits_commands = omega (arith);
}

pub carries_on : (ks : List ℕ) (whole left : List PlanCommand) (o : PlanCommand) (l : PlanLoad) → Carries ks whole (o ∷ left) l
    → Carries ks whole left (with_command ks o l)
carries_on ks whole left (Drain s m t b) l c =
    let k : ℕ = keys_at ks s in
    record {
      moves = omega (arith, more l.moves 1 (moves_in left), c.moves);
      keys = omega (arith, more l.keys k (keys_in ks left), c.keys);
      commands = omega (arith, more l.commands (2 * rounds b k + 1) (commands_in ks left), c.commands);
      fits_moves = omega (arith);
      fits_keys = omega (arith);
      fits_commands = omega (arith);
    }
carries_on ks whole left (Importing s m at) l c = counts_on ks whole left l c.moves c.keys c.commands c.fits_moves c.fits_keys
carries_on ks whole left (Migrating s m at) l c = counts_on ks whole left l c.moves c.keys c.commands c.fits_moves c.fits_keys
carries_on ks whole left (SetNode s m at) l c = counts_on ks whole left l c.moves c.keys c.commands c.fits_moves c.fits_keys
carries_on ks whole left (Stable s at) l c = counts_on ks whole left l c.moves c.keys c.commands c.fits_moves c.fits_keys

loads_alike : (m m' k k' c c' : ℕ) → m ≡ m' → k ≡ k' → c ≡ c' → ◌≡◌ {A = PlanLoad} (record { moves = m; keys = k; commands = c }) (record { moves = m'; keys = k'; commands = c' })
loads_alike m m' k k' c c' p q r = λ i. record { moves = p i; keys = q i; commands = r i }

within : (a b : ℕ) → a ≤ 18446744073709551615 → most (a + 0) ≡ b → a ≡ b
within a b low e = omega (arith, low, e)

pub carried : (ks : List ℕ) (whole left : List PlanCommand) (l : PlanLoad) → left ≡ [] → Carries ks whole left l
    → l ≡ load_of ks whole
carried ks whole left l is c =
    loads_alike l.moves (most (moves_in whole)) l.keys (most (keys_in ks whole)) l.commands (most (commands_in ks whole))
    (within l.moves _ c.fits_moves (subst (λ (x : List PlanCommand). most (l.moves + moves_in x) ≡ most (moves_in whole)) is c.moves))
    (within l.keys _ c.fits_keys (subst (λ (x : List PlanCommand). most (l.keys + keys_in ks x) ≡ most (keys_in ks whole)) is c.keys))
    (within l.commands _ c.fits_commands (subst (λ (x : List PlanCommand). most (l.commands + commands_in ks x) ≡ most (commands_in ks whole)) is c.commands))
