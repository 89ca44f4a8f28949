-- What is within the limits of replies, for the encoder and for its callers.
use Rattle.std.proofs.Common.{ℕ, ◌-◌, List, [], ◌∷◌, ◌++◌}
use Rattle.resp2_wire.specs.declared.reply.Reply.{Reply}
use Rattle.resp2_wire.specs.Tree.{Tree, simple, error, number, bulk, null, null_array, array, Trees, none, more}
use Rattle.resp2_wire.specs.View.{tree, trees}
use Rattle.resp2_wire.specs.Stream.{Words}
use Rattle.resp2_wire.specs.RequestLaws.{bulks}
use Rattle.resp2_wire.specs.Limits.{Within, AllWithin, Typed, AllTyped, Fits, AllFit}

-- within the limits and of the program's types
mutual
  pub fits : (depth : ℕ) (t : Tree) → Within depth t → Typed t → Fits depth t
  fits depth (simple t) h k = h
  fits depth (error t) h k = h
  fits depth (number n) h k = k
  fits depth (bulk t) h k = k
  fits depth null h k = tt
  fits depth null_array h k = h
  fits depth (array ts) h k = (h.0, h.1, all_fit (depth - 1) ts h.2 k)

  all_fit : (depth : ℕ) (ts : Trees) → AllWithin depth ts → AllTyped ts → AllFit depth ts
  all_fit depth none h k = tt
  all_fit depth (more t ts) h k = (fits depth t h.0 k.0, all_fit depth ts h.1 k.1)

-- what fits is within the limits
mutual
  pub within : (depth : ℕ) (t : Tree) → Fits depth t → Within depth t
  within depth (simple t) h = h
  within depth (error t) h = h
  within depth (number n) h = tt
  within depth (bulk t) h = tt
  within depth null h = tt
  within depth null_array h = h
  within depth (array ts) h = (h.0, h.1, all_within (depth - 1) ts h.2)

  all_within : (depth : ℕ) (ts : Trees) → AllFit depth ts → AllWithin depth ts
  all_within depth none h = tt
  all_within depth (more t ts) h = (within depth t h.0, all_within depth ts h.1)

-- an array of bulk strings, and one more reply at the end of an array
pub AllWithin-bulks : (depth : ℕ) (ws : Words) → AllWithin depth (bulks ws)
AllWithin-bulks depth [] = tt
AllWithin-bulks depth (w ∷ ws) = (tt, AllWithin-bulks depth ws)

pub AllWithin-push : (depth : ℕ) (xs : List Reply) (x : Reply) → AllWithin depth (trees xs) → Within depth (tree x) → AllWithin depth (trees (xs ++ x ∷ []))
AllWithin-push depth [] x h k = (k, tt)
AllWithin-push depth (y ∷ xs) x h k = (h.0, AllWithin-push depth xs x h.1 k)
