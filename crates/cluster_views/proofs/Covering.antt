-- The owners that a server tells, and the lowest slot without one.
use Rattle.std.proofs.Common.{◌≡◌, ℕ, zero, suc, ◌+◌, ◌<◌, Bool, true, false, cond, List, [], ◌∷◌, length, map, get_or}
use Rattle.std.proofs.Common.{Option}
use Rattle.std.proofs.Common.{None, Some, is_none, find, position, refl, sym, subst, ap, ◌∙◌, arith}
use Rattle.std.specs.List.{position_from, range_with_len}
use Rattle.std.proofs.lemmas.Iterator.Adapters.{position_from-zero}
use Rattle.std.proofs.lemmas.List.FromFn.{fill_by_all}
use Rattle.std.specs.Option.{IsSomeAnd, option_map}
use Rattle.listed_nodes.specs.declared.node_line.NodeLine.{NodeLine}
use Rattle.server_commands.specs.declared.book.Server.{Server}
use Rattle.cluster_views.specs.Numbers.{first_given, numbers_to}
use Rattle.cluster_views.specs.Views.{Says, lists, number_of, owner_said, said_by, uncovered_fault}
use Rattle.cluster_views.specs.declared.fault.SurveyFault.TheVariants as fault
use Rattle.cluster_views.proofs.Marking.{Below, below_chosen, below_or, named_below}

from_place : {A : Type 0} (p : A → Bool) (f : ℕ → A) (i n : ℕ)
    → position_from p i (map f (range_with_len i n)) ≡ find (λ k. p (f k)) (range_with_len i n)
from_place p f i zero = refl
from_place p f i (suc n) = ap (cond (p (f i)) (Some i)) (from_place p f (i + 1) n)

-- the place of the first element of a list is the first number at which f gives it
pub place_found : {A : Type 0} (p : A → Bool) (f : ℕ → A) (d : A) (xs : List A) (n : ℕ) → length xs ≡ n
    → ((k : ℕ) → k < n → get_or xs k d ≡ f k) → position p xs ≡ find (λ k. p (f k)) (numbers_to n)
unfolding numbers_to
place_found p f d xs n width each =
    position_from-zero p xs
    ∙ ap (position_from p 0) (fill_by_all f xs n d width each)
    ∙ from_place p f 0 n

-- ---- slots without an owner

pub uncovered_is : (b : List Server) (n : ℕ) (ls : List NodeLine) (row : List (Option ℕ)) → Says b ls row
    → uncovered_fault b n ls ≡ option_map (λ s. fault.Uncovered n s) (position is_none row)
uncovered_is b n ls row says =
    ap (option_map (λ s. fault.Uncovered n s))
    (sym (place_found is_none (owner_said b ls) None row 16384 says.width says.owners))

absent_from : {A : Type 0} (p : A → Bool) (d : A) (xs : List A) (i : ℕ) → position_from p i xs ≡ None → (k : ℕ)
    → k < length xs → p (get_or xs k d) ≡ false
absent_from p d [] i e k lt = absurd (omega arith)
absent_from p d (x ∷ xs) i e zero lt = by (p x) e
  where
    by : (t : Bool) → cond t (Some i) (position_from p (i + 1) xs) ≡ None → t ≡ false
    by true h = absurd cc
    by false h = refl
absent_from p d (x ∷ xs) i e (suc k) lt = absent_from p d xs (i + 1) (by (p x) e) k (omega arith)
  where
    by : (t : Bool) → cond t (Some i) (position_from p (i + 1) xs) ≡ None → position_from p (i + 1) xs ≡ None
    by true h = absurd cc
    by false h = h

owner_below : (b : List Server) (s : ℕ) (ls : List NodeLine) → Below (length b) (owner_said b ls s)
owner_below b s [] = tt
owner_below b s (l ∷ ls) =
    below_or (length b) (said_by b s l) (first_given (said_by b s) ls)
    (below_chosen (length b) (lists s l) (number_of b l.name) (named_below b l.name)) (owner_below b s ls)

there : (n : ℕ) (o : Option ℕ) → is_none o ≡ false → Below n o → IsSomeAnd o (λ m. m < n)
there n None e h = absurd cc
there n (Some m) e h = h

-- if all have one, it is one of the servers
pub all_owned : (b : List Server) (ls : List NodeLine) (row : List (Option ℕ)) → Says b ls row
    → position is_none row ≡ None → (s : ℕ) → s < 16384 → IsSomeAnd (get_or row s None) (λ m. m < length b)
all_owned b ls row says none s lt =
    there (length b) (get_or row s None)
    (absent_from is_none None row 0 (sym (position_from-zero is_none row) ∙ none) s (omega (arith, says.width)))
    (subst (Below (length b)) (sym (says.owners s lt)) (owner_below b s ls))
