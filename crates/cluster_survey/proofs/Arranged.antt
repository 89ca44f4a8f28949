-- Servers that are put at the places of their names, one after the other.
use Rattle.std.proofs.Common.{◌≡◌, ℕ, ◌+◌, ◌<◌, ◌≤◌, Bool, true, false, cond, List, [], ◌∷◌, ◌++◌, length, drop, get_or}
use Rattle.std.proofs.Common.{Option, None, Some, refl, sym, subst, ap, ◌∙◌, append_assoc, append-nil, arith, nat_lt}
use Rattle.std.proofs.Common.{nat_eq, nat_le, position, ◌&&◌, ◌||◌}
use Rattle.std.specs.Cmp.Lexicographic.{other_text, pointwise, same_text}
use Rattle.std.specs.List.{All, AllByRecursion, list_any, position_or_len, swap}
use Rattle.std.specs.List.Sorted.{IsPermutation}
use Rattle.std.specs.Option.{option_or}
use Rattle.std.specs.Prelude.{is_none, IfOk, MatchResult, Result, Ok, Err}
use Rattle.std.proofs.lemmas.Bool.Decides.{nat_tests}
use Rattle.std.proofs.lemmas.List.Edits.{length-swap, swapped_from_swap}
use Rattle.std.proofs.lemmas.List.Elements.{All-from_recursion}
use Rattle.std.proofs.lemmas.List.Folds.{list_any_at, list_any_none}
use Rattle.std.proofs.lemmas.List.Quantifiers.{position-Some}
use Rattle.std.proofs.lemmas.List.Sorted.{IsPermutation-refl, IsPermutation-swap, IsPermutation-trans}
use Rattle.std.proofs.lemmas.List.Sorted.{length_permutation, list_any-IsPermutation}
use Rattle.std.proofs.lemmas.List.Sums.{fails_before_first}
use Rattle.byte_texts.specs.Words.{is}
use Rattle.listed_nodes.specs.declared.node_line.NodeLine.{NodeLine}
use Rattle.node_names.specs.Names.{AreNames, AreNext, IsNext, Names, are_below, has_name}
use Rattle.server_commands.specs.Servers.{nobody, server_at}
use Rattle.server_commands.specs.declared.book.Server.{Server}
use Rattle.cluster_survey.specs.Arranging.{AreArranged, AreNamed, arranged, name_fault, names_fault, placed}
use Rattle.cluster_survey.specs.Arranging.{put_at, strange_name}
use Rattle.cluster_survey.specs.Masters.{IsAscending}
use Rattle.cluster_views.specs.Views.{number_of}
use Rattle.cluster_survey.specs.declared.cluster_fault.ClusterFault.{ClusterFault}
use Rattle.cluster_survey.specs.declared.cluster_fault.ClusterFault.TheVariants.{BeyondMasters}
use Rattle.cluster_views.proofs.Firsts.{drop_item}

-- ---- names that can be put at their places

-- the node is one of the servers, and one of these has the name
abbrev pub IsFine : List Server → ℕ × List ℕ → Type 0
IsFine ss p = (p.0 < length ss) × (list_any (λ s. is p.1 s.name) ss ≡ true)

none_passes : (f : Server → Bool) (ss : List Server) → position f ss ≡ None → list_any f ss ≡ false
none_passes f ss e =
    let far : length ss ≤ position_or_len f ss = grind (arith, nat_tests) in
    list_any_none f ss (λ k d h. fails_before_first f ss k d (omega arith))

one_passes : (f : Server → Bool) (ss : List Server) (o : Option ℕ) → position f ss ≡ o → is_none o ≡ false
    → list_any f ss ≡ true
one_passes f ss None e there = absurd cc
one_passes f ss (Some i) e there =
    let found = position-Some f ss i nobody e in
    list_any_at f ss i nobody found.0 found.1

place_of_one : (f : Server → Bool) (ss : List Server) (o : Option ℕ) → position f ss ≡ o → list_any f ss ≡ true
    → (i : ℕ) × (position f ss ≡ Some i)
place_of_one f ss None e there =
    let no : list_any f ss ≡ false = none_passes f ss e in
    absurd cc
place_of_one f ss (Some i) e there = (i, e)

name_fine : (ls : List NodeLine) (ss : List Server) (p : ℕ × List ℕ) → name_fault ls ss p ≡ None → IsFine ss p
name_fine ls ss p e = by (is_none (number_of ss p.1)) (nat_le (length ss) p.0) refl refl e
  where
    by : (a b : Bool) → is_none (number_of ss p.1) ≡ a → nat_le (length ss) p.0 ≡ b
        → cond a (Some (strange_name ls p)) (cond b (Some (BeyondMasters p.0 (length ss))) None) ≡ None → IsFine ss p
    by true b one two e = absurd cc
    by false true one two e = absurd cc
    by false false one two e = (
      grind (arith, nat_tests),
      one_passes (λ s. is p.1 s.name) ss (number_of ss p.1) refl one,
    )

pub all_fine : (ls : List NodeLine) (ss : List Server) (names : Names) → names_fault ls ss names ≡ None
    → AllByRecursion (IsFine ss) names
all_fine ls ss [] e = tt
all_fine ls ss (p ∷ names) e = by (name_fault ls ss p) refl e (all_fine ls ss names)
  where
    by : (o : Option ClusterFault) → name_fault ls ss p ≡ o → option_or o (names_fault ls ss names) ≡ None
        → (names_fault ls ss names ≡ None → AllByRecursion (IsFine ss) names) → AllByRecursion (IsFine ss) (p ∷ names)
    by None none e rest = (name_fine ls ss p none, rest e)
    by (Some f) some e rest = absurd cc

-- the places of the nodes are there
abbrev pub AreWithin : (count : ℕ) → Names → Type 0
AreWithin count names = AllByRecursion (λ p. p.0 < count) names

pub fine_within : (ss : List Server) (names : Names) → AllByRecursion (IsFine ss) names → AreWithin (length ss) names
fine_within ss [] h = tt
fine_within ss (p ∷ names) h = (h.0.0, fine_within ss names h.1)

fine_on : (ss ts : List Server) → IsPermutation ss ts → (names : Names) → AllByRecursion (IsFine ss) names
    → AllByRecursion (IsFine ts) names
fine_on ss ts perm [] h = tt
fine_on ss ts perm (p ∷ names) h = (
  (
    omega (arith, length_permutation ss ts perm, h.0.0),
    sym (list_any-IsPermutation (λ s. is p.1 s.name) ss ts perm) ∙ h.0.1,
  ),
  fine_on ss ts perm names h.1,
)

-- ---- the same servers in another order

put_permutes : (p : ℕ × List ℕ) (ss : List Server) → p.0 < length ss → IsPermutation ss (put_at p ss)
put_permutes p ss lt = by (number_of ss p.1) refl
  where
    by : (o : Option ℕ) → number_of ss p.1 ≡ o → IsPermutation ss (placed p.0 o ss)
    by None none = IsPermutation-refl ss
    by (Some k) some =
        let found = position-Some (λ s. is p.1 s.name) ss k nobody some in
        IsPermutation-swap ss (swap ss k p.0) k p.0 found.0 lt refl

pub arranged_permutes : (names : Names) (ss : List Server) → AreWithin (length ss) names
    → IsPermutation ss (arranged names ss)
arranged_permutes [] ss h = IsPermutation-refl ss
arranged_permutes (p ∷ names) ss h =
    let put = put_permutes p ss h.0 in
    let same : length ss ≡ length (put_at p ss) = omega (arith, length_permutation ss (put_at p ss) put) in
    IsPermutation-trans ss (put_at p ss) (arranged names (put_at p ss)) put
    (arranged_permutes names (put_at p ss) (subst (λ n. AreWithin n names) same h.1))

-- ---- each at its place

abbrev pub IsNamed : List Server → ℕ × List ℕ → Type 0
IsNamed ss p = (p.0 < length ss) × ((server_at ss p.0).name ≡ p.1)

neither : (a b : Bool) → (a || b) ≡ false → (a ≡ false) × (b ≡ false)
neither true b e = absurd cc
neither false b e = (refl, e)

both : (a b : Bool) → (a && b) ≡ true → (a ≡ true) × (b ≡ true)
both true b e = (refl, e)
both false b e = absurd cc

-- the server k and the one at p's place change places: those before stay where they are
exchanged : (ss : List Server) (k : ℕ) (p : ℕ × List ℕ) → k < length ss → p.0 < length ss → (server_at ss k).name ≡ p.1
    → (before : Names) → AllByRecursion (IsNamed ss) before → are_below before p.0 ≡ true → has_name before p.1 ≡ false
    → AllByRecursion (IsNamed (swap ss k p.0)) (before ++ p ∷ [])
exchanged ss k p ltk ltn named [] h below other =
    let swapped = swapped_from_swap ss (swap ss k p.0) k p.0 nobody ltk ltn refl in
    ((omega (arith, length-swap ss k p.0, ltn), ap (λ (s : Server). s.name) swapped.1 ∙ named), tt)
exchanged ss k p ltk ltn named (q ∷ before) h below other =
    let swapped = swapped_from_swap ss (swap ss k p.0) k p.0 nobody ltk ltn refl in
    let lows = both (nat_lt q.0 p.0) (are_below before p.0) below in
    let others = neither (pointwise nat_eq q.1 p.1) (has_name before p.1) other in
    let less : q.0 < p.0 = grind (arith, nat_tests, lows.0) in
    let differs = other_text q.1 p.1 (sym others.0) in
    let here : server_at (swap ss k p.0) q.0 ≡ server_at ss q.0 = swapped.2 q.0
    (λ e. absurd (differs (sym h.0.1 ∙ ap (λ j. (server_at ss j).name) e ∙ named))) (λ e. omega (arith, e, less)) in (
      (omega (arith, length-swap ss k p.0, h.0.0), ap (λ (s : Server). s.name) here ∙ h.0.1),
      exchanged ss k p ltk ltn named before h.1 lows.1 others.1,
    )

put_named : (before : Names) (p : ℕ × List ℕ) (ss : List Server) → AllByRecursion (IsNamed ss) before → IsNext before p
    → IsFine ss p → AllByRecursion (IsNamed (put_at p ss)) (before ++ p ∷ [])
put_named before p ss h next fine =
    let at = place_of_one (λ s. is p.1 s.name) ss (number_of ss p.1) refl fine.1 in
    let found = position-Some (λ s. is p.1 s.name) ss at.0 nobody at.1 in
    let named : (server_at ss at.0).name ≡ p.1 = same_text (server_at ss at.0).name p.1 (sym found.1) in
    subst (λ ts. AllByRecursion (IsNamed ts) (before ++ p ∷ [])) (sym (ap (λ o. placed p.0 o ss) at.1))
    (exchanged ss at.0 p found.0 fine.0 named before h next.1 next.3)

all_named : (before names : Names) (ss : List Server) → AllByRecursion (IsNamed ss) before → AreNext before names
    → AllByRecursion (IsFine ss) names → AllByRecursion (IsNamed (arranged names ss)) (before ++ names)
all_named before [] ss h next fine =
    subst (λ ns. AllByRecursion (IsNamed ss) ns) (sym (append-nil before)) h
all_named before (p ∷ names) ss h next fine =
    subst (λ ns. AllByRecursion (IsNamed (arranged names (put_at p ss))) ns) (append_assoc before (p ∷ []) names)
    (all_named (before ++ p ∷ []) names (put_at p ss) (put_named before p ss h next.0 fine.0) next.1
    (fine_on ss (put_at p ss) (put_permutes p ss fine.0.0) names fine.1))

pub are_named : (ls : List NodeLine) (ss : List Server) (names : Names) → names_fault ls ss names ≡ None → AreNames names
    → AreNamed names (arranged names ss)
are_named ls ss names fine are =
    All-from_recursion (IsNamed (arranged names ss)) names (all_named [] names ss tt are (all_fine ls ss names fine))

-- ---- as the program goes over the names

-- one more name was put at its place
pub one_arranged : (names : Names) (i : ℕ) (p : ℕ × List ℕ) (ss : List Server) → i < length names → p ≡ get_or names i p
    → arranged (drop i names) ss ≡ arranged (drop (i + 1) names) (put_at p ss)
one_arranged names i p ss lt here = ap (λ ns. arranged ns ss) (drop_item names i p lt here)

-- every node is one of the servers
pub all_within : (ls : List NodeLine) (ss : List Server) (names : Names) → names_fault ls ss names ≡ None
    → All (λ p. p.0 < length ss) names
all_within ls ss names fine =
    All-from_recursion (λ (p : ℕ × List ℕ). p.0 < length ss) names (fine_within ss names (all_fine ls ss names fine))

-- the same servers in another order
pub arranged_are : (ls : List NodeLine) (ss : List Server) (names : Names) → names_fault ls ss names ≡ None
    → IsPermutation ss (arranged names ss)
arranged_are ls ss names fine = arranged_permutes names ss (fine_within ss names (all_fine ls ss names fine))

-- ---- as a book

pub book_named : (ls : List NodeLine) (names : Names) (b : List Server) → AreArranged ls names b → AreNames names
    → AreNamed names b
book_named ls names b of are = subst (AreNamed names) (sym of.whole) (are_named ls of.ascending names of.fine are)

pub book_ascending : (ls : List NodeLine) (names : Names) (b : List Server) → AreArranged ls names b → names ≡ []
    → IsAscending b
book_ascending ls names b of none =
    subst IsAscending (sym (of.whole ∙ ap (λ (ns : Names). arranged ns of.ascending) none)) of.masters.order

-- what holds where it went well
pub where_ok : {A E : Type 0} (P P' : A → Type 0) (Q : E → Type 0) (r : Result A E) → ((a : A) → P a → P' a)
    → MatchResult r P Q → IfOk r P'
where_ok P P' Q (Ok a) then h = then a h
where_ok P P' Q (Err e) then h = tt
