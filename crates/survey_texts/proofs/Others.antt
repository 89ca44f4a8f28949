-- The first ID that is not the server's.
use Rattle.std.proofs.Common.{◌≡◌, ℕ, ◌+◌, ◌<◌, ◌≤◌, Bool, true, false, cond, List, [], ◌∷◌, length, drop, get_or}
use Rattle.std.proofs.Common.{Option, Some}
use Rattle.std.proofs.Common.{not, inl, inr, refl, sym, ap, ◌∙◌, arith}
use Rattle.std.proofs.lemmas.Bool.{cases_lt, lt-ltb}
use Rattle.std.proofs.lemmas.Bool.Decides.{nat_tests}
use Rattle.std.proofs.lemmas.List.{get_or_default}
use Rattle.std.specs.Prelude.{nat_lt}
use Rattle.server_commands.specs.Servers.{nobody}
use Rattle.server_commands.specs.declared.book.Server.{Server}
use Rattle.byte_texts.specs.Words.{is}
use Rattle.cluster_views.proofs.Firsts.{drop_end, drop_item}
use Rattle.survey_texts.specs.Expecting.{first_other}

-- neither has this place
pub none_there : (n i : ℕ) (ids : List (List ℕ)) (ss : List Server) → length ss ≤ i → length ids ≤ i
    → first_other n (drop i ids) (drop i ss) ≡ first_other (n + 1) (drop (i + 1) ids) (drop (i + 1) ss)
none_there n i ids ss a b =
    rw (drop_end ids i b, drop_end ss i a, drop_end ids (i + 1) (omega arith), drop_end ss (i + 1) (omega arith)) refl

pub id_alone : (n i : ℕ) (ids : List (List ℕ)) (ss : List Server) → length ss ≤ i → i < length ids
    → first_other n (drop i ids) (drop i ss) ≡ Some n
id_alone n i ids ss a b =
    let name = get_or ids i [] in
    let begins : drop i ids ≡ name ∷ drop (i + 1) ids =
    drop_item ids i name b (get_or_default ids i [] name b) in
    rw (drop_end ss i a, begins) refl

-- the server is not there
pub without_server : (n i : ℕ) (ids : List (List ℕ)) (ss : List Server) → length ss ≤ i
    → first_other n (drop i ids) (drop i ss)
    ≡ cond (nat_lt i (length ids)) (Some n) (first_other (n + 1) (drop (i + 1) ids) (drop (i + 1) ss))
without_server n i ids ss a = elim (cases_lt i (length ids)) [
  | inl lt ↦ id_alone n i ids ss a lt
      ∙ ap (λ b. cond b (Some n) (first_other (n + 1) (drop (i + 1) ids) (drop (i + 1) ss)))
      (sym (lt-ltb i (length ids) lt))
  | inr ge ↦ none_there n i ids ss a ge
      ∙ ap (λ b. cond b (Some n) (first_other (n + 1) (drop (i + 1) ids) (drop (i + 1) ss))) (sym (ge_ltb i (length ids) ge))
]
  where
    ge_ltb : (k m : ℕ) → m ≤ k → nat_lt k m ≡ false
    ge_ltb k m le = grind (arith, nat_tests)

pub server_alone : (n i : ℕ) (ids : List (List ℕ)) (ss : List Server) → i < length ss → length ids ≤ i
    → first_other n (drop i ids) (drop i ss) ≡ Some n
server_alone n i ids ss a b =
    let s = get_or ss i nobody in
    let begins : drop i ss ≡ s ∷ drop (i + 1) ss = drop_item ss i s a (get_or_default ss i nobody s a) in
    rw (drop_end ids i b, begins) refl

pub both_there : (n i : ℕ) (ids : List (List ℕ)) (ss : List Server) (name : List ℕ) (s : Server) → i < length ss
    → i < length ids → s ≡ get_or ss i s → name ≡ get_or ids i name
    → first_other n (drop i ids) (drop i ss)
    ≡ cond (is s.name name) (first_other (n + 1) (drop (i + 1) ids) (drop (i + 1) ss)) (Some n)
both_there n i ids ss name s a b is named =
    let begins : drop i ss ≡ s ∷ drop (i + 1) ss = drop_item ss i s a is in
    let first : drop i ids ≡ name ∷ drop (i + 1) ids = drop_item ids i name b named in
    rw (begins, first) refl

-- by the test that the two differ
pub both_differ : (n i : ℕ) (ids : List (List ℕ)) (ss : List Server) (name : List ℕ) (s : Server) (b : Bool)
    → i < length ss → i < length ids → s ≡ get_or ss i s → name ≡ get_or ids i name → b ≡ is s.name name
    → first_other n (drop i ids) (drop i ss)
    ≡ cond (not b) (Some n) (first_other (n + 1) (drop (i + 1) ids) (drop (i + 1) ss))
both_differ n i ids ss name s b lt less is named test =
    both_there n i ids ss name s lt less is named
    ∙ ap (λ t. cond t (first_other (n + 1) (drop (i + 1) ids) (drop (i + 1) ss)) (Some n)) (sym test)
    ∙ turned b (first_other (n + 1) (drop (i + 1) ids) (drop (i + 1) ss)) (Some n)
  where
    turned : (t : Bool) (x y : Option ℕ) → cond t x y ≡ cond (not t) y x
    turned true x y = refl
    turned false x y = refl
