-- What is read of a list in words.
use Rattle.std.proofs.Common.{◌≡◌, ℕ, suc, ◌+◌, ◌<◌, ◌≤◌, Bool, true, false, cond, not, List, [], ◌∷◌, ◌++◌, length, drop, refl, sym, ap, ◌∙◌, arith, map, append_assoc, append-nil, get_or, Bor, ◌==◌}
use Rattle.std.specs.Prelude.{Option, Some, None, option_map}
use Rattle.std.proofs.lemmas.Bool.{true≢false}
use Rattle.std.proofs.lemmas.List.{drop_all, drop_more}
use Rattle.cluster_cli.specs.NodeLists.{all_read, others}

abbrev pub texts : List (Bor (List ℕ)) → List (List ℕ)
texts ws = map (λ w. w.now) ws

-- ---- what is read so far, and what is still to be read

abbrev pub goes_on : List ℕ → Option (List ℕ) → Option (List ℕ)
goes_on found rest = option_map (λ xs. found ++ xs) rest

pub one_more_read : (read : List ℕ → Option ℕ) (found : List ℕ) (x : ℕ) (p : List ℕ) (ps : List (List ℕ)) → read p ≡ Some x
    → goes_on found (all_read read (p ∷ ps)) ≡ goes_on (found ++ x ∷ []) (all_read read ps)
unfolding all_read
one_more_read read found x p ps is = rw is (go (all_read read ps))
  where
    go : (o : Option (List ℕ)) → option_map (λ xs. found ++ xs) (option_map (λ xs. x ∷ xs) o) ≡ option_map (λ xs. (found ++ x ∷ []) ++ xs) o
    go None = refl
    go (Some xs) = ap (λ t. Some t) (sym (append_assoc found (x ∷ []) xs))

pub none_read : (read : List ℕ → Option ℕ) (found : List ℕ) (p : List ℕ) (ps : List (List ℕ)) → read p ≡ None
    → goes_on found (all_read read (p ∷ ps)) ≡ None
unfolding all_read
none_read read found p ps is = rw is refl

pub nothing_read_yet : (rest : Option (List ℕ)) → goes_on [] rest ≡ rest
nothing_read_yet None = refl
nothing_read_yet (Some xs) = refl

pub whole_read : (read : List ℕ → Option ℕ) (found : List ℕ) → goes_on found (all_read read []) ≡ Some found
unfolding all_read
whole_read read found = ap (λ xs. Some xs) (append-nil found)

-- the words before a place are read, and then that at the place
module _ (read : List ℕ → Option ℕ) (found : List ℕ) (words : List (Bor (List ℕ))) (i : ℕ) (whole : Option (List ℕ))
    (so_far : goes_on found (all_read read (texts (drop i words))) ≡ whole) where
  to_next : (d : Bor (List ℕ)) → i < length words
      → goes_on found (all_read read ((get_or words i d).now ∷ texts (drop (i + 1) words))) ≡ whole
  to_next d within = sym (ap (λ ws. goes_on found (all_read read (texts ws))) (drop_more words i d within)) ∙ so_far

  pub read_on : (d : Bor (List ℕ)) (x : ℕ) (more : List ℕ) → i < length words → read (get_or words i d).now ≡ Some x → more ≡ found ++ x ∷ []
      → goes_on more (all_read read (texts (drop (i + 1) words))) ≡ whole
  read_on d x more within is grown =
      ap (λ f. goes_on f (all_read read (texts (drop (i + 1) words)))) grown
      ∙ sym (one_more_read read found x (get_or words i d).now (texts (drop (i + 1) words)) is) ∙ to_next d within

  pub read_stops : (d : Bor (List ℕ)) → i < length words → read (get_or words i d).now ≡ None → ◌≡◌ {A = Option (List ℕ)} None whole
  read_stops d within is = sym (none_read read found (get_or words i d).now (texts (drop (i + 1) words)) is) ∙ to_next d within

  pub read_to_end : length words ≤ i → ◌≡◌ {A = Option (List ℕ)} (Some found) whole
  read_to_end past = sym (ap (λ ws. goes_on found (all_read read (texts ws))) (drop_all i words past) ∙ whole_read read found) ∙ so_far

-- ---- every node but one

pub no_other : (target : ℕ) → others 0 target ≡ []
unfolding others
no_other target = refl

pub one_other : (k target : ℕ) → others (k + 1) target ≡ others k target ++ cond (k == target) [] (k ∷ [])
unfolding others
one_other k target = ap (λ n. others n target) next
  where
    next : k + 1 ≡ suc k
    next = omega arith

pub other_taken : (k target : ℕ) (found more : List ℕ) → found ≡ others k target → (k == target) ≡ false → more ≡ found ++ k ∷ [] → more ≡ others (k + 1) target
other_taken k target found more e differ is =
    is ∙ ap (λ xs. xs ++ k ∷ []) e ∙ sym (one_other k target ∙ ap (λ b. others k target ++ cond b [] (k ∷ [])) differ)

pub other_left : (k target : ℕ) (found more : List ℕ) → found ≡ others k target → (k == target) ≡ true → more ≡ found → more ≡ others (k + 1) target
other_left k target found more e alike is =
    is ∙ e ∙ sym (one_other k target ∙ ap (λ b. others k target ++ cond b [] (k ∷ [])) alike ∙ append-nil (others k target))

pub differs : (b ne : Bool) → ne ≡ not b → ne ≡ true → b ≡ false
differs true ne is held = absurd (true≢false (sym held ∙ is))
differs false ne is held = refl

pub alike : (b ne : Bool) → ne ≡ not b → ne ≡ false → b ≡ true
alike true ne is none = refl
alike false ne is none = absurd (true≢false (sym is ∙ none))
