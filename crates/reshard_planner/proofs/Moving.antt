-- The transfers that nodes give and take: distinct slots, each from its owner to another node.
use Rattle.std.proofs.Common.{◌≡◌, ◌≢◌, ◌⊎◌, ℕ, zero, suc, ◌<◌, ◌≤◌, false, List, [], ◌∷◌, ◌++◌, length, get_or, map, take, replicate, sym, refl, ap, ◌∙◌, subst, arith, inl, inr, length-append}
use Rattle.std.proofs.lemmas.List.{length-map, length-replicate}
use Rattle.std.proofs.lemmas.Bool.{cases_eq, false_from_ne_true}
use Rattle.std.specs.List.{AllByRecursion}
use Rattle.reshard_planner.specs.Sums.{sum_below}
use Rattle.plan_semantics.specs.Plans.{among, IsDistinct}
use Rattle.reshard_planner.specs.declared.transfer.Transfer.{Transfer}
use Rattle.reshard_planner.specs.Holding.{slots_of, held}
use Rattle.reshard_planner.specs.Transfers.{slots_given, nodes_taking, transfers_between, transfers}
use Rattle.reshard_planner.proofs.Holding.{IsSlotOf, all-append, all_first, all_map, all_of, distinct-append, distinct_first, held-append, held-replicate_other, held-replicate_same, length-slots_from, length_first, slots_are, slots_distinct}

-- a transfer of a slot from its owner to another node
pub record IsTransfer (n : ℕ) (owners : List ℕ) (t : Transfer) : Type 0 where
  pub within : t.slot < length owners
  pub owned : get_or owners t.slot 0 ≡ t.source
  pub source : t.source < n
  pub target : t.target < n
  pub apart : t.source ≢ t.target

abbrev pub slots : List Transfer → List ℕ
slots ts = map (λ t. t.slot) ts

abbrev pub sources : List Transfer → List ℕ
sources ts = map (λ t. t.source) ts

abbrev pub targets : List Transfer → List ℕ
targets ts = map (λ t. t.target) ts

-- ---- what is taken

pub length-nodes_taking : (takes : ℕ → ℕ) (n : ℕ) → length (nodes_taking takes n) ≡ sum_below takes n
unfolding sum_below
length-nodes_taking takes zero = refl
length-nodes_taking takes (suc n) =
    let e : length (nodes_taking takes n) ≡ sum_below takes n = length-nodes_taking takes n in
    let f = length-append (nodes_taking takes n) (replicate (takes n) n) in
    let g : length (replicate (takes n) n) ≡ takes n = length-replicate (takes n) n in omega arith

all_same : (P : ℕ → Type 0) (k x : ℕ) → (0 < k → P x) → AllByRecursion P (replicate k x)
all_same P zero x h = tt
all_same P (suc k) x h = (h (omega arith), all_same P k x (λ l. h (omega arith)))

-- a node that is listed takes something
abbrev pub IsTaker : (takes : ℕ → ℕ) → (n node : ℕ) → Type 0
IsTaker takes n node = (node < n) × (0 < takes node)

pub taken_by : (takes : ℕ → ℕ) (n : ℕ) → AllByRecursion (IsTaker takes n) (nodes_taking takes n)
taken_by takes zero = tt
taken_by takes (suc n) = all-append (IsTaker takes (suc n)) (nodes_taking takes n) (replicate (takes n) n)
    (all_map (IsTaker takes n) (IsTaker takes (suc n)) (λ x h. (omega (arith, h.0), h.1)) (nodes_taking takes n) (taken_by takes n))
    (all_same (IsTaker takes (suc n)) (takes n) n (λ some. (omega arith, some)))

held-taken_past : (takes : ℕ → ℕ) (n node : ℕ) → n ≤ node → held (nodes_taking takes n) node ≡ 0
held-taken_past takes zero node h = refl
held-taken_past takes (suc n) node h =
    let e : held (nodes_taking takes n) node ≡ 0 = held-taken_past takes n node (omega arith) in
    let f = held-append (nodes_taking takes n) (replicate (takes n) n) node in
    let g : held (replicate (takes n) n) node ≡ 0 = held-replicate_other (takes n) n node (less n node h) in omega arith
  where
    less : (n node : ℕ) → suc n ≤ node → n ≢ node
    less n node h e = omega arith

-- each node as many times as it takes
pub held-nodes_taking : (takes : ℕ → ℕ) (n node : ℕ) → node < n → held (nodes_taking takes n) node ≡ takes node
held-nodes_taking takes zero node h = absurd (omega arith)
held-nodes_taking takes (suc n) node h = held-append (nodes_taking takes n) (replicate (takes n) n) node ∙ elim (cases_eq n node) [
  | inl here ↦ (let e : held (nodes_taking takes n) node ≡ 0 = held-taken_past takes n node (omega arith) in
      let g : held (replicate (takes n) n) node ≡ takes node = ap (held (replicate (takes n) n)) (sym here) ∙ held-replicate_same (takes n) n ∙ ap takes here in omega arith)
  | inr apart ↦ (let e : held (nodes_taking takes n) node ≡ takes node = held-nodes_taking takes n node (omega arith) in
      let g : held (replicate (takes n) n) node ≡ 0 = held-replicate_other (takes n) n node apart in omega arith)
]

-- ---- what is given

abbrev pub slots_in : List (ℕ × ℕ) → List ℕ
slots_in gs = map (λ g. g.0) gs

abbrev pub nodes_in : List (ℕ × ℕ) → List ℕ
nodes_in gs = map (λ g. g.1) gs

map-append : (f : (ℕ × ℕ) → ℕ) (xs ys : List (ℕ × ℕ)) → map f (xs ++ ys) ≡ map f xs ++ map f ys
map-append f [] ys = refl
map-append f (x ∷ xs) ys = ap (λ l. f x ∷ l) (map-append f xs ys)

slots_tagged : (n : ℕ) (xs : List ℕ) → slots_in (map (λ s. (s, n)) xs) ≡ xs
slots_tagged n [] = refl
slots_tagged n (x ∷ xs) = ap (λ l. x ∷ l) (slots_tagged n xs)

nodes_tagged : (n : ℕ) (xs : List ℕ) → nodes_in (map (λ s. (s, n)) xs) ≡ replicate (length xs) n
nodes_tagged n [] = refl
nodes_tagged n (x ∷ xs) = ap (λ l. n ∷ l) (nodes_tagged n xs)

module _ (owners : List ℕ) (gives : ℕ → ℕ) where
  -- no node gives more than it holds
  abbrev pub AreHeld : ℕ → Type 0
  AreHeld n = (node : ℕ) → node < n → gives node ≤ held owners node

  -- the first slots of a node
  lowest : ℕ → List ℕ
  lowest node = take (gives node) (slots_of owners node)

  length-lowest : (n : ℕ) → gives n ≤ held owners n → length (lowest n) ≡ gives n
  unfolding lowest
  length-lowest n h = length_first (gives n) (slots_of owners n)
      (subst (λ k. gives n ≤ k) (sym (length-slots_from 0 owners n)) h)

  -- the nodes that give are listed as many times as they give
  pub nodes_given : (n : ℕ) → AreHeld n → nodes_in (slots_given owners gives n) ≡ nodes_taking gives n
  unfolding lowest
  nodes_given zero h = refl
  nodes_given (suc n) h =
      map-append (λ g. g.1) (slots_given owners gives n) (map (λ s. (s, n)) (lowest n))
      ∙ (λ i. nodes_given n (λ node l. h node (omega arith)) i ++ nodes_tagged n (lowest n) i)
      ∙ ap (λ k. nodes_taking gives n ++ replicate k n) (length-lowest n (h n (omega arith)))

  pub length-slots_given : (n : ℕ) → AreHeld n → length (slots_given owners gives n) ≡ sum_below gives n
  length-slots_given n h = sym (length-map (slots_given owners gives n) (λ g. g.1)) ∙ ap length (nodes_given n h) ∙ length-nodes_taking gives n

  abbrev pub IsGiven : (ℕ × ℕ) → Type 0
  IsGiven g = IsSlotOf owners g.1 g.0

  tagged : (n : ℕ) (xs : List ℕ) → AllByRecursion (IsSlotOf owners n) xs → AllByRecursion IsGiven (map (λ s. (s, n)) xs)
  tagged n [] h = tt
  tagged n (x ∷ xs) h = (h.0, tagged n xs h.1)

  pub given_owned : (n : ℕ) → AllByRecursion IsGiven (slots_given owners gives n)
  unfolding lowest
  given_owned zero = tt
  given_owned (suc n) = all-append IsGiven (slots_given owners gives n) (map (λ s. (s, n)) (lowest n)) (given_owned n)
      (tagged n (lowest n) (all_first (IsSlotOf owners n) (gives n) (slots_of owners n) (slots_are owners n)))

  -- the slots that are given are those of the first nodes
  IsOfFirst : ℕ → ℕ → Type 0
  IsOfFirst n s = get_or owners s 0 < n

  slots_first : (n : ℕ) → AllByRecursion (IsOfFirst n) (slots_in (slots_given owners gives n))
  unfolding lowest IsOfFirst
  slots_first zero = tt
  slots_first (suc n) =
      subst (AllByRecursion (IsOfFirst (suc n)))
      (sym (map-append (λ g. g.0) (slots_given owners gives n) (map (λ s. (s, n)) (lowest n))
      ∙ ap (λ l. slots_in (slots_given owners gives n) ++ l) (slots_tagged n (lowest n))))
      (all-append (IsOfFirst (suc n)) (slots_in (slots_given owners gives n)) (lowest n)
      (all_map (IsOfFirst n) (IsOfFirst (suc n)) (λ s l. (omega arith)) (slots_in (slots_given owners gives n)) (slots_first n))
      (all_map (IsSlotOf owners n) (IsOfFirst (suc n)) (λ s h. next n s h.1) (lowest n)
      (all_first (IsSlotOf owners n) (gives n) (slots_of owners n) (slots_are owners n))))
    where
      next : (n s : ℕ) → get_or owners s 0 ≡ n → get_or owners s 0 < suc n
      next n s e = omega arith

  pub given_distinct : (n : ℕ) → IsDistinct (slots_in (slots_given owners gives n))
  unfolding lowest IsOfFirst
  given_distinct zero = tt
  given_distinct (suc n) =
      subst IsDistinct
      (sym (map-append (λ g. g.0) (slots_given owners gives n) (map (λ s. (s, n)) (lowest n))
      ∙ ap (λ l. slots_in (slots_given owners gives n) ++ l) (slots_tagged n (lowest n))))
      (distinct-append (slots_in (slots_given owners gives n)) (lowest n) (given_distinct n)
      (distinct_first (gives n) (slots_of owners n) (slots_distinct owners n))
      (all_map (IsOfFirst n) (λ x. among x (lowest n) ≡ false) (λ s l. elsewhere n s l)
      (slots_in (slots_given owners gives n)) (slots_first n)))
    where
      off : (n s : ℕ) → get_or owners s 0 < n → get_or owners s 0 ≡ n → ⊥
      off n s l e = omega arith

      elsewhere : (n s : ℕ) → IsOfFirst n s → among s (lowest n) ≡ false
      elsewhere n s l = false_from_ne_true (among s (lowest n)) (λ e. off n s l (all_of (IsSlotOf owners n) s (lowest n)
          (all_first (IsSlotOf owners n) (gives n) (slots_of owners n) (slots_are owners n)) e).1)

-- ---- both

pub slots_paired : (gs : List (ℕ × ℕ)) (ts : List ℕ) → length gs ≡ length ts → slots (transfers_between gs ts) ≡ slots_in gs
slots_paired [] ts e = refl
slots_paired (g ∷ gs) [] e = absurd (omega arith)
slots_paired (g ∷ gs) (t ∷ ts) e = ap (λ l. g.0 ∷ l) (slots_paired gs ts (omega arith))

pub sources_paired : (gs : List (ℕ × ℕ)) (ts : List ℕ) → length gs ≡ length ts → sources (transfers_between gs ts) ≡ nodes_in gs
sources_paired [] ts e = refl
sources_paired (g ∷ gs) [] e = absurd (omega arith)
sources_paired (g ∷ gs) (t ∷ ts) e = ap (λ l. g.1 ∷ l) (sources_paired gs ts (omega arith))

pub targets_paired : (gs : List (ℕ × ℕ)) (ts : List ℕ) → length gs ≡ length ts → targets (transfers_between gs ts) ≡ ts
targets_paired [] [] e = refl
targets_paired [] (t ∷ ts) e = absurd (omega arith)
targets_paired (g ∷ gs) [] e = absurd (omega arith)
targets_paired (g ∷ gs) (t ∷ ts) e = ap (λ l. t ∷ l) (targets_paired gs ts (omega arith))

module _ (n : ℕ) (owners : List ℕ) (gives takes : ℕ → ℕ) where
  -- what is given is there and is taken, and no node gives and takes
  pub record AreMoves : Type 0 where
    pub held : AreHeld owners gives n
    pub balanced : sum_below gives n ≡ sum_below takes n
    pub one_way : (node : ℕ) → node < n → (gives node ≡ 0) ⊎ (takes node ≡ 0)

  each : (gs : List (ℕ × ℕ)) (ts : List ℕ) → ((node : ℕ) → node < n → (gives node ≡ 0) ⊎ (takes node ≡ 0))
      → AllByRecursion (IsGiven owners gives) gs → AllByRecursion (IsTaker gives n) (nodes_in gs)
      → AllByRecursion (IsTaker takes n) ts → AllByRecursion (IsTransfer n owners) (transfers_between gs ts)
  each [] ts one_way h f g = tt
  each (x ∷ gs) [] one_way h f g = tt
  each (x ∷ gs) (t ∷ ts) one_way h f g = (
    record {
      within = h.0.0;
      owned = h.0.1;
      source = f.0.0;
      target = g.0.0;
      apart = λ e. elim (one_way t g.0.0) [
        | inl none ↦ absurd (omega (arith, ap gives e, f.0.1))
        | inr none ↦ absurd (omega (arith, g.0.1))
      ];
    },
    each gs ts one_way h.1 f.1 g.1,
  )

  module _ (m : AreMoves) where
    lengths : length (slots_given owners gives n) ≡ length (nodes_taking takes n)
    lengths = length-slots_given owners gives n m.held ∙ m.balanced ∙ sym (length-nodes_taking takes n)

    pub are_transfers : AllByRecursion (IsTransfer n owners) (transfers owners gives takes n)
    are_transfers = each (slots_given owners gives n) (nodes_taking takes n) m.one_way (given_owned owners gives n)
        (subst (AllByRecursion (IsTaker gives n)) (sym (nodes_given owners gives n m.held)) (taken_by gives n))
        (taken_by takes n)

    pub are_distinct : IsDistinct (slots (transfers owners gives takes n))
    are_distinct = subst IsDistinct (sym (slots_paired (slots_given owners gives n) (nodes_taking takes n) lengths))
        (given_distinct owners gives n)

    pub length-transfers : length (transfers owners gives takes n) ≡ sum_below gives n
    length-transfers = sym (length-map (transfers owners gives takes n) (λ t. t.slot))
        ∙ ap length (slots_paired (slots_given owners gives n) (nodes_taking takes n) lengths)
        ∙ length-map (slots_given owners gives n) (λ g. g.0) ∙ length-slots_given owners gives n m.held

    pub held-sources : (node : ℕ) → node < n → held (sources (transfers owners gives takes n)) node ≡ gives node
    held-sources node h = ap (λ l. held l node)
        (sources_paired (slots_given owners gives n) (nodes_taking takes n) lengths ∙ nodes_given owners gives n m.held)
        ∙ held-nodes_taking gives n node h

    pub held-targets : (node : ℕ) → node < n → held (targets (transfers owners gives takes n)) node ≡ takes node
    held-targets node h = ap (λ l. held l node) (targets_paired (slots_given owners gives n) (nodes_taking takes n) lengths)
        ∙ held-nodes_taking takes n node h

    -- each transfer is of a slot of a node that gives, to a node that takes
    pub all_exchanged : AllByRecursion (λ t. (0 < gives t.source) × (0 < takes t.target)) (transfers owners gives takes n)
    all_exchanged = both (slots_given owners gives n) (nodes_taking takes n)
        (subst (AllByRecursion (IsTaker gives n)) (sym (nodes_given owners gives n m.held)) (taken_by gives n))
        (taken_by takes n)
      where
        both : (gs : List (ℕ × ℕ)) (ts : List ℕ) → AllByRecursion (IsTaker gives n) (nodes_in gs)
            → AllByRecursion (IsTaker takes n) ts
            → AllByRecursion (λ t. (0 < gives t.source) × (0 < takes t.target)) (transfers_between gs ts)
        both [] ts f g = tt
        both (x ∷ gs) [] f g = tt
        both (x ∷ gs) (t ∷ ts) f g = ((f.0.1, g.0.1), both gs ts f.1 g.1)
