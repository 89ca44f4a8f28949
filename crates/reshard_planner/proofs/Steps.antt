-- What one turn of a loop adds.
use Rattle.std.proofs.Common.{◌≡◌, ◌⊎◌, ℕ, zero, suc, ◌+◌, ◌-◌, ◌*◌, ◌/◌, ◌<◌, ◌≤◌, Bool, true, false, ◌||◌, cond, eqb, List, [], ◌∷◌, ◌++◌, drop, length, get_or, map, take, replicate, set, sym, refl, ap, ◌∙◌, add-one, arith, inl, inr, get_or-set_same, get_or-set_other, append_assoc, append-nil, drop-cons, length-append}
use Rattle.std.proofs.lemmas.Bool.{cases_eq, eq-eqb, ne_eqb}
use Rattle.std.specs.List.{AllByRecursion}
use Rattle.plan_language.specs.Lines.{numbers_from}
use Rattle.reshard_planner.specs.Sums.{sum_below}
use Rattle.plan_semantics.specs.Plans.{among}
use Rattle.reshard_planner.specs.Holding.{slots_of}
use Rattle.reshard_planner.specs.Shares.{share}
use Rattle.reshard_planner.specs.Starts.{AreSlotsOf}
use Rattle.reshard_planner.specs.Transfers.{slots_given, transfers_between, nodes_taking, transfers}
use Rattle.reshard_planner.specs.Writing.{IsBetween}
use Rattle.reshard_planner.specs.declared.transfer.Transfer.{Transfer}
use Rattle.std.proofs.lemmas.List.{drop_all, get_or_default, length-map}

pub share_here : (total half whole before after a b node n : ℕ) (weight : ℕ → ℕ) → before ≡ sum_below weight node
    → after ≡ before + weight node → whole ≡ sum_below weight n → a ≡ (total * after + half) / whole
    → b ≡ (total * before + half) / whole → a - b ≡ share total half weight n node
share_here total half whole before after a b node n weight e f g h k =
    (λ i. h i - k i)
    ∙ (λ i. (total * (f ∙ ap (λ x. x + weight node) e) i + half) / g i - (total * e i + half) / g i)

pub given_more : (owners : List ℕ) (gives : ℕ → ℕ) (n : ℕ)
    → slots_given owners gives (n + 1) ≡ slots_given owners gives n ++ map (λ s. (s, n)) (take (gives n) (slots_of owners n))
given_more owners gives n = rw add-one refl

pub given_same : (owners : List ℕ) (f g : ℕ → ℕ) (n : ℕ) → ((i : ℕ) → i < n → f i ≡ g i) → slots_given owners f n ≡ slots_given owners g n
given_same owners f g zero h = refl
given_same owners f g (suc n) h =
    (λ i. given_same owners f g n (λ i k. h i (omega arith)) i ++ map (λ s. (s, n)) (take (h n (omega arith) i) (slots_of owners n)))

pub taken_same : (f g : ℕ → ℕ) (n : ℕ) → ((i : ℕ) → i < n → f i ≡ g i) → nodes_taking f n ≡ nodes_taking g n
taken_same f g zero h = refl
taken_same f g (suc n) h =
    (λ i. taken_same f g n (λ i k. h i (omega arith)) i ++ replicate (h n (omega arith) i) n)

counted_last : (first k : ℕ) → numbers_from first (suc k) ≡ numbers_from first k ++ (first + k) ∷ []
unfolding numbers_from
counted_last first zero = ap (λ x. x ∷ []) (plain first)
  where
    plain : (first : ℕ) → first ≡ first + 0
    plain first = omega arith
counted_last first (suc k) = ap (λ l. first ∷ l) (counted_last (first + 1) k
    ∙ ap (λ x. numbers_from (first + 1) k ++ x ∷ []) (along first k))
  where
    along : (first k : ℕ) → first + 1 + k ≡ first + suc k
    along first k = omega arith

pub counted_more : (first m : ℕ) → first ≤ m → numbers_from first (m + 1 - first) ≡ numbers_from first (m - first) ++ m ∷ []
counted_more first m h = ap (numbers_from first) (more first m h) ∙ counted_last first (m - first)
    ∙ ap (λ x. numbers_from first (m - first) ++ x ∷ []) (back first m h)
  where
    more : (first m : ℕ) → first ≤ m → m + 1 - first ≡ suc (m - first)
    more first m h = omega arith

    back : (first m : ℕ) → first ≤ m → first + (m - first) ≡ m
    back first m h = omega arith

pub counted_none : (first : ℕ) → numbers_from first (first - first) ≡ []
unfolding numbers_from
counted_none first = ap (numbers_from first) (none first)
  where
    none : (first : ℕ) → first - first ≡ 0
    none first = omega arith

among_next : (xs : List ℕ) (k x node : ℕ) → k < length xs → x ≡ get_or xs k x
    → among node (drop k xs) ≡ (eqb node x || among node (drop (k + 1) xs))
among_next xs k x node l is = ap (among node) (drop-cons xs k x l)
    ∙ (λ i. eqb node (sym is i) || among node (drop (sym (add-one k) i) xs))

-- a source more: what is still to come, with what is done, gives the whole
pub source_more : (xs held weights : List ℕ) (k x place node wanted : ℕ) → k < length xs → x ≡ get_or xs k x → place ≡ x
    → place < length weights
    → cond (among node (drop k xs)) (get_or held node 0) (get_or weights node 0) ≡ wanted
    → cond (among node (drop (k + 1) xs)) (get_or held node 0) (get_or (set weights place (get_or held place 0)) node 0) ≡ wanted
source_more xs held weights k x place node wanted l is here within h = elim (cases_eq node place) [
  | inl u ↦ ap (λ y. cond (among node (drop (k + 1) xs)) (get_or held node 0) y)
      (ap (λ y. get_or (set weights place (get_or held place 0)) y 0) u
      ∙ get_or-set_same weights place (get_or held place 0) 0 within ∙ ap (λ y. get_or held y 0) (sym u))
      ∙ same (among node (drop (k + 1) xs)) (get_or held node 0)
      ∙ sym (ap (λ b. cond (b || among node (drop (k + 1) xs)) (get_or held node 0) (get_or weights node 0)) (eq-eqb node x (u ∙ here)))
      ∙ before
  | inr u ↦ ap (λ y. cond (among node (drop (k + 1) xs)) (get_or held node 0) y)
      (get_or-set_other weights place node (get_or held place 0) 0 u)
      ∙ sym (ap (λ b. cond (b || among node (drop (k + 1) xs)) (get_or held node 0) (get_or weights node 0)) (ne_eqb node x (λ v. u (v ∙ sym here))))
      ∙ before
]
  where
    same : (b : Bool) (a : ℕ) → cond b a a ≡ a
    same true a = refl
    same false a = refl

    before : cond (eqb node x || among node (drop (k + 1) xs)) (get_or held node 0) (get_or weights node 0) ≡ wanted
    before = ap (λ b. cond b (get_or held node 0) (get_or weights node 0)) (sym (among_next xs k x node l is)) ∙ h

-- the slots of one node more
pub given_step : (owners gives : List ℕ) (lists : List (List ℕ)) (nodes node at place : ℕ) (list slots : List ℕ) (items new : List (ℕ × ℕ))
    → AreSlotsOf nodes owners lists → node < nodes → at ≡ node → list ≡ get_or lists at list → place ≡ node
    → slots ≡ take (get_or gives place 0) list → new ≡ items ++ map (λ s. (s, node)) slots
    → items ≡ slots_given owners (λ i. get_or gives i 0) node → new ≡ slots_given owners (λ i. get_or gives i 0) (node + 1)
given_step owners gives lists nodes node at place list slots items new h l e is f g k m =
    k ∙ (λ i. m i ++ map (λ s. (s, node)) (g i))
    ∙ (λ i. slots_given owners (λ i. get_or gives i 0) node ++ map (λ s. (s, node)) (take (get_or gives (f i) 0) (whole i)))
    ∙ sym (given_more owners (λ i. get_or gives i 0) node)
  where
    within : at < length lists
    within = let w = h.count in omega arith

    whole : list ≡ slots_of owners node
    whole = is ∙ get_or_default lists at list [] within ∙ ap (λ x. get_or lists x []) e ∙ h.are node l

-- one pair more
pub paired_more : (items new : List Transfer) (gs : List (ℕ × ℕ)) (ts : List ℕ) (k : ℕ) (g g' : ℕ × ℕ) (t : ℕ) (all : List Transfer)
    → k < length gs → k < length ts → g ≡ get_or gs k g → g' ≡ get_or gs k g' → t ≡ get_or ts k t
    → new ≡ items ++ record { slot = g.0; source = g'.1; target = t } ∷ []
    → items ++ transfers_between (drop k gs) (drop k ts) ≡ all → new ++ transfers_between (drop (k + 1) gs) (drop (k + 1) ts) ≡ all
paired_more items new gs ts k g g' t all l m is is' here e h =
    (λ i. (e ∙ ap (λ x. items ++ record { slot = g.0; source = x.1; target = t } ∷ []) same) i
    ++ transfers_between (drop (add-one k i) gs) (drop (add-one k i) ts))
    ∙ append_assoc items (record { slot = g.0; source = g.1; target = t } ∷ []) (transfers_between (drop (suc k) gs) (drop (suc k) ts))
    ∙ ap (λ l. items ++ l) (sym (λ i. transfers_between (first i) (second i))) ∙ h
  where
    same : g' ≡ g
    same = is' ∙ get_or_default gs k g' g l ∙ sym is

    first : drop k gs ≡ g ∷ drop (suc k) gs
    first = drop-cons gs k g l ∙ ap (λ x. x ∷ drop (suc k) gs) (sym is)

    second : drop k ts ≡ t ∷ drop (suc k) ts
    second = drop-cons ts k t m ∙ ap (λ x. x ∷ drop (suc k) ts) (sym here)

pub paired_all : (items : List Transfer) (gs : List (ℕ × ℕ)) (ts : List ℕ) (k : ℕ) (all : List Transfer)
    → (length gs ≤ k) ⊎ (length ts ≤ k) → items ++ transfers_between (drop k gs) (drop k ts) ≡ all → items ≡ all
paired_all items gs ts k all past h = sym (append-nil items) ∙ ap (λ l. items ++ l) (sym (none past)) ∙ h
  where
    empty : (gs : List (ℕ × ℕ)) → transfers_between gs [] ≡ []
    empty [] = refl
    empty (g ∷ gs) = refl

    none : (length gs ≤ k) ⊎ (length ts ≤ k) → transfers_between (drop k gs) (drop k ts) ≡ []
    none (inl p) = ap (λ l. transfers_between l (drop k ts)) (drop_all k gs p)
    none (inr p) = ap (transfers_between (drop k gs)) (drop_all k ts p) ∙ empty (drop k gs)

-- no more pairs than were given
length-first : {A : Type 0} (k : ℕ) (xs : List A) → length (take k xs) ≤ k
length-first zero xs = omega arith
length-first (suc k) [] = omega arith
length-first (suc k) (x ∷ xs) = let e : length (take k xs) ≤ k = length-first k xs in omega arith

length-slots_given : (owners : List ℕ) (gives : ℕ → ℕ) (n : ℕ) → length (slots_given owners gives n) ≤ sum_below gives n
unfolding sum_below
length-slots_given owners gives zero = omega arith
length-slots_given owners gives (suc n) =
    let r : length (slots_given owners gives n) ≤ sum_below gives n = length-slots_given owners gives n in
    let e = length-append (slots_given owners gives n) (map (λ s. (s, n)) (take (gives n) (slots_of owners n))) in
    let f : length (map {A = ℕ} {B = ℕ × ℕ} (λ s. (s, n)) (take (gives n) (slots_of owners n))) ≡ length (take (gives n) (slots_of owners n))
    = length-map (take (gives n) (slots_of owners n)) (λ s. (s, n)) in
    let l : length (take (gives n) (slots_of owners n)) ≤ gives n = length-first (gives n) (slots_of owners n) in omega arith

length-transfers_between : (gs : List (ℕ × ℕ)) (ts : List ℕ) → length (transfers_between gs ts) ≤ length gs
length-transfers_between [] ts = omega arith
length-transfers_between (g ∷ gs) [] = omega arith
length-transfers_between (g ∷ gs) (t ∷ ts) = let e : length (transfers_between gs ts) ≤ length gs = length-transfers_between gs ts in omega arith

pub few_transfers : (owners : List ℕ) (gives takes : ℕ → ℕ) (n : ℕ) → sum_below gives n ≤ 16384
    → length (transfers owners gives takes n) ≤ 16384
few_transfers owners gives takes n h =
    let a = length-transfers_between (slots_given owners gives n) (nodes_taking takes n) in
    let b = length-slots_given owners gives n in omega arith

-- the transfers of a cluster are between its nodes
named_among : (n m : ℕ) (gs : List (ℕ × ℕ)) → n ≤ m → AllByRecursion (λ g. g.1 < n) gs → AllByRecursion (λ g. g.1 < m) gs
named_among n m [] l h = tt
named_among n m (g ∷ gs) l h = (let k = h.0 in omega arith, named_among n m gs l h.1)

named_more : (m : ℕ) (xs ys : List (ℕ × ℕ)) → AllByRecursion (λ g. g.1 < m) xs → AllByRecursion (λ g. g.1 < m) ys
    → AllByRecursion (λ g. g.1 < m) (xs ++ ys)
named_more m [] ys h k = k
named_more m (x ∷ xs) ys h k = (h.0, named_more m xs ys h.1 k)

named_one : (m n : ℕ) (ss : List ℕ) → n < m → AllByRecursion (λ g. g.1 < m) (map {A = ℕ} {B = ℕ × ℕ} (λ s. (s, n)) ss)
named_one m n [] l = tt
named_one m n (s ∷ ss) l = (l, named_one m n ss l)

given_named : (owners : List ℕ) (gives : ℕ → ℕ) (n : ℕ) → AllByRecursion (λ g. g.1 < n) (slots_given owners gives n)
given_named owners gives zero = tt
given_named owners gives (suc n) = named_more (suc n) (slots_given owners gives n)
    (map (λ s. (s, n)) (take (gives n) (slots_of owners n)))
    (named_among n (suc n) (slots_given owners gives n) (omega arith) (given_named owners gives n))
    (named_one (suc n) n (take (gives n) (slots_of owners n)) (omega arith))

taking_among : (n m : ℕ) (ts : List ℕ) → n ≤ m → AllByRecursion (λ t. t < n) ts → AllByRecursion (λ t. t < m) ts
taking_among n m [] l h = tt
taking_among n m (t ∷ ts) l h = (let k = h.0 in omega arith, taking_among n m ts l h.1)

taking_more : (m : ℕ) (xs ys : List ℕ) → AllByRecursion (λ t. t < m) xs → AllByRecursion (λ t. t < m) ys
    → AllByRecursion (λ t. t < m) (xs ++ ys)
taking_more m [] ys h k = k
taking_more m (x ∷ xs) ys h k = (h.0, taking_more m xs ys h.1 k)

taking_one : (m n k : ℕ) → n < m → AllByRecursion (λ t. t < m) (replicate k n)
taking_one m n zero l = tt
taking_one m n (suc k) l = (l, taking_one m n k l)

taking_named : (takes : ℕ → ℕ) (n : ℕ) → AllByRecursion (λ t. t < n) (nodes_taking takes n)
taking_named takes zero = tt
taking_named takes (suc n) = taking_more (suc n) (nodes_taking takes n) (replicate (takes n) n)
    (taking_among n (suc n) (nodes_taking takes n) (omega arith) (taking_named takes n))
    (taking_one (suc n) n (takes n) (omega arith))

between_named : (n : ℕ) (gs : List (ℕ × ℕ)) (ts : List ℕ) → AllByRecursion (λ g. g.1 < n) gs → AllByRecursion (λ t. t < n) ts
    → AllByRecursion (IsBetween n) (transfers_between gs ts)
between_named n [] ts h k = tt
between_named n (g ∷ gs) [] h k = tt
between_named n (g ∷ gs) (t ∷ ts) h k = ((h.0, k.0), between_named n gs ts h.1 k.1)

pub transfers_named : (owners : List ℕ) (gives takes : ℕ → ℕ) (n : ℕ)
    → AllByRecursion (IsBetween n) (transfers owners gives takes n)
transfers_named owners gives takes n = between_named n (slots_given owners gives n) (nodes_taking takes n)
    (given_named owners gives n) (taking_named takes n)
