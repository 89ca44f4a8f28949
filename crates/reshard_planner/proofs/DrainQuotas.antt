-- What drains leave: the sources are empty, no slot of another node moves, and the targets are level.
use Rattle.std.proofs.Common.{◌≡◌, ◌≢◌, ◌⊎◌, ℕ, zero, suc, ◌+◌, ◌<◌, ◌≤◌, Bool, true, false, cond, eqb, nat_lt}
use Rattle.std.proofs.Common.{◌||◌, List, [], ◌∷◌, length, get_or, sym, refl, ap, ◌∙◌, subst}
use Rattle.std.proofs.Common.{arith, inl, inr, drop, set, get_or-set_same, get_or-set_other}
use Rattle.std.proofs.lemmas.List.{drop_all, drop_more}
use Rattle.std.proofs.lemmas.Bool.{cases_eq, cond-true, cond-false, eq-eqb, eqb-true, ne_eqb, or_cases, or_left}
use Rattle.std.proofs.lemmas.Bool.{or_parts, or_right, ltb-true, ltb-false, lt-ltb, le-ltb, true≢false}
use Rattle.std.specs.List.{AllByRecursion}
use Rattle.key_slots.specs.Owners.{Owners}
use Rattle.plan_semantics.specs.Plans.{among}
use Rattle.reshard_planner.specs.Draining.{are_mixed, drain_quota, emptied, filled, least, lesser}
use Rattle.reshard_planner.specs.Holding.{held}
use Rattle.reshard_planner.specs.Shares.{source_weight, sources_hold}
use Rattle.reshard_planner.specs.Sums.{sum_below}
use Rattle.reshard_planner.proofs.Sums.{sum_plus, sum_same, sum_single}

-- ---- the node that holds least

module _ (f : ℕ → ℕ) where
  lesser_one : (t x : ℕ) → (lesser f t x ≡ x) ⊎ (lesser f t x ≡ t)
  lesser_one t x = by (nat_lt (f x) (f t))
    where
      by : (b : Bool) → (cond b x t ≡ x) ⊎ (cond b x t ≡ t)
      by true = inl refl
      by false = inr refl

  lesser_le : (t x : ℕ) → (f (lesser f t x) ≤ f t) × (f (lesser f t x) ≤ f x)
  lesser_le t x = by (nat_lt (f x) (f t)) refl
    where
      by : (b : Bool) → nat_lt (f x) (f t) ≡ b → (f (cond b x t) ≤ f t) × (f (cond b x t) ≤ f x)
      by true e = let l : f x < f t = ltb-true (f x) (f t) e in (omega arith, omega arith)
      by false e = let l = ltb-false (f x) (f t) e in (omega arith, omega arith)

  -- it is one of them
  pub least_among : (t : ℕ) (ts : List ℕ) → among (least f t ts) (t ∷ ts) ≡ true
  unfolding least
  least_among t [] = or_left (eqb t t) false (eq-eqb t t refl)
  least_among t (x ∷ ts) = by (lesser_one t x) (least_among (lesser f t x) ts)
    where
      v : ℕ
      v = least f (lesser f t x) ts

      by : (lesser f t x ≡ x) ⊎ (lesser f t x ≡ t) → among v (lesser f t x ∷ ts) ≡ true → among v (t ∷ (x ∷ ts)) ≡ true
      by (inl other) is =
          or_right (eqb v t) (among v (x ∷ ts)) (subst (λ u. among v (u ∷ ts) ≡ true) other is)
      by (inr first) is = elim (or_cases (eqb v t) (among v ts) (subst (λ u. among v (u ∷ ts) ≡ true) first is)) [
        | inl here ↦ or_left (eqb v t) (among v (x ∷ ts)) here
        | inr there ↦ or_right (eqb v t) (among v (x ∷ ts)) (or_right (eqb v x) (among v ts) there)
      ]

  least_le : (t : ℕ) (ts : List ℕ) → f (least f t ts) ≤ f t
  unfolding least
  least_le t [] = omega arith
  least_le t (x ∷ ts) =
      let l : f (least f (lesser f t x) ts) ≤ f (lesser f t x) = least_le (lesser f t x) ts in
      let m = (lesser_le t x).0 in omega arith

  least_rest : (t : ℕ) (ts : List ℕ) (q : ℕ) → among q ts ≡ true → f (least f t ts) ≤ f q
  unfolding least
  least_rest t [] q is = absurd (true≢false (sym is))
  least_rest t (x ∷ ts) q is = elim (or_cases (eqb q x) (among q ts) is) [
    | inl here ↦ subst (λ u. f (least f (lesser f t x) ts) ≤ f u) (sym (eqb-true q x here))
        (let l : f (least f (lesser f t x) ts) ≤ f (lesser f t x) = least_le (lesser f t x) ts in
        let m = (lesser_le t x).1 in omega arith)
    | inr there ↦ least_rest (lesser f t x) ts q there
  ]

  -- none of them holds less
  pub least_least : (t : ℕ) (ts : List ℕ) (q : ℕ) → among q (t ∷ ts) ≡ true → f (least f t ts) ≤ f q
  least_least t ts q is = elim (or_cases (eqb q t) (among q ts) is) [
    | inl here ↦ subst (λ u. f (least f t ts) ≤ f u) (sym (eqb-true q t here)) (least_le t ts)
    | inr there ↦ least_rest t ts q there
  ]

-- by what the nodes below a number hold
module _ (f g : ℕ → ℕ) (n : ℕ) (same : (i : ℕ) → i < n → f i ≡ g i) where
  pub least_below : (t : ℕ) (ts : List ℕ) → t < n → AllByRecursion (λ x. x < n) ts → least f t ts < n
  unfolding least
  least_below t [] l all = l
  least_below t (x ∷ ts) l all = least_below (lesser f t x) ts (lesser_below (nat_lt (f x) (f t))) all.1
    where
      lesser_below : (b : Bool) → cond b x t < n
      lesser_below true = all.0
      lesser_below false = l

  pub least_same : (t : ℕ) (ts : List ℕ) → t < n → AllByRecursion (λ x. x < n) ts → least f t ts ≡ least g t ts
  unfolding least
  least_same t [] l all = refl
  least_same t (x ∷ ts) l all =
      least_same (lesser f t x) ts (lesser_below (nat_lt (f x) (f t))) all.1
      ∙ ap (λ u. least g u ts) (λ i. cond (nat_lt (same x all.0 i) (same t l i)) x t)
    where
      lesser_below : (b : Bool) → cond b x t < n
      lesser_below true = all.0
      lesser_below false = l

-- one node more is looked at
pub least_step : (h : ℕ → ℕ) (xs : List ℕ) (i x best next whole : ℕ) → i < length xs → x ≡ get_or xs i x
    → next ≡ lesser h best x → least h best (drop i xs) ≡ whole → least h next (drop (i + 1) xs) ≡ whole
unfolding least
least_step h xs i x best next whole l here is so_far =
    ap (λ b. least h b (drop (i + 1) xs)) (is ∙ ap (lesser h best) here)
    ∙ sym (ap (least h best) (drop_more xs i x l)) ∙ so_far

-- and none is left
pub least_end : (h : ℕ → ℕ) (xs : List ℕ) (i best whole : ℕ) → length xs ≤ i → least h best (drop i xs) ≡ whole
    → best ≡ whole
unfolding least
least_end h xs i best whole l so_far = sym (ap (least h best) (drop_all i xs l)) ∙ so_far

module _ (row : List ℕ) (best x at there : ℕ) (here : at ≡ x) (where_best : there ≡ best) where
  x_is : get_or row at 0 ≡ get_or row x 0
  x_is = ap (λ k. get_or row k 0) here

  best_is : get_or row there 0 ≡ get_or row best 0
  best_is = ap (λ k. get_or row k 0) where_best

  pub lesser_then : get_or row at 0 < get_or row there 0 → x ≡ lesser (λ n. get_or row n 0) best x
  lesser_then l = sym (cond-true (nat_lt (get_or row x 0) (get_or row best 0)) x best
      (lt-ltb (get_or row x 0) (get_or row best 0) (omega (arith, l, x_is, best_is))))

  pub lesser_else : get_or row there 0 ≤ get_or row at 0 → best ≡ lesser (λ n. get_or row n 0) best x
  lesser_else l = sym (cond-false (nat_lt (get_or row x 0) (get_or row best 0)) x best
      (le-ltb (get_or row x 0) (get_or row best 0) (omega (arith, l, x_is, best_is))))

-- ---- slots are dealt out

pub none_filled : (h : ℕ → ℕ) (t : ℕ) (ts : List ℕ) (node : ℕ) → filled h t ts 0 node ≡ h node
unfolding filled
none_filled h t ts node = refl

one_filled : (h : ℕ → ℕ) (t : ℕ) (ts : List ℕ) (k node : ℕ) → filled h t ts (k + 1) node
    ≡ filled h t ts k node + cond (eqb node (least (filled h t ts k) t ts)) 1 0
unfolding filled
one_filled h t ts k node = ap (λ m. filled h t ts m node) next
  where
    next : k + 1 ≡ suc k
    next = omega arith

-- a row of what the nodes hold, with one slot more at the node that holds least
module _ (row : List ℕ) (p : ℕ) (width : length row ≡ 255) where
  abbrev grown : List ℕ
  grown = set row p (get_or row p 0 + 1)

  pub filled_step : (h : ℕ → ℕ) (t : ℕ) (ts : List ℕ) (k node : ℕ) → t < 255 → AllByRecursion (λ x. x < 255) ts
      → ((n : ℕ) → n < 255 → get_or row n 0 ≡ filled h t ts k n) → p ≡ least (λ n. get_or row n 0) t ts
      → node < 255 → get_or grown node 0 ≡ filled h t ts (k + 1) node
  filled_step h t ts k node l all same is below =
      let there : p ≡ least (filled h t ts k) t ts =
      is ∙ least_same (λ n. get_or row n 0) (filled h t ts k) 255 same t ts l all in
      let more = one_filled h t ts k node in
      let now = same node below in
      elim (cases_eq node p) [
        | inl here ↦ (let e : get_or grown node 0 ≡ get_or row p 0 + 1
            = ap (λ n. get_or grown n 0) here
            ∙ get_or-set_same row p (get_or row p 0 + 1) 0 (omega (arith, width, sym here, below)) in
            let r : get_or row node 0 ≡ get_or row p 0 = ap (λ n. get_or row n 0) here in
            let c : ◌≡◌ {A = ℕ} (cond (eqb node (least (filled h t ts k) t ts)) 1 0) 1
            = cond-true (eqb node (least (filled h t ts k) t ts)) 1 0
            (eq-eqb node (least (filled h t ts k) t ts) (here ∙ there)) in omega arith)
        | inr apart ↦ (let e : get_or grown node 0 ≡ get_or row node 0
            = get_or-set_other row p node (get_or row p 0 + 1) 0 apart in
            let c : ◌≡◌ {A = ℕ} (cond (eqb node (least (filled h t ts k) t ts)) 1 0) 0
            = cond-false (eqb node (least (filled h t ts k) t ts)) 1 0
            (ne_eqb node (least (filled h t ts k) t ts) (λ u. apart (u ∙ sym there))) in omega arith)
      ]

  pub small_step : (k node : ℕ) → p < 255 → ((n : ℕ) → n < 255 → get_or row n 0 ≤ 16384 + k) → node < 255
      → get_or grown node 0 ≤ 16384 + (k + 1)
  small_step k node l small below = elim (cases_eq node p) [
    | inl here ↦ (let e : get_or grown node 0 ≡ get_or row p 0 + 1
        = ap (λ n. get_or grown n 0) here
        ∙ get_or-set_same row p (get_or row p 0 + 1) 0 (omega (arith, width, l)) in
        let m = small p l in omega arith)
    | inr apart ↦ (let e : get_or grown node 0 ≡ get_or row node 0
        = get_or-set_other row p node (get_or row p 0 + 1) 0 apart in
        let m = small node below in omega arith)
  ]

module _ (h : ℕ → ℕ) (t : ℕ) (ts : List ℕ) where
  abbrev after : ℕ → ℕ → ℕ
  after k = filled h t ts k

  abbrev next : ℕ → ℕ
  next k = least (after k) t ts

  -- each of them is below this number, and the sum grows by one with each slot
  module _ (n : ℕ) (below : (k : ℕ) → next k < n) where
    pub filled_sum : (k : ℕ) → sum_below (after k) n ≡ sum_below h n + k
    unfolding filled
    filled_sum zero = omega arith
    filled_sum (suc k) =
        let r : sum_below (after k) n ≡ sum_below h n + k = filled_sum k in
        let p : sum_below (λ i. after k i + cond (eqb i (next k)) 1 0) n
        ≡ sum_below (after k) n + sum_below (λ i. cond (eqb i (next k)) 1 0) n
        = sum_plus (after k) (λ i. cond (eqb i (next k)) 1 0) n in
        let s : sum_below (λ i. cond (eqb i (next k)) 1 0) n ≡ 1 = sum_single 1 (next k) n (below k) in
        omega arith

  pub filled_grows : (k i : ℕ) → h i ≤ after k i
  unfolding filled
  filled_grows zero i = omega arith
  filled_grows (suc k) i = let r : h i ≤ after k i = filled_grows k i in omega arith

  -- another node holds what it held
  pub filled_other : (k i : ℕ) → among i (t ∷ ts) ≡ false → after k i ≡ h i
  unfolding filled
  filled_other zero i e = refl
  filled_other (suc k) i e =
      let r : after k i ≡ h i = filled_other k i e in
      let c : ◌≡◌ {A = ℕ} (cond (eqb i (next k)) 1 0) 0 = cond-false (eqb i (next k)) 1 0 (ne_eqb i (next k) apart) in
      omega arith
    where
      apart : i ≢ next k
      apart u = true≢false (sym (least_among (after k) t ts)
          ∙ ap (λ x. among x (t ∷ ts)) (sym u) ∙ e)

  -- what was given a slot is above another one of them by one at most
  pub filled_level : (k r q : ℕ) → among r (t ∷ ts) ≡ true → among q (t ∷ ts) ≡ true → h r < after k r
      → after k r ≤ after k q + 1
  unfolding filled
  filled_level zero r q is other given = absurd (omega arith)
  filled_level (suc k) r q is other given = elim (cases_eq r (next k)) [
    | inl here ↦ (let l : after k (next k) ≤ after k q = least_least (after k) t ts q other in
        let m : after k r ≡ after k (next k) = ap (after k) here in
        let c : ◌≡◌ {A = ℕ} (cond (eqb r (next k)) 1 0) 1 = cond-true (eqb r (next k)) 1 0 (eq-eqb r (next k) here) in
        omega arith)
    | inr apart ↦ (let c : ◌≡◌ {A = ℕ} (cond (eqb r (next k)) 1 0) 0
        = cond-false (eqb r (next k)) 1 0 (ne_eqb r (next k) apart) in
        let l : after k r ≤ after k q + 1 = filled_level k r q is other (omega arith) in
        omega arith)
  ]

-- ---- the quotas of a drain

-- a node of the first list is not in the second
pub not_mixed : (sources targets : List ℕ) (i : ℕ) → are_mixed sources targets ≡ false → among i sources ≡ true
    → among i targets ≡ false
not_mixed sources [] i e is = refl
not_mixed sources (x ∷ targets) i e is =
    let p = or_parts (among x sources) (are_mixed sources targets) e in
    by (eqb i x) refl p.0 (not_mixed sources targets i p.1 is)
  where
    by : (b : Bool) → eqb i x ≡ b → among x sources ≡ false → among i targets ≡ false
        → b || among i targets ≡ false
    by true here other rest = absurd (true≢false (sym is ∙ ap (λ u. among u sources) (eqb-true i x here) ∙ other))
    by false apart other rest = rest

module _ (o : Owners) (sources : List ℕ) (t : ℕ) (ts : List ℕ) where
  abbrev quota : ℕ → ℕ
  quota = drain_quota o sources (t ∷ ts)

  without : ℕ → ℕ
  without = emptied o.owners sources

  abbrev total : ℕ
  total = sources_hold o.owners sources o.nodes

  emptied_is : (i : ℕ) → among i sources ≡ true → emptied o.owners sources i ≡ 0
  emptied_is i e = cond-true (among i sources) 0 (held o.owners i) e

  emptied_not : (i : ℕ) → among i sources ≡ false → emptied o.owners sources i ≡ held o.owners i
  emptied_not i e = cond-false (among i sources) 0 (held o.owners i) e

  pub source_quota : are_mixed sources (t ∷ ts) ≡ false → (i : ℕ) → among i sources ≡ true → quota i ≡ 0
  source_quota apart i is =
      filled_other (emptied o.owners sources) t ts total i (not_mixed sources (t ∷ ts) i apart is)
      ∙ emptied_is i is

  pub other_quota : (i : ℕ) → among i sources ≡ false → among i (t ∷ ts) ≡ false → quota i ≡ held o.owners i
  other_quota i source target =
      filled_other (emptied o.owners sources) t ts total i target ∙ emptied_not i source

  pub quota_grows : (i : ℕ) → among i sources ≡ false → held o.owners i ≤ quota i
  quota_grows i source =
      let g = filled_grows (emptied o.owners sources) t ts total i in
      let e = emptied_not i source in omega arith

  pub quota_level : are_mixed sources (t ∷ ts) ≡ false → (r q : ℕ) → among r (t ∷ ts) ≡ true
      → among q (t ∷ ts) ≡ true → held o.owners r < quota r → quota r ≤ quota q + 1
  quota_level apart r q is other given =
      let e = emptied_not r (no_source (among r sources) refl) in
      filled_level (emptied o.owners sources) t ts total r q is other (omega arith)
    where
      no_source : (b : Bool) → among r sources ≡ b → among r sources ≡ false
      no_source false e = e
      no_source true e = absurd (true≢false (sym is ∙ not_mixed sources (t ∷ ts) r apart e))

  whole : (n : ℕ) → sum_below (emptied o.owners sources) n + sum_below (source_weight o.owners sources) n
      ≡ sum_below (held o.owners) n
  whole n = sym (sum_plus (emptied o.owners sources) (source_weight o.owners sources) n)
      ∙ sum_same (λ i. emptied o.owners sources i + source_weight o.owners sources i) (held o.owners) n
      (λ i l. one (among i sources) (held o.owners i))
    where
      one : (b : Bool) (x : ℕ) → cond b 0 x + cond b x 0 ≡ x
      one true x = omega arith
      one false x = omega arith

  pub quota_sum : t < o.nodes → AllByRecursion (λ x. x < o.nodes) ts → sum_below (held o.owners) o.nodes ≡ 16384
      → sum_below quota o.nodes ≡ 16384
  quota_sum l all held_all =
      let s : sum_below quota o.nodes ≡ sum_below (emptied o.owners sources) o.nodes + total
      = filled_sum (emptied o.owners sources) t ts o.nodes
      (λ k. least_below (filled (emptied o.owners sources) t ts k) (filled (emptied o.owners sources) t ts k) o.nodes
      (λ i m. refl) t ts l all) total in
      let w = whole o.nodes in omega arith
