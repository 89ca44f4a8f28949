-- What the planners' exchanges answer.
use Rattle.std.proofs.Common.{◌≡◌, ℕ, zero, suc, ◌+◌, ◌-◌, ◌*◌, ◌/◌, ◌<◌, ◌≤◌, Bool, true, false, cond, eqb, nat_lt, ◌||◌, List, [], ◌∷◌, ◌++◌, length, map, take, get_or, set, Ok, sym, refl, ap, ◌∙◌, arith, inl, inr, get_or-set_same, get_or-set_other}
use Rattle.std.proofs.lemmas.Bool.{cases_eq, cond-true, cond-false, eq-eqb, lt-ltb, le-ltb, ne_eqb}
use Rattle.std.specs.List.{All}
use Rattle.key_slots.specs.Owners.{Owners, IsTable}
use Rattle.reshard_planner.specs.Sums.{sum_below}
use Rattle.plan_semantics.specs.Plans.{among}
use Rattle.reshard_planner.specs.declared.planner_fault.PlannerFault.TheVariants.{TooMany, TargetIsSource, NoWeight}
use Rattle.reshard_planner.specs.Answers.{is_nothing, reshard_answer, rebalance_answer, rebalanced, quotas, is_off}
use Rattle.reshard_planner.specs.Exchanges.{IsAnsweredBy, IsRefused}
use Rattle.reshard_planner.specs.Grouping.{plan_of}
use Rattle.reshard_planner.specs.Holding.{held, slots_of}
use Rattle.reshard_planner.specs.Quotas.{node_weight, whole_weight, is_unbalanced, any_below, is_beyond, surplus, shortage}
use Rattle.reshard_planner.specs.Shares.{share, source_weight, sources_hold, source_gives, target_takes}
use Rattle.reshard_planner.specs.Starts.{Lists}
use Rattle.reshard_planner.specs.Transfers.{slots_given, nodes_taking, transfers_between, transfers}
use Rattle.reshard_planner.proofs.Planned.{all_given, all_held, quotas_are_all}
use Rattle.reshard_planner.proofs.Sharing.{share_nothing}
use Rattle.reshard_planner.proofs.Steps.{given_same, taken_same}
use Rattle.reshard_planner.proofs.Sums.{sum_le, sum_none, sum_same, sum_upto}
use Rattle.reshard_planner.proofs.Walking.{held-le}

pub transfers_same : (owners : List ℕ) (f g h k : ℕ → ℕ) (n : ℕ) → ((i : ℕ) → i < n → f i ≡ g i) → ((i : ℕ) → i < n → h i ≡ k i)
    → transfers owners f h n ≡ transfers owners g k n
transfers_same owners f g h k n e d = (λ i. transfers_between (given_same owners f g n e i) (taken_same h k n d i))

share_same : (total half : ℕ) (f g : ℕ → ℕ) (n node : ℕ) → ((i : ℕ) → i < n → f i ≡ g i) → node < n
    → share total half f n node ≡ share total half g n node
share_same total half f g n node h l =
    (λ i. (total * (below i + h node l i) + half) / whole i - (total * below i + half) / whole i)
  where
    below : sum_below f node ≡ sum_below g node
    below = sum_same f g node (λ i k. h i (omega arith))

    whole : sum_below f n ≡ sum_below g n
    whole = sum_same f g n h

-- ---- resharding

module _ (o : Owners) (sources : List ℕ) (target count : ℕ) where
  weight_held : (node : ℕ) → source_weight o.owners sources node ≤ held o.owners node
  weight_held node = by (among node sources)
    where
      by : (b : Bool) → cond b (held o.owners node) 0 ≤ held o.owners node
      by true = omega arith
      by false = omega arith

  pub weights_small : (weights : List ℕ) (n : ℕ) → length o.owners ≡ 16384 → n ≤ 255 → Lists (source_weight o.owners sources) 255 weights
      → (node : ℕ) → node < n → get_or weights node 0 ≤ 16384
  weights_small weights n width most h node l =
      let e : get_or weights node 0 ≡ source_weight o.owners sources node = h node (omega arith) in
      let w = weight_held node in let m = held-le o.owners node in omega arith

  pub whole_is : (weights : List ℕ) (n whole : ℕ) → n ≡ o.nodes → n ≤ 255 → Lists (source_weight o.owners sources) 255 weights
      → whole ≡ sum_below (λ node. get_or weights node 0) n → whole ≡ sources_hold o.owners sources o.nodes
  whole_is weights n whole same most h e = e ∙ sum_same (λ node. get_or weights node 0) (source_weight o.owners sources) n
      (λ i l. h i (omega arith)) ∙ ap (sum_below (source_weight o.owners sources)) same

  pub whole_most : IsTable o → sources_hold o.owners sources o.nodes ≤ 16384
  whole_most table =
      let l : sources_hold o.owners sources o.nodes ≤ sum_below (held o.owners) o.nodes
      = sum_le (source_weight o.owners sources) (held o.owners) o.nodes (λ i k. weight_held i) in
      let e = all_held o table in omega arith

  pub too_many : (whole : ℕ) → whole ≡ sources_hold o.owners sources o.nodes → is_nothing sources ≡ false → whole < count
      → IsRefused (reshard_answer o sources target count) TooMany
  too_many whole e some l batch = cond-false (is_nothing sources) _ _ some
      ∙ cond-true (nat_lt (sources_hold o.owners sources o.nodes) count) _ _ (lt-ltb (sources_hold o.owners sources o.nodes) count (omega arith))

  pub target_among : (whole : ℕ) → whole ≡ sources_hold o.owners sources o.nodes → is_nothing sources ≡ false → count ≤ whole
      → among target sources ≡ true → IsRefused (reshard_answer o sources target count) TargetIsSource
  target_among whole e some l there batch = cond-false (is_nothing sources) _ _ some
      ∙ cond-false (nat_lt (sources_hold o.owners sources o.nodes) count) _ _ (le-ltb (sources_hold o.owners sources o.nodes) count (omega arith))
      ∙ cond-true (among target sources) _ _ there

  -- the target alone takes
  pub one_takes : (zeros : List ℕ) (at : ℕ) → ((node : ℕ) → get_or zeros node 0 ≡ 0) → target ≡ at → at < length zeros
      → Lists (target_takes target count) 255 (set zeros at count)
  one_takes zeros at none e l node k = elim (cases_eq node target) [
    | inl here ↦ ap (λ x. get_or (set zeros at count) x 0) (here ∙ e) ∙ get_or-set_same zeros at count 0 l
        ∙ sym (cond-true (eqb node target) count 0 (eq-eqb node target here))
    | inr apart ↦ get_or-set_other zeros at node count 0 (λ u. apart (u ∙ sym e)) ∙ none node
        ∙ sym (cond-false (eqb node target) count 0 (ne_eqb node target apart))
  ]

  pub answered : (gives takes : List ℕ) (whole : ℕ) → IsTable o → target < o.nodes → count ≤ 16384
      → whole ≡ sources_hold o.owners sources o.nodes → is_nothing sources ≡ false → count ≤ whole
      → among target sources ≡ false → Lists (source_gives o.owners sources o.nodes count) o.nodes gives
      → Lists (target_takes target count) 255 takes
      → IsAnsweredBy o (reshard_answer o sources target count) gives takes
  answered gives takes whole table exists most e some l other g t = record {
    table = table;
    few = let s : sum_below (λ node. get_or gives node 0) o.nodes ≡ sum_below (source_gives o.owners sources o.nodes count) o.nodes
        = sum_same (λ node. get_or gives node 0) (source_gives o.owners sources o.nodes count) o.nodes g in
        let a = all_given o table sources target count exists (omega arith) other in omega arith;
    is = λ batch. cond-false (is_nothing sources) _ _ some
        ∙ cond-false (nat_lt (sources_hold o.owners sources o.nodes) count) _ _ (le-ltb (sources_hold o.owners sources o.nodes) count (omega arith))
        ∙ cond-false (among target sources) _ _ other
        ∙ ap (λ ts. Ok (plan_of batch ts)) (sym (transfers_same o.owners (λ node. get_or gives node 0)
        (source_gives o.owners sources o.nodes count) (λ node. get_or takes node 0) (target_takes target count) o.nodes g
        (λ i k. t i (let w = table.most in omega arith))));
  }

  pub nothing_given : count ≡ 0 → (zeros : List ℕ) → ((node : ℕ) → get_or zeros node 0 ≡ 0)
      → Lists (source_gives o.owners sources o.nodes count) o.nodes zeros
  nothing_given e zeros none node k = none node ∙ sym (ap (λ c. source_gives o.owners sources o.nodes c node) e
      ∙ share_nothing (source_weight o.owners sources) o.nodes node)

  -- what is shared out by an array of weights
  pub shares_given : (weights gives : List ℕ) (n total : ℕ) → n ≡ o.nodes → n ≤ 255 → total ≡ count
      → Lists (source_weight o.owners sources) 255 weights → Lists (share total 0 (λ node. get_or weights node 0) n) n gives
      → Lists (source_gives o.owners sources o.nodes count) o.nodes gives
  shares_given weights gives n total same most e h g node k =
      g node (omega arith) ∙ ap (λ c. share c 0 (λ node. get_or weights node 0) n node) e ∙ share_same count 0 (λ node. get_or weights node 0) (source_weight o.owners sources) n node
      (λ i l. h i (omega arith)) (omega arith) ∙ ap (λ m. source_gives o.owners sources m count node) same

-- ---- what is no list

pub some_sources : (sources : List ℕ) → false ≡ eqb (length sources) 0 → is_nothing sources ≡ false
some_sources [] e = sym e
some_sources (s ∷ sources) e = refl

-- ---- rebalancing

module _ (o : Owners) (weights : List ℕ) (threshold : ℕ) (use_empty : Bool) where
  pub held_small : (held_by : List ℕ) (n : ℕ) → n ≤ 255 → length o.owners ≡ 16384 → Lists (held o.owners) 255 held_by
      → (node : ℕ) → node < n → get_or held_by node 0 ≤ 16384
  held_small held_by n most width h node l =
      let e : get_or held_by node 0 ≡ held o.owners node = h node (omega arith) in
      let m = held-le o.owners node in omega arith

  pub weighs : (node_weights : List ℕ) (n whole : ℕ) → n ≡ o.nodes → length weights ≡ o.nodes
      → Lists (node_weight o.owners weights use_empty) (length weights) node_weights
      → whole ≡ sum_below (λ node. get_or node_weights node 0) n → whole ≡ whole_weight o.owners weights use_empty o.nodes
  weighs node_weights n whole same each h e = e ∙ sum_same (λ node. get_or node_weights node 0)
      (node_weight o.owners weights use_empty) n (λ i l. h i (omega arith))
      ∙ ap (sum_below (node_weight o.owners weights use_empty)) same

  sum_light : (f : ℕ → ℕ) (n : ℕ) → ((i : ℕ) → i < n → f i ≤ 1000) → sum_below f n ≤ 1000 * n
  unfolding sum_below
  sum_light f zero h = omega arith
  sum_light f (suc n) h =
      let r : sum_below f n ≤ 1000 * n = sum_light f n (λ i l. h i (omega arith)) in
      let l : f n ≤ 1000 = h n (omega arith) in omega arith

  weight_light : All (λ w. w ≤ 1000) weights → (i : ℕ) → i < length weights → node_weight o.owners weights use_empty i ≤ 1000
  weight_light light i l = by (use_empty || nat_lt 0 (held o.owners i))
    where
      light_at : get_or weights i 0 ≤ 1000
      light_at = light i 0 l

      by : (b : Bool) → cond b (get_or weights i 0) 0 ≤ 1000
      by true = light_at
      by false = omega arith

  pub weights_light : (node_weights : List ℕ) (n : ℕ) → n ≡ o.nodes → length weights ≡ o.nodes → All (λ w. w ≤ 1000) weights
      → Lists (node_weight o.owners weights use_empty) (length weights) node_weights
      → (node : ℕ) → node < n → get_or node_weights node 0 ≤ 16384
  weights_light node_weights n same each light h node l =
      let e : get_or node_weights node 0 ≡ node_weight o.owners weights use_empty node = h node (omega arith) in
      let m = weight_light light node (omega arith) in omega arith

  pub whole_light : length weights ≡ o.nodes → o.nodes ≤ 255 → All (λ w. w ≤ 1000) weights
      → whole_weight o.owners weights use_empty o.nodes ≤ 255000
  whole_light each most light =
      let s = sum_light (node_weight o.owners weights use_empty) o.nodes (λ i l. weight_light light i (omega arith)) in omega arith

  pub no_weight : (whole : ℕ) → whole ≡ whole_weight o.owners weights use_empty o.nodes → whole ≡ 0
      → IsRefused (rebalance_answer o weights threshold use_empty) NoWeight
  no_weight whole e z batch =
      cond-true (eqb (whole_weight o.owners weights use_empty o.nodes) 0) _ _
      (eq-eqb (whole_weight o.owners weights use_empty o.nodes) 0 (sym e ∙ z))

  -- what is shared out by an array of weights
  pub quotas_are : (node_weights shares : List ℕ) (n whole : ℕ) → n ≡ o.nodes → length weights ≡ o.nodes
      → Lists (node_weight o.owners weights use_empty) (length weights) node_weights
      → whole ≡ whole_weight o.owners weights use_empty o.nodes
      → Lists (share 16384 (whole / 2) (λ node. get_or node_weights node 0) n) n shares
      → Lists (quotas o weights use_empty) o.nodes shares
  quotas_are node_weights shares n whole same each h e g node k =
      g node (omega arith) ∙ share_same 16384 (whole / 2) (λ node. get_or node_weights node 0)
      (node_weight o.owners weights use_empty) n node (λ i l. h i (omega arith)) (omega arith)
      ∙ (λ i. share 16384 (e i / 2) (node_weight o.owners weights use_empty) (same i) node)

  pub quotas_small : (shares : List ℕ) (n : ℕ) → n ≡ o.nodes → IsTable o → 0 < whole_weight o.owners weights use_empty o.nodes
      → Lists (quotas o weights use_empty) o.nodes shares → (node : ℕ) → node < n → get_or shares node 0 ≤ 16384
  quotas_small shares n same table some h node l =
      let e : get_or shares node 0 ≡ quotas o weights use_empty node = h node (omega arith) in
      let s : sum_below (quotas o weights use_empty) node + quotas o weights use_empty node
      ≤ sum_below (quotas o weights use_empty) o.nodes = sum_upto (quotas o weights use_empty) node o.nodes (omega arith) in
      let a = quotas_are_all o table weights use_empty some in omega arith

  any_same : (p q : ℕ → Bool) (n : ℕ) → ((i : ℕ) → i < n → p i ≡ q i) → any_below p n ≡ any_below q n
  any_same p q zero h = refl
  any_same p q (suc n) h = (λ i. any_same p q n (λ i l. h i (omega arith)) i || h n (omega arith) i)

  pub off_is : (held_by shares : List ℕ) (n : ℕ) → n ≡ o.nodes → n ≤ 255 → Lists (held o.owners) 255 held_by
      → Lists (quotas o weights use_empty) o.nodes shares
      → is_unbalanced threshold (λ node. get_or held_by node 0) (λ node. get_or shares node 0) n ≡ is_off o weights threshold use_empty
  off_is held_by shares n same most h g =
      any_same (λ i. is_beyond threshold (get_or held_by i 0) (get_or shares i 0))
      (λ i. is_beyond threshold (held o.owners i) (quotas o weights use_empty i)) n
      (λ i l j. is_beyond threshold (h i (omega arith) j) (g i (omega arith) j))
      ∙ ap (is_unbalanced threshold (held o.owners) (quotas o weights use_empty)) same

  nothing : (owners : List ℕ) (f g : ℕ → ℕ) (n : ℕ) → ((i : ℕ) → f i ≡ 0) → transfers owners f g n ≡ []
  nothing owners f g n h = ap (λ gs. transfers_between gs (nodes_taking g n)) (none n)
    where
      none : (n : ℕ) → slots_given owners f n ≡ []
      none zero = refl
      none (suc n) = (λ i. none n i ++ map (λ s. (s, n)) (take (h n i) (slots_of owners n)))

  weighed : (batch : ℕ) → 0 < whole_weight o.owners weights use_empty o.nodes
      → rebalance_answer o weights threshold use_empty batch
      ≡ Ok (cond (is_off o weights threshold use_empty) (rebalanced o (quotas o weights use_empty) batch) [])
  weighed batch some = cond-false (eqb (whole_weight o.owners weights use_empty o.nodes) 0) _ _
      (ne_eqb (whole_weight o.owners weights use_empty o.nodes) 0 (above (whole_weight o.owners weights use_empty o.nodes) some))
    where
      above : (w : ℕ) → 0 < w → w ≡ 0 → ⊥
      above w l e = omega arith

  -- no node is off its quota
  pub stays : (gives takes : List ℕ) → ((node : ℕ) → get_or gives node 0 ≡ 0) → IsTable o
      → 0 < whole_weight o.owners weights use_empty o.nodes → is_off o weights threshold use_empty ≡ false
      → IsAnsweredBy o (rebalance_answer o weights threshold use_empty) gives takes
  stays gives takes all_zero table some off = record {
    table = table;
    few = let e : sum_below (λ node. get_or gives node 0) o.nodes ≡ 0
        = sum_none (λ node. get_or gives node 0) o.nodes (λ i l. all_zero i) in omega arith;
    is = λ batch. weighed batch some
        ∙ ap (λ b. Ok (cond b (rebalanced o (quotas o weights use_empty) batch) [])) off
        ∙ ap (λ ts. Ok (plan_of batch ts)) (sym (nothing o.owners (λ node. get_or gives node 0)
        (λ node. get_or takes node 0) o.nodes all_zero));
  }

  pub moves : (held_by shares gives takes : List ℕ) (n : ℕ) → n ≡ o.nodes → IsTable o → 0 < whole_weight o.owners weights use_empty o.nodes
      → Lists (held o.owners) 255 held_by → Lists (quotas o weights use_empty) o.nodes shares
      → Lists (λ node. get_or held_by node 0 - get_or shares node 0) n gives
      → Lists (λ node. get_or shares node 0 - get_or held_by node 0) n takes
      → is_off o weights threshold use_empty ≡ true
      → IsAnsweredBy o (rebalance_answer o weights threshold use_empty) gives takes
  moves held_by shares gives takes n same table some h g f t off = record {
    table = table;
    few = let l : sum_below (λ node. get_or gives node 0) o.nodes ≤ sum_below (held o.owners) o.nodes
        = sum_le (λ node. get_or gives node 0) (held o.owners) o.nodes (λ i l. (let e : get_or gives i 0 ≡ held o.owners i - quotas o weights use_empty i = given_is i l in omega arith)) in
        let a = all_held o table in omega arith;
    is = λ batch. weighed batch some
        ∙ ap (λ b. Ok (cond b (rebalanced o (quotas o weights use_empty) batch) [])) off
        ∙ ap (λ ts. Ok (plan_of batch ts)) (sym (transfers_same o.owners (λ node. get_or gives node 0)
        (surplus (held o.owners) (quotas o weights use_empty)) (λ node. get_or takes node 0)
        (shortage (held o.owners) (quotas o weights use_empty)) o.nodes given_is taken_is));
  }
    where
      given_is : (i : ℕ) → i < o.nodes → get_or gives i 0 ≡ held o.owners i - quotas o weights use_empty i
      given_is i l = f i (omega arith)
          ∙ (λ j. h i (let w = table.most in omega arith) j - g i l j)

      taken_is : (i : ℕ) → i < o.nodes → get_or takes i 0 ≡ quotas o weights use_empty i - held o.owners i
      taken_is i l = t i (omega arith)
          ∙ (λ j. g i l j - h i (let w = table.most in omega arith) j)
