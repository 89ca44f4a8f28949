-- What the planners' plans amount to.
use Rattle.std.proofs.Common.{◌≡◌, ◌≢◌, ◌⊎◌, ℕ, ◌+◌, ◌-◌, ◌/◌, ◌<◌, ◌≤◌, Bool, true, false, cond, eqb, nat_lt, List, [], ◌∷◌, length, Ok, Err, Option, None, Some, sym, refl, ap, ◌∙◌, subst, arith, inl, inr}
use Rattle.std.proofs.lemmas.Bool.{cases_eq, cases_lt, cond-true, cond-false, eqb-false, ltb-false, ne_eqb}
use Rattle.std.proofs.lemmas.List.{length-map}
use Rattle.std.specs.List.{AllByRecursion}
use Rattle.key_slots.specs.Owners.{Owners, IsTable}
use Rattle.node_names.specs.Names.{AreNames, Names}
use Rattle.plan_language.specs.declared.line.Line.{Line}
use Rattle.plan_language.specs.Limits.{limits_of, many}
use Rattle.plan_language.specs.Lines.{are_listed, plan_commands, ArePlanLines, FitsVersion}
use Rattle.plan_language.specs.Texts.{any_plan_of_text, plan_of_text, plan_text}
use Rattle.plan_language.proofs.Exactly.{any_one_text, one_text}
use Rattle.reshard_planner.specs.Sums.{sum_below}
use Rattle.cluster_admin.specs.Phases.{closed_by}
use Rattle.plan_semantics.specs.Plans.{among, IsDistinct, IsFinal}
use Rattle.reshard_planner.specs.declared.transfer.Transfer.{Transfer}
use Rattle.plan_semantics.specs.OwnedMoves.{slots_moved}
use Rattle.plan_semantics.proofs.OwnedMoves.{owned_moves_are_legal}
use Rattle.reshard_planner.specs.declared.planner_fault.PlannerFault.{PlannerFault}
use Rattle.reshard_planner.specs.Answers.{Answer, is_nothing, reshard_answer, rebalance_answer, quotas, is_off, rebalanced, resharded}
use Rattle.reshard_planner.specs.Grouping.{lines_of, plan_of, ranges_of}
use Rattle.reshard_planner.specs.declared.moved_range.MovedRange.{MovedRange}
use Rattle.reshard_planner.specs.Holding.{held}
use Rattle.reshard_planner.specs.Laws.{moved_count, plan_with, IsBatch, IsLegalText, IsRebalancing, MovesFewest, ReshardsAreLegal, ReshardsMoveAll, RebalancesAreLegal, RebalancesMoveFewest}
use Rattle.reshard_planner.specs.Quotas.{node_weight, whole_weight, quota, surplus, shortage}
use Rattle.reshard_planner.specs.Shares.{source_weight, sources_hold, source_gives, target_takes}
use Rattle.reshard_planner.specs.Transfers.{transfers}
use Rattle.reshard_planner.specs.Writing.{slots_written}
use Rattle.reshard_planner.proofs.Fewest.{surplus_moves}
use Rattle.reshard_planner.proofs.Finals.{applied, differing-applied, final_is, held-applied, moved_planned}
use Rattle.reshard_planner.proofs.Grouped.{count_slots, lines_listed, lines_owned, lines_well_formed, lines_within, ranges_owned, slots_grouped}
use Rattle.reshard_planner.proofs.Holding.{sum-held}
use Rattle.reshard_planner.proofs.Moving.{AreMoves, are_distinct, are_transfers, held-sources, held-targets, length-transfers}
use Rattle.reshard_planner.proofs.Rooms.{all_room}
use Rattle.reshard_planner.proofs.Sharing.{share_le, share_nothing, share_weightless, shares_are_total}
use Rattle.reshard_planner.proofs.Sums.{sum_le, sum_none, sum_plus, sum_same, sum_single}
use Rattle.reshard_planner.proofs.Walking.{by_recursion}

-- ---- texts

-- lines that may stand in version 1 are read back
read_back : (lines : List Line) → ArePlanLines (limits_of None) lines → AllByRecursion (FitsVersion 1) lines
    → plan_of_text (plan_text (plan_with None lines)) ≡ Ok (plan_with None lines)
read_back lines h fit =
    (one_text (plan_text (plan_with None lines)) (plan_with None lines)).1 (refl, ((omega arith, omega arith), tt, h, fit), refl)

-- and with names, where each of their nodes is listed
read_back_named : (names : Names) (lines : List Line) → AreNames names → ArePlanLines many lines
    → AllByRecursion (FitsVersion 1) lines → AllByRecursion (λ line. are_listed (Some names) line ≡ true) lines
    → any_plan_of_text (plan_text (plan_with (Some names) lines)) ≡ Ok (plan_with (Some names) lines)
read_back_named names lines are h fit listed =
    (any_one_text (plan_text (plan_with (Some names) lines)) (plan_with (Some names) lines)).1
    (refl, ((omega arith, omega arith), (first_rules, are), h, fit), listed)
  where
    first_rules : ◌≢◌ {A = ℕ} 1 2
    first_rules e = omega arith

all_fit : (batch : ℕ) (rs : List MovedRange) → AllByRecursion (FitsVersion 1) (lines_of batch rs)
all_fit batch [] = tt
all_fit batch (r ∷ rs) = (tt, all_fit batch rs)

-- ---- tables

module _ (o : Owners) (table : IsTable o) where
  pub all_held : sum_below (held o.owners) o.nodes ≡ 16384
  all_held = sum-held o.nodes o.owners (by_recursion (λ n. n < o.nodes) o.owners table.named) ∙ table.width

  -- ---- plans of moves

  module _ (gives takes : ℕ → ℕ) (m : AreMoves o.nodes o.owners gives takes) where
    few : sum_below gives o.nodes ≤ 16384
    few = let l : sum_below gives o.nodes ≤ sum_below (held o.owners) o.nodes
        = sum_le gives (held o.owners) o.nodes (λ i k. m.held i k) in
        let e = all_held in omega arith

    pub are_few : length (transfers o.owners gives takes o.nodes) ≤ 16384
    are_few = let e = length-transfers o.nodes o.owners gives takes m in let l = few in omega arith

    well_formed : (names : Option Names) (batch : ℕ) → o.nodes ≤ (limits_of names).nodes → IsBatch batch
        → ArePlanLines (limits_of names) (plan_of batch (transfers o.owners gives takes o.nodes))
    well_formed names batch wide b =
        let ts = transfers o.owners gives takes o.nodes in
        let owned = ranges_owned o.nodes o.owners (transfers o.owners gives takes o.nodes)
        (are_transfers o.nodes o.owners gives takes m) in (
          lines_well_formed o.nodes o.owners batch (ranges_of (transfers o.owners gives takes o.nodes)) b.0 b.1 owned,
          all_room names (plan_of batch (transfers o.owners gives takes o.nodes)) (few_slots batch),
          lines_within o.nodes o.owners (limits_of names) batch (ranges_of (transfers o.owners gives takes o.nodes)) table.width wide owned,
        )
      where
        few_slots : (batch : ℕ) → slots_written (plan_of batch (transfers o.owners gives takes o.nodes)) ≤ 16384
        few_slots batch =
            let c = count_slots batch (ranges_of (transfers o.owners gives takes o.nodes)) in
            let e : length (slots_moved (plan_of batch (transfers o.owners gives takes o.nodes)))
            ≡ length (transfers o.owners gives takes o.nodes)
            = ap length (slots_grouped o.nodes o.owners batch (transfers o.owners gives takes o.nodes)
            (are_transfers o.nodes o.owners gives takes m))
            ∙ length-map (transfers o.owners gives takes o.nodes) (λ t. t.slot) in
            let l = are_few in omega arith

    pub moves_legal : (batch : ℕ) → IsBatch batch → IsLegalText o (plan_of batch (transfers o.owners gives takes o.nodes))
    moves_legal batch b = record {
      legal = owned_moves_are_legal 1 o.nodes many o.owners (plan_of batch (transfers o.owners gives takes o.nodes))
          (well_formed (Some []) batch table.most b)
          (lines_owned o.nodes o.owners batch (ranges_of (transfers o.owners gives takes o.nodes))
          (ranges_owned o.nodes o.owners (transfers o.owners gives takes o.nodes) (are_transfers o.nodes o.owners gives takes m)))
          (subst IsDistinct (sym (slots_grouped o.nodes o.owners batch (transfers o.owners gives takes o.nodes)
          (are_transfers o.nodes o.owners gives takes m))) (are_distinct o.nodes o.owners gives takes m));
      read_back = λ few. read_back (plan_of batch (transfers o.owners gives takes o.nodes)) (well_formed None batch few b)
          (all_fit batch (ranges_of (transfers o.owners gives takes o.nodes)));
      read_back_named = λ names are has. read_back_named names (plan_of batch (transfers o.owners gives takes o.nodes)) are
          (well_formed (Some names) batch table.most b) (all_fit batch (ranges_of (transfers o.owners gives takes o.nodes)))
          (lines_listed o.nodes o.owners names batch (ranges_of (transfers o.owners gives takes o.nodes)) has
          (ranges_owned o.nodes o.owners (transfers o.owners gives takes o.nodes) (are_transfers o.nodes o.owners gives takes m)));
    }

    pub moves_counted : (batch : ℕ)
        → moved_count (plan_commands o.nodes (plan_of batch (transfers o.owners gives takes o.nodes))) ≡ sum_below gives o.nodes
    moves_counted batch = moved_planned o.nodes o.owners batch (transfers o.owners gives takes o.nodes) table.width
        (are_transfers o.nodes o.owners gives takes m) (are_distinct o.nodes o.owners gives takes m)
        ∙ length-transfers o.nodes o.owners gives takes m

  -- nothing to move
  pub nothing_legal : IsLegalText o []
  nothing_legal = record {
    legal = owned_moves_are_legal 1 o.nodes many o.owners [] (tt, (omega arith), tt) tt tt;
    read_back = λ few. read_back [] (tt, (omega arith), tt) tt;
    read_back_named = λ names are has. read_back_named names [] are (tt, (omega arith), tt) tt tt;
  }

  -- ---- resharding

  module _ (sources : List ℕ) (target count : ℕ) (exists : target < o.nodes)
      (enough : count ≤ sources_hold o.owners sources o.nodes) (other : among target sources ≡ false) where
    weight : ℕ → ℕ
    weight = source_weight o.owners sources

    some_or_none : (count ≡ 0) ⊎ (0 < sources_hold o.owners sources o.nodes)
    some_or_none = elim (cases_eq count 0) [ inl u ↦ inl u | inr u ↦ inr (omega arith) ]

    gives_nothing : count ≡ 0 → (node : ℕ) → source_gives o.owners sources o.nodes count node ≡ 0
    gives_nothing e node = ap (λ c. source_gives o.owners sources o.nodes c node) e
        ∙ share_nothing (source_weight o.owners sources) o.nodes node

    weight_held : (node : ℕ) → source_weight o.owners sources node ≤ held o.owners node
    weight_held node = by (among node sources)
      where
        by : (b : Bool) → cond b (held o.owners node) 0 ≤ held o.owners node
        by true = omega arith
        by false = omega arith

    pub all_given : sum_below (source_gives o.owners sources o.nodes count) o.nodes ≡ count
    all_given = elim some_or_none [
      | inl u ↦ (let e : sum_below (source_gives o.owners sources o.nodes count) o.nodes ≡ 0
          = sum_none (source_gives o.owners sources o.nodes count) o.nodes (λ i k. gives_nothing u i) in omega arith)
      | inr u ↦ shares_are_total count 0 (source_weight o.owners sources) o.nodes u
    ]

    pub reshard_moves : AreMoves o.nodes o.owners (source_gives o.owners sources o.nodes count) (target_takes target count)
    reshard_moves = record {
      held = λ node k. elim some_or_none [
        | inl u ↦ (let e : source_gives o.owners sources o.nodes count node ≡ 0 = gives_nothing u node in omega arith)
        | inr u ↦ (let l : source_gives o.owners sources o.nodes count node ≤ source_weight o.owners sources node
            = share_le count (source_weight o.owners sources) o.nodes node u enough in
            let w = weight_held node in omega arith)
      ];
      balanced = all_given ∙ sym (sum_single count target o.nodes exists);
      one_way = λ node k. elim (cases_eq node target) [
        | inl here ↦ inl (share_weightless count 0 (source_weight o.owners sources) o.nodes node (no_source node here))
        | inr apart ↦ inr (cond-false (eqb node target) count 0 (ne_eqb node target apart))
      ];
    }
      where
        no_source : (node : ℕ) → node ≡ target → source_weight o.owners sources node ≡ 0
        no_source node e = cond-false (among node sources) (held o.owners node) 0 (ap (λ x. among x sources) e ∙ other)

  -- reached by as few moves as can be
  fewest_moves : (quota : ℕ → ℕ) → AreMoves o.nodes o.owners (surplus (held o.owners) quota) (shortage (held o.owners) quota)
      → MovesFewest o.nodes quota o.owners
      (applied o.owners (transfers o.owners (surplus (held o.owners) quota) (shortage (held o.owners) quota) o.nodes))
  fewest_moves quota m = record {
    meets = λ node k. in_the_end (held o.owners node) (quota node) _ _ _
        (held-applied o.nodes o.owners (transfers o.owners (surplus (held o.owners) quota) (shortage (held o.owners) quota) o.nodes) node (are_transfers o.nodes o.owners (surplus (held o.owners) quota) (shortage (held o.owners) quota) m)
        (are_distinct o.nodes o.owners (surplus (held o.owners) quota) (shortage (held o.owners) quota) m))
        (held-sources o.nodes o.owners (surplus (held o.owners) quota) (shortage (held o.owners) quota) m node k) (held-targets o.nodes o.owners (surplus (held o.owners) quota) (shortage (held o.owners) quota) m node k);
    fewest = λ other width meets. let e = surplus_moves o.nodes o.owners other quota width meets in
        let d = differing-applied o.nodes o.owners (transfers o.owners (surplus (held o.owners) quota) (shortage (held o.owners) quota) o.nodes) (are_transfers o.nodes o.owners (surplus (held o.owners) quota) (shortage (held o.owners) quota) m)
        (are_distinct o.nodes o.owners (surplus (held o.owners) quota) (shortage (held o.owners) quota) m) in
        let l = length-transfers o.nodes o.owners (surplus (held o.owners) quota) (shortage (held o.owners) quota) m in omega arith;
  }
    where
      in_the_end : (h q a s t : ℕ) → a + s ≡ h + t → s ≡ h - q → t ≡ q - h → a ≡ q
      in_the_end h q a s t e f g = omega arith

  -- ---- quotas of which there are as many as slots

  module _ (quota : ℕ → ℕ) (all : sum_below quota o.nodes ≡ 16384) where
    abbrev pub quota_transfers : List Transfer
    quota_transfers = transfers o.owners (surplus (held o.owners) quota) (shortage (held o.owners) quota) o.nodes

    pub quota_moves : AreMoves o.nodes o.owners (surplus (held o.owners) quota) (shortage (held o.owners) quota)
    quota_moves = record {
      held = λ node k. less (held o.owners node) (quota node);
      balanced = even (held o.owners) quota o.nodes all_held all;
      one_way = λ node k. one (held o.owners node) (quota node);
    }
      where
        less : (h q : ℕ) → h - q ≤ h
        less h q = omega arith

        one : (h q : ℕ) → (h - q ≡ 0) ⊎ (q - h ≡ 0)
        one h q = elim (cases_lt h q) [ inl u ↦ inl (omega arith) | inr u ↦ inr (omega arith) ]

        even : (h q : ℕ → ℕ) (n : ℕ) → sum_below h n ≡ 16384 → sum_below q n ≡ 16384
            → sum_below (surplus h q) n ≡ sum_below (shortage h q) n
        even h q n e f =
            let a = sum_plus (surplus h q) q n in
            let b = sum_plus (shortage h q) h n in
            let c : sum_below (λ i. surplus h q i + q i) n ≡ sum_below (λ i. shortage h q i + h i) n
            = sum_same (λ i. surplus h q i + q i) (λ i. shortage h q i + h i) n (λ i k. both (h i) (q i)) in omega arith
          where
            both : (h q : ℕ) → h - q + q ≡ q - h + h
            both h q = omega arith

    -- the plan is legal, and the table that it leaves is the one after the transfers
    pub quota_legal : (batch : ℕ) → IsBatch batch → IsLegalText o (rebalanced o quota batch)
    quota_legal batch b =
        moves_legal (surplus (held o.owners) quota) (shortage (held o.owners) quota) quota_moves batch b

    pub quota_final : (batch : ℕ) → IsBatch batch → (final : List ℕ)
        → IsFinal (plan_commands o.nodes (rebalanced o quota batch)) (closed_by o.owners) final
        → final ≡ applied o.owners quota_transfers
    quota_final batch b final f = final_is o.nodes o.owners batch quota_transfers final table.width
        (are_transfers o.nodes o.owners (surplus (held o.owners) quota) (shortage (held o.owners) quota) quota_moves)
        (quota_legal batch b).legal f

    -- each node holds its quota in the end, and the moves are as many as the donors' surplus
    pub quota_fewest : (batch : ℕ) → IsBatch batch → IsRebalancing o quota (rebalanced o quota batch)
    quota_fewest batch b final f = subst (MovesFewest o.nodes quota o.owners)
        (sym (quota_final batch b final f)) (fewest_moves quota quota_moves)

  -- ---- rebalancing

  module _ (weights : List ℕ) (use_empty : Bool) (some : 0 < whole_weight o.owners weights use_empty o.nodes) where
    pub quotas_are_all : sum_below (quotas o weights use_empty) o.nodes ≡ 16384
    quotas_are_all = shares_are_total 16384 (whole_weight o.owners weights use_empty o.nodes / 2)
        (node_weight o.owners weights use_empty) o.nodes (half (whole_weight o.owners weights use_empty o.nodes) some)
      where
        half : (w : ℕ) → 0 < w → w / 2 < w
        half w h = omega arith

    pub rebalance_moves : AreMoves o.nodes o.owners (surplus (held o.owners) (quotas o weights use_empty))
        (shortage (held o.owners) (quotas o weights use_empty))
    rebalance_moves = quota_moves (quotas o weights use_empty) quotas_are_all

    pub rebalance_fewest : (batch : ℕ) → IsBatch batch
        → IsRebalancing o (quotas o weights use_empty) (rebalanced o (quotas o weights use_empty) batch)
    rebalance_fewest = quota_fewest (quotas o weights use_empty) quotas_are_all

-- ---- the answers

-- an answer that is a plan passed the test
pub let_in : (b : Bool) (r : Answer) (f : PlannerFault) (lines : List Line) → cond b (Err f) r ≡ Ok lines → (b ≡ false) × (r ≡ Ok lines)
let_in true r f lines e = absurd (apart e)
  where
    apart : (let r : Answer = Err f in r) ≡ Ok lines → ⊥
    apart u = cc
let_in false r f lines e = (refl, e)

pub ok_is : {a b : List Line} → (let r : Answer = Ok a in r) ≡ Ok b → a ≡ b
ok_is {a} {b} e = cc

-- what stands after the three tests
record IsReshard (o : Owners) (sources : List ℕ) (target count batch : ℕ) (lines : List Line) : Type 0 where
  enough : count ≤ sources_hold o.owners sources o.nodes
  other : among target sources ≡ false
  is : resharded o sources target count batch ≡ lines

reshard_is : (o : Owners) (sources : List ℕ) (target count batch : ℕ) (lines : List Line)
    → reshard_answer o sources target count batch ≡ Ok lines → IsReshard o sources target count batch lines
reshard_is o sources target count batch lines e =
    let a = let_in (is_nothing sources) _ _ lines e in
    let b = let_in (nat_lt (sources_hold o.owners sources o.nodes) count) _ _ lines a.1 in
    let c = let_in (among target sources) _ _ lines b.1 in
    record { enough = ltb-false (sources_hold o.owners sources o.nodes) count b.0; other = c.0; is = ok_is c.1 }

pub reshards_are_legal : ReshardsAreLegal
reshards_are_legal o sources target count batch lines table exists b e =
    let r = reshard_is o sources target count batch lines e in
    subst (IsLegalText o) r.is
    (moves_legal o table (source_gives o.owners sources o.nodes count) (target_takes target count)
    (reshard_moves o table sources target count exists r.enough r.other) batch b)

pub reshards_move_all : ReshardsMoveAll
reshards_move_all o sources target count batch lines table exists b e =
    let r = reshard_is o sources target count batch lines e in
    subst (λ l. moved_count (plan_commands o.nodes l) ≡ count) r.is
    (moves_counted o table (source_gives o.owners sources o.nodes count) (target_takes target count)
    (reshard_moves o table sources target count exists r.enough r.other) batch
    ∙ all_given o table sources target count exists r.enough r.other)

record IsRebalance (o : Owners) (weights : List ℕ) (threshold : ℕ) (use_empty : Bool) (batch : ℕ) (lines : List Line) : Type 0 where
  some : 0 < whole_weight o.owners weights use_empty o.nodes
  is : cond (is_off o weights threshold use_empty) (rebalanced o (quotas o weights use_empty) batch) [] ≡ lines

rebalance_is : (o : Owners) (weights : List ℕ) (threshold : ℕ) (use_empty : Bool) (batch : ℕ) (lines : List Line)
    → rebalance_answer o weights threshold use_empty batch ≡ Ok lines → IsRebalance o weights threshold use_empty batch lines
rebalance_is o weights threshold use_empty batch lines e =
    let a = let_in (eqb (whole_weight o.owners weights use_empty o.nodes) 0) _ _ lines e in
    record { some = above (whole_weight o.owners weights use_empty o.nodes) a.0; is = ok_is a.1 }
  where
    above : (w : ℕ) → eqb w 0 ≡ false → 0 < w
    above w f = elim (cases_eq w 0) [ inl u ↦ absurd (eqb-false w 0 f u) | inr u ↦ (omega arith) ]

pub rebalances_are_legal : RebalancesAreLegal
rebalances_are_legal o weights threshold use_empty batch lines table b e =
    let r = rebalance_is o weights threshold use_empty batch lines e in
    subst (IsLegalText o) r.is (by (is_off o weights threshold use_empty) r.some)
  where
    by : (off : Bool) → 0 < whole_weight o.owners weights use_empty o.nodes
        → IsLegalText o (cond off (rebalanced o (quotas o weights use_empty) batch) [])
    by true some = moves_legal o table (surplus (held o.owners) (quotas o weights use_empty))
        (shortage (held o.owners) (quotas o weights use_empty)) (rebalance_moves o table weights use_empty some) batch b
    by false some = nothing_legal o table

pub rebalances_move_fewest : RebalancesMoveFewest
rebalances_move_fewest o weights threshold use_empty batch lines table b e off =
    let r = rebalance_is o weights threshold use_empty batch lines e in
    subst (IsRebalancing o (quotas o weights use_empty))
    (sym (cond-true (is_off o weights threshold use_empty) (rebalanced o (quotas o weights use_empty) batch) [] off) ∙ r.is)
    (rebalance_fewest o table weights use_empty r.some batch b)
