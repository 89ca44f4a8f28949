-- The table that a drain leaves.
use Rattle.std.proofs.Common.{◌≡◌, ℕ, zero, suc, ◌<◌, Bool, true, false, cond, eqb, List, [], ◌∷◌}
use Rattle.std.proofs.Common.{length, get_or, Err, Ok, Option, Some, None, sym, refl, ap, ◌∙◌, subst, arith, inl, inr}
use Rattle.std.proofs.lemmas.Bool.{cond-true, eq-eqb, eqb-true, or_cases, true≢false}
use Rattle.std.specs.List.{All, AllByRecursion}
use Rattle.key_slots.specs.Owners.{IsTable, Owners}
use Rattle.plan_language.specs.declared.line.Line.{Line}
use Rattle.plan_semantics.specs.Plans.{among}
use Rattle.reshard_planner.specs.Answers.{Answer, drain_answer, is_nothing, rebalanced}
use Rattle.reshard_planner.specs.declared.planner_fault.PlannerFault.TheVariants.{NoSource, NoTarget}
use Rattle.reshard_planner.specs.Draining.{IsDrain, IsDrained, are_mixed, drain_quota}
use Rattle.reshard_planner.specs.Holding.{held}
use Rattle.reshard_planner.specs.Laws.{DrainsAreLegal, DrainsEmptySources, IsBatch, IsLegalText, MovesFewest}
use Rattle.reshard_planner.specs.Quotas.{shortage, surplus}
use Rattle.reshard_planner.specs.Sums.{sum_below}
use Rattle.reshard_planner.specs.declared.transfer.Transfer.{Transfer}
use Rattle.reshard_planner.proofs.DrainQuotas.{other_quota, quota_grows, quota_level, quota_sum, source_quota}
use Rattle.reshard_planner.proofs.Finals.{applied, by_target, get-applied}
use Rattle.reshard_planner.proofs.Grouped.{target_of}
use Rattle.reshard_planner.proofs.Moving.{IsTransfer, all_exchanged, are_transfers}
use Rattle.reshard_planner.proofs.Planned.{all_held, let_in, ok_is, quota_fewest, quota_final, quota_legal, quota_moves}
use Rattle.reshard_planner.proofs.Planned.{quota_transfers}
use Rattle.reshard_planner.proofs.Walking.{by_recursion}

-- a node that owns a slot holds one
held_some : (owners : List ℕ) (s node : ℕ) → s < length owners → get_or owners s 0 ≡ node → 0 < held owners node
held_some [] s node l e = absurd (omega arith)
held_some (o ∷ owners) zero node l e =
    let c : ◌≡◌ {A = ℕ} (cond (eqb o node) 1 0) 1 = cond-true (eqb o node) 1 0 (eq-eqb o node e) in omega arith
held_some (o ∷ owners) (suc s) node l e =
    let r : 0 < held owners node = held_some owners s node (omega arith) e in omega arith

-- the first transfer of a slot is of its owner, which gives, to a node that takes
found : (n : ℕ) (owners : List ℕ) (gives takes : ℕ → ℕ) (ts : List Transfer) (s x : ℕ)
    → AllByRecursion (IsTransfer n owners) ts → AllByRecursion (λ t. (0 < gives t.source) × (0 < takes t.target)) ts
    → target_of ts s ≡ Some x → (0 < gives (get_or owners s 0)) × (0 < takes x)
found n owners gives takes [] s x are each e = absurd (none e)
  where
    none : (let o : Option ℕ = None in o) ≡ Some x → ⊥
    none u = cc
found n owners gives takes (t ∷ ts) s x are each e =
    by (eqb t.slot s) refl (λ is. found n owners gives takes ts s x are.1 each.1 is) e
  where
    same : {a b : ℕ} → (let o : Option ℕ = Some a in o) ≡ Some b → a ≡ b
    same {a} {b} u = cc

    by : (b : Bool) → eqb t.slot s ≡ b
        → (target_of ts s ≡ Some x → (0 < gives (get_or owners s 0)) × (0 < takes x))
        → cond b (Some t.target) (target_of ts s) ≡ Some x → (0 < gives (get_or owners s 0)) × (0 < takes x)
    by true here rest is = (
      subst (λ o. 0 < gives o) (sym are.0.owned ∙ ap (λ k. get_or owners k 0) (eqb-true t.slot s here)) each.0.0,
      subst (λ y. 0 < takes y) (same is) each.0.1,
    )
    by false apart rest is = rest is

-- what holds of all holds of one of them
all_among : (P : ℕ → Type 0) (x : ℕ) (xs : List ℕ) → AllByRecursion P xs → among x xs ≡ true → P x
all_among P x [] h e = absurd (true≢false (sym e))
all_among P x (y ∷ ys) h e = elim (or_cases (eqb x y) (among x ys) e) [
  | inl here ↦ subst P (sym (eqb-true x y here)) h.0
  | inr there ↦ all_among P x ys h.1 there
]

module _ (o : Owners) (table : IsTable o) (sources : List ℕ) (t : ℕ) (ts : List ℕ) (first : t < o.nodes)
    (others : AllByRecursion (λ x. x < o.nodes) ts) (apart : are_mixed sources (t ∷ ts) ≡ false) where
  abbrev quota : ℕ → ℕ
  quota = drain_quota o sources (t ∷ ts)

  all : sum_below quota o.nodes ≡ 16384
  all = quota_sum o sources t ts first others (all_held o table)

  abbrev moved : List Transfer
  moved = quota_transfers o table quota all

  abbrev final : List ℕ
  final = applied o.owners moved

  transferred : AllByRecursion (IsTransfer o.nodes o.owners) moved
  transferred = are_transfers o.nodes o.owners (surplus (held o.owners) quota) (shortage (held o.owners) quota)
      (quota_moves o table quota all)

  exchanged : AllByRecursion (λ t. (0 < surplus (held o.owners) quota t.source)
      × (0 < shortage (held o.owners) quota t.target)) moved
  exchanged = all_exchanged o.nodes o.owners (surplus (held o.owners) quota) (shortage (held o.owners) quota)
      (quota_moves o table quota all)

  -- the owner in the end
  owner_is : (s : ℕ) → get_or final s 0 ≡ by_target (get_or o.owners s 0) (target_of moved s)
  owner_is s = get-applied o.nodes o.owners moved s transferred

  named : (s : ℕ) → s < 16384 → get_or o.owners s 0 < o.nodes
  named s l = table.named s 0 (let w = table.width in omega arith)

  kept : (s : ℕ) → s < 16384 → among (get_or o.owners s 0) sources ≡ false → get_or final s 0 ≡ get_or o.owners s 0
  kept s l source = owner_is s ∙ by (target_of moved s) refl
    where
      by : (x : Option ℕ) → target_of moved s ≡ x → by_target (get_or o.owners s 0) x ≡ get_or o.owners s 0
      by None e = refl
      by (Some x) e =
          let p = found o.nodes o.owners (surplus (held o.owners) quota) (shortage (held o.owners) quota) moved s x
          transferred exchanged e in
          let g = quota_grows o sources t ts (get_or o.owners s 0) source in
          let f = p.0 in absurd (omega arith)

  taken : MovesFewest o.nodes quota o.owners final → length final ≡ 16384 → (s : ℕ) → s < 16384
      → among (get_or o.owners s 0) sources ≡ true → among (get_or final s 0) (t ∷ ts) ≡ true
  taken fewest width s l source = ap (λ x. among x (t ∷ ts)) (owner_is s) ∙ by (target_of moved s) refl
    where
      takes_some : (x : ℕ) (a b : Bool) → among x sources ≡ a → among x (t ∷ ts) ≡ b
          → 0 < shortage (held o.owners) quota x → among x (t ∷ ts) ≡ true
      takes_some x a true in_sources in_targets some = in_targets
      takes_some x true false in_sources in_targets some =
          let z = source_quota o sources t ts apart x in_sources in absurd (omega arith)
      takes_some x false false in_sources in_targets some =
          let z = other_quota o sources t ts x in_sources in_targets in absurd (omega arith)

      by : (x : Option ℕ) → target_of moved s ≡ x → among (by_target (get_or o.owners s 0) x) (t ∷ ts) ≡ true
      by None e =
          let z : held final (get_or o.owners s 0) ≡ quota (get_or o.owners s 0)
          = fewest.meets (get_or o.owners s 0) (named s l) in
          let q = source_quota o sources t ts apart (get_or o.owners s 0) source in
          let h = held_some final s (get_or o.owners s 0) (omega (arith, width, l))
          (owner_is s ∙ ap (by_target (get_or o.owners s 0)) e) in
          absurd (omega arith)
      by (Some x) e =
          let p = found o.nodes o.owners (surplus (held o.owners) quota) (shortage (held o.owners) quota) moved s x
          transferred exchanged e in
          takes_some x (among x sources) (among x (t ∷ ts)) refl refl p.1

  below : (x : ℕ) → among x (t ∷ ts) ≡ true → x < o.nodes
  below x is = all_among (λ y. y < o.nodes) x (t ∷ ts) (first, others) is

  pub drained : (batch : ℕ) → IsBatch batch → IsDrain o sources (t ∷ ts) (rebalanced o quota batch)
  drained batch b end is = subst (IsDrained o sources (t ∷ ts)) (sym same) (record {
    empty = λ node l source. fewest.meets node l ∙ source_quota o sources t ts apart node source;
    taken = taken fewest (ap length (sym same) ∙ is.width);
    kept = kept;
    level = λ node other there here given.
        let m : held final node ≡ quota node = fewest.meets node (below node there) in
        let n : held final other ≡ quota other = fewest.meets other (below other here) in
        let l = quota_level o sources t ts apart node other there here (omega arith) in omega arith;
  })
    where
      same : end ≡ final
      same = quota_final o table quota all batch b end is

      fewest : MovesFewest o.nodes quota o.owners final
      fewest = subst (MovesFewest o.nodes quota o.owners) same (quota_fewest o table quota all batch b end is)

-- ---- the answers

record IsAnswer (o : Owners) (sources targets : List ℕ) (batch : ℕ) (lines : List Line) : Type 0 where
  first : ℕ
  others : List ℕ
  are : targets ≡ first ∷ others
  apart : are_mixed sources (first ∷ others) ≡ false
  is : rebalanced o (drain_quota o sources (first ∷ others)) batch ≡ lines

answer_is : (o : Owners) (sources targets : List ℕ) (batch : ℕ) (lines : List Line)
    → drain_answer o sources targets batch ≡ Ok lines → IsAnswer o sources targets batch lines
answer_is o sources [] batch lines e =
    let a = let_in (is_nothing sources) (Err NoTarget) NoSource lines e in absurd (no_lines a.1)
  where
    no_lines : (let r : Answer = Err NoTarget in r) ≡ Ok lines → ⊥
    no_lines u = cc
answer_is o sources (t ∷ ts) batch lines e =
    let a = let_in (is_nothing sources) _ _ lines e in
    let c = let_in (are_mixed sources (t ∷ ts)) _ _ lines a.1 in
    record { first = t; others = ts; are = refl; apart = c.0; is = ok_is c.1 }

pub drains_are_legal : DrainsAreLegal
drains_are_legal o sources targets batch lines table exist b e =
    let a = answer_is o sources targets batch lines e in
    let all = by_recursion (λ x. x < o.nodes) (a.first ∷ a.others) (subst (All (λ x. x < o.nodes)) a.are exist) in
    subst (IsLegalText o) a.is
    (quota_legal o table (drain_quota o sources (a.first ∷ a.others))
    (quota_sum o sources a.first a.others all.0 all.1 (all_held o table)) batch b)

pub drains_empty_sources : DrainsEmptySources
drains_empty_sources o sources targets batch lines table exist b e =
    let a = answer_is o sources targets batch lines e in
    let all = by_recursion (λ x. x < o.nodes) (a.first ∷ a.others) (subst (All (λ x. x < o.nodes)) a.are exist) in
    subst (λ ts. IsDrain o sources ts lines) (sym a.are)
    (subst (IsDrain o sources (a.first ∷ a.others)) a.is
    (drained o table sources a.first a.others all.0 all.1 a.apart batch b))
