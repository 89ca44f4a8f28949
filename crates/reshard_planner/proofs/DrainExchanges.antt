-- What a drain's exchange answers.
use Rattle.std.proofs.Common.{◌≡◌, ℕ, suc, ◌-◌, ◌<◌, ◌≤◌, Bool, true, false, cond, List, [], ◌∷◌, length, get_or, drop}
use Rattle.std.proofs.Common.{take, Ok, sym, ap, ◌∙◌, arith}
use Rattle.std.proofs.lemmas.Bool.{cond-false}
use Rattle.std.proofs.Math.Seq.{take-length}
use Rattle.key_slots.specs.Owners.{IsTable, Owners}
use Rattle.plan_semantics.specs.Plans.{among}
use Rattle.reshard_planner.specs.Answers.{drain_answer, is_nothing}
use Rattle.reshard_planner.specs.Draining.{are_mixed, drain_quota, emptied}
use Rattle.reshard_planner.specs.Exchanges.{IsAnsweredBy}
use Rattle.reshard_planner.specs.Grouping.{plan_of}
use Rattle.reshard_planner.specs.Holding.{held}
use Rattle.reshard_planner.specs.Quotas.{shortage, surplus}
use Rattle.reshard_planner.specs.Starts.{Lists}
use Rattle.reshard_planner.specs.Sums.{sum_below}
use Rattle.reshard_planner.proofs.Exchanging.{transfers_same}
use Rattle.reshard_planner.proofs.Planned.{all_held}
use Rattle.reshard_planner.proofs.Sums.{sum_le}
use Rattle.reshard_planner.proofs.Walking.{held-le}

-- the first of a list, and the others
pub first_and_rest : (xs : List ℕ) (x : ℕ) → 1 ≤ length xs → x ≡ get_or xs 0 x
    → xs ≡ x ∷ take (length xs - 1) (drop 1 xs)
first_and_rest [] x l e = absurd (omega arith)
first_and_rest (y ∷ ys) x l e =
    let less : suc (length ys) - 1 ≡ length ys = omega arith in
    ap (λ z. z ∷ ys) (sym e) ∙ ap (λ zs. x ∷ zs) (sym (ap (λ k. take k ys) less ∙ take-length ys))

-- no node holds more than all slots, also without those of the sources
pub emptied_small : (owners sources row : List ℕ) → length owners ≡ 16384 → Lists (emptied owners sources) 255 row
    → (node : ℕ) → node < 255 → get_or row node 0 ≤ 16384
emptied_small owners sources row width h node l =
    let e = h node l in
    let m = by (among node sources) in omega arith
  where
    by : (b : Bool) → cond b 0 (held owners node) ≤ 16384
    by true = omega arith
    by false = let k = held-le owners node in omega arith

module _ (o : Owners) (sources targets : List ℕ) (t : ℕ) (ts : List ℕ) (are : targets ≡ t ∷ ts) (table : IsTable o)
    (some : is_nothing sources ≡ false) (apart : are_mixed sources targets ≡ false) where
  abbrev quota : ℕ → ℕ
  quota = drain_quota o sources (t ∷ ts)

  pub drained_by : (held_by shares gives takes : List ℕ) (n : ℕ) → n ≡ o.nodes → Lists (held o.owners) 255 held_by
      → Lists quota 255 shares → Lists (λ node. get_or held_by node 0 - get_or shares node 0) n gives
      → Lists (λ node. get_or shares node 0 - get_or held_by node 0) n takes
      → IsAnsweredBy o (drain_answer o sources targets) gives takes
  drained_by held_by shares gives takes n same h g f k = record {
    table = table;
    few = let l : sum_below (λ node. get_or gives node 0) o.nodes ≤ sum_below (held o.owners) o.nodes
        = sum_le (λ node. get_or gives node 0) (held o.owners) o.nodes
        (λ i l. (let e : get_or gives i 0 ≡ held o.owners i - quota i = given_is i l in omega arith)) in
        let a = all_held o table in omega arith;
    is = λ batch. ap (λ xs. drain_answer o sources xs batch) are
        ∙ cond-false (is_nothing sources) _ _ some
        ∙ cond-false (are_mixed sources (t ∷ ts)) _ _ (ap (are_mixed sources) (sym are) ∙ apart)
        ∙ ap (λ xs. Ok (plan_of batch xs)) (sym (transfers_same o.owners (λ node. get_or gives node 0)
        (surplus (held o.owners) quota) (λ node. get_or takes node 0) (shortage (held o.owners) quota) o.nodes
        given_is taken_is));
  }
    where
      given_is : (i : ℕ) → i < o.nodes → get_or gives i 0 ≡ held o.owners i - quota i
      given_is i l = f i (omega arith)
          ∙ (λ j. h i (let w = table.most in omega arith) j - g i (let w = table.most in omega arith) j)

      taken_is : (i : ℕ) → i < o.nodes → get_or takes i 0 ≡ quota i - held o.owners i
      taken_is i l = k i (omega arith)
          ∙ (λ j. g i (let w = table.most in omega arith) j - h i (let w = table.most in omega arith) j)
