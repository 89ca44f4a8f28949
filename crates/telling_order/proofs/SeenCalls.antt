-- The headline of the calls that servers saw of a program that tells nodes in one go.
use Rattle.std.proofs.Common.{◌≡◌, ℕ, List, [], ◌∷◌, ◌++◌, append_assoc, append-nil, length, map}
use Rattle.std.proofs.Common.{sym, ap, ◌∙◌, subst, inl, inr}
use Rattle.cluster_admin.specs.Phases.{Phases}
use Rattle.cluster_admin.specs.declared.call.AdminCall.{AdminCall}
use Rattle.plan_language.specs.declared.plan_command.PlanCommand.{PlanCommand}
use Rattle.cluster_world.specs.AdminCalls.{calls}
use Rattle.plan_semantics.specs.Plans.{Legal, tell}
use Rattle.plan_semantics.specs.Unrolling.{IsPrefix, Unrolls}
use Rattle.reshard_theorem.specs.ServerHeadline.{ServerHeadlineHolds}
use Rattle.reshard_theorem.specs.ServerRuns.{ServerPrefixesAreDriven, ServersLeaveOpen}
use Rattle.telling_order.specs.AnyOrder.{TellsInAnotherOrder, TellsInAnyOrder}
use Rattle.telling_order.specs.SeenCalls.{AreSeenInOneGo, AreSeenReordered, HoldsInAnyOrder, SeenCallsHaveTheHeadline}
use Rattle.telling_order.proofs.OneGo.{in_their_order, runs_so, told_in_another, told_prefix}
use Rattle.telling_order.proofs.Swaps.{TellsSo, last_told_source, reordered_before, tells_so}

-- a plan in another order, of which these calls are a prefix
pub record IsBegunSo (phases : Phases) (plan : List PlanCommand) (seen : List AdminCall) : Type 0 where
  pub other : List PlanCommand
  pub between : List (List PlanCommand)
  pub tells : TellsInAnyOrder phases plan between other
  pub prefix : IsPrefix other seen

seen_part : (plan : List PlanCommand) (seen later more other : List AdminCall) → other ≡ seen ++ later
    → Unrolls plan (other ++ more) → IsPrefix plan seen
seen_part plan seen later more other is u = (
  later ++ more,
  subst (Unrolls plan) (ap (λ l. l ++ more) is ∙ append_assoc seen later more) u,
)

-- nothing follows the plan
tells_alone : (phases : Phases) (plan other : List PlanCommand) (between : List (List PlanCommand))
    → TellsInAnyOrder phases (plan ++ []) between (other ++ []) → TellsInAnyOrder phases plan between other
tells_alone phases plan other between tells =
    subst (λ l. TellsInAnyOrder phases l between other) (append-nil plan)
    (subst (λ l. TellsInAnyOrder phases (plan ++ []) between l) (append-nil other) tells)

pub seen_reordered : (phases : Phases) (plan : List PlanCommand) (seen : List AdminCall) → AreSeenReordered plan seen
    → IsBegunSo phases plan seen
seen_reordered phases plan seen are =
    let more = are.prefix.0 in
    let r : TellsSo plan (are.other ++ more) =
    tells_so plan (are.sent ++ more) (map (λ l. l ++ more) are.between) (are.other ++ more)
    (reordered_before more are.sent are.between are.other are.reorders) are.prefix.1 in
    record {
      other = r.other;
      between = map (λ l. l ++ []) r.between;
      tells = tells_alone phases plan r.other (map (λ l. l ++ []) r.between) (r.tells phases []);
      prefix = seen_part r.other seen are.later more are.other are.is r.unrolls;
    }

pub seen_in_one_go : (v n : ℕ) (phases : Phases) (plan : List PlanCommand) (seen : List AdminCall)
    → Legal v plan phases n → AreSeenInOneGo plan seen → IsBegunSo phases plan seen
seen_in_one_go v n phases plan seen legal are =
    let s = are.s in
    let t = are.target in
    let r : TellsSo are.front are.before' =
    tells_so are.front are.before are.between are.before' are.reorders are.carried_out in
    let rest = tell s t (in_their_order are.nodes are.in_one_go) ++ are.back in
    let first : TellsInAnotherOrder phases plan (are.front ++ rest) =
    told_in_another s t are.nodes are.in_one_go are.are_told are.front are.back v n phases plan legal
    (last_told_source phases s t are.front are.before are.carried_out are.last) are.is in
    record {
      other = r.other ++ rest;
      between = (are.front ++ rest) ∷ map (λ l. l ++ rest) r.between;
      tells = (first, r.tells phases rest);
      prefix = subst (IsPrefix (r.other ++ rest)) (sym are.seen_is)
          (told_prefix s t are.nodes are.in_one_go are.are_told r.other are.back are.before' r.unrolls);
    }

-- ---- the headline

pub seen_calls_hold : ServerHeadlineHolds → ServerPrefixesAreDriven → ServersLeaveOpen → SeenCallsHaveTheHeadline
seen_calls_hold holds prefixes opens reshard events last starts run honest seen = elim seen [
  | inl are ↦ of (seen_reordered reshard.phases reshard.plan (calls events) are)
  | inr are ↦ of (seen_in_one_go reshard.version (length reshard.first.nodes) reshard.phases reshard.plan (calls events)
      starts.legal are)
]
  where
    of : IsBegunSo reshard.phases reshard.plan (calls events) → HoldsInAnyOrder reshard events last
    of b =
        let r = runs_so holds prefixes opens reshard b.other b.between events last starts b.tells run honest b.prefix in
        record {
          other = b.other;
          between = b.between;
          tells = b.tells;
          is_run = r.is_run;
          headline = r.headline;
          as_good = r.as_good;
          is_open = r.is_open;
        }
