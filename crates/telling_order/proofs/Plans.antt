-- Whole plans, in one order and in another.
use Rattle.std.proofs.Common.{◌≡◌, ◌≢◌, ℕ, List, [], ◌∷◌, ◌++◌, length, append_assoc, sym, ap, ◌∙◌, subst, inl, inr}
use Rattle.std.proofs.lemmas.Bool.{cases_eq}
use Rattle.cluster_admin.specs.Phases.{Phases}
use Rattle.cluster_world.specs.declared.event.Event.{Event}
use Rattle.plan_language.specs.declared.plan_command.PlanCommand.{PlanCommand}
use Rattle.plan_language.specs.declared.plan_command.PlanCommand.TheVariants as planned
use Rattle.reshard_theorem.specs.Counts.{counts, first_counts}
use Rattle.plan_semantics.specs.Costs.{plan_cost}
use Rattle.plan_semantics.specs.Plans.{IsFinal, IsPart, Legal, part, tell}
use Rattle.reshard_theorem.specs.Starts.{Reshard, Starts}
use Rattle.plan_semantics.proofs.OwnedMoves.{part-append}
use Rattle.reshard_theorem.specs.Headline.{HeadlineHolds}
use Rattle.reshard_theorem.specs.ServerHeadline.{ServerHeadlineHolds}
use Rattle.telling_order.specs.AnyOrder.{CostsTheSame, IsSourceTold, LeavesTheSameOwners, StaysLegal}
use Rattle.telling_order.specs.AnyOrder.{TellsInAnotherOrder, TellsInAnyOrder}
use Rattle.telling_order.specs.Headline.{AreAsGood, HeadlineInAnyOrder, ServerHeadlineInAnyOrder}
use Rattle.telling_order.proofs.Costs.{same_cost, same_first}
use Rattle.telling_order.proofs.Owners.{part_here, part_tell, part_there, same_final}
use Rattle.telling_order.proofs.Parts.{in_first, in_part}

-- ---- legal plans

module _ (v n : ℕ) (phases : Phases) (plan other : List PlanCommand) (r : TellsInAnotherOrder phases plan other) where
  abbrev f : List PlanCommand
  f = part r.front r.s

  abbrev k : List PlanCommand
  k = part r.back r.s

  here : part plan r.s ≡ f ++ (tell r.s r.target r.nodes ++ k)
  here = ap (λ l. part l r.s) r.is ∙ part_here r.s r.target r.front r.back r.nodes

  here' : part other r.s ≡ f ++ (tell r.s r.target r.nodes' ++ k)
  here' = ap (λ l. part l r.s) r.other_is ∙ part_here r.s r.target r.front r.back r.nodes'

  -- after the one that tells the source, or another
  behind : (before : List PlanCommand) (o : ℕ) → o ≢ r.target
      → r.front ≡ before ++ planned.SetNode r.s r.target o ∷ [] → IsPart v n r.s (phases r.s) (part plan r.s)
      → IsPart v n r.s (phases r.s) (part other r.s)
  behind before o apart is c =
      let b = part before r.s in
      let one = planned.SetNode r.s r.target o ∷ [] in
      let front : f ≡ b ++ one =
      ap (λ l. part l r.s) is ∙ part-append before one r.s
      ∙ ap (λ l. b ++ l) (part_tell r.s r.target (o ∷ [])) in
      let parted : (ns : List ℕ) → f ++ (tell r.s r.target ns ++ k) ≡ b ++ (one ++ (tell r.s r.target ns ++ k)) =
      λ ns. ap (λ l. l ++ (tell r.s r.target ns ++ k)) front
      ∙ append_assoc b one (tell r.s r.target ns ++ k) in
      subst (IsPart v n r.s (phases r.s)) (sym (here' ∙ parted r.nodes'))
      (in_part v n r.s r.target o apart r.nodes r.nodes' r.reordered k (phases r.s) b
      (subst (IsPart v n r.s (phases r.s)) (here ∙ parted r.nodes) c))

  part_stays : IsSourceTold phases r.front r.s r.target → IsPart v n r.s (phases r.s) (part plan r.s)
      → IsPart v n r.s (phases r.s) (part other r.s)
  part_stays (inl told) c = behind told.0 told.1 told.2 told.3 c
  part_stays (inr first) c =
      let bare : (ns : List ℕ) → f ++ (tell r.s r.target ns ++ k) ≡ tell r.s r.target ns ++ k =
      λ ns. ap (λ l. l ++ (tell r.s r.target ns ++ k)) first.0 in
      subst (IsPart v n r.s (phases r.s)) (sym (here' ∙ bare r.nodes'))
      (in_first v n r.s r.target r.nodes' k (phases r.s) r.nodes first.1 r.reordered
      (subst (IsPart v n r.s (phases r.s)) (here ∙ bare r.nodes) c))

  stays : Legal v plan phases n → Legal v other phases n
  stays legal q = elim (cases_eq r.s q) [
    | inl at ↦ subst (λ z. IsPart v n z (phases z) (part other z)) at (part_stays r.told (legal r.s))
    | inr apart ↦ subst (IsPart v n q (phases q))
        (ap (λ l. part l q) r.is ∙ part_there r.s q r.target r.front r.back r.nodes apart
        ∙ sym (ap (λ l. part l q) r.other_is ∙ part_there r.s q r.target r.front r.back r.nodes' apart))
        (legal q)
  ]

pub stays_legal : StaysLegal
stays_legal v n phases plan other [] is legal = subst (λ l. Legal v l phases n) (sym is) legal
stays_legal v n phases plan other (next ∷ more) is legal =
    stays_legal v n phases next other more is.1 (stays v n phases plan next is.0 legal)

pub leaves_the_same : LeavesTheSameOwners
leaves_the_same phases plan other [] final is f = subst (λ l. IsFinal l phases final) (sym is) f
leaves_the_same phases plan other (next ∷ more) final is f =
    leaves_the_same phases next other more final is.1 (same_final phases plan next final is.0 f)

pub costs_the_same : CostsTheSame
costs_the_same phases plan other [] counted is = ap (plan_cost counted) is
costs_the_same phases plan other (next ∷ more) counted is =
    costs_the_same phases next other more counted is.1 ∙ same_cost phases plan next counted is.0

-- ---- the headline

module _ (reshard : Reshard) where
  first_same : (plan other : List PlanCommand) (between : List (List PlanCommand))
      → TellsInAnyOrder reshard.phases plan between other → (q : ℕ)
      → first_counts reshard.first other q ≡ first_counts reshard.first plan q
  first_same plan other [] is q = ap (λ l. first_counts reshard.first l q) is
  first_same plan other (next ∷ more) is q =
      first_same next other more is.1 q ∙ same_first reshard.first reshard.phases plan next is.0 q

  pub are_as_good : (other : List PlanCommand) (between : List (List PlanCommand)) (events : List Event)
      → TellsInAnyOrder reshard.phases reshard.plan between other → AreAsGood reshard other events
  are_as_good other between events is = record {
    cost = ap (λ κ. plan_cost (counts κ reshard.first events) other)
        (λ i q. first_same reshard.plan other between is q i)
        ∙ costs_the_same reshard.phases reshard.plan other between
        (counts (first_counts reshard.first reshard.plan) reshard.first events) is;
    owners = λ final f. leaves_the_same reshard.phases reshard.plan other between final is f;
  }

  pub starts_so : (other : List PlanCommand) (between : List (List PlanCommand))
      → TellsInAnyOrder reshard.phases reshard.plan between other → Starts reshard
      → Starts (record reshard { plan = other })
  starts_so other between is starts = record {
    legal = stays_legal reshard.version (length reshard.first.nodes) reshard.phases reshard.plan other between is
        starts.legal;
    is_open = starts.is_open;
  }

pub in_any_order : HeadlineHolds → HeadlineInAnyOrder
in_any_order holds reshard other between events last starts is run driven honest = (
  holds (record reshard { plan = other }) events last
      (record { starts = starts_so reshard other between is starts; run = run; driven = driven; honest = honest }),
  are_as_good reshard other between events is,
)

pub in_any_order_at_servers : ServerHeadlineHolds → ServerHeadlineInAnyOrder
in_any_order_at_servers holds reshard other between events last starts is run driven honest = (
  holds (record reshard { plan = other }) events last
      (record { starts = starts_so reshard other between is starts; run = run; driven = driven; honest = honest }),
  are_as_good reshard other between events is,
)
