-- An open world is open in any phases that its slots have: they differ by the order of the nodes still to be told.
use Rattle.std.proofs.Common.{◌≡◌, ℕ, false, eqb, List, length, ap, subst}
use Rattle.store_commands.specs.Store.{Key, Store}
use Rattle.cluster_world.specs.Worlds.{World, owner, migrating, importing}
use Rattle.cluster_world.specs.declared.event.Event.{Event}
use Rattle.cluster_admin.specs.Phases.{Phase, Phases, Closed, Importing, Migrating, TargetTold, SourceTold, may_lie}
use Rattle.cluster_world.specs.Openness.{AskAllows, HasPhaseAt, HavePhases, Open}
use Rattle.plan_semantics.proofs.OnePhase.{SamePhase, one_phase}

-- what two phases of one slot have in common
record Agree (p q : Phase) : Type 0 where
  pub lie : (m : ℕ) → may_lie p m ≡ false → may_lie q m ≡ false
  pub asks : (w : World) (ks : List Key) (m : ℕ) → AskAllows p w ks m → AskAllows q w ks m

agree_itself : (p q : Phase) → p ≡ q → Agree p q
agree_itself p q e = subst (Agree p) e (record { lie = λ m h. h; asks = λ w ks m a. a })

same_agree : (p q : Phase) → SamePhase p q → Agree p q
same_agree (Closed o) (Closed o') h = agree_itself _ _ (ap Closed h)
same_agree (Importing s t) (Importing s' t') h = agree_itself _ _ (λ i. Importing (h.0 i) (h.1 i))
same_agree (Migrating s t) (Migrating s' t') h = agree_itself _ _ (λ i. Migrating (h.0 i) (h.1 i))
same_agree (TargetTold s t) (TargetTold s' t') h = agree_itself _ _ (λ i. TargetTold (h.0 i) (h.1 i))
same_agree (SourceTold s t left) (SourceTold s' t' left') h = record { lie = λ m e. subst (λ x. eqb m x ≡ false) h.1 e; asks = λ w ks m x. tt }
same_agree p q h = absurd h

agree : (w : World) (s : ℕ) (p q : Phase) → HasPhaseAt w s p → HasPhaseAt w s q → Agree p q
agree w s p q a b = same_agree p q (one_phase (length w.nodes) (λ m. owner w m s) (λ m. migrating w m s) (λ m. importing w m s) p q a b)

pub open_in : (w : World) (p q : Phases) (store : Store) (before : List Event) → Open w p store before → HavePhases w q → Open w q store before
open_in w p q store before o has = record {
  widths = o.widths;
  slots = λ s. let both : Agree (q s) (p s) = agree w s (q s) (p s) (has s) (o.slots s).has in
      let back : Agree (p s) (q s) = agree w s (p s) (q s) (o.slots s).has (has s) in
      record { has = has s; place = λ m k i e. (o.slots s).place m k i (both.lie m e); asked = λ ks m v one at. back.asks w ks m ((o.slots s).asked ks m v one at) };
  split = o.split;
}
