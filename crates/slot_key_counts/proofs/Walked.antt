-- Batches, rounds, and what the commands of a plan move, one step more.
use Rattle.std.proofs.Common.{◌≡◌, ◌∙◌, ℕ, suc, ◌+◌, ◌<◌, ◌≤◌, List, [], ◌∷◌, length, get_or, drop, Bool, true, false, Result, Ok, Err, inl, inr, refl, sym, ap, subst, arith, add-one}
use Rattle.std.proofs.Math.Seq.{drop-cons}
use Rattle.std.proofs.lemmas.Bool.Decides.{eqb_tells}
use Rattle.std.proofs.lemmas.List.{drop_all, length-drop}
use Rattle.std.specs.Prelude.{◌==◌}
use Rattle.cluster_views.specs.declared.fault.SurveyFault.{SurveyFault}
use Rattle.cluster_views.specs.declared.fault.SurveyFault.TheVariants as fault
use Rattle.slot_key_counts.specs.Rounds.{AreNotAsked, AreRounds, HearsBatch, HearsKeys, IsRound, SendsAll, SendsBatch, Talk, Told, Wants, batch, is_last, nothing, with_keys}

module _ {L : Type 0} (by : Talk L) where
  -- ---- a batch

  -- where there is a slot, all of them are sent
  pub sent_some : (n : ℕ) (ss : List ℕ) (links links' : List L) (r : Result (Unit {0}) SurveyFault) → 1 ≤ length ss
      → SendsAll by n ss links r links' → SendsBatch by n ss links r links'
  sent_some n [] links links' r some sent = absurd (omega arith)
  sent_some n (s ∷ ss) links links' r some sent = sent

  -- what is left from this place on
  left_at : (ss : List ℕ) (place s : ℕ) → place < length ss → drop place ss ≡ get_or ss place s ∷ drop (place + 1) ss
  left_at ss place s here =
      drop-cons ss place s here ∙ ap (λ (k : ℕ). get_or ss place s ∷ drop k ss) (sym (add-one place))

  none_left : (ss : List ℕ) → length ss ≡ 0 → is_last ss ≡ true
  none_left [] none = refl
  none_left (s ∷ ss) none = absurd (omega arith)

  some_left : (ss : List ℕ) → 1 ≤ length ss → is_last ss ≡ false
  some_left [] some = absurd (omega arith)
  some_left (s ∷ ss) some = refl

  last_at : (ss : List ℕ) (k : ℕ) → k ≤ length ss → (k == length ss) ≡ is_last (drop k ss)
  last_at ss k within = elim (eqb_tells k (length ss)) as (λ x. (k == length ss) ≡ is_last (drop k ss)) [
    | inl same ↦ same.0 ∙ sym (none_left (drop k ss) (omega (arith, length-drop k ss, same.1)))
    | inr other ↦ other.0 ∙ sym (some_left (drop k ss) (omega (arith, length-drop k ss, other.1)))
  ]

  -- one reply more, after which the others come
  pub one_heard : (n : ℕ) (ss : List ℕ) (place s : ℕ) (last : Bool) (told next : Told) (links mid links' : List L) (keys : ℕ)
      (r : Result Told SurveyFault) → place < length ss → s ≡ get_or ss place s → last ≡ (place + 1 == length ss)
      → HearsKeys by n last links (Ok keys) mid → next ≡ with_keys told n s keys
      → HearsBatch by n (drop (place + 1) ss) next mid r links' → HearsBatch by n (drop place ss) told links r links'
  one_heard n ss place s last told next links mid links' keys r here is which heard put more =
      subst (λ (x : List ℕ). HearsBatch by n x told links r links') (sym (left_at ss place s here ∙ ap (λ (x : ℕ). x ∷ drop (place + 1) ss) (sym is)))
      (inl (
        keys,
        mid,
        subst (λ (b : Bool). HearsKeys by n b links (Ok keys) mid) (which ∙ last_at ss (place + 1) (omega arith)) heard,
        subst (λ (t : Told). HearsBatch by n (drop (place + 1) ss) t mid r links') put more,
      ))

  -- it is no number
  pub none_heard : (n : ℕ) (ss : List ℕ) (place : ℕ) (last : Bool) (told : Told) (links links' : List L) (e : SurveyFault)
      → place < length ss → last ≡ (place + 1 == length ss)
      → HearsKeys by n last links (Err e) links' → HearsBatch by n (drop place ss) told links (Err e) links'
  none_heard n ss place last told links links' e here which heard =
      subst (λ (x : List ℕ). HearsBatch by n x told links (Err e) links') (sym (left_at ss place 0 here))
      (inr (e, subst (λ (b : Bool). HearsKeys by n b links (Err e) links') (which ∙ last_at ss (place + 1) (omega arith)) heard, refl))

  pub all_heard : (n : ℕ) (ss : List ℕ) (place : ℕ) (told : Told) (links : List L) → length ss ≤ place
      → HearsBatch by n (drop place ss) told links (Ok told) links
  all_heard n ss place told links over =
      subst (λ (x : List ℕ). HearsBatch by n x told links (Ok told) links) (sym (drop_all place ss over)) (refl, refl)

  -- ---- a round

  module _ (batches : ℕ → List ℕ) where
    pub no_node : (n : ℕ) (told : Told) (links : List L) → n ≡ 0 → IsRound by batches n told links (Ok told) links
    unfolding IsRound
    no_node n told links is = subst (λ (x : ℕ). IsRound by batches x told links (Ok told) links) (sym is) (refl, refl)

    at_next : (n k : ℕ) (told : Told) (links links' : List L) (r : Result Told SurveyFault) → n ≡ k + 1
        → IsRound by batches (suc k) told links r links' → IsRound by batches n told links r links'
    at_next n k told links links' r is round =
        subst (λ (x : ℕ). IsRound by batches x told links r links') (sym (is ∙ add-one k)) round

    pub node_heard : (n k : ℕ) (ss : List ℕ) (told next : Told) (links mid heard links' : List L) (r : Result Told SurveyFault)
        → n ≡ k + 1 → ss ≡ batches k → SendsBatch by k ss links (Ok tt) mid → IsRound by batches k told mid (Ok next) heard
        → HearsBatch by k ss next heard r links' → IsRound by batches n told links r links'
    unfolding IsRound
    node_heard n k ss told next links mid heard links' r is same sent others own = at_next n k told links links' r is
        (inl (
          mid,
          next,
          heard,
          subst (λ (x : List ℕ). SendsBatch by k x links (Ok tt) mid) same sent,
          others,
          subst (λ (x : List ℕ). HearsBatch by k x next heard r links') same own,
        ))

    pub others_failed : (n k : ℕ) (ss : List ℕ) (told : Told) (links mid links' : List L) (e : SurveyFault)
        → n ≡ k + 1 → ss ≡ batches k → SendsBatch by k ss links (Ok tt) mid → IsRound by batches k told mid (Err e) links'
        → IsRound by batches n told links (Err e) links'
    unfolding IsRound
    others_failed n k ss told links mid links' e is same sent others = at_next n k told links links' (Err e) is
        (inr (inl (mid, e, subst (λ (x : List ℕ). SendsBatch by k x links (Ok tt) mid) same sent, others, refl)))

    pub not_sent : (n k : ℕ) (ss : List ℕ) (told : Told) (links links' : List L) (e : SurveyFault)
        → n ≡ k + 1 → ss ≡ batches k → SendsBatch by k ss links (Err e) links' → IsRound by batches n told links (Err e) links'
    unfolding IsRound
    not_sent n k ss told links links' e is same sent = at_next n k told links links' (Err e) is
        (inr (inr (inl (e, subst (λ (x : List ℕ). SendsBatch by k x links (Err e) links') same sent, refl))))

    pub no_memory : (n k : ℕ) (told : Told) (links links' : List L) (e : SurveyFault)
        → n ≡ k + 1 → links' ≡ links → e ≡ fault.Memory → IsRound by batches n told links (Err e) links'
    unfolding IsRound
    no_memory n k told links links' e is same memory = at_next n k told links links' (Err e) is
        (inr (inr (inr (same, ap (λ (x : SurveyFault). Err x) memory))))

  -- ---- rounds

  module _ (wants : Wants) (nodes : ℕ) where
    pub no_round : (told : Told) (links : List L) → AreRounds by wants nodes 0 told links (Ok told) links
    unfolding AreRounds
    no_round told links = (refl, refl)

    pub one_round : (k : ℕ) (start told : Told) (links mid links' : List L) (r : Result Told SurveyFault)
        → AreRounds by wants nodes k start links (Ok told) mid
        → IsRound by (λ n. batch (wants n) k 256) nodes told mid r links'
        → AreRounds by wants nodes (k + 1) start links r links'
    unfolding AreRounds
    one_round k start told links mid links' r done round =
        subst (λ (x : ℕ). AreRounds by wants nodes x start links r links') (sym (add-one k)) (told, mid, done, round)

    pub round_failed : (k : ℕ) (start told : Told) (links mid links' : List L) (e : SurveyFault) → start ≡ nothing → k + 1 ≤ 64
        → AreRounds by wants nodes k start links (Ok told) mid
        → IsRound by (λ n. batch (wants n) k 256) nodes told mid (Err e) links'
        → AreNotAsked by wants nodes links e links'
    round_failed k start told links mid links' e none few done round =
        inr (
          k + 1,
          few,
          subst (λ (t : Told). AreRounds by wants nodes (k + 1) t links (Err e) links') none
              (one_round k start told links mid links' (Err e) done round),
        )
