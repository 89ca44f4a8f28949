-- Servers that are asked one after the other.
use Rattle.std.proofs.Common.{◌≡◌, ◌≢◌, ℕ, ◌+◌, ◌<◌, List, [], ◌∷◌, ◌++◌, length, get_or, set, Result, Ok, Err, inl}
use Rattle.std.proofs.Common.{inr, refl, sym}
use Rattle.std.proofs.Common.{subst, ap, ◌∙◌, arith}
use Rattle.std.proofs.lemmas.Bool.{cases_lt}
use Rattle.std.proofs.lemmas.List.{get_or_append_left, get_or_default, get_or-set_other, get_or-set_same, length-append}
use Rattle.std.proofs.lemmas.List.{length-set}
use Rattle.std.proofs.Math.Seq.{get_or-append_seam}
use Rattle.listed_nodes.specs.declared.node_line.NodeLine.{NodeLine}
use Rattle.server_links.specs.Exchanges.{Answer}
use Rattle.server_commands.specs.declared.book.Server.{Server}
use Rattle.cluster_survey.specs.Asking.{AreAsked, IsStopped, IsUnsurveyed, IsViewed, View}
use Rattle.cluster_views.specs.Surveying.{IsRefusedOrMemory, IsSurveyed, Views, epochs_of, view_at}
use Rattle.cluster_views.specs.declared.surveying.Surveyed.{Surveyed}
use Rattle.std.specs.Prelude.{IfOk, MatchResult}
use Rattle.cluster_views.specs.declared.fault.SurveyFault.{SurveyFault}

module _ {L : Type 0} (ex : L → Answer → L → Type 0) where
  -- the servers before i were asked, and gave these views
  pub record Asked (links : List L) (i : ℕ) (views : Views) (mid : List L) : Type 0 where
    pub many : length views ≡ i
    pub are : AreAsked ex links views mid

  pub none_asked : (links : List L) (views : Views) → views ≡ [] → Asked links 0 views links
  none_asked links views e = record {
    many = ap length e;
    are = record {
      count = refl;
      asked = λ n d lt. absurd (omega (arith, ap length e));
      others = λ n d le. refl;
    };
  }

  -- the same by equal terms
  viewed_as : (n k : ℕ) (l m : L) (v w : View) (l' m' : L) → n ≡ k → l ≡ m → v ≡ w → l' ≡ m' → IsViewed ex n l v l'
      → IsViewed ex k m w m'
  viewed_as n k l m v w l' m' a b c d h =
      subst (λ x'. IsViewed ex k m w x') d
      (subst (λ x. IsViewed ex k m x l') c
      (subst (λ x. IsViewed ex k x v l') b (subst (λ x. IsViewed ex x l v l') a h)))

  -- one more was asked: the server n, whose link was l and is l'
  pub one_asked : (links mid mid' : List L) (views views' : Views) (i n at : ℕ) (l l' : L) (view : List NodeLine)
      → Asked links i views mid → i < length links → n ≡ i → at ≡ i → l ≡ get_or mid at l → mid' ≡ set mid at l'
      → views' ≡ views ++ view ∷ [] → IsViewed ex n l (Ok view) l' → Asked links (i + 1) views' mid'
  one_asked links mid mid' views views' i n at l l' view before lt same place is put more viewed = record {
    many = count;
    are = record {
      count = ap length put ∙ length-set mid at l' ∙ before.are.count;
      asked = λ k d ltk. elim (cases_lt k i) [
        | inl less ↦ viewed_as k k (get_or links k d) (get_or links k d) (Ok (view_at views k)) (Ok (view_at views' k))
            (get_or mid k d) (get_or mid' k d) refl refl
            (ap (λ v. Ok v) (sym (get_or_append_left views (view ∷ []) [] k (omega (arith, before.many))))
            ∙ ap (λ (vs : Views). Ok (view_at vs k)) (sym more))
            (sym (other k d (omega arith))) (before.are.asked k d (omega (arith, before.many)))
        | inr ge ↦
            let here : i ≡ k = omega (arith, count) in
            viewed_as n k l (get_or links k d) (Ok view) (Ok (view_at views' k)) l' (get_or mid' k d) (same ∙ here)
            (link_is k d here)
            (ap (λ v. Ok v) (sym (get_or-append_seam views view [] []))
            ∙ ap (λ j. Ok (view_at (views ++ view ∷ []) j)) (before.many ∙ here)
            ∙ ap (λ (vs : Views). Ok (view_at vs k)) (sym more))
            (sym (ap (λ (m : List L). get_or m k d) put ∙ ap (λ j. get_or (set mid j l') k d) (place ∙ here)
            ∙ get_or-set_same mid k l' d (omega (arith, before.are.count)))) viewed
      ];
      others = λ k d le.
          other k d (omega (arith, count)) ∙ before.are.others k d (omega (arith, before.many, count));
    };
  }
    where
      count : length views' ≡ i + 1
      count = ap length more ∙ length-append views (view ∷ []) ∙ omega (arith, before.many)

      other : (k : ℕ) (d : L) → k ≢ i → get_or mid' k d ≡ get_or mid k d
      other k d ne =
          ap (λ (m : List L). get_or m k d) put
          ∙ (let apart : k ≢ at = omega arith in get_or-set_other mid at k l' d apart)

      link_is : (k : ℕ) (d : L) → i ≡ k → l ≡ get_or links k d
      link_is k d here =
          is ∙ ap (λ j. get_or mid j l) (place ∙ here)
          ∙ get_or_default mid k l d (omega (arith, before.are.count))
          ∙ before.are.others k d (omega (arith, before.many))

  -- it gave no view
  pub one_stopped : (links mid mid' : List L) (views : Views) (i n at : ℕ) (l l' : L) (e : SurveyFault)
      → Asked links i views mid → i < length links → n ≡ i → at ≡ i → l ≡ get_or mid at l → mid' ≡ set mid at l'
      → IsViewed ex n l (Err e) l' → IsStopped ex links e mid'
  one_stopped links mid mid' views i n at l l' e before lt same place is put viewed = record {
    views = views;
    before = mid;
    asked = before.are;
    some = omega (arith, before.many);
    last = λ d. viewed_as n (length views) l (get_or links (length views) d) (Err e) (Err e) l'
        (get_or mid' (length views) d) (same ∙ sym before.many) (link_is d) refl (after d) viewed;
    others = λ d.
        put ∙ ap (λ j. set mid j l') (place ∙ sym before.many) ∙ ap (set mid (length views)) (after d);
  }
    where
      link_is : (d : L) → l ≡ get_or links (length views) d
      link_is d =
          is ∙ ap (λ j. get_or mid j l) (place ∙ sym before.many)
          ∙ get_or_default mid (length views) l d (omega (arith, before.many, before.are.count))
          ∙ before.are.others (length views) d (omega arith)

      after : (d : L) → l' ≡ get_or mid' (length views) d
      after d = sym (
          ap (λ (m : List L). get_or m (length views) d) put
          ∙ ap (λ j. get_or (set mid j l') (length views) d) (place ∙ sym before.many)
          ∙ get_or-set_same mid (length views) l' d (omega (arith, before.many, before.are.count)))

  -- all gave a view, and there is no survey
  pub all_refused : (b : List Server) (links mid : List L) (views : Views) (i : ℕ) (e : SurveyFault)
      → Asked links i views mid → i ≡ length b → IsRefusedOrMemory b views e → IsUnsurveyed ex b links e mid
  all_refused b links mid views i e asked all why = inr (
    views,
    asked.are,
    (elim why [
      | inl memory ↦ inl memory
      | inr refused ↦ inr (asked.many ∙ all, refused)
    ]),
  )

  -- all gave a view, and these are surveyed or refused
  pub answered : (b : List Server) (links mid : List L) (views : Views) (i : ℕ) (r : Result Surveyed SurveyFault)
      → Asked links i views mid → i ≡ length b
      → MatchResult r (λ s. IsSurveyed b views s.survey) (IsRefusedOrMemory b views)
      → IfOk r (λ s. s.epochs.items ≡ epochs_of b views)
      → MatchResult r (λ s. (vs : Views) × (length vs ≡ length b) × AreAsked ex links vs mid × IsSurveyed b vs s.survey
      × (s.epochs.items ≡ epochs_of b vs)) (λ e. IsUnsurveyed ex b links e mid)
  answered b links mid views i (Ok s) asked all said epochs = (views, asked.many ∙ all, asked.are, said, epochs)
  answered b links mid views i (Err e) asked all said epochs = all_refused b links mid views i e asked all said
