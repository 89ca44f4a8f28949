-- The part of a slot stays one where other nodes are told in another order.
use Rattle.std.proofs.Common.{◌≡◌, ◌≢◌, ℕ, suc, ◌<◌, ◌≤◌, List, [], ◌∷◌, ◌++◌, length, sym, refl, ap, ◌∙◌}
use Rattle.std.proofs.Common.{subst, inl, inr}
use Rattle.plan_language.specs.declared.plan_command.PlanCommand.{PlanCommand}
use Rattle.plan_language.specs.declared.plan_command.PlanCommand.TheVariants as planned
use Rattle.cluster_admin.specs.Phases.{Phase, IsDistinct, among}
use Rattle.cluster_admin.specs.Phases as phase
use Rattle.plan_semantics.specs.Plans.{tell, AreEnds, AreLegs, IsPart, KeepsVersion, Leg, legs_of}
use Rattle.plan_semantics.specs.Plans as leg
use Rattle.telling_order.specs.AnyOrder.{IsReordered, KnowsTarget}
use Rattle.telling_order.proofs.Blocks.{IsFresh, block, head_same, none_there, past, prefix}
use Rattle.telling_order.proofs.Blocks.{same_place, same_target, some_there, tell_join}
use Rattle.telling_order.proofs.Orders.{ends_reordered, reordered_before, reordered_within}

pub legs_fresh : (s o : ℕ) (legs : List Leg) → IsFresh (legs_of s o legs)
legs_fresh s o [] = tt
legs_fresh s o (leg.Move t b others ∷ legs) = tt
legs_fresh s o (leg.Try t ∷ legs) = tt

no_legs : (legs : List Leg) → length legs ≡ 0 → legs ≡ []
no_legs [] e = refl
no_legs (x ∷ legs) e = cc

keeps_many : (v : ℕ) (p : Phase) (legs legs' : List Leg) → length legs' ≡ length legs → KeepsVersion v p legs
    → KeepsVersion v p legs'
keeps_many v (phase.Closed o) legs legs' many keeps = λ h. subst (λ k. k ≤ 1) (sym many) (keeps h)
keeps_many v (phase.Importing o t) legs legs' many keeps = λ h. no_legs legs' (many ∙ ap length (keeps h))
keeps_many v (phase.Migrating o t) legs legs' many keeps = λ h. no_legs legs' (many ∙ ap length (keeps h))
keeps_many v (phase.TargetTold o t) legs legs' many keeps = λ h. no_legs legs' (many ∙ ap length (keeps h))
keeps_many v (phase.SourceTold o t left) legs legs' many keeps = λ h. no_legs legs' (many ∙ ap length (keeps h))

-- ---- once the source is told, o or another is told, and then these in another order

module _ (v n s t o : ℕ) (apart : o ≢ t) (xs ys : List ℕ) (order : IsReordered xs ys) (k : List PlanCommand) where
  abbrev pub told : List ℕ → List PlanCommand
  told zs = planned.SetNode s t o ∷ (tell s t zs ++ k)

  not_target : (u : ℕ) → planned.SetNode s u u ≢ planned.SetNode s t o
  not_target u e = apart (sym (same_place s u u t o e) ∙ same_target s u u t o e)

  -- the others of a move whose source is w
  record OtherEnds (w u : ℕ) (first last : List ℕ) : Type 0 where
    others : List ℕ
    ends : AreEnds n w u others
    is : w ∷ others ≡ first ++ o ∷ (ys ++ last)

  other_ends : (w u : ℕ) (zs first last : List ℕ) → AreEnds n w u zs → w ∷ zs ≡ first ++ o ∷ (xs ++ last)
      → OtherEnds w u first last
  other_ends w u zs [] last ends e =
      let rest : zs ≡ xs ++ last = tail_nodes w o zs (xs ++ last) e in
      record {
        others = ys ++ last;
        ends = ends_reordered n w u zs (ys ++ last) ends
            (subst (λ l. IsReordered l (ys ++ last)) (sym rest)
            (reordered_before xs ys last order (subst IsDistinct rest ends.distinct)));
        is = ap (λ x. x ∷ (ys ++ last)) (head_nodes w o zs (xs ++ last) e);
      }
    where
      head_nodes : (a b : ℕ) (l m : List ℕ) → a ∷ l ≡ b ∷ m → a ≡ b
      head_nodes a b l m e = cc

      tail_nodes : (a b : ℕ) (l m : List ℕ) → a ∷ l ≡ b ∷ m → l ≡ m
      tail_nodes a b l m e = cc
  other_ends w u zs (x ∷ first) last ends e =
      let rest : zs ≡ first ++ o ∷ (xs ++ last) = tail_nodes w x zs (first ++ o ∷ (xs ++ last)) e in
      record {
        others = first ++ o ∷ (ys ++ last);
        ends = ends_reordered n w u zs (first ++ o ∷ (ys ++ last)) ends
            (subst (λ l. IsReordered l (first ++ o ∷ (ys ++ last))) (sym rest)
            (reordered_within first o xs ys last order (subst IsDistinct rest ends.distinct)));
        is = ap (λ y. y ∷ (first ++ o ∷ (ys ++ last))) (head_nodes w x zs (first ++ o ∷ (xs ++ last)) e);
      }
    where
      head_nodes : (a b : ℕ) (l m : List ℕ) → a ∷ l ≡ b ∷ m → a ≡ b
      head_nodes a b l m e = cc

      tail_nodes : (a b : ℕ) (l m : List ℕ) → a ∷ l ≡ b ∷ m → l ≡ m
      tail_nodes a b l m e = cc

  -- legs of the same number, which are the commands in the other order
  record OtherLegs (w : ℕ) (legs : List Leg) (f : List PlanCommand) : Type 0 where
    legs' : List Leg
    are : AreLegs v n w legs'
    many : length legs' ≡ length legs
    is : f ++ told ys ≡ legs_of s w legs'

  in_legs : (w : ℕ) (legs : List Leg) (f : List PlanCommand) → AreLegs v n w legs → legs_of s w legs ≡ f ++ told xs
      → OtherLegs w legs f
  in_legs w [] f are e = absurd (none_there f (tell s t xs ++ k) (planned.SetNode s t o) e)
  in_legs w (leg.Try u ∷ legs) f are e =
      let pre = planned.Importing s w u ∷ planned.Stable s u ∷ [] in
      let p = past (planned.SetNode s t o) pre (legs_of s w legs) f (tell s t xs ++ k) ((λ h. cc), ((λ h. cc), tt)) e in
      let r = in_legs w legs p.0 are.2 p.2 in
      record {
        legs' = leg.Try u ∷ r.legs';
        are = (are.0, are.1, r.are);
        many = ap suc r.many;
        is = ap (λ l. l ++ told ys) p.1 ∙ ap (λ l. pre ++ l) r.is;
      }
  in_legs w (leg.Move u b zs ∷ legs) f are e =
      let pre = planned.Importing s w u ∷ planned.Migrating s u w ∷ planned.Drain s w u b ∷ planned.SetNode s u u
      ∷ [] in
      elim (block s t o u xs (w ∷ zs) pre (legs_of s u legs) f k
      ((λ h. cc), ((λ h. cc), ((λ h. cc), (not_target u, tt)))) (legs_fresh s u legs) e) [
        | inl here ↦
            let q = other_ends w u zs here.first here.last are.1 here.nodes in
            record {
              legs' = leg.Move u b q.others ∷ legs;
              are = (are.0, q.ends, are.2);
              many = refl;
              is = here.is ys ∙ ap (λ l. pre ++ (tell s u l ++ legs_of s u legs)) (sym q.is);
            }
        | inr later ↦
            let r = in_legs u legs later.front are.2 later.is in
            record {
              legs' = leg.Move u b zs ∷ r.legs';
              are = (are.0, are.1, r.are);
              many = ap suc r.many;
              is = later.moved (told ys) ∙ ap (λ l. pre ++ (tell s u (w ∷ zs) ++ l)) r.is;
            }
      ]

  below : (p : Phase) (f : List PlanCommand) → IsPart v n s p (f ++ told xs) → s < 16384
  below p f c = c.below (some_there f (tell s t xs ++ k) (planned.SetNode s t o))

  -- what closes the slot stays, and the legs change
  after_closing : (p : Phase) (f front : List PlanCommand) (c : IsPart v n s p (f ++ told xs))
      → OtherLegs c.owner c.legs front
      → ((g : List PlanCommand) → f ++ g ≡ c.closing ++ (front ++ g)) → IsPart v n s p (f ++ told ys)
  after_closing p f front c r moved = record {
    closing = c.closing;
    owner = c.owner;
    closes = c.closes;
    legs = r.legs';
    are = r.are;
    keeps = keeps_many v p c.legs r.legs' r.many c.keeps;
    is = moved (told ys) ∙ ap (λ l. c.closing ++ l) r.is;
    below = λ some. below p f c;
  }

  -- the commands that close it, when they were put together so
  closed_so : (p : Phase) (f rest : List PlanCommand) (c : IsPart v n s p (f ++ told xs)) → c.closing ≡ rest
      → rest ++ legs_of s c.owner c.legs ≡ f ++ told xs
  closed_so p f rest c is = ap (λ l. l ++ legs_of s c.owner c.legs) (sym is) ∙ sym c.is

  in_closed : (w : ℕ) (f : List PlanCommand) → IsPart v n s (phase.Closed w) (f ++ told xs)
      → IsPart v n s (phase.Closed w) (f ++ told ys)
  in_closed w f c = after_closing (phase.Closed w) f f c
      (in_legs c.owner c.legs f c.are (closed_so (phase.Closed w) f [] c c.closes.0))
      (λ g. ap (λ l. l ++ (f ++ g)) (sym c.closes.0))

  in_importing : (w u : ℕ) (f : List PlanCommand) → IsPart v n s (phase.Importing w u) (f ++ told xs)
      → IsPart v n s (phase.Importing w u) (f ++ told ys)
  in_importing w u f c = elim c.closes [
    | inl back ↦
        let q = past (planned.SetNode s t o) (planned.Stable s u ∷ []) (legs_of s c.owner c.legs) f (tell s t xs ++ k)
        ((λ h. cc), tt) (closed_so (phase.Importing w u) f (planned.Stable s u ∷ []) c back.1) in
        after_closing (phase.Importing w u) f q.0 c (in_legs c.owner c.legs q.0 c.are q.2)
        (λ g. ap (λ l. l ++ g) q.1 ∙ ap (λ l. l ++ (q.0 ++ g)) (sym back.1))
    | inr move ↦
        let pre = planned.Migrating s u w ∷ planned.Drain s w u move.0 ∷ planned.SetNode s u u ∷ [] in
        elim (block s t o u xs (w ∷ move.1) pre (legs_of s c.owner c.legs) f k
        ((λ h. cc), ((λ h. cc), (not_target u, tt))) (legs_fresh s c.owner c.legs)
        (closed_so (phase.Importing w u) f (pre ++ tell s u (w ∷ move.1)) c move.5)) [
          | inl here ↦
              let q = other_ends w u move.1 here.first here.last move.3 here.nodes in
              record {
                closing = pre ++ tell s u (w ∷ q.others);
                owner = c.owner;
                closes = inr (move.0, q.others, move.2, q.ends, move.4, refl);
                legs = c.legs;
                are = c.are;
                keeps = c.keeps;
                is = here.is ys ∙ ap (λ l. pre ++ (tell s u l ++ legs_of s c.owner c.legs)) (sym q.is);
                below = λ some. below (phase.Importing w u) f c;
              }
          | inr later ↦ after_closing (phase.Importing w u) f later.front c
              (in_legs c.owner c.legs later.front c.are later.is)
              (λ g. later.moved g ∙ ap (λ l. l ++ (later.front ++ g)) (sym move.5))
        ]
  ]

  in_migrating : (w u : ℕ) (f : List PlanCommand) → IsPart v n s (phase.Migrating w u) (f ++ told xs)
      → IsPart v n s (phase.Migrating w u) (f ++ told ys)
  in_migrating w u f c =
      let move = c.closes in
      let pre = planned.Drain s w u move.0 ∷ planned.SetNode s u u ∷ [] in
      elim (block s t o u xs (w ∷ move.1) pre (legs_of s c.owner c.legs) f k
      ((λ h. cc), (not_target u, tt)) (legs_fresh s c.owner c.legs)
      (closed_so (phase.Migrating w u) f (pre ++ tell s u (w ∷ move.1)) c move.5)) [
        | inl here ↦
            let q = other_ends w u move.1 here.first here.last move.3 here.nodes in
            record {
              closing = pre ++ tell s u (w ∷ q.others);
              owner = c.owner;
              closes = (move.0, q.others, move.2, q.ends, move.4, refl);
              legs = c.legs;
              are = c.are;
              keeps = c.keeps;
              is = here.is ys ∙ ap (λ l. pre ++ (tell s u l ++ legs_of s c.owner c.legs)) (sym q.is);
              below = λ some. below (phase.Migrating w u) f c;
            }
        | inr later ↦ after_closing (phase.Migrating w u) f later.front c
            (in_legs c.owner c.legs later.front c.are later.is)
            (λ g. later.moved g ∙ ap (λ l. l ++ (later.front ++ g)) (sym move.5))
      ]

  in_target_told : (w u : ℕ) (f : List PlanCommand) → IsPart v n s (phase.TargetTold w u) (f ++ told xs)
      → IsPart v n s (phase.TargetTold w u) (f ++ told ys)
  in_target_told w u f c =
      let move = c.closes in
      elim (block s t o u xs (w ∷ move.0) [] (legs_of s c.owner c.legs) f k tt (legs_fresh s c.owner c.legs)
      (closed_so (phase.TargetTold w u) f (tell s u (w ∷ move.0)) c move.3)) [
        | inl here ↦
            let q = other_ends w u move.0 here.first here.last move.1 here.nodes in
            record {
              closing = tell s u (w ∷ q.others);
              owner = c.owner;
              closes = (q.others, q.ends, move.2, refl);
              legs = c.legs;
              are = c.are;
              keeps = c.keeps;
              is = here.is ys ∙ ap (λ l. tell s u l ++ legs_of s c.owner c.legs) (sym q.is);
              below = λ some. below (phase.TargetTold w u) f c;
            }
        | inr later ↦ after_closing (phase.TargetTold w u) f later.front c
            (in_legs c.owner c.legs later.front c.are later.is)
            (λ g. later.moved g ∙ ap (λ l. l ++ (later.front ++ g)) (sym move.3))
      ]

  in_source_told : (w u : ℕ) (left : List ℕ) (f : List PlanCommand)
      → IsPart v n s (phase.SourceTold w u left) (f ++ told xs)
      → IsPart v n s (phase.SourceTold w u left) (f ++ told ys)
  in_source_told w u left f c =
      let move = c.closes in
      elim (block s t o u xs move.0 [] (legs_of s c.owner c.legs) f k tt (legs_fresh s c.owner c.legs)
      (closed_so (phase.SourceTold w u left) f (tell s u move.0) c move.4)) [
        | inl here ↦
            let r = reordered_within here.first o xs ys here.last order (subst IsDistinct here.nodes move.1) in
            record {
              closing = tell s u (here.first ++ o ∷ (ys ++ here.last));
              owner = c.owner;
              closes = (
                here.first ++ o ∷ (ys ++ here.last),
                r.distinct,
                (λ m. r.same m ∙ ap (among m) (sym here.nodes) ∙ move.2 m),
                move.3,
                refl,
              );
              legs = c.legs;
              are = c.are;
              keeps = c.keeps;
              is = here.is ys;
              below = λ some. below (phase.SourceTold w u left) f c;
            }
        | inr later ↦ after_closing (phase.SourceTold w u left) f later.front c
            (in_legs c.owner c.legs later.front c.are later.is)
            (λ g. later.moved g ∙ ap (λ l. l ++ (later.front ++ g)) (sym move.4))
      ]

  pub in_part : (p : Phase) (f : List PlanCommand) → IsPart v n s p (f ++ told xs) → IsPart v n s p (f ++ told ys)
  in_part (phase.Closed w) f c = in_closed w f c
  in_part (phase.Importing w u) f c = in_importing w u f c
  in_part (phase.Migrating w u) f c = in_migrating w u f c
  in_part (phase.TargetTold w u) f c = in_target_told w u f c
  in_part (phase.SourceTold w u left) f c = in_source_told w u left f c

-- ---- the source was told before the plan began

module _ (v n s t : ℕ) (ys : List ℕ) (k : List PlanCommand) where
  of_nobody : (p : Phase) → IsReordered [] ys → IsPart v n s p k → IsPart v n s p (tell s t ys ++ k)
  of_nobody p order c = subst (λ l. IsPart v n s p (tell s t l ++ k)) (sym (none ys order.many)) c
    where
      none : (l : List ℕ) → length l ≡ 0 → l ≡ []
      none [] e = refl
      none (x ∷ l) e = cc

  of_some : (w u : ℕ) (left : List ℕ) (x : ℕ) (xs : List ℕ) → IsReordered (x ∷ xs) ys
      → IsPart v n s (phase.SourceTold w u left) (tell s t (x ∷ xs) ++ k)
      → IsPart v n s (phase.SourceTold w u left) (tell s t ys ++ k)
  of_some w u left x xs order c =
      let move = c.closes in
      by move.0 move.1 move.2 (ap (λ l. l ++ legs_of s c.owner c.legs) (sym move.4) ∙ sym c.is)
    where
      by : (zs : List ℕ) → IsDistinct zs → ((m : ℕ) → among m zs ≡ among m left)
          → tell s u zs ++ legs_of s c.owner c.legs ≡ tell s t (x ∷ xs) ++ k
          → IsPart v n s (phase.SourceTold w u left) (tell s t ys ++ k)
      by [] distinct same e =
          absurd (subst IsFresh e (legs_fresh s c.owner c.legs))
      by (z ∷ zs) distinct same e =
          let to : u ≡ t = same_target s u z t x
          (head_same (planned.SetNode s u z) (planned.SetNode s t x) (tell s u zs ++ legs_of s c.owner c.legs)
          (tell s t xs ++ k) e) in
          let p = prefix s t (z ∷ zs) (x ∷ xs) (legs_of s c.owner c.legs) k (legs_fresh s c.owner c.legs)
          (subst (λ q. tell s q (z ∷ zs) ++ legs_of s c.owner c.legs ≡ tell s t (x ∷ xs) ++ k) to e) in
          let r = reordered_before (x ∷ xs) ys p.0 order (subst IsDistinct p.1 distinct) in
          record {
            closing = tell s u (ys ++ p.0);
            owner = c.owner;
            closes = (ys ++ p.0, r.distinct, (λ m. r.same m ∙ ap (among m) (sym p.1) ∙ same m), c.closes.3, refl);
            legs = c.legs;
            are = c.are;
            keeps = c.keeps;
            is = ap (λ l. tell s t ys ++ l) p.2 ∙ tell_join s t ys p.0 (legs_of s c.owner c.legs)
                ∙ ap (λ q. tell s q (ys ++ p.0) ++ legs_of s c.owner c.legs) (sym to);
            below = λ some. c.below (λ h. cc);
          }

  pub in_first : (p : Phase) (xs : List ℕ) → KnowsTarget p → IsReordered xs ys → IsPart v n s p (tell s t xs ++ k)
      → IsPart v n s p (tell s t ys ++ k)
  in_first p [] knows order c = of_nobody p order c
  in_first (phase.SourceTold w u left) (x ∷ xs) knows order c = of_some w u left x xs order c
  in_first (phase.Closed w) (x ∷ xs) knows order c = absurd knows
  in_first (phase.Importing w u) (x ∷ xs) knows order c = absurd knows
  in_first (phase.Migrating w u) (x ∷ xs) knows order c = absurd knows
  in_first (phase.TargetTold w u) (x ∷ xs) knows order c = absurd knows
