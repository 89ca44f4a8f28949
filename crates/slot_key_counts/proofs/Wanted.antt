-- What is asked for is what the commands of a plan move.
use Rattle.std.proofs.Common.{◌≡◌, ◌∙◌, ℕ, ◌<◌, Bool, true, false, cond, ◌&&◌, ◌||◌, List, [], ◌∷◌, get_or, Option, None, Some, refl, sym, ap, subst, inl, inr}
use Rattle.std.proofs.lemmas.Bool.Decides.{eqb_tells}
use Rattle.std.specs.Prelude.{◌==◌}
use Rattle.plan_language.specs.declared.plan_command.PlanCommand.{PlanCommand}
use Rattle.plan_language.specs.declared.plan_command.PlanCommand.TheVariants.{Drain}
use Rattle.slot_key_counts.specs.declared.questions.AskedNodes.{AskedNodes}
use Rattle.slot_key_counts.specs.declared.questions.AskedNodes.TheVariants.{Owner}
use Rattle.slot_key_counts.specs.declared.questions.SlotQuestions.{SlotQuestions}
use Rattle.slot_key_counts.specs.Moved.{is_moved, keys_at_owner, keys_told, wants_moved, with_all_moved}
use Rattle.slot_key_counts.specs.Questions.{asked_owner, asks_for, no_owner, wants}
use Rattle.cluster_views.specs.declared.fault.SurveyFault.{SurveyFault}
use Rattle.slot_key_counts.specs.Rounds.{AreAsked, AreNotAsked, Talk, Told, Wants}

module _ (owner : ℕ → ℕ) where
  both : (m s : ℕ) (b : Bool) → m ≡ s → cond b (Some (owner s)) (Some (owner m)) ≡ Some (owner s)
  both m s true same = refl
  both m s false same = ap (λ (x : ℕ). Some (owner x)) same

  -- of the slot that a command moves the owner is known, whatever the others move
  either : (m s : ℕ) (b : Bool) (o : Option ℕ)
      → cond b (Some (owner s)) (cond (m == s) (Some (owner m)) o) ≡ cond ((m == s) || b) (Some (owner s)) o
  either m s b o = elim (eqb_tells m s) as (λ x.
      cond b (Some (owner s)) (cond (m == s) (Some (owner m)) o) ≡ cond ((m == s) || b) (Some (owner s)) o) [
        | inl is ↦ ap (λ (t : Bool). cond b (Some (owner s)) (cond t (Some (owner m)) o)) is.0 ∙ both m s b is.1
            ∙ sym (ap (λ (t : Bool). cond (t || b) (Some (owner s)) o) is.0)
        | inr is ↦ ap (λ (t : Bool). cond b (Some (owner s)) (cond t (Some (owner m)) o)) is.0
            ∙ sym (ap (λ (t : Bool). cond (t || b) (Some (owner s)) o) is.0)
      ]

  moved_at : (cs : List PlanCommand) (owners : ℕ → Option ℕ) (s : ℕ)
      → with_all_moved owner cs owners s ≡ cond (is_moved cs s) (Some (owner s)) (owners s)
  moved_at [] owners s = refl
  moved_at (Drain m a t b ∷ cs) owners s =
      moved_at cs (λ r. cond (m == r) (Some (owner m)) (owners r)) s ∙ either m s (is_moved cs s) (owners s)
  moved_at (c ∷ cs) owners s = moved_at cs owners s

  asked_at : (b : Bool) (n o : ℕ) → asks_for Owner n (cond b (Some o) None) ≡ (b && (o == n))
  asked_at true n o = refl
  asked_at false n o = refl

  told_at : (told : Told) (b : Bool) (s o : ℕ) → keys_at_owner told s (cond b (Some o) None) ≡ cond b (keys_told (told o s)) 0
  told_at told true s o = refl
  told_at told false s o = refl

  module _ (q : SlotQuestions) (cs : List PlanCommand) (all : asked_owner q ≡ with_all_moved owner cs no_owner) where
    owner_of : (s : ℕ) → asked_owner q s ≡ cond (is_moved cs s) (Some (owner s)) None
    owner_of s = ap (λ (f : ℕ → Option ℕ). f s) all ∙ moved_at cs no_owner s

    pub wanted : q.whom ≡ Owner → wants q ≡ wants_moved owner cs
    wanted whom = λ i n s. (ap (λ (w : AskedNodes). asks_for w n (asked_owner q s)) whom
        ∙ ap (λ (o : Option ℕ). asks_for Owner n o) (owner_of s) ∙ asked_at (is_moved cs s) n (owner s)) i

    pub filled : (told : Told) (keys : List ℕ)
        → ((s : ℕ) → s < 16384 → get_or keys s 0 ≡ keys_at_owner told s (asked_owner q s))
        → (s : ℕ) → s < 16384 → get_or keys s 0 ≡ cond (is_moved cs s) (keys_told (told (owner s) s)) 0
    filled told keys h s less = h s less ∙ ap (λ (o : Option ℕ). keys_at_owner told s o) (owner_of s)
        ∙ told_at told (is_moved cs s) s (owner s)

    -- what was asked for is what the commands move
    module _ {L : Type 0} (by : Talk L) (whom : q.whom ≡ Owner) (nodes count : ℕ) (same : nodes ≡ count) where
      pub asked : (links : List L) (told : Told) (links' : List L) → AreAsked by (wants q) nodes links told links'
          → AreAsked by (wants_moved owner cs) count links told links'
      asked links told links' h = subst (λ (w : Wants). AreAsked by w count links told links') (wanted whom)
          (subst (λ (n : ℕ). AreAsked by (wants q) n links told links') same h)

      pub not_asked : (links : List L) (e : SurveyFault) (links' : List L) → AreNotAsked by (wants q) nodes links e links'
          → AreNotAsked by (wants_moved owner cs) count links e links'
      not_asked links e links' h = subst (λ (w : Wants). AreNotAsked by w count links e links') (wanted whom)
          (subst (λ (n : ℕ). AreNotAsked by (wants q) n links e links') same h)
