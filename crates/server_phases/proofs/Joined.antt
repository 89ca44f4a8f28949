-- Commands that are printed one after the other.
use Rattle.std.proofs.Common.{◌≡◌, ℕ, ◌+◌, ◌<◌, Bool, true, false, cond, not, eqb, ◌&&◌, List, [], ◌∷◌, ◌++◌}
use Rattle.std.proofs.Common.{append_assoc, append-nil, refl, sym, ap, ◌∙◌}
use Rattle.std.specs.Prelude.{OnOk, Result, Ok, Err, codes, decimal}
use Rattle.plan_language.specs.MovesLeft.{others_from}
use Rattle.plan_language.specs.Texts.{command_text}
use Rattle.plan_language.specs.declared.plan_command.PlanCommand.{PlanCommand}
use Rattle.plan_language.specs.declared.plan_command.PlanCommand.TheVariants as planned
use Rattle.plan_semantics.specs.Plans.{tell}
use Rattle.reshard_planner.proofs.Rests.{other_step}
use Rattle.server_phases.specs.Texts.{joined_text, more_text, rest_text}

pub more-append : (xs ys : List PlanCommand) → more_text (xs ++ ys) ≡ more_text xs ++ more_text ys
more-append [] ys = refl
more-append (x ∷ xs) ys =
    ap (λ t. (codes " / " ++ command_text x) ++ t) (more-append xs ys)
    ∙ sym (append_assoc (codes " / " ++ command_text x) (more_text xs) (more_text ys))

-- three commands
pub three_put : (out o1 o2 o3 : List ℕ) (a b d : PlanCommand) → o1 ≡ out ++ command_text a → o2 ≡ o1 ++ more_text (b ∷ [])
    → o3 ≡ o2 ++ more_text (d ∷ []) → o3 ≡ out ++ joined_text (a ∷ b ∷ d ∷ [])
three_put out o1 o2 o3 a b d p q r =
    r ∙ ap (λ t. t ++ more_text (d ∷ [])) (q ∙ ap (λ t. t ++ more_text (b ∷ [])) p)
    ∙ ap (λ t. t ++ more_text (d ∷ [])) (append_assoc out (command_text a) (more_text (b ∷ [])))
    ∙ append_assoc out (command_text a ++ more_text (b ∷ [])) (more_text (d ∷ []))
    ∙ ap (λ t. out ++ t) (append_assoc (command_text a) (more_text (b ∷ [])) (more_text (d ∷ []))
    ∙ ap (λ t. command_text a ++ t) (sym (more-append (b ∷ []) (d ∷ []))))

abbrev head_text : ℕ → List ℕ
head_text s = codes "rest of slot " ++ (decimal s ++ codes ": ")

-- the whole line
pub line_put : (out o1 o2 o3 o4 : List ℕ) (s : ℕ) (a : PlanCommand) (first rest : List PlanCommand)
    → o1 ≡ out ++ (codes "rest of slot " ++ (decimal s ++ codes ": ")) → o2 ≡ o1 ++ joined_text (a ∷ first)
    → o3 ≡ o2 ++ more_text rest → o4 ≡ o3 ++ 10 ∷ [] → o4 ≡ out ++ rest_text s (a ∷ (first ++ rest))
line_put out o1 o2 o3 o4 s a first rest p q r e =
    e ∙ ap (λ t. t ++ 10 ∷ []) (r ∙ ap (λ t. t ++ more_text rest) (q ∙ ap (λ t. t ++ joined_text (a ∷ first)) p)
    ∙ append_assoc (out ++ head_text s) (joined_text (a ∷ first)) (more_text rest)
    ∙ ap (λ t. (out ++ head_text s) ++ t) whole)
    ∙ append_assoc (out ++ head_text s) (joined_text (a ∷ (first ++ rest))) (10 ∷ [])
    ∙ append_assoc out (head_text s) (joined_text (a ∷ (first ++ rest)) ++ 10 ∷ [])
    ∙ ap (λ t. out ++ t) (parted (codes "rest of slot ") (decimal s) (codes ": ") (joined_text (a ∷ (first ++ rest)) ++ 10 ∷ []))
  where
    whole : joined_text (a ∷ first) ++ more_text rest ≡ joined_text (a ∷ (first ++ rest))
    whole = append_assoc (command_text a) (more_text first) (more_text rest)
        ∙ ap (λ t. command_text a ++ t) (sym (more-append first rest))

    parted : (x y z w : List ℕ) → (x ++ (y ++ z)) ++ w ≡ x ++ (y ++ (z ++ w))
    parted x y z w = append_assoc x (y ++ z) w ∙ ap (λ t. x ++ t) (append_assoc y z w)

pub on_ok : {A E : Type 0} (r : Result A E) (P Q : Type 0) → OnOk r P → (P → Q) → OnOk r Q
on_ok (Ok x) P Q h f = f h
on_ok (Err e) P Q h f = h

-- one node was told, if it is one of the others
pub told_more : (n a b k node s t : ℕ) (tells : Bool) (all out out' : List ℕ) → k < n → node ≡ k
    → tells ≡ (not (eqb node a) && not (eqb node b)) → all ≡ out ++ more_text (tell s t (others_from n a b k))
    → out' ≡ out ++ more_text (cond tells (planned.SetNode s t node ∷ []) [])
    → all ≡ out' ++ more_text (tell s t (others_from n a b (k + 1)))
told_more n a b k node s t tells all out out' lt is test before put =
    before ∙ ap (λ ms. out ++ more_text (tell s t ms)) (other_step n a b k node tells lt is test)
    ∙ by tells ∙ ap (λ x. x ++ more_text (tell s t (others_from n a b (k + 1)))) (sym put)
  where
    rest : List ℕ
    rest = others_from n a b (k + 1)

    by : (c : Bool) → out ++ more_text (tell s t (cond c (node ∷ rest) rest))
        ≡ (out ++ more_text (cond c (planned.SetNode s t node ∷ []) [])) ++ more_text (tell s t rest)
    by true = ap (λ x. out ++ x) (more-append (planned.SetNode s t node ∷ []) (tell s t rest))
        ∙ sym (append_assoc out (more_text (planned.SetNode s t node ∷ [])) (more_text (tell s t rest)))
    by false = ap (λ x. x ++ more_text (tell s t rest)) (sym (append-nil out))
