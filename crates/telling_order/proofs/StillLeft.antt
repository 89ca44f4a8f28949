-- The nodes that are left once some of them were told: with these before them, the same nodes in another order.
use Rattle.std.proofs.Common.{◌≡◌, ◌≢◌, ℕ, suc, true, false, not, eqb, ◌||◌, List, [], ◌∷◌, ◌++◌, length}
use Rattle.std.proofs.Common.{sym, refl, ap, ◌∙◌, subst, inl, inr}
use Rattle.std.proofs.lemmas.Bool.{cases_eq, cond-true, cond-false, eq-eqb, ne_eqb, or_left, or_right, true≢false}
use Rattle.cluster_admin.specs.Phases.{IsDistinct, among}
use Rattle.telling_order.specs.AnyOrder.{IsReordered}
use Rattle.telling_order.specs.OneGo.{still_left, without}

-- ---- without one node

without_here : (m x : ℕ) (ns : List ℕ) → m ≡ x → without m (x ∷ ns) ≡ without m ns
without_here m x ns e = cond-false _ _ _ (ap not (eq-eqb x m (sym e)))

without_there : (m x : ℕ) (ns : List ℕ) → m ≢ x → without m (x ∷ ns) ≡ x ∷ without m ns
without_there m x ns apart = cond-true _ _ _ (ap not (ne_eqb x m (λ h. apart (sym h))))

among_rest : (m x : ℕ) (ns : List ℕ) → m ≢ x → among m (x ∷ ns) ≡ among m ns
among_rest m x ns apart = ap (λ b. b || among m ns) (ne_eqb m x apart)

without_none : (m : ℕ) (ns : List ℕ) → among m ns ≡ false → without m ns ≡ ns
without_none m [] e = refl
without_none m (x ∷ ns) e = elim (cases_eq m x) [
  | inl here ↦ absurd (true≢false (sym (or_left (eqb m x) (among m ns) (eq-eqb m x here)) ∙ e))
  | inr apart ↦ without_there m x ns apart
      ∙ ap (λ l. x ∷ l) (without_none m ns (sym (among_rest m x ns apart) ∙ e))
]

without_one : (m : ℕ) (ns : List ℕ) → IsDistinct ns → among m ns ≡ true → suc (length (without m ns)) ≡ length ns
without_one m [] d e = absurd (true≢false (sym e))
without_one m (x ∷ ns) d e = elim (cases_eq m x) [
  | inl here ↦ ap (λ l. suc (length l))
      (without_here m x ns here ∙ without_none m ns (subst (λ z. among z ns ≡ false) (sym here) d.0))
  | inr apart ↦ ap (λ l. suc (length l)) (without_there m x ns apart)
      ∙ ap suc (without_one m ns d.1 (sym (among_rest m x ns apart) ∙ e))
]

without_among : (m y : ℕ) (ns : List ℕ) → y ≢ m → among y (without m ns) ≡ among y ns
without_among m y [] apart = refl
without_among m y (x ∷ ns) apart = elim (cases_eq m x) [
  | inl here ↦ ap (among y) (without_here m x ns here) ∙ without_among m y ns apart
      ∙ sym (among_rest y x ns (λ h. apart (h ∙ sym here)))
  | inr away ↦ ap (among y) (without_there m x ns away) ∙ ap (λ b. eqb y x || b) (without_among m y ns apart)
]

without_itself : (m : ℕ) (ns : List ℕ) → among m (without m ns) ≡ false
without_itself m [] = refl
without_itself m (x ∷ ns) = elim (cases_eq m x) [
  | inl here ↦ ap (among m) (without_here m x ns here) ∙ without_itself m ns
  | inr away ↦ ap (among m) (without_there m x ns away) ∙ among_rest m x (without m ns) away ∙ without_itself m ns
]

without_distinct : (m : ℕ) (ns : List ℕ) → IsDistinct ns → IsDistinct (without m ns)
without_distinct m [] d = tt
without_distinct m (x ∷ ns) d = elim (cases_eq m x) [
  | inl here ↦ subst IsDistinct (sym (without_here m x ns here)) (without_distinct m ns d.1)
  | inr away ↦ subst IsDistinct (sym (without_there m x ns away))
      (without_among m x ns (λ h. away (sym h)) ∙ d.0, without_distinct m ns d.1)
]

-- ---- without those that were told

pub told_first : (told nodes : List ℕ) → IsDistinct told → IsDistinct nodes
    → ((m : ℕ) → among m told ≡ true → among m nodes ≡ true) → IsReordered nodes (told ++ still_left told nodes)
told_first [] nodes d n within = record { many = refl; distinct = n; same = λ m. refl }
told_first (t ∷ told) nodes d n within =
    let r = told_first told (without t nodes) d.1 (without_distinct t nodes n) inner in
    record {
      many = ap suc r.many ∙ without_one t nodes n here;
      distinct = (r.same t ∙ without_itself t nodes, r.distinct);
      same = λ m. ap (λ b. eqb m t || b) (r.same m) ∙ put_back m;
    }
  where
    here : among t nodes ≡ true
    here = within t (or_left (eqb t t) (among t told) (eq-eqb t t refl))

    inner : (m : ℕ) → among m told ≡ true → among m (without t nodes) ≡ true
    inner m e = elim (cases_eq m t) [
      | inl same ↦ absurd (true≢false (sym e ∙ subst (λ z. among z told ≡ false) (sym same) d.0))
      | inr away ↦ without_among t m nodes away ∙ within m (or_right (eqb m t) (among m told) e)
    ]

    put_back : (m : ℕ) → (eqb m t || among m (without t nodes)) ≡ among m nodes
    put_back m = elim (cases_eq m t) [
      | inl same ↦ ap (λ b. b || among m (without t nodes)) (eq-eqb m t same)
          ∙ sym (subst (λ z. among z nodes ≡ true) (sym same) here)
      | inr away ↦ ap (λ b. b || among m (without t nodes)) (ne_eqb m t away) ∙ without_among t m nodes away
    ]
