-- What holds of three parts holds of equal ones.
use Rattle.std.proofs.Common.{◌≡◌, subst}

pub with_parts : {A B C : Type 0} (made : A → B → C → Type 0) (a a' : A) (b b' : B) (c c' : C) → a ≡ a' → b ≡ b' → c ≡ c'
    → made a b c → made a' b' c'
with_parts made a a' b b' c c' p q r h = subst (λ z. made a' b' z) r (subst (λ y. made a' y c) q (subst (λ x. made x b c) p h))
