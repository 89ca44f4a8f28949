-- What was put, and then what is left of a text whose passwords are hidden.
use Rattle.std.proofs.Common.{◌≡◌, ◌∙◌, ℕ, zero, suc, ◌-◌, ◌<◌, ◌≤◌, Bool, true, false, List, [], ◌∷◌, ◌++◌, length, take, drop, get_or}
use Rattle.std.proofs.Common.{refl, sym, ap, append_assoc, arith, codes}
use Rattle.server_commands.specs.NamedErrors.{starts}
use Rattle.server_commands.specs.Telling.{hide}

passed_over : (p : List ℕ) (k : ℕ) (t : List ℕ) → hide p k t ≡ hide p 0 (drop k t)
passed_over p zero t = refl
passed_over p (suc k) [] = refl
passed_over p (suc k) (b ∷ t) = passed_over p k t

pub at_end : (p rest : List ℕ) → length rest < 1 → hide p 0 rest ≡ []
at_end p [] h = refl
at_end p (b ∷ t) h = absurd (omega arith)

pub at_password : (p rest : List ℕ) → 0 < length p → 1 ≤ length rest → starts p rest ≡ true
    → hide p 0 rest ≡ codes "***" ++ hide p 0 (drop (length p) rest)
at_password [] rest some more is = absurd (omega arith)
at_password (x ∷ p) [] some more is = absurd (omega arith)
at_password (x ∷ p) (b ∷ t) some more is =
    let behind : suc (length p) - 1 ≡ length p = omega arith in
    rw is (rw behind (ap (λ xs. codes "***" ++ xs) (passed_over (x ∷ p) (length p) t)))

-- the loop's step where the password stands
pub password_found : (p rest after found found' whole : List ℕ) → 0 < length p → 1 ≤ length rest
    → starts p rest ≡ true → after ≡ drop (length p) rest → found' ≡ found ++ codes "***"
    → found ++ hide p 0 rest ≡ whole → found' ++ hide p 0 after ≡ whole
password_found p rest after found found' whole some more is behind put before =
    ap (λ xs. xs ++ hide p 0 after) put
    ∙ append_assoc found (codes "***") (hide p 0 after)
    ∙ ap (λ xs. found ++ (codes "***" ++ hide p 0 xs)) behind
    ∙ ap (λ xs. found ++ xs) (sym (at_password p rest some more is))
    ∙ before

pub at_byte : (p : List ℕ) (b : ℕ) (t : List ℕ) → starts p (b ∷ t) ≡ false → hide p 0 (b ∷ t) ≡ b ∷ hide p 0 t
at_byte p b t is = rw is refl

pub ruleset hides = (at_end, at_password, at_byte)
