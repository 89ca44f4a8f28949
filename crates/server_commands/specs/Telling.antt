-- What is told of a server's error.
use Rattle.std.specs.Prelude.{◌≡◌, ◌≢◌, ℕ, zero, suc, ◌-◌, ◌/◌, ◌%◌, ◌<◌, Bool, true, cond, not, ◌&&◌, ◌==◌}
use Rattle.std.specs.Prelude.{nat_le, nat_lt, List, [], ◌∷◌, ◌++◌, codes, length, Option, Some, None}
use Rattle.byte_texts.specs.Hexadecimal.{hex_digit}
use Rattle.server_commands.specs.NamedErrors.{advice, named_error, starts}
use Rattle.server_commands.specs.Shown.{shown}
use Rattle.server_commands.specs.declared.credentials.Credentials.{Credentials}
use Rattle.server_commands.specs.declared.named_error.NamedError.{NamedError}

-- ---- no password

-- `***` for each place where the password stands, from the left on; of such a place so many bytes are still passed over
abbrev pub hide : (password : List ℕ) → (passed : ℕ) → (text : List ℕ) → List ℕ
hide p k [] = []
hide p (suc k) (b ∷ t) = hide p k t
hide p zero (b ∷ t) = cond (starts p (b ∷ t)) (codes "***" ++ hide p (length p - 1) t) (b ∷ hide p zero t)

-- an empty password is none
abbrev pub hidden : (password text : List ℕ) → List ℕ
hidden p t = cond (length p == 0) t (hide p 0 t)

-- it has no star itself
abbrev pub has_no_star : List ℕ → Bool
has_no_star [] = true
has_no_star (b ∷ t) = not (b == 42) && has_no_star t

abbrev pub IsNowhere : (word text : List ℕ) → Type 0
IsNowhere w t = (front back : List ℕ) → t ≢ front ++ (w ++ back)

-- a password that has no star stands nowhere in what is left of a text
abbrev pub HidesPasswords : Type 0
HidesPasswords = (p t : List ℕ) → 0 < length p → has_no_star p ≡ true → IsNowhere p (hidden p t)

abbrev pub hidden_from : Option Credentials → List ℕ → List ℕ
hidden_from None t = t
hidden_from (Some c) t = hidden c.password t

-- ---- no byte that a terminal might obey

-- a visible character of ASCII, or a space
abbrev pub is_plain : ℕ → Bool
is_plain b = nat_le 32 b && nat_lt b 127

abbrev pub escaped_byte : ℕ → List ℕ
escaped_byte b = cond (is_plain b) (b ∷ []) (92 ∷ 120 ∷ hex_digit (b / 16) ∷ hex_digit (b % 16) ∷ [])

abbrev pub escaped : List ℕ → List ℕ
escaped [] = []
escaped (b ∷ t) = escaped_byte b ++ escaped t

-- ---- and what can be done

abbrev pub advised : Option NamedError → List ℕ
advised None = []
advised (Some e) = codes "; " ++ advice e

abbrev pub told : Option Credentials → List ℕ → List ℕ
told c t = escaped (hidden_from c (shown t)) ++ advised (named_error t)
