-- What may be shown of a server's words.
use Rattle.std.specs.Prelude.{ℕ, cond, List, [], ◌∷◌, codes}
use Rattle.byte_texts.specs.Parts.{parts}
use Rattle.byte_texts.specs.Words.{begins}
use Rattle.server_commands.specs.NamedErrors.{target_words}

abbrev pub first_or : (otherwise : List ℕ) → List (List ℕ) → List ℕ
first_or t [] = t
first_or t (part ∷ more) = part

-- The arguments of a command that the server, or a MIGRATE's target, does not know stand after a comma, and are left
-- out.
abbrev pub shown : List ℕ → List ℕ
shown t = cond (begins (codes "ERR unknown command") (target_words t)) (first_or t (parts 44 t)) t
