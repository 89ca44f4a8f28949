-- Words as a shell reads them (POSIX, "Quoting").
use Rattle.std.specs.Prelude.{ℕ, List, [], ◌∷◌, ◌++◌, cond, ◌==◌}

-- a byte in single quotes: a quote itself stands outside of them, after a backslash
abbrev pub quoted_byte : ℕ → List ℕ
quoted_byte b = cond (b == 39) (39 ∷ 92 ∷ 39 ∷ 39 ∷ []) (b ∷ [])

abbrev pub quoted : List ℕ → List ℕ
quoted [] = []
quoted (b ∷ word) = quoted_byte b ++ quoted word
