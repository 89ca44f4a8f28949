-- The figures in a server's answer to INFO: lines `name:value`, each of which ends with CR and LF (the page of INFO).
use Rattle.std.specs.Prelude.{ℕ, Bool, false, ◌||◌, cond, List, [], ◌∷◌, Option, None, Some, codes, drop, length}
use Rattle.std.specs.List.{list_any}
use Rattle.byte_texts.specs.Decimals.{wide_number}
use Rattle.byte_texts.specs.Parts.{parts, split_once}
use Rattle.byte_texts.specs.Words.{begins, is}
use Rattle.server_infos.specs.declared.figures.Figures.{Figures}

-- the number before the byte that ends it
abbrev pub number_in_front : Option (List ℕ × List ℕ) → Option ℕ
number_in_front None = None
number_in_front (Some p) = wide_number p.0

abbrev pub number_before : (end : ℕ) → List ℕ → Option ℕ
number_before end t = number_in_front (split_once end t)

-- the number after the name in the first line that begins with it
abbrev pub figure_in : (name : List ℕ) (end : ℕ) → (lines : List (List ℕ)) → Option ℕ
figure_in name end [] = None
figure_in name end (line ∷ lines) =
    cond (begins name line) (number_before end (drop (length name) line)) (figure_in name end lines)

abbrev pub is_line_there : (wanted : List ℕ) → (lines : List (List ℕ)) → Bool
is_line_there wanted lines = list_any (is wanted) lines

-- none where the section of keys has no line of the one database
abbrev pub no_keys_in : List ℕ → Option ℕ
no_keys_in t = cond (is_line_there (codes "# Keyspace\r") (parts 10 t)) (Some 0) None

abbrev pub some_or : Option ℕ → Option ℕ → Option ℕ
some_or None other = other
some_or (Some n) other = Some n

-- the keys of that line, of which a comma ends the number
abbrev pub keys_in : List ℕ → Option ℕ
keys_in t = some_or (figure_in (codes "db0:keys=") 44 (parts 10 t)) (no_keys_in t)

abbrev pub figures_in : List ℕ → Figures
figures_in t = record {
  keys = keys_in t;
  used_memory = figure_in (codes "used_memory:") 13 (parts 10 t);
  max_memory = figure_in (codes "maxmemory:") 13 (parts 10 t);
}
