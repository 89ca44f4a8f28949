-- The program's table of kinds is the definition's.
use Rattle.std.proofs.Common.{◌≡◌, ℕ, Bool, true, false, cond, List, [], ◌∷◌, map, Option, Some, None, option_map, refl, ap}
use Rattle.std.proofs.Common.{◌∙◌}
use Rattle.std.specs.Borrow.{Bor}
use Rattle.std.specs.List.{find}
use Rattle.client_questions.specs.Refusals.{is_word}
use Rattle.client_questions.specs.Kinds.{KindRow, rows, kind_named}
use Rattle.client_questions.specs.Shown.{row, first_named}
use Rattle.client_questions.specs.declared.kind.KindRow as program
use Rattle.client_questions.specs.declared.kind.Kind.{Kind}

abbrev by_word : List ℕ → KindRow → Bool
by_word word r = is_word word r.text

find_rows : (word : List ℕ) (xs : List program.KindRow)
    → option_map (λ r. r.kind) (find (λ r. is_word word r.text.now) xs)
    ≡ option_map (λ r. r.kind) (find (by_word word) (map row xs))
find_rows word [] = refl
find_rows word (x ∷ xs) = chosen (is_word word x.text.now) (find_rows word xs)
  where
    chosen : (b : Bool) → option_map (λ r. r.kind) (find (λ r. is_word word r.text.now) xs)
        ≡ option_map (λ r. r.kind) (find (by_word word) (map row xs))
        → option_map (λ r. r.kind) (cond b (Some x) (find (λ r. is_word word r.text.now) xs))
        ≡ option_map (λ r. r.kind) (cond b (Some (row x)) (find (by_word word) (map row xs)))
    chosen true rest = refl
    chosen false rest = rest

seen : (o : Option (Bor program.KindRow))
    → option_map (λ r. r.now.kind) o ≡ option_map (λ r. r.kind) (option_map (λ r. r.now) o)
seen None = refl
seen (Some r) = refl

pub in_table : (word : List ℕ) (xs : List program.KindRow) (o : Option (Bor program.KindRow)) → map row xs ≡ rows
    → option_map (λ r. r.now) o ≡ first_named word xs → option_map (λ r. r.now.kind) o ≡ kind_named word
unfolding kind_named first_named
in_table word xs o same is =
    seen o ∙ ap (option_map (λ r. r.kind)) is ∙ find_rows word xs
    ∙ ap (λ rs. option_map (λ r. r.kind) (find (by_word word) rs)) same
