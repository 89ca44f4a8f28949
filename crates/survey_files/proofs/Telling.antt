-- The lines of a survey, one after the other.
use Rattle.std.proofs.Common.{◌≡◌, ℕ, ◌+◌, Bool, true, false, cond, List, [], ◌∷◌, length, refl, ap}
use Rattle.std.proofs.Common.{◌∙◌, inl, inr, arith, Result, Ok, Err}
use Rattle.byte_texts.specs.Outcomes.{◌>>=◌}
use Rattle.byte_texts.specs.Words.{is}
use Rattle.std.specs.Prelude.{MatchResult, codes}
use Rattle.survey_files.specs.Faults.{IsFaultOf}
use Rattle.survey_files.specs.Reading.{Told, ended, line_told, lines_told}
use Rattle.survey_files.specs.declared.file_fault.FileFault.{FileFault}
use Rattle.survey_files.specs.declared.file_fault.FileFault.TheVariants.{NoEnd}

-- a step that went well, and one that did not
pub went_on : {A : Type 0} (first : Result A FileFault) (x : A) (f : A → Result A FileFault) → first ≡ Ok x
    → (first >>= f) ≡ f x
went_on first x f is = ap (λ r. r >>= f) is

pub stopped : {A : Type 0} (first : Result A FileFault) (e : FileFault) (f : A → Result A FileFault) → IsFaultOf first e
    → IsFaultOf (first >>= f) e
stopped first e f (inl memory) = inl memory
stopped first e f (inr fault) = inr (ap (λ r. r >>= f) fault)

pub fault_along : {A : Type 0} (r r' : Result A FileFault) (e : FileFault) → r ≡ r' → IsFaultOf r' e → IsFaultOf r e
fault_along r r' e is (inl memory) = inl memory
fault_along r r' e is (inr fault) = inr (is ∙ fault)

-- what is said of a result says more
pub match_weaker : {A E : Type 0} (r : Result A E) (P P' : A → Type 0) (Q Q' : E → Type 0) → ((a : A) → P a → P' a)
    → ((e : E) → Q e → Q' e) → MatchResult r P Q → MatchResult r P' Q'
match_weaker (Ok a) P P' Q Q' f g h = f a h
match_weaker (Err e) P P' Q Q' f g h = g e h

-- the line is not what stands after the last line feed
pub as_line : (line : ℕ) (t : List ℕ) (more : List (List ℕ)) (told : Told) → ((length t ≡ 0) → (more ≡ []) → ⊥)
    → lines_told line (t ∷ more) told
    ≡ cond (is (codes "clean") t) (ended (line + 1) more told) (line_told line t told >>= lines_told (line + 1) more)
as_line line [] [] told some = absurd (some refl refl)
as_line line [] (next ∷ more) told some = refl
as_line line (b ∷ t) more told some = refl

-- nothing follows the last line feed
pub at_end : (whole : Result Told FileFault) (line : ℕ) (ls more : List (List ℕ)) (t : List ℕ) (told : Told)
    → whole ≡ lines_told line ls told → ls ≡ t ∷ more → length t ≡ 0 → more ≡ [] → whole ≡ Err NoEnd
at_end whole line ls more t told before begins none last =
    before ∙ ap (λ xs. lines_told line xs told) begins ∙ by t more none last
  where
    by : (t : List ℕ) (more : List (List ℕ)) → length t ≡ 0 → more ≡ [] → lines_told line (t ∷ more) told ≡ Err NoEnd
    by [] [] none last = refl
    by [] (next ∷ more) none last = absurd cc
    by (b ∷ t) more none last = absurd (omega arith)

begins_so : (whole : Result Told FileFault) (line : ℕ) (ls more : List (List ℕ)) (t : List ℕ) (told : Told) (b : Bool)
    → whole ≡ lines_told line ls told → ls ≡ t ∷ more → ((length t ≡ 0) → (more ≡ []) → ⊥) → is (codes "clean") t ≡ b
    → whole ≡ cond b (ended (line + 1) more told) (line_told line t told >>= lines_told (line + 1) more)
begins_so whole line ls more t told b before begins some is_clean =
    before
    ∙ ap (λ xs. lines_told line xs told) begins
    ∙ as_line line t more told some
    ∙ ap (λ c. cond c (ended (line + 1) more told) (line_told line t told >>= lines_told (line + 1) more)) is_clean

-- the last line
pub clean_last : (whole : Result Told FileFault) (line : ℕ) (ls more : List (List ℕ)) (t : List ℕ) (told : Told)
    → whole ≡ lines_told line ls told → ls ≡ t ∷ more → ((length t ≡ 0) → (more ≡ []) → ⊥)
    → is (codes "clean") t ≡ true → ended (line + 1) more told ≡ Ok told → whole ≡ Ok told
clean_last whole line ls more t told before begins some clean last =
    begins_so whole line ls more t told true before begins some clean ∙ last

pub clean_not_last : (whole : Result Told FileFault) (line : ℕ) (ls more : List (List ℕ)) (t : List ℕ) (told : Told)
    (e : FileFault) → whole ≡ lines_told line ls told → ls ≡ t ∷ more → ((length t ≡ 0) → (more ≡ []) → ⊥)
    → is (codes "clean") t ≡ true → IsFaultOf (ended (line + 1) more told) e → IsFaultOf whole e
clean_not_last whole line ls more t told e before begins some clean fault =
    fault_along whole (ended (line + 1) more told) e
    (begins_so whole line ls more t told true before begins some clean) fault

-- another one
pub line_more : (whole : Result Told FileFault) (line : ℕ) (ls more : List (List ℕ)) (t : List ℕ) (told told' : Told)
    → whole ≡ lines_told line ls told → ls ≡ t ∷ more → ((length t ≡ 0) → (more ≡ []) → ⊥)
    → is (codes "clean") t ≡ false → line_told line t told ≡ Ok told' → whole ≡ lines_told (line + 1) more told'
line_more whole line ls more t told told' before begins some other read =
    begins_so whole line ls more t told false before begins some other
    ∙ went_on (line_told line t told) told' (lines_told (line + 1) more) read

pub line_refused : (whole : Result Told FileFault) (line : ℕ) (ls more : List (List ℕ)) (t : List ℕ) (told : Told)
    (e : FileFault) → whole ≡ lines_told line ls told → ls ≡ t ∷ more → ((length t ≡ 0) → (more ≡ []) → ⊥)
    → is (codes "clean") t ≡ false → IsFaultOf (line_told line t told) e → IsFaultOf whole e
line_refused whole line ls more t told e before begins some other fault =
    fault_along whole (line_told line t told >>= lines_told (line + 1) more) e
    (begins_so whole line ls more t told false before begins some other)
    (stopped (line_told line t told) e (lines_told (line + 1) more) fault)

pub ruleset lines_read = (at_end, clean_last, clean_not_last, line_more, line_refused)
