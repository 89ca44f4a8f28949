-- A line and its end, of which a prefix is written.
use Rattle.std.proofs.Common.{◌≡◌, ◌≢◌, ◌∙◌, ◌+◌, ◌++◌, ℕ, List, length, take, sym, ap, subst, Result, Ok, Err}
use Rattle.std.specs.Prelude.{OnErr}
use Rattle.std.proofs.Math.Seq.{take-append-add, take-length}

pub on_err : {A B P Q : Type 0} (r : Result A B) → OnErr r P → (P → Q) → OnErr r Q
on_err (Ok a) p f = tt
on_err (Err b) p f = f p

pub cut_at_end : {E : Type 0} (took : E → List ℕ → E → Type 0) (failures : E → ℕ)
    → ((x y z : E) (a b : List ℕ) → took x a y → took y b z → took x (a ++ b) z)
    → (line end : List ℕ) (k n : ℕ) (old mid new : E) → took old (take k line) mid → k ≡ length line
    → failures mid ≡ failures old → took mid (take n end) new → failures new ≢ failures mid
    → (m : ℕ) × took old (take m (line ++ end)) new × (failures new ≢ failures old)
cut_at_end took failures took_then line end k n old mid new first whole kept second failed = (
  length line + n,
  subst (λ t. took old t new) (sym (take-append-add line end n)) (took_then old mid new line (take n end) all second),
  λ e. failed (e ∙ sym kept),
)
  where
    all : took old line mid
    all = subst (λ t. took old t mid) (ap (λ i. take i line) whole ∙ take-length line) first
