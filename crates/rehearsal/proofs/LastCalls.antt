-- The text of the last event.
use Rattle.std.proofs.Common.{◌≡◌, ℕ, ◌+◌, List, [], ◌∷◌, length, get_or, sym, ap, ◌∙◌, arith}
use Rattle.cluster_world.specs.declared.event.Event.{Event}
use Rattle.rehearsal.specs.LastCalls.{event_text, last_text}

last_behind : (e : Event) (es : List Event) (x : Event) → x ≡ get_or (e ∷ es) (length es) x
    → last_text (e ∷ es) ≡ event_text x
last_behind e [] x is = ap event_text (sym is)
last_behind e (f ∷ es) x is = last_behind f es x is

pub last_of : (es : List Event) (i : ℕ) (x : Event) → i + 1 ≡ length es → x ≡ get_or es i x
    → last_text es ≡ event_text x
last_of [] i x last is = absurd (omega (arith, last))
last_of (e ∷ es) i x last is =
    let here : i ≡ length es = omega (arith, last) in
    last_behind e es x (is ∙ ap (λ (k : ℕ). get_or (e ∷ es) k x) here)
