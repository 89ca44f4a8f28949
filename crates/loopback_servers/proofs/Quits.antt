-- What ends a session is a question.
use Rattle.std.proofs.Common.{◌≡◌, ℕ, true, List, [], ◌∷◌, map, option_map, Some, refl, ap}
use Rattle.std.specs.Str.{bytes_eq}
use Rattle.std.specs.Char.{to_ascii_lowercase}
use Rattle.std.specs.List.{find}
use Rattle.std.specs.Prelude.{codes}
use Rattle.typed_values.proofs.Spellings.{same-true}
use Rattle.resp2_wire.specs.Stream.{Words}
use Rattle.node_session.specs.Requests.{is_quit}
use Rattle.client_questions.specs.Kinds.{kind_named, kind_of, rows}
use Rattle.client_questions.specs.Questions.{caller_after, is_question, reply_own}
use Rattle.client_questions.specs.Refusals.{ok}
use Rattle.client_questions.specs.declared.caller.Caller.{Caller}
use Rattle.loopback_servers.specs.Asking.{QuitsAreQuestions}

quit_named : (word : List ℕ) → map to_ascii_lowercase word ≡ codes "quit" → kind_named word ≡ kind_named (codes "quit")
unfolding kind_named
quit_named word is =
    ap (λ (text : List ℕ). option_map (λ r. r.kind) (find (λ r. bytes_eq text (map to_ascii_lowercase r.text)) rows)) is

quit_told : (caller : Caller) (ws : Words)
    → (is_question (codes "quit" ∷ ws) ≡ true) × (reply_own caller (codes "quit" ∷ ws) ≡ Some ok)
    × (caller_after caller (codes "quit" ∷ ws) ≡ caller)
unfolding kind_of kind_named rows reply_own caller_after
quit_told caller ws = (refl, refl, refl)

pub quits_told : QuitsAreQuestions
unfolding kind_of reply_own caller_after
quits_told caller [] quit = absurd cc
quits_told caller (word ∷ ws) quit =
    rw (quit_named word (same-true (map to_ascii_lowercase word) (codes "quit") quit)) (quit_told caller ws)
