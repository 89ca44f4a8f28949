-- How it is told that there is nothing to show.
use Rattle.std.specs.Prelude.{◌≡◌, Bool, true, false, List, ℕ, Option, None, Some}
use Rattle.std.specs.Str.Lossy.{utf8_lossy}
use Rattle.byte_texts.specs.Parts.{split_once}
use Rattle.cluster_inspection.specs.declared.refusal.Refusal.{Refusal}
use Rattle.cluster_inspection.specs.declared.refusal.Refusal.TheVariants as refusal
use Rattle.plan_json.specs.Values.{line_of, refusal_data}
use Rattle.transcripts.specs.declared.transcript.Transcript.{Transcript}

abbrev pub line_or : List ℕ → Option (List ℕ × List ℕ) → List ℕ
line_or t None = t
line_or t (Some p) = p.0

-- what stands before the first line feed
abbrev pub first_line : List ℕ → List ℕ
first_line t = line_or t (split_once 10 t)

-- a line of JSON with that as its reason
abbrev pub reason_text : List ℕ → List ℕ
reason_text t = line_of (refusal_data (utf8_lossy (first_line t)))

abbrev pub refused_text : (json : Bool) → List ℕ → List ℕ
refused_text true t = reason_text t
refused_text false t = t

-- the answer, with the text that is shown of it
abbrev pub IsAnswerOf : (json : Bool) → Refusal → Transcript → Type 0
IsAnswerOf json refusal.Memory t = ⊥
IsAnswerOf json refusal.Unread t = ⊥
IsAnswerOf json (refusal.Answer answer) t =
    (t.status ≡ answer.status) × (t.printed.items ≡ refused_text json answer.printed.items)
