-- What is written of a plan that is explained.
use Rattle.std.specs.Prelude.{◌≡◌, ◌⊎◌, ℕ, Bool, true, false, List, ◌∷◌, ◌++◌, codes}
use Rattle.byte_streams.specs.Streams.{Input, Output}
use Rattle.cluster_inspection.specs.Answers.{Tells}
use Rattle.command_words.specs.declared.usage.ExplainWords.{ExplainWords}
use Rattle.plan_json.specs.Values.{line_of, outline_data}
use Rattle.plan_pages.specs.Pages.{page_text}
use Rattle.plan_previews.specs.GoingOn.{resume_text}
use Rattle.plan_previews.specs.Previews.{IsShownIn, TellsWhy}
use Rattle.plan_previews.specs.Refusing.{refused_text}
use Rattle.plan_previews.specs.declared.preview.Preview.{Preview}
use Rattle.transcripts.specs.Writing.{Writes}
use Rattle.transcripts.specs.declared.transcript.Transcript.{Transcript}

-- a line of JSON; or what `verify` says, an empty line and the page
abbrev pub explained_text : (json : Bool) → Preview → List ℕ
explained_text true p = line_of (outline_data p.outline p.servers.items p.commands (resume_text p.version))
explained_text false p =
    p.verdict.printed.items ++ (10 ∷ page_text p.outline p.servers.items (resume_text p.version))

-- what the plan that was read comes to, or why it is refused
abbrev pub SaysExplained : {R : Type 0} → ExplainWords → Input R → (status : ℕ) → (text : List ℕ) → Type 0
SaysExplained g i status text =
    ((p : Preview) × IsShownIn g.start i p × (status ≡ 0) × (text ≡ explained_text g.json p))
    ⊎ ((t : Transcript) × TellsWhy g.start i t × (status ≡ 1) × (text ≡ refused_text g.json t.printed.items))

-- memory ran out, which is told as far as it can be; or the plan could not be read, and nothing is told
abbrev pub TellsNothing : {W : Type 0} → Output W → (status : ℕ) → Type 0
TellsNothing o status = (status ≡ 1)
    × (Writes o.took o.failures (codes "out of memory\n") o.before o.after ⊎ (o.after ≡ o.before))

abbrev pub Explains : {R W : Type 0} → ExplainWords → Input R → Output W → (status : ℕ) → Type 0
Explains g i o status = Tells (SaysExplained g i) o status ⊎ TellsNothing o status
