-- The search for the first event that is not earned: by the importing marks that replies told, and the events so far.
use Rattle.std.specs.Prelude.{◌≡◌, ℕ, Bool, true, false, not, ◌||◌, List, [], ◌∷◌, ◌++◌, length, Option, is_none}
use Rattle.client_commands.specs.Commands.{keys}
use Rattle.slot_marks.specs.Verdicts.{first_slot, is_cross}
use Rattle.cluster_world.specs.Worlds.{World, importing}
use Rattle.cluster_world.specs.Steps.{Run}
use Rattle.cluster_world.specs.declared.event.Event.{Event}
use Rattle.cluster_world.specs.declared.event.Event.TheVariants.{Client}
use Rattle.cluster_world.specs.Honesty.{IsEarned, Honest, past_of}
use Rattle.cluster_world.specs.Earning.{world_after, was_asked, imports, IsDishonestAt}

-- whether the event is earned by those before it, the newest first, with these importing marks
abbrev pub is_earned : (port : ℕ) → (ℕ → ℕ → Option ℕ) → List Event → Event → Bool
is_earned port marks past (Client seat n asking c r) = not asking || is_cross (keys c)
    || is_none (marks n (first_slot (keys c))) || was_asked port past (keys c) n
is_earned port marks past event = true

-- the test is the rule
abbrev pub EarnedByTest : Type 0
EarnedByTest = (w : World) (past : List Event) (e : Event)
    → (is_earned w.base_port (λ n s. importing w n s) past e ≡ true → IsEarned w past e)
    × (is_earned w.base_port (λ n s. importing w n s) past e ≡ false → IsEarned w past e → ⊥)

-- the same slots are marked, whatever the marks say
abbrev pub MarksSame : (marks others : ℕ → ℕ → Option ℕ) → Type 0
MarksSame marks others = (n s : ℕ) → is_none (marks n s) ≡ is_none (others n s)

-- what a search over a run keeps: the events before are honest, and the slots that are marked are those that nodes
-- import in the world after them
pub record IsSearched (first : World) (prefix : List Event) (marks : ℕ → ℕ → Option ℕ) : Type 0 where
  pub honest : Honest first [] prefix
  pub marks_are : MarksSame marks (λ n s. importing (world_after first prefix) n s)

-- one event more: either it is earned and the search goes on with the slots marked that its reply tells, or it is the
-- first that is not; at the end all are honest
pub record SearchesOn : Type 0 where
  pub begins : (first : World) (marks : ℕ → ℕ → Option ℕ) → MarksSame marks (λ n s. importing first n s)
      → IsSearched first [] marks
  pub goes_on : (first last : World) (prefix : List Event) (e : Event) (rest : List Event)
      (marks later : ℕ → ℕ → Option ℕ) → Run first (prefix ++ e ∷ rest) last → IsSearched first prefix marks
      → is_earned first.base_port marks (past_of [] prefix) e ≡ true → MarksSame later (imports marks e)
      → IsSearched first (prefix ++ e ∷ []) later
  pub finds : (first last : World) (prefix : List Event) (e : Event) (rest : List Event) (marks : ℕ → ℕ → Option ℕ)
      → Run first (prefix ++ e ∷ rest) last → IsSearched first prefix marks
      → is_earned first.base_port marks (past_of [] prefix) e ≡ false
      → IsDishonestAt first (prefix ++ e ∷ rest) (length prefix)
