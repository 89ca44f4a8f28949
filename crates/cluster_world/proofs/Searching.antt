-- The search for the first event that is not earned.
use Rattle.std.proofs.Common.{◌≡◌, ◌≢◌, ℕ, Bool, true, false, cond, eqb, not, ◌||◌, ◌&&◌, List, [], ◌∷◌, ◌++◌, length, Option, Some, None, is_none, sym, refl, ap, ◌∙◌, inl, inr}
use Rattle.std.proofs.lemmas.Bool.{true≢false, or_cases, or_parts, not-false}
use Rattle.client_commands.specs.Commands.{keys}
use Rattle.client_commands.specs.declared.command.Command.{Command}
use Rattle.resp2_wire.specs.declared.reply.Reply.{Reply}
use Rattle.slot_marks.specs.Verdicts.{first_slot, is_cross}
use Rattle.cluster_admin.specs.declared.admin.AdminCommand.{AdminCommand}
use Rattle.cluster_admin.specs.declared.admin.AdminCommand.TheVariants.{Importing, Migrating, SetNode, Stable, KeysIn}
use Rattle.cluster_admin.specs.declared.admin.AdminCommand.TheVariants.{Migrate}
use Rattle.cluster_admin.specs.declared.admin.AdminReply.TheVariants as answers
use Rattle.cluster_world.specs.Worlds.{World, importing}
use Rattle.cluster_world.specs.Commanding.{effect, admin_after}
use Rattle.cluster_world.specs.Steps.{after, Answers, Run}
use Rattle.cluster_world.specs.declared.event.Event.{Event}
use Rattle.cluster_world.specs.declared.event.Event.TheVariants.{Client, Look, Admin}
use Rattle.cluster_world.specs.Honesty.{IsEarned, past_of}
use Rattle.cluster_world.specs.Earning.{world_after, was_asked, imports, IsDishonestAt}
use Rattle.cluster_world.specs.Imported.{dated}
use Rattle.cluster_world.specs.Searching.{is_earned, EarnedByTest, MarksSame, IsSearched, SearchesOn}
use Rattle.cluster_world.proofs.Earning.{honest_more, asked_by_test}
use Rattle.cluster_world.proofs.Marking.{marks_are_told}

-- ---- the test

none_of : (o : Option ℕ) → is_none o ≡ true → o ≡ None
none_of None e = refl
none_of (Some m) e = absurd (true≢false (sym e))

some_of : (o : Option ℕ) → is_none o ≡ false → o ≢ None
some_of None e p = true≢false e
some_of (Some m) e p = true≢false (sym (ap is_none p) ∙ e)

earned_if : (w : World) (past : List Event) (seat n : ℕ) (asking : Bool) (c : Command) (r : Reply)
    → is_earned w.base_port (λ m s. importing w m s) past (Client seat n asking c r) ≡ true → IsEarned w past (Client seat n asking c r)
earned_if w past seat n asking c r e = λ a o i. elim (or_cases (not asking || is_cross (keys c) || is_none (importing w n (first_slot (keys c)))) (was_asked w.base_port past (keys c) n) e) [
  | inr u ↦ (asked_by_test w.base_port n (keys c) past).1 u
  | inl u ↦ elim (or_cases (not asking || is_cross (keys c)) (is_none (importing w n (first_slot (keys c)))) u) [
    | inr v ↦ absurd (i (none_of _ v))
    | inl v ↦ elim (or_cases (not asking) (is_cross (keys c)) v) [
      | inr x ↦ absurd (true≢false (sym x ∙ o))
      | inl x ↦ absurd (true≢false (sym x ∙ ap not a))
    ]
  ]
]

unearned_if : (w : World) (past : List Event) (seat n : ℕ) (asking : Bool) (c : Command) (r : Reply)
    → is_earned w.base_port (λ m s. importing w m s) past (Client seat n asking c r) ≡ false → IsEarned w past (Client seat n asking c r) → ⊥
unearned_if w past seat n asking c r e h =
    let p = or_parts (not asking || is_cross (keys c) || is_none (importing w n (first_slot (keys c)))) (was_asked w.base_port past (keys c) n) e in
    let q = or_parts (not asking || is_cross (keys c)) (is_none (importing w n (first_slot (keys c)))) p.0 in
    let s = or_parts (not asking) (is_cross (keys c)) q.0 in
    true≢false (sym ((asked_by_test w.base_port n (keys c) past).0 (h (not-false asking s.0) s.1 (some_of _ q.1))) ∙ p.1)

pub earned_by_test : EarnedByTest
earned_by_test w past (Client seat n asking c r) = (earned_if w past seat n asking c r, unearned_if w past seat n asking c r)
earned_by_test w past event = ((λ e. tt), λ e. absurd (true≢false e))

-- ---- the world after the events

effect_port : (w : World) (r : ℕ) (c : AdminCommand) → (effect w r c).base_port ≡ w.base_port
unfolding effect
effect_port w r (Importing s m) = refl
effect_port w r (Migrating s m) = refl
effect_port w r (SetNode s m) = refl
effect_port w r (Stable s) = refl
effect_port w r (KeysIn s b) = refl
effect_port w r (Migrate ks m) = refl

pub after_port : (w : World) (e : Event) → (after w e).base_port ≡ w.base_port
unfolding admin_after
after_port w (Client seat x asking c r) = refl
after_port w (Look seat x r) = refl
after_port w (Admin r c told) = by _
  where
    by : (b : Bool) → (cond b w (effect w r c)).base_port ≡ w.base_port
    by true = refl
    by false = effect_port w r c

pub world_port : (es : List Event) (w : World) → (world_after w es).base_port ≡ w.base_port
world_port [] w = refl
world_port (e ∷ es) w = world_port es (after w e) ∙ after_port w e

world_more : (es : List Event) (e : Event) (w : World) → world_after w (es ++ e ∷ []) ≡ after (world_after w es) e
world_more [] e w = refl
world_more (x ∷ es) e w = world_more es e (after w x)

pub answers_at : (prefix : List Event) (e : Event) (rest : List Event) (w last : World) → Run w (prefix ++ e ∷ rest) last → Answers (world_after w prefix) e
answers_at [] e rest w last run = run.0
answers_at (x ∷ prefix) e rest w last run = answers_at prefix e rest (after w x) last run.1

-- ---- marks that agree

-- a mark that is changed by the same test is there or not as before
module _ (b : Bool) (o o' : Option ℕ) (same : is_none o ≡ is_none o') where
  marked_same : (u u' : Option ℕ) → is_none u ≡ is_none u' → is_none (cond b u o) ≡ is_none (cond b u' o')
  marked_same u u' e = by b
    where
      by : (c : Bool) → is_none (cond c u o) ≡ is_none (cond c u' o')
      by true = e
      by false = same

imports_same : (g h : ℕ → ℕ → Option ℕ) (e : Event) → MarksSame g h → MarksSame (imports g e) (imports h e)
imports_same g h (Client seat x asking c r) same n s = same n s
imports_same g h (Look seat x r) same n s = same n s
imports_same g h (Admin x (Importing u m) answers.Ok) same n s = marked_same (eqb n x && eqb s u) (g n s) (h n s) (same n s) (Some m) (Some m) refl
imports_same g h (Admin x (SetNode u m) answers.Ok) same n s = marked_same (eqb n x && eqb s u && eqb m x) (g n s) (h n s) (same n s) None None refl
imports_same g h (Admin x (Stable u) answers.Ok) same n s = marked_same (eqb n x && eqb s u) (g n s) (h n s) (same n s) None None refl
imports_same g h (Admin x c r) same n s = same n s

-- the place for the source makes no difference
pub imports_dated : (i : ℕ) (g h : ℕ → ℕ → Option ℕ) (e : Event) → MarksSame g h → MarksSame (imports g (dated i e)) (imports h e)
imports_dated i g h (Client seat x asking c r) same n s = same n s
imports_dated i g h (Look seat x r) same n s = same n s
imports_dated i g h (Admin x (Importing u m) answers.Ok) same n s = marked_same (eqb n x && eqb s u) (g n s) (h n s) (same n s) (Some i) (Some m) refl
imports_dated i g h (Admin x c r) same n s = imports_same g h (Admin x c r) same n s

test_same : (port : ℕ) (g h : ℕ → ℕ → Option ℕ) (past : List Event) (e : Event) → MarksSame g h → is_earned port g past e ≡ is_earned port h past e
test_same port g h past (Client seat n asking c r) same =
    ap (λ b. not asking || is_cross (keys c) || b || was_asked port past (keys c) n) (same n (first_slot (keys c)))
test_same port g h past (Look seat n r) same = refl
test_same port g h past (Admin n c r) same = refl

-- ---- the search

module _ (first last : World) (prefix : List Event) (e : Event) (rest : List Event) (marks : ℕ → ℕ → Option ℕ) (run : Run first (prefix ++ e ∷ rest) last) (so_far : IsSearched first prefix marks) where
  now : World
  now = world_after first prefix

  tested : (b : Bool) → is_earned first.base_port marks (past_of [] prefix) e ≡ b → is_earned now.base_port (λ n s. importing now n s) (past_of [] prefix) e ≡ b
  unfolding now
  tested b is =
      ap (λ p. is_earned p (λ n s. importing (world_after first prefix) n s) (past_of [] prefix) e) (world_port prefix first)
      ∙ sym (test_same first.base_port marks (λ n s. importing (world_after first prefix) n s) (past_of [] prefix) e so_far.marks_are) ∙ is

  pub on : (later : ℕ → ℕ → Option ℕ) → is_earned first.base_port marks (past_of [] prefix) e ≡ true → MarksSame later (imports marks e)
      → IsSearched first (prefix ++ e ∷ []) later
  unfolding now
  on later is same = record {
    honest = honest_more first prefix e so_far.honest ((earned_by_test (world_after first prefix) (past_of [] prefix) e).0 (tested true is));
    marks_are = λ n s. same n s
        ∙ imports_same marks (λ m t. importing (world_after first prefix) m t) e so_far.marks_are n s
        ∙ ap is_none (sym (marks_are_told (world_after first prefix) e (answers_at prefix e rest first last run) n s)
        ∙ ap (λ w. importing w n s) (sym (world_more prefix e first)));
  }

  pub found : is_earned first.base_port marks (past_of [] prefix) e ≡ false → IsDishonestAt first (prefix ++ e ∷ rest) (length prefix)
  unfolding now
  found is = record {
    prefix = prefix;
    event = e;
    rest = rest;
    place = refl;
    is = refl;
    honest = so_far.honest;
    unearned = (earned_by_test (world_after first prefix) (past_of [] prefix) e).1 (tested false is);
  }

pub searches_on : SearchesOn
searches_on = record {
  begins = λ first marks same. record { honest = tt; marks_are = same };
  goes_on = λ first last prefix e rest marks later run so_far is same. on first last prefix e rest marks run so_far later is same;
  finds = λ first last prefix e rest marks run so_far. found first last prefix e rest marks run so_far;
}
