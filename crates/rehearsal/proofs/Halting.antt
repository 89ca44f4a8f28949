-- How a rehearsal that has read so much halts.
use Rattle.std.proofs.Common.{◌≡◌, ◌≢◌, ℕ, zero, suc, Bool, true, false, List, [], ◌∷◌, ◌++◌, length, take, drop, Result, Ok, Err, ◌⊎◌, inl, inr, refl, sym, ap, subst, ◌∙◌, append_assoc}
use Rattle.std.specs.Prelude.{MatchResult, IfErr}
use Rattle.std.proofs.lemmas.List.{append-nil, take-append-drop}
use Rattle.std.proofs.lemmas.List.Folds.{list_any-append}
use Rattle.byte_streams.specs.Streams.{Input, Output}
use Rattle.script_lines.specs.declared.fault.ScriptFault.{ScriptFault}
use Rattle.script_lines.specs.declared.fault.Halt.{Halt}
use Rattle.script_lines.specs.declared.fault.Halt.TheVariants.{Fault, Memory, Failed}
use Rattle.rehearsal.specs.declared.script.Rehearsal.{Rehearsal}
use Rattle.rehearsal.specs.declared.stage.Stage.{Stage}
use Rattle.rehearsal.specs.Scripts.{IsOneLine, ends_line, ended, IsSoFar, IsLastPlayed, IsEnded, with_last}
use Rattle.rehearsal.specs.Writing.{IsCut, output}
use Rattle.rehearsal.proofs.Histories.{last_played, waits_more}
use Rattle.rehearsal.specs.Halting.{HasWrittenLines}
use Rattle.rehearsal.specs.Scripts.{Flushes}
use Rattle.std.specs.Prelude.{OnOk}
use Rattle.rehearsal.specs.Halting.{IsAfterLine, Leaves, IsHalted, IsStopped, IsLineHalted, IsEndHalted, LeavesAtEnd, Halted, HaltsBy}

one_line : (a b : List ℕ) → IsOneLine a → IsOneLine b → IsOneLine (a ++ b)
one_line a b p q = list_any-append ends_line a b ∙ rw (p, q) refl

-- ---- a halt after the lines so far

pub no_fault_memory : (f : ScriptFault) → ◌≡◌ {A = Halt} Memory (Fault f) → ⊥
no_fault_memory f e = absurd cc

pub no_fault_failed : (f : ScriptFault) → ◌≡◌ {A = Halt} Failed (Fault f) → ⊥
no_fault_failed f e = absurd cc

module _ (W : Type 0) (took : W → List ℕ → W → Type 0) (failures : W → ℕ) where
  leaves_line : (input : List ℕ) (first : W) (s : Stage) (x x' : Rehearsal) (w : W) (end tail : List ℕ) (h : Halt) (so : IsSoFar (output took failures first w) input s x) → IsOneLine end → IsAfterLine tail
      → IsLineHalted s (x.pending.items ++ end) x x' h → Leaves (output took failures first w) (record { count = (length so.lines); text = so.text; stage = s; status = x.transcript.status; rest = (x.pending.items ++ (end ++ tail)) }) h x'
  leaves_line input first s x x' w end tail (Fault f) so one b (p, same, e) = (
    (x.pending.items ++ end, tail, sym (append_assoc x.pending.items end tail), one_line x.pending.items end so.is_prefix one, b, p),
    (so.out, rw same so.printed, so.written),
    e ∙ so.number,
  )
  leaves_line input first s x x' w end tail Memory so one b (p, same, e) = (so.out, rw same so.printed, so.written)
  leaves_line input first s x x' w end tail Failed so one b p = absurd p.0

  -- in the line of which this is the end
  pub halted_in_line : (input : List ℕ) (first : W) (s : Stage) (x x' : Rehearsal) (w : W) (end tail : List ℕ) (h : Halt) → IsSoFar (output took failures first w) input s x → IsOneLine end → IsAfterLine tail
      → IsLineHalted s (x.pending.items ++ end) x x' h → IsHalted (output took failures first w) (input ++ (end ++ tail)) h x'
  halted_in_line input first s x x' w end tail h so one b p = record {
    lines = so.lines;
    rest = x.pending.items ++ (end ++ tail);
    text = so.text;
    stage = s;
    status = x.transcript.status;
    are_lines = so.are_lines;
    is = ap (λ (t : List ℕ). t ++ (end ++ tail)) so.is ∙ append_assoc (ended so.lines) x.pending.items (end ++ tail);
    played = so.played;
    leaves = leaves_line input first s x x' w end tail h so one b p;
  }

  -- where memory runs out, or as a read failed: what waited stays
  pub halted_before : (input : List ℕ) (first : W) (s : Stage) (x x' : Rehearsal) (w : W) (more : List ℕ) (h : Halt) → IsSoFar (output took failures first w) input s x → ((f : ScriptFault) → h ≢ Fault f) → x'.waiting.items ≡ x.waiting.items → IsHalted (output took failures first w) (input ++ more) h x'
  halted_before input first s x x' w more h so ne same = record {
    lines = so.lines;
    rest = x.pending.items ++ more;
    text = so.text;
    stage = s;
    status = x.transcript.status;
    are_lines = so.are_lines;
    is = ap (λ (t : List ℕ). t ++ more) so.is ∙ append_assoc (ended so.lines) x.pending.items more;
    played = so.played;
    leaves = by h ne;
  }
    where
      by : (k : Halt) → ((f : ScriptFault) → k ≢ Fault f) → Leaves (output took failures first w) (record { count = (length so.lines); text = so.text; stage = s; status = x.transcript.status; rest = (x.pending.items ++ more) }) k x'
      by (Fault f) never = absurd (never f refl)
      by Memory never = (so.out, rw same so.printed, so.written)
      by Failed never = (so.out, x.waiting.items, so.printed, so.written)

  module _ (then : (x y z : W) (a b : List ℕ) → took x a y → took y b z → took x (a ++ b) z) where
    -- as a write failed
    pub halted_by_write : (input : List ℕ) (first : W) (s : Stage) (x x' : Rehearsal) (w w' : W) (more : List ℕ) (h : Halt) → IsSoFar (output took failures first w) input s x → IsCut (output took failures w w') x.waiting.items h → IsHalted (output took failures first w') (input ++ more) h x'
    halted_by_write input first s x x' w w' more h so c =
        let printed = x.waiting.items in
        let parted : so.text ≡ (so.out ++ take c.1 printed) ++ drop c.1 printed = so.printed ∙ ap (λ (t : List ℕ). so.out ++ t) (sym (take-append-drop c.1 printed)) ∙ sym (append_assoc so.out (take c.1 printed) (drop c.1 printed)) in
        subst (λ (k : Halt). IsHalted (output took failures first w') (input ++ more) k x') (sym c.0) (record {
          lines = so.lines;
          rest = x.pending.items ++ more;
          text = so.text;
          stage = s;
          status = x.transcript.status;
          are_lines = so.are_lines;
          is = ap (λ (t : List ℕ). t ++ more) so.is ∙ append_assoc (ended so.lines) x.pending.items more;
          played = so.played;
          leaves = (so.out ++ take c.1 printed, drop c.1 printed, parted, then first w w' so.out (take c.1 printed) so.written c.2);
        })

    -- as there was no memory, or a write failed
    pub halted_stopped : (input : List ℕ) (first : W) (s : Stage) (x x' : Rehearsal) (w w' : W) (more : List ℕ) (h : Halt) → IsSoFar (output took failures first w) input s x → IsStopped (output took failures w w') (record { before = x; after = x' }) h → IsHalted (output took failures first w') (input ++ more) h x'
    halted_stopped input first s x x' w w' more h so (inl m) = rw (m.0, m.1) (halted_before input first s x x' w more Memory so no_fault_memory m.2)
    halted_stopped input first s x x' w w' more h so (inr c) = halted_by_write input first s x x' w w' more h so c

    -- the same, as the step in prefix of it left the stage
    pub halted_beside : (input : List ℕ) (first : W) (s : Stage) (x x' : Rehearsal) (w w' : W) (more : List ℕ) (done : Result (Unit {0}) Halt) (r : Result Stage Halt) → IsSoFar (output took failures first w) input s x
        → IfErr done (IsStopped (output took failures w w') (record { before = x; after = x' })) → MatchResult done (λ _. r ≡ Ok s) (λ h. r ≡ Err h) → IfErr r (λ h. IsHalted (output took failures first w') (input ++ more) h x')
    halted_beside input first s x x' w w' more (Ok u) r so e b = rw b tt
    halted_beside input first s x x' w w' more (Err h) r so e b = rw b (halted_stopped input first s x x' w w' more h so e)

    pub written_beside_halts : (input : List ℕ) (first : W) (s : Stage) (x x' : Rehearsal) (w w' : W) (more : List ℕ) (done : Result (Unit {0}) Halt) (r : Result Stage Halt) → IsSoFar (output took failures first w) input s x
        → IfErr done (IsCut (output took failures w w') x.waiting.items) → MatchResult done (λ _. r ≡ Ok s) (λ h. r ≡ Err h) → IfErr r (λ h. IsHalted (output took failures first w') (input ++ more) h x')
    written_beside_halts input first s x x' w w' more (Ok u) r so e b = rw b tt
    written_beside_halts input first s x x' w w' more (Err h) r so e b = rw b (halted_by_write input first s x x' w w' more h so e)

pub behind_step : (a b c : List ℕ) → (a ++ (b ++ 10 ∷ [])) ++ c ≡ a ++ (b ++ 10 ∷ c)
behind_step a b c = append_assoc a (b ++ 10 ∷ []) c ∙ ap (λ (t : List ℕ). a ++ t) (append_assoc b (10 ∷ []) c)

-- ---- a halt at the end

module _ (W : Type 0) (took : W → List ℕ → W → Type 0) (failures : W → ℕ) where
  -- in the last line
  pub halted_in_last : (input : List ℕ) (first : W) (s : Stage) (x x' : Rehearsal) (w : W) (h : Halt) → IsSoFar (output took failures first w) input s x → IsLineHalted s x.pending.items x x' h → Halted (output took failures first w) input h x'
  halted_in_last input first s x x' w h so p =
      inl (rw (append-nil input) at (halted_in_line W took failures input first s x x' w [] [] h so refl tt (rw (sym (append-nil x.pending.items)) at p)))

  module _ (then : (x y z : W) (a b : List ℕ) → took x a y → took y b z → took x (a ++ b) z) where
    pub halted_at_end : (input : List ℕ) (first : W) (s s1 : Stage) (x x1 x' : Rehearsal) (w : W) (h : Halt) → IsSoFar (output took failures first w) input s x → IsLastPlayed s x.pending.items x x1 s1 → IsEndHalted s1 x1 x' h → Halted (output took failures first w) input h x'
    halted_at_end input first s s1 x x1 x' w h so p q =
        let a = last_played W took failures input first s s1 x x1 w so p in
        inr (record {
          lines = so.lines;
          last = x.pending.items;
          text = a.0;
          stage = s1;
          status = x1.transcript.status;
          are_lines = so.are_lines;
          is_last = so.is_prefix;
          is = so.is;
          played = a.1;
          leaves = by h q a.0 (rw q.1 a.2);
        })
      where
        by : (k : Halt) → IsEndHalted s1 x1 x' k → (text : List ℕ) → text ≡ so.out ++ x'.waiting.items → LeavesAtEnd (output took failures first w) (record { count = length (with_last so.lines x.pending.items); text = text; stage = s1; status = x1.transcript.status; rest = [] }) k x'
        by (Fault f) r text e = (r.0, (so.out, e, so.written))
        by Memory r text e = (so.out, e, so.written)
        by Failed r text e = absurd r.0

    -- as what is reported of the end is written
    pub halted_by_end : (input : List ℕ) (first : W) (s s1 : Stage) (x x1 x2 x' : Rehearsal) (w w' : W) (done : Result (Unit {0}) Halt) → IsSoFar (output took failures first w) input s x → IsLastPlayed s x.pending.items x x1 s1 → IsEnded s1 x1 x2
        → IfErr done (IsCut (output took failures w w') x2.waiting.items) → IfErr done (λ h. Halted (output took failures first w') input h x')
    halted_by_end input first s s1 x x1 x2 x' w w' (Ok u) so p q c = tt
    halted_by_end input first s s1 x x1 x2 x' w w' (Err h) so p q c =
        let a = last_played W took failures input first s s1 x x1 w so p in
        let waiting = x2.waiting.items in
        let all : a.0 ++ q.0 ≡ so.out ++ waiting = waits_more so.out x1.waiting.items q.0 a.0 waiting a.2 q.2 in
        let parted : a.0 ++ q.0 ≡ (so.out ++ take c.1 waiting) ++ drop c.1 waiting = all ∙ ap (λ (t : List ℕ). so.out ++ t) (sym (take-append-drop c.1 waiting)) ∙ sym (append_assoc so.out (take c.1 waiting) (drop c.1 waiting)) in
        subst (λ (k : Halt). Halted (output took failures first w') input k x') (sym c.0) (inr (record {
          lines = so.lines;
          last = x.pending.items;
          text = a.0;
          stage = s1;
          status = x1.transcript.status;
          are_lines = so.are_lines;
          is_last = so.is_prefix;
          is = so.is;
          played = a.1;
          leaves = (q.0, x2.transcript.status, q.1, (so.out ++ take c.1 waiting, drop c.1 waiting, parted, then first w w' so.out (take c.1 waiting) so.written c.2));
        }))

pub halts_by : {R W : Type 0} (reader : Input R) (writer : Output W) (x : Rehearsal) (n : ℕ) (input : List ℕ) (done : Result (Unit {0}) Halt)
    → reader.gave reader.before n input reader.after → IfErr done (λ h. Halted writer input h x) → IfErr done (HaltsBy reader writer x)
halts_by reader writer x n input (Ok u) g h = tt
halts_by reader writer x n input (Err k) g h = (n, input, g, h)

pub one_of : {A : Type 0} {P : Halt → Type 0} (r : Result (Unit {0}) Halt) → MatchResult r (λ _. A) P → A ⊎ ((k : Halt) × P k)
one_of (Ok u) m = inl m
one_of (Err k) m = inr (k, m)

-- ---- a read that fails

-- what was printed was written, where the stage continues
pub flushed_beside : {W : Type 0} (took : W → List ℕ → W → Type 0) (failures : W → ℕ) (x x' : Rehearsal) (s : Stage) (w w' : W)
    (done : Result (Unit {0}) Halt) (r : Result Stage Halt) → OnOk done (Flushes (output took failures w w') (record { before = x; after = x' }))
    → MatchResult done (λ _. r ≡ Ok s) (λ h. r ≡ Err h) → OnOk r (x'.waiting.items ≡ [])
flushed_beside took failures x x' s w w' (Ok u) r f b = rw b f.1
flushed_beside took failures x x' s w w' (Err h) r f b = rw b tt

pub has_written : {R W : Type 0} (reader : Input R) (writer : Output W) (s : Stage) (x : Rehearsal) (n : ℕ) (input : List ℕ)
    → reader.gave reader.before n input reader.after → IsSoFar writer input s x → x.waiting.items ≡ []
    → HasWrittenLines reader writer
has_written reader writer s x n input g so none = record {
  reads = n;
  lines = so.lines;
  prefix = x.pending.items;
  text = so.text;
  stage = s;
  status = x.transcript.status;
  given = subst (λ (t : List ℕ). reader.gave reader.before n t reader.after) so.is g;
  are_lines = so.are_lines;
  is_prefix = so.is_prefix;
  played = so.played;
  written = subst (λ (t : List ℕ). writer.took writer.before t writer.after)
      (sym (so.printed ∙ ap (λ (t : List ℕ). so.out ++ t) none ∙ append-nil so.out)) so.written;
}

none_taken : (n : ℕ) → ◌≡◌ {A = List ℕ} (take n []) []
none_taken zero = refl
none_taken (suc n) = refl

-- nothing is reported of it
reported_nothing : {W : Type 0} (took : W → List ℕ → W → Type 0) (failures : W → ℕ) (mid w' : W) (text : List ℕ)
    → text ≡ [] → took mid text w' ⊎ ((k : Halt) × IsCut (output took failures mid w') text k) → took mid [] w'
reported_nothing took failures mid w' text e (inl p) = subst (λ (t : List ℕ). took mid t w') e p
reported_nothing took failures mid w' text e (inr (k, c)) =
    subst (λ (t : List ℕ). took mid t w') (ap (take c.1) e ∙ none_taken c.1) c.2

pub still_written : {R W : Type 0} (reader : Input R) (took : W → List ℕ → W → Type 0)
    (failures : W → ℕ) (then : (x y z : W) (a b : List ℕ) → took x a y → took y b z → took x (a ++ b) z)
    (first mid w' : W) (text : List ℕ) → HasWrittenLines reader (output took failures first mid)
    → text ≡ [] → took mid text w' ⊎ ((k : Halt) × IsCut (output took failures mid w') text k)
    → HasWrittenLines reader (output took failures first w')
still_written reader took failures then first mid w' text h none p = record {
  reads = h.reads;
  lines = h.lines;
  prefix = h.prefix;
  text = h.text;
  stage = h.stage;
  status = h.status;
  given = h.given;
  are_lines = h.are_lines;
  is_prefix = h.is_prefix;
  played = h.played;
  written = subst (λ (t : List ℕ). took first t w') (append-nil h.text)
      (then first mid w' h.text [] h.written (reported_nothing took failures mid w' text none p));
}
