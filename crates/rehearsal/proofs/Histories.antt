-- How a rehearsal that has read so much continues.
use Rattle.std.proofs.Common.{◌≡◌, ◌≢◌, ℕ, ◌+◌, ◌-◌, ◌^◌, min, Bool, true, false, List, [], ◌∷◌, ◌++◌, length, take, refl, sym, ap, ◌∙◌, arith, subst, append_assoc, Option, None, Some, Result, Ok, Err, inl, inr}
use Rattle.std.specs.Prelude.{MatchResult, OnOk, IfOk}
use Rattle.std.specs.List.{AllByRecursion}
use Rattle.std.proofs.lemmas.List.{append-nil, length-append}
use Rattle.std.proofs.Math.Seq.{take-append_seam}
use Rattle.std.proofs.lemmas.List.Folds.{list_any-append}
use Rattle.byte_streams.specs.Streams.{Input, Output}
use Rattle.script_lines.specs.declared.fault.Halt.{Halt}
use Rattle.rehearsal.specs.declared.script.Rehearsal.{Rehearsal}
use Rattle.rehearsal.specs.declared.stage.Stage.{Stage}
use Rattle.rehearsal.specs.declared.stage.Stage.TheVariants.{NoClusterYet}
use Rattle.rehearsal.specs.Scripts.{IsOneLine, ends_line, ended, PlaysLine, PlaysLines, Flushes, IsSoFar, IsLinePlayed, IsLastPlayed, IsEnded, IsWhole, IsFresh, IsRehearsed, with_last}
use Rattle.rehearsal.specs.Writing.{output}

-- ---- one line more

more : (s : Stage) (n : ℕ) (ls : List (List ℕ)) (t : List ℕ) (mid : Stage) (m : ℕ) (l a : List ℕ) (s' : Stage) (n' : ℕ) → PlaysLines s n ls t mid m → PlaysLine mid m l a s' n' → PlaysLines s n (ls ++ l ∷ []) (t ++ a) s' n'
more s n [] t mid m l a s' n' p q = (s', n', a, [], (rw (p.1, p.2) at q), (refl, refl, refl), rw p.0 (sym (append-nil a)))
more s n (k ∷ ks) t mid m l a s' n' p q = (p.0, p.1, p.2, p.3 ++ a, p.4, more p.0 p.1 ks p.3 mid m l a s' n' p.5 q, rw p.6 (append_assoc p.2 p.3 a))

ended_more : (ls : List (List ℕ)) (l : List ℕ) → ended (ls ++ l ∷ []) ≡ ended ls ++ (l ++ 10 ∷ [])
ended_more [] l = refl
ended_more (k ∷ ks) l = rw (ended_more ks l) (sym (append_assoc k (10 ∷ ended ks) (l ++ 10 ∷ [])))

lines_more : (ls : List (List ℕ)) (l : List ℕ) → AllByRecursion IsOneLine ls → IsOneLine l → AllByRecursion IsOneLine (ls ++ l ∷ [])
lines_more [] l p q = (q, tt)
lines_more (k ∷ ks) l p q = (p.0, lines_more ks l p.1 q)

one_line : (a b : List ℕ) → IsOneLine a → IsOneLine b → IsOneLine (a ++ b)
one_line a b p q = list_any-append ends_line a b ∙ rw (p, q) refl

counted : (n m k : ℕ) → n ≡ min (1 + k) (2 ^ 64 - 1) → m ≡ min (n + 1) (2 ^ 64 - 1) → m ≡ min (1 + (k + 1)) (2 ^ 64 - 1)
counted n m k e f = omega (arith, e, f)

ok_is : (s t : Stage) → ◌≡◌ {A = Result Stage Halt} (Ok s) (Ok t) → s ≡ t
ok_is s t e = ap of e
  where
    of : Result Stage Halt → Stage
    of (Ok x) = x
    of (Err h) = s

-- what is printed next waits after what waited
pub waits_more : (out x a text x' : List ℕ) → text ≡ out ++ x → x' ≡ x ++ a → text ++ a ≡ out ++ x'
waits_more out x a text x' e f = rw (e, f) (append_assoc out x a)

-- the prefix of a buffer that was read into
pub filled : (n : ℕ) (xs ys t : List ℕ) → t ≡ take n (xs ++ ys) → length xs ≡ n → t ≡ xs
filled n xs ys t e f = e ∙ ap (λ k. take k (xs ++ ys)) (sym f) ∙ take-append_seam xs ys

pub step_on : (a b c : List ℕ) → a ++ (b ++ 10 ∷ c) ≡ (a ++ (b ++ 10 ∷ [])) ++ c
step_on a b c = sym (append_assoc a (b ++ 10 ∷ []) c ∙ ap (λ t. a ++ t) (append_assoc b (10 ∷ []) c))

module _ (W : Type 0) (took : W → List ℕ → W → Type 0) (failures : W → ℕ) where
  pub line_played : (input : List ℕ) (first : W) (s s' : Stage) (x x' : Rehearsal) (w : W) (end : List ℕ) → IsSoFar (output took failures first w) input s x → IsOneLine end
      → IsLinePlayed s (x.pending.items ++ end) x x' s' → IsSoFar (output took failures first w) (input ++ (end ++ 10 ∷ [])) s' x'
  line_played input first s s' x x' w end h one (text, p, q, e) =
      let line = x.pending.items ++ end in
      record {
        lines = h.lines ++ line ∷ [];
        text = h.text ++ text;
        out = h.out;
        are_lines = lines_more h.lines line h.are_lines (one_line x.pending.items end h.is_prefix one);
        is_prefix = rw e.0 refl;
        is = rw (e.0, h.is, ended_more h.lines line) (split (ended h.lines) x.pending.items end);
        played = more NoClusterYet 0 h.lines h.text s x.transcript.status line text s' x'.transcript.status h.played p;
        printed = waits_more h.out x.waiting.items text h.text x'.waiting.items h.printed q;
        written = h.written;
        number = rw (length-append h.lines (line ∷ [])) (counted x.line x'.line (length h.lines) h.number e.1);
      }
    where
      split : (a b c : List ℕ) → (a ++ b) ++ (c ++ 10 ∷ []) ≡ (a ++ ((b ++ c) ++ 10 ∷ [])) ++ []
      split a b c = append_assoc a b (c ++ 10 ∷ []) ∙ ap (λ t. a ++ t) (sym (append_assoc b c (10 ∷ []))) ∙ sym (append-nil (a ++ ((b ++ c) ++ 10 ∷ [])))

  -- with the last line, if there is one: what all lines print went out or waits
  pub last_played : (input : List ℕ) (first : W) (s s1 : Stage) (x x1 : Rehearsal) (w : W) (h : IsSoFar (output took failures first w) input s x) → IsLastPlayed s x.pending.items x x1 s1
      → (text : List ℕ) × PlaysLines NoClusterYet 0 (with_last h.lines x.pending.items) text s1 x1.transcript.status × (text ≡ h.out ++ x1.waiting.items)
  last_played input first s s1 x x1 w h p = by x.pending.items p
    where
      by : (last : List ℕ) → IsLastPlayed s last x x1 s1 → (text : List ℕ) × PlaysLines NoClusterYet 0 (with_last h.lines last) text s1 x1.transcript.status × (text ≡ h.out ++ x1.waiting.items)
      by [] (e, f) = (h.text, rw (e, f) h.played, rw f h.printed)
      by (b ∷ l) (text, p, q, e) =
          (h.text ++ text, more NoClusterYet 0 h.lines h.text s x.transcript.status (b ∷ l) text s1 x1.transcript.status h.played p, waits_more h.out x.waiting.items text h.text x1.waiting.items h.printed q)

  module _ (then : (x y z : W) (a b : List ℕ) → took x a y → took y b z → took x (a ++ b) z) where
    -- what was printed is written, and the prefix of a line is kept
    pub prefix_kept : (input : List ℕ) (first : W) (s : Stage) (x x' : Rehearsal) (w w' : W) (prefix : List ℕ) → IsSoFar (output took failures first w) input s x → IsOneLine prefix → Flushes (output took failures w w') (record { before = x; after = x' })
        → x'.pending.items ≡ x.pending.items ++ prefix → IsSoFar (output took failures first w') (input ++ prefix) s x'
    prefix_kept input first s x x' w w' prefix h one f e = record {
      lines = h.lines;
      text = h.text;
      out = h.out ++ x.waiting.items;
      are_lines = h.are_lines;
      is_prefix = rw e (one_line x.pending.items prefix h.is_prefix one);
      is = rw (e, h.is) (append_assoc (ended h.lines) x.pending.items prefix);
      played = rw f.2 h.played;
      printed = rw (f.1, h.printed) (sym (append-nil (h.out ++ x.waiting.items)));
      written = then first w w' h.out x.waiting.items h.written f.0;
      number = rw f.3 h.number;
    }

    -- the same, as the step in prefix of it left the stage
    pub kept_beside : (input : List ℕ) (first : W) (s : Stage) (x x' : Rehearsal) (w w' : W) (prefix : List ℕ) (done : Result (Unit {0}) Halt) (r : Result Stage Halt) → IsSoFar (output took failures first w) input s x → IsOneLine prefix
        → OnOk done (Flushes (output took failures w w') (record { before = x; after = x' })) → OnOk done (x'.pending.items ≡ x.pending.items ++ prefix) → MatchResult done (λ _. r ≡ Ok s) (λ h. r ≡ Err h) → IfOk r (λ s'. IsSoFar (output took failures first w') (input ++ prefix) s' x')
    kept_beside input first s x x' w w' prefix (Ok u) r h one f e b = rw b (prefix_kept input first s x x' w w' prefix h one f e)
    kept_beside input first s x x' w w' prefix (Err g) r h one f e b = rw b tt

    -- the same, where nothing is kept
    pub written_beside : (input : List ℕ) (first : W) (s : Stage) (x x' : Rehearsal) (w w' : W) (done : Result (Unit {0}) Halt) (r : Result Stage Halt) → IsSoFar (output took failures first w) input s x
        → OnOk done (Flushes (output took failures w w') (record { before = x; after = x' })) → x'.pending.items ≡ x.pending.items → MatchResult done (λ _. r ≡ Ok s) (λ h. r ≡ Err h) → IfOk r (λ s'. IsSoFar (output took failures first w') input s' x')
    written_beside input first s x x' w w' (Ok u) r h f e b = rw b (rw (append-nil input) at (prefix_kept input first s x x' w w' [] h refl f (e ∙ sym (append-nil x.pending.items))))
    written_beside input first s x x' w w' (Err g) r h f e b = rw b tt

    -- the last line is played, the end is reported, and all is written
    pub wholly : (input : List ℕ) (first : W) (s s1 : Stage) (x x1 x2 x3 : Rehearsal) (w w' : W) (done : Result (Unit {0}) Halt) → IsSoFar (output took failures first w) input s x → IsLastPlayed s x.pending.items x x1 s1
        → IsEnded s1 x1 x2 → OnOk done (Flushes (output took failures w w') (record { before = x2; after = x3 })) → OnOk done (IsWhole (output took failures first w') input x3.transcript.status)
    wholly input first s s1 x x1 x2 x3 w w' (Err g) h p q f = tt
    wholly input first s s1 x x1 x2 x3 w w' (Ok u) h p q f =
        let a = last_played input first s s1 x x1 w h p in
        record {
          lines = h.lines;
          last = x.pending.items;
          text = a.0;
          end_text = q.0;
          stage = s1;
          before = x1.transcript.status;
          are_lines = h.are_lines;
          is_last = h.is_prefix;
          is = h.is;
          played = a.1;
          finished = rw f.2 q.1;
          written = subst (λ t. took first t w') (sym (waits_more h.out x1.waiting.items q.0 a.0 x2.waiting.items a.2 q.2)) (then first w w' h.out x2.waiting.items h.written f.0);
        }

  pub started : (x : Rehearsal) (w : W) → IsFresh x → took w [] w → IsSoFar (output took failures w w) [] NoClusterYet x
  started x w f none = record {
    lines = [];
    text = [];
    out = [];
    are_lines = tt;
    is_prefix = rw f.2 refl;
    is = sym f.2;
    played = (refl, refl, f.1);
    printed = sym f.0;
    written = none;
    number = rw f.3 refl;
  }

module _ {R W : Type 0} (reader : Input R) (writer : Output W) where
  pub rehearsed : (status n : ℕ) (input : List ℕ) (done : Result (Unit {0}) Halt) → reader.gave reader.before n input reader.after
      → reader.ends reader.after ≢ reader.ends reader.before
      → OnOk done (IsWhole writer input status) → OnOk done (IsRehearsed reader writer status)
  rehearsed status n input (Err g) given at_end h = tt
  rehearsed status n input (Ok u) given at_end h = (n, input, given, at_end, h)
