-- Lines of stranded keys: what they are by the counts of some state, they are by what is seen of that state.
use Rattle.std.proofs.Common.{Bool, true, false, ◌≡◌, ◌⊎◌, ◌∙◌, ℕ, zero, suc, List, [], ◌++◌, inl, inr, length, sym, ap, subst}
use Rattle.std.specs.Prelude.{⊤, ◌↔◌}
use Rattle.byte_streams.specs.Streams.{Output}
use Rattle.cluster_views.specs.Surveying.{IsSurveyed, Views}
use Rattle.cluster_admin.specs.Surveys.{Survey}
use Rattle.slot_key_counts.specs.Rounds.{Told}
use Rattle.slot_key_counts.specs.Tables.{told_in}
use Rattle.server_commands.specs.declared.book.Server.{Server}
use Rattle.server_phases.specs.ServerPhases.{ServerPhases, ShowsPhases}
use Rattle.server_phases.specs.Stranded.{ArePut, AreStranded, IsNodeText, IsStrandedText}
use Rattle.server_phases.specs.declared.server_phase.ServerPhase.{ServerPhase}
use Rattle.server_phases.specs.declared.server_phase.ServerPhase.TheVariants as shown
use Rattle.transcripts.specs.declared.transcript.Transcript.{Transcript}
use Rattle.cluster_inspection.specs.Answers.{IsNotWritten, IsWritten, Tells}
use Rattle.cluster_inspection.specs.Looking.{LooksIfClean}
use Rattle.cluster_inspection.specs.Stranded.{HasStrandedLines, SaysSomeStranded, SaysStranded, Telling}
use Rattle.cluster_inspection.specs.declared.table_counts.TableCounts as table_counts

module _ {C D : Type 0} (view : C → D) where
  put_viewed : (each : ℕ → C → List ℕ → C → Type 0) (each' : ℕ → D → List ℕ → D → Type 0)
      → ((n : ℕ) (c : C) (t : List ℕ) (c' : C) → each n c t c' → each' n (view c) t (view c'))
      → (k : ℕ) (c : C) (t : List ℕ) (c' : C) → ArePut each k c t c' → ArePut each' k (view c) t (view c')
  unfolding ArePut
  put_viewed each each' f zero c t c' x = (x.0, ap view x.1)
  put_viewed each each' f (suc k) c t c' x =
      (x.0, view x.1, x.2, put_viewed each each' f k c x.0 x.1 x.3, f k x.1 x.2 c' x.4, x.5)

  module _ (counts : C → (node slot keys : ℕ) → C → Type 0) (told : D → (node slot keys : ℕ) → D → Type 0)
      (seen : (c : C) (n s k : ℕ) (c' : C) → counts c n s k c' → told (view c) n s k (view c')) where
    node : (s o n : ℕ) (c : C) (t : List ℕ) (c' : C) → IsNodeText counts s o n c t c'
        → IsNodeText told s o n (view c) t (view c')
    node s o n c t c' (inl own) = inl (own.0, own.1, ap view own.2)
    node s o n c t c' (inr x) =
        inr (x.0, record { keys = x.1.keys; counted = seen c n s x.1.keys c' x.1.counted; whole = x.1.whole })

    slot : (n s : ℕ) (p : ServerPhase) (c : C) (t : List ℕ) (c' : C) → IsStrandedText counts n s p c t c'
        → IsStrandedText told n s p (view c) t (view c')
    slot n s (shown.Closed o) c t c' x = put_viewed (IsNodeText counts s o) (IsNodeText told s o) (node s o) n c t c' x
    slot n s (shown.Importing a b) c t c' x = (x.0, ap view x.1)
    slot n s (shown.Migrating a b) c t c' x = (x.0, ap view x.1)
    slot n s (shown.Told a b) c t c' x = (x.0, ap view x.1)
    slot n s (shown.Strange k) c t c' x = (x.0, ap view x.1)

    viewed : (n : ℕ) (phases : ServerPhases) (k : ℕ) (c : C) (t : List ℕ) (c' : C)
        → AreStranded counts n phases k c t c'
        → AreStranded told n phases k (view c) t (view c')
    viewed n phases k c t c' x =
        put_viewed (λ s. IsStrandedText counts n s (phases s)) (λ s. IsStrandedText told n s (phases s))
        (λ s. slot n s (phases s)) k c t c' x

    -- what was put after nothing are such lines
    pub stranded_put : (v : Survey) (before out : List ℕ) (c c' : C) → before ≡ []
        → ((phases : ServerPhases) → ShowsPhases v phases
        → (t : List ℕ) × AreStranded counts (length v.rows) phases 16384 c t c' × (out ≡ before ++ t))
        → (d : D) × ((phases : ServerPhases) → ShowsPhases v phases
        → AreStranded told (length v.rows) phases 16384 (view c) out d)
    stranded_put v before out c c' none put = (
      view c',
      λ phases shows. let h = put phases shows in
          subst (λ t. AreStranded told (length v.rows) phases 16384 (view c) t (view c'))
          (sym (h.2 ∙ ap (λ x. x ++ h.0) none)) (viewed (length v.rows) phases 16384 c h.0 c' h.1),
    )

    module _ (begins : Survey → C → Type 0) (begins' : Survey → D → Type 0) (begun : (v : Survey) (c : C) → begins v c → begins' v (view c)) where
      seen_lines : (v : Survey) (lines : List ℕ) → HasStrandedLines (record { begins = begins; counts = counts }) v lines
          → HasStrandedLines (record { begins = begins'; counts = told }) v lines
      seen_lines v lines x = (
        view x.0,
        view x.1,
        begun v x.0 x.2,
        λ phases shows. viewed (length v.rows) phases 16384 x.0 lines x.1 (x.3 phases shows),
      )

      seen_said : (status : ℕ) (text : List ℕ) → SaysStranded (record { begins = begins; counts = counts }) status text
          → SaysStranded (record { begins = begins'; counts = told }) status text
      seen_said status text (inl none) = inl none
      seen_said status text (inr x) = inr (x.0, x.1, x.2, x.3, x.4, seen_lines x.2 text x.5, x.6)

-- what the nodes told is what is read of the table
abbrev pub told_of : table_counts.TableCounts → Told
told_of c = told_in c.table

-- such lines are said
pub stranded_said : {C : Type 0} (telling : Telling C) (t : Transcript) (b : List Server)
    (views : Views) (v : Survey) (lines : List ℕ) → length views ≡ length b → IsSurveyed b views v
    → HasStrandedLines telling v lines → t.printed.items ≡ lines → (t.status ≡ 0) ↔ (lines ≡ [])
    → SaysStranded telling t.status t.printed.items
stranded_said telling t b views v lines count surveyed has text none =
    inr (
      b,
      views,
      v,
      count,
      surveyed,
      subst (λ x. HasStrandedLines telling v x) (sym text) has,
      subst (λ x. (t.status ≡ 0) ↔ (x ≡ [])) (sym text) none,
    )

-- what is said by some counts is said by any
pub some_stranded : {C : Type 0} (telling : Telling C) (status : ℕ) (text : List ℕ)
    → SaysStranded telling status text → SaysSomeStranded status text
some_stranded {C} telling = seen_said {C = C} {D = ⊤} (λ c. tt) telling.counts (λ c n s keys d. ⊤) (λ c n s k d h. tt)
    telling.begins (λ v c. ⊤) (λ v c h. tt)

-- and so is what is told
pub tells_as : {W : Type 0} (says says' : (status : ℕ) → (text : List ℕ) → Type 0) (o : Output W) (status : ℕ)
    → ((status : ℕ) (text : List ℕ) → says status text → says' status text)
    → Tells says o status → Tells says' o status
tells_as says says' o status f x = record {
  few = x.few;
  well = λ zero. let w = x.well zero in (whole 0 w.0, w.1);
  badly = λ one. either (x.badly one);
}
  where
    whole : (n : ℕ) → IsWritten says o n → IsWritten says' o n
    whole n w = (w.0, f n w.0 w.1, w.2)

    cut : IsNotWritten says o → IsNotWritten says' o
    cut (inl w) = inl (w.0, w.1, f w.1 w.0 w.2, w.3, w.4)
    cut (inr none) = inr none

    either : IsWritten says o 1 ⊎ IsNotWritten says o → IsWritten says' o 1 ⊎ IsNotWritten says' o
    either (inl w) = inl (whole 1 w)
    either (inr w) = inr (cut w)

-- and what is looked for after a survey
pub looks_as : {W : Type 0} (says says' : (status : ℕ) → (text : List ℕ) → Type 0) (asked : Bool) (before : ℕ)
    (o : Output W) (status : ℕ) → ((status : ℕ) (text : List ℕ) → says status text → says' status text)
    → LooksIfClean says asked before o status → LooksIfClean says' asked before o status
looks_as says says' true before o status f (inl x) = inl (x.0, tells_as says says' o status f x.1)
looks_as says says' true before o status f (inr x) = inr x
looks_as says says' false before o status f x = x
