-- The verdict by a node's table and by what it holds.
use Rattle.std.proofs.Common.{◌≡◌, ℕ, Bool, true, false, cond, not, ◌&&◌, ◌==◌, List, [], ◌∷◌, map, refl, sym, ap, ◌∙◌, Option, Some, None, is_some}
use Rattle.std.proofs.lemmas.Bool.{true≢false, or_parts}
use Rattle.std.specs.List.{list_any, list_all}
use Rattle.std.specs.FinMap.{get}
use Rattle.std.specs.Prelude.{slice_index}
use Rattle.store_commands.specs.Store.{Key, Store}
use Rattle.slot_marks.specs.Tables.{Table}
use Rattle.slot_marks.specs.Verdicts.{judged_by, judged, first_row, first_slot, is_cross, is_pair}
use Rattle.slot_marks.specs.declared.verdict.Verdict.TheVariants.{Serve, Moved, Ask, TryAgain, CrossSlot}
use Rattle.cluster_node.specs.Nodes.{is_present, node_verdict, is_marked}
use Rattle.cluster_node.specs.NodeView.{NodeView}

-- a node of the program, from its parts
abbrev pub seen : Table → Store → ℕ → NodeView
seen t held port = record { me = t.me; nodes = t.nodes; base_port = port; node = record { held = held; owners = t.owners; migrating = t.migrating; importing = t.importing } }

judged-seen : (t : Table) (held : Store) (port : ℕ) (asking : Bool) (ks : List Key) (present : List Bool)
    → present ≡ map (is_present (seen t held port).node) ks → judged_by t asking ks present ≡ node_verdict t.me (seen t held port).node asking ks
unfolding judged_by node_verdict
judged-seen t held port asking ks present is = ap (judged_by t asking ks) is

unmarked_rows : (x b : Bool) (o : ℕ) (asking p q r s : Bool)
    → first_row ((x, CrossSlot) ∷ (b && false && p && q, TryAgain) ∷ (b && false && r, Ask 0) ∷ (false && asking && s && p, TryAgain) ∷ (false && asking, Serve) ∷ (b, Serve) ∷ []) (Moved o)
    ≡ cond x CrossSlot (cond b Serve (Moved o))
unmarked_rows x true o asking p q r s = refl
unmarked_rows x false o asking p q r s = refl

-- without marks it does not matter which keys are there
unmarked_same : (me o : ℕ) (asking : Bool) (ks : List Key) (p q : List Bool) → judged me o None None asking ks p ≡ judged me o None None asking ks q
unmarked_same me o asking ks p q =
    unmarked_rows (is_cross ks) (o == me) o asking (list_any not p) (list_any (λ b. b) p) (list_all not p) (is_pair ks)
    ∙ sym (unmarked_rows (is_cross ks) (o == me) o asking (list_any not q) (list_any (λ b. b) q) (list_all not q) (is_pair ks))

is_none : {A : Type 0} (o : Option A) → is_some o ≡ false → o ≡ None
is_none None e = refl
is_none (Some x) e = absurd (true≢false e)

judged-unmarked : (t : Table) (held : Store) (port : ℕ) (asking : Bool) (ks : List Key) (present : List Bool)
    → get t.migrating (first_slot ks) ≡ None → get t.importing (first_slot ks) ≡ None → judged_by t asking ks present ≡ node_verdict t.me (seen t held port).node asking ks
unfolding judged_by node_verdict
judged-unmarked t held port asking ks present goes comes =
    (λ i. judged t.me o (goes i) (comes i) asking ks present)
    ∙ unmarked_same t.me o asking ks present all
    ∙ sym (λ i. judged t.me o (goes i) (comes i) asking ks all)
  where
    o : ℕ
    o = slice_index t.owners (first_slot ks)

    all : List Bool
    all = map (is_present (seen t held port).node) ks

-- each key was looked up
pub judged-present : (t : Table) (held : Store) (port : ℕ) (x : NodeView) (asking : Bool) (ks : List Key) (present : List Bool)
    → seen t held port ≡ x → present ≡ map (is_present x.node) ks → judged_by t asking ks present ≡ node_verdict x.me x.node asking ks
judged-present t held port x asking ks present e is =
    judged-seen t held port asking ks present (is ∙ ap (λ (y : NodeView). map (is_present y.node) ks) (sym e))
    ∙ ap (λ (y : NodeView). node_verdict y.me y.node asking ks) e

-- where the slot has no mark, the keys need not be looked up
pub judged-markless : (t : Table) (held : Store) (port : ℕ) (x : NodeView) (asking : Bool) (ks : List Key) (present : List Bool)
    → seen t held port ≡ x → is_marked x.node (first_slot ks) ≡ false → judged_by t asking ks present ≡ node_verdict x.me x.node asking ks
judged-markless t held port x asking ks present e markless =
    let none : is_marked (seen t held port).node (first_slot ks) ≡ false = ap (λ (y : NodeView). is_marked y.node (first_slot ks)) e ∙ markless in
    let parts = or_parts (is_some (get t.migrating (first_slot ks))) (is_some (get t.importing (first_slot ks))) none in
    judged-unmarked t held port asking ks present (is_none _ parts.0) (is_none _ parts.1)
    ∙ ap (λ (y : NodeView). node_verdict y.me y.node asking ks) e
