-- That no member of what is printed is a float, whose text would be unknown.
use Rattle.std.proofs.Common.{◌≡◌, ℕ, Bool, true, false, cond, ◌||◌, List, [], ◌∷◌, ◌++◌, map, Option, None, Some}
use Rattle.std.proofs.Common.{Ordering, Less, Equal, Greater, nat_cmp, refl, rules}
use Rattle.std.proofs.lemmas.Bool.{or_parts}
use Rattle.std.specs.Cmp.Lexicographic.{slice_cmp}
use Rattle.std.specs.List.{flat_map}
use Rattle.std.specs.Ordering.{match_ordering}
use Rattle.plan_outlines.specs.declared.counts.CommandCounts.{CommandCounts}
use Rattle.plan_outlines.specs.declared.counts.KeyLoad.{KeyLoad}
use Rattle.plan_outlines.specs.declared.nodes.NodeChange.{NodeChange}
use Rattle.plan_outlines.specs.declared.nodes.NodeServer.{NodeServer}
use Rattle.plan_outlines.specs.declared.outline.PlanOutline.{PlanOutline}
use Rattle.plan_outlines.specs.declared.pairs.PairChange.{PairChange}
use Rattle.plan_outlines.specs.declared.ranges.RangeChange.{RangeChange}
use Rattle.plan_outlines.specs.declared.ranges.SlotRun.{SlotRun}
use Rattle.serde_json.specs.Data.{Data, Members, member, no_members, put}
use Rattle.serde_json.specs.View.{items_of}
use Rattle.serde_json.specs.Written.{has_float, items_have_float, members_have_float}
use Rattle.plan_json.specs.Values.{figure, move_data, move_items, moves, node_change_data, pair_data, run_data}
use Rattle.plan_json.specs.Values.{server_of, with_address, with_change, with_commands, with_counts, with_figures}
use Rattle.plan_json.specs.Values.{with_known, with_load, with_move, with_moves, with_node, with_outline, with_pair}
use Rattle.plan_json.specs.Values.{with_refusal, with_run, with_runs, with_server, with_stop, with_verdict}

either : (b c : Bool) → b ≡ false → c ≡ false → (b || c) ≡ false
either b c f g = rw (f, g) refl

ordered : (o : Ordering) (a b c : Members) → members_have_float a ≡ false → members_have_float b ≡ false
    → members_have_float c ≡ false → members_have_float (match_ordering o a b c) ≡ false
ordered Less a b c f g h = f
ordered Equal a b c f g h = g
ordered Greater a b c f g h = h

-- one member more
pub put_more : (k : List ℕ) (d : Data) (ms : Members) → has_float d ≡ false → members_have_float ms ≡ false
    → members_have_float (put k d ms) ≡ false
put_more k d no_members f g = either _ _ f refl
put_more k d (member l e ms) f g =
    let parts = or_parts (has_float e) (members_have_float ms) g in
    ordered (slice_cmp nat_cmp k l) (member k d (member l e ms)) (member l d ms) (member l e (put k d ms))
    (either _ _ f g) (either _ _ f parts.1) (either _ _ parts.0 (put_more k d ms f parts.1))

mapped : {X : Type 0} (f : X → Data) → ((x : X) → has_float (f x) ≡ false) → (xs : List X)
    → items_have_float (items_of (map f xs)) ≡ false
mapped f none [] = refl
mapped f none (x ∷ xs) = either _ _ (none x) (mapped f none xs)

of_figure : (o : Option ℕ) → has_float (figure o) ≡ false
of_figure None = refl
of_figure (Some n) = refl

of_known : (has : Bool) (k : ℕ) (ms : Members) → members_have_float ms ≡ false
    → members_have_float (with_known has k ms) ≡ false
of_known true k ms h = put_more _ _ ms refl h
of_known false k ms h = h

of_pair : (has : Bool) (p : PairChange) → has_float (pair_data has p) ≡ false
unfolding with_pair
of_pair has p = search (rules, of_known)

of_change : (c : NodeChange) (ms : Members) → members_have_float ms ≡ false
    → members_have_float (with_change c ms) ≡ false
unfolding with_change
of_change c ms h = search (rules, put_more)

of_server : (o : Option NodeServer) (ms : Members) → members_have_float ms ≡ false
    → members_have_float (with_server o ms) ≡ false
unfolding with_figures with_address
of_server None ms h = h
of_server (Some s) ms h = search (rules, of_figure, put_more)

of_node : (ss : List NodeServer) (c : NodeChange) → has_float (node_change_data ss c) ≡ false
unfolding with_node
of_node ss c = of_server (server_of ss c.node) (with_change c no_members) (of_change c no_members refl)

of_run : (r : SlotRun) → has_float (run_data r) ≡ false
unfolding with_run
of_run r = search rules

of_move : (r : RangeChange) → has_float (move_data r) ≡ false
unfolding with_move
of_move r = search rules

one_move : (b : Bool) (r : RangeChange) (ds : List Data) → items_have_float (items_of ds) ≡ false
    → items_have_float (items_of (cond b (move_data r ∷ []) [] ++ ds)) ≡ false
one_move true r ds h = either _ _ (of_move r) h
one_move false r ds h = h

of_moves : (rs : List RangeChange) → items_have_float (items_of (flat_map move_items rs)) ≡ false
of_moves [] = refl
of_moves (r ∷ rs) = one_move (moves r) r (flat_map move_items rs) (of_moves rs)

of_counts : (c : CommandCounts) → members_have_float (with_counts c no_members) ≡ false
unfolding with_counts
of_counts c = search rules

with_lists : (o : PlanOutline) (ss : List NodeServer) (ms : Members) → members_have_float ms ≡ false
    → members_have_float (with_moves o ss ms) ≡ false
unfolding with_moves
with_lists o ss ms h = search (rules, of_moves, mapped, of_node, of_pair, put_more)

with_numbers : (o : PlanOutline) (ms : Members) → members_have_float ms ≡ false
    → members_have_float (with_commands o ms) ≡ false
unfolding with_commands
with_numbers o ms h = search (rules, of_counts, put_more)

with_loads : (load : Option KeyLoad) (ms : Members) → members_have_float ms ≡ false
    → members_have_float (with_load load ms) ≡ false
unfolding with_load
with_loads load ms h = search (rules, of_figure, put_more)

with_all_runs : (o : PlanOutline) (ms : Members) → members_have_float ms ≡ false
    → members_have_float (with_runs o ms) ≡ false
unfolding with_runs
with_all_runs o ms h = search (rules, mapped, of_run, put_more)

with_end : (n : ℕ) (resume : List ℕ) (ms : Members) → members_have_float ms ≡ false
    → members_have_float (with_stop n resume ms) ≡ false
unfolding with_stop
with_end n resume ms h = search (rules, put_more)

with_begin : (n : ℕ) → members_have_float (with_verdict n no_members) ≡ false
unfolding with_verdict
with_begin n = search rules

pub of_outline : (o : PlanOutline) (ss : List NodeServer) (n : ℕ) (resume : List ℕ)
    → members_have_float (with_outline o ss n resume no_members) ≡ false
unfolding with_outline
of_outline o ss n resume = search (rules, with_end, with_all_runs, with_loads, with_numbers, with_lists, with_begin)

pub of_refusal : (reason : List ℕ) → members_have_float (with_refusal reason no_members) ≡ false
unfolding with_refusal
of_refusal reason = search rules
