-- From a trail with no event in flight to the next: an event begins, each seat takes it, and it ends.
use Rattle.std.proofs.Common.{◌≡◌, ◌≢◌, ℕ, zero, suc, ◌+◌, ◌-◌, ◌<◌, ◌≤◌, List, [], ◌∷◌, ◌++◌, map, length, set, Bool, true, false, refl, sym, ap, ◌∙◌, subst, arith}
use Rattle.std.specs.Prelude.{nat_lt, slice_index_or}
use Rattle.std.proofs.lemmas.Bool.Decides.{nat_tests}
use Rattle.std.proofs.lemmas.List.{get_or-set_same, get_or-set_other}
use Rattle.std.proofs.Math.ListN.{length-set}
use mathlib.Core.Option.{some, some-injective}
use lib.ListN.{get_elem?}
use Rattle.cluster_node.specs.Nodes.{Node, blank}
use Rattle.cluster_world.specs.Worlds.{World, node_at, change_node}
use Rattle.cluster_world.specs.Steps.{after, Answers}
use Rattle.cluster_world.specs.declared.event.Event.{Event}
use Rattle.cluster_world.proofs.Viewing.{node_same, node_other, length_kept}
use Rattle.shared_trail.specs.declared.view.Part.{Part}
use Rattle.shared_trail.specs.declared.view.Part.TheVariants.{Calls, State}
use Rattle.shared_trail.specs.declared.view.Ledger.{Ledger}
use Rattle.cluster_world.specs.Earning.{world_after}
use Rattle.shared_trail.specs.Trails.{caller, IsNamed, IsTrail, calls_of, callers_from}
use Rattle.shared_trail.specs.Local.{IsOf, IsLocal, IsShared}
use Rattle.shared_trail.specs.Rule.{with_flight, with_event, with_part, quiet_ledger, part_after, IsSound}
use Rattle.shared_trail.proofs.Runs.{at_right, callers_length, callers_at, at_left, callers_take, commits, at_states, states_set, kept_by, caller_low}

-- an event is in flight, and the nodes' seats know the states v
pub record InFlight (w : World) (es : List Event) (made : ℕ) (gone : List ℕ) (v : List Node) (b : Ledger) : Type 0 where
  pub events : b.events ≡ es
  pub world : b.world ≡ world_after w es
  pub count : b.made ≡ made
  pub left : b.gone ≡ gone
  pub parts : b.parts ≡ callers_from 0 33 es ++ map State v

pub starts : (w : World) (es : List Event) (made : ℕ) (gone : List ℕ) (e : Event) (b c : Ledger) → b ≡ quiet_ledger w es made gone → c ≡ with_flight e b → InFlight w es made gone (world_after w es).nodes c
starts w es made gone e b c is is' = let all = is' ∙ ap (with_flight e) is in record {
  events = ap (λ (x : Ledger). x.events) all;
  world = ap (λ (x : Ledger). x.world) all;
  count = ap (λ (x : Ledger). x.made) all;
  left = ap (λ (x : Ledger). x.gone) all;
  parts = ap (λ (x : Ledger). x.parts) all;
}

-- the node n takes it
pub record NodeTook (w : World) (es : List Event) (made : ℕ) (gone : List ℕ) (v : List Node) (e : Event) (c : Ledger) (n : ℕ) (x : Node) (k : ℕ × Part) : Type 0 where
  pub was : slice_index_or v n blank ≡ x
  pub there : n < length v
  pub new : k ≡ (33 + n, State (node_at (after (world_after w es) e) n))
  pub flies : InFlight w es made gone (set v n (node_at (after (world_after w es) e) n)) c

pub node_takes : (w : World) (es : List Event) (made : ℕ) (gone : List ℕ) (v : List Node) (e : Event) (b c : Ledger) (n : ℕ) (x : Node) (h k : ℕ × Part)
    → InFlight w es made gone v b → h ≡ (33 + n, State x) → get_elem? b.parts h.0 ≡ some h.1 → k ≡ (h.0, part_after e b.world h.0 h.1) → c ≡ with_part k.0 k.1 b
    → NodeTook w es made gone v e c n x k
node_takes w es made gone v e b c n x h k flies is there took wrote =
    let y = node_at (after (world_after w es) e) n in
    let long : 33 + n ≡ length (callers_from 0 33 es) + n = ap (λ m. m + n) (sym (callers_length 0 33 es)) in
    let found : get_elem? (map State v) n ≡ some (State x) =
    sym (at_right (callers_from 0 33 es) (map State v) (33 + n) n long) ∙ (λ i. get_elem? (sym flies.parts i) (sym is i).0) ∙ there ∙ ap (λ (z : ℕ × Part). some z.1) is in
    let was = at_states v n x found in
    let less : 33 + n - 33 ≡ n = omega arith in
    let new : k ≡ (33 + n, State y) = took ∙ (λ i. ((is i).0, part_after e (flies.world i) (is i).0 (is i).1)) ∙ (λ i. (33 + n, State (node_at (after (world_after w es) e) (less i)))) in
    let all : c ≡ with_part (33 + n) (State y) b = wrote ∙ (λ i. with_part (new i).0 (new i).1 b) in
    record {
      was = was.0;
      there = was.1;
      new = new;
      flies = record {
        events = ap (λ (z : Ledger). z.events) all ∙ flies.events;
        world = ap (λ (z : Ledger). z.world) all ∙ flies.world;
        count = ap (λ (z : Ledger). z.made) all ∙ flies.count;
        left = ap (λ (z : Ledger). z.gone) all ∙ flies.left;
        parts = ap (λ (z : Ledger). z.parts) all ∙ ap (λ l. set l (33 + n) (State y)) flies.parts ∙ states_set es v n y;
      };
    }

-- the caller takes it last, and it can end
pub caller_takes : (w : World) (es : List Event) (made : ℕ) (gone : List ℕ) (v : List Node) (e : Event) (b c : Ledger) (l : List Event) (h k : ℕ × Part)
    → IsTrail w es → InFlight w es made gone v b → v ≡ (after (world_after w es) e).nodes → h ≡ (caller e, Calls l) → get_elem? b.parts h.0 ≡ some h.1 → k ≡ (h.0, part_after e b.world h.0 h.1) → c ≡ with_part k.0 k.1 b
    → Answers (world_after w es) e → IsNamed e
    → IsSound w (with_event e c) × (with_event e c ≡ quiet_ledger w (es ++ e ∷ []) made gone) × (k ≡ (caller e, Calls (l ++ e ∷ [])))
caller_takes w es made gone v e b c l h k run flies whole is there took wrote reply low =
    let new : k ≡ (caller e, Calls (l ++ e ∷ [])) = took ∙ (λ i. ((is i).0, part_after e b.world (is i).0 (is i).1)) in
    let all : c ≡ with_part (caller e) (Calls (l ++ e ∷ [])) b = wrote ∙ (λ i. with_part (new i).0 (new i).1 b) in
    let there' : get_elem? b.parts (caller e) ≡ some (Calls l) = (λ i. get_elem? b.parts (sym is i).0) ∙ there ∙ ap (λ (z : ℕ × Part). some z.1) is in
    let parts = callers_take w es e (caller e) l b.parts (flies.parts ∙ ap (λ x. callers_from 0 33 es ++ map State x) whole) (caller_low e low) refl there' in
    let last = commits w es e made gone c run
    (ap (λ (z : Ledger). z.events) all ∙ flies.events)
    (ap (λ (z : Ledger). z.world) all ∙ flies.world)
    (ap (λ (z : Ledger). z.made) all ∙ flies.count)
    (ap (λ (z : Ledger). z.gone) all ∙ flies.left)
    (ap (λ (z : Ledger). z.parts) all ∙ parts.1)
    reply low in
    (last.0, last.1, new)

-- what an event that its seats have taken leaves
pub record Recorded (w : World) (es : List Event) (made : ℕ) (gone : List ℕ) (e : Event) (l : List Event) (b : Ledger) (k : ℕ × Part) : Type 0 where
  pub sound : IsSound w (with_event e b)
  pub ledger : with_event e b ≡ quiet_ledger w (es ++ e ∷ []) made gone
  pub list : k ≡ (caller e, Calls (l ++ e ∷ []))
  pub run : IsTrail w (es ++ e ∷ [])

recorded : (w : World) (es : List Event) (made : ℕ) (gone : List ℕ) (e : Event) (l : List Event) (b : Ledger) (k : ℕ × Part)
    → IsSound w (with_event e b) × (with_event e b ≡ quiet_ledger w (es ++ e ∷ []) made gone) × (k ≡ (caller e, Calls (l ++ e ∷ []))) → Recorded w es made gone e l b k
recorded w es made gone e l b k last = record { sound = last.0; ledger = last.1; list = last.2; run = subst (λ (c : Ledger). IsTrail w c.events) last.1 last.0.run }

-- an event of one node: it takes the event, and then its caller does
pub records : (w : World) (es : List Event) (made : ℕ) (gone : List ℕ) (l : List Event) (n : ℕ) (e : Event) (x y : Node) (b0 b1 b2 b3 : Ledger) (h h' k k' : ℕ × Part)
    → IsTrail w es → b0 ≡ quiet_ledger w es made gone → b1 ≡ with_flight e b0
    → h ≡ (33 + n, State x) → get_elem? b1.parts h.0 ≡ some h.1 → h' ≡ (h.0, part_after e b1.world h.0 h.1) → b2 ≡ with_part h'.0 h'.1 b1
    → k ≡ (caller e, Calls l) → get_elem? b2.parts k.0 ≡ some k.1 → k' ≡ (k.0, part_after e b2.world k.0 k.1) → b3 ≡ with_part k'.0 k'.1 b2
    → IsNamed e → IsLocal w.base_port (length w.nodes) n x e y
    → Recorded w es made gone e l b3 k' × (h' ≡ (33 + n, State y))
records w es made gone l n e x y b0 b1 b2 b3 h h' k k' run is0 is1 his hat hnew is2 kis kat knew is3 named local =
    let v = world_after w es in
    let of : IsOf w.base_port (length w.nodes) v = kept_by w es in
    let flies = starts w es made gone e b0 b1 is0 is1 in
    let one = node_takes w es made gone v.nodes e b1 b2 n x h h' flies his hat hnew is2 in
    let step = local v of (subst (λ m. n < m) of.count_is one.there) one.was in
    let gives : node_at (after v e) n ≡ y = ap (λ u. node_at u n) step.1 ∙ node_same v n y one.there in
    let whole : set v.nodes n (node_at (after v e) n) ≡ (after v e).nodes = ap (set v.nodes n) gives ∙ sym (ap (λ (u : World). u.nodes) step.1) in
    (recorded w es made gone e l b3 k' (caller_takes w es made gone _ e b2 b3 l k k' run one.flies whole kis kat knew is3 step.0 named), one.new ∙ ap (λ m. (33 + n, State m)) gives)

-- an event of two nodes: b takes it, then a does, and then the caller
pub records_both : (w : World) (es : List Event) (made : ℕ) (gone : List ℕ) (l : List Event) (a b : ℕ) (e : Event) (x y x' y' : Node) (b0 b1 b2 b3 b4 : Ledger) (t t' f f' k k' : ℕ × Part)
    → IsTrail w es → a ≢ b → b0 ≡ quiet_ledger w es made gone → b1 ≡ with_flight e b0
    → t ≡ (33 + b, State y) → get_elem? b1.parts t.0 ≡ some t.1 → t' ≡ (t.0, part_after e b1.world t.0 t.1) → b2 ≡ with_part t'.0 t'.1 b1
    → f ≡ (33 + a, State x) → get_elem? b2.parts f.0 ≡ some f.1 → f' ≡ (f.0, part_after e b2.world f.0 f.1) → b3 ≡ with_part f'.0 f'.1 b2
    → k ≡ (caller e, Calls l) → get_elem? b3.parts k.0 ≡ some k.1 → k' ≡ (k.0, part_after e b3.world k.0 k.1) → b4 ≡ with_part k'.0 k'.1 b3
    → IsNamed e → IsShared w.base_port (length w.nodes) a b x y e x' y'
    → Recorded w es made gone e l b4 k' × (f' ≡ (33 + a, State x')) × (t' ≡ (33 + b, State y'))
records_both w es made gone l a b e x y x' y' b0 b1 b2 b3 b4 t t' f f' k k' run ne is0 is1 tis tat tnew is2 fis fat fnew is3 kis kat knew is4 named shared =
    let v = world_after w es in
    let of : IsOf w.base_port (length w.nodes) v = kept_by w es in
    let flies = starts w es made gone e b0 b1 is0 is1 in
    let one = node_takes w es made gone v.nodes e b1 b2 b y t t' flies tis tat tnew is2 in
    let yy = node_at (after v e) b in
    let two = node_takes w es made gone (set v.nodes b yy) e b2 b3 a x f f' one.flies fis fat fnew is3 in
    let was : node_at v a ≡ x = sym (get_or-set_other v.nodes b a yy blank ne) ∙ two.was in
    let low_a : a < length v.nodes = subst (λ m. a < m) (length-set v.nodes b yy) two.there in
    let step = shared v of (subst (λ m. a < m) of.count_is low_a) (subst (λ m. b < m) of.count_is one.there) was one.was in
    let mid : World = change_node v b y' in
    let gives_a : node_at (after v e) a ≡ x' = ap (λ u. node_at u a) step.1 ∙ node_same mid a x' (subst (λ m. a < m) (sym (length_kept v b y')) low_a) in
    let gives_b : node_at (after v e) b ≡ y' = ap (λ u. node_at u b) step.1 ∙ node_other mid a x' b (λ same. ne (sym same)) ∙ node_same v b y' one.there in
    let whole : set (set v.nodes b yy) a (node_at (after v e) a) ≡ (after v e).nodes = (λ i. set (set v.nodes b (gives_b i)) a (gives_a i)) ∙ sym (ap (λ (u : World). u.nodes) step.1) in
    (recorded w es made gone e l b4 k' (caller_takes w es made gone _ e b3 b4 l k k' run two.flies whole kis kat knew is4 step.0 named), two.new ∙ ap (λ m. (33 + a, State m)) gives_a, one.new ∙ ap (λ m. (33 + b, State m)) gives_b)

-- ---- what a look at a trail with no event in flight shows

pub shown_caller : (w : World) (es : List Event) (made : ℕ) (gone : List ℕ) (b : Ledger) (h : ℕ × Part) (by : ℕ) (l : List Event) → b ≡ quiet_ledger w es made gone → h ≡ (by, Calls l) → by < 33 → get_elem? b.parts h.0 ≡ some h.1 → calls_of by es ≡ l
shown_caller w es made gone b h by l is his low there =
    let long : by < length (callers_from 0 33 es) = omega (arith, callers_length 0 33 es) in
    let found : some (Calls (calls_of by es)) ≡ some (Calls l) =
    sym (callers_at 0 33 by by es low (omega arith)) ∙ sym (at_left (callers_from 0 33 es) (map State (world_after w es).nodes) by long) ∙ (λ i. get_elem? (sym is i).parts (sym his i).0) ∙ there ∙ ap (λ (z : ℕ × Part). some z.1) his in
    let found' : Calls (calls_of by es) ≡ Calls l = some-injective _ _ found in cc found'

pub shown_node : (w : World) (es : List Event) (made : ℕ) (gone : List ℕ) (b : Ledger) (h : ℕ × Part) (n : ℕ) (x : Node) → b ≡ quiet_ledger w es made gone → h ≡ (33 + n, State x) → get_elem? b.parts h.0 ≡ some h.1 → (node_at (world_after w es) n ≡ x) × (n < length (world_after w es).nodes)
shown_node w es made gone b h n x is his there =
    let long : 33 + n ≡ length (callers_from 0 33 es) + n = ap (λ m. m + n) (sym (callers_length 0 33 es)) in
    at_states (world_after w es).nodes n x (sym (at_right (callers_from 0 33 es) (map State (world_after w es).nodes) (33 + n) n long) ∙ (λ i. get_elem? (sym is i).parts (sym his i).0) ∙ there ∙ ap (λ (z : ℕ × Part). some z.1) his)
