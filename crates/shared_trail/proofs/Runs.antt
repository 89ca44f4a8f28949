-- An event more: the run, the world, and what each seat knows.
use Rattle.std.proofs.Common.{◌≡◌, ◌≢◌, ℕ, zero, suc, ◌+◌, ◌<◌, ◌==◌, List, [], ◌∷◌, ◌++◌, map, length, set, eq-eqb, ne_eqb, None, Bool, true, false, cond, is_some, refl, sym, ap, ◌∙◌, subst, arith}
use Rattle.std.specs.Prelude.{if◌then◌else◌}
use mathlib.Core.Option.{some, some-ne-none, some-injective}
use lib.ListN.{get_elem?}
use Rattle.std.specs.Prelude.{slice_index_or}
use Rattle.cluster_node.specs.Nodes.{Node, blank}
use Rattle.cluster_admin.specs.declared.admin.AdminCommand.{AdminCommand}
use Rattle.cluster_admin.specs.declared.admin.AdminCommand.TheVariants.{Importing, Migrating, SetNode, Stable, KeysIn}
use Rattle.cluster_admin.specs.declared.admin.AdminCommand.TheVariants.{Migrate}
use Rattle.cluster_world.specs.Worlds.{World, node_at, change_node}
use Rattle.cluster_world.specs.Steps.{after, Answers}
use Rattle.cluster_world.specs.Commanding.{admin_fault, effect, admin_after}
use Rattle.cluster_world.specs.declared.event.Event.{Event}
use Rattle.cluster_world.specs.declared.event.Event.TheVariants.{Client, Look, Admin}
use Rattle.cluster_world.proofs.Viewing.{length_kept}
use Rattle.cluster_world.proofs.Keeping.{after-length}
use Rattle.shared_trail.specs.declared.view.Part.{Part}
use Rattle.shared_trail.specs.declared.view.Part.TheVariants.{Calls, State}
use Rattle.shared_trail.specs.declared.view.Ledger.{Ledger}
use Rattle.cluster_world.specs.Earning.{world_after}
use Rattle.shared_trail.specs.Trails.{caller, IsNamed, IsTrail, calls_of, callers_from, parts_of}
use Rattle.shared_trail.specs.Rule.{with_event, quiet_ledger, IsSound}
use Rattle.shared_trail.specs.Local.{IsOf}

-- ---- lists

pub at_right : {A : Type 0} (xs ys : List A) (j n : ℕ) → j ≡ length xs + n → get_elem? (xs ++ ys) j ≡ get_elem? ys n
at_right [] ys j n e = let same : j ≡ n = omega arith in ap (get_elem? ys) same
at_right (x ∷ xs) ys zero n e = absurd (omega arith)
at_right (x ∷ xs) ys (suc j) n e = at_right xs ys j n (omega arith)

pub set_right : {A : Type 0} (xs ys : List A) (j n : ℕ) (v : A) → j ≡ length xs + n → set (xs ++ ys) j v ≡ xs ++ set ys n v
set_right [] ys j n v e = let same : j ≡ n = omega arith in ap (λ m. set ys m v) same
set_right (x ∷ xs) ys zero n v e = absurd (omega arith)
set_right (x ∷ xs) ys (suc j) n v e = ap (λ l. x ∷ l) (set_right xs ys j n v (omega arith))

pub at_left : {A : Type 0} (xs ys : List A) (n : ℕ) → n < length xs → get_elem? (xs ++ ys) n ≡ get_elem? xs n
at_left [] ys n h = absurd (omega arith)
at_left (x ∷ xs) ys zero h = refl
at_left (x ∷ xs) ys (suc n) h = at_left xs ys n (omega arith)

pub set_left : {A : Type 0} (xs ys : List A) (n : ℕ) (v : A) → n < length xs → set (xs ++ ys) n v ≡ set xs n v ++ ys
set_left [] ys n v h = absurd (omega arith)
set_left (x ∷ xs) ys zero v h = refl
set_left (x ∷ xs) ys (suc n) v h = ap (λ l. x ∷ l) (set_left xs ys n v (omega arith))

pub map_set : (xs : List Node) (n : ℕ) (x : Node) → map State (set xs n x) ≡ set (map State xs) n (State x)
map_set [] n x = refl
map_set (y ∷ xs) zero x = refl
map_set (y ∷ xs) (suc n) x = ap (λ l. State y ∷ l) (map_set xs n x)

pub at_states : (xs : List Node) (n : ℕ) (x : Node) → get_elem? (map State xs) n ≡ some (State x) → (slice_index_or xs n blank ≡ x) × (n < length xs)
at_states [] n x e = absurd (some-ne-none _ (sym e))
at_states (y ∷ xs) zero x e = let e' : State y ≡ State x = some-injective _ _ e in (cc e', omega arith)
at_states (y ∷ xs) (suc n) x e = let t = at_states xs n x e in (t.0, omega arith)

-- ---- what an event leaves of a world

effect-port : (w : World) (n : ℕ) (c : AdminCommand) → (effect w n c).base_port ≡ w.base_port
unfolding effect
effect-port w n (Importing s m) = refl
effect-port w n (Migrating s m) = refl
effect-port w n (SetNode s m) = refl
effect-port w n (Stable s) = refl
effect-port w n (KeysIn s count) = refl
effect-port w n (Migrate ks m) = refl

admin-port : (w : World) (n : ℕ) (c : AdminCommand) → (admin_after w n c).base_port ≡ w.base_port
unfolding admin_after
admin-port w n c = by (is_some (admin_fault w n c))
  where
    by : (b : Bool) → (cond b w (effect w n c)).base_port ≡ w.base_port
    by true = refl
    by false = effect-port w n c

kept : (w : World) (e : Event) → IsOf w.base_port (length w.nodes) (after w e)
kept w (Client seat n asking c reply) = record { port_is = refl; count_is = length_kept w n _ }
kept w (Look seat n reply) = record { port_is = refl; count_is = refl }
kept w (Admin n c reply) = record { port_is = admin-port w n c; count_is = after-length w n c }

pub kept_by : (w : World) (es : List Event) → IsOf w.base_port (length w.nodes) (world_after w es)
kept_by w [] = record { port_is = refl; count_is = refl }
kept_by w (e ∷ es) =
    let rest = kept_by (after w e) es in
    let one = kept w e in
    record { port_is = rest.port_is ∙ one.port_is; count_is = rest.count_is ∙ one.count_is }

-- ---- one more event

pub caller_low : (e : Event) → IsNamed e → caller e < 33
caller_low (Client seat n asking c reply) h = omega (arith, h)
caller_low (Look seat n reply) h = omega (arith, h)
caller_low (Admin n c reply) h = omega arith

pub world_push : (w : World) (es : List Event) (e : Event) → world_after w (es ++ e ∷ []) ≡ after (world_after w es) e
world_push w [] e = refl
world_push w (x ∷ es) e = world_push (after w x) es e

pub run_push : (w : World) (es : List Event) (e : Event) → IsTrail w es → Answers (world_after w es) e → IsNamed e → IsTrail w (es ++ e ∷ [])
run_push w [] e h r b = (r, b, tt)
run_push w (x ∷ es) e h r b = (h.0, h.1, run_push (after w x) es e h.2 r b)

own_more : (x : Event) (m l : List Event) (e : Event) → m ≡ l ++ e ∷ [] → (b : Bool) → (if b then x ∷ m else m) ≡ (if b then x ∷ l else l) ++ e ∷ []
own_more x m l e is true = ap (λ l. x ∷ l) is
own_more x m l e is false = is

own_push : (c : ℕ) (es : List Event) (e : Event) → caller e ≡ c → calls_of c (es ++ e ∷ []) ≡ calls_of c es ++ e ∷ []
own_push c [] e is = ap (λ (b : Bool). if b then e ∷ [] else []) (eq-eqb (caller e) c is)
own_push c (x ∷ es) e is = own_more x (calls_of c (es ++ e ∷ [])) (calls_of c es) e (own_push c es e is) (caller x == c)

other_push : (c : ℕ) (es : List Event) (e : Event) → caller e ≢ c → calls_of c (es ++ e ∷ []) ≡ calls_of c es
other_push c [] e ne = ap (λ (b : Bool). if b then e ∷ [] else []) (ne_eqb (caller e) c ne)
other_push c (x ∷ es) e ne = ap (λ l. if caller x == c then x ∷ l else l) (other_push c es e ne)

pub callers_length : (k n : ℕ) (es : List Event) → length (callers_from k n es) ≡ n
callers_length k zero es = refl
callers_length k (suc n) es = ap suc (callers_length (suc k) n es)

pub callers_at : (k n c d : ℕ) (es : List Event) → c < n → d ≡ k + c → get_elem? (callers_from k n es) c ≡ some (Calls (calls_of d es))
callers_at k zero c d es h is = absurd (omega arith)
callers_at k (suc n) zero d es h is = let same : k ≡ d = omega arith in ap (λ m. some (Calls (calls_of m es))) same
callers_at k (suc n) (suc c) d es h is = callers_at (suc k) n c d es (omega arith) (omega arith)

callers_below : (k n : ℕ) (es : List Event) (e : Event) → caller e < k → callers_from k n (es ++ e ∷ []) ≡ callers_from k n es
callers_below k zero es e h = refl
callers_below k (suc n) es e h = λ i. Calls (other_push k es e (λ same. omega arith) i) ∷ callers_below (suc k) n es e (omega arith) i

pub callers_set : (k n c d : ℕ) (es : List Event) (e : Event) → c < n → d ≡ k + c → caller e ≡ d → set (callers_from k n es) c (Calls (calls_of d es ++ e ∷ [])) ≡ callers_from k n (es ++ e ∷ [])
callers_set k zero c d es e h is by = absurd (omega arith)
callers_set k (suc n) zero d es e h is by =
    let at_k : d ≡ k = omega arith in
    let low : caller e < suc k = omega arith in
    λ i. Calls ((sym (own_push d es e by) ∙ ap (λ m. calls_of m (es ++ e ∷ [])) at_k) i) ∷ sym (callers_below (suc k) n es e low) i
callers_set k (suc n) (suc c) d es e h is by =
    let apart : caller e ≢ k = λ same. omega arith in
    λ i. Calls (sym (other_push k es e apart) i) ∷ callers_set (suc k) n c d es e (omega arith) (omega arith) by i

-- where the nodes have taken the event, and then its caller does, each seat knows its part
pub callers_take : (w : World) (es : List Event) (e : Event) (c : ℕ) (l : List Event) (parts : List Part)
    → parts ≡ callers_from 0 33 es ++ map State (after (world_after w es) e).nodes → c < 33 → caller e ≡ c → get_elem? parts c ≡ some (Calls l)
    → (l ≡ calls_of c es) × (set parts c (Calls (l ++ e ∷ [])) ≡ parts_of w (es ++ e ∷ []))
callers_take w es e c l parts is low by there =
    let long : c < length (callers_from 0 33 es) = omega (arith, callers_length 0 33 es) in
    let rest = map State (after (world_after w es) e).nodes in
    let found : some (Calls l) ≡ some (Calls (calls_of c es)) = sym there ∙ ap (λ (x : List Part). get_elem? x c) is ∙ at_left (callers_from 0 33 es) rest c long ∙ callers_at 0 33 c c es low (omega arith) in
    let found' : Calls l ≡ Calls (calls_of c es) = some-injective _ _ found in
    let known : l ≡ calls_of c es = cc found' in (
      known,
      (λ i. set (is i) c (Calls (known i ++ e ∷ [])))
          ∙ set_left (callers_from 0 33 es) rest c (Calls (calls_of c es ++ e ∷ [])) long
          ∙ (λ i. callers_set 0 33 c c es e low (omega arith) by i ++ map State (sym (world_push w es e) i).nodes),
    )

pub states_set : (es : List Event) (v : List Node) (n : ℕ) (y : Node) → set (callers_from 0 33 es ++ map State v) (33 + n) (State y) ≡ callers_from 0 33 es ++ map State (set v n y)
states_set es v n y = set_right (callers_from 0 33 es) (map State v) (33 + n) n (State y) (ap (λ m. m + n) (sym (callers_length 0 33 es))) ∙ ap (λ l. callers_from 0 33 es ++ l) (sym (map_set v n y))

-- which seats are given back stands in the ledger itself
pub quiet_again : (w : World) (es : List Event) (made : ℕ) (gone : List ℕ) (b : Ledger) → b ≡ quiet_ledger w es made gone → b ≡ quiet_ledger w es made b.gone
quiet_again w es made gone b is = is ∙ ap (quiet_ledger w es made) (sym (ap (λ (z : Ledger). z.gone) is))

-- all seats have taken the event
pub commits : (w : World) (es : List Event) (e : Event) (made : ℕ) (gone : List ℕ) (b : Ledger)
    → IsTrail w es → b.events ≡ es → b.world ≡ world_after w es → b.made ≡ made → b.gone ≡ gone → b.parts ≡ parts_of w (es ++ e ∷ []) → Answers (world_after w es) e → IsNamed e
    → IsSound w (with_event e b) × (with_event e b ≡ quiet_ledger w (es ++ e ∷ []) made gone)
commits w es e made gone b run events world same left parts reply by =
    let now : IsTrail w (b.events ++ e ∷ []) = subst (λ (l : List Event). IsTrail w (l ++ e ∷ [])) (sym events) (run_push w es e run reply by) in
    let last : after b.world e ≡ world_after w (es ++ e ∷ []) = ap (λ v. after v e) world ∙ sym (world_push w es e) in (
      record {
        run = now;
        world = last ∙ ap (λ (l : List Event). world_after w (l ++ e ∷ [])) (sym events);
        whole = λ none. parts ∙ ap (λ (l : List Event). parts_of w (l ++ e ∷ [])) (sym events);
      },
      λ i. record { events = events i ++ e ∷ []; world = last i; flight = None; parts = parts i; made = same i; gone = left i },
    )
