-- The row of nodes before the locks are made, and after they are undone.
use Rattle.std.proofs.Common.{◌≡◌, ℕ, zero, suc, ◌+◌, ◌-◌, ◌<◌, ◌≤◌, ◌==◌, nat_lt, true, false, List, [], ◌∷◌, ◌++◌, length, map, min, drop, get_or, arith, refl, sym, ap, subst, ◌∙◌, inl, inr, length-append}
use Rattle.std.proofs.lemmas.Bool.{cases_eq, true≢false}
use Rattle.std.proofs.lemmas.Bool.Decides.{nat_tests}
use Rattle.std.proofs.lemmas.List.{length-map, get_or_default, get_or_append_left}
use Rattle.std.proofs.Math.ListN.{get_or-map}
use Rattle.std.proofs.Math.Seq.{get_or-append_seam}
use Rattle.cluster_node.specs.Nodes.{Node, blank}
use Rattle.cluster_node.specs.NodeView.{NodeView}
use Rattle.cluster_world.specs.Worlds.{World, node_at}
use Rattle.key_slots.specs.Owners.{Owners}
use Rattle.cluster_world.specs.Trails.{Trail, opening}
use Rattle.cluster_world.specs.WorldView.{blank_view, view_at, IsNode, AreNodes, new_world, world_of}
use Rattle.cluster_world.specs.declared.event.Event.{Event}
use Rattle.shared_trail.specs.Setups.{IsOpened}
use Rattle.live_cluster.specs.Rests.{Stands, IsRest, IsRow}
use Rattle.cluster_world.specs.Steps.{after, Run}
use Rattle.cluster_world.specs.Earning.{world_after}
use Rattle.shared_trail.specs.Trails.{IsTrail}
use Rattle.shared_trail.proofs.Runs.{kept_by}

-- ---- before

pub rest_whole : (w : World) (port : ℕ) (xs : List NodeView) → AreNodes port xs → world_of port xs ≡ w → IsRest w 0 xs
rest_whole w port xs are is = subst (λ v. IsRest v 0 xs) is record {
  len = sym (length-map xs (λ y. y.node)) ∙ omega arith;
  each = λ i h.
      let at : 0 + i ≡ i = omega arith in
      subst (λ j. Stands (world_of port xs) (world_of port xs) j (view_at xs i)) (sym at) record {
        is = subst (λ l. IsNode port l i (view_at xs i)) (sym (length-map xs (λ y. y.node))) (are.each i h);
        node = sym (get_or-map (λ y. y.node) xs i blank_view);
      };
}

at_drop : (xs : List NodeView) (i : ℕ) → view_at (drop 1 xs) i ≡ view_at xs (suc i)
at_drop [] i = refl
at_drop (x ∷ xs) i = refl

length_drop : (xs : List NodeView) → length (drop 1 xs) ≡ length xs - 1
length_drop [] = refl
length_drop (x ∷ xs) = omega arith

pub rest_next : (w : World) (n : ℕ) (xs ys : List NodeView) → IsRest w n xs → ys ≡ drop 1 xs → IsRest w (n + 1) ys
rest_next w n xs ys rest is = subst (IsRest w (n + 1)) (sym is) record {
  len = omega (arith, length_drop xs, rest.len);
  each = λ i h.
      let at : n + suc i ≡ n + 1 + i = omega arith in
      subst (λ y. Stands w w (n + 1 + i) y) (sym (at_drop xs i)) (subst (λ j. Stands w w j (view_at xs (suc i))) at (rest.each (suc i) (omega (arith, length_drop xs, h))));
}

pub rest_first : (w : World) (n : ℕ) (xs : List NodeView) (x : NodeView) → IsRest w n xs → 0 < length xs → x ≡ get_or xs 0 x → Stands w w n x
rest_first w n xs x rest h is =
    let at : n + 0 ≡ n = omega arith in
    subst (Stands w w n) (sym (is ∙ get_or_default xs 0 x blank_view h)) (subst (λ j. Stands w w j (view_at xs 0)) at (rest.each 0 h))

pub rest_empty : (w : World) (n : ℕ) (xs : List NodeView) → IsRest w n xs → length xs ≡ 0 → nat_lt n (length w.nodes) ≡ false
rest_empty w n xs rest none = let len = rest.len in grind (arith, nat_tests)

pub rest_some : (w : World) (n : ℕ) (xs : List NodeView) → IsRest w n xs → 0 < length xs → nat_lt n (length w.nodes) ≡ true
rest_some w n xs rest some = let len = rest.len in grind (arith, nat_tests)

pub filled : (n m : ℕ) → false ≡ (n == 0) → n ≡ m → 0 < m
filled zero m e is = absurd (true≢false (sym e))
filled (suc n) m e is = omega arith

-- ---- after

pub row_none : (w now : World) (xs : List NodeView) → xs ≡ [] → IsRow w 0 now xs
row_none w now xs is = subst (IsRow w 0 now) (sym is) record { len = omega arith; each = λ i h. absurd (omega arith) }

pub row_more : (w now : World) (n : ℕ) (xs ys : List NodeView) (x : NodeView) → IsRow w n now xs → nat_lt n (length w.nodes) ≡ true → Stands w now n x → ys ≡ xs ++ x ∷ [] → IsRow w (n + 1) now ys
row_more w now n xs ys x row there stands is =
    let low : n < length w.nodes = grind (arith, nat_tests) in
    let len : length xs ≡ n = omega (arith, row.len) in
    subst (IsRow w (n + 1) now) (sym is) record {
      len = omega (arith, length-append xs (x ∷ []));
      each = λ i h. elim (cases_eq i n) [
        | inl last ↦ subst (λ k. Stands w now k (view_at (xs ++ x ∷ []) k)) (sym last) (subst (λ y. Stands w now n y) (sym (subst (λ k. get_or (xs ++ x ∷ []) k blank_view ≡ x) len (get_or-append_seam xs x [] blank_view))) stands)
        | inr before ↦ subst (λ y. Stands w now i y) (sym (get_or_append_left xs (x ∷ []) blank_view i (omega (arith, length-append xs (x ∷ []), len, h)))) (row.each i (omega (arith, length-append xs (x ∷ []), len, h)))
      ];
    }

pub row_same : (w now : World) (n : ℕ) (xs : List NodeView) → IsRow w n now xs → nat_lt n (length w.nodes) ≡ false → IsRow w (n + 1) now xs
row_same w now n xs row none =
    let high : length w.nodes ≤ n = grind (arith, nat_tests) in
    record { len = omega (arith, row.len); each = row.each }

-- two lists that agree in each place
same_lists : (xs ys : List Node) → length xs ≡ length ys → ((i : ℕ) → i < length xs → get_or xs i blank ≡ get_or ys i blank) → xs ≡ ys
same_lists [] [] e h = refl
same_lists [] (y ∷ ys) e h = absurd (omega arith)
same_lists (x ∷ xs) [] e h = absurd (omega arith)
same_lists (x ∷ xs) (y ∷ ys) e h = λ i. h 0 (omega arith) i ∷ same_lists xs ys (omega arith) (λ j l. h (suc j) (omega arith)) i

-- all nodes are back
pub row_nodes : (w now : World) (n : ℕ) (xs : List NodeView) → IsRow w n now xs → length w.nodes ≤ n → 1 ≤ length w.nodes → length w.nodes ≤ 8 → w.base_port ≤ 65528
    → AreNodes w.base_port xs
row_nodes w now n xs row all some few port =
    let len : length xs ≡ length w.nodes = omega (arith, row.len) in
    record {
      each = λ i h. subst (λ l. IsNode w.base_port l i (view_at xs i)) (sym len) (row.each i h).is;
      least = omega arith;
      most = omega arith;
      port_most = port;
    }

pub row_world : (w : World) (es : List Event) (n : ℕ) (xs : List NodeView) → IsRow w n (world_after w es) xs → length w.nodes ≤ n → world_of w.base_port xs ≡ world_after w es
row_world w es n xs row all =
    let now = world_after w es in
    let of = kept_by w es in
    let len : length xs ≡ length w.nodes = omega (arith, row.len) in
    let nodes : map (λ (y : NodeView). y.node) xs ≡ now.nodes =
    same_lists (map (λ (y : NodeView). y.node) xs) now.nodes (length-map xs (λ y. y.node) ∙ len ∙ sym of.count_is)
    (λ i h. get_or-map (λ (y : NodeView). y.node) xs i blank_view ∙ (row.each i (subst (λ l. i < l) (length-map xs (λ y. y.node)) h)).node) in
    λ i. record { base_port = sym of.port_is i; nodes = nodes i }

pub run_of : (w : World) (es : List Event) (last : World) → IsTrail w es → last ≡ world_after w es → Run w es last
run_of w [] last h is = is
run_of w (e ∷ es) last h is = (h.0, run_of (after w e) es last h.2 is)

-- the trail of a closed cluster is a run from its own opening
pub closed_run : (w : World) (o : Owners) (t : Trail) (last : World) → IsOpened w o → t.owners ≡ o → t.base_port ≡ w.base_port
    → IsTrail w t.events → last ≡ world_after w t.events → Run (opening t) t.events last
closed_run w o t last made owners port run is =
    subst (λ v. Run v t.events last) (made.opened_as ∙ (λ i. new_world (sym port i) (sym owners i).nodes (sym owners i).owners)) (run_of w t.events last run is)
