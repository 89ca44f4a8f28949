-- A world that is being opened, node by node.
use Rattle.std.proofs.Common.{◌≡◌, ℕ, ◌<◌, ◌≤◌, ◌+◌, List, [], ◌∷◌, ◌++◌, length, map, get_or, arith, refl, sym, ap, subst, ◌∙◌, inl, inr, length-append}
use Rattle.std.proofs.lemmas.List.{replicate-append-replicate, map-append, get_or_append_left}
use Rattle.std.proofs.lemmas.Bool.{cases_eq}
use Rattle.std.proofs.Math.ListN.{replicate}
use Rattle.std.proofs.Math.Seq.{get_or-append_seam}
use Rattle.key_slots.specs.Owners.{Owners}
use Rattle.cluster_node.specs.NodeView.{NodeView}
use Rattle.cluster_world.specs.WorldView.{blank_view, view_at, AreNodes, new_node}

-- the node of this number, as it is opened
abbrev pub fresh : ℕ → Owners → ℕ → NodeView
fresh port owners i = record { me = i; nodes = owners.nodes; base_port = port; node = new_node owners.owners }

-- the first n nodes are opened
pub record Opened (port : ℕ) (owners : Owners) (n : ℕ) (xs : List NodeView) : Type 0 where
  pub len : length xs ≡ n
  pub each : (i : ℕ) → i < n → view_at xs i ≡ fresh port owners i
  pub nodes : map (λ x. x.node) xs ≡ replicate n (new_node owners.owners)

pub none_opened : (port : ℕ) (owners : Owners) (xs : List NodeView) → xs ≡ [] → Opened port owners 0 xs
none_opened port owners xs e = subst (Opened port owners 0) (sym e) (record { len = refl; each = λ i h. absurd (omega arith); nodes = refl })

pub one_more_opened : (port : ℕ) (owners : Owners) (n : ℕ) (xs ys : List NodeView) (x : NodeView) → Opened port owners n xs → ys ≡ xs ++ x ∷ [] → x ≡ fresh port owners n → Opened port owners (n + 1) ys
one_more_opened port owners n xs ys x o e is = subst (Opened port owners (n + 1)) (sym e) (record {
  len = omega (arith, length-append xs (x ∷ []), o.len);
  each = λ i h. elim (cases_eq i n) [
    | inl last ↦ subst (λ k. view_at (xs ++ x ∷ []) k ≡ fresh port owners k) (sym last) (subst (λ k. get_or (xs ++ x ∷ []) k blank_view ≡ fresh port owners n) o.len (get_or-append_seam xs x [] blank_view ∙ is))
    | inr before ↦ get_or_append_left xs (x ∷ []) blank_view i (omega (arith, o.len)) ∙ o.each i (omega arith)
  ];
  nodes = map-append (λ y. y.node) xs (x ∷ []) ∙ (λ i. o.nodes i ++ (is i).node ∷ []) ∙ replicate-append-replicate n 1 (new_node owners.owners);
})

pub all_opened : (port : ℕ) (owners : Owners) (n : ℕ) (xs : List NodeView) → Opened port owners n xs → n ≡ owners.nodes → 1 ≤ n → n ≤ 255 → port ≤ 65528 → AreNodes port xs
all_opened port owners n xs o all some few low = record {
  each = λ i h. let is = o.each i (subst (λ l. i < l) o.len h) in record { me = ap (λ x. x.me) is; nodes = ap (λ x. x.nodes) is ∙ sym all ∙ sym o.len; port_is = ap (λ x. x.base_port) is };
  least = subst (λ l. 1 ≤ l) (sym o.len) some;
  most = subst (λ l. l ≤ 255) (sym o.len) few;
  port_most = low;
}
