-- The replies of an array, one by one.
use Rattle.std.proofs.Common.{◌≡◌, ℕ, ◌+◌, ◌≤◌, List, [], ◌∷◌, ◌++◌, map, refl, sym, ap, ◌∙◌, arith}
use Rattle.resp2_wire.specs.Tree.{Tree, more, trees_of}
use Rattle.resp2_wire.specs.View.{tree, trees}
use Rattle.resp2_wire.specs.declared.reply.Reply.{Reply}
use Rattle.cluster_reports.specs.Numbered.{below}
use Rattle.cluster_reports.proofs.Numbers.{below-next}

pub trees_mapped : (rs : List Reply) → trees rs ≡ trees_of (map tree rs)
trees_mapped [] = refl
trees_mapped (r ∷ rs) = ap (more (tree r)) (trees_mapped rs)

pub map_appended : (rs ss : List Reply) → map tree (rs ++ ss) ≡ map tree rs ++ map tree ss
map_appended [] ss = refl
map_appended (r ∷ rs) ss = ap (λ ts. tree r ∷ ts) (map_appended rs ss)

-- the reply of the number m is put after those of the numbers below it
pub trees_more : (f : ℕ → List Tree) (i m : ℕ) (rs rs' : List Reply) (r : Reply) → m ≡ i → map tree rs ≡ below f i
    → rs' ≡ rs ++ r ∷ [] → (tree r ∷ []) ≡ f m → map tree rs' ≡ below f (i + 1)
trees_more f i m rs rs' r same before put is =
    ap (map tree) put ∙ map_appended rs (r ∷ []) ∙ ap (λ ts. ts ++ tree r ∷ []) before
    ∙ ap (λ ts. below f i ++ ts) (is ∙ ap f same) ∙ sym (below-next f i)

pub trees_all : (f : ℕ → List Tree) (n i : ℕ) (rs : List Reply) → n ≤ i → i ≤ n → map tree rs ≡ below f i
    → map tree rs ≡ below f n
trees_all f n i rs least most before =
    let same : i ≡ n = omega arith in
    before ∙ ap (below f) same
