-- The lines are read one by one.
use Rattle.std.proofs.Common.{◌≡◌, ℕ, zero, suc, ◌<◌, List, [], ◌∷◌, ◌++◌, Option, None, Some}
use Rattle.std.proofs.Common.{append_assoc, append-nil, refl, sym, ap, ◌∙◌, arith}
use Rattle.byte_texts.specs.Parts.{parts}
use Rattle.byte_texts.proofs.Parting.{parts_some}
use Rattle.cluster_reports.specs.NodeLines.{node_line, nodes_text}
use Rattle.cluster_reports.specs.Numbered.{below}
use Rattle.listed_nodes.specs.Names.{if_there}
use Rattle.listed_nodes.specs.Nodes.{line_in, lines_in}
use Rattle.listed_nodes.specs.declared.node_line.NodeLine.{NodeLine}
use Rattle.told_nodes.specs.Reading.{NodesAreRead}
use Rattle.told_nodes.specs.ToldLines.{line_told}
use Rattle.told_nodes.proofs.OneLine.{IsLine, line_read}
use Rattle.told_nodes.proofs.Words.{parts_at}

-- these lines, and then the rest if it is there
abbrev before : List NodeLine → Option (List NodeLine) → Option (List NodeLine)
before xs rest = if_there rest (λ ys. Some (xs ++ ys))

before_none : (rest : Option (List NodeLine)) → before [] rest ≡ rest
before_none None = refl
before_none (Some ys) = refl

before_both : (xs zs : List NodeLine) (rest : Option (List NodeLine))
    → before xs (before zs rest) ≡ before (xs ++ zs) rest
before_both xs zs None = refl
before_both xs zs (Some ys) = ap (λ us. Some us) (sym (append_assoc xs zs ys))

first_line : (line : List ℕ) (x : NodeLine) (ps : List (List ℕ)) → (ps ≡ [] → ⊥) → line_in (parts 32 line) ≡ Some x
    → lines_in (line ∷ ps) ≡ before (x ∷ []) (lines_in ps)
first_line line x [] some read = absurd (some refl)
first_line line x (next ∷ more) some read =
    ap (λ o. if_there o (λ first. if_there (lines_in (next ∷ more)) (λ rest. Some (first ∷ rest)))) read

one_line : (text rest : List ℕ) (x : NodeLine) → IsLine text x
    → lines_in (parts 10 (text ++ rest)) ≡ before (x ∷ []) (lines_in (parts 10 rest))
one_line text rest x one =
    ap (λ t. lines_in (parts 10 t)) (ap (λ u. u ++ rest) one.is ∙ append_assoc one.line (10 ∷ []) rest)
    ∙ ap lines_in (parts_at 10 one.line rest one.whole)
    ∙ first_line one.line x (parts 10 rest) (parts_some 10 rest) one.read

lines_read : (f : ℕ → List ℕ) (g : ℕ → NodeLine) (n : ℕ) (rest : List ℕ) → ((i : ℕ) → i < n → IsLine (f i) (g i))
    → lines_in (parts 10 (below f n ++ rest)) ≡ before (below (λ i. g i ∷ []) n) (lines_in (parts 10 rest))
unfolding below
lines_read f g zero rest each = sym (before_none (lines_in (parts 10 rest)))
lines_read f g (suc n) rest each =
    ap (λ t. lines_in (parts 10 t)) (append_assoc (below f n) (f n) rest)
    ∙ lines_read f g n (f n ++ rest) (λ i lt. each i (omega arith))
    ∙ ap (before (below (λ i. g i ∷ []) n)) (one_line (f n) rest (g n) (each n (omega arith)))
    ∙ before_both (below (λ i. g i ∷ []) n) (g n ∷ []) (lines_in (parts 10 rest))

pub nodes_are_read : NodesAreRead
unfolding nodes_text
nodes_are_read port t told =
    let lines = below (λ n. line_told port t n ∷ []) t.nodes in
    ap (λ u. lines_in (parts 10 u)) (sym (append-nil (below (node_line port t) t.nodes)))
    ∙ lines_read (node_line port t) (line_told port t) t.nodes [] (λ n lt. line_read port t n told lt)
    ∙ ap (λ (xs : List NodeLine). Some xs) (append-nil lines)
