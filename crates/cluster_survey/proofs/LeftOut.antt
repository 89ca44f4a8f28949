-- The masters that are left out, one line after the other.
use Rattle.std.proofs.Common.{◌≡◌, ℕ, ◌+◌, ◌<◌, ◌≤◌, true, false, cond, List, [], ◌∷◌, ◌++◌, length, map, take, get_or}
use Rattle.std.proofs.Common.{filter, refl, sym, ap, ◌∙◌, append-nil}
use Rattle.std.proofs.lemmas.List.{map-append, take_all, take_more}
use Rattle.std.proofs.lemmas.List.Elements.{filter-append}
use Rattle.listed_nodes.specs.declared.node_line.NodeLine.{NodeLine}
use Rattle.server_commands.specs.declared.book.Server.{Server}
use Rattle.cluster_views.specs.Gone.{is_gone}
use Rattle.cluster_survey.specs.Masters.{left_out, server_of}

left_next : (ls : List NodeLine) (i : ℕ) (l : NodeLine) → i < length ls → l ≡ get_or ls i l
    → left_out (take (i + 1) ls) ≡ left_out (take i ls) ++ left_out (l ∷ [])
left_next ls i l lt is =
    ap left_out (take_more ls i l lt ∙ ap (λ x. take i ls ++ x ∷ []) (sym is))
    ∙ ap (map server_of) (filter-append is_gone (take i ls) (l ∷ []))
    ∙ map-append server_of (filter is_gone (take i ls)) (filter is_gone (l ∷ []))

-- this line is left out
pub one_left : (ls : List NodeLine) (i : ℕ) (l : NodeLine) (ss ss' : List Server) (s : Server) → i < length ls
    → l ≡ get_or ls i l → is_gone l ≡ true → ss ≡ left_out (take i ls) → s ≡ server_of l → ss' ≡ ss ++ s ∷ []
    → ss' ≡ left_out (take (i + 1) ls)
one_left ls i l ss ss' s lt is gone before same put =
    put
    ∙ ap (λ x. ss ++ x ∷ []) same
    ∙ ap (λ xs. xs ++ server_of l ∷ []) before
    ∙ sym (left_next ls i l lt is
    ∙ ap (λ b. left_out (take i ls) ++ map server_of (cond b (l ∷ []) [])) gone)

-- this one is not
pub none_left : (ls : List NodeLine) (i : ℕ) (l : NodeLine) (ss : List Server) → i < length ls
    → l ≡ get_or ls i l → is_gone l ≡ false → ss ≡ left_out (take i ls) → ss ≡ left_out (take (i + 1) ls)
none_left ls i l ss lt is there before =
    before
    ∙ sym (left_next ls i l lt is
    ∙ ap (λ b. left_out (take i ls) ++ map server_of (cond b (l ∷ []) [])) there
    ∙ append-nil (left_out (take i ls)))

pub all_left : (ls : List NodeLine) (i : ℕ) (ss : List Server) → length ls ≤ i → ss ≡ left_out (take i ls)
    → ss ≡ left_out ls
all_left ls i ss le before = before ∙ ap left_out (take_all i ls le)

pub ruleset are_left_out = (one_left, none_left, all_left)
