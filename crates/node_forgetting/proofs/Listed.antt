-- The other nodes, one line after the other.
use Rattle.std.proofs.Common.{◌≡◌, ℕ, ◌+◌, ◌<◌, ◌≤◌, true, false, cond, List, [], ◌∷◌, ◌++◌, length, map, take, get_or}
use Rattle.std.proofs.Common.{filter, sym, ap, ◌∙◌, append-nil}
use Rattle.std.proofs.lemmas.List.{map-append, take_all, take_more}
use Rattle.std.proofs.lemmas.List.Elements.{filter-append}
use Rattle.listed_nodes.specs.declared.node_line.NodeLine.{NodeLine}
use Rattle.cluster_survey.specs.Masters.{server_of}
use Rattle.server_commands.specs.declared.book.Server.{Server}
use Rattle.node_forgetting.specs.Others.{is_other, others}

others_next : (id : List ℕ) (ls : List NodeLine) (i : ℕ) (l : NodeLine) → i < length ls → l ≡ get_or ls i l
    → others id (take (i + 1) ls) ≡ others id (take i ls) ++ others id (l ∷ [])
others_next id ls i l lt is =
    ap (others id) (take_more ls i l lt ∙ ap (λ x. take i ls ++ x ∷ []) (sym is))
    ∙ ap (map server_of) (filter-append (is_other id) (take i ls) (l ∷ []))
    ∙ map-append server_of (filter (is_other id) (take i ls)) (filter (is_other id) (l ∷ []))

-- this line is another node's
pub one_other : (id : List ℕ) (ls : List NodeLine) (i : ℕ) (l : NodeLine) (ss ss' : List Server) (s : Server)
    → i < length ls → l ≡ get_or ls i l → is_other id l ≡ true → ss ≡ others id (take i ls) → s ≡ server_of l
    → ss' ≡ ss ++ s ∷ [] → ss' ≡ others id (take (i + 1) ls)
one_other id ls i l ss ss' s lt is other before same put =
    put
    ∙ ap (λ x. ss ++ x ∷ []) same
    ∙ ap (λ xs. xs ++ server_of l ∷ []) before
    ∙ sym (others_next id ls i l lt is
    ∙ ap (λ b. others id (take i ls) ++ map server_of (cond b (l ∷ []) [])) other)

-- this one is the node's own
pub own_line : (id : List ℕ) (ls : List NodeLine) (i : ℕ) (l : NodeLine) (ss : List Server) → i < length ls
    → l ≡ get_or ls i l → is_other id l ≡ false → ss ≡ others id (take i ls) → ss ≡ others id (take (i + 1) ls)
own_line id ls i l ss lt is own before =
    before
    ∙ sym (others_next id ls i l lt is
    ∙ ap (λ b. others id (take i ls) ++ map server_of (cond b (l ∷ []) [])) own
    ∙ append-nil (others id (take i ls)))

pub all_others : (id : List ℕ) (ls : List NodeLine) (i : ℕ) (ss : List Server) → length ls ≤ i
    → ss ≡ others id (take i ls) → ss ≡ others id ls
all_others id ls i ss le before = before ∙ ap (others id) (take_all i ls le)

pub ruleset are_others = (one_other, own_line, all_others)
