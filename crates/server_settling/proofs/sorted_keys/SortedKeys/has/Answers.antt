use Rattle.std.proofs.Common.{◌≡◌, rules, sym, ap, subst, ◌∙◌}
use Rattle.std.specs.Cmp.Lexicographic.{slice_cmp}
use Rattle.std.specs.List.Sorted.{IsSorted}
use Rattle.std.specs.Ordering.{nat_cmp}
use Rattle.std.proofs.lemmas.Fn.{always_returns_same}
use Rattle.server_settling.proofs.Searches.{found}
use Rattle.server_settling.specs.Keys.{has}
use Rattle.server_settling.proofs.sorted_keys.SortedKeys.has.Goals as goal

pub returns : goal.returns
returns c =
    let key = c.args.key.now in
    let told = c.binary_search_by.ensures.position (λ y. slice_cmp nat_cmp y key) (always_returns_same _ (λ a r. r ≡ slice_cmp nat_cmp a.0.now key) _ (λ a r g h. search rules)) in
    let up = subst (IsSorted (slice_cmp nat_cmp)) (sym c.get.ensures) c.self.invariant.0 in
    c.is_ok.ensures.value
    ∙ found c.get.result.now key c.binary_search_by.result c.binary_search_by.ensures.bound up told
    ∙ ap (λ xs. has xs key) (c.get.ensures ∙ c.self.view_is)
