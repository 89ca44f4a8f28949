use Rattle.std.proofs.Common.{rules, ◌≡◌, List, [], ◌∷◌, ◌++◌, ℕ, decimal}
use Rattle.server_links.proofs.Spelling.{counted_behind, front_is}
use Rattle.server_links.proofs.array_header.replies_after.Goals as goal

pub returns-then-eq-clause-begins : goal.returns-then-eq-clause-begins
returns-then-eq-clause-begins c =
    let a : List ℕ = c.in_ok-strip_prefix.field-0.now in
    let b : List ℕ = c.in_ok-after.after.now in
    let first = c.in_ok-strip_prefix.ensures.cases in
    let second = c.in_ok-after.ensures.cases in
    let is : c.args.rest.now ≡ c.args.digits.now ++ a = front_is c.args.rest.now c.args.digits.now a first.0 first.1 in
    let begins : a ≡ (13 ∷ 10 ∷ []) ++ b = front_is a (13 ∷ 10 ∷ []) b second.0 second.1 in
    let number : c.as_bytes.result.now ≡ c.args.digits.now = search rules in
    let spelled : c.as_bytes.result.now ≡ decimal c.in_ok-count.count = search rules in
    counted_behind c.args.rest.now a b c.args.digits.now c.as_bytes.result.now c.in_ok-count.count is begins number spelled
