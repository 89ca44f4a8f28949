use Rattle.std.proofs.Common.{rules, ◌≡◌, List, [], ◌∷◌, ◌++◌, ℕ, decimal, length}
use Rattle.server_links.proofs.Spelling.{behind, end_is, front_is}
use Rattle.server_links.proofs.long_text.text_after.Goals as goal

pub returns-then-eq : goal.returns-then-eq
returns-then-eq c =
    let a : List ℕ = c.in_ok-strip_prefix.field-0.now in
    let b : List ℕ = c.in_ok-strip_prefix-2.field-0.now in
    let t : List ℕ = c.in_ok-text.text.now in
    let first = c.in_ok-strip_prefix.ensures.cases in
    let second = c.in_ok-strip_prefix-2.ensures.cases in
    let third = c.in_ok-text.ensures.cases in
    let is : c.args.rest.now ≡ c.args.digits.now ++ a = front_is c.args.rest.now c.args.digits.now a first.0 first.1 in
    let begins : a ≡ (13 ∷ 10 ∷ []) ++ b = front_is a (13 ∷ 10 ∷ []) b second.0 second.1 in
    let ends : b ≡ t ++ 13 ∷ 10 ∷ [] = end_is b (13 ∷ 10 ∷ []) t third.0 third.1 in
    let number : c.as_bytes.result.now ≡ c.args.digits.now = search rules in
    let spelled : c.as_bytes.result.now ≡ decimal (length t) = search rules in
    behind c.args.rest.now a b c.args.digits.now t c.as_bytes.result.now is begins ends number spelled
