use Rattle.std.proofs.Common.{◌∙◌, sym, ap, length, ◌==◌, ◌%◌, subst}
use Rattle.std.proofs.lemmas.Result.{err_from_is_err_and}
use Rattle.client_commands.proofs.Pairs.{odd_refused, pairs_answered}
use Rattle.client_commands.proofs.arity.pairs_of.Goals as goal

pub returns-then-as_slice-ne0-clause-err : goal.returns-then-as_slice-ne0-clause-err
returns-then-as_slice-ne0-clause-err c = odd_refused c.args.arguments.items (λ e. c.if-as_slice-ne0.true (ap (λ xs. length xs % 2) c.as_slice-2.ensures.value ∙ e))

pub returns-in_err-in_pairs-clause-err : goal.returns-in_err-in_pairs-clause-err
returns-in_err-in_pairs-clause-err c =
    let p = err_from_is_err_and c.from_residual.result c.from_residual.ensures.1 in
    rw (p.1, p.2)
    (pairs_answered c.args.arguments.items (ap (λ xs. length xs == 0) (sym c.as_slice.ensures.value) ∙ sym c.is_empty.ensures ∙ c.if-is_empty.false)
    (ap (λ xs. length xs % 2) (sym c.as_slice-2.ensures.value) ∙ c.if-as_slice-ne0.false))
