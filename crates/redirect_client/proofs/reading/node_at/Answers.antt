use Rattle.std.proofs.Common.{◌≡◌, ℕ, ◌+◌, ◌-◌, ◌<◌, length, take, drop, sym, subst, ◌∙◌}
use Rattle.redirect_client.proofs.Addresses.{no_blank, no_slot, other_slot, at_slot, found_none, rest_of}
use Rattle.redirect_client.proofs.reading.node_at.Goals as goal

small : (n s : ℕ) → n ≡ s → n < 16384 → s < 16384
small n s e h = subst (λ k. k < 16384) e h

pub returns-in_err-at : goal.returns-in_err-at
returns-in_err-at c =
    found_none c.from_residual.result _ _ c.from_residual.ensures
    (no_blank c.args.base_port c.args.slot c.args.nodes c.args.place.now
    (small c.get-number.result c.args.slot c.get-number.ensures.value c.get-number.ensures.within) c.in_err-at.ensures.place)

pub returns-in_err-named : goal.returns-in_err-named
returns-in_err-named c =
    found_none c.from_residual-in_err-named.result _ _ c.from_residual-in_err-named.ensures
    (no_slot c.args.base_port c.args.slot c.args.nodes c.args.place.now
    (small c.get-number.result c.args.slot c.get-number.ensures.value c.get-number.ensures.within) c.in_ok-at.at
    c.in_ok-at.ensures.place c.in_err-named.ensures)

pub returns : goal.returns
returns c =
    at_slot c.args.base_port c.args.slot c.args.nodes c.args.place.now
    (small c.get-number.result c.args.slot c.get-number.ensures.value c.get-number.ensures.within) c.in_ok-at.at
    c.in_ok-at.ensures.place
    (take (length c.args.place.now - (c.in_ok-at.at + 1)) (drop (c.in_ok-at.at + 1) c.args.place.now))
    (rest_of c.args.place.now (c.in_ok-at.at + 1)) c.in_ok-named.named c.in_ok-named.ensures
    (sym c.get.ensures.value ∙ c.if-get-number.false ∙ c.get-number.ensures.value) c.node_of_address.result
    c.node_of_address.ensures

pub returns-then-get-number : goal.returns-then-get-number
returns-then-get-number c =
    other_slot c.args.base_port c.args.slot c.args.nodes c.args.place.now
    (small c.get-number.result c.args.slot c.get-number.ensures.value c.get-number.ensures.within) c.in_ok-at.at
    c.in_ok-at.ensures.place c.in_ok-named.named c.in_ok-named.ensures
    (λ e. c.if-get-number.true (c.get.ensures.value ∙ e ∙ sym c.get-number.ensures.value))
