use Rattle.std.proofs.Common.{codes, sym, ◌∙◌}
use Rattle.redirect_client.proofs.Addresses.{stripped}
use Rattle.redirect_client.proofs.Meanings.{moved_at, ask_at, bad_moved, bad_ask, same_text, means_again}
use Rattle.redirect_client.proofs.reading.meaning_of_error.Goals as goal

pub returns-in-Some-node_at : goal.returns-in-Some-node_at
returns-in-Some-node_at c =
    let p = c.in-Some.ensures.cases in
    let is = stripped (codes "MOVED ") c.args.text.now c.in-Some.place.now p.0 p.1 in
    moved_at c.args.base_port c.args.nodes c.args.slot c.args.text.now c.in-Some.place.now is c.in-Some-node_at.owner
    c.in-Some-node_at.ensures.0 c.in-Some-node_at.ensures.1

pub returns-in-None : goal.returns-in-None
returns-in-None c =
    let p = c.in-Some.ensures.cases in
    let is = stripped (codes "MOVED ") c.args.text.now c.in-Some.place.now p.0 p.1 in
    bad_moved c.args.base_port c.args.nodes c.args.slot c.args.text.now c.in-Some.place.now is c.in-None.ensures

pub returns-in-Some-node_at-2 : goal.returns-in-Some-node_at-2
returns-in-Some-node_at-2 c =
    let p = c.in-Some-strip_prefix.ensures.cases in
    let is = stripped (codes "ASK ") c.args.text.now c.in-Some-strip_prefix.place.now p.0 p.1 in
    ask_at c.args.base_port c.args.nodes c.args.slot c.args.text.now c.in-Some-strip_prefix.place.now is
    c.in-Some-node_at-2.target c.in-Some-node_at-2.ensures.0 c.in-Some-node_at-2.ensures.1

pub returns-in-None-node_at : goal.returns-in-None-node_at
returns-in-None-node_at c =
    let p = c.in-Some-strip_prefix.ensures.cases in
    let is = stripped (codes "ASK ") c.args.text.now c.in-Some-strip_prefix.place.now p.0 p.1 in
    bad_ask c.args.base_port c.args.nodes c.args.slot c.args.text.now c.in-Some-strip_prefix.place.now is
    c.in-None-node_at.ensures

pub returns-then-eq : goal.returns-then-eq
returns-then-eq c =
    means_again c.args.base_port c.args.nodes c.args.slot c.args.text.now
    (same_text c.args.text.now (codes "TRYAGAIN Multiple keys request during rehashing of slot") (sym c.eq.ensures ∙ c.if-eq.true))
