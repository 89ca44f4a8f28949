use Rattle.std.proofs.Common.{codes}
use Rattle.redirect_client.proofs.Addresses.{found_none, stripped, no_port, at_port}
use Rattle.redirect_client.proofs.reading.node_of_address.Goals as goal

pub returns-in_err-port : goal.returns-in_err-port
returns-in_err-port c =
    let p = c.in_ok-strip_prefix.ensures.cases in
    let is = stripped (codes "127.0.0.1:") c.args.text.now c.in_ok-strip_prefix.field-0.now p.0 p.1 in
    found_none c.from_residual-in_err-port.result _ _ c.from_residual-in_err-port.ensures
    (no_port c.args.base_port c.args.nodes c.from-first.result c.from.result c.args.text.now
    c.in_ok-strip_prefix.field-0.now c.requires.port c.requires.most c.from-first.ensures c.from.ensures is
    c.in_err-port.ensures.value)

pub returns : goal.returns
returns c =
    let p = c.in_ok-strip_prefix.ensures.cases in
    let is = stripped (codes "127.0.0.1:") c.args.text.now c.in_ok-strip_prefix.field-0.now p.0 p.1 in
    at_port c.args.base_port c.args.nodes c.from-first.result c.from.result c.args.text.now
    c.in_ok-strip_prefix.field-0.now c.requires.port c.requires.most c.from-first.ensures c.from.ensures is
    c.in_ok-port.port c.of.result c.requires.some c.in_ok-port.ensures.value c.of.ensures
