use Rattle.std.proofs.Common.{◌∙◌, ap, sym}
use Rattle.loopback_servers.proofs.Served.{is_served}
use Rattle.loopback_servers.proofs.Told.{told_ports, told_to_close, told_to_end}
use Rattle.loopback_servers.proofs.serving.serve_setup.Goals as goal

pub returns-clause-announced : goal.returns-clause-announced
returns-clause-announced g c =
    is_served g.W.ByteOut.took g.W.ByteOut.failures g.met.W.ByteOut.took_then c.args.options.now c.args.setup.owners
    c.args.setup.opening.base_port c.args.plan c.in-Ok.admin c.in_ok-seats.admin c.close-closed.result.trail
    c.args.writer.now c.announce_serving.new.writer c.serve_beside.new.writer c.announce_closed.new.writer c.in_ok-seats.status
    c.in-Ok.ensures (c.close-closed.ensures.owners ∙ ap (λ s. s.owners) (sym c.requires.setup))
    (c.close-closed.ensures.port ∙ ap (λ s. s.opening.base_port) (sym c.requires.setup))
    (c.close-closed.result.nodes, c.close-closed.ensures.run) c.close-closed.ensures.admin
    c.in_ok-announce_serving.ensures.announced c.in_ok-seats.ensures.announced
    c.in_ok-announce_closed.ensures.announced

pub returns-in_err-seats-clause-told : goal.returns-in_err-seats-clause-told
returns-in_err-seats-clause-told g c =
    told_to_end g.W.ByteOut.took g.W.ByteOut.failures g.met.W.ByteOut.took_then c.args.options.now c.args.setup.owners
    c.args.setup.opening.base_port c.args.plan c.in-Ok.admin c.args.writer.now c.announce_serving.new.writer c.serve_beside.new.writer
    c.in-Ok.ensures c.in_ok-announce_serving.ensures.announced c.serve_beside.ensures.told

pub returns-in_err-announce_closed-clause-told : goal.returns-in_err-announce_closed-clause-told
returns-in_err-announce_closed-clause-told g c =
    told_to_close g.W.ByteOut.took g.W.ByteOut.failures g.met.W.ByteOut.took_then c.args.options.now c.args.setup.owners
    c.args.setup.opening.base_port c.args.plan c.in-Ok.admin c.in_ok-seats.admin c.close-closed.result.trail c.in_ok-seats.status
    c.args.writer.now c.announce_serving.new.writer c.serve_beside.new.writer c.announce_closed.new.writer
    c.in-Ok.ensures (c.close-closed.ensures.owners ∙ ap (λ s. s.owners) (sym c.requires.setup))
    (c.close-closed.ensures.port ∙ ap (λ s. s.opening.base_port) (sym c.requires.setup))
    (c.close-closed.result.nodes, c.close-closed.ensures.run) c.close-closed.ensures.admin
    c.in_ok-announce_serving.ensures.announced c.in_ok-seats.ensures.announced c.announce_closed.ensures.wrote

pub returns-clause-told : goal.returns-clause-told
returns-clause-told g c =
    told_to_close g.W.ByteOut.took g.W.ByteOut.failures g.met.W.ByteOut.took_then c.args.options.now c.args.setup.owners
    c.args.setup.opening.base_port c.args.plan c.in-Ok.admin c.in_ok-seats.admin c.close-closed.result.trail c.in_ok-seats.status
    c.args.writer.now c.announce_serving.new.writer c.serve_beside.new.writer c.announce_closed.new.writer
    c.in-Ok.ensures (c.close-closed.ensures.owners ∙ ap (λ s. s.owners) (sym c.requires.setup))
    (c.close-closed.ensures.port ∙ ap (λ s. s.opening.base_port) (sym c.requires.setup))
    (c.close-closed.result.nodes, c.close-closed.ensures.run) c.close-closed.ensures.admin
    c.in_ok-announce_serving.ensures.announced c.in_ok-seats.ensures.announced c.announce_closed.ensures.wrote

pub returns-in_err-announce_serving-clause-told : goal.returns-in_err-announce_serving-clause-told
returns-in_err-announce_serving-clause-told g c =
    told_ports g.W.ByteOut.took g.W.ByteOut.failures c.args.options.now c.args.setup.owners c.args.setup.opening.base_port c.args.plan
    g.met.W.ByteOut.took_none c.args.writer.now c.announce_serving.new.writer c.announce_serving.ensures.wrote
