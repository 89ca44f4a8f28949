use Rattle.std.proofs.Common.{◌≡◌, ℕ, ◌≤◌, length, ap, sym, subst, ◌∙◌}
use Rattle.std.proofs.lemmas.List.{length-replicate}
use Rattle.key_slots.specs.Owners.{Owners}
use Rattle.cluster_world.specs.Worlds.{World}
use Rattle.cluster_world.specs.WorldView.{new_node, new_world}
use Rattle.loopback_servers.proofs.Told.{told_over}
use Rattle.loopback_servers.proofs.serving.serve_from.Goals as goal

few_nodes : (w : World) (port : ℕ) (t : Owners) → w ≡ new_world port t.nodes t.owners → t.nodes ≤ 8 → length w.nodes ≤ 8
few_nodes w port t is few =
    subst (λ n. n ≤ 8) (sym (ap (λ (v : World). length v.nodes) is ∙ length-replicate t.nodes (new_node t.owners))) few

pub serve_setup-requires-clause-few : goal.serve_setup-requires-clause-few
serve_setup-requires-clause-few g c = λ κs lives.
    few_nodes c.in_ok-setup.setup.opening c.args.options.now.base_port c.args.owners c.in_ok-setup.ensures.opening
    c.requires.few

pub returns-clause-told : goal.returns-clause-told
returns-clause-told g c =
    told_over g.W.ByteOut.took g.W.ByteOut.failures c.args.options.now c.in_ok-setup.setup.owners c.in_ok-setup.setup.opening.base_port
    c.args.plan c.args.owners c.args.options.now.base_port c.args.writer.now c.serve_setup.new.writer
    c.in_ok-setup.ensures.owners (ap (λ (w : World). w.base_port) c.in_ok-setup.ensures.opening) c.serve_setup.ensures.told
