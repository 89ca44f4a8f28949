use Rattle.std.proofs.Common.{rules, ap, ◌∙◌}
use Rattle.plan_language.specs.Lines.{plan_commands}
use Rattle.plan_changes.specs.Loads.{load_of}
use Rattle.server_infos.specs.Asking.{AsksFigures}
use Rattle.plan_previews.proofs.Servers.{are_servers}
use Rattle.plan_previews.proofs.counting.counted.Goals as goal

pub returns : goal.returns
returns g c =
    let asks = AsksFigures (record { gave = g.I.ByteIn.gave; took = g.O.ByteOut.took }) in
    record {
      counts = record {
        width = search rules;
        load = c.of-load.ensures
            ∙ (λ i. load_of (c.as_slice.ensures.value i) (plan_commands (c.nodes-nodes.ensures.value i) (c.in_ok-loaded.ensures i).lines));
        servers = are_servers asks c.args.book.now c.in_ok-servers.servers.items c.in_ok-servers.ensures.told;
      };
    }
