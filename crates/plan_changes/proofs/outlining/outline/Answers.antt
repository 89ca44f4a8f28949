use Rattle.std.proofs.Common.{ℕ, Bor, List, option_map}
use Rattle.plan_language.specs.Lines.{plan_commands}
use Rattle.plan_changes.proofs.Outlined.{outlined}
use Rattle.plan_changes.proofs.Telling.{finals_named}
use Rattle.plan_changes.proofs.outlining.outline.Goals as goal

pub outline_of-requires-clause-named_after : goal.outline_of-requires-clause-named_after
outline_of-requires-clause-named_after c =
    finals_named c.args.plan.now.version c.args.owners.now.nodes c.nodes-nodes.result
    (λ n. plan_commands n c.args.plan.now.lines) c.in_ok-commands.commands.items c.as_slice.result.now
    c.args.owners.now.owners c.in_ok-before.before.items c.as_slice-2.result.now c.in_ok-after.after.items
    c.as_slice-5.result.now c.nodes-nodes.ensures.value c.requires.legal c.as_slice.ensures.value
    c.in_ok-commands.ensures.commands c.as_slice-2.ensures.value c.in_ok-before.ensures c.as_slice-5.ensures.value
    c.nodes-nodes.ensures.named c.in_ok-after.ensures.named

pub returns : goal.returns
returns c =
    outlined c.args.plan.now.version c.nodes-nodes.result c.args.owners.now.nodes
    (λ n. plan_commands n c.args.plan.now.lines)
    (option_map {T = Bor (List ℕ)} {U = List ℕ} (λ k. k.now) c.args.keys) c.known_keys.result.now c.in_ok-load.load
    c.as_slice-3.result.now c.in_ok-commands.commands.items c.as_slice-4.result.now c.in_ok-before.before.items
    c.args.owners.now.owners c.nodes-nodes.ensures.value c.requires.legal c.as_slice-3.ensures.value
    c.in_ok-commands.ensures.commands c.as_slice-4.ensures.value c.in_ok-before.ensures c.known_keys.ensures
    c.in_ok-load.ensures c.outline_of.result c.outline_of.ensures
