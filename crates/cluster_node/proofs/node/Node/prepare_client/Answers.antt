use Rattle.std.proofs.Common.{◌≡◌, ap, sym, subst, ◌∙◌, get_or, IfOk}
use Rattle.client_commands.specs.Commands.{keys}
use Rattle.slot_keyspace.specs.OneSlot.{AreInSlot}
use Rattle.slot_marks.specs.Verdicts.{first_slot}
use Rattle.cluster_node.specs.Nodes.{node_verdict}
use Rattle.cluster_node.specs.Redirections.{redirection}
use Rattle.cluster_node.specs.Changing.{reply_in}
use Rattle.cluster_node.proofs.Served.{first_slot-head, one_slot-served}
use Rattle.cluster_node.proofs.Prepared.{prepared-served, prepared-told, memory-marked, memory-served, memory-told, work-told}
use Rattle.cluster_node.proofs.node.Node.prepare_client.Goals as goal

pub prepare_served-requires : goal.prepare_served-requires
prepare_served-requires c =
    let x = c.args.self.now in
    let is = c.in_ok-verdict.ensures.verdict ∙ ap (node_verdict x.me x.node c.args.asking) c.keys-keys.ensures.value in
    let slot = c.slot_of-slot.ensures.value ∙ first_slot-head c.keys-keys.result.now c.get.result.now c.keys-keys.ensures.some (subst (λ k. k ≡ get_or c.keys-keys.result.now 0 k) (sym c.get.ensures.value) c.index-keys-0.is) ∙ ap first_slot c.keys-keys.ensures.value in
    subst (λ s. AreInSlot s (keys c.args.command.now)) (sym slot) (one_slot-served x.me x.node c.args.asking (keys c.args.command.now) c.in_ok-verdict.verdict is c.in-Serve.is)

pub returns-in-Serve-clause-prepared : goal.returns-in-Serve-clause-prepared
returns-in-Serve-clause-prepared c =
    let x = c.args.self.now in
    let is = c.in_ok-verdict.ensures.verdict ∙ ap (node_verdict x.me x.node c.args.asking) c.keys-keys.ensures.value in
    prepared-served x c.args.asking c.args.command.now c.in_ok-verdict.verdict c.prepare_served.result is c.in-Serve.is
    c.prepare_served.ensures.reply c.prepare_served.ensures.node c.prepare_served.ensures.whole

pub returns-in_default-clause-prepared : goal.returns-in_default-clause-prepared
returns-in_default-clause-prepared c =
    let x = c.args.self.now in
    let is = c.in_ok-verdict.ensures.verdict ∙ ap (node_verdict x.me x.node c.args.asking) c.keys-keys.ensures.value in
    let slot = c.slot_of-slot.ensures.value ∙ first_slot-head c.keys-keys.result.now c.get.result.now c.keys-keys.ensures.some (subst (λ k. k ≡ get_or c.keys-keys.result.now 0 k) (sym c.get.ensures.value) c.index-keys-0.is) ∙ ap first_slot c.keys-keys.ensures.value in
    prepared-told x c.args.asking c.args.command.now c.in_ok-verdict.verdict c.prepare_redirection.result is c.in_default.not-Serve
    (subst (λ s. IfOk c.prepare_redirection.result (λ d. reply_in d ≡ redirection x.base_port s c.in_ok-verdict.verdict)) slot c.prepare_redirection.ensures.reply)
    c.prepare_redirection.ensures.node c.prepare_redirection.ensures.whole

pub returns-in_err-verdict-clause-memory : goal.returns-in_err-verdict-clause-memory
returns-in_err-verdict-clause-memory c =
    let slot = c.slot_of-slot.ensures.value ∙ first_slot-head c.keys-keys.result.now c.get.result.now c.keys-keys.ensures.some (subst (λ k. k ≡ get_or c.keys-keys.result.now 0 k) (sym c.get.ensures.value) c.index-keys-0.is) ∙ ap first_slot c.keys-keys.ensures.value in
    memory-marked c.args.self.now c.args.asking c.args.command.now c.slot_of-slot.result c.from_residual.result slot c.in_err-verdict.ensures.memory

pub returns-in-Serve-clause-memory : goal.returns-in-Serve-clause-memory
returns-in-Serve-clause-memory c =
    let x = c.args.self.now in
    let is = c.in_ok-verdict.ensures.verdict ∙ ap (node_verdict x.me x.node c.args.asking) c.keys-keys.ensures.value in
    memory-served x c.args.asking c.args.command.now c.in_ok-verdict.verdict c.prepare_served.result is c.in-Serve.is c.prepare_served.ensures.memory

pub returns-in_default-clause-memory : goal.returns-in_default-clause-memory
returns-in_default-clause-memory c =
    let x = c.args.self.now in
    let is = c.in_ok-verdict.ensures.verdict ∙ ap (node_verdict x.me x.node c.args.asking) c.keys-keys.ensures.value in
    memory-told x c.args.asking c.args.command.now c.in_ok-verdict.verdict c.prepare_redirection.result is c.in_default.not-Serve

pub returns-in_default-clause-work : goal.returns-in_default-clause-work
returns-in_default-clause-work c = work-told c.args.command.now c.prepare_redirection.result c.prepare_redirection.ensures.work
