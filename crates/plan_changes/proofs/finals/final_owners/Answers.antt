use Rattle.std.proofs.Common.{◌≡◌, ◌<◌, fold, rules, subst, sym}
use Rattle.std.specs.List.{All}
use Rattle.cluster_admin.specs.Phases.{closed_by}
use Rattle.plan_semantics.specs.Plans.{IsFinal}
use Rattle.plan_changes.specs.Finals.{owners_after, told}
use Rattle.plan_changes.proofs.Telling.{are_final, named_after}
use Rattle.plan_changes.proofs.Walks.{walk_all}
use Rattle.plan_changes.proofs.finals.final_owners.Goals as goal

value : (c : goal.After-loop-command) → c.loop-command.owners.items ≡ fold told c.args.before.now c.args.commands.now
value c =
    walk_all told c.args.before.now c.args.commands.now c.loop-command.command-index c.loop-command.owners.items (search rules) c.loop-command.invariant

pub returns-clause-value : goal.returns-clause-value
unfolding owners_after
returns-clause-value c = value c

pub returns-clause-are_final : goal.returns-clause-are_final
unfolding owners_after
returns-clause-are_final c =
    subst (IsFinal c.args.commands.now (closed_by c.args.before.now)) (sym (value c)) (are_final c.args.commands.now c.args.before.now c.requires)

pub returns-clause-named : goal.returns-clause-named
returns-clause-named c n tells named =
    subst (All (λ m. m < n)) (sym (value c)) (named_after n c.args.commands.now c.args.before.now tells named)
