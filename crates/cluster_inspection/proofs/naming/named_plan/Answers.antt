use Rattle.std.proofs.Common.{rules}
use Rattle.cluster_inspection.proofs.Listing.{listed_by, some_names}
use Rattle.cluster_inspection.proofs.naming.named_plan.Goals as goal

pub reads_back-requires-2 : goal.reads_back-requires-2
reads_back-requires-2 c =
    listed_by c.args.book.now c.args.plan c.with_names-plan.result c.in_ok-names.names c.lines.result.now
    (some_names _ _ c.args.plan.names c.names.ensures (search rules)) c.lines.ensures.value c.with_names-plan.ensures
    c.in_ok-names.ensures.named c.in_ok-names.ensures.none_beyond c.lines.ensures.plan

pub returns-clause-listed : goal.returns-clause-listed
returns-clause-listed c =
    listed_by c.args.book.now c.args.plan c.with_names-plan.result c.in_ok-names.names c.lines.result.now
    (some_names _ _ c.args.plan.names c.names.ensures (search rules)) c.lines.ensures.value c.with_names-plan.ensures
    c.in_ok-names.ensures.named c.in_ok-names.ensures.none_beyond c.lines.ensures.plan
