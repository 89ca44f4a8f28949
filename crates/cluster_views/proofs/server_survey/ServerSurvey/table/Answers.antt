use Rattle.std.proofs.Common.{◌≡◌, ◌+◌, subst, sym, ap, ◌∙◌, arith}
use Rattle.key_slots.specs.Owners.{Owners}
use Rattle.slot_marks.specs.Tables.{Table}
use Rattle.cluster_admin.specs.Surveys.{importing_at, migrating_at}
use Rattle.cluster_views.specs.Rows.{with_coming, with_going}
use Rattle.cluster_views.proofs.Marked.{MarkedTable, new_table, slot_marked, table_whole}
use Rattle.cluster_views.proofs.server_survey.ServerSurvey.table.Goals as goal

pub loop-number-init : goal.loop-number-init
loop-number-init c =
    let t = c.in_ok-table.ensures in
    let o = c.in_ok-owners.ensures ∙ c.owners.ensures in
    new_table c.args.self.now c.args.node c.in_ok-table.table
    (ap (λ (x : Table). x.me) t)
    (ap (λ (x : Table). x.nodes) t ∙ ap (λ (x : Owners). x.nodes) o)
    (ap (λ (x : Table). x.owners) t ∙ ap (λ (x : Owners). x.owners) o)
    (ap (λ (x : Table). x.migrating) t)
    (ap (λ (x : Table). x.importing) t)

pub loop-number-preserved : goal.loop-number-preserved
loop-number-preserved c =
    let v = c.args.self.now in
    let n = c.args.node in
    let i = c.loop-number.number in
    let t = c.loop-number.table in
    let here = c.of-slot.ensures in
    let going : c.put_going.new.table ≡ with_going t i (migrating_at v n i) =
    c.if-not-put_going.ensures.done
    ∙ ap (with_going t c.of-slot.result) c.migrating.ensures.value
    ∙ ap (λ k. with_going t k (migrating_at v n k)) here in
    let coming : c.put_coming.new.table ≡ with_coming (with_going t i (migrating_at v n i)) i (importing_at v n i) =
    c.if-not-put_coming.ensures.done
    ∙ ap (with_coming c.put_going.new.table c.of-slot.result) c.importing.ensures.value
    ∙ ap (λ k. with_coming c.put_going.new.table k (importing_at v n k)) here
    ∙ ap (λ (x : Table). with_coming x i (importing_at v n i)) going in
    subst (MarkedTable v n (i + 1)) (sym coming) (slot_marked v n i t c.loop-number.invariant)

pub returns : goal.returns
returns c =
    let e : c.loop-number.number ≡ 16384 = omega arith in
    table_whole c.args.self.now c.args.node c.loop-number.table
    (subst (λ k. MarkedTable c.args.self.now c.args.node k c.loop-number.table) e c.loop-number.invariant)
    c.nodes-slots.ensures.slots c.nodes-nodes.ensures.width c.nodes-nodes.ensures.named
