use Rattle.std.proofs.Common.{◌≡◌, ◌+◌, ◌∷◌, [], length, ◌∙◌, ap, arith, sym}
use Rattle.std.proofs.lemmas.List.{length-append}
use Rattle.server_phases.proofs.Tables.{new_table, no_tables, tables_more}
use Rattle.server_phases.proofs.opening.tables_told.Goals as goal

pub loop-number-init : goal.loop-number-init
loop-number-init c = record {
  many = ap length c.new-tables.ensures.items;
  told = no_tables c.args.survey.now c.new-tables.result.items c.new-tables.ensures.items;
}

pub loop-number-preserved : goal.loop-number-preserved
loop-number-preserved c =
    let v = c.args.survey.now in
    let before = c.loop-number.tables.items in
    let t = c.in_ok-table.table in
    let is = new_table v c.of-node.result c.in_ok-owners.owners t (c.in_ok-owners.ensures ∙ c.owners.ensures) c.in_ok-table.ensures
    c.nodes-nodes.ensures.width c.nodes-nodes.ensures.named in
    record {
      many = ap length c.in_ok-push.ensures.items ∙ length-append before (t ∷ []) ∙ ap (λ n. n + 1) c.loop-number.invariant.many;
      told = tables_more v before c.push.new.self.items c.of-node.result t c.loop-number.invariant.told
          c.in_ok-push.ensures.items (c.of-node.ensures ∙ sym c.loop-number.invariant.many) is;
    }
