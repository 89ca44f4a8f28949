use Rattle.std.proofs.Common.{arith, rules, ◌≡◌, ◌+◌, ◌++◌, ap, ◌∙◌}
use Rattle.std.proofs.lemmas.Result.{on_ok_weaker}
use Rattle.std.specs.List.{flat_map}
use Rattle.std.specs.Prelude.{codes}
use Rattle.key_slots.specs.Ranges.{owner_ranges}
use Rattle.cluster_reports.specs.NodeLines.{address_words, line_marks, role_words, word_of}
use Rattle.cluster_reports.proofs.Chains.{five}
use Rattle.cluster_reports.proofs.node_lines.put_line.Goals as goal

pub returns : goal.returns
returns c =
    let t = c.args.table.now in
    let n = c.args.node in
    let port = c.args.base_port in
    let first : c.from.result ≡ port = search rules in
    let number : c.from-2.result ≡ n = search rules in
    let sum : c.from.result + c.from-2.result ≡ port + n = omega (arith, first, number) in
    on_ok_weaker c.put.result
    (λ last.
    five c.args.out.now.items c.put_address.new.out.items c.put_role.new.out.items c.put_ranges.new.out.items
    c.put_line_marks.new.out.items c.put.new.out.items (address_words (port + n) n) (role_words t.me n)
    (flat_map (word_of n) (owner_ranges t.owners)) (line_marks t n) (codes "\n")
    (c.in_ok-put_address.ensures ∙ ap (λ k. c.args.out.now.items ++ address_words k n) sum)
    (c.in_ok-put_role.ensures ∙ ap (λ m. c.put_address.new.out.items ++ role_words m n) c.me.ensures.value)
    (c.in_ok-put_ranges.ensures ∙ ap (λ rs. c.put_role.new.out.items ++ flat_map (word_of n) rs) c.requires.ranges)
    c.in_ok-put_line_marks.ensures last)
    c.put.ensures
