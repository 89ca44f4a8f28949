use Rattle.std.proofs.Common.{rules, ◌≡◌, ◌++◌, ap, ◌∙◌}
use Rattle.std.proofs.lemmas.Result.{on_ok_weaker}
use Rattle.std.specs.Prelude.{codes}
use Rattle.cluster_reports.specs.StateLines.{count_lines, line}
use Rattle.cluster_reports.proofs.Chains.{two}
use Rattle.cluster_reports.proofs.state_lines.put_counts.Goals as goal

pub returns : goal.returns
unfolding count_lines
returns c =
    let one : c.from.result ≡ c.args.nodes = search rules in
    let other : c.from-2.result ≡ c.args.size = search rules in
    on_ok_weaker c.put_line-2.result
    (λ last.
    two c.args.out.now.items c.put_line.new.out.items c.put_line-2.new.out.items
    (line (codes "cluster_known_nodes:") c.args.nodes) (line (codes "cluster_size:") c.args.size)
    (c.in_ok-put_line.ensures ∙ ap (λ k. c.args.out.now.items ++ line (codes "cluster_known_nodes:") k) one)
    (last ∙ ap (λ k. c.put_line.new.out.items ++ line (codes "cluster_size:") k) other))
    c.put_line-2.ensures
