use Rattle.std.proofs.Common.{List, subst, sym, ◌∙◌, arith}
use Rattle.cluster_survey.specs.Masters.{IsGap, server_of}
use Rattle.server_commands.specs.declared.book.Server.{Server}
use Rattle.cluster_survey.proofs.Placing.{added}
use Rattle.cluster_survey.proofs.masters.add_master.Goals as goal
use Rattle.cluster_survey.proofs.masters.add_master.Goals.{in-Ok, in-Err}

pub returns : goal.returns
returns c = elim c.match-insert.branch [
  | in-Ok w ↦ rw w.result-is
      (added c.args.servers.now.items c.insert.new.self.items (server_of c.args.line.now) c.in_ok-server.server
      c.in-Some-gap_at.at c.in-Some.place c.requires c.in_ok-server.ensures
      (sym c.place_of.ensures ∙ c.in-Some.is)
      (subst (λ (ss : List Server). IsGap ss c.in-Some.place c.in-Some-gap_at.at) c.as_slice.ensures.value
      c.in-Some-gap_at.ensures)
      w.in-Ok.ensures.items (omega arith))
  | in-Err w ↦ rw w.result-is tt
]
