use Rattle.std.proofs.Common.{◌∙◌, arith, sym}
use Rattle.std.proofs.lemmas.List.{take_rest}
use Rattle.server_links.proofs.Following.{into_array}
use Rattle.server_links.proofs.looked.Looked.step.Goals as goal

pub returns-in-Some : goal.returns-in-Some
returns-in-Some c =
    let bytes = c.args.bytes.now in
    let place = c.args.self.now.place in
    into_array bytes c.in-Some.after.now place c.args.self.now.left c.in-Some.count c.requires (omega arith) (omega arith)
    (sym (take_rest bytes place) ∙ c.in-Some.ensures.begins)
