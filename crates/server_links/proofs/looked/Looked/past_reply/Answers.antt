use Rattle.std.proofs.Common.{rules, ◌≡◌, ◌-◌, ◌≤◌, ◌∙◌, ℕ, List, Err, Ok, ap, drop, length, sym, take}
use Rattle.std.proofs.lemmas.List.{take_rest}
use Rattle.resp2_wire.specs.View.{tree}
use Rattle.resp2_wire.specs.declared.fault.Stop.TheVariants.{Unfinished}
use Rattle.server_links.proofs.Following.{ends_early, past_part}
use Rattle.server_links.specs.Replies.{first_reply}
use Rattle.server_links.proofs.looked.Looked.past_reply.Goals as goal

pub returns-in-Ok-Some : goal.returns-in-Ok-Some
returns-in-Ok-Some c =
    let bytes : List ℕ = c.args.bytes.now in
    let place = c.args.self.now.place in
    let part : List ℕ = take (length bytes - place) (drop place bytes) in
    let few : c.in-Ok-Some.width ≤ length part = search rules in
    let read : first_reply part ≡ Ok (tree c.in-Ok-Some.reply, drop c.in-Ok-Some.width part) = search rules in
    past_part bytes part place c.args.self.now.left c.in-Ok-Some.width (tree c.in-Ok-Some.reply) c.requires.looked c.requires.left
    (take_rest bytes place) few read

pub returns-in-Ok-None : goal.returns-in-Ok-None
returns-in-Ok-None c =
    let bytes : List ℕ = c.args.bytes.now in
    let place = c.args.self.now.place in
    let short : first_reply (take (length bytes - place) (drop place bytes)) ≡ Err Unfinished = search rules in
    ends_early bytes place c.args.self.now.left c.requires.looked c.requires.left
    (ap first_reply (sym (take_rest bytes place)) ∙ short)
