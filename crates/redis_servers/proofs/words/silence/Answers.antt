use Rattle.std.proofs.Common.{rules, ◌≡◌, Some}
use Rattle.redis_servers.proofs.Useless.{told_why}
use Rattle.redis_servers.proofs.words.silence.Goals as goal

pub returns-in-Some : goal.returns-in-Some
returns-in-Some c =
    let is : c.args.fault ≡ Some c.in-Some.fault = search rules in
    told_why (λ v. v.items) c.args.node c.args.fault c.in-Some.fault c.silence_words.result c.kept.result is
    c.silence_words.ensures c.kept.ensures
