use Rattle.std.proofs.Common.{◌∙◌, ◌∷◌, [], ◌++◌, ap, codes}
use Rattle.std.specs.Prelude.{decimal}
use Rattle.server_replicas.proofs.Put.{before}
use Rattle.server_replicas.specs.Telling.{replica_words}
use Rattle.server_replicas.proofs.telling.put_lack_line.Goals as goal

pub returns : goal.returns
returns c =
    let last = c.put-2.new.out.items in
    let number = decimal c.args.slot in
    before c.put-2.result c.args.out.now.items c.put_replica.new.out.items last
    (replica_words c.args.node c.args.replica.now) (codes ", has no mark of slot " ++ (number ++ 10 ∷ []))
    c.in_ok-put_replica.ensures
    (before c.put-2.result c.put_replica.new.out.items c.put.new.out.items last (codes ", has no mark of slot ")
    (number ++ 10 ∷ []) c.in_ok-put.ensures
    (before c.put-2.result c.put.new.out.items c.put_number.new.out.items last number (10 ∷ [])
    (c.in_ok-put_number.ensures
    ∙ ap (λ x. c.put.new.out.items ++ decimal x) (c.from.ensures ∙ c.get.ensures.value))
    c.put-2.ensures))
