use Rattle.std.proofs.Common.{◌++◌, codes}
use Rattle.server_replicas.proofs.Put.{before}
use Rattle.node_forgetting.specs.Texts.{address_text, by_hand_text}
use Rattle.node_forgetting.proofs.answering.put_untold.Goals as goal

pub returns : goal.returns
returns c =
    let r = c.put_by_hand.result in
    let last = c.put_by_hand.new.out.items in
    let reason = c.args.reason.now in
    let hand = by_hand_text c.args.id.now in
    before r c.args.out.now.items c.put_address.new.out.items last
    (address_text c.args.server.now.host c.args.server.now.port) (codes " is not told, as " ++ (reason ++ hand))
    c.in_ok-put_address.ensures
    (before r c.put_address.new.out.items c.put.new.out.items last (codes " is not told, as ") (reason ++ hand)
    c.in_ok-put.ensures
    (before r c.put.new.out.items c.put-2.new.out.items last reason hand c.in_ok-put-2.ensures
    c.put_by_hand.ensures))
