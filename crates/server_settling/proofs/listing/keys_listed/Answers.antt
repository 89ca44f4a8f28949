use Rattle.std.proofs.Common.{subst, sym}
use Rattle.server_links.specs.LongLists.{list_of}
use Rattle.server_links.specs.declared.list_reply.ListReply.{ListReply}
use Rattle.server_settling.specs.Listing.{Lists}
use Rattle.server_settling.proofs.listing.keys_listed.Goals as goal

pub returns-in-Texts : goal.returns-in-Texts
returns-in-Texts c = subst (λ (r : ListReply). Lists c.args.node c.args.slot c.args.most (list_of r) c.few_texts.result)
    (sym c.in-Texts.is) (c.few_texts.ensures c.args.slot)
