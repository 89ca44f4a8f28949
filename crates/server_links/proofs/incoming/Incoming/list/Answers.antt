use Rattle.std.proofs.Common.{◌≡◌, ◌∙◌, ℕ, ◌+◌, List, ◌++◌, sym, subst}
use Rattle.resp2_wire.specs.Encoding.{encoding}
use Rattle.resp2_wire.specs.Tree.{array}
use Rattle.server_links.proofs.Listed.{list_behind}
use Rattle.server_links.specs.LongLists.{FindsBegun, bulks}
use Rattle.server_links.specs.declared.incoming.lists.Begun.{Begun}
use Rattle.server_links.proofs.incoming.Incoming.list.Goals as goal

pub returns-in_ok-texts-in-Texts-clause-read : goal.returns-in_ok-texts-in-Texts-clause-read
returns-in_ok-texts-in-Texts-clause-read g c =
    let begun = c.in_ok-reply.ensures.read in
    let line = subst (λ (b : Begun). FindsBegun (c.args.self.now.unread.items ++ begun.1) b c.list_begun.new.self.unread.items)
    c.in-Texts.is begun.3 in
    let come = c.in_ok-texts-in-Texts.ensures.read in (
      begun.0 + come.0,
      begun.1 ++ come.1,
      g.met.I.ByteIn.gave_then c.args.self.now.reader c.list_begun.new.self.reader c.texts.new.self.reader begun.0 come.0 begun.1 come.1 begun.2 come.2,
      subst (λ (ts : List (List ℕ)). c.args.self.now.unread.items ++ (begun.1 ++ come.1) ≡ encoding (array (bulks ts)) ++ c.texts.new.self.unread.items)
          (sym c.from_vec.ensures)
          (list_behind c.args.self.now.unread.items begun.1 come.1 c.list_begun.new.self.unread.items c.texts.new.self.unread.items
          c.in_ok-texts-in-Texts.texts.items c.in-Texts.count line come.3 c.in_ok-texts-in-Texts.ensures.count),
    )
