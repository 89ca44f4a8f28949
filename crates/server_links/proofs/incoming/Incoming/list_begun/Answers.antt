use Rattle.std.proofs.Common.{rules, ◌≡◌, ◌∙◌, ℕ, ◌+◌, ◌≤◌, List, [], ◌++◌, ap, length, sym, subst, append_assoc}
use Rattle.std.proofs.lemmas.List.{append-nil}
use Rattle.server_links.proofs.Following.{read_behind}
use Rattle.server_links.proofs.Taking.{read_on}
use Rattle.server_links.proofs.incoming.Incoming.list_begun.Goals as goal

pub loop-init : goal.loop-init
loop-init g c = (
  0,
  [],
  g.met.I.ByteIn.gave_none c.args.self.now.reader,
  sym (append-nil c.args.self.now.unread.items),
  λ few. few,
  c.nothing-looked.ensures c.args.self.now.unread.items,
)

pub loop-preserved : goal.loop-preserved
loop-preserved g c =
    let before = c.loop.invariant in
    let same = c.in_ok-begun.ensures.reader in
    let kept : c.begun_read.new.self.unread.items ≡ c.loop.self.unread.items = search rules in
    let short : length c.loop.self.unread.items ≤ c.args.limit = search rules in
    let more = c.in_ok-read_more.ensures.read in
    let gave = subst (λ x. g.I.ByteIn.gave x 1 more.0 c.read_more.new.self.reader) c.begun_read.ensures.reader more.1 in (
      before.0 + 1,
      before.1 ++ more.0,
      g.met.I.ByteIn.gave_then c.args.self.now.reader c.loop.self.reader c.read_more.new.self.reader before.0 1 before.1 more.0 before.2 gave,
      more.2 ∙ ap (λ (t : List ℕ). t ++ more.0) (kept ∙ before.3) ∙ append_assoc c.args.self.now.unread.items before.1 more.0,
      λ few. read_on _ _ _ _ short c.begun_read.ensures.held c.read_more.ensures.held,
      read_behind c.begun_read.new.looked.place c.begun_read.new.looked.left c.loop.self.unread.items c.begun_read.new.self.unread.items
          c.read_more.new.self.unread.items more.0 c.begun_read.ensures.looked kept more.2,
    )
