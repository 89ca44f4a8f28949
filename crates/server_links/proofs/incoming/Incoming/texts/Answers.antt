use Rattle.std.proofs.Common.{rules, ◌≡◌, ◌∙◌, ℕ, ◌+◌, ◌≤◌, List, [], ◌∷◌, ◌++◌, ap, arith, length, sym, subst}
use Rattle.std.proofs.lemmas.List.{length-append}
use Rattle.resp2_wire.proofs.Spelt.{encoding_is_canonical}
use Rattle.resp2_wire.specs.Encoding.{spellings}
use Rattle.resp2_wire.specs.Tree.{bulk}
use Rattle.server_links.proofs.Listed.{list_width-append, text_behind}
use Rattle.server_links.specs.Limits.{Holds}
use Rattle.server_links.specs.LongLists.{bulks, list_width}
use Rattle.server_links.proofs.incoming.Incoming.texts.Goals as goal

pub loop-preserved : goal.loop-preserved
loop-preserved g c =
    let before = c.loop.invariant in
    let one = c.in_ok-text.ensures.read in
    let text : List ℕ = c.in_ok-text.text in
    let old : List (List ℕ) = c.loop.texts.items in
    let new : List (List ℕ) = c.put.new.texts.items in
    let whole : new ≡ old ++ text ∷ [] = c.in_ok-put.ensures in
    let read = encoding_is_canonical (c.loop.self.unread.items ++ one.1) c.list_text.new.self.unread.items (bulk text) one.3 in
    let behind = text_behind c.args.self.now.unread.items before.1 one.1 c.loop.self.unread.items c.list_text.new.self.unread.items
    old text before.3 read.0 in
    let wide : list_width new ≡ list_width old + (length text + 12) =
    ap list_width whole ∙ omega (arith, list_width-append old (text ∷ [])) in
    let left : c.in_ok-left.left + (length text + 12) ≡ c.loop.left = search rules in (
      before.0 + one.0,
      before.1 ++ one.1,
      g.met.I.ByteIn.gave_then c.args.self.now.reader c.loop.self.reader c.list_text.new.self.reader before.0 one.0 before.1 one.1 before.2 one.2,
      subst (λ (ts : List (List ℕ)). c.args.self.now.unread.items ++ (before.1 ++ one.1) ≡ spellings (bulks ts) ++ c.list_text.new.self.unread.items)
          (sym whole) behind,
      ap (λ (ts : List (List ℕ)). length ts) whole ∙ omega (arith, length-append old (text ∷ []), before.4),
      omega (arith, wide, left, before.5),
      λ few. c.list_text.ensures.held (before.6 few),
    )
