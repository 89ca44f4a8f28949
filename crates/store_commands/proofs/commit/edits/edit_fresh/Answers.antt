use Rattle.std.proofs.Common.{sym, ◌∙◌}
use Rattle.std.specs.FinMap.{get}
use Rattle.store_commands.proofs.Stores.{none_is, on_ok_then}
use Rattle.store_commands.proofs.Effects.{fresh_not_made, fresh_empty, fresh_made}
use Rattle.store_commands.proofs.commit.edits.edit_fresh.Goals as goal

pub returns-then-not-is_made-clause-ok : goal.returns-then-not-is_made-clause-ok
returns-then-not-is_made-clause-ok g c =
    fresh_not_made (g.E.Entries.entries c.args.entries.now) c.args.key c.args.edit c.in_ok-value.value c.make.new.value c.in_ok-is_made.is_made
    (none_is (get (g.E.Entries.entries c.args.entries.now) c.args.key) c.requires) c.in_ok-value.ensures c.if-not-is_made.true c.in_ok-is_made.ensures.left

pub returns-then-is_empty_collection-clause-ok : goal.returns-then-is_empty_collection-clause-ok
returns-then-is_empty_collection-clause-ok g c =
    fresh_empty (g.E.Entries.entries c.args.entries.now) c.args.key c.args.edit c.in_ok-value.value c.make.new.value c.in_ok-is_made.is_made
    (none_is (get (g.E.Entries.entries c.args.entries.now) c.args.key) c.requires) c.in_ok-value.ensures c.if-not-is_made.false c.in_ok-is_made.ensures.left
    (sym c.is_empty_collection.ensures ∙ c.if-is_empty_collection.true)

pub returns-clause-ok : goal.returns-clause-ok
returns-clause-ok g c =
    on_ok_then c.put.result _ _ c.put.ensures.ok
    (fresh_made (g.E.Entries.entries c.args.entries.now) (g.E.Entries.entries c.put.new.self) c.args.key c.args.edit c.in_ok-value.value c.make.new.value c.in_ok-is_made.is_made
    (none_is (get (g.E.Entries.entries c.args.entries.now) c.args.key) c.requires) c.in_ok-value.ensures c.if-not-is_made.false c.in_ok-is_made.ensures.left
    (sym c.is_empty_collection.ensures ∙ c.if-is_empty_collection.false))
