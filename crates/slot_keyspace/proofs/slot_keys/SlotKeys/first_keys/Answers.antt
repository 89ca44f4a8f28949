use Rattle.std.proofs.Common.{◌≡◌, ◌<◌, ◌≤◌, ◌++◌, ◌∷◌, [], length, length-append, arith, take, ap, sym, ◌∙◌}
use Rattle.std.specs.FinMap.{keys}
use Rattle.slot_keyspace.proofs.Listing.{first_of, first_of-found, first_of-full, first_of-end, first_of-start, keys-store_of}
use Rattle.slot_keyspace.proofs.slot_keys.SlotKeys.first_keys.Goals as goal
use Rattle.slot_keyspace.proofs.slot_keys.SlotKeys.first_keys.Goals.{in-None, in-Some+then-len-count}

pub loop-key-preserved : goal.loop-key-preserved
loop-key-preserved c =
    let found = c.loop-key.found in
    let k = c.in-Some.key.now in
    let text = c.in_ok-from_slice.field-0 in
    let len : c.len.result ≡ length found = c.len.ensures in
    let below : length found < c.args.count = omega arith in
    let longer : length (found ++ text ∷ []) ≤ c.args.count = omega (arith, length-append found (text ∷ [])) in
    record {
      within = rw c.in_ok-push.ensures.ok longer;
      listed =
          ap (λ f. first_of c.args.count f c.next.new.self) c.in_ok-push.ensures.ok
          ∙ first_of-found c.args.count found text k c.next.new.self (c.in_ok-from_slice.ensures ∙ c.deref.ensures.value) below
          ∙ ap (first_of c.args.count found) (sym c.in-Some.ensures.steps)
          ∙ c.loop-key.invariant.listed;
    }

pub returns : goal.returns
returns c =
    let all = c.into_iter-key-iterator.result in
    let start : c.new-found.result ≡ [] = c.new-found.ensures in
    let whole : first_of c.args.count c.new-found.result all ≡ take c.args.count (keys c.args.self.now) =
    ap (λ f. first_of c.args.count f all) start
    ∙ ap (first_of c.args.count []) (c.into_iter-key-iterator.ensures.into_iter_gives ∙ c.keys-key-items.ensures.rest)
    ∙ first_of-start c.args.count _
    ∙ ap (take c.args.count) (sym (keys-store_of c.self.inside.map.entries c.keys-key-items.ensures.ordered))
    ∙ ap (λ s. take c.args.count (keys s)) c.self.view_is in
    let done : first_of c.args.count c.loop-key.found c.loop-key.key-iterator ≡ c.loop-key.found =
    elim c.match-next.branch [
      | in-None w ↦ first_of-end c.args.count c.loop-key.found c.loop-key.key-iterator w.in-None.ensures.steps.0
      | in-Some+then-len-count w ↦ first_of-full c.args.count c.loop-key.found c.loop-key.key-iterator (sym w.len.ensures ∙ w.if-len-count.true)
    ] in
    sym done ∙ c.loop-key.invariant.listed ∙ whole
