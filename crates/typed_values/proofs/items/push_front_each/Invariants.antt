use Rattle.std.proofs.Common.{◌≡◌, ◌+◌, ◌≤◌}
use Rattle.std.specs.VecDeque.{deque_len, deque_capacity}
use Rattle.std.specs.Vec.Iter.{into_iter_items, into_iter_len}
use Rattle.typed_values.specs.Elements.{pushed_each}
use Rattle.typed_values.proofs.items.push_front_each.Given as goal

abbrev pub invariant-loop-element : goal.invariant-loop-element
invariant-loop-element l =
    (pushed_each l.texts.items (into_iter_items l.element-iterator) ≡ pushed_each l.initial.texts.items l.fn.elements.items)
    × (deque_len l.texts + into_iter_len l.element-iterator ≤ deque_capacity l.texts)
