use Rattle.std.proofs.Common.{◌≡◌, ◌++◌, take}
use Rattle.std.specs.List.{flat_map}
use Rattle.typed_values.specs.Members.{AreShortMembers}
use Rattle.migrate_frames.specs.Frames.{piece}
use Rattle.migrate_frames.proofs.writing.push_elements.Given as goal

abbrev pub invariant-loop-place : goal.invariant-loop-place
invariant-loop-place l = record {
  written : l.out.items ≡ l.initial.out.items ++ flat_map piece (take l.place l.items);
  short : AreShortMembers (take l.place l.items);
}
