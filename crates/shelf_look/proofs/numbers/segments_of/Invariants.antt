use Rattle.shelf_look.proofs.Prelude.{◌≡◌, ◌+◌, drop, patch_segments}
use Rattle.shelf_look.proofs.numbers.segments_of.Given as goal

abbrev pub invariant-loop-index : goal.invariant-loop-index
invariant-loop-index l = l.count + patch_segments (drop l.index l.patches) ≡ patch_segments l.patches
