use Rattle.segment_writer.proofs.Prelude.{◌≡◌, ℕ, true, is_in, IsSlotOf}
use Rattle.segment_writer.proofs.CheckpointDrives.{HoldDrivesUpto}
use Rattle.segment_writer.proofs.checkpoint_drives.drives_of_patches.Given as goal

abbrev pub invariant-loop-index : goal.invariant-loop-index
invariant-loop-index l = record {
  each : HoldDrivesUpto l.patches l.drives l.index;
  no_other : (slot : ℕ) → is_in l.drives slot ≡ true → IsSlotOf l.patches slot;
}
