use Rattle.shelf_look.proofs.Prelude.{refl}
use Rattle.shelf_look.proofs.record.record_seen.Goals as goal

pub returns-in-Ok : goal.returns-in-Ok
returns-in-Ok c shelf drives units = record {
  boot = c.in-Ok.loaded.record;
  held = (rw c.in-Ok.is at (c.requires shelf drives units)).held;
  generation = refl;
  flushed = refl;
  members = refl;
}

pub record_beside-requires : goal.record_beside-requires
record_beside-requires c shelf drives units = rw c.in-Err.is at (c.requires shelf drives units)
