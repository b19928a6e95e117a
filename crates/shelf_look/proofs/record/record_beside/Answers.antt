use Rattle.shelf_look.proofs.Prelude.{inl, inr}
use Rattle.shelf_look.proofs.record.record_beside.Goals as goal

pub returns-in-NoArray : goal.returns-in-NoArray
returns-in-NoArray c shelf drives units = inl (rw c.in-NoArray.is at (c.requires shelf drives units))

pub returns-in-BadRecord : goal.returns-in-BadRecord
returns-in-BadRecord c shelf drives units = inr (c.in-BadRecord.field-0, rw c.in-BadRecord.is at (c.requires shelf drives units))
