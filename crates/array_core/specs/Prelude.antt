-- What crates above name of this one, page by page.
pub use Rattle.array_core.specs.Drives.{SegmentsHold, drives_view}
pub use Rattle.array_core.specs.Free.{OnFree, WritesFree}
pub use Rattle.array_core.specs.Goes.{Goes, GoesOnMeanwhile, Halts, Holds, ReadsOn}
pub use Rattle.array_core.specs.Going.{AgreesFor, Calls, GoesOnAt, HandsOn, IsOnWay, by_faults}
pub use Rattle.array_core.specs.Holding.{HasEnough, IsHolder, NamesHolders}
pub use Rattle.array_core.specs.Losing.{lost_by}
pub use Rattle.array_core.specs.Performing.{HasLogged, HasNumbers, StandsOnceBack}
pub use Rattle.array_core.specs.Ready.{IsArrayOf, IsReady, is_spent}
pub use Rattle.array_core.specs.Room.{HasRoomFor, nothing_behind}
pub use Rattle.array_core.specs.Switching.{AreLost, HoldOnLeft, HoldTables, IsCleared}
pub use Rattle.array_core.specs.TakingIn.{TakesIn}
pub use Rattle.array_core.specs.Written.{HasWritten, OnUnused}
pub use Rattle.array_core.specs.lemmas.Enough.{named_enough, unflagged}
pub use Rattle.array_core.specs.lemmas.Losses.{bearable_or_not, fewer_borne, more_fail, risen_more, sound_since, unrisen}
