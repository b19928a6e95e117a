-- What crates above name of this one, page by page.
pub use Rattle.array_checkpoint.specs.Made.{HasFlushed}
pub use Rattle.array_checkpoint.specs.Prepared.{IsLike}
pub use Rattle.array_checkpoint.specs.Room.{IsDoFault, IsFlushRoomFault, IsFull, IsRemovalFault, IsRoomFaultOf, IsRoomOf, MayAdd, MayDo, MayFlush, MayRemove, MayTake}
