-- What crates above name of this one, page by page.
pub use Rattle.nvram_log.specs.Held.{HasRead, HoldsOn, Keeps, LeavesBetween, shown_by}
pub use Rattle.nvram_log.specs.Members.{DroppedCounted, IsFewer, IsMember, IsNvram, IsOnMember, IsSome, LosesOnlyFailed, OnMembers}
pub use Rattle.nvram_log.specs.Read.{AllFailed, IsReadFrom, OnNothing}
pub use Rattle.nvram_log.specs.Records.{IsRecord}
pub use Rattle.nvram_log.specs.Settling.{Agree, AreAsSeen, SettleBy, SettlesBy}
pub use Rattle.nvram_log.specs.Slots.{IsBetween, IsLog}
