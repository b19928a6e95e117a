-- What crates above name of this one, page by page.
pub use Rattle.register.specs.Faults.{IsFaultOf}
pub use Rattle.register.specs.Giving.{GivesOldOrTables, IsNextWith}
pub use Rattle.register.specs.Registers.{IsLaterRecord, IsRegisterOf, OnSlots, drives_of, next_slot, own_slot}
pub use Rattle.register.specs.Standing.{AllShow, AreOfMembers, Content, GivesOldOrNext, IsFirm, IsNextOf, IsOpen, IsShown, MayStore, ShowsOn, StandsBack, StandsInLog, StillGiven, array_of}
pub use Rattle.register.specs.Storing.{DropsOnlyFailed, IsUnstored}
pub use Rattle.register.specs.Tables.{IsPlanOf, KeepsArray, StandsAsBefore, with_tables}
pub use Rattle.register.specs.lemmas.Flags.{cut_in, few_set, fewer_count, in_cut, none_past, not_below, other_flags, same_flags}
pub use Rattle.register.specs.lemmas.Moments.{back_at, gives_at, stands_at}
pub use Rattle.register.specs.lemmas.Shows.{holds_shows}
pub use Rattle.register.specs.lemmas.Stores.{cut_length, fewer_cut, members_sound, on_err, on_more}
