-- What crates above name of this one, page by page.
pub use Rattle.boot_region.specs.Loading.{IsBadBody, IsFaultOf, IsGiven, IsHeld, IsLawfulLoad, IsLoadBy, IsLoadOf, IsSpent, MayBeSettled, TellsHolding, TooFewHold}
pub use Rattle.boot_region.specs.Members.{DroppedFailed, IsDrive, IsMember, IsOneOf, LosesOnlyFailed, LostWrites, NonMembersStay, OnClosed, OnMembers, OnSlot, Opened}
pub use Rattle.boot_region.specs.Regions.{CountsStay, GivesNone, IsRead, IsUndecided, is_body_in, seen}
unfoldable pub use Rattle.boot_region.specs.Regions.{is_holding, region_at}
pub use Rattle.boot_region.specs.Slots.{slot_in}
pub use Rattle.boot_region.specs.Storing.{AccountsFor, AreEnough, AreOlder, HeldStill, IsFirmOn, IsFound, IsInForceOn, IsInStore, IsLoaded, IsNewer, IsOlder, IsOpening, IsStored, IsStoredIn, IsStoredOn, MayFollow, OnlyBoot, Shows, SoundAreMembers, StandsAgain, StandsBut, StandsNow, TellsFailed, WasGiven}
pub use Rattle.boot_region.specs.lemmas.Accounts.{failed_calls, losing_within}
pub use Rattle.boot_region.specs.lemmas.Found.{body_stands, drive_below, same_body, same_open, same_over, same_shown}
pub use Rattle.boot_region.specs.lemmas.Shown.{bodies_same, body_aligned, body_is, body_low, closed_begins, closed_shows, gate_aligned, gate_closes, gate_low, gate_size, gates_stay, member_below, open_shows, opened, other_same, shown_body, shows_written}
