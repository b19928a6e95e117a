-- What crates above name of this one, page by page.
pub use Rattle.segment_io.specs.Headers.{AreSynced, CleanStay, MayBeWritten}
unfoldable pub use Rattle.segment_io.specs.Headers.{header_unit}
pub use Rattle.segment_io.specs.Lost.{IsOnSlot, LosesOnly, NoByte, OthersStayBut, is_in}
pub use Rattle.segment_io.specs.Places.{ArePlaces, IsOnPlace, OnUnits, OthersStayOf, drive_of, place_of, write_unit_at}
pub use Rattle.segment_io.specs.Reads.{AreLost, HoldsThree, OnlyLooks, ShowsNoOther, ShowsPresent, is_missing_in}
pub use Rattle.segment_io.specs.Stripes.{HoldsStripe, IsStripeOf, UnitsHold, bytes_of, stripe_in, unit_in}
pub use Rattle.segment_io.specs.Views.{ShowsMost}
pub use Rattle.segment_io.specs.lemmas.Losing.{loses_none, loses_then, not_before, rises_first, rises_then}
pub use Rattle.segment_io.specs.lemmas.Parts.{part_length, part_stays, same_at}
pub use Rattle.segment_io.specs.lemmas.Places.{still_places}
pub use Rattle.segment_io.specs.lemmas.Sets.{in_either, past_both, set_here, set_other, still_in, was_in}
pub use Rattle.segment_io.specs.lemmas.Showing.{shows_first, shows_then}
