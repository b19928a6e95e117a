-- What crates above name of this one, page by page.
pub use Rattle.log_codec.specs.Head.{Decodes, IsCommand, first_name, head_fields, second_name}
unfoldable pub use Rattle.log_codec.specs.Head.{head_bytes}
pub use Rattle.log_codec.specs.Log.{DevicesAgree, HasSpelling, IsInSlot, LogFrom, LogStands, Shows, ShowsIn, Spells, slot_at, slot_bytes}
