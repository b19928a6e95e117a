-- What crates above name of this one, page by page.
pub use Rattle.pur_base.specs.Bytes.{IsBytesOf, bytes_at, padded, u16, u32, u64, u8, zeros}
pub use Rattle.pur_base.specs.Commands.{Accepts, Command, after}
pub use Rattle.pur_base.specs.Devices.{Condition, Conditions, Geometry, Image, LeftOut, Missing, Sound, View, drive, nvram, size_of, slots_of}
pub use Rattle.pur_base.specs.Facts.{any_key, any_number, elision_key, is_narrower, table_tag}
pub use Rattle.pur_base.specs.Gates.{is_open}
pub use Rattle.pur_base.specs.Grammar.{Asked, data_count}
pub use Rattle.pur_base.specs.Keys.{IsTransitive, id_of, key_of}
pub use Rattle.pur_base.specs.Names.{is_name}
pub use Rattle.pur_base.specs.Places.{FitsBytes, places_bytes}
pub use Rattle.pur_base.specs.Plain.{Array, Entry, appended, entry, first_cause, has, is_named, is_snapshot, overwrite_causes, passes, read_causes, refusal, replaced, sectors_of, span, with_sectors, with_span, without}
pub use Rattle.pur_base.specs.Replies.{Answer, Entries, Line, Sectors, answer, refused}
pub use Rattle.pur_base.specs.Says.{Ascends, has_key, newer, newest, says, unless_empty}
unfoldable pub use Rattle.pur_base.specs.Sectors.{filled}
pub use Rattle.pur_base.specs.Tags.{tag_of}
pub use Rattle.pur_base.specs.Visible.{AreElidedRanges, elides, is_elided, is_within}
pub use Rattle.pur_base.specs.lemmas.Devices.{same_device}
pub use Rattle.pur_base.specs.lemmas.Spelling.{length-places_bytes, same_front, same_places, same_u16, same_u32, same_u64, same_u8, zeros_are}
