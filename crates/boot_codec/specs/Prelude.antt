-- What crates above name of this one and of those below it, page by page.
pub use Rattle.pur_base.specs.Bytes.{IsBytes, IsBytesOf, bytes_at, zeros}
pub use Rattle.pur_base.specs.Commands.{Accepts, AllAccepted, Command, IsLogged, after_all}
pub use Rattle.pur_base.specs.Devices.{Condition, Conditions, Geometry, Image, IsBearable, IsImage, IsOn, IsWithin, LeftOut, MayBecome, MayShow, MayShowAs, Missing, Sound, View, drive, is_missing, is_sound, nvram, nvrams, slots_of, without_missing}
pub use Rattle.pur_base.specs.Facts.{Facts, any_key, any_number, by_table, never, segment_key, table_tag}
pub use Rattle.pur_base.specs.Gates.{is_open}
pub use Rattle.pur_base.specs.Grammar.{Asked, Cut, Item, Syntax, digits_number, is_line_end, request_of, requests, words}
pub use Rattle.pur_base.specs.Keys.{key_of}
pub use Rattle.pur_base.specs.Mediums.{IsOver, Reads, below, here, unwritten}
pub use Rattle.pur_base.specs.Names.{is_name, is_name_byte}
pub use Rattle.pur_base.specs.Plain.{Array, Entry, refusal}
pub use Rattle.pur_base.specs.Replies.{Answer, Entries, Line, Sectors, after, answer, entries_text, entry_text, kind_text, line_text, numbers_text, sectors_text, text, texts}
unfoldable pub use Rattle.pur_base.specs.Sectors.{filled}
pub use Rattle.pur_base.specs.Tags.{tag_of}
pub use Rattle.pur_base.specs.Visible.{address, ids_below, is_elided, object, objects, range, segment, segments}
pub use Rattle.pur_base.specs.declared.device.Device.{Device}
pub use Rattle.pur_base.specs.declared.device.Device.TheVariants.{Drive, Nv}
pub use Rattle.pur_base.specs.declared.facts.AddressFact.{AddressFact}
pub use Rattle.pur_base.specs.declared.facts.AnyFact.{AnyFact}
pub use Rattle.pur_base.specs.declared.facts.ElisionFact.{ElisionFact}
pub use Rattle.pur_base.specs.declared.facts.MediumFact.{MediumFact}
pub use Rattle.pur_base.specs.declared.facts.ObjectFact.{ObjectFact}
pub use Rattle.pur_base.specs.declared.facts.ObjectKind.{ObjectKind}
pub use Rattle.pur_base.specs.declared.facts.ObjectKind.TheVariants.{Snapshot, Volume}
pub use Rattle.pur_base.specs.declared.facts.SegmentFact.{SegmentFact}
pub use Rattle.pur_base.specs.declared.facts.Target.{Target}
pub use Rattle.pur_base.specs.declared.facts.Target.TheVariants.{Stored, Zero}
pub use Rattle.pur_base.specs.declared.limits.TheConstants.{BOOT_UNITS, NVRAM_DEVICES, OBJECTS, OBJECT_SECTORS, SECTOR_BYTES, SEGMENT_SECTORS, SEGMENT_SHARDS, SLOTS_MIN, UNIT_BYTES}
pub use Rattle.pur_base.specs.declared.place.Location.{Location}
pub use Rattle.pur_base.specs.declared.place.Place.{Place}
pub use Rattle.pur_base.specs.declared.reply.Refusal.{Refusal}
pub use Rattle.pur_base.specs.declared.reply.Reply.{Reply}
pub use Rattle.pur_base.specs.declared.request.Request.{Request}
pub use Rattle.pur_base.specs.declared.request.Table.{Table}
pub use Rattle.pur_base.specs.lemmas.Lines.{IsOpen, after-in, after-past, before-in, before-past, open-append, open-nil}
pub use Rattle.pur_base.specs.lemmas.Says.{says_is}
unfoldable pub use Rattle.boot_codec.specs.Reading.{read_record}
pub use Rattle.boot_codec.specs.Record.{AscendFrom, IsPatch, IsSegment}
pub use Rattle.boot_codec.specs.Region.{A, B, BootSlot, Effective, IsDecided, IsEffective, IsRecordOf, Yields, body_in, body_place, gate_place, generation_in, is_vote, names, of_members, other_slot, shown_by, slot_of, votes, with_body}
pub use Rattle.boot_codec.specs.Spelling.{spelling}
unfoldable pub use Rattle.boot_codec.specs.Spelling.{header_bytes, opening_bytes, record_bytes}
