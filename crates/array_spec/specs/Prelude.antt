-- What crates above name of this one and of those below it, page by page.
pub use Rattle.pur_base.specs.Bytes.{bytes_at, zeros}
pub use Rattle.pur_base.specs.Commands.{AllAccepted, Command, after, after_all}
pub use Rattle.pur_base.specs.Devices.{Condition, Conditions, Geometry, Image, IsBearable, IsOn, IsWithin, LeftOut, MayBecome, MayShowAs, Missing, Sound, View, drive, is_missing, is_sound, missing_drives, missing_nvrams, nvram, nvrams, slots_of, without_missing}
pub use Rattle.pur_base.specs.FactLaws.{narrower_is_transitive}
pub use Rattle.pur_base.specs.Facts.{Facts, address_key, any_key, any_number, apart, as_address, as_elision, as_medium, as_object, as_segment, by_table, elision_key, is_empty_range, is_narrower, medium_key, never, object_key, segment_key, table_tag}
pub use Rattle.pur_base.specs.Gates.{is_open}
pub use Rattle.pur_base.specs.Keys.{id_of, key_of}
pub use Rattle.pur_base.specs.Mediums.{IsOver, Reads, below, here, unwritten}
pub use Rattle.pur_base.specs.Names.{is_name}
pub use Rattle.pur_base.specs.Plain.{Array, Entry, appended, entry, has, is_named, replaced, sectors_of, with_sectors, with_span}
pub use Rattle.pur_base.specs.Says.{Ascends, has_key, newest, says, unless_empty}
unfoldable pub use Rattle.pur_base.specs.Sectors.{filled}
pub use Rattle.pur_base.specs.Tags.{tag_of}
pub use Rattle.pur_base.specs.Visible.{address, elides, ids_below, is_elided, is_within, object, objects, range, segment, segments}
pub use Rattle.pur_base.specs.declared.device.Device.{Device}
pub use Rattle.pur_base.specs.declared.device.Device.TheVariants.{Drive, Nv}
pub use Rattle.pur_base.specs.declared.facts.AddressFact.{AddressFact}
pub use Rattle.pur_base.specs.declared.facts.AnyFact.{AnyFact}
pub use Rattle.pur_base.specs.declared.facts.ElisionFact.{ElisionFact}
pub use Rattle.pur_base.specs.declared.facts.MediumFact.{MediumFact}
pub use Rattle.pur_base.specs.declared.facts.ObjectFact.{ObjectFact}
pub use Rattle.pur_base.specs.declared.facts.ObjectKind.{ObjectKind}
pub use Rattle.pur_base.specs.declared.facts.ObjectKind.TheVariants.{Snapshot, Volume}
pub use Rattle.pur_base.specs.declared.facts.SegmentFact.{SegmentFact}
pub use Rattle.pur_base.specs.declared.facts.Target.{Target}
pub use Rattle.pur_base.specs.declared.facts.Target.TheVariants.{Stored, Zero}
pub use Rattle.pur_base.specs.declared.limits.TheConstants.{BOOT_UNITS, OBJECTS, OBJECT_SECTORS, SECTOR_BYTES, SEGMENT_SECTORS, SEGMENT_SHARDS, SLOTS_MAX, SLOTS_MIN, UNIT_BYTES}
pub use Rattle.pur_base.specs.declared.place.Location.{Location}
pub use Rattle.pur_base.specs.declared.place.Place.{Place}
pub use Rattle.pur_base.specs.declared.read_back.Lost.{Lost}
pub use Rattle.pur_base.specs.declared.request.Request.{Request}
pub use Rattle.pur_base.specs.declared.request.Table.{Table}
pub use Rattle.pur_base.specs.lemmas.Devices.{drives_apart}
pub use Rattle.pur_base.specs.lemmas.Says.{says_is}
unfoldable pub use Rattle.boot_codec.specs.Gate.{gate_bytes}
pub use Rattle.boot_codec.specs.Reading.{Fails}
unfoldable pub use Rattle.boot_codec.specs.Reading.{read_record}
pub use Rattle.boot_codec.specs.Record.{AreNext, ArePatches, AscendFrom, ByTagFrom, IsBootRecord, IsPatch, IsSegment, mask, patch_segments, set_count}
pub use Rattle.boot_codec.specs.Region.{A, B, BootSlot, Effective, IsDecided, IsEffective, IsRecordOf, Yields, body_in, body_place, gate_place, generation_in, is_vote, names, of_members, other_slot, shown_by, slot_of, votes, with_body}
pub use Rattle.boot_codec.specs.Spelling.{spelling}
unfoldable pub use Rattle.boot_codec.specs.Spelling.{header_bytes, opening_bytes, record_bytes}
pub use Rattle.boot_codec.specs.declared.bad_record.BadRecord.{BadRecord}
pub use Rattle.boot_codec.specs.declared.bad_record.ReadError.{ReadError}
pub use Rattle.boot_codec.specs.declared.limits.TheConstants.{FACTS_PER_SEGMENT, PATCH_SEGMENTS, RECORD_BYTES}
pub use Rattle.boot_codec.specs.declared.patch.Patch.{Patch}
pub use Rattle.boot_codec.specs.declared.patch.PatchSegment.{PatchSegment}
pub use Rattle.boot_codec.specs.declared.record.BootRecord.{BootRecord}
pub use Rattle.boot_codec.specs.declared.record.NextNumbers.{NextNumbers}
pub use Rattle.segment_codec.specs.Position.{stripe_of}
pub use Rattle.segment_codec.specs.Stripes.{IsShownAt, SectorStands, StripeStands, StripesStand, sector_in}
pub use Rattle.segment_codec.specs.declared.header.Header.{Header}
pub use Rattle.segment_codec.specs.declared.position.TheConstants.{SHARD_SECTORS, STRIPES, STRIPE_SECTORS}
pub use Rattle.fact_codec.specs.Fact.{Decodes, IsFact, IsLawful, IsNext, IsTarget, LeadsDown, LeadsNowhere}
pub use Rattle.fact_codec.specs.declared.limits.TheConstants.{FACT_BYTES, NUMBER_LIMIT, PAGE_FACTS}
pub use Rattle.log_codec.specs.Log.{IsInSlot, LogFrom, Shows, ShowsIn}
pub use Rattle.log_codec.specs.declared.limits.TheConstants.{LOG_SLOTS}
pub use Rattle.array_spec.specs.Base.{BaseStands, EntryStands, TargetStands, is_snapshot}
pub use Rattle.array_spec.specs.Counts.{free_of_members, free_units, is_place, is_used, units_for}
pub use Rattle.array_spec.specs.Held.{AreEnough, AreSomeOf, DataHolds, NamesNoneLeftOut, TablesHold, named_sound}
pub use Rattle.array_spec.specs.Laws.{ClosesGatesOf, DiffersOnlyIn, IsHeld, IsOldOrNew, OpensGatesOf, is_sound_vote}
pub use Rattle.array_spec.specs.Meaning.{AllHold, IsInForce, TablesStand}
pub use Rattle.array_spec.specs.Sound.{AreAddressesSound, AreApart, AreElisionsSound, AreIdsBelow, AreMediumsSound, AreObjectsSound, ArePlaces, AreSegmentsSound, AreSequencesSound, AreSound, FitTogether, Grows, IsOlder, OwnsMedium, named_segments, next_id, used_places, with_facts}
pub use Rattle.array_spec.specs.Standing.{FollowsOn, HasNoLog, IsReadBy, IsReadInto, IsViewOf, LeadsInto, MayAppear, MayBeGiven, Stands}
pub use Rattle.array_spec.specs.Stored.{FactIsShown, FactStands, PatchIsShown, PatchStands, PatchesStand, all_facts, in_patches, pages, pages_in_part, places_of_part}
pub use Rattle.array_spec.specs.StoredLaws.{ShowsNone}
pub use Rattle.array_spec.specs.Unflushed.{LogLies, NamesSound}
pub use Rattle.array_spec.specs.lemmas.Fewer.{places_keep}
pub use Rattle.array_spec.specs.lemmas.Mediums.{not_both, reads_one, same_some}
unfoldable pub use Rattle.array_spec.specs.lemmas.Moves.{Keeps}
pub use Rattle.array_spec.specs.lemmas.Next.{data_is_held, next_holds}
pub use Rattle.array_spec.specs.lemmas.OneSector.{one_sector}
pub use Rattle.array_spec.specs.lemmas.Quiet.{bytes_same}
pub use Rattle.array_spec.specs.lemmas.Reading.{read_holds, record_is_read}
pub use Rattle.array_spec.specs.lemmas.Settling.{closing_gives_no_more, closing_still_gives, decided_or_not, opening_gives, opening_still_gives, this_or_other, twice_other}
pub use Rattle.array_spec.specs.lemmas.Spelled.{spells_one}
pub use Rattle.array_spec.specs.lemmas.Standings.{given_with_fewer, more_may_go_missing, sound_shows, within_twice}
pub use Rattle.array_spec.specs.lemmas.UnflushedRead.{one_left, was_left_out}
pub use Rattle.array_spec.specs.lemmas.Unique.{all_patches, one_base}
pub use Rattle.array_spec.specs.lemmas.Used.{all_append, all_append_left, all_append_right, patches_are_lawful}
pub use Rattle.array_spec.specs.lemmas.Votes.{counted, held_is_given, held_votes, most_votes, not_missing, one_is_decided, one_is_effective, sound_before}
