-- What the proofs of this crate name of definitions, of laws and of std, page by page.
pub use Rattle.std.proofs.Common.{Bool, Err, IfOk, List, Ok, OnErr, Result, [], add-one, ap, append-nil, append_assoc, arith, bit_or, codes, cond, drop, drop-cons, drop-drop, eqb, eqb-true, false, get_or, get_or-drop, le-leb, leb, leb-true, length, length-append, length-drop, length-set, length-take, lt-ltb, ltb, ltb-true, nat_eq, ne_eqb, pow-suc, pow_mono, refl, set, slice_set, subst, suc, sym, take, take-append-drop, take-suc, take-suc-set, take_all, true, zero, ℕ, ◌%◌, ◌&&◌, ◌*◌, ◌++◌, ◌+◌, ◌-◌, ◌/◌, ◌<◌, ◌^◌, ◌∙◌, ◌∷◌, ◌≡◌, ◌≤◌}
pub use Rattle.std.proofs.Math.Seq.{drop-append_seam, take-append_seam, take-length}
pub use Rattle.std.proofs.lemmas.Bool.Decides.{nat_tests}
pub use Rattle.std.proofs.lemmas.List.{drop-append-le, drop_all, length-replicate, nil_from_length, take-append-le}
pub use Rattle.std.proofs.lemmas.List.Concat.{flat_map-cons}
pub use Rattle.std.proofs.lemmas.List.Folds.{length-flat_map-take}
pub use Rattle.std.proofs.lemmas.List.Sums.{sum_by-cons}
pub use Rattle.std.proofs.lemmas.Nat.{be_bytes_2, be_bytes_4, be_bytes_8, from_be_bytes-to_be_bytes_2, from_be_bytes-to_be_bytes_4, from_be_bytes-to_be_bytes_8, le_or_l, le_or_r}
pub use Rattle.std.proofs.lemmas.Result.{err_from_is_err_and}
pub use Rattle.std.specs.Int.{Width, byte_len, div_ceil, from_be_bytes, is_in_range, to_be_bytes, w16, w32, w64, w8}
pub use Rattle.std.specs.List.{AllByRecursion, flat_map}
pub use Rattle.pur_base.specs.Prelude.{padded, u16, u32, u64, u8, zeros}
pub use Rattle.pur_base.specs.declared.place.Place.{Place}
pub use Rattle.boot_codec.specs.Parts.{AreWithin, IsBehind, IsWithin, patch_of, patches_of}
pub use Rattle.boot_codec.specs.Reading.{Fails, Gives, Reading, fault_at, flags, give, number, then_read, value_of, with_front}
unfoldable pub use Rattle.boot_codec.specs.Reading.{boot_record, drives, facts, flushed_number, format, frontier_count, lists, members, next_number, next_numbers, nvrams, opening, padding, patch, patch_count, patches, place_from, places_from, read_record, segment, segment_count, segments, slots_of, tag_from, these, units_of}
pub use Rattle.boot_codec.specs.Record.{AreMembers, AreNext, ArePatches, AscendFrom, ByTagFrom, IsBootRecord, IsNext, IsPatch, IsPlace, IsSegment, mask, patch_segments, set_count}
pub use Rattle.boot_codec.specs.Spelling.{patches_bytes, spelling}
unfoldable pub use Rattle.boot_codec.specs.Spelling.{counts_bytes, header_bytes, members_bytes, next_bytes, opening_bytes, patch_bytes, place_bytes, record_bytes, segment_bytes}
pub use Rattle.boot_codec.specs.Writing.{IsWritten}
pub use Rattle.boot_codec.specs.declared.bad_record.BadRecord.{BadRecord}
pub use Rattle.boot_codec.specs.declared.bad_record.ReadError.{ReadError}
pub use Rattle.boot_codec.specs.declared.patch.Patch.{Patch}
pub use Rattle.boot_codec.specs.declared.patch.PatchSegment.{PatchSegment}
pub use Rattle.boot_codec.specs.declared.record.BootRecord.{BootRecord}
pub use Rattle.boot_codec.specs.declared.record.Members.{Members}
pub use Rattle.boot_codec.specs.declared.record.NextNumbers.{NextNumbers}
