-- What the proofs of this crate name of definitions, of laws and of std, page by page.
pub use Rattle.std.proofs.Common.{Bool, Err, IfErr, IfOk, IsTrue, List, None, Ok, Option, Result, Some, [], ap, append-nil, arith, below_more, cond, count_by, drop, eq-eqb, eqb-true, false, filter_map, get_or, get_or-set_other, get_or-set_same, get_or-take, inl, inr, length, length-append, length-set, ltb-true, map, ne_eqb, not, refl, rules, slice_get, slice_index, slice_index_or, slice_range, slice_set, subst, suc, sym, take, take-take, true, zero, ℕ, ◌*◌, ◌++◌, ◌+◌, ◌-◌, ◌<◌, ◌==◌, ◌^◌, ◌∙◌, ◌∷◌, ◌≡◌, ◌≢◌, ◌≤◌}
pub use Rattle.std.proofs.lemmas.Bool.{cases_Bool, cases_lt, eqb-false}
pub use Rattle.std.proofs.lemmas.List.Sums.{count_by_more_no, count_by_more_yes, sum_by-drop_more, sum_by_more_le, sum_by_push}
pub use Rattle.std.specs.List.{cons_option, range_with_len, sum_by}
pub use Rattle.loaded_tables.specs.Prelude.{facts_in, patches_in}
pub use Rattle.table_soundness.specs.Faults.{AreVisible, IsFault}
pub use Rattle.memory_spec.specs.Prelude.{of_table}
pub use Rattle.array_memory.specs.Prelude.{IsLoaded, Kept}
pub use Rattle.session_spec.specs.Prelude.{AnyFact, AreSegmentsSound, AreSound, BadRecord, BootRecord, BootSlot, Command, Continues, Decodes, Device, Disk, Drive, Elapses, Facts, Failed, Fails, Geometry, Head, IsBytesOf, IsEffective, IsRecordOf, IsSame, IsShelf, Nv, Only, OthersStay, Patch, PatchSegment, PatchesStand, Ran, ReadCounts, ReadError, Request, Rises, SegmentFact, Shelved, ShowsIn, Spells, Table, Tallies, Tally, View, all_facts, capped, continues_trans, drive, facts, facts_of, faults_of, flushed, geometry_of, is_open, no_bytes, nvram, patch_segments, patches, patches_are_all, ran_more, ran_none, ran_then, read_writes, same_device, segment, segments, set_count, slot_at, tag_of, tally_of, untold, untold_elapses, write_faults_of}
unfoldable pub use Rattle.session_spec.specs.Prelude.{read_record}
pub use Rattle.nvram_log.specs.Prelude.{AllFailed, DroppedCounted, IsFewer, IsNvram, IsReadFrom, HasRead, IsSome, OnNothing, shown_by}
pub use Rattle.nvram_log.specs.declared.log.NvLog.{NvLog}
pub use Rattle.segment_io.specs.Prelude.{is_in, rises_first}
pub use Rattle.table_loading.specs.Loading.{OnlyReads, ShowsDrives}
pub use Rattle.table_loading.specs.declared.fault.TablesFault.{TablesFault}
pub use Rattle.boot_region.specs.Prelude.{IsBadBody, IsFaultOf, IsGiven, IsRead, seen, slot_in}
pub use Rattle.boot_region.specs.declared.loading.Loaded.{Loaded}
pub use Rattle.shelf_look.specs.Found.{IsCountOf}
pub use Rattle.shelf_look.specs.Log.{AreWaiting, CountsOne, IsLogOf, is_clone, is_copy, is_create, is_destroy, is_fill, is_snapshot, is_write, is_zero}
pub use Rattle.shelf_look.specs.Looking.{AreStates, IsOutcome, IsTold}
unfoldable pub use Rattle.shelf_look.specs.Looking.{state_at}
pub use Rattle.shelf_look.specs.Opening.{IsAny, IsCauseOf, IsOpeningOf}
pub use Rattle.shelf_look.specs.ReadsLaws.{none_read}
pub use Rattle.shelf_look.specs.Sides.{AreSides, IsSide}
pub use Rattle.shelf_look.specs.Slots.{AreShown, IsShownAt}
pub use Rattle.shelf_look.specs.Tables.{AreOthers, AreTablesOn, IsMemoryOf, IsTablesCause, ShowsThose}
pub use Rattle.shelf_look.specs.declared.cause.Cause.{Cause}
pub use Rattle.shelf_look.specs.declared.record.RecordSeen.{RecordSeen}
