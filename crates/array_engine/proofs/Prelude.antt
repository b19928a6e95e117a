-- What the proofs of this crate name of definitions, of laws and of std, page by page.
pub use Rattle.std.proofs.Common.{Bool, Contains, Err, IfErr, IfOk, List, None, Ok, OnOk, Option, Result, Some, [], ap, append-nil, append_assoc, arith, below_more, cond, drop, false, filter_map, get_or, if◌then◌else◌, inl, inr, le-leb, le-ltb, leb-false, length, length-drop, length-take, lt-ltb, nat_lt, not, option_map, refl, slice_get, slice_index_or, subst, suc, sym, take, take-add, take-append-drop, true, zero, ℕ, ◌*◌, ◌++◌, ◌+◌, ◌-◌, ◌<◌, ◌^◌, ◌||◌, ◌∙◌, ◌∷◌, ◌≡◌, ◌≤◌, ◌⊎◌}
pub use Rattle.std.proofs.lemmas.Bool.{cases_Bool, cases_lt, cond-false, cond-true, lt-leb}
pub use Rattle.std.proofs.lemmas.Result.{IfErr-weaker, err_from_is_err_and, on_ok_weaker}
pub use Rattle.std.specs.List.{AllByRecursion, AllZip, cons_option, range_with_len, sum_by}
pub use Rattle.array_memory.specs.Prelude.{FlattensTo, FrontFits, FrontPasses, IsAllowed, IsFront, IsLawful, IsMediumOf, Kept, MayFlatten, TakesFront, front_end}
pub use Rattle.volume_ops.specs.OfArray.{OfArray, line_of}
pub use Rattle.session_spec.specs.Prelude.{Answer, Answers, AnswersAccepted, AnswersRequest, AnyFact, Asked, BootRecord, Command, Contents, ContentsStand, Continues, Device, Disk, Drive, DropsOnlyLost, Entries, Entry, EntryReads, Facts, Geometry, HasGroups, IsAnswer, IsAppendedBehind, IsAsBefore, IsBearable, IsCheckpointed, IsCommand, IsDone, IsEntry, IsFact, IsFailed, IsFlattening, IsFlushed, IsFlushing, IsGone, IsLogged, IsMergeDone, IsMerging, IsRefused, IsShelf, IsSound, IsWhole, Item, LOG_SLOTS, LeavesOnly, Line, MayLeave, MayRise, Memory, NextNumbers, Nv, ObjectFact, PatchSegment, Point, REQUEST_SECTORS, ReadsAs, ReadsAt, Refusal, Reply, Request, Rises, SECTOR_BYTES, Sectors, SegmentFact, Shelved, Stop, Table, View, Where, WithPair, WithRoom, WithRoomFor, WritesOnly, after, after_all, after_unless, all_facts, all_objects, all_segments, are_used_up, continues_trans, data_segments_at, done, drive, each_by_recursion, entries_text, entry_text, facts, first_cause, geometry_of, given, has_pair, has_risen, has_segments, is_elided, is_name, is_removal, is_used_up, key_of, line_text, named_sound, names, never, next_after, not_risen, numbers_at, object_is, objects, of_objects, pair_segments, patch_segments, patches, patches_at, patches_read, patches_show, read_causes, refusal, refused, same_segment, says_is, sectors_of, sectors_text, segment, segment_key, segments, segments_in, span, started, status_numbers, text, told_of, weaker}
pub use Rattle.session_spec.specs.declared.limits.TheConstants.{ADDING_GROUPS, CHECKPOINT_GROUPS, FLATTEN_GROUPS, LIMITED_SEGMENTS, MERGE_GROUPS, SEGMENTS_END}
pub use Rattle.segment_io.specs.Prelude.{NoByte, is_in}
pub use Rattle.target_io.specs.Reading.{AreReadable, IsLost, LosesThree, ReadsOnly, ShowsDrives}
pub use Rattle.boot_region.specs.Prelude.{IsMember}
pub use Rattle.register.specs.Prelude.{Content, IsRegisterOf, array_of, cut_in, drives_of, in_cut, none_past}
pub use Rattle.register.specs.declared.state.Register.{Register}
pub use Rattle.request_codec.specs.Prelude.{Extends, Gave, IsSpelledRequest, Went, item_read, well, went-on}
pub use Rattle.array_engine.specs.Appending.{IsAppendFault, IsAppended, IsCleared, IsFlushFault, failed_in, lost_in}
pub use Rattle.array_engine.specs.Engines.{IsAnsweredAt, IsAt, IsKeptBy, MayBeDone, StandsAt, point_after}
pub use Rattle.array_engine.specs.Replying.{ends_lost, said_of, said_of_flattening, said_of_read}
pub use Rattle.array_engine.specs.Saying.{HasLine, HasReply, IsDataReply, Says, read_in}
pub use Rattle.array_engine.specs.declared.buffers.TheConstants.{LINE_ROOM}
pub use Rattle.pur_base.specs.Grammar.{sectors_in}
pub use Rattle.array_engine.specs.declared.engine.Engine.{Engine}
pub use Rattle.array_engine.specs.declared.said.Said.{Said}
pub use Rattle.array_core.specs.Prelude.{AgreesFor, Calls, Goes, GoesOnAt, GoesOnMeanwhile, Halts, HandsOn, HasEnough, HasLogged, HasNumbers, HasRoomFor, IsArrayOf, IsHolder, IsOnWay, IsReady, NamesHolders, OnFree, ReadsOn, SegmentsHold, WritesFree, by_faults, drives_view, is_spent, named_enough, nothing_behind, risen_more}
pub use Rattle.array_core.specs.declared.array.Array.{Array}
pub use Rattle.array_core.specs.declared.array.Background.{Background}
pub use Rattle.array_checkpoint.specs.Prelude.{HasFlushed, IsDoFault, IsFull, IsLike, IsRemovalFault, IsRoomFaultOf, IsRoomOf, MayAdd, MayDo, MayFlush, MayRemove, MayTake}
pub use Rattle.array_checkpoint.specs.declared.room.Room.{Room}
