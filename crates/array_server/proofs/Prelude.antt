-- What the proofs of this crate name of definitions, of laws and of std, page by page.
pub use Rattle.std.proofs.Common.{Bool, Contains, Err, List, None, Ok, Option, Some, [], ap, append-nil, append_assoc, arith, cond, drop, drop_at, false, get_or, if◌then◌else◌, inl, inr, length, length-append, ltb, ltb-false, map, nat_lt, not, refl, string_bytes, subst, sym, take, take-append-drop, true, ℕ, ⊎_elim, ◌*◌, ◌++◌, ◌+◌, ◌<◌, ◌||◌, ◌↔◌, ◌∙◌, ◌∷◌, ◌≡◌, ◌≤◌, ◌⊎◌}
pub use Rattle.std.proofs.lemmas.Bool.{cases_Bool}
pub use Rattle.std.proofs.lemmas.Bool.Decides.{nat_tests}
pub use Rattle.std.specs.List.{AllByRecursion, after_first, before_first, list_any, position_or_len}
pub use Rattle.array_spec.proofs.AckedLemmas.{counts-replies, cut-is-none}
pub use Rattle.session_spec.proofs.Fared.{asleep, flattened_array, members_kept}
pub use Rattle.session_spec.specs.Prelude.{AcceptsNext, Answer, Answers, AnswersAccepted, AnswersRequest, AreClean, Asked, BootRecord, Condition, Conditions, Contents, Continues, Cut, Device, Disk, DropsOnlyLost, Ends, Enters, FactsRead, Fares, Geometry, GivesBody, HasRoom, HoldsBase, INPUT_BYTES, IsAfter, IsAnswer, IsAppended, IsAppendedBehind, IsBearable, IsBlank, IsBorneSince, IsCheckpointed, IsCountedBy, IsDone, IsFailed, IsFlattened, IsFlattening, IsFlushing, IsGone, IsInMaking, IsInOpening, IsLater, IsLeft, IsLeftAfter, IsLogged, IsLost, IsMade, IsMerging, IsNext, IsNoneOrEmpty, IsOpenedBearably, IsOutput, IsPartOfNext, IsQuietBy, IsReached, IsRefused, IsSame, IsShelf, IsStanding, Item, Leaves, LeavesBut, LeavesOnly, LeftOut, LeftOutAreNamedByNone, Makes, MakesBy, MayBecome, MayDo, MayDoNext, MayLeave, MayRemove, MayStop, MayStopGiving, MayStopTaking, MayTake, NoMore, NoneFailed, Opening, Outlasts, OutputOnly, Point, ReadsAs, ReadsAt, Refusal, Replied, Request, Rises, RisesIf, SECTOR_BYTES, SameStream, Served, Serves, Serving, Shelved, Sound, Stands, StandsAmong, StandsOn, Status, Stop, Streamed, Table, TakenOnly, Unopened, Where, WithPair, WithRoom, WithRoomFor, WritesOnly, acked, after_all, after_reply, all_facts, borne_before, continues_refl, continues_trans, data_count, done, drive, ends_in_write, facts, failed_since, first_item, geometry_of, has_failed, has_lost_writes, has_pair, has_risen, has_segments, in_hand, is_cut, is_full, is_line_end, is_removal, is_sink, is_source, is_spent, is_whole, leaves_start, leaves_weaker, line_item, line_request, line_text, losing, members_view, missing_if, named_sound, names, none_missing, not_risen_before, nothing-after-cut, now_missing, pair_segments, patches, read_now, refusal, requests, requests-step, rose_before, runs_moments, same_stream, sectors_in, sectors_text, stream_then, text, texts, told_of, weaker}
pub use Rattle.session_spec.specs.declared.limits.TheConstants.{ADDING_GROUPS, CHECKPOINT_GROUPS, FLATTEN_GROUPS, LIMITED_SEGMENTS, MERGE_GROUPS, SEGMENTS_END}
pub use Rattle.register.specs.Prelude.{Content, IsRegisterOf, array_of}
pub use Rattle.request_codec.specs.Prelude.{Gave, IsServed, Reads, Tells, Unfinished, both, budget, item_read}
pub use Rattle.array_engine.specs.Prelude.{IsAnswered, IsAnsweredAt, IsAt, IsKeptBy, IsOf, MayBeDone, MayDoItem, StandsAt, failed_in, lost_in, point_after}
pub use Rattle.array_engine.specs.declared.engine.Engine.{Engine}
pub use Rattle.array_server.specs.Made.{InitsOn, IsCountedEnd, IsInitEnd, IsInitStatus, IsJudgedEnd, IsMadeEnd, IsMadeOutput}
pub use Rattle.array_server.specs.Sessions.{BeginsAt, IsHeldAt, IsServedFrom, IsSessionEnd, end_of}
pub use Rattle.array_core.specs.Prelude.{HasEnough, IsReady, NamesHolders, SegmentsHold, bearable_or_not, lost_by, named_enough}
pub use Rattle.array_core.specs.declared.array.Array.{Array}
