-- What the proofs of this crate name of definitions, of laws and of std, page by page.
pub use Rattle.std.proofs.Common.{Bool, Contains, IsSome, List, None, Option, Some, [], ap, append-nil, append_assoc, arith, count_by, drop, false, if◌then◌else◌, inl, inr, length, length-append, nat_lt, refl, subst, suc, sym, true, zero, ℕ, ◌++◌, ◌+◌, ◌<◌, ◌∙◌, ◌∷◌, ◌≡◌, ◌≢◌, ◌≤◌, ◌⊎◌}
pub use Rattle.std.proofs.lemmas.Bool.Decides.{nat_tests}
pub use Rattle.memory_spec.specs.Prelude.{AcceptsNext, Answer, AnyFact, Array, Asked, BootRecord, BootSlot, Condition, Conditions, Cut, Device, ElisionFact, Geometry, Image, IsBarred, IsBearable, IsBytes, IsModelled, IsNamedByNone, IsOther, IsPhysical, IsStepReply, IsViewOf, IsWithin, Item, LeftOut, Line, MayBeGiven, MayBecome, MayShowAs, Memory, Missing, Refusal, Reply, Request, Sound, Stands, Status, Step, Syntax, Table, acked, after_unless, all_facts, answer_unless, any_append_left, done, drive, elides, given, has_pair, is_elided, is_missing, is_removal, more_may_go_missing, named_sound, names, nvram, nvrams, of_members, one_is_effective, pair_segments, patches, refusal, requests, slots_of, spells_one, standing_means, texts, within_twice}
pub use Rattle.world.specs.Prelude.{Continues, Elapses, IsCountedBy, IsFrontOf, IsLater, IsShelf, MayStop, OutputOnly, Shelved, Stop, Streamed, TakenOnly, as_read, geometry_of, has_failed, has_lost_writes, losing, missing_if, quiet_now, quiet_refl, rose_before, rose_since}
pub use Rattle.session_spec.specs.Chain.{AwakeIsBorne, ClaimsHaveCauses, ElidedStays, EndsChain, EntersWith, FaresRun, Finds, GoesOnAtOnce, GoesOnFrom, GoesOnFromOpening, HaltsHaveCauses, LeavesAfter, MayWantMemory, NothingDone, ServedFollows, StopsChain, TakeoverBears, TakeoverKeeps, UnopenedFollows}
pub use Rattle.session_spec.specs.Entering.{Enters, HasRoom, IsLeft, IsStanding, LeftOutAreNamedByNone, failed_by, failed_since, read_now}
pub use Rattle.session_spec.specs.Faring.{Answers, AnswersAccepted, AnswersRequest, DropsOnlyLost, Fares, IsAppended, IsAppendedBehind, IsCheckpointed, IsClearedFor, IsDone, IsFailed, IsFlattened, IsFlattening, IsFlushed, IsFlushing, IsLogged, IsMergeDone, IsMerged, IsMerging, IsReached, IsRefused, MustClear, Point, StayElided, Where, WithPair, WithRoom, WithRoomFor, has_segments, is_full, is_spent, now_missing, patches_at}
pub use Rattle.session_spec.specs.Headline.{IsAfter, IsInOpening, Keeps, Opening, Replied, StandsOn, in_hand}
pub use Rattle.session_spec.specs.lemmas.Conditions.{borne_on, goes, left_out_once, loses, sound_once, still_sound}
