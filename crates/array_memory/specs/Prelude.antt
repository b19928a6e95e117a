-- What crates above name of this one and of those below it, page by page.
pub use Rattle.command_spec.specs.Asked.{AreLeft, HasObject, HasRoomLeft, IsAllowed, command_of}
pub use Rattle.command_spec.specs.Flattening.{FlattensTo, FrontFits, FrontPasses, IsFront, IsLowestRange, IsMediumOf, MayFlatten, TakesFront, cut_of, front_end, front_facts}
pub use Rattle.command_spec.specs.Kept.{HasSamePatches, IsKept, Kept}
pub use Rattle.command_spec.specs.Lawful.{IsLawful}
pub use Rattle.command_spec.specs.Loaded.{AreInSegments, HasLogRoom, IsLoaded}
pub use Rattle.command_spec.specs.Room.{AtMost, HasNoLessRoom, TakesOnly, capacity_of, taken, taken_up, times, with_more, with_rooms}
pub use Rattle.command_spec.specs.declared.amounts.Amounts.{Amounts}
pub use Rattle.command_spec.specs.declared.amounts.TheConstants.{NOTHING}
pub use Rattle.command_spec.specs.declared.limits.TheConstants.{ELIDED_MEDIUMS, ELIDED_SEGMENTS, LOG_ROOM}
pub use Rattle.array_memory.specs.Eliding.{AreLowestUnreachedOf, ElidingLeaves, HasElided, IsElidingOf, eliding_by}
pub use Rattle.array_memory.specs.Lasting.{AreLawfulPatches, AreNoMore}
pub use Rattle.array_memory.specs.Named.{SayAddresses, is_hidden}
pub use Rattle.array_memory.specs.Plan.{AreCounts, AreLeftFor, AreUnits, HasRoomAgain, HasRoomForPatches, IsPlacingOf, IsPlanFor, IsPlanOf, IsSameMemory, after_plan, flushed_with, next_past, next_with, placed_addresses, units_of, with_patch_rooms, without_elisions}
