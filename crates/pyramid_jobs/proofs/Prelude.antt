-- What the proofs of this crate name of definitions, of laws and of std, page by page.
pub use Rattle.std.proofs.Common.{All, Bool, Contains, List, None, Option, Some, [], ap, arith, inr, length, length-append, map, refl, subst, sym, ℕ, ◌++◌, ◌+◌, ◌<◌, ◌^◌, ◌∙◌, ◌∷◌, ◌≡◌, ◌≤◌}
pub use Rattle.table_plan.specs.Prelude.{AreStored, IsMergedOf, memory_with, merged_facts, merged_patches, pair_facts, patch_count, table_of, tables_with}
pub use Rattle.table_plan.specs.declared.merged.Merged.{Merged}
pub use Rattle.record_tables.specs.Prelude.{new_patch, segments_for}
pub use Rattle.session_spec.specs.Prelude.{AnyFact, AreAmong, AreEnough, AreJoined, AreNext, ArePatches, AreSegmentsSound, AreSound, BaseStands, BootRecord, Facts, Geometry, HaveShrunk, IsBootRecord, IsFact, IsMerged, IsMergedAt, IsNamed, IsPatch, IsShelf, IsShrunk, IsSound, Memory, NUMBER_LIMIT, NextNumbers, Patch, PatchSegment, PatchStands, PatchesStand, Refusal, Runs, Shelved, Table, TablesStand, View, all_append_left, all_append_right, all_contained, all_facts, contains_at, continues_trans, facts, facts_of, flushed, geometry_of, in_patches, in_patches_are, merge_shrinks, of_all, of_each, pair_segments, patch_facts, patch_segments, patches, patches_are_flushed, patches_of, place_in, places_of_part, ran_more, read_now, runs_moments, same_segment, segment, shrinking_reads, shrunk_sound, table_tag, tag_of, zip_long}
pub use Rattle.register.specs.Prelude.{Content, IsLaterRecord, IsRegisterOf, with_tables}
pub use Rattle.array_core.specs.Prelude.{HasRoomFor, HoldTables, IsArrayOf, IsReady, OnUnused, WritesFree}
pub use Rattle.array_core.specs.declared.array.Array.{Array}
pub use Rattle.pyramid_jobs.specs.Made.{HasMerged, IsFaultOf, MayMerge, at_array}
pub use Rattle.pyramid_jobs.specs.Prepared.{FactsStand, IsOne, IsPreparedFor, OneMayBeWritten, OneStands, held_after}
