-- What the proofs of this crate name of definitions, of laws and of std, page by page.
pub use Rattle.std.proofs.Common.{Bool, Err, List, Ok, OnErr, Result, [], ap, append-nil, append_assoc, arith, below_more, drop, drop-drop, drop_at, false, get_or, get_or-drop, get_or-set_other, get_or-set_same, get_or-take, inl, inr, length, length-append, length-drop, length-set, length-take-le, map, min, refl, replicate, reverse, rules, set-set, slice_index, slice_index_or, slice_range, slice_set, subst, suc, sym, take, take-append-drop, take_all, take_at, true, zero, ℕ, ⊎_elim, ◌*◌, ◌++◌, ◌+◌, ◌-◌, ◌<◌, ◌^◌, ◌∙◌, ◌∷◌, ◌≡◌, ◌≢◌, ◌≤◌, ◌⊎◌}
pub use Rattle.std.proofs.lemmas.Bool.{cases_eq, cases_lt}
pub use Rattle.std.proofs.lemmas.List.{get_or-append_right, get_or-map, get_or_append_left, get_or_past, get_or_push, length-map, map-append, map-set, nil_from_length, reverse-append, set-get_or}
pub use Rattle.world.specs.Prelude.{Counts, Device, Disk, Drive, DriveId, Elapses, IsIn, IsInSome, IsOf, IsSame, MayLeave, MayStop, MayStopGiving, MayStopTaking, NVRAM_BYTES, NVRAM_DEVICES, Nv, NvId, OthersStay, OutputOnly, ReadCounts, Rises, Shelved, Stop, TakenOnly, UNIT_BYTES, WasSynced, WasWritten, WriteCounts, Written, capped, front_refl, same_device, same_stream, size_of}
pub use Rattle.world.specs.declared.shelf.Span.{Span}
pub use Rattle.world.specs.declared.streams.Failed.{Failed}
pub use Rattle.world_mem.specs.Called.{HasFailed, WasCalled, WasCalledIn}
pub use Rattle.world_mem.specs.Fuse.{Fuse, extra_of, fuse, fused, fused_disk, none, tick}
pub use Rattle.world_mem.specs.FuseLaws.{capped_more, from_now, passes}
pub use Rattle.world_mem.specs.Parts.{AllCounted, IsBlank, IsNew, IsTorn, Logged, LoggedIn, OnlyCounted, Plan, bytes_at, changed, disk_at, disk_of, disks_of, fails, made_at, made_on, nothing, plan_at, plan_of, plans_of, pulling, sound, undo_what, will_fail, will_fail_at}
pub use Rattle.world_mem.specs.Past.{Left, Snap, StopAt, View, disk_in, image_now, shelved, shelved_of, sourced, sunk, undo, view}
pub use Rattle.world_mem.specs.declared.part.Part.{Part}
pub use Rattle.world_mem.specs.declared.record.Call.{Call}
pub use Rattle.world_mem.specs.declared.record.Call.TheVariants.{Give, On, Take}
pub use Rattle.world_mem.specs.declared.record.What.{What}
pub use Rattle.world_mem.specs.declared.record.What.TheVariants.{FailedRead, FailedSync, FailedWrite, Read, Sync, Write}
