-- What the proofs of this crate name of definitions, of laws and of std, page by page.
pub use Rattle.std.proofs.Common.{Bool, Err, List, Ok, OnOk, Result, [], ap, arith, below_more, drop, drop-drop, false, get_or, get_or-drop, get_or-set_other, get_or-set_same, inl, inr, is_ok, length, length-append, refl, rules, slice_index, slice_index_or, subst, sym, true, ℕ, ⊎_elim, ◌++◌, ◌+◌, ◌<◌, ◌∙◌, ◌∷◌, ◌≡◌, ◌≢◌, ◌≤◌, ◌⊎◌}
pub use Rattle.world.specs.Prelude.{ChangesOnly, Continues, Device, Disk, IsCountedBy, IsFrontOf, IsInSome, IsShelf, Leaves, LeavesBut, MayLeave, MayLeaveBut, Nv, OneRange, OutputOnly, Shelved, Stop, TakenOnly, WriteCounts, WritesOnly, Written, continues_trans, drive, drives_apart, leaves_giving, leaves_quiet, leaves_taking, leaves_then, leaves_weaker, may_leave_but, none_dirty, same_part, then_run, unchanged, weaker, writes_more, writes_then}
pub use Rattle.world.specs.declared.shelf.Span.{Span}
pub use Rattle.world_clients.specs.Members.{IsMember, OnMembers, Outcome}
pub use Rattle.world_clients.specs.Said.{EachIsStoredWhenSaid, IsToldBy, StoredByte, StoredWhenSaid}
