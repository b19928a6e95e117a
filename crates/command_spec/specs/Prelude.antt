-- What crates above name of this one, page by page.
pub use Rattle.command_spec.specs.Asked.{HasCopy, HasObject, IsDerivable}
pub use Rattle.command_spec.specs.Derived.{AddsOnly, next_past_move, next_past_object}
pub use Rattle.command_spec.specs.Deriving.{around, clone_of, copy_of, leading, moved, moves_both, snapshot_of, whole}
pub use Rattle.command_spec.specs.Flattening.{FlattensTo, FrontFits, FrontPasses, IsLowestRange, IsMediumOf, IsOwed, MayFlatten}
pub use Rattle.command_spec.specs.Kept.{IsKept, Kept, kept_of}
pub use Rattle.command_spec.specs.Loaded.{memory_of, with_room_of}
pub use Rattle.command_spec.specs.Room.{TakesOnly}
pub use Rattle.command_spec.specs.Runs.{target_of, targets_from}
