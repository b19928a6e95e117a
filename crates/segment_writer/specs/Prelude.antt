-- What crates above name of this one, page by page.
pub use Rattle.segment_writer.specs.CheckpointStanding.{FactsStand}
pub use Rattle.segment_writer.specs.CheckpointStoring.{AreAllApart, IsOnCheckpoint, IsOnPatches, MayBeStoredWith, OnCheckpoint, OnPatches}
pub use Rattle.segment_writer.specs.DataPlacing.{AreApart, AreFilled, AreIndicesOf, HavePlaces, MayBePlaced, places_in, segment_in}
pub use Rattle.segment_writer.specs.DataStanding.{DataStands}
pub use Rattle.segment_writer.specs.DataStoring.{ShowsMostOf}
pub use Rattle.segment_writer.specs.Layout.{StaysClean}
pub use Rattle.segment_writer.specs.PatchStoring.{MayBeHeaded, MayBeStored}
