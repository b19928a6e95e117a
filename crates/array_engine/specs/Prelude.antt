-- What crates above name of this one, page by page.
pub use Rattle.array_engine.specs.Answering.{IsAnswered}
pub use Rattle.array_engine.specs.Appending.{failed_in, lost_in}
pub use Rattle.array_engine.specs.Engines.{IsAnsweredAt, IsAt, IsKeptBy, IsOf, MayBeDone, MayDoItem, StandsAt, point_after}
