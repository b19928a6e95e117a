-- What crates above name of this one, page by page.
pub use Rattle.patch_io.specs.Faults.{AreLostSince}
pub use Rattle.patch_io.specs.Spelled.{fact_text}
pub use Rattle.patch_io.specs.Standing.{AreFactsOf, ShowsNoOtherOfPatch, ShowsPatch, StandIn, StandsAt, StripesStandOf}
pub use Rattle.patch_io.specs.Tables.{AreInOrder, HaveKey}
