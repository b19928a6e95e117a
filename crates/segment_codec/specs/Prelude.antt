-- What crates above name of this one, page by page.
pub use Rattle.segment_codec.specs.Header.{IsLawful, IsOfNoPatch}
unfoldable pub use Rattle.segment_codec.specs.Header.{header_bytes}
pub use Rattle.segment_codec.specs.Position.{stripe_of}
pub use Rattle.segment_codec.specs.Stripes.{IsShownAt, SectorStands, StripeStands, StripesStand, sector_in, shards_shown, write_unit}
