-- What crates above name of this one and of those below it, page by page.
pub use Rattle.line_input.specs.Ahead.{Tells, budget}
pub use Rattle.line_input.specs.Calls.{Went, well}
pub use Rattle.line_input.specs.Reading.{Unfinished}
pub use Rattle.line_input.specs.lemmas.Calls.{both, went-on}
pub use Rattle.request_codec.specs.Items.{IsServed, Reads, item_read}
pub use Rattle.request_codec.specs.Spelled.{IsSpelledRequest}
pub use Rattle.request_codec.specs.Writing.{Extends, Gave, Goes}
