-- What crates above name of this one, page by page.
pub use Rattle.line_input.specs.Ahead.{Ahead, Tells, budget}
pub use Rattle.line_input.specs.Asking.{Asks, Stops}
pub use Rattle.line_input.specs.Calls.{Went, well}
pub use Rattle.line_input.specs.Reading.{Overruns, Totals}
pub use Rattle.line_input.specs.lemmas.Asking.{asks-consumed, asks-failed, asks-on, asks-then, asks-well}
pub use Rattle.line_input.specs.lemmas.Calls.{tells-same, went-on}
pub use Rattle.line_input.specs.lemmas.Failed.{data-failed, data-overrun, line-failed, line-overrun, sectors-failed, sectors-overrun}
