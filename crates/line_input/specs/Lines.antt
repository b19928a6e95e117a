-- What a reader holds of a line.
use Rattle.std.specs.Prelude.{◌≡◌, ℕ, ◌<◌, ◌≤◌, true, false, List, [], length}
use Rattle.std.specs.List.{position_or_len, before_first, after_first}
use Rattle.world.specs.Prelude.{is_line_end, LINE_BYTES}
use Rattle.line_input.specs.Reading.{Overruns}
use Rattle.line_input.specs.declared.line.Line.{Line}
use Rattle.line_input.specs.declared.line.LineEnd.{LineEnd}
use Rattle.line_input.specs.declared.line.LineEnd.TheVariants as line_end

-- the line so far is got: all of it, or that it has too many bytes
pub record Holds (line : Line) (got : List ℕ) : Type 0 where
  pub all : line.long ≡ false → line.text.items ≡ got
  pub fits : line.long ≡ false → length got ≤ LINE_BYTES
  pub long : line.long ≡ true → LINE_BYTES < length got

-- what reading a line did: before and after are the unread bytes
abbrev pub ReadsLine : LineEnd → Line → List ℕ → List ℕ → Type 0
ReadsLine line_end.Line line before after = (0 < length before) × Holds line (before_first is_line_end before) × (after ≡ after_first is_line_end before)
ReadsLine line_end.End line before after = (before ≡ []) × (after ≡ [])
ReadsLine line_end.Limit line before after = Overruns before after (λ rest. position_or_len is_line_end rest ≡ length rest)
