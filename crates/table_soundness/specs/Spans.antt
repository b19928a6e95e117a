-- Elisions as spans of one line, on which the ids of each table have places of their own.
use Rattle.std.specs.Prelude.{◌≡◌, ◌⊎◌, ℕ, ◌+◌, ◌-◌, ◌*◌, ◌^◌, ◌<◌, ◌≤◌, List, [], ◌∷◌, ◌++◌, length, take, slice_index}
use Rattle.array_spec.specs.Prelude.{tag_of, ElisionFact}
use Rattle.table_soundness.specs.declared.spans.Span.{Span}

-- the span of an elision
abbrev pub span_of : ElisionFact → Span
span_of f = record { start = tag_of f.table * 2 ^ 65 + f.first; end = tag_of f.table * 2 ^ 65 + f.last; number = f.seq.0 }

-- by start; of one start by end, the farthest first; of one end by number, the newest first
abbrev pub rank : Span → ℕ
rank s = (s.start * 2 ^ 128 + (2 ^ 128 - 1 - s.end)) * 2 ^ 64 + (2 ^ 64 - 1 - s.number)

-- it ends no earlier than it begins, and its numbers fit their types
pub record IsSpan (s : Span) : Type 0 where
  pub order : s.start ≤ s.end
  pub end : s.end < 2 ^ 128
  pub number : s.number < 2 ^ 64

-- neither overlaps or touches the other, or one lies in the other
abbrev pub FitSpans : Span → Span → Type 0
FitSpans s t = (s.end + 1 < t.start) ⊎ (t.end + 1 < s.start) ⊎ ((s.start ≤ t.start) × (t.end ≤ s.end)) ⊎ ((t.start ≤ s.start) × (s.end ≤ t.end))

-- the second reaches at least as far, where it is newer and both begin at one place
abbrev pub GrowSpans : Span → Span → Type 0
GrowSpans s t = s.start ≡ t.start → s.number < t.number → s.end ≤ t.end

-- and the other way round
abbrev pub BothGrow : Span → Span → Type 0
BothGrow s t = GrowSpans s t × GrowSpans t s

-- the second isn't newer than the first, where both begin at one place
abbrev pub Follows : Span → Span → Type 0
Follows s t = s.start ≡ t.start → t.number ≤ s.number

-- ---- the ends of the spans that are open

-- the span is opened within the last one that isn't ended where it begins, if there is one
pub record IsPut (span : Span) (old new : List ℕ) : Type 0 where
  pub count : ℕ
  pub within : count ≤ length old
  pub ended : (i : ℕ) → count ≤ i → i < length old → slice_index old i + 1 < span.start
  pub inside : 0 < count → span.end ≤ slice_index old (count - 1)
  pub value : new ≡ take count old ++ span.end ∷ []

-- the span passes the end of one that it overlaps or touches
pub record IsRefused (span : Span) (ends : List ℕ) : Type 0 where
  pub at : ℕ
  pub within : at < length ends
  pub begun : span.start ≤ slice_index ends at + 1
  pub passed : slice_index ends at < span.end
