-- What no medium says reads as zeros.
use Rattle.std.specs.Prelude.{ℕ, Option, Some, None}
use Rattle.std.specs.Option.{unwrap_or}
use Rattle.pur_base.specs.declared.facts.Target.{Target}
use Rattle.pur_base.specs.declared.facts.Target.TheVariants.{Zero}
use Rattle.pur_base.specs.Facts.{Facts}
use Rattle.pur_base.specs.Mediums.{Reads, below, unwritten}
use Rattle.pur_base.specs.Unwritten.{IsUnwritten, ReadsAt, nowhere, onward}

reads_zero : (f : Facts) {medium sector : ℕ} → IsUnwritten f medium sector → Reads f medium sector Zero
reads_zero f (nowhere none gap) = unwritten none gap
reads_zero f (onward r none over rest) = below r none over (reads_zero f rest)

pub reads_or_zero : (f : Facts) (medium sector : ℕ) (target : Option Target) → ReadsAt f medium sector target → Reads f medium sector (unwrap_or target Zero)
reads_or_zero f medium sector (Some target) reads = reads.0
reads_or_zero f medium sector None nothing = reads_zero f nothing
