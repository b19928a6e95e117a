use Rattle.table_soundness.proofs.Prelude.{length}
use Rattle.table_soundness.proofs.shown.+newest_of_each.Given as goal

abbrev pub decreases-newest_of_each : goal.decreases-newest_of_each
decreases-newest_of_each g l = length l.patches.now
