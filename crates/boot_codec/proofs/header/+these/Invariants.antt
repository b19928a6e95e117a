use Rattle.boot_codec.proofs.Prelude.{length}
use Rattle.boot_codec.proofs.header.+these.Given as goal

abbrev pub decreases-these : goal.decreases-these
decreases-these l = length l.text.now
