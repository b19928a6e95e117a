use Rattle.boot_codec.proofs.Prelude.{length}
use Rattle.boot_codec.proofs.flags.+mask_of.Given as goal

abbrev pub decreases-mask_of : goal.decreases-mask_of
decreases-mask_of l = length l.flags.now
