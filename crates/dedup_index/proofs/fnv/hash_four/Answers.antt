use Rattle.std.proofs.Common.{refl}
use Rattle.dedup_index.specs.Fnv.{hash_of}
use Rattle.dedup_index.proofs.fnv.hash_four.Goals as goal

pub loop-k-init : goal.loop-k-init
unfolding hash_of
loop-k-init c = record { a = refl; b = refl; c = refl; d = refl }
