use Rattle.std.proofs.Common.{refl}
use Rattle.dedup_index.specs.Fnv.{hash_of}
use Rattle.dedup_index.proofs.fnv.hash.Goals as goal

pub loop-byte-init : goal.loop-byte-init
unfolding hash_of
loop-byte-init c = refl
