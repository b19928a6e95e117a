use Rattle.std.proofs.Common.{◌≡◌, drop}
use Rattle.dedup_index.specs.Fnv.{hash_from, hash_of}
use Rattle.dedup_index.proofs.fnv.hash.Given as goal

abbrev pub invariant-loop-byte : goal.invariant-loop-byte
invariant-loop-byte l = hash_of l.bytes ≡ hash_from l.state (drop l.byte-index l.bytes)
