use Rattle.std.proofs.Common.{◌≡◌, drop}
use Rattle.dedup_index.specs.Fnv.{hash_from, hash_of}
use Rattle.dedup_index.proofs.fnv.hash_four.Given as goal

abbrev pub invariant-loop-k : goal.invariant-loop-k
invariant-loop-k l = record {
  a : hash_of l.a ≡ hash_from l.g (drop l.k l.a);
  b : hash_of l.b ≡ hash_from l.h (drop l.k l.b);
  c : hash_of l.c ≡ hash_from l.i (drop l.k l.c);
  d : hash_of l.d ≡ hash_from l.j (drop l.k l.d);
}
