use Rattle.parity72.proofs.Prelude.{◌≡◌, power_of_two}
use Rattle.parity72.proofs.bytes.power_of_two.Given as goal

abbrev pub invariant-loop-k : goal.invariant-loop-k
invariant-loop-k l = l.power ≡ power_of_two l._k
