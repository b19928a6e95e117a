use Rattle.boot_codec.proofs.Prelude.{◌≡◌, drop, padding}
use Rattle.boot_codec.proofs.padding.first_fault.Given as goal

abbrev pub invariant-loop-i : goal.invariant-loop-i
invariant-loop-i l = padding (drop l.i l.bytes) ≡ padding l.bytes
