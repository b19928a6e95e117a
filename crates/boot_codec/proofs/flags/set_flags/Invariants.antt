use Rattle.boot_codec.proofs.Prelude.{◌≡◌, ◌-◌, ◌++◌, length, take, flags}
use Rattle.boot_codec.proofs.flags.set_flags.Given as goal

abbrev pub invariant-loop-i : goal.invariant-loop-i
invariant-loop-i l = take l.i l.into ++ flags (length l.into - l.i) l.left ≡ flags (length l.into) l.number
