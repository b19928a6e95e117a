use Rattle.boot_codec.proofs.Prelude.{take, patches_bytes, IsWritten}
use Rattle.boot_codec.proofs.writing.put_patches.Given as goal

abbrev pub invariant-loop-i : goal.invariant-loop-i
invariant-loop-i l = IsWritten l.fn.into l.into l.at l.end (patches_bytes (take l.i l.patches))
