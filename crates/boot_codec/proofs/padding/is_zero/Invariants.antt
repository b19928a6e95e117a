use Rattle.boot_codec.proofs.Prelude.{◌≡◌, take, zeros}
use Rattle.boot_codec.proofs.padding.is_zero.Given as goal

abbrev pub invariant-loop-byte : goal.invariant-loop-byte
invariant-loop-byte l = l.any ≡ 0 → take l.byte-index l.bytes ≡ zeros l.byte-index
