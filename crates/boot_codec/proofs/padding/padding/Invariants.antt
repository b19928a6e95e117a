use Rattle.boot_codec.proofs.Prelude.{◌≡◌, ◌+◌, ◌*◌, length, padding}
use Rattle.boot_codec.proofs.padding.padding.Given as goal

abbrev pub invariant-loop : goal.invariant-loop
invariant-loop l = (length l.rest + 512 * l.counter ≡ length l.bytes) × (padding l.rest ≡ padding l.bytes)
