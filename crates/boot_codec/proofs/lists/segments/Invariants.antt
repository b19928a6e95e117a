use Rattle.boot_codec.proofs.Prelude.{◌≡◌, ◌+◌, ◌-◌, length, with_front, segments}
use Rattle.boot_codec.proofs.lists.segments.Given as goal

abbrev pub invariant-loop-i : goal.invariant-loop-i
invariant-loop-i l = (length l.into.items ≡ length l.fn.into.items + l.i) × (with_front l.into.items (segments l.slots l.units (l.count - l.i) l.rest) ≡ with_front l.fn.into.items (segments l.slots l.units l.count l.bytes))
