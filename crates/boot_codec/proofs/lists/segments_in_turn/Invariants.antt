use Rattle.boot_codec.proofs.Prelude.{◌≡◌, ◌+◌, ◌-◌, length, with_front, segments}
use Rattle.boot_codec.proofs.lists.segments_in_turn.Given as goal

abbrev pub invariant-loop : goal.invariant-loop
invariant-loop l = (length l.into.items ≡ length l.fn.into.items + l.counter) × (with_front l.into.items (segments l.slots l.units (l.count - l.counter) l.rest) ≡ with_front l.fn.into.items (segments l.slots l.units l.count l.bytes))
