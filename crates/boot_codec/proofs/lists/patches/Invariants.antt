use Rattle.boot_codec.proofs.Prelude.{◌≡◌, ◌-◌, length, AreWithin, patches_of, with_front, patches}
use Rattle.boot_codec.proofs.lists.patches.Given as goal

abbrev pub invariant-loop : goal.invariant-loop
invariant-loop l = AreWithin (length l.segments.items) l.heads.items × (with_front (patches_of l.segments.items l.heads.items) (patches l.slots l.units l.least l.room (l.count - l.counter) l.rest) ≡ patches l.slots l.units 1 600 l.count l.bytes)
