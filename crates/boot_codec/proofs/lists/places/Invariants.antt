use Rattle.boot_codec.proofs.Prelude.{◌≡◌, ◌-◌, length, take, with_front, places_from}
use Rattle.boot_codec.proofs.lists.places.Given as goal

abbrev pub invariant-loop-shard : goal.invariant-loop-shard
invariant-loop-shard l = (length l.places ≡ 9) × (with_front (take l.shard l.places) (places_from l.slots l.units l.least (9 - l.shard) l.rest) ≡ places_from l.slots l.units 0 9 l.bytes)
