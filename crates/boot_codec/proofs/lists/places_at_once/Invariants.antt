use Rattle.boot_codec.proofs.Prelude.{◌≡◌, ◌-◌, ◌*◌, true, length, take, drop, with_front, places_from}
use Rattle.boot_codec.proofs.lists.places_at_once.Given as goal

abbrev pub invariant-loop-shard : goal.invariant-loop-shard
invariant-loop-shard l = (length l.into ≡ 9) × (l.lawful ≡ true → with_front (take l.shard l.into) (places_from l.slots l.units l.least (9 - l.shard) (drop (3 * l.shard) l.bytes)) ≡ places_from l.slots l.units 0 9 l.bytes)
