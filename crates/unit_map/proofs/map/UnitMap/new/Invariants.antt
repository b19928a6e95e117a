use Rattle.unit_map.proofs.Prelude.{◌≡◌, true, replicate, fresh}
use Rattle.unit_map.proofs.map.UnitMap.new.Given as goal

abbrev pub invariant-loop-slot : goal.invariant-loop-slot
invariant-loop-slot l = l.drives.items ≡ replicate l._slot (record { member = true; free = fresh l.units })
