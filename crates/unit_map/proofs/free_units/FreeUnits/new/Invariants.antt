use Rattle.unit_map.proofs.Prelude.{◌≡◌}
use Rattle.unit_map.proofs.UnitLemmas.{filling}
use Rattle.unit_map.proofs.free_units.FreeUnits.new.Given as goal

abbrev pub invariant-loop-unit : goal.invariant-loop-unit
invariant-loop-unit l = l.all ≡ filling l.units l.unit
