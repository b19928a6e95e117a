use Rattle.unit_map.proofs.Prelude.{refl}
use Rattle.unit_map.proofs.UnitLemmas.{tidy-none, units_of-none}
use Rattle.unit_map.proofs.free_units.FreeUnits.none.Goals as goal

pub invariant_of-result : goal.invariant_of-result
invariant_of-result c = tidy-none _ c.args.units refl c.requires

pub returns : goal.returns
returns c = units_of-none _ c.args.units refl
