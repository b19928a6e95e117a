use Rattle.unit_map.proofs.UnitLemmas.{count-limit}
use Rattle.unit_map.proofs.free_units.FreeUnits.count.Goals as goal

pub returns-clause-limit : goal.returns-clause-limit
returns-clause-limit c = count-limit c.self.inside.units c.self.inside.free c.self.inside.filled c.self.inside.words c.self.invariant
