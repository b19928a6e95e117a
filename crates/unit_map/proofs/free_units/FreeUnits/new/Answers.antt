use Rattle.unit_map.proofs.Prelude.{◌∙◌, arith}
use Rattle.unit_map.proofs.UnitLemmas.{filling-start, filling-more, filling-done}
use Rattle.unit_map.proofs.free_units.FreeUnits.new.Goals as goal

pub loop-unit-init : goal.loop-unit-init
loop-unit-init c = c.none-all.ensures ∙ filling-start c.args.units (omega arith)

pub loop-unit-preserved : goal.loop-unit-preserved
loop-unit-preserved c = filling-more c.loop-unit.all c.insert.new.self c.args.units c.loop-unit.unit (omega arith) (omega arith) c.loop-unit.invariant c.insert.ensures

pub returns : goal.returns
returns c = c.loop-unit.invariant ∙ filling-done c.args.units c.loop-unit.unit (omega arith)
