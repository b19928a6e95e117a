use Rattle.unit_map.proofs.Prelude.{arith}
use Rattle.unit_map.proofs.UnitLemmas.{length-units_of, tidy-inserted, units_of-changed, count-limit}
use Rattle.unit_map.proofs.free_units.FreeUnits.insert.Goals as goal

pub bounds-self-inside-slot : goal.bounds-self-inside-slot
bounds-self-inside-slot c =
    let within = rw (← c.self.view_is, length-units_of) at c.requires.within in
    omega (arith, within, c.self.invariant.limit)

pub bounds-self-inside-slot-2 : goal.bounds-self-inside-slot-2
bounds-self-inside-slot-2 c =
    let within = rw (← c.self.view_is, length-units_of) at c.requires.within in
    omega (arith, within, c.self.invariant.limit)

pub with_bit-self-inside-requires : goal.with_bit-self-inside-requires
with_bit-self-inside-requires c =
    let within = rw (← c.self.view_is, length-units_of) at c.requires.within in
    omega (arith, within, c.self.invariant.limit)

pub overflow_add-self : goal.overflow_add-self
overflow_add-self c = omega (arith, count-limit c.self.inside.units c.self.inside.free c.self.inside.filled c.self.inside.words c.self.invariant)

pub invariant_of-self : goal.invariant_of-self
invariant_of-self c =
    let fields = c.self.inside in
    let within = rw (← c.self.view_is, length-units_of) at c.requires.within in
    let absent = rw (← c.self.view_is) at c.requires.absent in
    tidy-inserted fields.units fields.free fields.filled fields.words c.args.unit c.with_bit.result c.with_bit-self-inside.result c.self.invariant c.requires.boot within absent c.with_bit.ensures c.with_bit-self-inside.ensures

pub returns : goal.returns
returns c =
    let fields = c.self.inside in
    let within = rw (← c.self.view_is, length-units_of) at c.requires.within in
    rw (← c.self.view_is) (units_of-changed fields.words fields.units c.args.unit c.with_bit.result 1 c.self.invariant.size c.self.invariant.limit within c.with_bit.ensures)
