use Rattle.unit_map.proofs.Prelude.{arith}
use Rattle.unit_map.proofs.UnitLemmas.{length-units_of, tidy-removed, units_of-changed}
use Rattle.unit_map.proofs.free_units.FreeUnits.remove.Goals as goal

pub bounds-self-inside-word : goal.bounds-self-inside-word
bounds-self-inside-word c =
    let within = rw (← c.self.view_is, length-units_of) at c.requires.within in
    omega (arith, within, c.self.invariant.limit)

pub bounds-self-inside-word-2 : goal.bounds-self-inside-word-2
bounds-self-inside-word-2 c =
    let within = rw (← c.self.view_is, length-units_of) at c.requires.within in
    omega (arith, within, c.self.invariant.limit)

pub filled_after-self-inside-requires : goal.filled_after-self-inside-requires
filled_after-self-inside-requires c =
    let within = rw (← c.self.view_is, length-units_of) at c.requires.within in
    omega (arith, within, c.self.invariant.limit)

pub invariant_of-self : goal.invariant_of-self
invariant_of-self c =
    let fields = c.self.inside in
    let within = rw (← c.self.view_is, length-units_of) at c.requires.within in
    let present = rw (← c.self.view_is) at c.requires.present in
    tidy-removed fields.units fields.free fields.filled fields.words c.args.unit c.without_bit-left.result c.filled_after-self-inside.result c.self.invariant within present c.without_bit-left.ensures c.filled_after-self-inside.ensures.emptied c.filled_after-self-inside.ensures.kept

pub returns : goal.returns
returns c =
    let fields = c.self.inside in
    let within = rw (← c.self.view_is, length-units_of) at c.requires.within in
    rw (← c.self.view_is) (units_of-changed fields.words fields.units c.args.unit c.without_bit-left.result 0 c.self.invariant.size c.self.invariant.limit within c.without_bit-left.ensures)
