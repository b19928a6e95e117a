use Rattle.unit_map.proofs.UnitLemmas.{free-filled, lowest-is, boot-not-lowest}
use Rattle.unit_map.proofs.free_units.FreeUnits.lowest.Goals as goal

pub lowest_bit-word-requires : goal.lowest_bit-word-requires
lowest_bit-word-requires c =
    let fields = c.self.inside in
    free-filled fields.units fields.free fields.filled fields.words c.self.invariant (rw (← c.self.view_is) at c.requires)

pub returns-clause-lowest : goal.returns-clause-lowest
returns-clause-lowest c =
    let fields = c.self.inside in
    rw (← c.self.view_is) (lowest-is fields.units fields.free fields.filled fields.words c.lowest_bit-word.result c.lowest_bit.result c.self.invariant c.lowest_bit-word.ensures c.lowest_bit.ensures)

pub returns-clause-boot : goal.returns-clause-boot
returns-clause-boot c =
    let fields = c.self.inside in
    boot-not-lowest fields.units fields.free fields.filled fields.words _ c.self.invariant
    (lowest-is fields.units fields.free fields.filled fields.words c.lowest_bit-word.result c.lowest_bit.result c.self.invariant c.lowest_bit-word.ensures c.lowest_bit.ensures)
