use Rattle.unit_map.proofs.Prelude.{sym, ◌∙◌}
use Rattle.unit_map.proofs.UnitLemmas.{get_or-units_of, past-used, free-within}
use Rattle.unit_map.proofs.free_units.FreeUnits.is_free.Goals as goal

pub returns-then-self-unit-clause-free : goal.returns-then-self-unit-clause-free
returns-then-self-unit-clause-free c =
    rw (← c.self.view_is) (sym (past-used c.self.inside.words c.self.inside.units c.args.unit c.if-self-unit.true))

pub returns-clause-free : goal.returns-clause-free
returns-clause-free c =
    rw (← c.self.view_is) (c.has_bit.ensures ∙ sym (get_or-units_of c.self.inside.words c.self.inside.units c.args.unit c.if-self-unit.false))

pub returns-clause-within : goal.returns-clause-within
returns-clause-within c = λ free. rw (← c.self.view_is) (free-within c.self.inside.words c.self.inside.units c.args.unit c.if-self-unit.false)
