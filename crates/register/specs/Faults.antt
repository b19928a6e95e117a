-- Why no record was stored.
use Rattle.std.specs.Prelude.{◌≡◌, ◌+◌, ◌^◌, ◌<◌, ◌≤◌}
use Rattle.array_spec.specs.Prelude.{set_count}
use Rattle.register.specs.declared.state.Register.{Register}
use Rattle.register.specs.declared.next.StoreFault.{StoreFault}
use Rattle.register.specs.declared.next.StoreFault.TheVariants.{Spent, TooFew}

-- more than two drives of the shelf are not left, or else no record can hold the next generation
abbrev pub IsFaultOf : Register → StoreFault → Type 0
IsFaultOf r (TooFew drives) = (drives ≡ r.drives) × (set_count r.drives + 2 < r.record.slots)
IsFaultOf r Spent = (r.record.slots ≤ set_count r.drives + 2) × (2 ^ 48 ≤ r.record.generation + 1)

-- a store ended in the midst of a later record, which more than two drives of the shelf would not hold
abbrev pub EndedMidway : Register → Register → StoreFault → Type 0
EndedMidway was now (TooFew drives) = (was.record.generation < now.record.generation) × (set_count now.drives + 2 < now.record.slots)
EndedMidway was now Spent = ⊥
