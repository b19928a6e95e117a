-- Places as numbers.
use Rattle.std.specs.Prelude.{ℕ, ◌+◌, ◌*◌}
use Rattle.array_spec.specs.Prelude.{Place}

-- the slot, and below it the unit, which is below 2^16
abbrev pub code_of : Place → ℕ
code_of p = p.slot * 65536 + p.unit
