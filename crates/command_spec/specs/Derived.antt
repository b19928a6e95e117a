-- Objects and ranges that a command adds to an array's memory.
use Rattle.std.specs.Prelude.{◌≡◌, ◌+◌, ◌≤◌, nat_lt, if◌then◌else◌}
use Rattle.memory_spec.specs.Prelude.{ObjectFact, NextNumbers}
use Rattle.command_spec.specs.Deriving.{Derived, HasDerived}
use Rattle.command_spec.specs.Kept.{Kept, HasSamePatches}

-- these were added, and nothing else changed but room
pub record AddsOnly (was now : Kept) (d : Derived) : Type 0 where
  pub derived : HasDerived was.memory now.memory d
  pub patches : HasSamePatches was.memory.tables now.memory.tables
  pub segments : now.segments ≡ was.segments
  pub elided : now.elided ≡ was.elided

-- ---- one object

-- it has the next id and number, a medium that was given or the next one, and sectors
pub record IsNextObject (next : NextNumbers) (x : ObjectFact) : Type 0 where
  pub object : x.object.0 ≡ next.object
  pub number : x.seq.0 ≡ next.sequence
  pub medium : x.medium.0 ≤ next.medium
  pub some : 1 ≤ x.sectors

-- the numbers that are given next behind it
abbrev pub next_past_object : NextNumbers → ObjectFact → NextNumbers
next_past_object next x = record next {
  object = next.object + 1;
  medium = if nat_lt x.medium.0 next.medium then next.medium else next.medium + 1;
  sequence = next.sequence + 1;
}

-- and behind one that moves to the next medium
abbrev pub next_past_move : NextNumbers → NextNumbers
next_past_move next = record next { medium = next.medium + 1; sequence = next.sequence + 1 }

-- and behind one that moves there and leads to the medium that it had
abbrev pub next_past_freeze : NextNumbers → NextNumbers
next_past_freeze next = record next { medium = next.medium + 1; sequence = next.sequence + 2 }
