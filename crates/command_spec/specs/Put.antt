-- What putting addresses makes of an array's memory.
use Rattle.std.specs.Prelude.{◌≡◌, ℕ, ◌+◌, ◌<◌, ◌≤◌, List, length, Contains}
use Rattle.memory_spec.specs.Prelude.{Target, AddressFact, NextNumbers, address_facts, HasPut}
use Rattle.command_spec.specs.Kept.{Kept, HasSamePatches}
use Rattle.command_spec.specs.Asked.{HasSpan}

-- the sectors of a volume's span have these targets, and those sectors were staged
pub record IsPut (was now : Kept) (name : List ℕ) (lba count : ℕ) (targets : List Target) (more : List (List ℕ)) : Type 0 where
  pub span : HasSpan was.objects name lba count
  pub put : HasPut was.memory now.memory (address_facts span.volume.medium.0 lba was.memory.next.sequence targets) more
  pub patches : HasSamePatches was.memory.tables now.memory.tables
  pub objects : now.objects ≡ was.objects
  pub segments : now.segments ≡ was.segments
  pub elided : now.elided ≡ was.elided

-- these addresses of mediums that were given have the next numbers, each its own
pub record AreNextAddresses (next : NextNumbers) (run : List AddressFact) : Type 0 where
  pub mediums : (f : AddressFact) → Contains run f → f.medium.0 < next.medium
  pub numbers : (f : AddressFact) → Contains run f → (next.sequence ≤ f.seq.0) × (f.seq.0 < next.sequence + length run)
  pub distinct : (f g : AddressFact) → Contains run f → Contains run g → f.seq.0 ≡ g.seq.0 → f ≡ g
