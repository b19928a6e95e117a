-- A store of a record changes boot units alone.
use Rattle.array_core.proofs.Prelude.{nat_tests, ◌≡◌, ℕ, ◌<◌, List, arith, Bool, drive, nvram, DiffersOnlyIn, Shelved, WritesOnly, OnSlots}
use Rattle.register.proofs.Splice.{in_boot}

-- a store of a record writes in boot units alone
pub only_boot : (a b : Shelved) (members : List Bool) → ((n : ℕ) → b.disk (nvram n) ≡ a.disk (nvram n)) → WritesOnly (OnSlots members) a b → DiffersOnlyIn (λ i unit. unit < 3) (λ d. (a.disk d).bytes) (λ d. (b.disk d).bytes)
only_boot a b members same writes = grind (arith, nat_tests, nvram, drive, in_boot)
