-- Tallies of no failed call.
use Rattle.std.proofs.Common.{◌≡◌, ℕ, zero, suc, replicate, slice_index_or, refl}
use Rattle.pur_base.specs.declared.device.Device.{Device}
use Rattle.pur_base.specs.declared.device.Device.TheVariants.{Drive, Nv}
use Rattle.world.specs.Tally.{none, tally_in}

none_at : (n k : ℕ) → slice_index_or (replicate n none) k none ≡ none
none_at zero k = refl
none_at (suc n) zero = refl
none_at (suc n) (suc k) = none_at n k

pub none_in : (m n : ℕ) (d : Device) → tally_in (replicate m none) (replicate n none) d ≡ none
none_in m n (Drive d) = none_at m d.0
none_in m n (Nv v) = none_at n v.0
