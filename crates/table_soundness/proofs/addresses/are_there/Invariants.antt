use Rattle.table_soundness.proofs.Prelude.{ℕ, ◌<◌, get_or, AddressFact, IsThere}
use Rattle.table_soundness.proofs.addresses.are_there.Given as goal

abbrev pub invariant-loop-address : goal.invariant-loop-address
invariant-loop-address l = (i : ℕ) (d : AddressFact) → i < l.address-index → IsThere l.segments (get_or l.addresses i d).target
