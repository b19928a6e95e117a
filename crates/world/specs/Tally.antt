-- Counts of failed calls, by device.
use Rattle.std.specs.Prelude.{◌<◌, List, length, slice_index_or}
use Rattle.pur_base.specs.declared.device.Device.{Device}
use Rattle.pur_base.specs.declared.device.Device.TheVariants.{Drive, Nv}
use Rattle.world.specs.declared.tallies.Tally.{Tally}

-- no call has failed
abbrev pub none : Tally
none = record { faults = 0; write_faults = 0 }

abbrev pub tally_in : List Tally → List Tally → Device → Tally
tally_in drives nvram (Drive d) = slice_index_or drives d.0 none
tally_in drives nvram (Nv n) = slice_index_or nvram n.0 none

abbrev pub IsTallied : List Tally → List Tally → Device → Type 0
IsTallied drives nvram (Drive d) = d.0 < length drives
IsTallied drives nvram (Nv n) = n.0 < length nvram
