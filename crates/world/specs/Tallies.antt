-- Counts of failed calls of all devices that a shelf may have.
use Rattle.std.specs.Prelude.{◌<◌, ℕ}
use Rattle.pur_base.specs.declared.device.Device.{Device}
use Rattle.pur_base.specs.declared.device.Device.TheVariants.{Drive, Nv}
use Rattle.pur_base.specs.declared.limits.TheConstants.{SLOTS_MAX, NVRAM_DEVICES}
use Rattle.world.specs.declared.tallies.Tally.{Tally}
use Rattle.world.specs.declared.tallies.Tallies.{Tallies}
use Rattle.world.specs.Counts.{capped}
use Rattle.world.specs.Tally.{tally_in}

abbrev pub tally_of : Tallies → Device → Tally
tally_of t d = tally_in t.drives t.nvram d

-- how often a call on the device failed
abbrev pub faults_of : Tallies → Device → ℕ
faults_of t d = capped (tally_of t d).faults

-- how often a write or a sync of it did
abbrev pub write_faults_of : Tallies → Device → ℕ
write_faults_of t d = capped (tally_of t d).write_faults

-- a shelf may have that device
abbrev pub MayHave : Device → Type 0
MayHave (Drive d) = d.0 < SLOTS_MAX
MayHave (Nv n) = n.0 < NVRAM_DEVICES
