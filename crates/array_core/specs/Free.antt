-- Writes in units that the tables of an open array leave free.
use Rattle.std.specs.Prelude.{◌≡◌, ◌/◌, ◌<◌, ℕ, Bool, false, List, []}
use Rattle.session_spec.specs.Prelude.{Conditions, IsBearable, Sound, LeftOut, drive, nvram, Device, Drive, Nv, UNIT_BYTES, names, IsFree, all_facts, geometry_of, Shelved, Continues, WritesOnly}
use Rattle.boot_region.specs.Prelude.{IsMember}
use Rattle.nvram_log.specs.Members as nv
use Rattle.register.specs.declared.state.Register.{Register}
use Rattle.register.specs.Prelude.{drives_of, Content}

-- on drives on which the record is in force, the bytes of units that its tables leave free
abbrev pub OnFree : Register → Content → Device → ℕ → Type 0
OnFree r held (Drive d) i = IsMember (drives_of r) d.0 × IsFree r.record (all_facts held.patches) d.0 (i / UNIT_BYTES)
OnFree r held (Nv n) i = ⊥

-- only these are written, and no NVRAM device is called
pub record WritesFree (r : Register) (held : Content) (old new : Shelved) : Type 0 where
  pub continues : Continues old new
  pub writes : WritesOnly (OnFree r held) old new
  pub nvrams : (n : ℕ) → new.disk (nvram n) ≡ old.disk (nvram n)

-- nothing is dirty on the drives of the record
abbrev pub AreSynced : Shelved → Register → Type 0
AreSynced shelf r = (i : ℕ) → IsMember (drives_of r) i → (shelf.disk (drive i)).dirty ≡ []

-- Bearable conditions in which a drive that isn't missing is one on which the record is in force, an NVRAM device that isn't missing holds the log, and none that was left out is named.
pub record IsKnownOf (shelf : Shelved) (r : Register) (nvrams : List Bool) (known : Conditions) : Type 0 where
  pub bearable : IsBearable (geometry_of shelf) known
  pub drives : (i : ℕ) → i < shelf.drives → known (drive i) ≡ Sound → IsMember (drives_of r) i
  pub logs : (n : ℕ) → n < 2 → known (nvram n) ≡ Sound → nv.IsMember nvrams n
  pub no_log : (n : ℕ) → known (nvram n) ≡ LeftOut → ¬ (nv.IsMember nvrams n)
  pub no_drive : (i : ℕ) → known (drive i) ≡ LeftOut → names r.record (drive i) ≡ false
