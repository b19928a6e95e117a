-- The devices of a shelf: what stands on them, how things stand with them, and what a reader may be shown.
use Rattle.std.specs.Prelude.{◌≡◌, ◌⊎◌, ℕ, ◌*◌, ◌<◌, ◌≤◌, Bool, true, false, List, length, Option, Some, None, IfSome, count_by, if◌then◌else◌}
use Rattle.std.specs.List.{range_with_len}
use Rattle.pur_base.specs.declared.device.Device.{Device}
use Rattle.pur_base.specs.declared.device.Device.TheVariants.{Drive, Nv}
use Rattle.pur_base.specs.declared.limits.TheConstants.{UNIT_BYTES, NVRAM_BYTES, NVRAM_DEVICES}
use Rattle.pur_base.specs.Bytes.{IsBytesOf, zeros}

-- the drive of a slot, and an NVRAM device by its number
abbrev pub drive : ℕ → Device
drive i = Drive (record { 0 = i })

abbrev pub nvram : ℕ → Device
nvram i = Nv (record { 0 = i })

-- a shelf's size: its slots of drives, and the units of each drive
pub record Geometry : Type 0 where
  pub slots : ℕ
  pub units : ℕ

-- how many bytes the device has
abbrev pub size_of : Geometry → Device → ℕ
size_of shelf (Drive d) = UNIT_BYTES * shelf.units
size_of shelf (Nv n) = NVRAM_BYTES

-- the shelf has the device
abbrev pub IsOn : Geometry → Device → Type 0
IsOn shelf (Drive d) = d.0 < shelf.slots
IsOn shelf (Nv n) = n.0 < NVRAM_DEVICES

-- the bytes of each device
abbrev pub Image : Type 0
Image = Device → List ℕ

-- each device of the shelf has all its bytes
abbrev pub IsImage : Geometry → Image → Type 0
IsImage shelf image = (d : Device) → IsOn shelf d → IsBytesOf (size_of shelf d) (image d)

-- ---- conditions

-- how things stand with a device: not missing; missing; or missing, and left out by a stored record since it was last admitted
pub data Condition : Type 0 where
  Sound : Condition
  Missing : Condition
  LeftOut : Condition

-- how things stand with each device
abbrev pub Conditions : Type 0
Conditions = Device → Condition

-- whether a device is not missing
abbrev pub is_sound : Condition → Bool
is_sound Sound = true
is_sound Missing = false
is_sound LeftOut = false

-- whether a device is missing
abbrev pub is_missing : Condition → Bool
is_missing Sound = false
is_missing Missing = true
is_missing LeftOut = true

-- the slots of a shelf, and its NVRAM devices
abbrev pub slots_of : Geometry → List ℕ
slots_of shelf = range_with_len 0 shelf.slots

-- the numbers of the NVRAM devices
abbrev pub nvrams : List ℕ
nvrams = range_with_len 0 NVRAM_DEVICES

-- how many drives are missing
abbrev pub missing_drives : Geometry → Conditions → ℕ
missing_drives shelf missing = count_by (λ i. is_missing (missing (drive i))) (slots_of shelf)

-- how many NVRAM devices are missing
abbrev pub missing_nvrams : Conditions → ℕ
missing_nvrams missing = count_by (λ i. is_missing (missing (nvram i))) nvrams

-- at most two drives and at most one NVRAM device are missing
pub record IsBearable (shelf : Geometry) (missing : Conditions) : Type 0 where
  pub drives : missing_drives shelf missing ≤ 2
  -- the numbers of the NVRAM devices
  pub nvrams : missing_nvrams missing ≤ 1

-- a device goes missing with no mark that it was left out, and one that is missing stays as it is
abbrev pub MayBecome : Condition → Condition → Type 0
MayBecome Sound later = (later ≡ Sound) ⊎ (later ≡ Missing)
MayBecome Missing later = later ≡ Missing
MayBecome LeftOut later = later ≡ LeftOut

-- at least the same devices are missing
abbrev pub IsWithin : Conditions → Conditions → Type 0
IsWithin missing more = (d : Device) → MayBecome (missing d) (more d)

-- ---- views

-- what each device shows a reader: its bytes, or that it fails
abbrev pub View : Type 0
View = Device → Option (List ℕ)

-- a sound device shows what stands on it; a missing one may also be blank or fail; one left out may show anything
abbrev pub MayShowAs : Condition → List ℕ → Option (List ℕ) → Type 0
MayShowAs Sound bytes shown = shown ≡ Some bytes
MayShowAs Missing bytes shown = (shown ≡ Some bytes) ⊎ (shown ≡ Some (zeros (length bytes))) ⊎ (shown ≡ None)
MayShowAs LeftOut bytes shown = IfSome shown (λ other. IsBytesOf (length bytes) other)

-- each device shows itself so
abbrev pub MayShow : Image → Conditions → View → Type 0
MayShow image missing view = (d : Device) → MayShowAs (missing d) (image d) (view d)

-- the view without the missing devices
abbrev pub without_missing : Conditions → View → View
without_missing missing view = λ d. if is_sound (missing d) then view d else None
