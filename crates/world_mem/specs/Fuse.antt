-- A world whose calls all fail from some call on: its own failures count besides those of the world within.
use Rattle.std.specs.Prelude.{◌≡◌, ◌⊎◌, ℕ, ◌+◌, ◌-◌, ◌<◌, ◌≤◌, ◌^◌, Bool, true, false, List, length, slice_index_or}
use Rattle.world.specs.Prelude.{Device, Drive, Nv, Disk, Shelved, Stop, MayLeave, capped, Streamed}
use Rattle.world_mem.specs.declared.extra.Extra.{Extra}

-- no failure of its own
abbrev pub none : Extra
none = record { faults = 0; write_faults = 0 }

-- its own failures on that device
abbrev pub extra_of : List Extra → List Extra → Device → Extra
extra_of drives nvram (Drive d) = slice_index_or drives d.0 none
extra_of drives nvram (Nv n) = slice_index_or nvram n.0 none

abbrev pub IsListed : List Extra → List Extra → Device → Type 0
IsListed drives nvram (Drive d) = d.0 < length drives
IsListed drives nvram (Nv n) = n.0 < length nvram

abbrev pub with_extra : Disk → Extra → Disk
with_extra disk e = record { bytes = disk.bytes; dirty = disk.dirty; faults = capped (disk.faults + e.faults); write_faults = capped (disk.write_faults + e.write_faults) }

-- one moment more, once it has blown
abbrev pub tick : Bool → ℕ
tick true = 1
tick false = 0

-- the fuse: whether it has blown, and its own failures
pub record Fuse : Type 0 where
  pub blown : Bool
  pub drives : List Extra
  pub nvram : List Extra

abbrev pub fused_disk : Shelved → Fuse → Device → Disk
fused_disk s f d = with_extra (s.disk d) (extra_of f.drives f.nvram d)

-- a stop now
pub record StopsNow (s : Shelved) (f : Fuse) (stop : Stop) : Type 0 where
  pub device : (d : Device) → MayLeave (fused_disk s f d) (stop.image d)
  pub faults : (d : Device) → (fused_disk s f d).faults ≤ stop.faults d
  pub write_faults : (d : Device) → (fused_disk s f d).write_faults ≤ stop.write_faults d
  pub output : stop.output ≡ s.output
  pub taken : stop.taken ≡ s.taken

-- A stop before it blew is one of the world within. Its record has a gap from then on.
abbrev pub fused : Shelved → Fuse → Shelved
fused s f = record {
  honest = s.honest;
  lapsed = s.lapsed ⊎ (f.blown ≡ true);
  drives = s.drives;
  units = s.units;
  disk = fused_disk s f;
  output = s.output;
  taken = s.taken;
  moment = s.moment + tick f.blown;
  left_since = λ t stop. ((t ≤ s.moment) × s.left_since t stop) ⊎ StopsNow s f stop;
}

-- a stream with failures of its own
abbrev pub fused_stream : Streamed → ℕ → Streamed
fused_stream s extra = record { honest = s.honest; bytes = s.bytes; faults = capped (s.faults + extra) }

-- before it has blown, no failure is its own
abbrev pub IsWhole : Fuse → Type 0
IsWhole f = f.blown ≡ false → (d : Device) → extra_of f.drives f.nvram d ≡ none

-- One call more: it counts down, and blows where nothing was left.
abbrev pub Burns : ℕ → Bool → ℕ → Bool → Type 0
Burns left blown left_then blown_then = ((left ≡ left_then + 1) × (blown_then ≡ blown)) ⊎ ((left ≡ 0) × (left_then ≡ 0) × (blown_then ≡ true))

-- the fuse is as it was
pub record SameFuse (f g : Fuse) : Type 0 where
  pub blown : g.blown ≡ f.blown
  pub drives : g.drives ≡ f.drives
  pub nvram : g.nvram ≡ f.nvram

abbrev pub fuse : Bool → List Extra → List Extra → Fuse
fuse blown drives nvram = record { blown = blown; drives = drives; nvram = nvram }

abbrev pub fused_by : Shelved → Bool → List Extra → List Extra → Shelved
fused_by s blown drives nvram = fused s (fuse blown drives nvram)

-- Once it has blown it stays so, and what is within is as it was.
pub record CutOff (before now : Bool) (same : Type 0) : Type 0 where
  pub stays : before ≡ true → now ≡ true
  pub within : before ≡ true → same
