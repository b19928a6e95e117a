-- What a world in memory means: its past is what it holds now with the calls undone, the newest first.
use Rattle.std.specs.Prelude.{Bool, true, ◌≡◌, ◌⊎◌, ℕ, zero, suc, ◌+◌, ◌-◌, ◌≤◌, List, [], ◌∷◌, length, take, drop, reverse}
use Rattle.world.specs.Prelude.{Device, Drive, Nv, Disk, Shelved, Stop, MayLeave, TakenOnly, OutputOnly, Streamed, SameStream}
use Rattle.world_mem.specs.declared.record.Call.{Call}
use Rattle.world_mem.specs.declared.record.Call.TheVariants.{On, Give, Take}
use Rattle.world_mem.specs.declared.mem_world.MemWorld.{MemWorld}
use Rattle.world_mem.specs.Parts.{disks_of, disk_at, changed, fails, made_at, is_named, Plan, plan_at, plans_of, sound}

-- a moment
pub record Snap : Type 0 where
  pub drives : List Disk
  pub nvram : List Disk
  pub output : List ℕ
  pub taken : ℕ

abbrev pub disk_in : Snap → Device → Disk
disk_in s (Drive d) = disk_at s.drives d.0
disk_in s (Nv n) = disk_at s.nvram n.0

-- the moment before the call
abbrev pub undo : Call → Snap → Snap
undo (On (Drive d) what) s = record { drives = changed what s.drives d.0; nvram = s.nvram; output = s.output; taken = s.taken }
undo (On (Nv n) what) s = record { drives = s.drives; nvram = changed what s.nvram n.0; output = s.output; taken = s.taken }
undo (Give given) s = record { drives = s.drives; nvram = s.nvram; output = take given s.output; taken = s.taken }
undo (Take taken) s = record { drives = s.drives; nvram = s.nvram; output = s.output; taken = taken }

-- a stop at that moment
pub record StopAt (s : Snap) (stop : Stop) : Type 0 where
  pub device : (d : Device) → MayLeave (disk_in s d) (stop.image d)
  pub faults : (d : Device) → (disk_in s d).faults ≤ stop.faults d
  pub write_faults : (d : Device) → (disk_in s d).write_faults ≤ stop.write_faults d
  pub output : stop.output ≡ s.output
  pub taken : stop.taken ≡ s.taken

-- a stop now, or up to so many calls ago
abbrev pub Left : ℕ → Snap → List Call → Stop → Type 0
Left zero now calls stop = StopAt now stop
Left (suc n) now [] stop = StopAt now stop
Left (suc n) now (call ∷ calls) stop = StopAt now stop ⊎ Left n (undo call now) calls stop

-- what the shelf's meaning is of
pub record View : Type 0 where
  pub now : Snap
  pub units : ℕ
  pub calls : List Call
  pub starved : Bool

abbrev pub shelved_of : View → Shelved
shelved_of v = record {
  honest = Unit {0};
  lapsed = v.starved ≡ true;
  drives = length v.now.drives;
  units = v.units;
  disk = disk_in v.now;
  output = v.now.output;
  taken = v.now.taken;
  moment = length v.calls;
  left_since = λ t stop. Left (length v.calls - t) v.now (reverse v.calls) stop;
}

abbrev pub view : MemWorld → View
view w = record { now = record { drives = disks_of w.drives.items; nvram = disks_of w.nvram.items; output = w.output.items; taken = w.taken }; units = w.units; calls = w.calls.items; starved = w.starved }

abbrev pub shelved : MemWorld → Shelved
shelved w = shelved_of (view w)

-- with no calls in the record
abbrev pub forgotten : View → View
forgotten v = record { now = v.now; units = v.units; calls = []; starved = v.starved }

-- how many bytes a take or a give passes at most
abbrev pub piece_of : MemWorld → ℕ
piece_of w = w.piece

abbrev pub sourced : MemWorld → Streamed
sourced w = record { honest = Unit {0}; bytes = drop w.taken w.input.items; faults = w.source_faults }

abbrev pub sunk : MemWorld → Streamed
sunk w = record { honest = Unit {0}; bytes = w.output.items; faults = w.sink_faults }

abbrev pub plan_on : MemWorld → Device → Plan
plan_on w (Drive d) = plan_at (plans_of w.drives.items) d.0
plan_on w (Nv n) = plan_at (plans_of w.nvram.items) n.0

-- the numbers of the takes and of the gives that are to fail, and how many were made
abbrev pub takes_to_fail : MemWorld → List ℕ
takes_to_fail w = w.takes.to_fail.items

abbrev pub takes_made : MemWorld → ℕ
takes_made w = w.takes.made

abbrev pub gives_to_fail : MemWorld → List ℕ
gives_to_fail w = w.gives.to_fail.items

abbrev pub gives_made : MemWorld → ℕ
gives_made w = w.gives.made

-- the same calls are to fail
pub record SamePlans (a b : MemWorld) : Type 0 where
  pub device : (d : Device) → plan_on b d ≡ plan_on a d
  pub takes : takes_to_fail b ≡ takes_to_fail a
  pub gives : gives_to_fail b ≡ gives_to_fail a

-- no call is to fail
pub record IsSound (w : MemWorld) : Type 0 where
  pub device : (d : Device) → plan_on w d ≡ sound
  pub takes : takes_to_fail w ≡ []
  pub gives : gives_to_fail w ≡ []

-- a stop of the shelf, of which the other one has the image
abbrev pub image_now : Shelved → Shelved → Stop
image_now shelf left = record {
  image = λ d. (left.disk d).bytes;
  faults = λ d. (shelf.disk d).faults;
  write_faults = λ d. (shelf.disk d).write_faults;
  output = shelf.output;
  taken = shelf.taken;
}

-- the world means the same
pub record SameWorld (a b : MemWorld) : Type 0 where
  pub view : view b ≡ view a
  pub source : SameStream (sourced a) (sourced b)
  pub sink : SameStream (sunk a) (sunk b)

-- the record of calls begins anew, and all but the disks is as it was
pub record BeginsAnew (a b : MemWorld) : Type 0 where
  pub drives : (shelved b).drives ≡ (shelved a).drives
  pub units : (shelved b).units ≡ (shelved a).units
  pub output : (shelved b).output ≡ (shelved a).output
  pub taken : (shelved b).taken ≡ (shelved a).taken
  pub calls : (view b).calls ≡ []
  pub starved : (view b).starved ≡ (view a).starved
  pub source : SameStream (sourced a) (sourced b)
  pub sink : SameStream (sunk a) (sunk b)

-- nothing but the shelf has changed
pub record StreamsStay (a b : MemWorld) : Type 0 where
  pub plans : SamePlans a b
  pub source : SameStream (sourced a) (sourced b)
  pub sink : SameStream (sunk a) (sunk b)

-- nothing but the source has changed
pub record AllButInputStays (a b : MemWorld) : Type 0 where
  pub plans : SamePlans a b
  pub shelf : TakenOnly (shelved a) (shelved b)
  pub sink : SameStream (sunk a) (sunk b)
  pub told : b.taken + length (sourced b).bytes ≡ a.taken + length (sourced a).bytes

-- nothing but the sink has changed
pub record AllButOutputStays (a b : MemWorld) : Type 0 where
  pub plans : SamePlans a b
  pub shelf : OutputOnly (shelved a) (shelved b)
  pub source : SameStream (sourced a) (sourced b)

abbrev pub calls_on : MemWorld → Device → ℕ
calls_on w (Drive d) = made_at w.drives.items d.0
calls_on w (Nv n) = made_at w.nvram.items n.0

-- the device is pulled, or the list names its next call
abbrev pub will_fail_on : MemWorld → Device → Bool
will_fail_on w d = fails (plan_on w d) (calls_on w d)

-- the list names the next take, or the next give
abbrev pub take_will_fail : MemWorld → Bool
take_will_fail w = is_named w.takes

abbrev pub give_will_fail : MemWorld → Bool
give_will_fail w = is_named w.gives
