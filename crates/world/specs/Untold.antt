-- A shelf that tells no contents and no stop: its counts alone.
use Rattle.std.proofs.Common.{◌≡◌, ◌≤◌, ◌-◌, ◌^◌, ℕ, List, [], ◌∷◌, slice_index, refl, arith}
use Rattle.pur_base.specs.declared.device.Device.{Device}
use Rattle.pur_base.specs.declared.device.Device.TheVariants.{Nv}
use Rattle.pur_base.specs.declared.limits.TheConstants.{SLOTS_MIN, SLOTS_MAX, UNITS_MIN, UNITS_MAX}
use Rattle.world.specs.declared.tallies.Tallies.{Tallies}
use Rattle.world.specs.Shelf.{Disk, Shelved, Stop, MayStop, IsShelf, Elapses}
use Rattle.world.specs.Streams.{Streamed}
use Rattle.world.specs.Counts.{capped}
use Rattle.world.specs.Tallies.{faults_of, write_faults_of}

-- no image has such a byte, so no stop is told
abbrev pub no_bytes : List ℕ
no_bytes = 256 ∷ []

abbrev pub untold_disk : Tallies → Device → Disk
untold_disk t d = record { bytes = no_bytes; dirty = []; faults = faults_of t d; write_faults = write_faults_of t d }

abbrev pub untold : ℕ → ℕ → Tallies → Shelved
untold drives units t = record {
  honest = ⊥;
  lapsed = ⊥;
  drives = drives;
  units = units;
  disk = untold_disk t;
  output = [];
  taken = 0;
  moment = 0;
  left_since = λ t stop. ⊥;
}

-- a stream that tells no contents
abbrev pub untold_stream : ℕ → Streamed
untold_stream faults = record { honest = ⊥; bytes = []; faults = faults }

pub no_stop : (drives units : ℕ) (t : Tallies) (stop : Stop) → MayStop (untold drives units t) stop → ⊥
no_stop drives units t stop may =
    let m = may.device (Nv (record { 0 = 0 })) in
    let is : slice_index (stop.image (Nv (record { 0 = 0 }))) 0 ≡ 256 = m.clean 0 (λ none. none) in
    absurd (omega (arith, m.is_byte 0, is))

capped_end : (n : ℕ) → capped n ≤ 2 ^ 64 - 1
capped_end n = omega arith

pub untold_shelf : (drives units : ℕ) (t : Tallies) → (SLOTS_MIN ≤ drives) × (drives ≤ SLOTS_MAX) → (UNITS_MIN ≤ units) × (units ≤ UNITS_MAX) → IsShelf (untold drives units t)
untold_shelf drives units t in_drives in_units = record {
  drives = in_drives;
  units = in_units;
  sizes = λ h. absurd h;
  bytes = λ h. absurd h;
  faults = λ d. capped_end _;
  write_faults = λ d. capped_end _;
  counts_now = λ time stop le may. no_stop drives units t stop may;
  only_now = λ stop left. absurd left;
}

-- one call later, in which counts may have gone up
pub untold_elapses : (drives units : ℕ) (a b : Tallies) → ((d : Device) → faults_of a d ≤ faults_of b d) → ((d : Device) → write_faults_of a d ≤ write_faults_of b d) → Elapses (untold drives units a) (untold drives units b)
untold_elapses drives units a b faults write_faults = record {
  continues = record {
    drives = refl;
    units = refl;
    honest = λ h. h;
    honest_before = λ h. h;
    lapsed = λ l. l;
    output = ([], refl);
    taken = omega arith;
    later = omega arith;
    faults = faults;
    write_faults = write_faults;
    keeps = λ whole t stop le left. left;
  };
  quiet = record { output = refl; taken = refl };
  nothing_else = λ t stop le left. absurd left;
}
