-- The laws of a shelf, at a world in memory.
use Rattle.std.proofs.Common.{◌≡◌, ◌<◌, ◌≤◌, ◌-◌, ◌^◌, inl, ℕ, zero, suc, List, [], ◌∷◌, length, reverse, slice_index, refl, ◌∙◌, subst, arith}
use Rattle.std.proofs.lemmas.List.{length-map}
use Rattle.world.specs.Prelude.{Device, Drive, Nv, Stop, MayStop, IsShelf, IsOf, size_of, IsPreorder, same_stream, stream_then, nothing_taken, taken_then, no_output, output_then}
use Rattle.world_mem.specs.declared.record.Call.{Call}
use Rattle.world_mem.specs.declared.part.Part.{Part}
use Rattle.world_mem.specs.declared.mem_world.MemWorld.{MemWorld}
use Rattle.world_mem.specs.Parts.{disks_of, disk_at, bytes_at}
use Rattle.world_mem.specs.Past.{Snap, StopAt, Left, View, shelved, shelved_of, view, sourced, sunk, StreamsStay, AllButInputStays, AllButOutputStays, SamePlans}

pub to_snap : (v : View) (stop : Stop) → MayStop (shelved_of v) stop → StopAt v.now stop
to_snap v stop may = record { device = may.device; faults = may.counts.faults; write_faults = may.counts.write_faults; output = may.output; taken = may.taken }

pub from_snap : (v : View) (stop : Stop) → StopAt v.now stop → MayStop (shelved_of v) stop
from_snap v stop at = record { device = at.device; counts = record { faults = at.faults; write_faults = at.write_faults }; output = at.output; taken = at.taken }

now_left : (n : ℕ) (s : Snap) (calls : List Call) (stop : Stop) → StopAt s stop → Left n s calls stop
now_left zero s calls stop at = at
now_left (suc n) s [] stop at = at
now_left (suc n) s (c ∷ calls) stop at = inl at

no_byte : (i : ℕ) → slice_index [] i < 256
no_byte zero = omega arith
no_byte (suc i) = omega arith

each_byte : (parts : List Part) (k i : ℕ) → slice_index (bytes_at parts k) i < 256
each_byte [] k i = no_byte i
each_byte (p ∷ parts) zero i = p.are_bytes i
each_byte (p ∷ parts) (suc k) i = each_byte parts k i

faults_end : (parts : List Part) (k : ℕ) → (disk_at (disks_of parts) k).faults ≤ 2 ^ 64 - 1
faults_end [] k = omega arith
faults_end (p ∷ parts) zero = p.faults_end
faults_end (p ∷ parts) (suc k) = faults_end parts k

write_faults_end : (parts : List Part) (k : ℕ) → (disk_at (disks_of parts) k).write_faults ≤ 2 ^ 64 - 1
write_faults_end [] k = omega arith
write_faults_end (p ∷ parts) zero = p.write_faults_end
write_faults_end (p ∷ parts) (suc k) = write_faults_end parts k

pub is_shelf : (w : MemWorld) → IsShelf (shelved w)
is_shelf w = record {
  drives = simp length-map w.drives_in;
  units = w.units_in;
  sizes = λ h d is. size d is;
  bytes = λ h d i. byte d i;
  faults = faults;
  write_faults = write_faults;
  counts_now = λ t stop le may. now_left (length w.calls.items - t) (view w).now (reverse w.calls.items) stop (to_snap (view w) stop may);
  only_now = λ stop left. from_snap (view w) stop (subst (λ (n : ℕ). Left n (view w).now (reverse w.calls.items) stop) (let e : length w.calls.items - length w.calls.items ≡ 0 = omega arith in e) left);
}
  where
    size : (d : Device) → IsOf (shelved w) d → length ((shelved w).disk d).bytes ≡ size_of (shelved w) d
    size (Drive d) is = w.drive_sizes d.0 (simp length-map at is)
    size (Nv n) is = w.nvram_sizes n.0 is

    byte : (d : Device) (i : ℕ) → slice_index ((shelved w).disk d).bytes i < 256
    byte (Drive d) i = each_byte w.drives.items d.0 i
    byte (Nv n) i = each_byte w.nvram.items n.0 i

    faults : (d : Device) → ((shelved w).disk d).faults ≤ 2 ^ 64 - 1
    faults (Drive d) = faults_end w.drives.items d.0
    faults (Nv n) = faults_end w.nvram.items n.0

    write_faults : (d : Device) → ((shelved w).disk d).write_faults ≤ 2 ^ 64 - 1
    write_faults (Drive d) = write_faults_end w.drives.items d.0
    write_faults (Nv n) = write_faults_end w.nvram.items n.0

same_plans : (w : MemWorld) → SamePlans w w
same_plans w = record { device = λ d. refl; takes = refl; gives = refl }

plans_then : {a b c : MemWorld} → SamePlans a b → SamePlans b c → SamePlans a c
plans_then {a} {b} {c} ab bc = record { device = λ d. bc.device d ∙ ab.device d; takes = bc.takes ∙ ab.takes; gives = bc.gives ∙ ab.gives }

pub streams_stay : IsPreorder StreamsStay
streams_stay = record {
  reflexive = λ w. record { plans = same_plans w; source = same_stream (sourced w); sink = same_stream (sunk w) };
  transitive = λ a b c ab bc. record { plans = plans_then ab.plans bc.plans; source = stream_then ab.source bc.source; sink = stream_then ab.sink bc.sink };
}

pub all_but_input_stays : IsPreorder AllButInputStays
all_but_input_stays = record {
  reflexive = λ w. record { plans = same_plans w; shelf = nothing_taken (shelved w); sink = same_stream (sunk w); told = refl };
  transitive = λ a b c ab bc. record { plans = plans_then ab.plans bc.plans; shelf = taken_then ab.shelf bc.shelf; sink = stream_then ab.sink bc.sink; told = bc.told ∙ ab.told };
}

pub all_but_output_stays : IsPreorder AllButOutputStays
all_but_output_stays = record {
  reflexive = λ w. record { plans = same_plans w; shelf = no_output (shelved w); source = same_stream (sourced w) };
  transitive = λ a b c ab bc. record { plans = plans_then ab.plans bc.plans; shelf = output_then ab.shelf bc.shelf; source = stream_then ab.source bc.source };
}
