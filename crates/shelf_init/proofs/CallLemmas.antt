-- What the calls of each phase leave.
use Rattle.shelf_init.proofs.Prelude.{◌≡◌, ◌≢◌, ◌⊎◌, inl, inr, ℕ, ◌*◌, ◌≤◌, ◌<◌, List, [], length, slice_index, refl, sym, ◌∙◌, ap, subst, arith, Bool, true, false, Result, Ok, Err, OnOk, Some, None, ◌==◌, Device, SECTOR_BYTES, UNIT_BYTES, NVRAM_DEVICES, Geometry, drive, nvram, is_open, same_device, RECORD_BYTES, gate_bytes, BootSlot, A, B, IsRecordOf, gate_place, body_place, body_in, shown_by, spelling, LOG_SLOTS, Failed, geometry_of, Shelved, Disk, Stop, IsOf, IsIn, IsShelf, Continues, LeavesOnly, OthersStay, Written, OneRange, WritesOnly, LeavesBut, MayLeaveBut, Only, then_run, weaker, still_of, writes_more, none_dirty, all_drives, first_record, IsBlank, AreClean, NoneFailed, OneFailed, IsNoneOrEmpty, IsMember, IsDrive, IsOneOf, OnMembers, OnSlot, CountsStay, closed_shows, gates_stay, bodies_same, other_same, opened, body_low, body_is, shows_written, IsShut, IsEmptied, HasNoCommand, HidesOnly, IsNvram, OnAllOpen, OnBootOrLog, OnLogGates, HasFirst}
use Rattle.pur_base.specs.declared.device.Device.TheVariants as dev
use Rattle.boot_region.proofs.Stored.{rises_between}
use Rattle.shelf_init.proofs.FirstLemmas.{first_is_lawful, is_named}
use Rattle.shelf_init.proofs.ViewLemmas.{hidden_gives_none, shut_gives_none, opening_gives_first}
use Rattle.shelf_init.proofs.MadeLemmas.{is_made}

-- ---- counts

pub none_failed : (s : Shelved) → NoneFailed s s
none_failed s = λ d on. (refl, refl)

pub none_then : (a b c : Shelved) → Continues a b → NoneFailed a b → NoneFailed b c → NoneFailed a c
none_then a b c ab first next = λ d on.
    let x = first d on in
    let y = next d (still_of ab d on) in
    (y.0 ∙ x.0, y.1 ∙ x.1)

-- a device of the one shelf is one of the other
before_of : (a b : Shelved) → Continues a b → (d : Device) → IsOf b d → IsOf a d
before_of a b on (dev.Drive d) is = omega (arith, on.drives, is)
before_of a b on (dev.Nv n) is = is

-- what failed later failed since the beginning
pub failed_later : (a b c : Shelved) → Continues a b → OneFailed b c → OneFailed a c
failed_later a b c ab one = record {
  device = one.device;
  is_there = before_of a b ab one.device one.is_there;
  rose = rises_between _ _ _ _ (ab.faults one.device) one.rose (let same : (c.disk one.device).faults ≤ (c.disk one.device).faults = omega arith in same);
}

-- one call on one device
pub one_ok : (a b : Shelved) (device : Device) → OthersStay device a b → CountsStay (a.disk device) (b.disk device) → NoneFailed a b
one_ok a b device others here d on = elim (same_device d device) [
  | inl e ↦ subst (λ (x : Device). ((b.disk x).faults ≡ (a.disk x).faults) × ((b.disk x).write_faults ≡ (a.disk x).write_faults)) (sym e) (here.faults, here.write_faults)
  | inr ne ↦ let same : b.disk d ≡ a.disk d = others d ne in (ap (λ (x : Disk). x.faults) same, ap (λ (x : Disk). x.write_faults) same)
]

pub one_clean : (a b : Shelved) (device : Device) → OthersStay device a b → (b.disk device).dirty ≡ [] → AreClean a → AreClean b
one_clean a b device others here clean d = elim (same_device d device) [
  | inl e ↦ subst (λ (x : Device). (b.disk x).dirty ≡ []) (sym e) here
  | inr ne ↦ ap (λ (x : Disk). x.dirty) (others d ne) ∙ clean d
]

-- ---- stops

-- outside of what is written, a stop leaves what a clean device holds
pub left_clean : {W : ℕ → Type 0} (disk : Disk) (bytes : List ℕ) → disk.dirty ≡ [] → MayLeaveBut W disk bytes → (k : ℕ) → (W k → ⊥) → slice_index bytes k ≡ slice_index disk.bytes k
left_clean {W} disk bytes clean may k out = may.same k (none_dirty disk clean k) out

pub same_geometry : (a b : Shelved) → Continues a b → geometry_of b ≡ geometry_of a
same_geometry a b on =
    let e : b.drives ≡ a.drives = on.drives in
    let f : b.units ≡ a.units = on.units in
    λ k. record { slots = e k; units = f k }

-- ---- the record is stored

module _ (a b c : Shelved) (is_a : IsShelf a) (is_b : IsShelf b) (h : a.honest) (ab : Continues a b) (empty : IsEmptied a)
    (w1 : WritesOnly (OnMembers (all_drives a.drives) (body_place B) RECORD_BYTES) a b) where
  body_out : (i : ℕ) (old new : List ℕ) → ((k : ℕ) → (OnMembers (all_drives a.drives) (body_place B) RECORD_BYTES (drive i) k → ⊥) → slice_index new k ≡ slice_index old k)
      → (k : ℕ) → (IsIn (record { start = body_place B; size = RECORD_BYTES }) k → ⊥) → slice_index new k ≡ slice_index old k
  body_out i old new same k out = same k (λ w. out w.1)

  gate_still : (t : BootSlot) (old new : List ℕ) → length new ≡ length old → ((k : ℕ) → (IsIn (record { start = body_place B; size = RECORD_BYTES }) k → ⊥) → slice_index new k ≡ slice_index old k)
      → is_open (gate_place t) new ≡ is_open (gate_place t) old
  gate_still t old new size same = ap (λ (x : ℕ). x == 1) (gates_stay B old new size same t)

  -- while the bodies are written
  pub while_writing : (stop : Stop) → LeavesBut (OnMembers (all_drives a.drives) (body_place B) RECORD_BYTES) a stop → IsNoneOrEmpty (geometry_of a) stop.image
  while_writing stop left = shut_gives_none (geometry_of a) stop.image (λ t i lt.
      let may = left.bytes (drive i) in
      closed_shows t (stop.image (drive i))
      (gate_still t (a.disk (drive i)).bytes (stop.image (drive i)) may.size
      (body_out i (a.disk (drive i)).bytes (stop.image (drive i)) (left_clean (a.disk (drive i)) (stop.image (drive i)) (empty.clean (drive i)) may)) ∙ empty.shut t i lt))

  module _ (body : List ℕ) (spells : body ≡ spelling (first_record (geometry_of a))) (size : length body ≡ RECORD_BYTES) (clean_b : AreClean b)
      (written : (i : ℕ) → IsMember (all_drives a.drives) i → Written (body_place B) body (a.disk (drive i)).bytes (b.disk (drive i)).bytes) where
    lawful : IsRecordOf (geometry_of a) (first_record (geometry_of a))
    lawful = first_is_lawful (geometry_of a) is_a.drives is_a.units

    gates_b : (t : BootSlot) (i : ℕ) → i < a.drives → is_open (gate_place t) (b.disk (drive i)).bytes ≡ false
    gates_b t i lt =
        let changes = w1.device (drive i) in
        gate_still t (a.disk (drive i)).bytes (b.disk (drive i)).bytes changes.size (body_out i (a.disk (drive i)).bytes (b.disk (drive i)).bytes changes.bytes) ∙ empty.shut t i lt

    on_b : (i : ℕ) → i < a.drives → length (b.disk (drive i)).bytes ≡ UNIT_BYTES * b.units
    on_b i lt = is_b.sizes (ab.honest h) (drive i) (omega (arith, lt, ab.drives))

    body_b : (i : ℕ) → i < a.drives → body_in B (b.disk (drive i)).bytes ≡ spelling (first_record (geometry_of a))
    body_b i lt = body_is (body_place B) body (a.disk (drive i)).bytes (b.disk (drive i)).bytes size (omega (arith, on_b i lt, body_low B, is_b.units.0)) (written i (is_named a.drives i lt)) ∙ spells

    nvram_b : (n : ℕ) (k : ℕ) → slice_index (b.disk (nvram n)).bytes k ≡ slice_index (a.disk (nvram n)).bytes k
    nvram_b n k = (w1.device (nvram n)).bytes k (λ none. none)

    gate_out : (i : ℕ) (old new : List ℕ) → ((k : ℕ) → (OnMembers (all_drives a.drives) (gate_place B) SECTOR_BYTES (drive i) k → ⊥) → slice_index new k ≡ slice_index old k)
        → (k : ℕ) → (IsIn (record { start = gate_place B; size = SECTOR_BYTES }) k → ⊥) → slice_index new k ≡ slice_index old k
    gate_out i old new same k out = same k (λ w. out w.1)

    -- while the gates are opened
    pub while_opening : (stop : Stop) → LeavesBut (OnMembers (all_drives a.drives) (gate_place B) SECTOR_BYTES) b stop → IsNoneOrEmpty (geometry_of a) stop.image
    while_opening stop left = opening_gives_first (geometry_of a) stop.image lawful (record { shut = shut; opens = opens; written = stands; no_command = none })
      where
        outside : (i : ℕ) (k : ℕ) → (IsIn (record { start = gate_place B; size = SECTOR_BYTES }) k → ⊥) → slice_index (stop.image (drive i)) k ≡ slice_index (b.disk (drive i)).bytes k
        outside i = gate_out i (b.disk (drive i)).bytes (stop.image (drive i)) (left_clean (b.disk (drive i)) (stop.image (drive i)) (clean_b (drive i)) (left.bytes (drive i)))

        shut : (i : ℕ) → i < a.drives → shown_by A (stop.image (drive i)) ≡ None
        shut i lt = other_same B (b.disk (drive i)).bytes (stop.image (drive i)) (left.bytes (drive i)).size (outside i) ∙ closed_shows A (b.disk (drive i)).bytes (gates_b A i lt)

        opens : (i : ℕ) → i < a.drives → (shown_by B (stop.image (drive i)) ≡ None) ⊎ (shown_by B (stop.image (drive i)) ≡ Some (spelling (first_record (geometry_of a))))
        opens i lt = elim (opened B (b.disk (drive i)).bytes (stop.image (drive i)) (left.bytes (drive i)).size (outside i) (spelling (first_record (geometry_of a))) (body_b i lt) (gates_b B i lt)) [
          | inl same ↦ inl (same ∙ closed_shows B (b.disk (drive i)).bytes (gates_b B i lt))
          | inr now ↦ inr now.0
        ]

        stands : (i : ℕ) → i < a.drives → body_in B (stop.image (drive i)) ≡ spelling (first_record (geometry_of a))
        stands i lt = bodies_same B (b.disk (drive i)).bytes (stop.image (drive i)) (left.bytes (drive i)).size (outside i) B ∙ body_b i lt

        none : (n i : ℕ) → n < NVRAM_DEVICES → i < LOG_SLOTS → is_open i (stop.image (nvram n)) ≡ false
        none n i lt below =
            ap (λ (x : ℕ). x == 1) (left_clean (b.disk (nvram n)) (stop.image (nvram n)) (clean_b (nvram n)) (left.bytes (nvram n)) i (λ w. w) ∙ nvram_b n i) ∙ empty.no_command n i lt below

    -- once they are open
    module _ (is_c : IsShelf c) (bc : Continues b c) (clean_c : AreClean c) (w2 : WritesOnly (OnMembers (all_drives a.drives) (gate_place B) SECTOR_BYTES) b c)
        (from : List ℕ) (opens : from ≡ gate_bytes true) (gates : (i : ℕ) → IsMember (all_drives a.drives) i → Written (gate_place B) from (b.disk (drive i)).bytes (c.disk (drive i)).bytes) where
      same_c : geometry_of a ≡ geometry_of c
      same_c = sym (same_geometry b c bc ∙ same_geometry a b ab)

      shows : (i : ℕ) → i < c.drives → shown_by B (c.disk (drive i)).bytes ≡ Some (spelling (first_record (geometry_of c)))
      shows i lt =
          let there : i < a.drives = omega (arith, lt, bc.drives, ab.drives) in
          shows_written B from (b.disk (drive i)).bytes (c.disk (drive i)).bytes opens (gates i (is_named a.drives i there))
          ∙ ap (λ (l : List ℕ). Some l) (body_b i there ∙ ap (λ (g : Geometry). spelling (first_record g)) same_c)

      shut_c : IsShut c A
      shut_c i lt =
          let changes = w2.device (drive i) in
          ap (λ (x : ℕ). x == 1) (changes.bytes (gate_place A) (λ w. omega (arith, w.1.0))) ∙ gates_b A i (omega (arith, lt, bc.drives, ab.drives))

      no_command_c : HasNoCommand c
      no_command_c n i lt below = ap (λ (x : ℕ). x == 1) ((w2.device (nvram n)).bytes i (λ none. none) ∙ nvram_b n i) ∙ empty.no_command n i lt below

      pub stored : HasFirst c
      stored = is_made c is_c clean_c shows shut_c no_command_c

-- ---- the logs are emptied

module _ (a b c : Shelved) (ab : Continues a b) (clean : AreClean b) (shut : (slot : BootSlot) → IsShut b slot) (w : WritesOnly OnLogGates b c) where
  pub while_clearing : (stop : Stop) → LeavesBut OnLogGates b stop → IsNoneOrEmpty (geometry_of a) stop.image
  while_clearing stop left = shut_gives_none (geometry_of a) stop.image (λ t i lt.
      closed_shows t (stop.image (drive i))
      (ap (λ (x : ℕ). x == 1) (left_clean (b.disk (drive i)) (stop.image (drive i)) (clean (drive i)) (left.bytes (drive i)) (gate_place t) (λ none. none)) ∙ shut t i (omega (arith, lt, ab.drives))))

  pub emptied : Continues b c → AreClean c → HasNoCommand c → IsEmptied c
  emptied bc clean_c none = record {
    clean = clean_c;
    shut = λ t i lt. ap (λ (x : ℕ). x == 1) ((w.device (drive i)).bytes (gate_place t) (λ none. none)) ∙ shut t i (omega (arith, lt, bc.drives));
    no_command = none;
  }

-- ---- NVRAM devices

nvram_number : Device → ℕ
nvram_number (dev.Drive d) = 0
nvram_number (dev.Nv n) = n.0

pub nvrams_apart : (m n : ℕ) → m ≢ n → nvram m ≢ nvram n
unfolding nvram_number
nvrams_apart m n ne e = ne (ap nvram_number e)

pub only_nvram : (n : ℕ) (d : Device) → Only (nvram n) d → IsNvram d
only_nvram n d is = subst IsNvram (sym is) tt

-- as many bytes as there are gates
pub on_log_gates : (n size : ℕ) → size ≡ LOG_SLOTS → (d : Device) (i : ℕ) → OneRange (nvram n) 0 size d i → OnLogGates d i
on_log_gates n size all d i w = subst (λ (x : Device). OnLogGates x i) (sym w.0) (omega (arith, w.1.1, all))

-- ---- the whole of a phase

module _ (a b c : Shelved) (is_a : IsShelf a) (is_b : IsShelf b) (h : a.honest) (ab : Continues a b) (empty : IsEmptied a)
    (w1 : WritesOnly (OnMembers (all_drives a.drives) (body_place B) RECORD_BYTES) a b) where
  pub storing_first : LeavesOnly a b (λ stop. IsNoneOrEmpty (geometry_of a) stop.image)
  storing_first = weaker (while_writing a b b is_a is_b h ab empty w1) w1.any_moment

  pub storing_both : (body : List ℕ) → body ≡ spelling (first_record (geometry_of a)) → length body ≡ RECORD_BYTES → AreClean b
      → ((i : ℕ) → IsMember (all_drives a.drives) i → Written (body_place B) body (a.disk (drive i)).bytes (b.disk (drive i)).bytes)
      → WritesOnly (OnMembers (all_drives a.drives) (gate_place B) SECTOR_BYTES) b c → LeavesOnly a c (λ stop. IsNoneOrEmpty (geometry_of a) stop.image)
  storing_both body spells size clean_b written w2 =
      then_run ab storing_first (weaker (while_opening a b b is_a is_b h ab empty w1 body spells size clean_b written) w2.any_moment)

  pub if_stored : (answer : Result (Unit {0}) Failed) (body : List ℕ) → body ≡ spelling (first_record (geometry_of a)) → length body ≡ RECORD_BYTES → AreClean b
      → ((i : ℕ) → IsMember (all_drives a.drives) i → Written (body_place B) body (a.disk (drive i)).bytes (b.disk (drive i)).bytes)
      → IsShelf c → Continues b c → WritesOnly (OnMembers (all_drives a.drives) (gate_place B) SECTOR_BYTES) b c → OnOk answer (AreClean b → AreClean c)
      → (from : List ℕ) → from ≡ gate_bytes true → OnOk answer ((i : ℕ) → IsMember (all_drives a.drives) i → Written (gate_place B) from (b.disk (drive i)).bytes (c.disk (drive i)).bytes)
      → OnOk answer (HasFirst c)
  if_stored (Ok x) body spells size clean_b written is_c bc w2 clean from opens gates =
      stored a b c is_a is_b h ab empty w1 body spells size clean_b written is_c bc (clean clean_b) w2 from opens gates
  if_stored (Err x) body spells size clean_b written is_c bc w2 clean from opens gates = tt

module _ (a b c : Shelved) (ab : Continues a b) (bc : Continues b c) (blank : IsBlank a) (closing : LeavesOnly a b (λ stop. HidesOnly a stop.image)) where
  pub making_first : LeavesOnly a b (λ stop. IsNoneOrEmpty (geometry_of a) stop.image)
  making_first = weaker (λ stop hides. hidden_gives_none a stop.image blank hides) closing

  pub making_two : AreClean b → ((slot : BootSlot) → IsShut b slot) → WritesOnly OnLogGates b c → LeavesOnly a c (λ stop. IsNoneOrEmpty (geometry_of a) stop.image)
  making_two clean shut w = then_run ab making_first (weaker (while_clearing a b c ab clean shut w) w.any_moment)

-- the record's bytes, for the shelf as it is by then
pub spells_then : (a b : Shelved) (body : List ℕ) → Continues a b → body ≡ spelling (first_record (geometry_of a)) → body ≡ spelling (first_record (geometry_of b))
spells_then a b body on spells = spells ∙ ap (λ (g : Geometry). spelling (first_record g)) (sym (same_geometry a b on))

-- and what is left later, for the shelf as it was
pub moments_of : (a b c : Shelved) → Continues a b → LeavesOnly b c (λ stop. IsNoneOrEmpty (geometry_of b) stop.image) → LeavesOnly b c (λ stop. IsNoneOrEmpty (geometry_of a) stop.image)
moments_of a b c on moments = weaker (λ stop left. subst (λ (g : Geometry). IsNoneOrEmpty g stop.image) (same_geometry a b on) left) moments

-- what was written where, in other words
pub on_there : {flags all : List Bool} {at place n size : ℕ} → flags ≡ all → at ≡ place → n ≡ size → (d : Device) (i : ℕ) → OnMembers flags at n d i → OnMembers all place size d i
on_there {flags} {all} {at} {place} {n} {size} f p s d i w =
    subst (λ (l : List Bool). OnMembers l place size d i) f (subst (λ (x : ℕ). OnMembers flags x size d i) p (subst (λ (x : ℕ). OnMembers flags at x d i) s w))

pub wrote_there : {flags all : List Bool} {at place n size : ℕ} {a b : Shelved} → flags ≡ all → at ≡ place → n ≡ size → WritesOnly (OnMembers flags at n) a b → WritesOnly (OnMembers all place size) a b
wrote_there f p s w = writes_more (on_there f p s) w

-- the drives that were chosen are drives
pub one_drive : (members : List Bool) (d : Device) → IsOneOf members d → IsDrive d
one_drive members (dev.Drive k) is = tt
one_drive members (dev.Nv n) is = is

-- what each phase writes is of the boot region, or the gates of the log
pub open_in_boot : (bytes : List ℕ) (d : Device) (i : ℕ) → OnAllOpen bytes d i → OnBootOrLog d i
open_in_boot bytes (dev.Drive k) i (inl w) = omega (arith, w.1)
open_in_boot bytes (dev.Drive k) i (inr w) = omega (arith, w.1)
open_in_boot bytes (dev.Nv n) i (inl w) = absurd w
open_in_boot bytes (dev.Nv n) i (inr w) = absurd w

pub gates_in_log : (d : Device) (i : ℕ) → OnLogGates d i → OnBootOrLog d i
gates_in_log (dev.Drive k) i w = absurd w
gates_in_log (dev.Nv n) i w = w

pub slot_in_boot : (members : List Bool) (d : Device) (i : ℕ) → OnSlot members B d i → OnBootOrLog d i
slot_in_boot members (dev.Drive k) i (inl w) = omega (arith, w.1)
slot_in_boot members (dev.Drive k) i (inr w) = omega (arith, w.1)
slot_in_boot members (dev.Nv n) i (inl w) = absurd w
slot_in_boot members (dev.Nv n) i (inr w) = absurd w

pub written_there : (a b : Shelved) {flags all : List Bool} {at place : ℕ} {from : List ℕ} → flags ≡ all → at ≡ place
    → ((i : ℕ) → IsMember flags i → Written at from (a.disk (drive i)).bytes (b.disk (drive i)).bytes) → (i : ℕ) → IsMember all i → Written place from (a.disk (drive i)).bytes (b.disk (drive i)).bytes
written_there a b {flags} {all} {at} {place} {from} f p w =
    subst (λ (l : List Bool). (i : ℕ) → IsMember l i → Written place from (a.disk (drive i)).bytes (b.disk (drive i)).bytes) f
    (subst (λ (x : ℕ). (i : ℕ) → IsMember flags i → Written x from (a.disk (drive i)).bytes (b.disk (drive i)).bytes) p w)

-- the bytes of the first record of this shelf
pub spelled_for : (s : Shelved) (slots units : ℕ) (bytes body : List ℕ) → bytes ≡ body → body ≡ spelling (first_record (record { slots = slots; units = units })) → slots ≡ s.drives → units ≡ s.units
    → bytes ≡ spelling (first_record (geometry_of s))
spelled_for s slots units bytes body same spells drives many =
    same ∙ spells ∙ ap (λ (n : ℕ). spelling (first_record (record { slots = n; units = units }))) drives ∙ ap (λ (n : ℕ). spelling (first_record (record { slots = s.drives; units = n }))) many
