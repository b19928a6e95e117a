-- A device call, in the past of the world.
use Rattle.world_mem.proofs.Prelude.{Bool, true, ◌≡◌, ◌⊎◌, inl, inr, ⊎_elim, ℕ, zero, suc, ◌-◌, ◌≤◌, ◌+◌, List, [], ◌∷◌, ◌++◌, length, take, drop, reverse, refl, sym, ◌∙◌, ap, subst, arith, length-append, Result, Ok, Err, append-nil, reverse-append, length-map, Device, Drive, Nv, DriveId, NvId, same_device, Counts, Disk, Stop, MayLeave, Elapses, OthersStay, ReadCounts, WriteCounts, Failed, Span, Call, On, Give, Take, What, Read, Write, Sync, FailedRead, FailedWrite, FailedSync, Part, WasCalledIn, disks_of, disk_at, nothing, undo_what, changed, OnlyCounted, AllCounted, LoggedIn, Snap, StopAt, Left, View, shelved_of, undo, disk_in}
use Rattle.world_mem.specs.Laws.{from_snap}
use Rattle.world_mem.proofs.Bank.{same_counted, all_same}

-- what a stop since t may have left, of these calls and what is there now
abbrev pub Since : List Call → Snap → ℕ → Stop → Type 0
Since calls s t stop = Left (length calls - t) s (reverse calls) stop

module _ (calls : List Call) (call : Call) (old new : Snap) (t : ℕ) (le : t ≤ length calls) (back : undo call new ≡ old) (stop : Stop) where
  longer : length (calls ++ call ∷ []) - t ≡ suc (length calls - t)
  longer = omega (arith, length-append calls (call ∷ []), le)

  turned : reverse (calls ++ call ∷ []) ≡ call ∷ reverse calls
  turned = reverse-append calls (call ∷ [])

  parted : Since (calls ++ call ∷ []) new t stop ≡ (StopAt new stop ⊎ Since calls old t stop)
  parted = (λ i. Left (longer i) new (turned i) stop) ∙ (λ i. StopAt new stop ⊎ Left (length calls - t) (back i) (reverse calls) stop)

  pub less : Since (calls ++ call ∷ []) new t stop → StopAt new stop ⊎ Since calls old t stop
  less left = subst (λ (X : Type 0). X) parted left

  pub more : StopAt new stop ⊎ Since calls old t stop → Since (calls ++ call ∷ []) new t stop
  more left = subst (λ (X : Type 0). X) (sym parted) left

-- only counts are higher
pub record IsCounted (old new : Snap) : Type 0 where
  pub drives : AllCounted old.drives new.drives
  pub nvram : AllCounted old.nvram new.nvram
  pub output : new.output ≡ old.output
  pub taken : new.taken ≡ old.taken

undone_counted : (what : What) (a b : Disk) → OnlyCounted a b → OnlyCounted (undo_what what a) (undo_what what b)
undone_counted Read a b h = h
undone_counted (Write at was) a b h = record {
  bytes = ap (λ (l : List ℕ). take at l ++ was.items ++ drop (at + length was.items) l) h.bytes;
  dirty = ap (λ (l : List Span). take (length l - 1) l) h.dirty;
  faults = h.faults;
  write_faults = h.write_faults;
}
undone_counted (Sync dirty) a b h = record { bytes = h.bytes; dirty = refl; faults = h.faults; write_faults = h.write_faults }
undone_counted (FailedRead before) a b h = record { bytes = h.bytes; dirty = h.dirty; faults = omega arith; write_faults = omega arith }
undone_counted (FailedWrite before) a b h = record { bytes = h.bytes; dirty = ap (λ (l : List Span). take (length l - 1) l) h.dirty; faults = omega arith; write_faults = omega arith }
undone_counted (FailedSync before) a b h = record { bytes = h.bytes; dirty = h.dirty; faults = omega arith; write_faults = omega arith }

changed_counted : (what : What) (olds news : List Disk) (k : ℕ) → AllCounted olds news → AllCounted (changed what olds k) (changed what news k)
changed_counted what [] [] k h = tt
changed_counted what [] (b ∷ news) k h = absurd h
changed_counted what (a ∷ olds) [] k h = absurd h
changed_counted what (a ∷ olds) (b ∷ news) zero h = (undone_counted what a b h.0, h.1)
changed_counted what (a ∷ olds) (b ∷ news) (suc k) h = (h.0, changed_counted what olds news k h.1)

undo_counted : (call : Call) (a b : Snap) → IsCounted a b → IsCounted (undo call a) (undo call b)
undo_counted (On (Drive d) what) a b h = record { drives = changed_counted what a.drives b.drives d.0 h.drives; nvram = h.nvram; output = h.output; taken = h.taken }
undo_counted (On (Nv n) what) a b h = record { drives = h.drives; nvram = changed_counted what a.nvram b.nvram n.0 h.nvram; output = h.output; taken = h.taken }
undo_counted (Give given) a b h = record { drives = h.drives; nvram = h.nvram; output = ap (λ (l : List ℕ). take given l) h.output; taken = h.taken }
undo_counted (Take taken) a b h = record { drives = h.drives; nvram = h.nvram; output = h.output; taken = refl }

counted_at : (olds news : List Disk) (k : ℕ) → AllCounted olds news → OnlyCounted (disk_at olds k) (disk_at news k)
counted_at [] [] k h = same_counted nothing
counted_at [] (b ∷ news) k h = absurd h
counted_at (a ∷ olds) [] k h = absurd h
counted_at (a ∷ olds) (b ∷ news) zero h = h.0
counted_at (a ∷ olds) (b ∷ news) (suc k) h = counted_at olds news k h.1

pub counted_in : (a b : Snap) (d : Device) → IsCounted a b → OnlyCounted (disk_in a d) (disk_in b d)
counted_in a b (Drive d) h = counted_at a.drives b.drives d.0 h.drives
counted_in a b (Nv n) h = counted_at a.nvram b.nvram n.0 h.nvram

same_leave : (a b : Disk) → OnlyCounted a b → (bytes : List ℕ) → MayLeave b bytes → MayLeave a bytes
same_leave a b h bytes may =
    subst (λ (l : List ℕ). MayLeave (record { bytes = l; dirty = a.dirty; faults = a.faults; write_faults = a.write_faults }) bytes) h.bytes
    (subst (λ (l : List Span). MayLeave (record { bytes = b.bytes; dirty = l; faults = a.faults; write_faults = a.write_faults }) bytes) h.dirty
    (record { size = may.size; is_byte = may.is_byte; clean = may.clean }))

fewer_at : (a b : Snap) → IsCounted a b → (stop : Stop) → StopAt b stop → StopAt a stop
fewer_at a b h stop at = record {
  device = λ d. same_leave (disk_in a d) (disk_in b d) (counted_in a b d h) (stop.image d) (at.device d);
  faults = λ d. omega (arith, (counted_in a b d h).faults, at.faults d);
  write_faults = λ d. omega (arith, (counted_in a b d h).write_faults, at.write_faults d);
  output = at.output ∙ h.output;
  taken = at.taken ∙ h.taken;
}

-- with lower counts, more stops are possible
fewer : (n : ℕ) (a b : Snap) (calls : List Call) → IsCounted a b → (stop : Stop) → Left n b calls stop → Left n a calls stop
fewer zero a b calls h stop left = fewer_at a b h stop left
fewer (suc n) a b [] h stop left = fewer_at a b h stop left
fewer (suc n) a b (call ∷ calls) h stop (inl now) = inl (fewer_at a b h stop now)
fewer (suc n) a b (call ∷ calls) h stop (inr was) = inr (fewer n (undo call a) (undo call b) calls (undo_counted call a b h) stop was)

-- one call more is recorded; or the record has a gap, and only counts are higher
abbrev pub Steps : View → View → Type 0
Steps old new = ((call : Call) × (new.calls ≡ old.calls ++ call ∷ []) × (undo call new.now ≡ old.now)) ⊎ ((new.starved ≡ true) × (new.calls ≡ old.calls) × IsCounted old.now new.now)

-- a device's counts of failed calls don't fall
pub record CountsRise (old new : Disk) : Type 0 where
  pub faults : old.faults ≤ new.faults
  pub write_faults : old.write_faults ≤ new.write_faults

pub same_length : (a b : List Part) → length b ≡ length a → length (disks_of b) ≡ length (disks_of a)
same_length a b h = simp length-map h

-- what a device call leaves as it is
record Stays (old new : View) : Type 0 where
  pub drives : length new.now.drives ≡ length old.now.drives
  pub units : new.units ≡ old.units
  pub output : new.now.output ≡ old.now.output
  pub taken : new.now.taken ≡ old.now.taken
  pub starved : old.starved ≡ true → new.starved ≡ true

elapses : (old new : View) → Stays old new → ((d : Device) → CountsRise (disk_in old.now d) (disk_in new.now d)) → Steps old new → Elapses (shelved_of old) (shelved_of new)
elapses old new stays rise (inl one) = record {
  continues = record {
    drives = stays.drives;
    units = stays.units;
    honest = λ h. h;
    honest_before = λ h. h;
    lapsed = stays.starved;
    output = ([], stays.output ∙ sym (append-nil old.now.output));
    taken = omega (arith, stays.taken);
    later = omega (arith, ap (length {A = Call}) one.1, length-append old.calls (one.0 ∷ []));
    faults = λ d. (rise d).faults;
    write_faults = λ d. (rise d).write_faults;
    keeps = λ whole t stop le left. subst (λ (cs : List Call). Since cs new.now t stop) (sym one.1) (more old.calls one.0 old.now new.now t le one.2 stop (inr left));
  };
  quiet = record { output = stays.output; taken = stays.taken };
  nothing_else = λ t stop le left. ⊎_elim (λ now. inr (from_snap new stop now)) (λ was. inl was)
      (less old.calls one.0 old.now new.now t le one.2 stop (subst (λ (cs : List Call). Since cs new.now t stop) one.1 left));
}
elapses old new stays rise (inr gap) = record {
  continues = record {
    drives = stays.drives;
    units = stays.units;
    honest = λ h. h;
    honest_before = λ h. h;
    lapsed = stays.starved;
    output = ([], stays.output ∙ sym (append-nil old.now.output));
    taken = omega (arith, stays.taken);
    later = omega (arith, ap (length {A = Call}) gap.1);
    faults = λ d. (rise d).faults;
    write_faults = λ d. (rise d).write_faults;
    keeps = λ whole t stop le left. absurd (whole gap.0);
  };
  quiet = record { output = stays.output; taken = stays.taken };
  nothing_else = λ t stop le left. inl (fewer (length old.calls - t) old.now new.now (reverse old.calls) gap.2 stop (subst (λ (cs : List Call). Since cs new.now t stop) gap.1 left));
}

no_less : (answer : Result (Unit {0}) Failed) (a b : ℕ) → Counts answer a b → a ≤ b
no_less (Ok x) a b h = omega arith
no_less (Err x) a b h = ⊎_elim (λ lt. let k : a ≤ b = omega arith in k) (λ end. let e = end.1 in let k : a ≤ b = omega arith in k) h

pub counts_of_read : (answer : Result (Unit {0}) Failed) (old new : Disk) → ReadCounts answer old new → CountsRise old new
counts_of_read answer old new counts = record { faults = no_less answer _ _ counts.faults; write_faults = let k = counts.write_faults in omega arith }

pub counts_of_write : (answer : Result (Unit {0}) Failed) (old new : Disk) → WriteCounts answer old new → CountsRise old new
counts_of_write answer old new counts = record { faults = no_less answer _ _ counts.faults; write_faults = no_less answer _ _ counts.write_faults }

rise_on : (old new : View) (device : Device) → CountsRise (disk_in old.now device) (disk_in new.now device) → OthersStay device (shelved_of old) (shelved_of new) → (d : Device) → CountsRise (disk_in old.now d) (disk_in new.now d)
rise_on old new device rise others d = elim (same_device d device) [
  | inl e ↦ subst (λ (x : Device). CountsRise (disk_in old.now x) (disk_in new.now x)) (sym e) rise
  | inr ne ↦ record { faults = omega (arith, ap (λ (x : Disk). x.faults) (others d ne)); write_faults = omega (arith, ap (λ (x : Disk). x.write_faults) (others d ne)) }
]

-- that view with these devices, and this record of calls
abbrev pub with_drives : View → List Part → List Call → Bool → View
with_drives v parts calls starved = record { now = record v.now { drives = disks_of parts }; units = v.units; calls = calls; starved = starved }

abbrev pub with_nvram : View → List Part → List Call → Bool → View
with_nvram v parts calls starved = record { now = record v.now { nvram = disks_of parts }; units = v.units; calls = calls; starved = starved }

module _ (v : View) {answer : Result (Unit {0}) Failed} {was_starved starved : Bool} {calls after_calls : List Call} {parts after : List Part} where
  -- a call on one drive
  module _ (d : DriveId) (called : WasCalledIn (Drive d) d.0 answer was_starved starved calls after_calls parts after) where
    drive_steps : LoggedIn (Drive d) d.0 (starved ≡ true) (disks_of parts) (disks_of after) calls after_calls → Steps (with_drives v parts calls was_starved) (with_drives v after after_calls starved)
    drive_steps (inl one) = inl (On (Drive d) one.0, one.1, λ i. record v.now { drives = one.2 i })
    drive_steps (inr gap) = inr (gap.0, gap.1, record { drives = gap.2; nvram = all_same v.now.nvram; output = refl; taken = refl })

    other_drives : OthersStay (Drive d) (shelved_of (with_drives v parts calls was_starved)) (shelved_of (with_drives v after after_calls starved))
    other_drives (Drive e) ne = called.others e.0 (λ is. ne (λ i. Drive (record { 0 = is i })))
    other_drives (Nv n) ne = refl

    pub drive_elapses : CountsRise (disk_at (disks_of parts) d.0) (disk_at (disks_of after) d.0) → Elapses (shelved_of (with_drives v parts calls was_starved)) (shelved_of (with_drives v after after_calls starved))
    drive_elapses rise =
        let old = with_drives v parts calls was_starved in
        let new = with_drives v after after_calls starved in
        elapses old new (record { drives = same_length _ _ called.len; units = refl; output = refl; taken = refl; starved = called.stays })
        (rise_on old new (Drive d) rise other_drives) (drive_steps called.logged)

  -- a call on one NVRAM device
  module _ (n : NvId) (called : WasCalledIn (Nv n) n.0 answer was_starved starved calls after_calls parts after) where
    nv_steps : LoggedIn (Nv n) n.0 (starved ≡ true) (disks_of parts) (disks_of after) calls after_calls → Steps (with_nvram v parts calls was_starved) (with_nvram v after after_calls starved)
    nv_steps (inl one) = inl (On (Nv n) one.0, one.1, λ i. record v.now { nvram = one.2 i })
    nv_steps (inr gap) = inr (gap.0, gap.1, record { drives = all_same v.now.drives; nvram = gap.2; output = refl; taken = refl })

    other_nvram : OthersStay (Nv n) (shelved_of (with_nvram v parts calls was_starved)) (shelved_of (with_nvram v after after_calls starved))
    other_nvram (Drive d) ne = refl
    other_nvram (Nv m) ne = called.others m.0 (λ is. ne (λ i. Nv (record { 0 = is i })))

    pub nv_elapses : CountsRise (disk_at (disks_of parts) n.0) (disk_at (disks_of after) n.0) → Elapses (shelved_of (with_nvram v parts calls was_starved)) (shelved_of (with_nvram v after after_calls starved))
    nv_elapses rise =
        let old = with_nvram v parts calls was_starved in
        let new = with_nvram v after after_calls starved in
        elapses old new (record { drives = refl; units = refl; output = refl; taken = refl; starved = called.stays })
        (rise_on old new (Nv n) rise other_nvram) (nv_steps called.logged)
