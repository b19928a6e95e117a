-- Who holds the array once other tables are those of its record.
use Rattle.array_core.proofs.Prelude.{nat_tests, ◌≡◌, ◌⊎◌, inl, inr, ℕ, List, subst, ◌∙◌, arith, Bool, true, Device, Drive, Nv, drive, nvram, Geometry, names, Rises, Shelved, Continues, IsMember, IsOneOf, IsDrive, DroppedFailed, Register, IsRegisterOf, OnSlots, drives_of, fewer_cut, on_more, DropsFailedBy, HasEnough, IsHolderBy, NoneJoinsBy, IsLostBy, OnSlotsAndLog}
use Rattle.nvram_log.specs.Members as nv
use Rattle.array_core.proofs.LostOnWay.{dropped_then, log_lost_since, rises_on}

-- a member is a drive
pub is_drive : (members : List Bool) (d : Device) → IsOneOf members d → IsDrive d
is_drive members (Drive i) is = tt
is_drive members (Nv n) is = absurd is

-- what is written on fewer drives
pub slots_of_more : (was now : Register) → now.record.slots ≡ was.record.slots → ((i : ℕ) → IsMember now.drives i → IsMember was.drives i) → (d : Device) (i : ℕ) → OnSlots (drives_of now) d i → OnSlots (drives_of was) d i
slots_of_more was now slots fewer d i w = on_more (drives_of was) (drives_of now) (fewer_cut was now slots fewer) d i w

pub all_of_more : (was now : Register) (members : List Bool) → now.record.slots ≡ was.record.slots → ((i : ℕ) → IsMember now.drives i → IsMember was.drives i) → (d : Device) (i : ℕ) → OnSlotsAndLog now members d i → OnSlotsAndLog was members d i
all_of_more was now members slots fewer d i (inl w) = inl (slots_of_more was now slots fewer d i w)
all_of_more was now members slots fewer d i (inr w) = inr w

-- ---- who is dropped

-- drives alone, where no call of a device of the log failed
pub drives_failed : (start new : Shelved) (was now : Register) (members : List Bool) → DroppedFailed start new (drives_of was) (drives_of now)
    → ((i : ℕ) → IsMember (drives_of now) i → (new.disk (drive i)).write_faults ≡ (start.disk (drive i)).write_faults) → ((n : ℕ) → (new.disk (nvram n)).write_faults ≡ (start.disk (nvram n)).write_faults)
    → DropsFailedBy start new was members now members
drives_failed start new was now members dropped unlost logs = record { leaves = λ d m. left d m; unlost = λ d m. kept d m }
  where
    left : (d : Device) → IsHolderBy was members d → IsHolderBy now members d ⊎ Rises (start.disk d).write_faults (new.disk d).write_faults
    left (Drive d) m = elim (dropped d.0 m) [ inl is ↦ inl is | inr rose ↦ inr rose.write_faults ]
    left (Nv n) m = inl m

    kept : (d : Device) → IsHolderBy now members d → (new.disk d).write_faults ≡ (start.disk d).write_faults
    kept (Drive d) m = unlost d.0 m
    kept (Nv n) m = logs n.0

-- one after another
pub drops_then : (start mid new : Shelved) → Continues start mid → Continues mid new → (r0 r1 r2 : Register) (m0 m1 m2 : List Bool) → ((d : Device) → IsHolderBy r2 m2 d → IsHolderBy r1 m1 d)
    → DropsFailedBy start mid r0 m0 r1 m1 → DropsFailedBy mid new r1 m1 r2 m2 → DropsFailedBy start new r0 m0 r2 m2
drops_then start mid new on next r0 r1 r2 m0 m1 m2 fewer first then = record { leaves = left; unlost = λ d m. then.unlost d m ∙ first.unlost d (fewer d m) }
  where
    left : (d : Device) → IsHolderBy r0 m0 d → IsHolderBy r2 m2 d ⊎ Rises (start.disk d).write_faults (new.disk d).write_faults
    left d h = elim (first.leaves d h) [
      | inl is ↦ elim (then.leaves d is) [
        | inl stays ↦ inl stays
        | inr rose ↦ inr (rises_on (start.disk d).write_faults (mid.disk d).write_faults (new.disk d).write_faults (new.disk d).write_faults (on.write_faults d) rose (omega arith))
      ]
      | inr rose ↦ inr (rises_on (start.disk d).write_faults (start.disk d).write_faults (mid.disk d).write_faults (new.disk d).write_faults (omega arith) rose (next.write_faults d))
    ]

-- what is too much since a later moment is so since the start
pub too_much_since : (start mid new : Shelved) → Continues start mid → Continues mid new → (was now : Register) (members : List Bool) → now.record.slots ≡ was.record.slots → DroppedFailed start mid (drives_of was) (drives_of now)
    → IsLostBy mid new now members → IsLostBy start new was members
too_much_since start mid new on next was now members slots dropped (inl log) = inl (log_lost_since start mid new on members log)
too_much_since start mid new on next was now members slots dropped (inr drives) = inr (record {
  left = drives.left;
  dropped = dropped_then start mid new on next (drives_of was) (drives_of now) drives.left dropped drives.dropped;
  too_few = omega (arith, slots, drives.too_few);
})

-- ---- who joins

-- on fewer drives and fewer devices of the log
pub fewer_hold : (r2 r3 : Register) (members left : List Bool) → r3.record.slots ≡ r2.record.slots → ((i : ℕ) → IsMember r3.drives i → IsMember r2.drives i) → nv.IsFewer members left → (d : Device) → IsHolderBy r3 left d → IsHolderBy r2 members d
fewer_hold r2 r3 members left slots fewer fewer_logs (Drive d) m = fewer_cut r2 r3 slots fewer d.0 m
fewer_hold r2 r3 members left slots fewer fewer_logs (Nv n) m = fewer_logs n.0 m

-- by the same log devices
pub named_left : (was now : Register) (nvrams members : List Bool) → nvrams ≡ members → ((d : Device) → names now.record d ≡ true → (names was.record d ≡ true) ⊎ IsHolderBy was nvrams d)
    → (d : Device) → names now.record d ≡ true → (names was.record d ≡ true) ⊎ IsHolderBy was members d
named_left was now nvrams members same named = subst (λ (l : List Bool). (d : Device) → names now.record d ≡ true → (names was.record d ≡ true) ⊎ IsHolderBy was l d) same named

-- once the tables were stored, by a record that names the log devices of the one before
pub none_joins_tables : (shelf : Geometry) (r0 r1 r2 : Register) (members : List Bool) → IsRegisterOf shelf r0 → ((i : ℕ) → IsMember r1.drives i → IsMember r0.drives i) → ((i : ℕ) → IsMember r2.drives i → IsMember r1.drives i)
    → r2.record.slots ≡ r0.record.slots → ((d : Device) → names r1.record d ≡ true → (names r0.record d ≡ true) ⊎ IsHolderBy r0 members d)
    → (r0.record.members.nvrams ≡ members → r1.record.members.nvrams ≡ members) → (r2.record.members.drives ≡ r2.drives) × (r2.record.members.nvrams ≡ r1.record.members.nvrams) → HasEnough r2 → NoneJoinsBy r0 members r2 members
none_joins_tables shelf r0 r1 r2 members is fewer1 fewer2 slots2 named1 nvrams1 are2 enough = grind (arith, nat_tests, fewer_cut, names)

-- and the log was cleared
pub none_joins : (r0 r2 r3 : Register) (members left : List Bool) → NoneJoinsBy r0 members r2 members → ((i : ℕ) → IsMember r3.drives i → IsMember r2.drives i) → r3.record.slots ≡ r2.record.slots → nv.IsFewer members left
    → ((d : Device) → names r3.record d ≡ true → (names r2.record d ≡ true) ⊎ IsHolderBy r2 members d)
    → (r2.record.members.drives ≡ r2.drives → r3.record.members.drives ≡ r3.drives) → (r2.record.members.nvrams ≡ members → r3.record.members.nvrams ≡ left) → (HasEnough r2 → HasEnough r3) → NoneJoinsBy r0 members r3 left
none_joins r0 r2 r3 members left stored fewer slots fewer_logs named drives nvrams enough = grind (arith, nat_tests, fewer_hold)
