-- What is known of all flags is known of those of the shelf's slots, and the other way round.
use Rattle.takeover.proofs.Prelude.{nat_tests, ℕ, ◌<◌, ◌≤◌, Bool, List, ◌++◌, length, take, arith, false, ◌∙◌, get_or-take, length-take, ◌≡◌, ◌⊎◌, [], slice_index_or, get_or_append_left, get_or_past, Array, Conditions, Device, Drive, Nv, BootRecord, BootSlot, Shelved, drive, Rises, IsMember, IsOneOf, OnClosed, IsLoaded, IsFound, IsInForceOn, TellsFailed, member_below, NonMembersStay, Opened}

pub front_member : (n : ℕ) (flags : List Bool) (i : ℕ) → i < n → IsMember flags i → IsMember (take n flags) i
front_member n flags i lt member = get_or-take n flags i false lt ∙ member

pub of_front : (n : ℕ) (flags : List Bool) (i : ℕ) → IsMember (take n flags) i → IsMember flags i
of_front n flags i member = grind (arith, nat_tests, get_or-take, get_or_past, length-take)

pub front_closed : (n : ℕ) (flags : List Bool) (shelf : Shelved) (at : ℕ) (d : Device) (i : ℕ) → OnClosed (take n flags) shelf at d i → OnClosed flags shelf at d i
front_closed n flags shelf at (Drive d) i w = (of_front n flags d.0 w.0, w.1, w.2)
front_closed n flags shelf at (Nv v) i w = w

pub front_one : (n : ℕ) (flags : List Bool) (d : Device) → IsOneOf (take n flags) d → IsOneOf flags d
front_one n flags (Drive d) is = of_front n flags d.0 is
front_one n flags (Nv v) is = is

pub front_loaded : (n : ℕ) {shelf : Shelved} {flags : List Bool} {missing : Conditions} {slot : BootSlot} {boot : BootRecord} {arrays : List Array}
    → IsLoaded shelf flags missing slot boot arrays → IsLoaded shelf (take n flags) missing slot boot arrays
front_loaded n {shelf} {flags} {missing} {slot} {boot} {arrays} is = grind (arith, nat_tests, of_front)

pub front_found : (n : ℕ) {shelf : Shelved} {flags : List Bool} {missing : Conditions} {slot : BootSlot} {boot : BootRecord} → shelf.drives ≤ n
    → IsFound shelf flags missing slot boot → IsFound shelf (take n flags) missing slot boot
front_found n {shelf} {flags} {missing} {slot} {boot} le is = record { sound = λ i lt sound. front_member n flags i (omega (arith, lt, le)) (is.sound i lt sound); seen = is.seen }

pub front_tells : (n : ℕ) {shelf : Shelved} {flags : List Bool} {missing : Conditions} {faults : Device → ℕ} {later : Conditions}
    → TellsFailed shelf flags missing faults later → TellsFailed shelf (take n flags) missing faults later
front_tells n {shelf} {flags} {missing} {faults} {later} is = record { within = is.within; bearable = is.bearable; calls = λ i m sound. is.calls i (of_front n flags i m) sound }

-- behind the shelf's slots no flag is set
pub whole_force : (front tail : List Bool) (shelf : Shelved) (missing : Conditions) (slot : BootSlot) (boot : BootRecord) → ((i : ℕ) → IsMember (front ++ tail) i → i < length front)
    → IsInForceOn shelf front missing slot boot → IsInForceOn shelf (front ++ tail) missing slot boot
whole_force front tail shelf missing slot boot below is = grind (arith, nat_tests, get_or_append_left, member_below)

-- ---- clean after a settling

-- a device that was clean is so still, or a call on it failed
pub stays_clean : (old new : Shelved) (was now : List Bool) (at : ℕ) → old.honest
    → ((i : ℕ) → i < length was → Opened old.honest (IsMember was i) (IsMember now i) at (old.disk (drive i)) (new.disk (drive i)))
    → NonMembersStay was old new → (d : Device) → (old.disk d).dirty ≡ [] → ((new.disk d).dirty ≡ []) ⊎ Rises (old.disk d).faults (new.disk d).faults
stays_clean old new was now at h k l d m = grind (arith, nat_tests, slice_index_or, member_below)
