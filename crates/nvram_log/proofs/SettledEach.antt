-- The log is settled on one member after another.
use Rattle.nvram_log.proofs.Prelude.{nat_tests, ◌≡◌, ◌≢◌, ℕ, ◌<◌, ◌≤◌, Bool, List, [], length, Some, slice_get, get_or, take, sym, subst, arith, length-take, get_or_from_slice_get, slice_get-get_or, slice_get_within, Command, nvram, Device, Shelved, Stop, Disk, MayLeave, LeavesOnly, MayLeaveBut, none_dirty, NvLog, HasRead, AreRead, Logged, SeenSlots, IsMember, OnMembers, OnDevice, SettlesBy, IsToSettle, AreToSettle, AreAsSeen, Agree}
use Rattle.nvram_log.specs.lemmas.Heads.{length-front}
use Rattle.nvram_log.proofs.Lists.{get_front}
use Rattle.nvram_log.proofs.Showing.{same_gate, same_slot, shows_too}

abbrev pub blank : SeenSlots
blank = record { «open» = []; shown = [] }

-- two things at once are true of each stop
pub both_leave : {a b : Shelved} {P Q : Stop → Type 0} → LeavesOnly a b P → LeavesOnly a b Q → LeavesOnly a b (λ stop. P stop × Q stop)
both_leave p q = grind (arith, nat_tests)

-- what may be left before anything is written
pub nothing_settled : (d0 : Disk) (flushed : ℕ) (commands : List Command) (x : List ℕ) → length d0.bytes ≡ 2134016 → MayLeave d0 x → SettlesBy d0 flushed commands x
nothing_settled d0 flushed commands x size may = grind (arith, nat_tests, none_dirty, shows_too, same_gate, same_slot)

pub but_elsewhere : (device d : Device) (disk : Disk) (x : List ℕ) → d ≢ device → MayLeaveBut (OnDevice device d) disk x → MayLeave disk x
but_elsewhere device d disk x apart but = record { size = but.size; is_byte = but.is_byte; clean = λ i nd. but.same i nd apart }

pub on_members : (members : List Bool) (n : ℕ) → IsMember members n → (d : Device) (i : ℕ) → OnDevice (nvram n) d i → OnMembers members d i
on_members members n is d i e = subst (λ (x : Device). OnMembers members x i) (sym e) is

-- what is known of a device that was passed
pub record Passed (honest : Type 0) (was : Type 0) (old new : Disk) (seen : List SeenSlots) (n : ℕ) (records : List Logged) (count : ℕ) : Type 0 where
  pub later : honest → was → (flushed : ℕ) (commands : List Command) (s : SeenSlots) → length commands ≡ count → slice_get seen n ≡ Some s → IsToSettle old.bytes flushed s records commands
      → (bytes : List ℕ) → MayLeave new bytes → SettlesBy old flushed commands bytes

-- flags stand for each of the two devices
pub settles_with : (seen : List SeenSlots) (n : ℕ) → n < length seen → (s : SeenSlots) × (slice_get seen n ≡ Some s)
settles_with seen n lt = (get_or seen n blank, slice_get-get_or seen n blank lt)

-- those of a device, in either way of reading the list
pub seen_at : (bytes : List ℕ) (seen : List SeenSlots) (n : ℕ) (s : SeenSlots) (flushed : ℕ) (records : List Logged) (commands : List Command) → slice_get seen n ≡ Some s
    → IsToSettle bytes flushed s records commands → IsToSettle bytes flushed (get_or seen n blank) records commands
seen_at bytes seen n s flushed records commands at is = subst (λ (x : SeenSlots). IsToSettle bytes flushed x records commands) (sym (get_or_from_slice_get seen n s blank at)) is

-- one of two devices is that one, or is before it, or after it
pub each_settles : {P : Type 0} (n slot : ℕ) → n < 2 → slot < 2 → (n ≡ slot → P) → (n < slot → P) → (slot < n → P) → P
each_settles n slot lt two same below above = grind (arith, nat_tests)

-- what was read of the first commands
pub read_front : (log : NvLog) (count : ℕ) (commands : List Command) → HasRead log commands → count ≤ log.count → AreRead log.records.items log.flushed (take count commands)
read_front log count commands read le i c at = grind (arith, nat_tests, length-take, slice_get_within, get_front)

-- what is known of each member
pub are_to_settle : (shelf : Shelved) (log : NvLog) (count : ℕ) (commands : List Command) → HasRead log commands → count ≤ log.count → count ≤ 64 → AreAsSeen shelf log
    → Agree shelf log.members log.flushed (take count commands) → AreToSettle shelf log.members log.flushed log.seen log.records.items (take count commands)
are_to_settle shelf log count commands read le few seen agree n s lt is at =
    let long = length-front count commands (omega (arith, read.count, le)) in
    record { room = omega (arith, long, few); shown = seen n s lt is at; read = read_front log count commands read le; agrees = λ i c. agree n i c lt is }
