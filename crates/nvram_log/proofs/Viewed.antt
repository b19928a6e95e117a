-- What was read of the devices is what their view shows.
use Rattle.nvram_log.proofs.Prelude.{◌≡◌, ◌⊎◌, inl, inr, ℕ, ◌+◌, ◌<◌, Bool, true, false, List, length, map, Some, None, slice_get, slice_index_or, sym, ◌∙◌, ap, subst, refl, arith, zero, suc, cases_Bool, length-map, slice_get_within, Command, nvram, Shelved, HasSpelling, Shows, IsInSlot, ShowsIn, NvLog, HasRead, IsMember, shown_by, AreReadOf, IsDeviceRead, IsLogOf, IsLogged, IsReadAs, IsSeenOf, IsThere, NoneThere, Logged, command_of_logged, members_of, Reads, DeviceRead, IsReadFrom, AreAsSeen, SeenSlots}
use Rattle.std.proofs.Common.{Option}
use Rattle.nvram_log.specs.Seen.{AreSeen}
use Rattle.nvram_log.proofs.Lists.{from_map, some_at}

-- one device
module _ {honest : Type 0} {bytes : List ℕ} {flushed : ℕ} {r : DeviceRead} (is : IsDeviceRead honest bytes flushed r) where
  is_member : (i : ℕ) (l : Logged) → IsThere r.records.items i l → r.is_member ≡ true
  is_member i l there = elim (cases_Bool r.is_member) [
    | inl still ↦ still
    | inr gone ↦ absurd (omega (arith, slice_get_within r.records.items i (Some l) there, ap (length {A = Option Logged}) (is.none gone)))
  ]

  there_shows : honest → (i : ℕ) (l : Logged) → IsThere r.records.items i l → ShowsIn bytes flushed i (command_of_logged l)
  there_shows h i l there = is.shows h (is_member i l there) i (Some l) there

  shown_none : honest → r.is_member ≡ true → (i : ℕ) (o : Option Logged) → slice_get r.records.items i ≡ Some o → NoneThere r.records.items i → (c : Command) → ShowsIn bytes flushed i c → ⊥
  shown_none h member i None at none c shows = is.shows h member i None at c shows
  shown_none h member i (Some l) at none c shows = none l at

  none_shows : honest → r.is_member ≡ true → (i : ℕ) → i < 64 → NoneThere r.records.items i → (c : Command) → ShowsIn bytes flushed i c → ⊥
  none_shows h member i lt none c shows =
      let some = some_at r.records.items i (omega (arith, is.size member, lt)) in
      shown_none h member i some.0 some.1 none c shows

  seen_of : honest → r.is_member ≡ true → (s : SeenSlots) → IsSeenOf r s → AreSeen bytes flushed s
  seen_of h member s seen = record {
    gates = λ i lt. ap (λ (f : List Bool). slice_index_or f i false) seen.gates ∙ is.gates h member i lt;
    some = λ i lt shown. let some = seen.some i lt shown in (command_of_logged some.0, there_shows h i some.0 some.1);
    none = λ i lt hidden c shows. none_shows h member i lt (seen.none i lt hidden) c shows;
  }

module _ (shelf : Shelved) (members : List Bool) (n flushed i : ℕ) (c : Command) where
  shows_of : IsMember members n → ShowsIn (shelf.disk (nvram n)).bytes flushed i c → Shows (shown_by shelf members) n flushed i c
  shows_of member shows = record { slot = shows.slot; bytes = (shelf.disk (nvram n)).bytes; shown = rw member refl; gate = shows.gate; spelled = shows.spelled }

  of_shows : Shows (shown_by shelf members) n flushed i c → IsMember members n × ShowsIn (shelf.disk (nvram n)).bytes flushed i c
  of_shows shows = elim (cases_Bool (slice_index_or members n false)) [
    | inl member ↦
        let e : (shelf.disk (nvram n)).bytes ≡ shows.bytes = cc ((let v : shown_by shelf members (nvram n) ≡ Some (shelf.disk (nvram n)).bytes = rw member refl in v), shows.shown) in
        (member, subst (λ (b : List ℕ). ShowsIn b flushed i c) (sym e) (record { slot = shows.slot; gate = shows.gate; spelled = shows.spelled }))
    | inr none ↦ absurd (cc ((let v : shown_by shelf members (nvram n) ≡ None = rw none refl in v), shows.shown))
  ]

-- both
module _ {honest : Type 0} {shelf : Shelved} {flushed : ℕ} {reads : Reads} (are : AreReadOf honest shelf flushed reads) (h : honest) where
  hides_first : (i : ℕ) → i < 64 → NoneThere reads.first.records.items i → (c : Command) → Shows (shown_by shelf (members_of reads)) 0 flushed i c → ⊥
  hides_first i lt none c shows = let of = of_shows shelf (members_of reads) 0 flushed i c shows in none_shows are.first h of.0 i lt none c of.1

  hides_second : (i : ℕ) → i < 64 → NoneThere reads.second.records.items i → (c : Command) → Shows (shown_by shelf (members_of reads)) 1 flushed i c → ⊥
  hides_second i lt none c shows = let of = of_shows shelf (members_of reads) 1 flushed i c shows in none_shows are.second h of.0 i lt none c of.1

  hides : (i : ℕ) → i < 64 → NoneThere reads.first.records.items i → NoneThere reads.second.records.items i → (n : ℕ) (c : Command) → n < 2 → Shows (shown_by shelf (members_of reads)) n flushed i c → ⊥
  hides i lt first second zero c two shows = hides_first i lt first c shows
  hides i lt first second (suc zero) c two shows = hides_second i lt second c shows
  hides i lt first second (suc (suc n)) c two shows = absurd (omega (arith, two))

  in_slot : (i : ℕ) (l : Logged) → i < 64 → IsThere reads.first.records.items i l ⊎ (NoneThere reads.first.records.items i × IsThere reads.second.records.items i l) → IsInSlot (shown_by shelf (members_of reads)) flushed i (command_of_logged l)
  in_slot i l lt (inl there) = inl (shows_of shelf (members_of reads) 0 flushed i (command_of_logged l) (is_member are.first i l there) (there_shows are.first h i l there))
  in_slot i l lt (inr there) = inr (hides_first i lt there.0, shows_of shelf (members_of reads) 1 flushed i (command_of_logged l) (is_member are.second i l there.1) (there_shows are.second h i l there.1))

module _ {honest : Type 0} {shelf : Shelved} {flushed : ℕ} {reads : Reads} {log : NvLog} (are : AreReadOf honest shelf flushed reads) (of : IsLogOf reads flushed log) where
  logged_at : (i : ℕ) (l : Logged) → slice_get log.records.items i ≡ Some l → IsLogged (log.flushed + 1 + i) l
  logged_at i l at = elim (of.gathered.each i l at) [
    | inl there ↦ rw of.flushed_is (are.first.numbered i l there)
    | inr there ↦ rw of.flushed_is (are.second.numbered i l there.1)
  ]

  abbrev commands : List Command
  commands = map command_of_logged log.records.items

  has_read : HasRead log commands
  has_read = record {
    count = length-map log.records.items command_of_logged ∙ sym of.count_is;
    each = λ i c at.
        let from = from_map command_of_logged log.records.items i c at in
        let is = logged_at i from.0 from.1 in
        record { logged = from.0; at = from.1; lawful = subst (HasSpelling (log.flushed + 1 + i)) from.2 is.lawful; read = subst (IsReadAs from.0 (log.flushed + 1 + i)) from.2 is.read };
  }

  pub read_from : IsReadFrom honest (shown_by shelf log.members) log
  read_from = record {
    commands = commands;
    has = has_read;
    shown = λ h i c at.
        let from = from_map command_of_logged log.records.items i c at in
        let lt : i < 64 = omega (arith, slice_get_within log.records.items i from.0 from.1, of.count_is, log.room) in
        rw (of.members_are, of.flushed_is) (subst (IsInSlot (shown_by shelf (members_of reads)) flushed i) from.2 (in_slot are h i from.0 lt (of.gathered.each i from.0 from.1)));
    ends = λ h lt n c two shows.
        let none = of.gathered.ends (omega (arith, lt, of.count_is)) in
        hides are h (length log.records.items) (omega (arith, lt, of.count_is)) none.0 none.1 n c two (rw (← of.members_are, ← of.flushed_is, ← of.count_is) shows);
  }

  -- the flags tell what the devices show
  pub seen_from : honest → AreAsSeen shelf log
  seen_from h zero s two member at = rw of.flushed_is (seen_of are.first h (subst (λ (m : List Bool). IsMember m 0) of.members_are member) s (of.first_seen s at))
  seen_from h (suc zero) s two member at = rw of.flushed_is (seen_of are.second h (subst (λ (m : List Bool). IsMember m 1) of.members_are member) s (of.second_seen s at))
  seen_from h (suc (suc n)) s two member at = absurd (omega (arith, two))
