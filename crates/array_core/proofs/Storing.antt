-- A record is stored without devices that lost writes: at every moment a session can go on.
use Rattle.array_core.proofs.Prelude.{◌≡◌, inl, inr, ℕ, List, sym, subst, Bool, Geometry, Conditions, IsBearable, drive, Device, Drive, Nv, Array, BootRecord, BootSlot, spelling, Stands, MayBeGiven, geometry_of, has_risen, Shelved, Stop, MayStop, Continues, LeavesOnly, LeavesBut, WritesOnly, weaker, named_sound, not_risen_since, IsMember, AccountsFor, IsOlder, StandsBut, Register, drives_of, next_slot, Content, GivesOldOrNext, IsNextOf, IsOpen, MayStore, lost_since, lost_by, IsKeptAt, bearable_or_not, by_stop, fewer_borne, sound_since}
use Rattle.nvram_log.specs.Members as nv
use Rattle.array_core.proofs.Agreeing.{named_bears}
use Rattle.array_core.proofs.Keeping.{KeptNamed, NamesFewer, goes_on, kept}
use Rattle.nvram_log.proofs.SettledEach.{both_leave}
use Rattle.register.proofs.Rounds.{same_shelf}

-- An array that was open at the start, of which a record may be stored in the conditions of now, without devices that lost writes since; what may be given now is its record.
pub record MayLeave (start m : Shelved) (was r : Register) (members nvrams : List Bool) (held content : Content) (arrays : List Array) : Type 0 where
  pub on : Continues start m
  pub was_open : IsOpen start was members held
  pub same : r.record ≡ was.record
  pub fewer : (i : ℕ) → IsMember r.drives i → IsMember was.drives i
  pub fewer_logs : nv.IsFewer members nvrams
  pub older : (i : ℕ) → IsMember (drives_of r) i → IsOlder m (next_slot r.record) (spelling r.record) i
  pub may : IsBearable (geometry_of start) (lost_since start m (named_sound was.record)) → MayStore m r nvrams (lost_since start m (named_sound was.record)) content arrays
  pub alone : IsBearable (geometry_of start) (lost_since start m (named_sound was.record)) → (stop : Stop) (slot : BootSlot) (boot : BootRecord) → MayStop m stop
      → MayBeGiven (geometry_of m) stop.image (lost_since start m (named_sound was.record)) slot boot → boot ≡ was.record

module _ (start m : Shelved) (was r : Register) (members nvrams : List Bool) (held content : Content) (arrays : List Array) (l : MayLeave start m was r members nvrams held content arrays) where
  next_names : (boot : BootRecord) → IsNextOf r nvrams boot → NamesFewer was.record boot
  next_names boot next (Drive d) e = l.was_open.logged.is_of.named d.0 (l.fewer d.0 (next.drives d.0 e))
  next_names boot next (Nv n) e = subst (λ (x : List Bool). nv.IsMember x n.0) (sym l.was_open.nvrams_are) (l.fewer_logs n.0 (subst (λ (x : List Bool). nv.IsMember x n.0) next.nvrams_are e))

  module _ {W : Device → ℕ → Type 0} (stop : Stop) (left : LeavesBut W m stop) (bears : IsBearable (geometry_of start) (lost_since start m (named_sound was.record)))
      (stands : StandsBut m (drives_of r) (lost_since start m (named_sound was.record)) (next_slot r.record) r.record arrays stop)
      (gives : GivesOldOrNext m r nvrams (lost_since start m (named_sound was.record)) stop) (borne : IsBearable (geometry_of start) (lost_by start stop (named_sound was.record))) where
    account : AccountsFor m (drives_of r) (lost_since start m (named_sound was.record)) (next_slot r.record) (spelling r.record) stop.faults stop.write_faults (lost_by start stop (named_sound was.record))
    account = record {
      within = by_stop start m stop (named_sound was.record) left.counts;
      bearable = subst (λ (g : Geometry). IsBearable g (lost_by start stop (named_sound was.record))) (same_shelf l.on) borne;
      writes = λ i mem s. inr (not_risen_since (start.disk (drive i)).write_faults (m.disk (drive i)).write_faults (stop.write_faults (drive i)) (l.on.write_faults (drive i)) (left.counts.write_faults (drive i))
          (sound_since (has_risen (start.disk (drive i)).write_faults (stop.write_faults (drive i))) (named_sound was.record (drive i)) s).1);
      reads = λ i mem s. inl (l.older i mem);
    }

    names_fewer : (slot : BootSlot) (boot : BootRecord) → MayBeGiven (geometry_of start) stop.image (lost_by start stop (named_sound was.record)) slot boot → NamesFewer was.record boot
    names_fewer slot boot g = elim (gives (lost_by start stop (named_sound was.record)) account slot boot (subst (λ (k : Geometry). MayBeGiven k stop.image (lost_by start stop (named_sound was.record)) slot boot) (same_shelf l.on) g)) [
      | inl given ↦ subst (λ (b : BootRecord). NamesFewer was.record b) (sym (l.alone bears given.start slot boot given.may given.given)) (λ d e. e)
      | inr next ↦ next_names boot next
    ]

    stands_then : Stands (geometry_of start) stop.image (lost_by start stop (named_sound was.record)) arrays
    stands_then = subst (λ (g : Geometry). Stands g stop.image (lost_by start stop (named_sound was.record)) arrays) (sym (same_shelf l.on)) (stands (lost_by start stop (named_sound was.record)) account)

  kept_in_store : {W : Device → ℕ → Type 0} (stop : Stop) → LeavesBut W m stop → IsBearable (geometry_of start) (lost_since start m (named_sound was.record))
      → StandsBut m (drives_of r) (lost_since start m (named_sound was.record)) (next_slot r.record) r.record arrays stop → GivesOldOrNext m r nvrams (lost_since start m (named_sound was.record)) stop → KeptNamed start was.record arrays stop
  kept_in_store stop left bears stands gives borne =
      goes_on (geometry_of start) was.record stop.image (λ d. has_risen (start.disk d).write_faults (stop.write_faults d)) arrays (names_fewer stop left bears stands gives borne) (stands_then stop left bears stands gives borne)

  -- where too much is missing at first, it is so at each stop
  not_borne : {W : Device → ℕ → Type 0} (stop : Stop) → LeavesBut W m stop → (IsBearable (geometry_of start) (lost_since start m (named_sound was.record)) → ⊥) → IsKeptAt start was.record arrays stop
  not_borne stop left not now agrees borne =
      let named = named_bears was.record now agrees (λ d. has_risen (start.disk d).write_faults (stop.write_faults d)) (geometry_of start) borne in
      absurd (not (fewer_borne (geometry_of start) (lost_since start m (named_sound was.record)) (lost_by start stop (named_sound was.record)) (by_stop start m stop (named_sound was.record) left.counts) named))

  pub store_moments : {W : Device → ℕ → Type 0} (new : Shelved) → WritesOnly W m new
      → ((missing : Conditions) (content2 : Content) (others : List Array) → MayStore m r nvrams missing content2 others → LeavesOnly m new (StandsBut m (drives_of r) missing (next_slot r.record) r.record others))
      → ((missing : Conditions) (content2 : Content) (others : List Array) → MayStore m r nvrams missing content2 others → LeavesOnly m new (GivesOldOrNext m r nvrams missing))
      → LeavesOnly m new (IsKeptAt start was.record arrays)
  store_moments new writes storing giving = elim (bearable_or_not (geometry_of start) (lost_since start m (named_sound was.record))) [
    | inl bears ↦ weaker (λ stop x. kept start was.record arrays stop (λ d. (x.1.bytes d).is_byte) (kept_in_store stop x.1 bears x.0.0 x.0.1))
        (both_leave (both_leave (storing (lost_since start m (named_sound was.record)) content arrays (l.may bears)) (giving (lost_since start m (named_sound was.record)) content arrays (l.may bears))) writes.any_moment)
    | inr not ↦ weaker (λ stop left. not_borne stop left not) writes.any_moment
  ]
