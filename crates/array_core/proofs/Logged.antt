-- What stands while the log is written, and once it was.
use Rattle.array_core.proofs.Prelude.{◌≡◌, ℕ, List, [], refl, sym, subst, arith, Bool, Some, Command, AllAccepted, Geometry, Image, drive, Device, Array, spelling, BootSlot, IsRecordOf, body_in, generation_in, other_slot, shown_by, Yields, twice_other, TablesHold, same_drives_hold, Shelved, Disk, Stop, MayLeave, MayStop, IsShelf, geometry_of, LeavesBut, MayLeaveBut, weaker, as_read, IsMember, Shows, IsOlder, LeavesBetween, Register, drives_of, next_slot, own_slot, Content, IsOpen, ShowsOn, StandsInLog, LeadTo, StandsWhateverFails, WritesLog, LogWritesStand, LogWritesKeep, LogWritesLeave}
use Rattle.pur_base.specs.declared.device.Device.TheVariants as dev
use Rattle.nvram_log.specs.Members as nv
use Rattle.array_core.proofs.Between.{stands}
use Rattle.array_core.proofs.Reopened.{still_open}
use Rattle.array_core.proofs.Standing.{member_clean, member_sound}
use Rattle.nvram_log.proofs.SettledEach.{both_leave}
use Rattle.register.proofs.Rounds.{same_shelf}

pub nothing_else : {W : ℕ → Type 0} {disk : Disk} {bytes : List ℕ} → ((i : ℕ) → W i → ⊥) → MayLeaveBut W disk bytes → MayLeave disk bytes
nothing_else {W} {disk} {bytes} none h = record { size = h.size; is_byte = h.is_byte; clean = λ i out. h.same i out (none i) }

-- the drives of the image, with the NVRAM devices as they were
with_log : Shelved → Image → Image
with_log shelf image (dev.Drive d) = image (dev.Drive d)
with_log shelf image (dev.Nv n) = (shelf.disk (dev.Nv n)).bytes

module _ (old : Shelved) (is : IsShelf old) (h : old.honest) (r : Register) (nvrams : List Bool) (held : Content) (o : IsOpen old r nvrams held) where
  -- where the drives are as a stop leaves them, the tables hold
  module _ (image : Image) (left : (i : ℕ) → MayLeave (old.disk (drive i)) (image (drive i))) where
    before : Stop
    before = record { image = with_log old image; faults = λ d. (old.disk d).faults; write_faults = λ d. (old.disk d).write_faults; output = old.output; taken = old.taken }

    before_may : MayStop old before
    unfolding before with_log
    before_may = record { device = each; counts = record { faults = λ d. omega arith; write_faults = λ d. omega arith }; output = refl; taken = refl }
      where
        each : (d : Device) → MayLeave (old.disk d) (with_log old image d)
        each (dev.Drive d) = left d.0
        each (dev.Nv n) = record { size = refl; is_byte = is.bytes h (dev.Nv n); clean = λ i clean. refl }

    pub tables_then : TablesHold (geometry_of old) image (own_slot r.record) r.record held.patches held.base
    unfolding before with_log
    tables_then = same_drives_hold (geometry_of old) before.image image (own_slot r.record) r.record held.patches held.base (λ i. refl) (o.logged.tables before before_may)

  -- ---- meanwhile

  pub stands_then : (least most : List Command) (arrays : List Array) → LeadTo r held.base least most arrays → (stop : Stop)
      → LeavesBetween nvrams r.record.flushed least most stop × LeavesBut (nv.OnMembers nvrams) old stop → StandsWhateverFails old r arrays stop
  stands_then least most arrays to stop at later within bears =
      stands old is h r nvrams held o stop.image later within bears drive_is least most arrays to (tables_then stop.image left) at.0
    where
      left : (i : ℕ) → MayLeave (old.disk (drive i)) (stop.image (drive i))
      left i = nothing_else (λ k w. w) (at.1.bytes (drive i))

      drive_is : (i : ℕ) → IsMember (drives_of r) i → stop.image (drive i) ≡ (old.disk (drive i)).bytes
      drive_is i m = as_read (old.disk (drive i)) (stop.image (drive i)) (member_clean old is h r nvrams held o i m) (left i)

  -- ---- afterwards

  module _ (new : Shelved) (least most : List Command) (w : WritesLog r nvrams least most old new) (now : List Bool) (log : List Command)
      (shows : ShowsOn new now r.record.flushed log) (accepted : AllAccepted held.base log) where
    pub logged : StandsInLog new r now (record held { log = log })
    logged = record {
      is_of = record {
        lawful = subst (λ (g : Geometry). IsRecordOf g r.record) (same_shelf w.continues) o.logged.is_of.lawful;
        named = o.logged.is_of.named;
      };
      tables = λ start may. subst (λ (g : Geometry). TablesHold g start.image (own_slot r.record) r.record held.patches held.base) (same_shelf w.continues)
          (tables_then start.image (λ i. subst (λ (d : Disk). MayLeave d (start.image (drive i))) (w.drives i) (may.device (drive i))));
      bodies = λ i m. subst (λ (d : Disk). body_in (own_slot r.record) d.bytes ≡ spelling r.record) (sym (w.drives i)) (o.logged.bodies i m);
      holds = shows;
      accepted = accepted;
    }

  module _ (new : Shelved) (is_new : IsShelf new) (least most : List Command) (w : WritesLog r nvrams least most old new) (log : List Command)
      (shows : ShowsOn new nvrams r.record.flushed log) (accepted : AllAccepted held.base log) where
    shown_now : (i : ℕ) → IsMember (drives_of r) i → Shows new (own_slot r.record) (spelling r.record) i
    shown_now i m = record {
      clean = subst (λ (d : Disk). d.dirty ≡ []) (sym (w.drives i)) (member_clean old is h r nvrams held o i m);
      shown = subst (λ (d : Disk). shown_by (own_slot r.record) d.bytes ≡ Some (spelling r.record)) (sym (w.drives i))
          (subst (λ (t : BootSlot). shown_by t (old.disk (drive i)).bytes ≡ Some (spelling r.record)) (twice_other (own_slot r.record)) (o.in_force.shown i m (member_sound old is h r nvrams held o i m)));
    }

    older_now : (i : ℕ) → IsMember (drives_of r) i → IsOlder new (next_slot r.record) (spelling r.record) i
    older_now i m = subst (λ (d : Disk). Yields (other_slot (next_slot r.record)) (generation_in (body_in (next_slot r.record) d.bytes)) (generation_in (spelling r.record))) (sym (w.drives i))
        (o.older i m (member_sound old is h r nvrams held o i m))

    pub is_open : IsOpen new r nvrams (record held { log = log })
    is_open = still_open old is h r nvrams held o new is_new w.continues (record held { log = log }) (logged new least most w nvrams log shows accepted) shown_now older_now

pub log_writes_stand : (old new : Shelved) → IsShelf old → LogWritesStand old new
log_writes_stand old new is h r nvrams held least most arrays o to w =
    weaker (λ stop at. stands_then old is h r nvrams held o least most arrays to stop at) (both_leave w.between w.writes.any_moment)

pub log_writes_keep : (old new : Shelved) → IsShelf old → IsShelf new → LogWritesKeep old new
log_writes_keep old new is is_new h r nvrams held least most log o w shows accepted = is_open old is h r nvrams held o new is_new least most w log shows accepted

pub log_writes_leave : (old new : Shelved) → IsShelf old → LogWritesLeave old new
log_writes_leave old new is h r was now held least most log o w shows accepted = logged old is h r was held o new least most w now log shows accepted
