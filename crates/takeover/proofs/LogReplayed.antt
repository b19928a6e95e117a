-- What the devices showed of the log, or why it wasn't replayed, and that nothing is dirty in the end.
use Rattle.takeover.proofs.Prelude.{nat_tests, ◌≡◌, ℕ, ◌<◌, ◌≤◌, List, [], length, take, ◌∙◌, sym, ap, subst, arith, Bool, false, Some, None, if◌then◌else◌, slice_index_or, ext_get_or, length-take, get_or_past, Command, after_all, Conditions, drive, nvram, Array, segment, Device, LogStands, Shows, Contents, ReadsAs, HasSameSegmentIds, facts, AreLayered, has_risen, Continues, Disk, Shelved, ChangesOnly, WritesOnly, failed_since, log_moves, risen_on_way, HasSamePatches, Kept, HasRoomFor, nothing_behind, sound_since, NvLog, HasRead, IsFewer, DroppedCounted, IsReadFrom, OnNothing, OpenedLog, AreClean, IsReplayed, HasReplayed, IsReplayedFrom}
use Rattle.nvram_log.specs.Prelude.{shown_by, IsMember}
use Rattle.takeover.proofs.Answered.{dropped_twice}
use Rattle.takeover.proofs.Chains.{replayed_stands}

-- ---- what was shown

-- where nothing is written, the bytes stay
same_bytes : (old new : Disk) → ChangesOnly (λ i. ⊥) old new → new.bytes ≡ old.bytes
same_bytes old new same = ext_get_or 0 new.bytes old.bytes same.size (λ i lt. same.bytes i (λ w. w))

module _ (old mid new : Shelved) (nvrams : List Bool) (flushed : ℕ) (honest : old.honest) (on : Continues old mid) (wrote : WritesOnly OnNothing old mid) (log : NvLog) (follows : log.flushed ≡ flushed)
    (fewer : IsFewer nvrams log.members) (dropped : DroppedCounted old mid nvrams log.members) (read : IsReadFrom old.honest (shown_by mid log.members) log) where
  bytes_stay : (n : ℕ) → (mid.disk (nvram n)).bytes ≡ (old.disk (nvram n)).bytes
  bytes_stay n = same_bytes (old.disk (nvram n)) (mid.disk (nvram n)) (wrote.device (nvram n))

  shows_same : (n : ℕ) → shown_by mid log.members (nvram n) ≡ shown_by old log.members (nvram n)
  shows_same n = ap (λ (l : List ℕ). if slice_index_or log.members n false then Some l else None) (bytes_stay n)

  module _ (count : ℕ) (was now : Kept) (within : count ≤ log.count) (replayed : (commands : List Command) → HasRead log commands → IsReplayed was commands count now) where
    le : count ≤ length read.commands
    le = omega (arith, read.has.count, within)

    size : length (take count read.commands) ≡ count
    size = omega (arith, length-take count read.commands, le)

    ends : length read.commands < 64 → (n : ℕ) (c : Command) → n < 2 → ¬ (Shows (shown_by mid log.members) n log.flushed (length read.commands) c)
    ends few n c lt s = read.ends honest (omega (arith, few, read.has.count)) n c lt (subst (λ (k : ℕ). Shows (shown_by mid log.members) n log.flushed k c) read.has.count s)

    stands : (contents : Contents) (a : Array) → ReadsAs contents was.memory a → LogStands (shown_by old log.members) flushed a (take count read.commands)
    stands contents a reads = subst (λ (f : ℕ). LogStands (shown_by old log.members) f a (take count read.commands)) follows
        (log_moves (shown_by mid log.members) (shown_by old log.members) shows_same log.flushed 0 a (take count read.commands)
        (replayed_stands (shown_by mid log.members) log.flushed a read.commands count ((replayed read.commands read.has).reads contents a reads).0 size (read.shown honest) ends le))

    -- and then it was settled
    pub replayed_from : (o : OpenedLog) → Continues mid new → IsFewer log.members o.log.members → DroppedCounted mid new log.members o.log.members
        → HasRead o.log (take count read.commands) → IsReplayedFrom old new nvrams flushed was o
    replayed_from o next left then_dropped has = grind (arith, nat_tests, take, stands, dropped_twice)

-- ---- what memory has done

pub has_replayed : (was now : Kept) (log : NvLog) (count : ℕ) (commands : List Command) (o : OpenedLog) → IsReplayed was commands count now → o.memory ≡ now → AreLayered now.memory.tables
    → HasRead o.log (take count commands) → o.log.count ≡ count → HasReplayed was o
has_replayed was now log count commands o replayed same layered has counts = record {
  log = take count commands;
  has = has;
  reads = λ contents a r.
      let w = replayed.reads contents a r in
      (w.0.accepted, subst (λ (k : Kept). ReadsAs contents k.memory (after_all a (take count commands))) (sym same) w.1);
  patches = subst (λ (k : Kept). HasSamePatches was.memory.tables k.memory.tables) (sym same) replayed.patches;
  segments = λ id. ap (λ (k : Kept). segment (facts k.memory.tables) id) same ∙ replayed.segments id;
  layered = subst (λ (k : Kept). AreLayered k.memory.tables) (sym same) layered;
  next = λ contents a r. ap (λ (k : Kept). k.memory.next) same ∙ replayed.next contents a r;
  segment_ids = subst (λ (k : Kept). HasSameSegmentIds was.memory.next k.memory.next) (sym same) replayed.segment_ids;
  room = λ h. subst (λ (k : Kept). HasRoomFor k o.log.count nothing_behind) (sym same) (subst (λ (n : ℕ). HasRoomFor now n nothing_behind) (omega (arith, counts)) (replayed.room 0 h));
}

-- ---- what is dirty

pub clean_read : (old mid : Shelved) (missing : Conditions) → AreClean old missing → ((d : Device) → (old.disk d).dirty ≡ [] → (mid.disk d).dirty ≡ []) → AreClean mid (failed_since old mid missing)
clean_read old mid missing clean still d sound = still d (clean d (sound_since (has_risen (old.disk d).faults (mid.disk d).faults) (missing d) sound).0)

pub clean_settled : (old mid new : Shelved) (missing : Conditions) (nvrams members left : List Bool) → Continues old mid → AreClean old missing → ((d : Device) → (old.disk d).dirty ≡ [] → (mid.disk d).dirty ≡ [])
    → length nvrams ≡ 2 → IsFewer nvrams members → DroppedCounted mid new members left → ((i : ℕ) → new.disk (drive i) ≡ mid.disk (drive i)) → ((n : ℕ) → ¬ (IsMember members n) → new.disk (nvram n) ≡ mid.disk (nvram n))
    → ((n : ℕ) → n < 2 → IsMember left n → (new.disk (nvram n)).dirty ≡ []) → AreClean new (failed_since old new missing)
clean_settled old mid new missing nvrams members left on clean still two fewer dropped drives others settled = grind (arith, nat_tests, failed_since, has_risen, sound_since, get_or_past, slice_index_or, risen_on_way)
