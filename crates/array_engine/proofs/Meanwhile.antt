-- At every moment while nothing is written a session can go on, and a read leaves what the devices hold.
use Rattle.array_engine.proofs.Prelude.{◌≡◌, ℕ, List, [], refl, sym, ap, subst, ◌∙◌, Bool, true, if◌then◌else◌, None, Some, false, slice_index_or, Device, Drive, Nv, drive, View, Item, Shelved, Stop, Disk, IsShelf, LeavesOnly, MayLeave, WritesOnly, started, weaker, Contents, facts, ContentsStand, NoByte, ReadsOnly, Register, drives_of, Content, array_of, WritesFree, OnFree, SegmentsHold, drives_view, IsReady, Array, IsKeptBy}
use Rattle.register.proofs.Rounds.{same_shelf}
use Rattle.array_core.proofs.Kept.{free_writes_keep_open}
use Rattle.array_core.proofs.Standing.{member_clean}
use Rattle.segment_io.proofs.InTurn.{nothing}
use Rattle.nvram_log.specs.Prelude.{HoldsOn, IsLog}
use Rattle.array_core.proofs.TakenIn.{still_goes_on}
use Rattle.array_engine.proofs.AtPoint.{kept_same}
use Rattle.array_engine.proofs.Points.{KeepsReady, KeepsSegments}

-- ---- a read

module _ (old new : Shelved) (reads : ReadsOnly old new) (honest : old.honest) where
  same_view : (r : Register) (d : Device) → drives_view new r d ≡ drives_view old r d
  same_view r (Drive d) = ap (λ (bytes : List ℕ). if slice_index_or (drives_of r) d.0 false then Some bytes else None) (reads.looks.same honest (Drive d)).bytes
  same_view r (Nv n) = refl

  views_same : (r : Register) → drives_view new r ≡ drives_view old r
  views_same r = λ k d. same_view r d k

  segments_same : (a : Array) (contents : Contents) → SegmentsHold contents old a.register (facts a.memory.memory.tables) → SegmentsHold contents new a.register (facts a.memory.memory.tables)
  segments_same a contents h = subst (λ (v : View). ContentsStand contents v (facts a.memory.memory.tables)) (sym (views_same a.register)) h

  module _ (is : IsShelf old) (is_new : IsShelf new) (a : Array) (held : Content) (ready : IsReady old a held) where
    writes_free : WritesFree a.register held old new
    writes_free = record { continues = reads.continues; writes = nothing (OnFree a.register held) (reads.writes honest); nvrams = reads.nvrams }

    still_holds : HoldsOn new a.log.members a.log.flushed held.log
    still_holds = record {
      log = λ n lt m. subst (λ (d : Disk). IsLog d.bytes a.log.flushed held.log) (sym (reads.nvrams n)) (ready.held_log.log n lt m);
      clean = λ n lt m. ap (λ (d : Disk). d.dirty) (reads.nvrams n) ∙ ready.held_log.clean n lt m;
    }

    still_ready : IsReady new a held
    unfolding writes_free still_holds
    still_ready = record {
      is_open = free_writes_keep_open old new is is_new honest a.register a.log.members held ready.is_open writes_free
          (λ i m. (reads.looks.same honest (drive i)).dirty ∙ member_clean old is honest a.register a.log.members held ready.is_open i m);
      held_log = still_holds;
      keeps = ready.keeps;
      flushed = ready.flushed;
      some = ready.some;
      patches_are = ready.patches_are;
      contents = ready.contents;
      reads = ready.reads;
      hold = segments_same a ready.contents ready.hold;
    }

pub read_keeps : (old new : Shelved) → ReadsOnly old new → IsShelf old → IsShelf new → (a : Array) → KeepsReady old new a
read_keeps old new reads is is_new a honest held ready = still_ready old new reads honest is is_new a held ready

pub read_keeps_segments : (told : Bool) (old new : Shelved) → ReadsOnly old new → (told ≡ true → old.honest) → (a : Array) → KeepsSegments told old new a
read_keeps_segments told old new reads honest a = record { hold = λ t contents h. segments_same old new reads (honest t) a contents h; write_faults = reads.looks.write_faults; size = same_shelf reads.continues }

-- nothing was done
pub nothing_done : (shelf : Shelved) (a : Array) → KeepsReady shelf shelf a
nothing_done shelf a honest held ready = ready

pub nothing_moved : (told : Bool) (shelf : Shelved) (a : Array) → KeepsSegments told shelf shelf a
nothing_moved told shelf a = record { hold = λ t contents h. h; write_faults = λ d. refl; size = refl }

-- ---- at a stop

module _ (old : Shelved) (a : Array) (held : Content) (ready : IsReady old a held) where
  kept_still : (item : Item) (stop : Stop) → ((d : Device) → MayLeave (old.disk d) (stop.image d)) → IsKeptBy old a (array_of held) item stop
  kept_still item stop device = kept_same old a (array_of held) item stop (still_goes_on old a (array_of held) [] (record { held = held; ready = ready; is = refl }) stop device)

  pub kept_at_once : IsShelf old → (item : Item) → LeavesOnly old old (IsKeptBy old a (array_of held) item)
  kept_at_once is item = started old (IsKeptBy old a (array_of held) item) is (λ stop may. kept_still item stop may.device)

  -- while devices are read
  pub kept_read : (new : Shelved) → WritesOnly NoByte old new → (item : Item) → LeavesOnly old new (IsKeptBy old a (array_of held) item)
  kept_read new writes item = weaker (λ stop left. kept_still item stop (λ d.
      let m = left.bytes d in
      record { size = m.size; is_byte = m.is_byte; clean = λ i out. m.same i out (λ w. w) })) writes.any_moment
