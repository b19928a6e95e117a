-- What writes to unused units leave of an array that goes on by tables in them.
use Rattle.array_checkpoint.proofs.Prelude.{◌≡◌, ◌⊎◌, inl, inr, ℕ, List, [], true, false, Bool, ap, replicate, cases_Bool, drive, nvram, Disk, Facts, Shelved, IsShelf, geometry_of, writes_more, facts, Contents, Runs, IsDrive, IsMember, Content, drives_of, is_in, LosesOnly, StaysClean, Array, WritesFree, IsArrayOf, IsReady, AreLost, HasWritten, HoldOnLeft, HoldTables, OnUnused, SegmentsHold}
use Rattle.register.specs.declared.tables.Tables.{Tables}
use Rattle.segment_writer.proofs.Synced.{fresh_none}
use Rattle.array_core.proofs.Changes.{may_switch}
use Rattle.array_core.proofs.Standing.{member_clean}
use Rattle.array_checkpoint.proofs.FreeUnits.{on_free}

module _ (a b : Shelved) (x : Array) (is : IsShelf a) (of : IsArrayOf (geometry_of a) x) (run : Runs IsDrive (OnUnused x) a b) where
  pub writes_free : a.honest → (held : Content) → IsReady a x held → WritesFree x.register held a b
  writes_free h held ready = record {
    continues = run.continues;
    writes = writes_more (on_free a x held of ready) (run.writes h);
    nvrams = λ n. run.others (nvram n) (λ on. on);
  }

  module _ (lost : List Bool) (loses : LosesOnly a b (replicate 24 false) lost) where
    unset : (i : ℕ) → ¬ (IsMember lost i) → is_in lost i ≡ false
    unset i none = elim (cases_Bool (is_in lost i)) [ inl is ↦ absurd (none is) | inr not ↦ not ]

    -- each drive that is lost lost a write, and no other device did
    are_lost : AreLost a b x.register lost
    are_lost = record {
      cause = λ i m is. elim (loses.cause i is) [
        | inl before ↦ fresh_none 24 i _ before
        | inr rose ↦ record { faults = rose.0; write_faults = rose.1 }
      ];
      spared = λ i m none. (loses.reported i (unset i none)).write_faults;
      logs = λ n. ap (λ (d : Disk). d.write_faults) (run.others (nvram n) (λ on. on));
    }

    -- so where the others stay clean, and what is to stand there does, the array may go on
    pub has_written : (a.honest → StaysClean lost a b) → (tables : Tables) (next : Content → Content) (more : Contents → Contents) (fs : Facts)
        → (a.honest → (held : Content) → IsReady a x held → WritesFree x.register held a b → HoldTables b x.register lost tables held (next held))
        → (a.honest → (contents : Contents) → SegmentsHold contents a x.register (facts x.memory.memory.tables) → HoldOnLeft b x.register lost (more contents) fs)
        → HasWritten a b x lost tables next more fs
    has_written clean tables next more fs hold contents = record {
      cause = are_lost;
      may = λ h held ready.
          let free = writes_free h held ready in
          may_switch a x held ready (record { free = free; cause = are_lost; synced = λ i m. synced h held ready i m (cases_Bool (is_in lost i)) }) (hold h held ready free);
      contents = contents;
    }
      where
        synced : a.honest → (held : Content) → IsReady a x held → (i : ℕ) → IsMember (drives_of x.register) i → (is_in lost i ≡ true) ⊎ (is_in lost i ≡ false) → IsMember lost i ⊎ ((b.disk (drive i)).dirty ≡ [])
        synced h held ready i m (inl is_lost) = inl is_lost
        synced h held ready i m (inr isn't) = inr (clean h i isn't (member_clean a is h x.register x.log.members held ready.is_open i m))
