-- Runs that only read.
use Rattle.nvram_log.proofs.Prelude.{◌≡◌, ◌∙◌, refl, Device, Disk, Elapses, IsPreorder, IsSame, IsShelf, OthersStay, Shelved, ran_none, ran_then, runs_read, IsNvram, OnlyReads}
use Rattle.nvram_log.proofs.Synced.{on_each}

module _ {X : Type 0} {shelf : X → Shelved} {same_rest : X → X → Type 0} where
  pub reads_none : IsPreorder same_rest → (a : X) → IsShelf (shelf a) → OnlyReads shelf same_rest a a
  reads_none stays a is = record { ran = ran_none stays a is; same = λ h d. record { bytes = refl; dirty = refl }; looks = λ d. refl }

  pub reads_once : {a b : X} (device : Device) → IsNvram device → IsShelf (shelf a) → Elapses (shelf a) (shelf b) → OthersStay device (shelf a) (shelf b) → same_rest a b
      → ((shelf a).honest → IsSame ((shelf a).disk device) ((shelf b).disk device)) → ((shelf b).disk device).write_faults ≡ ((shelf a).disk device).write_faults → OnlyReads shelf same_rest a b
  reads_once {a} {b} device is_nvram is time others rest same looks = record {
    ran = record { on = runs_read device is_nvram is time others same; rest = rest };
    same = λ h. on_each IsSame (shelf a) (shelf b) device others (same h) (λ d. record { bytes = refl; dirty = refl });
    looks = on_each (λ (old new : Disk). new.write_faults ≡ old.write_faults) (shelf a) (shelf b) device others looks (λ d. refl);
  }

  -- one run after another
  pub reads_then : {a b c : X} → IsPreorder same_rest → OnlyReads shelf same_rest a b → OnlyReads shelf same_rest b c → OnlyReads shelf same_rest a c
  reads_then stays ab bc = record {
    ran = ran_then stays ab.ran bc.ran;
    same = λ h d.
        let before = ab.same h d in
        let after = bc.same (ab.ran.on.continues.honest h) d in
        record { bytes = after.bytes ∙ before.bytes; dirty = after.dirty ∙ before.dirty };
    looks = λ d. bc.looks d ∙ ab.looks d;
  }
