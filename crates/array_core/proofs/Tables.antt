-- A record of the next tables is stored: at every moment a session can go on with the array.
use Rattle.array_core.proofs.Prelude.{arith, ◌≡◌, inl, inr, ℕ, List, [], ◌∷◌, sym, subst, Bool, nat_tests, Command, drive, nvram, Device, Drive, Nv, BootRecord, BootSlot, spelling, MayBeGiven, geometry_of, has_risen, Shelved, Stop, IsShelf, LeavesOnly, WritesOnly, weaker, named_sound, AccountsFor, losing_within, HoldsOn, Register, Tables, GivesOldOrTables, IsNextWith, drives_of, next_slot, Content, IsOpen, array_of, StandsAsBefore, lost_by, IsKeptAt, sound_since}
use Rattle.nvram_log.specs.Members as nv
use Rattle.array_core.proofs.Standing.{member_sound}
use Rattle.array_core.proofs.Keeping.{KeptNamed, NamesFewer, goes_on, kept}
use Rattle.nvram_log.proofs.SettledEach.{both_leave}

-- what the NVRAM devices hold, where they stay as they were
pub still_holds : (a b : Shelved) (members : List Bool) (flushed : ℕ) (log : List Command) → ((n : ℕ) → b.disk (nvram n) ≡ a.disk (nvram n)) → HoldsOn a members flushed log → HoldsOn b members flushed log
still_holds a b members flushed log same holds = grind (arith, nat_tests)

module _ (b c : Shelved) (is : IsShelf b) (h : b.honest) (r : Register) (tables : Tables) (held : Content) (o : IsOpen b r r.record.members.nvrams held) where
  next_names : (boot : BootRecord) → IsNextWith r tables boot → NamesFewer r.record boot
  next_names boot n (Drive d) e = o.logged.is_of.named d.0 (n.drives d.0 e)
  next_names boot n (Nv v) e = subst (λ (x : List Bool). nv.IsMember x v.0) n.nvrams_are e

  kept_in_store : (stop : Stop) → StandsAsBefore b r held stop → GivesOldOrTables b r tables stop → KeptNamed b r.record (array_of held ∷ []) stop
  kept_in_store stop stands gives borne =
      goes_on (geometry_of b) r.record stop.image (λ d. has_risen (b.disk d).write_faults (stop.write_faults d)) (array_of held ∷ []) fewer (stands (lost_by b stop (named_sound r.record)) account)
    where
      account : AccountsFor b (drives_of r) (named_sound r.record) (next_slot r.record) (spelling r.record) stop.faults stop.write_faults (lost_by b stop (named_sound r.record))
      account = record {
        within = losing_within (λ d. has_risen (b.disk d).write_faults (stop.write_faults d)) (named_sound r.record);
        bearable = borne;
        writes = λ i mem s. inr (sound_since (has_risen (b.disk (drive i)).write_faults (stop.write_faults (drive i))) (named_sound r.record (drive i)) s).1;
        reads = λ i mem s. inl (o.older i mem (member_sound b is h r r.record.members.nvrams held o i mem));
      }

      fewer : (slot : BootSlot) (boot : BootRecord) → MayBeGiven (geometry_of b) stop.image (lost_by b stop (named_sound r.record)) slot boot → NamesFewer r.record boot
      fewer slot boot g = elim (gives (lost_by b stop (named_sound r.record)) account slot boot g) [
        | inl same ↦ subst (λ (x : BootRecord). NamesFewer r.record x) (sym same) (λ d e. e)
        | inr k ↦ next_names boot k
      ]

  pub tables_moments : {W : Device → ℕ → Type 0} → WritesOnly W b c → LeavesOnly b c (StandsAsBefore b r held) → LeavesOnly b c (GivesOldOrTables b r tables) → LeavesOnly b c (IsKeptAt b r.record (array_of held ∷ []))
  tables_moments writes stands gives = weaker (λ stop x. kept b r.record (array_of held ∷ []) stop (λ d. (x.1.bytes d).is_byte) (kept_in_store stop x.0.0 x.0.1)) (both_leave (both_leave stands gives) writes.any_moment)
