-- What it means that tables weren't loaded.
use Rattle.table_loading.proofs.Prelude.{◌≡◌, Bool, List, refl, subst, Contains, AllByRecursion, AllZip, All-from_recursion, All-contains, View, Table, AnyFact, IsPatch, Patch, BootRecord, AreSound, PatchStands, all_patches, LoadedTables, patches_in, IsFault, geometry_of, Shelved, StripesStandOf, IsLoaded, fault_of, IsFaultIn, IsTablesFault, TablesFault, BadPatch, Unsound, Lost, Memory}
use Rattle.table_soundness.specs.declared.fault.SoundFault.{SoundFault}
use Rattle.table_soundness.specs.declared.fault.SoundFault.TheVariants as sound_fault
use Rattle.table_soundness.proofs.SoundLemmas.{not_at_fault}
use Rattle.table_loading.proofs.Zips.{zip_first}
use Rattle.table_loading.proofs.Reading.{shows_patch}
use Rattle.table_loading.proofs.Loaded.{are_named, all_stand}

-- what stands as all patches has facts that stand as each
stands_at : (view : View) (ps : List Patch) (patches : List (List AnyFact)) (p : Patch) → AllZip (PatchStands view) ps patches → Contains ps p → (facts : List AnyFact) × PatchStands view p facts
stands_at view ps patches p stand there =
    All-contains (λ q. (facts : List AnyFact) × PatchStands view q facts) ps p
    (All-from_recursion (λ q. (facts : List AnyFact) × PatchStands view q facts) ps (zip_first (PatchStands view) (λ q. (facts : List AnyFact) × PatchStands view q facts) (λ q facts is. (facts, is)) ps patches stand)) there

module _ (a b : Shelved) (boot : BootRecord) (missing : List Bool) (lawful : AllByRecursion (IsPatch a.drives a.units) boot.patches) where
  -- one of the patches wasn't loaded
  pub read_fault : (fault : TablesFault) → IsFaultIn a b missing boot.patches fault → IsTablesFault a b boot missing fault
  read_fault (BadPatch t) (p, there, tag, bad) = record {
    patch = p;
    named = there;
    of_table = tag;
    bad = bad;
    none = λ h view patches shows stand.
        let x = stands_at view boot.patches patches p stand there in
        bad h view x.0 (shows_patch a p missing view (All-contains (IsPatch a.drives a.units) boot.patches p (All-from_recursion (IsPatch a.drives a.units) boot.patches lawful) there) shows) x.1;
  }
  read_fault (Unsound t) none = absurd none
  read_fault (Lost lost) is = is
  read_fault (Memory m) is = tt

  -- they were loaded, and a table is at fault
  pub check_fault : (t : LoadedTables) → AllZip (IsLoaded a b missing) boot.patches (patches_in t) → (fault : SoundFault) → ((x : Table) → fault ≡ sound_fault.Unsound x → IsFault (geometry_of a) boot t x) → IsTablesFault a b boot missing (fault_of fault)
  check_fault t loaded (sound_fault.Unsound x) is = record {
    tables = t;
    loaded = loaded;
    fault = is x refl;
    none = λ h view patches shows stand sound.
        let stripes = zip_first (PatchStands view) (StripesStandOf view) (λ p facts stands. stands.stripes) boot.patches patches stand in
        let same : patches ≡ patches_in t = all_patches view boot.patches patches (patches_in t) stand (all_stand a b missing boot t loaded lawful h view shows stripes) in
        not_at_fault boot t (are_named a b missing boot t loaded a.drives a.units lawful) (geometry_of a) x (is x refl) (subst (AreSound (geometry_of a) boot) same sound);
  }
  check_fault t loaded (sound_fault.Memory m) is = tt
