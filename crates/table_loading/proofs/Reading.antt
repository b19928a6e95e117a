-- Runs in which the drives are read.
use Rattle.table_loading.proofs.Prelude.{nat_tests, Bool, List, refl, ◌∙◌, arith, AllZip, View, AnyFact, IsPatch, Patch, places_of_part, Shelved, IsShelf, continues_refl, continues_trans, writes_then, nothing_written, ShowsPatch, ShowsNoOtherOfPatch, IsLoaded, OnlyReads, ShowsDrives, ShowsNoOtherDrive, IsFaultIn, IsLostIn, TablesFault, BadPatch, Unsound, Lost, Memory}
use Rattle.segment_io.specs.Prelude.{drive_of, place_of, shows_first, shows_then}
use Rattle.segment_io.proofs.Gathers.{looks_none, looks_then}
use Rattle.patch_io.proofs.Parts.{slot_below}
use Rattle.table_loading.proofs.Zips.{zip_as}

-- nothing was done yet
pub reads_none : (a : Shelved) → IsShelf a → OnlyReads a a
reads_none a is = record {
  continues = continues_refl a;
  nvrams = λ n. refl;
  looks = looks_none a;
  writes = λ h. nothing_written a is;
}

pub reads_then : {a b c : Shelved} → OnlyReads a b → OnlyReads b c → OnlyReads a c
reads_then {a} {b} {c} first next = record {
  continues = continues_trans first.continues next.continues;
  nvrams = λ n. next.nvrams n ∙ first.nvrams n;
  looks = looks_then first.continues first.looks next.looks;
  writes = λ h. writes_then first.continues (first.writes h) (next.writes (first.continues.honest h));
}

-- the same is shown before drives are read as after it
shown_before : (a b : Shelved) (p : Patch) (missing : List Bool) (view : View) → OnlyReads a b → a.honest → ShowsPatch a p missing view → ShowsPatch b p missing view
shown_before a b p missing view reads h shows part within shard lt is = grind (arith, nat_tests, drive_of)

-- what is loaded later was there before
loaded_before : (a b c : Shelved) (missing : List Bool) (p : Patch) (facts : List AnyFact) → OnlyReads a b → OnlyReads b c → IsLoaded b c missing p facts → IsLoaded a c missing p facts
loaded_before a b c missing p facts ab bc is = record {
  decoded = is.decoded;
  stands = λ h view shows stripes. is.stands (ab.continues.honest h) view (shown_before a b p missing view ab h shows) stripes;
  shown = λ h view shows.
      is.shown (ab.continues.honest h) view (λ part lt. shows_then a b c (places_of_part p part) missing view bc.continues (shows part lt) ab.continues (λ device. (ab.looks.same h device).bytes));
}

-- and what is loaded is there after it
loaded_after : (a b c : Shelved) (missing : List Bool) (p : Patch) (facts : List AnyFact) → OnlyReads b c → IsLoaded a b missing p facts → IsLoaded a c missing p facts
loaded_after a b c missing p facts bc is = record {
  decoded = is.decoded;
  stands = is.stands;
  shown = λ h view shows. is.shown h view (λ part lt. shows_first a b c (places_of_part p part) missing view bc.continues (shows part lt));
}

-- what a part of the reads loads, all of them do
pub loaded_within : (a b c d : Shelved) (missing : List Bool) (p : Patch) (facts : List AnyFact) → OnlyReads a b → OnlyReads b c → OnlyReads c d → IsLoaded b c missing p facts → IsLoaded a d missing p facts
loaded_within a b c d missing p facts ab bc cd is = loaded_before a b d missing p facts ab (reads_then bc cd) (loaded_after b c d missing p facts cd is)

pub all_within : (a b c d : Shelved) (missing : List Bool) (ps : List Patch) (patches : List (List AnyFact)) → OnlyReads a b → OnlyReads b c → OnlyReads c d → AllZip (IsLoaded b c missing) ps patches → AllZip (IsLoaded a d missing) ps patches
all_within a b c d missing ps patches ab bc cd all = zip_as (IsLoaded b c missing) (IsLoaded a d missing) (λ p facts is. loaded_within a b c d missing p facts ab bc cd is) ps patches all

-- and so is a fault
lost_before : (a b c : Shelved) (missing : List Bool) (p : Patch) (drives : List Bool) → OnlyReads a b → IsLostIn b c missing p drives → IsLostIn a c missing p drives
lost_before a b c missing p drives reads (part, within, are) = grind (arith, nat_tests)

pub fault_before : (a b c : Shelved) (missing : List Bool) (ps : List Patch) (fault : TablesFault) → OnlyReads a b → IsFaultIn b c missing ps fault → IsFaultIn a c missing ps fault
fault_before a b c missing ps (BadPatch t) reads (p, there, tag, bad) =
    (p, there, tag, λ h view facts shows. bad (reads.continues.honest h) view facts (shown_before a b p missing view reads h shows))
fault_before a b c missing ps (Unsound t) reads none = none
fault_before a b c missing ps (Lost lost) reads (p, there, is) = (p, there, lost_before a b c missing p lost.drives reads is)
fault_before a b c missing ps (Memory m) reads is = tt

-- a view of the drives shows each lawful patch
pub shows_patch : (a : Shelved) (p : Patch) (missing : List Bool) (view : View) → IsPatch a.drives a.units p → ShowsDrives a missing view → ShowsPatch a p missing view
shows_patch a p missing view lawful shows part within shard lt is =
    let slot = (place_of (places_of_part p part) shard).slot in
    shows slot (slot_below a p part shard slot lawful within lt refl) is

-- and shows none of its drives but as it stands and answers
pub shows_no_other : (a b : Shelved) (p : Patch) (missing : List Bool) (view : View) → IsPatch a.drives a.units p → ShowsNoOtherDrive a b missing view → ShowsNoOtherOfPatch a b p missing view
shows_no_other a b p missing view lawful shows part within shard lt =
    let slot = (place_of (places_of_part p part) shard).slot in
    shows slot (slot_below a p part shard slot lawful within lt refl)
