-- A record whose tables stand is read into what its log leads to.
use Rattle.std.proofs.Common.{◌≡◌, ℕ, List, refl, false}
use Rattle.boot_codec.specs.Prelude.{Geometry, Image, View, Conditions, LeftOut, drive, Array, AnyFact, BootSlot, names, of_members}
use Rattle.boot_codec.specs.declared.record.BootRecord.{BootRecord}
use Rattle.array_spec.specs.Meaning.{HoldsBase, AllHold}
use Rattle.array_spec.specs.Standing.{IsViewOf}
use Rattle.array_spec.specs.Unflushed.{NamesSound}
use Rattle.array_spec.specs.lemmas.LogBetween.{log_is_between}
use Rattle.array_spec.specs.lemmas.UnflushedRead.{all_hold, between}
use Rattle.array_spec.specs.Held.{TablesHold, NamesNoneLeftOut}
use Rattle.array_spec.specs.StoredLaws.{RecordIsRead}
use Rattle.array_spec.specs.lemmas.Members.{are_enough, are_some, enough_hold, some_shown}

-- in each view the members hold the base
pub held_in : (shelf : Geometry) (image : Image) (missing : Conditions) (slot : BootSlot) (boot : BootRecord) (patches : List (List AnyFact)) (base : Array)
    → NamesSound shelf image missing slot boot → NamesNoneLeftOut missing boot → TablesHold shelf image slot boot patches base
    → (more : Conditions) (view : View) → IsViewOf shelf image missing more view → HoldsBase shelf (of_members slot boot view) boot base
held_in shelf image missing slot boot patches base sound none_left tables more view v =
    let t = tables.each (of_members slot boot view) (are_some shelf image missing slot boot sound more view v none_left) (are_enough shelf image missing slot boot sound more view v) in
    record { patches = patches; tables = t.0; base_stands = t.1 }

pub record_is_read : RecordIsRead
record_is_read shelf image missing slot boot patches base least most arrays lawful in_force names_sound none_left tables accepted lies arrays_are = (
  record {
    base = base;
    each = λ more view v. record {
      in_force = in_force;
      all_hold = all_hold shelf image missing slot boot least most lawful names_sound lies more view v;
      holds = held_in shelf image missing slot boot patches base names_sound none_left tables more view v;
      leads = log_is_between more (of_members slot boot view) boot.flushed base least most arrays accepted (between shelf image missing slot boot least most lawful names_sound lies more view v) arrays_are;
    };
  },
  refl,
)

-- a record that is read in a view, where no drive that it names was left out, holds there what its tables hold
pub read_holds : (shelf : Geometry) (image : Image) (missing more : Conditions) (slot : BootSlot) (boot : BootRecord) (patches : List (List AnyFact)) (base : Array)
    → ((i : ℕ) → missing (drive i) ≡ LeftOut → names boot (drive i) ≡ false) → TablesHold shelf image slot boot patches base
    → (view : View) → IsViewOf shelf image missing more view → AllHold shelf more (of_members slot boot view) → HoldsBase shelf (of_members slot boot view) boot base
read_holds shelf image missing more slot boot patches base none_left tables view v hold =
    let t = tables.each (of_members slot boot view) (some_shown shelf image missing more slot boot view v none_left) (enough_hold shelf more (of_members slot boot view) v.bearable hold) in
    record { patches = patches; tables = t.0; base_stands = t.1 }
