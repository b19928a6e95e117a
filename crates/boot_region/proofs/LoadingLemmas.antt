-- What is loaded is what the regions give.
use Rattle.boot_region.proofs.Prelude.{arith, Result, Ok, Err, IfOk, IfErr, ◌≡◌, ◌-◌, ◌^◌, ◌<◌, ◌≤◌, ◌&&◌, ℕ, Bool, false, List, length, slice_index_or, sym, ap, subst, ◌∙◌, IsErrAnd, and_parts, nat_tests, Geometry, ReadError, BootRecord, Fails, read_record, IsBootRecord, BootSlot, IsRecordOf, IsEffective, spelling, Shelved, geometry_of, LoadFault, slot_in, seen, is_holding, IsRead, fault_of, IsHeld, IsGiven, IsSpent, IsFaultOf, IsAnswerOf, IsLawfulLoad, IsLoadOf}
use Rattle.boot_codec.specs.declared.bad_record.ReadError.TheVariants as errors
use Rattle.boot_region.specs.declared.loading.Loaded.{Loaded}
use Rattle.boot_region.specs.declared.loading.LoadFault.TheVariants as faults

-- a lawful record in force, and the drives that hold it
pub held_by : (shelf : Geometry) (bytes : List ℕ) (answered : List Bool) (slot : BootSlot) (body : List ℕ) (boot : BootRecord) (drives : List Bool)
    → IsBootRecord boot → boot.slots ≡ shelf.slots → boot.units ≡ shelf.units → IsEffective shelf (seen bytes answered) slot body → body ≡ spelling boot
    → ((i : ℕ) → slice_index_or drives i false ≡ (slice_index_or boot.members.drives i false && is_holding bytes answered slot body i))
    → IsHeld shelf bytes answered slot boot drives
held_by shelf bytes answered slot body boot drives lawful slots units effective spelled holding = grind (arith, nat_tests, slice_index_or)

-- one that leaves no room
pub spent_by : (shelf : Geometry) (bytes : List ℕ) (answered : List Bool) (slot : BootSlot) (body : List ℕ) (boot : BootRecord)
    → IsBootRecord boot → boot.slots ≡ shelf.slots → boot.units ≡ shelf.units → IsEffective shelf (seen bytes answered) slot body → body ≡ spelling boot
    → 2 ^ 48 - 8 ≤ boot.generation → IsSpent shelf bytes answered
spent_by shelf bytes answered slot body boot lawful slots units effective spelled spent = grind (arith, nat_tests)

-- a body in force that can't be read
pub fault_of_body : (shelf : Geometry) (bytes : List ℕ) (answered : List Bool) (slot : BootSlot) (body : List ℕ) (slots units : ℕ) (e : ReadError) → slots ≡ shelf.slots → units ≡ shelf.units
    → IsEffective shelf (seen bytes answered) slot body → Fails e (read_record slots units body) → IsFaultOf shelf bytes answered (fault_of e)
fault_of_body shelf bytes answered slot body slots units (errors.Memory m) same_slots same_units effective fails = tt
fault_of_body shelf bytes answered slot body slots units (errors.Bad b) same_slots same_units effective fails = grind (arith, nat_tests)

-- what holds of each error of that kind holds of the one that was returned
pub if_err : {T E : Type 0} (r : Result T E) (P Q : E → Type 0) → IsErrAnd r Q → ((e : E) → Q e → P e) → IfErr r P
if_err (Ok x) P Q is all = tt
if_err (Err e) P Q is all = all e is

-- an answer, by what is known of either
pub answer_of : (shelf : Geometry) (bytes : List ℕ) (answered : List Bool) (units : ℕ) (result : Result Loaded LoadFault)
    → IfOk result (λ x. (s : Geometry) → s.slots ≡ length answered → s.units ≡ units → IsGiven s bytes answered x)
    → IfErr result (λ e. (s : Geometry) → s.slots ≡ length answered → s.units ≡ units → IsFaultOf s bytes answered e)
    → shelf.slots ≡ length answered → shelf.units ≡ units → IsAnswerOf shelf bytes answered result
answer_of shelf bytes answered units (Ok x) ok err same_slots same_units = ok shelf same_slots same_units
answer_of shelf bytes answered units (Err e) ok err same_slots same_units = err shelf same_slots same_units

-- what the regions give is what is loaded
pub loaded_by : (old new : Shelved) (bytes : List ℕ) (answered : List Bool) (result : Result Loaded LoadFault) → length answered ≡ old.drives
    → ((i : ℕ) → i < old.drives → IsRead old new bytes answered i) → IsAnswerOf (geometry_of old) bytes answered result → IsLoadOf old new result
loaded_by old new bytes answered (Ok x) all read answer = record { bytes = bytes; answered = answered; all = all; read = read; answer = answer }
loaded_by old new bytes answered (Err (faults.Memory m)) all read answer = tt
loaded_by old new bytes answered (Err faults.NoArray) all read answer = record { bytes = bytes; answered = answered; all = all; read = read; answer = answer }
loaded_by old new bytes answered (Err (faults.BadRecord b)) all read answer = record { bytes = bytes; answered = answered; all = all; read = read; answer = answer }
loaded_by old new bytes answered (Err faults.Spent) all read answer = record { bytes = bytes; answered = answered; all = all; read = read; answer = answer }
loaded_by old new bytes answered (Err (faults.TooFew t)) all read answer = record { bytes = bytes; answered = answered; all = all; read = read; answer = answer }

-- what the regions give is lawful
pub lawful_load : (shelf old : Geometry) (bytes : List ℕ) (answered : List Bool) (result : Result Loaded LoadFault) → old ≡ shelf → IsAnswerOf old bytes answered result → IfOk result (IsLawfulLoad shelf)
lawful_load shelf old bytes answered (Ok x) same given = grind (arith, nat_tests, and_parts)
lawful_load shelf old bytes answered (Err e) same given = tt
