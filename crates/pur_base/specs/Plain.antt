-- The plain array: named lists of sectors, and what each request does to them. It knows no device.
use Rattle.std.specs.Prelude.{ℕ, ◌+◌, Bool, true, false, not, ◌||◌, ◌==◌, nat_lt, nat_le, if◌then◌else◌, List, [], ◌∷◌, ◌++◌, length, take, drop, replicate, find, is_some, bytes_eq, Option, Some, None}
use Rattle.std.specs.Option.{option_map_or}
use Rattle.pur_base.specs.Sectors.{filled}
use Rattle.pur_base.specs.declared.limits.TheConstants.{OBJECTS, OBJECT_SECTORS}
use Rattle.pur_base.specs.declared.request.Request.{Request}
use Rattle.pur_base.specs.declared.request.Request.TheVariants as request
use Rattle.pur_base.specs.declared.reply.Refusal.{Refusal}
use Rattle.pur_base.specs.declared.reply.Refusal.TheVariants.{Unknown, Taken, ReadOnly, Range, Limit}

-- A sector is a list of 512 bytes. A volume or a snapshot has a name and sectors.
pub record Entry : Type 0 where
  pub name : List ℕ
  pub snapshot : Bool
  pub sectors : List (List ℕ)

-- the entries, in order of creation
abbrev pub Array : Type 0
Array = List Entry

-- ---- reading an array

-- whether the entry has that name
abbrev pub is_named : List ℕ → Entry → Bool
is_named name e = bytes_eq name e.name

-- the entry of that name, if there is one
abbrev pub entry : Array → List ℕ → Option Entry
entry a name = find (is_named name) a

-- whether an entry has that name
abbrev pub has : Array → List ℕ → Bool
has a name = is_some (entry a name)

-- the sectors of the entry of that name
abbrev pub sectors_of : Array → List ℕ → List (List ℕ)
sectors_of a name = option_map_or (λ e. e.sectors) (entry a name) []

-- whether the entry of that name is a snapshot
abbrev pub is_snapshot : Array → List ℕ → Bool
is_snapshot a name = option_map_or (λ e. e.snapshot) (entry a name) false

-- count elements from the place lba on
abbrev pub span : ℕ → ℕ → List (List ℕ) → List (List ℕ)
span lba count sectors = take count (drop lba sectors)

-- the list with other elements in the place of those from lba on
abbrev pub with_span : ℕ → List (List ℕ) → List (List ℕ) → List (List ℕ)
with_span lba new sectors = take lba sectors ++ new ++ drop (lba + length new) sectors

-- ---- changing an array

-- the array whose entry of that name has these sectors
abbrev pub with_sectors : Array → List ℕ → List (List ℕ) → Array
with_sectors [] name sectors = []
with_sectors (e ∷ a) name sectors = if is_named name e then record e { sectors = sectors } ∷ a else e ∷ with_sectors a name sectors

-- the sectors from lba on, of the entry of that name, replaced
abbrev pub replaced : Array → List ℕ → ℕ → List (List ℕ) → Array
replaced a name lba new = with_sectors a name (with_span lba new (sectors_of a name))

-- the array without the entry of that name
abbrev pub without : Array → List ℕ → Array
without [] name = []
without (e ∷ a) name = if is_named name e then a else e ∷ without a name

-- the array with one more entry
abbrev pub appended : Array → List ℕ → Bool → List (List ℕ) → Array
appended a name snapshot sectors = a ++ record { name = name; snapshot = snapshot; sectors = sectors } ∷ []

-- ---- refusals

-- whether sectors from lba on pass the end
abbrev pub passes : Array → List ℕ → ℕ → ℕ → Bool
passes a name lba count = nat_lt (length (sectors_of a name)) (lba + count)

-- the most objects, and the most sectors of one
abbrev pub is_full : Array → Bool
is_full a = nat_le OBJECTS (length a)

-- whether no object has that size
abbrev pub is_no_size : ℕ → Bool
is_no_size sectors = (sectors == 0) || nat_lt OBJECT_SECTORS sectors

-- the refusal of the first cause that holds
abbrev pub first_cause : List (Bool × Refusal) → Option Refusal
first_cause [] = None
first_cause (cause ∷ causes) = if cause.0 then Some cause.1 else first_cause causes

-- why sectors of a volume may not be replaced
abbrev pub overwrite_causes : Array → List ℕ → ℕ → ℕ → List (Bool × Refusal)
overwrite_causes a n lba count = (not (has a n), Unknown) ∷ (is_snapshot a n, ReadOnly) ∷ (passes a n lba count, Range) ∷ []

-- why sectors may not be read
abbrev pub read_causes : Array → List ℕ → ℕ → ℕ → List (Bool × Refusal)
read_causes a n lba count = (not (has a n), Unknown) ∷ (passes a n lba count, Range) ∷ []

-- why n may not be copied whole under a new name
abbrev pub derive_causes : Array → List ℕ → List ℕ → List (Bool × Refusal)
derive_causes a n new = (not (has a n), Unknown) ∷ (has a new, Taken) ∷ (is_full a, Limit) ∷ []

-- for which causes a request is refused, in their order, and whether each holds
abbrev pub causes : Array → Request → List (Bool × Refusal)
causes a (request.Create n sectors) = (has a n, Taken) ∷ (is_no_size sectors || is_full a, Limit) ∷ []
causes a (request.Write n lba count) = overwrite_causes a n lba count
causes a (request.Fill n lba count byte) = overwrite_causes a n lba count
causes a (request.Zero n lba count) = overwrite_causes a n lba count
causes a (request.Read n lba count) = read_causes a n lba count
causes a (request.Snapshot n new) = derive_causes a n new
causes a (request.Clone n new) = derive_causes a n new
causes a (request.Copy n lba m to count) =
    (not (has a n) || not (has a m), Unknown) ∷ (is_snapshot a m, ReadOnly) ∷ (passes a n lba count || passes a m to count, Range) ∷ []
causes a (request.Destroy n) = (not (has a n), Unknown) ∷ []
causes a (request.Flatten n) = (not (has a n), Unknown) ∷ []
causes a _ = []

-- why the array refuses a request, if it does
abbrev pub refusal : Array → Request → Option Refusal
refusal a r = first_cause (causes a r)

-- ---- effects

-- what a request that isn't refused leaves; a write comes with its sectors
abbrev pub done : Array → Request → List (List ℕ) → Array
done a (request.Create n sectors) written = appended a n false (replicate sectors (filled 0))
done a (request.Write n lba count) written = replaced a n lba written
done a (request.Fill n lba count byte) written = replaced a n lba (replicate count (filled byte))
done a (request.Zero n lba count) written = replaced a n lba (replicate count (filled 0))
done a (request.Snapshot n new) written = appended a new true (sectors_of a n)
done a (request.Clone n new) written = appended a new false (sectors_of a n)
done a (request.Copy n lba m to count) written = replaced a m to (span lba count (sectors_of a n))
done a (request.Destroy n) written = without a n
done a _ written = a
