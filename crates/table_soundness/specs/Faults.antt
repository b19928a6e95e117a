-- Which table is at fault where tables aren't sound.
use Rattle.std.specs.Prelude.{◌⊎◌, ℕ, ◌<◌, Bool, true, false, List, [], ◌++◌, map, Option, Some, None}
use Rattle.array_spec.specs.Prelude.{Geometry, Facts, object_key, medium_key, address_key, segment_key, is_empty_range, never, tag_of, is_elided, Table, BootRecord}
use Rattle.pur_base.specs.declared.request.Table.TheVariants as table
use Rattle.pyramid.specs.Prelude.{facts_of, IsShown}
use Rattle.loaded_tables.specs.declared.tables.LoadedTables.{LoadedTables}
use Rattle.loaded_tables.specs.Prelude.{facts_in}
use Rattle.table_soundness.specs.declared.visible.Visible.{Visible}
use Rattle.table_soundness.specs.Addresses.{AreAddressesRight}
use Rattle.table_soundness.specs.Elisions.{AreElisionsRight}
use Rattle.table_soundness.specs.Items.{AreObjectsRight, AreSegmentsRight}
use Rattle.table_soundness.specs.Mediums.{AreMediumsRight}
use Rattle.table_soundness.specs.Numbers.{AreNumbersSound}

-- ---- what is judged

-- what is judged of each table by itself
abbrev pub IsTableSound : Geometry → BootRecord → Facts → Table → Type 0
IsTableSound shelf boot facts table.Object = AreObjectsRight boot.next facts
IsTableSound shelf boot facts table.Medium = AreMediumsRight boot.next.medium facts
IsTableSound shelf boot facts table.Address = AreAddressesRight boot.next.medium facts
IsTableSound shelf boot facts table.Segment = AreSegmentsRight shelf boot facts
IsTableSound shelf boot facts table.Elision = AreElisionsRight boot.next facts.elisions

-- the sequence numbers of a table
abbrev pub numbers_of : LoadedTables → Table → List ℕ
numbers_of t table.Object = map (λ f. f.seq.0) (facts_of t.objects.items)
numbers_of t table.Medium = map (λ f. f.seq.0) (facts_of t.mediums.items)
numbers_of t table.Address = map (λ f. f.seq.0) (facts_of t.addresses.items)
numbers_of t table.Segment = map (λ f. f.seq.0) (facts_of t.segments.items)
numbers_of t table.Elision = map (λ f. f.seq.0) (facts_of t.elisions.items)

-- those of the tables in front of it
abbrev pub numbers_before : LoadedTables → Table → List ℕ
numbers_before t table.Object = []
numbers_before t table.Medium = numbers_of t table.Object
numbers_before t table.Address = numbers_of t table.Object ++ numbers_of t table.Medium
numbers_before t table.Segment = numbers_of t table.Object ++ numbers_of t table.Medium ++ numbers_of t table.Address
numbers_before t table.Elision = numbers_of t table.Object ++ numbers_of t table.Medium ++ numbers_of t table.Address ++ numbers_of t table.Segment

-- each number of the table suits those before it
abbrev pub AreNumbersOf : ℕ → LoadedTables → Table → Type 0
AreNumbersOf next t table.Object = AreNumbersSound (λ f. f.seq.0) next (numbers_before t table.Object) t.objects.items
AreNumbersOf next t table.Medium = AreNumbersSound (λ f. f.seq.0) next (numbers_before t table.Medium) t.mediums.items
AreNumbersOf next t table.Address = AreNumbersSound (λ f. f.seq.0) next (numbers_before t table.Address) t.addresses.items
AreNumbersOf next t table.Segment = AreNumbersSound (λ f. f.seq.0) next (numbers_before t table.Segment) t.segments.items
AreNumbersOf next t table.Elision = AreNumbersSound (λ f. f.seq.0) next (numbers_before t table.Elision) t.elisions.items

-- ---- the fault

-- the first table of which it isn't so, by tag
pub record IsFirst (P : Table → Type 0) (t : Table) : Type 0 where
  pub before : (s : Table) → tag_of s < tag_of t → P s
  pub fails : P t → ⊥

-- the first table that isn't sound by itself, or where each is, the first with a number that doesn't suit those before it
abbrev pub IsFault : Geometry → BootRecord → LoadedTables → Table → Type 0
IsFault shelf boot t x =
    IsFirst (IsTableSound shelf boot (facts_in t)) x ⊎ (((s : Table) → IsTableSound shelf boot (facts_in t) s) × IsFirst (AreNumbersOf boot.next.sequence t) x)

-- ---- how it is found

-- the first table whose answer is false
abbrev pub first_false : Bool → Bool → Bool → Bool → Bool → Option Table
first_false false m a s e = Some table.Object
first_false true false a s e = Some table.Medium
first_false true true false s e = Some table.Address
first_false true true true false e = Some table.Segment
first_false true true true true false = Some table.Elision
first_false true true true true true = None

-- the visible facts
pub record AreVisible (facts : Facts) (v : Visible) : Type 0 where
  pub objects : IsShown object_key (λ f. f.seq.0) never facts.objects (is_elided facts.elisions table.Object) v.objects.items
  pub mediums : IsShown medium_key (λ f. f.seq.0) is_empty_range facts.mediums (is_elided facts.elisions table.Medium) v.mediums.items
  pub addresses : IsShown address_key (λ f. f.seq.0) never facts.addresses (is_elided facts.elisions table.Address) v.addresses.items
  pub segments : IsShown segment_key (λ f. f.seq.0) never facts.segments (is_elided facts.elisions table.Segment) v.segments.items
