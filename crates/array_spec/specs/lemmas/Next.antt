-- The tables of a record hold by a later one of the same tables, and whatever is written in units that they leave free.
use Rattle.std.proofs.lemmas.Bool.Decides.{nat_tests}
use Rattle.std.proofs.Common.{◌≡◌, ◌⊎◌, inl, inr, ℕ, ◌+◌, ◌*◌, ◌/◌, ◌<◌, ◌≤◌, List, length, refl, sym, ap, subst, ◌∙◌, arith, Bool, true, false}
use Rattle.std.specs.Prelude.{Option, Some, None, is_none, slice_index, slice_index_or, option_map, count_by}
use Rattle.std.specs.List.{range_with_len}
use Rattle.boot_codec.specs.Prelude.{bytes_at, Geometry, Image, View, drive, Array, objects, segment, Drive, Nv, AnyFact, SegmentFact, Place, spelling, BootSlot, A, B, body_in, IsRecordOf}
use Rattle.boot_codec.specs.declared.record.BootRecord.{BootRecord}
use Rattle.array_spec.specs.Base.{BaseStands}
use Rattle.array_spec.specs.Counts.{is_used}
use Rattle.array_spec.specs.Laws.{DiffersOnlyIn}
use Rattle.array_spec.specs.Sound.{AreSegmentsSound}
use Rattle.array_spec.specs.Meaning.{TablesStand}
use Rattle.array_spec.specs.Stored.{all_facts}
use Rattle.array_spec.specs.lemmas.Moves.{SameUnit, Keeps, same_units_keep, tables_kept, base_moves, patches_keep}
use Rattle.array_spec.specs.lemmas.Quiet.{bytes_same, in_unit}
use Rattle.array_spec.specs.lemmas.Used.{patches_are_used, data_is_used, used_is_data}
use Rattle.array_spec.specs.Held.{AreSomeOf, AreEnough, DataHolds, TablesHold}
use Rattle.array_spec.specs.StoredLaws.{NextHolds, DataIsHeld, ShowedBefore, FreeWritesKeep}

-- ---- what the drives of a view showed before

Matches : List ℕ → List ℕ → Option (List ℕ) → Option (List ℕ) → Type 0
Matches old new o n = ((o ≡ None) × (n ≡ None)) ⊎ ((o ≡ Some old) × (n ≡ Some new))

in_its_place : Option (List ℕ) → List ℕ → Option (List ℕ)
in_its_place None old = None
in_its_place (Some bytes) old = Some old

then_shown : Image → View → View
then_shown old members (Drive d) = in_its_place (members (Drive d)) (old (Drive d))
then_shown old members (Nv n) = members (Nv n)

as_many : (o : Option (List ℕ)) (old : List ℕ) → is_none (in_its_place o old) ≡ is_none o
unfolding in_its_place
as_many None old = refl
as_many (Some bytes) old = refl

pub counted_alike : (p q : ℕ → Bool) (a n : ℕ) → ((i : ℕ) → p i ≡ q i) → count_by p (range_with_len a n) ≡ count_by q (range_with_len a n)
counted_alike p q a n same = ap (λ (f : ℕ → Bool). count_by f (range_with_len a n)) (λ i x. same x i)

-- a unit is the same where the bytes of its drive are
same_unit : (old new : List ℕ) (v w : View) (p : Place) → length old ≡ length new → Matches old new (v (drive p.slot)) (w (drive p.slot))
    → ((at : ℕ) → at / 65536 ≡ p.unit → slice_index old at ≡ slice_index new at) → SameUnit v w p
unfolding Matches SameUnit
same_unit old new v w p long (inl (e, f)) same n below = ap (option_map (bytes_at (65536 * p.unit + 4096 * n) 4096)) (e ∙ sym f)
same_unit old new v w p long (inr (e, f)) same n below =
    rw (e, f) (ap (λ (b : List ℕ). Some b) (bytes_same old new (65536 * p.unit + 4096 * n) 4096 long (λ at low high. same at (in_unit at p.unit n below low high))))

-- tables and base, moved from one view to another
moved : (shelf : Geometry) (v w : View) (boot : BootRecord) (patches : List (List AnyFact)) (base : Array)
    → ((p : Place) → is_used boot (all_facts patches) p.slot p.unit ≡ true → SameUnit v w p)
    → TablesStand shelf v boot patches × BaseStands v (all_facts patches) boot.next.object base
    → TablesStand shelf w boot patches × BaseStands w (all_facts patches) boot.next.object base
moved shelf v w boot patches base same (tables, stands) = (
  tables_kept v w shelf boot patches tables (patches_keep v w boot.patches (patches_are_used boot (all_facts patches) (SameUnit v w) same)) stay,
  base_moves v w (all_facts patches) stay (objects (all_facts patches) boot.next.object) base stands,
)
  where
    stay : (id : ℕ) (d : SegmentFact) → segment (all_facts patches) id ≡ Some d → Keeps v w d.places
    stay id d is = same_units_keep v w d.places (data_is_used boot (all_facts patches) (SameUnit v w) tables.sound.ids.segments same id d is)

-- ---- from the drives of one record to those of another

module _ (shelf : Geometry) (old new : Image) (members : View) (some : (i : ℕ) → (members (drive i) ≡ None) ⊎ (members (drive i) ≡ Some (new (drive i)))) where
  before : View
  before = then_shown old members

  matches : (i : ℕ) → Matches (old (drive i)) (new (drive i)) (before (drive i)) (members (drive i))
  unfolding before then_shown in_its_place Matches
  matches i = elim (some i) [
    | inl none ↦ inl (rw none refl, none)
    | inr is ↦ inr (rw is refl, is)
  ]

  none_before : (i : ℕ) → members (drive i) ≡ None → before (drive i) ≡ None
  unfolding before then_shown in_its_place
  none_before i none = rw none refl

  some_before : (i : ℕ) → members (drive i) ≡ Some (new (drive i)) → before (drive i) ≡ Some (old (drive i))
  unfolding before then_shown in_its_place
  some_before i is = rw is refl

  enough_before : AreEnough shelf members → AreEnough shelf before
  unfolding before then_shown
  enough_before few =
      let same = counted_alike (λ i. is_none (then_shown old members (drive i))) (λ i. is_none (members (drive i))) 0 shelf.slots (λ i. as_many (members (drive i)) (old (drive i))) in
      omega (arith, same, few)

  -- what the tables held then they hold now, where the units that they use are the same
  held_now : (boot : BootRecord) (patches : List (List AnyFact)) (base : Array) (long : (i : ℕ) → length (old (drive i)) ≡ length (new (drive i)))
      → TablesStand shelf before boot patches × BaseStands before (all_facts patches) boot.next.object base
      → (AreSegmentsSound shelf boot (all_facts patches) → (p : Place) → is_used boot (all_facts patches) p.slot p.unit ≡ true → (at : ℕ) → at / 65536 ≡ p.unit → slice_index (old (drive p.slot)) at ≡ slice_index (new (drive p.slot)) at)
      → TablesStand shelf members boot patches × BaseStands members (all_facts patches) boot.next.object base
  held_now boot patches base long t units =
      moved shelf before members boot patches base (λ p used. same_unit (old (drive p.slot)) (new (drive p.slot)) before members p (long p.slot) (matches p.slot) (units t.0.sound.segments p used)) t

-- the drives of a record, as they are
shown_or_none : (slot : BootSlot) (boot : BootRecord) (image : Image) (members : View) → AreSomeOf slot boot image members → (i : ℕ) → (members (drive i) ≡ None) ⊎ (members (drive i) ≡ Some (image (drive i)))
shown_or_none slot boot image members some i = grind (arith, nat_tests)

-- they were some of the other's
some_of_other : (old new : Image) (slot slot2 : BootSlot) (boot next : BootRecord) (showed : ShowedBefore slot boot old slot2 next new) (shelf : Geometry) (members : View) (some : AreSomeOf slot2 next new members)
    → AreSomeOf slot boot old (before shelf old new members (shown_or_none slot2 next new members some))
some_of_other old new slot slot2 boot next showed shelf members some i = grind (arith, nat_tests, none_before, shown_or_none, some_before)

-- units behind the boot region are the same
kept_units : (shelf : Geometry) (old new : Image) (boot : BootRecord) (patches : List (List AnyFact)) → IsRecordOf shelf boot → DiffersOnlyIn (λ i unit. unit < 3) old new → AreSegmentsSound shelf boot (all_facts patches)
    → (p : Place) → is_used boot (all_facts patches) p.slot p.unit ≡ true → (at : ℕ) → at / 65536 ≡ p.unit → slice_index (old (drive p.slot)) at ≡ slice_index (new (drive p.slot)) at
kept_units shelf old new boot patches lawful only sound p used at e = elim (only.drive p.slot at) [
  | inl is ↦ sym is
  | inr low ↦
      let three : 3 ≤ p.unit = used_is_data shelf boot (all_facts patches) p.slot p.unit lawful sound used in
      absurd (omega (arith, e, low, three))
]

-- tables by a later record of the same tables
by_next : (shelf : Geometry) (boot next : BootRecord) (patches : List (List AnyFact)) (members : View) → TablesStand shelf members boot patches → TablesStand shelf members (record boot { generation = next.generation; members = next.members }) patches
by_next shelf boot next patches members m = grind (arith, nat_tests, objects)

-- ---- a record after another

pub next_holds : NextHolds
next_holds shelf old new slot slot2 boot next patches base lawful same showed only tables = record {
  each = λ members some enough.
      let m = held_now shelf old new members (shown_or_none slot2 next new members some) boot patches base (λ i. sym (only.size i))
      (tables.each (before shelf old new members (shown_or_none slot2 next new members some)) (some_of_other old new slot slot2 boot next showed shelf members some)
      (enough_before shelf old new members (shown_or_none slot2 next new members some) enough))
      (λ sound p used at e. kept_units shelf old new boot patches lawful only sound p used at e) in
      subst (λ (b : BootRecord). TablesStand shelf members b patches × BaseStands members (all_facts patches) b.next.object base) (sym same) (by_next shelf boot next patches members m.0, m.1);
}

pub data_is_held : DataIsHeld
data_is_held shelf drives old new slot2 boot next patches base lawful same on only data_holds = record {
  each = λ members some enough.
      let m = held_now shelf old new members (shown_or_none slot2 next new members some) boot patches base (λ i. sym (only.size i))
      (data_holds (before shelf old new members (shown_or_none slot2 next new members some)) (λ i. elim (some i) [
        | inl none ↦ inl (none_before shelf old new members (shown_or_none slot2 next new members some) i none)
        | inr is ↦ inr (on i is.0, some_before shelf old new members (shown_or_none slot2 next new members some) i is.2)
      ]) (enough_before shelf old new members (shown_or_none slot2 next new members some) enough))
      (λ sound p used at e. kept_units shelf old new boot patches lawful only sound p used at e) in
      subst (λ (b : BootRecord). TablesStand shelf members b patches × BaseStands members (all_facts patches) b.next.object base) (sym same) (by_next shelf boot next patches members m.0, m.1);
}

-- by a later record of the same tables, on fewer drives, once only boot units have changed
pub data_moves : (shelf : Geometry) (drives fewer : List Bool) (old new : Image) (boot next : BootRecord) (patches : List (List AnyFact)) (base : Array)
    → IsRecordOf shelf boot → next ≡ record boot { generation = next.generation; members = next.members }
    → ((i : ℕ) → slice_index_or fewer i false ≡ true → slice_index_or drives i false ≡ true) → DiffersOnlyIn (λ i unit. unit < 3) old new
    → DataHolds shelf drives old boot patches base → DataHolds shelf fewer new next patches base
data_moves shelf drives fewer old new boot next patches base lawful same on only data_holds members some enough =
    let shown : (i : ℕ) → (members (drive i) ≡ None) ⊎ (members (drive i) ≡ Some (new (drive i))) = λ i. elim (some i) [ inl none ↦ inl none | inr is ↦ inr is.1 ] in
    let m = held_now shelf old new members shown boot patches base (λ i. sym (only.size i))
    (data_holds (before shelf old new members shown) (λ i. elim (some i) [
      | inl none ↦ inl (none_before shelf old new members shown i none)
      | inr is ↦ inr (on i is.0, some_before shelf old new members shown i is.1)
    ]) (enough_before shelf old new members shown enough))
    (λ sound p used at e. kept_units shelf old new boot patches lawful only sound p used at e) in
    subst (λ (b : BootRecord). TablesStand shelf members b patches × BaseStands members (all_facts patches) b.next.object base) (sym same) (by_next shelf boot next patches members m.0, m.1)

-- ---- writes in free units

same_bodies : (old new : Image) (slot : BootSlot) (i : ℕ) → length (old (drive i)) ≡ length (new (drive i)) → ((at : ℕ) → at / 65536 ≤ 2 → slice_index (old (drive i)) at ≡ slice_index (new (drive i)) at)
    → body_in slot (old (drive i)) ≡ body_in slot (new (drive i))
same_bodies old new A i long same = bytes_same (old (drive i)) (new (drive i)) 65536 65536 long (λ at low high. same at (omega (arith, low, high)))
same_bodies old new B i long same = bytes_same (old (drive i)) (new (drive i)) 131072 65536 long (λ at low high. same at (omega (arith, low, high)))

pub free_writes_keep : FreeWritesKeep
free_writes_keep shelf old new slot boot patches base lawful only tables = record {
  each = λ members some enough. held_now shelf old new members (shown_or_none slot boot new members some) boot patches base (λ i. sym (only.size i))
      (tables.each (before shelf old new members (shown_or_none slot boot new members some))
      (some_of_other old new slot slot boot boot (λ i named body. (
        named,
        same_bodies old new slot i (sym (only.size i)) (λ at low. elim (only.drive i at) [
          | inl is ↦ sym is
          | inr free ↦ let three : 3 ≤ at / 65536 = free.data_unit in absurd (omega (arith, low, three))
        ]) ∙ body,
      )) shelf members some)
      (enough_before shelf old new members (shown_or_none slot boot new members some) enough))
      (λ sound p used at e. elim (only.drive p.slot at) [
        | inl is ↦ sym is
        | inr free ↦ absurd (cc (used, subst (λ (u : ℕ). is_used boot (all_facts patches) p.slot u ≡ false) e free.unused))
      ]);
}

-- ---- the same drives

-- what tables hold depends on the drives alone
pub same_drives_hold : (shelf : Geometry) (old new : Image) (slot : BootSlot) (boot : BootRecord) (patches : List (List AnyFact)) (base : Array) → ((i : ℕ) → new (drive i) ≡ old (drive i))
    → TablesHold shelf old slot boot patches base → TablesHold shelf new slot boot patches base
same_drives_hold shelf old new slot boot patches base same tables = record {
  each = λ members some enough. tables.each members (λ i. elim (some i) [
    | inl none ↦ inl none
    | inr is ↦ inr (is.0, subst (λ (b : List ℕ). body_in slot b ≡ spelling boot) (same i) is.1, is.2 ∙ ap (λ (b : List ℕ). Some b) (same i))
  ]) enough;
}
