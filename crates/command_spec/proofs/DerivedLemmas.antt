-- Objects that move to other mediums, and steps that add objects and ranges, one behind another.
use Rattle.command_spec.proofs.Prelude.{nat_tests, ◌≡◌, ◌≢◌, ℕ, ◌+◌, ◌<◌, ◌≤◌, ◌==◌, ◌&&◌, Bool, true, false, not, List, [], ◌∷◌, ◌++◌, map, inl, inr, refl, sym, ap, subst, ◌∙◌, arith, eq-eqb, ne_eqb, lt-ltb, All, Contains, if◌then◌else◌, nat_lt, bytes_eq, le-ltb, bytes_eq-Decides, All-contains, Snapshot, ObjectKind, says, facts, NextNumbers, Tables, HasCreated, facts_in, all_contained, in_map, of_map, the_type, ranges_beside, is_snapshot, with_medium, Derived, around, clone_of, copy_of, derived, leading, moved, moves_both, snapshot_of, whole, AddsOnly, next_past_freeze, next_past_move, next_past_object, Kept, IsKept}
use Rattle.memory_spec.specs.Prelude.{Volume, ObjectFact, MediumFact, here, same_some}
use denote.Enum.Bare.{sameb}
use Rattle.command_spec.proofs.CountLemmas.{only, as_none, joined}

-- ---- kinds

pub a_volume : (kind : ObjectKind) → sameb the_type kind Volume ≡ true → is_snapshot kind ≡ false
a_volume Volume e = refl
a_volume Snapshot e = cc

pub no_volume : (kind : ObjectKind) → sameb the_type kind Volume ≡ false → is_snapshot kind ≡ true
no_volume Volume e = cc
no_volume Snapshot e = refl

-- ---- objects that move

-- the object of the id moves
pub moved_is : (id medium number : ℕ) (x : ObjectFact) → x.object.0 ≡ id → with_medium id (record { 0 = medium }) (record { 0 = number }) x ≡ moved x medium number
moved_is id medium number x same = ap (λ b. if b then moved x medium number else x) (eq-eqb x.object.0 id same)

-- and no other one
pub not_moved : (id medium number : ℕ) (x : ObjectFact) → x.object.0 ≢ id → with_medium id (record { 0 = medium }) (record { 0 = number }) x ≡ x
not_moved id medium number x other = ap (λ b. if b then moved x medium number else x) (ne_eqb x.object.0 id other)

-- which keeps its name
same_name : (b : Bool) (x y : ObjectFact) → x.name ≡ y.name → (if b then x else y).name ≡ y.name
same_name true x y same = same
same_name false x y same = refl

pub still_fresh : (id medium number : ℕ) (name : List ℕ) (xs : List ObjectFact) → All (λ (x : ObjectFact). x.name ≢ name) xs
    → All (λ (x : ObjectFact). x.name ≢ name) (map (with_medium id (record { 0 = medium }) (record { 0 = number })) xs)
still_fresh id medium number name xs fresh =
    all_contained (λ (x : ObjectFact). x.name ≢ name) (map (with_medium id (record { 0 = medium }) (record { 0 = number })) xs) (λ x c same.
    let w = of_map (with_medium id (record { 0 = medium }) (record { 0 = number })) xs x c in
    let named : x.name ≡ w.0.name = ap (λ (y : ObjectFact). y.name) w.2 ∙ same_name (w.0.object.0 == id) (moved w.0 medium number) w.0 refl in
    All-contains (λ (x : ObjectFact). x.name ≢ name) xs w.0 fresh w.1 (sym named ∙ same))

pub still_there : (id medium number : ℕ) (x : ObjectFact) (xs : List ObjectFact) → x.object.0 ≢ id → Contains xs x → Contains (map (with_medium id (record { 0 = medium }) (record { 0 = number })) xs) x
still_there id medium number x xs other c =
    subst (Contains (map (with_medium id (record { 0 = medium }) (record { 0 = number })) xs)) (not_moved id medium number x other) (in_map (with_medium id (record { 0 = medium }) (record { 0 = number })) xs x c)

-- visible objects of one id are one
pub one_id : (k : Kept) → IsKept k → (x y : ObjectFact) → Contains k.objects x → Contains k.objects y → x.object.0 ≡ y.object.0 → x ≡ y
one_id k h x y c d same = grind (arith, nat_tests, says, facts, same_some)

add_assoc : (a b c : ℕ) → a + b + c ≡ a + (b + c)
add_assoc a b c = omega arith

-- ---- one object more

-- with a medium that was given
pub next_beside : (n : NextNumbers) (x : ObjectFact) → x.medium.0 < n.medium → next_past_object n x ≡ record n { object = n.object + 1; sequence = n.sequence + 1 }
next_beside n x given = ap (λ b. record n { object = n.object + 1; medium = if b then n.medium else n.medium + 1; sequence = n.sequence + 1 }) (lt-ltb x.medium.0 n.medium given)

-- and with the next one
pub next_with : (n : NextNumbers) (x : ObjectFact) → x.medium.0 ≡ n.medium → next_past_object n x ≡ record n { object = n.object + 1; medium = n.medium + 1; sequence = n.sequence + 1 }
next_with n x new = ap (λ b. record n { object = n.object + 1; medium = if b then n.medium else n.medium + 1; sequence = n.sequence + 1 }) (le-ltb x.medium.0 n.medium (omega (arith, new)))

-- a volume that was created
pub created_by : (was now : Kept) (x : ObjectFact) → AddsOnly was now (record { objects = x ∷ []; ranges = []; next = next_past_object was.memory.next x }) → now.memory.tables ≡ record was.memory.tables { objects = now.memory.tables.objects }
    → x.medium.0 ≡ was.memory.next.medium → HasCreated was.memory now.memory x
created_by was now x adds tables medium = record {
  objects = λ f. (
    λ c. elim ((adds.derived.objects f).0 c) [ inl a ↦ inl a | inr b ↦ inr (only x f b) ],
    λ c. (adds.derived.objects f).1 (elim c [ inl a ↦ inl a | inr e ↦ inr (subst (λ z. Contains (x ∷ []) z) (sym e) (here x [])) ]),
  );
  mediums = ap (λ (t : Tables). facts_in t.mediums) tables;
  addresses = adds.derived.addresses;
  segments = adds.derived.segments;
  elisions = adds.derived.elisions;
  staged = adds.derived.staged;
  next = adds.derived.next ∙ next_with was.memory.next x medium;
}

-- ---- one step behind another

pub adds_then : (a b c : Kept) (d e : Derived) → AddsOnly a b d → AddsOnly b c e → AddsOnly a c (record { objects = d.objects ++ e.objects; ranges = d.ranges ++ e.ranges; next = e.next })
adds_then a b c d e first more = record {
  derived = record {
    objects = joined _ _ _ d.objects e.objects first.derived.objects more.derived.objects;
    mediums = joined _ _ _ d.ranges e.ranges first.derived.mediums more.derived.mediums;
    addresses = more.derived.addresses ∙ first.derived.addresses;
    segments = more.derived.segments ∙ first.derived.segments;
    elisions = more.derived.elisions ∙ first.derived.elisions;
    staged = more.derived.staged ∙ first.derived.staged;
    next = more.derived.next;
  };
  patches = grind (arith, nat_tests);
  segments = more.segments ∙ first.segments;
  elided = more.elided ∙ first.elided;
}

-- nothing was added
pub adds_nothing : (k : Kept) → AddsOnly k k (record { objects = []; ranges = []; next = k.memory.next })
adds_nothing k = grind (arith, nat_tests, as_none)

-- ---- ranges

-- ranges with so many next numbers were added
abbrev pub AddsRanges : Kept → Kept → List MediumFact → ℕ → Type 0
AddsRanges was now ranges count = AddsOnly was now (record { objects = []; ranges = ranges; next = record was.memory.next { sequence = was.memory.next.sequence + count } })

pub ranges_then : (a b c : Kept) (r s : List MediumFact) (i j : ℕ) → AddsRanges a b r i → AddsRanges b c s j → AddsRanges a c (r ++ s) (i + j)
ranges_then a b c r s i j first more =
    let n = a.memory.next in
    let middle : b.memory.next ≡ record n { sequence = n.sequence + i } = first.derived.next in
    let last : record (record n { sequence = n.sequence + i }) { sequence = n.sequence + i + j } ≡ record n { sequence = n.sequence + (i + j) } = ap (λ (k : ℕ). record n { sequence = k }) (omega arith) in
    adds_then a b c (record { objects = []; ranges = r; next = record n { sequence = n.sequence + i } }) (record { objects = []; ranges = s; next = record n { sequence = n.sequence + (i + j) } }) first
    (subst (λ (m : NextNumbers). AddsOnly b c (record { objects = []; ranges = s; next = m })) (ap (λ (m : NextNumbers). record m { sequence = m.sequence + j }) middle ∙ last) more)

-- a range in a case, and none in the other
pub no_ranges : (k : Kept) → AddsRanges k k [] 0
no_ranges k = subst (λ (m : NextNumbers). AddsOnly k k (record { objects = []; ranges = []; next = m })) (ap (λ (i : ℕ). record k.memory.next { sequence = i }) (omega arith)) (adds_nothing k)

-- ---- a volume that is frozen

abbrev pub frozen : NextNumbers → ObjectFact → Derived
frozen next x = record { objects = moved x next.medium next.sequence ∷ []; ranges = whole next.medium x (next.sequence + 1) ∷ []; next = next_past_freeze next }

pub froze : (was mid now : Kept) (x : ObjectFact) → AddsOnly was mid (record { objects = moved x was.memory.next.medium was.memory.next.sequence ∷ []; ranges = []; next = next_past_move was.memory.next })
    → AddsRanges mid now (whole was.memory.next.medium x mid.memory.next.sequence ∷ []) 1 → AddsOnly was now (frozen was.memory.next x)
froze was mid now x first more =
    let n = was.memory.next in
    let last : ◌≡◌ {A = NextNumbers} (record (next_past_move n) { sequence = n.sequence + 1 + 1 }) (next_past_freeze n) = ap (λ (k : ℕ). record n { medium = n.medium + 1; sequence = k }) (omega arith) in
    adds_then was mid now (record { objects = moved x n.medium n.sequence ∷ []; ranges = []; next = next_past_move n }) (record { objects = []; ranges = whole n.medium x (n.sequence + 1) ∷ []; next = next_past_freeze n }) first
    (subst (λ (m : NextNumbers). AddsOnly mid now (record { objects = []; ranges = whole n.medium x (n.sequence + 1) ∷ []; next = m })) last
    (subst (λ (m : NextNumbers). AddsOnly mid now (record { objects = []; ranges = whole n.medium x m.sequence ∷ []; next = record m { sequence = m.sequence + 1 } })) first.derived.next more))

-- ---- the ranges of a copy

-- there is one in front where the copy doesn't begin at the first sector
pub with_front : (was now : Kept) (to : ℕ) (r : MediumFact) → 0 < to → AddsRanges was now (r ∷ []) 1 → AddsRanges was now (if to == 0 then [] else r ∷ []) (if to == 0 then 0 else 1)
with_front was now to r some adds = rw (ne_eqb to 0 (λ e. omega (arith, some, e))) adds

pub no_front : (k : Kept) (to : ℕ) (r : MediumFact) → to ≤ 0 → AddsRanges k k (if to == 0 then [] else r ∷ []) (if to == 0 then 0 else 1)
no_front k to r none = rw (eq-eqb to 0 (omega (arith, none))) (no_ranges k)

-- and one behind where it doesn't end at the last one
pub with_back : (was now : Kept) (end size : ℕ) (r : MediumFact) → end < size → AddsRanges was now (r ∷ []) 1 → AddsRanges was now (if nat_lt end size then r ∷ [] else []) (if nat_lt end size then 1 else 0)
with_back was now end size r more adds = rw (lt-ltb end size more) adds

pub no_back : (k : Kept) (end size : ℕ) (r : MediumFact) → size ≤ end → AddsRanges k k (if nat_lt end size then r ∷ [] else []) (if nat_lt end size then 1 else 0)
no_back k end size r none = rw (le-ltb end size none) (no_ranges k)

pub led_around : (was mid mid2 now : Kept) (medium lba to count : ℕ) (x y : ObjectFact)
    → AddsRanges was mid (if to == 0 then [] else leading medium 0 to y.medium.0 0 was.memory.next.sequence ∷ []) (if to == 0 then 0 else 1)
    → AddsRanges mid mid2 (leading medium to (to + count) x.medium.0 lba mid.memory.next.sequence ∷ []) 1
    → AddsRanges mid2 now (if nat_lt (to + count) y.sectors then leading medium (to + count) y.sectors y.medium.0 (to + count) mid2.memory.next.sequence ∷ [] else []) (if nat_lt (to + count) y.sectors then 1 else 0)
    → AddsRanges was now (around medium was.memory.next.sequence x lba y to count) (ranges_beside y.sectors to count)
led_around was mid mid2 now medium lba to count x y front copied back =
    let s = was.memory.next.sequence in
    let i : ℕ = if to == 0 then 0 else 1 in
    let j : ℕ = if nat_lt (to + count) y.sectors then 1 else 0 in
    let r1 : List MediumFact = if to == 0 then [] else leading medium 0 to y.medium.0 0 s ∷ [] in
    let r2 : ℕ → List MediumFact = λ k. leading medium to (to + count) x.medium.0 lba k ∷ [] in
    let r3 : ℕ → List MediumFact = λ k. if nat_lt (to + count) y.sectors then leading medium (to + count) y.sectors y.medium.0 (to + count) k ∷ [] else [] in
    let first : mid.memory.next.sequence ≡ s + i = ap (λ (n : NextNumbers). n.sequence) front.derived.next in
    let second : mid2.memory.next.sequence ≡ s + i + 1 = ap (λ (n : NextNumbers). n.sequence) copied.derived.next ∙ ap (λ (k : ℕ). k + 1) first in
    let two = ranges_then was mid mid2 r1 (r2 (s + i)) i 1 front (subst (λ (k : ℕ). AddsRanges mid mid2 (r2 k) 1) first copied) in
    ranges_then was mid2 now (r1 ++ r2 (s + i)) (r3 (s + i + 1)) (i + 1) j two (subst (λ (k : ℕ). AddsRanges mid2 now (r3 k) j) second back)

-- what was added has sectors
pub added_size : (was now : Kept) (d : Derived) → IsKept now → AddsOnly was now d → (x : ObjectFact) → Contains d.objects x → 1 ≤ x.sectors
added_size was now d h adds x c = All-contains (λ (f : ObjectFact). 1 ≤ f.sectors) (facts now.memory.tables).objects x h.sizes ((adds.derived.objects x).1 (inr c))

-- ---- a snapshot

-- one of two
in_then : (b : Bool) (was now : Kept) (d e : Derived) → b ≡ true → AddsOnly was now d → AddsOnly was now (if b then d else e)
in_then b was now d e is h = rw is h

in_else : (b : Bool) (was now : Kept) (d e : Derived) → b ≡ false → AddsOnly was now e → AddsOnly was now (if b then d else e)
in_else b was now d e is h = rw is h

-- the object alone was added
abbrev pub AddsObject : Kept → Kept → ObjectFact → Type 0
AddsObject was now x = AddsOnly was now (record { objects = x ∷ []; ranges = []; next = next_past_object was.memory.next x })

abbrev pub snapshot_alone : NextNumbers → ObjectFact → List ℕ → ObjectFact
snapshot_alone next x name = derived next x Snapshot name x.medium.0 next.sequence

pub snapped_one : (was now : Kept) (x : ObjectFact) (name : List ℕ) → is_snapshot x.kind ≡ true → x.medium.0 < was.memory.next.medium → AddsObject was now (snapshot_alone was.memory.next x name)
    → AddsOnly was now (snapshot_of was.memory.next x name)
snapped_one was now x name kind given adds = grind (arith, nat_tests, in_then, next_beside)

pub snapped : (was mid now : Kept) (x : ObjectFact) (name : List ℕ) → is_snapshot x.kind ≡ false → x.medium.0 < was.memory.next.medium → AddsObject was mid (snapshot_alone was.memory.next x name)
    → AddsOnly mid now (frozen mid.memory.next x) → AddsOnly was now (snapshot_of was.memory.next x name)
snapped was mid now x name kind given first more =
    let n = was.memory.next in
    let middle : mid.memory.next ≡ record n { object = n.object + 1; sequence = n.sequence + 1 } = first.derived.next ∙ next_beside n (snapshot_alone n x name) given in
    let froze = subst (λ (m : NextNumbers). AddsOnly mid now (frozen m x)) middle more in
    let all : ℕ → ℕ → Derived = λ i j. record {
      objects = snapshot_alone n x name ∷ moved x n.medium (n.sequence + 1) ∷ [];
      ranges = whole n.medium x i ∷ [];
      next = record n { object = n.object + 1; medium = n.medium + 1; sequence = j };
    } in
    in_else (is_snapshot x.kind) was now _ _ kind
    (subst (λ (i : ℕ). AddsOnly was now (all i (n.sequence + 3))) (omega arith)
    (subst (λ (j : ℕ). AddsOnly was now (all (n.sequence + 1 + 1) j)) (omega arith)
    (adds_then was mid now (record { objects = snapshot_alone n x name ∷ []; ranges = []; next = next_past_object n (snapshot_alone n x name) }) (frozen (record n { object = n.object + 1; sequence = n.sequence + 1 }) x) first froze)))

-- ---- a clone

abbrev pub clone_alone : NextNumbers → ObjectFact → List ℕ → ObjectFact
clone_alone next x name = derived next x Volume name next.medium next.sequence

abbrev pub clone_led : NextNumbers → ObjectFact → List ℕ → Derived
clone_led next x name = record {
  objects = clone_alone next x name ∷ [];
  ranges = whole next.medium x (next.sequence + 1) ∷ [];
  next = record next { object = next.object + 1; medium = next.medium + 1; sequence = next.sequence + 2 };
}

pub cloned_one : (was mid now : Kept) (x : ObjectFact) (name : List ℕ) → AddsObject was mid (clone_alone was.memory.next x name)
    → AddsRanges mid now (whole was.memory.next.medium x mid.memory.next.sequence ∷ []) 1 → AddsOnly was now (clone_led was.memory.next x name)
cloned_one was mid now x name first more =
    let n = was.memory.next in
    let middle : mid.memory.next ≡ record n { object = n.object + 1; medium = n.medium + 1; sequence = n.sequence + 1 } = first.derived.next ∙ next_with n (clone_alone n x name) refl in
    let led = subst (λ (m : NextNumbers). AddsOnly mid now (record { objects = []; ranges = whole n.medium x m.sequence ∷ []; next = record m { sequence = m.sequence + 1 } })) middle more in
    let all : ℕ → Derived = λ i. record {
      objects = clone_alone n x name ∷ [];
      ranges = whole n.medium x (n.sequence + 1) ∷ [];
      next = record n { object = n.object + 1; medium = n.medium + 1; sequence = i };
    } in
    subst (λ (i : ℕ). AddsOnly was now (all i)) (omega arith)
    (adds_then was mid now (record { objects = clone_alone n x name ∷ []; ranges = []; next = next_past_object n (clone_alone n x name) })
    (record { objects = []; ranges = whole n.medium x (n.sequence + 1) ∷ []; next = record n { object = n.object + 1; medium = n.medium + 1; sequence = n.sequence + 1 + 1 } }) first led)

pub cloned_snapshot : (was now : Kept) (x : ObjectFact) (name : List ℕ) → is_snapshot x.kind ≡ true → AddsOnly was now (clone_led was.memory.next x name) → AddsOnly was now (clone_of was.memory.next x name)
cloned_snapshot was now x name kind adds = in_then (is_snapshot x.kind) was now _ _ kind adds

pub cloned : (was mid now : Kept) (x : ObjectFact) (name : List ℕ) → is_snapshot x.kind ≡ false → AddsOnly was mid (frozen was.memory.next x)
    → AddsOnly mid now (clone_led mid.memory.next x name) → AddsOnly was now (clone_of was.memory.next x name)
cloned was mid now x name kind first more =
    let n = was.memory.next in
    let led = subst (λ (m : NextNumbers). AddsOnly mid now (clone_led m x name)) first.derived.next more in
    let all : ℕ → ℕ → ℕ → Derived = λ i j k. record {
      objects = moved x n.medium n.sequence ∷ derived n x Volume name (n.medium + 1) (n.sequence + 2) ∷ [];
      ranges = whole n.medium x (n.sequence + 1) ∷ whole (n.medium + 1) x i ∷ [];
      next = record n { object = n.object + 1; medium = j; sequence = k };
    } in
    in_else (is_snapshot x.kind) was now _ _ kind
    (subst (λ (i : ℕ). AddsOnly was now (all i (n.medium + 2) (n.sequence + 4))) (omega arith)
    (subst (λ (j : ℕ). AddsOnly was now (all (n.sequence + 2 + 1) j (n.sequence + 4))) (omega arith)
    (subst (λ (k : ℕ). AddsOnly was now (all (n.sequence + 2 + 1) (n.medium + 1 + 1) k)) (omega arith)
    (adds_then was mid now (frozen n x) (clone_led (next_past_freeze n) x name) first led))))

-- ---- a copy

abbrev pub copied_to : NextNumbers → ObjectFact → ℕ → ObjectFact → ℕ → ℕ → Derived
copied_to next x lba y to count = record {
  objects = moved y next.medium next.sequence ∷ [];
  ranges = around next.medium (next.sequence + 1) x lba y to count;
  next = record next { medium = next.medium + 1; sequence = next.sequence + (1 + ranges_beside y.sectors to count) };
}

pub copied_one : (was mid now : Kept) (x : ObjectFact) (lba : ℕ) (y : ObjectFact) (to count : ℕ)
    → AddsOnly was mid (record { objects = moved y was.memory.next.medium was.memory.next.sequence ∷ []; ranges = []; next = next_past_move was.memory.next })
    → AddsRanges mid now (around was.memory.next.medium mid.memory.next.sequence x lba y to count) (ranges_beside y.sectors to count) → AddsOnly was now (copied_to was.memory.next x lba y to count)
copied_one was mid now x lba y to count first more =
    let n = was.memory.next in
    let many = ranges_beside y.sectors to count in
    let led = subst (λ (m : NextNumbers). AddsOnly mid now (record { objects = []; ranges = around n.medium m.sequence x lba y to count; next = record m { sequence = m.sequence + many } })) first.derived.next more in
    let all : ℕ → Derived = λ i. record {
      objects = moved y n.medium n.sequence ∷ [];
      ranges = around n.medium (n.sequence + 1) x lba y to count;
      next = record n { medium = n.medium + 1; sequence = i };
    } in
    subst (λ (i : ℕ). AddsOnly was now (all i)) (add_assoc n.sequence 1 many)
    (adds_then was mid now (record { objects = moved y n.medium n.sequence ∷ []; ranges = []; next = next_past_move n })
    (record { objects = []; ranges = around n.medium (n.sequence + 1) x lba y to count; next = record n { medium = n.medium + 1; sequence = n.sequence + 1 + many } }) first led)

pub copied_alone : (was now : Kept) (x : ObjectFact) (lba : ℕ) (y : ObjectFact) (to count : ℕ) → moves_both x y ≡ false → AddsOnly was now (copied_to was.memory.next x lba y to count)
    → AddsOnly was now (copy_of was.memory.next x lba y to count)
copied_alone was now x lba y to count one adds = in_else (moves_both x y) was now _ _ one adds

pub copied_both : (was mid now : Kept) (x : ObjectFact) (lba : ℕ) (y : ObjectFact) (to count : ℕ) → moves_both x y ≡ true → AddsOnly was mid (frozen was.memory.next x)
    → AddsOnly mid now (copied_to mid.memory.next x lba y to count) → AddsOnly was now (copy_of was.memory.next x lba y to count)
copied_both was mid now x lba y to count both first more =
    let n = was.memory.next in
    let many = ranges_beside y.sectors to count in
    let copied = subst (λ (m : NextNumbers). AddsOnly mid now (copied_to m x lba y to count)) first.derived.next more in
    let all : ℕ → ℕ → ℕ → Derived = λ i j k. record {
      objects = moved x n.medium n.sequence ∷ moved y (n.medium + 1) (n.sequence + 2) ∷ [];
      ranges = whole n.medium x (n.sequence + 1) ∷ around (n.medium + 1) i x lba y to count;
      next = record n { medium = j; sequence = k };
    } in
    in_then (moves_both x y) was now _ _ both
    (subst (λ (i : ℕ). AddsOnly was now (all i (n.medium + 2) (n.sequence + (2 + (1 + many))))) (omega arith)
    (subst (λ (j : ℕ). AddsOnly was now (all (n.sequence + 2 + 1) j (n.sequence + (2 + (1 + many))))) (omega arith)
    (subst (λ (k : ℕ). AddsOnly was now (all (n.sequence + 2 + 1) (n.medium + 1 + 1) k)) (add_assoc n.sequence 2 (1 + many))
    (adds_then was mid now (frozen n x) (copied_to (next_past_freeze n) x lba y to count) first copied))))

-- whether both move
pub both_move : (a b : Bool) → a ≡ false → not b ≡ true → (not a && not b) ≡ true
both_move a b first second = rw (first, second) refl

pub one_moves : (a b : Bool) → not b ≡ false → (not a && not b) ≡ false
one_moves true b second = refl
one_moves false b second = rw second refl

pub snapshot_stays : (a b : Bool) → a ≡ true → (not a && not b) ≡ false
snapshot_stays a b first = rw first refl

-- a volume of another name is another object
pub other_id : (k : Kept) → IsKept k → (x y : ObjectFact) → Contains k.objects x → Contains k.objects y → not (bytes_eq x.name y.name) ≡ true → y.object.0 ≢ x.object.0
other_id k h x y c d names same = grind (arith, nat_tests, bytes_eq, true, bytes_eq-Decides, one_id, false, not)
