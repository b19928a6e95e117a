-- What a map of a record and its tables tells.
use Rattle.free_space.proofs.Prelude.{ℕ, zero, suc, Bool, true, false, not, cond, leb, ltb, ◌&&◌, ◌||◌, ◌≡◌, ◌<◌, ◌≤◌, ◌+◌, ◌-◌, ◌*◌, min, List, [], ◌∷◌, ◌++◌, length, get_or, map, filter, count_by, All, AllPairs, Contains, refl, sym, ap, ◌∙◌, subst, arith, inl, inr, leb-true, ltb-true, AllByRecursion, list_any, range_with_len, cases_Bool, and_parts, or_parts, not-true, sum_by-cons, list_any-append, Facts, Place, AscendFrom, BootRecord, is_place, is_used, free_units, free_of_members, units_for, Drive, drive_at, is_free, free_count, share, total_at, with_units, IsTaken, IsMapWith, IsMapOf, IsMapBut, unit_at, is_data_unit, is_member, used_or_among}
use Rattle.boot_codec.specs.Record as record_of
use Rattle.array_spec.specs.Counts as counts
use Rattle.free_space.specs.Laws.{FreeInTheTables, GroupsOfTheTables, TakenUnitsAreFree, TakenUnitsAreUsed}
use Rattle.free_space.proofs.Units.{pairs_head, pairs_tail, marked_all, same_used, data_unit_true, or_assoc3}

-- ---- free units

data_unit_is : (units unit : ℕ) → is_data_unit units unit ≡ true → (3 ≤ unit) × (unit < units)
data_unit_is units unit e = let parts = and_parts (leb 3 unit) (ltb unit units) e in (leb-true 3 unit parts.0, ltb-true unit units parts.1)

-- what a free unit of a map is
free_tells : (slots units : ℕ) (member : ℕ → Bool) (used : ℕ → ℕ → Bool) (drives : List Drive) (slot unit : ℕ) → IsMapWith slots units member used drives → slot < slots
    → is_free drives (unit_at slot unit) ≡ true → (3 ≤ unit) × (unit < units) × (used slot unit ≡ false)
free_tells slots units member used drives slot unit h lt free =
    let both = and_parts (is_data_unit units unit) (not (used slot unit)) (sym (h.free slot unit lt) ∙ free) in
    let bounds = data_unit_is units unit both.0 in
    (bounds.0, bounds.1, not-true (used slot unit) both.1)

pub free_in_the_tables : FreeInTheTables
free_in_the_tables boot facts drives slot unit h lt = (
  λ free. (let tells = free_tells boot.slots boot.units (is_member boot) (is_used boot facts) drives slot unit h lt free in record { data_unit = tells.0; there = tells.1; unused = tells.2 }),
  λ is. (let holds : (is_data_unit boot.units unit && not (is_used boot facts slot unit)) ≡ true = rw (data_unit_true boot.units unit is.data_unit is.there, is.unused) refl in h.free slot unit lt ∙ holds),
)

-- ---- counts

count_is : (g : ℕ → Bool) (a : ℕ) (xs : List Bool) → ((i : ℕ) → i < length xs → get_or xs i false ≡ g (a + i)) → count_by (λ b. b) xs ≡ count_by g (range_with_len a (length xs))
count_is g a [] h = refl
count_is g a (x ∷ xs) h =
    let first : x ≡ g a = h 0 (omega arith) ∙ ap g (let e : a + 0 ≡ a = omega arith in e) in
    let rest : count_by (λ b. b) xs ≡ count_by g (range_with_len (a + 1) (length xs)) = count_is g (a + 1) xs (λ i lt. h (suc i) (omega (arith, lt)) ∙ ap g (let e : a + suc i ≡ a + 1 + i = omega arith in e)) in
    let left : count_by (λ b. b) (x ∷ xs) ≡ cond x 1 0 + count_by (λ b. b) xs = sum_by-cons (λ (b : Bool). cond b 1 0) x xs in
    let right : count_by g (range_with_len a (suc (length xs))) ≡ cond (g a) 1 0 + count_by g (range_with_len (a + 1) (length xs)) = sum_by-cons (λ (n : ℕ). cond (g n) 1 0) a (range_with_len (a + 1) (length xs)) in
    left ∙ ap (λ (b : Bool). cond b 1 0 + count_by (λ (y : Bool). y) xs) first ∙ ap (λ (n : ℕ). cond (g a) 1 0 + n) rest ∙ sym right

count_same : (g h : ℕ → Bool) (a n : ℕ) → ((k : ℕ) → a ≤ k → k < a + n → g k ≡ h k) → count_by g (range_with_len a n) ≡ count_by h (range_with_len a n)
count_same g h a zero e = refl
count_same g h a (suc n) e =
    let rest : count_by g (range_with_len (a + 1) n) ≡ count_by h (range_with_len (a + 1) n) = count_same g h (a + 1) n (λ k low high. e k (omega (arith, low)) (omega (arith, high))) in
    let left : count_by g (range_with_len a (suc n)) ≡ cond (g a) 1 0 + count_by g (range_with_len (a + 1) n) = sum_by-cons (λ (m : ℕ). cond (g m) 1 0) a (range_with_len (a + 1) n) in
    let right : count_by h (range_with_len a (suc n)) ≡ cond (h a) 1 0 + count_by h (range_with_len (a + 1) n) = sum_by-cons (λ (m : ℕ). cond (h m) 1 0) a (range_with_len (a + 1) n) in
    left ∙ ap (λ (b : Bool). cond b 1 0 + count_by g (range_with_len (a + 1) n)) (e a (omega arith) (omega arith)) ∙ ap (λ (m : ℕ). cond (h a) 1 0 + m) rest ∙ sym right

skip : (g : ℕ → Bool) (a n : ℕ) → g a ≡ false → count_by g (range_with_len a (suc n)) ≡ count_by g (range_with_len (a + 1) n)
skip g a n e =
    let parts : count_by g (range_with_len a (suc n)) ≡ cond (g a) 1 0 + count_by g (range_with_len (a + 1) n) = sum_by-cons (λ (m : ℕ). cond (g m) 1 0) a (range_with_len (a + 1) n) in
    let none : 0 + count_by g (range_with_len (a + 1) n) ≡ count_by g (range_with_len (a + 1) n) = omega arith in
    parts ∙ ap (λ (b : Bool). cond b 1 0 + count_by g (range_with_len (a + 1) n)) e ∙ none

count_behind : (g : ℕ → Bool) (units : ℕ) → g 0 ≡ false → g 1 ≡ false → g 2 ≡ false → count_by g (range_with_len 0 units) ≡ count_by g (range_with_len 3 (units - 3))
count_behind g zero e f h = refl
count_behind g (suc zero) e f h = skip g 0 0 e
count_behind g (suc (suc zero)) e f h = skip g 0 1 e ∙ skip g 1 0 f
count_behind g (suc (suc (suc n))) e f h =
    let less : suc (suc (suc n)) - 3 ≡ n = omega arith in
    skip g 0 (suc (suc n)) e ∙ skip g 1 (suc n) f ∙ skip g 2 n h ∙ ap (λ (m : ℕ). count_by g (range_with_len 3 m)) (sym less)

-- whether the map has that unit free
abbrev is_free_unit : BootRecord → Facts → ℕ → ℕ → Bool
is_free_unit boot facts slot unit = is_data_unit boot.units unit && not (is_used boot facts slot unit)

free_behind : (boot : BootRecord) (facts : Facts) (slot unit : ℕ) → 3 ≤ unit → unit < boot.units → is_free_unit boot facts slot unit ≡ not (is_used boot facts slot unit)
free_behind boot facts slot unit low high = ap (λ (b : Bool). b && not (is_used boot facts slot unit)) (data_unit_true boot.units unit low high)

pub free_count_is : (boot : BootRecord) (facts : Facts) (member : ℕ → Bool) (drives : List Drive) (slot : ℕ) → IsMapWith boot.slots boot.units member (is_used boot facts) drives → slot < boot.slots
    → free_count (drive_at drives slot) ≡ free_units boot facts slot
free_count_is boot facts member drives slot h lt =
    count_is (is_free_unit boot facts slot) 0 (drive_at drives slot).free (λ i within. h.free slot i lt ∙ ap (is_free_unit boot facts slot) (let e : i ≡ 0 + i = omega arith in e))
    ∙ ap (λ (n : ℕ). count_by (is_free_unit boot facts slot) (range_with_len 0 n)) (h.sizes slot lt)
    ∙ count_behind (is_free_unit boot facts slot) boot.units refl refl refl
    ∙ count_same (is_free_unit boot facts slot) (λ unit. not (is_used boot facts slot unit)) 3 (boot.units - 3) (λ k low high. free_behind boot facts slot k low (omega (arith, high)))

-- ---- groups

share_is : (groups : ℕ) (test : ℕ → Bool) (counted : ℕ → ℕ) (a : ℕ) (slots : List ℕ) (drive : Drive) (drives : List Drive) → drive.member ≡ test a → free_count drive ≡ counted a
    → total_at drives groups ≡ units_for groups (map counted (filter test slots)) → total_at (drive ∷ drives) groups ≡ units_for groups (map counted (filter test (a ∷ slots)))
share_is groups test counted a slots drive drives is count rest =
    elim (cases_Bool (test a)) [
      | inl passes ↦
          let chosen : filter test (a ∷ slots) ≡ a ∷ filter test slots = ap (λ (b : Bool). cond b (a ∷ filter test slots) (filter test slots)) passes in
          let mine : share groups drive ≡ min groups (counted a) = ap (λ (b : Bool). cond b (min groups (free_count drive)) 0) (is ∙ passes) ∙ ap (min groups) count in
          sum_by-cons (share groups) drive drives
          ∙ ap (λ (n : ℕ). n + total_at drives groups) mine
          ∙ ap (λ (n : ℕ). min groups (counted a) + n) rest
          ∙ sym (sum_by-cons (min groups) (counted a) (map counted (filter test slots)))
          ∙ ap (λ (l : List ℕ). units_for groups (map counted l)) (sym chosen)
      | inr fails ↦
          let chosen : filter test (a ∷ slots) ≡ filter test slots = ap (λ (b : Bool). cond b (a ∷ filter test slots) (filter test slots)) fails in
          let mine : share groups drive ≡ 0 = ap (λ (b : Bool). cond b (min groups (free_count drive)) 0) (is ∙ fails) in
          let none : 0 + total_at drives groups ≡ total_at drives groups = omega arith in
          sum_by-cons (share groups) drive drives
          ∙ ap (λ (n : ℕ). n + total_at drives groups) mine
          ∙ none
          ∙ rest
          ∙ ap (λ (l : List ℕ). units_for groups (map counted l)) (sym chosen)
    ]

total_is : (groups : ℕ) (test : ℕ → Bool) (counted : ℕ → ℕ) (a : ℕ) (drives : List Drive)
    → ((i : ℕ) → i < length drives → ((drive_at drives i).member ≡ test (a + i)) × (free_count (drive_at drives i) ≡ counted (a + i)))
    → total_at drives groups ≡ units_for groups (map counted (filter test (range_with_len a (length drives))))
total_is groups test counted a [] h = refl
total_is groups test counted a (drive ∷ drives) h =
    let first = h 0 (omega arith) in
    let at : a + 0 ≡ a = omega arith in
    share_is groups test counted a (range_with_len (a + 1) (length drives)) drive drives (first.0 ∙ ap test at) (first.1 ∙ ap counted at)
    (total_is groups test counted (a + 1) drives (λ i lt.
    let next = h (suc i) (omega (arith, lt)) in
    let e : a + suc i ≡ a + 1 + i = omega arith in
    (next.0 ∙ ap test e, next.1 ∙ ap counted e)))

totals : (boot : BootRecord) (facts : Facts) (drives : List Drive) (groups : ℕ) → IsMapOf boot facts drives → total_at drives groups ≡ units_for groups (free_of_members boot facts)
totals boot facts drives groups h =
    total_is groups (is_member boot) (free_units boot facts) 0 drives (λ i lt.
    let within : i < boot.slots = omega (arith, lt, h.drive_of_each_slot) in
    let e : i ≡ 0 + i = omega arith in
    (h.members i within ∙ ap (is_member boot) e, free_count_is boot facts (is_member boot) drives i h within ∙ ap (free_units boot facts) e))
    ∙ ap (λ (n : ℕ). units_for groups (map (free_units boot facts) (filter (is_member boot) (range_with_len 0 n)))) h.drive_of_each_slot

pub groups_of_the_tables : GroupsOfTheTables
groups_of_the_tables boot facts drives groups h = (
  λ is. record {
    enough = subst (λ (n : ℕ). 9 * groups ≤ n) (totals boot facts drives groups h) is.enough;
    greatest = λ more enough. is.greatest more (subst (λ (n : ℕ). 9 * more ≤ n) (sym (totals boot facts drives more h)) enough);
  },
  λ is. record {
    enough = subst (λ (n : ℕ). 9 * groups ≤ n) (sym (totals boot facts drives groups h)) is.enough;
    greatest = λ more enough. is.greatest more (subst (λ (n : ℕ). 9 * more ≤ n) (totals boot facts drives more h) enough);
  },
)

-- ---- units that are taken

each_by_recursion : {X : Type 0} (P : X → Type 0) (xs : List X) → All P xs → AllByRecursion P xs
each_by_recursion P [] h = tt
each_by_recursion P (x ∷ xs) h = (h 0 x (omega arith), each_by_recursion P xs (λ k d lt. h (suc k) d (omega (arith, lt))))

ascend : (slots units least : ℕ) (ps : List Place) → AllPairs (λ a b. a.slot < b.slot) ps → AllByRecursion (record_of.IsPlace slots units) ps → ((q : Place) → Contains ps q → least ≤ q.slot) → AscendFrom slots units least ps
ascend slots units least [] pairs all low = tt
ascend slots units least (p ∷ ps) pairs all low = (
  low p (0, omega arith, refl),
  all.0,
  ascend slots units (p.slot + 1) ps (pairs_tail (λ (a b : Place). a.slot < b.slot) p ps pairs) all.1
      (λ q c. let lt : p.slot < q.slot = pairs_head (λ (a b : Place). a.slot < b.slot) p ps pairs q c in omega (arith, lt)),
)

taken_places : (boot : BootRecord) (facts : Facts) (others : List Place) (drives : List Drive) (places : List Place) → IsMapBut boot facts others drives → IsTaken drives places → All (record_of.IsPlace boot.slots boot.units) places
taken_places boot facts others drives places h is = λ k d lt.
    let at = is.within k d lt in
    let slot : (get_or places k d).slot < boot.slots = omega (arith, at.slot, h.drive_of_each_slot) in
    record { slot = slot; data_unit = at.boot; unit = omega (arith, at.unit, h.sizes (get_or places k d).slot slot) }

pub taken_units_are_free : TakenUnitsAreFree
taken_units_are_free boot facts others drives places nine h is =
    let places_are = taken_places boot facts others drives places h is in
    record {
      lawful = record { nine = nine; ascending = ascend boot.slots boot.units 0 places is.ascending (each_by_recursion (record_of.IsPlace boot.slots boot.units) places places_are) (λ q c. omega arith) };
      free = each_by_recursion (λ p. counts.IsFree boot facts p.slot p.unit) places (λ k d lt.
          let p = get_or places k d in
          let tells = free_tells boot.slots boot.units (is_member boot) (used_or_among (is_used boot facts) others) drives p.slot p.unit h (places_are k d lt).slot (is.lowest k d lt).free_there in
          record { data_unit = tells.0; there = tells.1; unused = (or_parts (is_used boot facts p.slot p.unit) (list_any (is_place p.slot p.unit) others) tells.2).0 });
      members = each_by_recursion (λ p. is_member boot p.slot ≡ true) places (λ k d lt. sym (h.members (get_or places k d).slot (places_are k d lt).slot) ∙ is.members k d lt);
    }

pub taken_units_are_used : TakenUnitsAreUsed
taken_units_are_used boot facts others drives places h is =
    same_used boot.slots boot.units (is_member boot) (used_or_among (used_or_among (is_used boot facts) others) places) (used_or_among (is_used boot facts) (others ++ places)) (with_units false drives places)
    (λ slot unit. or_assoc3 (is_used boot facts slot unit) (list_any (is_place slot unit) others) (list_any (is_place slot unit) places)
    ∙ ap (λ b. is_used boot facts slot unit || b) (sym (list_any-append (is_place slot unit) others places)))
    (marked_all boot.slots boot.units (is_member boot) (used_or_among (is_used boot facts) others) drives places h (each_by_recursion (record_of.IsPlace boot.slots boot.units) places (taken_places boot facts others drives places h is)))
