-- The first record is lawful, and it names all drives and no other.
use Rattle.shelf_init.proofs.Prelude.{◌≡◌, inl, inr, ℕ, zero, suc, ◌+◌, ◌-◌, ◌*◌, ◌^◌, ◌≤◌, ◌<◌, List, [], ◌∷◌, ◌++◌, length, refl, sym, ◌∙◌, arith, Bool, true, false, get_or, replicate, length-append, ext_get_or, cases_lt, length-replicate, get_or-replicate, get_or_past, get_or_append_left, get_or-append_right, Geometry, SLOTS_MIN, SLOTS_MAX, UNITS_MIN, UNITS_MAX, DRIVE_FLAGS, mask, set_count, B, IsRecordOf, IsInForce, counted, all_drives, first_record, IsMember}
use Rattle.std.proofs.Math.Nat.{pow-succ'}

mask_none : (m : ℕ) → mask (replicate m false) ≡ 0
mask_none zero = refl
mask_none (suc m) = let rest : mask (replicate m false) ≡ 0 = mask_none m in omega (arith, rest)

mask_all : (n m : ℕ) → mask (replicate n true ++ replicate m false) < 2 ^ n
mask_all zero m = let none : mask (replicate m false) ≡ 0 = mask_none m in omega (arith, none)
mask_all (suc n) m =
    let rest : mask (replicate n true ++ replicate m false) < 2 ^ n = mask_all n m in
    let twice : 2 ^ suc n ≡ 2 * 2 ^ n = pow-succ' 2 n in
    omega (arith, rest, twice)

count_none : (m : ℕ) → set_count (replicate m false) ≡ 0
count_none zero = refl
count_none (suc m) = let e : set_count (false ∷ replicate m false) ≡ 0 + set_count (replicate m false) = counted (λ (b : Bool). b) false (replicate m false) in let rest : set_count (replicate m false) ≡ 0 = count_none m in omega (arith, e, rest)

count_all : (n m : ℕ) → set_count (replicate n true ++ replicate m false) ≡ n
count_all zero m = count_none m
count_all (suc n) m =
    let e : set_count (true ∷ (replicate n true ++ replicate m false)) ≡ 1 + set_count (replicate n true ++ replicate m false) = counted (λ (b : Bool). b) true (replicate n true ++ replicate m false) in
    let rest : set_count (replicate n true ++ replicate m false) ≡ n = count_all n m in
    omega (arith, e, rest)

-- a slot of the shelf is named
pub is_named : (slots i : ℕ) → i < slots → IsMember (all_drives slots) i
is_named slots i lt =
    get_or_append_left (replicate slots true) (replicate (DRIVE_FLAGS - slots) false) false i (rw (length-replicate {A = Bool} slots true) lt)
    ∙ get_or-replicate {A = Bool} slots i true false lt

past : (k j : ℕ) → get_or (replicate k false) j false ≡ false
past k j = elim (cases_lt j k) [
  | inl lt ↦ get_or-replicate {A = Bool} k j false false lt
  | inr ge ↦ get_or_past (replicate k false) j false (rw (length-replicate {A = Bool} k false) ge)
]

-- no other is
pub unnamed : (slots i : ℕ) → slots ≤ i → get_or (all_drives slots) i false ≡ false
unnamed slots i ge =
    get_or-append_right (replicate slots true) (replicate (DRIVE_FLAGS - slots) false) slots i false (length-replicate {A = Bool} slots true) ge ∙ past (DRIVE_FLAGS - slots) (i - slots)

pub named_below : (slots i : ℕ) → IsMember (all_drives slots) i → i < slots
named_below slots i member = elim (cases_lt i slots) [
  | inl lt ↦ lt
  | inr ge ↦ absurd (cc (member, unnamed slots i ge))
]

pub all_flags : (slots : ℕ) → slots ≤ SLOTS_MAX → length (all_drives slots) ≡ DRIVE_FLAGS
all_flags slots most =
    let sum : length (all_drives slots) ≡ length (replicate slots true) + length (replicate (DRIVE_FLAGS - slots) false) = length-append (replicate slots true) (replicate (DRIVE_FLAGS - slots) false) in
    let first : length (replicate slots true) ≡ slots = length-replicate {A = Bool} slots true in
    let second : length (replicate (DRIVE_FLAGS - slots) false) ≡ DRIVE_FLAGS - slots = length-replicate {A = Bool} (DRIVE_FLAGS - slots) false in
    omega (arith, sum, first, second, most)

pub first_is_lawful : (shelf : Geometry) → (SLOTS_MIN ≤ shelf.slots) × (shelf.slots ≤ SLOTS_MAX) → (UNITS_MIN ≤ shelf.units) × (shelf.units ≤ UNITS_MAX) → IsRecordOf shelf (first_record shelf)
first_is_lawful shelf slots units = record {
  lawful = record {
    slots = slots;
    units = units;
    generation = (omega arith, omega arith);
    members = record {
      drive_flags = all_flags shelf.slots slots.1;
      within = mask_all shelf.slots (DRIVE_FLAGS - shelf.slots);
      drives = let count : set_count (all_drives shelf.slots) ≡ shelf.slots = count_all shelf.slots (DRIVE_FLAGS - shelf.slots) in omega (arith, count, slots.0);
      nvram_flags = refl;
      nvrams = let count : set_count (true ∷ true ∷ []) ≡ 2 = refl in omega (arith, count);
    };
    next = record {
      object = (omega arith, omega arith);
      medium = (omega arith, omega arith);
      segment = (omega arith, omega arith);
      patch_segment = (omega arith, omega arith);
      sequence = (omega arith, omega arith);
    };
    flushed = omega arith;
    patches = record { count = omega arith; each = tt; by_tag = tt; room = omega arith };
  };
  slots = refl;
  units = refl;
}

pub first_in_force : (shelf : Geometry) → IsInForce B (first_record shelf)
first_in_force shelf = record { in_its_slot = refl; not_spent = omega arith }

-- flags that are so one by one
pub drives_are : (slots : ℕ) (flags : List Bool) → slots ≤ SLOTS_MAX → length flags ≡ DRIVE_FLAGS → ((i : ℕ) → i < slots → get_or flags i false ≡ true) → ((i : ℕ) → slots ≤ i → get_or flags i false ≡ false)
    → flags ≡ all_drives slots
drives_are slots flags most size set unset = ext_get_or false flags (all_drives slots) (size ∙ sym (all_flags slots most)) (λ i lt. elim (cases_lt i slots) [
  | inl below ↦ set i below ∙ sym (is_named slots i below)
  | inr ge ↦ unset i ge ∙ sym (unnamed slots i ge)
])
