-- The units of a drive against its words.
use Rattle.unit_map.proofs.Prelude.{nat_tests, ℕ, zero, suc, Bool, true, false, cond, ◌≡◌, ◌≢◌, ◌==◌, ◌<◌, ◌≤◌, ◌+◌, ◌-◌, ◌*◌, ◌/◌, ◌%◌, ⊎_elim, List, [], ◌∷◌, ◌++◌, length, get_or, set, replicate, count_by, refl, sym, ap, ◌∙◌, arith, get_or-set_same, get_or-set_other, length-set, length-append, append_assoc, append-nil, cases_eq, cases_lt, same_lists, get_or_default, get_or_past, length-replicate, get_or-replicate, set_at, replicate_more, replicate-append-replicate, sum_by-cons, sum_by-set, count_by-le-length, bit_at-zero, BOOT_UNITS, fresh, IsLowestFree}
use Rattle.std.specs.Int.{bit_at}
use Rattle.std.proofs.lemmas.List.FromFn.{get_or-map-range_with_len, length-map-range_with_len}
use Rattle.unit_map.specs.Bits.{has_bit, IsBitChanged, IsLowestBit}
use Rattle.unit_map.specs.UnitFields.{unit_free, units_of, IsTidy}

-- ---- reading

pub length-units_of : (words : List ℕ) (units : ℕ) → length (units_of words units) ≡ units
length-units_of words units = length-map-range_with_len (unit_free words) 0 units

pub get_or-units_of : (words : List ℕ) (units unit : ℕ) → unit < units → get_or (units_of words units) unit false ≡ unit_free words unit
get_or-units_of words units unit within = get_or-map-range_with_len (unit_free words) 0 units unit unit false within (omega arith)

-- ---- one bit changed

pub changed-there : (words : List ℕ) (unit new value : ℕ) → length words ≡ 64 → unit < 4096 → IsBitChanged (get_or words (unit / 64) 0) new (unit % 64) value
    → unit_free (set words (unit / 64) new) unit ≡ (value == 1)
changed-there words unit new value size within h = grind (arith, nat_tests, set, get_or-set_same)

pub changed-elsewhere : (words : List ℕ) (unit new value k : ℕ) → length words ≡ 64 → unit < 4096 → k ≢ unit → IsBitChanged (get_or words (unit / 64) 0) new (unit % 64) value
    → unit_free (set words (unit / 64) new) k ≡ unit_free words k
changed-elsewhere words unit new value k size within apart h = grind (arith, nat_tests, set, get_or-set_same, get_or-set_other)

pub units_of-changed : (words : List ℕ) (units unit new value : ℕ) → length words ≡ 64 → units ≤ 4096 → unit < units → IsBitChanged (get_or words (unit / 64) 0) new (unit % 64) value
    → units_of (set words (unit / 64) new) units ≡ set (units_of words units) unit (value == 1)
units_of-changed words units unit new value size limit within h =
    let old = units_of words units in
    let now = units_of (set words (unit / 64) new) units in
    let lens : length now ≡ length (set old unit (value == 1)) = length-units_of (set words (unit / 64) new) units ∙ sym (length-set old unit (value == 1) ∙ length-units_of words units) in
    same_lists now (set old unit (value == 1)) lens (λ k d lt.
    let below : k < units = omega (arith, length-units_of (set words (unit / 64) new) units) in
    let lhs : get_or now k d ≡ unit_free (set words (unit / 64) new) k = get_or_default now k d false lt ∙ get_or-units_of (set words (unit / 64) new) units k below in
    let there : unit < length old = omega (arith, length-units_of words units) in
    ⊎_elim
    (λ (same : k ≡ unit).
    let rhs : get_or (set old unit (value == 1)) k d ≡ (value == 1) = ap (λ (i : ℕ). get_or (set old unit (value == 1)) i d) same ∙ get_or-set_same old unit (value == 1) d there in
    lhs ∙ ap (unit_free (set words (unit / 64) new)) same ∙ changed-there words unit new value size (omega arith) h ∙ sym rhs)
    (λ (other : k ≢ unit).
    let in' : k < length old = omega (arith, length-units_of words units) in
    let rhs : get_or (set old unit (value == 1)) k d ≡ unit_free words k = get_or-set_other old unit k (value == 1) d other ∙ get_or_default old k d false in' ∙ get_or-units_of words units k below in
    lhs ∙ changed-elsewhere words unit new value k size (omega arith) other h ∙ sym rhs)
    (cases_eq k unit))

-- ---- counts

pub count-inserted : (free : List Bool) (unit : ℕ) → unit < length free → get_or free unit false ≡ false → count_by (λ b. b) (set free unit true) ≡ count_by (λ b. b) free + 1
count-inserted free unit within absent = grind (arith, nat_tests, count_by, set, cond, sum_by-set)

pub count-removed : (free : List Bool) (unit : ℕ) → unit < length free → get_or free unit false ≡ true → count_by (λ b. b) (set free unit false) + 1 ≡ count_by (λ b. b) free
count-removed free unit within present = grind (arith, nat_tests, count_by, set, cond, sum_by-set)

pub count-none : (free : List Bool) → ((k : ℕ) → k < length free → get_or free k false ≡ false) → count_by (λ b. b) free ≡ 0
count-none [] used = refl
count-none (b ∷ free) used =
    let here : b ≡ false = used 0 (omega arith) in
    let rest : count_by (λ b. b) free ≡ 0 = count-none free (λ k lt. used (suc k) (omega arith)) in
    sum_by-cons (λ (b : Bool). cond b 1 0) b free ∙ ap (λ (x : Bool). cond x 1 0 + count_by (λ b. b) free) here ∙ omega (arith, rest)

-- ---- what tidy fields say

no_bit : (word at : ℕ) → bit_at word at ≡ 0 → has_bit word at ≡ false
no_bit word at h = rw h refl

yes_bit : (word at : ℕ) → bit_at word at ≡ 1 → has_bit word at ≡ true
yes_bit word at h = rw h refl

pub zero-used : (words : List ℕ) (unit : ℕ) → get_or words (unit / 64) 0 ≡ 0 → unit_free words unit ≡ false
zero-used words unit h = rw h (no_bit 0 (unit % 64) (bit_at-zero (unit % 64)))

pub free-filled : (units free filled : ℕ) (words : List ℕ) → IsTidy units free filled words → 0 < count_by (λ b. b) (units_of words units) → 0 < filled
free-filled units free filled words h some =
    ⊎_elim
    (λ (none : filled ≡ 0). absurd (
    let empty : (i : ℕ) → i < 64 → get_or words i 0 ≡ 0 = λ i lt.
    ⊎_elim
    (λ (z : get_or words i 0 ≡ 0). z)
    (λ (nz : get_or words i 0 ≢ 0). absurd (
    let one : bit_at filled i ≡ 1 = h.filled_all i lt (omega arith) in
    let nought : bit_at filled i ≡ 0 = ap (λ (n : ℕ). bit_at n i) none ∙ bit_at-zero i in omega arith))
    (cases_eq (get_or words i 0) 0) in
    let all : count_by (λ b. b) (units_of words units) ≡ 0 = count-none (units_of words units) (λ k lt.
    let below : k < units = omega (arith, length-units_of words units) in
    get_or-units_of words units k below ∙ zero-used words k (empty (k / 64) (omega (arith, h.limit)))) in
    omega arith))
    (λ (some : filled ≢ 0). omega arith)
    (cases_eq filled 0)

pub lowest-is : (units free filled : ℕ) (words : List ℕ) (word bit : ℕ) → IsTidy units free filled words → IsLowestBit filled word → IsLowestBit (get_or words word 0) bit → IsLowestFree (units_of words units) (word * 64 + bit)
lowest-is units free filled words word bit h at in' =
    let unit : ℕ = word * 64 + bit in
    let quotient : unit / 64 ≡ word = omega (arith, at.within, in'.within) in
    let rest : unit % 64 ≡ bit = omega (arith, at.within, in'.within) in
    let there : unit_free words unit ≡ true = rw (quotient, rest) (yes_bit (get_or words word 0) bit in'.set) in
    let below : unit < units =
    ⊎_elim
    (λ (lt : unit < units). lt)
    (λ (ge : units ≤ unit). absurd (
    let no : unit_free words unit ≡ false = h.past unit ge (omega (arith, at.within, in'.within)) in cc))
    (cases_lt unit units) in
    record {
      within = omega (arith, length-units_of words units);
      free_there = get_or-units_of words units unit below ∙ there;
      used_below = grind (arith, nat_tests, get_or-units_of, no_bit, zero-used, cases_eq);
    }

pub boot-not-lowest : (units free filled : ℕ) (words : List ℕ) (unit : ℕ) → IsTidy units free filled words → IsLowestFree (units_of words units) unit → BOOT_UNITS ≤ unit
boot-not-lowest units free filled words unit h at = grind (arith, nat_tests, length-units_of, get_or-units_of)

-- ---- no unit free

get_or-zeros : (n i : ℕ) → get_or {A = ℕ} (replicate n 0) i 0 ≡ 0
get_or-zeros zero i = refl
get_or-zeros (suc n) zero = refl
get_or-zeros (suc n) (suc i) = get_or-zeros n i

used-none : (words : List ℕ) (unit : ℕ) → words ≡ replicate 64 0 → unit_free words unit ≡ false
used-none words unit e = zero-used words unit (ap (λ (ws : List ℕ). get_or ws (unit / 64) 0) e ∙ get_or-zeros 64 (unit / 64))

pub units_of-none : (words : List ℕ) (units : ℕ) → words ≡ replicate 64 0 → units_of words units ≡ replicate units false
units_of-none words units e =
    same_lists (units_of words units) (replicate units false) (length-units_of words units ∙ sym (length-replicate units false)) (λ k d lt.
    let below : k < units = omega (arith, length-units_of words units) in
    get_or_default (units_of words units) k d false lt ∙ get_or-units_of words units k below ∙ used-none words k e ∙ sym (get_or-replicate units k false d below))

pub tidy-none : (words : List ℕ) (units : ℕ) → words ≡ replicate 64 0 → units ≤ 4096 → IsTidy units 0 0 words
tidy-none words units e limit = record {
  size = ap (λ (ws : List ℕ). length ws) e ∙ length-replicate {A = ℕ} 64 0;
  limit = limit;
  counted = sym (count-none (units_of words units) (λ k lt. get_or-units_of words units k (omega (arith, length-units_of words units)) ∙ used-none words k e));
  filled_only = λ i lt one. absurd (omega (arith, bit_at-zero i));
  filled_all = λ i lt some. absurd (
      let none : get_or words i 0 ≡ 0 = ap (λ (ws : List ℕ). get_or ws i 0) e ∙ get_or-zeros 64 i in omega arith);
  boot = λ unit lt. used-none words unit e;
  past = λ unit le lt. used-none words unit e;
}

-- ---- one unit made free

some_bit : (word at : ℕ) → bit_at word at ≡ 1 → 0 < word
some_bit word at one = grind (arith, nat_tests, bit_at-zero)

word-there : (words : List ℕ) (at new i : ℕ) → at < length words → i ≡ at → get_or (set words at new) i 0 ≡ new
word-there words at new i lt e = ap (λ (k : ℕ). get_or (set words at new) k 0) e ∙ get_or-set_same words at new 0 lt

pub tidy-inserted : (units free filled : ℕ) (words : List ℕ) (unit new filled' : ℕ) → IsTidy units free filled words → BOOT_UNITS ≤ unit → unit < units
    → get_or (units_of words units) unit false ≡ false → IsBitChanged (get_or words (unit / 64) 0) new (unit % 64) 1 → IsBitChanged filled filled' (unit / 64) 1
    → IsTidy units (free + 1) filled' (set words (unit / 64) new)
tidy-inserted units free filled words unit new filled' h boot within absent bit summary =
    let now = set words (unit / 64) new in
    let at : unit / 64 < length words = omega (arith, h.limit, h.size) in
    record {
      size = length-set words (unit / 64) new ∙ h.size;
      limit = h.limit;
      counted =
          let is : units_of now units ≡ set (units_of words units) unit true = units_of-changed words units unit new 1 h.size h.limit within bit in
          let more : count_by (λ b. b) (set (units_of words units) unit true) ≡ count_by (λ b. b) (units_of words units) + 1 = count-inserted (units_of words units) unit (omega (arith, length-units_of words units)) absent in
          ap (λ (n : ℕ). n + 1) h.counted ∙ sym (ap (λ (us : List Bool). count_by (λ b. b) us) is ∙ more);
      filled_only = grind (arith, nat_tests, word-there, some_bit, get_or-set_other, cases_eq);
      filled_all = grind (arith, nat_tests, get_or-set_other, cases_eq);
      boot = λ k lt. changed-elsewhere words unit new 1 k h.size (omega (arith, h.limit)) (omega arith) bit ∙ h.boot k lt;
      past = λ k le lt. changed-elsewhere words unit new 1 k h.size (omega (arith, h.limit)) (omega arith) bit ∙ h.past k le lt;
    }

-- ---- one unit made used

pub tidy-removed : (units free filled : ℕ) (words : List ℕ) (unit new filled' : ℕ) → IsTidy units free filled words → unit < units
    → get_or (units_of words units) unit false ≡ true → IsBitChanged (get_or words (unit / 64) 0) new (unit % 64) 0
    → (new ≡ 0 → IsBitChanged filled filled' (unit / 64) 0) → (0 < new → filled' ≡ filled)
    → IsTidy units (free - 1) filled' (set words (unit / 64) new)
tidy-removed units free filled words unit new filled' h within present bit emptied kept =
    let now = set words (unit / 64) new in
    let at : unit / 64 < length words = omega (arith, h.limit, h.size) in
    let was : unit_free words unit ≡ true = sym (get_or-units_of words units unit within) ∙ present in
    record {
      size = length-set words (unit / 64) new ∙ h.size;
      limit = h.limit;
      counted =
          let is : units_of now units ≡ set (units_of words units) unit false = units_of-changed words units unit new 0 h.size h.limit within bit in
          let less : count_by (λ b. b) (set (units_of words units) unit false) + 1 ≡ count_by (λ b. b) (units_of words units) = count-removed (units_of words units) unit (omega (arith, length-units_of words units)) present in
          let counts : count_by (λ b. b) (units_of now units) ≡ count_by (λ b. b) (set (units_of words units) unit false) = ap (λ (us : List Bool). count_by (λ b. b) us) is in
          omega (arith, h.counted);
      filled_only = grind (arith, nat_tests, get_or-set_other, cases_eq, word-there);
      filled_all = grind (arith, nat_tests, word-there, get_or-set_other, cases_eq);
      boot = grind (arith, nat_tests, changed-elsewhere, cases_eq);
      past = λ k le lt. changed-elsewhere words unit new 0 k h.size (omega (arith, h.limit)) (omega arith) bit ∙ h.past k le lt;
    }

-- ---- all units but the boot region's made free, one by one

pub fill-more : (a k m : ℕ) → set ((replicate a false ++ replicate k true) ++ replicate (suc m) false) (a + k) true ≡ (replicate a false ++ replicate (k + 1) true) ++ replicate m false
fill-more a k m =
    let front : List Bool = replicate a false ++ replicate k true in
    let lens : length front ≡ a + k = length-append (replicate a false) (replicate k true) ∙ omega (arith, length-replicate a false, length-replicate k true) in
    set_at front false (replicate m false) true (a + k) lens
    ∙ sym (append_assoc front (true ∷ []) (replicate m false))
    ∙ ap (λ (bs : List Bool). bs ++ replicate m false) (append_assoc (replicate a false) (replicate k true) (true ∷ []) ∙ ap (λ (bs : List Bool). replicate a false ++ bs) (replicate_more k true))

pub count-limit : (units free filled : ℕ) (words : List ℕ) → IsTidy units free filled words → free ≤ 4096
count-limit units free filled words h = omega (arith, h.counted, h.limit, count_by-le-length (λ b. b) (units_of words units), length-units_of words units)

-- the units once those up to one are made free
abbrev pub filling : ℕ → ℕ → List Bool
filling units unit = (replicate BOOT_UNITS false ++ replicate (unit - BOOT_UNITS) true) ++ replicate (units - unit) false

pub filling-start : (units : ℕ) → 3 ≤ units → replicate units false ≡ filling units 3
filling-start units low =
    ap (λ (n : ℕ). replicate n false) (let e : units ≡ 3 + (units - 3) = omega arith in e) ∙ sym (replicate-append-replicate 3 (units - 3) false)

is_filling : (all : List Bool) (units unit : ℕ) → 3 ≤ unit → unit < units → all ≡ filling units unit → all ≡ (replicate BOOT_UNITS false ++ replicate (unit - BOOT_UNITS) true) ++ replicate (suc (units - (unit + 1))) false
is_filling all units unit low high is =
    let left : units - unit ≡ suc (units - (unit + 1)) = omega arith in
    is ∙ ap (λ (n : ℕ). (replicate BOOT_UNITS false ++ replicate (unit - BOOT_UNITS) true) ++ replicate n false) left

pub filling-more : (all after : List Bool) (units unit : ℕ) → 3 ≤ unit → unit < units → all ≡ filling units unit → after ≡ set all unit true → after ≡ filling units (unit + 1)
filling-more all after units unit low high is step =
    let at : unit ≡ 3 + (unit - 3) = omega arith in
    let more : unit - 3 + 1 ≡ unit + 1 - 3 = omega arith in
    step ∙ ap (λ (us : List Bool). set us unit true) (is_filling all units unit low high is)
    ∙ ap (λ (k : ℕ). set ((replicate BOOT_UNITS false ++ replicate (unit - BOOT_UNITS) true) ++ replicate (suc (units - (unit + 1))) false) k true) at
    ∙ fill-more 3 (unit - 3) (units - (unit + 1))
    ∙ ap (λ (k : ℕ). (replicate BOOT_UNITS false ++ replicate k true) ++ replicate (units - (unit + 1)) false) more

pub filling-done : (units unit : ℕ) → unit ≡ units → filling units unit ≡ fresh units
filling-done units unit e = grind (arith, nat_tests, replicate, append-nil)

-- ---- reading any unit

pub past-used : (words : List ℕ) (units unit : ℕ) → units ≤ unit → get_or (units_of words units) unit false ≡ false
past-used words units unit le = get_or_past (units_of words units) unit false (omega (arith, length-units_of words units))

pub free-within : (words : List ℕ) (units unit : ℕ) → unit < units → unit < length (units_of words units)
free-within words units unit lt = omega (arith, length-units_of words units)
