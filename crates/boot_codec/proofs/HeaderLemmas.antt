-- The header: what is read is spelled so, and what is spelled so is read.
use Rattle.boot_codec.proofs.Prelude.{◌≡◌, ℕ, zero, suc, ◌+◌, ◌*◌, ◌/◌, ◌%◌, ◌^◌, ◌<◌, ◌≤◌, Bool, true, false, ◌&&◌, cond, eqb, leb, ltb, List, [], ◌∷◌, ◌++◌, length, codes, Ok, refl, sym, ap, subst, ◌∙◌, arith, pow-suc, pow_mono, eqb-true, ltb-true, leb-true, lt-ltb, le-leb, w16, w32, is_in_range, nat_tests, u8, u16, u32, u64, zeros, Members, NextNumbers, mask, set_count, AreNext, AreMembers, opening_bytes, members_bytes, next_bytes, Reading, then_read, give, number, format, slots_of, units_of, opening, flags, drives, nvrams, members, next_numbers}
use Rattle.boot_codec.proofs.FieldLemmas.{ok_is, both_true, eqb_same, Takes, Reads, step, at_start, told, wide16, wide32, number_reads, number_again, byte_reads, byte_again, these_reads, these_again, next_reads, next_again}

-- ---- the opening

format_reads : Reads format 4 (λ _. u32 1) (λ _. Unit {0})
unfolding format
format_reads = told (number_reads w32 (2 ^ 32) wide32 (λ n. eqb n 1) (λ n _ passes. eqb-true n 1 passes))

format_again : (rest : List ℕ) → format (u32 1 ++ rest) ≡ Ok (1, rest)
unfolding format
format_again rest = number_again w32 (2 ^ 32) wide32 (λ n. eqb n 1) 1 rest (omega arith) refl

-- the shelf's number, in its range
shelf_reads : (low high shelf : ℕ) → Reads (number w16 (λ n. eqb n shelf && is_in_range low high n)) 2 u16 (λ n. (n ≡ shelf) × ((low ≤ n) × (n ≤ high)))
shelf_reads low high shelf = number_reads w16 (2 ^ 16) wide16 (λ n. eqb n shelf && is_in_range low high n) (λ n _ passes.
    let p = both_true _ _ passes in
    let q = both_true _ _ p.1 in
    (eqb-true _ _ p.0, (leb-true _ _ q.0, leb-true _ _ q.1)))

shelf_again : (low high shelf : ℕ) (rest : List ℕ) → low ≤ shelf → shelf ≤ high → high < 2 ^ 16 → number w16 (λ n. eqb n shelf && is_in_range low high n) (u16 shelf ++ rest) ≡ Ok (shelf, rest)
shelf_again low high shelf rest a b c = number_again w16 (2 ^ 16) wide16 (λ n. eqb n shelf && is_in_range low high n) shelf rest (omega arith) (rw (eqb_same shelf, le-leb low shelf a, le-leb shelf high b) refl)

-- what the opening says of the shelf
pub record IsShelf (slots units : ℕ) : Type 0 where
  pub slots_fit : (11 ≤ slots) × (slots ≤ 24)
  pub units_fit : (64 ≤ units) × (units ≤ 4096)

pub opening_reads : (slots units : ℕ) → Reads (opening slots units) 16 (λ _. opening_bytes slots units) (λ _. IsShelf slots units)
unfolding opening opening_bytes slots_of units_of
opening_reads slots units = record {
  take = λ bytes x fits long e.
      let a = step (these_reads (codes "PURARRAY")) (at_start fits) (omega arith) e in
      let b = step format_reads a.takes (omega arith) a.after in
      let c = step (shelf_reads 11 24 slots) b.takes (omega arith) b.after in
      let d = step (shelf_reads 64 4096 units) c.takes (omega arith) c.after in
      let text = codes "PURARRAY" ++ u32 1 in
      let takes = subst (λ (n : ℕ). Takes bytes (text ++ u16 n ++ u16 units) d.rest) c.holds.0 (subst (λ (n : ℕ). Takes bytes (text ++ u16 c.value ++ u16 n) d.rest) d.holds.0 d.takes) in
      let shelf : IsShelf slots units = record { slots_fit = subst (λ (n : ℕ). (11 ≤ n) × (n ≤ 24)) c.holds.0 c.holds.1; units_fit = subst (λ (n : ℕ). (64 ≤ n) × (n ≤ 4096)) d.holds.0 d.holds.1 } in
      (subst (λ (y : Unit {0} × List ℕ). Takes bytes (text ++ u16 slots ++ u16 units) y.1) (ok_is (tt, d.rest) x d.after) takes, shelf);
}

slots_again : (slots : ℕ) (rest : List ℕ) → 11 ≤ slots → slots ≤ 24 → slots_of slots (u16 slots ++ rest) ≡ Ok (slots, rest)
unfolding slots_of
slots_again slots rest a b = shelf_again 11 24 slots rest a b (omega arith)

units_again : (units : ℕ) (rest : List ℕ) → 64 ≤ units → units ≤ 4096 → units_of units (u16 units ++ rest) ≡ Ok (units, rest)
unfolding units_of
units_again units rest a b = shelf_again 64 4096 units rest a b (omega arith)

pub opening_again : (slots units : ℕ) (rest : List ℕ) → IsShelf slots units → opening slots units (opening_bytes slots units ++ rest) ≡ Ok (tt, rest)
unfolding opening opening_bytes
opening_again slots units rest h =
    rw (these_again (codes "PURARRAY") (u32 1 ++ (u16 slots ++ (u16 units ++ rest))), format_again (u16 slots ++ (u16 units ++ rest)), slots_again slots (u16 units ++ rest) h.slots_fit.0 h.slots_fit.1, units_again units rest h.units_fit.0 h.units_fit.1) refl

-- ---- flags

length-flags : (k n : ℕ) → length (flags k n) ≡ k
length-flags zero n = refl
length-flags (suc k) n = ap suc (length-flags k (n / 2))

mask-flags : (k n : ℕ) → n < 2 ^ k → mask (flags k n) ≡ n
mask-flags zero n h = omega arith
mask-flags (suc k) n h =
    let double : 2 ^ suc k ≡ 2 * 2 ^ k = omega (arith, pow-suc 2 k) in
    let rest : mask (flags k (n / 2)) ≡ n / 2 = mask-flags k (n / 2) (omega arith) in
    let bit : cond (eqb (n % 2) 1) 1 0 ≡ n % 2 = grind (arith, nat_tests) in
    rw (rest, bit) (omega arith)

flags-mask : (bs : List Bool) → flags (length bs) (mask bs) ≡ bs
flags-mask [] = refl
flags-mask (true ∷ bs) =
    let bit : eqb ((1 + 2 * mask bs) % 2) 1 ≡ true = grind (arith, nat_tests) in
    let half : (1 + 2 * mask bs) / 2 ≡ mask bs = omega arith in
    rw (bit, half) (ap (λ (x : List Bool). true ∷ x) (flags-mask bs))
flags-mask (false ∷ bs) =
    let bit : eqb ((0 + 2 * mask bs) % 2) 1 ≡ false = grind (arith, nat_tests) in
    let half : (0 + 2 * mask bs) / 2 ≡ mask bs = omega arith in
    rw (bit, half) (ap (λ (x : List Bool). false ∷ x) (flags-mask bs))

flags_back : (k : ℕ) (bs : List Bool) → length bs ≡ k → flags k (mask bs) ≡ bs
flags_back k bs len = rw (← len) (flags-mask bs)

-- so many flags, none of them past a limit and at least some of them set
pub record AreFlags (k bits least : ℕ) (bs : List Bool) : Type 0 where
  pub len : length bs ≡ k
  pub within : mask bs < 2 ^ bits
  pub some : least ≤ set_count bs

-- the flags of a number that passed
flags_are : (k bits least n : ℕ) → bits ≤ k → (ltb n (2 ^ bits) && leb least (set_count (flags k n))) ≡ true → (mask (flags k n) ≡ n) × AreFlags k bits least (flags k n)
flags_are k bits least n le e = grind (arith, nat_tests, both_true, ltb-true, pow_mono, mask-flags, length-flags, leb-true)

flags_pass : (k bits least : ℕ) (bs : List Bool) → AreFlags k bits least bs → (ltb (mask bs) (2 ^ bits) && leb least (set_count (flags k (mask bs)))) ≡ true
flags_pass k bits least bs h = rw (flags_back k bs h.len, lt-ltb (mask bs) (2 ^ bits) h.within, le-leb least (set_count bs) h.some) refl

drives_reads : (slots : ℕ) → slots ≤ 24 → Reads (drives slots) 4 (λ bs. u32 (mask bs)) (AreFlags 24 slots 9)
unfolding drives
drives_reads slots le = record {
  take = λ bytes x fits long e.
      let test : ℕ → Bool = λ n. ltb n (2 ^ slots) && leb 9 (set_count (flags 24 n)) in
      let a = step (number_reads w32 (2 ^ 32) wide32 test (λ n _ passes. flags_are 24 slots 9 n le passes)) (at_start fits) long e in
      let text = subst (λ (n : ℕ). Takes bytes (u32 n) a.rest) (sym a.holds.0) a.takes in
      subst (λ (y : List Bool × List ℕ). Takes bytes (u32 (mask y.0)) y.1 × AreFlags 24 slots 9 y.0) (ok_is (flags 24 a.value, a.rest) x a.after) (text, a.holds.1);
}

drives_again : (slots : ℕ) (bs : List Bool) (rest : List ℕ) → slots ≤ 24 → AreFlags 24 slots 9 bs → drives slots (u32 (mask bs) ++ rest) ≡ Ok (bs, rest)
unfolding drives
drives_again slots bs rest le h =
    let test : ℕ → Bool = λ n. ltb n (2 ^ slots) && leb 9 (set_count (flags 24 n)) in
    let f : ℕ → Reading (List Bool) = λ n. give (flags 24 n) in
    let more : 2 ^ slots ≤ 2 ^ 24 = pow_mono le in
    let within = h.within in
    ap (then_read f) (number_again w32 (2 ^ 32) wide32 test (mask bs) rest (omega arith) (flags_pass 24 slots 9 bs h)) ∙ ap (λ (fs : List Bool). Ok (fs, rest)) (flags_back 24 bs h.len)

nvrams_reads : Reads nvrams 1 (λ bs. u8 (mask bs)) (AreFlags 2 2 1)
unfolding nvrams
nvrams_reads = record {
  take = λ bytes x fits long e.
      let test : ℕ → Bool = λ n. ltb n (2 ^ 2) && leb 1 (set_count (flags 2 n)) in
      let a = step (byte_reads test (λ n passes. flags_are 2 2 1 n (omega arith) passes)) (at_start fits) long e in
      let text = subst (λ (n : ℕ). Takes bytes (u8 n) a.rest) (sym a.holds.0) a.takes in
      subst (λ (y : List Bool × List ℕ). Takes bytes (u8 (mask y.0)) y.1 × AreFlags 2 2 1 y.0) (ok_is (flags 2 a.value, a.rest) x a.after) (text, a.holds.1);
}

nvrams_again : (bs : List Bool) (rest : List ℕ) → AreFlags 2 2 1 bs → nvrams (u8 (mask bs) ++ rest) ≡ Ok (bs, rest)
unfolding nvrams
nvrams_again bs rest h =
    let test : ℕ → Bool = λ n. ltb n (2 ^ 2) && leb 1 (set_count (flags 2 n)) in
    let f : ℕ → Reading (List Bool) = λ n. give (flags 2 n) in
    ap (then_read f) (byte_again test (mask bs) rest (flags_pass 2 2 1 bs h)) ∙ ap (λ (fs : List Bool). Ok (fs, rest)) (flags_back 2 bs h.len)

pub members_reads : (slots : ℕ) → slots ≤ 24 → Reads (members slots) 8 members_bytes (AreMembers slots)
unfolding members members_bytes
members_reads slots le = record {
  take = λ bytes x fits long e.
      let a = step (drives_reads slots le) (at_start fits) (omega arith) e in
      let b = step nvrams_reads a.takes (omega arith) a.after in
      let c = step (these_reads (zeros 3)) b.takes (omega arith) b.after in
      let made : Members = record { drives = a.value; nvrams = b.value } in
      let lawful : AreMembers slots made = record { drive_flags = a.holds.len; within = a.holds.within; drives = a.holds.some; nvram_flags = b.holds.len; nvrams = b.holds.some } in
      subst (λ (y : Members × List ℕ). Takes bytes (members_bytes y.0) y.1 × AreMembers slots y.0) (ok_is (made, c.rest) x c.after) (c.takes, lawful);
}

-- two flags and no more say that the mask is below 2 ^ 2
mask-two : (bs : List Bool) → length bs ≡ 2 → mask bs < 4
mask-two [] len = absurd (omega arith)
mask-two (a ∷ []) len = absurd (omega arith)
mask-two (true ∷ true ∷ []) len = omega arith
mask-two (true ∷ false ∷ []) len = omega arith
mask-two (false ∷ true ∷ []) len = omega arith
mask-two (false ∷ false ∷ []) len = omega arith
mask-two (a ∷ b ∷ c ∷ rest) len = absurd (omega arith)

pub members_again : (slots : ℕ) (m : Members) (rest : List ℕ) → slots ≤ 24 → AreMembers slots m → members slots (members_bytes m ++ rest) ≡ Ok (m, rest)
unfolding members members_bytes
members_again slots m rest le h =
    rw (
      drives_again slots m.drives (u8 (mask m.nvrams) ++ (zeros 3 ++ rest)) le (record { len = h.drive_flags; within = h.within; some = h.drives }),
      nvrams_again m.nvrams (zeros 3 ++ rest) (record { len = h.nvram_flags; within = mask-two m.nvrams h.nvram_flags; some = h.nvrams }),
      these_again (zeros 3) rest,
    ) refl

-- ---- the next numbers

pub next_numbers_reads : Reads next_numbers 40 next_bytes AreNext
unfolding next_numbers next_bytes
next_numbers_reads = record {
  take = λ bytes x fits long e.
      let a = step next_reads (at_start fits) (omega arith) e in
      let b = step next_reads a.takes (omega arith) a.after in
      let c = step next_reads b.takes (omega arith) b.after in
      let d = step next_reads c.takes (omega arith) c.after in
      let f = step next_reads d.takes (omega arith) d.after in
      let made : NextNumbers = record { object = a.value; medium = b.value; segment = c.value; patch_segment = d.value; sequence = f.value } in
      let lawful : AreNext made = record { object = a.holds; medium = b.holds; segment = c.holds; patch_segment = d.holds; sequence = f.holds } in
      subst (λ (y : NextNumbers × List ℕ). Takes bytes (next_bytes y.0) y.1 × AreNext y.0) (ok_is (made, f.rest) x f.after) (f.takes, lawful);
}

pub next_numbers_again : (n : NextNumbers) (rest : List ℕ) → AreNext n → next_numbers (next_bytes n ++ rest) ≡ Ok (n, rest)
unfolding next_numbers next_bytes
next_numbers_again n rest h =
    rw (
      next_again n.object (u64 n.medium ++ (u64 n.segment ++ (u64 n.patch_segment ++ (u64 n.sequence ++ rest)))) h.object,
      next_again n.medium (u64 n.segment ++ (u64 n.patch_segment ++ (u64 n.sequence ++ rest))) h.medium,
      next_again n.segment (u64 n.patch_segment ++ (u64 n.sequence ++ rest)) h.segment,
      next_again n.patch_segment (u64 n.sequence ++ rest) h.patch_segment,
      next_again n.sequence rest h.sequence,
    ) refl
