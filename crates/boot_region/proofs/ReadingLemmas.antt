-- What a region that is read leaves of the others.
use Rattle.boot_region.proofs.Prelude.{nat_tests, ◌≡◌, ◌≢◌, ◌⊎◌, inl, inr, ℕ, ◌+◌, ◌-◌, ◌*◌, ◌<◌, ◌≤◌, List, ◌++◌, length, take, drop, refl, sym, ap, subst, ◌∙◌, arith, Bool, true, false, Result, Ok, Err, is_ok, OnOk, Some, None, slice_set, slice_range, slice_index_or, if◌then◌else◌, length-append, length-take, length-drop, get_or-set_same, get_or-set_other, cases_order, drop-take, bytes_at, Device, drive, REGION_BYTES, region_at, IsRead, AnswerCounts, Only, Counts, Disk, Shelved, ReadCounts, IsDrive, Failed}
use Rattle.std.proofs.Math.Seq.{take-append_seam}
use Rattle.std.proofs.lemmas.Slice.{take-put_mid_below, drop-put_mid, between-put_mid}
use borrow.Rule.Slice.PartMut.{put_mid}

-- as long as it was
put_length : (at k : ℕ) (xs ys : List ℕ) → at + k ≤ length xs → length ys ≡ k → length (put_mid at k xs ys) ≡ length xs
put_length at k xs ys fits size = grind (arith, nat_tests, length-append, length-take, length-drop)

-- what a vector holds, once a part of it was written
pub part_written : (items was : List ℕ) (len at k : ℕ) (ys : List ℕ) → was ≡ items → len ≡ length items → at + k ≤ length items → length ys ≡ k
    → take len (put_mid at k was ys ++ drop (length (put_mid at k was ys)) items) ≡ put_mid at k items ys
part_written items was len at k ys is size fits part = grind (arith, nat_tests, put_length, take-append_seam)

-- a part below another keeps what it holds
below : (at k i n : ℕ) (xs ys : List ℕ) → i + n ≤ at → at ≤ length xs → bytes_at i n (put_mid at k xs ys) ≡ bytes_at i n xs
below at k i n xs ys low fits =
    sym (drop-take i n (put_mid at k xs ys)) ∙ ap (drop i) (take-put_mid_below at k xs ys (i + n) low fits) ∙ drop-take i n xs

-- and so does one above it
above : (at k i n : ℕ) (xs ys : List ℕ) → at + k ≤ i → at ≤ length xs → length ys ≡ k → bytes_at i n (put_mid at k xs ys) ≡ bytes_at i n xs
above at k i n xs ys high fits part = ap (take n) (drop-put_mid at k xs ys i high fits part)

-- the regions of the other drives stay
pub others_stay : (xs ys : List ℕ) (answered : List Bool) (d i : ℕ) (b : Bool) → REGION_BYTES * d + REGION_BYTES ≤ length xs → length ys ≡ REGION_BYTES → i ≢ d
    → region_at (put_mid (REGION_BYTES * d) REGION_BYTES xs ys) (slice_set answered d b) i ≡ region_at xs answered i
unfolding region_at
others_stay xs ys answered d i b fits part other =
    let answers : slice_index_or (slice_set answered d b) i false ≡ slice_index_or answered i false = get_or-set_other answered d i b false other in
    rw answers (ap (λ bytes. if slice_index_or answered i false then Some bytes else None) bytes)
  where
    apart : (i d : ℕ) → i ≢ d → (i < d) ⊎ (d < i)
    apart i d other = elim (cases_order i d) [ inl same ↦ absurd (other same) | inr side ↦ side ]

    bytes : bytes_at (REGION_BYTES * i) REGION_BYTES (put_mid (REGION_BYTES * d) REGION_BYTES xs ys) ≡ bytes_at (REGION_BYTES * i) REGION_BYTES xs
    bytes = elim (apart i d other) [
      | inl less ↦ below (REGION_BYTES * d) REGION_BYTES (REGION_BYTES * i) REGION_BYTES xs ys (omega (arith, less)) (omega (arith, fits))
      | inr more ↦ above (REGION_BYTES * d) REGION_BYTES (REGION_BYTES * i) REGION_BYTES xs ys (omega (arith, more)) (omega (arith, fits)) part
    ]

-- the region of a drive that answered
pub answered_with : (xs ys : List ℕ) (answered : List Bool) (d : ℕ) (b : Bool) → REGION_BYTES * d + REGION_BYTES ≤ length xs → length ys ≡ REGION_BYTES → d < length answered → b ≡ true
    → region_at (put_mid (REGION_BYTES * d) REGION_BYTES xs ys) (slice_set answered d b) d ≡ Some ys
unfolding region_at
answered_with xs ys answered d b fits part within is =
    let answers : slice_index_or (slice_set answered d b) d false ≡ true = get_or-set_same answered d b false within ∙ is in
    rw answers (ap (λ bytes. Some bytes) (of_part (REGION_BYTES * d) REGION_BYTES xs ys fits part))
  where
    of_part : (at k : ℕ) (xs ys : List ℕ) → at + k ≤ length xs → length ys ≡ k → bytes_at at k (put_mid at k xs ys) ≡ ys
    of_part at k xs ys fits part =
        let size : k ≡ at + k - at = omega arith in
        ap (λ n. take n (drop at (put_mid at k xs ys))) size ∙ between-put_mid at k xs ys (at + k) (omega (arith, fits)) (omega (arith, part))

-- none of one that didn't
pub without_answer : (xs : List ℕ) (answered : List Bool) (d : ℕ) (b : Bool) → d < length answered → b ≡ false
    → region_at xs (slice_set answered d b) d ≡ None
unfolding region_at
without_answer xs answered d b within is = grind (arith, nat_tests, get_or-set_same)

-- what the vector holds then
regions_then : (items was ys : List ℕ) (len at k d : ℕ) → was ≡ items → len ≡ length items → at ≡ REGION_BYTES * d → k ≡ REGION_BYTES → REGION_BYTES * d + REGION_BYTES ≤ length items → length ys ≡ REGION_BYTES
    → take len (put_mid at k was ys ++ drop (length (put_mid at k was ys)) items) ≡ put_mid (REGION_BYTES * d) REGION_BYTES items ys
regions_then items was ys len at k d is size start many fits part =
    part_written items was len at k ys is size (omega (arith, start, many, fits)) (part ∙ sym many)
    ∙ ap (λ a. put_mid a k items ys) start ∙ ap (λ n. put_mid (REGION_BYTES * d) n items ys) many

-- the regions of the other drives are kept
pub others_are_kept : (items was ys : List ℕ) (answered : List Bool) (len at k d i : ℕ) (b : Bool) → was ≡ items → len ≡ length items → at ≡ REGION_BYTES * d → k ≡ REGION_BYTES
    → REGION_BYTES * d + REGION_BYTES ≤ length items → length ys ≡ REGION_BYTES → i ≢ d
    → region_at (take len (put_mid at k was ys ++ drop (length (put_mid at k was ys)) items)) (slice_set answered d b) i ≡ region_at items answered i
others_are_kept items was ys answered len at k d i b is size start many fits part other = grind (arith, nat_tests, regions_then, others_stay)

-- the drive answered with its boot units, or its count of faults rose
answers_or_rises : {T E honest : Type 0} (answer : Result T E) (old new : Shelved) (xs ys : List ℕ) (answered : List Bool) (d n : ℕ) (b : Bool)
    → REGION_BYTES * d + REGION_BYTES ≤ length xs → length ys ≡ REGION_BYTES → d < length answered → b ≡ is_ok answer → honest → n ≡ REGION_BYTES
    → OnOk answer (honest → ys ≡ slice_range (old.disk (drive d)).bytes 0 (0 + n)) → Counts answer (old.disk (drive d)).faults (new.disk (drive d)).faults
    → IsRead old new (put_mid (REGION_BYTES * d) REGION_BYTES xs ys) (slice_set answered d b) d
answers_or_rises (Ok _) old new xs ys answered d n b fits part within is honest many bytes counts =
    inl (answered_with xs ys answered d b fits part within is ∙ ap (λ bytes. Some bytes) (bytes honest ∙ ap (λ (m : ℕ). slice_range (old.disk (drive d)).bytes 0 (0 + m)) many))
answers_or_rises (Err _) old new xs ys answered d n b fits part within is honest many bytes counts = grind (arith, nat_tests, without_answer)

-- so it is with what the vector holds then
pub is_read : {T E honest : Type 0} (answer : Result T E) (old new : Shelved) (items was ys : List ℕ) (answered : List Bool) (len at k d n : ℕ) (b : Bool)
    → was ≡ items → len ≡ length items → at ≡ REGION_BYTES * d → k ≡ REGION_BYTES
    → REGION_BYTES * d + REGION_BYTES ≤ length items → length ys ≡ REGION_BYTES → d < length answered → b ≡ is_ok answer → honest → n ≡ REGION_BYTES
    → OnOk answer (honest → ys ≡ slice_range (old.disk (drive d)).bytes 0 (0 + n)) → Counts answer (old.disk (drive d)).faults (new.disk (drive d)).faults
    → IsRead old new (take len (put_mid at k was ys ++ drop (length (put_mid at k was ys)) items)) (slice_set answered d b) d
is_read answer old new items was ys answered len at k d n b same size start many fits part within is honest read bytes counts =
    subst (λ xs. IsRead old new xs (slice_set answered d b) d) (sym (regions_then items was ys len at k d same size start many fits part))
    (answers_or_rises answer old new items ys answered d n b fits part within is honest read bytes counts)

-- as much is lent as a region has
pub lent_size : (items was : List ℕ) (at k d : ℕ) → was ≡ items → at ≡ REGION_BYTES * d → k ≡ REGION_BYTES → REGION_BYTES * d + REGION_BYTES ≤ length items
    → length (take k (drop at was)) ≡ REGION_BYTES
lent_size items was at k d is start many fits = omega (arith, start, many, fits, ap length is, length-take k (drop at was), length-drop at was)

-- ---- one drive behind another

-- what was read of a drive stays read while others are read
pub stays_read : (old before now : Shelved) (bytes bytes_now : List ℕ) (answered answered_now : List Bool) (i : ℕ) → IsRead old before bytes answered i
    → region_at bytes_now answered_now i ≡ region_at bytes answered i → now.disk (drive i) ≡ before.disk (drive i) → IsRead old now bytes_now answered_now i
stays_read old before now bytes bytes_now answered answered_now i was same disk = grind (arith, nat_tests, drive)

-- what is read of a drive that no call has touched is what it held at first
pub first_read : (old before now : Shelved) (bytes : List ℕ) (answered : List Bool) (i : ℕ) → IsRead before now bytes answered i → before.disk (drive i) ≡ old.disk (drive i)
    → IsRead old now bytes answered i
first_read old before now bytes answered i read disk = grind (arith, nat_tests, bytes_at, drive)

-- ---- counts

-- the drive was read, and is asked for its answer
pub counts_of : (answer : Result (Unit {0}) Failed) (answered : List Bool) (d : ℕ) (b : Bool) (old new : Disk) → d < length answered → b ≡ is_ok answer → ReadCounts answer old new
    → AnswerCounts (slice_index_or (slice_set answered d b) d false) old new
counts_of (Ok x) answered d b old new within is counts = grind (arith, nat_tests, get_or-set_same)
counts_of (Err x) answered d b old new within is counts = grind (arith, nat_tests, get_or-set_same)

-- the counts of a drive stay while others are read
pub counts_stay : (was is : Bool) (old before now : Disk) → AnswerCounts was old before → is ≡ was → now ≡ before → AnswerCounts is old now
counts_stay was is old before now counts same disk = subst (λ (a : Bool). AnswerCounts a old now) (sym same) (subst (λ (d : Disk). AnswerCounts was old d) (sym disk) counts)

-- no call had touched it before
pub first_counts : (is : Bool) (old before now : Disk) → AnswerCounts is before now → before ≡ old → AnswerCounts is old now
first_counts is old before now counts disk = subst (λ (d : Disk). AnswerCounts is d now) disk counts

pub only_drive : (i : ℕ) (d : Device) → Only (drive i) d → IsDrive d
only_drive i d is = subst IsDrive (sym is) tt
