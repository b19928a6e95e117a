-- The sectors of targets, some behind others.
use Rattle.target_io.proofs.Prelude.{◌≡◌, inl, inr, ℕ, zero, suc, ◌+◌, ◌-◌, ◌*◌, ◌<◌, ◌≤◌, List, [], ◌∷◌, ◌++◌, length, take, drop, get_or, refl, sym, ◌∙◌, ap, subst, arith, Option, Some, slice_get, slice_index_or, get_or-take, get_or-drop, length-take-le, AllZip, bytes_at, sectors_in, Target, Stored, Zero, Contents, PlaceReads, TargetReads, AreSectorsOf}
use Rattle.std.proofs.Math.Seq.{drop-append-add, take-length}
use Rattle.std.proofs.lemmas.Bool.{cases_lt}
use Rattle.std.proofs.lemmas.List.{drop-drop, drop-take, take-append-le}
use Rattle.std.proofs.lemmas.Slice.{take-put_mid_below}
use borrow.Rule.Slice.PartMut.{put_mid}

-- a target stands for one sector
pub one_sector : (contents : Contents) (staged : List (List ℕ)) (target : Target) (x y : List ℕ) → TargetReads contents staged target x → TargetReads contents staged target y → x ≡ y
one_sector contents staged Zero x y p q = p ∙ sym q
one_sector contents staged (Stored at) x y p q = at_place at.segment.0 p q
  where
    same_some : (o : Option (List ℕ)) → o ≡ Some x → o ≡ Some y → x ≡ y
    same_some o e f = cc

    at_place : (segment : ℕ) → PlaceReads contents staged segment at.index x → PlaceReads contents staged segment at.index y → x ≡ y
    at_place zero e f = same_some (slice_get staged at.index) e f
    at_place (suc segment) e f = e ∙ sym f

-- so what the targets stand for is what was read of them
pub sectors_are : (contents : Contents) (staged : List (List ℕ)) (targets : List Target) (sectors : List (List ℕ)) (bytes : List ℕ) → AllZip (TargetReads contents staged) targets sectors → AreSectorsOf contents staged targets (length targets) bytes
    → sectors_in (length targets) bytes ≡ sectors
sectors_are contents staged [] [] bytes zip are = refl
sectors_are contents staged [] (s ∷ sectors) bytes zip are = absurd zip
sectors_are contents staged (t ∷ targets) [] bytes zip are = absurd zip
sectors_are contents staged (t ∷ targets) (s ∷ sectors) bytes zip are =
    let head : take 512 bytes ≡ s = one_sector contents staged t (take 512 bytes) s (are 0 (omega arith)) zip.0 in
    let behind : (j : ℕ) → bytes_at (512 * suc j) 512 bytes ≡ bytes_at (512 * j) 512 (drop 512 bytes) = λ j. ap (λ (n : ℕ). bytes_at n 512 bytes) (let e : 512 * suc j ≡ 512 + 512 * j = omega arith in e) ∙ ap (take 512) (sym (drop-drop (512 * j) 512 bytes)) in
    let rest : sectors_in (length targets) (drop 512 bytes) ≡ sectors =
    sectors_are contents staged targets sectors (drop 512 bytes) zip.1 (λ j low. subst (λ (b : List ℕ). TargetReads contents staged (slice_index_or targets j Zero) b) (behind j) (are (suc j) (omega (arith, low)))) in
    rw (head, rest) refl

-- ---- the first sector

pub first_only : (contents : Contents) (staged : List (List ℕ)) (targets : List Target) (other : Target) (into rest : List ℕ) → length into ≡ 512 → 0 < length targets → TargetReads contents staged (slice_index_or targets 0 other) into
    → AreSectorsOf contents staged targets 1 (into ++ rest)
first_only contents staged [] other into rest size some reads j low = absurd (omega (arith, some))
first_only contents staged (t ∷ targets) other into rest size some reads zero low =
    let one : take 512 (into ++ rest) ≡ into = take-append-le 512 into rest (omega (arith, size)) ∙ ap (λ (n : ℕ). take n into) (sym size) ∙ take-length into in
    rw one reads
first_only contents staged (t ∷ targets) other into rest size some reads (suc j) low = absurd (omega (arith, low))

-- ---- a part is read behind what was read

-- bytes in front of others
pub front_bytes : (at n : ℕ) (xs ys : List ℕ) → at + n ≤ length xs → bytes_at at n (xs ++ ys) ≡ bytes_at at n xs
front_bytes at n xs ys fits = sym (drop-take at n (xs ++ ys)) ∙ ap (drop at) (take-append-le (at + n) xs ys fits) ∙ drop-take at n xs

put_below : (at k i n : ℕ) (xs ys : List ℕ) → i + n ≤ at → at ≤ length xs → bytes_at i n (put_mid at k xs ys) ≡ bytes_at i n xs
put_below at k i n xs ys low fits = sym (drop-take i n (put_mid at k xs ys)) ∙ ap (drop i) (take-put_mid_below at k xs ys (i + n) low fits) ∙ drop-take i n xs

put_in : (at k i n : ℕ) (xs ys : List ℕ) → i + n ≤ length ys → at ≤ length xs → bytes_at (at + i) n (put_mid at k xs ys) ≡ bytes_at i n ys
put_in at k i n xs ys low fits =
    let front : length (take at xs) ≡ at = length-take-le at xs fits in
    ap (λ (m : ℕ). bytes_at (m + i) n (put_mid at k xs ys)) (sym front) ∙ ap (take n) (drop-append-add (take at xs) (ys ++ drop k (drop at xs)) i) ∙ front_bytes i n ys (drop k (drop at xs)) low

pub more_sectors : (contents : Contents) (staged : List (List ℕ)) (targets : List Target) (done count n k : ℕ) (out part : List ℕ) → 512 * done ≤ length out → 512 * count ≤ length part → count ≤ n
    → AreSectorsOf contents staged targets done out → AreSectorsOf contents staged (take n (drop done targets)) count part → AreSectorsOf contents staged targets (done + count) (put_mid (512 * done) k out part)
more_sectors contents staged targets done count n k out part fits within most so_far more j low = elim (cases_lt j done) [
  | inl below ↦
      subst (λ (s : List ℕ). TargetReads contents staged (slice_index_or targets j Zero) s) (sym (put_below (512 * done) k (512 * j) 512 out part (omega (arith, below)) fits)) (so_far j below)
  | inr above ↦
      let here : done + (j - done) ≡ j = omega (arith, above) in
      let target : get_or (take n (drop done targets)) (j - done) Zero ≡ get_or targets j Zero =
      get_or-take n (drop done targets) (j - done) Zero (omega (arith, above, low, most)) ∙ get_or-drop done targets (j - done) Zero ∙ ap (λ (i : ℕ). get_or targets i Zero) here in
      let place : 512 * j ≡ 512 * done + 512 * (j - done) = omega (arith, here) in
      let bytes : bytes_at (512 * j) 512 (put_mid (512 * done) k out part) ≡ bytes_at (512 * (j - done)) 512 part =
      ap (λ (i : ℕ). bytes_at i 512 (put_mid (512 * done) k out part)) place ∙ put_in (512 * done) k (512 * (j - done)) 512 out part (omega (arith, above, low, within)) fits in
      subst (λ (s : List ℕ). TargetReads contents staged (slice_index_or targets j Zero) s) (sym bytes)
      (subst (λ (t : Target). TargetReads contents staged t (bytes_at (512 * (j - done)) 512 part)) target (more (j - done) (omega (arith, above, low))))
]
