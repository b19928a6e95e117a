-- Flags of drives: masks and counts of fewer flags.
use Rattle.std.proofs.lemmas.Bool.Decides.{nat_tests}
use Rattle.std.proofs.Common.{◌≡◌, ℕ, zero, suc, ◌+◌, ◌*◌, ◌^◌, ◌<◌, ◌≤◌, List, [], ◌∷◌, ◌++◌, length, take, refl, sym, ◌∙◌, ap, arith, Bool, true, false}
use Rattle.std.specs.Prelude.{if◌then◌else◌}
use Rattle.std.proofs.lemmas.List.{get_or-take, length-take}
use Rattle.std.proofs.Math.Nat.{pow-succ'}
use Rattle.std.proofs.Math.Seq.{take-append_seam}
use Rattle.std.proofs.Math.Bool.{beq}
use Rattle.std.specs.Cmp.{booleans_Decides}
use Rattle.std.specs.Cmp.Lexicographic.{pointwise}
use Rattle.std.proofs.lemmas.Slice.Eq.{slice_eq-Decides}
use Rattle.array_spec.specs.Prelude.{mask, set_count, counted}
use Rattle.boot_region.specs.Prelude.{IsMember, member_below}

bit : Bool → ℕ
bit b = if b then 1 else 0

bit_le : (x y : Bool) → (x ≡ true → y ≡ true) → bit x ≤ bit y
unfolding bit
bit_le true true h = omega arith
bit_le true false h = absurd (cc (h refl))
bit_le false y h = omega arith

-- fewer flags have a smaller mask
pub fewer_mask : (xs ys : List Bool) → ((i : ℕ) → IsMember xs i → IsMember ys i) → mask xs ≤ mask ys
unfolding bit
fewer_mask [] ys all = omega arith
fewer_mask (true ∷ xs) [] all = absurd (cc (all 0 refl))
fewer_mask (false ∷ xs) [] all =
    let rest : mask xs ≤ mask [] = fewer_mask xs [] (λ i m. absurd (cc (all (suc i) m))) in
    omega (arith, rest)
fewer_mask (x ∷ xs) (y ∷ ys) all =
    let rest : mask xs ≤ mask ys = fewer_mask xs ys (λ i m. all (suc i) m) in
    let first : bit x ≤ bit y = bit_le x y (all 0) in
    omega (arith, rest, first)

-- and fewer of them are set
pub fewer_count : (xs ys : List Bool) → ((i : ℕ) → IsMember xs i → IsMember ys i) → set_count xs ≤ set_count ys
unfolding bit
fewer_count [] ys all = omega arith
fewer_count (true ∷ xs) [] all = absurd (cc (all 0 refl))
fewer_count (false ∷ xs) [] all =
    let rest : set_count xs ≤ set_count [] = fewer_count xs [] (λ i m. absurd (cc (all (suc i) m))) in
    omega (arith, rest, counted (λ b. b) false xs)
fewer_count (x ∷ xs) (y ∷ ys) all =
    let rest : set_count xs ≤ set_count ys = fewer_count xs ys (λ i m. all (suc i) m) in
    let first : bit x ≤ bit y = bit_le x y (all 0) in
    omega (arith, rest, first, counted (λ b. b) x xs, counted (λ b. b) y ys)

cons_same : (xs ys : List Bool) (x y : Bool) → bit x ≤ bit y → bit y ≤ bit x → xs ≡ ys → (x ∷ xs) ≡ (y ∷ ys)
unfolding bit
cons_same xs ys true true a b same = ap (λ (l : List Bool). true ∷ l) same
cons_same xs ys false false a b same = ap (λ (l : List Bool). false ∷ l) same
cons_same xs ys true false a b same = absurd (omega (arith, a))
cons_same xs ys false true a b same = absurd (omega (arith, b))

-- where as many are set, they are the same
pub same_count : (xs ys : List Bool) → length xs ≡ length ys → ((i : ℕ) → IsMember xs i → IsMember ys i) → set_count ys ≤ set_count xs → xs ≡ ys
unfolding bit
same_count [] [] len all le = refl
same_count [] (y ∷ ys) len all le = absurd (omega (arith, len))
same_count (x ∷ xs) [] len all le = absurd (omega (arith, len))
same_count (x ∷ xs) (y ∷ ys) len all le =
    let rest : set_count xs ≤ set_count ys = fewer_count xs ys (λ i m. all (suc i) m) in
    let first : bit x ≤ bit y = bit_le x y (all 0) in
    let cx = counted (λ b. b) x xs in
    let cy = counted (λ b. b) y ys in
    let ll : length xs ≡ length ys = omega (arith, len) in
    let more : set_count ys ≤ set_count xs = omega (arith, rest, first, cx, cy, le) in
    let same : xs ≡ ys = same_count xs ys ll (λ i m. all (suc i) m) more in
    let back : bit y ≤ bit x = omega (arith, rest, first, cx, cy, le) in
    cons_same xs ys x y first back same

-- no more are set than the mask has bits
pub few_set : (xs : List Bool) (n : ℕ) → mask xs < 2 ^ n → set_count xs ≤ n
unfolding bit
few_set [] n small = omega arith
few_set (true ∷ xs) zero small = absurd (omega (arith, small))
few_set (false ∷ xs) zero small =
    let s : mask xs < 2 ^ 0 = omega (arith, small) in
    omega (arith, few_set xs 0 s, counted (λ b. b) false xs)
few_set (x ∷ xs) (suc n) small =
    let e = pow-succ' 2 n in
    let s : mask xs < 2 ^ n = omega (arith, small, e) in
    let here : bit x ≤ 1 = one x in
    omega (arith, few_set xs n s, here, counted (λ b. b) x xs)
  where
    one : (b : Bool) → bit b ≤ 1
    one true = omega arith
    one false = omega arith

-- no flag is set past the bits of the mask
pub none_past : (xs : List Bool) (n i : ℕ) → mask xs < 2 ^ n → n ≤ i → IsMember xs i → ⊥
none_past [] n i small le m = absurd (cc m)
none_past (x ∷ xs) zero zero small le m = zeroth x small m
  where
    zeroth : (x : Bool) → (if x then 1 else 0) + 2 * mask xs < 2 ^ 0 → x ≡ true → ⊥
    zeroth true h e = omega (arith, h)
    zeroth false h e = absurd (cc e)
none_past (x ∷ xs) zero (suc i) small le m = let s : mask xs < 2 ^ 0 = omega (arith, small) in none_past xs zero i s (omega arith) m
none_past (x ∷ xs) (suc n) zero small le m = absurd (omega (arith, le))
none_past (x ∷ xs) (suc n) (suc i) small le m =
    let e = pow-succ' 2 n in
    let s : mask xs < 2 ^ n = omega (arith, small, e) in
    none_past xs n i s (omega (arith, le)) m

-- a flag before the cut
pub in_cut : (xs : List Bool) (n i : ℕ) → IsMember (take n xs) i → IsMember xs i
in_cut xs n i m = grind (arith, nat_tests, get_or-take, member_below, length-take)

pub cut_in : (xs : List Bool) (n i : ℕ) → i < n → IsMember xs i → IsMember (take n xs) i
cut_in xs n i lt m = get_or-take n xs i false lt ∙ m

-- what was cut off, put back before the rest
pub put_back : (n : ℕ) (xs rest : List Bool) → length xs ≡ n → take n (xs ++ rest) ≡ xs
put_back n xs rest len = ap (λ (k : ℕ). take k (xs ++ rest)) (sym len) ∙ take-append_seam xs rest

-- what a test of two lists of flags has told
pub same_flags : (xs ys : List Bool) → true ≡ pointwise beq xs ys → xs ≡ ys
same_flags xs ys e = (slice_eq-Decides booleans_Decides xs ys true e).0 refl

pub other_flags : (xs ys : List Bool) → false ≡ pointwise beq xs ys → xs ≡ ys → ⊥
other_flags xs ys e same = let wrong : false ≡ true = (slice_eq-Decides booleans_Decides xs ys false e).1 same in absurd (cc wrong)

-- nothing is left behind the cut
pub not_below : (xs : List Bool) (n i : ℕ) → n ≤ i → IsMember (take n xs) i → ⊥
not_below xs n i le m = omega (arith, member_below (take n xs) i m, length-take n xs, le)
