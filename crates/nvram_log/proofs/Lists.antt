-- Commands behind commands.
use Rattle.nvram_log.proofs.Prelude.{◌≡◌, ◌⊎◌, inl, inr, ℕ, Bool, false, Result, Ok, Err, is_ok, if◌then◌else◌, zero, suc, ◌-◌, ◌≤◌, ◌<◌, List, [], ◌∷◌, ◌++◌, length, Some, map, take, slice_get, ap, subst, refl, arith, Command}
use Rattle.std.specs.Prelude.{is_err}

-- a command of the front, or one of those behind it
pub get_either : (xs ys : List Command) (i : ℕ) (c : Command) → slice_get (xs ++ ys) i ≡ Some c → (slice_get xs i ≡ Some c) ⊎ ((length xs ≤ i) × (slice_get ys (i - length xs) ≡ Some c))
get_either [] ys i c is = inr (omega arith, subst (λ (n : ℕ). slice_get ys n ≡ Some c) (let e : i ≡ i - 0 = omega arith in e) is)
get_either (x ∷ xs) ys zero c is = inl is
get_either (x ∷ xs) ys (suc i) c is = elim (get_either xs ys i c is) [
  | inl front ↦ inl front
  | inr behind ↦ inr (omega (arith, behind.0), subst (λ (n : ℕ). slice_get ys n ≡ Some c) (let e : i - length xs ≡ suc i - suc (length xs) = omega arith in e) behind.1)
]

pub get_left : (xs ys : List Command) (i : ℕ) (c : Command) → slice_get xs i ≡ Some c → slice_get (xs ++ ys) i ≡ Some c
get_left [] ys i c is = absurd (cc is)
get_left (x ∷ xs) ys zero c is = is
get_left (x ∷ xs) ys (suc i) c is = get_left xs ys i c is

pub get_right : (xs ys : List Command) (i : ℕ) (c : Command) → length xs ≤ i → slice_get ys (i - length xs) ≡ Some c → slice_get (xs ++ ys) i ≡ Some c
get_right [] ys i c le is = subst (λ (n : ℕ). slice_get ys n ≡ Some c) (let e : i - 0 ≡ i = omega arith in e) is
get_right (x ∷ xs) ys zero c le is = absurd (omega arith)
get_right (x ∷ xs) ys (suc i) c le is = get_right xs ys i c (omega arith) (subst (λ (n : ℕ). slice_get ys n ≡ Some c) (let e : suc i - suc (length xs) ≡ i - length xs = omega arith in e) is)

pub some_at : {A : Type 0} (xs : List A) (j : ℕ) → j < length xs → (x : A) × (slice_get xs j ≡ Some x)
some_at [] j lt = absurd (omega arith)
some_at (x ∷ xs) zero lt = (x, refl)
some_at (x ∷ xs) (suc j) lt = some_at xs j (omega arith)

-- what stands in a front of a list
pub get_front : (n : ℕ) (xs : List Command) (i : ℕ) → i < n → slice_get (take n xs) i ≡ slice_get xs i
get_front zero xs i lt = absurd (omega (arith, lt))
get_front (suc n) [] i lt = refl
get_front (suc n) (x ∷ xs) zero lt = refl
get_front (suc n) (x ∷ xs) (suc i) lt = get_front n xs i (omega (arith, lt))

-- what stands in a list, from what stands in its map
pub from_map : {A B : Type 0} (f : A → B) (xs : List A) (i : ℕ) (y : B) → slice_get (map f xs) i ≡ Some y → (x : A) × (slice_get xs i ≡ Some x) × (f x ≡ y)
from_map f [] i y is = absurd (cc is)
from_map f (x ∷ xs) zero y is = (x, refl, cc is)
from_map f (x ∷ xs) (suc i) y is = from_map f xs i y is

-- one at the end
pub at_end : {A : Type 0} (xs : List A) (y : A) (i : ℕ) (x : A) → slice_get (xs ++ y ∷ []) i ≡ Some x → (slice_get xs i ≡ Some x) ⊎ ((i ≡ length xs) × (y ≡ x))
at_end [] y zero x is = inr (refl, cc is)
at_end [] y (suc i) x is = absurd (cc is)
at_end (z ∷ xs) y zero x is = inl is
at_end (z ∷ xs) y (suc i) x is = elim (at_end xs y i x is) [
  | inl before ↦ inl before
  | inr last ↦ inr (ap suc last.0, last.1)
]

-- what was pushed stands at the end
pub pushed : {A T E : Type 0} (r : Result T E) (failed : Bool) (new old more : List A) → failed ≡ is_err r → failed ≡ false → new ≡ (if is_ok r then more else old) → new ≡ more
pushed (Ok x) failed new old more told none is = is
pushed (Err e) failed new old more told none is = absurd (cc (told, none))
