-- Lists by their places.
use Rattle.patch_io.proofs.Prelude.{◌≡◌, ◌⊎◌, inl, inr, ℕ, zero, suc, ◌+◌, ◌<◌, ◌≤◌, List, [], ◌∷◌, ◌++◌, length, take, drop, refl, sym, ◌∙◌, ap, arith, length-append, Some, slice_get, append-nil, take-append-drop, AllByRecursion, same_Some, nil_from_length}

-- what stands in a list stands in a longer one
pub get_front : {X : Type 0} (xs ys : List X) (k : ℕ) (x : X) → slice_get xs k ≡ Some x → slice_get (xs ++ ys) k ≡ Some x
get_front [] ys k x is = absurd (cc)
get_front (a ∷ xs) ys zero x is = is
get_front (a ∷ xs) ys (suc k) x is = get_front xs ys k x is

-- and what stands in the list behind it
pub get_behind : {X : Type 0} (xs ys : List X) (k : ℕ) → slice_get (xs ++ ys) (length xs + k) ≡ slice_get ys k
get_behind [] ys k = ap (slice_get ys) (let e : 0 + k ≡ k = omega arith in e)
get_behind (a ∷ xs) ys k = ap (slice_get (a ∷ (xs ++ ys))) (let e : suc (length xs) + k ≡ suc (length xs + k) = omega arith in e) ∙ get_behind xs ys k

-- an element of a list with one more is one of the list, or that one
pub get_pushed : {X : Type 0} (xs : List X) (y : X) (k : ℕ) (x : X) → slice_get (xs ++ y ∷ []) k ≡ Some x → (slice_get xs k ≡ Some x) ⊎ ((k ≡ length xs) × (y ≡ x))
get_pushed [] y zero x is = inr (refl, same_Some y x is)
get_pushed [] y (suc k) x is = absurd (cc)
get_pushed (a ∷ xs) y zero x is = inl is
get_pushed (a ∷ xs) y (suc k) x is = elim (get_pushed xs y k x is) [
  | inl here ↦ inl here
  | inr last ↦ inr (ap suc last.0, last.1)
]

-- there is an element at each place of a list
pub some_at : {X : Type 0} (xs : List X) (k : ℕ) → k < length xs → (x : X) × (slice_get xs k ≡ Some x)
some_at [] k lt = absurd (omega (arith, lt))
some_at (a ∷ xs) zero lt = (a, refl)
some_at (a ∷ xs) (suc k) lt = some_at xs k (omega (arith, lt))

-- a list that has what another has at each place of it begins with it
pub begins_with : {X : Type 0} (xs ys : List X) → length xs ≤ length ys → ((k : ℕ) (x y : X) → slice_get xs k ≡ Some x → slice_get ys k ≡ Some y → x ≡ y) → (rest : List X) × (ys ≡ xs ++ rest)
begins_with [] ys fits same = (ys, refl)
begins_with (x ∷ xs) [] fits same = absurd (omega (arith, fits))
begins_with {X} (x ∷ xs) (y ∷ ys) fits same =
    let e : x ≡ y = same 0 x y refl refl in
    let tail = begins_with xs ys (omega (arith, fits)) (λ (k : ℕ) (a b : X). same (suc k) a b) in
    (tail.0, ap (λ (a : X). a ∷ ys) (sym e) ∙ ap (λ (l : List X). x ∷ l) tail.1)

-- what holds of all holds at a place
pub all_at : {X : Type 0} (P : X → Type 0) (xs : List X) (k : ℕ) (x : X) → AllByRecursion P xs → slice_get xs k ≡ Some x → P x
all_at P [] k x all is = absurd (cc)
all_at P (a ∷ xs) zero x all is = let e : a ≡ x = same_Some a x is in rw (sym e) all.0
all_at P (a ∷ xs) (suc k) x all is = all_at P xs k x all.1 is

-- what holds at each place holds of all
pub all_from : {X : Type 0} (P : X → Type 0) (xs : List X) → ((k : ℕ) (x : X) → slice_get xs k ≡ Some x → P x) → AllByRecursion P xs
all_from P [] each = tt
all_from P (a ∷ xs) each = (each 0 a refl, all_from P xs (λ k x at. each (suc k) x at))

-- of one more too
pub all_pushed : {X : Type 0} (P : X → Type 0) (xs : List X) (y : X) → AllByRecursion P xs → P y → AllByRecursion P (xs ++ y ∷ [])
all_pushed P [] y all is = (is, tt)
all_pushed P (a ∷ xs) y all is = (all.0, all_pushed P xs y all.1 is)

-- an element of two lists is one of the first, or of the second
pub get_either : {X : Type 0} (xs ys : List X) (k : ℕ) (x : X) → slice_get (xs ++ ys) k ≡ Some x → (slice_get xs k ≡ Some x) ⊎ ((j : ℕ) × (k ≡ length xs + j) × (slice_get ys j ≡ Some x))
get_either [] ys k x is = inr (k, (let e : k ≡ 0 + k = omega arith in e), is)
get_either (a ∷ xs) ys zero x is = inl is
get_either (a ∷ xs) ys (suc k) x is = elim (get_either xs ys k x is) [
  | inl here ↦ inl here
  | inr (j, at, there) ↦ inr (j, (let e : suc k ≡ suc (length xs) + j = omega (arith, at) in e), there)
]

-- an element of the first ones is one of the list
pub get_taken : {X : Type 0} (n : ℕ) (xs : List X) (k : ℕ) (x : X) → slice_get (take n xs) k ≡ Some x → slice_get xs k ≡ Some x
get_taken n xs k x is = sym (ap (λ l. slice_get l k) (take-append-drop n xs)) ∙ get_front (take n xs) (drop n xs) k x is

-- no list is longer than what it begins with and as long
pub whole_of : {X : Type 0} (xs ys rest : List X) → ys ≡ xs ++ rest → length xs ≡ length ys → ys ≡ xs
whole_of xs ys rest is sizes =
    let none : rest ≡ [] = nil_from_length rest (omega (arith, sizes, ap length is, length-append xs rest)) in
    is ∙ ap (λ l. xs ++ l) none ∙ append-nil xs
