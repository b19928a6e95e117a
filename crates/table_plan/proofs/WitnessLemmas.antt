-- The place of an id, the ids for which nothing was found, and witnesses one fact or one place further.
use Rattle.std.proofs.lemmas.Bool.Decides.{nat_tests}
use Rattle.table_plan.proofs.Prelude.{◌≡◌, ◌≢◌, ℕ, ◌+◌, ◌<◌, Bool, true, false, not, List, [], ◌∷◌, ◌++◌, length, get_or, take, refl, sym, ap, ◌∙◌, arith, cond, filter, Option, None, AllPairs, append-nil, nat_lt, lt-ltb, ltb-true, ltb-false, IsPartitionedBy, IsPartitionPoint, filter_map, cases_lt, take_more, filter_map-append, filter_more, AddressFact, last_witness, witness_or, Witness}

-- ---- the place of an id

abbrev pub is_below : ℕ → ℕ → Bool
is_below id other = nat_lt other id

-- ids rise, so the lower ones come first
pub parted : (id : ℕ) (ids : List ℕ) → AllPairs (λ i j. i < j) ids → IsPartitionedBy (is_below id) ids
parted id ids h i j d low within holds = grind (arith, nat_tests, cases_lt, ltb-true, lt-ltb)

-- it isn't there, where the first that isn't below isn't it
pub none_is : (id : ℕ) (ids : List ℕ) (at : ℕ) → AllPairs (λ i j. i < j) ids → IsPartitionPoint (λ d. is_below id d ≡ true) (λ d. is_below id d ≡ false) ids at
    → (at < length ids → get_or ids at 0 ≢ id) → (i : ℕ) → i < length ids → get_or ids i 0 ≢ id
none_is id ids at h point ne k l same = grind (arith, nat_tests, cases_lt, ltb-true, ltb-false)

-- ---- what wasn't found

-- the next id
pub next_unfound : (p : ℕ → Bool) (ids : List ℕ) (i : ℕ) (out : List ℕ) → i < length ids → p (get_or ids i 0) ≡ false → out ≡ filter (λ id. not (p id)) (take i ids)
    → out ++ get_or ids i 0 ∷ [] ≡ filter (λ id. not (p id)) (take (i + 1) ids)
next_unfound p ids i out l none so =
    ap (λ (xs : List ℕ). xs ++ get_or ids i 0 ∷ []) so ∙ ap (λ (b : Bool). filter (λ id. not (p id)) (take i ids) ++ cond (not b) (get_or ids i 0 ∷ []) []) (sym none) ∙ sym (filter_more (λ id. not (p id)) ids i 0 l)

pub next_found : (p : ℕ → Bool) (ids : List ℕ) (i : ℕ) (out : List ℕ) → i < length ids → p (get_or ids i 0) ≡ true → out ≡ filter (λ id. not (p id)) (take i ids)
    → out ≡ filter (λ id. not (p id)) (take (i + 1) ids)
next_found p ids i out l some so =
    so ∙ sym (append-nil (filter (λ id. not (p id)) (take i ids))) ∙ ap (λ (b : Bool). filter (λ id. not (p id)) (take i ids) ++ cond (not b) (get_or ids i 0 ∷ []) []) (sym some) ∙ sym (filter_more (λ id. not (p id)) ids i 0 l)

-- ---- the last witness

last_push : (segment : ℕ) (w : Option Witness) (fs : List AddressFact) (f : AddressFact) → last_witness segment w (fs ++ f ∷ []) ≡ witness_or segment (last_witness segment w fs) f
last_push segment w [] f = refl
last_push segment w (x ∷ xs) f = last_push segment (witness_or segment w x) xs f

-- among one more fact
pub last_more : (segment : ℕ) (fs : List AddressFact) (i : ℕ) (d : AddressFact) → i < length fs
    → last_witness segment None (take (i + 1) fs) ≡ witness_or segment (last_witness segment None (take i fs)) (get_or fs i d)
last_more segment fs i d l = ap (λ (xs : List AddressFact). last_witness segment None xs) (take_more fs i d l) ∙ last_push segment None (take i fs) (get_or fs i d)

-- ---- those that were found

-- one more place
pub found_more : (found : List (Option Witness)) (i : ℕ) (o : Option Witness) → i < length found → get_or found i None ≡ o
    → filter_map (λ (w : Option Witness). w) (take (i + 1) found) ≡ filter_map (λ (w : Option Witness). w) (take i found) ++ filter_map (λ (w : Option Witness). w) (o ∷ [])
found_more found i o l is = ap (λ (xs : List (Option Witness)). filter_map (λ (w : Option Witness). w) xs) (take_more found i None l ∙ ap (λ (w : Option Witness). take i found ++ w ∷ []) is)
    ∙ filter_map-append (λ (w : Option Witness). w) (take i found) (o ∷ [])
