-- Runs of addresses, and what their targets read as.
use Rattle.command_spec.proofs.Prelude.{nat_tests, ◌≡◌, ℕ, zero, suc, ◌+◌, ◌<◌, List, [], ◌∷◌, ◌++◌, length, get_or, take, set, replicate, refl, ap, ◌∙◌, arith, inl, inr, Contains, Option, Some, None, slice_get, take-suc-set, append_assoc, AllZip, Ascends, filled, Target, Stored, AddressFact, address_facts, Contents, TargetReads, fact, target_of, targets_from, run_long}
use Rattle.memory_spec.specs.Prelude.{address_key, Location, Zero, either, nowhere}

pub targets_long : (staged : Option ℕ) (i n : ℕ) → length (targets_from staged i n) ≡ n
targets_long staged i zero = refl
targets_long staged i (suc n) = ap suc (targets_long staged (i + 1) n)

fact_is : (medium x y n k : ℕ) (t u : Target) → x ≡ y → t ≡ u → n ≡ k → fact medium x t n ≡ fact medium y u k
fact_is medium x y n k t u e f g = ap (λ z. fact medium z t n) e ∙ ap (λ z. fact medium y z n) f ∙ ap (λ z. fact medium y u z) g

-- one address more at the end
run_push : (staged : Option ℕ) (medium sector number i n x b y : ℕ) → x ≡ sector + n → b ≡ i + n → y ≡ number + n
    → address_facts medium sector number (targets_from staged i n) ++ fact medium x (target_of staged b) y ∷ [] ≡ address_facts medium sector number (targets_from staged i (suc n))
run_push staged medium sector number i zero x b y p q r = grind (arith, nat_tests, fact_is)
run_push staged medium sector number i (suc n) x b y p q r =
    ap (λ l. fact medium sector (target_of staged i) number ∷ l) (run_push staged medium (sector + 1) (number + 1) (i + 1) n x b y (omega (arith, p)) (omega (arith, q)) (omega (arith, r)))

-- so is a run written place by place
pub run_next : (staged : Option ℕ) (medium first number i : ℕ) (run : List AddressFact) (a : AddressFact) → i < length run
    → a ≡ fact medium (first + i) (target_of staged i) (number + i)
    → take i run ≡ address_facts medium first number (targets_from staged 0 i)
    → take (suc i) (set run i a) ≡ address_facts medium first number (targets_from staged 0 (suc i))
run_next staged medium first number i run a l is so = grind (arith, nat_tests, take-suc-set, run_push)

-- ---- a run in order

run_at : (medium sector number : ℕ) (ts : List Target) (i : ℕ) (d : AddressFact) → i < length ts → (get_or (address_facts medium sector number ts) i d).medium.0 ≡ medium
run_at medium sector number [] i d l = absurd (omega (arith, l))
run_at medium sector number (t ∷ ts) zero d l = refl
run_at medium sector number (t ∷ ts) (suc i) d l = run_at medium (sector + 1) (number + 1) ts i d (omega (arith, l))

run_sector : (medium sector number : ℕ) (ts : List Target) (i : ℕ) (d : AddressFact) → i < length ts → (get_or (address_facts medium sector number ts) i d).sector ≡ sector + i
run_sector medium sector number [] i d l = absurd (omega (arith, l))
run_sector medium sector number (t ∷ ts) zero d l = omega arith
run_sector medium sector number (t ∷ ts) (suc i) d l = let e = run_sector medium (sector + 1) (number + 1) ts i d (omega (arith, l)) in omega (arith, e)

pub run_ascends : (medium sector number : ℕ) (ts : List Target) → Ascends address_key (address_facts medium sector number ts)
run_ascends medium sector number ts i j d l m = grind (arith, nat_tests, run_long, run_at, run_sector)

-- ---- what the targets read as

staged_at : (staged : List (List ℕ)) (sector : List ℕ) (more : List (List ℕ)) (n : ℕ) → n ≡ length staged → slice_get (staged ++ (sector ∷ more)) n ≡ Some sector
staged_at [] sector more zero e = refl
staged_at [] sector more (suc n) e = absurd (omega (arith, e))
staged_at (s ∷ staged) sector more zero e = absurd (omega (arith, e))
staged_at (s ∷ staged) sector more (suc n) e = staged_at staged sector more n (omega (arith, e))

-- sectors that are staged behind others are read by their indices
pub staged_read : (contents : Contents) (staged more : List (List ℕ)) (index i : ℕ) → index + i ≡ length staged
    → AllZip (TargetReads contents (staged ++ more)) (targets_from (Some index) i (length more)) more
staged_read contents staged [] index i e = tt
staged_read contents staged (sector ∷ more) index i e = (
  staged_at staged sector more (index + i) e,
  (let rest = staged_read contents (staged ++ sector ∷ []) more index (i + 1) (omega (arith, e, longer staged sector)) in rw (append_assoc) at rest),
)
  where
    longer : (xs : List (List ℕ)) (x : List ℕ) → length (xs ++ x ∷ []) ≡ length xs + 1
    longer [] x = refl
    longer (y ∷ xs) x = let e = longer xs x in omega (arith, e)

-- zeros are read where nothing stands
pub zeros_read : (contents : Contents) (staged : List (List ℕ)) (i n : ℕ) → AllZip (TargetReads contents staged) (targets_from None i n) (replicate n (filled 0))
zeros_read contents staged i zero = tt
zeros_read contents staged i (suc n) = (refl, zeros_read contents staged (i + 1) n)

-- staged sectors stand in segment 0
pub staged_only : (staged : Option ℕ) (i n : ℕ) (at : Location) → Contains (targets_from staged i n) (Stored at) → at.segment.0 ≡ 0
staged_only staged i zero at c = absurd (nowhere (Stored at) c)
staged_only None i (suc n) at c = elim (either Zero (Stored at) (targets_from None (i + 1) n) c) [
  | inl same ↦ cc
  | inr more ↦ staged_only None (i + 1) n at more
]
staged_only (Some index) i (suc n) at c = elim (either (target_of (Some index) i) (Stored at) (targets_from (Some index) (i + 1) n) c) [
  | inl same ↦ stands at (record { segment = record { 0 = 0 }; index = index + i }) same
  | inr more ↦ staged_only (Some index) (i + 1) n at more
]
  where
    stands : (a b : Location) → Stored a ≡ Stored b → a.segment.0 ≡ b.segment.0
    stands a b e = let same : a ≡ b = cc in ap (λ (l : Location). l.segment.0) same
