-- The nine members that come first, chosen one by one.
use Rattle.unit_map.proofs.Prelude.{ℕ, zero, suc, Bool, true, false, not, cond, ◌&&◌, ◌≡◌, ◌≢◌, ◌<◌, ◌≤◌, ◌+◌, ◌*◌, min, ◌⊎◌, List, [], ◌∷◌, get_or, replicate, count_by, sum_by, refl, ap, ◌∙◌, arith, sum_by-cons, Drive, no_drive, drive_at, free_count, share, total_at, IsGroups, is_chosen, IsNoOffer, IsChoice}
use Rattle.unit_map.proofs.UnitLemmas.{count-none}
use Rattle.unit_map.proofs.RoomLemmas.{sum_by-le-flags, flags-le-sum_by, groups-between}

-- ---- none chosen

get_or-unset : (n i : ℕ) → get_or (replicate n false) i false ≡ false
get_or-unset zero i = refl
get_or-unset (suc n) zero = refl
get_or-unset (suc n) (suc i) = get_or-unset n i

none-chosen : (chosen : List Bool) (n slot : ℕ) → chosen ≡ replicate n false → is_chosen chosen slot ≡ false
none-chosen chosen n slot e = ap (λ (bs : List Bool). get_or bs slot false) e ∙ get_or-unset n slot

pub choice-none : (drives : List Drive) (chosen : List Bool) (n : ℕ) → chosen ≡ replicate n false → IsChoice drives chosen 0
choice-none drives chosen n e = record {
  count = count-none chosen (λ k lt. none-chosen chosen n k e);
  within = λ slot is. absurd (let not_so : is_chosen chosen slot ≡ false = none-chosen chosen n slot e in cc);
  members = λ slot is. absurd (let not_so : is_chosen chosen slot ≡ false = none-chosen chosen n slot e in cc);
  some = λ slot is. absurd (let not_so : is_chosen chosen slot ≡ false = none-chosen chosen n slot e in cc);
  first = λ a b is unset member. absurd (let not_so : is_chosen chosen a ≡ false = none-chosen chosen n a e in cc);
}

-- ---- one more chosen

-- ---- fewer than nine to choose

sum_by-zeros : (drives : List Drive) → sum_by (λ (d : Drive). 0) drives ≡ 0
sum_by-zeros [] = refl
sum_by-zeros (drive ∷ drives) = sum_by-cons (λ (d : Drive). 0) drive drives ∙ omega (arith, sum_by-zeros drives)

share-flag : (chosen member : Bool) (free : ℕ) → cond (member && not chosen) free 0 ≡ 0 → cond member (min 1 free) 0 ≤ 0 + cond chosen 1 0
share-flag false false free none = omega arith
share-flag true false free none = omega arith
share-flag true true free none = omega arith
share-flag false true free none = omega arith

pub choice-short : (drives : List Drive) (chosen : List Bool) (count : ℕ) → IsChoice drives chosen count → count < 9 → IsNoOffer drives chosen → total_at drives 1 < 9
choice-short drives chosen count h few none =
    let le : total_at drives 1 ≤ sum_by (λ (d : Drive). 0) drives + count_by (λ b. b) chosen =
    sum_by-le-flags (share 1) (λ (d : Drive). 0) no_drive no_drive drives drives chosen refl (λ k lt.
    share-flag (is_chosen chosen k) (drive_at drives k).member (free_count (drive_at drives k)) (none k lt)) in
    omega (arith, sum_by-zeros drives, h.count)

-- ---- nine chosen

share-one : (drive : Drive) → drive.member ≡ true → 0 < free_count drive → 1 ≤ share 1 drive
share-one drive member some = rw member (omega arith)

pub choice-room : (drives : List Drive) (chosen : List Bool) → IsChoice drives chosen 9 → IsGroups drives 0 → ⊥
choice-room drives chosen h none =
    let room : 1 * count_by (λ b. b) chosen ≤ total_at drives 1 =
    flags-le-sum_by (share 1) no_drive 1 drives chosen (λ k is. (h.within k is, share-one (drive_at drives k) (h.members k is) (h.some k is))) in
    let less : 1 ≤ 0 = none.greatest 1 (omega (arith, h.count)) in
    absurd (omega arith)

pub no-room : (drives : List Drive) → total_at drives 1 < 9 → IsGroups drives 0
no-room drives few = groups-between drives 0 1 (omega arith) (omega arith) few
