-- Taking a unit of each of the nine drives that come first lowers the room for groups by one at most.
use Rattle.unit_map.proofs.Prelude.{nat_tests, ℕ, zero, suc, Bool, true, false, not, cond, leb, ◌&&◌, ◌≡◌, ◌<◌, ◌≤◌, ◌+◌, ◌*◌, min, ◌⊎◌, ⊎_elim, inl, inr, List, [], length, count_by, refl, sym, ap, ◌∙◌, arith, leb-true, leb-false, cases_lt, cases_Bool, and_parts, not-true, Drive, no_drive, drive_at, free_count, share, total_at, IsGroups, LowersByOne, is_chosen, IsChoice, LosesOne}
use Rattle.unit_map.proofs.RoomLemmas.{sum_by-le-flags, flags-le-sum_by}

-- the first number below n that passes, or none does
some-below : (p : ℕ → Bool) (n : ℕ) → ((k : ℕ) → k < n → p k ≡ false) ⊎ ((k : ℕ) × (p k ≡ true))
some-below p zero = inl (λ k lt. absurd (omega arith))
some-below p (suc n) =
    ⊎_elim
    (λ (none : (k : ℕ) → k < n → p k ≡ false).
    ⊎_elim
    (λ (here : p n ≡ true). inr (n, here))
    (λ (not_here : p n ≡ false). inl (λ k lt.
    ⊎_elim
    (λ (below : k < n). none k below)
    (λ (ge : n ≤ k). let same : k ≡ n = omega arith in ap p same ∙ not_here)
    (cases_lt k n)))
    (cases_Bool (p n)))
    (λ (some : (k : ℕ) × (p k ≡ true)). inr some)
    (some-below p n)

-- whether the drive of a slot is a member that isn't chosen, with so many free units
abbrev left_out : List Drive → List Bool → ℕ → ℕ → Bool
left_out drives chosen groups slot = (drive_at drives slot).member && (not (is_chosen chosen slot) && leb groups (free_count (drive_at drives slot)))

-- ---- the room doesn't grow

share-less : (member : Bool) (groups old new : ℕ) → new ≤ old → cond member (min groups new) 0 ≤ cond member (min groups old) 0 + 0
share-less false groups old new le = omega arith
share-less true groups old new le = omega arith

count-less : (old new : List Drive) (chosen : List Bool) (slot : ℕ) → LosesOne old new chosen → free_count (drive_at new slot) ≤ free_count (drive_at old slot)
count-less old new chosen slot h = omega (arith, h.counts slot)

share-le : (old new : List Drive) (chosen : List Bool) (groups slot : ℕ) → LosesOne old new chosen → share groups (drive_at new slot) ≤ share groups (drive_at old slot) + 0
share-le old new chosen groups slot h = grind (arith, nat_tests, share-less, count-less)

total-less : (old new : List Drive) (chosen : List Bool) (groups : ℕ) → LosesOne old new chosen → total_at new groups ≤ total_at old groups
total-less old new chosen groups h =
    let le : total_at new groups ≤ total_at old groups + count_by (λ b. b) [] =
    sum_by-le-flags (share groups) (share groups) no_drive no_drive new old [] h.size (λ k lt. share-le old new chosen groups k h) in
    omega arith

-- ---- a member that isn't chosen has as many free units as there were groups, and so has each that is chosen

share-full : (member : Bool) (groups free : ℕ) → member ≡ true → groups ≤ free → groups ≤ cond member (min groups free) 0
share-full member groups free is le = rw is (omega arith)

room-by-chosen : (old new : List Drive) (chosen : List Bool) (groups b : ℕ) → IsChoice old chosen 9 → LosesOne old new chosen → (drive_at old b).member ≡ true → is_chosen chosen b ≡ false
    → groups + 1 ≤ free_count (drive_at old b) → 9 * groups ≤ total_at new groups
room-by-chosen old new chosen groups b choice h member unset many =
    let le : groups * count_by (λ f. f) chosen ≤ total_at new groups = flags-le-sum_by (share groups) no_drive groups new chosen (λ k is.
    let within : k < length old = choice.within k is in
    let more : free_count (drive_at old b) ≤ free_count (drive_at old k) =
    ⊎_elim
    (λ (lt : free_count (drive_at old b) < free_count (drive_at old k)). omega arith)
    (λ (eq : (free_count (drive_at old k) ≡ free_count (drive_at old b)) × (k < b)). omega (arith, eq.0))
    (choice.first k b is unset member) in
    let loses = rw is at (h.counts k) in
    (omega (arith, h.size), share-full (drive_at new k).member groups (free_count (drive_at new k)) (h.members k ∙ choice.members k is) (omega (arith, loses)))) in
    omega (arith, rw choice.count at le)

-- ---- each member with as many free units as there were groups is chosen

share-flag : (member flag : Bool) (groups old new : ℕ) → new + cond flag 1 0 ≡ old → (member ≡ true → flag ≡ false → old < groups + 1)
    → cond member (min (groups + 1) old) 0 ≤ cond member (min groups new) 0 + cond flag 1 0
share-flag false flag groups old new loses few = omega arith
share-flag true true groups old new loses few = omega arith
share-flag true false groups old new loses few = let lt : old < groups + 1 = few refl refl in omega arith

few-left : (old : List Drive) (chosen : List Bool) (groups k : ℕ) → left_out old chosen groups k ≡ false → (drive_at old k).member ≡ true → is_chosen chosen k ≡ false → free_count (drive_at old k) < groups
few-left old chosen groups k out member unset = leb-false groups (free_count (drive_at old k)) (rw (member, unset) at out)

room-by-all : (old new : List Drive) (chosen : List Bool) (groups : ℕ) → IsChoice old chosen 9 → LosesOne old new chosen → ((k : ℕ) → k < length old → left_out old chosen (groups + 1) k ≡ false)
    → 9 * (groups + 1) ≤ total_at old (groups + 1) → 9 * groups ≤ total_at new groups
room-by-all old new chosen groups choice h none enough =
    let le : total_at old (groups + 1) ≤ total_at new groups + count_by (λ b. b) chosen =
    sum_by-le-flags (share (groups + 1)) (share groups) no_drive no_drive old new chosen (sym h.size) (λ k lt.
    rw (h.members k) (share-flag (drive_at old k).member (is_chosen chosen k) groups (free_count (drive_at old k)) (free_count (drive_at new k)) (h.counts k) (few-left old chosen (groups + 1) k (none k lt)))) in
    omega (arith, choice.count)

-- ---- by one at most

room-left : (old new : List Drive) (chosen : List Bool) (groups : ℕ) → IsChoice old chosen 9 → LosesOne old new chosen → 9 * (groups + 1) ≤ total_at old (groups + 1) → 9 * groups ≤ total_at new groups
room-left old new chosen groups choice h enough =
    ⊎_elim
    (λ (none : (k : ℕ) → k < length old → left_out old chosen (groups + 1) k ≡ false). room-by-all old new chosen groups choice h none enough)
    (λ (some : (k : ℕ) × (left_out old chosen (groups + 1) k ≡ true)).
    let parts = and_parts (drive_at old some.0).member (not (is_chosen chosen some.0) && leb (groups + 1) (free_count (drive_at old some.0))) some.1 in
    let rest = and_parts (not (is_chosen chosen some.0)) (leb (groups + 1) (free_count (drive_at old some.0))) parts.1 in
    room-by-chosen old new chosen groups some.0 choice h parts.0 (not-true (is_chosen chosen some.0) rest.0) (leb-true (groups + 1) (free_count (drive_at old some.0)) rest.1))
    (some-below (left_out old chosen (groups + 1)) (length old))

pub lowers-by-one : (old new : List Drive) (chosen : List Bool) → IsChoice old chosen 9 → LosesOne old new chosen → LowersByOne old new
lowers-by-one old new chosen choice h = λ before after was is. (
  was.greatest after (omega (arith, is.enough, total-less old new chosen after h)),
  within before after was is,
)
  where
    within : (before after : ℕ) → IsGroups old before → IsGroups new after → before ≤ after + 1
    within zero after was is = omega arith
    within (suc groups) after was is =
        let enough : 9 * (groups + 1) ≤ total_at old (groups + 1) = rw (let e : suc groups ≡ groups + 1 = omega arith in e) at was.enough in
        omega (arith, is.greatest groups (room-left old new chosen groups choice h enough))
