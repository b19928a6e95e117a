-- Sums over the drives, and how the room for groups follows from them.
use Rattle.unit_map.proofs.Prelude.{nat_tests, ℕ, zero, suc, Bool, true, false, cond, ltb, ◌&&◌, ◌≡◌, ◌<◌, ◌≤◌, ◌+◌, ◌-◌, ◌*◌, ◌/◌, min, ⊎_elim, List, [], ◌∷◌, length, get_or, count_by, sum_by, refl, arith, lt-ltb, le-ltb, mul-le-mul_left, cases_lt, sum_by-cons, sum_by-le-sum_by, Drive, free_count, share, total_at, IsGroups}

-- ---- sums of two lists, place by place

-- each term is at most that of the other list, and one more where the flag is set
pub sum_by-le-flags : {X Y : Type 0} (f : X → ℕ) (g : Y → ℕ) (d : X) (e : Y) (xs : List X) (ys : List Y) (flags : List Bool) → length xs ≡ length ys
    → ((k : ℕ) → k < length xs → f (get_or xs k d) ≤ g (get_or ys k e) + cond (get_or flags k false) 1 0)
    → sum_by f xs ≤ sum_by g ys + count_by (λ b. b) flags
sum_by-le-flags f g d e [] [] flags size each = omega arith
sum_by-le-flags f g d e [] (y ∷ ys) flags size each = absurd (omega arith)
sum_by-le-flags f g d e (x ∷ xs) [] flags size each = absurd (omega arith)
sum_by-le-flags f g d e (x ∷ xs) (y ∷ ys) [] size each =
    let here : f x ≤ g y + 0 = each 0 (omega arith) in
    let rest : sum_by f xs ≤ sum_by g ys + count_by (λ b. b) [] = sum_by-le-flags f g d e xs ys [] (omega arith) (λ k lt. each (suc k) (omega arith)) in
    omega (arith, sum_by-cons f x xs, sum_by-cons g y ys)
sum_by-le-flags f g d e (x ∷ xs) (y ∷ ys) (b ∷ flags) size each =
    let here : f x ≤ g y + cond b 1 0 = each 0 (omega arith) in
    let rest : sum_by f xs ≤ sum_by g ys + count_by (λ c. c) flags = sum_by-le-flags f g d e xs ys flags (omega arith) (λ k lt. each (suc k) (omega arith)) in
    omega (arith, sum_by-cons f x xs, sum_by-cons g y ys, sum_by-cons (λ (c : Bool). cond c 1 0) b flags)

-- where each term with its flag set is at least w, the sum is at least w for each flag
pub flags-le-sum_by : {X : Type 0} (f : X → ℕ) (d : X) (w : ℕ) (xs : List X) (flags : List Bool)
    → ((k : ℕ) → get_or flags k false ≡ true → (k < length xs) × (w ≤ f (get_or xs k d)))
    → w * count_by (λ b. b) flags ≤ sum_by f xs
flags-le-sum_by f d w xs [] each = omega arith
flags-le-sum_by f d w [] (true ∷ flags) each = absurd (omega (arith, (each 0 refl).0))
flags-le-sum_by f d w [] (false ∷ flags) each =
    let rest : w * count_by (λ b. b) flags ≤ 0 = flags-le-sum_by f d w [] flags (λ k is. absurd (omega (arith, (each (suc k) is).0))) in
    let counts : count_by (λ b. b) (false ∷ flags) ≡ 0 + count_by (λ b. b) flags = sum_by-cons (λ (c : Bool). cond c 1 0) false flags in
    rw counts (omega arith)
flags-le-sum_by f d w (x ∷ xs) (true ∷ flags) each =
    let here : w ≤ f x = (each 0 refl).1 in
    let rest : w * count_by (λ b. b) flags ≤ sum_by f xs = flags-le-sum_by f d w xs flags (λ k is. let at = each (suc k) is in (omega (arith, at.0), at.1)) in
    let counts : count_by (λ b. b) (true ∷ flags) ≡ 1 + count_by (λ b. b) flags = sum_by-cons (λ (c : Bool). cond c 1 0) true flags in
    rw counts (omega (arith, sum_by-cons f x xs))
flags-le-sum_by f d w (x ∷ xs) (false ∷ flags) each =
    let rest : w * count_by (λ b. b) flags ≤ sum_by f xs = flags-le-sum_by f d w xs flags (λ k is. let at = each (suc k) is in (omega (arith, at.0), at.1)) in
    let counts : count_by (λ b. b) (false ∷ flags) ≡ 0 + count_by (λ b. b) flags = sum_by-cons (λ (c : Bool). cond c 1 0) false flags in
    rw counts (omega (arith, sum_by-cons f x xs))

-- ---- from one number of groups to the next

-- whether a drive gives more to one group more
abbrev gives_more : ℕ → Drive → ℕ
gives_more groups drive = cond (drive.member && ltb groups (free_count drive)) 1 0

more-of : (member : Bool) (free groups : ℕ) → cond member (min (groups + 1) free) 0 ≡ cond member (min groups free) 0 + cond (member && ltb groups free) 1 0
more-of false free groups = refl
more-of true free groups = grind (arith, nat_tests, lt-ltb, le-ltb, cases_lt)

least-of : (member : Bool) (free groups : ℕ) → groups * cond (member && ltb groups free) 1 0 ≤ cond member (min groups free) 0
least-of false free groups = omega arith
least-of true free groups = grind (arith, nat_tests, lt-ltb, le-ltb, cases_lt)

total_at-more : (drives : List Drive) (groups : ℕ) → total_at drives (groups + 1) ≡ total_at drives groups + sum_by (gives_more groups) drives
total_at-more [] groups = refl
total_at-more (drive ∷ drives) groups =
    omega (arith, total_at-more drives groups, more-of drive.member (free_count drive) groups, sum_by-cons (share (groups + 1)) drive drives, sum_by-cons (share groups) drive drives, sum_by-cons (gives_more groups) drive drives)

total_at-least : (drives : List Drive) (groups : ℕ) → groups * sum_by (gives_more groups) drives ≤ total_at drives groups
total_at-least [] groups = omega arith
total_at-least (drive ∷ drives) groups =
    rw (sum_by-cons (gives_more groups) drive drives) (omega (arith, total_at-least drives groups, least-of drive.member (free_count drive) groups, sum_by-cons (share groups) drive drives))

enough-less : (drives : List Drive) (groups : ℕ) → 9 * (groups + 1) ≤ total_at drives (groups + 1) → 9 * groups ≤ total_at drives groups
enough-less drives groups h =
    let more = sum_by (gives_more groups) drives in
    ⊎_elim
    (λ (few : more < 9). omega (arith, total_at-more drives groups))
    (λ (many : 9 ≤ more). omega (arith, total_at-least drives groups, mul-le-mul_left groups many))
    (cases_lt more 9)

-- what there is room for, there is room for less of
pub enough-below : (drives : List Drive) (groups less : ℕ) → 9 * (less + groups) ≤ total_at drives (less + groups) → 9 * less ≤ total_at drives less
enough-below drives zero less h = rw (let e : less + 0 ≡ less = omega arith in e) at h
enough-below drives (suc groups) less h =
    enough-below drives groups less (enough-less drives (less + groups) (rw (let e : less + suc groups ≡ less + groups + 1 = omega arith in e) at h))

pub enough-at : (drives : List Drive) (groups less : ℕ) → less ≤ groups → 9 * groups ≤ total_at drives groups → 9 * less ≤ total_at drives less
enough-at drives groups less le h =
    enough-below drives (groups - less) less (rw (let e : groups ≡ less + (groups - less) = omega arith in e) at h)

pub total_at-le : (drives : List Drive) (less groups : ℕ) → less ≤ groups → total_at drives less ≤ total_at drives groups
total_at-le drives less groups le = grind (arith, nat_tests, sum_by-le-sum_by, cond, min)

-- the greatest number of groups, from one with room whose successor has none
pub groups-between : (drives : List Drive) (low high : ℕ) → high ≤ low + 1 → 9 * low ≤ total_at drives low → total_at drives high < 9 * high → IsGroups drives low
groups-between drives low high next enough too_many = grind (arith, nat_tests, enough-at)

-- so many groups have no room, by the units that there are
pub room-start : (drives : List Drive) (groups total : ℕ) → total / 9 + 1 ≤ groups → total ≡ total_at drives groups → total_at drives (total / 9 + 1) < 9 * (total / 9 + 1)
room-start drives groups total le is = omega (arith, total_at-le drives (total / 9 + 1) groups le)
