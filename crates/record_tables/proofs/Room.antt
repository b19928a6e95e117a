-- Each map has room for some greatest number of groups, so taking one leaves room for the others.
use Rattle.record_tables.proofs.Prelude.{◌≡◌, ℕ, zero, suc, ◌+◌, ◌*◌, ◌<◌, ◌≤◌, Bool, true, false, cond, min, List, [], ◌∷◌, arith, inl, inr, subst, sum_by, cases_lt, sum_by-cons, Drive, free_count, share, total_at, IsGroups, LowersByOne}
use Rattle.unit_map.proofs.RoomLemmas.{groups-between}

share_most : (member : Bool) (free groups : ℕ) → cond member (min groups free) 0 ≤ free
share_most false free groups = omega arith
share_most true free groups = omega arith

total_most : (drives : List Drive) (groups : ℕ) → total_at drives groups ≤ sum_by free_count drives
total_most [] groups = omega arith
total_most (drive ∷ drives) groups =
    omega (arith, total_most drives groups, share_most drive.member (free_count drive) groups, sum_by-cons (share groups) drive drives, sum_by-cons free_count drive drives)

-- a number of groups with room, of which one more has none
search_up : (drives : List Drive) (n low : ℕ) → 9 * low ≤ total_at drives low → total_at drives (low + n) < 9 * (low + n) → (g : ℕ) × IsGroups drives g
search_up drives zero low enough many = absurd (let same : low + 0 ≡ low = omega arith in let more = subst (λ k. total_at drives k < 9 * k) same many in omega (arith, enough, more))
search_up drives (suc n) low enough many = elim (cases_lt (total_at drives (low + 1)) (9 * (low + 1))) [
  | inl none ↦ (low, groups-between drives low (low + 1) (omega arith) enough none)
  | inr room ↦ (let same : low + suc n ≡ low + 1 + n = omega arith in search_up drives n (low + 1) room (subst (λ k. total_at drives k < 9 * k) same many))
]

pub some_groups : (drives : List Drive) → (g : ℕ) × IsGroups drives g
some_groups drives =
    let most = total_most drives (0 + suc (sum_by free_count drives)) in
    search_up drives (suc (sum_by free_count drives)) 0 (omega arith) (omega (arith, most))

-- there is room for at least so many groups
abbrev pub HasRoom : List Drive → ℕ → Type 0
HasRoom drives count = (g : ℕ) → IsGroups drives g → count ≤ g

pub room_left : (old new : List Drive) (count : ℕ) → HasRoom old (count + 1) → LowersByOne old new → HasRoom new count
room_left old new count room lowers g is = let w = some_groups old in let most = room w.0 w.1 in let step = (lowers w.0 g w.1 is).1 in omega (arith, most, step)

-- taking one lowers it by one at most
pub one_lower : (was old new : List Drive) (taken : ℕ) → ((g h : ℕ) → IsGroups was g → IsGroups old h → g ≤ h + taken) → LowersByOne old new → (g h : ℕ) → IsGroups was g → IsGroups new h → g ≤ h + (taken + 1)
one_lower was old new taken before lowers g h first last = let w = some_groups old in let most = before g w.0 first w.1 in let step = (lowers w.0 h w.1 last).1 in omega (arith, most, step)
