-- How many units each drive has free, from the places of all segments, and how many segments the members hold.
use Rattle.free_space.proofs.Prelude.{ℕ, suc, Bool, true, false, cond, eqb, ◌≡◌, ◌≢◌, ◌<◌, ◌≤◌, ◌+◌, ◌-◌, ◌*◌, ◌/◌, min, ⊎_elim, inl, inr, List, [], ◌∷◌, ◌++◌, length, get_or, set, take, replicate, map, filter, count_by, refl, sym, ap, ◌∙◌, subst, arith, get_or-set_same, get_or-set_other, ne_eqb, get_or-take, length-take-le, AllByRecursion, range_with_len, cases_Bool, cases_eq, cases_lt, get_or-replicate, sum_by-cons, sum_by-append, sum_by-replicate, Facts, segments, SegmentFact, Place, IsBootRecord, BootRecord, is_used, free_units, free_of_members, units_for, Drive, fresh, no_drive, drive_at, is_free, free_count, share, total_at, with_unit, with_unit_of, with_units, IsPlace, AreDataSegments, IsMapWith, is_member, CanMark, data_units, patches_units, units_on, HasUnits, LosesUnits, CountsMembers}
use Rattle.boot_codec.specs.Record as record_of
use Rattle.array_spec.specs.Counts as counts
use Rattle.unit_map.proofs.UnitLemmas.{count-removed}
use Rattle.unit_map.proofs.RoomLemmas.{room-start, groups-between}
use Rattle.free_space.proofs.Units.{all_fresh, fresh_map}
use Rattle.free_space.proofs.Tables.{can_mark_tables, all_places, map_is}
use Rattle.free_space.proofs.LawLemmas.{free_count_is}
use Rattle.free_space.proofs.Taking.{units_on-append, units_on-cons, units_on-here, units_on-elsewhere, IsTaking, taking_none, taking_rest, taking_can, taking_more}

-- ---- what a map loses

lost_one : (drives : List Drive) (p : Place) (slot : ℕ) → IsPlace drives p → is_free drives p ≡ true → free_count (drive_at (with_unit false drives p) slot) + units_on slot (p ∷ []) ≡ free_count (drive_at drives slot)
lost_one drives p slot at free =
    ⊎_elim
    (λ (same : p.slot ≡ slot).
    let now : drive_at (with_unit false drives p) p.slot ≡ with_unit_of false p.unit (drive_at drives p.slot) = get_or-set_same drives p.slot (with_unit_of false p.unit (drive_at drives p.slot)) no_drive at.slot in
    let less : count_by (λ b. b) (set (drive_at drives p.slot).free p.unit false) + 1 ≡ free_count (drive_at drives p.slot) = count-removed (drive_at drives p.slot).free p.unit at.unit free in
    subst (λ (s : ℕ). free_count (drive_at (with_unit false drives p) s) + units_on s (p ∷ []) ≡ free_count (drive_at drives s)) same
    (omega (arith, ap free_count now, less, units_on-here p)))
    (λ (other : p.slot ≢ slot).
    let kept : drive_at (with_unit false drives p) slot ≡ drive_at drives slot = get_or-set_other drives p.slot slot (with_unit_of false p.unit (drive_at drives p.slot)) no_drive (λ e. other (sym e)) in
    omega (arith, ap free_count kept, units_on-elsewhere slot p other))
    (cases_eq p.slot slot)

lost_all : (drives : List Drive) (ps : List Place) (slot : ℕ) → CanMark drives ps → free_count (drive_at (with_units false drives ps) slot) + units_on slot ps ≡ free_count (drive_at drives slot)
lost_all drives [] slot h = omega arith
lost_all drives (p ∷ ps) slot h =
    omega (arith, lost_all (with_unit false drives p) ps slot h.2, lost_one drives p slot h.0 h.1, units_on-append slot (p ∷ []) ps)

fresh_count : (units : ℕ) → count_by (λ b. b) (fresh units) ≡ units - 3
fresh_count units =
    let parts : count_by (λ b. b) (fresh units) ≡ count_by (λ b. b) (replicate 3 false) + count_by (λ b. b) (replicate (units - 3) true) = sum_by-append (λ (b : Bool). cond b 1 0) (replicate 3 false) (replicate (units - 3) true) in
    let boot : count_by (λ b. b) (replicate 3 false) ≡ 0 = sum_by-replicate (λ (b : Bool). cond b 1 0) 3 false in
    let others : count_by (λ b. b) (replicate (units - 3) true) ≡ (units - 3) * 1 = sum_by-replicate (λ (b : Bool). cond b 1 0) (units - 3) true in
    omega (arith, parts, boot, others)

-- ---- the free units of a drive

-- a drive's data units are those that are free and those where a place of a segment stands
pub free_and_used : (boot : BootRecord) (ds : List SegmentFact) → IsBootRecord boot → AreDataSegments boot ds → (facts : Facts) → segments facts boot.next.segment ≡ ds → (slot : ℕ) → slot < boot.slots
    → free_units boot facts slot + units_on slot (patches_units boot.patches ++ data_units ds) ≡ boot.units - 3
free_and_used boot ds lawful given facts same slot lt =
    let drives : List Drive = replicate boot.slots (all_fresh boot.units) in
    let all : List Place = patches_units boot.patches ++ data_units ds in
    let member : ℕ → Bool = λ k. true in
    let start : IsMapWith boot.slots boot.units (λ k. true) (λ k unit. false) drives = fresh_map boot.slots boot.units (omega (arith, lawful.units.0)) in
    let can : CanMark drives all = can_mark_tables boot ds member drives lawful given start in
    let made : IsMapWith boot.slots boot.units (λ k. true) (is_used boot facts) (with_units false drives all) = map_is boot ds member drives (with_units false drives all) lawful given start refl facts same in
    let first : free_count (drive_at drives slot) ≡ boot.units - 3 = ap free_count (get_or-replicate boot.slots slot (all_fresh boot.units) no_drive lt) ∙ fresh_count boot.units in
    omega (arith, free_count_is boot facts member (with_units false drives all) slot made lt, lost_all drives all slot can, first)

-- past the slots there is no place
none_past : (slots units slot : ℕ) (ps : List Place) → slots ≤ slot → AllByRecursion (record_of.IsPlace slots units) ps → units_on slot ps ≡ 0
none_past slots units slot [] le all = refl
none_past slots units slot (p ∷ ps) le all =
    let within : p.slot < slots = all.0.slot in
    let here : eqb p.slot slot ≡ false = ne_eqb p.slot slot (λ e. omega (arith, within, le, e)) in
    units_on-cons slot p ps ∙ ap (λ (b : Bool). cond b 1 0 + units_on slot ps) here ∙ omega (arith, none_past slots units slot ps le all.1)

-- drives whose data units are all free have those of the segments
pub start_has : (boot : BootRecord) (ds : List SegmentFact) → IsBootRecord boot → AreDataSegments boot ds → HasUnits (replicate 24 (boot.units - 3)) (patches_units boot.patches ++ data_units ds)
start_has boot ds lawful given = λ slot.
    ⊎_elim
    (λ (lt : slot < boot.slots).
    let is : get_or (replicate 24 (boot.units - 3)) slot 0 ≡ boot.units - 3 = get_or-replicate 24 slot (boot.units - 3) 0 (omega (arith, lt, lawful.slots.1)) in
    omega (arith, is, free_and_used boot ds lawful given given.tables given.visible slot lt))
    (λ (ge : boot.slots ≤ slot). omega (arith, none_past boot.slots boot.units slot (patches_units boot.patches ++ data_units ds) ge (all_places boot ds lawful given)))
    (cases_lt slot boot.slots)

pub patches_has : (boot : BootRecord) (ds : List SegmentFact) → IsBootRecord boot → AreDataSegments boot ds → HasUnits (replicate 24 (boot.units - 3)) (patches_units boot.patches)
patches_has boot ds lawful given =
    let free : List ℕ = replicate 24 (boot.units - 3) in
    taking_can free free (patches_units boot.patches ++ data_units ds) (patches_units boot.patches) (data_units ds)
    (taking_none free (patches_units boot.patches ++ data_units ds) (start_has boot ds lawful given))

data_left : (boot : BootRecord) (ds : List SegmentFact) (patched : List ℕ) → IsBootRecord boot → AreDataSegments boot ds → LosesUnits (replicate 24 (boot.units - 3)) patched (patches_units boot.patches)
    → IsTaking (replicate 24 (boot.units - 3)) patched (patches_units boot.patches ++ data_units ds) (data_units ds)
data_left boot ds patched lawful given loses =
    let free : List ℕ = replicate 24 (boot.units - 3) in
    taking_more free free patched (patches_units boot.patches ++ data_units ds) (patches_units boot.patches) (data_units ds)
    (taking_none free (patches_units boot.patches ++ data_units ds) (start_has boot ds lawful given)) loses

pub data_has : (boot : BootRecord) (ds : List SegmentFact) (patched : List ℕ) → IsBootRecord boot → AreDataSegments boot ds → LosesUnits (replicate 24 (boot.units - 3)) patched (patches_units boot.patches)
    → HasUnits patched (data_units ds)
data_has boot ds patched lawful given loses =
    taking_rest (replicate 24 (boot.units - 3)) patched (patches_units boot.patches ++ data_units ds) (data_units ds) (data_left boot ds patched lawful given loses)

-- what is left on a drive is what is free there
left_is_free : (boot : BootRecord) (ds : List SegmentFact) (patched left : List ℕ) → IsBootRecord boot → AreDataSegments boot ds
    → LosesUnits (replicate 24 (boot.units - 3)) patched (patches_units boot.patches) → LosesUnits patched left (data_units ds)
    → (facts : Facts) → segments facts boot.next.segment ≡ ds → (slot : ℕ) → slot < boot.slots → get_or left slot 0 ≡ free_units boot facts slot
left_is_free boot ds patched left lawful given patches_lose data_lose facts same slot lt =
    let all : List Place = patches_units boot.patches ++ data_units ds in
    let is : get_or (replicate 24 (boot.units - 3)) slot 0 ≡ boot.units - 3 = get_or-replicate 24 slot (boot.units - 3) 0 (omega (arith, lt, lawful.slots.1)) in
    omega (arith, is, patches_lose slot, data_lose slot, units_on-append slot (patches_units boot.patches) (data_units ds), free_and_used boot ds lawful given facts same slot lt)

-- ---- the members

-- a drive without a free unit gives none to any number of groups
members_are : (groups : ℕ) (test : ℕ → Bool) (counted : ℕ → ℕ) (a : ℕ) (free : List ℕ) → ((i : ℕ) → i < length free → get_or free i 0 ≡ cond (test (a + i)) (counted (a + i)) 0)
    → units_for groups free ≡ units_for groups (map counted (filter test (range_with_len a (length free))))
members_are groups test counted a [] h = refl
members_are groups test counted a (x ∷ free) h =
    let slots : List ℕ = range_with_len (a + 1) (length free) in
    let at : a + 0 ≡ a = omega arith in
    let first : x ≡ cond (test a) (counted a) 0 = h 0 (omega arith) ∙ ap (λ (k : ℕ). cond (test k) (counted k) 0) at in
    let rest : units_for groups free ≡ units_for groups (map counted (filter test slots)) = members_are groups test counted (a + 1) free (λ i lt.
    h (suc i) (omega (arith, lt)) ∙ ap (λ (k : ℕ). cond (test k) (counted k) 0) (let e : a + suc i ≡ a + 1 + i = omega arith in e)) in
    let whole : units_for groups (x ∷ free) ≡ min groups x + units_for groups free = sum_by-cons (min groups) x free in
    elim (cases_Bool (test a)) [
      | inl passes ↦
          let chosen : filter test (a ∷ slots) ≡ a ∷ filter test slots = ap (λ (b : Bool). cond b (a ∷ filter test slots) (filter test slots)) passes in
          let mine : x ≡ counted a = first ∙ ap (λ (b : Bool). cond b (counted a) 0) passes in
          whole
          ∙ ap (λ (n : ℕ). min groups n + units_for groups free) mine
          ∙ ap (λ (n : ℕ). min groups (counted a) + n) rest
          ∙ sym (sum_by-cons (min groups) (counted a) (map counted (filter test slots)))
          ∙ ap (λ (l : List ℕ). units_for groups (map counted l)) (sym chosen)
      | inr fails ↦
          let chosen : filter test (a ∷ slots) ≡ filter test slots = ap (λ (b : Bool). cond b (a ∷ filter test slots) (filter test slots)) fails in
          let mine : x ≡ 0 = first ∙ ap (λ (b : Bool). cond b (counted a) 0) fails in
          let none : min groups 0 + units_for groups free ≡ units_for groups free = omega arith in
          whole
          ∙ ap (λ (n : ℕ). min groups n + units_for groups free) mine
          ∙ none
          ∙ rest
          ∙ ap (λ (l : List ℕ). units_for groups (map counted l)) (sym chosen)
    ]

same_groups : (xs ys : List ℕ) (groups : ℕ) → ((g : ℕ) → units_for g xs ≡ units_for g ys) → counts.IsGroups xs groups → counts.IsGroups ys groups
same_groups xs ys groups same is = record {
  enough = subst (λ (n : ℕ). 9 * groups ≤ n) (same groups) is.enough;
  greatest = λ more enough. is.greatest more (subst (λ (n : ℕ). 9 * more ≤ n) (sym (same more)) enough);
}

-- the groups of the members are those of the drives of all slots, where the others count none
pub groups_of_members : (boot : BootRecord) (ds : List SegmentFact) (patched left counted : List ℕ) (groups : ℕ) → IsBootRecord boot → AreDataSegments boot ds
    → LosesUnits (replicate 24 (boot.units - 3)) patched (patches_units boot.patches) → LosesUnits patched left (data_units ds) → CountsMembers left counted boot.members.drives → length counted ≡ 24
    → counts.IsGroups (take boot.slots counted) groups → (facts : Facts) → segments facts boot.next.segment ≡ ds → counts.IsGroups (free_of_members boot facts) groups
groups_of_members boot ds patched left counted groups lawful given patches_lose data_lose members size is facts same =
    let long : length (take boot.slots counted) ≡ boot.slots = length-take-le boot.slots counted (omega (arith, size, lawful.slots.1)) in
    same_groups (take boot.slots counted) (free_of_members boot facts) groups (λ g.
    members_are g (is_member boot) (free_units boot facts) 0 (take boot.slots counted) (λ i lt.
    let within : i < boot.slots = omega (arith, lt, long) in
    let e : i ≡ 0 + i = omega arith in
    get_or-take boot.slots counted i 0 within
    ∙ members i
    ∙ ap (λ (n : ℕ). cond (is_member boot i) n 0) (left_is_free boot ds patched left lawful given patches_lose data_lose facts same i within)
    ∙ ap (λ (k : ℕ). cond (is_member boot k) (free_units boot facts k) 0) e)
    ∙ ap (λ (n : ℕ). units_for g (map (free_units boot facts) (filter (is_member boot) (range_with_len 0 n)))) long) is

-- ---- the greatest number of groups

-- a member with so many free units
abbrev with_free : ℕ → Drive
with_free n = record { member = true; free = replicate n true }

-- drives with so many free units give so many
total_is_units : (groups : ℕ) (free : List ℕ) → total_at (map with_free free) groups ≡ units_for groups free
total_is_units groups [] = refl
total_is_units groups (n ∷ free) =
    let count : count_by (λ b. b) (replicate n true) ≡ n * 1 = sum_by-replicate (λ (b : Bool). cond b 1 0) n true in
    let whole : total_at (map with_free (n ∷ free)) groups ≡ share groups (with_free n) + total_at (map with_free free) groups = sum_by-cons (share groups) (with_free n) (map with_free free) in
    let mine : share groups (with_free n) ≡ min groups n = ap (min groups) (count ∙ let e : n * 1 ≡ n = omega arith in e) in
    whole ∙ ap (λ (k : ℕ). k + total_at (map with_free free) groups) mine ∙ ap (λ (k : ℕ). min groups n + k) (total_is_units groups free) ∙ sym (sum_by-cons (min groups) n free)

-- so many groups have no room, by the units that there are
pub too_many_at_first : (free : List ℕ) (groups units : ℕ) → units / 9 + 1 ≤ groups → units ≡ units_for groups free → units_for (units / 9 + 1) free < 9 * (units / 9 + 1)
too_many_at_first free groups units le is =
    subst (λ (n : ℕ). n < 9 * (units / 9 + 1)) (total_is_units (units / 9 + 1) free)
    (room-start (map with_free free) groups units le (is ∙ sym (total_is_units groups free)))

-- one that has room, and the next has none, is the greatest
pub groups_between : (free : List ℕ) (low high : ℕ) → high ≤ low + 1 → 9 * low ≤ units_for low free → units_for high free < 9 * high → counts.IsGroups free low
groups_between free low high next enough too_many =
    let found = groups-between (map with_free free) low high next
    (subst (λ (n : ℕ). 9 * low ≤ n) (sym (total_is_units low free)) enough)
    (subst (λ (n : ℕ). n < 9 * high) (sym (total_is_units high free)) too_many) in
    record {
      enough = enough;
      greatest = λ more room. found.greatest more (subst (λ (n : ℕ). 9 * more ≤ n) (sym (total_is_units more free)) room);
    }
