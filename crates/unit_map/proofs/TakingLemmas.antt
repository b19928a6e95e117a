-- The lowest free unit of each drive that is chosen, taken slot by slot.
use Rattle.unit_map.proofs.Prelude.{nat_tests, ℕ, Bool, true, false, cond, ◌≡◌, ◌≢◌, ◌<◌, ◌≤◌, ◌+◌, ◌⊎◌, ⊎_elim, List, length, set, take, drop, count_by, Contains, sym, ap, ◌∙◌, subst, arith, get_or-set_same, get_or-set_other, length-set, get_or-drop, take_all, cases_eq, cases_Bool, get_or_past, get_or_default, get_or-map, length-map, take_more_set, sum_by-drop_more, fold_push, BOOT_UNITS, Place, Drive, IsLowestFree, no_drive, drive_at, free_count, slots_of, with_unit_of, with_units, IsPlace, IsHeld, IsTaken, ComesFirst, is_chosen, IsChoice, LosesOne, TakesChosen}
use Rattle.std.proofs.lemmas.List.Elements.{All-from_get_or}
use Rattle.unit_map.proofs.UnitLemmas.{count-none, count-removed}
use Rattle.unit_map.proofs.MapLemmas.{IsHeld-used}
use Rattle.unit_map.proofs.MarkLemmas.{no_place, place_at}

-- what stands once the drives below a slot have given their unit
pub record IsTakenUpTo (old now : List Drive) (chosen : List Bool) (places : List Place) (slot shard : ℕ) : Type 0 where
  pub size : length now ≡ length old
  pub room : length places ≡ 9
  pub left : shard + count_by (λ b. b) (drop slot chosen) ≡ 9
  pub used : now ≡ with_units false old (take shard places)
  pub rest : (k : ℕ) → slot ≤ k → drive_at now k ≡ drive_at old k
  pub below : (i : ℕ) → i < shard → (place_at places i).slot < slot
  pub flagged : (i : ℕ) → i < shard → is_chosen chosen (place_at places i).slot ≡ true
  pub lowest : (i : ℕ) → i < shard → IsLowestFree (drive_at old (place_at places i).slot).free (place_at places i).unit
  pub boot : (i : ℕ) → i < shard → BOOT_UNITS ≤ (place_at places i).unit
  pub ascending : (i j : ℕ) → i < j → j < shard → (place_at places i).slot < (place_at places j).slot
  pub found : (k : ℕ) → k < slot → is_chosen chosen k ≡ true → (i : ℕ) × (i < shard) × ((place_at places i).slot ≡ k)
  pub members : (k : ℕ) → (drive_at now k).member ≡ (drive_at old k).member
  pub counts : (k : ℕ) → k < slot → free_count (drive_at now k) + cond (is_chosen chosen k) 1 0 ≡ free_count (drive_at old k)

-- ---- a drive that isn't chosen

not-both : (b : Bool) → b ≡ true → b ≡ false → ⊥
not-both b e f = cc

left-step : (chosen : List Bool) (slot : ℕ) (flag : Bool) → slot < length chosen → is_chosen chosen slot ≡ flag → count_by (λ b. b) (drop slot chosen) ≡ cond flag 1 0 + count_by (λ b. b) (drop (slot + 1) chosen)
left-step chosen slot flag within is = sum_by-drop_more (λ (b : Bool). cond b 1 0) chosen slot false within ∙ ap (λ (b : Bool). cond b 1 0 + count_by (λ c. c) (drop (slot + 1) chosen)) is

last_or_below : (k slot : ℕ) → k < slot + 1 → (k ≡ slot) ⊎ (k < slot)
last_or_below k slot lt = grind (arith, nat_tests)

-- ---- a drive that is chosen

place-kept : (places : List Place) (shard i : ℕ) (place : Place) → i < shard → place_at (set places shard place) i ≡ place_at places i
place-kept places shard i place lt = let apart : i ≢ shard = omega arith in get_or-set_other places shard i place no_place apart

drive-kept : (now : List Drive) (slot k : ℕ) (drive : Drive) → k ≢ slot → drive_at (set now slot drive) k ≡ drive_at now k
drive-kept now slot k drive apart = get_or-set_other now slot k drive no_drive apart

pub shard-room : (old now : List Drive) (chosen : List Bool) (places : List Place) (slot shard : ℕ) → slot < length chosen → is_chosen chosen slot ≡ true
    → IsTakenUpTo old now chosen places slot shard → shard < 9
shard-room old now chosen places slot shard within is h = omega (arith, h.left, left-step chosen slot true within is)

pub taken-more : (old now : List Drive) (chosen : List Bool) (places : List Place) (slot shard unit : ℕ) → slot < length chosen → slot < length old → is_chosen chosen slot ≡ true
    → IsLowestFree (drive_at now slot).free unit → BOOT_UNITS ≤ unit
    → IsTakenUpTo old now chosen places slot shard
    → IsTakenUpTo old (set now slot (with_unit_of false unit (drive_at now slot))) chosen (set places shard (record { slot = slot; unit = unit })) (slot + 1) (shard + 1)
taken-more old now chosen places slot shard unit within inside is at boot h =
    let place : Place = record { slot = slot; unit = unit } in
    let now' = set now slot (with_unit_of false unit (drive_at now slot)) in
    let places' = set places shard place in
    let free_room : shard < length places = omega (arith, shard-room old now chosen places slot shard within is h, h.room) in
    let in_now : slot < length now = omega (arith, h.size) in
    let here : place_at places' shard ≡ place = get_or-set_same places shard place no_place free_room in
    let drive_here : drive_at now' slot ≡ with_unit_of false unit (drive_at now slot) = get_or-set_same now slot (with_unit_of false unit (drive_at now slot)) no_drive in_now in
    let same_drive : drive_at now slot ≡ drive_at old slot = h.rest slot (omega arith) in
    record {
      size = length-set now slot _ ∙ h.size;
      room = length-set places shard place ∙ h.room;
      left = omega (arith, h.left, left-step chosen slot true within is);
      used = grind (arith, nat_tests, fold_push, take_more_set);
      rest = λ k le. let apart : k ≢ slot = omega arith in drive-kept now slot k _ apart ∙ h.rest k (omega arith);
      below = grind (arith, nat_tests, place-kept, last_or_below);
      flagged = grind (arith, nat_tests, place-kept, last_or_below);
      lowest = grind (arith, nat_tests, place-kept, last_or_below);
      boot = grind (arith, nat_tests, place-kept, last_or_below);
      ascending = λ i j less lt.
          ⊎_elim
          (λ (same : j ≡ shard).
          let there : (place_at places' j).slot ≡ slot = ap (λ (m : ℕ). (place_at places' m).slot) same ∙ ap (λ (p : Place). p.slot) here in
          let kept : (place_at places' i).slot ≡ (place_at places i).slot = ap (λ (p : Place). p.slot) (place-kept places shard i place (omega arith)) in
          let was : (place_at places i).slot < slot = h.below i (omega arith) in omega arith)
          (λ (before : j < shard).
          let kept-j : (place_at places' j).slot ≡ (place_at places j).slot = ap (λ (p : Place). p.slot) (place-kept places shard j place before) in
          let kept-i : (place_at places' i).slot ≡ (place_at places i).slot = ap (λ (p : Place). p.slot) (place-kept places shard i place (omega arith)) in
          let was : (place_at places i).slot < (place_at places j).slot = h.ascending i j less before in omega arith)
          (last_or_below j shard lt);
      found = grind (arith, nat_tests, place-kept, last_or_below);
      members = grind (arith, nat_tests, drive-kept, cases_eq);
      counts = grind (arith, nat_tests, count-removed, drive-kept, last_or_below);
    }

-- ---- all of them

taken-in : (old now : List Drive) (chosen : List Bool) (places : List Place) (slot shard : ℕ) → length old ≤ slot → IsChoice old chosen 9 → IsTakenUpTo old now chosen places slot shard → shard ≡ 9
taken-in old now chosen places slot shard le choice h =
    let rest : count_by (λ b. b) (drop slot chosen) ≡ 0 = count-none (drop slot chosen) (λ k lt. get_or-drop slot chosen k false ∙ past k) in
    omega (arith, h.left)
  where
    past : (k : ℕ) → is_chosen chosen (slot + k) ≡ false
    past k = grind (arith, nat_tests, cases_Bool)

pub taken-slots : (old now : List Drive) (chosen : List Bool) (places : List Place) (slot : ℕ) → IsTakenUpTo old now chosen places slot 9
    → (k : ℕ) → k < slot → is_chosen chosen k ≡ true → Contains (slots_of places) k
taken-slots old now chosen places slot h k lt is = grind (arith, nat_tests, length-map, get_or-map, no_place)

is-taken : (old now : List Drive) (chosen : List Bool) (places : List Place) (slot : ℕ) → length old ≤ slot → IsChoice old chosen 9 → IsTakenUpTo old now chosen places slot 9 → IsTaken old places
is-taken old now chosen places slot le choice h = record {
  ascending = grind (arith, nat_tests, get_or_default, no_place);
  within = All-from_get_or (IsPlace old) places no_place (λ i lt.
      let below : i < 9 = omega (arith, h.room) in
      record {
        slot = choice.within (place_at places i).slot (h.flagged i below);
        boot = h.boot i below;
        unit = (h.lowest i below).within;
      });
  members = grind (arith, nat_tests, no_place);
  first = All-from_get_or (λ (p : Place). (k : ℕ) → (drive_at old k).member ≡ true → ¬ Contains (slots_of places) k → ComesFirst old p.slot k) places no_place (λ i lt k member missing.
      ⊎_elim
      (λ (is : is_chosen chosen k ≡ true). absurd (missing (taken-slots old now chosen places slot h k (omega (arith, choice.within k is)) is)))
      (λ (unset : is_chosen chosen k ≡ false). choice.first (place_at places i).slot k (h.flagged i (omega (arith, h.room))) unset member)
      (cases_Bool (is_chosen chosen k)));
  lowest = All-from_get_or (λ (p : Place). IsLowestFree (drive_at old p.slot).free p.unit) places no_place (λ i lt. h.lowest i (omega (arith, h.room)));
}

loses-one : (old now : List Drive) (chosen : List Bool) (places : List Place) (slot : ℕ) → length old ≤ slot → IsChoice old chosen 9 → IsTakenUpTo old now chosen places slot 9 → LosesOne old now chosen
loses-one old now chosen places slot le choice h = grind (arith, nat_tests)

pub taken-all : (old now : List Drive) (chosen : List Bool) (places : List Place) (slot shard : ℕ) → length old ≤ slot → IsChoice old chosen 9 → IsTakenUpTo old now chosen places slot shard → TakesChosen old now chosen places
taken-all old now chosen places slot shard le choice h =
    let nine : shard ≡ 9 = taken-in old now chosen places slot shard le choice h in
    let all : IsTakenUpTo old now chosen places slot 9 = subst (λ (n : ℕ). IsTakenUpTo old now chosen places slot n) nine h in
    let taken : IsTaken old places = is-taken old now chosen places slot le choice all in
    let used : now ≡ with_units false old places = all.used ∙ ap (with_units false old) (take_all 9 places (omega (arith, all.room))) in
    record {
      taken = taken;
      used = used;
      held = subst (λ (ds : List Drive). IsHeld ds places) (sym used) (IsHeld-used old places taken.ascending taken.within);
      loses = loses-one old now chosen places slot le choice all;
    }

pub chosen-within : (chosen : List Bool) (slot : ℕ) → is_chosen chosen slot ≡ true → slot < length chosen
chosen-within chosen slot is = grind (arith, nat_tests, get_or_past)
