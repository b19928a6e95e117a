-- What regions show, and how many of them show a body.
use Rattle.boot_region.proofs.Prelude.{nat_tests, ◌≡◌, ℕ, zero, suc, ◌+◌, ◌*◌, ◌<◌, ◌≤◌, ◌&&◌, List, [], ◌∷◌, length, map, take, drop, get_or, refl, sym, ap, subst, ◌∙◌, add-zero, arith, Bool, true, false, cond, eqb, ltb, inl, inr, IsTrue, ◌↔◌, Option, Some, None, count_by, slice_index, slice_index_or, option_and_then, eq-eqb, ltb-true, lt-ltb, range_with_len, cases_Bool, bytes_eq, length-map-range_with_len, same_text, Geometry, BootSlot, A, B, gate_place, body_place, shown_by, is_vote, votes, generation_in, other_slot, IsDecided, IsEffective, RECORD_BYTES, counted, one_is_decided, REGION_BYTES, region_at, seen, is_body_in, is_holding, vote_of, all_votes, IsUndecided, GivesNone, IsNewerOf}
use Rattle.std.proofs.Math.ListN.{get_or-eq_default}

-- a body under an open gate is shown
pub shown_is : (slot : BootSlot) (bytes : List ℕ) (gate at n : ℕ) → gate ≡ gate_place slot → at ≡ body_place slot → n ≡ 65536 → slice_index bytes gate ≡ 1
    → Some (take n (drop at bytes)) ≡ shown_by slot bytes
shown_is slot bytes gate at n g a m e =
    let is_one : eqb (slice_index bytes (gate_place slot)) 1 ≡ true = eq-eqb (slice_index bytes (gate_place slot)) 1 (ap (slice_index bytes) (sym g) ∙ e) in
    rw is_one (λ i. Some (take (m i) (drop (a i) bytes)))

-- one vote more
pub counts_more : {X : Type 0} (p : X → Bool) (f : ℕ → X) (a n : ℕ) → count_by p (map f (range_with_len a (suc n))) ≡ count_by p (map f (range_with_len a n)) + cond (p (f (a + n))) 1 0
counts_more p f a zero = grind (arith, nat_tests, add-zero)
counts_more p f a (suc n) =
    let rest : count_by p (map f (range_with_len (a + 1) (suc n))) ≡ count_by p (map f (range_with_len (a + 1) n)) + cond (p (f (a + 1 + n))) 1 0 = counts_more p f (a + 1) n in
    let same : a + 1 + n ≡ a + suc n = omega arith in
    let at : ◌≡◌ {A = ℕ} (cond (p (f (a + 1 + n))) 1 0) (cond (p (f (a + suc n))) 1 0) = ap (λ (k : ℕ). cond (p (f k)) 1 0) same in
    omega (arith, counted p (f a) (map f (range_with_len (a + 1) (suc n))), counted p (f a) (map f (range_with_len (a + 1) n)), rest, at)

-- the region of a drive that answered
pub region_is : (read bytes : List ℕ) (answered : List Bool) (i x n : ℕ) → read ≡ bytes → x ≡ REGION_BYTES * i → n ≡ REGION_BYTES → get_or answered i false ≡ true
    → Some (take n (drop x read)) ≡ region_at bytes answered i
unfolding region_at
region_is read bytes answered i x n is at m answers = rw answers (λ k. Some (take (m k) (drop (at k) (is k))))

-- a body that has a vote is shown by some drive
pub some_vote : (f : ℕ → Option (List ℕ)) (body : List ℕ) (a n : ℕ) → 0 < count_by (is_vote body) (map f (range_with_len a n)) → (k : ℕ) × (k < a + n) × (f k ≡ Some body)
some_vote f body a zero some = absurd (omega (arith, some))
some_vote f body a (suc n) some = one (f a) refl (λ h. some_vote f body (a + 1) n h)
  where
    Rest : Type 0
    Rest = 0 < count_by (is_vote body) (map f (range_with_len (a + 1) n)) → (k : ℕ) × (k < a + 1 + n) × (f k ≡ Some body)

    count : ℕ
    count = count_by (is_vote body) (map f (range_with_len (a + 1) n))

    later : (o : Option (List ℕ)) → f a ≡ o → is_vote body o ≡ false → Rest → (k : ℕ) × (k < a + suc n) × (f k ≡ Some body)
    later o e not_it rest = grind (arith, nat_tests)

    one : (o : Option (List ℕ)) → f a ≡ o → Rest → (k : ℕ) × (k < a + suc n) × (f k ≡ Some body)
    one None e rest = later None e refl rest
    one (Some other) e rest = elim (cases_Bool (bytes_eq other body)) [
      | inl same ↦ (a, omega arith, e ∙ ap (λ (b : List ℕ). Some b) (same_text other body (sym same)))
      | inr not_same ↦ later (Some other) e not_same rest
    ]

-- one vote more, from the first on
pub counts_next : {X : Type 0} (p : X → Bool) (f : ℕ → X) (n : ℕ) (b : Bool) → b ≡ p (f n)
    → count_by p (map f (range_with_len 0 (n + 1))) ≡ count_by p (map f (range_with_len 0 n)) + cond b 1 0
counts_next p f n b e = grind (arith, nat_tests, count_by, cond, counts_more)

-- what a drive shows in a slot, by its region
pub vote_in : (bytes : List ℕ) (answered : List Bool) (slot : BootSlot) (i : ℕ) (region : List ℕ) (vote : Option (List ℕ))
    → Some region ≡ region_at bytes answered i → vote ≡ shown_by slot region → vote ≡ vote_of bytes answered slot i
unfolding vote_of
vote_in bytes answered slot i region vote is shows = shows ∙ ap (option_and_then (shown_by slot)) is

-- and without one
pub no_vote : (bytes : List ℕ) (answered : List Bool) (slot : BootSlot) (i : ℕ) → None ≡ region_at bytes answered i → None ≡ vote_of bytes answered slot i
unfolding vote_of
no_vote bytes answered slot i is = ap (option_and_then (shown_by slot)) is

-- as many votes as drives
pub votes_of_all : (bytes : List ℕ) (answered : List Bool) (slot : BootSlot) → length (all_votes bytes answered slot) ≡ length answered
unfolding all_votes
votes_of_all bytes answered slot = length-map-range_with_len (vote_of bytes answered slot) 0 (length answered)

-- a body that has more than half of the votes is shown by some drive
pub decided_is_shown : (bytes : List ℕ) (answered : List Bool) (slot : BootSlot) (body : List ℕ) → IsDecided (all_votes bytes answered slot) body
    → (k : ℕ) × (k < length answered) × (vote_of bytes answered slot k ≡ Some body)
unfolding all_votes
decided_is_shown bytes answered slot body most =
    let all : length (all_votes bytes answered slot) ≡ length answered = votes_of_all bytes answered slot in
    let found = some_vote (vote_of bytes answered slot) body 0 (length answered) (omega (arith, most)) in
    (found.0, omega (arith, found.1), found.2)

-- the test for more than half is right
pub half_is_passed : (bytes : List ℕ) (answered : List Bool) (slot : BootSlot) (body : List ℕ) (drives votes : ℕ) → drives ≡ length answered
    → votes ≡ count_by (is_vote body) (all_votes bytes answered slot) → IsTrue (ltb drives (2 * votes)) ↔ IsDecided (all_votes bytes answered slot) body
half_is_passed bytes answered slot body drives votes is counted_are = grind (arith, nat_tests, votes_of_all, ltb-true, lt-ltb)

-- ---- the body in force

-- the votes of the view are those of the regions
pub votes_seen : (shelf : Geometry) (bytes : List ℕ) (answered : List Bool) (slot : BootSlot) → shelf.slots ≡ length answered
    → votes shelf (seen bytes answered) slot ≡ all_votes bytes answered slot
unfolding all_votes vote_of
votes_seen shelf bytes answered slot drives = ap (λ n. map (λ i. option_and_then (shown_by slot) (region_at bytes answered i)) (range_with_len 0 n)) drives

-- decided by the regions, decided in the view
pub decided_in_view : (shelf : Geometry) (bytes : List ℕ) (answered : List Bool) (slot : BootSlot) (body : List ℕ) → shelf.slots ≡ length answered
    → IsDecided (all_votes bytes answered slot) body → IsDecided (votes shelf (seen bytes answered) slot) body
decided_in_view shelf bytes answered slot body drives most = subst (λ v. IsDecided v body) (sym (votes_seen shelf bytes answered slot drives)) most

-- and the other way
pub decided_by_regions : (shelf : Geometry) (bytes : List ℕ) (answered : List Bool) (slot : BootSlot) (body : List ℕ) → shelf.slots ≡ length answered
    → IsDecided (votes shelf (seen bytes answered) slot) body → IsDecided (all_votes bytes answered slot) body
decided_by_regions shelf bytes answered slot body drives most = subst (λ v. IsDecided v body) (votes_seen shelf bytes answered slot drives) most

-- of two decided bodies the newer is in force
pub newer_of_both : (bytes : List ℕ) (answered : List Bool) (a b : List ℕ) (slot : BootSlot) (body : List ℕ)
    → IsDecided (all_votes bytes answered A) a → IsDecided (all_votes bytes answered B) b → IsNewerOf a b slot body
    → (shelf : Geometry) → shelf.slots ≡ length answered → IsEffective shelf (seen bytes answered) slot body
newer_of_both bytes answered a b A body first second newer shelf drives = record {
  decided = decided_in_view shelf bytes answered A body drives (subst (IsDecided (all_votes bytes answered A)) (sym newer.0) first);
  highest = λ other most.
      let same : other ≡ b = one_is_decided (all_votes bytes answered B) other b (decided_by_regions shelf bytes answered B other drives most) second in
      omega (arith, newer.1, ap generation_in same, ap generation_in newer.0);
}
newer_of_both bytes answered a b B body first second newer shelf drives = record {
  decided = decided_in_view shelf bytes answered B body drives (subst (IsDecided (all_votes bytes answered B)) (sym newer.0) second);
  highest = λ other most.
      let same : other ≡ a = one_is_decided (all_votes bytes answered A) other a (decided_by_regions shelf bytes answered A other drives most) first in
      omega (arith, newer.1, ap generation_in same, ap generation_in newer.0);
}

-- a body that is decided alone is in force
pub only_one : (bytes : List ℕ) (answered : List Bool) (slot : BootSlot) (body : List ℕ)
    → IsDecided (all_votes bytes answered slot) body → IsUndecided (all_votes bytes answered (other_slot slot))
    → (shelf : Geometry) → shelf.slots ≡ length answered → IsEffective shelf (seen bytes answered) slot body
only_one bytes answered slot body most none shelf drives = record {
  decided = decided_in_view shelf bytes answered slot body drives most;
  highest = λ other more. absurd (none other (decided_by_regions shelf bytes answered (other_slot slot) other drives more));
}

-- where none is decided in either slot, none is in the view
pub none_of_both : (bytes : List ℕ) (answered : List Bool) → IsUndecided (all_votes bytes answered A) → IsUndecided (all_votes bytes answered B)
    → (shelf : Geometry) → shelf.slots ≡ length answered → GivesNone shelf (seen bytes answered)
none_of_both bytes answered first second shelf drives A body most = first body (decided_by_regions shelf bytes answered A body drives most)
none_of_both bytes answered first second shelf drives B body most = second body (decided_by_regions shelf bytes answered B body drives most)

-- ---- the drives on which a body stands

-- by the region of a drive
pub holding_in : (bytes : List ℕ) (answered : List Bool) (slot : BootSlot) (body region : List ℕ) (i at n : ℕ) (b : Bool) → Some region ≡ region_at bytes answered i
    → at ≡ body_place slot → n ≡ RECORD_BYTES → b ≡ bytes_eq (take n (drop at region)) body → b ≡ is_holding bytes answered slot body i
unfolding is_holding
holding_in bytes answered slot body region i at n b is start size same =
    same ∙ ap (λ a. bytes_eq (take n (drop a region)) body) start ∙ ap (λ k. bytes_eq (take k (drop (body_place slot) region)) body) size ∙ ap (is_body_in slot body) is

-- not on a drive that didn't answer
pub not_holding : (bytes : List ℕ) (answered : List Bool) (slot : BootSlot) (body : List ℕ) (i : ℕ) → None ≡ region_at bytes answered i
    → false ≡ is_holding bytes answered slot body i
unfolding is_holding
not_holding bytes answered slot body i is = ap (is_body_in slot body) is

-- nor where there is none
pub none_behind : (bytes : List ℕ) (answered : List Bool) (slot : BootSlot) (body : List ℕ) (i : ℕ) (b : Bool) → length answered ≤ i → false ≡ (b && is_holding bytes answered slot body i)
unfolding is_holding region_at
none_behind bytes answered slot body i b behind =
    let none : slice_index_or answered i false ≡ false = get_or-eq_default answered false behind in
    rw none (of_and b)
  where
    of_and : (b : Bool) → false ≡ (b && false)
    of_and true = refl
    of_and false = refl
