-- The record that is found where no store was unfinished: what the sound drives show wins over what they have in the other slot.
use Rattle.takeover.proofs.Prelude.{not-false, not_from_true, or_parts, nat_tests, ◌≡◌, ◌⊎◌, inl, inr, ℕ, zero, suc, ◌+◌, ◌*◌, ◌<◌, ◌≤◌, ◌||◌, Bool, true, false, List, Option, Some, None, map, refl, sym, ap, subst, arith, cond, count_by, not, option_and_then, slice_index_or, range_with_len, same_text, length-map-range_with_len, Geometry, Image, View, Conditions, Sound, IsBearable, is_missing, drive, SLOTS_MIN, set_count, BootSlot, A, B, IsDecided, IsEffective, Yields, body_in, generation_in, is_vote, other_slot, shown_by, votes, counted, held_votes, most_votes, not_missing, one_is_decided, this_or_other, IsMember, shown_body, unflagged}
use Rattle.boot_region.proofs.Stored.{count_none}

-- those of either kind are no more than those of both
either_count : (p q : ℕ → Bool) (a n : ℕ) → count_by (λ i. p i || q i) (range_with_len a n) ≤ count_by p (range_with_len a n) + count_by q (range_with_len a n)
either_count p q a zero = omega arith
either_count p q a (suc n) = omega (
  arith,
  counted (λ i. p i || q i) a (range_with_len (a + 1) n),
  counted p a (range_with_len (a + 1) n),
  counted q a (range_with_len (a + 1) n),
  one (p a) (q a),
  either_count p q (a + 1) n,
)
  where
    one : (x y : Bool) → cond (x || y) 1 0 ≤ cond x 1 0 + cond y 1 0
    one x y = grind (arith, nat_tests)

-- each can't win over the other
not_both : (next : BootSlot) (a b : ℕ) → Yields (other_slot next) a b → Yields next b a → ⊥
not_both A a b first second = absurd (omega (arith, first, second))
not_both B a b first second = absurd (omega (arith, first, second))

voted_for : (o : Option (List ℕ)) (body : List ℕ) → is_vote body o ≡ true → o ≡ Some body
voted_for None body e = absurd (cc e)
voted_for (Some other) body e = ap (λ (l : List ℕ). Some l) (same_text other body (sym e))

module _ (shelf : Geometry) (image : Image) (view : View) (missing : Conditions) (members : List Bool)
    (eleven : SLOTS_MIN ≤ shelf.slots) (bears : IsBearable shelf missing) (enough : shelf.slots ≤ set_count members + 2) (past : (i : ℕ) → shelf.slots ≤ i → IsMember members i → ⊥)
    (shown : (i : ℕ) → (view (drive i) ≡ Some (image (drive i))) ⊎ (view (drive i) ≡ None)) (answered : (i : ℕ) → IsMember members i → view (drive i) ≡ Some (image (drive i)))
    (next : BootSlot) (held : List ℕ) (stands : (i : ℕ) → i < shelf.slots → missing (drive i) ≡ Sound → shown_by (other_slot next) (image (drive i)) ≡ Some held)
    (older : (i : ℕ) → i < shelf.slots → missing (drive i) ≡ Sound → Yields (other_slot next) (generation_in (body_in next (image (drive i)))) (generation_in held)) where
  abbrev vote : BootSlot → ℕ → Option (List ℕ)
  vote slot i = option_and_then (shown_by slot) (view (drive i))

  abbrev gone : ℕ → Bool
  gone i = is_missing (missing (drive i))

  abbrev silent : ℕ → Bool
  silent i = not (slice_index_or members i false)

  two_gone : count_by gone (range_with_len 0 shelf.slots) ≤ 2
  two_gone = bears.drives

  two_silent : count_by silent (range_with_len 0 shelf.slots) ≤ 2
  two_silent =
      let few = unflagged silent members 0 shelf.slots (λ i lt m. let e : i ≡ 0 + i = omega arith in subst (λ (k : ℕ). silent k ≡ false) e (not_from_true (slice_index_or members i false) m)) past in
      omega (arith, few, enough)

  -- at most four drives are lost to the vote for the record in force
  vote_of : (i : ℕ) → i < shelf.slots → (gone i || silent i) ≡ false → vote (other_slot next) i ≡ Some held
  vote_of i lt out = grind (arith, nat_tests, or_parts, drive, not-false, slice_index_or, option_and_then, shown_by, other_slot, not_missing)

  decided : IsDecided (votes shelf view (other_slot next)) held
  decided =
      let most : shelf.slots ≤ count_by (is_vote held) (map (vote (other_slot next)) (range_with_len 0 shelf.slots)) + count_by (λ i. gone i || silent i) (range_with_len 0 shelf.slots) =
      held_votes (vote (other_slot next)) (λ i. gone i || silent i) held 0 shelf.slots (λ i low high out. vote_of i (omega (arith, high)) out) in
      let four = either_count gone silent 0 shelf.slots in
      rw (length-map-range_with_len (vote (other_slot next)) 0 shelf.slots) (omega (arith, most, four, two_gone, two_silent, eleven))

  -- what the other slot shows doesn't win
  module _ (body : List ℕ) (effective : IsEffective shelf view next body) where
    wins : Yields next (generation_in held) (generation_in body)
    wins = effective.highest held decided

    no_sound : (i : ℕ) → i < shelf.slots → gone i ≡ false → is_vote body (vote next i) ≡ true → ⊥
    no_sound i lt here voted = grind (arith, nat_tests, option_and_then, drive, voted_for, not_missing, not_both, shown_body, wins)

    abbrev never : ℕ → Bool
    never i = false

    pub not_next : ⊥
    not_next =
        let bound : count_by (is_vote body) (map (vote next) (range_with_len 0 shelf.slots)) ≤ count_by never (range_with_len 0 shelf.slots) + count_by gone (range_with_len 0 shelf.slots) =
        most_votes (vote next) gone never body 0 shelf.slots (λ i low high here voted. absurd (no_sound i (omega (arith, high)) here voted)) in
        let none : count_by never (range_with_len 0 shelf.slots) ≡ 0 = count_none never 0 shelf.slots (λ i low high. refl) in
        let most : shelf.slots < 2 * count_by (is_vote body) (map (vote next) (range_with_len 0 shelf.slots)) =
        subst (λ (n : ℕ). n < 2 * count_by (is_vote body) (map (vote next) (range_with_len 0 shelf.slots))) (length-map-range_with_len (vote next) 0 shelf.slots) effective.decided in
        absurd (omega (arith, bound, none, most, two_gone, eleven))

  -- so the record in force is given
  pub the_held : (slot : BootSlot) (body : List ℕ) → IsEffective shelf view slot body → (slot ≡ other_slot next) × (body ≡ held)
  the_held slot body effective = elim (this_or_other slot next) [
    | inl same ↦ absurd (not_next body (subst (λ (t : BootSlot). IsEffective shelf view t body) same effective))
    | inr other ↦ (other, one_is_decided (votes shelf view (other_slot next)) body held (subst (λ (t : BootSlot). IsDecided (votes shelf view t) body) other effective.decided) decided)
  ]
