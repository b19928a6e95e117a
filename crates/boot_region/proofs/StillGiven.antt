-- A record that might be given may be given still, though gates were opened over its own body, or closed in the other slot.
use Rattle.boot_region.proofs.Prelude.{nat_tests, ◌≡◌, ◌⊎◌, inl, inr, ℕ, zero, suc, ◌+◌, ◌≤◌, ◌<◌, List, length, map, refl, sym, ◌∙◌, ap, subst, arith, true, false, IfSome, Option, Some, None, option_and_then, count_by, if◌then◌else◌, range_with_len, same_text, cases_lt, length-map-range_with_len, Device, Geometry, Image, View, Condition, Conditions, Sound, Missing, LeftOut, is_sound, drive, BootRecord, spelling, BootSlot, A, B, IsDecided, Yields, generation_in, other_slot, shown_by, votes, is_vote, MayBeGiven, MayAppear, OpensGatesOf, ClosesGatesOf, twice_other, counted, sound_before, same_over}

sound_is : (c : Condition) → is_sound c ≡ true → c ≡ Sound
sound_is Sound e = refl
sound_is Missing e = absurd (cc e)
sound_is LeftOut e = absurd (cc e)

pub yields_or : (s : BootSlot) (a b : ℕ) → Yields s a b ⊎ (Yields s a b → ⊥)
yields_or A a b = elim (cases_lt b a) [ inl lt ↦ inr (λ le. omega (arith, lt, le)) | inr ge ↦ inl ge ]
yields_or B a b = elim (cases_lt a b) [ inl lt ↦ inl lt | inr ge ↦ inr (λ lt. omega (arith, lt, ge)) ]

-- what has each vote that another list has is decided where that is
more_votes : (f g : ℕ → Option (List ℕ)) (body : List ℕ) (a n : ℕ) → ((i : ℕ) → i < a + n → is_vote body (f i) ≡ true → is_vote body (g i) ≡ true)
    → count_by (is_vote body) (map f (range_with_len a n)) ≤ count_by (is_vote body) (map g (range_with_len a n))
more_votes f g body a zero all = omega arith
more_votes f g body a (suc n) all =
    let rest = more_votes f g body (a + 1) n (λ i lt. all i (omega (arith, lt))) in
    grind (arith, nat_tests, rest, counted (is_vote body) (f a) (map f (range_with_len (a + 1) n)), counted (is_vote body) (g a) (map g (range_with_len (a + 1) n)))

pub decided_by_more : (f g : ℕ → Option (List ℕ)) (body : List ℕ) (n : ℕ) → ((i : ℕ) → i < n → is_vote body (f i) ≡ true → is_vote body (g i) ≡ true)
    → IsDecided (map f (range_with_len 0 n)) body → IsDecided (map g (range_with_len 0 n)) body
decided_by_more f g body n all d =
    let le = more_votes f g body 0 n (λ i lt. all i (omega (arith, lt))) in
    let p : length (map f (range_with_len 0 n)) ≡ n = length-map-range_with_len f 0 n in
    let q : length (map g (range_with_len 0 n)) ≡ n = length-map-range_with_len g 0 n in
    omega (arith, d, le, p, q)

module _ (shelf : Geometry) (old new : Image) (missing : Conditions) (slot : BootSlot) (boot : BootRecord) (g : MayBeGiven shelf old missing slot boot) where
  -- sound devices as they are now, and the others as they were shown
  shown_now : View
  shown_now device = if is_sound (g.more device) then Some (new device) else g.view device

  now_sound : (device : Device) → g.more device ≡ Sound → shown_now device ≡ Some (new device)
  unfolding shown_now
  now_sound device s = rw s refl

  now_other : (device : Device) → is_sound (g.more device) ≡ false → shown_now device ≡ g.view device
  unfolding shown_now
  now_other device u = rw u refl

  abbrev vote_now : BootSlot → ℕ → Option (List ℕ)
  vote_now t i = option_and_then (shown_by t) (shown_now (drive i))

  abbrev vote_then : BootSlot → ℕ → Option (List ℕ)
  vote_then t i = option_and_then (shown_by t) (g.view (drive i))

  -- a drive's vote is that of then, or it's sound
  vote_cases : (t : BootSlot) (i : ℕ) → (vote_now t i ≡ vote_then t i)
      ⊎ ((missing (drive i) ≡ Sound) × (vote_now t i ≡ shown_by t (new (drive i))) × (vote_then t i ≡ shown_by t (old (drive i))))
  vote_cases t i = grind (arith, nat_tests, is_sound, drive, sound_is, sound_before, option_and_then, shown_by, now_sound, now_other)

  -- then it may be given, where it's decided still and what is decided in the other slot was so
  keeps_given : IsDecided (votes shelf shown_now slot) (spelling boot)
      → ((other : List ℕ) → IsDecided (votes shelf shown_now (other_slot slot)) other → Yields slot (generation_in other) (generation_in (spelling boot)))
      → MayBeGiven shelf new missing slot boot
  keeps_given decided highest = grind (arith, nat_tests, shown_now, now_sound)

  -- gates are opened over its body
  opening : OpensGatesOf old new missing slot (spelling boot) → MayBeGiven shelf new missing slot boot
  opening opens = keeps_given
      (decided_by_more (vote_then slot) (vote_now slot) (spelling boot) shelf.slots stays g.effective.decided)
      (λ other d. g.effective.highest other (subst (λ vs. IsDecided vs other) same d))
    where
      stays : (i : ℕ) → i < shelf.slots → is_vote (spelling boot) (vote_then slot i) ≡ true → is_vote (spelling boot) (vote_now slot i) ≡ true
      stays i lt voted = grind (arith, nat_tests, vote_cases)

      same : votes shelf shown_now (other_slot slot) ≡ votes shelf g.view (other_slot slot)
      same = same_over (vote_now (other_slot slot)) (vote_then (other_slot slot)) 0 shelf.slots (λ i lt. elim (vote_cases (other_slot slot) i) [
        | inl e ↦ e
        | inr (s, now, was) ↦ now ∙ opens.others i s ∙ sym was
      ])

pub opening_keeps : (shelf : Geometry) (old new : Image) (missing : Conditions) (slot : BootSlot) (boot : BootRecord) → OpensGatesOf old new missing slot (spelling boot)
    → MayBeGiven shelf old missing slot boot → MayBeGiven shelf new missing slot boot
opening_keeps shelf old new missing slot boot opens g = opening shelf old new missing slot boot g opens

-- gates of the other slot are closed, and it's decided still
pub closing_keeps : (shelf : Geometry) (old new : Image) (missing : Conditions) (slot : BootSlot) (boot : BootRecord) → ClosesGatesOf old new missing slot (spelling boot)
    → ((more : Conditions) (view : View) → MayAppear shelf new missing more view → IsDecided (votes shelf view (other_slot slot)) (spelling boot))
    → MayBeGiven shelf old missing (other_slot slot) boot → MayBeGiven shelf new missing (other_slot slot) boot
closing_keeps shelf old new missing slot boot closes decided g =
    keeps_given shelf old new missing (other_slot slot) boot g
    (decided g.more (shown_now shelf old new missing (other_slot slot) boot g)
    (record { within = g.appears.within; bearable = g.appears.bearable; shown = now_sound shelf old new missing (other_slot slot) boot g }))
    (λ other d. elim (yields_or (other_slot slot) (generation_in other) (generation_in (spelling boot))) [
      | inl yields ↦ yields
      | inr wins ↦ g.effective.highest other (was_decided other wins d)
    ])
  where
    now_at : ℕ → Option (List ℕ)
    now_at = vote_now shelf old new missing (other_slot slot) boot g (other_slot (other_slot slot))

    then_at : ℕ → Option (List ℕ)
    then_at = vote_then shelf old new missing (other_slot slot) boot g (other_slot (other_slot slot))

    loses : (o : Option (List ℕ)) (other : List ℕ) → IfSome o (λ body. Yields (other_slot slot) (generation_in body) (generation_in (spelling boot)))
        → (Yields (other_slot slot) (generation_in other) (generation_in (spelling boot)) → ⊥) → is_vote other o ≡ true → ⊥
    loses None other yields wins voted = absurd (cc voted)
    loses (Some x) other yields wins voted = wins (subst (λ (b : List ℕ). Yields (other_slot slot) (generation_in b) (generation_in (spelling boot))) (same_text x other (sym voted)) yields)

    twice : (bytes : List ℕ) → shown_by (other_slot (other_slot slot)) bytes ≡ shown_by slot bytes
    twice bytes = ap (λ (t : BootSlot). shown_by t bytes) (twice_other slot)

    was_voted : (other : List ℕ) → (Yields (other_slot slot) (generation_in other) (generation_in (spelling boot)) → ⊥) → (i : ℕ) → is_vote other (now_at i) ≡ true → is_vote other (then_at i) ≡ true
    was_voted other wins i voted = grind (arith, nat_tests, vote_cases, twice, loses)

    was_decided : (other : List ℕ) → (Yields (other_slot slot) (generation_in other) (generation_in (spelling boot)) → ⊥)
        → IsDecided (votes shelf (shown_now shelf old new missing (other_slot slot) boot g) (other_slot (other_slot slot))) other → IsDecided (votes shelf g.view (other_slot (other_slot slot))) other
    was_decided other wins d = decided_by_more now_at then_at other shelf.slots (λ i lt voted. was_voted other wins i voted) d
