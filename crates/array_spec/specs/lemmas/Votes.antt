-- Majorities.
use Rattle.std.proofs.Common.{◌≡◌, ℕ, zero, suc, map, ◌+◌, ◌*◌, ◌≤◌, ◌<◌, List, [], ◌∷◌, length, refl, sym, ap, subst, arith, inl, inr, ◌∙◌, Bool, true, false, cond}
use Rattle.std.specs.Prelude.{Option, Some, None, ◌⊎◌, count_by}
use Rattle.std.specs.Str.{bytes_eq}
use Rattle.std.specs.List.{range_with_len}
use Rattle.std.proofs.lemmas.Slice.Eq.{bytes_eq-Decides}
use Rattle.std.proofs.lemmas.List.FromFn.{length-map-range_with_len}
use Rattle.std.proofs.lemmas.List.Sums.{sum_by-cons}
use Rattle.std.specs.Cmp.Lexicographic.{same_text}
use Rattle.std.specs.Prelude.{option_and_then}
use Rattle.boot_codec.specs.Prelude.{drive, Condition, Sound, Missing, LeftOut, is_missing, MayBecome, is_vote, IsDecided, BootSlot, A, B, votes, Yields, generation_in, other_slot, shown_by}
use Rattle.array_spec.specs.Laws.{OneIsDecided, OneIsEffective, HeldIsGiven, is_sound_vote}

one_more : (o a b : List ℕ) (p q : Bool) (m n l : ℕ) → bytes_eq o a ≡ p → bytes_eq o b ≡ q → (a ≡ b) ⊎ (m + n ≤ l) → (a ≡ b) ⊎ ((cond p 1 0 + m) + (cond q 1 0 + n) ≤ suc l)
one_more o a b p q m n l e f (inl same) = inl same
one_more o a b true true m n l e f (inr h) = inl (sym (same_text o a (sym e)) ∙ same_text o b (sym f))
one_more o a b true false m n l e f (inr h) = inr (omega (arith, h))
one_more o a b false true m n l e f (inr h) = inr (omega (arith, h))
one_more o a b false false m n l e f (inr h) = inr (omega (arith, h))

pub counted : {X : Type 0} (p : X → Bool) (x : X) (xs : List X) → count_by p (x ∷ xs) ≡ cond (p x) 1 0 + count_by p xs
counted p x xs = sum_by-cons (λ y. cond (p y) 1 0) x xs

shared : (vs : List (Option (List ℕ))) (a b : List ℕ) → (a ≡ b) ⊎ (count_by (is_vote a) vs + count_by (is_vote b) vs ≤ length vs)
shared [] a b = inr (omega arith)
shared (None ∷ vs) a b =
    let e : count_by (is_vote a) (None ∷ vs) ≡ 0 + count_by (is_vote a) vs = counted (is_vote a) None vs in
    let f : count_by (is_vote b) (None ∷ vs) ≡ 0 + count_by (is_vote b) vs = counted (is_vote b) None vs in
    elim (shared vs a b) [ inl same ↦ inl same | inr h ↦ inr (omega (arith, e, f, h)) ]
shared (Some o ∷ vs) a b =
    rw (counted (is_vote a) (Some o) vs) (rw (counted (is_vote b) (Some o) vs)
    (one_more o a b (bytes_eq o a) (bytes_eq o b) (count_by (is_vote a) vs) (count_by (is_vote b) vs) (length vs) refl refl (shared vs a b)))

pub one_is_decided : OneIsDecided
one_is_decided vs a b first second = elim (shared vs a b) [ inl e ↦ e | inr h ↦ absurd (omega (arith, first, second, h)) ]

pub one_is_effective : OneIsEffective
one_is_effective shelf view A A a b first second = (refl, one_is_decided (votes shelf view A) a b first.decided second.decided)
one_is_effective shelf view B B a b first second = (refl, one_is_decided (votes shelf view B) a b first.decided second.decided)
one_is_effective shelf view A B a b first second =
    let h : generation_in b ≤ generation_in a = first.highest b second.decided in
    let k : generation_in a < generation_in b = second.highest a first.decided in absurd (omega (arith, h, k))
one_is_effective shelf view B A a b first second =
    let h : generation_in b < generation_in a = first.highest b second.decided in
    let k : generation_in a ≤ generation_in b = second.highest a first.decided in absurd (omega (arith, h, k))

-- of n votes from a on, those that must be for the body and those that needn't make up all
pub held_votes : (f : ℕ → Option (List ℕ)) (m : ℕ → Bool) (body : List ℕ) (a n : ℕ)
    → ((i : ℕ) → a ≤ i → i < a + n → m i ≡ false → f i ≡ Some body)
    → n ≤ count_by (is_vote body) (map f (range_with_len a n)) + count_by m (range_with_len a n)
held_votes f m body a zero all = omega arith
held_votes f m body a (suc n) all =
    let rest : n ≤ count_by (is_vote body) (map f (range_with_len (a + 1) n)) + count_by m (range_with_len (a + 1) n) =
    held_votes f m body (a + 1) n (λ i low high unmarked. all i (omega (arith, low)) (omega (arith, high)) unmarked) in
    rw (counted (is_vote body) (f a) (map f (range_with_len (a + 1) n))) (rw (counted m a (range_with_len (a + 1) n))
    (one (m a) refl rest))
  where
    one : (b : Bool) → m a ≡ b → n ≤ count_by (is_vote body) (map f (range_with_len (a + 1) n)) + count_by m (range_with_len (a + 1) n)
        → suc n ≤ (cond (is_vote body (f a)) 1 0 + count_by (is_vote body) (map f (range_with_len (a + 1) n))) + (cond (m a) 1 0 + count_by m (range_with_len (a + 1) n))
    one true e rest = rw e (omega (arith, rest))
    one false e rest =
        let same : f a ≡ Some body = all a (omega arith) (omega arith) e in
        let yes : bytes_eq body body ≡ true = (bytes_eq-Decides body body).1 refl in
        rw same (rw yes (omega (arith, rest)))

-- the votes for a body are at most those of the sound and those that may be anything
pub most_votes : (f : ℕ → Option (List ℕ)) (m sound : ℕ → Bool) (body : List ℕ) (a n : ℕ)
    → ((i : ℕ) → a ≤ i → i < a + n → m i ≡ false → is_vote body (f i) ≡ true → sound i ≡ true)
    → count_by (is_vote body) (map f (range_with_len a n)) ≤ count_by sound (range_with_len a n) + count_by m (range_with_len a n)
most_votes f m sound body a zero all = omega arith
most_votes f m sound body a (suc n) all =
    let rest : count_by (is_vote body) (map f (range_with_len (a + 1) n)) ≤ count_by sound (range_with_len (a + 1) n) + count_by m (range_with_len (a + 1) n) =
    most_votes f m sound body (a + 1) n (λ i low high unmarked voted. all i (omega (arith, low)) (omega (arith, high)) unmarked voted) in
    rw (counted (is_vote body) (f a) (map f (range_with_len (a + 1) n))) (rw (counted sound a (range_with_len (a + 1) n)) (rw (counted m a (range_with_len (a + 1) n))
    (one (m a) (is_vote body (f a)) (sound a) refl refl refl rest)))
  where
    one : (b c d : Bool) → m a ≡ b → is_vote body (f a) ≡ c → sound a ≡ d
        → count_by (is_vote body) (map f (range_with_len (a + 1) n)) ≤ count_by sound (range_with_len (a + 1) n) + count_by m (range_with_len (a + 1) n)
        → cond (is_vote body (f a)) 1 0 + count_by (is_vote body) (map f (range_with_len (a + 1) n))
        ≤ (cond (sound a) 1 0 + count_by sound (range_with_len (a + 1) n)) + (cond (m a) 1 0 + count_by m (range_with_len (a + 1) n))
    one true true true e v d rest = rw (e, v, d) (omega (arith, rest))
    one true true false e v d rest = rw (e, v, d) (omega (arith, rest))
    one true false true e v d rest = rw (e, v, d) (omega (arith, rest))
    one true false false e v d rest = rw (e, v, d) (omega (arith, rest))
    one false true c e v d rest = let so : sound a ≡ true = all a (omega arith) (omega arith) e v in rw (e, v, so) (omega (arith, rest))
    one false false true e v d rest = rw (e, v, d) (omega (arith, rest))
    one false false false e v d rest = rw (e, v, d) (omega (arith, rest))

pub not_missing : (c : Condition) → is_missing c ≡ false → c ≡ Sound
not_missing Sound e = refl
not_missing Missing e = cc
not_missing LeftOut e = cc

pub sound_before : (a b : Condition) → MayBecome a b → b ≡ Sound → a ≡ Sound
sound_before Sound b h e = refl
sound_before Missing b h e = sym h ∙ e
sound_before LeftOut b h e = sym h ∙ e

pub held_is_given : HeldIsGiven
held_is_given shelf image missing more view slot body eleven held v = record { decided = decided; highest = highest }
  where
    missing_at : ℕ → Bool
    missing_at i = is_missing (more (drive i))

    vote : BootSlot → ℕ → Option (List ℕ)
    vote s i = option_and_then (shown_by s) (view (drive i))

    was_sound : (i : ℕ) → missing_at i ≡ false → missing (drive i) ≡ Sound
    was_sound i unmarked = sound_before (missing (drive i)) (more (drive i)) (v.within (drive i)) (not_missing (more (drive i)) unmarked)

    shows : (i : ℕ) → missing_at i ≡ false → view (drive i) ≡ Some (image (drive i))
    shows i unmarked = v.shown (drive i) (not_missing (more (drive i)) unmarked)

    votes_for : (i : ℕ) → 0 ≤ i → i < 0 + shelf.slots → missing_at i ≡ false → vote slot i ≡ Some body
    votes_for i low high unmarked = rw (shows i unmarked) (held.shown i (omega (arith, high)) (was_sound i unmarked))

    two : count_by missing_at (range_with_len 0 shelf.slots) ≤ 2
    two = v.bearable.drives

    decided : IsDecided (votes shelf view slot) body
    decided =
        let most : shelf.slots ≤ count_by (is_vote body) (map (vote slot) (range_with_len 0 shelf.slots)) + count_by missing_at (range_with_len 0 shelf.slots) =
        held_votes (vote slot) missing_at body 0 shelf.slots votes_for in
        rw (length-map-range_with_len (vote slot) 0 shelf.slots) (omega (arith, most, two, eleven))

    sound_vote : (other : List ℕ) (i : ℕ) → missing_at i ≡ false → is_vote other (vote (other_slot slot) i) ≡ true → is_sound_vote image missing (other_slot slot) other i ≡ true
    sound_vote other i unmarked voted =
        let same : vote (other_slot slot) i ≡ shown_by (other_slot slot) (image (drive i)) = ap (option_and_then (shown_by (other_slot slot))) (shows i unmarked) in
        rw (was_sound i unmarked) (subst (λ o. is_vote other o ≡ true) same voted)

    highest : (other : List ℕ) → IsDecided (votes shelf view (other_slot slot)) other → Yields slot (generation_in other) (generation_in body)
    highest other d =
        elim (held.few other) [
          | inl h ↦ h
          | inr few ↦
              let bound : count_by (is_vote other) (map (vote (other_slot slot)) (range_with_len 0 shelf.slots))
              ≤ count_by (is_sound_vote image missing (other_slot slot) other) (range_with_len 0 shelf.slots) + count_by missing_at (range_with_len 0 shelf.slots) =
              most_votes (vote (other_slot slot)) missing_at (is_sound_vote image missing (other_slot slot) other) other 0 shelf.slots
              (λ i low high unmarked voted. sound_vote other i unmarked voted) in
              let most : shelf.slots < 2 * count_by (is_vote other) (map (vote (other_slot slot)) (range_with_len 0 shelf.slots)) =
              subst (λ n. n < 2 * count_by (is_vote other) (map (vote (other_slot slot)) (range_with_len 0 shelf.slots))) (length-map-range_with_len (vote (other_slot slot)) 0 shelf.slots) d in
              absurd (omega (arith, few, bound, most, two))
        ]
