-- From the moment on at which each silent device has failed, what the drives showed gives the record still.
use Rattle.takeover.proofs.Prelude.{nat_tests, ◌≡◌, ◌⊎◌, inl, inr, ℕ, zero, suc, ◌+◌, ◌≤◌, Bool, true, false, if◌then◌else◌, List, length, map, slice_index, Option, Some, None, option_and_then, refl, sym, ◌∙◌, ap, subst, arith, cond, count_by, ext_get_or, range_with_len, cases_Bool, length-map-range_with_len, Device, SECTOR_BYTES, View, Condition, Conditions, Sound, is_sound, IsBearable, slots_of, drive, is_open, Array, BootSlot, IsEffective, IsDecided, IsRecordOf, votes, is_vote, other_slot, gate_place, shown_by, body_in, spelling, MayBeGiven, counted, Span, geometry_of, has_risen, has_failed, Shelved, Stop, IsSame, IsIn, IsInSome, LeavesOnly, Continues, LeavesBut, WritesOnly, then_run, weaker, Enters, OnlyFailedAreSilent, read_now, failed_by, Loaded, OnClosed, slot_in, bodies_same, other_same, closed_shows, IsGivenFrom, sound_since}
use Rattle.boot_region.proofs.Composing.{as_it_is, is_sound_is}

-- where each vote for a body is one still, it has no fewer
more_votes : (body : List ℕ) (f g : ℕ → Option (List ℕ)) (a n : ℕ) → ((i : ℕ) → is_vote body (f i) ≡ true → is_vote body (g i) ≡ true)
    → count_by (is_vote body) (map f (range_with_len a n)) ≤ count_by (is_vote body) (map g (range_with_len a n))
more_votes body f g a zero to = omega arith
more_votes body f g a (suc n) to = omega (
  arith,
  counted (is_vote body) (f a) (map f (range_with_len (a + 1) n)),
  counted (is_vote body) (g a) (map g (range_with_len (a + 1) n)),
  one (is_vote body (f a)) (is_vote body (g a)) (to a),
  more_votes body f g (a + 1) n to,
)
  where
    one : (p q : Bool) → (p ≡ true → q ≡ true) → cond p 1 0 ≤ cond q 1 0
    one p q h = grind (arith, nat_tests)

module _ (old : Shelved) (missing : Conditions) (arrays : List Array) (enters : Enters old missing arrays) (view : View) (shown : (d : Device) → (view d ≡ Some (old.disk d).bytes) ⊎ (view d ≡ None))
    (x : Loaded) (lawful : IsRecordOf (geometry_of old) x.record) (effective : IsEffective (geometry_of old) view (slot_in x.slot) (spelling x.record)) where
  abbrev slot : BootSlot
  slot = slot_in x.slot

  abbrev body : List ℕ
  body = spelling x.record

  module _ (stop : Stop) (silent : OnlyFailedAreSilent (has_failed (read_now old) stop) view) where
    abbrev now : Conditions
    now = failed_by old stop missing

    was : (d : Device) → now d ≡ Sound → (missing d ≡ Sound) × (has_risen (old.disk d).faults (stop.faults d) ≡ false)
    was d sound = sound_since (has_risen (old.disk d).faults (stop.faults d)) (missing d) sound

    -- a sound device has shown itself
    showed : (d : Device) → now d ≡ Sound → view d ≡ Some (old.disk d).bytes
    showed d sound = elim (shown d) [ inl is ↦ is | inr none ↦ absurd (cc (silent d none, (was d sound).1)) ]

    undirty : (d : Device) → now d ≡ Sound → (i : ℕ) → IsInSome (old.disk d).dirty i → ⊥
    undirty d sound i dirty = subst (λ (l : List Span). IsInSome l i) (enters.clean d (was d sound).0) dirty

    -- where devices were only read
    given_reading : LeavesBut (λ d i. ⊥) old stop → IsBearable (geometry_of old) now → MayBeGiven (geometry_of old) stop.image now slot x.record
    given_reading left bears = record {
      more = now;
      view = view;
      appears = record {
        within = as_it_is now;
        bearable = bears;
        shown = λ d sound. showed d sound ∙ ap (λ (l : List ℕ). Some l)
            (sym (ext_get_or 0 (stop.image d) (old.disk d).bytes (left.bytes d).size (λ i lt. (left.bytes d).same i (undirty d sound i) (λ w. w))));
      };
      lawful = lawful;
      effective = effective;
    }

    -- while its gates are opened
    module _ (mid : Shelved) (drives : List Bool) (same : (d : Device) → IsSame (old.disk d) (mid.disk d)) (left : LeavesBut (OnClosed drives mid (gate_place slot)) mid stop) where
      later : View
      later d = if is_sound (now d) then Some (stop.image d) else view d

      later_sound : (d : Device) → now d ≡ Sound → later d ≡ Some (stop.image d)
      unfolding later
      later_sound d sound = ap (λ (c : Condition). if is_sound c then Some (stop.image d) else view d) sound

      later_other : (d : Device) → is_sound (now d) ≡ false → later d ≡ view d
      unfolding later
      later_other d other = ap (λ (b : Bool). if b then Some (stop.image d) else view d) other

      stays : (i k : ℕ) → now (drive i) ≡ Sound → (OnClosed drives mid (gate_place slot) (drive i) k → ⊥) → slice_index (stop.image (drive i)) k ≡ slice_index (old.disk (drive i)).bytes k
      stays i k sound out = grind (arith, nat_tests, undirty)

      far : (i k : ℕ) → now (drive i) ≡ Sound → (IsIn (record { start = gate_place slot; size = SECTOR_BYTES }) k → ⊥) → slice_index (stop.image (drive i)) k ≡ slice_index (old.disk (drive i)).bytes k
      far i k sound out = stays i k sound (λ w. out w.1)

      size : (i : ℕ) → length (stop.image (drive i)) ≡ length (old.disk (drive i)).bytes
      size i = (left.bytes (drive i)).size ∙ ap length (same (drive i)).bytes

      -- what is shown under an open gate is shown still
      open_stays : (i : ℕ) → now (drive i) ≡ Sound → is_open (gate_place slot) (old.disk (drive i)).bytes ≡ true → shown_by slot (stop.image (drive i)) ≡ shown_by slot (old.disk (drive i)).bytes
      open_stays i sound opened =
          let mid_open : is_open (gate_place slot) (mid.disk (drive i)).bytes ≡ true = ap (is_open (gate_place slot)) (same (drive i)).bytes ∙ opened in
          let gate : slice_index (stop.image (drive i)) (gate_place slot) ≡ slice_index (old.disk (drive i)).bytes (gate_place slot) = stays i (gate_place slot) sound (λ w. absurd (cc (mid_open, w.2))) in
          let stands : body_in slot (stop.image (drive i)) ≡ body_in slot (old.disk (drive i)).bytes = bodies_same slot (old.disk (drive i)).bytes (stop.image (drive i)) (size i) (λ k out. far i k sound out) slot in
          rw (gate, stands) refl

      votes_stay : (i : ℕ) → is_vote body (option_and_then (shown_by slot) (view (drive i))) ≡ true → is_vote body (option_and_then (shown_by slot) (later (drive i))) ≡ true
      votes_stay i voted = grind (arith, nat_tests, cases_Bool, later_other, is_sound_is, later_sound, open_stays, closed_shows)

      vote_other : (i : ℕ) → option_and_then (shown_by (other_slot slot)) (later (drive i)) ≡ option_and_then (shown_by (other_slot slot)) (view (drive i))
      vote_other i = elim (cases_Bool (is_sound (now (drive i)))) [
        | inr other ↦ ap (option_and_then (shown_by (other_slot slot))) (later_other (drive i) other)
        | inl is ↦
            let sound = is_sound_is (now (drive i)) is in
            ap (option_and_then (shown_by (other_slot slot))) (later_sound (drive i) sound)
            ∙ other_same slot (old.disk (drive i)).bytes (stop.image (drive i)) (size i) (λ k out. far i k sound out)
            ∙ sym (ap (option_and_then (shown_by (other_slot slot))) (showed (drive i) sound))
      ]

      same_votes : votes (geometry_of old) later (other_slot slot) ≡ votes (geometry_of old) view (other_slot slot)
      same_votes =
          let each : (λ i. option_and_then (shown_by (other_slot slot)) (later (drive i))) ≡ (λ i. option_and_then (shown_by (other_slot slot)) (view (drive i))) = λ k i. vote_other i k in
          ap (λ (f : ℕ → Option (List ℕ)). map f (slots_of (geometry_of old))) each

      decided : IsDecided (votes (geometry_of old) later slot) body
      decided =
          let f : ℕ → Option (List ℕ) = λ i. option_and_then (shown_by slot) (view (drive i)) in
          let g : ℕ → Option (List ℕ) = λ i. option_and_then (shown_by slot) (later (drive i)) in
          let more : count_by (is_vote body) (map f (range_with_len 0 old.drives)) ≤ count_by (is_vote body) (map g (range_with_len 0 old.drives)) = more_votes body f g 0 old.drives votes_stay in
          let p : length (map f (range_with_len 0 old.drives)) ≡ old.drives = length-map-range_with_len f 0 old.drives in
          let q : length (map g (range_with_len 0 old.drives)) ≡ old.drives = length-map-range_with_len g 0 old.drives in
          omega (arith, effective.decided, more, p, q)

      given_settling : IsBearable (geometry_of old) now → MayBeGiven (geometry_of old) stop.image now slot x.record
      given_settling bears = record {
        more = now;
        view = later;
        appears = record { within = as_it_is now; bearable = bears; shown = later_sound };
        lawful = lawful;
        effective = record { decided = decided; highest = λ other d. effective.highest other (subst (λ (v : List (Option (List ℕ))). IsDecided v other) same_votes d) };
      }

  -- at each moment of both
  pub given_from : (mid new : Shelved) (drives : List Bool) → Continues old mid → ((d : Device) → IsSame (old.disk d) (mid.disk d)) → WritesOnly (λ d i. ⊥) old mid
      → WritesOnly (OnClosed drives mid (gate_place slot)) mid new → LeavesOnly old new (IsGivenFrom old view x missing)
  given_from mid new drives on same reading writes = then_run on
      (weaker (λ stop left silent bears. given_reading stop silent left bears) reading.any_moment)
      (weaker (λ stop left silent bears. given_settling stop silent mid drives same left bears) writes.any_moment)
