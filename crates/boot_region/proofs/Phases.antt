-- What a stop in each phase of a store leaves.
use Rattle.boot_region.proofs.Prelude.{nat_tests, ◌≡◌, ◌⊎◌, inl, inr, ℕ, ◌+◌, ◌*◌, ◌≤◌, List, length, slice_index, sym, ◌∙◌, ap, subst, arith, Bool, false, slice_index_or, Some, None, IfSome, ◌==◌, cases_Bool, Device, SECTOR_BYTES, UNIT_BYTES, BOOT_UNITS, Conditions, Sound, drive, is_open, RECORD_BYTES, BootSlot, other_slot, gate_place, body_place, body_in, shown_by, Yields, generation_in, Shelved, Stop, IsShelf, IsIn, IsInSome, LeavesBut, has_risen, risen_on_way, Span, IsMember, OnMembers, OnNotShut, AreClean, AreClosed, AreWritten, IsOlder, ComesOf, Closes, Writes, Opens, bodies_same, other_same, opened, shows_if, open_before, other_body_same, other_shown_same, gate_same, closed_shows, gate_low, body_low}
use Rattle.boot_region.proofs.Began.{began, began_at, as_left, outside, same_size, as_read_then, may_begin, differs}

-- while gates are closed or opened
module _ (members : List Bool) (shelf : Shelved) (stop : Stop) (slot : BootSlot) (left : LeavesBut (OnMembers members (gate_place slot) SECTOR_BYTES) shelf stop) where
  long : (i : ℕ) → length (stop.image (drive i)) ≡ length (began_at members shelf (gate_place slot) SECTOR_BYTES stop (drive i))
  long i = same_size members shelf (gate_place slot) SECTOR_BYTES stop left i

  out : (i k : ℕ) → (IsIn (record { start = gate_place slot; size = SECTOR_BYTES }) k → ⊥) → slice_index (stop.image (drive i)) k ≡ slice_index (began_at members shelf (gate_place slot) SECTOR_BYTES stop (drive i)) k
  out i k far = outside members shelf (gate_place slot) SECTOR_BYTES stop left i k far

  pub same_bodies : (t : BootSlot) (i : ℕ) → body_in t (stop.image (drive i)) ≡ body_in t (began_at members shelf (gate_place slot) SECTOR_BYTES stop (drive i))
  same_bodies t i = bodies_same slot (began_at members shelf (gate_place slot) SECTOR_BYTES stop (drive i)) (stop.image (drive i)) (long i) (out i) t

  pub same_others : (i : ℕ) → shown_by (other_slot slot) (stop.image (drive i)) ≡ shown_by (other_slot slot) (began_at members shelf (gate_place slot) SECTOR_BYTES stop (drive i))
  same_others i = other_same slot (began_at members shelf (gate_place slot) SECTOR_BYTES stop (drive i)) (stop.image (drive i)) (long i) (out i)

  pub gates_low : gate_place slot + SECTOR_BYTES ≤ BOOT_UNITS * UNIT_BYTES
  gates_low = omega (arith, gate_low slot)

-- what a call on gates that aren't shut leaves, as one on all gates of the members
pub on_all_members : (members : List Bool) (shelf : Shelved) (faults : Device → ℕ) (at : ℕ) (stop : Stop) → LeavesBut (OnNotShut members shelf faults at) shelf stop → LeavesBut (OnMembers members at SECTOR_BYTES) shelf stop
on_all_members members shelf faults at stop left = grind (arith, nat_tests, out)

-- while gates are closed
pub closes_gates : (members : List Bool) (shelf : Shelved) (stop : Stop) (missing : Conditions) (slot : BootSlot) (held : List ℕ)
    → IsShelf shelf → shelf.honest → LeavesBut (OnNotShut members shelf stop.faults (gate_place slot)) shelf stop → AreClean shelf missing members
    → ComesOf shelf (Closes shelf members missing slot held) stop
closes_gates members shelf stop missing slot held is h some clean = record {
  start = began members shelf (gate_place slot) SECTOR_BYTES stop;
  may = may_begin members shelf (gate_place slot) SECTOR_BYTES stop left is h;
  later = record { faults = λ d. omega arith; write_faults = λ d. omega arith };
  by = record {
    only_boot = differs members shelf (gate_place slot) SECTOR_BYTES stop left (gates_low members shelf stop slot left);
    bodies = same_bodies members shelf stop slot left;
    others = same_others members shelf stop slot left;
    closes = closes;
  };
}
  where
    left : LeavesBut (OnMembers members (gate_place slot) SECTOR_BYTES) shelf stop
    left = on_all_members members shelf stop.faults (gate_place slot) stop some

    -- of a clean member
    out : (i k : ℕ) → IsMember members i → missing (drive i) ≡ Sound → (IsIn (record { start = gate_place slot; size = SECTOR_BYTES }) k → ⊥) → slice_index (stop.image (drive i)) k ≡ slice_index (shelf.disk (drive i)).bytes k
    out i k m sound far = (left.bytes (drive i)).same k (λ s. subst (λ (l : List Span). IsInSome l k) (clean i m sound) s) (λ w. far w.1)

    -- a gate that was closed and read so isn't written
    shut_stays : (i : ℕ) → IsMember members i → missing (drive i) ≡ Sound → is_open (gate_place slot) (shelf.disk (drive i)).bytes ≡ false → has_risen (shelf.disk (drive i)).faults (stop.faults (drive i)) ≡ false
        → shown_by slot (stop.image (drive i)) ≡ shown_by slot (shelf.disk (drive i)).bytes
    shut_stays i m sound shut none =
        let unwritten : OnNotShut members shelf stop.faults (gate_place slot) (drive i) (gate_place slot) → ⊥ = λ w. elim (w.2) [
          | inl opens ↦ absurd (cc (opens, shut))
          | inr rose ↦ absurd (risen_on_way _ _ _ _ (let same : (shelf.disk (drive i)).faults ≤ (shelf.disk (drive i)).faults = omega arith in same) rose (let same : stop.faults (drive i) ≤ stop.faults (drive i) = omega arith in same) none)
        ] in
        let gate : slice_index (stop.image (drive i)) (gate_place slot) ≡ slice_index (shelf.disk (drive i)).bytes (gate_place slot) =
        (some.bytes (drive i)).same (gate_place slot) (λ s. subst (λ (l : List Span). IsInSome l (gate_place slot)) (clean i m sound) s) unwritten in
        closed_shows slot (stop.image (drive i)) (ap (λ (k : ℕ). k == 1) gate ∙ shut) ∙ sym (closed_shows slot (shelf.disk (drive i)).bytes shut)

    on_member : (i : ℕ) → IsMember members i → missing (drive i) ≡ Sound → IsOlder shelf slot held i ⊎ (has_risen (shelf.disk (drive i)).faults (stop.faults (drive i)) ≡ false)
        → (shown_by slot (stop.image (drive i)) ≡ shown_by slot (shelf.disk (drive i)).bytes) ⊎ IfSome (shown_by slot (stop.image (drive i))) (λ body. Yields (other_slot slot) (generation_in body) (generation_in held))
    on_member i m sound (inl older) = inr (shows_if slot (shelf.disk (drive i)).bytes (stop.image (drive i)) ((left.bytes (drive i)).size) (λ k far. out i k m sound far) (λ body. Yields (other_slot slot) (generation_in body) (generation_in held)) older)
    on_member i m sound (inr none) = elim (cases_Bool (is_open (gate_place slot) (shelf.disk (drive i)).bytes)) [
      | inl was ↦ open_before slot (shelf.disk (drive i)).bytes (stop.image (drive i)) ((left.bytes (drive i)).size) (λ k far. out i k m sound far) (λ body. Yields (other_slot slot) (generation_in body) (generation_in held)) was
      | inr shut ↦ inl (shut_stays i m sound shut none)
    ]

    closes : (i : ℕ) → missing (drive i) ≡ Sound → (IsMember members i → IsOlder shelf slot held i ⊎ (has_risen (shelf.disk (drive i)).faults (stop.faults (drive i)) ≡ false))
        → (shown_by slot (stop.image (drive i)) ≡ shown_by slot (began_at members shelf (gate_place slot) SECTOR_BYTES stop (drive i))) ⊎ IfSome (shown_by slot (stop.image (drive i))) (λ body. Yields (other_slot slot) (generation_in body) (generation_in held))
    closes i sound why = elim (cases_Bool (slice_index_or members i false)) [
      | inl m ↦ subst (λ (o : List ℕ). (shown_by slot (stop.image (drive i)) ≡ shown_by slot o) ⊎ IfSome (shown_by slot (stop.image (drive i))) (λ body. Yields (other_slot slot) (generation_in body) (generation_in held)))
          (sym (as_read_then members shelf (gate_place slot) SECTOR_BYTES stop left i (clean i m sound))) (on_member i m sound (why m))
      | inr m ↦ inl (ap (shown_by slot) (sym (as_left members shelf (gate_place slot) SECTOR_BYTES stop left i m)))
    ]

-- while gates are opened
pub opens_gates : (members : List Bool) (shelf : Shelved) (stop : Stop) (missing : Conditions) (slot : BootSlot) (body : List ℕ)
    → IsShelf shelf → shelf.honest → LeavesBut (OnMembers members (gate_place slot) SECTOR_BYTES) shelf stop → AreClean shelf missing members → AreClosed shelf missing members slot → AreWritten shelf missing members slot body
    → ComesOf shelf (Opens missing members slot body) stop
opens_gates members shelf stop missing slot body is h left clean closed written = record {
  start = began members shelf (gate_place slot) SECTOR_BYTES stop;
  may = may_begin members shelf (gate_place slot) SECTOR_BYTES stop left is h;
  later = record { faults = λ d. omega arith; write_faults = λ d. omega arith };
  by = grind (arith, nat_tests, differs, gates_low, same_bodies, same_others, opens, as_it_was, closed_shows);
}
  where
    as_it_was : (i : ℕ) → IsMember members i → missing (drive i) ≡ Sound → began_at members shelf (gate_place slot) SECTOR_BYTES stop (drive i) ≡ (shelf.disk (drive i)).bytes
    as_it_was i m sound = as_read_then members shelf (gate_place slot) SECTOR_BYTES stop left i (clean i m sound)

    out : (i k : ℕ) → IsMember members i → missing (drive i) ≡ Sound → (IsIn (record { start = gate_place slot; size = SECTOR_BYTES }) k → ⊥) → slice_index (stop.image (drive i)) k ≡ slice_index (shelf.disk (drive i)).bytes k
    out i k m sound far = (left.bytes (drive i)).same k (λ s. subst (λ (l : List Span). IsInSome l k) (clean i m sound) s) (λ w. far w.1)

    opens : (i : ℕ) → missing (drive i) ≡ Sound → (shown_by slot (stop.image (drive i)) ≡ shown_by slot (began_at members shelf (gate_place slot) SECTOR_BYTES stop (drive i)))
        ⊎ ((shown_by slot (stop.image (drive i)) ≡ Some body) × (shown_by slot (began_at members shelf (gate_place slot) SECTOR_BYTES stop (drive i)) ≡ None))
    opens i sound = elim (cases_Bool (slice_index_or members i false)) [
      | inl m ↦ subst (λ (o : List ℕ). (shown_by slot (stop.image (drive i)) ≡ shown_by slot o) ⊎ ((shown_by slot (stop.image (drive i)) ≡ Some body) × (shown_by slot o ≡ None))) (sym (as_it_was i m sound))
          (opened slot (shelf.disk (drive i)).bytes (stop.image (drive i)) ((left.bytes (drive i)).size) (λ k far. out i k m sound far) body (written i m sound) (closed i m sound))
      | inr m ↦ inl (ap (shown_by slot) (sym (as_left members shelf (gate_place slot) SECTOR_BYTES stop left i m)))
    ]

-- while bodies are written
pub writes_bodies : (members : List Bool) (shelf : Shelved) (stop : Stop) (missing : Conditions) (slot : BootSlot)
    → IsShelf shelf → shelf.honest → LeavesBut (OnMembers members (body_place slot) RECORD_BYTES) shelf stop → AreClean shelf missing members → AreClosed shelf missing members slot
    → ComesOf shelf (Writes missing members slot) stop
writes_bodies members shelf stop missing slot is h left clean closed = record {
  start = began members shelf (body_place slot) RECORD_BYTES stop;
  may = may_begin members shelf (body_place slot) RECORD_BYTES stop left is h;
  later = record { faults = λ d. omega arith; write_faults = λ d. omega arith };
  by = record {
    only_boot = differs members shelf (body_place slot) RECORD_BYTES stop left (body_low slot);
    bodies = λ i. other_body_same slot (began_at members shelf (body_place slot) RECORD_BYTES stop (drive i)) (stop.image (drive i)) (long i) (far_from i);
    others = λ i. other_shown_same slot (began_at members shelf (body_place slot) RECORD_BYTES stop (drive i)) (stop.image (drive i)) (long i) (far_from i);
    shut = grind (arith, nat_tests, cases_Bool, as_left);
    none = none;
  };
}
  where
    long : (i : ℕ) → length (stop.image (drive i)) ≡ length (began_at members shelf (body_place slot) RECORD_BYTES stop (drive i))
    long i = same_size members shelf (body_place slot) RECORD_BYTES stop left i

    far_from : (i k : ℕ) → (IsIn (record { start = body_place slot; size = RECORD_BYTES }) k → ⊥) → slice_index (stop.image (drive i)) k ≡ slice_index (began_at members shelf (body_place slot) RECORD_BYTES stop (drive i)) k
    far_from i k far = outside members shelf (body_place slot) RECORD_BYTES stop left i k far

    none : (i : ℕ) → IsMember members i → missing (drive i) ≡ Sound → shown_by slot (stop.image (drive i)) ≡ None
    none i m sound = grind (arith, nat_tests, closed_shows, gate_same)
