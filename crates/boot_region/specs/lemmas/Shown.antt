-- What a drive shows in a slot, as its gate or its body is written.
use Rattle.std.proofs.lemmas.Bool.Decides.{nat_tests}
use Rattle.std.proofs.Common.{◌≡◌, ◌⊎◌, ℕ, ◌+◌, ◌*◌, ◌%◌, ◌≤◌, ◌<◌, List, length, take, drop, slice_index, get_or, refl, sym, ◌∙◌, ap, subst, arith, Bool, true, false, cond}
use Rattle.std.specs.Prelude.{slice_index_or, slice_range, Some, None, IfSome, ◌==◌}
use Rattle.std.proofs.lemmas.Bool.{eqb-true}
use Rattle.std.proofs.lemmas.List.{get_or_past, length-take, length-drop, get_or-take, get_or-drop}
use Rattle.std.proofs.lemmas.List.Edits.{get_or-between}
use Rattle.std.proofs.lemmas.Grind.{same_number_lists}
use Rattle.array_spec.specs.Prelude.{SECTOR_BYTES, UNIT_BYTES, BOOT_UNITS, bytes_at, is_open, RECORD_BYTES, gate_bytes, BootSlot, A, B, other_slot, gate_place, body_place, body_in, shown_by, bytes_same}
use Rattle.world.specs.Prelude.{IsIn, Written}
use Rattle.boot_region.specs.Members.{IsMember}

gates_apart : (slot : BootSlot) → IsIn (record { start = gate_place slot; size = SECTOR_BYTES }) (gate_place (other_slot slot)) → ⊥
gates_apart A is = omega (arith, is.1)
gates_apart B is = omega (arith, is.0)

pub gate_low : (slot : BootSlot) → gate_place slot + SECTOR_BYTES ≤ 2 * SECTOR_BYTES
gate_low A = omega arith
gate_low B = omega arith

pub gate_aligned : (slot : BootSlot) → gate_place slot % SECTOR_BYTES ≡ 0
gate_aligned A = refl
gate_aligned B = refl

body_high : (slot : BootSlot) → UNIT_BYTES ≤ body_place slot
body_high A = omega arith
body_high B = omega arith

pub body_low : (slot : BootSlot) → body_place slot + RECORD_BYTES ≤ BOOT_UNITS * UNIT_BYTES
body_low A = omega arith
body_low B = omega arith

pub body_aligned : (slot : BootSlot) → body_place slot % SECTOR_BYTES ≡ 0
body_aligned A = refl
body_aligned B = refl

-- bytes that are the same but for a gate's sector have the same bodies, and show the same of the other slot
module _ (slot : BootSlot) (old new : List ℕ) (size : length new ≡ length old)
    (same : (k : ℕ) → (IsIn (record { start = gate_place slot; size = SECTOR_BYTES }) k → ⊥) → slice_index new k ≡ slice_index old k) where
  pub bodies_same : (t : BootSlot) → body_in t new ≡ body_in t old
  bodies_same t = bytes_same new old (body_place t) RECORD_BYTES size (λ k low high. same k (λ is. omega (arith, is.1, gate_low slot, body_high t, low)))

  pub other_same : shown_by (other_slot slot) new ≡ shown_by (other_slot slot) old
  other_same = grind (arith, nat_tests, slice_index, gate_place, other_slot, gates_apart, bodies_same)

  -- it is open over the body now, or closed as before
  pub opened : (body : List ℕ) → body_in slot old ≡ body → is_open (gate_place slot) old ≡ false
      → (shown_by slot new ≡ shown_by slot old) ⊎ ((shown_by slot new ≡ Some body) × (shown_by slot old ≡ None))
  opened body stands closed = grind (arith, nat_tests, is_open, gate_place, body_in, bodies_same)

  -- it shows nothing, or its body
  pub shows_if : (P : List ℕ → Type 0) → P (body_in slot old) → IfSome (shown_by slot new) P
  shows_if P here = grind (arith, nat_tests, is_open, gate_place, bodies_same)

  -- it was open, and so shows what it showed, or nothing
  pub open_before : (P : List ℕ → Type 0) → is_open (gate_place slot) old ≡ true → (shown_by slot new ≡ shown_by slot old) ⊎ IfSome (shown_by slot new) P
  open_before P was = grind (arith, nat_tests, is_open, gate_place, bodies_same)

-- bytes that are the same but for a slot's body show the same of the other slot, and the gates stay
module _ (slot : BootSlot) (old new : List ℕ) (size : length new ≡ length old)
    (same : (k : ℕ) → (IsIn (record { start = body_place slot; size = RECORD_BYTES }) k → ⊥) → slice_index new k ≡ slice_index old k) where
  pub gates_stay : (t : BootSlot) → slice_index new (gate_place t) ≡ slice_index old (gate_place t)
  gates_stay t = same (gate_place t) (λ is. omega (arith, is.0, gate_low t, body_high slot))

  apart : (s : BootSlot) (k : ℕ) → body_place (other_slot s) ≤ k → k < body_place (other_slot s) + RECORD_BYTES → IsIn (record { start = body_place s; size = RECORD_BYTES }) k → ⊥
  apart A k low high is = omega (arith, low, is.1)
  apart B k low high is = omega (arith, high, is.0)

  pub other_body_same : body_in (other_slot slot) new ≡ body_in (other_slot slot) old
  other_body_same = bytes_same new old (body_place (other_slot slot)) RECORD_BYTES size (λ k low high. same k (apart slot k low high))

  pub other_shown_same : shown_by (other_slot slot) new ≡ shown_by (other_slot slot) old
  other_shown_same = rw (gates_stay (other_slot slot), other_body_same) refl

  pub gate_same : is_open (gate_place slot) new ≡ is_open (gate_place slot) old
  gate_same = ap (λ (k : ℕ). k == 1) (gates_stay slot)

-- a closed gate shows nothing
pub closed_shows : (slot : BootSlot) (bytes : List ℕ) → is_open (gate_place slot) bytes ≡ false → shown_by slot bytes ≡ None
closed_shows slot bytes closed = rw closed refl

-- an open one shows the body
pub open_shows : (slot : BootSlot) (bytes body : List ℕ) → is_open (gate_place slot) bytes ≡ true → body_in slot bytes ≡ body → shown_by slot bytes ≡ Some body
open_shows slot bytes body opens stands = rw (opens, stands) refl

-- the body that is shown stands there
pub shown_body : (slot : BootSlot) (bytes body : List ℕ) → shown_by slot bytes ≡ Some body → body_in slot bytes ≡ body
shown_body slot bytes body e = grind (arith, nat_tests, is_open, gate_place, body_in, cond)

-- a gate is open where the sector that was written begins with 1
pub gate_opens : (at n : ℕ) (from old new : List ℕ) → Written at from old new → length from ≡ n → 0 < n → slice_index from 0 ≡ 1 → is_open at new ≡ true
gate_opens at n from old new w size some opens = grind (arith, nat_tests, slice_index, get_or-between)

-- and closed where it begins with 0
pub gate_closes : (at n : ℕ) (from old new : List ℕ) → Written at from old new → length from ≡ n → 0 < n → slice_index from 0 ≡ 0 → is_open at new ≡ false
gate_closes at n from old new w size some closes = grind (arith, nat_tests, slice_index, get_or-between)

-- the first byte of a sector that was read there
first_byte : (bytes sector : List ℕ) (at n : ℕ) → sector ≡ slice_range bytes at (at + n) → 0 < n → slice_index sector 0 ≡ slice_index bytes at
first_byte bytes sector at n e some =
    ap (λ (l : List ℕ). get_or l 0 0) e ∙ get_or-between bytes at (at + n) 0 0 (omega (arith, some)) ∙ ap (λ (k : ℕ). slice_index bytes k) (let z : at + 0 ≡ at = omega arith in z)

-- a gate that reads as open is open
pub reads_open : (bytes sector : List ℕ) (at n : ℕ) → sector ≡ slice_range bytes at (at + n) → 0 < n → slice_index sector 0 ≡ 1 → is_open at bytes ≡ true
reads_open bytes sector at n e some is = ap (λ (k : ℕ). k == 1) (sym (first_byte bytes sector at n e some) ∙ is)

-- a gate that doesn't read as open is closed
pub reads_closed : (bytes sector : List ℕ) (at n : ℕ) → sector ≡ slice_range bytes at (at + n) → 0 < n → (slice_index sector 0 ≡ 1 → ⊥) → is_open at bytes ≡ false
reads_closed bytes sector at n e some isn't = grind (arith, nat_tests, slice_index, first_byte, eqb-true)

-- what was written stands there
pub body_is : (at : ℕ) (body old new : List ℕ) → length body ≡ RECORD_BYTES → at + RECORD_BYTES ≤ length new → Written at body old new → bytes_at at RECORD_BYTES new ≡ body
body_is at body old new size fits w = same_number_lists (take RECORD_BYTES (drop at new)) body lengths each
  where
    lengths : length (take RECORD_BYTES (drop at new)) ≡ length body
    lengths = rw (length-take RECORD_BYTES (drop at new)) (rw (length-drop at new) (omega (arith, size, fits)))

    each : (k : ℕ) → k < length (take RECORD_BYTES (drop at new)) → slice_index (take RECORD_BYTES (drop at new)) k ≡ slice_index body k
    each k below =
        let low : k < RECORD_BYTES = omega (arith, below, lengths, size) in
        get_or-take RECORD_BYTES (drop at new) k 0 low ∙ get_or-drop at new k 0
        ∙ sym (get_or-between new at (at + length body) k 0 (omega (arith, low, size)))
        ∙ ap (λ (l : List ℕ). get_or l k 0) w.within

-- a member is one of the list
pub member_below : (members : List Bool) (i : ℕ) → IsMember members i → i < length members
member_below members i m = grind (arith, nat_tests, slice_index_or, get_or_past)

-- the sector of a gate
pub gate_size : (is_open : Bool) → length (gate_bytes is_open) ≡ SECTOR_BYTES
unfolding gate_bytes
gate_size is_open = refl

pub open_begins : slice_index (gate_bytes true) 0 ≡ 1
unfolding gate_bytes
open_begins = refl

pub closed_begins : slice_index (gate_bytes false) 0 ≡ 0
unfolding gate_bytes
closed_begins = refl

-- once the sector of an open gate is written, the body behind it is shown
pub shows_written : (slot : BootSlot) (from old new : List ℕ) → from ≡ gate_bytes true → Written (gate_place slot) from old new → shown_by slot new ≡ Some (body_in slot old)
shows_written slot from old new is w =
    let size : length from ≡ SECTOR_BYTES = ap length is ∙ gate_size true in
    open_shows slot new (body_in slot old) (gate_opens (gate_place slot) SECTOR_BYTES from old new w size (omega arith) (ap (λ (l : List ℕ). slice_index l 0) is ∙ open_begins))
    (bodies_same slot old new w.size (λ k out. w.outside k (λ i. out (subst (λ (n : ℕ). IsIn (record { start = gate_place slot; size = n }) k) size i))) slot)
