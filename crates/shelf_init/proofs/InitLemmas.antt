-- What the boot units that were read tell of the devices.
use Rattle.shelf_init.proofs.Prelude.{◌≡◌, inl, inr, ℕ, ◌+◌, ◌*◌, ◌<◌, List, length, drop, sym, ◌∙◌, ap, subst, arith, Bool, true, false, if◌then◌else◌, Option, Some, None, option_and_then, slice_index_or, ◌==◌, get_or-take, get_or-drop, ext_get_or, bytes_at, is_open, Geometry, View, drive, Device, BootSlot, A, B, other_slot, IsDecided, gate_place, votes, shown_by, geometry_of, Shelved, Stop, MayStop, IsSame, IsShelf, Continues, LeavesOnly, WritesOnly, LeavesBut, started, weaker, as_read, ShowsBody, GivesBody, IsBlank, AreClean, view_now, IsNoneOrEmpty, REGION_BYTES, region_at, seen, GivesNone, IsRead, same_open, same_shown, same_over, GatesAreRead}
use Rattle.shelf_init.proofs.CallLemmas.{left_clean, same_geometry}
use Rattle.shelf_init.proofs.ViewLemmas.{hidden_gives_none}

gate_below : (slot : BootSlot) → gate_place slot < REGION_BYTES
gate_below A = omega arith
gate_below B = omega arith

some_is : {a b : List ℕ} → Some a ≡ Some b → a ≡ b
some_is {a} {b} e = cc e

-- ---- each drive has answered

module _ (old new : Shelved) (bytes : List ℕ) (answered : List Bool) (all : (i : ℕ) → i < old.drives → slice_index_or answered i false ≡ true)
    (read : (i : ℕ) → i < old.drives → IsRead old new bytes answered i) where
  region : (i : ℕ) → i < old.drives → region_at bytes answered i ≡ Some (bytes_at (REGION_BYTES * i) REGION_BYTES bytes)
  unfolding region_at
  region i lt = ap (λ (b : Bool). if b then Some (bytes_at (REGION_BYTES * i) REGION_BYTES bytes) else None) (all i lt)

  region_is : (i : ℕ) → i < old.drives → region_at bytes answered i ≡ Some (bytes_at 0 REGION_BYTES (old.disk (drive i)).bytes)
  region_is i lt = elim (read i lt) [
    | inl is ↦ is
    | inr none ↦ absurd (cc (none.0, region i lt))
  ]

  gate_of_part : (at : ℕ) (slot : BootSlot) → is_open (at + gate_place slot) bytes ≡ is_open (gate_place slot) (bytes_at at REGION_BYTES bytes)
  gate_of_part at slot = ap (λ (x : ℕ). x == 1) (sym (get_or-take REGION_BYTES (drop at bytes) (gate_place slot) 0 (gate_below slot) ∙ get_or-drop at bytes (gate_place slot) 0))

  pub gates_are_read : new.drives ≡ old.drives → ((d : Device) → IsSame (old.disk d) (new.disk d)) → GatesAreRead new bytes
  gates_are_read drives same slot i lt =
      let there : i < old.drives = omega (arith, lt, drives) in
      let part : bytes_at (REGION_BYTES * i) REGION_BYTES bytes ≡ bytes_at 0 REGION_BYTES (old.disk (drive i)).bytes = some_is (sym (region i there) ∙ region_is i there) in
      gate_of_part (REGION_BYTES * i) slot ∙ ap (is_open (gate_place slot)) part ∙ same_open slot (old.disk (drive i)).bytes
      ∙ ap (λ (l : List ℕ). is_open (gate_place slot) l) (sym (same (drive i)).bytes)

  same_votes : (t : BootSlot) → votes (geometry_of old) (seen bytes answered) t ≡ votes (geometry_of old) (view_now old) t
  same_votes t = same_over (λ (i : ℕ). option_and_then (shown_by t) (region_at bytes answered i)) (λ (i : ℕ). option_and_then (shown_by t) (view_now old (drive i))) 0 old.drives
      (λ i lt. ap (option_and_then (shown_by t)) (region_is i (omega (arith, lt))) ∙ same_shown t (old.disk (drive i)).bytes)

  -- the body that they give is in force
  pub gives : ShowsBody (geometry_of old) (seen bytes answered) → GivesBody old
  gives s = record {
    slot = s.slot;
    body = s.body;
    effective = record {
      decided = subst (λ (v : List (Option (List ℕ))). IsDecided v s.body) (same_votes s.slot) s.effective.decided;
      highest = λ other decided. s.effective.highest other (subst (λ (v : List (Option (List ℕ))). IsDecided v other) (sym (same_votes (other_slot s.slot))) decided);
    };
  }

  -- where they give none, none is
  pub gives_none : GivesNone (geometry_of old) (seen bytes answered) → IsBlank old
  gives_none none s = none s.slot s.body (subst (λ (v : List (Option (List ℕ))). IsDecided v s.body) (sym (same_votes s.slot)) s.effective.decided)

-- ---- nothing was written

module _ (old new : Shelved) (on : Continues old new) (same : (d : Device) → IsSame (old.disk d) (new.disk d)) where
  same_view : view_now new ≡ view_now old
  same_view = let e : (d : Device) → (new.disk d).bytes ≡ (old.disk d).bytes = λ d. (same d).bytes in λ k d. Some (e d k)

  pub still_blank : IsBlank old → IsBlank new
  still_blank blank s = blank (subst (λ (v : View). ShowsBody (geometry_of old) v) same_view (subst (λ (g : Geometry). ShowsBody g (view_now new)) (same_geometry old new on) s))

  pub still_clean : AreClean old → AreClean new
  still_clean clean d = (same d).dirty ∙ clean d

-- a stop leaves what the devices hold
unwritten : (s : Shelved) → AreClean s → (stop : Stop) → LeavesBut (λ d i. ⊥) s stop → (d : Device) → stop.image d ≡ (s.disk d).bytes
unwritten s clean stop left d =
    let may = left.bytes d in
    ext_get_or 0 (stop.image d) (s.disk d).bytes may.size (λ k lt. left_clean (s.disk d) (stop.image d) (clean d) may k (λ none. none))

pub while_reading : (old new : Shelved) → AreClean old → IsBlank old → WritesOnly (λ d i. ⊥) old new → LeavesOnly old new (λ stop. IsNoneOrEmpty (geometry_of old) stop.image)
while_reading old new clean blank w = weaker (λ stop left. hidden_gives_none old stop.image blank (λ t i lt. inr (ap (shown_by t) (unwritten old clean stop left (drive i))))) w.any_moment

-- nor does a stop change that before any call
pub now_blank : (s : Shelved) → AreClean s → IsBlank s → (stop : Stop) → MayStop s stop → IsNoneOrEmpty (geometry_of s) stop.image
now_blank s clean blank stop may =
    hidden_gives_none s stop.image blank (λ t i lt. inr (ap (shown_by t) (as_read (s.disk (drive i)) (stop.image (drive i)) (clean (drive i)) (may.device (drive i)))))

pub at_start : (s : Shelved) → IsShelf s → AreClean s → IsBlank s → LeavesOnly s s (λ stop. IsNoneOrEmpty (geometry_of s) stop.image)
at_start s is clean blank = started s (λ stop. IsNoneOrEmpty (geometry_of s) stop.image) is (now_blank s clean blank)

-- each drive has answered, in other words
pub all_of : (xs answered : List Bool) (drives : ℕ) → xs ≡ answered → length answered ≡ drives → ((i : ℕ) → i < length xs → slice_index_or xs i false ≡ true) → (i : ℕ) → i < drives → slice_index_or answered i false ≡ true
all_of xs answered drives is many all i lt = subst (λ (l : List Bool). slice_index_or l i false ≡ true) is (all i (omega (arith, lt, many, ap length is)))
