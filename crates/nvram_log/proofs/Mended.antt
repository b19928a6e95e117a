-- Some gates and slots of one device are written, one after another.
use Rattle.nvram_log.proofs.Prelude.{nat_tests, ◌≡◌, inl, inr, ℕ, ◌+◌, ◌<◌, List, [], ◌∷◌, length, Bool, Result, Ok, Err, OnOk, Some, slice_get, slice_index, slice_range, sym, ◌∙◌, ap, subst, arith, cases_lt, get_or-between, Device, NVRAM_BYTES, Disk, Written, WrittenIfOk, OneRange, ChangesOnly, slot_at, Failed, Logged, SpellsAs, slot_place, IsFlagged, OnGates, OnSlots}
use Rattle.nvram_log.proofs.Showing.{same_slot}

pub gate_in : (device : Device) (flags : List Bool) (slot : ℕ) → slot < 64 → IsFlagged flags slot → (d : Device) (i : ℕ) → OneRange device slot 1 d i → OnGates device flags d i
gate_in device flags slot lt is d i w = grind (arith, nat_tests)

pub slot_in : (device : Device) (flags : List Bool) (slot : ℕ) → slot < 64 → IsFlagged flags slot → (d : Device) (i : ℕ) → OneRange device (slot_place slot) 33280 d i → OnSlots device flags d i
slot_in device flags slot lt is d i w = (w.0, record { slot = slot; below = lt; flagged = is; within = w.1 })

-- one gate more
pub gate_more : (a b : Disk) (device : Device) (flags : List Bool) (gate i : ℕ) → ChangesOnly (OneRange device i 1 device) a b → slice_index b.bytes i ≡ gate
    → ((k : ℕ) → k < i → IsFlagged flags k → slice_index a.bytes k ≡ gate) → (k : ℕ) → k < i + 1 → IsFlagged flags k → slice_index b.bytes k ≡ gate
gate_more a b device flags gate i changes here stood k lt is = grind (arith, nat_tests, slice_index)

-- one slot more
pub slot_more : (a b : Disk) (device : Device) (flags : List Bool) (records : List Logged) (i : ℕ) (it : Logged) → length a.bytes ≡ NVRAM_BYTES → i < 64 → slice_get records i ≡ Some it → ChangesOnly (OneRange device (slot_place i) 33280 device) a b
    → SpellsAs (slot_at i b.bytes) it
    → ((k : ℕ) (l : Logged) → k < i → IsFlagged flags k → slice_get records k ≡ Some l → SpellsAs (slot_at k a.bytes) l) → (k : ℕ) (l : Logged) → k < i + 1 → IsFlagged flags k → slice_get records k ≡ Some l → SpellsAs (slot_at k b.bytes) l
slot_more a b device flags records i it size lt is changes here stood k l below flagged at = elim (cases_lt k i) [
  | inl less ↦ subst (λ (slot : List ℕ). SpellsAs slot l) (sym (same_slot a.bytes b.bytes k (record { old = size; new = changes.size }) (omega (arith, less, lt)) (λ m from to. changes.bytes m (λ w. omega (arith, w.1.0, to, less))))) (stood k l less flagged at)
  | inr ge ↦
      let e : i ≡ k = omega (arith, below, ge) in
      let same : it ≡ l = cc (subst (λ (n : ℕ). slice_get records n ≡ Some it) e is, at) in
      subst (λ (n : ℕ). SpellsAs (slot_at n b.bytes) l) e (subst (SpellsAs (slot_at i b.bytes)) same here)
]

-- what was written of a gate
pub gate_is : (i gate : ℕ) (old new : List ℕ) → Written i (gate ∷ []) old new → i < length old → slice_index new i ≡ gate
gate_is i gate old new written lt =
    let at : slice_index (slice_range new i (i + 1)) 0 ≡ slice_index new (i + 0) = get_or-between new i (i + 1) 0 0 (omega arith) in
    ap (λ (n : ℕ). slice_index new n) (let e : i ≡ i + 0 = omega arith in e) ∙ sym at ∙ ap (λ (l : List ℕ). slice_index l 0) written.within

-- what follows from a write follows where it was Ok
pub where_written : (P : Type 0) (answer : Result (Unit {0}) Failed) (start : ℕ) (from old new : List ℕ) → WrittenIfOk answer start from old new → (Written start from old new → P) → OnOk answer P
where_written P (Ok u) start from old new is f = f is
where_written P (Err e) start from old new is f = tt
