-- What closing a gate leaves of a drive.
use Rattle.shelf_init.proofs.Prelude.{◌≡◌, ◌⊎◌, inl, inr, ℕ, ◌+◌, ◌*◌, ◌<◌, List, length, get_or, slice_index, refl, sym, ◌∙◌, ap, subst, arith, Bool, true, false, None, slice_index_or, ◌==◌, Result, Ok, Err, OnOk, Failed, zeros, is_open, drive, Device, SECTOR_BYTES, gate_bytes, BootSlot, A, B, gate_place, body_in, shown_by, this_or_other, LOG_SLOTS, Shelved, Stop, IsIn, Continues, LeavesOnly, Written, WritesOnly, LeavesBut, then_run, weaker, AreClean, cases_Bool, length-replicate, get_or-replicate, REGION_BYTES, IsMember, OnMembers, closed_shows, bodies_same, other_same, gate_closes, gate_size, closed_begins, IsShut, IsReadIn, GatesAreRead, HidesOnly, OnOpen}
use Rattle.std.proofs.lemmas.List.Edits.{get_or-between}
use Rattle.pur_base.specs.declared.device.Device.TheVariants as dev
use Rattle.shelf_init.proofs.CallLemmas.{left_clean}

-- of a drive, a write in the gate of a slot that was open at most hides the body behind it
hides_one : (slot t : BootSlot) (was : Bool) (old new : List ℕ) → length new ≡ length old → is_open (gate_place slot) old ≡ was
    → ((k : ℕ) → ((was ≡ true) × IsIn (record { start = gate_place slot; size = SECTOR_BYTES }) k → ⊥) → slice_index new k ≡ slice_index old k)
    → (shown_by t new ≡ None) ⊎ (shown_by t new ≡ shown_by t old)
hides_one slot t was old new size is same = elim (this_or_other t slot) [
  | inr other ↦ inr (subst (λ (x : BootSlot). shown_by x new ≡ shown_by x old) (sym other) (other_same slot old new size outside))
  | inl this ↦ subst (λ (x : BootSlot). (shown_by x new ≡ None) ⊎ (shown_by x new ≡ shown_by x old)) (sym this) here
]
  where
    outside : (k : ℕ) → (IsIn (record { start = gate_place slot; size = SECTOR_BYTES }) k → ⊥) → slice_index new k ≡ slice_index old k
    outside k out = same k (λ w. out w.1)

    body : body_in slot new ≡ body_in slot old
    body = bodies_same slot old new size outside slot

    shut_before : was ≡ false → is_open (gate_place slot) new ≡ is_open (gate_place slot) old
    shut_before shut = ap (λ (x : ℕ). x == 1) (same (gate_place slot) (λ w. absurd (cc (w.0, shut))))

    here : (shown_by slot new ≡ None) ⊎ (shown_by slot new ≡ shown_by slot old)
    here = elim (cases_Bool (is_open (gate_place slot) new)) [
      | inr shut ↦ inl (closed_shows slot new shut)
      | inl open_now ↦ elim (cases_Bool was) [
        | inl yes_open ↦ let before : is_open (gate_place slot) old ≡ true = is ∙ yes_open in inr (rw (open_now, before, body) refl)
        | inr shut ↦ absurd (cc (shut_before shut, is, shut, open_now))
      ]
    ]

-- closing the gates of slot A, and then those of slot B
module _ (a b c : Shelved) (bytes : List ℕ) (ab : Continues a b) (read : GatesAreRead a bytes)
    (w1 : WritesOnly (OnOpen bytes A) a b) (w2 : WritesOnly (OnOpen bytes B) b c) where
  gates_b : (i : ℕ) → slice_index (b.disk (drive i)).bytes (gate_place B) ≡ slice_index (a.disk (drive i)).bytes (gate_place B)
  gates_b i = (w1.device (drive i)).bytes (gate_place B) (λ w. omega (arith, w.1.1))

  -- slot B's gates are as they were read
  pub read_b : IsReadIn b bytes B
  read_b i lt = read B i (omega (arith, lt, ab.drives)) ∙ sym (ap (λ (x : ℕ). x == 1) (gates_b i))

  b_hides : (t : BootSlot) (i : ℕ) → i < a.drives → (shown_by t (b.disk (drive i)).bytes ≡ None) ⊎ (shown_by t (b.disk (drive i)).bytes ≡ shown_by t (a.disk (drive i)).bytes)
  b_hides t i lt =
      let changes = w1.device (drive i) in
      hides_one A t (is_open (REGION_BYTES * i + gate_place A) bytes) (a.disk (drive i)).bytes (b.disk (drive i)).bytes changes.size (sym (read A i lt)) changes.bytes

  second_hides : AreClean b → (stop : Stop) → LeavesBut (OnOpen bytes B) b stop → HidesOnly a stop.image
  second_hides clean_b stop left t i lt =
      let may = left.bytes (drive i) in
      elim (hides_one B t (is_open (REGION_BYTES * i + gate_place B) bytes) (b.disk (drive i)).bytes (stop.image (drive i)) may.size (sym (read_b i (omega (arith, lt, ab.drives))))
      (left_clean (b.disk (drive i)) (stop.image (drive i)) (clean_b (drive i)) may)) [
        | inl none ↦ inl none
        | inr same ↦ elim (b_hides t i lt) [ inl none ↦ inl (same ∙ none) | inr was ↦ inr (same ∙ was) ]
      ]

  pub all_shut : Continues b c → IsShut b A → IsShut c B → (slot : BootSlot) → IsShut c slot
  all_shut bc first second A i lt = ap (λ (x : ℕ). x == 1) ((w2.device (drive i)).bytes (gate_place A) (λ w. omega (arith, w.1.0))) ∙ first i (omega (arith, lt, bc.drives))
  all_shut bc first second B i lt = second i lt

pub while_closing_first : (a b : Shelved) (bytes : List ℕ) → AreClean a → GatesAreRead a bytes → WritesOnly (OnOpen bytes A) a b → LeavesOnly a b (λ stop. HidesOnly a stop.image)
while_closing_first a b bytes clean_a read w = weaker (λ stop left. λ t i lt.
    let may = left.bytes (drive i) in
    hides_one A t (is_open (REGION_BYTES * i + gate_place A) bytes) (a.disk (drive i)).bytes (stop.image (drive i)) may.size (sym (read A i lt))
    (left_clean (a.disk (drive i)) (stop.image (drive i)) (clean_a (drive i)) may)) w.any_moment

pub while_closing : (a b c : Shelved) (bytes : List ℕ) (ab : Continues a b) → AreClean a → GatesAreRead a bytes → WritesOnly (OnOpen bytes A) a b → WritesOnly (OnOpen bytes B) b c → AreClean b
    → LeavesOnly a c (λ stop. HidesOnly a stop.image)
while_closing a b c bytes ab clean_a read w1 w2 clean_b = then_run ab (while_closing_first a b bytes clean_a read w1) (weaker (second_hides a b c bytes ab read w1 w2 clean_b) w2.any_moment)

-- the drives that were chosen are those whose gate was read as open
module _ (bytes : List ℕ) (chosen : List Bool) (slot : BootSlot) (many : ℕ) (within : (i : ℕ) → IsMember chosen i → i < many)
    (value : (i : ℕ) → i < many → slice_index_or chosen i false ≡ is_open (REGION_BYTES * i + gate_place slot) bytes) where
  pub chosen_open : (d : Device) (k : ℕ) → OnMembers chosen (gate_place slot) SECTOR_BYTES d k → OnOpen bytes slot d k
  chosen_open (dev.Drive d) k w = (sym (value d.0 (within d.0 w.0)) ∙ w.0, w.1)
  chosen_open (dev.Nv n) k w = w

  -- then all gates of the slot are closed
  pub slot_shut : (a b : Shelved) (from : List ℕ) → many ≡ a.drives → Continues a b → from ≡ gate_bytes false → WritesOnly (OnMembers chosen (gate_place slot) SECTOR_BYTES) a b
      → ((i : ℕ) → IsMember chosen i → Written (gate_place slot) from (a.disk (drive i)).bytes (b.disk (drive i)).bytes) → IsReadIn a bytes slot → IsShut b slot
  slot_shut a b from all on is w written read i lt = elim (cases_Bool (slice_index_or chosen i false)) [
    | inl member ↦ gate_closes (gate_place slot) SECTOR_BYTES from (a.disk (drive i)).bytes (b.disk (drive i)).bytes (written i member)
        (ap length is ∙ gate_size false) (omega arith) (ap (λ (l : List ℕ). slice_index l 0) is ∙ closed_begins)
    | inr not_member ↦
        ap (λ (x : ℕ). x == 1) ((w.device (drive i)).bytes (gate_place slot) (λ o. absurd (cc (o.0, not_member))))
        ∙ sym (read i (omega (arith, lt, on.drives))) ∙ sym (value i (omega (arith, lt, on.drives, all))) ∙ not_member
  ]

pub if_all_shut : (answer : Result (Unit {0}) Failed) (a b c : Shelved) (bytes : List ℕ) (ab : Continues a b) → GatesAreRead a bytes → WritesOnly (OnOpen bytes A) a b → WritesOnly (OnOpen bytes B) b c
    → Continues b c → IsShut b A → OnOk answer (IsReadIn b bytes B → IsShut c B) → OnOk answer ((slot : BootSlot) → IsShut c slot)
if_all_shut (Ok x) a b c bytes ab read w1 w2 bc first second = all_shut a b c bytes ab read w1 w2 bc first (second (read_b a b c bytes ab read w1 w2))
if_all_shut (Err x) a b c bytes ab read w1 w2 bc first second = tt

-- the gate of a slot of the log is closed by zeros
pub log_gate : (from old new : List ℕ) (i : ℕ) → from ≡ zeros LOG_SLOTS → Written 0 from old new → i < LOG_SLOTS → is_open i new ≡ false
log_gate from old new i is w lt =
    let size : length from ≡ LOG_SLOTS = ap length is ∙ length-replicate {A = ℕ} LOG_SLOTS 0 in
    let zero_at : get_or from i 0 ≡ 0 = ap (λ (l : List ℕ). get_or l i 0) is ∙ get_or-replicate {A = ℕ} LOG_SLOTS i 0 0 lt in
    let at : i ≡ 0 + i = omega arith in
    ap (λ (x : ℕ). x == 1) (ap (λ (k : ℕ). get_or new k 0) at ∙ sym (get_or-between new 0 (0 + length from) i 0 (omega (arith, size, lt))) ∙ ap (λ (l : List ℕ). get_or l i 0) w.within ∙ zero_at)

-- the same of what a call answered
pub if_shut : (bytes : List ℕ) (chosen : List Bool) (slot : BootSlot) (many : ℕ) (within : (i : ℕ) → IsMember chosen i → i < many)
    (value : (i : ℕ) → i < many → slice_index_or chosen i false ≡ is_open (REGION_BYTES * i + gate_place slot) bytes)
    (answer : Result (Unit {0}) Failed) (a b : Shelved) (from : List ℕ) (at : ℕ) → many ≡ a.drives → Continues a b → from ≡ gate_bytes false → WritesOnly (OnMembers chosen (gate_place slot) SECTOR_BYTES) a b
    → at ≡ gate_place slot → OnOk answer ((i : ℕ) → IsMember chosen i → Written at from (a.disk (drive i)).bytes (b.disk (drive i)).bytes) → OnOk answer (IsReadIn a bytes slot → IsShut b slot)
if_shut bytes chosen slot many within value (Ok x) a b from at all on is w place written =
    slot_shut bytes chosen slot many within value a b from all on is w (subst (λ (p : ℕ). (i : ℕ) → IsMember chosen i → Written p from (a.disk (drive i)).bytes (b.disk (drive i)).bytes) place written)
if_shut bytes chosen slot many within value (Err x) a b from at all on is w place written = tt
