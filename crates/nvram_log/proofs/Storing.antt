-- A record is stored on the members: its slot, and then its gate.
use Rattle.nvram_log.proofs.Prelude.{nat_tests, ◌≡◌, inl, inr, ⊎_elim, ℕ, zero, suc, ◌+◌, ◌≤◌, ◌<◌, Bool, false, List, [], ◌∷◌, ◌++◌, length, Some, slice_get, slice_index, slice_index_or, replicate, sym, ◌∙◌, ap, subst, arith, cases_Bool, get_or-replicate, get_or_past, get_or-between, Command, nvram, Device, Drive, Nv, Shelved, Stop, Disk, IsShelf, IsIn, Written, WritesOnly, LeavesBut, MayLeaveBut, ChangesOnly, none_dirty, HasSpelling, Spells, slot_at, slot_bytes, IsMember, IsOnMember, IsFewer, OnMembers, OnRange, Outcome, slot_place, IsBetween, IsLog, HoldsOn, LeavesBetween}
use Rattle.nvram_log.proofs.Lists.{get_left}
use Rattle.nvram_log.proofs.Along.{front_written}
use Rattle.nvram_log.specs.lemmas.Heads.{spells_front}
use Rattle.nvram_log.proofs.Showing.{AreImages, unwritten, opening, opened}

-- there are two devices
pub member_below : (members : List Bool) (n : ℕ) → length members ≡ 2 → IsMember members n → n < 2
member_below members n two is = grind (arith, nat_tests, get_or_past)

-- a log that is shown whole is between itself and a longer one
pub whole : (bytes : List ℕ) (flushed : ℕ) (commands more : List Command) → IsLog bytes flushed commands → IsBetween bytes flushed commands (commands ++ more)
whole bytes flushed commands more log = record { all = log.between.all; no_other = λ i c shows. get_left commands more i c (log.between.no_other i c shows) }

module _ (a m : Shelved) (members left : List Bool) (body : List ℕ) (flushed first : ℕ) (commands : List Command) (c : Command)
    (is_a : IsShelf a) (h : a.honest) (count : length commands ≡ first) (fits : first < 64) (few : length body ≤ 33280)
    (lawful : HasSpelling (flushed + 1 + first) c) (text : body ≡ slot_bytes (flushed + 1 + first) c) (holds : HoldsOn a members flushed commands)
    (wrote : WritesOnly (OnRange members (slot_place first) (length body)) a m)
    (outcome : (n : ℕ) → n < 2 → Outcome a.honest (IsMember members n) (IsMember left n) (Written (slot_place first) body (a.disk (nvram n)).bytes (m.disk (nvram n)).bytes) (a.disk (nvram n)) (m.disk (nvram n))) where
  abbrev place : ℕ
  place = slot_place first

  image_of : (n : ℕ) → n < 2 → (b : List ℕ) → length b ≡ length (a.disk (nvram n)).bytes → AreImages (a.disk (nvram n)).bytes b
  image_of n lt b size = record { old = is_a.sizes h (nvram n) lt; new = size }

  -- where nothing in front of the new slot changes, the log stands
  stands_in : (n : ℕ) → n < 2 → IsMember members n → (b : List ℕ) → length b ≡ length (a.disk (nvram n)).bytes → ((k : ℕ) → k < place → slice_index b k ≡ slice_index (a.disk (nvram n)).bytes k) → IsLog b flushed commands
  stands_in n lt is b size same = unwritten (a.disk (nvram n)).bytes b flushed commands (image_of n lt b size) (holds.log n lt is) (λ k below. same k (omega (arith, below, count)))

  in_front : (n k : ℕ) → k < place → OnRange members place (length body) (nvram n) k → ⊥
  in_front n k below w = omega (arith, below, w.1.0)

  pub first_phase : (stop : Stop) → LeavesBut (OnRange members place (length body)) a stop → LeavesBetween members flushed commands (commands ++ c ∷ []) stop
  first_phase stop but n lt is =
      let b = but.bytes (nvram n) in
      whole (stop.image (nvram n)) flushed commands (c ∷ []) (stands_in n lt is (stop.image (nvram n)) b.size (λ k below. b.same k (none_dirty (a.disk (nvram n)) (holds.clean n lt is) k) (in_front n k below)))

  -- the same after it
  mid_log : (n : ℕ) → n < 2 → IsMember members n → IsLog (m.disk (nvram n)).bytes flushed commands
  mid_log n lt is = let changes = wrote.device (nvram n) in stands_in n lt is (m.disk (nvram n)).bytes changes.size (λ k below. changes.bytes k (in_front n k below))

  mid_size : (n : ℕ) → n < 2 → length (m.disk (nvram n)).bytes ≡ 2134016
  mid_size n lt = (wrote.device (nvram n)).size ∙ is_a.sizes h (nvram n) lt

  mid_spelled : (n : ℕ) → n < 2 → IsMember left n → (j : ℕ) (d : Command) → slice_get (c ∷ []) j ≡ Some d → Spells (slot_at (length commands + j) (m.disk (nvram n)).bytes) (flushed + 1 + (length commands + j)) d
  mid_spelled n lt is zero d at =
      let here : Spells (slot_at first (m.disk (nvram n)).bytes) (flushed + 1 + first) c = spells_front (slot_at first (m.disk (nvram n)).bytes) (length body) (flushed + 1 + first) c lawful
      (front_written first body (a.disk (nvram n)).bytes (m.disk (nvram n)).bytes few ((outcome n lt).written h is) ∙ text) in
      subst (λ (k : ℕ). Spells (slot_at k (m.disk (nvram n)).bytes) (flushed + 1 + k) d) (let e : first ≡ length commands + 0 = omega (arith, count) in e)
      (subst (λ (x : Command). Spells (slot_at first (m.disk (nvram n)).bytes) (flushed + 1 + first) x) (let same : c ≡ d = cc at in same) here)
  mid_spelled n lt is (suc j) d at = absurd (cc at)

  in_gate : (k : ℕ) → IsIn (record { start = first; size = 1 }) k → IsIn (record { start = length commands; size = 1 }) k
  in_gate k is = (omega (arith, is.0, count), omega (arith, is.1, count))

  pub second_phase : (stop : Stop) → LeavesBut (OnRange left first 1) m stop → LeavesBetween members flushed commands (commands ++ c ∷ []) stop
  second_phase stop but n lt is = elim (cases_Bool (slice_index_or left n false)) [
    | inl still ↦
        opening (m.disk (nvram n)).bytes (stop.image (nvram n)) flushed commands (c ∷ []) (record { old = mid_size n lt; new = b.size }) (mid_log n lt is) (omega (arith, fits, count)) (mid_spelled n lt still)
        (λ k out. b.same k (none_dirty (m.disk (nvram n)) ((outcome n lt).clean h still) k) (λ w. out (in_gate k w.1)))
    | inr gone ↦
        whole (stop.image (nvram n)) flushed commands (c ∷ []) (stands_in n lt is (stop.image (nvram n)) (b.size ∙ changes.size)
        (λ k below. b.same k (λ dirty. ⊎_elim (none_dirty (a.disk (nvram n)) (holds.clean n lt is) k) (in_front n k below) (changes.dirty k dirty)) (λ w. absurd (cc (w.0, gone))) ∙ changes.bytes k (in_front n k below)))
  ]
    where
      b : MayLeaveBut (OnRange left first 1 (nvram n)) (m.disk (nvram n)) (stop.image (nvram n))
      b = but.bytes (nvram n)

      changes : ChangesOnly (OnRange members place (length body) (nvram n)) (a.disk (nvram n)) (m.disk (nvram n))
      changes = wrote.device (nvram n)

  -- with its gate open, the new log stands
  pub end_log : (n : ℕ) → n < 2 → IsMember left n → (b : Disk) → Written first (replicate 1 1) (m.disk (nvram n)).bytes b.bytes → IsLog b.bytes flushed (commands ++ c ∷ [])
  end_log n lt is b written =
      opened (m.disk (nvram n)).bytes b.bytes flushed commands (c ∷ []) (record { old = mid_size n lt; new = written.size }) (mid_log n lt ((outcome n lt).before is)) (omega (arith, fits, count)) (mid_spelled n lt is)
      (λ k out. written.outside k (λ w. out (in_gate k w)))
      (λ j below. ap (λ (k : ℕ). slice_index b.bytes (k + j)) count
      ∙ sym (get_or-between b.bytes first (first + 1) j 0 (omega (arith, below)))
      ∙ ap (λ (l : List ℕ). slice_index l j) written.within
      ∙ get_or-replicate 1 j 1 0 below)

-- what is written on members
pub fewer_members : (members left : List Bool) → IsFewer members left → (d : Device) → IsOnMember left d → IsOnMember members d
fewer_members members left fewer (Drive d) is = is
fewer_members members left fewer (Nv v) is = fewer v.0 is

pub range_of_members : (members left : List Bool) (at n : ℕ) → IsFewer members left → (d : Device) (i : ℕ) → OnRange left at n d i → OnMembers members d i
range_of_members members left at n fewer (Drive d) i w = w
range_of_members members left at n fewer (Nv v) i w = fewer v.0 w.0
