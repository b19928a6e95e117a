-- The gates of a log are closed.
use Rattle.nvram_log.proofs.Prelude.{nat_tests, ◌≡◌, inl, inr, ℕ, ◌+◌, ◌≤◌, ◌<◌, Bool, false, List, [], length, Some, slice_get, slice_index, sym, ◌∙◌, ap, subst, arith, append_assoc, cases_lt, is_open, Command, nvram, Shelved, Stop, IsShelf, IsIn, LeavesBut, none_dirty, LOG_SLOTS, head_bytes, Spells, slot_at, ShowsIn, IsMember, OnRange, IsBetween, IsLog, HoldsOn, LeavesBetween}
use Rattle.log_codec.proofs.OneHead.{one_command, same_heads}
use Rattle.nvram_log.proofs.Lists.{some_at}
use Rattle.nvram_log.proofs.Showing.{AreImages, same_slot, same_gate, closed_shows}

-- a slot spells one number
pub one_number : (bytes : List ℕ) (m n : ℕ) (c d : Command) → Spells bytes m c → Spells bytes n d → m ≡ n
one_number bytes m n c d first second = grind (arith, nat_tests, same_heads, append_assoc, head_bytes)

-- only gates of the log change
module _ (a b : List ℕ) (flushed : ℕ) (commands : List Command) (are : AreImages a b) (log : IsLog a flushed commands)
    (same : (k : ℕ) → (IsIn (record { start = 0; size = length commands }) k → ⊥) → slice_index b k ≡ slice_index a k) where
  slot : (i : ℕ) → i < LOG_SLOTS → slot_at i b ≡ slot_at i a
  slot i lt = same_slot a b i are lt (λ k from to. same k (λ is. omega (arith, is.1, from, log.room)))

  shut : (i : ℕ) → length commands ≤ i → i < LOG_SLOTS → is_open i b ≡ false
  shut i le lt = same_gate a b i (same i (λ w. omega (arith, w.1, le))) ∙ log.shut i le lt

  -- a slot of the log spells its command still
  spelled : (i : ℕ) (c : Command) → i < LOG_SLOTS → slice_get commands i ≡ Some c → Spells (slot_at i b) (flushed + 1 + i) c
  spelled i c lt is = subst (λ (l : List ℕ). Spells l (flushed + 1 + i) c) (sym (slot i lt)) (log.between.all i c is).spelled

  no_other : (i : ℕ) (c : Command) → ShowsIn b flushed i c → slice_get commands i ≡ Some c
  no_other i c shows = elim (cases_lt i (length commands)) [
    | inl lt ↦
        let some = some_at commands i lt in
        some.1 ∙ ap Some (one_command (slot_at i b) (flushed + 1 + i) some.0 c (spelled i some.0 shows.slot some.1) shows.spelled)
    | inr ge ↦ absurd (closed_shows b flushed i c (shut i ge shows.slot) shows)
  ]

  pub closing : IsBetween b flushed [] commands
  closing = record { all = λ i c is. absurd (cc is); no_other = no_other }

  no_later : (i : ℕ) (c : Command) → ShowsIn b (flushed + length commands) i c → ⊥
  no_later i c shows = elim (cases_lt i (length commands)) [
    | inl lt ↦
        let some = some_at commands i lt in
        let one = one_number (slot_at i b) (flushed + 1 + i) (flushed + length commands + 1 + i) some.0 c (spelled i some.0 shows.slot some.1) shows.spelled in
        absurd (omega (arith, one, lt))
    | inr ge ↦ absurd (closed_shows b (flushed + length commands) i c (shut i ge shows.slot) shows)
  ]

  pub nothing_later : IsBetween b (flushed + length commands) [] []
  nothing_later = record { all = λ i c is. absurd (cc is); no_other = λ i c shows. absurd (no_later i c shows) }

-- at each moment of it, on each member
module _ (a : Shelved) (members : List Bool) (flushed : ℕ) (commands : List Command) (is_a : IsShelf a) (h : a.honest) (holds : HoldsOn a members flushed commands) where
  same_out : (stop : Stop) → LeavesBut (OnRange members 0 (length commands)) a stop → (n : ℕ) → n < 2 → IsMember members n
      → (k : ℕ) → (IsIn (record { start = 0; size = length commands }) k → ⊥) → slice_index (stop.image (nvram n)) k ≡ slice_index (a.disk (nvram n)).bytes k
  same_out stop but n lt is k out = (but.bytes (nvram n)).same k (none_dirty (a.disk (nvram n)) (holds.clean n lt is) k) (λ w. out w.1)

  images : (stop : Stop) → LeavesBut (OnRange members 0 (length commands)) a stop → (n : ℕ) → n < 2 → AreImages (a.disk (nvram n)).bytes (stop.image (nvram n))
  images stop but n lt = record { old = is_a.sizes h (nvram n) lt; new = (but.bytes (nvram n)).size }

  pub while_closing : (stop : Stop) → LeavesBut (OnRange members 0 (length commands)) a stop → LeavesBetween members flushed [] commands stop
  while_closing stop but n lt is = closing (a.disk (nvram n)).bytes (stop.image (nvram n)) flushed commands (images stop but n lt) (holds.log n lt is) (same_out stop but n lt is)

  pub none_while_closing : (stop : Stop) → LeavesBut (OnRange members 0 (length commands)) a stop → LeavesBetween members (flushed + length commands) [] [] stop
  none_while_closing stop but n lt is = nothing_later (a.disk (nvram n)).bytes (stop.image (nvram n)) flushed commands (images stop but n lt) (holds.log n lt is) (same_out stop but n lt is)
