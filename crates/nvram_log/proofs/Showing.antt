-- What a device shows of a log whose bytes stay in part.
use Rattle.nvram_log.proofs.Prelude.{nat_tests, ◌≡◌, inl, inr, ℕ, ◌+◌, ◌-◌, ◌≤◌, ◌<◌, false, List, ◌++◌, length, Some, slice_get, slice_index, sym, ◌∙◌, ap, subst, arith, length-append, ◌==◌, cases_lt, slice_get_within, is_open, Command, NVRAM_BYTES, IsIn, same_part, LOG_SLOTS, Spells, slot_at, ShowsIn, IsBetween, IsLog, slot_place}
use Rattle.log_codec.proofs.OneHead.{one_command}
use Rattle.nvram_log.proofs.Staged.{at_range}
use Rattle.nvram_log.proofs.Lists.{get_either, get_left, get_right, some_at}

-- bytes of an NVRAM device, and others in their place
pub record AreImages (a b : List ℕ) : Type 0 where
  pub old : length a ≡ NVRAM_BYTES
  pub new : length b ≡ length a

pub same_gate : (a b : List ℕ) (i : ℕ) → slice_index b i ≡ slice_index a i → is_open i b ≡ is_open i a
same_gate a b i e = ap (λ (n : ℕ). n == 1) e

pub same_slot : (a b : List ℕ) (i : ℕ) → AreImages a b → i < LOG_SLOTS → ((k : ℕ) → slot_place i ≤ k → k < slot_place (i + 1) → slice_index b k ≡ slice_index a k) → slot_at i b ≡ slot_at i a
same_slot a b i are lt same =
    at_range (slot_place i) 33280 b
    ∙ same_part b a (slot_place i) 33280 (omega (arith, are.old, are.new)) are.new (λ k is. same k is.0 (omega (arith, is.1)))
    ∙ sym (at_range (slot_place i) 33280 a)

-- what one shows the other shows, where gate and slot are the same
pub shows_too : (a b : List ℕ) (flushed i : ℕ) (c : Command) → is_open i b ≡ is_open i a → slot_at i b ≡ slot_at i a → ShowsIn a flushed i c → ShowsIn b flushed i c
shows_too a b flushed i c gate slot shows = grind (arith, nat_tests)

pub closed_shows : (b : List ℕ) (flushed i : ℕ) (c : Command) → is_open i b ≡ false → ShowsIn b flushed i c → ⊥
closed_shows b flushed i c shut shows = absurd (cc (shut, shows.gate))

-- nothing in front of the first free slot changes
module _ (a b : List ℕ) (flushed : ℕ) (commands : List Command) (are : AreImages a b) (log : IsLog a flushed commands)
    (same : (k : ℕ) → k < slot_place (length commands) → slice_index b k ≡ slice_index a k) where
  gate : (i : ℕ) → i < LOG_SLOTS → is_open i b ≡ is_open i a
  gate i lt = same_gate a b i (same i (omega (arith, lt)))

  slot : (i : ℕ) → i < length commands → slot_at i b ≡ slot_at i a
  slot i lt = same_slot a b i are (omega (arith, lt, log.room)) (λ k from to. same k (omega (arith, to, lt)))

  shut : (i : ℕ) → length commands ≤ i → i < LOG_SLOTS → is_open i b ≡ false
  shut i le lt = gate i lt ∙ log.shut i le lt

  all : (i : ℕ) (c : Command) → slice_get commands i ≡ Some c → ShowsIn b flushed i c
  all i c is =
      let lt : i < length commands = slice_get_within commands i c is in
      shows_too a b flushed i c (gate i (omega (arith, lt, log.room))) (slot i lt) (log.between.all i c is)

  no_other : (i : ℕ) (c : Command) → ShowsIn b flushed i c → slice_get commands i ≡ Some c
  no_other i c shows = elim (cases_lt i (length commands)) [
    | inl lt ↦ log.between.no_other i c (shows_too b a flushed i c (sym (gate i shows.slot)) (sym (slot i lt)) shows)
    | inr ge ↦ absurd (closed_shows b flushed i c (shut i ge shows.slot) shows)
  ]

  pub unwritten : IsLog b flushed commands
  unwritten = record { room = log.room; between = record { all = all; no_other = no_other }; shut = shut }

-- only the gates behind the log change, and what they guard spells further commands
module _ (a b : List ℕ) (flushed : ℕ) (commands more : List Command) (are : AreImages a b) (log : IsLog a flushed commands) (fits : length commands + length more ≤ LOG_SLOTS)
    (spelled : (j : ℕ) (c : Command) → slice_get more j ≡ Some c → Spells (slot_at (length commands + j) a) (flushed + 1 + (length commands + j)) c)
    (same : (k : ℕ) → (IsIn (record { start = length commands; size = length more }) k → ⊥) → slice_index b k ≡ slice_index a k) where
  slot_too : (i : ℕ) → i < LOG_SLOTS → slot_at i b ≡ slot_at i a
  slot_too i lt = same_slot a b i are lt (λ k from to. same k (λ is. omega (arith, is.1, from, fits)))

  gate_out : (i : ℕ) → (IsIn (record { start = length commands; size = length more }) i → ⊥) → is_open i b ≡ is_open i a
  gate_out i out = same_gate a b i (same i out)

  all_still : (i : ℕ) (c : Command) → slice_get commands i ≡ Some c → ShowsIn b flushed i c
  all_still i c is = grind (arith, nat_tests, slice_get_within, shows_too, gate_out, slot_too, all)

  shut_still : (i : ℕ) → length commands + length more ≤ i → i < LOG_SLOTS → is_open i b ≡ false
  shut_still i le lt = gate_out i (λ w. omega (arith, w.1, le)) ∙ log.shut i (omega (arith, le)) lt

  -- in a slot of the new ones
  spelled_at : (i : ℕ) (c : Command) → length commands ≤ i → slice_get more (i - length commands) ≡ Some c → Spells (slot_at i b) (flushed + 1 + i) c
  spelled_at i c le is =
      let e : length commands + (i - length commands) ≡ i = omega (arith, le) in
      let lt : i - length commands < length more = slice_get_within more (i - length commands) c is in
      subst (λ (l : List ℕ). Spells l (flushed + 1 + i) c) (sym (slot_too i (omega (arith, le, lt, fits))))
      (subst (λ (n : ℕ). Spells (slot_at n a) (flushed + 1 + n) c) e (spelled (i - length commands) c is))

  new_only : (i : ℕ) (c : Command) → length commands ≤ i → i < length commands + length more → ShowsIn b flushed i c → slice_get (commands ++ more) i ≡ Some c
  new_only i c le lt shows =
      let some = some_at more (i - length commands) (omega (arith, le, lt)) in
      let d = some.0 in
      let same_one : d ≡ c = one_command (slot_at i b) (flushed + 1 + i) d c (spelled_at i d le some.1) shows.spelled in
      get_right commands more i c le (some.1 ∙ ap Some same_one)

  no_other_still : (i : ℕ) (c : Command) → ShowsIn b flushed i c → slice_get (commands ++ more) i ≡ Some c
  no_other_still i c shows = elim (cases_lt i (length commands)) [
    | inl lt ↦ get_left commands more i c (log.between.no_other i c (shows_too b a flushed i c (sym (gate_out i (λ w. omega (arith, w.0, lt)))) (sym (slot_too i shows.slot)) shows))
    | inr ge ↦ elim (cases_lt i (length commands + length more)) [
      | inl lt ↦ new_only i c ge lt shows
      | inr past ↦ absurd (closed_shows b flushed i c (shut_still i past shows.slot) shows)
    ]
  ]

  pub opening : IsBetween b flushed commands (commands ++ more)
  opening = record { all = all_still; no_other = no_other_still }

  module _ (open_now : (j : ℕ) → j < length more → slice_index b (length commands + j) ≡ 1) where
    new_shown : (i : ℕ) (c : Command) → length commands ≤ i → slice_get more (i - length commands) ≡ Some c → ShowsIn b flushed i c
    new_shown i c le is =
        let lt : i - length commands < length more = slice_get_within more (i - length commands) c is in
        record {
          slot = omega (arith, le, lt, fits);
          gate = ap (λ (n : ℕ). n == 1) (subst (λ (n : ℕ). slice_index b n ≡ 1) (let e : length commands + (i - length commands) ≡ i = omega (arith, le) in e) (open_now (i - length commands) lt));
          spelled = spelled_at i c le is;
        }

    all_now : (i : ℕ) (c : Command) → slice_get (commands ++ more) i ≡ Some c → ShowsIn b flushed i c
    all_now i c is = grind (arith, nat_tests, get_either, all_still, new_shown)

    pub opened : IsLog b flushed (commands ++ more)
    opened = record {
      room = omega (arith, length-append commands more, fits);
      between = record { all = all_now; no_other = no_other_still };
      shut = λ i le lt. shut_still i (omega (arith, le, length-append commands more)) lt;
    }
