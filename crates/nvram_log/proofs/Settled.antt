-- The log is settled on a device: gates are closed, slots copied, gates opened.
use Rattle.nvram_log.proofs.Prelude.{nat_tests, ◌≡◌, ◌≢◌, ◌⊎◌, Result, Ok, Err, OnOk, inl, inr, ℕ, ◌+◌, ◌≤◌, ◌<◌, Bool, true, false, not, ◌&&◌, nat_lt, if◌then◌else◌, List, [], length, map, Some, slice_get, slice_index, slice_index_or, sym, ◌∙◌, ap, subst, arith, refl, ◌==◌, ltb-true, range_with_len, cases_lt, cases_Bool, false_from_ne_true, get_or_past, slice_get_within, is_open, Command, Continues, Device, Disk, LeavesOnly, MayLeave, MayLeaveBut, ChangesOnly, Shelved, WritesOnly, may_leave_but, none_dirty, then_run, weaker, Spells, slot_at, ShowsIn, Failed, SeenSlots, IsLog, Logged, OnDevice, OnGates, OnSlots, GatesAre, SlotsAre, IsToSettle, SettlesBy}
use Rattle.std.proofs.lemmas.List.FromFn.{get_or-map-range_with_len, length-map-range_with_len}
use Rattle.log_codec.proofs.OneHead.{one_command}
use Rattle.nvram_log.proofs.Closing.{one_number}
use Rattle.nvram_log.proofs.Lists.{some_at}
use Rattle.nvram_log.proofs.Showing.{AreImages, same_gate, same_slot, shows_too, closed_shows}

-- the bytes with the flagged ones as they were
abbrev restored : List Bool → List ℕ → List ℕ → List ℕ
restored flags old bytes = map (λ k. if slice_index_or flags k false then slice_index old k else slice_index bytes k) (range_with_len 0 (length bytes))

-- the flags of the gates that are closed, and of the slots that are copied
pub record AreFlags (seen : SeenSlots) (count : ℕ) (closing lacking : List Bool) : Type 0 where
  pub closing_size : length closing ≡ 64
  pub closing_is : (i : ℕ) → i < 64 → slice_index_or closing i false ≡ (slice_index_or seen.open i false && not (slice_index_or seen.shown i false && nat_lt i count))
  pub lacking_is : (i : ℕ) → i < 64 → slice_index_or lacking i false ≡ (nat_lt i count && not (slice_index_or seen.shown i false))

module _ (d0 : Disk) (device : Device) (flushed : ℕ) (seen : SeenSlots) (records : List Logged) (commands : List Command) (closing lacking : List Bool)
    (size : length d0.bytes ≡ 2134016) (bytes_are : (i : ℕ) → slice_index d0.bytes i < 256)
    (is : IsToSettle d0.bytes flushed seen records commands) (flags : AreFlags seen (length commands) closing lacking) where
  in_log : (i : ℕ) → i < length commands → i < 64
  in_log i lt = omega (arith, lt, is.room)

  shown_not_closed : (i : ℕ) → i < length commands → slice_index_or seen.shown i false ≡ true → slice_index_or closing i false ≡ false
  shown_not_closed i lt shown = grind (arith, nat_tests, slice_index_or, nat_lt, in_log)

  shown_not_lacking : (i : ℕ) → i < 64 → slice_index_or seen.shown i false ≡ true → slice_index_or lacking i false ≡ false
  shown_not_lacking i lt shown = grind (arith, nat_tests, slice_index_or, nat_lt)

  lacks : (i : ℕ) → i < length commands → slice_index_or seen.shown i false ≡ false → slice_index_or lacking i false ≡ true
  lacks i lt none = grind (arith, nat_tests, slice_index_or, nat_lt, in_log)

  lacking_in_log : (i : ℕ) → i < 64 → slice_index_or lacking i false ≡ true → i < length commands
  lacking_in_log i lt lacks_it = grind (arith, nat_tests, slice_index_or, nat_lt)

  closing_open : (i : ℕ) → i < 64 → slice_index_or closing i false ≡ true → is_open i d0.bytes ≡ true
  closing_open i lt closes = grind (arith, nat_tests, slice_index_or, nat_lt)

  -- an open gate that isn't closed
  stays_open : (i : ℕ) → i < 64 → is_open i d0.bytes ≡ true → slice_index_or closing i false ≡ false → (slice_index_or seen.shown i false ≡ true) × (i < length commands)
  stays_open i lt opened keeps = grind (arith, nat_tests, slice_index_or, nat_lt, ltb-true)

  past_flags : (k : ℕ) → 64 ≤ k → slice_index_or closing k false ≡ false
  past_flags k ge = get_or_past closing k false (omega (arith, ge, flags.closing_size))

  seen_shown : (i : ℕ) (c : Command) → i < 64 → ShowsIn d0.bytes flushed i c → slice_index_or seen.shown i false ≡ true
  seen_shown i c lt shows = elim (cases_Bool (slice_index_or seen.shown i false)) [
    | inl shown ↦ shown
    | inr none ↦ absurd (is.shown.none i lt none c shows)
  ]

  was_itself : MayLeave d0 d0.bytes
  was_itself = record { size = refl; is_byte = bytes_are; clean = λ i nd. refl }

  -- while gates are closed
  module _ (x : List ℕ) (but : MayLeaveBut (OnGates device closing device) d0 x) where
    abbrev was : List ℕ
    was = restored closing d0.bytes x

    was_size : length was ≡ length x
    was_size = length-map-range_with_len (λ (k : ℕ). if slice_index_or closing k false then slice_index d0.bytes k else slice_index x k) 0 (length x)

    at : (k : ℕ) → k < length x → slice_index was k ≡ (if slice_index_or closing k false then slice_index d0.bytes k else slice_index x k)
    at k lt = get_or-map-range_with_len (λ (k : ℕ). if slice_index_or closing k false then slice_index d0.bytes k else slice_index x k) 0 (length x) k k 0 lt (omega arith)

    restored_at : (k : ℕ) → ((slice_index was k ≡ slice_index d0.bytes k) × (slice_index_or closing k false ≡ true)) ⊎ ((slice_index was k ≡ slice_index x k) × (slice_index_or closing k false ≡ false))
    restored_at k = grind (arith, nat_tests, slice_index_or, at, slice_index, get_or_past, was_size, past_flags)

    was_may : MayLeave d0 was
    was_may = grind (arith, nat_tests, was_size, restored_at)

    slot_was : (i : ℕ) → i < 64 → slot_at i was ≡ slot_at i x
    slot_was i lt = grind (arith, nat_tests, same_slot, was_size, restored_at, past_flags)

    gate_was : (i : ℕ) → i < 64 → is_open i x ≡ true → is_open i was ≡ true
    gate_was i lt opened = grind (arith, nat_tests, restored_at, closing_open)

    shown_before : (number i : ℕ) (c : Command) → ShowsIn x number i c → ShowsIn was number i c
    shown_before number i c shows = grind (arith, nat_tests, gate_was, slot_was)

    still_first : d0.dirty ≡ [] → (i : ℕ) (c : Command) → i < length commands → ShowsIn d0.bytes flushed i c → ShowsIn x flushed i c
    still_first clean i c lt shows =
        let below = in_log i lt in
        let keeps = shown_not_closed i lt (seen_shown i c below shows) in
        shows_too d0.bytes x flushed i c
        (same_gate d0.bytes x i (but.same i (none_dirty d0 clean i) (λ w. absurd (cc (w.2, keeps)))))
        (same_slot d0.bytes x i (record { old = size; new = but.size }) below (λ k from to. but.same k (none_dirty d0 clean k) (λ w. omega (arith, w.1, from))))
        shows

    pub while_closing : SettlesBy d0 flushed commands x
    while_closing = record {
      was = was;
      may = was_may;
      size = but.size;
      no_other = λ i c shows. inr (shown_before flushed i c shows);
      none_elsewhere = λ other i c apart shows. shown_before other i c shows;
      still = still_first;
    }

  -- once they are closed
  module _ (d1 : Disk) (c1 : ChangesOnly (OnGates device closing device) d0 d1) (shut : GatesAre closing 0 d1.bytes) (clean1 : d1.dirty ≡ []) where
    images1 : AreImages d0.bytes d1.bytes
    images1 = record { old = size; new = c1.size }

    slot1 : (i : ℕ) → i < 64 → slot_at i d1.bytes ≡ slot_at i d0.bytes
    slot1 i lt = same_slot d0.bytes d1.bytes i images1 lt (λ k from to. c1.bytes k (λ w. omega (arith, w.1, from)))

    gate1 : (i : ℕ) → slice_index_or closing i false ≡ false → is_open i d1.bytes ≡ is_open i d0.bytes
    gate1 i keeps = same_gate d0.bytes d1.bytes i (c1.bytes i (λ w. absurd (cc (w.2, keeps))))

    kept_open : (i : ℕ) → i < 64 → is_open i d1.bytes ≡ true → slice_index_or closing i false ≡ false
    kept_open i lt opened = grind (arith, nat_tests, slice_index_or)

    open1 : (i : ℕ) → i < 64 → is_open i d1.bytes ≡ true → (slice_index_or seen.shown i false ≡ true) × (i < length commands)
    open1 i lt opened = let keeps = kept_open i lt opened in stays_open i lt (sym (gate1 i keeps) ∙ opened) keeps

    -- bytes with that gate and that slot show what was shown
    back : (b : List ℕ) (number i : ℕ) (c : Command) → is_open i b ≡ is_open i d1.bytes → slot_at i b ≡ slot_at i d1.bytes → ShowsIn b number i c → ShowsIn d0.bytes number i c
    back b number i c gate slot shows = grind (arith, nat_tests, is_open, shows_too, gate1, kept_open, slot1)

    forth : (b : List ℕ) (i : ℕ) (c : Command) → i < length commands → is_open i b ≡ is_open i d1.bytes → slot_at i b ≡ slot_at i d1.bytes → ShowsIn d0.bytes flushed i c → ShowsIn b flushed i c
    forth b i c lt gate slot shows =
        let below = in_log i lt in
        shows_too d0.bytes b flushed i c (gate ∙ gate1 i (shown_not_closed i lt (seen_shown i c below shows))) (slot ∙ slot1 i below) shows

    -- while slots are copied
    module _ (y : List ℕ) (but : MayLeaveBut (OnSlots device lacking device) d1 y) where
      same2 : (k : ℕ) → (OnSlots device lacking device k → ⊥) → slice_index y k ≡ slice_index d1.bytes k
      same2 k out = but.same k (none_dirty d1 clean1 k) out

      gate2 : (i : ℕ) → i < 64 → is_open i y ≡ is_open i d1.bytes
      gate2 i lt = same_gate d1.bytes y i (same2 i (λ w. omega (arith, w.1.within.0, lt)))

      slot2 : (i : ℕ) → i < 64 → slice_index_or lacking i false ≡ false → slot_at i y ≡ slot_at i d1.bytes
      slot2 i lt none = grind (arith, nat_tests, same_slot, same2)

      shown_copying : (number i : ℕ) (c : Command) → ShowsIn y number i c → ShowsIn d0.bytes number i c
      shown_copying number i c shows =
          let o = open1 i shows.slot (sym (gate2 i shows.slot) ∙ shows.gate) in
          back y number i c (gate2 i shows.slot) (slot2 i shows.slot (shown_not_lacking i shows.slot o.0)) shows

      pub while_copying : SettlesBy d0 flushed commands y
      while_copying = record {
        was = d0.bytes;
        may = was_itself;
        size = but.size ∙ c1.size;
        no_other = λ i c shows. inr (shown_copying flushed i c shows);
        none_elsewhere = λ other i c apart shows. shown_copying other i c shows;
        still = λ clean i c lt shows.
            let below = in_log i lt in
            forth y i c lt (gate2 i below) (slot2 i below (shown_not_lacking i below (seen_shown i c below shows))) shows;
      }

    -- once they are copied
    module _ (d2 : Disk) (c2 : ChangesOnly (OnSlots device lacking device) d1 d2) (copied : SlotsAre lacking records d2.bytes) (clean2 : d2.dirty ≡ []) where
      size2 : length d2.bytes ≡ 2134016
      size2 = c2.size ∙ c1.size ∙ size

      mid_gate : (i : ℕ) → i < 64 → is_open i d2.bytes ≡ is_open i d1.bytes
      mid_gate i lt = same_gate d1.bytes d2.bytes i (c2.bytes i (λ w. omega (arith, w.1.within.0, lt)))

      mid_slot : (i : ℕ) → i < 64 → slice_index_or lacking i false ≡ false → slot_at i d2.bytes ≡ slot_at i d1.bytes
      mid_slot i lt none = grind (arith, nat_tests, same_slot)

      -- bytes that differ only in the gates of those slots
      module _ (z : List ℕ) (z_size : length z ≡ length d2.bytes) (same : (k : ℕ) → (OnGates device lacking device k → ⊥) → slice_index z k ≡ slice_index d2.bytes k) where
        end_slot : (i : ℕ) → i < 64 → slot_at i z ≡ slot_at i d2.bytes
        end_slot i lt = same_slot d2.bytes z i (record { old = size2; new = z_size }) lt (λ k from to. same k (λ w. omega (arith, w.1, from)))

        end_gate : (i : ℕ) → i < 64 → slice_index_or lacking i false ≡ false → is_open i z ≡ is_open i d1.bytes
        end_gate i lt none = same_gate d2.bytes z i (same i (λ w. absurd (cc (w.2, none)))) ∙ mid_gate i lt

        slot3 : (i : ℕ) → i < 64 → slice_index_or lacking i false ≡ false → slot_at i z ≡ slot_at i d1.bytes
        slot3 i lt none = end_slot i lt ∙ mid_slot i lt none

        copied_spells : (i : ℕ) (c : Command) → i < 64 → slice_index_or lacking i false ≡ true → slice_get commands i ≡ Some c → Spells (slot_at i z) (flushed + 1 + i) c
        copied_spells i c lt lacks_it at = subst (λ (l : List ℕ). Spells l (flushed + 1 + i) c) (sym (end_slot i lt)) (let r = is.read i c at in copied i r.logged lt lacks_it r.at _ c r.lawful r.read)

        either : (i : ℕ) (c : Command) → ShowsIn z flushed i c → (slice_get commands i ≡ Some c) ⊎ ShowsIn d0.bytes flushed i c
        either i c shows = elim (cases_Bool (slice_index_or lacking i false)) [
          | inl lacks_it ↦
              let some = some_at commands i (lacking_in_log i shows.slot lacks_it) in
              inl (some.1 ∙ ap Some (one_command (slot_at i z) (flushed + 1 + i) some.0 c (copied_spells i some.0 shows.slot lacks_it some.1) shows.spelled))
          | inr none ↦ inr (back z flushed i c (end_gate i shows.slot none) (slot3 i shows.slot none) shows)
        ]

        -- a copied slot spells the number of the log, and no other
        elsewhere : (other i : ℕ) (c : Command) → other ≢ flushed → ShowsIn z other i c → ShowsIn d0.bytes other i c
        elsewhere other i c apart shows = elim (cases_Bool (slice_index_or lacking i false)) [
          | inl lacks_it ↦
              let some = some_at commands i (lacking_in_log i shows.slot lacks_it) in
              let one = one_number (slot_at i z) (other + 1 + i) (flushed + 1 + i) c some.0 shows.spelled (copied_spells i some.0 shows.slot lacks_it some.1) in
              let same : other ≡ flushed = omega (arith, one) in
              absurd (apart same)
          | inr none ↦ back z other i c (end_gate i shows.slot none) (slot3 i shows.slot none) shows
        ]

        still_third : (i : ℕ) (c : Command) → i < length commands → ShowsIn d0.bytes flushed i c → ShowsIn z flushed i c
        still_third i c lt shows =
            let below = in_log i lt in
            let none = shown_not_lacking i below (seen_shown i c below shows) in
            forth z i c lt (end_gate i below none) (slot3 i below none) shows

        pub while_opening : SettlesBy d0 flushed commands z
        while_opening = record { was = d0.bytes; may = was_itself; size = z_size ∙ c2.size ∙ c1.size; no_other = either; none_elsewhere = elsewhere; still = λ clean. still_third }

        -- once they are open
        module _ (opened : GatesAre lacking 1 z) where
          shut3 : (i : ℕ) → length commands ≤ i → i < 64 → is_open i z ≡ false
          shut3 i ge lt = grind (arith, nat_tests, false_from_ne_true, is_open, slice_index_or, lacking_in_log, open1, end_gate)

          all : (i : ℕ) (c : Command) → slice_get commands i ≡ Some c → ShowsIn z flushed i c
          all i c at =
              let lt : i < length commands = slice_get_within commands i c at in
              let below = in_log i lt in
              elim (cases_Bool (slice_index_or seen.shown i false)) [
                | inl shown ↦
                    let some = is.shown.some i below shown in
                    let same_one : some.0 ≡ c = cc (is.agrees i some.0 lt some.1, at) in
                    still_third i c lt (subst (λ (x : Command). ShowsIn d0.bytes flushed i x) same_one some.1)
                | inr none ↦ record { slot = below; gate = ap (λ (n : ℕ). n == 1) (opened i below (lacks i lt none)); spelled = copied_spells i c below (lacks i lt none) at }
              ]

          only : (i : ℕ) (c : Command) → ShowsIn z flushed i c → slice_get commands i ≡ Some c
          only i c shows = elim (either i c shows) [
            | inl at ↦ at
            | inr before ↦ elim (cases_lt i (length commands)) [
              | inl lt ↦ is.agrees i c lt before
              | inr ge ↦ absurd (closed_shows z flushed i c (shut3 i ge shows.slot) shows)
            ]
          ]

          pub settled : IsLog z flushed commands
          settled = record { room = is.room; between = record { all = all; no_other = only }; shut = shut3 }

-- what is written lies on the device
pub on_gates : (device : Device) (flags : List Bool) (d : Device) (i : ℕ) → OnGates device flags d i → OnDevice device d i
on_gates device flags d i w = w.0

pub on_slots : (device : Device) (flags : List Bool) (d : Device) (i : ℕ) → OnSlots device flags d i → OnDevice device d i
on_slots device flags d i w = w.0

-- the flags as they are computed
pub flags_of : (seen : SeenSlots) (count n : ℕ) (closing lacking : List Bool) → length closing ≡ 64 → n ≡ count
    → ((i : ℕ) → i < 64 → slice_index_or closing i false ≡ (slice_index_or seen.open i false && not (slice_index_or seen.shown i false && nat_lt i count)))
    → ((i : ℕ) → i < 64 → slice_index_or lacking i false ≡ (nat_lt i count && not (slice_index_or seen.shown i false)))
    → AreFlags seen n closing lacking
flags_of seen count n closing lacking size long closing_is lacking_is = grind (arith, nat_tests)

-- what a device holds at each moment by then, and later: so far it is settled
pub record IsSettling (a b : Shelved) (d : Device) (flushed : ℕ) (seen : SeenSlots) (commands : List Command) (closing lacking : List Bool) : Type 0 where
  pub flags : AreFlags seen (length commands) closing lacking
  pub any_moment : LeavesOnly a b (λ stop. SettlesBy (a.disk d) flushed commands (stop.image d))
  pub later : (bytes : List ℕ) → MayLeave (b.disk d) bytes → SettlesBy (a.disk d) flushed commands bytes

abbrev pub SettlesEach : Shelved → Shelved → Device → ℕ → SeenSlots → List Logged → List Bool → List Bool → Type 0
SettlesEach a b d count seen records closing lacking = (flushed : ℕ) (commands : List Command) → length commands ≡ count → IsToSettle (a.disk d).bytes flushed seen records commands → IsSettling a b d flushed seen commands closing lacking

-- the first step, and a further one
pub settling : {W : Device → ℕ → Type 0} {a b : Shelved} {d : Device} {flushed : ℕ} {seen : SeenSlots} {commands : List Command} {closing lacking : List Bool} → AreFlags seen (length commands) closing lacking
    → WritesOnly W a b → ((x : List ℕ) → MayLeaveBut (W d) (a.disk d) x → SettlesBy (a.disk d) flushed commands x) → IsSettling a b d flushed seen commands closing lacking
settling {d = d} flags wrote settles = record { flags = flags; any_moment = weaker (λ stop but. settles (stop.image d) (but.bytes d)) wrote.any_moment; later = λ bytes may. settles bytes (may_leave_but (wrote.device d) may) }

pub settling_then : {W : Device → ℕ → Type 0} {a b e : Shelved} {d : Device} {flushed : ℕ} {seen : SeenSlots} {commands : List Command} {closing lacking : List Bool} → Continues a b → IsSettling a b d flushed seen commands closing lacking
    → WritesOnly W b e → ((x : List ℕ) → MayLeaveBut (W d) (b.disk d) x → SettlesBy (a.disk d) flushed commands x) → IsSettling a e d flushed seen commands closing lacking
settling_then {d = d} ab first wrote settles = record {
  flags = first.flags;
  any_moment = then_run ab first.any_moment (weaker (λ stop but. settles (stop.image d) (but.bytes d)) wrote.any_moment);
  later = λ bytes may. settles bytes (may_leave_but (wrote.device d) may);
}

-- what follows where an answer is Ok
pub where_ok : (P Q : Type 0) (answer : Result (Unit {0}) Failed) → OnOk answer P → (P → Q) → OnOk answer Q
where_ok P Q (Ok u) p f = f p
where_ok P Q (Err e) p f = tt
