-- The log that was read is settled on the devices that answered: nothing changes that they stand for.
use Rattle.array_spec.proofs.Prelude.{nat_tests, ◌≡◌, ◌≢◌, ◌⊎◌, inl, inr, ℕ, zero, suc, ◌<◌, ◌≤◌, List, length, refl, sym, ap, subst, ◌∙◌, arith, Bool, true, false, cond, Option, Some, None, IsSome, IsTrue, slice_get, slice_index_or, cases_lt, cases_Bool, get_or_past, slice_get_within, is_open, Geometry, Image, View, Condition, Conditions, Sound, Missing, LeftOut, MayShowAs, IsWithin, is_sound, nvram, without_missing, Array, Command, Device, Drive, Nv, BootSlot, IsRecordOf, names, of_members, BootRecord, Shows, ShowsIn, LogStands, Stands, IsViewOf, MayBeGiven, IsReadBy, LeadsInto, HasNoLog, sound_before, within_twice, sound_shows, Matches, AllMatch, before, kept_some, kept_is, no_gate, one_left, was_left_out, one_log, log_moves, leads_move, same_some}
use Rattle.array_spec.specs.LogSettling.{answering, SettlesLog, MaySettle, SettlingKeeps}
use Rattle.array_spec.proofs.LogKept.{least_is_front, log_kept}
use Rattle.array_spec.proofs.Held.{nvram_keeps}

shown_in : (m : View) (n flushed i : ℕ) (c : Command) (bytes : List ℕ) → m (nvram n) ≡ Some bytes → Shows m n flushed i c → ShowsIn bytes flushed i c
shown_in m n flushed i c bytes is s = grind (arith, nat_tests, same_some)

in_shown : (m : View) (n flushed i : ℕ) (c : Command) (bytes : List ℕ) → m (nvram n) ≡ Some bytes → ShowsIn bytes flushed i c → Shows m n flushed i c
in_shown m n flushed i c bytes is s = record { slot = s.slot; bytes = bytes; shown = is; gate = s.gate; spelled = s.spelled }

-- a member that shows something under an open gate, and wasn't left out, shows its own bytes
own_bytes : (k : Condition) (bytes other : List ℕ) (o : Option (List ℕ)) (i : ℕ) → (k ≡ LeftOut → ⊥) → MayShowAs k bytes o → o ≡ Some other → IsTrue (is_open i other) → o ≡ Some bytes
own_bytes Sound bytes other o i kept shown is gate = shown
own_bytes Missing bytes other o i kept (inl e) is gate = e
own_bytes Missing bytes other o i kept (inr (inl e)) is gate = grind (arith, nat_tests, no_gate, same_some)
own_bytes Missing bytes other o i kept (inr (inr e)) is gate = absurd (cc (is, e))
own_bytes LeftOut bytes other o i kept shown is gate = absurd (kept refl)

shows_itself : (k : Condition) (bytes : List ℕ) → (k ≡ LeftOut → ⊥) → MayShowAs k bytes (Some bytes)
shows_itself Sound bytes kept = refl
shows_itself Missing bytes kept = inl refl
shows_itself LeftOut bytes kept = absurd (kept refl)

named_where_some : (b : Bool) (o : Option (List ℕ)) → IsSome (cond b o None) → b ≡ true
named_where_some true o h = refl
named_where_some false o h = cc

not_both : (b : Bool) → b ≡ true → b ≡ false → ⊥
not_both b e f = cc

not_past : (shelf : Geometry) (boot : BootRecord) → IsRecordOf shelf boot → (n : ℕ) → 2 ≤ n → names boot (nvram n) ≡ false
not_past shelf boot lawful n past = get_or_past boot.members.nvrams n false (omega (arith, past, lawful.lawful.members.nvram_flags))

module _ (shelf : Geometry) (old new : Image) (missing later : Conditions) (members : List Bool) (slot : BootSlot) (boot : BootRecord) (log : List Command) (arrays : List Array)
    (within : IsWithin missing later) (s : Stands shelf old missing arrays) (m : MaySettle shelf old missing members slot boot) (settles : SettlesLog members boot.flushed log old new) where
  answered : ℕ → Bool
  answered n = slice_index_or members n false

  answered_below : (n : ℕ) → answered n ≡ true → n < 2
  unfolding answered
  answered_below n e = elim (cases_lt n 2) [
    | inl below ↦ below
    | inr past ↦ absurd (not_both (names boot (nvram n)) (m.named n e) (not_past shelf boot m.given.lawful n past))
  ]

  answered_kept : (more : Conditions) → IsWithin missing more → (n : ℕ) → answered n ≡ true → more (nvram n) ≡ LeftOut → ⊥
  unfolding answered
  answered_kept more w n e out =
      not_both (names boot (nvram n)) (m.named n e) (m.left_out n (was_left_out (missing (nvram n)) (more (nvram n)) (w (nvram n)) out) slot boot m.given)

  long : (device : Device) → length (old device) ≡ length (new device)
  long (Drive d) = ap length (sym (settles.only_nvram.drive d.0))
  long (Nv n) = sym (settles.only_nvram.size n.0)

  -- what the devices would have shown before
  back : (more : Conditions) (w : View) → IsViewOf shelf new later more w → (v : View) × IsViewOf shelf old missing more v × AllMatch old new v w
  unfolding AllMatch
  back more w a =
      let each : (device : Device) → (o : Option (List ℕ)) × MayShowAs (more device) (old device) o × Matches (old device) (new device) o (w device) =
      λ device. before (more device) (old device) (new device) (w device) (long device) (a.shown device) in (
        λ device. (each device).0,
        record { within = within_twice missing later more within a.within; bearable = a.bearable; shown = λ device. (each device).1 },
        λ device. (each device).2,
      )

  -- what a record's members show now they showed before, or an answering device shows what stands on it
  was_shown : (v w : View) → AllMatch old new v w → (slot2 : BootSlot) (boot2 : BootRecord) (n flushed i : ℕ) (c : Command) → Shows (of_members slot2 boot2 w) n flushed i c
      → Shows (of_members slot2 boot2 v) n flushed i c ⊎ ((answered n ≡ true) × (of_members slot2 boot2 v (nvram n) ≡ Some (old (nvram n))) × ShowsIn (new (nvram n)) flushed i c)
  unfolding AllMatch Matches answered
  was_shown v w match slot2 boot2 n flushed i c t =
      let k : (names boot2 (nvram n) ≡ true) × (w (nvram n) ≡ Some t.bytes) = kept_is (names boot2 (nvram n)) (w (nvram n)) t.bytes t.shown in
      elim (match (nvram n)) [
        | inl e ↦ inl (record { slot = t.slot; bytes = t.bytes; shown = kept_some (names boot2 (nvram n)) (v (nvram n)) t.bytes k.0 (e ∙ k.1); gate = t.gate; spelled = t.spelled })
        | inr e ↦
            let was : of_members slot2 boot2 v (nvram n) ≡ Some (old (nvram n)) = kept_some (names boot2 (nvram n)) (v (nvram n)) (old (nvram n)) k.0 e.0 in
            let now : of_members slot2 boot2 w (nvram n) ≡ Some (new (nvram n)) = kept_some (names boot2 (nvram n)) (w (nvram n)) (new (nvram n)) k.0 e.1 in
            let there : ShowsIn (new (nvram n)) flushed i c = shown_in (of_members slot2 boot2 w) n flushed i c (new (nvram n)) now t in
            elim (cases_Bool (slice_index_or members n false)) [
              | inl member ↦ inr (member, was, there)
              | inr other ↦ inl (in_shown (of_members slot2 boot2 v) n flushed i c (old (nvram n)) was (subst (λ (b : List ℕ). ShowsIn b flushed i c) (settles.others n other) there))
            ]
      ]

  -- under other numbers nothing new is shown
  none_new : (v w : View) → AllMatch old new v w → (slot2 : BootSlot) (boot2 : BootRecord) (n flushed i : ℕ) (c : Command) → flushed ≢ boot.flushed
      → Shows (of_members slot2 boot2 w) n flushed i c → Shows (of_members slot2 boot2 v) n flushed i c
  unfolding answered
  none_new v w match slot2 boot2 n flushed i c other t = elim (was_shown v w match slot2 boot2 n flushed i c t) [
    | inl u ↦ u
    | inr u ↦ in_shown (of_members slot2 boot2 v) n flushed i c (old (nvram n)) u.1 (settles.none_elsewhere n i flushed c u.0 other u.2)
  ]

  -- no record that may be given has flushed less
  flushed_least : (slot2 : BootSlot) (boot2 : BootRecord) → MayBeGiven shelf old missing slot2 boot2 → boot.flushed ≤ boot2.flushed
  flushed_least slot2 boot2 g2 = elim (m.no_earlier slot2 boot2 g2) [
    | inl e ↦ let same : boot2.flushed ≡ boot.flushed = ap (λ (b : BootRecord). b.flushed) e.1 in omega (arith, same)
    | inr after ↦ (s.agree slot2 slot boot2 boot g2 m.given).in_order after
  ]

  no_log_after : (slot2 slot3 : BootSlot) (boot2 boot3 : BootRecord) → MayBeGiven shelf old missing slot2 boot2 → MayBeGiven shelf old missing slot3 boot3 → boot3.flushed < boot2.flushed
      → (more : Conditions) (w : View) → IsViewOf shelf new later more w → HasNoLog (of_members slot2 boot2 w) boot2.flushed
  no_log_after slot2 slot3 boot2 boot3 g2 g3 less more w a n i c t =
      let (v, b, match) = back more w a in
      let low : boot.flushed ≤ boot3.flushed = flushed_least slot3 boot3 g3 in
      let other : boot2.flushed ≢ boot.flushed = λ e. absurd (omega (arith, less, low, e)) in
      (s.agree slot2 slot3 boot2 boot3 g2 g3).no_log less more v b n i c (none_new v w match slot2 boot2 n boot2.flushed i c other t)

  module _ (slot2 : BootSlot) (boot2 : BootRecord) (g2 : MayBeGiven shelf old missing slot2 boot2) (more : Conditions) (w : View) (a : IsViewOf shelf new later more w)
      (v : View) (b : IsViewOf shelf old missing more v) (match : AllMatch old new v w) where
    abbrev base2 : Array
    base2 = (s.reads slot2 boot2 g2).base

    was_read : IsReadBy shelf more (of_members slot2 boot2 v) slot2 boot2 base2 arrays
    was_read = (s.reads slot2 boot2 g2).each more v b

    was_sound : (n : ℕ) → n < 2 → more (nvram n) ≡ Sound → answered n ≡ true
    unfolding answered
    was_sound n low sound = m.sound n low (sound_before (missing (nvram n)) (more (nvram n)) (b.within (nvram n)) sound)

    named2 : (n : ℕ) → n < 2 → more (nvram n) ≡ Sound → names boot2 (nvram n) ≡ true
    named2 n low sound = named_where_some (names boot2 (nvram n)) (v (nvram n)) (was_read.all_hold (nvram n) low sound)

    shows_old : (n : ℕ) → n < 2 → more (nvram n) ≡ Sound → of_members slot2 boot2 v (nvram n) ≡ Some (old (nvram n))
    shows_old n low sound = grind (arith, nat_tests, kept_some, named2, sound_shows)

    shows_new : (n : ℕ) → n < 2 → more (nvram n) ≡ Sound → of_members slot2 boot2 w (nvram n) ≡ Some (new (nvram n))
    shows_new n low sound = grind (arith, nat_tests, kept_some, named2, sound_shows)

    -- a device that isn't missing shows still what it showed of the log
    shows_still : (n i : ℕ) (c : Command) → n < 2 → more (nvram n) ≡ Sound → i < length log → ShowsIn (old (nvram n)) boot.flushed i c → Shows (of_members slot2 boot2 w) n boot.flushed i c
    unfolding answered
    shows_still n i c low sound short t =
        in_shown (of_members slot2 boot2 w) n boot.flushed i c (new (nvram n)) (shows_new n low sound) (settles.still n i c (was_sound n low sound) short t)

    -- ---- another log

    leads_other : boot.flushed < boot2.flushed → LeadsInto more (of_members slot2 boot2 w) boot2.flushed base2 arrays
    leads_other less =
        log_kept more (of_members slot2 boot2 v) boot2.flushed base2 arrays was_read.leads (of_members slot2 boot2 w)
        (λ n i c low t. absurd (no_log_after slot2 slot boot2 boot g2 m.given less more w a n i c t))
        (λ n i c low sound short t. absurd ((s.agree slot2 slot boot2 boot g2 m.given).no_log less more v b n i c t))

    -- ---- both devices answered

    module _ (base : Array) (leads : LeadsInto more (answering members old) boot.flushed base arrays) (is : leads.log ≡ log) (all : (n : ℕ) → n < 2 → answered n ≡ true) where
      all_known : (n i : ℕ) (c : Command) → n < 2 → Shows (of_members slot2 boot2 w) n boot.flushed i c → (slice_get leads.log i ≡ Some c) ⊎ Shows (answering members old) n boot.flushed i c
      unfolding answered
      all_known n i c low t =
          let k : (names boot2 (nvram n) ≡ true) × (w (nvram n) ≡ Some t.bytes) = kept_is (names boot2 (nvram n)) (w (nvram n)) t.bytes t.shown in
          let own : w (nvram n) ≡ Some (new (nvram n)) = own_bytes (more (nvram n)) (new (nvram n)) t.bytes (w (nvram n)) i (answered_kept more b.within n (all n low)) (a.shown (nvram n)) k.1 t.gate in
          let there : ShowsIn (new (nvram n)) boot.flushed i c = shown_in (of_members slot2 boot2 w) n boot.flushed i c (new (nvram n)) (kept_some (names boot2 (nvram n)) (w (nvram n)) (new (nvram n)) k.0 own) t in
          elim (settles.no_other n i c (all n low) there) [
            | inl e ↦ inl (subst (λ (l : List Command). slice_get l i ≡ Some c) (sym is) e)
            | inr u ↦ inr (in_shown (answering members old) n boot.flushed i c (old (nvram n)) (kept_some (slice_index_or members n false) (Some (old (nvram n))) (old (nvram n)) (all n low) refl) u)
          ]

      all_still : (n i : ℕ) (c : Command) → n < 2 → more (nvram n) ≡ Sound → i < length leads.least → Shows (answering members old) n boot.flushed i c → Shows (of_members slot2 boot2 w) n boot.flushed i c
      unfolding answered
      all_still n i c low sound short t = grind (arith, nat_tests, shows_still, kept_some)

      all_lead : LeadsInto more (of_members slot2 boot2 w) boot.flushed base arrays
      all_lead = log_kept more (answering members old) boot.flushed base arrays leads (of_members slot2 boot2 w) all_known all_still

    -- ---- one is missing and didn't answer

    module _ (base : Array) (leads : LeadsInto more (of_members slot2 boot2 v) boot.flushed base arrays) (is : leads.least ≡ log) where
      one_known : (n i : ℕ) (c : Command) → n < 2 → Shows (of_members slot2 boot2 w) n boot.flushed i c → (slice_get leads.log i ≡ Some c) ⊎ Shows (of_members slot2 boot2 v) n boot.flushed i c
      unfolding answered
      one_known n i c low t = elim (was_shown v w match slot2 boot2 n boot.flushed i c t) [
        | inl u ↦ inr u
        | inr u ↦ elim (settles.no_other n i c u.0 u.2) [
          | inl e ↦
              let found : slice_get leads.least i ≡ Some c = subst (λ (l : List Command). slice_get l i ≡ Some c) (sym is) e in
              inl (least_is_front more (of_members slot2 boot2 v) boot.flushed base arrays leads i c (slice_get_within leads.least i c found) found)
          | inr e ↦ inr (in_shown (of_members slot2 boot2 v) n boot.flushed i c (old (nvram n)) u.1 e)
        ]
      ]

      one_still : (n i : ℕ) (c : Command) → n < 2 → more (nvram n) ≡ Sound → i < length leads.least → Shows (of_members slot2 boot2 v) n boot.flushed i c → Shows (of_members slot2 boot2 w) n boot.flushed i c
      one_still n i c low sound short t = grind (arith, nat_tests, shows_still, shows_old)

      one_leads : LeadsInto more (of_members slot2 boot2 w) boot.flushed base arrays
      one_leads = log_kept more (of_members slot2 boot2 v) boot.flushed base arrays leads (of_members slot2 boot2 w) one_known one_still

    -- then the devices that aren't missing are those that answered
    alone_answers : (k n : ℕ) → answered k ≡ false → k < 2 → (n < 2 → (n ≡ k) ⊎ (more (nvram n) ≡ Sound)) → without_missing more (of_members slot2 boot2 v) (nvram n) ≡ answering members old (nvram n)
    unfolding answered
    alone_answers k n out low each = elim (cases_lt n 2) [
      | inl below ↦ elim (each below) [
        | inl e ↦ grind (arith, nat_tests, no_sound)
        | inr sound ↦ grind (arith, nat_tests, was_sound, shows_old)
      ]
      | inr past ↦
          let gone : slice_index_or members n false ≡ false = elim (cases_Bool (slice_index_or members n false)) [
            | inl e ↦ absurd (let below : n < 2 = answered_below n e in omega (arith, below, past))
            | inr e ↦ e
          ] in
          let unnamed : names boot2 (nvram n) ≡ false = not_past shelf boot2 g2.lawful n past in
          rw (gone, unnamed) (none (is_sound (more (nvram n))) None)
    ]
      where
        none : (x : Bool) (o : Option (List ℕ)) → cond x o o ≡ o
        none true o = refl
        none false o = refl

        not_sound : (x : Condition) → (x ≡ Sound → ⊥) → is_sound x ≡ false
        not_sound Sound h = absurd (h refl)
        not_sound Missing h = refl
        not_sound LeftOut h = refl

        no_sound : (j : ℕ) → j < 2 → slice_index_or members j false ≡ false → is_sound (more (nvram j)) ≡ false
        no_sound j below gone = not_sound (more (nvram j)) (λ sound. not_both (slice_index_or members j false) (was_sound j below sound) gone)

    each_but_0 : answered 0 ≡ false → (n : ℕ) → n < 2 → (n ≡ 0) ⊎ (more (nvram n) ≡ Sound)
    each_but_0 out zero low = inl refl
    each_but_0 out (suc zero) low = grind (arith, nat_tests, one_left, not_both, was_sound)
    each_but_0 out (suc (suc n)) low = absurd (omega (arith, low))

    each_but_1 : answered 1 ≡ false → (n : ℕ) → n < 2 → (n ≡ 1) ⊎ (more (nvram n) ≡ Sound)
    each_but_1 out zero low = grind (arith, nat_tests, one_left, not_both, was_sound)
    each_but_1 out (suc zero) low = inl refl
    each_but_1 out (suc (suc n)) low = absurd (omega (arith, low))

    -- ---- the log that is settled

    -- the view in which each device that answered shows what stands on it
    answers_view : View
    answers_view (Drive d) = v (Drive d)
    answers_view (Nv n) = cond (slice_index_or members n.0 false) (Some (old (Nv n))) (v (Nv n))

    answers_shown : IsViewOf shelf old missing more answers_view
    unfolding answers_view answered
    answers_shown = record { within = b.within; bearable = b.bearable; shown = shown }
      where
        own : (n : ℕ) (x : Bool) → slice_index_or members n false ≡ x → MayShowAs (more (nvram n)) (old (nvram n)) (cond x (Some (old (nvram n))) (v (nvram n)))
        own n true e = shows_itself (more (nvram n)) (old (nvram n)) (answered_kept more b.within n e)
        own n false e = b.shown (nvram n)

        shown : (d : Device) → MayShowAs (more d) (old d) (answers_view d)
        shown (Drive d) = b.shown (Drive d)
        shown (Nv n) = own n.0 (slice_index_or members n.0 false) refl

    all_answer : ((n : ℕ) → n < 2 → answered n ≡ true) → (n : ℕ) → of_members slot boot answers_view (nvram n) ≡ answering members old (nvram n)
    unfolding answers_view answered
    all_answer all n = elim (cases_Bool (slice_index_or members n false)) [
      | inl e ↦ let named : names boot (nvram n) ≡ true = m.named n e in rw (e, named) refl
      | inr e ↦ elim (cases_lt n 2) [
        | inl below ↦ absurd (not_both (slice_index_or members n false) (all n below) e)
        | inr past ↦ let unnamed : names boot (nvram n) ≡ false = not_past shelf boot m.given.lawful n past in rw (e, unnamed) refl
      ]
    ]

    module _ (known : LogStands (answering members old) boot.flushed (s.reads slot boot m.given).base log) (same : boot2.flushed ≡ boot.flushed) where
      abbrev base : Array
      base = (s.reads slot boot m.given).base

      one_base : base ≡ base2
      one_base = (s.agree slot slot2 boot boot2 m.given g2).same_base (sym same)

      leads_all : ((n : ℕ) → n < 2 → answered n ≡ true) → LeadsInto more (of_members slot2 boot2 w) boot.flushed base2 arrays
      leads_all all =
          let leads : LeadsInto more (answering members old) boot.flushed base arrays =
          leads_move more (of_members slot boot answers_view) (answering members old) (all_answer all) boot.flushed base arrays ((s.reads slot boot m.given).each more answers_view answers_shown).leads in
          let is : leads.log ≡ log = one_log (answering members old) boot.flushed 0 base leads.log log leads.log_stands known in
          subst (λ (x : Array). LeadsInto more (of_members slot2 boot2 w) boot.flushed x arrays) one_base (all_lead base leads is all)

      leads_one : (k : ℕ) → answered k ≡ false → k < 2 → ((n : ℕ) → n < 2 → (n ≡ k) ⊎ (more (nvram n) ≡ Sound)) → LeadsInto more (of_members slot2 boot2 w) boot.flushed base2 arrays
      leads_one k out low each =
          let leads : LeadsInto more (of_members slot2 boot2 v) boot.flushed base2 arrays = subst (λ (f : ℕ). LeadsInto more (of_members slot2 boot2 v) f base2 arrays) same was_read.leads in
          let known2 : LogStands (answering members old) boot.flushed base2 log = subst (λ (x : Array). LogStands (answering members old) boot.flushed x log) one_base known in
          let moved : LogStands (without_missing more (of_members slot2 boot2 v)) boot.flushed base2 log =
          log_moves (answering members old) (without_missing more (of_members slot2 boot2 v)) (λ j. sym (alone_answers k j out low (each j))) boot.flushed 0 base2 log known2 in
          let is : leads.least ≡ log = one_log (without_missing more (of_members slot2 boot2 v)) boot.flushed 0 base2 leads.least log leads.least_stands moved in
          one_leads base2 leads is

      leads_same : LeadsInto more (of_members slot2 boot2 w) boot.flushed base2 arrays
      leads_same = grind (arith, nat_tests, cases_Bool, leads_one, each_but_0, each_but_1, leads_all)
        where
          both : answered 0 ≡ true → answered 1 ≡ true → (n : ℕ) → n < 2 → answered n ≡ true
          both first second zero low = first
          both first second (suc zero) low = second
          both first second (suc (suc n)) low = absurd (omega (arith, low))

    leads_still : LogStands (answering members old) boot.flushed (s.reads slot boot m.given).base log → LeadsInto more (of_members slot2 boot2 w) boot2.flushed base2 arrays
    leads_still known = elim (cases_lt boot.flushed boot2.flushed) [
      | inl less ↦ leads_other less
      | inr past ↦
          let low : boot.flushed ≤ boot2.flushed = flushed_least slot2 boot2 g2 in
          let same : boot2.flushed ≡ boot.flushed = omega (arith, low, past) in
          subst (λ (f : ℕ). LeadsInto more (of_members slot2 boot2 w) f base2 arrays) (sym same) (leads_same known same)
    ]

  leads_in_each : LogStands (answering members old) boot.flushed (s.reads slot boot m.given).base log
      → (slot2 : BootSlot) (boot2 : BootRecord) (g2 : MayBeGiven shelf old missing slot2 boot2) (more : Conditions) (w : View) → IsViewOf shelf new later more w
      → LeadsInto more (of_members slot2 boot2 w) boot2.flushed (s.reads slot2 boot2 g2).base arrays
  leads_in_each known slot2 boot2 g2 more w a = let (v, b, match) = back more w a in leads_still slot2 boot2 g2 more w a v b match known

pub settling_keeps : SettlingKeeps
settling_keeps shelf old new missing later members slot boot log arrays within bearable s m known settles =
    nvram_keeps shelf old new missing later arrays arrays within bearable s.some settles.only_nvram s
    (leads_in_each shelf old new missing later members slot boot log arrays within s m settles known)
    (λ slot2 slot3 boot2 boot3 g2 g3 less more w a. no_log_after shelf old new missing later members slot boot log arrays within s m settles slot2 slot3 boot2 boot3 g2 g3 less more w a)
