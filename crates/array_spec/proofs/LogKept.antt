-- A log that is kept: where devices show of it still what they showed alone, and else only what is in it or was shown, it leads into the same arrays.
use Rattle.array_spec.proofs.Prelude.{nat_tests, ◌≡◌, ◌⊎◌, inl, inr, ℕ, zero, suc, ◌+◌, ◌<◌, ◌≤◌, List, [], ◌∷◌, length, take, sym, ap, subst, ◌∙◌, arith, true, Option, Some, None, slice_get, Contains, cases_lt, slice_get_past, slice_get_cases, Command, Accepts, AllAccepted, after_all, View, Conditions, Sound, nvram, without_missing, Array, HasSpelling, Shows, IsInSlot, LogFrom, DevicesAgree, LeadsInto, one_shown, shower, shows_test, in_slot, shown_in_slot, Only, Lawful, log_of, slot_has, front_stands, log_front, log_least, log_shorter, take_of_take, shows_alone, alone_still, alone_fewer}
use Rattle.pur_base.specs.Commands.{after}

-- ---- of a log that stands

-- each of its commands is in its slot
in_chain : (m : View) (flushed i : ℕ) (array : Array) (cs : List Command) (k : ℕ) (c : Command) → LogFrom m flushed i array cs → slice_get cs k ≡ Some c → IsInSlot m flushed (i + k) c
in_chain m flushed i array [] k c s e = absurd (cc e)
in_chain m flushed i array (d ∷ ds) zero c s e =
    let same : d ≡ c = cc e in
    let at : i ≡ i + 0 = omega arith in
    subst (λ (x : ℕ). IsInSlot m flushed x c) at (subst (λ (x : Command). IsInSlot m flushed i x) same s.0)
in_chain m flushed i array (d ∷ ds) (suc k) c s e =
    let at : suc i + k ≡ i + suc k = omega arith in
    subst (λ (x : ℕ). IsInSlot m flushed x c) at (in_chain m flushed (suc i) (after array d) ds k c s.2 e)

-- each is accepted
accepted_chain : (m : View) (flushed i : ℕ) (array : Array) (cs : List Command) → LogFrom m flushed i array cs → AllAccepted array cs
accepted_chain m flushed i array [] s = tt
accepted_chain m flushed i array (c ∷ cs) s = (s.1, accepted_chain m flushed (suc i) (after array c) cs s.2)

-- there are no more than slots
room : (m : View) (flushed i : ℕ) (array : Array) (cs : List Command) → i ≤ 64 → LogFrom m flushed i array cs → i + length cs ≤ 64
room m flushed i array [] low s = omega (arith, low)
room m flushed i array (c ∷ cs) low s =
    let below : i < 64 = (shower m flushed i c s.0).2.slot in
    let rest : suc i + length cs ≤ 64 = room m flushed (suc i) (after array c) cs (omega (arith, below)) s.2 in
    omega (arith, rest)

-- no command in the slot behind it is accepted
chain_end : (m : View) (flushed i : ℕ) (array : Array) (cs : List Command) → LogFrom m flushed i array cs → (c : Command) → IsInSlot m flushed (i + length cs) c → ¬ (Accepts (after_all array cs) c)
chain_end m flushed i array [] s c t =
    let at : i + 0 ≡ i = omega arith in
    s c (subst (λ (x : ℕ). IsInSlot m flushed x c) at t)
chain_end m flushed i array (d ∷ ds) s c t =
    let at : i + suc (length ds) ≡ suc i + length ds = omega arith in
    chain_end m flushed (suc i) (after array d) ds s.2 c (subst (λ (x : ℕ). IsInSlot m flushed x c) at t)

-- ---- what is shown where devices agree

module _ (m : View) (flushed : ℕ) (agree : DevicesAgree m flushed) where
  agrees : (n p i : ℕ) (c d : Command) → n < 2 → p < 2 → Shows m n flushed i c → Shows m p flushed i d → c ≡ d
  agrees zero zero i c d low low2 s t = one_shown m 0 flushed i c d s t
  agrees zero (suc zero) i c d low low2 s t = agree i c d s t
  agrees (suc zero) zero i c d low low2 s t = sym (agree i d c t s)
  agrees (suc zero) (suc zero) i c d low low2 s t = one_shown m 1 flushed i c d s t
  agrees (suc (suc n)) p i c d low low2 s t = absurd (omega (arith, low))
  agrees n (suc (suc p)) i c d low low2 s t = absurd (omega (arith, low2))

  -- what one shows is the slot's command
  slot_shows : (n i : ℕ) (c : Command) → n < 2 → Shows m n flushed i c → IsInSlot m flushed i c
  slot_shows n i c low s =
      slot_has m flushed i c s.slot s.spelled.lawful (λ d t. agrees 0 n i d c (omega arith) low t s) (shown_in_slot m flushed n i c low (shows_test m flushed n i c s))

  module _ (base : Array) (log : List Command) (stands : LogFrom m flushed 0 base log) where
    -- in its slots they show its commands alone
    shows_log : (which k : ℕ) (c : Command) → which < 2 → k < length log → Shows m which flushed (0 + k) c → slice_get log k ≡ Some c
    shows_log which k c low below s = elim ((slice_get_cases log k).1) [
      | inl (d, inside, is, rest) ↦
          let t = shower m flushed (0 + k) d (in_chain m flushed 0 base log k d stands is) in
          is ∙ ap (λ (x : Command). Some x) (agrees t.0 which (0 + k) d c t.1 low t.2 s)
      | inr (past, is) ↦ absurd (omega (arith, below, past))
    ]

    log_lawful : (k : ℕ) (c : Command) → slice_get log k ≡ Some c → HasSpelling (flushed + 1 + (0 + k)) c
    log_lawful k c e = (shower m flushed (0 + k) c (in_chain m flushed 0 base log k c stands e)).2.spelled.lawful

    module _ (y : View) (known : (which i : ℕ) (c : Command) → which < 2 → Shows y which flushed i c → (slice_get log i ≡ Some c) ⊎ Shows m which flushed i c) where
      known_only : (which k : ℕ) (c : Command) → which < 2 → k < length log → Shows y which flushed (0 + k) c → slice_get log k ≡ Some c
      known_only which k c low below s = elim (known which (0 + k) c low s) [
        | inl e ↦ let f : 0 + k ≡ k = omega arith in subst (λ (x : ℕ). slice_get log x ≡ Some c) f e
        | inr t ↦ shows_log which k c low below t
      ]

      known_behind : (c : Command) → IsInSlot y flushed (0 + length log) c → ¬ (Accepts (after_all base log) c)
      known_behind c s = let t = shower y flushed (0 + length log) c s in elim (known t.0 (0 + length log) c t.1 t.2) [
        | inl e ↦ absurd (let past : slice_get log (0 + length log) ≡ None = slice_get_past log (0 + length log) (omega arith) in cc (e, past))
        | inr u ↦ chain_end m flushed 0 base log stands c (slot_shows t.0 (0 + length log) c t.1 u)
      ]

      -- a view that shows nothing else has a front of the log
      known_stands : LogFrom y flushed 0 base (log_of y flushed 0 log)
      unfolding Only Lawful
      known_stands = front_stands y flushed 0 base log known_only log_lawful (room m flushed 0 base log (omega arith) stands) (accepted_chain m flushed 0 base log stands) known_behind

-- ---- the log that is kept

module _ (more : Conditions) (x : View) (flushed : ℕ) (base : Array) (arrays : List Array) (leads : LeadsInto more x flushed base arrays) where
  -- what shows alone is shown in the log's slots by a device that isn't missing
  least_shown : (k : ℕ) (c : Command) → slice_get leads.least k ≡ Some c → (which : ℕ) × (which < 2) × (more (nvram which) ≡ Sound) × Shows x which flushed (0 + k) c
  least_shown k c e =
      let t = shower (without_missing more x) flushed (0 + k) c (in_chain (without_missing more x) flushed 0 base leads.least k c leads.least_stands e) in
      let u = shows_alone more x t.0 flushed (0 + k) c t.2 in
      (t.0, t.1, u.0, u.1)

  pub least_is_front : (k : ℕ) (c : Command) → k < length leads.least → slice_get leads.least k ≡ Some c → slice_get leads.log k ≡ Some c
  least_is_front k c below e =
      let t = least_shown k c e in
      let enough : length leads.least ≤ length leads.log = leads.enough in
      shows_log x flushed leads.devices_agree base leads.log leads.log_stands t.0 k c t.1 (omega (arith, below, enough)) t.3

  module _ (y : View)
      (known : (which i : ℕ) (c : Command) → which < 2 → Shows y which flushed i c → (slice_get leads.log i ≡ Some c) ⊎ Shows x which flushed i c)
      (still : (which i : ℕ) (c : Command) → which < 2 → more (nvram which) ≡ Sound → i < length leads.least → Shows x which flushed i c → Shows y which flushed i c) where
    known_alone : (which i : ℕ) (c : Command) → which < 2 → Shows (without_missing more y) which flushed i c → (slice_get leads.log i ≡ Some c) ⊎ Shows x which flushed i c
    known_alone which i c low s = known which i c low (shows_alone more y which flushed i c s).1

    all_shown : (k : ℕ) (c : Command) → k < length leads.least → slice_get leads.log k ≡ Some c → in_slot (without_missing more y) flushed (0 + k) c ≡ true
    all_shown k c below e = elim ((slice_get_cases leads.least k).1) [
      | inl (d, inside, is, rest) ↦
          let t = least_shown k d is in
          let found : slice_get leads.log k ≡ Some d = least_is_front k d below is in
          let same : d ≡ c = same_some (slice_get leads.log k) found e in
          let now : Shows y t.0 flushed (0 + k) d = still t.0 (0 + k) d t.1 t.2 (omega (arith, below)) t.3 in
          let here : Shows (without_missing more y) t.0 flushed (0 + k) d = alone_still more y t.0 flushed (0 + k) d t.2 now in
          subst (λ (z : Command). in_slot (without_missing more y) flushed (0 + k) z ≡ true) same
          (shown_in_slot (without_missing more y) flushed t.0 (0 + k) d t.1 (shows_test (without_missing more y) flushed t.0 (0 + k) d here))
      | inr (past, is) ↦ absurd (omega (arith, below, past))
    ]
      where
        same_some : (o : Option Command) {p q : Command} → o ≡ Some p → o ≡ Some q → p ≡ q
        same_some o f g = cc

    agree_now : DevicesAgree y flushed
    agree_now i c d s t = elim (cases_lt i (length leads.log)) [
      | inl below ↦ same_some (slice_get leads.log i) (inside 0 c (omega arith) below s) (inside 1 d (omega arith) below t)
      | inr past ↦ leads.devices_agree i c d (outside 0 c (omega arith) past s) (outside 1 d (omega arith) past t)
    ]
      where
        same_some : (o : Option Command) {p q : Command} → o ≡ Some p → o ≡ Some q → p ≡ q
        same_some o f g = cc

        inside : (which : ℕ) (b : Command) → which < 2 → i < length leads.log → Shows y which flushed i b → slice_get leads.log i ≡ Some b
        inside which b low below u =
            let f : i ≡ 0 + i = omega arith in
            known_only x flushed leads.devices_agree base leads.log leads.log_stands y known which i b low below (subst (λ (z : ℕ). Shows y which flushed z b) f u)

        outside : (which : ℕ) (b : Command) → which < 2 → length leads.log ≤ i → Shows y which flushed i b → Shows x which flushed i b
        outside which b low past u = grind (arith, nat_tests, slice_get_past)

    pub log_kept : LeadsInto more y flushed base arrays
    log_kept = record {
      log = log_of y flushed 0 leads.log;
      log_stands = known_stands x flushed leads.devices_agree base leads.log leads.log_stands y known;
      devices_agree = agree_now;
      least = log_of (without_missing more y) flushed 0 leads.log;
      least_stands = known_stands x flushed leads.devices_agree base leads.log leads.log_stands (without_missing more y) known_alone;
      enough = log_shorter y (without_missing more y) flushed (alone_fewer more y flushed) 0 leads.log;
      fronts = λ n low high.
          let front = log_front y flushed 0 leads.log in
          let long : length leads.least ≤ length (log_of (without_missing more y) flushed 0 leads.log) =
          log_least (without_missing more y) flushed 0 (length leads.least) leads.log leads.enough all_shown in
          let e : take n (log_of y flushed 0 leads.log) ≡ take n leads.log =
          ap (take n) front.1 ∙ take_of_take n (length (log_of y flushed 0 leads.log)) leads.log high in
          subst (λ l. Contains arrays (after_all base l)) (sym e) (leads.fronts n (omega (arith, low, long)) (omega (arith, high, front.0)));
    }
