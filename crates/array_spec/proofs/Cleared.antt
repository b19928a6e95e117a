-- A device that was left out and is so no longer shows no more than before.
use Rattle.array_spec.proofs.Prelude.{nat_tests, ◌≡◌, ◌⊎◌, inl, inr, ℕ, List, length, refl, sym, ◌∙◌, ap, subst, cond, arith, Option, None, Bool, IfSome, count_by, slice_index, length-replicate, get_or-replicate, get_or_past, IsBytes, IsBytesOf, zeros, Geometry, drive, nvram, Image, View, Condition, Conditions, Sound, Missing, LeftOut, IsBearable, IsWithin, MayShowAs, MayBecome, is_missing, is_sound, slots_of, nvrams, Array, Device, BootSlot, BootRecord, LogStands, Stands, IsViewOf, MayAppear, MayBeGiven, IsReadBy, MarksMayClear, AreCleared}

zeros_are_bytes : (n : ℕ) → IsBytesOf n (zeros n)
zeros_are_bytes n = grind (arith, nat_tests, length-replicate, slice_index, zeros, get_or-replicate, get_or_past)

-- what a missing device shows, one that was left out may show
shows_anything : (bytes : List ℕ) (shown : Option (List ℕ)) → IsBytes bytes → MayShowAs Missing bytes shown → MayShowAs LeftOut bytes shown
shows_anything bytes shown are (inl e) = subst (λ (o : Option (List ℕ)). IfSome o (λ other. IsBytesOf (length bytes) other)) (sym e) (refl, are)
shows_anything bytes shown are (inr (inl e)) = subst (λ (o : Option (List ℕ)). IfSome o (λ other. IsBytesOf (length bytes) other)) (sym e) (zeros_are_bytes (length bytes))
shows_anything bytes shown are (inr (inr e)) = subst (λ (o : Option (List ℕ)). IfSome o (λ other. IsBytesOf (length bytes) other)) (sym e) tt

-- what is read where the same devices are sound
pub reads_alike : (shelf : Geometry) (less more : Conditions) (members : View) (slot : BootSlot) (boot : BootRecord) (base : Array) (arrays : List Array) → ((d : Device) → is_sound (less d) ≡ is_sound (more d)) → ((d : Device) → more d ≡ Sound → less d ≡ Sound)
    → IsReadBy shelf less members slot boot base arrays → IsReadBy shelf more members slot boot base arrays
reads_alike shelf less more members slot boot base arrays as_sound sound_after r =
    let sounds : (λ d. is_sound (less d)) ≡ (λ d. is_sound (more d)) = λ k d. as_sound d k in
    let lead = r.leads in
    record {
      in_force = r.in_force;
      all_hold = λ d on s. r.all_hold d on (sound_after d s);
      holds = r.holds;
      leads = record {
        log = lead.log;
        log_stands = lead.log_stands;
        devices_agree = lead.devices_agree;
        least = lead.least;
        least_stands = subst (λ (p : Device → Bool). LogStands (λ d. cond (p d) (members d) None) boot.flushed base lead.least) sounds lead.least_stands;
        enough = lead.enough;
        fronts = lead.fronts;
      };
    }

module _ (shelf : Geometry) (image : Image) (missing cleared : Conditions) (are : (d : Device) → IsBytes (image d)) (clears : AreCleared missing cleared) where
  -- the condition with the mark
  Marked : Condition → Condition → Type 0
  Marked c c2 = (c2 ≡ c) ⊎ ((c ≡ Missing) × (c2 ≡ LeftOut))

  before : (d : Device) (c : Condition) → MayBecome (cleared d) c → (c2 : Condition) × MayBecome (missing d) c2 × Marked c c2
  unfolding Marked
  before d c w = grind (arith, nat_tests)

  module _ (more : Conditions) (within : IsWithin cleared more) where
    less : Conditions
    less d = (before d (more d) (within d)).0

    is_within : IsWithin missing less
    unfolding less
    is_within d = (before d (more d) (within d)).1

    marked : (d : Device) → Marked (more d) (less d)
    unfolding less
    marked d = (before d (more d) (within d)).2

    as_missing : (d : Device) → is_missing (less d) ≡ is_missing (more d)
    unfolding Marked
    as_missing d = elim (marked d) [ inl e ↦ ap is_missing e | inr (m, l) ↦ ap is_missing l ∙ sym (ap is_missing m) ]

    as_sound : (d : Device) → is_sound (less d) ≡ is_sound (more d)
    unfolding Marked
    as_sound d = elim (marked d) [ inl e ↦ ap is_sound e | inr (m, l) ↦ ap is_sound l ∙ sym (ap is_sound m) ]

    is_bearable : IsBearable shelf more → IsBearable shelf less
    is_bearable b = grind (arith, nat_tests, as_missing)

    sound_before : (d : Device) → less d ≡ Sound → more d ≡ Sound
    unfolding Marked
    sound_before d s = elim (marked d) [ inl e ↦ sym e ∙ s | inr (m, l) ↦ absurd (cc (l, s)) ]

    sound_after : (d : Device) → more d ≡ Sound → less d ≡ Sound
    unfolding Marked
    sound_after d s = elim (marked d) [ inl e ↦ e ∙ s | inr (m, l) ↦ absurd (cc (m, s)) ]

    appears : (view : View) → MayAppear shelf image cleared more view → MayAppear shelf image missing less view
    appears view a = record { within = is_within; bearable = is_bearable a.bearable; shown = λ d s. a.shown d (sound_before d s) }

    is_view : (view : View) → IsViewOf shelf image cleared more view → IsViewOf shelf image missing less view
    unfolding Marked
    is_view view v = record {
      within = is_within;
      bearable = is_bearable v.bearable;
      shown = λ d. elim (marked d) [
        | inl e ↦ subst (λ (c : Condition). MayShowAs c (image d) (view d)) (sym e) (v.shown d)
        | inr (m, l) ↦ subst (λ (c : Condition). MayShowAs c (image d) (view d)) (sym l) (shows_anything (image d) (view d) (are d) (subst (λ (c : Condition). MayShowAs c (image d) (view d)) m (v.shown d)))
      ];
    }

    reading : (slot : BootSlot) (boot : BootRecord) (base : Array) (arrays : List Array) (members : View) → IsReadBy shelf less members slot boot base arrays → IsReadBy shelf more members slot boot base arrays
    reading slot boot base arrays members r = reads_alike shelf less more members slot boot base arrays as_sound sound_after r

  given : {slot : BootSlot} {boot : BootRecord} → MayBeGiven shelf image cleared slot boot → MayBeGiven shelf image missing slot boot
  given g = record { more = less g.more g.appears.within; view = g.view; appears = appears g.more g.appears.within g.view g.appears; lawful = g.lawful; effective = g.effective }

  same_missing : (d : Device) → is_missing (missing d) ≡ is_missing (cleared d)
  same_missing d = elim (clears d) [ inl e ↦ sym (ap is_missing e) | inr (l, m) ↦ ap is_missing l ∙ sym (ap is_missing m) ]

  bears : IsBearable shelf missing → IsBearable shelf cleared
  bears b = grind (arith, nat_tests, count_by, same_missing, drive, slots_of, nvrams, nvram)

  pub stands : (arrays : List Array) → Stands shelf image missing arrays → Stands shelf image cleared arrays
  stands arrays s = record {
    bearable = bears s.bearable;
    some = s.some;
    gives = λ more view v. s.gives (less more v.within) view (appears more v.within view v);
    reads = λ slot boot g.
        let r = s.reads slot boot (given g) in
        record { base = r.base; each = λ more view v. reading more v.within slot boot r.base arrays _ (r.each (less more v.within) view (is_view more v.within view v)) };
    agree = λ slot slot2 boot boot2 g g2.
        let both = s.agree slot slot2 boot boot2 (given g) (given g2) in
        record { in_order = both.in_order; same_base = both.same_base; no_log = λ smaller more view v. both.no_log smaller (less more v.within) view (is_view more v.within view v) };
  }

pub marks_may_clear : MarksMayClear
marks_may_clear shelf image missing cleared arrays are clears s = stands shelf image missing cleared are clears arrays s
