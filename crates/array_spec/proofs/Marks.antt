-- A missing device that no record names may show anything.
use Rattle.array_spec.proofs.Prelude.{arith, Option, None, false, count_by, ◌≡◌, ◌⊎◌, inl, inr, ℕ, List, refl, sym, ◌∙◌, ap, subst, nat_tests, Geometry, drive, nvram, Image, View, Condition, Conditions, Sound, Missing, LeftOut, IsBearable, IsWithin, MayBecome, is_missing, is_sound, slots_of, nvrams, Array, Device, Drive, Nv, names, BootSlot, of_members, BootRecord, MarksAreFree, MayBeMarked, IsNamedByNone, Stands, IsViewOf, MayAppear, MayBeGiven, IsReadBy, HasNoLog}
use Rattle.array_spec.proofs.Cleared.{reads_alike}

-- the condition and what is shown, without the mark
module _ (shelf : Geometry) (image : Image) (missing marked : Conditions) (marks : MayBeMarked shelf image missing marked) where
  Unmarked : Device → Condition → Option (List ℕ) → Condition → Option (List ℕ) → Type 0
  Unmarked d c o c2 o2 = ((c2 ≡ c) × (o2 ≡ o)) ⊎ ((c ≡ LeftOut) × (c2 ≡ Missing) × (o2 ≡ None) × IsNamedByNone shelf image missing d)

  -- each condition of a view's, as it was before the marks
  before : (d : Device) (c : Condition) (o : Option (List ℕ)) → MayBecome (marked d) c → (c2 : Condition) × (o2 : Option (List ℕ)) × MayBecome (missing d) c2 × Unmarked d c o c2 o2
  unfolding Unmarked
  before d c o w = elim (marks d) [
    | inl e ↦ (c, o, subst (λ (x : Condition). MayBecome x c) e w, inl (refl, refl))
    | inr (m, l, none) ↦ (Missing, None, subst (λ (x : Condition). MayBecome x Missing) (sym m) refl, inr (subst (λ (x : Condition). MayBecome x c) l w, refl, refl, none))
  ]

  module _ (more : Conditions) (view : View) (within : IsWithin marked more) where
    less : Conditions
    less d = (before d (more d) (view d) (within d)).0

    shows : View
    shows d = (before d (more d) (view d) (within d)).1

    is_within : IsWithin missing less
    unfolding less
    is_within d = (before d (more d) (view d) (within d)).2

    unmarked : (d : Device) → Unmarked d (more d) (view d) (less d) (shows d)
    unfolding less shows
    unmarked d = (before d (more d) (view d) (within d)).3

    as_missing : (d : Device) → is_missing (less d) ≡ is_missing (more d)
    unfolding Unmarked
    as_missing d = grind (arith, nat_tests, unmarked)

    as_sound : (d : Device) → is_sound (less d) ≡ is_sound (more d)
    unfolding Unmarked
    as_sound d = grind (arith, nat_tests, unmarked)

    is_bearable : IsBearable shelf more → IsBearable shelf less
    is_bearable b = grind (arith, nat_tests, as_missing)

    sound_before : (d : Device) → less d ≡ Sound → more d ≡ Sound
    unfolding Unmarked
    sound_before d s = grind (arith, nat_tests, unmarked)

    sound_after : (d : Device) → more d ≡ Sound → less d ≡ Sound
    unfolding Unmarked
    sound_after d s = grind (arith, nat_tests, unmarked)

    appears : MayAppear shelf image marked more view → MayAppear shelf image missing less view
    appears a = record { within = is_within; bearable = is_bearable a.bearable; shown = λ d s. a.shown d (sound_before d s) }

    is_view : IsViewOf shelf image marked more view → IsViewOf shelf image missing less shows
    unfolding Unmarked
    is_view v = record {
      within = is_within;
      bearable = is_bearable v.bearable;
      shown = grind (arith, nat_tests, unmarked);
    }

    -- a record that may be given sees the same members
    members : (slot : BootSlot) (boot : BootRecord) → MayBeGiven shelf image missing slot boot → (d : Device) → of_members slot boot shows d ≡ of_members slot boot view d
    unfolding Unmarked
    members slot boot g (Drive i) = elim (unmarked (Drive i)) [
      | inl (e, f) ↦ rw f refl
      | inr (l, m, n, none) ↦ let no : names boot (Drive i) ≡ false = none slot boot g in rw no refl
    ]
    members slot boot g (Nv i) = elim (unmarked (Nv i)) [
      | inl (e, f) ↦ rw f refl
      | inr (l, m, n, none) ↦ let no : names boot (Nv i) ≡ false = none slot boot g in rw no refl
    ]

    reading : (slot : BootSlot) (boot : BootRecord) (base : Array) (arrays : List Array) → MayBeGiven shelf image missing slot boot
        → IsReadBy shelf less (of_members slot boot shows) slot boot base arrays → IsReadBy shelf more (of_members slot boot view) slot boot base arrays
    reading slot boot base arrays g r =
        let same : of_members slot boot shows ≡ of_members slot boot view = λ k d. members slot boot g d k in
        let r2 : IsReadBy shelf less (of_members slot boot view) slot boot base arrays = subst (λ (m : View). IsReadBy shelf less m slot boot base arrays) same r in
        reads_alike shelf less more (of_members slot boot view) slot boot base arrays as_sound sound_after r2

    no_log : (slot : BootSlot) (boot : BootRecord) (flushed : ℕ) → MayBeGiven shelf image missing slot boot → HasNoLog (of_members slot boot shows) flushed → HasNoLog (of_members slot boot view) flushed
    no_log slot boot flushed g h =
        let same : of_members slot boot shows ≡ of_members slot boot view = λ k d. members slot boot g d k in
        subst (λ (m : View). HasNoLog m flushed) same h

  given : {slot : BootSlot} {boot : BootRecord} → MayBeGiven shelf image marked slot boot → MayBeGiven shelf image missing slot boot
  given g = record { more = less g.more g.view g.appears.within; view = g.view; appears = appears g.more g.view g.appears.within g.appears; lawful = g.lawful; effective = g.effective }

  same_missing : (d : Device) → is_missing (missing d) ≡ is_missing (marked d)
  same_missing d = elim (marks d) [ inl e ↦ sym (ap is_missing e) | inr (m, l, none) ↦ ap is_missing m ∙ sym (ap is_missing l) ]

  pub bears : IsBearable shelf missing → IsBearable shelf marked
  bears b = grind (arith, nat_tests, count_by, same_missing, drive, slots_of, nvrams, nvram)

  pub stands : (arrays : List Array) → Stands shelf image missing arrays → Stands shelf image marked arrays
  stands arrays s = record {
    bearable = bears s.bearable;
    some = s.some;
    gives = λ more view v. s.gives (less more view v.within) view (appears more view v.within v);
    reads = λ slot boot g.
        let r = s.reads slot boot (given g) in
        record { base = r.base; each = λ more view v. reading more view v.within slot boot r.base arrays (given g) (r.each (less more view v.within) (shows more view v.within) (is_view more view v.within v)) };
    agree = λ slot slot2 boot boot2 g g2.
        let both = s.agree slot slot2 boot boot2 (given g) (given g2) in
        record { in_order = both.in_order; same_base = both.same_base; no_log = λ smaller more view v. no_log more view v.within slot boot boot.flushed (given g) (both.no_log smaller (less more view v.within) (shows more view v.within) (is_view more view v.within v)) };
  }

pub marks_are_free : MarksAreFree
marks_are_free shelf image missing marked arrays marks s = stands shelf image missing marked marks arrays s
