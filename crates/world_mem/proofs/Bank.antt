-- One of several devices in memory is changed.
use Rattle.world_mem.proofs.Prelude.{◌≡◌, ◌≢◌, inl, inr, ℕ, zero, suc, ◌<◌, List, [], ◌∷◌, length, map, get_or, slice_set, refl, sym, ◌∙◌, ap, subst, arith, ◌⊎◌, Bool, true, Result, OnErr, length-set, get_or-set_same, get_or-set_other, set-set, get_or-map, map-set, set-get_or, length-map, cases_eq, Device, Disk, Failed, Call, Part, WasCalled, WasCalledIn, disk_of, disks_of, disk_at, nothing, undo_what, Logged, LoggedIn, OnlyCounted, AllCounted, bytes_at, will_fail, will_fail_at, Plan, plan_of, plans_of, plan_at, sound, fails, made_on, made_at}

pub same_counted : (d : Disk) → OnlyCounted d d
same_counted d = record { bytes = refl; dirty = refl; faults = omega arith; write_faults = omega arith }

pub all_same : (ds : List Disk) → AllCounted ds ds
all_same [] = tt
all_same (d ∷ ds) = (same_counted d, all_same ds)

counted_there : (ds : List Disk) (k : ℕ) (d : Disk) → k < length ds → OnlyCounted (disk_at ds k) d → AllCounted ds (slice_set ds k d)
counted_there [] k d inside more = tt
counted_there (x ∷ ds) zero d inside more = (more, all_same ds)
counted_there (x ∷ ds) (suc k) d inside more = (same_counted x, counted_there ds k d (omega arith) more)

module _ (parts : List Part) (k : ℕ) (old new : Part) (inside : k < length parts) (is : old ≡ get_or parts k old) where
  pub before : disk_at (disks_of parts) k ≡ disk_of old
  before = get_or-map disk_of parts k old nothing inside ∙ ap disk_of (sym is)

  pub after : disk_at (disks_of (slice_set parts k new)) k ≡ disk_of new
  after = ap (λ (l : List Disk). get_or l k nothing) (map-set disk_of parts k new) ∙ get_or-set_same (map disk_of parts) k (disk_of new) nothing (simp length-map inside)

  pub both : (R : Disk → Disk → Type 0) → R (disk_of old) (disk_of new) → R (disk_at (disks_of parts) k) (disk_at (disks_of (slice_set parts k new)) k)
  both R r = subst (λ (d : Disk). R d (disk_at (disks_of (slice_set parts k new)) k)) (sym before) (subst (λ (d : Disk). R (disk_of old) d) (sym after) r)

  pub others : (j : ℕ) → j ≢ k → disk_at (disks_of (slice_set parts k new)) j ≡ disk_at (disks_of parts) j
  others j ne = ap (λ (l : List Disk). get_or l j nothing) (map-set disk_of parts k new) ∙ get_or-set_other (map disk_of parts) k j (disk_of new) nothing ne

  pub size : length new.bytes.items ≡ length old.bytes.items → (j : ℕ) → length (bytes_at (slice_set parts k new) j) ≡ length (bytes_at parts j)
  size same j = elim (cases_eq j k) [
    | inl e ↦ ap (λ (x : ℕ). length (bytes_at (slice_set parts k new) x)) e ∙ ap (λ (d : Disk). length d.bytes) after ∙ same ∙ sym (ap (λ (d : Disk). length d.bytes) before) ∙ sym (ap (λ (x : ℕ). length (bytes_at parts x)) e)
    | inr ne ↦ ap (λ (d : Disk). length d.bytes) (others j ne)
  ]

  plans : plan_of new ≡ plan_of old → (j : ℕ) → plan_at (plans_of (slice_set parts k new)) j ≡ plan_at (plans_of parts) j
  plans same j = ap (λ (l : List Plan). get_or l j sound)
      (map-set plan_of parts k new ∙ ap (λ (p : Plan). slice_set (map plan_of parts) k p) (same ∙ ap plan_of is ∙ sym (get_or-map plan_of parts k old sound inside)) ∙ set-get_or (map plan_of parts) k sound)

  logged : (device : Device) (lapsed : Type 0) (calls after_calls : List Call) → Logged device lapsed (disk_of old) (disk_of new) calls after_calls → LoggedIn device k lapsed (disks_of parts) (disks_of (slice_set parts k new)) calls after_calls
  logged device lapsed calls after_calls (inl one) =
      inl (
        one.0,
        one.1,
        (λ i. slice_set (map-set disk_of parts k new i) k (undo_what one.0 (after i))) ∙ set-set (map disk_of parts) k (disk_of new) (undo_what one.0 (disk_of new))
            ∙ ap (λ (d : Disk). slice_set (map disk_of parts) k d) (one.2 ∙ sym before) ∙ set-get_or (map disk_of parts) k nothing,
      )
  logged device lapsed calls after_calls (inr gap) =
      inr (
        gap.0,
        gap.1,
        subst (λ (l : List Disk). AllCounted (map disk_of parts) l) (sym (map-set disk_of parts k new))
            (counted_there (map disk_of parts) k (disk_of new) (simp length-map inside) (subst (λ (d : Disk). OnlyCounted d (disk_of new)) (sym before) gap.2)),
      )

module _ {X : Type 0} (f : Part → X) (none : X) (parts : List Part) (k : ℕ) (old : Part) (inside : k < length parts) (is : old ≡ get_or parts k old) where
  before_by : get_or (map f parts) k none ≡ f old
  before_by = get_or-map f parts k old none inside ∙ ap f (sym is)

  after_by : (new : Part) → get_or (map f (slice_set parts k new)) k none ≡ f new
  after_by new = ap (λ (l : List X). get_or l k none) (map-set f parts k new) ∙ get_or-set_same (map f parts) k (f new) none (simp length-map inside)

  others_by : (new : Part) (j : ℕ) → j ≢ k → get_or (map f (slice_set parts k new)) j none ≡ get_or (map f parts) j none
  others_by new j ne = ap (λ (l : List X). get_or l j none) (map-set f parts k new) ∙ get_or-set_other (map f parts) k j (f new) none ne

  same_by : (new : Part) → f new ≡ f old → map f (slice_set parts k new) ≡ map f parts
  same_by new same = map-set f parts k new ∙ ap (λ (x : X). slice_set (map f parts) k x) (same ∙ sym before_by) ∙ set-get_or (map f parts) k none

module _ (parts : List Part) (k : ℕ) (old : Part) (inside : k < length parts) (is : old ≡ get_or parts k old) where
  will_fail_there : will_fail_at parts k ≡ will_fail old
  will_fail_there = λ i. fails (before_by plan_of sound parts k old inside is i) (before_by made_on 0 parts k old inside is i)

  pub plan_there : plan_at (plans_of parts) k ≡ plan_of old
  plan_there = before_by plan_of sound parts k old inside is

  pub made_there : made_at parts k ≡ made_on old
  made_there = before_by made_on 0 parts k old inside is

  pub plan_then : (new : Part) → plan_at (plans_of (slice_set parts k new)) k ≡ plan_of new
  plan_then new = after_by plan_of sound parts k old inside is new

  pub other_plans : (new : Part) (j : ℕ) → j ≢ k → plan_at (plans_of (slice_set parts k new)) j ≡ plan_at (plans_of parts) j
  other_plans new j ne = others_by plan_of sound parts k old inside is new j ne

  pub same_disks : (new : Part) → disk_of new ≡ disk_of old → disks_of (slice_set parts k new) ≡ disks_of parts
  same_disks new same = same_by disk_of nothing parts k old inside is new same

  -- a call on that one
  pub called : {new : Part} {device : Device} {answer : Result (Unit {0}) Failed} {was_starved starved : Bool} {calls after_calls : List Call} →
      WasCalled device answer was_starved starved calls after_calls old new → WasCalledIn device k answer was_starved starved calls after_calls parts (slice_set parts k new)
  called {new} {device} {answer} {was_starved} {starved} {calls} {after_calls} h = record {
    only = subst (λ (b : Bool). OnErr answer ((b ≡ true) ⊎ (starved ≡ true))) (sym will_fail_there) h.only;
    told = λ is. h.told (sym will_fail_there ∙ is);
    others = others parts k old new inside is;
    plans = plans parts k old new inside is h.recorded.plan;
    stays = h.recorded.stays;
    len = length-set parts k new;
    size = size parts k old new inside is h.size;
    logged = logged parts k old new inside is device (starved ≡ true) calls after_calls h.recorded.logged;
  }
