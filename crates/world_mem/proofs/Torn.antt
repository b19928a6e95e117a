-- What a stop leaves of each device.
use Rattle.world_mem.proofs.Prelude.{Bool, true, false, ◌≡◌, inl, inr, ℕ, zero, suc, ◌<◌, ◌≤◌, List, [], ◌∷◌, length, map, get_or, slice_index, slice_index_or, slice_set, refl, sym, ap, subst, arith, get_or-set_other, cases_lt, cases_eq, get_or_past, length-map, Span, Device, Drive, Nv, Disk, MayStop, IsIn, IsInSome, Part, disk_of, disks_of, disk_at, nothing, IsTorn, View, shelved, shelved_of, image_now}
use Rattle.world_mem.specs.declared.mem_world.MemWorld.{MemWorld}

pub in_that : (spans : List Span) (k : ℕ) (d : Span) (i : ℕ) → k < length spans → IsIn (get_or spans k d) i → IsInSome spans i
in_that [] k d i lt is = absurd (omega arith)
in_that (s ∷ spans) zero d i lt is = inl is
in_that (s ∷ spans) (suc k) d i lt is = inr (in_that spans k d i (omega arith) is)

-- a byte without a mark stays
pub kept : (marks : List Bool) (bytes : List ℕ) (k b : ℕ) → slice_index_or marks k false ≡ true → (i : ℕ) → slice_index_or marks i false ≡ false → slice_index (slice_set bytes k b) i ≡ slice_index bytes i
kept marks bytes k b mark i none = elim (cases_eq i k) [
  | inl e ↦ absurd (cc (mark, none, ap (λ (n : ℕ). slice_index_or marks n false) e))
  | inr ne ↦ get_or-set_other bytes k i b 0 ne
]

pub not_true : (b : Bool) → (b ≡ true → ⊥) → b ≡ false
not_true true h = absurd (h refl)
not_true false h = refl

no_byte : (i : ℕ) → slice_index [] i < 256
no_byte zero = omega arith
no_byte (suc i) = omega arith

-- past the last device there is nothing
past : (parts : List Part) (k : ℕ) → length parts ≤ k → disk_at (disks_of parts) k ≡ nothing
past parts k le = get_or_past (map disk_of parts) k nothing (simp length-map le)

of_each : (parts torn : List Part) → length torn ≡ length parts → ((k : ℕ) → k < length parts → IsTorn (disk_at (disks_of parts) k) (disk_at (disks_of torn) k))
    → (k : ℕ) → IsTorn (disk_at (disks_of parts) k) (disk_at (disks_of torn) k)
of_each parts torn len each k = elim (cases_lt k (length parts)) [
  | inl lt ↦ each k lt
  | inr le ↦
      let a = past parts k le in
      let b = past torn k (omega (arith, len, le)) in
      subst (λ (d : Disk). IsTorn d (disk_at (disks_of torn) k)) (sym a) (subst (λ (d : Disk). IsTorn nothing d) (sym b) (record { left = record { size = refl; is_byte = no_byte; clean = λ i out. refl }; clean = refl }))
]

pub torn_each : (parts from torn : List Part) → from ≡ parts → length torn ≡ length from → ((k : ℕ) → k < length from → IsTorn (disk_at (disks_of from) k) (disk_at (disks_of torn) k)) → (k : ℕ) → IsTorn (disk_at (disks_of parts) k) (disk_at (disks_of torn) k)
torn_each parts from torn is len each = subst (λ (l : List Part). (k : ℕ) → IsTorn (disk_at (disks_of l) k) (disk_at (disks_of torn) k)) is (of_each from torn len each)

-- a world of these devices, with no call made yet
abbrev pub anew : List Part → List Part → ℕ → View
anew drives nvram units = record { now = record { drives = disks_of drives; nvram = disks_of nvram; output = []; taken = 0 }; units = units; calls = []; starved = false }

-- such a world of what a stop leaves of each device
module _ (w : MemWorld) (drives nvram : List Part) (units : ℕ) (torn : (k : ℕ) → IsTorn (disk_at (disks_of w.drives.items) k) (disk_at (disks_of drives) k)) (torn_nv : (k : ℕ) → IsTorn (disk_at (disks_of w.nvram.items) k) (disk_at (disks_of nvram) k)) where
  each_device : (d : Device) → IsTorn ((shelved w).disk d) ((shelved_of (anew drives nvram units)).disk d)
  each_device (Drive d) = torn d.0
  each_device (Nv n) = torn_nv n.0

  pub may_stop : MayStop (shelved w) (image_now (shelved w) (shelved_of (anew drives nvram units)))
  may_stop = record { device = λ d. (each_device d).left; counts = record { faults = λ d. omega arith; write_faults = λ d. omega arith }; output = refl; taken = refl }

  pub is_clean : (d : Device) → ((shelved_of (anew drives nvram units)).disk d).dirty ≡ []
  is_clean d = (each_device d).clean
