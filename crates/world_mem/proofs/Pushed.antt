-- One device more.
use Rattle.world_mem.proofs.Prelude.{◌≡◌, ℕ, zero, suc, refl, ◌<◌, ◌+◌, List, [], ◌∷◌, ◌++◌, length, map, get_or, sym, ◌∙◌, ap, subst, arith, below_more, get_or_append_left, get_or_push, map-append, length-map, Disk, Part, disk_of, disks_of, disk_at, nothing, plan_of, plans_of, plan_at, sound}

module _ {X : Type 0} (f : Part → X) (none : X) where
  old_one : (parts : List Part) (p : Part) (k : ℕ) → k < length parts → get_or (map f (parts ++ p ∷ [])) k none ≡ get_or (map f parts) k none
  old_one parts p k lt = ap (λ (l : List X). get_or l k none) (map-append f parts (p ∷ [])) ∙ get_or_append_left (map f parts) (f p ∷ []) none k (simp length-map lt)

  new_one : (parts : List Part) (p : Part) (k : ℕ) → length parts ≡ k → get_or (map f (parts ++ p ∷ [])) k none ≡ f p
  new_one parts p k is = ap (λ (l : List X). get_or l k none) (map-append f parts (p ∷ [])) ∙ get_or_push (map f parts) (f p) none k (simp length-map is)

old_disk : (parts : List Part) (p : Part) (k : ℕ) → k < length parts → disk_at (disks_of (parts ++ p ∷ [])) k ≡ disk_at (disks_of parts) k
old_disk parts p k lt = old_one disk_of nothing parts p k lt

new_disk : (parts : List Part) (p : Part) (k : ℕ) → length parts ≡ k → disk_at (disks_of (parts ++ p ∷ [])) k ≡ disk_of p
new_disk parts p k is = new_one disk_of nothing parts p k is

-- what holds of each disk holds of one more
pub disk_more : (R : ℕ → Disk → Type 0) (parts : List Part) (p : Part) (n : ℕ) → length parts ≡ n → ((k : ℕ) → k < n → R k (disk_at (disks_of parts) k)) → R n (disk_of p) → (k : ℕ) → k < n + 1 → R k (disk_at (disks_of (parts ++ p ∷ [])) k)
disk_more R parts p n is each here = below_more _ _ (λ k lt. subst (R k) (sym (old_disk parts p k (omega (arith, lt, is)))) (each k lt)) (subst (R n) (sym (new_disk parts p n is)) here)

-- none of one more is to fail
pub one_plan_more : (parts : List Part) (p : Part) → ((k : ℕ) → plan_at (plans_of parts) k ≡ sound) → plan_of p ≡ sound → (k : ℕ) → plan_at (plans_of (parts ++ p ∷ [])) k ≡ sound
one_plan_more [] p each here zero = here
one_plan_more [] p each here (suc k) = refl
one_plan_more (q ∷ parts) p each here zero = each zero
one_plan_more (q ∷ parts) p each here (suc k) = one_plan_more parts p (λ n. each (suc n)) here k
