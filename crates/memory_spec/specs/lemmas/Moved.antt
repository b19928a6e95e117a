-- Addresses that name the same sectors read the same.
use Rattle.std.proofs.Common.{◌≡◌, ℕ, ◌+◌, ◌-◌, List, [], sym, ◌∙◌, slice_index_or, Some, None}
use Rattle.array_spec.specs.Prelude.{Entry, Facts, range, address, objects, Reads, here, below, unwritten, IsOver, Target, Zero, ObjectFact, MediumFact}
use Rattle.memory_spec.specs.Memory.{Contents, TargetReads, EntryReads}
use Rattle.memory_spec.specs.Adding.{MovedReads, SameReads}
use Rattle.memory_spec.specs.lemmas.Lists.{zip_weaker}
use Rattle.memory_spec.specs.lemmas.Objects.{same_objects}

module _ (old new : Facts) (ranges : (m start : ℕ) → range new m start ≡ range old m start) where
  -- the same range is over a sector after as before
  pub over_kept : (m x : ℕ) (r : MediumFact) → IsOver old m x r → IsOver new m x r
  over_kept m x r o = record { there = ranges m r.start ∙ o.there; from_start = o.from_start; below_end = o.below_end }

  pub over_before : (m x : ℕ) (r : MediumFact) → IsOver new m x r → IsOver old m x r
  over_before m x r o = record { there = sym (ranges m r.start) ∙ o.there; from_start = o.from_start; below_end = o.below_end }

module _ (contents contents2 : Contents) (staged staged2 : List (List ℕ)) (old new : Facts)
    (none : (m x : ℕ) → address old m x ≡ None → address new m x ≡ None)
    (some : (m x : ℕ) (t : Target) → address old m x ≡ Some t
    → (t2 : Target) × (address new m x ≡ Some t2) × ((body : List ℕ) → TargetReads contents staged t body → TargetReads contents2 staged2 t2 body))
    (ranges : (m start : ℕ) → range new m start ≡ range old m start) where
  reads : (m x : ℕ) (t : Target) → Reads old m x t → (body : List ℕ) → TargetReads contents staged t body
      → (t2 : Target) × Reads new m x t2 × TargetReads contents2 staged2 t2 body
  reads m x t (here a) body b = let n = some m x t a in (n.0, here n.1, n.2 body b)
  reads m x t (below r a o inner) body b =
      let n = reads r.target.0 (r.target_start + (x - r.start)) t inner body b in
      (n.0, below r (none m x a) (over_kept old new ranges m x r o) n.1, n.2)
  reads m x t (unwritten a n) body b = (Zero, unwritten (none m x a) (λ r o. n r (over_before old new ranges m x r o)), b)

  pub entry_moved : (x : ObjectFact) (e : Entry) → EntryReads contents staged old x e → EntryReads contents2 staged2 new x e
  entry_moved x e r = record {
    name = r.name;
    snapshot = r.snapshot;
    size = r.size;
    sectors = λ place l. let s = r.sectors place l in reads x.medium.0 place s.0 s.1 (slice_index_or e.sectors place []) s.2;
  }

-- the same addresses
pub entry_same : (contents : Contents) (staged : List (List ℕ)) (old new : Facts) → ((m start : ℕ) → range new m start ≡ range old m start) → ((m x : ℕ) → address new m x ≡ address old m x)
    → (x : ObjectFact) (e : Entry) → EntryReads contents staged old x e → EntryReads contents staged new x e
entry_same contents staged old new ranges addresses x e r =
    entry_moved contents contents staged staged old new (λ m x e. addresses m x ∙ e) (λ m x t e. (t, addresses m x ∙ e, λ body b. b)) ranges x e r

pub moved_reads : MovedReads
moved_reads contents contents2 staged staged2 old new next array moved read =
    rw (same_objects old new moved.objects next)
    (zip_weaker (EntryReads contents staged old) (EntryReads contents2 staged2 new) (entry_moved contents contents2 staged staged2 old new moved.none moved.some moved.ranges) (objects old next) array read)

pub same_reads : SameReads
same_reads contents staged old new next array same read =
    moved_reads contents contents staged staged old new next array
    (record {
      none = λ m x e. same.addresses m x ∙ e;
      some = λ m x t e. (t, same.addresses m x ∙ e, λ body b. b);
      ranges = same.ranges;
      objects = same.objects;
    }) read
