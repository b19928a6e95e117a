-- What facts read as after a snapshot and a clone: the array as it was, and one entry more with the sectors of the one that it was made of.
use Rattle.command_spec.proofs.Prelude.{◌≡◌, ◌⊎◌, ℕ, ◌+◌, ◌<◌, ◌≤◌, List, [], ◌∷◌, refl, sym, ap, ◌∙◌, arith, inl, inr, Some, Contains, cases_eq, cases_Bool, sectors_of, object, Volume, ObjectFact, MediumFact, here, facts, Memory, Contents, SectorReads, FactsRead, ReadsAs, of_objects, entries_read, within_size, Derived, moved, derived, whole, IsDerived, WasVisible, SnapshotFactsRead, CloneFactsRead}
use Rattle.array_spec.specs.Prelude.{Array, appended, Snapshot, is_snapshot}
use Rattle.command_spec.proofs.Chains.{sector_stays}
use Rattle.command_spec.proofs.Entries.{shown, through, moves, Follows, same, at_id, AreTold, one_more, old_medium, of_none, of_one, of_two, second}

-- ---- one object is new, and the one that it is made of may move

module _ (contents : Contents) (was now : Memory) (d : Derived) (array : Array) (r : ReadsAs contents was array) (is : IsDerived (facts was.tables) (facts now.tables) d)
    (fresh : (q : MediumFact) → Contains d.ranges q → was.next.medium ≤ q.medium.0) (x : ObjectFact) (visible : WasVisible was x)
    (ids : (z : ObjectFact) → Contains d.objects z → (z.object.0 ≡ was.next.object) ⊎ (z.object.0 ≡ x.object.0)) where
  its_id : (object (facts was.tables) x.object.0 ≡ Some x) × (x.object.0 < was.next.object)
  its_id = of_objects (facts was.tables) was.next.object x visible

  -- it doesn't move
  rests : ((z : ObjectFact) → Contains d.objects z → z.object.0 ≡ was.next.object) → Follows contents was now d array r is fresh (λ e. e) x.object.0 x
  rests new = same contents was now d array r is fresh x.object.0 x its_id.1 its_id.0 (λ z c e. let low = its_id.1 in let at = new z c in omega (arith, low, at, e))

  -- it moves to a medium that leads to the one that it had
  follows : (medium number sequence : ℕ) → Contains d.objects (moved x medium sequence) → Contains d.ranges (whole medium x number)
      → Follows contents was now d array r is fresh (λ e. e) x.object.0 x
  follows medium number sequence given leads =
      (moved x medium sequence, is.given (moved x medium sequence) given, λ e h. moves contents was now d array r is fresh x e medium number sequence visible leads h)

  told : AreTold contents was now d array r is fresh
  told z c = elim (ids z c) [ inl new ↦ inl (omega (arith, new)) | inr old ↦ inr (x, visible, old) ]

  named_read : Follows contents was now d array r is fresh (λ e. e) x.object.0 x → (y : ObjectFact) → Contains d.objects y → y.object.0 ≡ was.next.object → y.sectors ≡ x.sectors
      → ((place : ℕ) (sector : List ℕ) → place < x.sectors → SectorReads contents was.staged (facts was.tables) x.medium.0 place sector
      → SectorReads contents was.staged (facts now.tables) y.medium.0 place sector)
      → FactsRead contents was.staged (facts now.tables) (was.next.object + 1) (appended array y.name (is_snapshot y.kind) (sectors_of array x.name))
  named_read its y c id size reads =
      one_more contents was now d array r is fresh y (record { name = y.name; snapshot = is_snapshot y.kind; sectors = sectors_of array x.name }) told each
      (ap (object (facts now.tables)) (sym id) ∙ is.given y c)
      (record {
        name = refl;
        snapshot = refl;
        size = ((entries_read contents was array r).each x visible).size ∙ sym size;
        sectors = λ place l. let less : place < x.sectors = omega (arith, l, size) in reads place _ less (shown contents was now d array r is fresh x place visible less);
      })
    where
      each : (n : ℕ) (z : ObjectFact) → n < was.next.object → object (facts was.tables) n ≡ Some z → Follows contents was now d array r is fresh (λ e. e) n z
      each n z l said = elim (cases_eq n x.object.0) [
        | inl at ↦ at_id contents was now d array r is fresh (λ e. e) x visible its n z at said
        | inr ne ↦ same contents was now d array r is fresh n z l said (λ f c e. elim (ids f c) [ inl new ↦ omega (arith, new, e, l) | inr old ↦ ne (sym e ∙ old) ])
      ]

-- ---- short lists

-- ---- the two commands

-- of the next id, or of the object's
abbrev IsNewOrIts : Memory → ObjectFact → ObjectFact → Type 0
IsNewOrIts was x z = (z.object.0 ≡ was.next.object) ⊎ (z.object.0 ≡ x.object.0)

abbrev IsOnNew : Memory → MediumFact → Type 0
IsOnNew was q = was.next.medium ≤ q.medium.0

pub snapshot_facts_read : SnapshotFactsRead
snapshot_facts_read contents was now x name array r may is = elim (cases_Bool (is_snapshot x.kind)) [
  | inl frozen ↦
      let d = rw frozen at is in
      let y : ObjectFact = derived was.next x Snapshot name x.medium.0 was.next.sequence in
      let ids = of_one (IsNewOrIts was x) y (inl refl) in
      let fresh = of_none (IsOnNew was) in
      rw frozen (named_read contents was now _ array r d fresh x may.there ids
      (rests contents was now _ array r d fresh x may.there ids (of_one (λ (z : ObjectFact). z.object.0 ≡ was.next.object) y refl))
      y (here y []) refl refl
      (λ place sector l s.
      let most = (within_size was r.sound).objects x may.there in
      sector_stays was now _ r.sound d fresh contents x.medium.0 place sector (old_medium contents was now _ array r d fresh x may.there) (omega (arith, l, most)) s))
  | inr volume ↦
      let d = rw volume at is in
      let y : ObjectFact = derived was.next x Snapshot name x.medium.0 was.next.sequence in
      let z : ObjectFact = moved x was.next.medium (was.next.sequence + 1) in
      let q : MediumFact = whole was.next.medium x (was.next.sequence + 2) in
      let ids = of_two (IsNewOrIts was x) y z (inl refl) (inr refl) in
      let fresh = of_one (IsOnNew was) q (omega arith) in
      rw volume (named_read contents was now _ array r d fresh x may.there ids
      (follows contents was now _ array r d fresh x may.there ids was.next.medium (was.next.sequence + 2) (was.next.sequence + 1) (second y z []) (here q []))
      y (here y (z ∷ [])) refl refl
      (λ place sector l s.
      let most = (within_size was r.sound).objects x may.there in
      sector_stays was now _ r.sound d fresh contents x.medium.0 place sector (old_medium contents was now _ array r d fresh x may.there) (omega (arith, l, most)) s))
]

pub clone_facts_read : CloneFactsRead
clone_facts_read contents was now x name array r may is = elim (cases_Bool (is_snapshot x.kind)) [
  | inl frozen ↦
      let d = rw frozen at is in
      let y : ObjectFact = derived was.next x Volume name was.next.medium was.next.sequence in
      let q : MediumFact = whole was.next.medium x (was.next.sequence + 1) in
      let ids = of_one (IsNewOrIts was x) y (inl refl) in
      let fresh = of_one (IsOnNew was) q (omega arith) in
      rw frozen (named_read contents was now _ array r d fresh x may.there ids
      (rests contents was now _ array r d fresh x may.there ids (of_one (λ (z : ObjectFact). z.object.0 ≡ was.next.object) y refl))
      y (here y []) refl refl
      (λ place sector l s. through contents was now _ array r d fresh x was.next.medium (was.next.sequence + 1) place sector may.there (here q []) l s))
  | inr volume ↦
      let d = rw volume at is in
      let y : ObjectFact = derived was.next x Volume name (was.next.medium + 1) (was.next.sequence + 2) in
      let z : ObjectFact = moved x was.next.medium was.next.sequence in
      let q : MediumFact = whole was.next.medium x (was.next.sequence + 1) in
      let p : MediumFact = whole (was.next.medium + 1) x (was.next.sequence + 3) in
      let ids = of_two (IsNewOrIts was x) z y (inr refl) (inl refl) in
      let fresh = of_two (IsOnNew was) q p (omega arith) (omega arith) in
      rw volume (named_read contents was now _ array r d fresh x may.there ids
      (follows contents was now _ array r d fresh x may.there ids was.next.medium (was.next.sequence + 1) was.next.sequence (here z (y ∷ [])) (here q (p ∷ [])))
      y (second z y []) refl refl
      (λ place sector l s. through contents was now _ array r d fresh x (was.next.medium + 1) (was.next.sequence + 3) place sector may.there (second q p []) l s))
]
