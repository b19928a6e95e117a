-- What a snapshot and a clone add may be added.
use Rattle.command_spec.proofs.Prelude.{nat_tests, ◌≡◌, ◌≢◌, ◌⊎◌, ℕ, ◌+◌, ◌<◌, ◌≤◌, Bool, true, false, List, [], ◌∷◌, refl, sym, ◌∙◌, arith, inl, inr, subst, Contains, if◌then◌else◌, objects, Volume, ObjectFact, MediumFact, AnyFact, here, there, either, nowhere, Memory, IsSound, object_fits, Derived, moved, derived, whole, snapshot_of, clone_of, IsGiven, WasVisible, MayBeNamed, SnapshotMayBe, CloneMayBe}
use Rattle.array_spec.specs.Prelude.{ObjectKind, Snapshot, is_snapshot}
use Rattle.pur_base.specs.declared.facts.AnyFact.TheVariants as any
use Rattle.command_spec.proofs.MayBe.{visible_below, IsLeft, Moves, Begins, Leads, AreMade, may_derive}

-- ---- lists of one and of two

pub alone : {X : Type 0} (x y : X) → Contains (x ∷ []) y → y ≡ x
alone x y c = elim (either x y [] c) [ inl same ↦ same | inr none ↦ absurd (nowhere y none) ]

pub of_two : {X : Type 0} (a b y : X) → Contains (a ∷ b ∷ []) y → (y ≡ a) ⊎ (y ≡ b)
of_two a b y c = elim (either a y (b ∷ []) c) [ inl same ↦ inl same | inr rest ↦ inr (alone b y rest) ]

-- two that differ in a number are told apart by it
pub two_apart : {X : Type 0} (key : X → ℕ) (a b : X) → key a ≢ key b → (x y : X) → Contains (a ∷ b ∷ []) x → Contains (a ∷ b ∷ []) y → key x ≡ key y → x ≡ y
two_apart key a b ne x y c d e = grind (arith, nat_tests, of_two)

pub each_of_two : {X : Type 0} (P : X → Type 0) (a b : X) → P a → P b → (y : X) → Contains (a ∷ b ∷ []) y → P y
each_of_two P a b p q y c = elim (of_two a b y c) [ inl same ↦ subst P (sym same) p | inr same ↦ subst P (sym same) q ]

pub each_of_one : {X : Type 0} (P : X → Type 0) (a : X) → P a → (y : X) → Contains (a ∷ []) y → P y
each_of_one P a p y c = subst P (sym (alone a y c)) p

-- ---- kinds

pub not_volume : (k : ObjectKind) → is_snapshot k ≡ true → k ≢ Volume
not_volume Volume e v = cc
not_volume Snapshot e v = cc

-- ---- one object, and one range

module _ (m : Memory) (s : IsSound m) (d : Derived) (x : ObjectFact) (c : WasVisible m x) where
  pub moved_moves : (medium number : ℕ) → m.next.medium ≤ medium → Moves m (moved x medium number)
  moved_moves medium number new = record { was = x; there = c; id = refl; name = refl; sectors = refl; medium = new }

  -- a medium leads to all of what was left
  pub whole_leads : (medium number : ℕ) (owner : ObjectFact) → Contains d.objects owner → medium ≡ owner.medium.0 → m.next.medium ≤ medium → owner.sectors ≡ x.sectors → IsLeft d x
      → Leads m d (whole medium x number)
  whole_leads medium number owner given own new size left =
      let least = (object_fits m s x c).1.lawful.statement.0 in
      record {
        owner = owner;
        given = given;
        own = own;
        new = new;
        some = omega (arith, least);
        end = omega (arith, size);
        target = x;
        there = c;
        its = refl;
        target_end = omega arith;
        left = left;
      }

-- a row holds all that is given if it holds the objects and the ranges
pub whole_row : (d : Derived) (row : List AnyFact) → ((z : ObjectFact) → Contains d.objects z → Contains row (any.Object z))
    → ((r : MediumFact) → Contains d.ranges r → Contains row (any.Medium r)) → (f : AnyFact) → IsGiven d f → Contains row f
whole_row d row objects ranges (any.Object z) c = objects z c
whole_row d row objects ranges (any.Medium r) c = ranges r c
whole_row d row objects ranges f c = absurd c

module _ (m : Memory) (s : IsSound m) (x : ObjectFact) (name : List ℕ) where
  -- the object of the new name
  begins : (d : Derived) (kind : ObjectKind) (medium number : ℕ) → MayBeNamed m x name d → m.next.object < d.next.object
      → (m.next.medium ≤ medium) ⊎ ((medium ≡ x.medium.0) × (kind ≢ Volume) × IsLeft d x) → Begins m d (derived m.next x kind name medium number)
  begins d kind medium number may given on = record {
    was = x;
    there = may.there;
    id = refl;
    given = given;
    sectors = refl;
    lawful = may.lawful;
    free = may.free;
    medium = on;
  }

  snapshot_left : (d : Derived) → is_snapshot x.kind ≡ true → IsLeft d x
  snapshot_left d kind volume = absurd (not_volume x.kind kind volume)

  -- ---- a snapshot of a snapshot

  abbrev Again : ObjectFact
  Again = derived m.next x Snapshot name x.medium.0 m.next.sequence

  abbrev SnapshotAgain : Derived
  SnapshotAgain = record {
    objects = Again ∷ [];
    ranges = [];
    next = record m.next { object = m.next.object + 1; sequence = m.next.sequence + 1 };
  }

  snapshot_again : is_snapshot x.kind ≡ true → MayBeNamed m x name SnapshotAgain → AreMade m SnapshotAgain
  snapshot_again kind may =
      let low = visible_below m s x may.there in
      record {
        few = omega (arith, may.few);
        row = any.Object Again ∷ [];
        in_row = (refl, tt);
        behind = let next = may.left in grind (arith, nat_tests);
        whole_row = grind (arith, nat_tests, each_of_one, nowhere);
        object = grind (arith, nat_tests, each_of_one, begins, snapshot_left);
        one_object = λ a b c k e. alone Again a c ∙ sym (alone Again b k);
        one_medium = λ a b c k e. alone Again a c ∙ sym (alone Again b k);
        range = λ r c. absurd (nowhere r c);
        apart = λ r q sector c k e f g h i. absurd (nowhere r c);
      }

  -- ---- a snapshot of a volume

  abbrev Kept : ObjectFact
  Kept = moved x m.next.medium (m.next.sequence + 1)

  abbrev Shown : MediumFact
  Shown = whole m.next.medium x (m.next.sequence + 2)

  abbrev SnapshotOfVolume : Derived
  SnapshotOfVolume = record {
    objects = Again ∷ Kept ∷ [];
    ranges = Shown ∷ [];
    next = record m.next { object = m.next.object + 1; medium = m.next.medium + 1; sequence = m.next.sequence + 3 };
  }

  abbrev SnapshotRow : List AnyFact
  SnapshotRow = any.Object Again ∷ any.Object Kept ∷ any.Medium Shown ∷ []

  snapshot_of_volume : MayBeNamed m x name SnapshotOfVolume → AreMade m SnapshotOfVolume
  snapshot_of_volume may =
      let low = visible_below m s x may.there in
      let kept = there Again Kept (Kept ∷ []) (here Kept []) in
      let left : IsLeft SnapshotOfVolume x = λ volume. (Kept, kept, refl) in
      record {
        few = omega (arith, may.few);
        row = SnapshotRow;
        in_row = (refl, (refl, (omega arith, tt)));
        behind = let next = may.left in grind (arith, nat_tests);
        whole_row = whole_row SnapshotOfVolume SnapshotRow
            (each_of_two (λ z. Contains SnapshotRow (any.Object z)) Again Kept (0, omega arith, refl) (1, omega arith, refl))
            (each_of_one (λ z. Contains SnapshotRow (any.Medium z)) Shown (2, omega arith, refl));
        object = grind (arith, nat_tests, each_of_two, begins, moved_moves);
        one_object = two_apart (λ z. z.object.0) Again Kept (λ e. omega (arith, low.0, e));
        one_medium = two_apart (λ z. z.medium.0) Again Kept (λ e. omega (arith, low.1, e));
        range = each_of_one (λ r. Leads m SnapshotOfVolume r) Shown
            (whole_leads m s SnapshotOfVolume x may.there m.next.medium (m.next.sequence + 2) Kept kept refl (omega arith) refl left);
        apart = λ r q sector c k e f g h i. alone Shown r c ∙ sym (alone Shown q k);
      }

  -- ---- a clone of a snapshot

  abbrev Fresh : ObjectFact
  Fresh = derived m.next x Volume name m.next.medium m.next.sequence

  abbrev Seen : MediumFact
  Seen = whole m.next.medium x (m.next.sequence + 1)

  abbrev CloneOfSnapshot : Derived
  CloneOfSnapshot = record {
    objects = Fresh ∷ [];
    ranges = Seen ∷ [];
    next = record m.next { object = m.next.object + 1; medium = m.next.medium + 1; sequence = m.next.sequence + 2 };
  }

  abbrev CloneRow : List AnyFact
  CloneRow = any.Object Fresh ∷ any.Medium Seen ∷ []

  clone_of_snapshot : is_snapshot x.kind ≡ true → MayBeNamed m x name CloneOfSnapshot → AreMade m CloneOfSnapshot
  clone_of_snapshot kind may =
      record {
        few = omega (arith, may.few);
        row = CloneRow;
        in_row = (refl, (refl, tt));
        behind = let next = may.left in grind (arith, nat_tests);
        whole_row = whole_row CloneOfSnapshot CloneRow
            (each_of_one (λ z. Contains CloneRow (any.Object z)) Fresh (0, omega arith, refl))
            (each_of_one (λ z. Contains CloneRow (any.Medium z)) Seen (1, omega arith, refl));
        object = grind (arith, nat_tests, each_of_one, begins);
        one_object = λ a b c k e. alone Fresh a c ∙ sym (alone Fresh b k);
        one_medium = λ a b c k e. alone Fresh a c ∙ sym (alone Fresh b k);
        range = each_of_one (λ r. Leads m CloneOfSnapshot r) Seen
            (whole_leads m s CloneOfSnapshot x may.there m.next.medium (m.next.sequence + 1) Fresh (here Fresh []) refl (omega arith) refl (snapshot_left CloneOfSnapshot kind));
        apart = λ r q sector c k e f g h i. alone Seen r c ∙ sym (alone Seen q k);
      }

  -- ---- a clone of a volume

  abbrev First : ObjectFact
  First = moved x m.next.medium m.next.sequence

  abbrev Second : ObjectFact
  Second = derived m.next x Volume name (m.next.medium + 1) (m.next.sequence + 2)

  abbrev SeenToo : MediumFact
  SeenToo = whole (m.next.medium + 1) x (m.next.sequence + 3)

  abbrev CloneOfVolume : Derived
  CloneOfVolume = record {
    objects = First ∷ Second ∷ [];
    ranges = Seen ∷ SeenToo ∷ [];
    next = record m.next { object = m.next.object + 1; medium = m.next.medium + 2; sequence = m.next.sequence + 4 };
  }

  abbrev CloneRows : List AnyFact
  CloneRows = any.Object First ∷ any.Medium Seen ∷ any.Object Second ∷ any.Medium SeenToo ∷ []

  clone_of_volume : MayBeNamed m x name CloneOfVolume → AreMade m CloneOfVolume
  clone_of_volume may =
      let low = visible_below m s x may.there in
      let first = here First (Second ∷ []) in
      let second = there First Second (Second ∷ []) (here Second []) in
      let left : IsLeft CloneOfVolume x = λ volume. (First, first, refl) in
      record {
        few = omega (arith, may.few);
        row = CloneRows;
        in_row = (refl, (refl, (omega arith, (omega arith, tt))));
        behind = let next = may.left in grind (arith, nat_tests);
        whole_row = whole_row CloneOfVolume CloneRows
            (each_of_two (λ z. Contains CloneRows (any.Object z)) First Second (0, omega arith, refl) (2, omega arith, refl))
            (each_of_two (λ z. Contains CloneRows (any.Medium z)) Seen SeenToo (1, omega arith, refl) (3, omega arith, refl));
        object = grind (arith, nat_tests, each_of_two, moved_moves, begins);
        one_object = two_apart (λ z. z.object.0) First Second (λ e. omega (arith, low.0, e));
        one_medium = two_apart (λ z. z.medium.0) First Second (λ e. omega (arith, e));
        range = each_of_two (λ r. Leads m CloneOfVolume r) Seen SeenToo
            (whole_leads m s CloneOfVolume x may.there m.next.medium (m.next.sequence + 1) First first refl (omega arith) refl left)
            (whole_leads m s CloneOfVolume x may.there (m.next.medium + 1) (m.next.sequence + 3) Second second refl (omega arith) refl left);
        apart = λ r q sector c k e f g h i. two_apart (λ z. z.medium.0) Seen SeenToo (λ same. omega (arith, same)) r q c k e;
      }

  -- ---- by cases

  snapshot_made : (b : Bool) → is_snapshot x.kind ≡ b → MayBeNamed m x name (if b then SnapshotAgain else SnapshotOfVolume) → AreMade m (if b then SnapshotAgain else SnapshotOfVolume)
  snapshot_made true e may = snapshot_again e may
  snapshot_made false e may = snapshot_of_volume may

  clone_made : (b : Bool) → is_snapshot x.kind ≡ b → MayBeNamed m x name (if b then CloneOfSnapshot else CloneOfVolume) → AreMade m (if b then CloneOfSnapshot else CloneOfVolume)
  clone_made true e may = clone_of_snapshot e may
  clone_made false e may = clone_of_volume may

pub snapshot_may_be : SnapshotMayBe
snapshot_may_be m x name s may = may_derive m (snapshot_of m.next x name) s (snapshot_made m s x name (is_snapshot x.kind) refl may)

pub clone_may_be : CloneMayBe
clone_may_be m x name s may = may_derive m (clone_of m.next x name) s (clone_made m s x name (is_snapshot x.kind) refl may)
