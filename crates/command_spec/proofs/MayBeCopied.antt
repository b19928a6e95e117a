-- What a copy adds may be added.
use Rattle.command_spec.proofs.Prelude.{nat_tests, ◌≡◌, ◌≢◌, ◌⊎◌, ℕ, ◌+◌, ◌-◌, ◌<◌, ◌≤◌, Bool, true, false, not, ◌==◌, nat_lt, List, [], ◌∷◌, ◌++◌, length, map, refl, sym, ap, ◌∙◌, arith, inl, inr, subst, Contains, bytes_eq, if◌then◌else◌, bytes_eq-Decides, objects, Volume, ObjectFact, MediumFact, AnyFact, here, there, either, ranges_beside, facts, Memory, IsSound, in_map, Derived, moved, leading, whole, around, moves_both, copy_of, WasVisible, MayBeCopied, CopyMayBe}
use Rattle.array_spec.specs.Prelude.{OBJECTS, AreNext, is_snapshot}
use Rattle.pur_base.specs.declared.facts.AnyFact.TheVariants as any
use Rattle.command_spec.proofs.MayBe.{one_id, one_name, InRow, AreChained, chained_apart, IsLeft, Moves, Begins, Leads, AreMade, may_derive}
use Rattle.command_spec.proofs.MayBeNamed.{alone, two_apart, each_of_two, each_of_one, moved_moves, whole_leads, whole_row}

-- ---- the ranges around a copy, once it is known whether something stands in front of it and behind it

-- how many stand in front, where there are none
abbrev in_front : Bool → ℕ
in_front none = if none then 0 else 1

module _ (medium number : ℕ) (x : ObjectFact) (lba : ℕ) (y : ObjectFact) (to count : ℕ) where
  abbrev Front : MediumFact
  Front = leading medium 0 to y.medium.0 0 number

  abbrev Middle : Bool → MediumFact
  Middle none = leading medium to (to + count) x.medium.0 lba (number + in_front none)

  abbrev Rest : Bool → MediumFact
  Rest none = leading medium (to + count) y.sectors y.medium.0 (to + count) (number + in_front none + 1)

  abbrev pieces : Bool → Bool → List MediumFact
  pieces none more = (if none then [] else Front ∷ []) ++ (Middle none ∷ []) ++ (if more then Rest none ∷ [] else [])

  each_piece : (P : MediumFact → Type 0) (none more : Bool) → (none ≡ false → P Front) → P (Middle none) → (more ≡ true → P (Rest none))
      → (r : MediumFact) → Contains (pieces none more) r → P r
  each_piece P true true f g h r c = each_of_two P (Middle true) (Rest true) g (h refl) r c
  each_piece P true false f g h r c = each_of_one P (Middle true) g r c
  each_piece P false true f g h r c = grind (arith, nat_tests, either, each_of_two)
  each_piece P false false f g h r c = each_of_two P Front (Middle false) (f refl) g r c

  pieces_chained : (none more : Bool) → (none ≡ false → 0 < to) → 1 ≤ count → (more ≡ true → to + count < y.sectors) → AreChained 0 (pieces none more)
  pieces_chained true true f some h = (omega arith, omega (arith, some), (omega arith, h refl, tt))
  pieces_chained true false f some h = (omega arith, omega (arith, some), tt)
  pieces_chained false true f some h = (omega arith, f refl, (omega arith, omega (arith, some), (omega arith, h refl, tt)))
  pieces_chained false false f some h = (omega arith, f refl, (omega arith, omega (arith, some), tt))

  -- their numbers stand in a row
  pieces_row : (none more : Bool) → InRow number (map any.Medium (pieces none more))
  pieces_row true true = (omega arith, (omega arith, tt))
  pieces_row true false = (omega arith, tt)
  pieces_row false true = (refl, (omega arith, (omega arith, tt)))
  pieces_row false false = (refl, (omega arith, tt))

  pieces_long : (none more : Bool) → length (map any.Medium (pieces none more)) ≡ in_front none + 1 + (if more then 1 else 0)
  pieces_long true true = refl
  pieces_long true false = refl
  pieces_long false true = refl
  pieces_long false false = refl

  -- ---- the same of what a copy adds

  in_front_some : to == 0 ≡ false → 0 < to
  in_front_some e = grind (arith, nat_tests)

  behind_some : nat_lt (to + count) y.sectors ≡ true → to + count < y.sectors
  behind_some e = grind (arith, nat_tests)

  pub around_row : InRow number (map any.Medium (around medium number x lba y to count))
  around_row = pieces_row (to == 0) (nat_lt (to + count) y.sectors)

  pub around_long : length (map any.Medium (around medium number x lba y to count)) ≡ ranges_beside y.sectors to count
  around_long = pieces_long (to == 0) (nat_lt (to + count) y.sectors)

  pub around_medium : (r : MediumFact) → Contains (around medium number x lba y to count) r → r.medium.0 ≡ medium
  around_medium = each_piece (λ r. r.medium.0 ≡ medium) (to == 0) (nat_lt (to + count) y.sectors) (λ e. refl) refl (λ e. refl)

  pub around_apart : 1 ≤ count → (r q : MediumFact) (sector : ℕ)
      → Contains (around medium number x lba y to count) r → Contains (around medium number x lba y to count) q
      → r.start ≤ sector → sector < r.end → q.start ≤ sector → sector < q.end → r ≡ q
  around_apart some r q sector c k a b e f = grind (arith, nat_tests, chained_apart, pieces_chained, nat_lt, in_front_some, behind_some)

  module _ (m : Memory) (d : Derived) (may : MayBeCopied m x lba y to count) (owner : ObjectFact) (given : Contains d.objects owner) (own : medium ≡ owner.medium.0) (new : m.next.medium ≤ medium)
      (size : owner.sectors ≡ y.sectors) (left_source : IsLeft d x) (left_target : IsLeft d y) where
    one_leads : (start end target_start at : ℕ) (t : ObjectFact) → WasVisible m t → IsLeft d t → start < end → end ≤ y.sectors → target_start + (end - start) ≤ t.sectors
        → Leads m d (leading medium start end t.medium.0 target_start at)
    one_leads start end target_start at t there left some within fits = grind (arith, nat_tests)

    pub around_leads : (r : MediumFact) → Contains (around medium number x lba y to count) r → Leads m d r
    around_leads = grind (arith, nat_tests, each_piece, one_leads, in_front_some, behind_some)

-- ---- which of the two move

-- both of them: they have two names
two_names : (x y : ObjectFact) → moves_both x y ≡ true → x.name ≢ y.name
two_names x y e same = grind (arith, nat_tests, bytes_eq, bytes_eq-Decides, not, true, false)

volume_is_none : (x : ObjectFact) → x.kind ≡ Volume → is_snapshot x.kind ≡ false
volume_is_none x e = ap is_snapshot e

-- only the one that is copied to: the other is a snapshot, or the same one
same_name : (x y : ObjectFact) → moves_both x y ≡ false → x.kind ≡ Volume → x.name ≡ y.name
same_name x y e volume = grind (arith, nat_tests, bytes_eq-Decides, bytes_eq, volume_is_none, not, false, true)

-- ---- the copy

module _ (m : Memory) (x : ObjectFact) (lba : ℕ) (y : ObjectFact) (to count : ℕ) (s : IsSound m) (may : MayBeCopied m x lba y to count) where
  few : length (objects (facts m.tables) m.next.object) + m.next.object ≤ OBJECTS + m.next.object
  few = let most = s.objects.most in omega (arith, most)

  -- ---- one object moves

  abbrev Target : ObjectFact
  Target = moved y m.next.medium m.next.sequence

  abbrev Ranges : List MediumFact
  Ranges = around m.next.medium (m.next.sequence + 1) x lba y to count

  abbrev One : Derived
  One = record {
    objects = Target ∷ [];
    ranges = Ranges;
    next = record m.next { medium = m.next.medium + 1; sequence = m.next.sequence + (1 + ranges_beside y.sectors to count) };
  }

  abbrev OneRow : List AnyFact
  OneRow = any.Object Target ∷ map any.Medium Ranges

  one_made : moves_both x y ≡ false → AreNext One.next → AreMade m One
  one_made one next =
      let target = here Target [] in
      let left_target : IsLeft One y = λ volume. (Target, target, refl) in
      let left_source : IsLeft One x = λ volume. (Target, target, ap (λ z. z.object.0) (sym (one_name m s x y may.source may.target (same_name x y one volume)))) in
      let long = around_long m.next.medium (m.next.sequence + 1) x lba y to count in
      record {
        few = few;
        row = OneRow;
        in_row = (refl, around_row m.next.medium (m.next.sequence + 1) x lba y to count);
        behind = grind (arith, nat_tests);
        whole_row = whole_row One OneRow
            (each_of_one (λ z. Contains OneRow (any.Object z)) Target (0, omega arith, refl))
            (λ r c. there (any.Object Target) (any.Medium r) (map any.Medium Ranges) (in_map any.Medium Ranges r c));
        object = grind (arith, nat_tests, each_of_one, moved_moves);
        one_object = λ a b c k e. alone Target a c ∙ sym (alone Target b k);
        one_medium = λ a b c k e. alone Target a c ∙ sym (alone Target b k);
        range = around_leads m.next.medium (m.next.sequence + 1) x lba y to count m One may Target target refl (omega arith) refl left_source left_target;
        apart = λ r q sector c k e. around_apart m.next.medium (m.next.sequence + 1) x lba y to count may.some r q sector c k;
      }

  -- ---- both move

  abbrev Source : ObjectFact
  Source = moved x m.next.medium m.next.sequence

  abbrev Seen : MediumFact
  Seen = whole m.next.medium x (m.next.sequence + 1)

  abbrev Other : ObjectFact
  Other = moved y (m.next.medium + 1) (m.next.sequence + 2)

  abbrev Around : List MediumFact
  Around = around (m.next.medium + 1) (m.next.sequence + 3) x lba y to count

  abbrev Both : Derived
  Both = record {
    objects = Source ∷ Other ∷ [];
    ranges = Seen ∷ Around;
    next = record m.next { medium = m.next.medium + 2; sequence = m.next.sequence + (2 + (1 + ranges_beside y.sectors to count)) };
  }

  abbrev BothRow : List AnyFact
  BothRow = any.Object Source ∷ any.Medium Seen ∷ any.Object Other ∷ map any.Medium Around

  around_new : (r : MediumFact) → Contains Around r → r.medium.0 ≡ m.next.medium + 1
  around_new = around_medium (m.next.medium + 1) (m.next.sequence + 3) x lba y to count

  both_apart : (r q : MediumFact) (sector : ℕ) → Contains (Seen ∷ Around) r → Contains (Seen ∷ Around) q → r.medium.0 ≡ q.medium.0
      → r.start ≤ sector → sector < r.end → q.start ≤ sector → sector < q.end → r ≡ q
  both_apart r q sector c k e a b f g = grind (arith, nat_tests, either, around_new, around_apart)

  both_made : moves_both x y ≡ true → AreNext Both.next → AreMade m Both
  both_made both next =
      let source = here Source (Other ∷ []) in
      let other = there Source Other (Other ∷ []) (here Other []) in
      let left_source : IsLeft Both x = λ volume. (Source, source, refl) in
      let left_target : IsLeft Both y = λ volume. (Other, other, refl) in
      let long = around_long (m.next.medium + 1) (m.next.sequence + 3) x lba y to count in
      let behind : m.next.sequence + 3 ≡ m.next.sequence + 1 + 1 + 1 = omega arith in
      record {
        few = few;
        row = BothRow;
        in_row = (refl, (refl, (omega arith, subst (λ n. InRow n (map any.Medium Around)) behind (around_row (m.next.medium + 1) (m.next.sequence + 3) x lba y to count))));
        behind = grind (arith, nat_tests);
        whole_row = whole_row Both BothRow
            (each_of_two (λ z. Contains BothRow (any.Object z)) Source Other (0, omega arith, refl) (2, omega arith, refl))
            both_ranges;
        object = grind (arith, nat_tests, each_of_two, moved_moves);
        one_object = two_apart (λ z. z.object.0) Source Other (λ e. two_names x y both (ap (λ z. z.name) (one_id m s x y may.source may.target e)));
        one_medium = two_apart (λ z. z.medium.0) Source Other (λ e. omega (arith, e));
        range = grind (arith, nat_tests, either, whole_leads, around_leads);
        apart = both_apart;
      }
    where
      both_ranges : (r : MediumFact) → Contains (Seen ∷ Around) r → Contains BothRow (any.Medium r)
      both_ranges r c = elim (either Seen r Around c) [
        | inl same ↦ subst (λ q. Contains BothRow (any.Medium q)) (sym same) (1, omega arith, refl)
        | inr rest ↦ there (any.Object Source) (any.Medium r) (any.Medium Seen ∷ any.Object Other ∷ map any.Medium Around)
            (there (any.Medium Seen) (any.Medium r) (any.Object Other ∷ map any.Medium Around)
            (there (any.Object Other) (any.Medium r) (map any.Medium Around) (in_map any.Medium Around r rest)))
      ]

  -- ---- by cases

  copy_made : (b : Bool) → moves_both x y ≡ b → AreNext (if b then Both else One).next → AreMade m (if b then Both else One)
  copy_made true e next = both_made e next
  copy_made false e next = one_made e next

pub copy_may_be : CopyMayBe
copy_may_be m x lba y to count s may = may_derive m (copy_of m.next x lba y to count) s (copy_made m x lba y to count s may (moves_both x y) refl may.left)
