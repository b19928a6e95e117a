-- What sound memory tells of its array: its entries, their sectors, and that there is no other array.
use Rattle.std.proofs.lemmas.Bool.Decides.{nat_tests}
use Rattle.std.proofs.Common.{◌≡◌, ◌≢◌, ℕ, zero, suc, Bool, true, false, List, [], ◌∷◌, length, refl, sym, ap, ◌∙◌, arith, inl, inr, subst, cond, find, is_some, Some, Contains, slice_index_or}
use Rattle.std.specs.List.{AllZip}
use Rattle.std.specs.Option.{option_map_or}
use Rattle.std.proofs.lemmas.Bool.{both_ways}
use Rattle.std.proofs.lemmas.List.{ext_get_or}
use Rattle.std.proofs.lemmas.Slice.Eq.{bytes_eq-Decides}
use Rattle.array_spec.specs.Prelude.{Entry, Array, entry, has, is_named, Facts, objects, Reads, Target, Stored, Zero, ObjectFact, AreMediumsSound, reads_one, same_some}
use Rattle.pyramid.specs.Prelude.{here, there, either, nowhere}
use Rattle.memory_spec.specs.Tables.{facts}
use Rattle.memory_spec.specs.Memory.{Memory, Contents, PlaceReads, TargetReads, SectorReads, EntryReads, ReadsAs}
use Rattle.memory_spec.specs.Reading.{EntriesRead, SectorsRead, ReadsAsOne}
use Rattle.memory_spec.specs.lemmas.Lists.{pairs_of, zip_long}

-- ---- one sector for each place

place_one : (contents : Contents) (staged : List (List ℕ)) (segment index : ℕ) (a b : List ℕ) → PlaceReads contents staged segment index a → PlaceReads contents staged segment index b → a ≡ b
place_one contents staged zero index a b p q = same_some _ p q
place_one contents staged (suc s) index a b p q = p ∙ sym q

target_one : (contents : Contents) (staged : List (List ℕ)) (t : Target) (a b : List ℕ) → TargetReads contents staged t a → TargetReads contents staged t b → a ≡ b
target_one contents staged (Stored at) a b p q = place_one contents staged at.segment.0 at.index a b p q
target_one contents staged Zero a b p q = p ∙ sym q

sector_one : (contents : Contents) (staged : List (List ℕ)) (f : Facts) (m x : ℕ) (t : Target) (a b : List ℕ) → AreMediumsSound f → Reads f m x t → TargetReads contents staged t a
    → SectorReads contents staged f m x b → a ≡ b
sector_one contents staged f m x t a b sound first read s = grind (arith, nat_tests, target_one, reads_one)

module _ (contents : Contents) (staged : List (List ℕ)) (f : Facts) where
  -- ---- the entry of an object

  entry_of : (x : ObjectFact) (xs : List ObjectFact) (es : Array) → AllZip (EntryReads contents staged f) xs es → ((y : ObjectFact) → Contains xs y → y.name ≡ x.name → y ≡ x) → Contains xs x
      → (e : Entry) × (entry es x.name ≡ Some e) × EntryReads contents staged f x e
  entry_of x [] es h one c = absurd (nowhere x c)
  entry_of x (y ∷ xs) [] h one c = absurd h
  entry_of x (y ∷ xs) (e ∷ es) h one c = go (is_named x.name e) refl (λ d. entry_of x xs es h.1 (λ z i. one z (there y z xs i)) d)
    where
      go : (b : Bool) → is_named x.name e ≡ b → (Contains xs x → (o : Entry) × (entry es x.name ≡ Some o) × EntryReads contents staged f x o)
          → (o : Entry) × (cond b (Some e) (find (is_named x.name) es) ≡ Some o) × EntryReads contents staged f x o
      go true t rest =
          let named : x.name ≡ e.name = (bytes_eq-Decides x.name e.name).0 t in
          let same : y ≡ x = one y (here y xs) (sym h.0.name ∙ sym named) in
          (e, refl, subst (λ z. EntryReads contents staged f z e) same h.0)
      go false t rest = elim (either y x xs c) [
        | inl same ↦ absurd (both_ways (is_named x.name e) t ((bytes_eq-Decides x.name e.name).1 (ap (λ z. z.name) same ∙ sym h.0.name)))
        | inr d ↦ rest d
      ]

  -- an entry of each name that there is
  object_of : (name : List ℕ) (xs : List ObjectFact) (es : Array) → AllZip (EntryReads contents staged f) xs es → has es name ≡ true → (x : ObjectFact) × Contains xs x × (x.name ≡ name)
  object_of name [] [] h is = cc
  object_of name [] (e ∷ es) h is = absurd h
  object_of name (x ∷ xs) [] h is = absurd h
  object_of name (x ∷ xs) (e ∷ es) h is = go (is_named name e) refl is (λ k. object_of name xs es h.1 k)
    where
      go : (b : Bool) → is_named name e ≡ b → is_some (cond b (Some e) (find (is_named name) es)) ≡ true → (has es name ≡ true → (y : ObjectFact) × Contains xs y × (y.name ≡ name))
          → (y : ObjectFact) × Contains (x ∷ xs) y × (y.name ≡ name)
      go true t some rest = (x, here x xs, sym h.0.name ∙ sym ((bytes_eq-Decides name e.name).0 t))
      go false t some rest = let w = rest some in (w.0, there x w.0 xs w.1, w.2)

  -- ---- one array

  entry_one : (sound : AreMediumsSound f) (x : ObjectFact) (d e : Entry) → EntryReads contents staged f x d → EntryReads contents staged f x e → d ≡ e
  entry_one sound x d e p q = same d.name e.name d.snapshot e.snapshot d.sectors e.sectors (p.name ∙ sym q.name) (p.snapshot ∙ sym q.snapshot)
      (ext_get_or [] d.sectors e.sectors (p.size ∙ sym q.size) (λ i l.
      let s = p.sectors i (omega (arith, l, p.size)) in
      sector_one contents staged f x.medium.0 i s.0 (slice_index_or d.sectors i []) (slice_index_or e.sectors i []) sound s.1 s.2 (q.sectors i (omega (arith, l, p.size)))))
    where
      same : (n m : List ℕ) (s t : Bool) (a b : List (List ℕ)) → n ≡ m → s ≡ t → a ≡ b → ◌≡◌ {A = Entry} (record { name = n; snapshot = s; sectors = a }) (record { name = m; snapshot = t; sectors = b })
      same n m s t a b i j k = rw (i, j, k) refl

  array_one : AreMediumsSound f → (xs : List ObjectFact) (ds es : Array) → AllZip (EntryReads contents staged f) xs ds → AllZip (EntryReads contents staged f) xs es → ds ≡ es
  array_one sound [] [] [] p q = refl
  array_one sound [] (d ∷ ds) es p q = absurd p
  array_one sound [] [] (e ∷ es) p q = absurd q
  array_one sound (x ∷ xs) [] es p q = absurd p
  array_one sound (x ∷ xs) (d ∷ ds) [] p q = absurd q
  array_one sound (x ∷ xs) (d ∷ ds) (e ∷ es) p q = ap (λ z. z ∷ ds) (entry_one sound x d e p.0 q.0) ∙ ap (λ l. e ∷ l) (array_one sound xs ds es p.1 q.1)

module _ (contents : Contents) (m : Memory) (array : Array) (r : ReadsAs contents m array) where
  visible_entry : (x : ObjectFact) → Contains (objects (facts m.tables) m.next.object) x → (e : Entry) × (entry array x.name ≡ Some e) × EntryReads contents m.staged (facts m.tables) x e
  visible_entry x c = entry_of contents m.staged (facts m.tables) x (objects (facts m.tables) m.next.object) array r.reads one c
    where
      one : (y : ObjectFact) → Contains (objects (facts m.tables) m.next.object) y → y.name ≡ x.name → y ≡ x
      one y d same = elim (pairs_of (λ a b. a.name ≢ b.name) (objects (facts m.tables) m.next.object) y x r.sound.objects.names d c) [
        | inl is ↦ is
        | inr either ↦ elim either [ inl ne ↦ absurd (ne same) | inr ne ↦ absurd (ne (sym same)) ]
      ]

pub entries_read : EntriesRead
entries_read contents m array r = record {
  count = zip_long (EntryReads contents m.staged (facts m.tables)) (objects (facts m.tables) m.next.object) array r.reads;
  each = λ x c.
      let w = visible_entry contents m array r x c in
      record {
        there = ap (λ o. is_some o) w.1;
        kind = ap (λ o. option_map_or (λ (e : Entry). e.snapshot) o false) w.1 ∙ w.2.snapshot;
        size = ap (λ o. length (option_map_or (λ (e : Entry). e.sectors) o [])) w.1 ∙ w.2.size;
      };
  all = λ name is. object_of contents m.staged (facts m.tables) name (objects (facts m.tables) m.next.object) array r.reads is;
}

pub sectors_read : SectorsRead
sectors_read contents m array x place target sector r c l reads read =
    let w = visible_entry contents m array r x c in
    sector_one contents m.staged (facts m.tables) x.medium.0 place target sector (slice_index_or w.0.sectors place []) r.sound.mediums reads read (w.2.sectors place l)
    ∙ sym (ap (λ o. slice_index_or (option_map_or (λ (e : Entry). e.sectors) o []) place []) w.1)

pub reads_as_one : ReadsAsOne
reads_as_one contents m array other r q = array_one contents m.staged (facts m.tables) r.sound.mediums (objects (facts m.tables) m.next.object) array other r.reads q.reads
