-- What the visible objects read as once some of them moved and new ones were added.
use Rattle.command_spec.proofs.Prelude.{◌≡◌, ◌≢◌, ◌⊎◌, ℕ, zero, suc, ◌+◌, ◌<◌, ◌≤◌, List, [], ◌∷◌, ◌++◌, refl, sym, ap, ◌∙◌, arith, inl, inr, subst, map, slice_index_or, Option, Some, None, filter_map, Contains, map-id, AllZip, cons_option, range_with_len, slice_get-get_or, filter_map-append, Entry, sectors_of, object, objects, ObjectFact, MediumFact, not_both, same_some, here, there, either, nowhere, facts, Memory, Contents, TargetReads, SectorReads, EntryReads, FactsRead, ReadsAs, of_each, range_more, zip_append, zip_left, of_objects, in_objects, sectors_read, object_fits, within_size, Derived, moved, whole, IsDerived, WasVisible}
use Rattle.array_spec.specs.Prelude.{Array}
use Rattle.command_spec.proofs.Chains.{sector_stays, sector_through}

-- ---- items that stand for others, number by number

pub zip_ids : {X Y Z : Type 0} (R : X → Y → Type 0) (S : Z → Y → Type 0) (old : ℕ → Option X) (new : ℕ → Option Z) (g : Y → Y) (a n : ℕ)
    → ((id : ℕ) → id < a + n → old id ≡ None → new id ≡ None)
    → ((id : ℕ) (x : X) → id < a + n → old id ≡ Some x → (z : Z) × (new id ≡ Some z) × ((y : Y) → R x y → S z (g y)))
    → (ys : List Y) → AllZip R (filter_map old (range_with_len a n)) ys → AllZip S (filter_map new (range_with_len a n)) (map g ys)
zip_ids R S old new g a zero none some [] h = tt
zip_ids R S old new g a zero none some (y ∷ ys) h = absurd h
zip_ids {X} {Y} {Z} R S old new g a (suc n) none some ys h =
    one (old a) refl ys h
    (zip_ids R S old new g (a + 1) n (λ id l. none id (omega (arith, l))) (λ id x l. some id x (omega (arith, l))))
  where
    one : (o : Option X) → old a ≡ o → (ys : List Y) → AllZip R (cons_option o (filter_map old (range_with_len (a + 1) n))) ys
        → ((zs : List Y) → AllZip R (filter_map old (range_with_len (a + 1) n)) zs → AllZip S (filter_map new (range_with_len (a + 1) n)) (map g zs))
        → AllZip S (cons_option (new a) (filter_map new (range_with_len (a + 1) n))) (map g ys)
    one None e ys h rest = rw (none a (omega arith) e) (rest ys h)
    one (Some x) e [] h rest = absurd h
    one (Some x) e (y ∷ ys) h rest = let w = some a x (omega arith) e in rw w.1 (w.2 y h.0, rest ys h.1)

-- an item of the first list has one of the second at its place
pub zip_of : {X Y : Type 0} (R : X → Y → Type 0) (xs : List X) (ys : List Y) (x : X) → AllZip R xs ys → Contains xs x → (y : Y) × R x y
zip_of R xs ys x h c = let w = zip_left R xs ys c.0 x h (slice_get-get_or xs c.0 x c.1 ∙ ap (λ z. Some z) c.2) in (w.0, w.2)

-- an object has an id that isn't given yet, or stands for a visible one
abbrev pub IsNewOrVisible : Memory → ObjectFact → Type 0
IsNewOrVisible was y = (was.next.object ≤ y.object.0) ⊎ ((x : ObjectFact) × WasVisible was x × (y.object.0 ≡ x.object.0))

-- ---- short lists

pub of_none : {X : Type 0} (P : X → Type 0) (z : X) → Contains [] z → P z
of_none P z c = absurd (nowhere z c)

pub of_one : {X : Type 0} (P : X → Type 0) (a : X) → P a → (z : X) → Contains (a ∷ []) z → P z
of_one P a p z c = elim (either a z [] c) [ inl e ↦ subst P (sym e) p | inr rest ↦ absurd (nowhere z rest) ]

pub of_two : {X : Type 0} (P : X → Type 0) (a b : X) → P a → P b → (z : X) → Contains (a ∷ b ∷ []) z → P z
of_two P a b p q z c = elim (either a z (b ∷ []) c) [ inl e ↦ subst P (sym e) p | inr rest ↦ of_one P b q z rest ]

pub second : {X : Type 0} (a b : X) (xs : List X) → Contains (a ∷ b ∷ xs) b
second a b xs = there a b (b ∷ xs) (here b xs)

module _ (contents : Contents) (was now : Memory) (d : Derived) (array : Array) (r : ReadsAs contents was array) (derived : IsDerived (facts was.tables) (facts now.tables) d)
    (fresh : (q : MediumFact) → Contains d.ranges q → was.next.medium ≤ q.medium.0) where
  -- ---- objects that were visible

  pub old_medium : (x : ObjectFact) → WasVisible was x → x.medium.0 < was.next.medium
  old_medium x c =
      (of_each (λ (f : ObjectFact). (f.object.0 < was.next.object) × (f.medium.0 < was.next.medium)) (facts was.tables).objects x r.sound.ids.objects (object_fits was r.sound x c).0).1

  -- the sectors of the entry of its name are its own
  pub shown : (x : ObjectFact) (place : ℕ) → WasVisible was x → place < x.sectors
      → SectorReads contents was.staged (facts was.tables) x.medium.0 place (slice_index_or (sectors_of array x.name) place [])
  shown x place c l =
      let w = zip_of (EntryReads contents was.staged (facts was.tables)) (objects (facts was.tables) was.next.object) array x r.reads c in
      let s = w.1.sectors place l in
      (s.0, s.1, subst (λ (t : List ℕ). TargetReads contents was.staged s.0 t) (sectors_read contents was array x place s.0 (slice_index_or w.0.sectors place []) r c l s.1 s.2) s.2)

  -- ---- one object

  -- on the medium that it had
  pub stays : (x : ObjectFact) (e : Entry) → WasVisible was x → EntryReads contents was.staged (facts was.tables) x e → EntryReads contents was.staged (facts now.tables) x e
  stays x e c h = record {
    name = h.name;
    snapshot = h.snapshot;
    size = h.size;
    sectors = λ place l.
        let most = (within_size was r.sound).objects x c in
        sector_stays was now d r.sound derived fresh contents x.medium.0 place (slice_index_or e.sectors place []) (old_medium x c) (omega (arith, l, most)) (h.sectors place l);
  }

  -- through a medium that leads to all of the one that it had
  pub through : (x : ObjectFact) (medium number place : ℕ) (sector : List ℕ) → WasVisible was x → Contains d.ranges (whole medium x number) → place < x.sectors
      → SectorReads contents was.staged (facts was.tables) x.medium.0 place sector → SectorReads contents was.staged (facts now.tables) medium place sector
  through x medium number place sector c given l s =
      let most = (within_size was r.sound).objects x c in
      sector_through was now d r.sound derived fresh contents (whole medium x number) place sector given (omega arith) l (old_medium x c) (omega (arith, l, most))
      (subst (λ p. SectorReads contents was.staged (facts was.tables) x.medium.0 p sector) (omega arith) s)

  pub moves : (x : ObjectFact) (e : Entry) (medium number sequence : ℕ) → WasVisible was x → Contains d.ranges (whole medium x number)
      → EntryReads contents was.staged (facts was.tables) x e → EntryReads contents was.staged (facts now.tables) (moved x medium sequence) e
  moves x e medium number sequence c given h = record {
    name = h.name;
    snapshot = h.snapshot;
    size = h.size;
    sectors = λ place l. through x medium number place (slice_index_or e.sectors place []) c given l (h.sectors place l);
  }

  -- ---- all of them

  -- an entry is that of an object afterwards, as it was or with other sectors
  abbrev pub Follows : (Entry → Entry) → ℕ → ObjectFact → Type 0
  Follows g id x = (z : ObjectFact) × (object (facts now.tables) id ≡ Some z)
      × ((e : Entry) → EntryReads contents was.staged (facts was.tables) x e → EntryReads contents was.staged (facts now.tables) z (g e))

  -- an object that none of those that were added stands for
  pub same : (id : ℕ) (x : ObjectFact) → id < was.next.object → object (facts was.tables) id ≡ Some x → ((y : ObjectFact) → Contains d.objects y → y.object.0 ≢ id) → Follows (λ e. e) id x
  same id x l is other = (x, derived.kept id other ∙ is, λ e h. stays x e (in_objects (facts was.tables) was.next.object id x is l) h)

  -- what holds of a visible object holds of that of its id
  pub at_id : (g : Entry → Entry) (x : ObjectFact) → WasVisible was x → Follows g x.object.0 x
      → (id : ℕ) (z : ObjectFact) → id ≡ x.object.0 → object (facts was.tables) id ≡ Some z → Follows g id z
  at_id g x c its id z e said =
      let one : x ≡ z = same_some (object (facts was.tables) id) (ap (object (facts was.tables)) e ∙ (of_objects (facts was.tables) was.next.object x c).0) said in
      subst (λ i. Follows g i z) (sym e) (subst (λ o. Follows g x.object.0 o) one its)

  -- so are all that are added
  abbrev pub AreTold : Type 0
  AreTold = (y : ObjectFact) → Contains d.objects y → IsNewOrVisible was y

  none : AreTold → (id : ℕ) → id < was.next.object → object (facts was.tables) id ≡ None → object (facts now.tables) id ≡ None
  none told id l is = derived.kept id (λ y c e. elim (told y c) [
    | inl new ↦ omega (arith, new, e, l)
    | inr w ↦ not_both (object (facts was.tables) id) (ap (object (facts was.tables)) (sym e ∙ w.2) ∙ (of_objects (facts was.tables) was.next.object w.0 w.1).0) is
  ]) ∙ is

  pub all_follow : (g : Entry → Entry) → AreTold → ((id : ℕ) (x : ObjectFact) → id < was.next.object → object (facts was.tables) id ≡ Some x → Follows g id x)
      → FactsRead contents was.staged (facts now.tables) was.next.object (map g array)
  all_follow g told each =
      zip_ids (EntryReads contents was.staged (facts was.tables)) (EntryReads contents was.staged (facts now.tables)) (object (facts was.tables)) (object (facts now.tables)) g 0 was.next.object
      (λ id l. none told id (omega (arith, l))) (λ id x l. each id x (omega (arith, l))) array r.reads

  -- and one object more
  pub one_more : (x : ObjectFact) (e : Entry) → AreTold → ((id : ℕ) (y : ObjectFact) → id < was.next.object → object (facts was.tables) id ≡ Some y → Follows (λ z. z) id y)
      → object (facts now.tables) was.next.object ≡ Some x → EntryReads contents was.staged (facts now.tables) x e
      → FactsRead contents was.staged (facts now.tables) (was.next.object + 1) (array ++ e ∷ [])
  one_more x e told each is h =
      subst (λ xs. AllZip (EntryReads contents was.staged (facts now.tables)) xs (array ++ e ∷ [])) (sym last)
      (zip_append (EntryReads contents was.staged (facts now.tables)) (objects (facts now.tables) was.next.object) array x e
      (subst (λ es. FactsRead contents was.staged (facts now.tables) was.next.object es) (map-id array) (all_follow (λ z. z) told each)) h)
    where
      last : objects (facts now.tables) (was.next.object + 1) ≡ objects (facts now.tables) was.next.object ++ x ∷ []
      last =
          let add : was.next.object + 1 ≡ suc was.next.object = omega arith in
          let at : 0 + was.next.object ≡ was.next.object = omega arith in
          ap (λ n. filter_map (object (facts now.tables)) (range_with_len 0 n)) add
          ∙ ap (λ l. filter_map (object (facts now.tables)) l) (range_more 0 was.next.object)
          ∙ filter_map-append (object (facts now.tables)) (range_with_len 0 was.next.object) ((0 + was.next.object) ∷ [])
          ∙ ap (λ o. objects (facts now.tables) was.next.object ++ cons_option o []) (ap (object (facts now.tables)) at ∙ is)
