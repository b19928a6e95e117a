-- With other targets in a span, the array reads with other sectors there.
use Rattle.std.proofs.lemmas.Bool.Decides.{nat_tests}
use Rattle.std.proofs.Common.{◌≡◌, ◌≢◌, ◌⊎◌, ℕ, zero, suc, ◌+◌, ◌-◌, ◌<◌, ◌≤◌, Bool, true, false, List, [], ◌∷◌, ◌++◌, length, refl, sym, ap, ◌∙◌, arith, inl, inr, subst, get_or, take, drop, Option, Some, None, slice_get, slice_index_or, if◌then◌else◌, Contains, nat_le, nat_lt, bytes_eq, filter_map, eqb-true, eq-eqb, le-leb, lt-ltb, le-ltb}
use Rattle.std.specs.List.{AllZip, cons_option, range_with_len, find}
use Rattle.std.specs.Option.{option_map_or}
use Rattle.std.proofs.lemmas.Slice.Eq.{bytes_eq-Decides}
use Rattle.std.proofs.lemmas.Bool.{cases_lt, both_ways}
use Rattle.std.proofs.lemmas.Option.{slice_get_within, slice_get-get_or}
use Rattle.std.proofs.lemmas.List.{get_or_append_left, get_or-append-add, get_or-append_right, get_or-drop, get_or-take, length-take-le, length-append, length-drop, append_assoc}
use Rattle.array_spec.specs.Prelude.{Entry, Array, is_named, entry, sectors_of, with_span, with_sectors, Facts, objects, object, address, Reads, here, below, unwritten, OBJECT_SECTORS, Target, Stored, Zero, ObjectFact}
use Rattle.memory_spec.specs.Memory.{Contents, PlaceReads, TargetReads, SectorReads, EntryReads, FactsRead}
use Rattle.memory_spec.specs.Adding.{overlaid, IsOverlaid, IsOwnMedium, AreWithinSize, OverwriteReads}
use Rattle.memory_spec.specs.lemmas.Lists.{zip_at, zip_long, of_filter_map, of_range}
use Rattle.memory_spec.specs.lemmas.Objects.{object_is, in_objects, same_objects}
use Rattle.memory_spec.specs.lemmas.Moved.{over_kept, over_before}

-- ---- sectors with others in the place of some

shape : (lba : ℕ) (new old : List (List ℕ)) → with_span lba new old ≡ take lba old ++ (new ++ drop (lba + length new) old)
shape lba new old = append_assoc (take lba old) new (drop (lba + length new) old)

pub span_in : (lba j : ℕ) (new old : List (List ℕ)) → lba ≤ length old → j < length new → get_or (with_span lba new old) (lba + j) [] ≡ get_or new j []
span_in lba j new old within l = grind (arith, nat_tests, length-take-le, get_or-append-add, shape, get_or_append_left)

pub span_before : (lba place : ℕ) (new old : List (List ℕ)) → lba ≤ length old → place < lba → get_or (with_span lba new old) place [] ≡ get_or old place []
span_before lba place new old within l = grind (arith, nat_tests, length-take-le, shape, get_or_append_left, get_or-take)

pub span_after : (lba place : ℕ) (new old : List (List ℕ)) → lba ≤ length old → lba + length new ≤ place → get_or (with_span lba new old) place [] ≡ get_or old place []
span_after lba place new old within l = grind (arith, nat_tests, length-take-le, shape, get_or-append_right, get_or-drop)

pub span_long : (lba : ℕ) (new old : List (List ℕ)) → lba + length new ≤ length old → length (with_span lba new old) ≡ length old
span_long lba new old within = grind (arith, nat_tests, length-append, length-take-le, length-drop, shape)

-- ---- more staged sectors

get-append : {X : Type 0} (xs ys : List X) (i : ℕ) (x : X) → slice_get xs i ≡ Some x → slice_get (xs ++ ys) i ≡ Some x
get-append xs ys i x e =
    let l : i < length xs = slice_get_within xs i x e in
    slice_get-get_or (xs ++ ys) i x (omega (arith, l, length-append xs ys)) ∙ ap (λ z. Some z) (get_or_append_left xs ys x i l) ∙ sym (slice_get-get_or xs i x l) ∙ e

place_kept : (contents : Contents) (staged more : List (List ℕ)) (segment index : ℕ) (sector : List ℕ) → PlaceReads contents staged segment index sector → PlaceReads contents (staged ++ more) segment index sector
place_kept contents staged more zero index sector e = get-append staged more index sector e
place_kept contents staged more (suc s) index sector e = e

target_kept : (contents : Contents) (staged more : List (List ℕ)) (t : Target) (sector : List ℕ) → TargetReads contents staged t sector → TargetReads contents (staged ++ more) t sector
target_kept contents staged more (Stored at) sector e = place_kept contents staged more at.segment.0 at.index sector e
target_kept contents staged more Zero sector e = e

-- ---- where the addresses differ

pub overlaid_out : (medium lba : ℕ) (targets : List Target) (before : ℕ → ℕ → Option Target) (m x : ℕ) → (m ≡ medium → (x < lba) ⊎ (lba + length targets ≤ x))
    → overlaid medium lba targets before m x ≡ before m x
overlaid_out medium lba targets before m x out = grind (arith, nat_tests, nat_le, nat_lt, slice_get, eqb-true, le-ltb, le-leb)

pub overlaid_in : (medium lba : ℕ) (targets : List Target) (before : ℕ → ℕ → Option Target) (x : ℕ) → lba ≤ x → x < lba + length targets
    → overlaid medium lba targets before medium x ≡ slice_get targets (x - lba)
overlaid_in medium lba targets before x low high = rw (eq-eqb medium medium refl, le-leb lba x low, lt-ltb x (lba + length targets) high) refl

module _ (old new : Facts) (next : ℕ) (name : List ℕ) (medium lba : ℕ) (targets : List Target) (over : IsOverlaid old new medium lba targets) (size : AreWithinSize old next)
    (own : IsOwnMedium old next name medium lba (length targets)) where
  -- all else is read as it was
  reads_kept : (m x : ℕ) (t : Target) → Reads old m x t → x < OBJECT_SECTORS → (m ≡ medium → (x < lba) ⊎ (lba + length targets ≤ x)) → Reads new m x t
  reads_kept m x t (here a) l out = here (over.addresses m x l ∙ overlaid_out medium lba targets (address old) m x out ∙ a)
  reads_kept m x t (below r a o inner) l out =
      below r (over.addresses m x l ∙ overlaid_out medium lba targets (address old) m x out ∙ a) (over_kept old new over.ranges m x r o)
      (reads_kept r.target.0 (r.target_start + (x - r.start)) t inner
      (let most = size.ranges m r.start r o.there in omega (arith, most, o.from_start, o.below_end)) (λ e. absurd (own.frozen m r.start r o.there e)))
  reads_kept m x t (unwritten a n) l out =
      unwritten (over.addresses m x l ∙ overlaid_out medium lba targets (address old) m x out ∙ a) (λ r o. n r (over_before old new over.ranges m x r o))

  module _ (contents : Contents) (staged more sectors : List (List ℕ)) (given : AllZip (TargetReads contents (staged ++ more)) targets sectors) where
    sector_kept : (m x : ℕ) (sector : List ℕ) → SectorReads contents staged old m x sector → x < OBJECT_SECTORS → (m ≡ medium → (x < lba) ⊎ (lba + length targets ≤ x))
        → SectorReads contents (staged ++ more) new m x sector
    sector_kept m x sector s l out = (s.0, reads_kept m x s.0 s.1 l out, target_kept contents staged more s.0 sector s.2)

    entry_kept : (x : ObjectFact) (e : Entry) → x.sectors ≤ OBJECT_SECTORS → x.medium.0 ≢ medium → EntryReads contents staged old x e → EntryReads contents (staged ++ more) new x e
    entry_kept x e small ne r = record {
      name = r.name;
      snapshot = r.snapshot;
      size = r.size;
      sectors = λ place l. sector_kept x.medium.0 place (slice_index_or e.sectors place []) (r.sectors place l) (omega (arith, l, small)) (λ is. absurd (ne is));
    }

    -- a sector of the span has its new target
    sector_new : (place : ℕ) → place < OBJECT_SECTORS → lba ≤ place → place < lba + length targets → (sector : List ℕ) → slice_get sectors (place - lba) ≡ Some sector
        → SectorReads contents (staged ++ more) new medium place sector
    sector_new place l low high sector e =
        let w = zip_at (TargetReads contents (staged ++ more)) targets sectors (place - lba) sector given e in
        (w.0, here (over.addresses medium place l ∙ overlaid_in medium lba targets (address old) place low high ∙ w.1), w.2)

    entry_written : (x : ObjectFact) (e : Entry) → x.sectors ≤ OBJECT_SECTORS → x.medium.0 ≡ medium → lba + length targets ≤ x.sectors → EntryReads contents staged old x e
        → EntryReads contents (staged ++ more) new x (record e { sectors = with_span lba sectors e.sectors })
    entry_written x e small is fits r = record {
      name = r.name;
      snapshot = r.snapshot;
      size = span_long lba sectors e.sectors (omega (arith, fits, long, size2)) ∙ r.size;
      sectors = at;
    }
      where
        long : length targets ≡ length sectors
        long = zip_long (TargetReads contents (staged ++ more)) targets sectors given

        size2 : length e.sectors ≡ x.sectors
        size2 = r.size

        at : (place : ℕ) → place < x.sectors → SectorReads contents (staged ++ more) new x.medium.0 place (slice_index_or (with_span lba sectors e.sectors) place [])
        at place l = elim (cases_lt place lba) [
          | inl before ↦ subst (λ (s : List ℕ). SectorReads contents (staged ++ more) new x.medium.0 place s) (sym (span_before lba place sectors e.sectors (omega (arith, fits, size2)) before))
              (sector_kept x.medium.0 place (slice_index_or e.sectors place []) (r.sectors place l) (omega (arith, l, small)) (λ m. inl before))
          | inr from ↦ elim (cases_lt place (lba + length targets)) [
            | inr after ↦ subst (λ (s : List ℕ). SectorReads contents (staged ++ more) new x.medium.0 place s) (sym (span_after lba place sectors e.sectors (omega (arith, fits, size2)) (omega (arith, after, long))))
                (sector_kept x.medium.0 place (slice_index_or e.sectors place []) (r.sectors place l) (omega (arith, l, small)) (λ m. inr after))
            | inl inside ↦
                let j : lba + (place - lba) ≡ place = omega (arith, from) in
                let less : place - lba < length sectors = omega (arith, from, inside, long) in
                let value : get_or (with_span lba sectors e.sectors) place [] ≡ get_or sectors (place - lba) [] =
                ap (λ n. get_or (with_span lba sectors e.sectors) n []) (sym j) ∙ span_in lba (place - lba) sectors e.sectors (omega (arith, fits, size2)) less in
                subst (λ (s : List ℕ). SectorReads contents (staged ++ more) new x.medium.0 place s) (sym value)
                (subst (λ (m : ℕ). SectorReads contents (staged ++ more) new m place (get_or sectors (place - lba) [])) (sym is)
                (sector_new place (omega (arith, l, small)) from inside (get_or sectors (place - lba) []) (slice_get-get_or sectors (place - lba) [] less)))
          ]
        ]

    small_of : (x : ObjectFact) → Contains (objects old next) x → x.sectors ≤ OBJECT_SECTORS
    small_of x c = size.objects x c

    -- objects read as they did, where none of them has the medium
    rest_kept : (xs : List ObjectFact) (es : Array) → ((x : ObjectFact) → Contains xs x → (x.sectors ≤ OBJECT_SECTORS) × (x.medium.0 ≢ medium))
        → AllZip (EntryReads contents staged old) xs es → AllZip (EntryReads contents (staged ++ more) new) xs es
    rest_kept [] [] h r = tt
    rest_kept [] (e ∷ es) h r = r
    rest_kept (x ∷ xs) [] h r = r
    rest_kept (x ∷ xs) (e ∷ es) h r =
        let k = h x (0, omega arith, refl) in
        (entry_kept x e k.0 k.1 r.0, rest_kept xs es (λ y c. h y (suc c.0, omega (arith, c.1), c.2)) r.1)

    -- the entries with other sectors
    abbrev Replaced : Array → Array
    Replaced es = with_sectors es name (with_span lba sectors (sectors_of es name))

    -- those from an id on
    abbrev From : ℕ → ℕ → List ObjectFact
    From a n = filter_map (object old) (range_with_len a n)

    Step : List ObjectFact → Type 0
    Step xs = (es : Array) → AllZip (EntryReads contents staged old) xs es → AllZip (EntryReads contents (staged ++ more) new) xs (Replaced es)

    step : (a n : ℕ) → a + suc n ≤ next → (o : Option ObjectFact) → object old a ≡ o → Step (From (a + 1) n) → Step (cons_option o (From (a + 1) n))
    unfolding Step
    step a n l None e rec es r = rec es r
    step a n l (Some x) e rec [] r = r
    step a n l (Some x) e rec (entry ∷ es) r = one (is_named name entry) refl
      where
        is_in : Contains (objects old next) x
        is_in = in_objects old next a x e (omega (arith, l))

        after : x ≡ own.owner → (y : ObjectFact) → Contains (From (a + 1) n) y → (y.sectors ≤ OBJECT_SECTORS) × (y.medium.0 ≢ medium)
        after is y c =
            let w = of_filter_map (object old) (range_with_len (a + 1) n) y c in
            let at = of_range (a + 1) n w.0 w.1 in
            let inside : Contains (objects old next) y = in_objects old next w.0 y w.2 (omega (arith, at.1, l)) in
            let first : x.object.0 ≡ a = (object_is old a x e).1 in
            let its : y.object.0 ≡ w.0 = (object_is old w.0 y w.2).1 in (
              small_of y inside,
              λ same.
                  let one_id : y.object.0 ≡ x.object.0 = ap (λ z. z.object.0) (own.alone y inside same ∙ sym is) in
                  omega (arith, one_id, first, its, at.0),
            )

        one : (b : Bool) → is_named name entry ≡ b → AllZip (EntryReads contents (staged ++ more) new) (x ∷ From (a + 1) n)
            (if b then record entry { sectors = with_span lba sectors (option_map_or (λ e. e.sectors) (if b then Some entry else find (is_named name) es) []) } ∷ es
            else entry ∷ with_sectors es name (with_span lba sectors (option_map_or (λ e. e.sectors) (if b then Some entry else find (is_named name) es) [])))
        one true t =
            let named : name ≡ entry.name = (bytes_eq-Decides name entry.name).0 t in
            let is : x ≡ own.owner = own.one_name x is_in (sym r.0.name ∙ sym named) in
            let medium_is : x.medium.0 ≡ medium = ap (λ y. y.medium.0) is ∙ own.its in
            let fits : lba + length targets ≤ x.sectors = subst (λ y. lba + length targets ≤ y.sectors) (sym is) own.fits in
            (entry_written x entry (small_of x is_in) medium_is fits r.0, rest_kept (From (a + 1) n) es (after is) r.1)
        one false t =
            let other : x.medium.0 ≢ medium = λ same. both_ways (bytes_eq name entry.name) t ((bytes_eq-Decides name entry.name).1 (sym (r.0.name ∙ ap (λ y. y.name) (own.alone x is_in same) ∙ own.named))) in
            (entry_kept x entry (small_of x is_in) other r.0, rec es r.1)

    entries_replaced : (a n : ℕ) → a + n ≤ next → Step (From a n)
    unfolding Step
    entries_replaced a zero l [] r = tt
    entries_replaced a zero l (e ∷ es) r = absurd r
    entries_replaced a (suc n) l es r = step a n l (object old a) refl (entries_replaced (a + 1) n (omega (arith, l))) es r

    pub all_replaced : (es : Array) → FactsRead contents staged old next es → FactsRead contents (staged ++ more) new next (Replaced es)
    unfolding Step
    all_replaced es r = rw (same_objects old new over.objects next) (entries_replaced 0 next (omega arith) es r)

pub overwrite_reads : OverwriteReads
overwrite_reads contents staged more old new next name medium lba targets sectors array own size given over read =
    let long : length targets ≡ length sectors = zip_long (TargetReads contents (staged ++ more)) targets sectors given in
    all_replaced old new next name medium lba targets over size (subst (λ n. IsOwnMedium old next name medium lba n) (sym long) own) contents staged more sectors given array read
