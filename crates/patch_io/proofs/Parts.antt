-- The facts of a patch, read segment by segment.
use Rattle.patch_io.proofs.Prelude.{◌≡◌, inl, inr, ℕ, zero, suc, ◌+◌, ◌-◌, ◌*◌, ◌/◌, ◌%◌, ◌<◌, ◌≤◌, min, Bool, List, [], ◌∷◌, ◌++◌, length, map, take, drop, get_or, refl, sym, subst, ◌∙◌, ap, arith, append_assoc, length-append, Some, slice_get, take-append-drop, length-take-le, AllByRecursion, slice_get_within, get_or_append_left, View, table_tag, any_key, Device, Place, AnyFact, AscendFrom, IsSegment, IsPatch, Patch, PatchSegment, Decodes, IsFact, SectorStands, StripesStand, PatchStands, FactStands, pages, places_of_part, pages_in_part, all_append, all_append_left, FactIsShown, PatchIsShown, IsShownAt, Shelved, Continues, ArePlaces, place_of, drive_of, OthersStayOf, bytes_of, ShowsPresent, shows_first, shows_then, AreInOrder, fact_text, StandsAt, StandIn, ReadsPart, AreFactsOf, ShowsNoOtherOfPatch, ShowsPatch, StripesStandOf, IsPartFault, IsFaultOf, OthersStayOfPatch, PatchFault, Bad, Lost, Memory}
use Rattle.std.specs.Int.{div_ceil}
use Rattle.boot_codec.specs.Record as record_of
use Rattle.patch_io.proofs.Lists.{get_either, get_taken, get_behind, all_at, some_at}

-- ---- places of a lawful patch

-- a place of an ascending list is a unit of the shelf, on that slot or a greater one
place_from : (slots units least : ℕ) (ps : List Place) (k : ℕ) → AscendFrom slots units least ps → k < length ps → (least ≤ (place_of ps k).slot) × record_of.IsPlace slots units (place_of ps k)
place_from slots units least [] k ascend lt = absurd (omega (arith, lt))
place_from slots units least (p ∷ ps) zero ascend lt = (ascend.0, ascend.1)
place_from slots units least (p ∷ ps) (suc k) ascend lt =
    let x = place_from slots units (p.slot + 1) ps k ascend.2 (omega (arith, lt)) in
    (omega (arith, x.0, ascend.0), x.1)

slots_ascend : (slots units least : ℕ) (ps : List Place) (j k : ℕ) → AscendFrom slots units least ps → j < k → k < length ps → (place_of ps j).slot < (place_of ps k).slot
slots_ascend slots units least [] j k ascend less lt = absurd (omega (arith, lt))
slots_ascend slots units least (p ∷ ps) j zero ascend less lt = absurd (omega (arith, less))
slots_ascend slots units least (p ∷ ps) zero (suc k) ascend less lt = let x = place_from slots units (p.slot + 1) ps k ascend.2 (omega (arith, lt)) in omega (arith, x.0)
slots_ascend slots units least (p ∷ ps) (suc j) (suc k) ascend less lt = slots_ascend slots units (p.slot + 1) ps j k ascend.2 (omega (arith, less)) (omega (arith, lt))

pub segment_places : (shelf : Shelved) (s : PatchSegment) → IsSegment shelf.drives shelf.units s → ArePlaces shelf s.places
segment_places shelf s is = record {
  nine = is.nine;
  each = λ k lt. let x = place_from shelf.drives shelf.units 0 s.places k is.places (omega (arith, lt, is.nine)) in record { slot = x.1.slot; data_unit = x.1.data_unit; unit = x.1.unit };
  ascending = λ j k less lt. slots_ascend shelf.drives shelf.units 0 s.places j k is.places less (omega (arith, lt, is.nine));
}

-- the units of a segment of the list
pub places_are : (p : Patch) (part : ℕ) (s : PatchSegment) → slice_get p.segments part ≡ Some s → places_of_part p part ≡ s.places
places_are p part s at = places_in p.segments part s at
  where
    places_in : (ss : List PatchSegment) (k : ℕ) (x : PatchSegment) → slice_get ss k ≡ Some x → get_or (map (λ s. s.places) ss) k [] ≡ x.places
    places_in [] k x is = absurd (cc)
    places_in (y ∷ ss) zero x is = let e : y ≡ x = (cc) in ap (λ (s : PatchSegment). s.places) e
    places_in (y ∷ ss) (suc k) x is = places_in ss k x is

pub part_places : (shelf : Shelved) (p : Patch) (part : ℕ) (s : PatchSegment) → IsPatch shelf.drives shelf.units p → slice_get p.segments part ≡ Some s → ArePlaces shelf s.places
part_places shelf p part s is at = segment_places shelf s (all_at (IsSegment shelf.drives shelf.units) p.segments part s is.segments at)

-- the units of a part are units of the shelf
pub places_of : (shelf : Shelved) (p : Patch) (part : ℕ) → IsPatch shelf.drives shelf.units p → part < length p.segments → ArePlaces shelf (places_of_part p part)
places_of shelf p part lawful within =
    let s = some_at p.segments part within in
    subst (ArePlaces shelf) (sym (places_are p part s.0 s.1)) (part_places shelf p part s.0 lawful s.1)

-- the slot of a unit of the patch
pub slot_below : (a : Shelved) (p : Patch) (part shard slot : ℕ) → IsPatch a.drives a.units p → part < length p.segments → shard < 9 → slot ≡ (place_of (places_of_part p part) shard).slot → slot < a.drives
slot_below a p part shard slot lawful within lt is = let place = (places_of a p part lawful within).each shard lt in omega (arith, is, place.slot)

-- ---- facts of a segment as facts of the patch

module _ (view : View) (p : Patch) (part j : ℕ) (f : AnyFact) (lt : j < 6720) where
  in_part : (6720 * part + j) / 8 / 840 ≡ part
  in_part = omega (arith, lt)

  in_page : (6720 * part + j) / 8 % 840 ≡ j / 8
  in_page = omega (arith, lt, in_part)

  in_eighth : (6720 * part + j) % 8 ≡ j % 8
  in_eighth = omega (arith, lt)

  -- whatever is said of sectors
  pub in_patch : (At : List Place → ℕ → List ℕ → Type 0) → (sector : List ℕ) × At (places_of_part p part) (j / 8) sector × Decodes (fact_text sector (j % 8)) f
      → (sector : List ℕ) × At (places_of_part p ((6720 * part + j) / 8 / 840)) ((6720 * part + j) / 8 % 840) sector × Decodes (fact_text sector ((6720 * part + j) % 8)) f
  in_patch At x = (
    x.0,
    subst (λ (i : ℕ). At (places_of_part p i) ((6720 * part + j) / 8 % 840) x.0) (sym in_part) (subst (λ (i : ℕ). At (places_of_part p part) i x.0) (sym in_page) x.1),
    subst (λ (i : ℕ). Decodes (fact_text x.0 i) f) (sym in_eighth) x.2,
  )

  pub stands_in_part : FactStands view p (6720 * part + j) f → StandsAt view (places_of_part p part) j f
  stands_in_part x = (
    x.0,
    subst (λ (i : ℕ). SectorStands view (places_of_part p part) i x.0) in_page (subst (λ (i : ℕ). SectorStands view (places_of_part p i) ((6720 * part + j) / 8 % 840) x.0) in_part x.1),
    subst (λ (i : ℕ). Decodes (fact_text x.0 i) f) in_eighth x.2,
  )

-- the first of some facts that are in order are so
pub in_order_front : (tag : ℕ) (xs ys : List AnyFact) → AreInOrder tag (xs ++ ys) → AreInOrder tag xs
in_order_front tag xs ys order = record {
  table = all_append_left (λ (f : AnyFact). table_tag f ≡ tag) xs ys order.table;
  ascending = λ i j d less lt.
      let bound : j < length (xs ++ ys) = omega (arith, lt, length-append xs ys) in
      let pair : any_key (get_or (xs ++ ys) i d) < any_key (get_or (xs ++ ys) j d) = order.ascending i j d less bound in
      subst (λ (f : AnyFact). any_key f < any_key (get_or xs j d)) (get_or_append_left xs ys d i (omega (arith, less, lt)))
      (subst (λ (f : AnyFact). any_key (get_or (xs ++ ys) i d) < any_key f) (get_or_append_left xs ys d j lt) pair);
}

-- ---- from part to part

-- the facts so far are those of the patch's first parts
pub record Loads (a b : Shelved) (p : Patch) (missing : List Bool) (got : List AnyFact) : Type 0 where
  pub in_order : AreInOrder p.tag got
  pub each : AllByRecursion IsFact got
  pub stand : a.honest → (view : View) → ShowsPatch a p missing view → StripesStandOf view p → (k : ℕ) (f : AnyFact) → slice_get got k ≡ Some f → FactStands view p k f
  pub front : a.honest → (view : View) (facts : List AnyFact) → ShowsPatch a p missing view → PatchStands view p facts → (rest : List AnyFact) × (facts ≡ got ++ rest)
  pub shown : a.honest → (view : View) → ShowsNoOtherOfPatch a b p missing view → PatchIsShown view p got

pub loads_none : (a : Shelved) (p : Patch) (missing : List Bool) → Loads a a p missing []
loads_none a p missing = record {
  in_order = record { table = tt; ascending = λ i j d less lt. absurd (omega (arith, lt)) };
  each = tt;
  stand = λ h view shows stripes k f at. absurd (omega (arith, slice_get_within [] k f at));
  front = λ h view facts shows stands. (facts, refl);
  shown = λ h view shows k f at. absurd (omega (arith, slice_get_within [] k f at));
}

module _ (a b : Shelved) (p : Patch) (missing : List Bool) (part count : ℕ) (got : List AnyFact) (still : a.honest → b.honest)
    (same : a.honest → (device : Device) → bytes_of b device ≡ bytes_of a device) (segments : length p.segments ≡ div_ceil p.facts 6720) (within : part < length p.segments)
    (so_far : length got ≡ min p.facts (6720 * part)) (counts : count ≡ min (p.facts - length got) 6720) (loads : Loads a b p missing got) where
  before : length got ≡ 6720 * part
  before = omega (arith, so_far, within, segments)

  shown : a.honest → (view : View) → ShowsPatch a p missing view → ShowsPresent b (places_of_part p part) missing view
  shown h view shows shard lt is = shows part within shard lt is ∙ ap Some (sym (same h (drive_of (places_of_part p part) shard)))

  pages_are : pages count ≡ pages_in_part p.facts part
  pages_are = omega (arith, counts, before, within, segments)

  -- of facts that stand as the patch, those of this part
  others_of : a.honest → (view : View) (facts : List AnyFact) → ShowsPatch a p missing view → PatchStands view p facts
      → (others rest : List AnyFact) × (facts ≡ got ++ (others ++ rest)) × (length others ≡ count) × StandIn view (places_of_part p part) others
  others_of h view facts shows stands =
      let more = loads.front h view facts shows stands in
      let whole : facts ≡ got ++ (take count more.0 ++ drop count more.0) = more.1 ∙ ap (λ (l : List AnyFact). got ++ l) (sym (take-append-drop count more.0)) in
      let sizes : length more.0 ≡ p.facts - length got = omega (arith, length-append got more.0, ap length more.1, stands.count) in
      let long : length (take count more.0) ≡ count = length-take-le count more.0 (omega (arith, sizes, counts)) in (
        take count more.0,
        drop count more.0,
        whole,
        long,
        λ j f at.
            let lt : j < 6720 = omega (arith, slice_get_within (take count more.0) j f at, long, counts) in
            let here : slice_get facts (length got + j) ≡ Some f = ap (λ (l : List AnyFact). slice_get l (length got + j)) more.1 ∙ get_behind got more.0 j ∙ get_taken count more.0 j f at in
            let there : slice_get facts (6720 * part + j) ≡ Some f = subst (λ (n : ℕ). slice_get facts (n + j) ≡ Some f) before here in
            stands_in_part view p part j f lt (stands.each (6720 * part + j) f there),
      )

  pub loads_more : (c : Shelved) → Continues a b → Continues b c → (new : List AnyFact) → ReadsPart b c (places_of_part p part) missing p.tag count got new → Loads a c p missing new
  loads_more c ab bc new reads = record {
    in_order = reads.in_order;
    each = subst (AllByRecursion IsFact) (sym reads.behind) (all_append IsFact got reads.added loads.each reads.each);
    stand = λ h view shows stripes k f at. elim (get_either got reads.added k f (sym (ap (λ (l : List AnyFact). slice_get l k) reads.behind) ∙ at)) [
      | inl early ↦ loads.stand h view shows stripes k f early
      | inr (j, is, here) ↦
          let lt : j < 6720 = omega (arith, slice_get_within reads.added j f here, reads.size, counts) in
          let placed : StripesStand view (places_of_part p part) (pages count) = subst (λ (n : ℕ). StripesStand view (places_of_part p part) n) (sym pages_are) (stripes part within) in
          let stands = reads.stand (still h) view (shown h view shows) placed j f here in
          subst (λ (n : ℕ). FactStands view p n f) (sym (is ∙ ap (λ (n : ℕ). n + j) before)) (in_patch view p part j f lt (SectorStands view) stands)
    ];
    front = λ h view facts shows stands.
        let x = others_of h view facts shows stands in
        let e : x.0 ≡ reads.added = reads.no_other (still h) view x.0 (shown h view shows) x.3 x.4 in
        (x.1, x.2 ∙ ap (λ (l : List AnyFact). got ++ (l ++ x.1)) e ∙ sym (append_assoc got reads.added x.1) ∙ ap (λ (l : List AnyFact). l ++ x.1) (sym reads.behind));
    shown = λ h view shows k f at. elim (get_either got reads.added k f (sym (ap (λ (l : List AnyFact). slice_get l k) reads.behind) ∙ at)) [
      | inl early ↦ loads.shown h view (λ other lt. shows_first a b c (places_of_part p other) missing view bc (shows other lt)) k f early
      | inr (j, is, here) ↦
          let lt : j < 6720 = omega (arith, slice_get_within reads.added j f here, reads.size, counts) in
          let read = reads.shown (still h) view (shows_then a b c (places_of_part p part) missing view bc (shows part within) ab (same h)) j f here in
          subst (λ (n : ℕ). FactIsShown view p n f) (sym (is ∙ ap (λ (n : ℕ). n + j) before)) (in_patch view p part j f lt (IsShownAt view) read)
    ];
  }

  pub size_more : (c : Shelved) (new : List AnyFact) → ReadsPart b c (places_of_part p part) missing p.tag count got new → length new ≡ min p.facts (6720 * (part + 1))
  size_more c new reads =
      let sizes : length new ≡ length got + count = ap length reads.behind ∙ length-append got reads.added ∙ ap (λ (n : ℕ). length got + n) reads.size in
      omega (arith, sizes, counts, before, within, segments)

  -- no facts stand as the patch where none stand as this part
  pub none_stand : a.honest → ((view : View) (added : List AnyFact) → ShowsPresent b (places_of_part p part) missing view → length added ≡ count → StandIn view (places_of_part p part) added → AreInOrder p.tag (got ++ added) → ⊥)
      → (view : View) (facts : List AnyFact) → ShowsPatch a p missing view → PatchStands view p facts → ⊥
  none_stand h none view facts shows stands =
      let x = others_of h view facts shows stands in
      let order : AreInOrder p.tag (got ++ (x.0 ++ x.1)) = subst (AreInOrder p.tag) x.2 (record { table = stands.table; ascending = stands.ascending }) in
      none view x.0 (shown h view shows) x.3 x.4 (in_order_front p.tag (got ++ x.0) x.1 (subst (AreInOrder p.tag) (sym (append_assoc got x.0 x.1)) order))

-- whatever stands, as many facts were decoded
pub facts_loaded : (a b : Shelved) (p : Patch) (missing : List Bool) (part : ℕ) (got : List AnyFact) → length p.segments ≡ div_ceil p.facts 6720 → length p.segments ≤ part → length got ≡ min p.facts (6720 * part) → Loads a b p missing got → AreFactsOf p got
facts_loaded a b p missing part got segments end so_far loads = record {
  count = omega (arith, so_far, end, segments);
  each = loads.each;
  in_order = loads.in_order;
}

-- all facts of the patch
pub patch_loaded : (a b : Shelved) (p : Patch) (missing : List Bool) (part : ℕ) (got : List AnyFact) → length p.segments ≡ div_ceil p.facts 6720 → length p.segments ≤ part → length got ≡ min p.facts (6720 * part) → Loads a b p missing got
    → a.honest → (view : View) → ShowsPatch a p missing view → StripesStandOf view p → PatchStands view p got
patch_loaded a b p missing part got segments end so_far loads h view shows stripes = record {
  count = omega (arith, so_far, end, segments);
  each = loads.stand h view shows stripes;
  table = loads.in_order.table;
  ascending = loads.in_order.ascending;
  stripes = stripes;
}

-- ---- a segment of the list as a part of the patch

pub reads_as : (b c : Shelved) (p : Patch) (missing : List Bool) (part count tag : ℕ) (s : PatchSegment) (old new : List AnyFact) → slice_get p.segments part ≡ Some s → p.tag ≡ tag → ReadsPart b c s.places missing tag count old new
    → ReadsPart b c (places_of_part p part) missing p.tag count old new
reads_as b c p missing part count tag s old new at is reads =
    subst (λ (t : ℕ). ReadsPart b c (places_of_part p part) missing t count old new) (sym is) (subst (λ (ps : List Place). ReadsPart b c ps missing tag count old new) (sym (places_are p part s at)) reads)

fault_as : (b c : Shelved) (p : Patch) (missing : List Bool) (part count tag : ℕ) (s : PatchSegment) (old : List AnyFact) (fault : PatchFault) → slice_get p.segments part ≡ Some s → p.tag ≡ tag → IsPartFault b c s.places missing tag count old fault
    → IsPartFault b c (places_of_part p part) missing p.tag count old fault
fault_as b c p missing part count tag s old fault at is faults =
    subst (λ (t : ℕ). IsPartFault b c (places_of_part p part) missing t count old fault) (sym is) (subst (λ (ps : List Place). IsPartFault b c ps missing tag count old fault) (sym (places_are p part s at)) faults)

-- the fault of a part is one of the patch
pub load_fault : (a b c : Shelved) (p : Patch) (missing : List Bool) (part count tag : ℕ) (s : PatchSegment) (got : List AnyFact) (fault : PatchFault) → Continues a b → (a.honest → (device : Device) → bytes_of b device ≡ bytes_of a device)
    → length p.segments ≡ div_ceil p.facts 6720 → part < length p.segments → length got ≡ min p.facts (6720 * part) → count ≡ min (p.facts - length got) 6720 → Loads a b p missing got
    → slice_get p.segments part ≡ Some s → p.tag ≡ tag → IsPartFault b c s.places missing tag count got fault → IsFaultOf a c p missing fault
load_fault a b c p missing part count tag s got fault continues same segments within so_far counts loads at is faults = of fault (fault_as b c p missing part count tag s got fault at is faults)
  where
    of : (f : PatchFault) → IsPartFault b c (places_of_part p part) missing p.tag count got f → IsFaultOf a c p missing f
    of Bad none = λ h view facts shows. none_stand a b p missing part count got continues.honest same segments within so_far counts loads h (none (continues.honest h)) view facts shows
    of (Lost lost) are = (
      part,
      within,
      record {
        faults = λ device. (b.disk device).faults;
        since = continues.faults;
        three = are.three;
        no_other = are.no_other;
        cause = are.cause;
        reported = are.reported;
      },
    )
    of (Memory m) any = tt

-- a device with none of the patch's units stays
pub others_more : (a b c : Shelved) (p : Patch) (part : ℕ) (s : PatchSegment) → part < length p.segments → slice_get p.segments part ≡ Some s → OthersStayOfPatch p a b → OthersStayOf s.places b c → OthersStayOfPatch p a c
others_more a b c p part s within at so_far more device none =
    subst (λ (ps : List Place). OthersStayOf ps b c) (sym (places_are p part s at)) more device (λ on. none part on.0 within on.1 on.2) ∙ so_far device none

-- ---- places that are known to be units of the shelf

ascend_of : (slots units least : ℕ) (ps : List Place) → ((k : ℕ) → k < length ps → record_of.IsPlace slots units (place_of ps k)) → ((j k : ℕ) → j < k → k < length ps → (place_of ps j).slot < (place_of ps k).slot)
    → (0 < length ps → least ≤ (place_of ps 0).slot) → AscendFrom slots units least ps
ascend_of slots units least [] each rise from = tt
ascend_of slots units least (p ∷ ps) each rise from = (
  from (omega arith),
  each 0 (omega arith),
  ascend_of slots units (p.slot + 1) ps (λ k lt. each (suc k) (omega (arith, lt))) (λ j k less lt. rise (suc j) (suc k) (omega (arith, less)) (omega (arith, lt)))
      (λ some. let less : p.slot < (place_of ps 0).slot = rise 0 1 (omega arith) (omega (arith, some)) in omega (arith, less)),
)

-- units of the shelf are those of a lawful patch
pub lawful_places : (shelf : Shelved) (places : List Place) → ArePlaces shelf places → AscendFrom shelf.drives shelf.units 0 places
lawful_places shelf places are = ascend_of shelf.drives shelf.units 0 places
    (λ k lt. let x = are.each k (omega (arith, lt, are.nine)) in record { slot = x.slot; data_unit = x.data_unit; unit = x.unit })
    (λ j k less lt. are.ascending j k less (omega (arith, lt, are.nine)))
    (λ some. omega arith)
