-- The units of a record's segments, as the map is built from them.
use Rattle.free_space.proofs.Prelude.{ℕ, zero, suc, Bool, true, false, ◌||◌, ◌≡◌, ◌+◌, List, [], ◌∷◌, ◌++◌, map, replicate, refl, sym, ap, ◌∙◌, subst, arith, Option, Some, None, filter_map, AllByRecursion, list_any, flat_map, range_with_len, cons_option, map-append, flat_map-map, list_any-append, fold-append, Geometry, Facts, segment, segments, SegmentFact, Place, AscendFrom, IsSegment, IsBootRecord, Patch, PatchSegment, BootRecord, is_place, is_used, ArePlaces, named_segments, used_places, AreSegmentsSound, all_append, patches_are_lawful, Drive, fresh, with_unit, with_units, IsMapWith, IsMapOf, AreDataSegments, shelf_of, is_member, used_or_among, CanMark, SetsMembers, data_units, patches_units}
use Rattle.std.proofs.lemmas.Grind.{flat_map-append}
use Rattle.boot_codec.specs.Record as record_of
use Rattle.free_space.proofs.Units.{units_in, can_segments, marked_all, ascending_places, same_used, fresh_map, members_set}
use Rattle.free_space.proofs.Loops.{can_split}

-- ---- places on ascending slots

segments_ascend : (slots units : ℕ) (ss : List PatchSegment) → AllByRecursion (IsSegment slots units) ss → AllByRecursion (AscendFrom slots units 0) (map (λ s. s.places) ss)
segments_ascend slots units [] h = tt
segments_ascend slots units (s ∷ ss) h = (h.0.places, segments_ascend slots units ss h.1)

given_ascend : (shelf : Geometry) (get : ℕ → Option SegmentFact) → ((id : ℕ) (d : SegmentFact) → get id ≡ Some d → ArePlaces shelf d.places) → (a n : ℕ)
    → AllByRecursion (AscendFrom shelf.slots shelf.units 0) (map (λ d. d.places) (filter_map get (range_with_len a n)))
given_ascend shelf get h a zero = tt
given_ascend shelf get h a (suc n) = one (get a) refl (given_ascend shelf get h (a + 1) n)
  where
    one : (o : Option SegmentFact) → get a ≡ o → AllByRecursion (AscendFrom shelf.slots shelf.units 0) (map (λ d. d.places) (filter_map get (range_with_len (a + 1) n)))
        → AllByRecursion (AscendFrom shelf.slots shelf.units 0) (map (λ d. d.places) (cons_option o (filter_map get (range_with_len (a + 1) n))))
    one None e rest = rest
    one (Some d) e rest = ((h a d e).ascending, rest)

used_ascend : (boot : BootRecord) (facts : Facts) → IsBootRecord boot → AreSegmentsSound (shelf_of boot) boot facts → AllByRecursion (AscendFrom boot.slots boot.units 0) (used_places boot facts)
used_ascend boot facts lawful sound =
    all_append (AscendFrom boot.slots boot.units 0) (map (λ s. s.places) (named_segments boot)) (map (λ d. d.places) (segments facts boot.next.segment))
    (segments_ascend boot.slots boot.units (named_segments boot) (patches_are_lawful boot.slots boot.units boot.patches lawful.patches.each))
    (given_ascend (shelf_of boot) (segment facts) sound.places 0 boot.next.segment)

-- ---- the units in one list

named_units : (ps : List Patch) → units_in (map (λ s. s.places) (flat_map (λ p. p.segments) ps)) ≡ patches_units ps
named_units [] = refl
named_units (p ∷ ps) =
    let first : List (List Place) = map (λ s. s.places) p.segments in
    let others : List (List Place) = map (λ s. s.places) (flat_map (λ q. q.segments) ps) in
    let split : units_in (map (λ s. s.places) (flat_map (λ q. q.segments) (p ∷ ps))) ≡ units_in (first ++ others) = ap units_in (map-append (λ (s : PatchSegment). s.places) p.segments (flat_map (λ q. q.segments) ps)) in
    let parts : units_in (first ++ others) ≡ units_in first ++ units_in others = flat_map-append (λ (x : List Place). x) first others in
    let mine : units_in first ≡ flat_map (λ s. s.places) p.segments = flat_map-map (λ (x : List Place). x) (λ (s : PatchSegment). s.places) p.segments in
    split ∙ parts ∙ ap (λ xs. xs ++ units_in others) mine ∙ ap (λ ys. flat_map (λ s. s.places) p.segments ++ ys) (named_units ps)

units_are : (boot : BootRecord) (facts : Facts) (ds : List SegmentFact) → segments facts boot.next.segment ≡ ds → units_in (used_places boot facts) ≡ patches_units boot.patches ++ data_units ds
units_are boot facts ds e =
    let named : List (List Place) = map (λ s. s.places) (named_segments boot) in
    let data_places : List (List Place) = map (λ d. d.places) (segments facts boot.next.segment) in
    let parts : units_in (used_places boot facts) ≡ units_in named ++ units_in data_places = flat_map-append (λ (x : List Place). x) named data_places in
    let data_are : units_in data_places ≡ data_units (segments facts boot.next.segment) = flat_map-map (λ (x : List Place). x) (λ (d : SegmentFact). d.places) (segments facts boot.next.segment) in
    parts ∙ ap (λ xs. xs ++ units_in data_places) (named_units boot.patches) ∙ ap (λ ys. patches_units boot.patches ++ ys) (data_are ∙ ap data_units e)

any_in : (t : Place → Bool) (pss : List (List Place)) → list_any (list_any t) pss ≡ list_any t (units_in pss)
any_in t [] = refl
any_in t (ps ∷ pss) = ap (λ b. list_any t ps || b) (any_in t pss) ∙ sym (list_any-append t ps (units_in pss))

all_units : (slots units : ℕ) (pss : List (List Place)) → AllByRecursion (AscendFrom slots units 0) pss → AllByRecursion (record_of.IsPlace slots units) (units_in pss)
all_units slots units [] h = tt
all_units slots units (ps ∷ pss) h = all_append (record_of.IsPlace slots units) ps (units_in pss) (ascending_places slots units 0 ps h.0) (all_units slots units pss h.1)

-- ---- the map

-- the units of a map where none is used may all be made used
pub can_mark_tables : (boot : BootRecord) (ds : List SegmentFact) (member : ℕ → Bool) (drives : List Drive) → IsBootRecord boot → AreDataSegments boot ds → IsMapWith boot.slots boot.units member (λ slot unit. false) drives
    → CanMark drives (patches_units boot.patches ++ data_units ds)
can_mark_tables boot ds member drives lawful given h =
    subst (CanMark drives) (units_are boot given.tables ds given.visible)
    (can_segments boot.slots boot.units member (λ slot unit. false) drives (used_places boot given.tables) h (used_ascend boot given.tables lawful given.sound) given.sound.apart (λ ps c p d. refl))

-- they are units of the shelf
pub all_places : (boot : BootRecord) (ds : List SegmentFact) → IsBootRecord boot → AreDataSegments boot ds → AllByRecursion (record_of.IsPlace boot.slots boot.units) (patches_units boot.patches ++ data_units ds)
all_places boot ds lawful given =
    subst (AllByRecursion (record_of.IsPlace boot.slots boot.units)) (units_are boot given.tables ds given.visible) (all_units boot.slots boot.units (used_places boot given.tables) (used_ascend boot given.tables lawful given.sound))

-- and are the used ones then
pub map_is : (boot : BootRecord) (ds : List SegmentFact) (member : ℕ → Bool) (drives result : List Drive) → IsBootRecord boot → AreDataSegments boot ds → IsMapWith boot.slots boot.units member (λ slot unit. false) drives
    → result ≡ with_units false drives (patches_units boot.patches ++ data_units ds) → (facts : Facts) → segments facts boot.next.segment ≡ ds → IsMapWith boot.slots boot.units member (is_used boot facts) result
map_is boot ds member drives result lawful given h e facts same =
    let all : List Place = patches_units boot.patches ++ data_units ds in
    let marked : IsMapWith boot.slots boot.units member (used_or_among (λ slot unit. false) all) (with_units false drives all) =
    marked_all boot.slots boot.units member (λ slot unit. false) drives all h (all_places boot ds lawful given) in
    subst (IsMapWith boot.slots boot.units member (is_used boot facts)) (sym e)
    (same_used boot.slots boot.units member (used_or_among (λ slot unit. false) all) (is_used boot facts) (with_units false drives all)
    (λ slot unit. ap (list_any (is_place slot unit)) (sym (units_are boot facts ds same)) ∙ sym (any_in (is_place slot unit) (used_places boot facts))) marked)

-- ---- step by step

-- no unit is used where only the members are set
pub ready : (boot : BootRecord) (made set_up : List Drive) → IsBootRecord boot → made ≡ replicate boot.slots (record { member = true; free = fresh boot.units }) → SetsMembers made set_up boot.members.drives
    → IsMapWith boot.slots boot.units (is_member boot) (λ slot unit. false) set_up
ready boot made set_up lawful e is =
    members_set boot.slots boot.units (λ slot. true) (λ slot unit. false) made set_up boot.members.drives
    (subst (IsMapWith boot.slots boot.units (λ slot. true) (λ slot unit. false)) (sym e) (fresh_map boot.slots boot.units (omega (arith, lawful.units.0)))) is

pub can_mark_patches : (boot : BootRecord) (ds : List SegmentFact) (drives : List Drive) → IsBootRecord boot → AreDataSegments boot ds → IsMapWith boot.slots boot.units (is_member boot) (λ slot unit. false) drives
    → CanMark drives (patches_units boot.patches)
can_mark_patches boot ds drives lawful given h = (can_split drives (patches_units boot.patches) (data_units ds) (can_mark_tables boot ds (is_member boot) drives lawful given h)).0

pub can_mark_data : (boot : BootRecord) (ds : List SegmentFact) (drives patched : List Drive) → IsBootRecord boot → AreDataSegments boot ds → IsMapWith boot.slots boot.units (is_member boot) (λ slot unit. false) drives
    → patched ≡ with_units false drives (patches_units boot.patches) → CanMark patched (data_units ds)
can_mark_data boot ds drives patched lawful given h e =
    subst (λ (m : List Drive). CanMark m (data_units ds)) (sym e) (can_split drives (patches_units boot.patches) (data_units ds) (can_mark_tables boot ds (is_member boot) drives lawful given h)).1

pub map_done : (boot : BootRecord) (ds : List SegmentFact) (drives patched result : List Drive) → IsBootRecord boot → AreDataSegments boot ds → IsMapWith boot.slots boot.units (is_member boot) (λ slot unit. false) drives
    → patched ≡ with_units false drives (patches_units boot.patches) → result ≡ with_units false patched (data_units ds) → (facts : Facts) → segments facts boot.next.segment ≡ ds → IsMapOf boot facts result
map_done boot ds drives patched result lawful given h e f facts same =
    map_is boot ds (is_member boot) drives result lawful given h
    (f ∙ ap (λ (m : List Drive). with_units false m (data_units ds)) e ∙ sym (fold-append (with_unit false) drives (patches_units boot.patches) (data_units ds))) facts same
