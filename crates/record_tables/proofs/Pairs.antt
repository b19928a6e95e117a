-- One patch in the place of two neighbours of its table, in a record and in memory.
use Rattle.record_tables.proofs.Prelude.{◌≡◌, ℕ, ◌+◌, ◌<◌, ◌≤◌, ◌==◌, nat_lt, true, not, List, [], ◌∷◌, ◌++◌, length, get_or, map, take, drop, refl, sym, ap, ◌∙◌, arith, inl, append-nil, append_assoc, length-append, count_by, Option, Some, None, lt-ltb, ltb-true, take-append-drop, drop-drop, drop_at, length-drop, length-take-le, AllByRecursion, AllZip, div_ceil_times, drop_more, drop-append-le, take-append-le, map-append, take-map, drop-map, length-map, sum_by-take-drop, sum_by-take-le, sum_by-filter_both, table_tag, tag_of, segment, segments, Table, Place, SegmentFact, AnyFact, FACTS_PER_SEGMENT, Patch, IsPatch, ByTagFrom, patch_segments, patch_facts, patches_of, Memory, Tables, patches, AreJoined, has_pair, pair_segments, place_in, IsNamed, all_append_left, all_append_right, of_each, zip_long, zip_weaker_in, merged_patches, pair_facts, patch_count, table_of, tables_with, IsMergedOf, new_patch, of_tag, segments_for, all_weaker, zip_at, zip_join, zip_parts}
use Rattle.std.proofs.Math.ListN.{get_or-map}
use Rattle.pur_base.specs.declared.request.Table.TheVariants as table
use Rattle.pur_base.specs.declared.facts.AnyFact.TheVariants as any
use Rattle.table_plan.specs.declared.merged.Merged.{Merged}
use Rattle.table_plan.specs.declared.merged.Merged.TheVariants as merged
use Rattle.record_tables.specs.Joined.{JoinedAreLawful, JoinedAreNamed, JoinedSegmentsAreSound, MergedIsNamed, PairsAreNamed}
use Rattle.record_tables.proofs.Tags.{HaveTag, behind_tag, cut, lower, lower_are, of_tag_has, of_tag_own, tags_from}
use Rattle.record_tables.proofs.Added.{new_each, patch_segments_are}
use Rattle.record_tables.proofs.Replaced.{joined, replaced_sum}
use Rattle.record_tables.proofs.Lawful.{new_lawful, new_room, replaced_lawful}
use Rattle.record_tables.proofs.Named.{AreTables, are_filled, new_named, tables_named, tables_of}
use Rattle.record_tables.proofs.Sound.{segments_sound}
use Rattle.record_tables.proofs.Visible.{same_below}

-- two neighbours of a list
module _ {A : Type 0} where
  -- stand behind the elements before them
  pub two_left : (xs : List A) (i : ℕ) (d : A) → i + 1 < length xs → drop i xs ≡ get_or xs i d ∷ get_or xs (i + 1) d ∷ drop (i + 2) xs
  two_left xs i d l = grind (arith, drop_more xs i d, drop_more xs (i + 1) d)

  -- they are told by their place
  two_are : (xs ys zs front back : List A) (i : ℕ) → i + 1 < length ys → xs ++ (ys ++ zs) ≡ front ++ back → length front ≡ length xs + i → take 2 (drop i ys) ≡ take 2 back
  two_are xs ys zs front back i l e at =
      grind (arith, take-append-le 2 (drop i ys) zs, drop-append-le i ys zs, drop_at xs (ys ++ zs) (length xs), drop-drop i (length xs) (xs ++ (ys ++ zs)), drop_at front back (length xs + i), length-drop i ys)

  -- others stand in their place, in a part of a list
  pub joined_in : (front xs back one : List A) (d : A) (i : ℕ) {was now : List A} {at : ℕ} → i + 1 < length xs → length one ≤ 1 → at ≡ length front + i → was ≡ front ++ (xs ++ back)
      → now ≡ front ++ ((take i xs ++ (one ++ drop (i + 2) xs)) ++ back) → AreJoined at was one now
  joined_in front xs back one d i l few at is_was is_now = record {
    front = front ++ take i xs;
    older = get_or xs i d;
    newer = get_or xs (i + 1) d;
    back = drop (i + 2) xs ++ back;
    place = grind (arith, at, length-append front (take i xs), length-take-le i xs);
    was_is = is_was ∙ ap (λ ys. front ++ (ys ++ back)) (sym (take-append-drop i xs) ∙ ap (λ r. take i xs ++ r) (two_left xs i d l)) ∙ simp append_assoc;
    few = few;
    now_is = is_now ∙ simp append_assoc;
  }

-- what is read past the end
pub no_patch : Patch
no_patch = record { tag = 0; facts = 0; segments = [] }

-- ---- of a table's patches in a record

-- their segments are no more than those of all patches
pub few_segments : (t : Table) (i : ℕ) (ps : List Patch) → pair_segments t i ps ≤ patch_segments ps
few_segments t i ps =
    let long : Patch → ℕ = λ p. length p.segments in
    let own : List Patch = of_tag (tag_of t) ps in
    omega (arith, sum_by-filter_both (λ p. p.tag == tag_of t) (λ p. not (p.tag == tag_of t)) (λ p. refl) long ps, sum_by-take-drop long own i, sum_by-take-le long (drop i own) 2)

-- what stands in the place of the pair stands in the place of those two
pub joined_pair : (t : Table) (i : ℕ) (was : List Patch) → ByTagFrom 1 was → has_pair t i was ≡ true → {added all : List Patch} → (j : AreJoined (place_in t i was) was added all) → take 2 (drop i (of_tag (tag_of t) was)) ≡ j.older ∷ j.newer ∷ []
joined_pair t i was up has j =
    let tag : ℕ = tag_of t in
    let v = cut 1 tag was up in
    let w = cut tag (tag + 1) v.rest v.others in
    let low = all_weaker _ (λ p. p.tag < tag) (λ p l. l.1) v.front v.own in
    let own = of_tag_own tag v.front w.front w.rest low (all_weaker _ (λ p. p.tag ≡ tag) (λ p l. omega (arith, l.0, l.1)) w.front w.own) (tags_from (tag + 1) (tag + 1) w.rest w.others (omega arith)) in
    let lower = ap (λ l. count_by (λ p. nat_lt p.tag tag) l) v.whole ∙ lower_are tag v.front v.rest low (tags_from tag tag v.rest v.others (omega arith)) in
    let whole = v.whole ∙ ap (λ l. v.front ++ l) w.whole in
    let mine : of_tag tag was ≡ w.front = ap (λ l. of_tag tag l) whole ∙ own in
    ap (λ l. take 2 (drop i l)) mine
    ∙ two_are v.front w.front w.rest j.front (j.older ∷ j.newer ∷ j.back) i (rw mine at (ltb-true (i + 1) (length (of_tag tag was)) has)) (sym whole ∙ j.was_is) (j.place ∙ ap (λ n. n + i) lower)

-- others of their tag in the place of two
by_tag_with : (least tag : ℕ) (front : List Patch) (p q : Patch) (back new : List Patch) → HaveTag tag (p ∷ q ∷ []) → HaveTag tag new → ByTagFrom least (front ++ (p ∷ q ∷ back)) → ByTagFrom least (front ++ (new ++ back))
by_tag_with least tag [] p q back new two one h = lower least tag (new ++ back) (omega (arith, h.0, two.0)) (behind_tag tag new back one (rw two.1.0 at h.1.1))
by_tag_with least tag (r ∷ front) p q back new two one h = (h.0, by_tag_with r.tag tag front p q back new two one h.1)

pub joined_are_lawful : JoinedAreLawful
joined_are_lawful slots units was all t i count first places lawful has j spelled room each ids no_more =
    let Tagged : Patch → Type 0 = λ p. p.tag ≡ tag_of t in
    let mine : List Patch = of_tag (tag_of t) was in
    let pair = joined_pair t i was lawful.by_tag has j in
    let tagged = all_append_right Tagged (take i mine) (drop i mine) (rw take-append-drop (of_tag_has (tag_of t) was)) in
    let two : HaveTag (tag_of t) (j.older ∷ j.newer ∷ []) = rw pair at (all_append_left Tagged (take 2 (drop i mine)) (drop 2 (drop i mine)) (rw take-append-drop tagged)) in
    let most = (all_append_right (IsPatch slots units) j.front (j.older ∷ j.newer ∷ j.back) (rw j.was_is at lawful.each)).0.tag in
    let sum : patch_segments all + pair_segments t i was ≡ patch_segments was + length places = omega (arith, ap patch_segments pair, replaced_sum (joined j) (λ (p : Patch). length p.segments), new_room (tag_of t) count first places (sym room)) in
    let up = by_tag_with 1 (tag_of t) j.front j.older j.newer j.back _ two (new_each Tagged (tag_of t) count first places (λ some. refl)) (rw j.was_is at lawful.by_tag) in
    let new = new_lawful slots units (tag_of t) count first places (omega (arith, most, two.0)) spelled (sym room) each (omega (arith, ids)) in
    (replaced_lawful slots units lawful (joined j) new (rw j.now_is up) (omega (arith, sum, no_more, lawful.room)), sum)

-- on new units its segments are sound
pub joined_segments_are_sound : JoinedSegmentsAreSound
joined_segments_are_sound boot old new t i count first units all next flushed lawful sound same room free least j segment_next patch_next =
    segments_sound boot old new _ (new_patch (tag_of t) count first units) all first [] units next flushed sound (joined j) (patch_segments_are (tag_of t) count first units (sym room)) free least patch_next
    (ap (λ n. map (λ (d : SegmentFact). d.places) (segments new n)) segment_next
    ∙ ap (λ l. map (λ (d : SegmentFact). d.places) l) (same_below (segment new) (segment old) 0 boot.next.segment (λ id low high. same id))
    ∙ sym (append-nil (map (λ (d : SegmentFact). d.places) (segments old boot.next.segment))))
    (λ id d e. inl (sym (same id) ∙ e))

-- ---- beside those of memory

-- a patch has segments for facts
abbrev Fit : Patch → List AnyFact → Type 0
Fit p facts = length p.segments ≡ segments_for (length facts)

-- of a table there are so many, and two neighbours have segments for so many facts
abbrev AreCounted : ℕ → List Patch → ℕ → ℕ → Type 0
AreCounted i mine count facts = (length mine ≡ count) × (i + 1 < length mine → (n : ℕ) → n ≤ facts → segments_for n ≤ patch_segments (take 2 (drop i mine)))

counted : {F : Type 0} (c : F → AnyFact) (ps : List (List F)) (i : ℕ) (mine : List Patch) → AllZip Fit mine (map (map c) ps) → AreCounted i mine (length ps) (length (get_or ps i []) + length (get_or ps (i + 1) []))
counted c ps i mine h =
    let one : (at : ℕ) → at < length mine → length (get_or mine at no_patch).segments ≡ segments_for (length (get_or ps at [])) = λ at l. zip_at Fit mine (map (map c) ps) at no_patch [] h l ∙ simp (get_or-map (map c) ps at [], length-map) in
    let two = λ (l : i + 1 < length mine). ap (λ qs. patch_segments (take 2 qs)) (two_left mine i no_patch l) in
    let takes = λ (n : ℕ). div_ceil_times n FACTS_PER_SEGMENT (omega arith) in
    (zip_long Fit mine (map (map c) ps) h ∙ length-map ps (map c), λ l n few. omega (arith, few, one i (omega (arith, l)), one (i + 1) l, two l, (takes n).1, (takes (length (get_or ps i []))).0, (takes (length (get_or ps (i + 1) []))).0))

all_counted : (m : Tables) (was : List Patch) (t : Table) (i : ℕ) → AreTables Fit 1 [] was (tables_of m) → AreCounted i (of_tag (tag_of t) was) (patch_count m t) (pair_facts m t i)
all_counted m was table.Object i h = counted any.Object m.objects.patches i (of_tag 1 was) h.1
all_counted m was table.Medium i h = counted any.Medium m.mediums.patches i (of_tag 2 was) h.2.1
all_counted m was table.Address i h = counted any.Address m.addresses.patches i (of_tag 3 was) h.2.2.1
all_counted m was table.Segment i h = counted any.Segment m.segments.patches i (of_tag 4 was) h.2.2.2.1
all_counted m was table.Elision i h = counted any.Elision m.elisions.patches i (of_tag 5 was) h.2.2.2.2.1

pub pairs_are_named : PairsAreNamed
pairs_are_named slots units was m t i lawful named =
    let fit = zip_weaker_in IsNamed Fit was (patches m.tables) (λ p facts c is. (of_each (IsPatch slots units) was p lawful.each c).room ∙ ap segments_for is.count) named in
    let v = all_counted m.tables was t i (tables_named Fit m.tables was (are_filled slots units was lawful) named fit) in
    let enough : has_pair t i was ≡ true → i + 1 < length (of_tag (tag_of t) was) = ltb-true (i + 1) (length (of_tag (tag_of t) was)) in (
      λ has. omega (arith, enough has, v.0),
      λ l. lt-ltb (i + 1) (length (of_tag (tag_of t) was)) (omega (arith, l, v.0)),
      λ n has few. let room = v.1 (enough has) n few in (room, omega (arith, room, few_segments t i was, lawful.room, (div_ceil_times n FACTS_PER_SEGMENT (omega arith)).0)),
    )

-- what holds of the elements of both, place by place, and of the new ones, holds of those that are left
pub zip_joined : {A B : Type 0} (R : A → B → Type 0) {at : ℕ} {was added all : List A} {olds new news : List B} → AllZip R was olds → AreJoined at was added all → AreJoined at olds new news → AllZip R added new → AllZip R all news
zip_joined R {added = added} {new = new} h j k one =
    let parts = zip_parts R j.front k.front (j.older ∷ j.newer ∷ j.back) (k.older ∷ k.newer ∷ k.back) (j.place ∙ sym k.place) (rw (sym j.was_is, sym k.was_is) h) in
    rw (j.now_is, k.now_is) (zip_join R j.front k.front (added ++ j.back) (new ++ k.back) parts.0 (zip_join R added new j.back k.back one parts.1.1.1))

-- a table's patches, between those of others
mapped_joined : {F : Type 0} (c : F → AnyFact) (ps : List (List F)) (patch : Option (List F)) (i : ℕ) (front back : List (List AnyFact)) {was now : List (List AnyFact)} {low : ℕ} → i + 1 < length ps → low ≡ length front → was ≡ front ++ (map (map c) ps ++ back)
    → now ≡ front ++ (map (map c) (take i ps ++ (patches_of patch ++ drop (i + 2) ps)) ++ back) → AreJoined (low + i) was (map (map c) (patches_of patch)) now
mapped_joined c ps patch i front back l low is_was is_now =
    joined_in front (map (map c) ps) back (map (map c) (patches_of patch)) [] i (omega (arith, l, length-map ps (map c))) (elim patch as (λ k. length (map (map c) (patches_of k)) ≤ 1) [ None ↦ omega arith | Some facts ↦ omega arith ])
    (ap (λ n. n + i) low) is_was (is_now ∙ simp (map-append, take-map, drop-map))

all_joined : (m : Memory) (i : ℕ) (was : List Patch) → AreTables IsNamed 1 [] was (tables_of m.tables) → (p : Merged) → IsMergedOf m i p → AreJoined (place_in (table_of p) i was) (patches m.tables) (merged_patches p) (patches (tables_with m.tables i p))
all_joined m i was v (merged.Object patch) h = mapped_joined any.Object m.tables.objects.patches patch i [] _ h.0 v.0 refl refl
all_joined m i was v (merged.Medium patch) h = mapped_joined any.Medium m.tables.mediums.patches patch i _ _ h.0 v.2.0 refl refl
all_joined m i was v (merged.Address patch) h =
    mapped_joined any.Address m.tables.addresses.patches patch i _ (map (map any.Segment) m.tables.segments.patches ++ map (map any.Elision) m.tables.elisions.patches) h.0 v.2.2.0 (simp append_assoc refl) (simp append_assoc refl)
all_joined m i was v (merged.Segment patch) h = mapped_joined any.Segment m.tables.segments.patches patch i _ (map (map any.Elision) m.tables.elisions.patches) h.0 v.2.2.2.0 (simp append_assoc refl) (simp append_assoc refl)
all_joined m i was v (merged.Elision patch) h = mapped_joined any.Elision m.tables.elisions.patches patch i _ [] h.0 v.2.2.2.2.0 (simp (append_assoc, append-nil) refl) (simp (append_assoc, append-nil) refl)

pub joined_are_named : JoinedAreNamed
joined_are_named slots units was m i p lawful named h =
    let both = all_joined m i was (tables_named IsNamed m.tables was (are_filled slots units was lawful) named named) p h in (both, λ added all one j. zip_joined IsNamed named j both one)

-- it is named by its count
one_named : {F : Type 0} (c : F → AnyFact) (tag : ℕ) → ((f : F) → table_tag (c f) ≡ tag) → (patch : Option (List F)) (first : ℕ) (units : List (List Place))
    → AllByRecursion (λ facts. 0 < length facts) (map (map c) (patches_of patch)) → AllZip IsNamed (new_patch tag (length (map c (patch_facts patch))) first units) (map (map c) (patches_of patch))
one_named c tag is None first units some = tt
one_named c tag is (Some facts) first units some = new_named c tag is (Some facts) (length (map c facts)) first units (omega (arith, length-map facts c, some.0)) (length-map facts c)

pub merged_is_named : MergedIsNamed
merged_is_named (merged.Object patch) first units some = one_named any.Object 1 (λ f. refl) patch first units some
merged_is_named (merged.Medium patch) first units some = one_named any.Medium 2 (λ f. refl) patch first units some
merged_is_named (merged.Address patch) first units some = one_named any.Address 3 (λ f. refl) patch first units some
merged_is_named (merged.Segment patch) first units some = one_named any.Segment 4 (λ f. refl) patch first units some
merged_is_named (merged.Elision patch) first units some = one_named any.Elision 5 (λ f. refl) patch first units some
