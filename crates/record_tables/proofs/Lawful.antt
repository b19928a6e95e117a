-- What a record may say, it may say of the old patches and the new ones.
use Rattle.record_tables.proofs.Prelude.{◌≡◌, ℕ, suc, ◌+◌, ◌^◌, ◌<◌, ◌≤◌, List, [], ◌∷◌, ◌++◌, length, refl, sym, ap, ◌∙◌, arith, subst, take, drop, sum_by, take-append-drop, AllByRecursion, sum_by-cons, Place, Patch, PATCH_SEGMENTS, IsSegment, IsPatch, ArePatches, ByTagFrom, patch_segments, ArePlaces, all_append, all_append_left, all_append_right, segments_for, counts_of, segments_from, new_patch, added_from, added_patches, by_tag, NextPatchesAreLawful, all_weaker}
use Rattle.std.proofs.lemmas.List.Concat.{length-flat_map}
use Rattle.record_tables.proofs.Woven.{Woven}
use Rattle.record_tables.proofs.Replaced.{IsReplaced, added, replaced_all, replaced_sum}
use Rattle.record_tables.proofs.Tags.{HaveTagsBelow, behind_tag, lower, woven_in_order, ordered}
use Rattle.record_tables.proofs.Added.{new_each, segments_long, patch_segments_are, taken_long, left_long, added_segments}

-- ---- tags

new_by_tag : (tag n id : ℕ) (units : List (List Place)) (rest : List Patch) → ByTagFrom (tag + 1) rest → ByTagFrom tag (new_patch tag n id units ++ rest)
new_by_tag tag n id units rest h = behind_tag tag (new_patch tag n id units) rest (new_each (λ p. p.tag ≡ tag) tag n id units (λ some. refl)) (lower tag (tag + 1) rest (omega arith) h)

pub added_by_tag : (tag : ℕ) (counts : List ℕ) (id : ℕ) (units : List (List Place)) → ByTagFrom tag (added_from tag counts id units)
added_by_tag tag [] id units = tt
added_by_tag tag (n ∷ counts) id units =
    new_by_tag tag n id (take (segments_for n) units) (added_from (tag + 1) counts (id + segments_for n) (drop (segments_for n) units)) (added_by_tag (tag + 1) counts (id + segments_for n) (drop (segments_for n) units))

pub added_below : (tag : ℕ) (counts : List ℕ) (id : ℕ) (units : List (List Place)) → HaveTagsBelow (tag + length counts) (added_from tag counts id units)
added_below tag [] id units = tt
added_below tag (n ∷ counts) id units =
    all_append (λ p. p.tag < tag + suc (length counts)) (new_patch tag n id (take (segments_for n) units)) (added_from (tag + 1) counts (id + segments_for n) (drop (segments_for n) units))
    (new_each (λ p. p.tag < tag + suc (length counts)) tag n id (take (segments_for n) units) (λ some. omega arith))
    (all_weaker (λ p. p.tag < tag + 1 + length counts) (λ p. p.tag < tag + suc (length counts)) (λ p l. omega (arith, l)) (added_from (tag + 1) counts (id + segments_for n) (drop (segments_for n) units))
    (added_below (tag + 1) counts (id + segments_for n) (drop (segments_for n) units)))

-- lawful patches have a table's tag
pub tags_below : (slots units : ℕ) (ps : List Patch) → AllByRecursion (IsPatch slots units) ps → HaveTagsBelow 6 ps
tags_below slots units ps h = all_weaker (IsPatch slots units) (λ p. p.tag < 6) (λ p l. let t = l.tag in omega (arith, t)) ps h

-- the old patches and the new ones are woven
pub next_woven : (slots units : ℕ) (was : List Patch) (counts : List ℕ) (id : ℕ) (places : List (List Place)) → length counts ≡ 5 → AllByRecursion (IsPatch slots units) was → ByTagFrom 1 was
    → Woven was (added_from 1 counts id places) (by_tag was (added_from 1 counts id places))
next_woven slots units was counts id places five each up =
    woven_in_order 1 5 was (added_from 1 counts id places) up (tags_below slots units was each) (added_by_tag 1 counts id places)
    (subst (λ n. HaveTagsBelow n (added_from 1 counts id places)) (omega (arith, five)) (added_below 1 counts id places))

-- ---- lawful patches

new_segments : (slots units id : ℕ) (places : List (List Place)) → AllByRecursion (ArePlaces (record { slots = slots; units = units })) places → id + length places < 2 ^ 64
    → AllByRecursion (IsSegment slots units) (segments_from id places)
new_segments slots units id [] h l = tt
new_segments slots units id (u ∷ places) h l =
    (record { id = omega (arith, l); nine = h.0.nine; places = h.0.ascending }, new_segments slots units (id + 1) places h.1 (omega (arith, l)))

-- a new patch on its units
pub new_lawful : (slots units tag n id : ℕ) (places : List (List Place)) → tag ≤ 5 → n < 2 ^ 32 → length places ≡ segments_for n → AllByRecursion (ArePlaces (record { slots = slots; units = units })) places
    → id + length places < 2 ^ 64 → AllByRecursion (IsPatch slots units) (new_patch tag n id places)
new_lawful slots units tag n id places t few e h l = new_each (IsPatch slots units) tag n id places (λ some. record {
  tag = t;
  facts = (some, few);
  room = segments_long id places ∙ e;
  segments = new_segments slots units id places h l;
})

added_lawful : (slots units tag : ℕ) (counts : List ℕ) (id : ℕ) (places : List (List Place)) → tag + length counts ≤ 6 → AllByRecursion (λ n. n < 2 ^ 32) counts → sum_by segments_for counts ≡ length places
    → AllByRecursion (ArePlaces (record { slots = slots; units = units })) places → id + length places < 2 ^ 64 → AllByRecursion (IsPatch slots units) (added_from tag counts id places)
added_lawful slots units tag [] id places t few e h l = tt
added_lawful slots units tag (n ∷ counts) id places t few e h l =
    let k : ℕ = segments_for n in
    let long : length (take k places) ≡ k = taken_long n counts places e in
    let left : sum_by segments_for counts ≡ length (drop k places) = left_long n counts places e in
    let sum : sum_by segments_for (n ∷ counts) ≡ k + sum_by segments_for counts = sum_by-cons segments_for n counts in
    let whole = subst (λ u. AllByRecursion (ArePlaces (record { slots = slots; units = units })) u) (sym (take-append-drop k places)) h in
    all_append (IsPatch slots units) (new_patch tag n id (take k places)) (added_from (tag + 1) counts (id + k) (drop k places))
    (new_lawful slots units tag n id (take k places) (omega (arith, t)) few.0 long (all_append_left (ArePlaces (record { slots = slots; units = units })) (take k places) (drop k places) whole) (omega (arith, l, long, e, sum)))
    (added_lawful slots units (tag + 1) counts (id + k) (drop k places) (omega (arith, t)) few.1 left (all_append_right (ArePlaces (record { slots = slots; units = units })) (take k places) (drop k places) whole)
    (omega (arith, l, left, e, sum)))

-- ---- how many

-- it takes all of its units
pub new_room : (tag n id : ℕ) (places : List (List Place)) → length places ≡ segments_for n → patch_segments (new_patch tag n id places) ≡ length places
new_room tag n id places e =
    sym (length-flat_map (λ (p : Patch). p.segments) (new_patch tag n id places)) ∙ ap length (patch_segments_are tag n id places e) ∙ segments_long id places

added_room : (tag : ℕ) (counts : List ℕ) (id : ℕ) (places : List (List Place)) → sum_by segments_for counts ≡ length places → patch_segments (added_from tag counts id places) ≡ length places
added_room tag counts id places e =
    sym (length-flat_map (λ (p : Patch). p.segments) (added_from tag counts id places)) ∙ ap length (added_segments tag counts id places e) ∙ segments_long id places

-- each has a segment
pub fewer : (slots units : ℕ) (ps : List Patch) → AllByRecursion (IsPatch slots units) ps → length ps ≤ patch_segments ps
fewer slots units [] h = omega arith
fewer slots units (p ∷ ps) h =
    omega (arith, fewer slots units ps h.1, h.0.room, h.0.facts.0, sum_by-cons (λ (q : Patch). length q.segments) p ps)

-- with new patches in the place of some of them
pub replaced_lawful : (slots units : ℕ) {was gone new now : List Patch} → ArePatches slots units was → IsReplaced was gone new now → AllByRecursion (IsPatch slots units) new → ByTagFrom 1 now
    → patch_segments now ≤ PATCH_SEGMENTS → ArePatches slots units now
replaced_lawful slots units {now = now} lawful r each up room =
    let all = replaced_all r (IsPatch slots units) lawful.each each in
    record { count = omega (arith, fewer slots units now all, room); each = all; by_tag = up; room = room }

pub next_patches_are_lawful : NextPatchesAreLawful
next_patches_are_lawful slots units was counts first places lawful fit room each ids few =
    let new : List Patch = added_patches counts first places in
    let r : IsReplaced was [] new (by_tag was new) = added was new (by_tag was new) (next_woven slots units was (counts_of counts) first places refl lawful.each lawful.by_tag) in
    let sum : patch_segments (by_tag was new) ≡ patch_segments was + length places = omega (arith, replaced_sum r (λ (p : Patch). length p.segments), added_room 1 (counts_of counts) first places room) in
    (replaced_lawful slots units lawful r (added_lawful slots units 1 (counts_of counts) first places (omega arith) fit room each (omega (arith, ids))) (ordered 1 5 was new) (omega (arith, sum, few)), sum)
