-- The lists: what is read is spelled so, and what is spelled so is read.
use Rattle.boot_codec.proofs.Prelude.{nat_tests, ◌≡◌, ℕ, zero, suc, ◌+◌, ◌-◌, ◌*◌, ◌^◌, ◌<◌, ◌≤◌, Bool, true, false, ◌&&◌, cond, eqb, leb, ltb, List, [], ◌∷◌, ◌++◌, length, drop, Result, Ok, Err, refl, sym, ap, subst, ◌∙◌, append_assoc, arith, eqb-true, ltb-true, leb-true, lt-ltb, le-leb, flat_map, AllByRecursion, w16, w32, w64, from_be_bytes, div_ceil, sum_by-cons, flat_map-cons, u8, u16, u32, Place, BadRecord, PatchSegment, Patch, IsPlace, AscendFrom, IsSegment, IsPatch, ByTagFrom, patch_segments, ArePatches, place_bytes, segment_bytes, patch_bytes, patches_bytes, counts_bytes, then_read, give, fault_at, place_from, places_from, segment, segments, tag_from, facts, segment_count, patch, patches, patch_count, frontier_count, lists}
use Rattle.boot_codec.proofs.SpellingLemmas.{length-segment_bytes, length-patch_bytes}
use Rattle.boot_codec.proofs.FieldLemmas.{IsBytes, ok_is, both_true, eqb_same, Takes, Takes-then, Takes-length, Reads, step, at_start, told, wide16, wide32, wide64, number_reads, number_again, byte_reads, byte_again}

-- ---- places

place_reads : (slots units least : ℕ) → Reads (place_from slots units least) 3 place_bytes (λ p. (least ≤ p.slot) × IsPlace slots units p)
unfolding place_from place_bytes
place_reads slots units least = record {
  take = λ bytes x fits long e.
      let a = step (byte_reads (λ s. leb least s && ltb s slots) (λ s passes. both_true (leb least s) (ltb s slots) passes)) (at_start fits) (omega arith) e in
      let b = step (number_reads w16 (2 ^ 16) wide16 (λ u. leb 3 u && ltb u units) (λ u _ passes. both_true (leb 3 u) (ltb u units) passes)) a.takes (omega arith) a.after in
      let made : Place = record { slot = a.value; unit = b.value } in
      let lawful : IsPlace slots units made = record { slot = ltb-true _ _ a.holds.1; data_unit = leb-true _ _ b.holds.0; unit = ltb-true _ _ b.holds.1 } in
      subst (λ (y : Place × List ℕ). Takes bytes (place_bytes y.0) y.1 × ((least ≤ y.0.slot) × IsPlace slots units y.0)) (ok_is (made, b.rest) x b.after) (b.takes, (leb-true _ _ a.holds.0, lawful));
}

place_again : (slots units least : ℕ) (p : Place) (rest : List ℕ) → units ≤ 4096 → least ≤ p.slot → IsPlace slots units p → place_from slots units least (place_bytes p ++ rest) ≡ Ok (p, rest)
unfolding place_from place_bytes
place_again slots units least p rest few low h = grind (arith, nat_tests, byte_again, le-leb, lt-ltb, number_again, wide16)

length-place : (p : Place) → length (place_bytes p) ≡ 3
unfolding place_bytes
length-place p = refl

places_reads : (slots units n least : ℕ) → Reads (places_from slots units least n) (3 * n) (flat_map place_bytes) (λ ps. (length ps ≡ n) × AscendFrom slots units least ps)
unfolding places_from
places_reads slots units zero least = grind (arith, nat_tests, ok_is, at_start)
places_reads slots units (suc n) least = record {
  take = λ bytes x fits long e.
      let a = step (place_reads slots units least) (at_start fits) (omega arith) e in
      let b = step (places_reads slots units n (a.value.slot + 1)) a.takes (omega (arith, length-place a.value)) a.after in
      let lawful : (length (a.value ∷ b.value) ≡ suc n) × AscendFrom slots units least (a.value ∷ b.value) = (ap suc b.holds.0, (a.holds.0, a.holds.1, b.holds.1)) in
      subst (λ (y : List Place × List ℕ). Takes bytes (flat_map place_bytes y.0) y.1 × ((length y.0 ≡ suc n) × AscendFrom slots units least y.0)) (ok_is (a.value ∷ b.value, b.rest) x b.after) (rw flat_map-cons b.takes, lawful);
}

places_again : (slots units least : ℕ) (ps : List Place) (rest : List ℕ) → units ≤ 4096 → AscendFrom slots units least ps → places_from slots units least (length ps) (flat_map place_bytes ps ++ rest) ≡ Ok (ps, rest)
unfolding places_from
places_again slots units least [] rest few h = refl
places_again slots units least (p ∷ ps) rest few h =
    let regrouped : flat_map place_bytes (p ∷ ps) ++ rest ≡ place_bytes p ++ (flat_map place_bytes ps ++ rest) = ap (λ (x : List ℕ). x ++ rest) (flat_map-cons place_bytes p ps) ∙ append_assoc (place_bytes p) (flat_map place_bytes ps) rest in
    ap (places_from slots units least (suc (length ps))) regrouped ∙ rw (place_again slots units least p (flat_map place_bytes ps ++ rest) few h.0 h.1, places_again slots units (p.slot + 1) ps rest few h.2) refl

-- ---- segments

segment_reads : (slots units : ℕ) → Reads (segment slots units) 35 segment_bytes (IsSegment slots units)
unfolding segment segment_bytes
segment_reads slots units = record {
  take = λ bytes x fits long e.
      let id = from_be_bytes w64 bytes in
      let a = (number_reads w64 (2 ^ 64) wide64 (λ _. true) (λ n below _. below)).take bytes (id, drop 8 bytes) fits (omega arith) refl in
      let b = step (places_reads slots units 9 0) a.0 (omega arith) e in
      let made : PatchSegment = record { id = id; places = b.value } in
      let lawful : IsSegment slots units made = record { id = a.1; nine = b.holds.0; places = b.holds.1 } in
      subst (λ (y : PatchSegment × List ℕ). Takes bytes (segment_bytes y.0) y.1 × IsSegment slots units y.0) (ok_is (made, b.rest) x b.after) (b.takes, lawful);
}

segment_again : (slots units : ℕ) (s : PatchSegment) (rest : List ℕ) → units ≤ 4096 → IsSegment slots units s → segment slots units (segment_bytes s ++ rest) ≡ Ok (s, rest)
unfolding segment segment_bytes
segment_again slots units s rest few h = grind (arith, nat_tests, places_again, wide64)

segments_reads : (slots units n : ℕ) → Reads (segments slots units n) (35 * n) (flat_map segment_bytes) (λ ss. (length ss ≡ n) × AllByRecursion (IsSegment slots units) ss)
unfolding segments
segments_reads slots units zero = grind (arith, nat_tests, ok_is, at_start)
segments_reads slots units (suc n) = record {
  take = λ bytes x fits long e.
      let a = step (segment_reads slots units) (at_start fits) (omega arith) e in
      let b = step (segments_reads slots units n) a.takes (omega (arith, length-segment_bytes slots units a.value a.holds)) a.after in
      let lawful : (length (a.value ∷ b.value) ≡ suc n) × AllByRecursion (IsSegment slots units) (a.value ∷ b.value) = (ap suc b.holds.0, (a.holds, b.holds.1)) in
      subst (λ (y : List PatchSegment × List ℕ). Takes bytes (flat_map segment_bytes y.0) y.1 × ((length y.0 ≡ suc n) × AllByRecursion (IsSegment slots units) y.0)) (ok_is (a.value ∷ b.value, b.rest) x b.after) (rw flat_map-cons b.takes, lawful);
}

segments_again : (slots units : ℕ) (ss : List PatchSegment) (rest : List ℕ) → units ≤ 4096 → AllByRecursion (IsSegment slots units) ss → segments slots units (length ss) (flat_map segment_bytes ss ++ rest) ≡ Ok (ss, rest)
unfolding segments
segments_again slots units [] rest few h = refl
segments_again slots units (s ∷ ss) rest few h =
    let regrouped : flat_map segment_bytes (s ∷ ss) ++ rest ≡ segment_bytes s ++ (flat_map segment_bytes ss ++ rest) = ap (λ (x : List ℕ). x ++ rest) (flat_map-cons segment_bytes s ss) ∙ append_assoc (segment_bytes s) (flat_map segment_bytes ss) rest in
    ap (segments slots units (suc (length ss))) regrouped ∙ rw (segment_again slots units s (flat_map segment_bytes ss ++ rest) few h.0, segments_again slots units ss rest few h.1) refl

-- ---- patches

tag_again : (least tag : ℕ) (rest : List ℕ) → least ≤ tag → tag ≤ 5 → tag_from least (u8 tag ++ rest) ≡ Ok (tag, rest)
unfolding tag_from
tag_again least tag rest a b = byte_again (λ t. leb least t && leb t 5) tag rest (rw (le-leb least tag a, le-leb tag 5 b) refl)

facts_again : (n : ℕ) (rest : List ℕ) → 1 ≤ n → n < 2 ^ 32 → facts (u32 n ++ rest) ≡ Ok (n, rest)
unfolding facts
facts_again n rest a b = number_again w32 (2 ^ 32) wide32 (leb 1) n rest b (le-leb 1 n a)

count_again : (n room count : ℕ) (rest : List ℕ) → count ≡ div_ceil n 6720 → count ≤ room → count < 2 ^ 16 → segment_count n room (u16 count ++ rest) ≡ Ok (count, rest)
unfolding segment_count
count_again n room count rest e le small = grind (arith, nat_tests, eqb_same, number_again, wide16, le-leb)

patch_reads : (slots units least room : ℕ) → Reads (patch slots units least room) (7 + 35 * room) patch_bytes (λ p. IsPatch slots units p × (least ≤ p.tag) × (length p.segments ≤ room))
unfolding patch patch_bytes tag_from facts segment_count
patch_reads slots units least room = record {
  take = λ bytes x fits long e.
      let a = step (byte_reads (λ t. leb least t && leb t 5) (λ t passes. both_true (leb least t) (leb t 5) passes)) (at_start fits) (omega arith) e in
      let b = step (number_reads w32 (2 ^ 32) wide32 (leb 1) {P = λ n. (1 ≤ n) × (n < 2 ^ 32)} (λ n below passes. (leb-true 1 n passes, below))) a.takes (omega arith) a.after in
      let c = step (number_reads w16 (2 ^ 16) wide16 (λ c. eqb c (div_ceil b.value 6720) && leb c room) (λ c _ passes. both_true (eqb c (div_ceil b.value 6720)) (leb c room) passes)) b.takes (omega arith) b.after in
      let within : c.value ≤ room = leb-true _ _ c.holds.1 in
      let d = step (segments_reads slots units c.value) c.takes (omega (arith, within)) c.after in
      let text = subst (λ (n : ℕ). Takes bytes (u8 a.value ++ u32 b.value ++ u16 n ++ flat_map segment_bytes d.value) d.rest) (sym d.holds.0) d.takes in
      let made : Patch = record { tag = a.value; facts = b.value; segments = d.value } in
      let lawful : IsPatch slots units made = record { tag = leb-true _ _ a.holds.1; facts = b.holds; room = d.holds.0 ∙ eqb-true _ _ c.holds.0; segments = d.holds.1 } in
      subst (λ (y : Patch × List ℕ). Takes bytes (patch_bytes y.0) y.1 × (IsPatch slots units y.0 × (least ≤ y.0.tag) × (length y.0.segments ≤ room))) (ok_is (made, d.rest) x d.after)
      (text, (lawful, leb-true _ _ a.holds.0, omega (arith, d.holds.0, within)));
}

patch_again : (slots units least room : ℕ) (p : Patch) (rest : List ℕ) → units ≤ 4096 → room ≤ 600 → IsPatch slots units p → least ≤ p.tag → length p.segments ≤ room
    → patch slots units least room (patch_bytes p ++ rest) ≡ Ok (p, rest)
unfolding patch patch_bytes
patch_again slots units least room p rest few small h low within = grind (arith, nat_tests, tag_again, facts_again, count_again, segments_again)

-- what patches that were read are
pub record AreRead (slots units least room n : ℕ) (ps : List Patch) : Type 0 where
  pub count : length ps ≡ n
  pub each : AllByRecursion (IsPatch slots units) ps
  pub by_tag : ByTagFrom least ps
  pub within : patch_segments ps ≤ room

patches_reads : (slots units n least room : ℕ) → Reads (patches slots units least room n) (7 * n + 35 * room) patches_bytes (AreRead slots units least room n)
unfolding patches
patches_reads slots units zero least room = record {
  take = λ bytes x fits long e.
      subst (λ (y : List Patch × List ℕ). Takes bytes (patches_bytes y.0) y.1 × AreRead slots units least room 0 y.0) (ok_is ([], bytes) x e) (at_start fits, record { count = refl; each = tt; by_tag = tt; within = omega arith });
}
patches_reads slots units (suc n) least room = record {
  take = λ bytes x fits long e.
      let a = step (patch_reads slots units least room) (at_start fits) (omega arith) e in
      let room_left = room - length a.value.segments in
      let b = step (patches_reads slots units n a.value.tag room_left) a.takes (omega (arith, length-patch_bytes slots units a.value a.holds.0, a.holds.2)) a.after in
      let total = sum_by-cons (λ (p : Patch). length p.segments) a.value b.value in
      let fits_in = b.holds.within in
      let lawful : AreRead slots units least room (suc n) (a.value ∷ b.value) = record { count = ap suc b.holds.count; each = (a.holds.0, b.holds.each); by_tag = (a.holds.1, b.holds.by_tag); within = omega (arith, total, fits_in, a.holds.2) } in
      subst (λ (y : List Patch × List ℕ). Takes bytes (patches_bytes y.0) y.1 × AreRead slots units least room (suc n) y.0) (ok_is (a.value ∷ b.value, b.rest) x b.after) (rw flat_map-cons b.takes, lawful);
}

patches_again : (slots units least room : ℕ) (ps : List Patch) (rest : List ℕ) → units ≤ 4096 → room ≤ 600 → AllByRecursion (IsPatch slots units) ps → ByTagFrom least ps → patch_segments ps ≤ room
    → patches slots units least room (length ps) (patches_bytes ps ++ rest) ≡ Ok (ps, rest)
unfolding patches
patches_again slots units least room [] rest few small each by_tag within = refl
patches_again slots units least room (p ∷ ps) rest few small each by_tag within =
    let total = sum_by-cons (λ (p : Patch). length p.segments) p ps in
    let regrouped : patches_bytes (p ∷ ps) ++ rest ≡ patch_bytes p ++ (patches_bytes ps ++ rest) = ap (λ (x : List ℕ). x ++ rest) (flat_map-cons patch_bytes p ps) ∙ append_assoc (patch_bytes p) (patches_bytes ps) rest in
    ap (patches slots units least room (suc (length ps))) regrouped
    ∙ rw (
      patch_again slots units least room p (patches_bytes ps ++ rest) few small each.0 by_tag.0 (omega (arith, total)),
      patches_again slots units p.tag (room - length p.segments) ps rest few (omega arith) each.1 by_tag.1 (omega (arith, total)),
    ) refl

-- ---- the whole of the lists

abbrev pub lists_text : List Patch → List ℕ
lists_text ps = counts_bytes (length ps) (88 + length (patches_bytes ps)) ++ patches_bytes ps

count_reads : Reads patch_count 2 u16 (λ n. n ≤ 600)
unfolding patch_count
count_reads = number_reads w16 (2 ^ 16) wide16 (λ n. leb n 600) (λ n _ passes. leb-true _ _ passes)

frontier_reads : Reads frontier_count 2 (λ _. u16 0) (λ _. Unit {0})
unfolding frontier_count
frontier_reads = told (number_reads w16 (2 ^ 16) wide16 (λ n. eqb n 0) (λ n _ passes. eqb-true n 0 passes))

-- how the length is judged
abbrev if_ends : Bool → List ℕ → List ℕ → Result (Unit {0} × List ℕ) BadRecord
if_ends b rest field = cond b (Ok (tt, rest)) (Err (fault_at field))

-- the length was right
ends_ok : (b : Bool) (field : List ℕ) (ps : List Patch) (rest : List ℕ) (x : List Patch × List ℕ)
    → then_read {A = Unit {0}} (λ _. give ps) (if_ends b rest field) ≡ Ok x → (b ≡ true) × ((ps, rest) ≡ x)
ends_ok true field ps rest x e = (refl, ok_is (ps, rest) x e)
ends_ok false field ps rest x e = absurd cc

pub lists_take : (slots units : ℕ) (bytes : List ℕ) (x : List Patch × List ℕ) → IsBytes bytes → 80 + length bytes ≡ 65536 → lists slots units bytes ≡ Ok x
    → Takes bytes (lists_text x.0) x.1 × ArePatches slots units x.0
unfolding lists counts_bytes
lists_take slots units bytes x fits long e =
    let a = step count_reads (at_start fits) (omega arith) e in
    let b = step frontier_reads a.takes (omega arith) a.after in
    let field = b.rest in
    let len = from_be_bytes w32 field in
    let lb = Takes-length _ _ _ b.takes in
    let l = (number_reads w32 (2 ^ 32) wide32 (λ _. true) (λ n below _. below)).take field (len, drop 4 field) b.takes.rest_fits (omega (arith, lb)) refl in
    let c = step (patches_reads slots units a.value 1 600) (Takes-then _ _ _ _ _ b.takes l.0) (omega (arith, a.holds)) b.after in
    let g = ends_ok (eqb len (65536 - length c.rest)) field c.value c.rest x c.after in
    let says : len ≡ 65536 - length c.rest = eqb-true _ _ g.0 in
    let len_is : len ≡ 88 + length (patches_bytes c.value) = omega (arith, says, Takes-length _ _ _ c.takes) in
    let counted = subst (λ (n : ℕ). Takes bytes (u16 n ++ u16 0 ++ u32 len ++ patches_bytes c.value) c.rest) (sym c.holds.count) c.takes in
    let text : Takes bytes (lists_text c.value) c.rest = subst (λ (n : ℕ). Takes bytes (u16 (length c.value) ++ u16 0 ++ u32 n ++ patches_bytes c.value) c.rest) len_is counted in
    let lawful : ArePatches slots units c.value = record { count = omega (arith, c.holds.count, a.holds); each = c.holds.each; by_tag = c.holds.by_tag; room = c.holds.within } in
    subst (λ (y : List Patch × List ℕ). Takes bytes (lists_text y.0) y.1 × ArePatches slots units y.0) g.1 (text, lawful)

count_again_of : (n : ℕ) (rest : List ℕ) → n ≤ 600 → patch_count (u16 n ++ rest) ≡ Ok (n, rest)
unfolding patch_count
count_again_of n rest le = number_again w16 (2 ^ 16) wide16 (λ n. leb n 600) n rest (omega arith) (le-leb n 600 le)

frontier_again : (rest : List ℕ) → frontier_count (u16 0 ++ rest) ≡ Ok (0, rest)
unfolding frontier_count
frontier_again rest = number_again w16 (2 ^ 16) wide16 (λ n. eqb n 0) 0 rest (omega arith) refl

pub lists_again : (slots units : ℕ) (ps : List Patch) (rest : List ℕ) → units ≤ 4096 → ArePatches slots units ps → 88 + length (patches_bytes ps) + length rest ≡ 65536 → lists slots units (lists_text ps ++ rest) ≡ Ok (ps, rest)
unfolding lists counts_bytes
lists_again slots units ps rest few h long = grind (arith, nat_tests, wide32, eqb_same, count_again_of, frontier_again, patches_again)
