-- How long spellings are.
use Rattle.boot_codec.proofs.Prelude.{◌≡◌, ℕ, ◌+◌, ◌*◌, List, [], ◌∷◌, length, refl, ap, arith, length-append, flat_map, AllByRecursion, sum_by-cons, flat_map-cons, Place, PatchSegment, Patch, Members, NextNumbers, BootRecord, IsSegment, IsPatch, patch_segments, opening_bytes, members_bytes, next_bytes, counts_bytes, header_bytes, place_bytes, segment_bytes, patch_bytes, patches_bytes}

pub length-opening_bytes : (slots units : ℕ) → length (opening_bytes slots units) ≡ 16
unfolding opening_bytes
length-opening_bytes slots units = refl

pub length-members_bytes : (m : Members) → length (members_bytes m) ≡ 8
unfolding members_bytes
length-members_bytes m = refl

pub length-next_bytes : (n : NextNumbers) → length (next_bytes n) ≡ 40
unfolding next_bytes
length-next_bytes n = refl

pub length-counts_bytes : (n len : ℕ) → length (counts_bytes n len) ≡ 8
unfolding counts_bytes
length-counts_bytes n len = refl

pub length-header_bytes : (r : BootRecord) (len : ℕ) → length (header_bytes r len) ≡ 88
unfolding header_bytes opening_bytes members_bytes next_bytes counts_bytes
length-header_bytes r len = refl

pub length-places : (ps : List Place) → length (flat_map place_bytes ps) ≡ 3 * length ps
unfolding place_bytes
length-places [] = refl
length-places (p ∷ ps) = omega (arith, ap length (flat_map-cons place_bytes p ps), length-places ps)

pub length-segment_bytes : (slots units : ℕ) (s : PatchSegment) → IsSegment slots units s → length (segment_bytes s) ≡ 35
unfolding segment_bytes
length-segment_bytes slots units s h = omega (arith, length-places s.places, h.nine)

pub length-segments : (slots units : ℕ) (ss : List PatchSegment) → AllByRecursion (IsSegment slots units) ss → length (flat_map segment_bytes ss) ≡ 35 * length ss
length-segments slots units [] h = refl
length-segments slots units (s ∷ ss) h = omega (arith, ap length (flat_map-cons segment_bytes s ss), length-append (segment_bytes s) (flat_map segment_bytes ss), length-segment_bytes slots units s h.0, length-segments slots units ss h.1)

pub length-patch_bytes : (slots units : ℕ) (p : Patch) → IsPatch slots units p → length (patch_bytes p) ≡ 7 + 35 * length p.segments
unfolding patch_bytes
length-patch_bytes slots units p h = omega (arith, length-segments slots units p.segments h.segments)

pub length-patches_bytes : (slots units : ℕ) (ps : List Patch) → AllByRecursion (IsPatch slots units) ps → length (patches_bytes ps) ≡ 7 * length ps + 35 * patch_segments ps
length-patches_bytes slots units [] h = refl
length-patches_bytes slots units (p ∷ ps) h = omega (arith, sum_by-cons (λ (x : Patch). length x.segments) p ps, ap length (flat_map-cons patch_bytes p ps), length-append (patch_bytes p) (patches_bytes ps), length-patch_bytes slots units p h.0, length-patches_bytes slots units ps h.1)
