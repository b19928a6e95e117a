-- Reading one value after the other, as a loop does.
use Rattle.boot_codec.proofs.Prelude.{nat_tests, ◌≡◌, ℕ, suc, ◌-◌, ◌+◌, ◌≤◌, ◌<◌, List, [], ◌∷◌, ◌++◌, length, take, add-one, Result, Ok, Err, refl, sym, ap, ◌∙◌, append_assoc, arith, set, take-suc-set, append-nil, take-length, BadRecord, ReadError, Place, PatchSegment, Patch, with_front, then_read, give, Fails, place_from, places_from, segment, segments, patch, patches}
use Rattle.boot_codec.specs.declared.bad_record.ReadError.TheVariants as errors

regroup : {A : Type 0} (front : List A) (first : A) (read : Result (List A × List ℕ) BadRecord)
    → with_front front (then_read (λ others. give (first ∷ others)) read) ≡ with_front (front ++ first ∷ []) read
regroup front first (Ok x) = ap (λ (xs : _). Ok (xs, x.1)) (sym (append_assoc front (first ∷ []) x.0))
regroup front first (Err e) = refl

-- one place more in an array of them
pub places_go_on : (slots units least : ℕ) (places : List Place) (count i : ℕ) (bytes : List ℕ) (first : Place) (after : List ℕ) (total : Result (List Place × List ℕ) BadRecord)
    → length places ≡ count → i < count → place_from slots units least bytes ≡ Ok (first, after) → with_front (take i places) (places_from slots units least (count - i) bytes) ≡ total
    → with_front (take (i + 1) (set places i first)) (places_from slots units (first.slot + 1) (count - (i + 1)) after) ≡ total
unfolding places_from
places_go_on slots units least places count i bytes first after total len lt h so_far =
    let k : count - i ≡ suc (count - (i + 1)) = omega arith in
    let more : take (i + 1) (set places i first) ≡ take i places ++ first ∷ [] = rw add-one (take-suc-set places i first (omega arith)) in
    let one : with_front (take i places) (places_from slots units least (count - i) bytes) ≡ with_front (take i places ++ first ∷ []) (places_from slots units (first.slot + 1) (count - (i + 1)) after) = rw (k, h) (regroup (take i places) first (places_from slots units (first.slot + 1) (count - (i + 1)) after)) in
    ap (λ (front : List Place). with_front front (places_from slots units (first.slot + 1) (count - (i + 1)) after)) more ∙ sym one ∙ so_far

pub places_end : (e : ReadError) (slots units least : ℕ) (front : List Place) (count i : ℕ) (bytes : List ℕ) (total : Result (List Place × List ℕ) BadRecord)
    → i < count → Fails e (place_from slots units least bytes) → with_front front (places_from slots units least (count - i) bytes) ≡ total → Fails e total
unfolding places_from
places_end (errors.Memory m) slots units least front count i bytes total lt h so_far = tt
places_end (errors.Bad f) slots units least front count i bytes total lt h so_far =
    let k : count - i ≡ suc (count - (i + 1)) = omega arith in
    let one : with_front front (places_from slots units least (count - i) bytes) ≡ Err f = rw (k, h) refl in
    sym so_far ∙ one

pub places_done : (slots units least : ℕ) (places : List Place) (count i : ℕ) (bytes : List ℕ) (total : Result (List Place × List ℕ) BadRecord)
    → length places ≡ count → i ≡ count → with_front (take i places) (places_from slots units least (count - i) bytes) ≡ total → total ≡ Ok (places, bytes)
unfolding places_from
places_done slots units least places count i bytes total len e so_far = grind (arith, nat_tests, take-length, append-nil)

pub segments_go_on : (slots units : ℕ) (front : List PatchSegment) (count i : ℕ) (bytes : List ℕ) (first : PatchSegment) (after : List ℕ) (total : Result (List PatchSegment × List ℕ) BadRecord)
    → i < count → segment slots units bytes ≡ Ok (first, after) → with_front front (segments slots units (count - i) bytes) ≡ total
    → with_front (front ++ first ∷ []) (segments slots units (count - (i + 1)) after) ≡ total
unfolding segments
segments_go_on slots units front count i bytes first after total lt h so_far =
    let k : count - i ≡ suc (count - (i + 1)) = omega arith in
    let one : with_front front (segments slots units (count - i) bytes) ≡ with_front (front ++ first ∷ []) (segments slots units (count - (i + 1)) after) = rw (k, h) (regroup front first (segments slots units (count - (i + 1)) after)) in
    sym one ∙ so_far

pub segments_end : (e : ReadError) (slots units : ℕ) (front : List PatchSegment) (count i : ℕ) (bytes : List ℕ) (total : Result (List PatchSegment × List ℕ) BadRecord)
    → i < count → Fails e (segment slots units bytes) → with_front front (segments slots units (count - i) bytes) ≡ total → Fails e total
unfolding segments
segments_end (errors.Memory m) slots units front count i bytes total lt h so_far = tt
segments_end (errors.Bad f) slots units front count i bytes total lt h so_far =
    let k : count - i ≡ suc (count - (i + 1)) = omega arith in
    let one : with_front front (segments slots units (count - i) bytes) ≡ Err f = rw (k, h) refl in
    sym so_far ∙ one

pub segments_done : (slots units : ℕ) (front : List PatchSegment) (count i : ℕ) (bytes : List ℕ) (total : Result (List PatchSegment × List ℕ) BadRecord)
    → count ≤ i → with_front front (segments slots units (count - i) bytes) ≡ total → total ≡ Ok (front, bytes)
unfolding segments
segments_done slots units front count i bytes total le so_far = grind (arith, nat_tests, append-nil)

pub patches_go_on : (slots units least room : ℕ) (front : List Patch) (count i : ℕ) (bytes : List ℕ) (first : Patch) (after : List ℕ) (total : Result (List Patch × List ℕ) BadRecord)
    → i < count → patch slots units least room bytes ≡ Ok (first, after) → with_front front (patches slots units least room (count - i) bytes) ≡ total
    → with_front (front ++ first ∷ []) (patches slots units first.tag (room - length first.segments) (count - (i + 1)) after) ≡ total
unfolding patches
patches_go_on slots units least room front count i bytes first after total lt h so_far =
    let k : count - i ≡ suc (count - (i + 1)) = omega arith in
    let one : with_front front (patches slots units least room (count - i) bytes) ≡ with_front (front ++ first ∷ []) (patches slots units first.tag (room - length first.segments) (count - (i + 1)) after) = rw (k, h) (regroup front first (patches slots units first.tag (room - length first.segments) (count - (i + 1)) after)) in
    sym one ∙ so_far

pub patches_end : (e : ReadError) (slots units least room : ℕ) (front : List Patch) (count i : ℕ) (bytes : List ℕ) (total : Result (List Patch × List ℕ) BadRecord)
    → i < count → Fails e (patch slots units least room bytes) → with_front front (patches slots units least room (count - i) bytes) ≡ total → Fails e total
unfolding patches
patches_end (errors.Memory m) slots units least room front count i bytes total lt h so_far = tt
patches_end (errors.Bad f) slots units least room front count i bytes total lt h so_far =
    let k : count - i ≡ suc (count - (i + 1)) = omega arith in
    let one : with_front front (patches slots units least room (count - i) bytes) ≡ Err f = rw (k, h) refl in
    sym so_far ∙ one

pub patches_done : (slots units least room : ℕ) (front : List Patch) (count i : ℕ) (bytes : List ℕ) (total : Result (List Patch × List ℕ) BadRecord)
    → count ≤ i → with_front front (patches slots units least room (count - i) bytes) ≡ total → total ≡ Ok (front, bytes)
unfolding patches
patches_done slots units least room front count i bytes total le so_far = grind (arith, nat_tests, append-nil)
