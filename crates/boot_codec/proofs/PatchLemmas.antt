-- Patches as parts of one list of segments, and a patch that is read behind others.
use Rattle.boot_codec.proofs.Prelude.{nat_tests, ◌≡◌, ℕ, ◌+◌, ◌-◌, ◌<◌, ◌≤◌, List, [], ◌∷◌, ◌++◌, length, take, drop, Result, Ok, Err, OnErr, refl, sym, ap, ◌∙◌, arith, length-append, length-drop, take-append-drop, length-take, take-length, drop-append_seam, take-append_seam, take-append-le, drop-append-le, BadRecord, ReadError, PatchSegment, Patch, patch_of, patches_of, IsWithin, AreWithin, IsBehind, Fails, with_front, tag_from, facts, segment_count, segments, patch, patches}
use Rattle.boot_codec.specs.declared.bad_record.ReadError.TheVariants as errors
use Rattle.boot_codec.specs.declared.patch.PatchHead.{PatchHead}
use Rattle.boot_codec.proofs.FieldLemmas.{ok_is}
use Rattle.boot_codec.proofs.LoopLemmas.{patches_go_on}

-- ---- parts

pub part_len : (all : List PatchSegment) (head : PatchHead) → IsWithin (length all) head → length (patch_of all head).segments ≡ head.end - head.start
part_len all head h = omega (arith, h.ordered, h.within, length-take (head.end - head.start) (drop head.start all), length-drop head.start all)

-- a part stays as it is where segments follow
part_kept : (all more : List PatchSegment) (head : PatchHead) → IsWithin (length all) head → patch_of (all ++ more) head ≡ patch_of all head
part_kept all more head h = grind (arith, nat_tests, length-drop, drop-append-le, take-append-le)

pub parts_kept : (all more : List PatchSegment) (heads : List PatchHead) → AreWithin (length all) heads → patches_of (all ++ more) heads ≡ patches_of all heads
parts_kept all more [] h = refl
parts_kept all more (head ∷ heads) h =
    let first = part_kept all more head h.0 in
    let others = parts_kept all more heads h.1 in
    cc

-- the same, of segments that are seen from the new ones
pub parts_kept_in : (old new : List PatchSegment) (heads : List PatchHead) → take (length old) new ≡ old → AreWithin (length old) heads → patches_of new heads ≡ patches_of old heads
parts_kept_in old new heads kept h =
    let whole : new ≡ old ++ drop (length old) new = sym (take-append-drop (length old) new) ∙ ap (λ (front : List PatchSegment). front ++ drop (length old) new) kept in
    ap (λ (all : List PatchSegment). patches_of all heads) whole ∙ parts_kept old (drop (length old) new) heads h

-- what more segments have room for
pub within_more : (count more : ℕ) (heads : List PatchHead) → count ≤ more → AreWithin count heads → AreWithin more heads
within_more count more [] le h = tt
within_more count more (head ∷ heads) le h = (record { ordered = h.0.ordered; within = omega (arith, h.0.within) }, within_more count more heads le h.1)

pub within_push : (count : ℕ) (heads : List PatchHead) (head : PatchHead) → AreWithin count heads → IsWithin count head → AreWithin count (heads ++ head ∷ [])
within_push count [] head h one = (one, tt)
within_push count (first ∷ heads) head h one = (h.0, within_push count heads head h.1 one)

pub patches_push : (all : List PatchSegment) (heads : List PatchHead) (head : PatchHead) → patches_of all (heads ++ head ∷ []) ≡ patches_of all heads ++ patch_of all head ∷ []
patches_push all [] head = refl
patches_push all (first ∷ heads) head = ap (λ (ps : List Patch). patch_of all first ∷ ps) (patches_push all heads head)

-- ---- a patch behind others

-- the part of what was put behind the old segments
pub part_behind : (old more : List PatchSegment) (start stop : ℕ) → start ≡ length old → stop ≡ length (old ++ more) → take (stop - start) (drop start (old ++ more)) ≡ more
part_behind old more start stop e f =
    let len : stop - start ≡ length more = omega (arith, length-append old more) in
    ap (take (stop - start)) (ap (λ (n : ℕ). drop n (old ++ more)) e ∙ drop-append_seam old more) ∙ ap (λ (n : ℕ). take n more) len ∙ take-length more

-- what a reading behind others gave
pub split_front : {A : Type 0} (old : List A) (read : Result (List A × List ℕ) BadRecord) (new : List A) (rest : List ℕ) → with_front old read ≡ Ok (new, rest) → (more : List A) × (read ≡ Ok (more, rest)) × (new ≡ old ++ more)
split_front old (Ok x) new rest e = grind (arith, nat_tests, ok_is)
split_front old (Err d) new rest e = absurd cc

-- a fault behind others is a fault
pub fails_behind : {A : Type 0} (e : ReadError) (old : List A) (read : Result (List A × List ℕ) BadRecord) → Fails e (with_front old read) → Fails e read
fails_behind (errors.Memory m) old read h = tt
fails_behind (errors.Bad f) old (Ok x) h = absurd cc
fails_behind (errors.Bad f) old (Err d) h = h

-- what fails in the segments fails in the patch
pub patch_fails : (e : ReadError) (slots units least room : ℕ) (bytes one two three : List ℕ) (tag number count : ℕ) → tag_from least bytes ≡ Ok (tag, one) → facts one ≡ Ok (number, two) → segment_count number room two ≡ Ok (count, three)
    → Fails e (segments slots units count three) → Fails e (patch slots units least room bytes)
unfolding patch
patch_fails (errors.Memory m) slots units least room bytes one two three tag number count a b c d = tt
patch_fails (errors.Bad f) slots units least room bytes one two three tag number count a b c d = rw (a, b, c, d) refl

-- the segments that were read behind others are those of the patch
pub patch_read : (slots units least room : ℕ) (bytes one two three rest : List ℕ) (tag number count start stop : ℕ) (old new : List PatchSegment)
    → tag_from least bytes ≡ Ok (tag, one) → facts one ≡ Ok (number, two) → segment_count number room two ≡ Ok (count, three)
    → with_front old (segments slots units count three) ≡ Ok (new, rest) → start ≡ length old → stop ≡ length new
    → patch slots units least room bytes ≡ Ok (record { tag = tag; facts = number; segments = take (stop - start) (drop start new) }, rest)
unfolding patch
patch_read slots units least room bytes one two three rest tag number count start stop old new a b c d at to = grind (arith, nat_tests, split_front, part_behind)

-- where they stand
pub behind : (head : PatchHead) (old new : List PatchSegment) (read : Result (List PatchSegment × List ℕ) BadRecord) (rest : List ℕ) → with_front old read ≡ Ok (new, rest) → head.start ≡ length old → head.end ≡ length new → IsBehind old new head
behind head old new read rest e at to = grind (arith, nat_tests, split_front, length-append, take-append_seam)

-- ---- a patch added at the end

-- the head of what is added
abbrev pub IsHeadOf : List PatchSegment → Patch → PatchHead → Type 0
IsHeadOf all p head = (head.tag ≡ p.tag) × (head.facts ≡ p.facts) × (head.start ≡ length all) × (head.end ≡ length all + length p.segments)

pub patch_pushed : (all : List PatchSegment) (heads : List PatchHead) (p : Patch) (head : PatchHead) → AreWithin (length all) heads → IsHeadOf all p head → patches_of (all ++ p.segments) (heads ++ head ∷ []) ≡ patches_of all heads ++ p ∷ []
patch_pushed all heads p head h is = grind (arith, nat_tests, length-append, part_behind, patches_push, parts_kept)

pub within_pushed : (all : List PatchSegment) (heads : List PatchHead) (p : Patch) (head : PatchHead) → AreWithin (length all) heads → IsHeadOf all p head → AreWithin (length (all ++ p.segments)) (heads ++ head ∷ [])
within_pushed all heads p head h is = grind (arith, nat_tests, length-append, within_push, within_more)

-- ---- one patch after the other

-- one patch more, read behind the others
pub patches_more : (slots units least room : ℕ) (old new : List PatchSegment) (heads : List PatchHead) (head : PatchHead) (count i : ℕ) (bytes after : List ℕ) (total : Result (List Patch × List ℕ) BadRecord)
    → i < count → AreWithin (length old) heads → IsBehind old new head → patch slots units least room bytes ≡ Ok (patch_of new head, after) → with_front (patches_of old heads) (patches slots units least room (count - i) bytes) ≡ total
    → AreWithin (length new) (heads ++ head ∷ []) × (with_front (patches_of new (heads ++ head ∷ [])) (patches slots units head.tag (room - (head.end - head.start)) (count - (i + 1)) after) ≡ total)
patches_more slots units least room old new heads head count i bytes after total lt h is read so_far =
    let longer : length old ≤ length new = omega (arith, is.start, is.within.ordered, is.within.within) in
    let front : patches_of new (heads ++ head ∷ []) ≡ patches_of old heads ++ patch_of new head ∷ [] =
    patches_push new heads head ∙ ap (λ (ps : List Patch). ps ++ patch_of new head ∷ []) (parts_kept_in old new heads is.kept h) in
    let others : ℕ → Result (List Patch × List ℕ) BadRecord = λ n. patches slots units head.tag (room - n) (count - (i + 1)) after in
    let more = patches_go_on slots units least room (patches_of old heads) count i bytes (patch_of new head) after total lt read so_far in (
      within_push (length new) heads head (within_more (length old) (length new) heads longer h) is.within,
      ap (λ (ps : List Patch). with_front ps (others (head.end - head.start))) front ∙ ap (λ (n : ℕ). with_front (patches_of old heads ++ patch_of new head ∷ []) (others n)) (sym (part_len new head is.within)) ∙ more,
    )

-- what holds anyway holds after Err
pub on_err : {X E P : Type 0} (result : Result X E) → P → OnErr result P
on_err (Ok x) p = tt
on_err (Err e) p = p
