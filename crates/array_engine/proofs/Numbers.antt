-- The numbers of a status, at a point at which the array stands.
use Rattle.array_engine.proofs.Prelude.{◌≡◌, ℕ, ◌+◌, ◌≤◌, Bool, List, [], ◌∷◌, length, Option, Some, None, refl, ap, ◌∙◌, arith, filter_map, cons_option, range_with_len, Facts, Geometry, segment, segments, AnyFact, Shelved, all_facts, facts, patches_show, same_segment, Point, data_segments_at, numbers_at, patches_at, segments_in, status_numbers, Array, IsArrayOf, StandsAt}
use Rattle.std.proofs.lemmas.List.FromFn.{length-range_with_len}
use Rattle.array_engine.proofs.Stood.{next_stood, patches_stood}

-- a list of some of these is no longer
some_more : {B : Type 0} (o : Option B) (ys : List B) (n : ℕ) → length ys ≤ n → length (cons_option o ys) ≤ n + 1
some_more None ys n le = omega (arith, le)
some_more (Some y) ys n le = omega (arith, le)

few_some : {A B : Type 0} (f : A → Option B) (xs : List A) → length (filter_map f xs) ≤ length xs
few_some f [] = omega arith
few_some f (x ∷ xs) = let more = some_more (f x) (filter_map f xs) (length xs) (few_some f xs) in omega (arith, more)

-- so there are no more visible segments than ids
pub few_segments : (f : Facts) (next : ℕ) → length (segments f next) ≤ next
few_segments f next = omega (arith, few_some (segment f) (range_with_len 0 next), length-range_with_len 0 next)

-- ---- the segments that the record's patches show

-- the record's patches show the same one as memory
pub segment_same : {told : Bool} {shelf : Shelved} {a : Array} {p : Point} (size : Geometry) → IsArrayOf size a → StandsAt told shelf a p → (id : ℕ) → segment (all_facts (patches_at p)) id ≡ segment (facts a.memory.memory.tables) id
segment_same {told} {shelf} {a} {p} size is s id =
    ap (λ (ps : List (List AnyFact)). segment (all_facts ps) id) (patches_stood s) ∙ same_segment a.memory.memory.tables is.room.no_segments is.room.only_objects id

-- and the same ones in all
shown_same : {told : Bool} {shelf : Shelved} {a : Array} {p : Point} (size : Geometry) → IsArrayOf size a → StandsAt told shelf a p → data_segments_at p ≡ segments_in a.memory.memory
shown_same {told} {shelf} {a} {p} size is s =
    rw (patches_stood s, next_stood s) (patches_show a.memory.memory.tables a.memory.memory.next.segment is.room.no_segments is.room.only_objects)

pub numbers_same : {told : Bool} {shelf : Shelved} {a : Array} {p : Point} (size : Geometry) (groups : ℕ) → IsArrayOf size a → StandsAt told shelf a p → status_numbers a.register.record (facts a.memory.memory.tables) a.memory.memory.next.segment (length p.array) a.log.count groups ≡ numbers_at p groups
numbers_same {told} {shelf} {a} {p} size groups is s =
    let seen : data_segments_at p ≡ segments_in a.memory.memory = shown_same size is s in
    rw (s.boot, s.logged, seen) refl
