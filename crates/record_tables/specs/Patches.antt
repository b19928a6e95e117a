-- The patches of the next boot record: those of the last one, and a new one for each table that has new facts.
use Rattle.std.specs.Prelude.{ℕ, ◌+◌, ◌^◌, ◌<◌, ◌==◌, if◌then◌else◌, List, [], ◌∷◌, ◌++◌, filter, take, drop, sum_by}
use Rattle.std.specs.List.{AllByRecursion, flat_map, range_with_len}
use Rattle.std.specs.Int.{div_ceil}
use Rattle.memory_spec.specs.Prelude.{Place, FACTS_PER_SEGMENT, TAG_MAX, PatchSegment, Patch}
use Rattle.array_memory.specs.declared.plan.Counts.{Counts}

-- ---- counts

-- how many segments a patch of so many facts takes
abbrev pub segments_for : ℕ → ℕ
segments_for facts = div_ceil facts FACTS_PER_SEGMENT

-- the count of each table, by ascending tag
abbrev pub counts_of : Counts → List ℕ
counts_of c = c.objects ∷ c.mediums ∷ c.addresses ∷ c.segments ∷ c.elisions ∷ []

-- how many segments the new patches take
abbrev pub segments_of : Counts → ℕ
segments_of c = sum_by segments_for (counts_of c)

-- a record can spell each count
abbrev pub FitRecord : Counts → Type 0
FitRecord c = AllByRecursion (λ n. n < 2 ^ 32) (counts_of c)

-- ---- new patches

-- a segment on each of these places, from an id on
abbrev pub segments_from : ℕ → List (List Place) → List PatchSegment
segments_from id [] = []
segments_from id (places ∷ rest) = record { id = id; places = places } ∷ segments_from (id + 1) rest

-- the new patch of a table with so many new facts, if it has any
abbrev pub new_patch : ℕ → ℕ → ℕ → List (List Place) → List Patch
new_patch tag facts id units = if facts == 0 then [] else record { tag = tag; facts = facts; segments = segments_from id units } ∷ []

-- those of tables from a tag on, each on the next of the units
abbrev pub added_from : ℕ → List ℕ → ℕ → List (List Place) → List Patch
added_from tag [] id units = []
added_from tag (n ∷ counts) id units =
    new_patch tag n id (take (segments_for n) units) ++ added_from (tag + 1) counts (id + segments_for n) (drop (segments_for n) units)

-- those of all tables
abbrev pub added_patches : Counts → ℕ → List (List Place) → List Patch
added_patches c id units = added_from 1 (counts_of c) id units

-- ---- old and new ones

-- the patches of a table
abbrev pub of_tag : ℕ → List Patch → List Patch
of_tag tag ps = filter (λ p. p.tag == tag) ps

-- of each table the old patches, and behind them the new ones
abbrev pub by_tag : List Patch → List Patch → List Patch
by_tag old new = flat_map (λ tag. of_tag tag old ++ of_tag tag new) (range_with_len 1 TAG_MAX)
