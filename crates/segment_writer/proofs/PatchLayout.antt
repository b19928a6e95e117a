-- A patch as segments that are written together.
use Rattle.segment_writer.proofs.Prelude.{nat_tests, ◌≡◌, ℕ, zero, suc, ◌+◌, ◌-◌, ◌*◌, ◌<◌, ◌≤◌, min, Bool, List, [], ◌∷◌, length, map, take, drop, get_or, sym, subst, ◌∙◌, ap, arith, Some, slice_get, length-drop, length-take, take-append-drop, AllByRecursion, take-map, drop-map, take_min, length-map, same_Some, Place, AnyFact, Patch, PatchSegment, Header, IsLawful, places_of_part, pages_in_part, all_append_left, all_append_right, Device, Image, Shelved, Continues, Open, bytes_of, HoldsStripe, LosesOnly, MayBeWritten, FactsOf, HoldsPatch, facts_of_part, id_of_part, header_of_part, layout_of_patch, stripes_of_facts, HasItsSegments, MayBeSpelled, MayBeStored, MayBeHeaded}
use Rattle.segment_codec.specs.declared.kind.SegmentKind.TheVariants as kinds
use Rattle.segment_io.proofs.InTurn.{same_stripe}
use Rattle.segment_writer.proofs.Apart.{segment_kept}
use Rattle.patch_io.proofs.Parts.{places_of}
use Rattle.segment_writer.specs.Layout as layout

-- ---- the facts of one segment

-- the facts of a slice are those of the part
pub part_facts : {F : Type 0} (any : F → AnyFact) (xs : List F) (part start end : ℕ) → start ≡ 6720 * part → end ≡ min (start + 6720) (length xs) → start ≤ length xs → map any (take (end - start) (drop start xs)) ≡ facts_of_part (map any xs) part
part_facts any xs part start end from to within =
    sym (take-map any (end - start) (drop start xs))
    ∙ ap (take (end - start)) (sym (drop-map any start xs))
    ∙ ap (λ (k : ℕ). take k (drop start (map any xs))) sizes
    ∙ take_min 6720 (drop start (map any xs))
    ∙ ap (λ (s : ℕ). take 6720 (drop s (map any xs))) from
  where
    sizes : end - start ≡ min 6720 (length (drop start (map any xs)))
    sizes = omega (arith, length-drop start (map any xs), length-map xs any, to, within)

pub part_lawful : (facts : List AnyFact) (part : ℕ) → AllByRecursion IsLawful facts → AllByRecursion IsLawful (facts_of_part facts part)
part_lawful facts part all =
    let behind : AllByRecursion IsLawful (drop (6720 * part) facts) = all_append_right IsLawful (take (6720 * part) facts) (drop (6720 * part) facts) (subst (AllByRecursion IsLawful) (sym (take-append-drop (6720 * part) facts)) all) in
    all_append_left IsLawful (facts_of_part facts part) (drop 6720 (drop (6720 * part) facts)) (subst (AllByRecursion IsLawful) (sym (take-append-drop 6720 (drop (6720 * part) facts))) behind)

pub part_size : (facts : List AnyFact) (part : ℕ) → length (facts_of_part facts part) ≡ min 6720 (length facts - 6720 * part)
part_size facts part = length-take 6720 (drop (6720 * part) facts) ∙ ap (min 6720) (length-drop (6720 * part) facts)

pub part_fits : (facts : List AnyFact) (part : ℕ) → length (facts_of_part facts part) ≤ 6720
part_fits facts part = omega (arith, length-take 6720 (drop (6720 * part) facts))

-- ---- one header

-- the header with these fields
abbrev pub header_with : Patch → ℕ → ℕ → ℕ → ℕ → ℕ → List Place → Header
header_with p generation part id placed parts places = record {
  segment = record { 0 = id };
  generation = generation;
  kind = kinds.Patch;
  shard = 0;
  placed = placed;
  tag = p.tag;
  part = part;
  parts = parts;
  facts = p.facts;
  places = places;
}

pub same_header : (p : Patch) (generation part id placed parts : ℕ) (places : List Place) → id ≡ id_of_part p part → placed ≡ pages_in_part p.facts part → parts ≡ length p.segments → places ≡ places_of_part p part
    → header_with p generation part id placed parts places ≡ header_of_part p generation part
same_header p generation part id placed parts places e f g h = grind (arith, nat_tests, pages_in_part)

-- the id of a segment of the list
pub ids_are : (p : Patch) (part : ℕ) (s : PatchSegment) → slice_get p.segments part ≡ Some s → id_of_part p part ≡ s.id
ids_are p part s at = id_in p.segments part s at
  where
    id_in : (ss : List PatchSegment) (k : ℕ) (x : PatchSegment) → slice_get ss k ≡ Some x → get_or (map (λ s. s.id) ss) k 0 ≡ x.id
    id_in [] k x is = absurd (cc)
    id_in (y ∷ ss) zero x is = let e : y ≡ x = same_Some y x is in ap (λ (t : PatchSegment). t.id) e
    id_in (y ∷ ss) (suc k) x is = id_in ss k x is

pub few_stripes : (facts : List AnyFact) (part : ℕ) → stripes_of_facts facts part ≤ 15
few_stripes facts part = omega (arith, part_fits facts part)

-- the facts of a patch stay where the stripes do
pub patch_kept : (image next : Image) (p : Patch) (was now : List Bool) (facts : List AnyFact)
    → ((k stripe : ℕ) (shards : List (List ℕ)) → k < length p.segments → stripe < 15 → HoldsStripe image (places_of_part p k) was stripe shards → HoldsStripe next (places_of_part p k) now stripe shards) → HoldsPatch image p was facts → HoldsPatch next p now facts
patch_kept image next p was now facts stay holds part within =
    segment_kept image next (places_of_part p part) was now (stripes_of_facts facts part) (FactsOf facts part) (few_stripes facts part) (λ stripe shards low. stay part stripe shards within low) (holds part within)

-- ---- what may be written

-- the header of a segment can be spelled
pub may_be_written : (shelf : Shelved) (p : Patch) (generation part : ℕ) → MayBeHeaded shelf p → part < length p.segments → MayBeWritten (header_of_part p generation part)
may_be_written shelf p generation part headed within = grind (arith, nat_tests)

pub may_be_headed : (shelf : Shelved) (p : Patch) (generation : ℕ) → MayBeHeaded shelf p → layout.MayBeHeaded shelf (layout_of_patch p generation)
may_be_headed shelf p generation headed = record {
  places = λ part within. places_of shelf p part headed.lawful within;
  apart = headed.apart;
  headers = λ part within. may_be_written shelf p generation part headed within;
}

pub has_its_segments : (shelf : Shelved) (p : Patch) → MayBeHeaded shelf p → HasItsSegments p
has_its_segments shelf p headed = record { room = headed.lawful.room; few = headed.few }

pub may_be_spelled : (shelf : Shelved) (p : Patch) (facts : List AnyFact) → MayBeStored shelf p facts → MayBeSpelled p facts
may_be_spelled shelf p facts stored = record { room = stored.lawful.room; few = stored.lawful.facts.1; count = stored.count; each = stored.each }

pub have_stripes : (p : Patch) (generation : ℕ) (facts : List AnyFact) → MayBeSpelled p facts → layout.HaveStripes (layout_of_patch p generation) (stripes_of_facts facts)
have_stripes p generation facts spelled part within = grind (arith, nat_tests, part_size)

-- a shelf of the same size
pub headed_later : (a b : Shelved) (p : Patch) → Continues a b → MayBeHeaded a p → MayBeHeaded b p
headed_later a b p continues headed = grind (arith, nat_tests)

-- open segments know nothing of the generation
pub open_under : (p : Patch) (generation other : ℕ) (lost : List Bool) (list : List Open) → layout.AreAllOpen (layout_of_patch p generation) lost list → layout.AreAllOpen (layout_of_patch p other) lost list
open_under p generation other lost list opened = grind (arith, nat_tests)

-- facts stay where the drives are synced
pub synced_kept : (a b : Shelved) (p : Patch) (was now : List Bool) (facts : List AnyFact) → LosesOnly a b was now → ((device : Device) → (b.disk device).bytes ≡ (a.disk device).bytes) → HoldsPatch (bytes_of a) p was facts → HoldsPatch (bytes_of b) p now facts
synced_kept a b p was now facts loses same holds =
    patch_kept (bytes_of a) (bytes_of b) p was now facts (λ k stripe shards lt low. same_stripe a b (places_of_part p k) was now stripe shards loses same) holds
