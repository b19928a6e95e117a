-- Data segments as segments that are written together.
use Rattle.segment_writer.proofs.Prelude.{nat_tests, ◌≡◌, ℕ, ◌+◌, ◌-◌, ◌*◌, ◌<◌, ◌≤◌, min, Bool, List, [], length, take, drop, ◌∙◌, ap, arith, Some, slice_get, length-drop, length-take, take_min, get_or_from_slice_get, SegmentFact, Image, Shelved, HoldsStripe, MayBeWritten, HaveStripes, AreFilled, MayBePlaced, order_of_segment, segment_in, places_in, HoldsData, SectorsOf, header_of_segment, layout_of_data, stripes_of_order}
use Rattle.segment_writer.proofs.Apart.{segment_kept}
use Rattle.segment_writer.specs.Layout.{MayBeHeaded}

-- ---- a segment of the list

pub segment_is : (segments : List SegmentFact) (number : ℕ) (d : SegmentFact) → slice_get segments number ≡ Some d → segment_in segments number ≡ d
segment_is segments number d at = get_or_from_slice_get segments number d (record { segment = record { 0 = 0 }; places = []; placed = 0; seq = record { 0 = 0 } }) at

-- ---- the order of one segment

-- the indices of a slice are those of the segment
pub part_order : (order : List ℕ) (number start end : ℕ) → start ≡ 840 * number → end ≡ min (start + 840) (length order) → start ≤ length order → take (end - start) (drop start order) ≡ order_of_segment order number
part_order order number start end from to within =
    ap (λ (k : ℕ). take k (drop start order)) sizes
    ∙ take_min 840 (drop start order)
    ∙ ap (λ (s : ℕ). take 840 (drop s order)) from
  where
    sizes : end - start ≡ min 840 (length (drop start order))
    sizes = omega (arith, length-drop start order, to, within)

pub part_size : (order : List ℕ) (number : ℕ) → length (order_of_segment order number) ≡ min 840 (length order - 840 * number)
part_size order number = length-take 840 (drop (840 * number) order) ∙ ap (min 840) (length-drop (840 * number) order)

pub part_fits : (order : List ℕ) (number : ℕ) → length (order_of_segment order number) ≤ 840
part_fits order number = omega (arith, part_size order number)

pub few_stripes : (order : List ℕ) (number : ℕ) → stripes_of_order order number ≤ 15
few_stripes order number = omega (arith, part_fits order number)

-- the sectors stay where the stripes do
pub data_kept : (image next : Image) (segments : List SegmentFact) (was now : List Bool) (staged : List (List ℕ)) (order : List ℕ)
    → ((k stripe : ℕ) (shards : List (List ℕ)) → k < length segments → stripe < 15 → HoldsStripe image (places_in segments k) was stripe shards → HoldsStripe next (places_in segments k) now stripe shards) → HoldsData image segments was staged order → HoldsData next segments now staged order
data_kept image next segments was now staged order stay holds number within =
    segment_kept image next (places_in segments number) was now (stripes_of_order order number) (SectorsOf staged order number) (few_stripes order number) (λ stripe shards low. stay number stripe shards within low) (holds number within)

-- ---- what may be written

-- its header can be spelled
pub may_be_written : (segment : SegmentFact) (generation : ℕ) → 1 ≤ segment.placed → segment.placed ≤ 840 → MayBeWritten (header_of_segment segment generation)
may_be_written segment generation some few = grind (arith, nat_tests)

pub may_be_headed : (shelf : Shelved) (segments : List SegmentFact) (generation : ℕ) (staged : List (List ℕ)) (order : List ℕ) → MayBePlaced shelf segments staged order → MayBeHeaded shelf (layout_of_data segments generation)
may_be_headed shelf segments generation staged order placed = grind (arith, nat_tests, may_be_written)

pub have_stripes : (segments : List SegmentFact) (generation : ℕ) (order : List ℕ) → AreFilled segments (length order) → HaveStripes (layout_of_data segments generation) (stripes_of_order order)
have_stripes segments generation order filled number within = grind (arith, nat_tests, part_size)
