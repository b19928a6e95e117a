-- Sectors that stand in their segments are shown by views of them.
use Rattle.segment_writer.proofs.Prelude.{◌≡◌, ℕ, ◌+◌, ◌*◌, ◌<◌, Bool, List, [], length, drop, get_or, sym, subst, ◌∙◌, arith, get_or-take, get_or-drop, slice_get_within, Image, View, SegmentFact, SectorStands, StripesStand, Shelved, Stop, MayStop, order_of_segment, segment_in, places_in, HaveNine, AreFilled, MayBePlaced, HoldsData, ShowsMostOf, HasWrittenData, layout_of_data, stripes_of_order, SectorsOf, DataStands}
use Rattle.segment_writer.proofs.DataLayout.{segment_is, part_size, part_fits, have_stripes}
use Rattle.segment_writer.proofs.Synced.{holds_after}
use Rattle.segment_writer.proofs.DataWritten.{stripes_shown, sectors_shown}

module _ (image : Image) (segments : List SegmentFact) (lost : List Bool) (staged : List (List ℕ)) (order : List ℕ) (view : View) (nine : HaveNine segments) (filled : AreFilled segments (length order)) (holds : HoldsData image segments lost staged order) (shows : ShowsMostOf image segments lost view) where
  many : (number : ℕ) → number < length segments → length (order_of_segment order number) ≡ (segment_in segments number).placed
  many number within = omega (arith, part_size order number, filled.placed number within)

  stripes_of : (number : ℕ) → number < length segments → StripesStand view (places_in segments number) (segment_in segments number).placed
  stripes_of number within =
      subst (StripesStand view (places_in segments number)) (many number within)
      (stripes_shown image (places_in segments number) lost staged (order_of_segment order number) view (nine number within) (part_fits order number) (holds number within) (shows number within))

  -- the index of a sector in the order of its segment
  index_is : (number index : ℕ) → index < 840 → get_or (order_of_segment order number) index 0 ≡ get_or order (840 * number + index) 0
  index_is number index lt = get_or-take 840 (drop (840 * number) order) index 0 lt ∙ get_or-drop (840 * number) order index 0

  sector_of : (number index : ℕ) → number < length segments → index < (segment_in segments number).placed → SectorStands view (places_in segments number) index (get_or staged (get_or order (840 * number + index) 0) [])
  sector_of number index within lt =
      let here : index < length (order_of_segment order number) = omega (arith, many number within, lt) in
      subst (λ (i : ℕ). SectorStands view (places_in segments number) index (get_or staged i [])) (index_is number index (omega (arith, here, part_fits order number)))
      (sectors_shown image (places_in segments number) lost staged (order_of_segment order number) view (nine number within) (part_fits order number) (holds number within) (shows number within) index here)

  pub data_shown : DataStands view segments staged order
  data_shown = record {
    stripes = λ number d at. subst (λ (e : SegmentFact). StripesStand view e.places e.placed) (segment_is segments number d at) (stripes_of number (slice_get_within segments number d at));
    sectors = λ number index d at lt.
        let same = segment_is segments number d at in
        subst (λ (e : SegmentFact). SectorStands view e.places index (get_or staged (get_or order (840 * number + index) 0) [])) same
        (sector_of number index (slice_get_within segments number d at) (subst (λ (e : SegmentFact). index < e.placed) (sym same) lt));
  }

-- what was written is shown after a stop
pub shown_after : (a e : Shelved) (segments : List SegmentFact) (generation : ℕ) (lost : List Bool) (staged : List (List ℕ)) (order : List ℕ) (stop : Stop) (view : View) → MayBePlaced a segments staged order → HasWrittenData e segments generation lost staged order → MayStop e stop → ShowsMostOf stop.image segments lost view
    → DataStands view segments staged order
shown_after a e segments generation lost staged order stop view placed written may shows =
    data_shown stop.image segments lost staged order view (λ number within. (placed.places number within).nine) placed.filled
    (holds_after e (layout_of_data segments generation) lost (stripes_of_order order) (SectorsOf staged order) stop (have_stripes segments generation order placed.filled) written may) shows
