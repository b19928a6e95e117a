use Rattle.lower_tests.proofs.Prelude.{◌≡◌, List, [], ◌∷◌, refl, ap, ◌∙◌, arith, rules, segment_key, never, key_of, segments, SegmentFact, says_is, BootRecord, ArePlaces, named_segments, used_places}
use Rattle.array_spec.specs.Prelude.{Facts, is_elided}
use Rattle.pur_base.specs.declared.request.Table.TheVariants as table
use Rattle.lower_tests.specs.declared.room.TheConstants.{SEGMENT}
use Rattle.free_space.specs.Map.{shelf_of, AreDataSegments}
use Rattle.lower_tests.proofs.room.the_free_units_of_the_members_are_counted.Goals as goal

-- tables of these data segments alone
abbrev tables_of : List SegmentFact → Facts
tables_of ds = record { objects = []; mediums = []; addresses = []; segments = ds; elisions = [] }

no_segments : (boot : BootRecord) → boot.patches ≡ [] → boot.next.segment ≡ 1 → AreDataSegments boot []
no_segments boot patches next =
    let visible : segments (tables_of []) boot.next.segment ≡ [] = ap (segments (tables_of [])) next in
    let named : named_segments boot ≡ [] = rw patches refl in
    let used : used_places boot (tables_of []) ≡ [] = rw (patches, visible) refl in
    record {
      tables = tables_of [];
      visible = visible;
      sound = record {
        places = λ id d e. absurd (cc);
        patch_ids = rw named tt;
        distinct = rw named (λ i j d l m. absurd (omega (arith, m)));
        apart = rw used (λ i j d l m. absurd (omega (arith, m)));
      };
    }

one_segment : (boot : BootRecord) → boot.slots ≡ 12 → boot.units ≡ 64 → boot.patches ≡ [] → boot.next.segment ≡ 1 → AreDataSegments boot (SEGMENT ∷ [])
one_segment boot slots units patches next =
    let visible : segments (tables_of (SEGMENT ∷ [])) boot.next.segment ≡ SEGMENT ∷ [] = ap (segments (tables_of (SEGMENT ∷ []))) next ∙ refl in
    let named : named_segments boot ≡ [] = rw patches refl in
    let used : used_places boot (tables_of (SEGMENT ∷ [])) ≡ SEGMENT.places ∷ [] = rw (patches, visible) refl in
    let lawful : ArePlaces (shelf_of boot) SEGMENT.places = rw (slots, units) (search rules) in
    record {
      tables = tables_of (SEGMENT ∷ []);
      visible = visible;
      sound = record {
        places = λ id d e. (says_is segment_key (λ f. f.seq.0) never (λ (f : SegmentFact). ArePlaces (shelf_of boot) f.places) (SEGMENT ∷ []) (is_elided [] table.Segment) (key_of id 0) d (lawful, tt) e).0;
        patch_ids = rw named tt;
        distinct = rw named (λ i j d l m. absurd (omega (arith, m)));
        apart = rw used (λ i j d l m. absurd (omega (arith, l, m)));
      };
    }

pub groups_left-none-requires-clause-sound : goal.groups_left-none-requires-clause-sound
groups_left-none-requires-clause-sound g c = no_segments c.new_record-record.result c.new_record-record.ensures.patches c.new_record-record.ensures.segments

pub groups_left-one-requires-clause-sound : goal.groups_left-one-requires-clause-sound
groups_left-one-requires-clause-sound g c = one_segment c.new_record-record.result c.new_record-record.ensures.slots c.new_record-record.ensures.units c.new_record-record.ensures.patches c.new_record-record.ensures.segments
