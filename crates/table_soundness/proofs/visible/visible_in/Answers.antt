use Rattle.table_soundness.proofs.Prelude.{object_key, medium_key, address_key, segment_key, is_empty_range, never, is_elided, is_within, ranges_of, facts_of}
use Rattle.pur_base.specs.declared.request.Table.TheVariants as table
use Rattle.table_soundness.proofs.FaultLemmas.{shown_with}
use Rattle.table_soundness.proofs.visible.visible_in.Goals as goal

pub returns : goal.returns
returns c =
    let t = c.args.tables.now in
    let e = c.args.elided.now in
    record {
      objects = shown_with object_key (λ f. f.seq.0) never (facts_of t.objects.items) (is_within (ranges_of e table.Object)) (is_elided (facts_of t.elisions.items) table.Object) c.in_ok-objects.objects.items (c.requires.ids table.Object)
          (rw (c.deref.ensures.value, c.ranges-no_objects.ensures.value) at c.in_ok-objects.ensures);
      mediums = shown_with medium_key (λ f. f.seq.0) is_empty_range (facts_of t.mediums.items) (is_within (ranges_of e table.Medium)) (is_elided (facts_of t.elisions.items) table.Medium) c.in_ok-mediums.mediums.items (c.requires.ids table.Medium)
          (rw (c.deref-2.ensures.value, c.ranges-no_mediums.ensures.value) at c.in_ok-mediums.ensures);
      addresses = shown_with address_key (λ f. f.seq.0) never (facts_of t.addresses.items) (is_within (ranges_of e table.Address)) (is_elided (facts_of t.elisions.items) table.Address) c.in_ok-addresses.addresses.items (c.requires.ids table.Address)
          (rw (c.deref-3.ensures.value, c.ranges-no_addresses.ensures.value) at c.in_ok-addresses.ensures);
      segments = shown_with segment_key (λ f. f.seq.0) never (facts_of t.segments.items) (is_within (ranges_of e table.Segment)) (is_elided (facts_of t.elisions.items) table.Segment) c.in_ok-segments.segments.items (c.requires.ids table.Segment)
          (rw (c.deref-4.ensures.value, c.ranges-no_segments.ensures.value) at c.in_ok-segments.ensures);
    }
