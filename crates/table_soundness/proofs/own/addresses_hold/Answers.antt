use Rattle.table_soundness.proofs.Prelude.{ap, sym, subst, address_key, object_key, segment_key, never, is_elided, facts_of, IsShown, IsSmall, facts_in}
use Rattle.pur_base.specs.declared.request.Table.TheVariants as table
use Rattle.table_soundness.proofs.FaultLemmas.{shown_facts, small_objects, small_sectors, small_segments}
use Rattle.table_soundness.proofs.own.addresses_hold.Goals as goal

pub are_addresses_sound-requires-clause-segments : goal.are_addresses_sound-requires-clause-segments
are_addresses_sound-requires-clause-segments c = rw c.deref-4.ensures.value c.requires.visible.segments.ascends

pub are_addresses_sound-requires-clause-ascends : goal.are_addresses_sound-requires-clause-ascends
are_addresses_sound-requires-clause-ascends c = rw c.deref-2.ensures.value c.requires.visible.addresses.ascends

pub are_addresses_sound-requires-clause-facts : goal.are_addresses_sound-requires-clause-facts
are_addresses_sound-requires-clause-facts c = rw c.deref.ensures.value (small_sectors (facts_of c.args.tables.now.addresses.items) c.requires.facts.addresses)

pub are_addresses_sound-requires-clause-small : goal.are_addresses_sound-requires-clause-small
are_addresses_sound-requires-clause-small c =
    let t = c.args.tables.now in
    rw c.deref-2.ensures.value (shown_facts IsSmall address_key (λ f. f.seq.0) never (facts_of t.addresses.items) (is_elided (facts_of t.elisions.items) table.Address) c.args.visible.now.addresses.items
    (small_sectors (facts_of t.addresses.items) c.requires.facts.addresses) c.requires.visible.addresses)

pub returns : goal.returns
returns c =
    let t = c.args.tables.now in
    let seen = subst (λ xs. IsShown address_key (λ f. f.seq.0) never (facts_of t.addresses.items) (is_elided (facts_of t.elisions.items) table.Address) xs) (sym c.deref-2.ensures.value) c.requires.visible.addresses in
    let seen_objects = subst (λ xs. IsShown object_key (λ f. f.seq.0) never (facts_of t.objects.items) (is_elided (facts_of t.elisions.items) table.Object) xs) (sym c.deref-3.ensures.value) c.requires.visible.objects in
    let seen_segments = subst (λ xs. IsShown segment_key (λ f. f.seq.0) never (facts_of t.segments.items) (is_elided (facts_of t.elisions.items) table.Segment) xs) (sym c.deref-4.ensures.value) c.requires.visible.segments in
    c.are_addresses_sound.ensures (facts_in t) (ap facts_of (sym c.deref.ensures.value)) (small_objects (facts_of t.objects.items) c.requires.facts.objects) (small_segments (facts_of t.segments.items) c.requires.facts.segments)
    seen seen_objects seen_segments
