use Rattle.array_memory.proofs.Prelude.{refl, memory_of, kept_of_sound, loaded_ranges, own_names, sound_with}
use Rattle.array_memory.proofs.loading.of_facts.Goals as goal

pub elided_ids-requires-clause-ranges : goal.elided_ids-requires-clause-ranges
elided_ids-requires-clause-ranges c = loaded_ranges c.args.objects c.args.mediums c.args.addresses c.args.segments c.args.elisions c.args.next c.requires.sound

pub seen_tables-requires : goal.seen_tables-requires
seen_tables-requires c =
    own_names c.in_ok-elided.elided c.args.elisions c.requires.flushed c.in_ok-elided.ensures.elided c.args.objects c.args.mediums c.args.addresses c.args.segments c.args.next c.requires.sound

pub invariant_of-result : goal.invariant_of-result
invariant_of-result c =
    kept_of_sound c.in_ok-elided.elided c.args.elisions c.requires.flushed c.in_ok-elided.ensures.elided c.in_ok-objects.objects _ _ c.in_ok-objects.segments _ _ c.args.next
    (sound_with (memory_of c.args.objects c.args.mediums c.args.addresses c.args.segments c.args.elisions c.args.next) _ c.in_ok-objects.ensures.objects c.from_facts.ensures c.from_facts-2.ensures
    c.in_ok-objects.ensures.segments refl c.new.ensures.items refl c.requires.sound)
    c.in_ok-elided.ensures.apart c.in_ok-objects.ensures.visible c.in_ok-objects.ensures.shown
