use Rattle.array_memory.proofs.Prelude.{◌∙◌, refl, ap, Memory, Kept, memory_of, with_room_of, objects_rise, mediums_rise, addresses_rise, segments_rise, elisions_rise, loaded_sound, loaded_reads, loaded_stored, loaded_with_room}
use Rattle.loaded_tables.specs.declared.tables.LoadedTables.{LoadedTables}
use Rattle.array_memory.proofs.memory.Memory.from_tables.Goals as goal

pub from_patches-objects-requires : goal.from_patches-objects-requires
from_patches-objects-requires c =
    let t : LoadedTables = record { objects = c.args.objects; mediums = c.args.mediums; addresses = c.args.addresses; segments = c.args.segments; elisions = c.args.elisions } in
    objects_rise c.requires.sound.0 c.args.boot.now t c.requires.sound.1 c.requires.named

pub from_patches-mediums-requires : goal.from_patches-mediums-requires
from_patches-mediums-requires c =
    let t : LoadedTables = record { objects = c.args.objects; mediums = c.args.mediums; addresses = c.args.addresses; segments = c.args.segments; elisions = c.args.elisions } in
    mediums_rise c.requires.sound.0 c.args.boot.now t c.requires.sound.1 c.requires.named

pub from_patches-addresses-requires : goal.from_patches-addresses-requires
from_patches-addresses-requires c =
    let t : LoadedTables = record { objects = c.args.objects; mediums = c.args.mediums; addresses = c.args.addresses; segments = c.args.segments; elisions = c.args.elisions } in
    addresses_rise c.requires.sound.0 c.args.boot.now t c.requires.sound.1 c.requires.named

pub from_patches-segments-requires : goal.from_patches-segments-requires
from_patches-segments-requires c =
    let t : LoadedTables = record { objects = c.args.objects; mediums = c.args.mediums; addresses = c.args.addresses; segments = c.args.segments; elisions = c.args.elisions } in
    segments_rise c.requires.sound.0 c.args.boot.now t c.requires.sound.1 c.requires.named

pub from_patches-elisions-requires : goal.from_patches-elisions-requires
from_patches-elisions-requires c =
    let t : LoadedTables = record { objects = c.args.objects; mediums = c.args.mediums; addresses = c.args.addresses; segments = c.args.segments; elisions = c.args.elisions } in
    elisions_rise c.requires.sound.0 c.args.boot.now t c.requires.sound.1 c.requires.named

pub of_facts-requires-clause-sound : goal.of_facts-requires-clause-sound
of_facts-requires-clause-sound c =
    let t : LoadedTables = record { objects = c.args.objects; mediums = c.args.mediums; addresses = c.args.addresses; segments = c.args.segments; elisions = c.args.elisions } in
    loaded_sound c.requires.sound.0 c.args.boot.now t c.requires.sound.1 c.requires.facts c.requires.next
    (memory_of c.from_patches-objects.result c.from_patches-mediums.result c.from_patches-addresses.result c.from_patches-segments.result c.from_patches-elisions.result c.args.boot.now.next)
    (record {
      objects = record { patches = c.from_patches-objects.ensures.patches; unflushed = c.from_patches-objects.ensures.unflushed.0; layered = c.from_patches-objects.ensures.layered };
      mediums = record { patches = c.from_patches-mediums.ensures.patches; unflushed = c.from_patches-mediums.ensures.unflushed.0; layered = c.from_patches-mediums.ensures.layered };
      addresses = record { patches = c.from_patches-addresses.ensures.patches; unflushed = c.from_patches-addresses.ensures.unflushed.0; layered = c.from_patches-addresses.ensures.layered };
      segments = record { patches = c.from_patches-segments.ensures.patches; unflushed = c.from_patches-segments.ensures.unflushed.0; layered = c.from_patches-segments.ensures.layered };
      elisions = record { patches = c.from_patches-elisions.ensures.patches; unflushed = c.from_patches-elisions.ensures.unflushed.0; layered = c.from_patches-elisions.ensures.layered };
      staged = refl;
      next = refl;
    })

pub of_facts-requires-clause-flushed : goal.of_facts-requires-clause-flushed
of_facts-requires-clause-flushed c = c.from_patches-elisions.ensures.unflushed.0

pub returns-clause-loaded : goal.returns-clause-loaded
returns-clause-loaded c =
    let t : LoadedTables = record { objects = c.args.objects; mediums = c.args.mediums; addresses = c.args.addresses; segments = c.args.segments; elisions = c.args.elisions } in
    let of_facts = memory_of c.from_patches-objects.result c.from_patches-mediums.result c.from_patches-addresses.result c.from_patches-segments.result c.from_patches-elisions.result c.args.boot.now.next in
    loaded_with_room c.args.boot.now t of_facts c.reserve.new.self.memory
    (record {
      objects = record { patches = c.from_patches-objects.ensures.patches; unflushed = c.from_patches-objects.ensures.unflushed.0; layered = c.from_patches-objects.ensures.layered };
      mediums = record { patches = c.from_patches-mediums.ensures.patches; unflushed = c.from_patches-mediums.ensures.unflushed.0; layered = c.from_patches-mediums.ensures.layered };
      addresses = record { patches = c.from_patches-addresses.ensures.patches; unflushed = c.from_patches-addresses.ensures.unflushed.0; layered = c.from_patches-addresses.ensures.layered };
      segments = record { patches = c.from_patches-segments.ensures.patches; unflushed = c.from_patches-segments.ensures.unflushed.0; layered = c.from_patches-segments.ensures.layered };
      elisions = record { patches = c.from_patches-elisions.ensures.patches; unflushed = c.from_patches-elisions.ensures.unflushed.0; layered = c.from_patches-elisions.ensures.layered };
      staged = refl;
      next = refl;
    })
    (ap (λ (k : Kept). k.memory) c.reserve.ensures.rest ∙ ap (λ (m : Memory). with_room_of m c.reserve.new.self.memory) c.in_ok-memory.ensures)

pub returns-clause-sound : goal.returns-clause-sound
returns-clause-sound c =
    let t : LoadedTables = record { objects = c.args.objects; mediums = c.args.mediums; addresses = c.args.addresses; segments = c.args.segments; elisions = c.args.elisions } in
    loaded_sound c.requires.sound.0 c.args.boot.now t c.requires.sound.1 c.requires.facts c.requires.next c.reserve.new.self.memory (returns-clause-loaded c)

pub returns-clause-reads : goal.returns-clause-reads
returns-clause-reads c =
    let t : LoadedTables = record { objects = c.args.objects; mediums = c.args.mediums; addresses = c.args.addresses; segments = c.args.segments; elisions = c.args.elisions } in
    loaded_reads c.requires.sound.0 c.args.boot.now t c.requires.sound.1 c.requires.facts c.requires.next c.reserve.new.self.memory (returns-clause-loaded c)

pub returns-clause-stored : goal.returns-clause-stored
returns-clause-stored c =
    let t : LoadedTables = record { objects = c.args.objects; mediums = c.args.mediums; addresses = c.args.addresses; segments = c.args.segments; elisions = c.args.elisions } in
    loaded_stored c.requires.sound.0 c.args.boot.now t c.requires.sound.1 c.requires.facts c.requires.next c.reserve.new.self.memory (returns-clause-loaded c)
