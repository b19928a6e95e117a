-- Of what memory being sound depends.
use Rattle.command_spec.proofs.Prelude.{nat_tests, ◌≡◌, ℕ, ◌+◌, ◌<◌, ◌≤◌, List, [], refl, sym, arith, subst, All, All-contains, Contains-append_left, Array, ElisionFact, NextNumbers, AreNext, NUMBER_LIMIT, Layers, facts_in, facts_of, all_contained, Memory, Contents, IsSound, ReadsAs, facts, all_objects, all_elisions, IsRange, elided_ranges, Kept, with_rooms}
use Rattle.memory_spec.specs.Prelude.{Facts, ObjectFact, IsFact}
use Rattle.pur_base.specs.declared.facts.AnyFact.TheVariants as any

-- the memory of these facts, of which none is flushed
abbrev pub plain : Facts → List (List ℕ) → NextNumbers → Memory
plain f staged next = record {
  tables = record {
    objects = record { patches = []; unflushed = f.objects; room = 0; patch_room = 0 };
    mediums = record { patches = []; unflushed = f.mediums; room = 0; patch_room = 0 };
    addresses = record { patches = []; unflushed = f.addresses; room = 0; patch_room = 0 };
    segments = record { patches = []; unflushed = f.segments; room = 0; patch_room = 0 };
    elisions = record { patches = []; unflushed = f.elisions; room = 0; patch_room = 0 };
  };
  staged = staged;
  next = next;
}

sound_plain : (m : Memory) (id : ℕ) → AreNext (record m.next { patch_segment = id }) → IsSound m → IsSound (plain (facts m.tables) m.staged (record m.next { patch_segment = id }))
sound_plain m id next s = grind (arith, nat_tests)

plain_sound : (m : Memory) → IsSound (plain (facts m.tables) m.staged m.next) → IsSound m
plain_sound m s = grind (arith, nat_tests)

-- soundness is of facts, staged sectors and next numbers, of which that of segments of patches may be any
sound_but : (m n : Memory) (id : ℕ) → facts n.tables ≡ facts m.tables → n.staged ≡ m.staged → n.next ≡ record m.next { patch_segment = id } → AreNext (record m.next { patch_segment = id }) → IsSound m → IsSound n
sound_but m n id f st ne next s = grind (arith, nat_tests, plain_sound, facts, sound_plain)

pub sound_as : (m n : Memory) → facts n.tables ≡ facts m.tables → n.staged ≡ m.staged → n.next ≡ m.next → IsSound m → IsSound n
sound_as m n f st ne s = sound_but m n m.next.patch_segment f st ne s.next s

-- so many ids of segments of patches may be given
pub numbered_sound : (m : Memory) (count : ℕ) → IsSound m → m.next.patch_segment + count < NUMBER_LIMIT → IsSound (record m { next = record m.next { patch_segment = m.next.patch_segment + count } })
numbered_sound m count s left = grind (arith, nat_tests, sound_but)

-- memory that has other room reads the same
pub reads_with_rooms : (was now : Kept) → now ≡ with_rooms was now → (contents : Contents) (array : Array) → ReadsAs contents was.memory array → ReadsAs contents now.memory array
reads_with_rooms was now rest contents array r =
    subst (λ (k : Kept). ReadsAs contents k.memory array) (sym rest) (record { sound = sound_as was.memory (with_rooms was now).memory refl refl refl r.sound; reads = r.reads })

-- its elisions are of ranges
pub sound_ranges : (m : Memory) → IsSound m → All IsRange (facts m.tables).elisions
sound_ranges m s = elided_ranges (facts m.tables).elisions (all_contained (λ f. IsFact (any.Elision f)) (facts m.tables).elisions (λ f c. s.fit (any.Elision f) (all_elisions (facts m.tables) f c)))

-- its objects have sectors
pub sound_sizes : (m : Memory) → IsSound m → All (λ (f : ObjectFact). 1 ≤ f.sectors) (facts m.tables).objects
sound_sizes m s = all_contained (λ (f : ObjectFact). 1 ≤ f.sectors) (facts m.tables).objects (λ f c.
    let fits : IsFact (any.Object f) = s.fit (any.Object f) (all_objects (facts m.tables) f c) in
    fits.lawful.statement.0)

-- and so are elisions of patches of ranges
pub ranges_of_patches : (e : Layers ElisionFact) → All IsRange (facts_in e) → All IsRange (facts_of e.patches)
ranges_of_patches e h = all_contained IsRange (facts_of e.patches) (λ f c. All-contains IsRange (facts_in e) f h (Contains-append_left (facts_of e.patches) e.unflushed f c))
