-- The small memory, step by step: no facts, two creations, and a write.
use Rattle.memory_spec.proofs.Prelude.{nat_tests, ◌≡◌, ℕ, [], ◌∷◌, length, refl, ap, ◌∙◌, arith, inl, inr, Some, None, Contains, AllPairs, length-replicate, filled, tag_of, SECTOR_BYTES, Target, Stored, Zero, here, there, either, nowhere, Memory, IsSound, HasCreated, HasPut, volumes_own}
use Rattle.memory_spec.specs.Examples.{volume, written, memory_of, next_of, TwoVolumesRead}
use Rattle.memory_spec.proofs.Putting.{putting_reads}
use Rattle.memory_spec.proofs.Created.{creating_reads}

abbrev None_yet : Memory
None_yet = memory_of [] [] [] (next_of 1 1 1)

abbrev One : Memory
One = memory_of (volume 1 (97 ∷ []) 1 ∷ []) [] [] (next_of 2 2 2)

abbrev Two : Memory
Two = memory_of (volume 1 (97 ∷ []) 1 ∷ volume 2 (98 ∷ []) 2 ∷ []) [] [] (next_of 3 3 3)

abbrev Written : Memory
Written = memory_of (volume 1 (97 ∷ []) 1 ∷ volume 2 (98 ∷ []) 2 ∷ []) (written ∷ []) (filled 7 ∷ []) (next_of 3 3 4)

no_pairs : {X : Type 0} (R : X → X → Type 0) → AllPairs R []
no_pairs R i j d l m = absurd (omega (arith, m))

nothing_said : {X : Type 0} {x : X} → None ≡ Some x → ⊥
nothing_said e = cc

none_sound : IsSound None_yet
none_sound = grind (arith, nat_tests, nowhere, no_pairs, nothing_said, there, tag_of)

alone : {X : Type 0} (x f : X) → Contains (x ∷ []) f → f ≡ x
alone x f c = elim (either x f [] c) [ inl same ↦ same | inr d ↦ absurd (nowhere f d) ]

first_made : HasCreated None_yet One (volume 1 (97 ∷ []) 1)
first_made = grind (arith, nat_tests, alone, nowhere, here)

second_made : HasCreated One Two (volume 2 (98 ∷ []) 2)
second_made = grind (arith, nat_tests, either, here, alone, there)

put_there : HasPut Two Written (written ∷ []) (filled 7 ∷ [])
put_there = grind (arith, nat_tests, nowhere)

filled_long : length (filled 7) ≡ SECTOR_BYTES
unfolding filled
filled_long = length-replicate {A = ℕ} SECTOR_BYTES 7

-- the segment of a target, and 0 of zeros
abbrev segment_of : Target → ℕ
segment_of (Stored at) = at.segment.0
segment_of Zero = 0

pub two_volumes_read : TwoVolumesRead
two_volumes_read contents =
    let first = creating_reads contents None_yet One (volume 1 (97 ∷ []) 1) [] (record { sound = none_sound; reads = tt })
    (record { object = refl; medium = refl; number = refl; kind = refl; name = refl; size = (omega arith, omega arith); objects_left = omega arith; mediums_left = omega arith; numbers_left = omega arith })
    refl (omega arith) first_made in
    let second = creating_reads contents One Two (volume 2 (98 ∷ []) 2) _ first
    (record { object = refl; medium = refl; number = refl; kind = refl; name = refl; size = (omega arith, omega arith); objects_left = omega arith; mediums_left = omega arith; numbers_left = omega arith })
    refl (omega arith) second_made in
    let own = volumes_own contents Two _ (98 ∷ []) (volume 2 (98 ∷ []) 2) 1 1 second (1, omega arith, refl) refl refl (omega arith) in
    putting_reads contents Two Written (98 ∷ []) 2 1 (Stored (record { segment = record { 0 = 0 }; index = 0 }) ∷ []) (filled 7 ∷ []) (filled 7 ∷ []) _ second own (refl, tt)
    (λ at c. ap segment_of (alone (Stored (record { segment = record { 0 = 0 }; index = 0 })) (Stored at) c))
    (λ s c. ap length (alone (filled 7) s c) ∙ filled_long) (omega arith) put_there
