-- The facts that take the front of a range away.
use Rattle.command_spec.proofs.Prelude.{nat_tests, ◌≡◌, ◌⊎◌, ℕ, ◌+◌, ◌<◌, ◌≤◌, length, arith, Contains, either, nowhere, cut_facts, emptied, rest_of}
use Rattle.pyramid.specs.Prelude.{medium_key, Ascends, MediumFact}

module _ (r : MediumFact) (to seq : ℕ) where
  pub cut_is : (f : MediumFact) → Contains (cut_facts r to seq) f → (f ≡ emptied r seq) ⊎ ((f ≡ rest_of r to (seq + 1)) × (to < r.end))
  cut_is f c = grind (arith, nat_tests, either, nowhere)

  pub cut_medium : (f : MediumFact) → Contains (cut_facts r to seq) f → f.medium.0 ≡ r.medium.0
  cut_medium f c = grind (arith, nat_tests, either, nowhere)

  pub cut_few : length (cut_facts r to seq) ≤ 2
  cut_few = grind (arith, nat_tests)

  pub cut_number : (f : MediumFact) → Contains (cut_facts r to seq) f → (seq ≤ f.seq.0) × (f.seq.0 < seq + length (cut_facts r to seq))
  cut_number f c = grind (arith, nat_tests, either, nowhere)

  pub cut_distinct : (f g : MediumFact) → Contains (cut_facts r to seq) f → Contains (cut_facts r to seq) g → f.seq.0 ≡ g.seq.0 → f ≡ g
  cut_distinct f g c d e = grind (arith, nat_tests, either, nowhere)

  pub cut_ascends : r.start < to → Ascends medium_key (cut_facts r to seq)
  cut_ascends l = grind (arith, nat_tests)
