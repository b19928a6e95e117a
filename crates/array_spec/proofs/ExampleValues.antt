-- The small examples.
use Rattle.array_spec.proofs.Prelude.{nat_tests, ◌≡◌, ℕ, ◌+◌, ◌*◌, ◌≤◌, ◌<◌, List, [], ◌∷◌, min, refl, arith, lit≤, lit<, sum_by, here, below, IsGroups, units_for}
use Rattle.std.proofs.lemmas.List.Sums.{sum_by-cons}
use Rattle.array_spec.specs.Examples.{GroupsOfEleven, WhatFactsSay, new_range}

-- no more units are taken than are free
at_most : (g : ℕ) (free : List ℕ) → units_for g free ≤ sum_by (λ n. n) free
at_most g [] = omega arith
at_most g (n ∷ free) = omega (arith, sum_by-cons (min g) n free, sum_by-cons (λ m. m) n free, at_most g free)

groups_are : (free : List ℕ) (g total : ℕ) → sum_by (λ n. n) free ≡ total → 9 * g ≤ units_for g free → total < 9 * g + 9 → IsGroups free g
groups_are free g total is enough few = grind (arith, nat_tests, sum_by, at_most)

pub groups_of_eleven : GroupsOfEleven
groups_of_eleven = grind (arith, nat_tests, groups_are)

pub what_facts_say : WhatFactsSay
what_facts_say = record {
  newest = refl;
  through = refl;
  reads = below new_range refl (record { there = refl; from_start = lit≤ tt; below_end = lit< tt }) (here refl);
  elided = refl;
  next_elided = refl;
  mediums = refl;
  stored = refl;
  pointed = refl;
}
