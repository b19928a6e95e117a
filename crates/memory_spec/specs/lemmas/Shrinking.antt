-- Memory of which facts were left out, and that says the same, stays sound.
use Rattle.std.proofs.lemmas.Bool.Decides.{nat_tests}
use Rattle.std.proofs.Common.{◌≡◌, List, sym, ap, ◌∙◌, arith, inl, inr, subst, is_some, Contains, AllPairs, get_or}
use Rattle.std.specs.List.{AllByRecursion}
use Rattle.std.proofs.lemmas.List.Elements.{Contains-get_or}
use Rattle.array_spec.specs.Prelude.{tag_of, Location, ElisionFact, AnyFact, AreIdsBelow, AreObjectsSound, AreElisionsSound, Grows, FitTogether}
use Rattle.pur_base.specs.declared.request.Table.TheVariants as table
use Rattle.memory_spec.specs.Tables.{facts, all_of}
use Rattle.memory_spec.specs.Memory.{Memory, IsThere, IsSound}
use Rattle.memory_spec.specs.lemmas.Lists.{each_by_recursion, of_each, pairs_of}
use Rattle.memory_spec.specs.lemmas.Objects.{same_objects}
use Rattle.memory_spec.specs.lemmas.AllTables.{all_objects, all_mediums, all_addresses, all_segments, all_elisions, of_all}
use Rattle.memory_spec.specs.lemmas.Keeping.{objects_as, mediums_sound}
use Rattle.memory_spec.specs.lemmas.Moved.{same_reads}
use Rattle.memory_spec.specs.Flushing.{AreOf, IsShrunk, ShrinkingReads}

-- pairs of facts of which some are left out
pub pairs_of_fewer : {X : Type 0} (R : X → X → Type 0) (old new : List X) → ((x : X) → R x x) → ((x y : X) → R x y → R y x) → AreOf old new → AllPairs R old → AllPairs R new
pairs_of_fewer R old new own back within h i j d l m =
    let first = within (get_or new i d) (Contains-get_or new i d (omega (arith, l, m))) in
    let second = within (get_or new j d) (Contains-get_or new j d m) in
    elim (pairs_of R old (get_or new i d) (get_or new j d) h first second) [
      | inl same ↦ subst (λ z. R (get_or new i d) z) same (own (get_or new i d))
      | inr either ↦ elim either [ inl r ↦ r | inr r ↦ back (get_or new j d) (get_or new i d) r ]
    ]

other_way : (f g : ElisionFact) → FitTogether f g → FitTogether g f
other_way f g h = grind (arith, nat_tests)

pub fewer_elisions : (old new : List ElisionFact) → AreOf old new → AreElisionsSound old → AreElisionsSound new
fewer_elisions old new within h = record {
  grow = pairs_of_fewer (λ f g. Grows f g × Grows g f) old new (λ f. (λ a b less. absurd (omega (arith, less)), λ a b less. absurd (omega (arith, less)))) (λ f g r. (r.1, r.0)) within h.grow;
  fit = pairs_of_fewer (λ f g. tag_of f.table ≡ tag_of g.table → FitTogether f g) old new (λ f e. inr (inr (inl (omega arith, omega arith)))) (λ f g r e. other_way f g (r (sym e))) within h.fit;
}

module _ (was now : Memory) (s : IsSound was) (h : IsShrunk was now) where
  within : (a : AnyFact) → Contains (all_of (facts now.tables)) a → Contains (all_of (facts was.tables)) a
  within = of_all (facts now.tables) (λ a. Contains (all_of (facts was.tables)) a)
      (λ x c. all_objects (facts was.tables) x (h.facts.objects x c))
      (λ x c. all_mediums (facts was.tables) x (h.facts.mediums x c))
      (λ x c. all_addresses (facts was.tables) x (h.facts.addresses x c))
      (λ x c. all_segments (facts was.tables) x (h.facts.segments x c))
      (λ x c. all_elisions (facts was.tables) x (h.facts.elisions x c))

  fewer : {F : Type 0} (P : F → Type 0) (old new : List F) → AreOf old new → AllByRecursion P old → AllByRecursion P new
  fewer P old new in_old all = each_by_recursion P new (λ f c. of_each P old f all (in_old f c))

  ids : AreIdsBelow now.next (facts now.tables)
  ids = grind (arith, nat_tests, facts, fewer)

  sound_objects : AreObjectsSound (facts now.tables) was.next.object
  sound_objects = objects_as (facts was.tables) (facts now.tables) was.next.object (same_objects (facts was.tables) (facts now.tables) h.facts.same.objects was.next.object)
      (λ x c. h.facts.same_elided table.Medium x.medium.0) (λ x c. h.facts.same_elided table.Address x.medium.0) s.objects

  still_there : (at : Location) → IsThere was at → IsThere now at
  still_there at there = grind (arith, nat_tests)

  pub shrunk_sound : IsSound now
  shrunk_sound = record {
    next = rw h.next s.next;
    fit = rw h.staged (λ a c. s.fit a (within a c));
    sectors = rw h.staged s.sectors;
    ids = ids;
    objects = rw h.next sound_objects;
    mediums = mediums_sound (facts was.tables) (facts now.tables) h.facts.same.objects h.facts.same.ranges s.mediums;
    addresses = record {
      there = λ m x at e. still_there at (s.addresses.there m x at (sym (h.facts.same.addresses m x) ∙ e));
      within = λ id x y e l some. s.addresses.within id x y (sym (h.facts.same.objects id) ∙ e) l (ap is_some (sym (h.facts.same.addresses y.medium.0 x)) ∙ some);
    };
    elisions = fewer_elisions (facts was.tables).elisions (facts now.tables).elisions h.facts.elisions s.elisions;
    numbers = record {
      below = rw h.next (λ f c. s.numbers.below f (within f c));
      distinct = λ f g c d e. s.numbers.distinct f g (within f c) (within g d) e;
    };
  }

pub shrinking_reads : ShrinkingReads
shrinking_reads contents was now array r h = grind (arith, nat_tests, shrunk_sound, same_reads)
