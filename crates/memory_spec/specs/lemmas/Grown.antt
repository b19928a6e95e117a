-- What each fact owes, when facts are added.
use Rattle.std.proofs.lemmas.Bool.Decides.{nat_tests}
use Rattle.std.proofs.Common.{◌≡◌, ◌⊎◌, ℕ, ◌<◌, ◌≤◌, List, length, arith, inl, inr, subst, Contains}
use Rattle.array_spec.specs.Prelude.{Facts, ObjectFact, MediumFact, AddressFact, SegmentFact, ElisionFact, AnyFact, NextNumbers, AreIdsBelow, next_id}
use Rattle.pur_base.specs.declared.facts.AnyFact.TheVariants as any
use Rattle.memory_spec.specs.Tables.{facts, all_of}
use Rattle.memory_spec.specs.Memory.{Memory, FitsInMemory}
use Rattle.memory_spec.specs.lemmas.Lists.{each_by_recursion, of_each}
use Rattle.memory_spec.specs.lemmas.AllTables.{all_objects, all_mediums, all_addresses, all_segments, all_elisions, of_all}

-- the ids that a fact names were given
abbrev pub IsIdBelow : NextNumbers → AnyFact → Type 0
IsIdBelow n (any.Object f) = (f.object.0 < n.object) × (f.medium.0 < n.medium)
IsIdBelow n (any.Medium f) = f.medium.0 < n.medium
IsIdBelow n (any.Address f) = f.medium.0 < n.medium
IsIdBelow n (any.Segment f) = f.segment.0 < n.segment
IsIdBelow n (any.Elision f) = f.last < next_id n f.table

pub ids_of_all : (f : Facts) (n : NextNumbers) → ((a : AnyFact) → Contains (all_of f) a → IsIdBelow n a) → AreIdsBelow n f
ids_of_all f n h = record {
  objects = each_by_recursion (λ x. IsIdBelow n (any.Object x)) f.objects (λ x c. h (any.Object x) (all_objects f x c));
  mediums = each_by_recursion (λ x. IsIdBelow n (any.Medium x)) f.mediums (λ x c. h (any.Medium x) (all_mediums f x c));
  addresses = each_by_recursion (λ x. IsIdBelow n (any.Address x)) f.addresses (λ x c. h (any.Address x) (all_addresses f x c));
  segments = each_by_recursion (λ x. IsIdBelow n (any.Segment x)) f.segments (λ x c. h (any.Segment x) (all_segments f x c));
  elisions = each_by_recursion (λ x. IsIdBelow n (any.Elision x)) f.elisions (λ x c. h (any.Elision x) (all_elisions f x c));
}

pub id_of_all : (f : Facts) (n : NextNumbers) → AreIdsBelow n f → (a : AnyFact) → Contains (all_of f) a → IsIdBelow n a
id_of_all f n h = of_all f (IsIdBelow n)
    (λ x. of_each (λ y. IsIdBelow n (any.Object y)) f.objects x h.objects)
    (λ x. of_each (λ y. IsIdBelow n (any.Medium y)) f.mediums x h.mediums)
    (λ x. of_each (λ y. IsIdBelow n (any.Address y)) f.addresses x h.addresses)
    (λ x. of_each (λ y. IsIdBelow n (any.Segment y)) f.segments x h.segments)
    (λ x. of_each (λ y. IsIdBelow n (any.Elision y)) f.elisions x h.elisions)

-- no next number is lower
pub record IsNoLower (was now : NextNumbers) : Type 0 where
  pub object : was.object ≤ now.object
  pub medium : was.medium ≤ now.medium
  pub segment : was.segment ≤ now.segment
  pub sequence : was.sequence ≤ now.sequence

id_later : (was now : NextNumbers) → IsNoLower was now → (a : AnyFact) → IsIdBelow was a → IsIdBelow now a
id_later was now l a h = grind (arith, nat_tests)

fits_more : (n m : ℕ) (a : AnyFact) → n ≤ m → FitsInMemory n a → FitsInMemory m a
fits_more n m a l h = grind (arith, nat_tests)

-- a table that is as it was
pub as_it_was : {X : Type 0} {old new : List X} (P : X → Type 0) → new ≡ old → (x : X) → Contains new x → Contains old x ⊎ P x
as_it_was P same x c = inl (subst (λ l. Contains l x) same c)

-- each fact is an old one or was added, if so it is with each table
pub old_or_added : (old new : Facts) (Added : AnyFact → Type 0)
    → ((x : ObjectFact) → Contains new.objects x → Contains old.objects x ⊎ Added (any.Object x))
    → ((x : MediumFact) → Contains new.mediums x → Contains old.mediums x ⊎ Added (any.Medium x))
    → ((x : AddressFact) → Contains new.addresses x → Contains old.addresses x ⊎ Added (any.Address x))
    → ((x : SegmentFact) → Contains new.segments x → Contains old.segments x ⊎ Added (any.Segment x))
    → ((x : ElisionFact) → Contains new.elisions x → Contains old.elisions x ⊎ Added (any.Elision x))
    → (a : AnyFact) → Contains (all_of new) a → Contains (all_of old) a ⊎ Added a
old_or_added old new Added o m d s e = of_all new (λ a. Contains (all_of old) a ⊎ Added a)
    (λ x c. elim (o x c) [ inl a ↦ inl (all_objects old x a) | inr b ↦ inr b ])
    (λ x c. elim (m x c) [ inl a ↦ inl (all_mediums old x a) | inr b ↦ inr b ])
    (λ x c. elim (d x c) [ inl a ↦ inl (all_addresses old x a) | inr b ↦ inr b ])
    (λ x c. elim (s x c) [ inl a ↦ inl (all_segments old x a) | inr b ↦ inr b ])
    (λ x c. elim (e x c) [ inl a ↦ inl (all_elisions old x a) | inr b ↦ inr b ])

module _ (was now : Memory) (Added : AnyFact → Type 0) (split : (a : AnyFact) → Contains (all_of (facts now.tables)) a → Contains (all_of (facts was.tables)) a ⊎ Added a) where
  pub fit_more : length was.staged ≤ length now.staged → ((a : AnyFact) → Added a → FitsInMemory (length now.staged) a)
      → ((a : AnyFact) → Contains (all_of (facts was.tables)) a → FitsInMemory (length was.staged) a)
      → (a : AnyFact) → Contains (all_of (facts now.tables)) a → FitsInMemory (length now.staged) a
  fit_more l fits old a c = elim (split a c) [ inl o ↦ fits_more (length was.staged) (length now.staged) a l (old a o) | inr n ↦ fits a n ]

  pub ids_more : IsNoLower was.next now.next → ((a : AnyFact) → Added a → IsIdBelow now.next a) → AreIdsBelow was.next (facts was.tables) → AreIdsBelow now.next (facts now.tables)
  ids_more l below old = ids_of_all (facts now.tables) now.next (λ a c.
      elim (split a c) [ inl o ↦ id_later was.next now.next l a (id_of_all (facts was.tables) was.next old a o) | inr n ↦ below a n ])
