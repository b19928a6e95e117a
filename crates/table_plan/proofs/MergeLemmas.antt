-- What a patch that is made of two is: a merge of memory, of facts that may be written, no more than the two have.
use Rattle.table_plan.proofs.Prelude.{ℕ, zero, suc, ◌+◌, ◌≤◌, List, [], ◌∷◌, ◌++◌, length, map, refl, arith, inl, inr, Contains, get_or, length-map, Contains-append_left, Contains-append_right, Contains-append_cases, object_key, medium_key, address_key, segment_key, elision_key, Ascends, tag_of, Table, AnyFact, IsFact, Layers, facts_in, facts_of, patch_at, patch_facts, nowhere, Memory, FactOf, kind_of, layers_of, IsSound, facts, all_objects, all_mediums, all_addresses, all_segments, all_elisions, IsMergedAt, ArePatchFacts, AreStored}
use Rattle.pur_base.specs.declared.facts.AnyFact.TheVariants as any
use Rattle.pur_base.specs.declared.request.Table.TheVariants as table
use Rattle.table_plan.specs.declared.merged.Merged.{Merged}
use Rattle.table_plan.specs.declared.merged.Merged.TheVariants as merged
use Rattle.table_plan.specs.Merging.{merged_facts, pair_facts, table_of, tables_with, IsMergedOf}
use Rattle.memory_spec.proofs.CountLemmas.{taken_fewer}
use Rattle.table_plan.proofs.PatchFacts.{patch_facts_are, stored_is_fact}

-- ---- facts of patches

module _ {F : Type 0} where
  in_patch : (ps : List (List F)) (i : ℕ) (f : F) → Contains (get_or ps i []) f → Contains (facts_of ps) f
  in_patch [] i f c = absurd (nowhere f c)
  in_patch (p ∷ ps) zero f c = Contains-append_left p (facts_of ps) f c
  in_patch (p ∷ ps) (suc i) f c = Contains-append_right p (facts_of ps) f (in_patch ps i f c)

  -- those of two are the table's
  in_pair : (l : Layers F) (i : ℕ) (f : F) → Contains (patch_at l i ++ patch_at l (i + 1)) f → Contains (facts_of l.patches) f
  in_pair l i f c = elim (Contains-append_cases (patch_at l i) (patch_at l (i + 1)) f c) [ inl a ↦ in_patch l.patches i f a | inr b ↦ in_patch l.patches (i + 1) f b ]

  in_table : (l : Layers F) (f : F) → Contains (facts_of l.patches) f → Contains (facts_in l) f
  in_table l f c = Contains-append_left (facts_of l.patches) l.unflushed f c

  -- as facts of any table there are as many
  fewer_as_any : (any : F → AnyFact) (key : F → ℕ) (older newer new : List F) → Ascends key new → ((f : F) → Contains new f → Contains (older ++ newer) f) → length (map any new) ≤ length older + length newer
  fewer_as_any any key older newer new up source = let few = taken_fewer key older newer new up source in omega (arith, few, length-map new any)

-- each may be written
pub flushed_fact : (m : Memory) → IsSound m → AreStored (facts_of m.tables.addresses.patches) → (t : Table) (f : FactOf t) → Contains (facts_of (layers_of t m.tables).patches) f → IsFact ((kind_of t).any f)
flushed_fact m s stored table.Object f c = s.fit (any.Object f) (all_objects (facts m.tables) f (in_table m.tables.objects f c))
flushed_fact m s stored table.Medium f c = s.fit (any.Medium f) (all_mediums (facts m.tables) f (in_table m.tables.mediums f c))
flushed_fact m s stored table.Address f c = stored_is_fact (length m.staged) f (λ at e. stored f at c e) (s.fit (any.Address f) (all_addresses (facts m.tables) f (in_table m.tables.addresses f c)))
flushed_fact m s stored table.Segment f c = s.fit (any.Segment f) (all_segments (facts m.tables) f (in_table m.tables.segments f c))
flushed_fact m s stored table.Elision f c = s.fit (any.Elision f) (all_elisions (facts m.tables) f (in_table m.tables.elisions f c))

-- ---- what is told of the patch

pub is_merge : (m : Memory) (i : ℕ) (p : Merged) → IsMergedOf m i p → IsMergedAt (table_of p) i m (record m { tables = tables_with m.tables i p })
is_merge m i (merged.Object patch) h = (patch, h, refl)
is_merge m i (merged.Medium patch) h = (patch, h, refl)
is_merge m i (merged.Address patch) h = (patch, h, refl)
is_merge m i (merged.Segment patch) h = (patch, h, refl)
is_merge m i (merged.Elision patch) h = (patch, h, refl)

pub are_patch_facts : (m : Memory) (i : ℕ) (p : Merged) → IsSound m → AreStored (facts_of m.tables.addresses.patches) → IsMergedOf m i p → ArePatchFacts (tag_of (table_of p)) (merged_facts p)
are_patch_facts m i (merged.Object patch) s stored h = patch_facts_are any.Object object_key (λ f. refl) 1 (λ f. refl) (patch_facts patch) h.1.ascends (λ f c. flushed_fact m s stored table.Object f (in_pair m.tables.objects i f (h.1.source f c)))
are_patch_facts m i (merged.Medium patch) s stored h = patch_facts_are any.Medium medium_key (λ f. refl) 2 (λ f. refl) (patch_facts patch) h.1.ascends (λ f c. flushed_fact m s stored table.Medium f (in_pair m.tables.mediums i f (h.1.source f c)))
are_patch_facts m i (merged.Address patch) s stored h = patch_facts_are any.Address address_key (λ f. refl) 3 (λ f. refl) (patch_facts patch) h.1.ascends (λ f c. flushed_fact m s stored table.Address f (in_pair m.tables.addresses i f (h.1.source f c)))
are_patch_facts m i (merged.Segment patch) s stored h = patch_facts_are any.Segment segment_key (λ f. refl) 4 (λ f. refl) (patch_facts patch) h.1.ascends (λ f c. flushed_fact m s stored table.Segment f (in_pair m.tables.segments i f (h.1.source f c)))
are_patch_facts m i (merged.Elision patch) s stored h = patch_facts_are any.Elision elision_key (λ f. refl) 5 (λ f. refl) (patch_facts patch) h.1.ascends (λ f c. flushed_fact m s stored table.Elision f (in_pair m.tables.elisions i f (h.1.source f c)))

pub no_more_facts : (m : Memory) (i : ℕ) (p : Merged) → IsMergedOf m i p → length (merged_facts p) ≤ pair_facts m.tables (table_of p) i
no_more_facts m i (merged.Object patch) h = fewer_as_any any.Object object_key (patch_at m.tables.objects i) (patch_at m.tables.objects (i + 1)) (patch_facts patch) h.1.ascends h.1.source
no_more_facts m i (merged.Medium patch) h = fewer_as_any any.Medium medium_key (patch_at m.tables.mediums i) (patch_at m.tables.mediums (i + 1)) (patch_facts patch) h.1.ascends h.1.source
no_more_facts m i (merged.Address patch) h = fewer_as_any any.Address address_key (patch_at m.tables.addresses i) (patch_at m.tables.addresses (i + 1)) (patch_facts patch) h.1.ascends h.1.source
no_more_facts m i (merged.Segment patch) h = fewer_as_any any.Segment segment_key (patch_at m.tables.segments i) (patch_at m.tables.segments (i + 1)) (patch_facts patch) h.1.ascends h.1.source
no_more_facts m i (merged.Elision patch) h = fewer_as_any any.Elision elision_key (patch_at m.tables.elisions i) (patch_at m.tables.elisions (i + 1)) (patch_facts patch) h.1.ascends h.1.source
