-- What a plan's patches hold: facts that may be written, and no more than were unflushed.
use Rattle.table_planner.proofs.Prelude.{◌≡◌, ℕ, ◌+◌, ◌≤◌, Bool, true, false, List, [], ◌∷◌, ◌++◌, length, refl, sym, ap, ◌∙◌, arith, inl, inr, subst, Contains, Option, Some, None, length-append, flat_map-append, Contains-append_left, Contains-append_right, object_key, medium_key, address_key, segment_key, elision_key, AddressFact, IsFact, Layers, facts_in, facts_of, patch_facts, patches_of, Memory, FitsTarget, FitsInMemory, IsSound, facts, all_objects, all_mediums, all_addresses, all_segments, all_elisions, flagged_from, Plan, AreLawfulPatches, AreNoMore, after_plan, flushed_with, units_of, IsPlanFor}
use Rattle.pur_base.specs.declared.facts.AnyFact.TheVariants as any
use Rattle.table_plan.proofs.PatchFacts.{patch_facts_are, stored_is_fact}
use Rattle.table_plan.proofs.Planned.{planned_sound}
use Rattle.command_spec.proofs.CountLemmas.{flushed_fewer}
use Rattle.array_memory.proofs.PlanLemmas.{addresses_ascend, long_map, planned}

-- ---- facts of the new patches

-- a fact of the new patch is one of the table after it
in_flushed : {F : Type 0} (l : Layers F) (patch : Option (List F)) (f : F) → Contains (patch_facts patch) f → Contains (facts_in (flushed_with l patch)) f
in_flushed {F} l patch f c = Contains-append_left (facts_of (l.patches ++ patches_of patch)) [] f
    (subst (λ (fs : List F). Contains fs f) (sym (flat_map-append (λ x. x) l.patches (patches_of patch)))
    (Contains-append_right (facts_of l.patches) (facts_of (patches_of patch)) f (one patch c)))
  where
    one : (p : Option (List F)) → Contains (patch_facts p) f → Contains (facts_of (patches_of p)) f
    one None d = d
    one (Some fs) d = Contains-append_left fs [] f d

-- where nothing is staged, an address that memory may have is one that a patch may have
address_is_fact : (f : AddressFact) → FitsInMemory 0 (any.Address f) → IsFact (any.Address f)
address_is_fact f fits = stored_is_fact 0 f (λ at e. elim (subst (λ t. FitsTarget 0 t) e fits.3) [ inl none ↦ (let l = none.1 in absurd (omega (arith, l))) | inr h ↦ h.0 ]) fits

flagged_few : (i : ℕ) (flags : List Bool) → length (flagged_from i flags) ≤ length flags
flagged_few i [] = omega arith
flagged_few i (true ∷ flags) = let l = flagged_few (i + 1) flags in omega (arith, l)
flagged_few i (false ∷ flags) = let l = flagged_few (i + 1) flags in omega (arith, l)

module _ (m : Memory) (p : Plan) (h : IsPlanFor m p) where
  after_sound : IsSound (after_plan m p)
  after_sound = planned_sound (λ a b. []) m (after_plan m p) p.placing.flags.items (patch_facts p.placing.newest) (units_of p) h.sound h.stored (planned m p h)

  pub lawful_patches : AreLawfulPatches p
  lawful_patches = record {
    objects = patch_facts_are any.Object object_key (λ f. refl) 1 (λ f. refl) (patch_facts p.objects) h.objects.ascends
        (λ f c. after_sound.fit (any.Object f) (all_objects (facts (after_plan m p).tables) f (in_flushed m.tables.objects p.objects f c)));
    mediums = patch_facts_are any.Medium medium_key (λ f. refl) 2 (λ f. refl) (patch_facts p.mediums) h.mediums.ascends
        (λ f c. after_sound.fit (any.Medium f) (all_mediums (facts (after_plan m p).tables) f (in_flushed m.tables.mediums p.mediums f c)));
    addresses = patch_facts_are any.Address address_key (λ f. refl) 3 (λ f. refl) (patch_facts p.addresses) (addresses_ascend m p h)
        (λ f c. address_is_fact f (after_sound.fit (any.Address f) (all_addresses (facts (after_plan m p).tables) f (in_flushed m.tables.addresses p.addresses f c))));
    segments = patch_facts_are any.Segment segment_key (λ f. refl) 4 (λ f. refl) (patch_facts p.segment_facts) h.segment_facts.ascends
        (λ f c. after_sound.fit (any.Segment f) (all_segments (facts (after_plan m p).tables) f (in_flushed m.tables.segments p.segment_facts f c)));
    elisions = patch_facts_are any.Elision elision_key (λ f. refl) 5 (λ f. refl) (patch_facts p.elisions) h.elisions.ascends
        (λ f c. after_sound.fit (any.Elision f) (all_elisions (facts (after_plan m p).tables) f (in_flushed m.tables.elisions p.elisions f c)));
  }

  pub no_more : AreNoMore m p
  no_more = record {
    objects = flushed_fewer object_key (λ f. f.seq.0) m.tables.objects.unflushed (patch_facts p.objects) h.objects;
    mediums = flushed_fewer medium_key (λ f. f.seq.0) m.tables.mediums.unflushed (patch_facts p.mediums) h.mediums;
    addresses =
        let few = flushed_fewer address_key (λ f. f.seq.0) m.tables.addresses.unflushed (patch_facts p.placing.newest) h.placing.made in
        let long : length (patch_facts p.addresses) ≡ length (patch_facts p.placing.newest) = ap (λ (l : List AddressFact). length l) h.addresses ∙ long_map _ (patch_facts p.placing.newest) in
        omega (arith, few, long);
    segments =
        let few = flushed_fewer segment_key (λ f. f.seq.0) (m.tables.segments.unflushed ++ p.segments.items) (patch_facts p.segment_facts) h.segment_facts in
        omega (arith, few, length-append m.tables.segments.unflushed p.segments.items);
    elisions = flushed_fewer elision_key (λ f. f.seq.0) m.tables.elisions.unflushed (patch_facts p.elisions) h.elisions;
    placed =
        let long : length p.placing.order.items ≡ length (flagged_from 0 p.placing.flags.items) = ap (λ (l : List ℕ). length l) h.placing.order in
        let few = flagged_few 0 p.placing.flags.items in
        let count = h.placing.count in
        omega (arith, long, few, count);
  }
