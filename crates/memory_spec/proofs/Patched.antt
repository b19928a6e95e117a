-- Patches that are sound by their record are sound memory, with nothing unflushed and nothing staged.
use Rattle.memory_spec.proofs.Prelude.{◌≡◌, ◌≢◌, ℕ, ◌<◌, [], refl, sym, ap, ◌∙◌, inl, inr, subst, All, Contains, All-contains, Geometry, Facts, any_number, Target, Stored, Zero, AnyFact, NextNumbers, BootRecord, AreNext, IsFact, IsTarget, AreSound, AreIdsBelow, AreObjectsSound, AreMediumsSound, AreAddressesSound, AreElisionsSound, all_facts, in_patches, Layers, nowhere, Tables, facts, patches, all_of, Memory, FitsTarget, FitsInMemory, AreAddressesThere, AreNumbered, IsSound, IsWhole, of_each, pairs_of, in_patches_are, flushed_are_all, patches_are_all}
use Rattle.pur_base.specs.declared.facts.AnyFact.TheVariants as any

-- ---- memory of the patches alone

-- the table's patches
abbrev pub alone : {F : Type 0} → Layers F → Layers F
alone l = record l { unflushed = [] }

-- the patches of all tables, with these next numbers
abbrev pub patched : Tables → NextNumbers → Memory
patched t next = record {
  tables = record { objects = alone t.objects; mediums = alone t.mediums; addresses = alone t.addresses; segments = alone t.segments; elisions = alone t.elisions };
  staged = [];
  next = next;
}

-- nothing is beside them
pub patched_whole : (t : Tables) (next : NextNumbers) → IsWhole (patched t next)
patched_whole t next = record { staged = refl; objects = refl; mediums = refl; addresses = refl; segments = refl; elisions = refl }

-- so their facts are all of its facts
pub patched_facts : (t : Tables) (next : NextNumbers) → all_facts (patches t) ≡ facts (patched t next).tables
patched_facts t next = patches_are_all (patched t next) (patched_whole t next)

-- ---- a fact of a patch is one that memory may hold, also with nothing staged

-- where a sector stands,
target_fits : (target : Target) → IsTarget target → FitsTarget 0 target
target_fits (Stored at) h = inr (h.0.0, h.0.1, h.1)
target_fits Zero h = tt

-- and the fact
fact_fits : (f : AnyFact) → IsFact f → FitsInMemory 0 f
fact_fits (any.Object f) h = h
fact_fits (any.Medium f) h = h
fact_fits (any.Address f) h = (h.lawful.id, h.lawful.number, h.lawful.statement.0, target_fits f.target h.lawful.statement.1)
fact_fits (any.Segment f) h = h
fact_fits (any.Elision f) h = h

-- ---- patches that are sound by their record

module _ (shelf : Geometry) (boot : BootRecord) (t : Tables) (sound : AreSound shelf boot (patches t)) (lawful : All IsFact (in_patches (patches t))) (id : ℕ)
    (next : AreNext (record boot.next { patch_segment = id })) where
  -- with any next id of a segment of patches, of which memory says no more
  abbrev Loaded : Memory
  Loaded = patched t (record boot.next { patch_segment = id })

  -- its facts are those of the patches
  in_loaded : (f : AnyFact) → Contains (all_of (facts Loaded.tables)) f → Contains (in_patches (patches t)) f
  in_loaded f c = subst (λ l. Contains l f) (sym (in_patches_are t ∙ ap all_of (flushed_are_all Loaded (patched_whole t Loaded.next)))) c

  -- no fact speaks of a segment of patches
  ids_below : (f : Facts) → AreIdsBelow boot.next f → AreIdsBelow Loaded.next f
  ids_below f h = record { objects = h.objects; mediums = h.mediums; addresses = h.addresses; segments = h.segments; elisions = h.elisions }

  -- nothing is staged, so each stored sector stands in a segment
  there : AreAddressesThere Loaded
  there =
      let a = subst AreAddressesSound (patched_facts t Loaded.next) sound.addresses in
      record { there = λ medium sector at e. inr (a.there medium sector at e); within = a.within }

  -- no two facts have one number
  numbered : AreNumbered Loaded
  numbered = record {
    below = λ f c. of_each (λ x. any_number x < boot.next.sequence) (in_patches (patches t)) f sound.sequences.below (in_loaded f c);
    distinct = λ f g c d e. elim (pairs_of (λ x y. any_number x ≢ any_number y) (in_patches (patches t)) f g sound.sequences.distinct (in_loaded f c) (in_loaded g d)) [
      | inl one ↦ one
      | inr either ↦ elim either [ inl differ ↦ absurd (differ e) | inr differ ↦ absurd (differ (sym e)) ]
    ];
  }

  pub patches_sound : IsSound Loaded
  patches_sound = record {
    next = next;
    fit = λ f c. fact_fits f (All-contains IsFact (in_patches (patches t)) f lawful (in_loaded f c));
    sectors = λ sector c. absurd (nowhere sector c);
    ids = ids_below (facts Loaded.tables) (subst (λ f. AreIdsBelow boot.next f) (patched_facts t Loaded.next) sound.ids);
    objects = subst (λ f. AreObjectsSound f boot.next.object) (patched_facts t Loaded.next) sound.objects;
    mediums = subst AreMediumsSound (patched_facts t Loaded.next) sound.mediums;
    addresses = there;
    elisions = subst (λ (f : Facts). AreElisionsSound f.elisions) (patched_facts t Loaded.next) sound.elisions;
    numbers = numbered;
  }
