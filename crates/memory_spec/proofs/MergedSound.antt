-- A merge of two patches leaves out facts alone, and what is left is sound and says the same.
use Rattle.memory_spec.proofs.Prelude.{ℕ, [], refl, sym, ap, ◌∙◌, arith, subst, append-nil, Contains, Contains-append_left, object_key, medium_key, address_key, segment_key, elision_key, is_narrower, Table, ElisionFact, NextNumbers, AreNext, AreSegmentsSound, Layers, IsLayered, Grow, facts_of, rises_alone, Tables, kind_of, layers_of, facts, Memory, IsSound, AreLayered, IsMergedAt, MergedPatchesAreSound, MergedPatchesShrink, grows_all, each_with, facts_shrink, layered_at, merge_shrinks, shrunk_sound}
use Rattle.pur_base.specs.declared.request.Table.TheVariants as table
use Rattle.pyramid.proofs.PlaceLemmas.{merge_layered}
use Rattle.memory_spec.proofs.Patched.{patched, patched_facts, patched_whole, patches_sound}
use Rattle.memory_spec.proofs.Records.{record_is_sound}

-- patches rise among themselves
alone_layered : {F : Type 0} (key number : F → ℕ) (l : Layers F) → IsLayered key number l.patches l.unflushed → IsLayered key number l.patches []
alone_layered key number l h = record { ascend = h.ascend; ordered = λ i j d below within. absurd (omega (arith, within)); rises = rises_alone number l.patches l.unflushed h.rises }

patched_layered : (t : Tables) (next : NextNumbers) → AreLayered t → AreLayered (patched t next).tables
patched_layered t next l = record {
  objects = alone_layered object_key (λ f. f.seq.0) t.objects l.objects;
  mediums = alone_layered medium_key (λ f. f.seq.0) t.mediums l.mediums;
  addresses = alone_layered address_key (λ f. f.seq.0) t.addresses l.addresses;
  segments = alone_layered segment_key (λ f. f.seq.0) t.segments l.segments;
  elisions = alone_layered elision_key (λ f. f.seq.0) t.elisions l.elisions;
}

-- a merge leaves all layered
pub still_layered : (t : Table) (i : ℕ) (was now : Memory) → IsMergedAt t i was now → AreLayered was.tables → AreLayered now.tables
still_layered t i was now h l =
    let ls = layers_of t was.tables in
    let e = each_with (λ u layers. IsLayered (kind_of u).key (kind_of u).number layers.patches layers.unflushed) was.tables t i h.0 (layered_at was.tables l)
    (merge_layered (kind_of t).key (kind_of t).number ls.patches i h.0 ls.unflushed h.1.0 (layered_at was.tables l t) h.1.1.ascends h.1.1.source) in
    subst (λ (n : Memory). AreLayered n.tables) (sym h.2) (record { objects = e.0; mediums = e.1; addresses = e.2; segments = e.3; elisions = e.4 })

-- a merge is one of the patches alone
merged_patched : (t : Table) (i : ℕ) (was now : Memory) (next : NextNumbers) → IsMergedAt t i was now → IsMergedAt t i (patched was.tables next) (patched now.tables next)
merged_patched table.Object i was now next h = (h.0, h.1, ap (λ (m : Memory). patched m.tables next) h.2)
merged_patched table.Medium i was now next h = (h.0, h.1, ap (λ (m : Memory). patched m.tables next) h.2)
merged_patched table.Address i was now next h = (h.0, h.1, ap (λ (m : Memory). patched m.tables next) h.2)
merged_patched table.Segment i was now next h = (h.0, h.1, ap (λ (m : Memory). patched m.tables next) h.2)
merged_patched table.Elision i was now next h = (h.0, h.1, ap (λ (m : Memory). patched m.tables next) h.2)

pub merged_patches_shrink : MergedPatchesShrink
merged_patches_shrink t i was now s l h =
    let alone = patched was.tables was.next in
    let merged = merged_patched t i was now was.next h in
    let among = λ (f : ElisionFact) (c : Contains (facts alone.tables).elisions f). let old = facts_of was.tables.elisions.patches in Contains-append_left old was.tables.elisions.unflushed f (subst (λ l. Contains l f) (append-nil old) c) in
    let grow : Grow elision_key (λ f. f.seq.0) is_narrower (facts alone.tables).elisions = λ f g c d. grows_all (facts was.tables).elisions s.elisions f g (among f c) (among g d) in
    let after = patched_facts now.tables was.next ∙ ap (λ (m : Memory). facts m.tables) merged.2 in
    rw (patched_facts was.tables was.next, after) (facts_shrink alone.tables t i merged.0 (patched_layered was.tables was.next l) merged.1 grow)

pub merged_patches_are_sound : MergedPatchesAreSound
merged_patches_are_sound shelf boot next t i was now layered h sound lawful next_next same named segments =
    let memory : Memory = patched was.tables next.next in
    let merged : Memory = patched now.tables next.next in
    let is : IsSound memory = subst (λ n. IsSound (patched was.tables n)) (sym same) (patches_sound shelf boot was.tables sound lawful next.next.patch_segment (subst AreNext same next_next)) in
    record_is_sound shelf next merged (shrunk_sound memory merged is (merge_shrinks t i memory merged is (patched_layered was.tables next.next layered) (merged_patched t i was now next.next h)))
    (patched_whole now.tables next.next) (patched_layered now.tables next.next (still_layered t i was now h layered))
    (subst (λ f. AreSegmentsSound shelf next f) (patched_facts now.tables next.next) segments) refl named
