-- A flush leaves out older facts alone, and says the same.
use Rattle.std.proofs.lemmas.Bool.Decides.{nat_tests}
use Rattle.std.proofs.Common.{◌≡◌, ℕ, Bool, List, [], ◌++◌, refl, sym, ap, ◌∙◌, arith, inl, inr, subst, Option, Some, None, option_map, option_and_then, Contains, append-nil}
use Rattle.std.proofs.lemmas.Grind.{flat_map-append}
use Rattle.std.proofs.lemmas.List.Elements.{Contains-append_left, Contains-append_right, Contains-append_cases}
use Rattle.array_spec.specs.Prelude.{object_key, medium_key, address_key, segment_key, elision_key, never, is_empty_range, is_narrower, key_of, id_of, has_key, says, unless_empty, is_elided, Table, AddressFact, ElisionFact, AreElisionsSound, Grows}
use Rattle.pur_base.specs.declared.request.Table.TheVariants as table
use Rattle.pyramid.specs.Prelude.{Layers, facts_of, facts_in, newest_of, patch_facts, patches_of, Grow, AreCovered, later, newest-append}
use Rattle.pyramid.proofs.CoverLemmas.{cover_put}
use Rattle.pyramid.proofs.ElisionLemmas.{same_ids, elisions_grow}
use Rattle.memory_spec.specs.Tables.{facts}
use Rattle.memory_spec.specs.Memory.{Memory, IsSound}
use Rattle.memory_spec.specs.lemmas.Lists.{pairs_of}
use Rattle.memory_spec.specs.Flushing.{AreOf, IsTableFlushed, IsFlush, FlushShrinks}

-- ---- one table

module _ {F : Type 0} (key number : F → ℕ) (was now : Layers F) (h : IsTableFlushed key number was now) where
  one_patch : (p : Option (List F)) → facts_of (patches_of p) ≡ patch_facts p
  one_patch None = refl
  one_patch (Some fs) = append-nil fs

  pub facts_are : facts_in now ≡ facts_of was.patches ++ patch_facts h.patch
  facts_are = ap (λ u. facts_of now.patches ++ u) h.unflushed ∙ append-nil (facts_of now.patches) ∙ ap (λ p. facts_of p) h.patches
      ∙ flat_map-append (λ l. l) was.patches (patches_of h.patch) ∙ ap (λ l. facts_of was.patches ++ l) (one_patch h.patch)

  pub flushed_within : AreOf (facts_in was) (facts_in now)
  flushed_within f c = elim (Contains-append_cases (facts_of was.patches) (patch_facts h.patch) f (subst (λ l. Contains l f) facts_are c)) [
    | inl a ↦ Contains-append_left (facts_of was.patches) was.unflushed f a
    | inr b ↦ Contains-append_right (facts_of was.patches) was.unflushed f (h.made.source f b)
  ]

  newest_same : (k : ℕ) → newest_of key number k (facts_in now) ≡ newest_of key number k (facts_in was)
  newest_same k = ap (λ l. newest_of key number k l) facts_are ∙ newest-append number (has_key key k) (facts_of was.patches) (patch_facts h.patch)
      ∙ ap (λ o. later number (newest_of key number k (facts_of was.patches)) o) (h.made.newest k) ∙ sym (newest-append number (has_key key k) (facts_of was.patches) was.unflushed)

  pub flushed_says : (empty : F → Bool) (before after : ℕ → Bool) → ((id : ℕ) → after id ≡ before id) → (k : ℕ) → says key number empty (facts_in now) after k ≡ says key number empty (facts_in was) before k
  flushed_says empty before after same k = grind (arith, nat_tests, option_and_then, unless_empty, newest_of, facts_in, id_of, newest_same)

-- ---- elisions

pub grows_all : (fs : List ElisionFact) → AreElisionsSound fs → Grow elision_key (λ f. f.seq.0) is_narrower fs
grows_all fs h = elisions_grow fs (λ f g c d first tags less. elim (pairs_of (λ a b. Grows a b × Grows b a) fs f g h.grow c d) [
  | inl same ↦ (let e : f.seq.0 ≡ g.seq.0 = ap (λ z. z.seq.0) same in absurd (omega (arith, e, less)))
  | inr either ↦ elim either [ inl r ↦ r.0 first tags less | inr r ↦ r.1 first tags less ]
])

module _ (was now : Memory) (s : IsSound was) (h : IsFlush was now) where
  same_elided : (t : Table) (id : ℕ) → is_elided (facts now.tables).elisions t id ≡ is_elided (facts was.tables).elisions t id
  same_elided t id = same_ids (facts was.tables).elisions (facts now.tables).elisions covered
      (flushed_within elision_key (λ f. f.seq.0) was.tables.elisions now.tables.elisions h.elisions) t id
    where
      shape : facts_of (was.tables.elisions.patches ++ patches_of h.elisions.patch) ++ [] ≡ facts_in now.tables.elisions
      shape = ap (λ p. facts_of p ++ []) (sym h.elisions.patches) ∙ ap (λ u. facts_of now.tables.elisions.patches ++ u) (sym h.elisions.unflushed)

      covered : AreCovered is_narrower (facts was.tables).elisions (facts now.tables).elisions
      covered = subst (λ l. AreCovered is_narrower (facts_in was.tables.elisions) l) shape
          (cover_put elision_key (λ f. f.seq.0) is_narrower was.tables.elisions.patches was.tables.elisions.unflushed h.elisions.patch h.elisions.made (grows_all (facts was.tables).elisions s.elisions))

pub flush_shrinks : FlushShrinks
flush_shrinks was now s h = record {
  facts = record {
    objects = flushed_within object_key (λ f. f.seq.0) was.tables.objects now.tables.objects h.objects;
    mediums = flushed_within medium_key (λ f. f.seq.0) was.tables.mediums now.tables.mediums h.mediums;
    addresses = flushed_within address_key (λ f. f.seq.0) was.tables.addresses now.tables.addresses h.addresses;
    segments = flushed_within segment_key (λ f. f.seq.0) was.tables.segments now.tables.segments h.segments;
    elisions = flushed_within elision_key (λ f. f.seq.0) was.tables.elisions now.tables.elisions h.elisions;
    same = record {
      objects = λ id. flushed_says object_key (λ f. f.seq.0) was.tables.objects now.tables.objects h.objects never (is_elided (facts was.tables).elisions table.Object) (is_elided (facts now.tables).elisions table.Object)
          (same_elided was now s h table.Object) (key_of id 0);
      ranges = λ m start. flushed_says medium_key (λ f. f.seq.0) was.tables.mediums now.tables.mediums h.mediums is_empty_range (is_elided (facts was.tables).elisions table.Medium) (is_elided (facts now.tables).elisions table.Medium)
          (same_elided was now s h table.Medium) (key_of m start);
      addresses = λ m x. ap (λ o. option_map (λ (f : AddressFact). f.target) o)
          (flushed_says address_key (λ f. f.seq.0) was.tables.addresses now.tables.addresses h.addresses never (is_elided (facts was.tables).elisions table.Address) (is_elided (facts now.tables).elisions table.Address)
          (same_elided was now s h table.Address) (key_of m x));
    };
    same_segments = λ id. flushed_says segment_key (λ f. f.seq.0) was.tables.segments now.tables.segments h.segments never (is_elided (facts was.tables).elisions table.Segment) (is_elided (facts now.tables).elisions table.Segment)
        (same_elided was now s h table.Segment) (key_of id 0);
    same_elided = same_elided was now s h;
  };
  staged = h.staged;
  next = h.next;
}
