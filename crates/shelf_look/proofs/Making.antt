-- Memory that was made of tables.
use Rattle.shelf_look.proofs.Prelude.{◌≡◌, ◌∙◌, ◌++◌, List, map, sym, ap, subst, ℕ, Geometry, Facts, segments, AnyFact, SegmentFact, BootRecord, IsRecordOf, AreSound, AreSegmentsSound, all_facts, facts, flushed, patches, patches_are_all, facts_of, facts_in, patches_in, AreVisible, Kept, IsLoaded, IsMemoryOf}
use Rattle.pur_base.specs.declared.facts.AnyFact.TheVariants as any
use Rattle.loaded_tables.specs.declared.tables.LoadedTables.{LoadedTables}
use Rattle.table_soundness.specs.declared.visible.Visible.{Visible}
use Rattle.free_space.specs.Map.{AreDataSegments, shelf_of}

module _ (shelf : Geometry) (boot : BootRecord) (t : LoadedTables) (k : Kept) (sound : AreSound shelf boot (patches_in t)) (loaded : IsLoaded boot t k.memory) where
  pub patches_are : patches k.memory.tables ≡ patches_in t
  patches_are = λ i.
      map (map any.Object) (loaded.objects.patches i)
      ++ (map (map any.Medium) (loaded.mediums.patches i)
      ++ (map (map any.Address) (loaded.addresses.patches i)
      ++ (map (map any.Segment) (loaded.segments.patches i)
      ++ map (map any.Elision) (loaded.elisions.patches i))))

  -- what was loaded is what its patches have
  pub visible_of : (v : Visible) → AreVisible (facts_in t) v → AreVisible (flushed k.memory.tables) v
  visible_of v = subst (λ (f : Facts). AreVisible f v) (sym flushed_are) where
    flushed_are : flushed k.memory.tables ≡ facts_in t
    flushed_are = λ i. record {
      objects = facts_of (loaded.objects.patches i);
      mediums = facts_of (loaded.mediums.patches i);
      addresses = facts_of (loaded.addresses.patches i);
      segments = facts_of (loaded.segments.patches i);
      elisions = facts_of (loaded.elisions.patches i);
    }

  pub memory_of : IsMemoryOf shelf boot k
  memory_of = record {
    tables_sound = subst (λ (ps : List (List AnyFact)). AreSound shelf boot ps) (sym patches_are) sound;
    whole = record {
      staged = loaded.staged;
      objects = loaded.objects.unflushed;
      mediums = loaded.mediums.unflushed;
      addresses = loaded.addresses.unflushed;
      segments = loaded.segments.unflushed;
      elisions = loaded.elisions.unflushed;
    };
    next = loaded.next;
  }

-- its visible segments are those that the record's patches show
module _ (shelf : Geometry) (boot : BootRecord) (k : Kept) (lawful : IsRecordOf shelf boot) (is : IsMemoryOf shelf boot k) where
  same_shelf : shelf_of boot ≡ shelf
  same_shelf = λ i. record { slots = lawful.slots i; units = lawful.units i }

  next_segment : boot.next.segment ≡ k.memory.next.segment
  next_segment = sym (ap (λ n. n.segment) is.next)

  pub shown_by_patches : segments (all_facts (patches k.memory.tables)) boot.next.segment ≡ segments (facts k.memory.tables) k.memory.next.segment
  shown_by_patches =
      ap (λ (f : Facts). segments f boot.next.segment) (patches_are_all k.memory is.whole) ∙ ap (λ (n : ℕ). segments (facts k.memory.tables) n) next_segment

  pub data_segments : (ds : List SegmentFact) → segments (facts k.memory.tables) k.memory.next.segment ≡ ds → AreDataSegments boot ds
  data_segments ds said = record {
    tables = all_facts (patches k.memory.tables);
    visible = shown_by_patches ∙ said;
    sound = subst (λ (s : Geometry). AreSegmentsSound s boot (all_facts (patches k.memory.tables))) (sym same_shelf) is.tables_sound.segments;
  }
