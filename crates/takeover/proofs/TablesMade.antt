-- Memory that was made of tables, as the record that names them sees it.
use Rattle.takeover.proofs.Prelude.{nat_tests, ◌≡◌, ℕ, List, [], length, sym, ap, subst, arith, All, Contains, All-contains, All-from_recursion, recursion_from_All, Contains-append_left, Geometry, table_tag, Array, AnyFact, BootRecord, IsFact, AreSound, all_facts, in_patches, facts_of, Contents, FactsRead, ReadsAs, all_of, facts, flushed, patches, of_all, each_by_recursion, zip_weaker, IsNamed, IsWhole, in_patches_are, patches_are_all, NOTHING, Kept, AtMost, taken_up, AreInSegments, HasLogRoom, HasRoomFor, nothing_behind, IsMemoryOf}
use Rattle.pur_base.specs.declared.facts.AnyFact.TheVariants as any
use Rattle.loaded_tables.specs.declared.tables.LoadedTables.{LoadedTables}
use Rattle.loaded_tables.specs.Prelude.{patches_in, AreLawful, AreNamed, IsNamed as IsLoadedPatch}
use Rattle.memory_spec.proofs.Sound.{sound_tables_read}
use Rattle.array_memory.specs.Prelude.{IsLoaded}

module _ (shelf : Geometry) (boot : BootRecord) (t : LoadedTables) (k : Kept) (sound : AreSound shelf boot (patches_in t)) (lawful : AreLawful t) (named : AreNamed boot t) (loaded : IsLoaded boot t k.memory) where
  pub patches_are : patches k.memory.tables ≡ patches_in t
  patches_are = grind (arith, nat_tests, patches)

  -- each fact of a table was decoded
  of_table : {F : Type 0} (any : F → AnyFact) (given now : List (List F)) → now ≡ given → All (λ f. IsFact (any f)) (facts_of given) → (f : F) → Contains (facts_of now) f → IsFact (any f)
  of_table {F} any given now same all f there = All-contains (λ (g : F). IsFact (any g)) (facts_of given) f all (subst (λ (fs : List (List F)). Contains (facts_of fs) f) same there)

  each_fact : (f : AnyFact) → Contains (all_of (flushed k.memory.tables)) f → IsFact f
  each_fact = of_all (flushed k.memory.tables) IsFact
      (of_table any.Object t.objects.items k.memory.tables.objects.patches loaded.objects.patches lawful.objects)
      (of_table any.Medium t.mediums.items k.memory.tables.mediums.patches loaded.mediums.patches lawful.mediums)
      (of_table any.Address t.addresses.items k.memory.tables.addresses.patches loaded.addresses.patches lawful.addresses)
      (of_table any.Segment t.segments.items k.memory.tables.segments.patches loaded.segments.patches lawful.segments)
      (of_table any.Elision t.elisions.items k.memory.tables.elisions.patches loaded.elisions.patches lawful.elisions)

  all_lawful : All IsFact (in_patches (patches k.memory.tables))
  all_lawful = subst (λ (fs : List AnyFact). All IsFact fs) (sym (in_patches_are k.memory.tables))
      (All-from_recursion IsFact (all_of (flushed k.memory.tables)) (each_by_recursion IsFact (all_of (flushed k.memory.tables)) each_fact))

  whole : IsWhole k.memory
  whole = grind (arith, nat_tests)

  sound_here : AreSound shelf boot (patches k.memory.tables)
  sound_here = subst (λ (ps : List (List AnyFact)). AreSound shelf boot ps) (sym patches_are) sound

  -- nothing is taken up but by the patches
  none_taken : AtMost (taken_up k) NOTHING
  none_taken = grind (arith, nat_tests, length)

  room_for_log : HasLogRoom k → HasRoomFor k 0 nothing_behind
  room_for_log room = grind (arith, nat_tests, none_taken)

  pub memory_of : ((contents : Contents) (base : Array) → FactsRead contents [] (all_facts (patches k.memory.tables)) k.memory.next.object base → ReadsAs contents k.memory base)
      → AreInSegments (facts k.memory.tables).addresses → HasLogRoom k → IsMemoryOf shelf boot k
  memory_of reads stored room = record {
    tables_sound = sound_here;
    lawful = all_lawful;
    some = λ contents. sound_tables_read shelf boot (patches k.memory.tables) contents sound_here all_lawful;
    reads = λ contents base read. reads contents base (subst (λ (n : ℕ). FactsRead contents [] (all_facts (patches k.memory.tables)) n base) (sym (ap (λ n. n.object) loaded.next)) read);
    all = patches_are_all k.memory whole;
    named = subst (λ (ps : List (List AnyFact)). Rattle.std.specs.List.AllZip IsNamed boot.patches ps) (sym patches_are)
        (zip_weaker IsLoadedPatch IsNamed (λ p fs is. record { count = sym is.count; table = recursion_from_All (λ (f : AnyFact). table_tag f ≡ p.tag) fs is.of_table }) boot.patches (patches_in t) named);
    stored = λ f at there is. (stored f at (Contains-append_left (facts_of k.memory.tables.addresses.patches) k.memory.tables.addresses.unflushed f there) is).0;
    next = loaded.next;
    room = room_for_log room;
  }
