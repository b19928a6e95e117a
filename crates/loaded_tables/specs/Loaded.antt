-- The tables that a boot record names, as they were loaded.
use Rattle.std.specs.Prelude.{◌≡◌, ◌<◌, List, ◌++◌, length, map, All}
use Rattle.std.specs.List.{AllZip}
use Rattle.array_spec.specs.Prelude.{Facts, table_tag, AnyFact, Patch, BootRecord, IsFact}
use Rattle.pur_base.specs.declared.facts.AnyFact.TheVariants as any
use Rattle.pyramid.specs.Prelude.{facts_of}
use Rattle.loaded_tables.specs.declared.tables.LoadedTables.{LoadedTables}

-- the facts of all patches, each in its table
abbrev pub facts_in : LoadedTables → Facts
facts_in t = record {
  objects = facts_of t.objects.items;
  mediums = facts_of t.mediums.items;
  addresses = facts_of t.addresses.items;
  segments = facts_of t.segments.items;
  elisions = facts_of t.elisions.items;
}

-- the patches by table, oldest first
abbrev pub patches_in : LoadedTables → List (List AnyFact)
patches_in t =
    map (map any.Object) t.objects.items ++ (map (map any.Medium) t.mediums.items ++ (map (map any.Address) t.addresses.items ++ (map (map any.Segment) t.segments.items ++ map (map any.Elision) t.elisions.items)))

-- each fact has a spelling, as those have that were decoded
pub record AreLawful (t : LoadedTables) : Type 0 where
  pub objects : All (λ f. IsFact (any.Object f)) (facts_of t.objects.items)
  pub mediums : All (λ f. IsFact (any.Medium f)) (facts_of t.mediums.items)
  pub addresses : All (λ f. IsFact (any.Address f)) (facts_of t.addresses.items)
  pub segments : All (λ f. IsFact (any.Segment f)) (facts_of t.segments.items)
  pub elisions : All (λ f. IsFact (any.Elision f)) (facts_of t.elisions.items)

-- a patch of the record has that many facts, some of them, all of its table
pub record IsNamed (p : Patch) (facts : List AnyFact) : Type 0 where
  pub some : 0 < length facts
  pub count : length facts ≡ p.facts
  pub of_table : All (λ f. table_tag f ≡ p.tag) facts

-- the record names these patches, in this order
abbrev pub AreNamed : BootRecord → LoadedTables → Type 0
AreNamed boot t = AllZip IsNamed boot.patches (patches_in t)
