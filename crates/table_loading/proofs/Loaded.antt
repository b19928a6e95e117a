-- What is known of tables that were loaded.
use Rattle.table_loading.proofs.Prelude.{◌≡◌, ℕ, ◌<◌, ◌≤◌, Bool, List, [], ◌∷◌, ◌++◌, length, map, get_or, subst, ◌∙◌, ap, arith, All, AllByRecursion, AllZip, length-map, All-from_recursion, View, Geometry, any_key, table_tag, AnyFact, IsPatch, ArePatches, IsRecordOf, Patch, BootRecord, IsFact, PatchStands, PatchesStand, all_append, all_append_left, PatchIsShown, LoadedTables, patches_in, AreLawful, AreNamed, IsNamed, geometry_of, Shelved, AreFactsOf, StripesStandOf, HaveKey, IsLoaded, ShowsDrives, ShowsNoOtherDrive, StripesStandOfAll, of_tag}
use Rattle.std.proofs.Math.ListN.{get_or-map}
use Rattle.pur_base.specs.declared.facts.AnyFact.TheVariants as any
use Rattle.pyramid.specs.Layers as layers
use Rattle.pyramid.specs.Prelude.{facts_of}
use Rattle.table_loading.proofs.Tags.{five_tables}
use Rattle.table_loading.proofs.Zips.{zip_append, zip_weaker, zip_second, all_of_both, all_behind, all_mapped}
use Rattle.table_loading.proofs.Reading.{shows_no_other, shows_patch}

-- decoded facts are a patch of their table
pub is_patch : {F : Type 0} (any : F → AnyFact) (key : F → ℕ) → HaveKey any key → (p : Patch) (facts : List F) → 1 ≤ p.facts → AreFactsOf p (map any facts) → layers.IsPatch key facts
is_patch {F} any key same p facts some are = record {
  ascends = λ i j d less lt.
      let bound : j < length (map any facts) = omega (arith, lt, length-map facts any) in
      let pair : any_key (get_or (map any facts) i (any d)) < any_key (get_or (map any facts) j (any d)) = are.in_order.ascending i j (any d) less bound in
      let first : any_key (get_or (map any facts) i (any d)) ≡ key (get_or facts i d) = ap any_key (get_or-map any facts i d) ∙ same (get_or facts i d) in
      let second : any_key (get_or (map any facts) j (any d)) ≡ key (get_or facts j d) = ap any_key (get_or-map any facts j d) ∙ same (get_or facts j d) in
      omega (arith, pair, first, second);
  some = omega (arith, are.count, some, length-map facts any);
}

-- ---- what was decoded

lawful_of : {F : Type 0} (any : F → AnyFact) (patches : List (List F)) → AllByRecursion (AllByRecursion IsFact) (map (map any) patches) → AllByRecursion (λ f. IsFact (any f)) (facts_of patches)
lawful_of any [] all = tt
lawful_of any (facts ∷ rest) all = all_append (λ f. IsFact (any f)) facts (facts_of rest) (all_mapped any IsFact facts all.0) (lawful_of any rest all.1)

-- the facts of one of the tables
of_table : {F : Type 0} (any : F → AnyFact) (patches : List (List F)) → AllByRecursion (AllByRecursion IsFact) (map (map any) patches) → All (λ f. IsFact (any f)) (facts_of patches)
of_table any patches all = All-from_recursion (λ f. IsFact (any f)) (facts_of patches) (lawful_of any patches all)

module _ (a b : Shelved) (missing : List Bool) (boot : BootRecord) (t : LoadedTables) (loaded : AllZip (IsLoaded a b missing) boot.patches (patches_in t)) where
  each : AllByRecursion (AllByRecursion IsFact) (patches_in t)
  each = zip_second (IsLoaded a b missing) (AllByRecursion IsFact) (λ p facts is. is.decoded.each) boot.patches (patches_in t) loaded

  pub are_lawful : AreLawful t
  are_lawful =
      let P : List AnyFact → Type 0 = AllByRecursion IsFact in
      let objects = map (map any.Object) t.objects.items in
      let mediums = map (map any.Medium) t.mediums.items in
      let addresses = map (map any.Address) t.addresses.items in
      let segments = map (map any.Segment) t.segments.items in
      let elisions = map (map any.Elision) t.elisions.items in
      let behind_objects = all_behind P objects (mediums ++ (addresses ++ (segments ++ elisions))) each in
      let behind_mediums = all_behind P mediums (addresses ++ (segments ++ elisions)) behind_objects in
      let behind_addresses = all_behind P addresses (segments ++ elisions) behind_mediums in
      record {
        objects = of_table any.Object t.objects.items (all_append_left P objects (mediums ++ (addresses ++ (segments ++ elisions))) each);
        mediums = of_table any.Medium t.mediums.items (all_append_left P mediums (addresses ++ (segments ++ elisions)) behind_objects);
        addresses = of_table any.Address t.addresses.items (all_append_left P addresses (segments ++ elisions) behind_mediums);
        segments = of_table any.Segment t.segments.items (all_append_left P segments elisions behind_addresses);
        elisions = of_table any.Elision t.elisions.items (all_behind P segments elisions behind_addresses);
      }

  -- of a lawful record
  pub are_named : (slots units : ℕ) → AllByRecursion (IsPatch slots units) boot.patches → AreNamed boot t
  are_named slots units lawful = zip_weaker (IsPatch slots units) (IsLoaded a b missing) IsNamed
      (λ p facts is loads. record {
        some = omega (arith, loads.decoded.count, is.facts.0);
        count = loads.decoded.count;
        of_table = All-from_recursion (λ (f : AnyFact). table_tag f ≡ p.tag) facts loads.decoded.in_order.table;
      }) boot.patches (patches_in t) lawful loaded

  -- where the stripes of all patches stand, these facts do
  pub all_stand : AllByRecursion (IsPatch a.drives a.units) boot.patches → a.honest → (view : View) → ShowsDrives a missing view → StripesStandOfAll view boot → PatchesStand view boot (patches_in t)
  all_stand lawful h view shows stripes = zip_weaker (λ p. IsPatch a.drives a.units p × StripesStandOf view p) (IsLoaded a b missing) (PatchStands view)
      (λ p facts is loads. loads.stands h view (shows_patch a p missing view is.0 shows) is.1) boot.patches (patches_in t)
      (all_of_both (IsPatch a.drives a.units) (StripesStandOf view) boot.patches lawful stripes) loaded

  -- whether they stand or not, each is what the drives show
  pub all_shown : AllByRecursion (IsPatch a.drives a.units) boot.patches → a.honest → (view : View) → ShowsNoOtherDrive a b missing view → AllZip (PatchIsShown view) boot.patches (patches_in t)
  all_shown lawful h view shows = zip_weaker (IsPatch a.drives a.units) (IsLoaded a b missing) (PatchIsShown view)
      (λ p facts is loads. loads.shown h view (shows_no_other a b p missing view is shows)) boot.patches (patches_in t) lawful loaded

-- the patches of the five tables
pub all_loaded : (R : Patch → List AnyFact → Type 0) (slots units : ℕ) (ps : List Patch) (t : LoadedTables) → ArePatches slots units ps
    → AllZip R (of_tag 1 ps) (map (map any.Object) t.objects.items) → AllZip R (of_tag 2 ps) (map (map any.Medium) t.mediums.items) → AllZip R (of_tag 3 ps) (map (map any.Address) t.addresses.items)
    → AllZip R (of_tag 4 ps) (map (map any.Segment) t.segments.items) → AllZip R (of_tag 5 ps) (map (map any.Elision) t.elisions.items) → AllZip R ps (patches_in t)
all_loaded R slots units ps t lawful objects mediums addresses segments elisions =
    subst (λ (l : List Patch). AllZip R l (patches_in t)) (five_tables slots units ps lawful.each lawful.by_tag)
    (zip_append R (of_tag 1 ps) (map (map any.Object) t.objects.items) _ _ objects
    (zip_append R (of_tag 2 ps) (map (map any.Medium) t.mediums.items) _ _ mediums
    (zip_append R (of_tag 3 ps) (map (map any.Address) t.addresses.items) _ _ addresses
    (zip_append R (of_tag 4 ps) (map (map any.Segment) t.segments.items) _ _ segments elisions))))

-- the patches of a lawful record of the shelf
pub lawful_patches : (a : Shelved) (boot : BootRecord) → IsRecordOf (geometry_of a) boot → ArePatches a.drives a.units boot.patches
lawful_patches a boot is =
    subst (λ (n : ℕ). ArePatches a.drives n boot.patches) is.units (subst (λ (n : ℕ). ArePatches n boot.units boot.patches) is.slots is.lawful.patches)

-- which is of its size
pub same_geometry : (shelf : Geometry) (boot : BootRecord) → IsRecordOf shelf boot → let own : Geometry = record { slots = boot.slots; units = boot.units } in own ≡ shelf
same_geometry shelf boot is = λ i. record { slots = is.slots i; units = is.units i }
