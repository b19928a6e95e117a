-- Tables are sound where each of their parts is.
use Rattle.table_soundness.proofs.Prelude.{◌≡◌, ◌≢◌, ℕ, ◌<◌, ◌∙◌, List, [], ◌∷◌, ◌++◌, map, refl, sym, ap, ap₂, subst, inl, inr, All, AllPairs, append_assoc, map-append, All-append, All-map, All-from_recursion, recursion_from_All, Geometry, Facts, any_number, AnyFact, ObjectFact, MediumFact, AddressFact, SegmentFact, ElisionFact, Table, BootRecord, AreIdsBelow, AreObjectsSound, AreMediumsSound, AreAddressesSound, AreSegmentsSound, AreElisionsSound, AreSequencesSound, AreSound, in_patches, facts_of, facts_in, patches_in, AreNamed, all_left, all_right, all_unmap, pairs_left, pairs_map, pairs_unmap, patches_rise, tables_rise, all_joined, five, five_apart, joined, same_facts, same_five, numbers_before, numbers_of, AreNumbersOf, IsFault, IsTableSound, LoadedTables}
use Rattle.pur_base.specs.declared.facts.AnyFact.TheVariants as any
use Rattle.pur_base.specs.declared.request.Table.TheVariants as table

-- ---- numbers

numbers_are : {F : Type 0} (number : F → ℕ) (c : F → AnyFact) → ((x : F) → any_number (c x) ≡ number x) → (xs : List F) → map any_number (map c xs) ≡ map number xs
numbers_are number c h [] = refl
numbers_are number c h (x ∷ xs) = ap₂ (λ n l. n ∷ l) (h x) (numbers_are number c h xs)

left_five : (v w x y z : List ℕ) → (((v ++ w) ++ x) ++ y) ++ z ≡ five v w x y z
left_five v w x y z = append_assoc ((v ++ w) ++ x) y z ∙ append_assoc (v ++ w) x (y ++ z) ∙ append_assoc v w (x ++ (y ++ z))

abbrev Differ : ℕ → ℕ → Type 0
Differ i j = i ≢ j

module _ (boot : BootRecord) (t : LoadedTables) (named : AreNamed boot t) where
  abbrev next : ℕ
  next = boot.next.sequence

  abbrev IsBelow : AnyFact → Type 0
  IsBelow f = any_number f < next

  abbrev o : List ObjectFact
  o = facts_of t.objects.items

  abbrev m : List MediumFact
  m = facts_of t.mediums.items

  abbrev a : List AddressFact
  a = facts_of t.addresses.items

  abbrev s : List SegmentFact
  s = facts_of t.segments.items

  abbrev e : List ElisionFact
  e = facts_of t.elisions.items

  -- all numbers, in the order of the tables
  abbrev total : List ℕ
  total = numbers_before t table.Elision ++ numbers_of t table.Elision

  numbers_joined : map any_number (in_patches (patches_in t)) ≡ total
  numbers_joined =
      ap (map any_number) (all_joined t)
      ∙ five_apart (map any_number) (map-append any_number) (map any.Object o) (map any.Medium m) (map any.Address a) (map any.Segment s) (map any.Elision e)
      ∙ same_five _ _ _ _ _ _ _ _ _ _ (numbers_are (λ f. f.seq.0) any.Object (λ x. refl) o) (numbers_are (λ f. f.seq.0) any.Medium (λ x. refl) m) (numbers_are (λ f. f.seq.0) any.Address (λ x. refl) a)
      (numbers_are (λ f. f.seq.0) any.Segment (λ x. refl) s) (numbers_are (λ f. f.seq.0) any.Elision (λ x. refl) e)
      ∙ sym (left_five (numbers_of t table.Object) (numbers_of t table.Medium) (numbers_of t table.Address) (numbers_of t table.Segment) (numbers_of t table.Elision))

  pub sequences_from_parts : ((x : Table) → AreNumbersOf next t x) → AreSequencesSound boot (patches_in t)
  sequences_from_parts h = record {
    below = recursion_from_All IsBelow (in_patches (patches_in t)) (subst (λ fs. All IsBelow fs) (sym (all_joined t))
        (All-append IsBelow (map any.Object o) (map any.Medium m ++ (map any.Address a ++ (map any.Segment s ++ map any.Elision e))) (All-map IsBelow any.Object o (h table.Object).below)
        (All-append IsBelow (map any.Medium m) (map any.Address a ++ (map any.Segment s ++ map any.Elision e)) (All-map IsBelow any.Medium m (h table.Medium).below)
        (All-append IsBelow (map any.Address a) (map any.Segment s ++ map any.Elision e) (All-map IsBelow any.Address a (h table.Address).below)
        (All-append IsBelow (map any.Segment s) (map any.Elision e) (All-map IsBelow any.Segment s (h table.Segment).below) (All-map IsBelow any.Elision e (h table.Elision).below))))));
    distinct = pairs_unmap Differ any_number (in_patches (patches_in t)) (subst (λ ns. AllPairs Differ ns) (sym numbers_joined) (h table.Elision).distinct);
    rising = patches_rise boot t named (record {
      objects = (h table.Object).rising;
      mediums = (h table.Medium).rising;
      addresses = (h table.Address).rising;
      segments = (h table.Segment).rising;
      elisions = (h table.Elision).rising;
    });
  }

  pub parts_from_sequences : AreSequencesSound boot (patches_in t) → (x : Table) → AreNumbersOf next t x
  parts_from_sequences h = each
    where
      all_below : All IsBelow (joined t)
      all_below = subst (λ fs. All IsBelow fs) (all_joined t) (All-from_recursion IsBelow (in_patches (patches_in t)) h.below)

      below_1 : All IsBelow (map any.Medium m ++ (map any.Address a ++ (map any.Segment s ++ map any.Elision e)))
      below_1 = all_right IsBelow (map any.Object o) (map any.Medium m ++ (map any.Address a ++ (map any.Segment s ++ map any.Elision e))) all_below

      below_2 : All IsBelow (map any.Address a ++ (map any.Segment s ++ map any.Elision e))
      below_2 = all_right IsBelow (map any.Medium m) (map any.Address a ++ (map any.Segment s ++ map any.Elision e)) below_1

      below_3 : All IsBelow (map any.Segment s ++ map any.Elision e)
      below_3 = all_right IsBelow (map any.Address a) (map any.Segment s ++ map any.Elision e) below_2

      distinct_5 : AllPairs Differ total
      distinct_5 = subst (λ ns. AllPairs Differ ns) numbers_joined (pairs_map Differ any_number (in_patches (patches_in t)) h.distinct)

      distinct_4 : AllPairs Differ (numbers_before t table.Segment ++ numbers_of t table.Segment)
      distinct_4 = pairs_left Differ (numbers_before t table.Elision) (numbers_of t table.Elision) distinct_5

      distinct_3 : AllPairs Differ (numbers_before t table.Address ++ numbers_of t table.Address)
      distinct_3 = pairs_left Differ (numbers_before t table.Segment) (numbers_of t table.Segment) distinct_4

      distinct_2 : AllPairs Differ (numbers_before t table.Medium ++ numbers_of t table.Medium)
      distinct_2 = pairs_left Differ (numbers_before t table.Address) (numbers_of t table.Address) distinct_3

      distinct_1 : AllPairs Differ (numbers_of t table.Object)
      distinct_1 = pairs_left Differ (numbers_of t table.Object) (numbers_of t table.Medium) distinct_2

      each : (x : Table) → AreNumbersOf next t x
      each table.Object = record {
        below = all_unmap IsBelow any.Object o (all_left IsBelow (map any.Object o) (map any.Medium m ++ (map any.Address a ++ (map any.Segment s ++ map any.Elision e))) all_below);
        distinct = distinct_1;
        rising = (tables_rise boot t named h.rising).objects;
      }
      each table.Medium = record {
        below = all_unmap IsBelow any.Medium m (all_left IsBelow (map any.Medium m) (map any.Address a ++ (map any.Segment s ++ map any.Elision e)) below_1);
        distinct = distinct_2;
        rising = (tables_rise boot t named h.rising).mediums;
      }
      each table.Address = record {
        below = all_unmap IsBelow any.Address a (all_left IsBelow (map any.Address a) (map any.Segment s ++ map any.Elision e) below_2);
        distinct = distinct_3;
        rising = (tables_rise boot t named h.rising).addresses;
      }
      each table.Segment = record {
        below = all_unmap IsBelow any.Segment s (all_left IsBelow (map any.Segment s) (map any.Elision e) below_3);
        distinct = distinct_4;
        rising = (tables_rise boot t named h.rising).segments;
      }
      each table.Elision = record {
        below = all_unmap IsBelow any.Elision e (all_right IsBelow (map any.Segment s) (map any.Elision e) below_3);
        distinct = distinct_5;
        rising = (tables_rise boot t named h.rising).elisions;
      }

  pub sound_from_parts : (shelf : Geometry) → ((x : Table) → IsTableSound shelf boot (facts_in t) x) → ((x : Table) → AreNumbersOf next t x) → AreSound shelf boot (patches_in t)
  sound_from_parts shelf own numbers =
      let back = sym (same_facts t) in
      record {
        ids = subst (λ fs. AreIdsBelow boot.next fs) back (record {
          objects = (own table.Object).ids;
          mediums = (own table.Medium).ids;
          addresses = (own table.Address).ids;
          segments = (own table.Segment).ids;
          elisions = (own table.Elision).ids;
        });
        objects = subst (λ fs. AreObjectsSound fs boot.next.object) back (own table.Object).sound;
        mediums = subst AreMediumsSound back (own table.Medium).sound;
        addresses = subst AreAddressesSound back (own table.Address).sound;
        segments = subst (λ fs. AreSegmentsSound shelf boot fs) back (own table.Segment).sound;
        elisions = subst (λ (fs : Facts). AreElisionsSound fs.elisions) back (own table.Elision).sound;
        sequences = sequences_from_parts numbers;
      }

  pub parts_from_sound : (shelf : Geometry) → AreSound shelf boot (patches_in t) → ((x : Table) → IsTableSound shelf boot (facts_in t) x) × ((x : Table) → AreNumbersOf next t x)
  parts_from_sound shelf h = (own, parts_from_sequences h.sequences)
    where
      ids : AreIdsBelow boot.next (facts_in t)
      ids = subst (λ fs. AreIdsBelow boot.next fs) (same_facts t) h.ids

      own : (x : Table) → IsTableSound shelf boot (facts_in t) x
      own table.Object = record { ids = ids.objects; sound = subst (λ fs. AreObjectsSound fs boot.next.object) (same_facts t) h.objects }
      own table.Medium = record { ids = ids.mediums; sound = subst AreMediumsSound (same_facts t) h.mediums }
      own table.Address = record { ids = ids.addresses; sound = subst AreAddressesSound (same_facts t) h.addresses }
      own table.Segment = record { ids = ids.segments; sound = subst (λ fs. AreSegmentsSound shelf boot fs) (same_facts t) h.segments }
      own table.Elision = record { ids = ids.elisions; sound = subst (λ (fs : Facts). AreElisionsSound fs.elisions) (same_facts t) h.elisions }

  pub not_at_fault : (shelf : Geometry) (x : Table) → IsFault shelf boot t x → AreSound shelf boot (patches_in t) → ⊥
  not_at_fault shelf x (inl own) h = own.fails ((parts_from_sound shelf h).0 x)
  not_at_fault shelf x (inr numbers) h = numbers.1.fails ((parts_from_sound shelf h).1 x)
