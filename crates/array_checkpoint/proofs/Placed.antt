-- What the new data segments of a checkpoint hold: sectors that addresses name, each once.
use Rattle.array_checkpoint.proofs.Prelude.{◌≡◌, ℕ, ◌+◌, ◌-◌, ◌*◌, ◌/◌, ◌%◌, ◌<◌, ◌≤◌, min, Bool, List, ◌++◌, length, refl, sym, ap, ◌∙◌, arith, inl, inr, subst, Option, Some, None, Contains, append-nil, flat_map-append, Contains-append_cases, Contains-append_right, Facts, segment, Place, AddressFact, SegmentFact, SEGMENT_SECTORS, all_facts, facts_of, patch_facts, patches_of, Memory, facts, patches, patches_are_all, IsEliding, in_map, same_some, pairs_of, HasAddress, HoldAddressed, address_key, Location, Stored, placed_target, repointed, below_at, flagged_from, place_in, places_from, IsPlanned, segments_from, place_or_any, staged_target, Plan, eliding_by, after_plan, units_of, IsPlanFor, IsSameMemory}
use Rattle.table_plan.specs.Prelude.{place_of}
use Rattle.table_plan.proofs.SegmentsLemmas.{holds_rank, is_new_segment, rooms}
use Rattle.array_memory.proofs.PlanLemmas.{addresses_ascend, addresses_newer, units_long}
use Rattle.table_planner.proofs.PlanLemmas.{facts_same}
use Rattle.array_checkpoint.proofs.After.{is_planned, nothing, whole_then}
use Rattle.array_checkpoint.proofs.Said.{flagged_at, names_one, planned_new}

one_patch : (patch : Option (List AddressFact)) → facts_of (patches_of patch) ≡ patch_facts patch
one_patch None = refl
one_patch (Some fs) = append-nil fs

abbrev Sector : ℕ → ℕ → Location
Sector id index = record { segment = record { 0 = id }; index = index }

-- a place in order of staging, by the segment and its sector
same_place : (first i index : ℕ) → index < SEGMENT_SECTORS → place_of first (SEGMENT_SECTORS * i + index) ≡ Sector (first + i) index
same_place first i index within =
    let id : first + (SEGMENT_SECTORS * i + index) / SEGMENT_SECTORS ≡ first + i = omega (arith, within) in
    let at : (SEGMENT_SECTORS * i + index) % SEGMENT_SECTORS ≡ index = omega (arith, within) in
    ap (λ s. Sector s ((SEGMENT_SECTORS * i + index) % SEGMENT_SECTORS)) id ∙ ap (λ j. Sector (first + i) j) at

module _ (m : Memory) (p : Plan) (keeps : IsEliding m (eliding_by m p.eliding) p.eliding.facts.items) (plan : IsPlanFor (eliding_by m p.eliding) p) (n : Memory) (same : IsSameMemory (after_plan m p) n) where
  abbrev Elided : Memory
  Elided = eliding_by m p.eliding

  abbrev First : ℕ
  First = m.next.segment

  abbrev Flags : List Bool
  Flags = p.placing.flags.items

  abbrev Newest : List AddressFact
  Newest = patch_facts p.placing.newest

  abbrev Sectors : ℕ
  Sectors = length (flagged_from 0 Flags)

  abbrev Units : List (List Place)
  Units = units_of p

  abbrev Added : List SegmentFact
  Added = segments_from First Elided.next.sequence Sectors Units

  abbrev PlaceOf : ℕ → Location
  PlaceOf = place_in (places_from First 0 Flags)

  is : IsPlanned Elided n Flags Newest Units
  is = is_planned m p keeps plan n same

  room : (Sectors ≤ SEGMENT_SECTORS * length Units) × (SEGMENT_SECTORS * length Units < Sectors + SEGMENT_SECTORS)
  room = rooms Sectors (length Units) is.wanted

  -- ---- the segments

  -- the new segment of an id
  record IsNew (i : ℕ) (d : SegmentFact) : Type 0 where
    visible : segment (facts n.tables) (First + i) ≡ Some d
    placed : d.placed ≡ min (Sectors - SEGMENT_SECTORS * i) SEGMENT_SECTORS

  new_at : (i : ℕ) → i < length Units → (d : SegmentFact) × IsNew i d
  new_at i l =
      let most = room.1 in
      let h = holds_rank First Elided.next.sequence Sectors Units (SEGMENT_SECTORS * i) (omega (arith, l, most)) room.0 in
      let w = is_new_segment First Elided.next.sequence Sectors Units h.segment h.there in
      let own = h.id in
      let id = w.id in
      let at : w.at ≡ i = omega (arith, own, id) in (
        h.segment,
        record {
          visible = subst (λ k. segment (facts n.tables) k ≡ Some h.segment) (id ∙ ap (λ k. First + k) at) (planned_new nothing Elided n Flags Newest Units plan.sound plan.stored is h.segment h.there);
          placed = w.placed ∙ ap (λ k. min (Sectors - SEGMENT_SECTORS * k) SEGMENT_SECTORS) at;
        },
      )

  -- and so it's any that is visible then
  new_one : (i : ℕ) (d : SegmentFact) → i < length Units → segment (facts n.tables) (First + i) ≡ Some d → d.placed ≡ min (Sectors - SEGMENT_SECTORS * i) SEGMENT_SECTORS
  new_one i d l seen = let w = new_at i l in ap (λ (x : SegmentFact). x.placed) (same_some (segment (facts n.tables) (First + i)) seen w.1.visible) ∙ w.1.placed

  -- ---- their sectors

  abbrev Old : List AddressFact
  Old = facts_of m.tables.addresses.patches

  abbrev New : List AddressFact
  New = patch_facts p.addresses

  addresses_are : (facts n.tables).addresses ≡ Old ++ New
  addresses_are = ap (λ (f : Facts). f.addresses) (facts_same (after_plan m p) n same)
      ∙ append-nil (facts_of (m.tables.addresses.patches ++ patches_of p.addresses)) ∙ flat_map-append (λ x. x) m.tables.addresses.patches (patches_of p.addresses) ∙ ap (λ l. Old ++ l) (one_patch p.addresses)

  -- the place of that number in order of staging is an address's
  ranked : (k : ℕ) → k < Sectors → HasAddress (facts n.tables) (place_of First k)
  ranked k l =
      let w = flagged_at First 0 0 Flags k l in
      let within = w.1 in
      let count = is.count in
      let g = names_one Newest w.0 (sym (is.named w.0 (omega (arith, within, count))) ∙ w.2) in
      let f : AddressFact = repointed PlaceOf g.0 in
      let place : PlaceOf g.2.0.index ≡ place_of First k = ap PlaceOf g.2.3 ∙ ap (λ o. place_or_any o) (w.3 ∙ ap (λ j. Some (place_of First j)) (omega arith)) in
      let names : f.target ≡ Stored (place_of First k) = ap (λ t. placed_target PlaceOf t) g.2.1 ∙ staged_target PlaceOf g.2.0 g.2.2 ∙ ap (λ at. Stored at) place in
      let new : Contains New f = subst (λ l. Contains l f) (sym plan.addresses) (in_map (repointed PlaceOf) Newest g.0 g.1) in
      record {
        fact = f;
        there = subst (λ l. Contains l f) (sym addresses_are) (Contains-append_right Old New f new);
        names = names;
        newest = λ h c key. elim (Contains-append_cases Old New h (subst (λ l. Contains l h) addresses_are c)) [
          | inl old ↦ (let less = below_at (λ (x : AddressFact). x.seq.0) Old New h f (addresses_newer Elided p plan) old new in omega (arith, less))
          | inr behind ↦ elim (pairs_of (λ a b. address_key a < address_key b) New h f (addresses_ascend Elided p plan) behind new) [
            | inl one ↦ (let number : h.seq.0 ≡ f.seq.0 = ap (λ (x : AddressFact). x.seq.0) one in omega (arith, number))
            | inr either ↦ elim either [ inl less ↦ absurd (omega (arith, less, key)) | inr less ↦ absurd (omega (arith, less, key)) ]
          ]
        ];
      }

  named : (i index : ℕ) (d : SegmentFact) → i < length Units → segment (facts n.tables) (First + i) ≡ Some d → index < d.placed → HasAddress (facts n.tables) (record { segment = record { 0 = First + i }; index = index })
  named i index d l seen within =
      let placed = new_one i d l seen in
      let k : ℕ = SEGMENT_SECTORS * i + index in
      subst (λ (at : Location). HasAddress (facts n.tables) at) (same_place First i index (omega (arith, placed, within))) (ranked k (omega (arith, placed, within)))

  facts_hold : HoldAddressed (facts n.tables) First (length p.segments.items)
  facts_hold =
      subst (λ c. HoldAddressed (facts n.tables) First c) (units_long Elided p plan) (record {
        some = λ i l. let w = new_at i l in let placed = w.1.placed in let most = room.1 in (w.0, w.1.visible, omega (arith, placed, most, l));
        full = λ i d l seen. let placed = new_one i d (omega (arith, l)) seen in let most = room.1 in omega (arith, placed, most, l);
        named = named;
      })

  pub patches_hold : HoldAddressed (all_facts (patches n.tables)) First (length p.segments.items)
  patches_hold = subst (λ (f : Facts). HoldAddressed f First (length p.segments.items)) (sym (patches_are_all n (whole_then m p keeps plan n same))) facts_hold
