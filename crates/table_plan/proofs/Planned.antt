-- What a plan makes of memory is a checkpoint.
use Rattle.std.proofs.lemmas.Bool.Decides.{nat_tests}
use Rattle.table_plan.proofs.Prelude.{◌≡◌, ◌⊎◌, ◌↔◌, ℕ, ◌+◌, ◌*◌, ◌<◌, ◌≤◌, Bool, true, false, List, [], ◌++◌, length, map, refl, sym, ap, ◌∙◌, arith, inl, inr, subst, Option, Some, None, slice_get, slice_index_or, Contains, eq-eqb, append-nil, and_from, slice_get_within, slice_get-get_or, Contains-append_left, Contains-append_right, Contains-append_cases, list_any_at, flat_map-append, is_elided, SEGMENT_SECTORS, Table, Location, Place, Target, Stored, Zero, AddressFact, SegmentFact, NextNumbers, facts_of, patch_facts, patches_of, nowhere, facts, Memory, Contents, FitsTarget, FitsInMemory, IsSound, in_map, of_map, all_addresses, IsEliding, IsFlush, IsShrunk, placed_target, repointed, AreRepointed, IsPlacedAt, AreNewSegments, IsPlacing, IsCheckpointed, flush_shrinks, shrunk_sound, same_some, placing_sound, staged_target, other_target, which_place, old_segment_id, is_named, flagged_from, place_of, places_from, place_or_any, place_in, segments_from, eliding, sectors_at, extended, AreStored, IsPlanned, ElidedIsCheckpointed, PlannedIsCheckpointed}
use Rattle.pur_base.specs.declared.facts.AnyFact.TheVariants as any
use Rattle.memory_spec.proofs.Putting.{address_numbers}
use Rattle.memory_spec.proofs.Eliding.{eliding_reads}
use Rattle.table_plan.proofs.PlacesLemmas.{is_flagged, placed_contents, older_contents}
use Rattle.table_plan.proofs.SegmentsLemmas.{is_new_segment, holds_rank, rooms}

-- ---- a fact that names a staged sector is found

pub named_by : (newest : List AddressFact) (g : AddressFact) (at : Location) → Contains newest g → g.target ≡ Stored at → at.segment.0 ≡ 0 → is_named newest at.index ≡ true
named_by newest g at c e none = grind (arith, nat_tests, list_any_at, and_from, eq-eqb)

-- ---- no elision

nothing_elided : (m : Memory) → IsSound m → IsEliding m m []
nothing_elided m s = record {
  elisions = λ f. (λ c. inl c, λ c. elim c [ inl o ↦ o | inr n ↦ absurd (nowhere f n) ]);
  new_elisions = record { each = λ f c. absurd (nowhere f c); ids = λ f c. absurd (nowhere f c); numbers = λ f c. absurd (nowhere f c); one_number = λ f g c d e. absurd (nowhere f c) };
  sound = s.elisions;
  no_object = λ f c. absurd (nowhere f c);
  mediums_unreached = λ id e. inl e;
  addresses_unreached = λ id e. inl e;
  segments_unused = λ id e. inl e;
  objects = refl;
  mediums = refl;
  addresses = refl;
  segments = refl;
  staged = refl;
  next = refl;
  numbers = (omega arith, s.next.sequence.1);
}

module _ (contents : Contents) (was now : Memory) (flags : List Bool) (newest : List AddressFact) (units : List (List Place)) (s : IsSound was) (stored : AreStored (facts_of was.tables.addresses.patches))
    (h : IsPlanned was now flags newest units) where
  abbrev pub Place_of : ℕ → Location
  Place_of = place_in (places_from was.next.segment 0 flags)

  abbrev Order : List ℕ
  Order = flagged_from 0 flags

  abbrev pub Added : List SegmentFact
  Added = segments_from was.next.segment was.next.sequence (length Order) units

  abbrev pub Contents2 : Contents
  Contents2 = extended contents was.next.segment (sectors_at Order was.staged)

  -- memory once the sectors are placed, before the flush
  abbrev pub Placed : Memory
  Placed = record {
    tables = record was.tables {
      addresses = record was.tables.addresses { unflushed = map (repointed Place_of) newest };
      segments = record was.tables.segments { unflushed = was.tables.segments.unflushed ++ Added };
    };
    staged = [];
    next = now.next;
  }

  -- ---- addresses

  flushed_same : (f : AddressFact) → Contains (facts_of was.tables.addresses.patches) f → f ≡ repointed Place_of f
  flushed_same f c = one f.target refl
    where
      one : (t : Target) → f.target ≡ t → f ≡ repointed Place_of f
      one (Stored at) e =
          let same : placed_target Place_of f.target ≡ f.target = ap (λ t. placed_target Place_of t) e ∙ other_target Place_of at (stored f at c e) ∙ sym e in
          ap (λ t. record f { target = t }) (sym same)
      one Zero e = grind (arith, nat_tests)

  in_old : (g : AddressFact) → Contains newest g → Contains (facts was.tables).addresses g
  in_old g c = Contains-append_right (facts_of was.tables.addresses.patches) was.tables.addresses.unflushed g (h.made.source g c)

  are_repointed : AreRepointed Place_of (facts was.tables).addresses (facts Placed.tables).addresses
  are_repointed = record {
    source = λ f c. elim (Contains-append_cases (facts_of was.tables.addresses.patches) (map (repointed Place_of) newest) f c) [
      | inl a ↦ (f, Contains-append_left (facts_of was.tables.addresses.patches) was.tables.addresses.unflushed f a, flushed_same f a)
      | inr b ↦ (let w = of_map (repointed Place_of) newest f b in (w.0, in_old w.0 w.1, w.2))
    ];
    stays = λ g c. elim (Contains-append_cases (facts_of was.tables.addresses.patches) was.tables.addresses.unflushed g c) [
      | inl a ↦ inl (Contains-append_left (facts_of was.tables.addresses.patches) (map (repointed Place_of) newest) (repointed Place_of g) (subst (λ z. Contains (facts_of was.tables.addresses.patches) z) (flushed_same g a) a))
      | inr b ↦ elim (h.made.dropped g b) [
        | inl d ↦ inl (Contains-append_right (facts_of was.tables.addresses.patches) (map (repointed Place_of) newest) (repointed Place_of g) (in_map (repointed Place_of) newest g d))
        | inr n ↦ inr (n.0, Contains-append_right (facts_of was.tables.addresses.patches) was.tables.addresses.unflushed n.0 n.1, n.2, n.3)
      ]
    ];
  }

  -- a fact that stays and names a staged sector is one of the newest
  is_newest : (g : AddressFact) (at : Location) → Contains (facts was.tables).addresses g → Contains (facts Placed.tables).addresses (repointed Place_of g) → g.target ≡ Stored at → at.segment.0 ≡ 0 → Contains newest g
  is_newest g at c d e none = elim (Contains-append_cases (facts_of was.tables.addresses.patches) (map (repointed Place_of) newest) (repointed Place_of g) d) [
    | inl a ↦
        let old : Contains (facts was.tables).addresses (repointed Place_of g) = Contains-append_left (facts_of was.tables.addresses.patches) was.tables.addresses.unflushed (repointed Place_of g) a in
        let same : repointed Place_of g ≡ g = address_numbers was s (repointed Place_of g) g old c refl in
        let some : 1 ≤ at.segment.0 = stored g at (subst (λ z. Contains (facts_of was.tables.addresses.patches) z) same a) e in
        absurd (omega (arith, some, none))
    | inr b ↦
        let w = of_map (repointed Place_of) newest (repointed Place_of g) b in
        let same : w.0 ≡ g = address_numbers was s w.0 g (in_old w.0 w.1) c (sym (ap (λ z. z.seq.0) w.2)) in
        subst (λ z. Contains newest z) same w.1
  ]

  staged_index : (g : AddressFact) (at : Location) → Contains (facts was.tables).addresses g → g.target ≡ Stored at → at.segment.0 ≡ 0 → at.index < length was.staged
  staged_index g at c e none =
      let fits : FitsInMemory (length was.staged) (any.Address g) = s.fit (any.Address g) (all_addresses (facts was.tables) g c) in
      let target : FitsTarget (length was.staged) (Stored at) = subst (λ t. FitsTarget (length was.staged) t) e fits.3 in
      elim target [ inl p ↦ p.1 | inr p ↦ (let some = p.0 in absurd (omega (arith, some, none))) ]

  room : (length Order ≤ SEGMENT_SECTORS * length units) × (SEGMENT_SECTORS * length units < length Order + SEGMENT_SECTORS)
  room = rooms (length Order) (length units) h.wanted

  placed : (g : AddressFact) (at : Location) → Contains (facts was.tables).addresses g → Contains (facts Placed.tables).addresses (repointed Place_of g) → g.target ≡ Stored at → at.segment.0 ≡ 0
      → IsPlacedAt Contents2 was.staged Added at.index (Place_of at.index)
  placed g at c d e none =
      let within : at.index < length was.staged = staged_index g at c e none in
      let flag : slice_index_or flags at.index false ≡ true = h.named at.index within ∙ named_by newest g at (is_newest g at c d e none) e none in
      let w = is_flagged was.next.segment 0 0 flags at.index flag in
      let listed : slice_get Order w.rank ≡ Some at.index = w.listed ∙ ap (λ k. Some k) (omega arith) in
      let place : Place_of at.index ≡ place_of was.next.segment w.rank = ap (λ o. place_or_any o) w.placed ∙ ap (λ k. place_of was.next.segment k) (omega arith) in
      let d2 = holds_rank was.next.segment was.next.sequence (length Order) units w.rank (slice_get_within Order w.rank at.index listed) room.0 in
      let sector : slice_get was.staged at.index ≡ Some (slice_index_or was.staged at.index []) = slice_get-get_or was.staged at.index [] within in
      let read : extended contents was.next.segment (sectors_at Order was.staged) (place_of was.next.segment w.rank).segment.0 (place_of was.next.segment w.rank).index ≡ slice_index_or was.staged at.index [] =
      placed_contents contents was.next.segment Order was.staged w.rank at.index listed in
      subst (λ z. IsPlacedAt Contents2 was.staged Added at.index z) (sym place) (d2.segment, d2.there, d2.id, d2.within, sector ∙ ap (λ z. Some z) (sym read))

  -- ---- segments

  new_segments : AreNewSegments was.next now.next Added
  new_segments = record {
    each = λ d c.
        let w = is_new_segment was.next.segment was.next.sequence (length Order) units d c in
        let own = h.places d.places w.places in
        let id = w.id in
        let seq = w.seq in
        let at = w.within in
        let placed = w.placed in
        let some = room.1 in
        let a = s.next.segment.0 in
        let b = s.next.sequence.0 in
        let m = h.left.0 in
        let n = h.left.1 in
        record {
          lawful = grind (arith, nat_tests);
          fits = own;
        };
    ids = λ d c.
        let w = is_new_segment was.next.segment was.next.sequence (length Order) units d c in
        let id = w.id in
        let at = w.within in
        let next : now.next.segment ≡ was.next.segment + length units = ap (λ (n : NextNumbers). n.segment) h.next in
        (omega (arith, id), omega (arith, id, at, next));
    numbers = λ d c.
        let w = is_new_segment was.next.segment was.next.sequence (length Order) units d c in
        let seq = w.seq in
        let at = w.within in
        let next : now.next.sequence ≡ was.next.sequence + length units = ap (λ (n : NextNumbers). n.sequence) h.next in
        (omega (arith, seq), omega (arith, seq, at, next));
    one_id = λ d e c f same.
        let v = is_new_segment was.next.segment was.next.sequence (length Order) units d c in
        let w = is_new_segment was.next.segment was.next.sequence (length Order) units e f in
        let a = v.id in
        let b = w.id in
        let at : v.at ≡ w.at = omega (arith, a, b, same) in
        same_some (slice_get Added w.at) (subst (λ k. slice_get Added k ≡ Some d) at v.same) w.same;
    one_number = λ d e c f same.
        let v = is_new_segment was.next.segment was.next.sequence (length Order) units d c in
        let w = is_new_segment was.next.segment was.next.sequence (length Order) units e f in
        let a = v.seq in
        let b = w.seq in
        let at : v.at ≡ w.at = omega (arith, a, b, same) in
        same_some (slice_get Added w.at) (subst (λ k. slice_get Added k ≡ Some d) at v.same) w.same;
  }

  segments_are : (d : SegmentFact) → Contains (facts Placed.tables).segments d ↔ (Contains (facts was.tables).segments d ⊎ Contains Added d)
  segments_are d = (
    λ c. elim (Contains-append_cases (facts_of was.tables.segments.patches) (was.tables.segments.unflushed ++ Added) d c) [
      | inl a ↦ inl (Contains-append_left (facts_of was.tables.segments.patches) was.tables.segments.unflushed d a)
      | inr b ↦ elim (Contains-append_cases was.tables.segments.unflushed Added d b) [
        | inl e ↦ inl (Contains-append_right (facts_of was.tables.segments.patches) was.tables.segments.unflushed d e)
        | inr e ↦ inr e
      ]
    ],
    λ c. elim c [
      | inl a ↦ elim (Contains-append_cases (facts_of was.tables.segments.patches) was.tables.segments.unflushed d a) [
        | inl e ↦ Contains-append_left (facts_of was.tables.segments.patches) (was.tables.segments.unflushed ++ Added) d e
        | inr e ↦ Contains-append_right (facts_of was.tables.segments.patches) (was.tables.segments.unflushed ++ Added) d (Contains-append_left was.tables.segments.unflushed Added d e)
      ]
      | inr b ↦ Contains-append_right (facts_of was.tables.segments.patches) (was.tables.segments.unflushed ++ Added) d (Contains-append_right was.tables.segments.unflushed Added d b)
    ],
  )

  pub placing : IsPlacing contents Contents2 was Placed Place_of Added
  placing = record {
    addresses = are_repointed;
    placed = placed;
    kept = λ id index d e l. older_contents contents was.next.segment (sectors_at Order was.staged) id index (old_segment_id was s id d e);
    segments = segments_are;
    new_segments = new_segments;
    objects = refl;
    mediums = refl;
    elisions = refl;
    staged = refl;
    next = grind (arith, nat_tests);
  }

  pub flush : IsFlush Placed now
  flush = grind (arith, nat_tests)

  pub checkpointed : IsCheckpointed contents Contents2 was now
  checkpointed = record {
    elisions = [];
    elided = was;
    eliding = nothing_elided was s;
    place = Place_of;
    segments = Added;
    placed = Placed;
    placing = placing;
    flush = flush;
    layered = h.layered;
  }

  -- ---- memory stays sound, and the same ids are elided

  placed_is_sound : IsSound Placed
  placed_is_sound = placing_sound contents Contents2 was Placed Place_of Added s placing

  shrunk : IsShrunk Placed now
  shrunk = flush_shrinks Placed now placed_is_sound flush

  pub planned_sound : IsSound now
  planned_sound = shrunk_sound Placed now placed_is_sound shrunk

  pub planned_elided : (t : Table) (id : ℕ) → is_elided (facts now.tables).elisions t id ≡ is_elided (facts was.tables).elisions t id
  planned_elided t id = shrunk.facts.same_elided t id

  -- ---- no fact names a staged sector any more

  one_patch : (p : Option (List AddressFact)) → facts_of (patches_of p) ≡ patch_facts p
  one_patch None = refl
  one_patch (Some fs) = append-nil fs

  pub still_stored : AreStored (facts_of now.tables.addresses.patches)
  still_stored f at c e = elim (Contains-append_cases (facts_of was.tables.addresses.patches) (patch_facts h.addresses.patch) f (subst (λ l. Contains l f) shape c)) [
    | inl a ↦ stored f at a e
    | inr b ↦
        let w = of_map (repointed Place_of) newest f (h.addresses.made.source f b) in
        named w.0 w.1 w.0.target refl (ap (λ z. z.target) (sym w.2) ∙ e) w.2 b
  ]
    where
      shape : facts_of now.tables.addresses.patches ≡ facts_of was.tables.addresses.patches ++ patch_facts h.addresses.patch
      shape = ap (λ p. facts_of p) h.addresses.patches ∙ flat_map-append (λ l. l) was.tables.addresses.patches (patches_of h.addresses.patch) ∙ ap (λ l. facts_of was.tables.addresses.patches ++ l) (one_patch h.addresses.patch)

      named : (g : AddressFact) → Contains newest g → (t : Target) → g.target ≡ t → placed_target Place_of g.target ≡ Stored at → f ≡ repointed Place_of g → Contains (patch_facts h.addresses.patch) f → 1 ≤ at.segment.0
      named g i Zero is target same b = grind (arith, nat_tests)
      named g i (Stored a) is target same b = elim (which_place a.segment.0) [
        | inl none ↦
            let there : Contains (facts Placed.tables).addresses (repointed Place_of g) = Contains-append_right (facts_of was.tables.addresses.patches) (map (repointed Place_of) newest) (repointed Place_of g) (in_map (repointed Place_of) newest g i) in
            let w = placed g a (in_old g i) there is none in
            let to : Stored (Place_of a.index) ≡ Stored at = sym (staged_target Place_of a none) ∙ sym (ap (λ t. placed_target Place_of t) is) ∙ target in
            let spot : Place_of a.index ≡ at = cc in
            let first = (new_segments.ids w.0 w.1).0 in
            let id : w.0.segment.0 ≡ at.segment.0 = w.2 ∙ ap (λ (z : Location). z.segment.0) spot in
            let some = s.next.segment.0 in
            omega (arith, first, id, some)
        | inr some ↦ grind (arith, nat_tests, other_target)
      ]

pub planned_is_checkpointed : PlannedIsCheckpointed
planned_is_checkpointed contents was now flags newest units array r stored h =
    (checkpointed contents was now flags newest units r.sound stored h, still_stored contents was now flags newest units r.sound stored h)

-- the same behind elisions
pub elided_is_checkpointed : ElidedIsCheckpointed
elided_is_checkpointed contents was now added flags newest units array r stored e h =
    let sound : IsSound (eliding was added) = (eliding_reads contents was (eliding was added) added array r e).sound in (
      record {
        elisions = added;
        elided = eliding was added;
        eliding = e;
        place = Place_of contents (eliding was added) now flags newest units sound stored h;
        segments = Added contents (eliding was added) now flags newest units sound stored h;
        placed = Placed contents (eliding was added) now flags newest units sound stored h;
        placing = placing contents (eliding was added) now flags newest units sound stored h;
        flush = flush contents (eliding was added) now flags newest units sound stored h;
        layered = h.layered;
      },
      still_stored contents (eliding was added) now flags newest units sound stored h,
    )
