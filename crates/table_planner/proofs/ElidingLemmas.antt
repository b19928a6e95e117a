-- What eliding unused segments keeps of memory, so that a plan can be made behind it.
use Rattle.table_planner.proofs.Prelude.{◌≡◌, ◌≢◌, ◌⊎◌, ◌↔◌, ℕ, ◌+◌, ◌<◌, ◌≤◌, Bool, false, List, [], ◌∷◌, ◌++◌, length, get_or, take, drop, refl, sym, ap, ◌∙◌, arith, inl, inr, subst, Option, option_map, Contains, IsTrue, take-append-drop, both_ways, take_more, Contains-append_left, Contains-append_right, Contains-append_cases, Contains-get_or, Contains-push, Contains-push_cases, recursion_from_All, address_key, elision_key, has_key, id_of, key_of, never, is_elided, is_within, AreElidedRanges, Table, AddressFact, ElisionFact, NUMBER_LIMIT, AreBelow, AreDistinct, IsFlushed, facts_in, facts_of, says_where, either, nowhere, all_below, below_at, rises_alone, rises_below, same_newest, Memory, IsSound, facts, all_elisions, IsEliding, AreLayered, AreApart, ElidedRanges, ranges_of, AreElisionsOf, IsElidedBy, eliding, items_of, medium_items, segment_items, Eliding, Placing, eliding_by, IsElidingOf, Kept, IsKept, is_hidden, SayAddresses, without_elisions, IsPlacingOf}
use Rattle.std.proofs.lemmas.Bool.Decides.{same_from_decides}
use Rattle.pur_base.specs.declared.request.Table.TheVariants as table
use Rattle.pur_base.specs.declared.facts.AnyFact.TheVariants as any
use Rattle.memory_spec.proofs.Eliding.{eliding_sound}
use Rattle.memory_spec.proofs.Created.{not_elided}
use Rattle.table_plan.proofs.ElidedLemmas.{elisions_alike, elisions_join, in_segments, is_eliding, items_elided}
use Rattle.table_plan.proofs.RangesOf.{IsIn}

-- ---- what is elided then

same_tests : (a b : Bool) → IsTrue a ↔ IsTrue b → a ≡ b
same_tests a b h = same_from_decides a b h (λ x. x, λ x. x)

-- ranges of the same ids
same_ranges : (es : List ElisionFact) (t : Table) (rs : List (ℕ × ℕ)) → AreApart rs → ((id : ℕ) → IsTrue (is_elided es t id) ↔ IsTrue (is_within rs id)) → AreElidedRanges es t rs
same_ranges es t rs apart same = record { same = same; whole = recursion_from_All (λ (r : ℕ × ℕ). r.0 ≤ r.1) rs apart.whole; apart = apart.apart }

module _ (k : Kept) (h : IsKept k) (mediums segments : List ℕ) (first more fs : List ElisionFact) (both : fs ≡ first ++ more) (copy mid now : ElidedRanges)
    (copied : (t : Table) → t ≢ table.Elision → (id : ℕ) → IsTrue (is_within (ranges_of copy t) id) ↔ IsTrue (is_within (ranges_of k.elided t) id))
    (made_first : AreElisionsOf (IsIn copy) k.memory.next.sequence (medium_items mediums) first)
    (ids_first : (t : Table) (i : ℕ) → IsIn mid t i ↔ (IsIn copy t i ⊎ Contains (medium_items mediums) (t, i)))
    (made_more : AreElisionsOf (IsIn mid) (k.memory.next.sequence + length first) (segment_items segments) more)
    (ids_more : (t : Table) (i : ℕ) → IsIn now t i ↔ (IsIn mid t i ⊎ Contains (segment_items segments) (t, i)))
    (apart : (t : Table) → AreApart (ranges_of now t)) where
  -- the copy elides what the facts do
  of_copy : (t : Table) → t ≢ table.Elision → (id : ℕ) → IsIn copy t id ↔ IsElidedBy (facts k.memory.tables) t id
  of_copy t ne id = (λ x. ((h.elided t ne).same id).1 ((copied t ne id).0 x), λ x. (copied t ne id).1 (((h.elided t ne).same id).0 x))

  as_facts : (t : Table) (id : ℕ) → IsIn copy t id ↔ IsElidedBy (facts k.memory.tables) t id
  as_facts table.Elision id = (λ x. absurd (both_ways false refl x), λ x. absurd (both_ways _ (not_elided k.memory.next (facts k.memory.tables) table.Elision id h.ids (omega arith)) x))
  as_facts table.Object id = of_copy table.Object (λ e. cc) id
  as_facts table.Medium id = of_copy table.Medium (λ e. cc) id
  as_facts table.Address id = of_copy table.Address (λ e. cc) id
  as_facts table.Segment id = of_copy table.Segment (λ e. cc) id

  pub made_all : AreElisionsOf (IsElidedBy (facts k.memory.tables)) k.memory.next.sequence (items_of mediums segments) fs
  made_all = subst (λ l. AreElisionsOf (IsElidedBy (facts k.memory.tables)) k.memory.next.sequence (items_of mediums segments) l) (sym both)
      (elisions_join (IsElidedBy (facts k.memory.tables)) k.memory.next.sequence (medium_items mediums) (segment_items segments) first more
      (elisions_alike (IsIn copy) (IsElidedBy (facts k.memory.tables)) as_facts k.memory.next.sequence (medium_items mediums) first made_first)
      (elisions_alike (IsIn mid) (λ t i. IsElidedBy (facts k.memory.tables) t i ⊎ Contains (medium_items mediums) (t, i)) in_between (k.memory.next.sequence + length first) (segment_items segments) more made_more))
    where
      in_between : (t : Table) (i : ℕ) → IsIn mid t i ↔ (IsElidedBy (facts k.memory.tables) t i ⊎ Contains (medium_items mediums) (t, i))
      in_between t i = (
        λ x. elim ((ids_first t i).0 x) [ inl old ↦ inl ((as_facts t i).0 old) | inr new ↦ inr new ],
        λ x. (ids_first t i).1 (elim x [ inl old ↦ inl ((as_facts t i).1 old) | inr new ↦ inr new ]),
      )

  abbrev After : List ElisionFact
  After = (facts (eliding k.memory fs).tables).elisions

  elided_after : (t : Table) (id : ℕ) → IsTrue (is_elided After t id) ↔ (IsElidedBy (facts k.memory.tables) t id ⊎ Contains (items_of mediums segments) (t, id))
  elided_after t id = items_elided k.memory (items_of mediums segments) fs made_all t id

  same_now : (t : Table) (id : ℕ) → IsTrue (is_elided After t id) ↔ IsIn now t id
  same_now t id = (
    λ x. (ids_more t id).1 (elim ((elided_after t id).0 x) [
      | inl old ↦ inl ((ids_first t id).1 (inl ((as_facts t id).1 old)))
      | inr c ↦ elim (Contains-append_cases (medium_items mediums) (segment_items segments) (t, id) c) [ inl a ↦ inl ((ids_first t id).1 (inr a)) | inr b ↦ inr b ]
    ]),
    λ x. (elided_after t id).1 (elim ((ids_more t id).0 x) [
      | inl a ↦ elim ((ids_first t id).0 a) [
        | inl old ↦ inl ((as_facts t id).0 old)
        | inr c ↦ inr (Contains-append_left (medium_items mediums) (segment_items segments) (t, id) c)
      ]
      | inr c ↦ inr (Contains-append_right (medium_items mediums) (segment_items segments) (t, id) c)
    ]),
  )

  pub elided_now : (t : Table) → t ≢ table.Elision → AreElidedRanges After t (ranges_of now t)
  elided_now t ne = same_ranges After t (ranges_of now t) (apart t) (same_now t)

  -- the addresses were said so before segments were elided
  hidden_same : (id : ℕ) → is_elided After table.Address id ≡ is_hidden mid id
  hidden_same id = same_tests (is_elided After table.Address id) (is_hidden mid id) (
    λ x. elim ((ids_more table.Address id).0 ((same_now table.Address id).0 x)) [
      | inl a ↦ a
      | inr c ↦ (let w = (in_segments segments table.Address id).0 c in absurd cc)
    ],
    λ x. (same_now table.Address id).1 ((ids_more table.Address id).1 (inl x)),
  )

  pub say_addresses : SayAddresses (facts_in k.memory.tables.addresses) (is_hidden mid) (facts (eliding k.memory fs).tables)
  say_addresses m x = ap (λ (o : Option AddressFact). option_map (λ (f : AddressFact). f.target) o)
      (says_where address_key (λ (f : AddressFact). f.seq.0) never (facts_in k.memory.tables.addresses) (is_hidden mid) (is_elided After table.Address) (key_of m x) (hidden_same (id_of (key_of m x))))

-- ---- what stays

module _ (k : Kept) (e : Eliding) (s : IsSound k.memory) (h : IsElidingOf k e) (left : k.memory.next.sequence + length e.facts.items < NUMBER_LIMIT) where
  pub keeps : IsEliding k.memory (eliding_by k.memory e) e.facts.items
  keeps = is_eliding k.memory e.mediums.items e.segments.items e.facts.items h.made s (λ id c. let u = h.unreached.each id c in (u.0, u.1, u.3)) h.unused.each left

  pub elided_sound : IsSound (eliding_by k.memory e)
  elided_sound = eliding_sound (λ a b. []) k.memory (eliding_by k.memory e) e.facts.items [] s keeps

  pub elisions_rise : AreLayered k.memory.tables → AreBelow (λ (f : ElisionFact). f.seq.0) (facts_of k.memory.tables.elisions.patches) (k.memory.tables.elisions.unflushed ++ e.facts.items)
  elisions_rise layered = all_below (λ (f : ElisionFact). f.seq.0) (facts_of k.memory.tables.elisions.patches) (k.memory.tables.elisions.unflushed ++ e.facts.items) (λ f g c d.
      elim (Contains-append_cases k.memory.tables.elisions.unflushed e.facts.items g d) [
        | inl old ↦ below_at (λ (x : ElisionFact). x.seq.0) (facts_of k.memory.tables.elisions.patches) k.memory.tables.elisions.unflushed f g
            (rises_below (λ (x : ElisionFact). x.seq.0) k.memory.tables.elisions.patches k.memory.tables.elisions.unflushed layered.elisions.rises) c old
        | inr new ↦
            let there : Contains (facts k.memory.tables).elisions f = Contains-append_left (facts_of k.memory.tables.elisions.patches) k.memory.tables.elisions.unflushed f c in
            let less : f.seq.0 < k.memory.next.sequence = s.numbers.below (any.Elision f) (all_elisions (facts k.memory.tables) f there) in
            let from = (keeps.new_elisions.numbers g new).0 in
            omega (arith, less, from)
      ])

  -- numbers of unflushed elisions and of these are different
  same_elision : (f g : ElisionFact) → any.Elision f ≡ any.Elision g → f ≡ g
  same_elision f g is = cc

  pub elisions_distinct : AreDistinct (λ (f : ElisionFact). f.seq.0) (k.memory.tables.elisions.unflushed ++ e.facts.items)
  elisions_distinct f g c d is = same_elision f g (elided_sound.numbers.distinct (any.Elision f) (any.Elision g)
      (all_elisions (facts (eliding_by k.memory e).tables) f (Contains-append_right (facts_of k.memory.tables.elisions.patches) (k.memory.tables.elisions.unflushed ++ e.facts.items) f c))
      (all_elisions (facts (eliding_by k.memory e).tables) g (Contains-append_right (facts_of k.memory.tables.elisions.patches) (k.memory.tables.elisions.unflushed ++ e.facts.items) g d)) is)

-- the layers of the tables, but for elisions
pub layered_without : (m : Memory) (e : Eliding) → AreLayered m.tables → AreLayered (without_elisions (eliding_by m e).tables)
layered_without m e l = record {
  objects = l.objects;
  mediums = l.mediums;
  addresses = l.addresses;
  segments = l.segments;
  elisions = record {
    ascend = l.elisions.ascend;
    ordered = λ i j d low within. absurd (omega (arith, within));
    rises = rises_alone (λ (f : ElisionFact). f.seq.0) m.tables.elisions.patches m.tables.elisions.unflushed l.elisions.rises;
  };
}

-- the same is placed
pub placing_then : (m : Memory) (e : Eliding) (p : Placing) → IsPlacingOf m p → IsPlacingOf (eliding_by m e) p
placing_then m e p h = record { made = h.made; count = h.count; named = h.named; order = h.order }

-- ---- the patch of elisions

-- what is flushed of some facts is flushed of the same in another order
pub flushed_as : (us vs new : List ElisionFact) → ((f : ElisionFact) → Contains us f ↔ Contains vs f) → AreDistinct (λ (f : ElisionFact). f.seq.0) vs
    → IsFlushed elision_key (λ f. f.seq.0) us new → IsFlushed elision_key (λ f. f.seq.0) vs new
flushed_as us vs new same distinct h = record {
  ascends = h.ascends;
  source = λ f c. (same f).0 (h.source f c);
  dropped = λ f c. elim (h.dropped f ((same f).1 c)) [ inl d ↦ inl d | inr n ↦ inr (n.0, (same n.0).0 n.1, n.2, n.3) ];
  newest = λ k. h.newest k ∙ same_newest (λ (f : ElisionFact). f.seq.0) (has_key elision_key k) us vs same distinct;
}

-- facts that are taken one by one into others
module _ (old facts_in_turn now : List ElisionFact) (i : ℕ) (d : ElisionFact) (within : i < length facts_in_turn)
    (so_far : (f : ElisionFact) → Contains now f ↔ (Contains old f ⊎ Contains (take i facts_in_turn) f)) where
  of_first : (f : ElisionFact) → Contains (take i facts_in_turn) f → Contains facts_in_turn f
  of_first f c = subst (λ l. Contains l f) (take-append-drop i facts_in_turn) (Contains-append_left (take i facts_in_turn) (drop i facts_in_turn) f c)

  among : (f : ElisionFact) → Contains (get_or facts_in_turn i d ∷ now) f → Contains (old ++ facts_in_turn) f
  among f c = elim (either (get_or facts_in_turn i d) f now c) [
    | inl same ↦ Contains-append_right old facts_in_turn f (subst (λ x. Contains facts_in_turn x) (sym same) (Contains-get_or facts_in_turn i d within))
    | inr there ↦ elim ((so_far f).0 there) [ inl a ↦ Contains-append_left old facts_in_turn f a | inr b ↦ Contains-append_right old facts_in_turn f (of_first f b) ]
  ]

  pub next_distinct : AreDistinct (λ (f : ElisionFact). f.seq.0) (old ++ facts_in_turn) → AreDistinct (λ (f : ElisionFact). f.seq.0) (get_or facts_in_turn i d ∷ now)
  next_distinct distinct f g a b e = distinct f g (among f a) (among g b) e

  pub taken_in : (next : List ElisionFact) → ((f : ElisionFact) → Contains next f ↔ (Contains now f ⊎ (f ≡ get_or facts_in_turn i d)))
      → (f : ElisionFact) → Contains next f ↔ (Contains old f ⊎ Contains (take (i + 1) facts_in_turn) f)
  taken_in next more f = subst (λ l. Contains next f ↔ (Contains old f ⊎ Contains l f)) (sym (take_more facts_in_turn i d within)) (
    λ c. elim ((more f).0 c) [
      | inl a ↦ elim ((so_far f).0 a) [ inl o ↦ inl o | inr t ↦ inr (Contains-append_left (take i facts_in_turn) (get_or facts_in_turn i d ∷ []) f t) ]
      | inr is ↦ inr (subst (Contains (take i facts_in_turn ++ get_or facts_in_turn i d ∷ [])) (sym is) (Contains-push (take i facts_in_turn) (get_or facts_in_turn i d)))
    ],
    λ e. (more f).1 (elim e [
      | inl o ↦ inl ((so_far f).1 (inl o))
      | inr t ↦ elim (Contains-push_cases (take i facts_in_turn) (get_or facts_in_turn i d) f t) [ inl a ↦ inl ((so_far f).1 (inr a)) | inr is ↦ inr (sym is) ]
    ]),
  )

-- first those that weren't flushed were taken into none, and then the added ones
module _ (none us first vs : List ElisionFact) (at_first : none ≡ []) (taken : List ElisionFact) (is_first : first ≡ us)
    (distinct : AreDistinct (λ (f : ElisionFact). f.seq.0) (us ++ vs)) where
  pub first_distinct : AreDistinct (λ (f : ElisionFact). f.seq.0) (none ++ first)
  first_distinct = subst (λ l. AreDistinct (λ (f : ElisionFact). f.seq.0) (l ++ first)) (sym at_first) (subst (λ l. AreDistinct (λ (f : ElisionFact). f.seq.0) l) (sym is_first)
      (λ f g c d e. distinct f g (Contains-append_left us vs f c) (Contains-append_left us vs g d) e))

  module _ (all : (f : ElisionFact) → Contains taken f ↔ (Contains none f ⊎ Contains first f)) where
    taken_are : (f : ElisionFact) → Contains taken f ↔ Contains us f
    taken_are f = (
      λ c. elim ((all f).0 c) [ inl a ↦ absurd (nowhere f (subst (λ l. Contains l f) at_first a)) | inr b ↦ subst (λ l. Contains l f) is_first b ],
      λ c. (all f).1 (inr (subst (λ l. Contains l f) (sym is_first) c)),
    )

    both : (f : ElisionFact) → Contains (taken ++ vs) f → Contains (us ++ vs) f
    both f c = elim (Contains-append_cases taken vs f c) [ inl a ↦ Contains-append_left us vs f ((taken_are f).0 a) | inr b ↦ Contains-append_right us vs f b ]

    pub second_distinct : AreDistinct (λ (f : ElisionFact). f.seq.0) (taken ++ vs)
    second_distinct f g c d e = distinct f g (both f c) (both g d) e

    pub flushed_all : (whole new : List ElisionFact) → ((f : ElisionFact) → Contains whole f ↔ (Contains taken f ⊎ Contains vs f)) → IsFlushed elision_key (λ f. f.seq.0) whole new
        → IsFlushed elision_key (λ f. f.seq.0) (us ++ vs) new
    flushed_all whole new more h = flushed_as whole (us ++ vs) new (λ f. (
      λ c. elim ((more f).0 c) [ inl a ↦ Contains-append_left us vs f ((taken_are f).0 a) | inr b ↦ Contains-append_right us vs f b ],
      λ c. (more f).1 (elim (Contains-append_cases us vs f c) [ inl a ↦ inl ((taken_are f).1 a) | inr b ↦ inr b ]),
    )) distinct h
