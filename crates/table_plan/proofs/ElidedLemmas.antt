-- Elisions of mediums and segments are sound beside the older ones, and elide nothing else.
use Rattle.std.proofs.lemmas.Bool.Decides.{nat_tests}
use Rattle.table_plan.proofs.Prelude.{◌≡◌, ◌≢◌, ◌⊎◌, ◌↔◌, ℕ, suc, ◌+◌, ◌*◌, ◌<◌, ◌≤◌, List, [], ◌∷◌, ◌++◌, length, refl, sym, ap, ◌∙◌, arith, inl, inr, subst, Some, get_or, Contains, IsTrue, append-nil, append_assoc, length-append, both_ways, cases_eq, cases_lt, Contains-append_left, Contains-append_right, Contains-append_cases, get_or_default, length-map, never, key_of, tag_of, is_elided, segment, Table, SegmentFact, ElisionFact, says_is, NUMBER_LIMIT, IsFact, AreElisionsSound, next_id, facts_of, here, there, either, nowhere, in_map, of_map, Memory, IsSound, IsElisionOf, facts, all_elisions, all_segments, each_by_recursion, AreNewElisions, IsEliding, as_before, eliding_one, elided_push, sound_push, IsReached, one_table, old_segment_id, IsUnused, AreElidedToo, AreElisionsOf, IsElidedBy, ItemsAreElided, ItemsMayBeElided, eliding, items_of, medium_items, segment_items, with_item}
use Rattle.pur_base.specs.declared.request.Table.TheVariants as table
use Rattle.pur_base.specs.declared.facts.AnyFact.TheVariants as any
use Rattle.memory_spec.proofs.Created.{not_elided}

-- ---- elided ids

abbrev IsElided : List ElisionFact → Table → ℕ → Type 0
IsElided es t i = IsTrue (is_elided es t i)

-- an item by its parts
pub item_is : (x : Table × ℕ) (t : Table) (i : ℕ) → t ≡ x.0 → i ≡ x.1 → (t, i) ≡ x
item_is x t i p q = rw (p, q) refl

-- ---- several

-- which ids are elided counts alone
pub elisions_alike : (P Q : Table → ℕ → Type 0) → ((t : Table) (i : ℕ) → P t i ↔ Q t i) → (number : ℕ) (items : List (Table × ℕ)) (fs : List ElisionFact)
    → AreElisionsOf P number items fs → AreElisionsOf Q number items fs
elisions_alike P Q same number [] [] h = h
elisions_alike P Q same number [] (f ∷ fs) h = h
elisions_alike P Q same number (x ∷ items) [] h = h
elisions_alike P Q same number (x ∷ items) (f ∷ fs) h = (
  record {
    of_table = h.0.of_table;
    numbered = h.0.numbered;
    has = h.0.has;
    within = λ i low high. elim (h.0.within i low high) [ inl p ↦ inl ((same x.0 i).0 p) | inr e ↦ inr e ];
    before = λ i e q. h.0.before i e ((same x.0 i).1 q);
    behind = λ q. h.0.behind ((same x.0 (f.last + 1)).1 q);
  },
  elisions_alike (with_item P x) (with_item Q x)
      (λ t i. (
        λ p. elim p [ inl a ↦ inl ((same t i).0 a) | inr e ↦ inr e ],
        λ q. elim q [ inl a ↦ inl ((same t i).1 a) | inr e ↦ inr e ],
      )) (number + 1) items fs h.1,
)

-- what each of them is
pub record IsNewElision (P : Table → ℕ → Type 0) (number : ℕ) (items : List (Table × ℕ)) (fs : List ElisionFact) (f : ElisionFact) : Type 0 where
  pub at : ℕ
  pub there : at < length fs
  pub is : get_or fs at f ≡ f
  pub numbered : f.seq.0 ≡ number + at
  pub item : (id : ℕ) × Contains items (f.table, id)
  pub some : f.first ≤ f.last
  pub within : (i : ℕ) → f.first ≤ i → i ≤ f.last → P f.table i ⊎ Contains items (f.table, i)

pub is_new_elision : (P : Table → ℕ → Type 0) (number : ℕ) (items : List (Table × ℕ)) (fs : List ElisionFact) → AreElisionsOf P number items fs → (f : ElisionFact) → Contains fs f → IsNewElision P number items fs f
is_new_elision P number [] [] h f c = absurd (nowhere f c)
is_new_elision P number [] (g ∷ fs) h f c = absurd h
is_new_elision P number (x ∷ items) [] h f c = absurd h
is_new_elision P number (x ∷ items) (g ∷ fs) h f c = elim (either g f fs c) [
  | inl same ↦
      let of : f.table ≡ x.0 = ap (λ (y : ElisionFact). y.table) same ∙ h.0.of_table in
      record {
        at = 0;
        there = omega arith;
        is = sym same;
        numbered = ap (λ (y : ElisionFact). y.seq.0) same ∙ h.0.numbered ∙ omega arith;
        item = (x.1, subst (Contains (x ∷ items)) (sym (item_is x f.table x.1 of refl)) (here x items));
        some = subst (λ (y : ElisionFact). y.first ≤ y.last) (sym same) (let a = h.0.has.0 in let b = h.0.has.1 in omega (arith, a, b));
        within = λ i low high. elim (h.0.within i (subst (λ (y : ElisionFact). y.first ≤ i) same low) (subst (λ (y : ElisionFact). i ≤ y.last) same high)) [
          | inl p ↦ inl (subst (λ (t : Table). P t i) (sym of) p)
          | inr e ↦ inr (subst (Contains (x ∷ items)) (sym (item_is x f.table i of e)) (here x items))
        ];
      }
  | inr rest ↦
      let w = is_new_elision (with_item P x) (number + 1) items fs h.1 f rest in
      let inside = w.there in
      let seq = w.numbered in
      record {
        at = suc w.at;
        there = omega (arith, inside);
        is = w.is;
        numbered = omega (arith, seq);
        item = (w.item.0, there x (f.table, w.item.0) items w.item.1);
        some = w.some;
        within = λ i low high. elim (w.within i low high) [
          | inl q ↦ elim q [ inl p ↦ inl p | inr e ↦ inr (subst (Contains (x ∷ items)) (sym (item_is x f.table i e.0 e.1)) (here x items)) ]
          | inr d ↦ inr (there x (f.table, i) items d)
        ];
      }
]

-- there are as many as items
pub as_many : (P : Table → ℕ → Type 0) (number : ℕ) (items : List (Table × ℕ)) (fs : List ElisionFact) → AreElisionsOf P number items fs → length fs ≡ length items
as_many P number [] [] h = refl
as_many P number [] (f ∷ fs) h = absurd h
as_many P number (x ∷ items) [] h = absurd h
as_many P number (x ∷ items) (f ∷ fs) h = let inner = as_many (with_item P x) (number + 1) items fs h.1 in omega (arith, inner)

-- those of more items behind them, to which these items are elided too
pub elisions_join : (P : Table → ℕ → Type 0) (number : ℕ) (items more : List (Table × ℕ)) (fs gs : List ElisionFact) → AreElisionsOf P number items fs
    → AreElisionsOf (λ t i. P t i ⊎ Contains items (t, i)) (number + length fs) more gs → AreElisionsOf P number (items ++ more) (fs ++ gs)
elisions_join P number [] more [] gs h k = grind (arith, nat_tests, elisions_alike, nowhere)
elisions_join P number [] more (f ∷ fs) gs h k = absurd h
elisions_join P number (x ∷ items) more [] gs h k = absurd h
elisions_join P number (x ∷ items) more (f ∷ fs) gs h k = (
  h.0,
  elisions_join (with_item P x) (number + 1) items more fs gs h.1
      (elisions_alike (λ t i. P t i ⊎ Contains (x ∷ items) (t, i)) (λ t i. with_item P x t i ⊎ Contains items (t, i)) (λ t i. (
        λ e. elim e [
          | inl p ↦ inl (inl p)
          | inr c ↦ elim (either x (t, i) items c) [ inl is ↦ inl (inr (ap (λ (y : Table × ℕ). y.0) is, ap (λ (y : Table × ℕ). y.1) is)) | inr d ↦ inr d ]
        ],
        λ e. elim e [
          | inl w ↦ elim w [ inl p ↦ inl p | inr is ↦ inr (subst (Contains (x ∷ items)) (sym (item_is x t i is.0 is.1)) (here x items)) ]
          | inr d ↦ inr (there x (t, i) items d)
        ],
      )) (number + 1 + length fs) more gs (subst (λ n. AreElisionsOf (λ t i. P t i ⊎ Contains (x ∷ items) (t, i)) n more gs) (omega arith) k)),
)

-- one more elides its item and nothing else
elided_one : (es : List ElisionFact) (number : ℕ) (x : Table × ℕ) (f : ElisionFact) → IsElisionOf x.0 (IsElided es x.0) number x.1 f → (t : Table) (i : ℕ)
    → IsElided (es ++ f ∷ []) t i ↔ with_item (IsElided es) x t i
elided_one es number x f h t i = elim (cases_eq (tag_of t) (tag_of x.0)) [
  | inl same ↦
      let is : t ≡ x.0 = one_table t x.0 same in
      let push = elided_push x.0 es number x.1 f h i in (
        λ e. elim (push.0 (subst (λ (u : Table). IsElided (es ++ f ∷ []) u i) is e)) [ inl old ↦ inl (subst (λ (u : Table). IsElided es u i) (sym is) old) | inr new ↦ inr (is, new) ],
        λ e. subst (λ (u : Table). IsElided (es ++ f ∷ []) u i) (sym is) (push.1 (elim e [ inl old ↦ inl (subst (λ (u : Table). IsElided es u i) is old) | inr new ↦ inr new.1 ])),
      )
  | inr other ↦
      let before : is_elided (es ++ f ∷ []) t i ≡ is_elided es t i = as_before es (es ++ f ∷ []) (f ∷ [])
      (λ g. (λ c. Contains-append_cases es (f ∷ []) g c, λ e. elim e [ inl a ↦ Contains-append_left es (f ∷ []) g a | inr b ↦ Contains-append_right es (f ∷ []) g b ])) t i
      (λ g c e. elim (either f g [] c) [
        | inl is ↦ other (ap tag_of (sym e ∙ ap (λ (y : ElisionFact). y.table) is ∙ h.of_table))
        | inr none ↦ nowhere g none
      ]) in (
        λ e. inl (sym before ∙ e),
        λ e. before ∙ elim e [ inl old ↦ old | inr new ↦ absurd (other (ap tag_of new.0)) ],
      )
]

pub all_sound : (number : ℕ) (items : List (Table × ℕ)) (fs es : List ElisionFact) → AreElisionsOf (IsElided es) number items fs → ((g : ElisionFact) → Contains es g → g.seq.0 < number)
    → AreElisionsSound es → AreElisionsSound (es ++ fs)
all_sound number [] [] es h below s = subst (λ l. AreElisionsSound l) (sym (append-nil es)) s
all_sound number [] (f ∷ fs) es h below s = absurd h
all_sound number (x ∷ items) [] es h below s = absurd h
all_sound number (x ∷ items) (f ∷ fs) es h below s =
    subst (λ l. AreElisionsSound l) (append_assoc es (f ∷ []) fs)
    (all_sound (number + 1) items fs (es ++ f ∷ [])
    (elisions_alike (with_item (IsElided es) x) (IsElided (es ++ f ∷ [])) (λ t i. let e = elided_one es number x f h.0 t i in (e.1, e.0)) (number + 1) items fs h.1)
    (λ g c. elim (Contains-append_cases es (f ∷ []) g c) [
      | inl old ↦ (let less = below g old in omega (arith, less))
      | inr new ↦ elim (either f g [] new) [ inl same ↦ (let at : g.seq.0 ≡ number = ap (λ (y : ElisionFact). y.seq.0) same ∙ h.0.numbered in omega (arith, at)) | inr none ↦ absurd (nowhere g none) ]
    ])
    (sound_push x.0 es number x.1 f h.0 below s))

-- the items are elided, and no others
pub elided_after : (number : ℕ) (items : List (Table × ℕ)) (fs es : List ElisionFact) → AreElisionsOf (IsElided es) number items fs → (t : Table) (i : ℕ)
    → IsElided (es ++ fs) t i ↔ (IsElided es t i ⊎ Contains items (t, i))
elided_after number [] [] es h t i = rw (append-nil es) (λ e. inl e, λ e. elim e [ inl old ↦ old | inr none ↦ absurd (nowhere (t, i) none) ])
elided_after number [] (f ∷ fs) es h t i = absurd h
elided_after number (x ∷ items) [] es h t i = absurd h
elided_after number (x ∷ items) (f ∷ fs) es h t i =
    let one = elided_one es number x f h.0 t i in
    let rest = elided_after (number + 1) items fs (es ++ f ∷ [])
    (elisions_alike (with_item (IsElided es) x) (IsElided (es ++ f ∷ [])) (λ u j. let e = elided_one es number x f h.0 u j in (e.1, e.0)) (number + 1) items fs h.1) t i in (
      λ e. elim (rest.0 (subst (λ l. IsElided l t i) (sym (append_assoc es (f ∷ []) fs)) e)) [
        | inl a ↦ elim (one.0 a) [ inl old ↦ inl old | inr is ↦ inr (subst (Contains (x ∷ items)) (sym (item_is x t i is.0 is.1)) (here x items)) ]
        | inr c ↦ inr (there x (t, i) items c)
      ],
      λ e. subst (λ l. IsElided l t i) (append_assoc es (f ∷ []) fs) (rest.1 (elim e [
        | inl old ↦ inl (one.1 (inl old))
        | inr c ↦ elim (either x (t, i) items c) [ inl is ↦ inl (one.1 (inr (ap (λ (y : Table × ℕ). y.0) is, ap (λ (y : Table × ℕ). y.1) is))) | inr d ↦ inr d ]
      ])),
    )

-- ---- the items of mediums and segments

pub in_mediums : (ids : List ℕ) (t : Table) (i : ℕ) → Contains (medium_items ids) (t, i) ↔ (((t ≡ table.Medium) ⊎ (t ≡ table.Address)) × Contains ids i)
in_mediums [] t i = (λ c. absurd (nowhere (t, i) c), λ p. absurd (nowhere i p.1))
in_mediums (id ∷ ids) t i =
    let inner = in_mediums ids t i in (
      λ c. elim (either (table.Medium, id) (t, i) ((table.Address, id) ∷ medium_items ids) c) [
        | inl is ↦ (inl (ap (λ (y : Table × ℕ). y.0) is), subst (Contains (id ∷ ids)) (sym (ap (λ (y : Table × ℕ). y.1) is)) (here id ids))
        | inr d ↦ elim (either (table.Address, id) (t, i) (medium_items ids) d) [
          | inl is ↦ (inr (ap (λ (y : Table × ℕ). y.0) is), subst (Contains (id ∷ ids)) (sym (ap (λ (y : Table × ℕ). y.1) is)) (here id ids))
          | inr e ↦ (let w = inner.0 e in (w.0, there id i ids w.1))
        ]
      ],
      λ p. elim (either id i ids p.1) [
        | inl is ↦ elim p.0 [
          | inl of ↦ subst (Contains (medium_items (id ∷ ids))) (sym (item_is (table.Medium, id) t i of is)) (here (table.Medium, id) ((table.Address, id) ∷ medium_items ids))
          | inr of ↦ subst (Contains (medium_items (id ∷ ids))) (sym (item_is (table.Address, id) t i of is)) (there (table.Medium, id) (table.Address, id) ((table.Address, id) ∷ medium_items ids) (here (table.Address, id) (medium_items ids)))
        ]
        | inr d ↦ there (table.Medium, id) (t, i) ((table.Address, id) ∷ medium_items ids) (there (table.Address, id) (t, i) (medium_items ids) (inner.1 (p.0, d)))
      ],
    )

pub in_segments : (ids : List ℕ) (t : Table) (i : ℕ) → Contains (segment_items ids) (t, i) ↔ ((t ≡ table.Segment) × Contains ids i)
in_segments ids t i = (
  λ c. let w = of_map (λ (id : ℕ). (table.Segment, id)) ids (t, i) c in (ap (λ (y : Table × ℕ). y.0) w.2, subst (Contains ids) (sym (ap (λ (y : Table × ℕ). y.1) w.2)) w.1),
  λ p. subst (Contains (segment_items ids)) (sym (item_is (table.Segment, i) t i p.0 refl)) (in_map (λ (id : ℕ). (table.Segment, id)) ids i p.1),
)

long_mediums : (ids : List ℕ) → length (medium_items ids) ≡ 2 * length ids
long_mediums [] = refl
long_mediums (id ∷ ids) = let inner = long_mediums ids in omega (arith, inner)

module _ (mediums segments : List ℕ) where
  abbrev Items : List (Table × ℕ)
  Items = items_of mediums segments

  cases_item : (t : Table) (i : ℕ) → Contains Items (t, i) → (((t ≡ table.Medium) ⊎ (t ≡ table.Address)) × Contains mediums i) ⊎ ((t ≡ table.Segment) × Contains segments i)
  cases_item t i c = elim (Contains-append_cases (medium_items mediums) (segment_items segments) (t, i) c) [
    | inl a ↦ inl ((in_mediums mediums t i).0 a)
    | inr b ↦ inr ((in_segments segments t i).0 b)
  ]

  item_of_medium : (t : Table) (i : ℕ) → (t ≡ table.Medium) ⊎ (t ≡ table.Address) → Contains mediums i → Contains Items (t, i)
  item_of_medium t i of c = Contains-append_left (medium_items mediums) (segment_items segments) (t, i) ((in_mediums mediums t i).1 (of, c))

  item_of_segment : (i : ℕ) → Contains segments i → Contains Items (table.Segment, i)
  item_of_segment i c = Contains-append_right (medium_items mediums) (segment_items segments) (table.Segment, i) ((in_segments segments table.Segment i).1 (refl, c))

  long_items : length Items ≡ 2 * length mediums + length segments
  long_items = simp (length-append, length-map) (let first = long_mediums mediums in omega (arith, first))

-- ---- of memory

module _ (m : Memory) (items : List (Table × ℕ)) (added : List ElisionFact) (h : AreElisionsOf (IsElidedBy (facts m.tables)) m.next.sequence items added) where
  abbrev Old : List ElisionFact
  Old = (facts m.tables).elisions

  abbrev New : List ElisionFact
  New = (facts (eliding m added).tables).elisions

  together : Old ++ added ≡ New
  together = append_assoc (facts_of m.tables.elisions.patches) m.tables.elisions.unflushed added

  pub more_elisions : (f : ElisionFact) → Contains New f ↔ (Contains Old f ⊎ Contains added f)
  more_elisions f = (
    λ c. Contains-append_cases Old added f (subst (λ l. Contains l f) (sym together) c),
    λ e. subst (λ l. Contains l f) together (elim e [ inl a ↦ Contains-append_left Old added f a | inr b ↦ Contains-append_right Old added f b ]),
  )

  -- an id is elided where it was, and where it is one of these
  pub items_elided : (t : Table) (i : ℕ) → IsElidedBy (facts (eliding m added).tables) t i ↔ (IsElidedBy (facts m.tables) t i ⊎ Contains items (t, i))
  items_elided t i = subst (λ l. IsElided l t i ↔ (IsElided Old t i ⊎ Contains items (t, i))) together (elided_after m.next.sequence items added Old h t i)

  new_one : (f : ElisionFact) → Contains added f → IsNewElision (IsElided Old) m.next.sequence items added f
  new_one f c = is_new_elision (IsElided Old) m.next.sequence items added h f c

  elided_sound : AreElisionsSound Old → ((g : ElisionFact) → Contains Old g → g.seq.0 < m.next.sequence) → AreElisionsSound New
  elided_sound s below = subst (λ l. AreElisionsSound l) together (all_sound m.next.sequence items added Old h below s)

module _ (m : Memory) (mediums segments : List ℕ) (added : List ElisionFact) (h : AreElisionsOf (IsElidedBy (facts m.tables)) m.next.sequence (items_of mediums segments) added) where
  abbrev Was : List ElisionFact
  Was = (facts m.tables).elisions

  abbrev Now : List ElisionFact
  Now = (facts (eliding m added).tables).elisions

  elided_then : (t : Table) (i : ℕ) → IsElided Now t i ↔ (IsElided Was t i ⊎ Contains (items_of mediums segments) (t, i))
  elided_then = items_elided m (items_of mediums segments) added h

  of_mediums : (t : Table) → (t ≡ table.Medium) ⊎ (t ≡ table.Address) → (i : ℕ) → IsElided Now t i ↔ (IsElided Was t i ⊎ Contains mediums i)
  of_mediums t of i = (
    λ e. elim ((elided_then t i).0 e) [
      | inl old ↦ inl old
      | inr c ↦ elim (cases_item mediums segments t i c) [
        | inl a ↦ inr a.1
        | inr b ↦ absurd (elim of [ inl p ↦ (let e : table.Medium ≡ table.Segment = sym p ∙ b.0 in cc) | inr p ↦ (let e : table.Address ≡ table.Segment = sym p ∙ b.0 in cc) ])
      ]
    ],
    λ e. (elided_then t i).1 (elim e [ inl old ↦ inl old | inr c ↦ inr (item_of_medium mediums segments t i of c) ]),
  )

  of_segments : (i : ℕ) → IsElided Now table.Segment i ↔ (IsElided Was table.Segment i ⊎ Contains segments i)
  of_segments i = (
    λ e. elim ((elided_then table.Segment i).0 e) [
      | inl old ↦ inl old
      | inr c ↦ elim (cases_item mediums segments table.Segment i c) [
        | inl a ↦ absurd (elim a.0 [ inl p ↦ cc | inr p ↦ cc ])
        | inr b ↦ inr b.1
      ]
    ],
    λ e. (elided_then table.Segment i).1 (elim e [ inl old ↦ inl old | inr c ↦ inr (item_of_segment mediums segments i c) ]),
  )

  no_object : (f : ElisionFact) → Contains added f → f.table ≢ table.Object
  no_object f c e =
      let w = new_one m (items_of mediums segments) added h f c in
      elim (cases_item mediums segments f.table w.item.0 w.item.1) [
        | inl a ↦ elim a.0 [ inl p ↦ (let x : table.Object ≡ table.Medium = sym e ∙ p in cc) | inr p ↦ (let x : table.Object ≡ table.Address = sym e ∙ p in cc) ]
        | inr b ↦ (let x : table.Object ≡ table.Segment = sym e ∙ b.0 in cc)
      ]

  pub items_are_elided : AreElidedToo (facts m.tables) (facts (eliding m added).tables) mediums segments × (length added ≡ 2 * length mediums + length segments)
  items_are_elided = (
    record {
      objects = λ id. as_before Was Now added (more_elisions m (items_of mediums segments) added h) table.Object id no_object;
      mediums = of_mediums table.Medium (inl refl);
      addresses = of_mediums table.Address (inr refl);
      segments = of_segments;
    },
    as_many (IsElidedBy (facts m.tables)) m.next.sequence (items_of mediums segments) added h ∙ long_items mediums segments,
  )

  module _ (s : IsSound m) (unreached : (id : ℕ) → Contains mediums id → (1 ≤ id) × (id < m.next.medium) × ¬ (IsReached (facts m.tables) m.next.object id))
      (unused : (id : ℕ) → Contains segments id → IsUnused (facts m.tables) (facts (eliding m added).tables) id) (left : m.next.sequence + length added < NUMBER_LIMIT) where
    -- ids that are elided were given
    some_elided : (t : Table) (i : ℕ) → IsElided Was t i → (1 ≤ i) × (i < next_id m.next t)
    some_elided t i old = (
      (let w = eliding_one t Was i old in
          let fact : IsFact (any.Elision w.0) = s.fit (any.Elision w.0) (all_elisions (facts m.tables) w.0 w.1) in
          let first = fact.lawful.id.0 in
          let low = w.2 in
          omega (arith, first, low)),
      elim (cases_lt i (next_id m.next t)) [
        | inl less ↦ less
        | inr more ↦ absurd (both_ways (is_elided Was t i) (not_elided m.next (facts m.tables) t i s.ids more) old)
      ],
    )

    some_segment : (i : ℕ) → Contains segments i → (1 ≤ i) × (i < m.next.segment)
    some_segment i c =
        let u = unused i c in (
          some u.fact u.visible,
          old_segment_id m s i u.fact u.visible,
        )
      where
        some : (d : SegmentFact) → segment (facts m.tables) i ≡ Some d → 1 ≤ i
        some d is =
            let w = says_is _ (λ (f : SegmentFact). f.seq.0) never (λ f. Contains (facts m.tables).segments f) (facts m.tables).segments (is_elided Was table.Segment) (key_of i 0) d
            (each_by_recursion (λ f. Contains (facts m.tables).segments f) (facts m.tables).segments (λ f c. c)) is in
            let fact : IsFact (any.Segment d) = s.fit (any.Segment d) (all_segments (facts m.tables) d w.0) in
            let first = fact.lawful.id.0 in
            let key : key_of d.segment.0 0 ≡ key_of i 0 = w.1 in
            omega (arith, first, key)

    given : (t : Table) (i : ℕ) → IsElided Was t i ⊎ Contains (items_of mediums segments) (t, i) → (1 ≤ i) × (i < next_id m.next t)
    given t i e = elim e [
      | inl old ↦ some_elided t i old
      | inr c ↦ elim (cases_item mediums segments t i c) [
        | inl a ↦
            let u = unreached i a.1 in
            elim a.0 [
              | inl p ↦ subst (λ (x : Table). (1 ≤ i) × (i < next_id m.next x)) (sym p) (u.0, u.1)
              | inr p ↦ subst (λ (x : Table). (1 ≤ i) × (i < next_id m.next x)) (sym p) (u.0, u.1)
            ]
        | inr b ↦ subst (λ (x : Table). (1 ≤ i) × (i < next_id m.next x)) (sym b.0) (some_segment i b.1)
      ]
    ]

    -- the tables of items have ids of their own
    low_table : (t : Table) (i : ℕ) → Contains (items_of mediums segments) (t, i) → (tag_of t ≤ 4) × (next_id m.next t < NUMBER_LIMIT)
    low_table t i c = elim (cases_item mediums segments t i c) [
      | inl a ↦ grind (arith, nat_tests)
      | inr b ↦ subst (λ (x : Table). (tag_of x ≤ 4) × (next_id m.next x < NUMBER_LIMIT)) (sym b.0) (omega arith, s.next.segment.1)
    ]

    new_elisions : AreNewElisions m.next (eliding m added).next added
    new_elisions = record {
      each = λ f c.
          let w = new_one m (items_of mediums segments) added h f c in
          let first = given f.table f.first (w.within f.first (omega arith) w.some) in
          let last = given f.table f.last (w.within f.last w.some (omega arith)) in
          let kind = low_table f.table w.item.0 w.item.1 in
          let seq = w.numbered in
          let at = w.there in
          let a = s.next.sequence.0 in
          let b = kind.1 in
          let low = first.1 in
          let high = last.1 in
          record {
            lawful = grind (arith, nat_tests);
            fits = omega (arith, high, b);
          };
      ids = λ f c.
          let w = new_one m (items_of mediums segments) added h f c in
          (given f.table f.last (w.within f.last w.some (omega arith))).1;
      numbers = λ f c.
          let w = new_one m (items_of mediums segments) added h f c in
          let seq = w.numbered in
          let at = w.there in
          (omega (arith, seq), omega (arith, seq, at));
      one_number = λ f g c d same.
          let v = new_one m (items_of mediums segments) added h f c in
          let w = new_one m (items_of mediums segments) added h g d in
          let a = v.numbered in
          let b = w.numbered in
          one_place added v.at w.at f g (omega (arith, a, b, same)) v.there v.is w.is;
    }
      where
        one_place : (xs : List ElisionFact) (i j : ℕ) (x y : ElisionFact) → i ≡ j → i < length xs → get_or xs i x ≡ x → get_or xs j y ≡ y → x ≡ y
        one_place xs i j x y same within a b = sym a ∙ get_or_default xs i x y within ∙ ap (λ k. get_or xs k y) same ∙ b

    pub is_eliding : IsEliding m (eliding m added) added
    is_eliding = record {
      elisions = more_elisions m (items_of mediums segments) added h;
      new_elisions = new_elisions;
      sound = elided_sound m (items_of mediums segments) added h s.elisions (λ g c. s.numbers.below (any.Elision g) (all_elisions (facts m.tables) g c));
      no_object = no_object;
      mediums_unreached = λ id e. elim ((of_mediums table.Medium (inl refl) id).0 e) [ inl old ↦ inl old | inr c ↦ inr (unreached id c).2 ];
      addresses_unreached = λ id e. elim ((of_mediums table.Address (inr refl) id).0 e) [ inl old ↦ inl old | inr c ↦ inr (unreached id c).2 ];
      segments_unused = λ id e. elim ((of_segments id).0 e) [ inl old ↦ inl old | inr c ↦ inr (unused id c).unnamed ];
      objects = refl;
      mediums = refl;
      addresses = refl;
      segments = refl;
      staged = refl;
      next = refl;
      numbers = (omega arith, left);
    }

pub may_be_elided : ItemsMayBeElided
may_be_elided m mediums segments added s unreached unused h left = is_eliding m mediums segments added h s unreached unused left

pub are_elided : ItemsAreElided
are_elided m mediums segments added h = items_are_elided m mediums segments added h
