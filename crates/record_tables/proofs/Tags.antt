-- Patches by their tags: how the old ones and the new ones of each table stand together.
use Rattle.record_tables.proofs.Prelude.{◌≡◌, ◌≢◌, ℕ, zero, suc, ◌+◌, ◌<◌, ◌≤◌, nat_lt, ◌==◌, List, [], ◌∷◌, ◌++◌, length, refl, sym, ap, ◌∙◌, arith, inl, inr, subst, count_by, append-nil, append_assoc, eq-eqb, ne_eqb, eqb-true, lt-ltb, le-ltb, AllByRecursion, flat_map, range_with_len, cases_lt, length-filter, Patch, ByTagFrom, all_append, all_append_right, each_by_recursion, passes_filter, of_tag, all_weaker, passing}
use Rattle.record_tables.proofs.Woven.{Woven, woven_by_list}

-- of one table
abbrev pub HaveTag : ℕ → List Patch → Type 0
HaveTag tag ps = AllByRecursion (λ p. p.tag ≡ tag) ps

-- of tables from one on
abbrev pub HaveTagsFrom : ℕ → List Patch → Type 0
HaveTagsFrom least ps = AllByRecursion (λ p. least ≤ p.tag) ps

-- of tables below one
abbrev pub HaveTagsBelow : ℕ → List Patch → Type 0
HaveTagsBelow most ps = AllByRecursion (λ p. p.tag < most) ps

-- the patches of so many tables, from one on
abbrev pub in_order : ℕ → ℕ → List Patch → List Patch → List Patch
in_order least n old new = flat_map (λ tag. of_tag tag old ++ of_tag tag new) (range_with_len least n)

-- ---- the patches of one table

-- they stand behind those of lower tables and before those of higher ones
pub of_tag_own : (tag : ℕ) (front own back : List Patch) → HaveTagsBelow tag front → HaveTag tag own → HaveTagsFrom (tag + 1) back → of_tag tag (front ++ (own ++ back)) ≡ own
of_tag_own tag front own back low is high =
    passing (λ p. p.tag == tag) front own back (all_weaker (λ p. p.tag < tag) _ (λ p l. ne_eqb p.tag tag (λ e. omega (arith, l, e))) front low)
    (all_weaker (λ p. p.tag ≡ tag) _ (λ p e. eq-eqb p.tag tag e) own is) (all_weaker (λ p. tag + 1 ≤ p.tag) _ (λ p l. ne_eqb p.tag tag (λ e. omega (arith, l, e))) back high)

-- so many are those of lower tables
pub lower_are : (tag : ℕ) (front rest : List Patch) → HaveTagsBelow tag front → HaveTagsFrom tag rest → count_by (λ p. nat_lt p.tag tag) (front ++ rest) ≡ length front
lower_are tag front rest low high =
    sym (length-filter (λ p. nat_lt p.tag tag) (front ++ rest))
    ∙ ap length (passing (λ p. nat_lt p.tag tag) [] front rest tt (all_weaker (λ p. p.tag < tag) _ (λ p l. lt-ltb p.tag tag l) front low) (all_weaker (λ p. tag ≤ p.tag) _ (λ p l. le-ltb p.tag tag l) rest high))

pub of_tag_all : (tag : ℕ) (ps : List Patch) → HaveTag tag ps → of_tag tag ps ≡ ps
of_tag_all tag ps h = ap (λ l. of_tag tag l) (sym (append-nil ps)) ∙ of_tag_own tag [] ps [] tt h tt

pub of_tag_none : (tag : ℕ) (ps : List Patch) → AllByRecursion (λ p. p.tag ≢ tag) ps → of_tag tag ps ≡ []
of_tag_none tag ps h = passing (λ p. p.tag == tag) [] [] ps tt tt (all_weaker (λ p. p.tag ≢ tag) _ (λ p n. ne_eqb p.tag tag n) ps h)

pub of_tag_has : (tag : ℕ) (ps : List Patch) → HaveTag tag (of_tag tag ps)
of_tag_has tag ps = each_by_recursion (λ p. p.tag ≡ tag) (of_tag tag ps) (λ p c. eqb-true p.tag tag (passes_filter (λ q. q.tag == tag) ps p c))

-- ---- by ascending tag

pub tags_from : (least low : ℕ) (ps : List Patch) → ByTagFrom low ps → least ≤ low → HaveTagsFrom least ps
tags_from least low [] h l = tt
tags_from least low (p ∷ ps) h l = (omega (arith, l, h.0), tags_from least p.tag ps h.1 (omega (arith, l, h.0)))

pub lower : (least low : ℕ) (ps : List Patch) → least ≤ low → ByTagFrom low ps → ByTagFrom least ps
lower least low [] l h = tt
lower least low (p ∷ ps) l h = (omega (arith, l, h.0), h.1)

pub behind_tag : (tag : ℕ) (ps rest : List Patch) → HaveTag tag ps → ByTagFrom tag rest → ByTagFrom tag (ps ++ rest)
behind_tag tag [] rest h k = k
behind_tag tag (p ∷ ps) rest h k = (omega (arith, h.0), subst (λ t. ByTagFrom t (ps ++ rest)) (sym h.0) (behind_tag tag ps rest h.1 k))

-- what is put together table by table is in order
pub ordered : (least n : ℕ) (old new : List Patch) → ByTagFrom least (in_order least n old new)
ordered least zero old new = tt
ordered least (suc n) old new =
    behind_tag least (of_tag least old ++ of_tag least new) (in_order (least + 1) n old new)
    (all_append (λ p. p.tag ≡ least) (of_tag least old) (of_tag least new) (of_tag_has least old) (of_tag_has least new))
    (lower least (least + 1) (in_order (least + 1) n old new) (omega arith) (ordered (least + 1) n old new))

-- patches in order: those from a table on up to another, and the others
pub record IsCut (least tag : ℕ) (ps : List Patch) : Type 0 where
  pub front : List Patch
  pub rest : List Patch
  pub whole : ps ≡ front ++ rest
  pub own : AllByRecursion (λ p. (least ≤ p.tag) × (p.tag < tag)) front
  pub others : ByTagFrom tag rest

pub cut : (least tag : ℕ) (ps : List Patch) → ByTagFrom least ps → IsCut least tag ps
cut least tag [] h = record { front = []; rest = []; whole = refl; own = tt; others = tt }
cut least tag (p ∷ ps) h = elim (cases_lt p.tag tag) [
  | inl low ↦
      let w = cut least tag ps (lower least p.tag ps h.0 h.1) in
      record { front = p ∷ w.front; rest = w.rest; whole = ap (λ l. p ∷ l) w.whole; own = ((h.0, low), w.own); others = w.others }
  | inr high ↦ record { front = []; rest = p ∷ ps; whole = refl; own = tt; others = (high, h.1) }
]

-- Patches in order are those of one table after another. Those of lower tables, in front of them, are none of these.
table_by_table : (least n : ℕ) (front ps : List Patch) → HaveTagsBelow least front → ByTagFrom least ps → HaveTagsBelow (least + n) ps → flat_map (λ tag. of_tag tag (front ++ ps)) (range_with_len least n) ≡ ps
table_by_table least zero front [] low up high = refl
table_by_table least zero front (p ∷ ps) low up high = absurd (omega (arith, up.0, high.0))
table_by_table least (suc n) front ps low up high =
    let w = cut least (least + 1) ps up in
    let own : HaveTag least w.front = all_weaker _ (λ p. p.tag ≡ least) (λ p l. omega (arith, l.0, l.1)) w.front w.own in
    let whole : front ++ ps ≡ front ++ (w.front ++ w.rest) = ap (λ l. front ++ l) w.whole in
    let both : HaveTagsBelow (least + 1) (front ++ w.front) = all_append (λ p. p.tag < least + 1) front w.front (all_weaker (λ p. p.tag < least) _ (λ p l. omega (arith, l)) front low) (all_weaker (λ p. p.tag ≡ least) _ (λ p e. omega (arith, e)) w.front own) in
    let within = all_append_right (λ p. p.tag < least + 1 + n) w.front w.rest (subst (λ l. HaveTagsBelow (least + 1 + n) l) w.whole (all_weaker (λ p. p.tag < least + suc n) _ (λ p l. omega (arith, l)) ps high)) in
    ap (λ l. l ++ flat_map (λ tag. of_tag tag (front ++ ps)) (range_with_len (least + 1) n))
    (ap (λ l. of_tag least l) whole ∙ of_tag_own least front w.front w.rest low own (tags_from (least + 1) (least + 1) w.rest w.others (omega arith)))
    ∙ ap (λ l. w.front ++ l) (ap (λ l. flat_map (λ tag. of_tag tag l) (range_with_len (least + 1) n)) (whole ∙ sym (append_assoc front w.front w.rest)) ∙ table_by_table (least + 1) n (front ++ w.front) w.rest both w.others within)
    ∙ sym w.whole

-- patches in order, woven with others
pub woven_in_order : (least n : ℕ) (old new : List Patch) → ByTagFrom least old → HaveTagsBelow (least + n) old → ByTagFrom least new → HaveTagsBelow (least + n) new
    → Woven old new (in_order least n old new)
woven_in_order least n old new h k f g =
    subst (λ l. Woven l new (in_order least n old new)) (table_by_table least n [] old tt h k)
    (subst (λ l. Woven (flat_map (λ tag. of_tag tag old) (range_with_len least n)) l (in_order least n old new)) (table_by_table least n [] new tt f g)
    (woven_by_list (λ tag. of_tag tag old) (λ tag. of_tag tag new) (range_with_len least n)))
