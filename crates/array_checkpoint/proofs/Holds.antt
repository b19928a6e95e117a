-- Once the new segments and patches were written, the tables of the next record hold the array, on the drives that aren't lost.
use Rattle.array_checkpoint.proofs.Prelude.{◌≡◌, inl, inr, ℕ, suc, ◌+◌, ◌-◌, ◌*◌, ◌≤◌, ◌<◌, List, [], ◌∷◌, length, refl, sym, ◌∙◌, ap, subst, arith, Bool, true, false, min, Some, Contains, slice_get, slice_index_or, nat_lt, if◌then◌else◌, ltb-true, lt-ltb, AllByRecursion, AllZip, cases_Bool, get_or-map, slice_get_within, slice_get-get_or, View, segment_key, never, key_of, is_elided, segment, says_is, each_by_recursion, AnyFact, SegmentFact, Place, Patch, SectorStands, StripesStand, PatchStands, Contents, Memory, facts, patches, ContentsStand, IsNamed, same_some, zip_long, old_segment_id, extended, sectors_at, AreFilled, segment_in, DataStands, Plan, Counts, AreCounts, IsPlanFor, after_plan, HaveFacts, new_facts, added_patches, by_tag}
use Rattle.pur_base.specs.declared.request.Table.TheVariants as table
use Rattle.record_tables.proofs.Named.{added_are_named, added_patches_zip}
use Rattle.record_tables.proofs.Visible.{old_or_new}

-- ---- lists

-- what holds at each index of both lists holds of them
pub zip_of_gets : {A B : Type 0} (R : A → B → Type 0) (xs : List A) (ys : List B) → length xs ≡ length ys → ((i : ℕ) (x : A) (y : B) → slice_get xs i ≡ Some x → slice_get ys i ≡ Some y → R x y) → AllZip R xs ys
zip_of_gets R [] [] long each = tt
zip_of_gets R [] (y ∷ ys) long each = absurd (omega (arith, long))
zip_of_gets R (x ∷ xs) [] long each = absurd (omega (arith, long))
zip_of_gets R (x ∷ xs) (y ∷ ys) long each = (each 0 x y refl refl, zip_of_gets R xs ys (omega (arith, long)) (λ i a b at bt. each (suc i) a b at bt))

-- ---- contents

module _ (contents : Contents) (m : Memory) (p : Plan) (plan : IsPlanFor m p) where
  abbrev pub Order : List ℕ
  Order = p.placing.order.items

  -- what segments hold then
  abbrev pub Contents2 : Contents
  Contents2 = extended contents m.next.segment (sectors_at Order m.staged)

  old_is : (id index : ℕ) → id < m.next.segment → Contents2 id index ≡ contents id index
  old_is id index low = let yes : nat_lt id m.next.segment ≡ true = lt-ltb id m.next.segment low in ap (λ (b : Bool). if b then contents id index else slice_index_or (sectors_at Order m.staged) (840 * (id - m.next.segment) + index) []) yes

  new_is : (id n index : ℕ) → id ≡ m.next.segment + n → Contents2 id index ≡ slice_index_or (sectors_at Order m.staged) (840 * n + index) []
  new_is id n index e =
      let no : nat_lt id m.next.segment ≡ false = elim (cases_Bool (nat_lt id m.next.segment)) [
        | inl is ↦ absurd (let lt = ltb-true id m.next.segment is in omega (arith, lt, e))
        | inr isn't ↦ isn't
      ] in
      let count : id - m.next.segment ≡ n = omega (arith, e) in
      ap (λ (b : Bool). if b then contents id index else slice_index_or (sectors_at Order m.staged) (840 * (id - m.next.segment) + index) []) no
      ∙ ap (λ (k : ℕ). slice_index_or (sectors_at Order m.staged) (840 * k + index) []) count

  -- the id of a segment that is visible
  own_id : (id : ℕ) (d : SegmentFact) → segment (facts (after_plan m p).tables) id ≡ Some d → d.segment.0 ≡ id
  own_id id d e =
      let now = facts (after_plan m p).tables in
      let is = says_is segment_key (λ f. f.seq.0) never (λ f. Contains now.segments f) now.segments (is_elided now.elisions table.Segment) (key_of id 0) d
      (each_by_recursion (λ f. Contains now.segments f) now.segments (λ f c. c)) e in
      let key : key_of d.segment.0 0 ≡ key_of id 0 = is.1 in
      omega (arith, key)

  -- a new segment has its number
  abbrev pub Numbered : Type 0
  Numbered = (d : SegmentFact) → Contains p.segments.items d → (n : ℕ) × (slice_get p.segments.items n ≡ Some d) × (d.segment.0 ≡ m.next.segment + n)

  none : SegmentFact
  none = record { segment = record { 0 = 0 }; places = []; placed = 0; seq = record { 0 = 0 } }

  within : (n index : ℕ) (d : SegmentFact) → AreFilled p.segments.items (length Order) → slice_get p.segments.items n ≡ Some d → index < d.placed → 840 * n + index < length Order
  unfolding none
  within n index d filled at placed =
      let short : n < length p.segments.items = slice_get_within p.segments.items n d at in
      let same : segment_in p.segments.items n ≡ d = same_some (slice_get p.segments.items n) (slice_get-get_or p.segments.items n none short) at in
      let is : (segment_in p.segments.items n).placed ≡ min (length Order - 840 * n) 840 = filled.placed n short in
      let count : (segment_in p.segments.items n).placed ≡ d.placed = ap (λ (s : SegmentFact). s.placed) same in
      let low : min (length Order - 840 * n) 840 ≤ length Order - 840 * n = omega arith in
      omega (arith, is, count, low, placed)

  -- each sector that was placed stands on the members
  pub contents_hold : (members : View) → Numbered → AreFilled p.segments.items (length Order) → ContentsStand contents members (facts m.tables) → DataStands members p.segments.items m.staged Order
      → ContentsStand Contents2 members (facts (after_plan m p).tables)
  contents_hold members new filled old stand id index d is placed = elim (old_or_new m p plan id d is) [
    | inl was ↦ subst (λ (s : List ℕ). SectorStands members d.places index s) (sym (old_is id index (old_segment_id m plan.sound id d was))) (old id index d was placed)
    | inr added ↦
        let w = new d added in
        let e : id ≡ m.next.segment + w.0 = sym (own_id id d is) ∙ w.2 in
        let same : Contents2 id index ≡ slice_index_or m.staged (slice_index_or Order (840 * w.0 + index) 0) [] =
        new_is id w.0 index e ∙ get_or-map (λ (i : ℕ). slice_index_or m.staged i []) Order (840 * w.0 + index) 0 [] (within w.0 index d filled w.1 placed) in
        subst (λ (s : List ℕ). SectorStands members d.places index s) (sym same) (stand.sectors w.0 index d w.1 placed)
  ]

  -- and so do the stripes of each segment
  pub stripes_hold : (members : View) → Numbered → ((id : ℕ) (d : SegmentFact) → segment (facts m.tables) id ≡ Some d → StripesStand members d.places d.placed) → DataStands members p.segments.items m.staged Order
      → (id : ℕ) (d : SegmentFact) → segment (facts (after_plan m p).tables) id ≡ Some d → StripesStand members d.places d.placed
  stripes_hold members new old stand id d is = elim (old_or_new m p plan id d is) [
    | inl was ↦ old id d was
    | inr added ↦ let w = new d added in stand.stripes w.0 d w.1
  ]

  -- the facts of each patch that the next record names stand on the members
  pub patches_hold : (members : View) (was : List Patch) (counts : Counts) (first : ℕ) (units : List (List Place)) → AllByRecursion (λ q. 1 ≤ q.facts) was → AllZip IsNamed was (patches m.tables) → HaveFacts p → AreCounts p counts
      → AllZip (PatchStands members) was (patches m.tables)
      → ((i : ℕ) (q : Patch) (fs : List AnyFact) → slice_get (added_patches counts first units) i ≡ Some q → slice_get (new_facts p) i ≡ Some fs → PatchStands members q fs)
      → AllZip (PatchStands members) (by_tag was (added_patches counts first units)) (patches (after_plan m p).tables)
  patches_hold members was counts first units some named there counted old new =
      added_patches_zip (PatchStands members) m p was counts first units some named old there counted
      (zip_of_gets (PatchStands members) (added_patches counts first units) (new_facts p) (zip_long IsNamed (added_patches counts first units) (new_facts p) (added_are_named p counts first units there counted)) new)
