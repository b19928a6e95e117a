-- Addresses are sound where the lists of what is visible say so.
use Rattle.table_soundness.proofs.Prelude.{nat_tests, ◌≡◌, ◌≢◌, ℕ, Bool, ◌<◌, ◌≤◌, ◌^◌, ◌∙◌, List, get_or, refl, sym, ap, subst, arith, All, Contains, Option, Some, None, IsSome, IfSome, IfNone, option_map, false≢true, All-contains, All-from_recursion, recursion_from_All, Facts, address_key, object_key, segment_key, never, id_of, key_of, says, Ascends, address, is_elided, object, segment, AddressFact, ObjectFact, SegmentFact, Target, Stored, Zero, Location, newest_of, IsShown, id_of_key, all_contained, said_found, AreAddressesRight, AreAddressesListed, EndsWithin, IsSmall, IsThere, IsLastOf}
use Rattle.pur_base.specs.declared.request.Table.TheVariants as table
use Rattle.pyramid.proofs.SpanLemmas.{only_one}

-- ---- options

pub if_some : {X : Type 0} (P Q : X → Type 0) → ((x : X) → P x → Q x) → (o : Option X) → IfSome o P → IfSome o Q
if_some P Q f None h = tt
if_some P Q f (Some x) h = f x h

pub if_none : {X : Type 0} (P Q : Type 0) → (P → Q) → (o : Option X) → IfNone o P → IfNone o Q
if_none P Q f None h = f h
if_none P Q f (Some x) h = tt

some_same : {X : Type 0} (x y : X) → Some x ≡ Some y → x ≡ y
some_same x y e = cc

mapped : {X Y : Type 0} (g : X → Y) (o : Option X) (y : Y) → option_map g o ≡ Some y → (x : X) × (o ≡ Some x) × (g x ≡ y)
mapped g None y e = absurd cc
mapped g (Some x) y e = (x, refl, some_same (g x) y e)

someone : {X Y : Type 0} (g : X → Y) (o : Option X) → IsSome (option_map g o) → (x : X) × (o ≡ Some x)
someone g None h = absurd (false≢true h)
someone g (Some x) h = (x, refl)

-- ---- one fact of a key

pub one_of_key : {F : Type 0} (key : F → ℕ) (xs : List F) (a b : F) → Ascends key xs → Contains xs a → Contains xs b → key a ≡ key b → a ≡ b
one_of_key key xs a b up ca cb e =
    let x = only_one key (λ f. 0) xs a up ca in
    let y = only_one key (λ f. 0) xs b up cb in
    let z = subst (λ k. newest_of key (λ f. 0) k xs ≡ Some b) (sym e) y in
    some_same a b (sym x ∙ z)

pub segment_id : (d : SegmentFact) → id_of (segment_key d) ≡ d.segment.0
segment_id d = id_of_key d.segment.0 0 (omega arith)

pub address_id : (f : AddressFact) → IsSmall f → id_of (address_key f) ≡ f.medium.0
address_id f small = id_of_key f.medium.0 f.sector (omega (arith, small))

-- ---- one target, one object

pub placed_there : (segments : List SegmentFact) (at : Location) (s : SegmentFact) → Ascends segment_key segments → Contains segments s × (s.segment.0 ≡ at.segment.0) → IsThere segments (Stored at) → at.index < s.placed
placed_there segments at s up here h =
    let keys : segment_key h.0 ≡ segment_key s = ap (λ n. key_of n 0) (h.2 ∙ sym here.1) in
    subst (λ (d : SegmentFact). at.index < d.placed) (one_of_key segment_key segments h.0 s up h.1 here.0 keys) h.3

pub within_last : (addresses : List AddressFact) (x : ObjectFact) (last : AddressFact) → All IsSmall addresses → IsLastOf address_key addresses x.medium.0 last → last.sector < x.sectors → EndsWithin addresses x
within_last addresses x last small l less k d i same = grind (arith, nat_tests, get_or, address_id)

pub last_within : (addresses : List AddressFact) (x : ObjectFact) (last : AddressFact) → All IsSmall addresses → IsLastOf address_key addresses x.medium.0 last → EndsWithin addresses x → last.sector < x.sectors
last_within addresses x last small l h =
    All-contains (λ f. f.medium.0 ≡ x.medium.0 → f.sector < x.sectors) addresses last h l.there (sym (address_id last (All-contains IsSmall addresses last small l.there)) ∙ l.of_id)

pub none_within : (addresses : List AddressFact) (x : ObjectFact) → All IsSmall addresses → All (λ f. id_of (address_key f) ≢ x.medium.0) addresses → EndsWithin addresses x
none_within addresses x small none k d i same = absurd (none k d i (address_id (get_or addresses k d) (small k d i) ∙ same))

pub ids_of_keys : (facts : List AddressFact) (next : ℕ) → All IsSmall facts → All (λ f. id_of (address_key f) < next) facts → All (λ f. f.medium.0 < next) facts
ids_of_keys facts next small h k d i = subst (λ n. n < next) (address_id (get_or facts k d) (small k d i)) (h k d i)

pub keys_of_ids : (facts : List AddressFact) (next : ℕ) → All IsSmall facts → All (λ f. f.medium.0 < next) facts → All (λ f. id_of (address_key f) < next) facts
keys_of_ids facts next small h k d i = subst (λ n. n < next) (sym (address_id (get_or facts k d) (small k d i))) (h k d i)

-- ---- all of them

module _ {F : Type 0} (key number : F → ℕ) (facts : List F) (elided : ℕ → Bool) (shown : List F) (seen : IsShown key number never facts elided shown) where
  -- what is said at a key of a bounded fact is shown
  pub shown_at : (k : ℕ) (f : F) → ((g : F) → Contains facts g → key g < 2 ^ 128) → says key number never facts elided k ≡ Some f → Contains shown f
  shown_at k f bound s = grind (arith, nat_tests, said_found, says)

module _ (next_medium : ℕ) (facts : Facts) (shown : List AddressFact) (objects : List ObjectFact) (segments : List SegmentFact) (next_small : next_medium ≤ 2 ^ 64) (small : All IsSmall facts.addresses)
    (small_objects : All (λ f. f.object.0 < 2 ^ 64) facts.objects) (small_segments : All (λ f. f.segment.0 < 2 ^ 64) facts.segments)
    (seen : IsShown address_key (λ f. f.seq.0) never facts.addresses (is_elided facts.elisions table.Address) shown)
    (seen_objects : IsShown object_key (λ f. f.seq.0) never facts.objects (is_elided facts.elisions table.Object) objects)
    (seen_segments : IsShown segment_key (λ f. f.seq.0) never facts.segments (is_elided facts.elisions table.Segment) segments) where
  abbrev said : ℕ → Option AddressFact
  said k = says address_key (λ f. f.seq.0) never facts.addresses (is_elided facts.elisions table.Address) k

  object_there : (id : ℕ) (x : ObjectFact) → object facts id ≡ Some x → Contains objects x
  object_there id x s = shown_at object_key (λ f. f.seq.0) facts.objects (is_elided facts.elisions table.Object) objects seen_objects (key_of id 0) x
      (λ g c. let l = All-contains (λ f. f.object.0 < 2 ^ 64) facts.objects g small_objects c in omega (arith, l)) s

  segment_there : (id : ℕ) (d : SegmentFact) → segment facts id ≡ Some d → Contains segments d × (d.segment.0 ≡ id)
  segment_there id d s =
      let key = (said_found segment_key (λ f. f.seq.0) never facts.segments (is_elided facts.elisions table.Segment) (key_of id 0) d s).1 in (
        shown_at segment_key (λ f. f.seq.0) facts.segments (is_elided facts.elisions table.Segment) segments seen_segments (key_of id 0) d
            (λ g c. let l = All-contains (λ f. f.segment.0 < 2 ^ 64) facts.segments g small_segments c in omega (arith, l)) s,
        omega (arith, key),
      )

  address_there : All (λ f. f.medium.0 < next_medium) facts.addresses → (k : ℕ) (f : AddressFact) → said k ≡ Some f → Contains shown f
  address_there ids k f s = shown_at address_key (λ g. g.seq.0) facts.addresses (is_elided facts.elisions table.Address) shown seen k f
      (λ g c.
      let low = All-contains (λ f. f.medium.0 < next_medium) facts.addresses g ids c in
      let few = All-contains IsSmall facts.addresses g small c in
      omega (arith, low, few, next_small)) s

  pub addresses_from_list : AreAddressesListed next_medium facts.addresses shown objects segments → AreAddressesRight next_medium facts
  addresses_from_list h = record {
    ids = recursion_from_All (λ f. f.medium.0 < next_medium) facts.addresses h.ids;
    sound = record {
      there = λ medium sector at s.
          let f = mapped (λ (g : AddressFact). g.target) (said (key_of medium sector)) (Stored at) s in
          let is = subst (λ t. IsThere segments t) f.2 (All-contains (λ g. IsThere segments g.target) shown f.0 h.there (address_there h.ids (key_of medium sector) f.0 f.1)) in
          (is.0, subst (λ n. segment facts n ≡ Some is.0) is.2 (seen_segments.said is.0 is.1), is.3);
      within = λ id sector x o low some.
          let f = someone (λ (g : AddressFact). g.target) (said (key_of x.medium.0 sector)) some in
          let found = said_found address_key (λ g. g.seq.0) never facts.addresses (is_elided facts.elisions table.Address) (key_of x.medium.0 sector) f.0 f.1 in
          let few = All-contains IsSmall facts.addresses f.0 small found.0 in
          let key = found.1 in
          let medium : f.0.medium.0 ≡ x.medium.0 = omega (arith, key, few, low) in
          let same : f.0.sector ≡ sector = omega (arith, key, few, low) in
          let ends = All-contains (EndsWithin shown) objects x h.within (object_there id x o) in
          let less = All-contains (λ g. g.medium.0 ≡ x.medium.0 → g.sector < x.sectors) shown f.0 ends (address_there h.ids (key_of x.medium.0 sector) f.0 f.1) medium in
          subst (λ n. n < x.sectors) same less;
    };
  }

  pub addresses_to_list : AreAddressesRight next_medium facts → AreAddressesListed next_medium facts.addresses shown objects segments
  addresses_to_list h = record {
    ids = All-from_recursion (λ f. f.medium.0 < next_medium) facts.addresses h.ids;
    there = all_contained (λ f. IsThere segments f.target) shown (λ f c. one f f.target (ap (option_map (λ (g : AddressFact). g.target)) (seen.said f c)));
    within = all_contained (EndsWithin shown) objects (λ x c. all_contained (λ f. f.medium.0 ≡ x.medium.0 → f.sector < x.sectors) shown (λ f d same.
        let is : address facts f.medium.0 f.sector ≡ Some f.target = ap (option_map (λ (g : AddressFact). g.target)) (seen.said f d) in
        let here : address facts x.medium.0 f.sector ≡ Some f.target = subst (λ n. address facts n f.sector ≡ Some f.target) same is in
        let few = All-contains IsSmall facts.addresses f small (said_found address_key (λ g. g.seq.0) never facts.addresses (is_elided facts.elisions table.Address) (address_key f) f (seen.said f d)).0 in
        h.sound.within x.object.0 f.sector x (seen_objects.said x c) few (subst IsSome (sym here) refl)));
  }
    where
      one : (f : AddressFact) (t : Target) → address facts f.medium.0 f.sector ≡ Some t → IsThere segments t
      one f Zero s = tt
      one f (Stored at) s =
          let d = h.sound.there f.medium.0 f.sector at s in
          let there = segment_there at.segment.0 d.0 d.1 in
          (d.0, there.0, there.1, d.2)
