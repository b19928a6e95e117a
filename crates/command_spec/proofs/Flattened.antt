-- Once the front of a range was flattened: what the tables say, and that each sector reads as before.
use Rattle.command_spec.proofs.Prelude.{AllByRecursion, nat_tests, ◌≡◌, ◌≢◌, ◌⊎◌, ◌↔◌, ℕ, ◌+◌, ◌^◌, ◌<◌, ◌≤◌, Bool, true, false, List, ◌++◌, length, refl, sym, ap, ◌∙◌, arith, inl, inr, subst, All, Option, Some, None, IfSome, Contains, eq-eqb, eqb-true, ◌-◌, cases_lt, cases_eq, Facts, any_number, medium_key, address_key, key_of, id_of, has_key, range, address, objects, OBJECT_SECTORS, MediumFact, AnyFact, IsFact, LeadsDown, not_both, Entry, Reads, below, unwritten, IsOver, Zero, ObjectFact, same_some, reads_one, IsUnwritten, reads_or_zero, facts, all_of, Memory, AreNumbered, IsSound, Contents, EntryReads, FactsRead, of_each, zip_weaker_in, all_mediums, all_addresses, numbered_more, as_it_was, old_or_added, range_is, object_kept, joined, newest_kept, newest_given, same_objects, AreDistinct, newest_found, newest_over, same_newest, id_of_key, number, said, cut_facts, after_cut, rest_of, address_numbers, within_size, MayFlatten, HasFlattened, cut_of}
use Rattle.array_spec.specs.Prelude.{is_elided, Table, AddressFact, NextNumbers, Array, here, Target, Stored}
use Rattle.pur_base.specs.declared.request.Table.TheVariants as table
use Rattle.pur_base.specs.declared.facts.AnyFact.TheVariants as any
use Rattle.pyramid.specs.Prelude.{all_contained}
use Rattle.medium_table.proofs.RangeLemmas.{cut_whole, cut_part, below_emptied, below_pair}
use Rattle.memory_spec.proofs.Repointed.{Newest}
use Rattle.command_spec.proofs.CutFacts.{cut_number, cut_distinct}

-- ---- the facts that cut a range

module _ (r : MediumFact) (to seq : ℕ) where
  cut_said : (fs : List MediumFact) (elided : ℕ → Bool) (k : ℕ) → All (λ f. number f < seq) fs → r.start < to → to ≤ r.end → to < 2 ^ 64 → elided r.medium.0 ≡ false
      → said (fs ++ cut_facts r to seq) elided k ≡ after_cut r to seq (said fs elided) k
  cut_said fs elided k older begun within fits whole = grind (arith, nat_tests, cut_part, cut_whole, below_pair, below_emptied)

-- what is said once a range has lost its front
module _ (r : MediumFact) (to seq : ℕ) (before : ℕ → Option MediumFact) (k : ℕ) where
  after_rest : k ≢ medium_key r → k ≡ key_of r.medium.0 to → to < r.end → after_cut r to seq before k ≡ Some (rest_of r to (seq + 1))
  after_rest ne e l = grind (arith, nat_tests)

  after_kept : k ≢ medium_key r → (to < r.end → k ≢ key_of r.medium.0 to) → after_cut r to seq before k ≡ before k
  after_kept ne other = grind (arith, nat_tests)

  after_is : (q : MediumFact) → after_cut r to seq before k ≡ Some q
      → ((q ≡ rest_of r to (seq + 1)) × (to < r.end) × (k ≡ key_of r.medium.0 to)) ⊎ ((before k ≡ Some q) × (k ≢ medium_key r))
  after_is q e = grind (arith, nat_tests)

-- ---- what addresses say

-- an address of the sector was given, and the tables say it
pub record IsGivenAt (new : Facts) (given : List AddressFact) (m x : ℕ) : Type 0 where
  pub fact : AddressFact
  pub among : Contains given fact
  pub key : address_key fact ≡ key_of m x
  pub said : address new m x ≡ Some fact.target

-- none was given, and they say what they said
pub record IsKeptAt (old new : Facts) (given : List AddressFact) (m x : ℕ) : Type 0 where
  pub none : (a : AddressFact) → Contains given a → address_key a ≢ key_of m x
  pub said : address new m x ≡ address old m x

-- ---- the facts that are added

-- an address, or a fact that cuts the range
abbrev pub IsAdded : Memory → MediumFact → ℕ → List AddressFact → AnyFact → Type 0
IsAdded was r until given (any.Medium f) = Contains (cut_of was r until given) f
IsAdded was r until given (any.Address f) = Contains given f
IsAdded was r until given _ = ⊥

module _ (was now : Memory) (r : MediumFact) (until : ℕ) (given : List AddressFact) (sound : IsSound was) (may : MayFlatten was r until given) (has : HasFlattened was now r until given) where
  abbrev Old : Facts
  Old = facts was.tables

  abbrev New : Facts
  New = facts now.tables

  -- the number of the fact that empties the range
  abbrev Behind : ℕ
  Behind = was.next.sequence + length given

  abbrev Cut : List MediumFact
  Cut = cut_facts r until Behind

  abbrev Rest : MediumFact
  Rest = rest_of r until (Behind + 1)

  pub range_fits : Contains Old.mediums r × IsFact (any.Medium r)
  range_fits = let is = (range_is Old r.medium.0 r.start r may.there).0 in (is, sound.fit (any.Medium r) (all_mediums Old r is))

  pub leads_down : LeadsDown r
  leads_down = let a = may.some in let b = may.within in elim range_fits.1.lawful.statement [ inl none ↦ absurd (omega (arith, a, b, none.0)) | inr down ↦ down ]

  pub until_small : until ≤ OBJECT_SECTORS
  until_small = let a = may.within in let b = leads_down.end in omega (arith, a, b)

  pub added_or_old : (a : AnyFact) → Contains (all_of New) a → Contains (all_of Old) a ⊎ IsAdded was r until given a
  added_or_old = old_or_added Old New (IsAdded was r until given) (as_it_was _ has.objects) (λ x. (has.mediums x).0) (λ x. (has.addresses x).0) (as_it_was _ has.segments) (as_it_was _ has.elisions)

  -- ---- numbers

  sequence_now : now.next.sequence ≡ Behind + length Cut
  sequence_now = ap (λ (n : NextNumbers). n.sequence) has.next

  added_number : (a : AnyFact) → IsAdded was r until given a → (was.next.sequence ≤ any_number a) × (any_number a < now.next.sequence)
  added_number (any.Medium f) c = let n = cut_number r until Behind f c in let s = sequence_now in (omega (arith, n.0), omega (arith, n.1, s))
  added_number (any.Address f) c = let n = may.numbers f c in let s = sequence_now in (n.0, omega (arith, n.1, s))
  added_number a c = absurd c

  one_number : (a b : AnyFact) → IsAdded was r until given a → IsAdded was r until given b → any_number a ≡ any_number b → a ≡ b
  one_number (any.Medium f) (any.Medium g) c d e = ap any.Medium (cut_distinct r until Behind f g c d e)
  one_number (any.Medium f) (any.Address g) c d e = let m = cut_number r until Behind f c in let n = may.numbers g d in absurd (omega (arith, e, m.0, n.1))
  one_number (any.Address f) (any.Medium g) c d e = let m = may.numbers f c in let n = cut_number r until Behind g d in absurd (omega (arith, e, m.1, n.0))
  one_number (any.Address f) (any.Address g) c d e = ap any.Address (may.distinct f g c d e)
  one_number a b c d e = grind arith

  pub flattened_numbers : AreNumbered now
  flattened_numbers = numbered_more was now (IsAdded was r until given) (let s = sequence_now in omega (arith, s)) added_or_old added_number one_number sound.numbers

  -- ---- addresses

  below_given : (f g : AddressFact) → Contains Old.addresses f → Contains given g → f.seq.0 < g.seq.0
  below_given f g c d =
      let less : f.seq.0 < was.next.sequence = sound.numbers.below (any.Address f) (all_addresses Old f c) in
      let most = (may.numbers g d).0 in
      omega (arith, less, most)

  -- the medium isn't elided where those of objects aren't
  kept_medium : (t : Table) → AllByRecursion (λ x. is_elided Old.elisions t x.medium.0 ≡ false) (objects Old was.next.object) → is_elided Old.elisions t r.medium.0 ≡ false
  kept_medium t kept = let x = may.of_object in rw (sym x.2) (of_each (λ z. is_elided Old.elisions t z.medium.0 ≡ false) (objects Old was.next.object) x.0 kept x.1)

  pub given_small : (a : AddressFact) → Contains given a → a.sector < OBJECT_SECTORS
  given_small a c = let below = (may.each a c).2 in let small = until_small in omega (arith, below, small)

  pub given_or_kept : (m x : ℕ) → IsGivenAt New given m x ⊎ IsKeptAt Old New given m x
  given_or_kept m x = one (Newest (key_of m x) given) refl (newest_found (λ (f : AddressFact). f.seq.0) (has_key address_key (key_of m x)) given)
    where
      one : (o : Option AddressFact) → Newest (key_of m x) given ≡ o → IfSome o (λ f. Contains given f × (has_key address_key (key_of m x) f ≡ true)) → IsGivenAt New given m x ⊎ IsKeptAt Old New given m x
      one None e h = inr (record {
        none = λ a c k. not_both (Newest (key_of m x) given) (newest_over (λ (f : AddressFact). f.seq.0) (has_key address_key (key_of m x)) given a c (eq-eqb (address_key a) (key_of m x) k)).1 e;
        said =
            let newest = newest_kept address_key (λ f. f.seq.0) Old.addresses New.addresses given has.addresses below_given (address_numbers was sound) may.distinct (key_of m x) e in
            rw (has.elisions, newest) refl;
      })
      one (Some a) e h =
          let key : key_of a.medium.0 a.sector ≡ key_of m x = eqb-true (address_key a) (key_of m x) h.1 in
          let newest = newest_given address_key (λ f. f.seq.0) Old.addresses New.addresses given has.addresses below_given (address_numbers was sound) may.distinct (key_of m x) a e in
          let small = given_small a h.0 in
          let id : id_of (key_of m x) ≡ r.medium.0 = sym (ap id_of key) ∙ id_of_key a.medium.0 a.sector (omega (arith, small)) ∙ (may.each a h.0).0 in
          let whole : is_elided Old.elisions table.Address (id_of (key_of m x)) ≡ false = ap (λ i. is_elided Old.elisions table.Address i) id ∙ kept_medium table.Address sound.objects.address_kept in
          inl (record { fact = a; among = h.0; key = key; said = rw (has.elisions, newest, whole) refl })

  -- ---- ranges

  together : (f : MediumFact) → Contains New.mediums f ↔ Contains (Old.mediums ++ Cut) f
  together = joined Old.mediums New.mediums Cut has.mediums

  range_numbers : AreDistinct number (Old.mediums ++ Cut)
  range_numbers f g c d e =
      let same : any.Medium f ≡ any.Medium g = flattened_numbers.distinct (any.Medium f) (any.Medium g) (all_mediums New f ((together f).1 c)) (all_mediums New g ((together g).1 d)) e in
      cc

  range_after : (m start : ℕ) → range New m start ≡ after_cut r until Behind (said Old.mediums (is_elided Old.elisions table.Medium)) (key_of m start)
  range_after m start =
      let newest = same_newest number (has_key medium_key (key_of m start)) New.mediums (Old.mediums ++ Cut) together range_numbers in
      let older = all_contained (λ f. number f < Behind) Old.mediums (λ f c.
      let less : f.seq.0 < was.next.sequence = sound.numbers.below (any.Medium f) (all_mediums Old f c) in
      omega (arith, less)) in
      rw (has.elisions, newest) (cut_said r until Behind Old.mediums (is_elided Old.elisions table.Medium) (key_of m start) older may.some may.within (let small = until_small in omega (arith, small))
      (kept_medium table.Medium sound.objects.range_kept))

  pub range_since : (m start : ℕ) (q : MediumFact) → range New m start ≡ Some q
      → ((q ≡ Rest) × (until < r.end) × (key_of m start ≡ key_of r.medium.0 until)) ⊎ ((range Old m start ≡ Some q) × (key_of m start ≢ medium_key r))
  range_since m start q e = after_is r until Behind (said Old.mediums (is_elided Old.elisions table.Medium)) (key_of m start) q (sym (range_after m start) ∙ e)

  -- ---- which ranges are over a sector

  over_medium : (m x : ℕ) (q : MediumFact) → IsOver Old m x q → q.medium.0 ≡ m
  over_medium m x q o = let key : key_of q.medium.0 q.start ≡ key_of m q.start = (range_is Old m q.start q o.there).1 in omega (arith, key)

  -- the range itself is over what it has
  over_itself : (m x : ℕ) → m ≡ r.medium.0 → r.start ≤ x → x < r.end → IsOver Old m x r
  over_itself m x its low high = record { there = rw its may.there; from_start = low; below_end = high }

  -- and no other one is
  no_other : (m x : ℕ) (q : MediumFact) → IsOver Old m x r → IsOver Old m x q → key_of m q.start ≢ medium_key r → ⊥
  no_other m x q over o ne = ne (ap (λ z. key_of m z.start) (sound.mediums.disjoint m x q r o over) ∙ ap (λ n. key_of n r.start) (sym (over_medium m x r over)))

  over_kept : (m x : ℕ) (q : MediumFact) → x < OBJECT_SECTORS → IsOver Old m x q → key_of m q.start ≢ medium_key r → IsOver New m x q
  over_kept m x q small o ne = record {
    there = range_after m q.start ∙ after_kept r until Behind (said Old.mediums (is_elided Old.elisions table.Medium)) (key_of m q.start) ne other ∙ o.there;
    from_start = o.from_start;
    below_end = o.below_end;
  }
    where
      other : until < r.end → key_of m q.start ≢ key_of r.medium.0 until
      other l e =
          let least = until_small in
          let start : q.start ≡ until = omega (arith, e, o.from_start, small, least) in
          no_other m until q (over_itself m until (omega (arith, e, o.from_start, small, least)) (omega (arith, may.some)) l)
          (record { there = o.there; from_start = omega (arith, start); below_end = omega (arith, start, o.from_start, o.below_end) }) ne

  over_since : (m x : ℕ) (q : MediumFact) → IsOver New m x q → ((q ≡ Rest) × (m ≡ r.medium.0)) ⊎ (IsOver Old m x q × (key_of m q.start ≢ medium_key r))
  over_since m x q o = grind (arith, nat_tests, range_since)

  -- the range was over what is left of it
  rest_over : (m x : ℕ) (q : MediumFact) → q ≡ Rest → m ≡ r.medium.0 → IsOver New m x q → IsOver Old m x r
  rest_over m x q is its o = let begun = may.some in grind (arith, nat_tests, over_itself)

  pub still_apart : (m x : ℕ) (p q : MediumFact) → IsOver New m x p → IsOver New m x q → p ≡ q
  still_apart m x p q o o2 = elim (over_since m x p o) [
    | inl a ↦ elim (over_since m x q o2) [ inl b ↦ a.0 ∙ sym b.0 | inr b ↦ absurd (no_other m x q (rest_over m x p a.0 a.1 o) b.0 b.1) ]
    | inr a ↦ elim (over_since m x q o2) [ inl b ↦ absurd (no_other m x p (rest_over m x q b.0 b.1 o2) a.0 a.1) | inr b ↦ sound.mediums.disjoint m x p q a.0 b.0 ]
  ]

  none_over : (m x : ℕ) (q : MediumFact) → IsOver Old m x r → x < until → IsOver New m x q → ⊥
  none_over m x q over front o = elim (over_since m x q o) [
    | inl new ↦ (let start : q.start ≡ until = ap (λ z. z.start) new.0 in let from = o.from_start in omega (arith, start, from, front))
    | inr old ↦ no_other m x q over old.0 old.1
  ]

  -- ---- the readings

  given_reads : (m x : ℕ) (t : Target) → x < OBJECT_SECTORS → Reads Old m x t → IsGivenAt New given m x → Reads New m x t
  given_reads m x t small reads g =
      let its = may.each g.fact g.among in
      let low = given_small g.fact g.among in
      let medium : m ≡ r.medium.0 = omega (arith, g.key, low, small, its.0) in
      let sector : x ≡ g.fact.sector = omega (arith, g.key, low, small) in
      let owed : Reads Old m x g.fact.target = rw (medium, sector) its.3.reads.0 in
      here (g.said ∙ ap (λ z. Some z) (reads_one Old m x g.fact.target t sound.mediums owed reads))

  cut_reads : (m x : ℕ) (t : Target) → IsKeptAt Old New given m x → address Old m x ≡ None → IsOver Old m x r → Reads Old m x t → Reads New r.target.0 (r.target_start + (x - r.start)) t → Reads New m x t
  cut_reads m x t k none over reads inner = elim (cases_lt x until) [
    | inl front ↦ in_front front t reads
    | inr behind ↦
        let high = over.below_end in
        let there = range_after m until ∙ after_rest r until Behind (said Old.mediums (is_elided Old.elisions table.Medium)) (key_of m until)
        (λ e. omega (arith, e, may.some, medium)) (ap (λ n. key_of n until) (sym medium)) (omega (arith, behind, high)) in
        let at : r.target_start + (x - r.start) ≡ r.target_start + (until - r.start) + (x - until) = omega (arith, behind, may.some) in
        below Rest (k.said ∙ none) (record { there = there; from_start = behind; below_end = high }) (subst (λ s. Reads New r.target.0 s t) at inner)
  ]
    where
      medium : r.medium.0 ≡ m
      medium = over_medium m x r over

      -- where no address was given, the sector reads as zeros
      in_front : x < until → (u : Target) → Reads Old m x u → Reads New m x u
      in_front front Zero old = unwritten (k.said ∙ none) (λ q o. none_over m x q over front o)
      in_front front (Stored at) old =
          let some : ¬ (IsUnwritten Old m x) = λ nothing. let zero : Zero ≡ Stored at = reads_one Old m x Zero (Stored at) sound.mediums (reads_or_zero Old m x None nothing) old in absurd cc in
          let a = may.all x (Stored at) over.from_start front (rw medium (record { unsaid = none; reads = (old, some) })) in
          absurd (k.none a.0 a.1 (ap (λ n. key_of n a.0.sector) ((may.each a.0 a.1).0 ∙ medium) ∙ ap (λ s. key_of m s) a.2))

  reads_stay : (m x : ℕ) (t : Target) → x < OBJECT_SECTORS → Reads Old m x t → Reads New m x t
  reads_stay m x t small (here a) = elim (given_or_kept m x) [ inl g ↦ given_reads m x t small (here a) g | inr k ↦ here (k.said ∙ a) ]
  reads_stay m x t small (below q a o inner) = elim (given_or_kept m x) [
    | inl g ↦ given_reads m x t small (below q a o inner) g
    | inr k ↦
        let most = (within_size was sound).ranges m q.start q o.there in
        let next = reads_stay q.target.0 (q.target_start + (x - q.start)) t (omega (arith, most, o.from_start, o.below_end)) inner in
        elim (cases_eq (key_of m q.start) (medium_key r)) [
          | inl same ↦
              let is : q ≡ r = same_some (range Old m q.start) o.there (rw same may.there) in
              cut_reads m x t k a (subst (λ z. IsOver Old m x z) is o) (below q a o inner) (subst (λ z. Reads New z.target.0 (z.target_start + (x - z.start)) t) is next)
          | inr other ↦ below q (k.said ∙ a) (over_kept m x q small o other) next
        ]
  ]
  reads_stay m x t small (unwritten a gap) = elim (given_or_kept m x) [
    | inl g ↦ given_reads m x Zero small (unwritten a gap) g
    | inr k ↦ unwritten (k.said ∙ a) (λ q o. elim (over_since m x q o) [ inl new ↦ gap r (rest_over m x q new.0 new.1 o) | inr old ↦ gap q old.0 ])
  ]

  pub flattened_reads : (contents : Contents) (array : Array) → FactsRead contents was.staged Old was.next.object array → FactsRead contents now.staged New now.next.object array
  flattened_reads contents array reads =
      let next : now.next.object ≡ was.next.object = ap (λ (n : NextNumbers). n.object) has.next in
      let same = same_objects Old New (object_kept Old New has.elisions has.objects) was.next.object in
      rw (has.staged, next, same) (zip_weaker_in (EntryReads contents was.staged Old) (EntryReads contents was.staged New) (objects Old was.next.object) array entry reads)
    where
      entry : (y : ObjectFact) (e : Entry) → Contains (objects Old was.next.object) y → EntryReads contents was.staged Old y e → EntryReads contents was.staged New y e
      entry y e c read = record {
        name = read.name;
        snapshot = read.snapshot;
        size = read.size;
        sectors = λ place l.
            let s = read.sectors place l in
            let most = (within_size was sound).objects y c in
            (s.0, reads_stay y.medium.0 place s.0 (omega (arith, l, most)) s.1, s.2);
      }
