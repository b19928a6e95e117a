-- Which addresses of a run are owed, and what is given to it.
use Rattle.array_memory.proofs.Prelude.{◌≡◌, ℕ, ◌+◌, ◌-◌, ◌^◌, ◌<◌, ◌≤◌, List, [], ◌∷◌, ◌++◌, length, get_or, refl, sym, ap, ◌∙◌, subst, arith, inl, inr, Contains, Option, Some, None, IfNone, option_map, slice_index_or, cases_lt, Contains-push, Contains-append_left, Contains-push_cases, Contains-get_or, all_pairs_push, ReadsAt, AddressFact, MediumFact, ObjectFact, Target, NUMBER_LIMIT, OBJECT_SECTORS, address, address_key, range, is_within, facts, IsSound, ranges_of, visible, range_from, IsLowest, Kept, IsKept, IsLowestRange, IsOwed, MayFlatten, visible_said, AreOwedIn, IsOwedAt, leads_down}
use Rattle.std.proofs.lemmas.List.{length-append}
use Rattle.pur_base.specs.declared.request.Table.TheVariants as table
use Rattle.array_memory.proofs.ResolveLemmas.{addresses_same, seen_range}

module _ {medium first number i : ℕ} {said : List (Option AddressFact)} {read : List (Option Target)} {given : List AddressFact} (h : AreOwedIn medium first number said read i given) where
  weaker : (a : AddressFact) → Contains given a → (j : ℕ) × (j < i + 1) × IsOwedAt medium first said read j a
  weaker a c = let w = h.each a c in (w.0, omega (arith, w.1), w.2)

  -- nothing is owed to the place
  pub owed_skip : ((t : Target) → slice_index_or said i None ≡ None → slice_index_or read i None ≡ Some t → ⊥) → AreOwedIn medium first number said read (i + 1) given
  owed_skip not = record {
    each = weaker;
    all = λ j t l e f. elim (cases_lt j i) [
      | inl before ↦ h.all j t before e f
      | inr behind ↦ (let same : j ≡ i = omega (arith, l, behind) in absurd (not t (subst (λ z. slice_index_or said z None ≡ None) same e) (subst (λ z. slice_index_or read z None ≡ Some t) same f)))
    ];
    numbers = h.numbers;
    distinct = h.distinct;
    ascends = h.ascends;
  }

  -- one more is owed
  pub owed_push : (a : AddressFact) → IsOwedAt medium first said read i a → a.seq.0 ≡ number + length given → AreOwedIn medium first number said read (i + 1) (given ++ a ∷ [])
  owed_push a at seq = record {
    each = λ b c. elim (Contains-push_cases given a b c) [
      | inl old ↦ weaker b old
      | inr same ↦ (i, omega arith, subst (λ x. IsOwedAt medium first said read i x) same at)
    ];
    all = λ j t l e f. elim (cases_lt j i) [
      | inl before ↦ (let w = h.all j t before e f in (w.0, Contains-append_left given (a ∷ []) w.0 w.1, w.2))
      | inr behind ↦ (a, Contains-push given a, (let s = at.sector in omega (arith, l, behind, s)))
    ];
    numbers = λ b c. elim (Contains-push_cases given a b c) [
      | inl old ↦ (let n = h.numbers b old in (n.0, (let m = n.1 in rw long (omega (arith, m)))))
      | inr same ↦ (let n : a.seq.0 ≡ b.seq.0 = ap (λ x. x.seq.0) same in (omega (arith, n, seq), rw long (omega (arith, n, seq))))
    ];
    distinct = λ b d c e same. elim (Contains-push_cases given a b c) [
      | inl old ↦ elim (Contains-push_cases given a d e) [
        | inl too ↦ h.distinct b d old too same
        | inr is ↦ absurd (newer b d old is same)
      ]
      | inr is ↦ elim (Contains-push_cases given a d e) [
        | inl old ↦ absurd (newer d b old is (sym same))
        | inr too ↦ sym is ∙ too
      ]
    ];
    ascends = all_pairs_push (λ f g. address_key f < address_key g) given a h.ascends (λ j d l. lower (get_or given j d) (Contains-get_or given j d l));
  }
    where
      long : length (given ++ a ∷ []) ≡ length given + 1
      long = length-append given (a ∷ [])

      lower : (b : AddressFact) → Contains given b → address_key b < address_key a
      lower b c =
          let w = h.each b c in
          let l = w.1 in
          rw (w.2.of_medium, at.of_medium, w.2.sector, at.sector) (omega (arith, l))

      newer : (b d : AddressFact) → Contains given b → a ≡ d → b.seq.0 ≡ d.seq.0 → ⊥
      newer b d c is same = let n = (h.numbers b c).1 in let m : a.seq.0 ≡ d.seq.0 = ap (λ x. x.seq.0) is in omega (arith, n, m, same, seq)

none_of : (o : Option AddressFact) → option_map (λ (a : AddressFact). a.target) o ≡ None → o ≡ None
none_of None e = refl
none_of (Some a) e = absurd cc

-- what the tables say of the sectors of a run, and what these read as
pub record AreTold (k : Kept) (medium first : ℕ) (said : List (Option AddressFact)) (read : List (Option Target)) : Type 0 where
  pub said_is : (i : ℕ) → i < length said → slice_index_or said i None ≡ visible (facts k.memory.tables).addresses (is_within (ranges_of k.elided table.Address)) medium (first + i)
  pub reads : (i : ℕ) → i < length said → ReadsAt (facts k.memory.tables) medium (first + i) (slice_index_or read i None)

module _ (k : Kept) (h : IsKept k) {medium first : ℕ} {said : List (Option AddressFact)} {read : List (Option Target)} (told : AreTold k medium first said read) where
  address_said : (i : ℕ) → i < length said → option_map (λ (a : AddressFact). a.target) (slice_index_or said i None) ≡ address (facts k.memory.tables) medium (first + i)
  address_said i l = ap (λ o. option_map (λ (a : AddressFact). a.target) o) (told.said_is i l) ∙ addresses_same k h medium (first + i)

  -- an address of the run is owed
  is_owed : (i : ℕ) (a : AddressFact) → i < length said → IsOwedAt medium first said read i a → IsOwed (facts k.memory.tables) medium a.sector a.target
  is_owed i a l at = rw at.sector (record {
    unsaid = sym (address_said i l) ∙ ap (λ o. option_map (λ (b : AddressFact). b.target) o) at.unsaid;
    reads = subst (λ t. ReadsAt (facts k.memory.tables) medium (first + i) t) at.reads (told.reads i l);
  })

  -- and each that is owed is of the run
  has_owed : {number : ℕ} {given : List AddressFact} → AreOwedIn medium first number said read (length said) given
      → (i : ℕ) (t : Target) → i < length said → IsOwed (facts k.memory.tables) medium (first + i) t → (a : AddressFact) × Contains given a × (a.sector ≡ first + i)
  has_owed {given = given} owed i t l o = go (slice_index_or read i None) refl
    where
      go : (u : Option Target) → slice_index_or read i None ≡ u → (a : AddressFact) × Contains given a × (a.sector ≡ first + i)
      go None e = absurd (o.reads.1 (subst (λ u. ReadsAt (facts k.memory.tables) medium (first + i) u) e (told.reads i l)))
      go (Some u) e = owed.all i u l (none_of (slice_index_or said i None) (address_said i l ∙ o.unsaid)) e

module _ (k : Kept) (h : IsKept k) where
  pub range_end : (r : MediumFact) → IsSound k.memory → range (facts k.memory.tables) r.medium.0 r.start ≡ Some r → r.end ≤ OBJECT_SECTORS
  range_end r sound there = (leads_down k.memory sound r.medium.0 r there).0.end

  -- so the addresses of a run may be given
  pub may_give : (r : MediumFact) {until : ℕ} {said : List (Option AddressFact)} {read : List (Option Target)} {given : List AddressFact} → r.start + length said ≡ until
      → range (facts k.memory.tables) r.medium.0 r.start ≡ Some r → (x : ObjectFact) × Contains k.objects x × (x.medium.0 ≡ r.medium.0) → r.start < until → until ≤ r.end
      → AreTold k r.medium.0 r.start said read → AreOwedIn r.medium.0 r.start k.memory.next.sequence said read (length said) given → k.memory.next.sequence + length given + 2 < NUMBER_LIMIT
      → MayFlatten k.memory r until given
  may_give r long there object some within told owed left = record {
    there = there;
    of_object = (object.0, visible_said k h object.0 object.1, object.2);
    some = some;
    within = within;
    each = λ a c.
        let w = owed.each a c in
        let s = w.2.sector in
        let l = w.1 in
        (w.2.of_medium, omega (arith, s), omega (arith, s, l, long), is_owed k h told w.0 a l w.2);
    all = λ sector t from below o.
        let i = sector - r.start in
        let same : r.start + i ≡ sector = omega (arith, from) in
        rw same at (has_owed k h told owed i t (omega (arith, below, long, same)) (rw same o));
    numbers = owed.numbers;
    distinct = owed.distinct;
    left = left;
  }

  pub lowest_seen : (medium : ℕ) (r : MediumFact) → IsLowest (facts k.memory.tables).mediums (is_within (ranges_of k.elided table.Medium)) medium r → IsLowestRange (facts k.memory.tables) medium r
  lowest_seen medium r lowest = record {
    there = sym (seen_range k h medium r.start) ∙ lowest.there;
    first = λ start l. sym (seen_range k h medium start) ∙ lowest.first start l;
  }

  pub none_seen : (medium : ℕ) (r : Option MediumFact) → IfNone r ((start : ℕ) → start < 2 ^ 64 → range_from (facts k.memory.tables).mediums (is_within (ranges_of k.elided table.Medium)) medium start ≡ None)
      → IfNone r ((start : ℕ) → start < 2 ^ 64 → range (facts k.memory.tables) medium start ≡ None)
  none_seen medium None absent = λ start l. sym (seen_range k h medium start) ∙ absent start l
  none_seen medium (Some r) absent = absent
