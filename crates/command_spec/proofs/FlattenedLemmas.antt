-- Steps of a flattening, as memory's calls leave them.
use Rattle.command_spec.proofs.Prelude.{nat_tests, ◌≡◌, ◌⊎◌, ◌↔◌, ◌∙◌, ℕ, ◌+◌, ◌-◌, ◌<◌, ◌≤◌, ◌^◌, List, length, sym, ap, subst, arith, inl, inr, Bool, true, false, Some, option_and_then, eq-eqb, Contains, is_elided, says, AddressFact, NextNumbers, Layers, facts_in, facts, Memory, IsSound, AreIdsBelow, of_each, range_is, all_mediums, cut_facts, HasFlattened, MayFlatten, Kept, AreNextAddresses}
use Rattle.pur_base.specs.declared.request.Table.TheVariants as table
use Rattle.memory_spec.specs.Prelude.{is_empty_range, medium_key, key_of, range, LeadsDown, MediumFact, IsFact}
use Rattle.pur_base.specs.declared.facts.AnyFact.TheVariants as any
use Rattle.command_spec.proofs.PutLemmas.{putting}

-- a visible range is of a medium that was given
pub range_given : (m : Memory) (medium start : ℕ) (r : MediumFact) → AreIdsBelow m.next (facts m.tables) → range (facts m.tables) medium start ≡ Some r → r.medium.0 < m.next.medium
range_given m medium start r ids e = of_each (λ (f : MediumFact). f.medium.0 < m.next.medium) (facts m.tables).mediums r ids.mediums (range_is (facts m.tables) medium start r e).0

-- what is said isn't empty
said_whole : {F : Type 0} (key num : F → ℕ) (empty : F → Bool) (fs : List F) (elided : ℕ → Bool) (k : ℕ) (r : F) → says key num empty fs elided k ≡ Some r → empty r ≡ false
said_whole {F} key num empty fs elided k r e = grind (arith, nat_tests, false, true, option_and_then)

-- it is one of its medium, and leads to a smaller one within the greatest size
pub leads_down : (m : Memory) → IsSound m → (medium : ℕ) (r : MediumFact) → range (facts m.tables) medium r.start ≡ Some r → LeadsDown r × (r.medium.0 ≡ medium)
leads_down m sound medium r e =
    let w = range_is (facts m.tables) medium r.start r e in
    let fact : IsFact (any.Medium r) = sound.fit (any.Medium r) (all_mediums (facts m.tables) r w.0) in
    let whole : is_empty_range r ≡ false = said_whole medium_key (λ g. g.seq.0) is_empty_range (facts m.tables).mediums (is_elided (facts m.tables).elisions table.Medium) (key_of medium r.start) r e in
    let at : r.medium.0 ≡ medium = (let same : key_of r.medium.0 r.start ≡ key_of medium r.start = w.1 in omega (arith, same)) in
    elim fact.lawful.statement [
      | inl nowhere ↦ absurd (let is : is_empty_range r ≡ true = eq-eqb r.end r.start nowhere.0 in cc)
      | inr down ↦ (down, at)
    ]

-- the addresses have the next numbers
pub given_next : (m : Memory) (r : MediumFact) (until : ℕ) (given : List AddressFact) → IsSound m → MayFlatten m r until given → AreNextAddresses m.next given
given_next m r until given sound may = record {
  mediums = λ f c. let is = (may.each f c).0 in let old = range_given m r.medium.0 r.start r sound.ids may.there in omega (arith, is, old);
  numbers = may.numbers;
  distinct = may.distinct;
}

-- what is left of the range leads to sectors that are there
pub cut_fits : (m : Memory) (r : MediumFact) (until : ℕ) → IsSound m → range (facts m.tables) r.medium.0 r.start ≡ Some r → r.start < until → until ≤ r.end → r.target_start + (until - r.start) < 2 ^ 64
cut_fits m r until sound there some within =
    let fact : IsFact (any.Medium r) = sound.fit (any.Medium r) (all_mediums (facts m.tables) r (range_is (facts m.tables) r.medium.0 r.start r there).0) in
    elim fact.lawful.statement [
      | inl nowhere ↦ absurd (let at = nowhere.0 in omega (arith, at, some, within))
      | inr down ↦ (let end = down.target_end in omega (arith, end, some, within))
    ]

-- with these ranges, and as many numbers given
abbrev pub cutting : Kept → Layers MediumFact → ℕ → Kept
cutting k m count = record k {
  memory = record k.memory {
    tables = record k.memory.tables { mediums = m };
    next = record k.memory.next { sequence = k.memory.next.sequence + count };
  };
}

pub flattened_as : (was mid now : Kept) (r : MediumFact) (until : ℕ) (given : List AddressFact) → mid ≡ putting was mid.memory.tables.addresses (length given)
    → ((f : AddressFact) → Contains (facts_in mid.memory.tables.addresses) f ↔ (Contains (facts_in was.memory.tables.addresses) f ⊎ Contains given f))
    → now ≡ cutting mid now.memory.tables.mediums (length (cut_facts r until mid.memory.next.sequence))
    → ((f : MediumFact) → Contains (facts_in now.memory.tables.mediums) f ↔ (Contains (facts_in mid.memory.tables.mediums) f ⊎ Contains (cut_facts r until mid.memory.next.sequence) f))
    → HasFlattened was.memory now.memory r until given
flattened_as was mid now r until given gave added cut away = record {
  objects = ap (λ (k : Kept). facts_in k.memory.tables.objects) cut ∙ ap (λ (k : Kept). facts_in k.memory.tables.objects) gave;
  mediums = λ f. subst (λ (k : Kept). Contains (facts_in now.memory.tables.mediums) f ↔ (Contains (facts_in k.memory.tables.mediums) f ⊎ Contains (cut_facts r until k.memory.next.sequence) f)) gave (away f);
  addresses = λ f. subst (λ (ls : Layers AddressFact). Contains (facts_in ls) f ↔ (Contains (facts_in was.memory.tables.addresses) f ⊎ Contains given f)) (sym (ap (λ (k : Kept). k.memory.tables.addresses) cut)) (added f);
  segments = ap (λ (k : Kept). facts_in k.memory.tables.segments) cut ∙ ap (λ (k : Kept). facts_in k.memory.tables.segments) gave;
  elisions = ap (λ (k : Kept). facts_in k.memory.tables.elisions) cut ∙ ap (λ (k : Kept). facts_in k.memory.tables.elisions) gave;
  staged = ap (λ (k : Kept). k.memory.staged) cut ∙ ap (λ (k : Kept). k.memory.staged) gave;
  next = ap (λ (k : Kept). k.memory.next) cut ∙ ap (λ (n : NextNumbers). record n { sequence = n.sequence + length (cut_facts r until n.sequence) }) (ap (λ (k : Kept). k.memory.next) gave);
}
