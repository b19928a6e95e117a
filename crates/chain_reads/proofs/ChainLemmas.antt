-- What tables say of a chain, and how a cursor goes along it.
use Rattle.chain_reads.proofs.Prelude.{◌≡◌, ◌↔◌, ℕ, ◌+◌, ◌-◌, ◌<◌, ◌≤◌, List, length, set, get_or, sym, subst, ap, ◌∙◌, refl, arith, inl, inr, Option, Some, None, option_map, slice_index_or, get_or-set_same, get_or-set_other, cases_eq, cases_lt, Facts, IsOver, address, range, is_within, AddressFact, MediumFact, Target, ElidedRanges, ranges_of, Layers, facts_in, below, IsUnwritten, ReadsAt, onward, Spot, Cursor, At, Settled, behind, cursor_at, onward_by, weight, AllFollow, Follows, IsInRun, IsSaidOf, NoneRises, ReadsAs, ReadsBelow, ReadsOn, RunReadsOn}
use Rattle.std.proofs.lemmas.List.{get_or_default}
use Rattle.pur_base.specs.declared.request.Table.TheVariants as table
use Rattle.pur_base.specs.Mediums.{here}
use Rattle.medium_table.specs.Prelude.{range_from, AreDisjoint, IsRangeOver}
use Rattle.medium_table.proofs.RangeLemmas.{same_ranges, same_over}
use Rattle.pur_base.specs.Unwritten.{nowhere}
use Rattle.chain_reads.specs.Chains.{AreChains, LeadDown}

-- ---- what the tables say is what their facts say

module _ (f : Facts) (m : Layers MediumFact) (a : Layers AddressFact) (e : ElidedRanges) (h : AreChains f m a e) where
  range_same : (medium start : ℕ) → range_from (facts_in m) (is_within (ranges_of e table.Medium)) medium start ≡ range f medium start
  range_same medium start =
      ap (λ (fs : List MediumFact). range_from fs (is_within (ranges_of e table.Medium)) medium start) h.tables.of_mediums
      ∙ same_ranges f (ranges_of e table.Medium) medium start h.tables.elided_mediums

  over_same : (medium sector : ℕ) (r : MediumFact) → IsRangeOver (facts_in m) (is_within (ranges_of e table.Medium)) medium sector r ↔ IsOver f medium sector r
  over_same medium sector r =
      subst (λ (fs : List MediumFact). IsRangeOver fs (is_within (ranges_of e table.Medium)) medium sector r ↔ IsOver f medium sector r) (sym h.tables.of_mediums)
      (same_over f (ranges_of e table.Medium) medium sector r h.tables.elided_mediums)

  pub disjoint : (medium : ℕ) → AreDisjoint (facts_in m) (is_within (ranges_of e table.Medium)) medium
  disjoint medium = record {
    whole = λ r there. (h.lead.down medium r (sym (range_same medium r.start) ∙ there)).0.some;
    apart = λ x r s o p. h.lead.disjoint medium x r s ((over_same medium x r).0 o) ((over_same medium x s).0 p);
  }

not_both : {X : Type 0} {a : X} (o : Option X) → o ≡ Some a → o ≡ None → ⊥
not_both o e f = cc

-- ---- how a cursor goes on

-- what has an address isn't unwritten
said_written : (f : Facts) (m x : ℕ) (t : Target) → address f m x ≡ Some t → IsUnwritten f m x → ⊥
said_written f m x t e (nowhere none gap) = not_both (address f m x) e none
said_written f m x t e (onward r none over rest) = not_both (address f m x) e none

pub reads_said : (f : Facts) (m x : ℕ) (t : Target) → address f m x ≡ Some t → ReadsAt f m x (Some t)
reads_said f m x t e = (here e, said_written f m x t e)

pub follows_gap : (f : Facts) (spot : Spot) → address f spot.medium.0 spot.sector ≡ None → ((r : MediumFact) → ¬ (IsOver f spot.medium.0 spot.sector r)) → Follows f (At spot) (Settled None)
follows_gap f spot e none m x go = go None (nowhere e none)

module _ (f : Facts) (lead : LeadDown f) (r : MediumFact) where
  -- where the range over an unwritten sector leads is unwritten
  unwritten_on : (m x : ℕ) → IsOver f m x r → IsUnwritten f m x → IsUnwritten f r.target.0 (r.target_start + (x - r.start))
  unwritten_on m x over (nowhere none gap) = absurd (gap r over)
  unwritten_on m x over (onward q none other rest) =
      subst (λ (z : MediumFact). IsUnwritten f z.target.0 (z.target_start + (x - z.start))) (lead.disjoint m x q r other over) rest

  -- what is read there is read here
  read_back : (m x : ℕ) → address f m x ≡ None → IsOver f m x r → (t : Option Target) → ReadsAt f r.target.0 (r.target_start + (x - r.start)) t → ReadsAt f m x t
  read_back m x e over (Some t) h = (below r e over h.0, λ u. h.1 (unwritten_on m x over u))
  read_back m x e over None h = onward r e over h

  pub follows_range : (spot : Spot) → address f spot.medium.0 spot.sector ≡ None → IsOver f spot.medium.0 spot.sector r → Follows f (At spot) (At (onward_by r spot))
  follows_range spot e over m x go t h = go t (read_back spot.medium.0 spot.sector e over t h)

  -- a run that the range has, and of which its medium says nothing, reads on whole
  pub run_reads_on : (from : Spot) (said : List (Option AddressFact)) → IsSaidOf f from said → ((k : ℕ) → k < length said → slice_index_or said k None ≡ None)
      → r.start ≤ from.sector → ((k : ℕ) → k < length said → IsOver f from.medium.0 (from.sector + k) r) → RunReadsOn f from (onward_by r from) (length said)
  run_reads_on from said says silent start over k l t h =
      read_back from.medium.0 (from.sector + k) (sym (says k l) ∙ ap (λ (o : Option AddressFact). option_map (λ (a : AddressFact). a.target) o) (silent k l)) (over k l) t
      (subst (λ (y : ℕ). ReadsAt f r.target.0 y t) (omega (arith, start)) h)

-- a cursor of a run reads on where the run does
pub in_run_reads : (f : Facts) (from at : Spot) (k : ℕ) (c : Cursor) → IsInRun from.medium.0 (from.sector + k) c → at.medium.0 ≤ from.medium.0
    → ReadsBelow f from.medium.0 (from.sector + k) (behind at k) → ReadsOn f (behind at k) c
in_run_reads f from at k (At spot) run sinks reads =
    (omega (arith, run.0, sinks), subst (λ (m : ℕ). ReadsBelow f m spot.sector (behind at k)) (sym run.0) (subst (λ (s : ℕ). ReadsBelow f from.medium.0 s (behind at k)) (sym run.1) reads))
in_run_reads f from at k (Settled t) run sinks reads = tt

-- one that is nowhere has no way left
pub settled_weight : (c : Cursor) → ((spot : Spot) → c ≡ At spot → ⊥) → weight c ≡ 0
settled_weight (At spot) not = absurd (not spot refl)
settled_weight (Settled t) not = refl

pub any_default : (cursors : List Cursor) (place : ℕ) (d : Cursor) → place < length cursors → get_or cursors place d ≡ cursor_at cursors place
any_default cursors place d within = get_or_default cursors place d (Settled None) within

-- ---- one cursor of several goes on

module _ (now : List Cursor) (at : ℕ) (spot : Spot) (new : Cursor) (within : at < length now) (is : cursor_at now at ≡ At spot) where
  put_here : (place : ℕ) → place ≡ at → cursor_at (set now at new) place ≡ new
  put_here place same = ap (cursor_at (set now at new)) same ∙ get_or-set_same now at new (Settled None) within

  pub put_beside : (place : ℕ) → (place ≡ at → ⊥) → cursor_at (set now at new) place ≡ cursor_at now place
  put_beside place other = get_or-set_other now at place new (Settled None) other

  pub put_follows : (f : Facts) → Follows f (At spot) new → AllFollow f now (set now at new)
  put_follows f goes place m x r = elim (cases_eq place at) [
    | inl same ↦
        subst (λ (d : Cursor). ReadsAs f m x d) (sym (put_here place same)) (goes m x (subst (λ (d : Cursor). ReadsAs f m x d) (ap (cursor_at now) same ∙ is) r))
    | inr other ↦ subst (λ (d : Cursor). ReadsAs f m x d) (sym (put_beside place other)) r
  ]

  pub put_sinks : weight new ≤ spot.medium.0 → NoneRises now (set now at new)
  put_sinks less place = elim (cases_eq place at) [
    | inl same ↦
        (let after = ap weight (put_here place same) in
        let before : weight (cursor_at now place) ≡ spot.medium.0 + 1 = ap weight (ap (cursor_at now) same ∙ is) in
        omega (arith, after, before, less))
    | inr other ↦ (let e = ap weight (put_beside place other) in omega (arith, e))
  ]

  pub put_first : (i k bound : ℕ) → at ≡ i + k → weight new ≤ bound → (0 < k → weight (cursor_at now i) ≤ bound) → weight (cursor_at (set now at new) i) ≤ bound
  put_first i k bound sum less before = elim (cases_eq i at) [
    | inl same ↦ (let after = ap weight (put_here i same) in omega (arith, after, less))
    | inr other ↦
        (let some : 0 < k = elim (cases_lt 0 k) [ inl l ↦ l | inr none ↦ absurd (other (omega (arith, sum, none))) ] in
        let e = ap weight (put_beside i other) in
        let b = before some in
        omega (arith, e, b))
  ]
