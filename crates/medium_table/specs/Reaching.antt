-- Which mediums lead to which.
use Rattle.std.specs.Prelude.{◌≡◌, ◌⊎◌, ◌↔◌, ℕ, ◌^◌, ◌<◌, ◌≤◌, Bool, false, List, length, Some, AllPairs, Contains}
use Rattle.std.proofs.Common.{sym, ◌∙◌}
use Rattle.pyramid.specs.Prelude.{MediumId, MediumFact}
use Rattle.medium_table.specs.Ranges.{range_from}

-- the id as a number
abbrev pub id_of_medium : MediumId → ℕ
id_of_medium m = m.0

-- the range is visible
abbrev pub IsVisible : List MediumFact → (ℕ → Bool) → MediumFact → Type 0
IsVisible facts elided r = range_from facts elided r.medium.0 r.start ≡ Some r

-- a medium leads to itself, and to what the targets of its ranges lead to
pub data LeadsTo (IsRange : MediumFact → Type 0) : ℕ → ℕ → Type 0 where
  itself : {medium : ℕ} → LeadsTo IsRange medium medium
  onward : {end : ℕ} (r : MediumFact) → IsRange r → LeadsTo IsRange r.target.0 end → LeadsTo IsRange r.medium.0 end

-- one of these mediums leads to it
abbrev pub IsReached : (MediumFact → Type 0) → List MediumId → MediumId → Type 0
IsReached IsRange from m = (first : MediumId) × Contains from first × LeadsTo IsRange first.0 m.0

-- visible ranges lead to mediums of smaller ids, and what they say are numbers of 64 bits
pub record AreDescending (facts : List MediumFact) (elided : ℕ → Bool) : Type 0 where
  pub down : (r : MediumFact) → IsVisible facts elided r → r.target.0 < r.medium.0
  pub mediums : (r : MediumFact) → IsVisible facts elided r → r.medium.0 < 2 ^ 64
  pub starts : (r : MediumFact) → IsVisible facts elided r → r.start < 2 ^ 64

-- ---- mediums that nothing reaches

-- of the ids from 1 on, below the next one, those of the lowest that are neither elided nor reached, so many at most
pub record AreLowestUnreached (elided : ℕ → Bool) (Reached : ℕ → Type 0) (next most : ℕ) (ids : List ℕ) : Type 0 where
  pub ascending : AllPairs (λ i j. i < j) ids
  pub few : length ids ≤ most
  pub each : (id : ℕ) → Contains ids id → (1 ≤ id) × (id < next) × (elided id ≡ false) × ¬ (Reached id)
  -- and each other one lies behind them, which are as many as may be
  pub others : (id : ℕ) → 1 ≤ id → id < next → elided id ≡ false → ¬ (Reached id) → Contains ids id ⊎ ((length ids ≡ most) × ((i : ℕ) → Contains ids i → i < id))

-- which ids are elided and reached counts alone
pub unreached_alike : (a b : ℕ → Bool) (P Q : ℕ → Type 0) (next most : ℕ) (ids : List ℕ) → ((id : ℕ) → a id ≡ b id) → ((id : ℕ) → P id ↔ Q id)
    → AreLowestUnreached a P next most ids → AreLowestUnreached b Q next most ids
unreached_alike a b P Q next most ids elided reached h = record {
  ascending = h.ascending;
  few = h.few;
  each = λ id c. let e = h.each id c in (e.0, e.1, sym (elided id) ∙ e.2, λ q. e.3 ((reached id).1 q));
  others = λ id some low whole out. h.others id some low (elided id ∙ whole) (λ p. out ((reached id).0 p));
}
