-- What the ranges of sound memory lead to.
use Rattle.array_memory.proofs.Prelude.{◌≡◌, ◌∙◌, ℕ, List, refl, address, range, is_within, facts, facts_in, IsSound, MediumFact, ranges_of, target_of, range_from, IsLowest, IsLowestRange, Kept, IsKept, leads_down}
use Rattle.pur_base.specs.declared.request.Table.TheVariants as table
use Rattle.address_table.proofs.AddressLemmas.{same_addresses}
use Rattle.chain_reads.specs.Chains.{AreChains}
use Rattle.medium_table.proofs.RangeLemmas.{same_ranges}

module _ (k : Kept) (h : IsKept k) where
  pub addresses_same : (m x : ℕ) → target_of (facts k.memory.tables).addresses (is_within (ranges_of k.elided table.Address)) m x ≡ address (facts k.memory.tables) m x
  addresses_same m x = same_addresses (facts k.memory.tables) (ranges_of k.elided table.Address) m x (h.elided table.Address (λ e. cc))

  -- a range is seen by the ranges of elided mediums as the facts of all tables say it
  pub seen_range : (m start : ℕ) → range_from (facts_in k.memory.tables.mediums) (is_within (ranges_of k.elided table.Medium)) m start ≡ range (facts k.memory.tables) m start
  seen_range m start = same_ranges (facts k.memory.tables) (ranges_of k.elided table.Medium) m start (h.elided table.Medium (λ e. cc))

  -- the lowest range of a medium is seen as the lowest
  pub seen_lowest : (elided : List (ℕ × ℕ)) → elided ≡ ranges_of k.elided table.Medium → (m : ℕ) (r : MediumFact) → IsLowestRange (facts k.memory.tables) m r → IsLowest (facts_in k.memory.tables.mediums) (is_within elided) m r
  seen_lowest elided is m r low = rw is (record { there = seen_range m r.start ∙ low.there; first = λ start l. seen_range m start ∙ low.first start l })

module _ (k : Kept) (h : IsKept k) (sound : IsSound k.memory) where
  -- the tables hold facts of which each chain of mediums ends
  pub are_chains : AreChains (facts k.memory.tables) k.memory.tables.mediums k.memory.tables.addresses k.elided
  are_chains = record {
    tables = record {
      of_mediums = refl;
      of_addresses = refl;
      elided_mediums = h.elided table.Medium (λ e. cc);
      elided_addresses = h.elided table.Address (λ e. cc);
    };
    lead = record { down = leads_down k.memory sound; disjoint = sound.mediums.disjoint };
  }
