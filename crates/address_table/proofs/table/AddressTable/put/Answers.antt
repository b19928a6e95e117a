use Rattle.address_table.proofs.Prelude.{inl, inr, [], here, either, nowhere}
use Rattle.pyramid.proofs.DistinctLemmas.{from_ok}
use Rattle.address_table.proofs.table.AddressTable.put.Goals as goal

pub returns-clause-facts : goal.returns-clause-facts
returns-clause-facts c = from_ok c.put_run.result _ _ c.put_run.ensures.facts (λ h f. (
  (λ d. elim ((h f).0 d) [ inl a ↦ inl a | inr a ↦ elim (either c.args.fact f [] a) [ inl e ↦ inr e | inr n ↦ absurd (nowhere f n) ] ]),
  (λ d. elim d [ inl a ↦ (h f).1 (inl a) | inr e ↦ (h f).1 (inr (rw e (here c.args.fact []))) ]),
))
