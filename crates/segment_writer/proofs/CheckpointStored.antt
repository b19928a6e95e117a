-- Patches that may be stored.
use Rattle.segment_writer.proofs.Prelude.{arith, Some, slice_get, ◌≡◌, ℕ, List, subst, nat_tests, AnyFact, Patch, Shelved, Continues, MayBeStored, MayBeHeaded, Plan, new_facts, facts_of_tag, MayBeStoredWith, MayStandFor}
use Rattle.segment_writer.proofs.PatchLayout.{headed_later}
use Rattle.segment_writer.proofs.Gets.{zip_at}
use Rattle.segment_writer.proofs.CheckpointTags.{facts_by_tag}

-- a shelf of the same size
pub stored_later : (a b : Shelved) (p : Patch) (facts : List AnyFact) → Continues a b → MayBeStored a p facts → MayBeStored b p facts
stored_later a b p facts continues stored = grind (arith, nat_tests)

pub stand_for : (a b : Shelved) (plan : Plan) (ps : List Patch) → Continues a b → MayBeStoredWith a plan ps → MayStandFor b plan ps
stand_for a b plan ps continues with = record {
  stored = λ i p at. let x = found i p at in
      stored_later a b p (facts_of_tag plan p.tag) continues (subst (MayBeStored a p) (facts_by_tag a plan p x.0 x.2.0 i x.1) x.2.0);
  headed = λ i p at. let x = found i p at in headed_later a b p continues x.2.1;
  apart = with.apart;
}
  where
    found : (i : ℕ) (p : Patch) → slice_get ps i ≡ Some p → (facts : List AnyFact) × (slice_get (new_facts plan) i ≡ Some facts) × (MayBeStored a p facts × MayBeHeaded a p)
    found i p at = zip_at (λ p facts. MayBeStored a p facts × MayBeHeaded a p) ps (new_facts plan) i p with.each at
