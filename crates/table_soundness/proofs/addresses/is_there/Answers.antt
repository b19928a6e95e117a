use Rattle.table_soundness.proofs.Prelude.{subst, sym, ltb-true, lt-ltb, IsThere}
use Rattle.table_soundness.proofs.AddressLemmas.{placed_there}
use Rattle.table_soundness.proofs.addresses.is_there.Goals as goal

pub returns-in-Some : goal.returns-in-Some
returns-in-Some c =
    let segments = c.args.segments.now in
    let s = c.in-Some.segment in
    let here = c.in-Some.ensures.some in (
      λ yes. subst (λ t. IsThere segments t) (sym c.in-Stored.is) (s, here.0, here.1, ltb-true _ _ yes),
      λ h. lt-ltb _ _ (placed_there segments c.in-Stored.location s c.requires here (subst (λ t. IsThere segments t) c.in-Stored.is h)),
    )
