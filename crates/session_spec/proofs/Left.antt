-- What may stand at a stop.
use Rattle.session_spec.proofs.Prelude.{inl, inr, ℕ, ◌+◌, length, drop, refl, subst, Stop, acked, AcceptsNext, LeavesAfter}
use Rattle.session_spec.proofs.Fared.{fares_run}

module _ (left : Stop → Type 0) where
  pub leaves_after : LeavesAfter left
  leaves_after shelf first items stop at array is =
      let out = drop (length first.stop.output) stop.output in
      elim is [
        | inl e ↦ (
          acked out,
          record {
            replies = at.replies;
            between = at.point.array;
            run = fares_run left shelf first at.point items at.replies at.run;
            count = at.count;
            state = inl (refl, e);
          },
        )
        | inr next ↦ (
          acked out + 1,
          record {
            replies = at.replies;
            between = at.point.array;
            run = fares_run left shelf first at.point items at.replies at.run;
            count = at.count;
            state = inr (refl, subst (λ (n : ℕ). AcceptsNext at.point.array (drop n items) array) at.count next.accepts);
          },
        )
      ]
