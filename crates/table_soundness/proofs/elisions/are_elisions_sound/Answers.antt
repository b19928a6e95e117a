use Rattle.table_soundness.proofs.Prelude.{refl, All-from_recursion, recursion_from_All, facts_of, IsBelow}
use Rattle.pyramid.proofs.SpanLemmas.{for_ok}
use Rattle.table_soundness.proofs.elisions.are_elisions_sound.Goals as goal

pub returns-then-not-are_all_below : goal.returns-then-not-are_all_below
returns-then-not-are_all_below c = (
  λ no. absurd cc,
  λ h.
      let is = c.are_all_below.ensures.1 (All-from_recursion (IsBelow c.args.next.now) (facts_of c.args.patches.now) h.ids) in
      absurd (cc (is, c.if-not-are_all_below.true)),
)

pub returns : goal.returns
returns c = for_ok c.are_spans_sound.result _ _ c.are_spans_sound.ensures (λ b h. (
  λ yes. record {
    ids = recursion_from_All (IsBelow c.args.next.now) (facts_of c.args.patches.now) (c.are_all_below.ensures.0 (rw c.if-not-are_all_below.false refl));
    sound = h.0 yes;
  },
  λ right. h.1 right.sound,
))
