use Rattle.table_soundness.proofs.Prelude.{refl, facts_of}
use Rattle.pyramid.proofs.SpanLemmas.{for_ok}
use Rattle.table_soundness.proofs.ElisionLemmas.{all_spans, sound_from_spans, spans_fit, spans_grow}
use Rattle.table_soundness.proofs.elisions.are_spans_sound.Goals as goal

pub are_grown-requires-clause-sorted : goal.are_grown-requires-clause-sorted
are_grown-requires-clause-sorted c = rw c.deref.ensures.value c.in_ok-spans.ensures.sorted

pub are_grown-requires-clause-spans : goal.are_grown-requires-clause-spans
are_grown-requires-clause-spans c = rw c.deref.ensures.value (all_spans (facts_of c.args.patches.now) c.in_ok-spans.spans.items c.requires c.in_ok-spans.ensures.permutation)

pub are_nested-requires-clause-sorted : goal.are_nested-requires-clause-sorted
are_nested-requires-clause-sorted c = rw c.deref-2.ensures.value c.in_ok-spans.ensures.sorted

pub are_nested-requires-clause-spans : goal.are_nested-requires-clause-spans
are_nested-requires-clause-spans c = rw c.deref-2.ensures.value (all_spans (facts_of c.args.patches.now) c.in_ok-spans.spans.items c.requires c.in_ok-spans.ensures.permutation)

pub returns-then-not-are_grown : goal.returns-then-not-are_grown
returns-then-not-are_grown c = (
  λ no. absurd cc,
  λ h.
      let grown = rw c.deref.ensures.value at c.are_grown.ensures in
      let is = grown.1 (spans_grow (facts_of c.args.patches.now) c.in_ok-spans.spans.items c.requires c.in_ok-spans.ensures.permutation h) in
      absurd (cc (is, c.if-not-are_grown.true)),
)

pub returns : goal.returns
returns c =
    let facts = facts_of c.args.patches.now in
    let spans = c.in_ok-spans.spans.items in
    let moved = c.in_ok-spans.ensures.permutation in
    let grown = rw c.deref.ensures.value at c.are_grown.ensures in
    let nested = rw c.deref-2.ensures.value at c.are_nested.ensures in
    for_ok c.are_nested.result _ _ nested (λ b h. (
      λ yes. sound_from_spans facts spans c.requires moved (h.0 yes) (grown.0 (rw c.if-not-are_grown.false refl)),
      λ sound. h.1 (spans_fit facts spans c.requires moved sound),
    ))
