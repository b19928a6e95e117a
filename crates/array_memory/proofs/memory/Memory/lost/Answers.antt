use Rattle.array_memory.proofs.Prelude.{ap, ◌∙◌, map, arith, refl, take_all, segment_key, Ascends, SegmentFact, nowhere, facts_in, Kept, is_hidden, unnamed}
use Rattle.array_memory.proofs.NamedLemmas.{ascend_more, below_more, lost_more, lost_same}
use Rattle.array_memory.proofs.memory.Memory.lost.Goals as goal
use Rattle.array_memory.proofs.memory.Memory.lost.Goals.{then-not-is_witnessed+in_ok-push, else-not-is_witnessed}

pub loop-i-init : goal.loop-i-init
loop-i-init c = rw c.new-ids.ensures.items (record {
  ascending = λ i j d l m. absurd (omega (arith, m));
  below = λ id j d x l m. absurd (nowhere id x);
  unnamed = refl;
})

pub loop-i-preserved : goal.loop-i-preserved
loop-i-preserved c =
    let fs = facts_in c.args.self.now.memory.tables.addresses in
    let hidden = is_hidden c.args.elided.now in
    let ds = c.all-segments.result.now in
    let i = c.loop-i.i in
    let lt = c.loop-i-test.true in
    let ids = c.loop-i.ids.items in
    let h = c.loop-i.invariant in
    let up : Ascends segment_key ds = rw c.all-segments.ensures c.self.invariant.segments.ascends in
    elim c.if-not-is_witnessed.branch [
      | then-not-is_witnessed+in_ok-push w ↦ rw (w.ids-is, w.in_ok-push.ensures.items) (record {
        ascending = ascend_more fs hidden ds i _ lt ids h.ascending h.below;
        below = below_more fs hidden ds i _ lt ids up h.below;
        unnamed = lost_more fs hidden ds i _ lt ids h.unnamed;
      })
      | else-not-is_witnessed w ↦ rw w.ids-is (record {
        ascending = h.ascending;
        below = λ id j d x l m. h.below id j d x (omega (arith, l)) m;
        unnamed = lost_same fs hidden ds i _ lt ids h.unnamed (c.is_witnessed.ensures w.if-not-is_witnessed.false);
      })
    ]

pub returns-clause-unnamed : goal.returns-clause-unnamed
returns-clause-unnamed c =
    let fs = facts_in c.args.self.now.memory.tables.addresses in
    let hidden = is_hidden c.args.elided.now in
    c.loop-i.invariant.unnamed ∙ ap (λ ds. unnamed fs hidden (map (λ (d : SegmentFact). d.segment.0) ds)) (take_all c.loop-i.i c.all-segments.result.now c.loop-i-test.false ∙ c.all-segments.ensures ∙ ap (λ (k : Kept). k.segments) c.self.view_is)
