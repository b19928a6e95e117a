use Rattle.medium_table.proofs.Prelude.{nat_tests, ℕ, ◌<◌, length, get_or, arith, inl, inr, get_or_default, MediumId}
use Rattle.medium_table.proofs.UnreachedLemmas.{lowest_found, one_unreached, past_range, past_reached}
use Rattle.medium_table.proofs.lowest.unreached.Goals as goal
use Rattle.medium_table.proofs.lowest.unreached.Goals.{else-i-elided-via-then-i-elided+else-elided-i, else-i-elided-via-else-i-elided}
use Rattle.medium_table.proofs.lowest.unreached.Goals.{else-j-reached-via-then-j-reached+else-reached-j, else-j-reached-via-else-j-reached}
use Rattle.medium_table.proofs.lowest.unreached.Goals.{then-loop-id-test+else-len-most, else-loop-id-test}

zero : MediumId
zero = record { 0 = 0 }

pub loop-id-preserved-then-elided-i : goal.loop-id-preserved-then-elided-i
loop-id-preserved-then-elided-i c =
    let l = c.loop-id in
    past_range c.args.elided.now c.args.reached.now c.args.next c.args.most l.ids.items l.id l.i l.j l.invariant (0, 0) c.past-id.result c.if-i-elided.true c.if-elided-i.true c.past-id.ensures.from c.past-id.ensures.behind c.past-id.ensures.first

pub loop-id-preserved-then-reached-j : goal.loop-id-preserved-then-reached-j
unfolding zero
loop-id-preserved-then-reached-j c =
    let l = c.loop-id in
    let past = c.past-id-then-reached-j in
    past_reached c.args.elided.now c.args.reached.now c.args.next c.args.most l.ids.items l.id l.i l.j l.invariant zero past.result c.if-j-reached.true c.if-reached-j.true past.ensures.from past.ensures.behind past.ensures.first

pub loop-id-preserved : goal.loop-id-preserved
unfolding zero
loop-id-preserved c =
    let l = c.loop-id in
    let elided = c.args.elided.now in
    let reached = c.args.reached.now in
    let later : (d : ℕ × ℕ) → l.i < length elided → l.id < (get_or elided l.i d).0 = λ d m. elim c.else-i-elided.branch [
      | else-i-elided-via-then-i-elided+else-elided-i w ↦ grind (arith, nat_tests, get_or, get_or_default, elided, l)
      | else-i-elided-via-else-i-elided w ↦ absurd (let out = w.if-i-elided.false in omega (arith, out, m))
    ] in
    let above : (d : MediumId) → l.j < length reached → l.id < (get_or reached l.j d).0 = λ d m. elim c.else-j-reached.branch [
      | else-j-reached-via-then-j-reached+else-reached-j w ↦ grind (arith, nat_tests, get_or, zero, get_or_default, reached, l)
      | else-j-reached-via-else-j-reached w ↦ absurd (let out = w.if-j-reached.false in omega (arith, out, m))
    ] in
    rw c.in_ok-push.ensures.items (one_unreached elided reached c.args.next c.args.most l.ids.items l.id l.i l.j l.invariant c.loop-id-test.true c.requires.apart c.requires.ascends later above (let few = c.if-len-most.true in omega (arith, few)))

pub returns : goal.returns
returns c =
    let l = c.loop-id in
    lowest_found c.args.elided.now c.args.reached.now c.args.next c.args.most l.ids.items l.id l.i l.j l.invariant (elim c.loop-id-test.branch [
      | then-loop-id-test+else-len-most w ↦ inr (let full = w.if-len-most.false in let long = w.len.ensures in omega (arith, full, long))
      | else-loop-id-test w ↦ inl w.loop-id-test.false
    ])
