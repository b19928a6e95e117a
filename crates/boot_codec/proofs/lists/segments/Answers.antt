use Rattle.boot_codec.proofs.Prelude.{◌≡◌, ℕ, ◌-◌, ◌∷◌, [], List, length, take, drop, Ok, ap, sym, ◌∙◌, arith, length-append, length-drop, take_all, segment}
use Rattle.boot_codec.proofs.LoopLemmas.{segments_go_on, segments_done}
use Rattle.boot_codec.proofs.lists.segments.Goals as goal

pub loop-i-preserved : goal.loop-i-preserved
loop-i-preserved c =
    let next = c.segment_at_once.new.into in
    let bytes = c.loop-i.rest.now in
    let rest : take (length bytes - 35) (drop 35 bytes) ≡ drop 35 bytes = take_all _ _ (omega (arith, length-drop 35 bytes)) in
    let read : segment c.args.slots c.args.units bytes ≡ Ok (next, take (length bytes - 35) (drop 35 bytes)) = c.segment_at_once.ensures c.if-not-segment_at_once.false ∙ ap (λ (after : List ℕ). Ok (next, after)) (sym rest) in
    rw c.in_ok-push.ensures.items (
      omega (arith, length-append c.loop-i.into.items (next ∷ []), c.loop-i.invariant.0),
      segments_go_on c.args.slots c.args.units c.loop-i.into.items c.args.count c.loop-i.i bytes next _ _ c.loop-i-test.true read c.loop-i.invariant.1,
    )

pub returns-clause-gives : goal.returns-clause-gives
returns-clause-gives c = segments_done c.args.slots c.args.units c.loop-i.into.items c.args.count c.loop-i.i c.loop-i.rest.now _ c.loop-i-test.false c.loop-i.invariant.1
