use Rattle.segment_writer.proofs.Prelude.{inl, then_run, weaker}
use Rattle.segment_writer.proofs.DataLayout.{have_stripes}
use Rattle.segment_writer.proofs.CheckpointStored.{stand_for}
use Rattle.segment_writer.proofs.CheckpointInTurn.{none_in_data, since_data, data_in_turn}
use Rattle.segment_writer.proofs.CheckpointWritten.{data_stands, data_headers_stand, facts_stand, on_checkpoint, both_leave}
use Rattle.segment_writer.proofs.checkpoint.write_checkpoint.Goals as goal

pub write_patches-requires-clause-patches : goal.write_patches-requires-clause-patches
write_patches-requires-clause-patches g c =
    stand_for (g.S.Shelf.shelf c.args.shelf.now) (g.S.Shelf.shelf c.write_data.new.shelf) c.args.plan.now c.args.patches.now c.write_data.ensures.ran.on.continues c.requires.stored

pub returns-in_err-write_data-clause-in_turn : goal.returns-in_err-write_data-clause-in_turn
returns-in_err-write_data-clause-in_turn g c h =
    let turn = rw (c.deref.ensures.value, c.deref-2.ensures.value) at (c.write_data.ensures.in_turn h) in
    let ran = rw c.deref.ensures.value at c.write_data.ensures.ran in
    both_leave (λ stop of_data leaves. record { of_data = of_data; of_patches = inl (none_in_data _ (g.S.Shelf.shelf c.write_data.new.shelf) c.args.plan.now.segments.items c.args.patches.now c.requires.stored.apart_of_data stop leaves) }) turn (ran.on.writes h).any_moment

pub returns-clause-ran : goal.returns-clause-ran
returns-clause-ran g c =
    on_checkpoint c.args.plan.now.segments.items c.args.patches.now g.met.S.Shelf.shelf_rest_stays (rw c.deref.ensures.value at c.in_ok-write_data.ensures.ran) c.write_patches.ensures.ran

pub returns-clause-data : goal.returns-clause-data
returns-clause-data g c h view shows =
    let z = c.write_patches.ensures in
    let w = rw (c.deref.ensures.value, c.deref-2.ensures.value) at (c.in_ok-write_data.ensures.written h) in
    data_stands (g.S.Shelf.shelf c.args.shelf.now) _ _ c.args.plan.now c.args.patches.now c.write_data.new.lost.drives c.write_patches.new.lost.drives c.args.staged.now view c.requires.placed c.requires.stored z.lost
    (z.ran.on.writes (c.in_ok-write_data.ensures.ran.on.continues.honest h)) w.holds shows

pub returns-clause-facts : goal.returns-clause-facts
returns-clause-facts g c h =
    facts_stand (g.S.Shelf.shelf c.args.shelf.now) (g.S.Shelf.shelf c.write_patches.new.shelf) c.args.plan.now c.args.patches.now c.write_patches.new.lost.drives c.requires.stored (c.write_patches.ensures.stand (c.in_ok-write_data.ensures.ran.on.continues.honest h))

pub returns-clause-headers : goal.returns-clause-headers
returns-clause-headers g c h =
    let z = c.write_patches.ensures in
    let at_b = c.in_ok-write_data.ensures.ran.on.continues.honest h in
    let w = rw (c.deref.ensures.value, c.deref-2.ensures.value) at (c.in_ok-write_data.ensures.written h) in
    record {
      of_data = data_headers_stand _ _ c.args.plan.now.segments.items c.args.patches.now c.write_data.new.lost.drives c.write_patches.new.lost.drives c.args.generation c.requires.stored.apart_of_data z.lost (z.ran.on.writes at_b) w.headers;
      of_patches = z.headers at_b;
    }

pub returns-clause-in_turn : goal.returns-clause-in_turn
returns-clause-in_turn g c h =
    let a = g.S.Shelf.shelf c.args.shelf.now in
    let b = g.S.Shelf.shelf c.write_data.new.shelf in
    let segments = c.args.plan.now.segments.items in
    let ps = c.args.patches.now in
    let apart = c.requires.stored.apart_of_data in
    let staged = c.args.staged.now in
    let order = c.args.plan.now.placing.order.items in
    let was = c.write_data.new.lost.drives in
    let now = c.write_patches.new.lost.drives in
    let x = c.in_ok-write_data.ensures in
    let z = c.write_patches.ensures in
    let at_b = x.ran.on.continues.honest h in
    let ran = rw c.deref.ensures.value at x.ran in
    let turn = rw (c.deref.ensures.value, c.deref-2.ensures.value) at (x.in_turn h) in
    let w = rw (c.deref.ensures.value, c.deref-2.ensures.value) at (x.written h) in
    let of_data = data_in_turn a b segments ps apart _ was now staged order (have_stripes segments 0 order c.requires.placed.filled) x.ran.on.continues z.lost.stays turn w.synced w.holds (z.ran.on.writes at_b) in
    let of_patches = then_run x.ran.on.continues (weaker (λ stop leaves. inl (none_in_data a b segments ps apart stop leaves)) (ran.on.writes h).any_moment)
    (weaker (λ stop turn. since_data a b segments ps apart c.args.plan.now now (ran.on.writes h) stop turn) (z.in_turn at_b)) in
    both_leave (λ stop d p. record { of_data = d; of_patches = p }) of_data of_patches
