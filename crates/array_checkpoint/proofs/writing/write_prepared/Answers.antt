use Rattle.array_checkpoint.proofs.Prelude.{ℕ, List, sym, subst, View, facts, ran_more, bytes_of, DataStands, MayBePlaced, ShowsMostOf, eliding_by, contents_after, facts_after, held_after}
use Rattle.array_checkpoint.proofs.Left.{own_size}
use Rattle.array_checkpoint.proofs.NewUnits.{may_be_stored, on_drives, unused}
use Rattle.array_checkpoint.proofs.NextHolds.{contents_left, holds_next}
use Rattle.array_checkpoint.proofs.Units.{may_be_placed}
use Rattle.array_checkpoint.proofs.Wrote.{has_written}
use Rattle.array_checkpoint.proofs.writing.write_prepared.Goals as goal

pub write_checkpoint-requires-clause-placed : goal.write_checkpoint-requires-clause-placed
write_checkpoint-requires-clause-placed g c =
    let a = g.S.Shelf.shelf c.args.shelf.now in
    let x = c.args.array.now in
    let p = c.args.prepared.now.plan in
    let h = c.requires.prepared in
    subst (λ (staged : List (List ℕ)). MayBePlaced a p.segments.items staged p.placing.order.items) (sym c.all_staged.ensures)
    (may_be_placed a x.register.record (facts x.memory.memory.tables) (eliding_by x.memory.memory p.eliding) p h.units (own_size a x c.requires.is_of) h.plan.plan h.free)

pub write_checkpoint-requires-clause-stored : goal.write_checkpoint-requires-clause-stored
write_checkpoint-requires-clause-stored g c = may_be_stored c.args.array.now c.args.prepared.now c.requires.prepared (g.S.Shelf.shelf c.args.shelf.now) c.requires.is_of

pub returns-in_err-write_checkpoint-clause-ran : goal.returns-in_err-write_checkpoint-clause-ran
returns-in_err-write_checkpoint-clause-ran g c =
    let p = c.args.prepared.now in
    ran_more (on_drives c.args.array.now p c.requires.prepared) (unused c.args.array.now p c.requires.prepared) c.write_checkpoint.ensures.ran

pub returns-clause-ran : goal.returns-clause-ran
returns-clause-ran g c =
    let p = c.args.prepared.now in
    ran_more (on_drives c.args.array.now p c.requires.prepared) (unused c.args.array.now p c.requires.prepared) c.write_checkpoint.ensures.ran

pub returns-clause-wrote : goal.returns-clause-wrote
returns-clause-wrote g c =
    let a = g.S.Shelf.shelf c.args.shelf.now in
    let b = g.S.Shelf.shelf c.write_checkpoint.new.shelf in
    let x = c.args.array.now in
    let m = x.memory.memory in
    let q = c.args.prepared.now in
    let lost = c.write_checkpoint.new.lost.drives in
    let of = c.requires.is_of in
    let run = (returns-clause-ran g c).on in
    let y = c.in_ok-write_checkpoint.ensures in
    let is = g.met.S.Shelf.is_shelf c.args.shelf.now in
    let is_b = g.met.S.Shelf.is_shelf c.write_checkpoint.new.shelf in
    let sectors = λ (h : a.honest). subst (λ (staged : List (List ℕ)). (view : View) → ShowsMostOf (bytes_of b) q.plan.segments.items lost view → DataStands view q.plan.segments.items staged q.plan.placing.order.items) c.all_staged.ensures (y.data h) in
    has_written a b x is of run lost c.write_checkpoint.ensures.lost y.clean q.tables (held_after m q.plan) (contents_after m q.plan) (facts_after m q.plan)
    (λ h held ready free. holds_next a b is is_b h x q of c.requires.prepared run lost (sectors h) (y.facts h) held ready free)
    (λ h contents hold. contents_left a b is is_b h x q of c.requires.prepared run lost (sectors h) (y.facts h) contents hold)
