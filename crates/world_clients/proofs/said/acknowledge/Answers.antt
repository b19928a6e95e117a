use Rattle.world_clients.proofs.Prelude.{◌≡◌, ◌+◌, ◌∙◌, length, ap, subst, sym, true, slice_index, ℕ, List, rules, Leaves, Disk, OneRange, WritesOnly, continues_trans, StoredWhenSaid}
use Rattle.world_clients.proofs.Stored.{said, not_yet, first_written}
use Rattle.world_clients.proofs.said.acknowledge.Goals as goal

pub returns-in_err-give_byte-clause-continues : goal.returns-in_err-give_byte-clause-continues
returns-in_err-give_byte-clause-continues g c = continues_trans (continues_trans c.take_byte.ensures.shelf.continues c.write_synced.ensures.continues) c.give_byte.ensures.shelf.continues

pub returns-clause-continues : goal.returns-clause-continues
returns-clause-continues g c = continues_trans (continues_trans c.take_byte.ensures.shelf.continues c.write_synced.ensures.continues) c.give_byte.ensures.shelf.continues

pub returns-in_err-give_byte-clause-said : goal.returns-in_err-give_byte-clause-said
returns-in_err-give_byte-clause-said g c told =
    let same = c.take_byte.ensures.shelf in
    let w = c.in_ok-write_synced.ensures in
    let h = same.continues.honest told.shelf_is in
    let from : List ℕ = c.take_byte.new.byte in
    let one : length from ≡ 1 = search rules in
    let more : c.in_ok-take_byte.field-0 ≡ true = search rules in
    let sink : (g.W.Sink.sink c.write_synced.new.shelf).honest = search rules in
    let byte : slice_index (g.W.Source.source c.args.world.now).bytes 0 ≡ slice_index from 0 = (c.in_ok-take_byte.ensures.taken told.source_is more).0 in
    subst (λ (b : ℕ). Leaves (g.W.Shelf.shelf c.args.world.now) (g.W.Shelf.shelf c.give_byte.new.world) (StoredWhenSaid (g.W.Shelf.shelf c.args.world.now) c.args.device c.args.at b)) (sym byte)
    (said _ (g.W.Shelf.shelf c.take_byte.new.world) (g.W.Shelf.shelf c.write_synced.new.shelf) _ c.args.device c.args.at from one (g.met.W.Shelf.is_shelf c.args.world.now) same w.continues (w.writes h) (w.written h) (w.clean h) (g.met.W.Shelf.is_shelf c.write_synced.new.shelf) c.give_byte.ensures.shelf (c.give_byte.ensures.longer sink))

pub returns-clause-said : goal.returns-clause-said
returns-clause-said g c told =
    let same = c.take_byte.ensures.shelf in
    let w = c.in_ok-write_synced.ensures in
    let h = same.continues.honest told.shelf_is in
    let from : List ℕ = c.take_byte.new.byte in
    let one : length from ≡ 1 = search rules in
    let more : c.in_ok-take_byte.field-0 ≡ true = search rules in
    let sink : (g.W.Sink.sink c.write_synced.new.shelf).honest = search rules in
    let byte : slice_index (g.W.Source.source c.args.world.now).bytes 0 ≡ slice_index from 0 = (c.in_ok-take_byte.ensures.taken told.source_is more).0 in
    subst (λ (b : ℕ). Leaves (g.W.Shelf.shelf c.args.world.now) (g.W.Shelf.shelf c.give_byte.new.world) (StoredWhenSaid (g.W.Shelf.shelf c.args.world.now) c.args.device c.args.at b)) (sym byte)
    (said _ (g.W.Shelf.shelf c.take_byte.new.world) (g.W.Shelf.shelf c.write_synced.new.shelf) _ c.args.device c.args.at from one (g.met.W.Shelf.is_shelf c.args.world.now) same w.continues (w.writes h) (w.written h) (w.clean h) (g.met.W.Shelf.is_shelf c.write_synced.new.shelf) c.give_byte.ensures.shelf (c.give_byte.ensures.longer sink))

pub returns-clause-stored : goal.returns-clause-stored
returns-clause-stored g c told is_more =
    let same = c.take_byte.ensures.shelf in
    let w = c.in_ok-write_synced.ensures in
    let h = same.continues.honest told.shelf_is in
    let from : List ℕ = c.take_byte.new.byte in
    let one : length from ≡ 1 = search rules in
    let more : c.in_ok-take_byte.field-0 ≡ true = search rules in
    let sink : (g.W.Sink.sink c.write_synced.new.shelf).honest = search rules in
    let taken = c.in_ok-take_byte.ensures.taken told.source_is more in (
      record {
        stands = ap (λ (d : Disk). slice_index d.bytes c.args.at) (c.give_byte.ensures.shelf.disk c.args.device) ∙ first_written c.args.at from _ _ one (w.written h) ∙ sym taken.0;
        clean = ap (λ (d : Disk). d.dirty) (c.give_byte.ensures.shelf.disk c.args.device) ∙ w.clean h;
      },
      c.give_byte.ensures.source.bytes ∙ (g.met.W.World.shelf_keeps_source _ _ c.write_synced.ensures.rest).bytes ∙ taken.1,
      (c.in_ok-give_byte.ensures.given sink).0 ∙ ap (λ (l : List ℕ). length l + 1) ((w.writes h).any_moment.quiet.output ∙ same.output),
    )

pub returns-in_err-write_synced-clause-said : goal.returns-in_err-write_synced-clause-said
returns-in_err-write_synced-clause-said g c told =
    let takes = c.take_byte.ensures.shelf in
    let from : List ℕ = c.take_byte.new.byte in
    let one : length from ≡ 1 = search rules in
    let b = g.W.Shelf.shelf c.take_byte.new.world in
    let after = g.W.Shelf.shelf c.write_synced.new.shelf in
    not_yet (g.W.Shelf.shelf c.args.world.now) b c.args.device c.args.at _ (g.met.W.Shelf.is_shelf c.args.world.now) takes after
    (subst (λ (n : ℕ). WritesOnly (OneRange c.args.device c.args.at n) b after) one (c.write_synced.ensures.writes (takes.continues.honest told.shelf_is)))
