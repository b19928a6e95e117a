use Rattle.segment_writer.proofs.Prelude.{arith, continues_trans, weaker, ran_then, place_of, bytes_of, loses_then, units_of}
use Rattle.segment_writer.proofs.Headers.{all_kept}
use Rattle.segment_writer.proofs.Synced.{synced_kept, headers_kept, on_all, synced_on, others_but, clean_again}
use Rattle.segment_writer.proofs.InTurn.{in_turn, more_lost}
use Rattle.segment_writer.proofs.whole.write_all.Goals as goal

-- ---- no memory

-- ---- what each step asks

-- ---- all was written

pub returns-clause-ran : goal.returns-clause-ran
returns-clause-ran g c =
    let l = g.N.Headed.layout c.args.new.now in
    let of = c.drives_of-drives.ensures in
    let drives = c.drives_of-drives.result in
    let stays = g.met.S.Shelf.shelf_rest_stays in
    ran_then stays (ran_then stays (on_all l 1 15 (omega arith) c.append_all.ensures.ran) (synced_on l 0 16 drives of c.sync_drives.ensures.ran))
    (ran_then stays (on_all l 0 1 (omega arith) c.write_all_headers.ensures.ran) (synced_on l 0 16 drives of c.sync_drives-2.ensures.ran))

pub returns-clause-lost : goal.returns-clause-lost
returns-clause-lost g c =
    let x = c.append_all.ensures in
    let y = c.sync_drives.ensures in
    let z = c.write_all_headers.ensures in
    let w = c.sync_drives-2.ensures in
    let at_m = continues_trans x.ran.on.continues y.ran.on.continues in
    let first = loses_then _ _ _ _ _ _ (g.met.S.Shelf.is_shelf c.sync_drives.new.shelf) x.ran.on.continues y.ran.on.continues x.lost y.lost in
    let second = loses_then _ _ _ _ _ _ (g.met.S.Shelf.is_shelf c.write_all_headers.new.shelf) at_m z.ran.on.continues first z.lost in
    loses_then _ _ _ _ _ _ (g.met.S.Shelf.is_shelf c.sync_drives-2.new.shelf) (continues_trans at_m z.ran.on.continues) w.ran.on.continues second w.lost

pub returns-clause-written : goal.returns-clause-written
returns-clause-written g c h =
    let m = g.S.Shelf.shelf c.sync_drives.new.shelf in
    let d = g.S.Shelf.shelf c.write_all_headers.new.shelf in
    let l = g.N.Headed.layout c.args.new.now in
    let stripes = g.N.Filled.stripe_count c.args.new.now in
    let holds = g.N.Filled.holds c.args.new.now in
    let some = c.requires.have_stripes in
    let z = c.write_all_headers.ensures in
    let w = c.sync_drives-2.ensures in
    let at_b = c.append_all.ensures.ran.on.continues.honest h in
    let at_m = c.sync_drives.ensures.ran.on.continues.honest at_b in
    let at_d = z.ran.on.continues.honest at_m in
    let second = synced_kept _ m l _ _ stripes holds some c.sync_drives.ensures.lost (c.sync_drives.ensures.bytes at_b) (c.append_all.ensures.stand h) in
    let third = all_kept (bytes_of m) (bytes_of d) l c.sync_drives.new.lost.drives c.write_all_headers.new.lost.drives stripes holds some (z.kept at_m) second in
    record {
      holds = synced_kept d _ l _ _ stripes holds some w.lost (w.bytes at_d) third;
      headers = headers_kept d _ l _ _ w.lost (w.bytes at_d) (z.headers at_m);
      synced = λ number shard within lt none. w.clean at_d (place_of (units_of l number) shard).slot (c.drives_of-drives.ensures.each number shard within lt) none;
    }

pub returns-clause-clean : goal.returns-clause-clean
returns-clause-clean g c h =
    let a = g.S.Shelf.shelf c.args.shelf.now in
    let e = g.S.Shelf.shelf c.sync_drives-2.new.shelf in
    let drives = c.drives_of-drives.result in
    let at_d = c.write_all_headers.ensures.ran.on.continues.honest (c.sync_drives.ensures.ran.on.continues.honest (c.append_all.ensures.ran.on.continues.honest h)) in
    clean_again a e drives c.sync_drives-2.new.lost.drives (others_but a e (g.N.Headed.layout c.args.new.now) drives c.drives_of-drives.ensures (returns-clause-ran g c).on.others) (c.sync_drives-2.ensures.clean at_d)

pub returns-clause-in_turn : goal.returns-clause-in_turn
returns-clause-in_turn g c h =
    let a = g.S.Shelf.shelf c.args.shelf.now in
    let m = g.S.Shelf.shelf c.sync_drives.new.shelf in
    let l = g.N.Headed.layout c.args.new.now in
    let of = c.drives_of-drives.ensures in
    let drives = c.drives_of-drives.result in
    let stays = g.met.S.Shelf.shelf_rest_stays in
    let stripes = g.N.Filled.stripe_count c.args.new.now in
    let holds = g.N.Filled.holds c.args.new.now in
    let some = c.requires.have_stripes in
    let was = c.sync_drives.new.lost.drives in
    let x = c.append_all.ensures in
    let y = c.sync_drives.ensures in
    let z = c.write_all_headers.ensures in
    let w = c.sync_drives-2.ensures in
    let at_b = x.ran.on.continues.honest h in
    let second = synced_kept _ m l _ _ stripes holds some y.lost (y.bytes at_b) (x.stand h) in
    let first = ran_then stays x.ran (synced_on l 1 15 drives of y.ran) in
    let last = ran_then stays z.ran (synced_on l 0 1 drives of w.ran) in
    weaker (λ stop turn. more_lost a l was c.sync_drives-2.new.lost.drives stripes holds some stop (λ slot is. w.lost.stays slot (z.lost.stays slot is)) turn)
    (in_turn a m _ l drives was stripes holds some c.requires.headed of (y.clean at_b) second first.on.continues (first.on.writes h) (last.on.writes (y.ran.on.continues.honest at_b)))
