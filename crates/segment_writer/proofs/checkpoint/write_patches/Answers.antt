use Rattle.segment_writer.proofs.Prelude.{◌≡◌, ℕ, arith, Some, slice_get, Patch, continues_trans, weaker, ran_then, loses_then, facts_of_tag}
use Rattle.patch_io.proofs.Parts.{places_of}
use Rattle.segment_writer.proofs.PatchLayout.{headed_later, synced_kept}
use Rattle.segment_writer.proofs.Synced.{clean_again}
use Rattle.segment_writer.proofs.CheckpointAppended.{still_open}
use Rattle.segment_writer.proofs.CheckpointDrives.{slot_below, synced_on, on_all, others_but}
use Rattle.segment_writer.proofs.CheckpointInTurn.{in_turn, more_lost}
use Rattle.segment_writer.proofs.checkpoint.write_patches.Goals as goal

pub drives_of_patches-drives-requires-clause-slots : goal.drives_of_patches-drives-requires-clause-slots
drives_of_patches-drives-requires-clause-slots g c index part shard p at within lt =
    let a = g.S.Shelf.shelf c.args.shelf.now in
    omega (arith, ((places_of a p part (c.requires.patches.stored index p at).lawful within).each shard lt).slot, (g.met.S.Shelf.is_shelf c.args.shelf.now).drives.1)

pub sync_drives-requires : goal.sync_drives-requires
sync_drives-requires g c slot is =
    let a = g.S.Shelf.shelf c.args.shelf.now in
    omega (arith, slot_below a c.args.plan.now c.args.patches.now slot c.requires.patches (c.drives_of_patches-drives.ensures.no_other slot is), c.append_patches.ensures.ran.on.continues.drives)

pub write_headers-requires-clause-headed : goal.write_headers-requires-clause-headed
write_headers-requires-clause-headed g c i p at =
    headed_later (g.S.Shelf.shelf c.args.shelf.now) (g.S.Shelf.shelf c.sync_drives.new.shelf) p (continues_trans c.append_patches.ensures.ran.on.continues c.sync_drives.ensures.ran.on.continues) (c.requires.patches.headed i p at)

pub write_headers-requires-clause-lists : goal.write_headers-requires-clause-lists
write_headers-requires-clause-lists g c = record {
  count = c.append_patches.ensures.lists.count;
  each = λ i p list at got. still_open p c.append_patches.new.lost.drives c.sync_drives.new.lost.drives list.items c.sync_drives.ensures.lost.stays (c.append_patches.ensures.lists.each i p list at got);
}

pub sync_drives-requires-2 : goal.sync_drives-requires-2
sync_drives-requires-2 g c slot is =
    let a = g.S.Shelf.shelf c.args.shelf.now in
    omega (arith, slot_below a c.args.plan.now c.args.patches.now slot c.requires.patches (c.drives_of_patches-drives.ensures.no_other slot is), c.append_patches.ensures.ran.on.continues.drives, c.sync_drives.ensures.ran.on.continues.drives, c.write_headers.ensures.ran.on.continues.drives)

pub returns-clause-ran : goal.returns-clause-ran
returns-clause-ran g c =
    let ps = c.args.patches.now in
    let only = c.drives_of_patches-drives.ensures.no_other in
    let drives = c.drives_of_patches-drives.result in
    let stays = g.met.S.Shelf.shelf_rest_stays in
    ran_then stays (ran_then stays (on_all ps 1 15 (omega arith) c.append_patches.ensures.ran) (synced_on ps 0 16 drives only c.sync_drives.ensures.ran))
    (ran_then stays (on_all ps 0 1 (omega arith) c.write_headers.ensures.ran) (synced_on ps 0 16 drives only c.sync_drives-2.ensures.ran))

pub returns-clause-lost : goal.returns-clause-lost
returns-clause-lost g c =
    let x = c.append_patches.ensures in
    let y = c.sync_drives.ensures in
    let z = c.write_headers.ensures in
    let w = c.sync_drives-2.ensures in
    let first = loses_then _ _ _ _ _ _ (g.met.S.Shelf.is_shelf c.sync_drives.new.shelf) x.ran.on.continues y.ran.on.continues x.lost y.lost in
    let second = loses_then _ _ _ _ _ _ (g.met.S.Shelf.is_shelf c.sync_drives-2.new.shelf) z.ran.on.continues w.ran.on.continues z.lost w.lost in
    loses_then _ _ _ _ _ _ (g.met.S.Shelf.is_shelf c.sync_drives-2.new.shelf) (continues_trans x.ran.on.continues y.ran.on.continues) (continues_trans z.ran.on.continues w.ran.on.continues) first second

pub returns-clause-stand : goal.returns-clause-stand
returns-clause-stand g c h i p at =
    let facts = facts_of_tag c.args.plan.now p.tag in
    let y = c.sync_drives.ensures in
    let z = c.write_headers.ensures in
    let w = c.sync_drives-2.ensures in
    let at_b = c.append_patches.ensures.ran.on.continues.honest h in
    let at_m = y.ran.on.continues.honest at_b in
    let second = synced_kept _ _ p _ _ facts y.lost (y.bytes at_b) (c.append_patches.ensures.stand h i p at) in
    synced_kept _ _ p _ _ facts w.lost (w.bytes (z.ran.on.continues.honest at_m)) (z.kept at_m i p facts at second)

pub returns-clause-in_turn : goal.returns-clause-in_turn
returns-clause-in_turn g c h =
    let a = g.S.Shelf.shelf c.args.shelf.now in
    let m = g.S.Shelf.shelf c.sync_drives.new.shelf in
    let plan = c.args.plan.now in
    let ps = c.args.patches.now in
    let only = c.drives_of_patches-drives.ensures.no_other in
    let drives = c.drives_of_patches-drives.result in
    let stays = g.met.S.Shelf.shelf_rest_stays in
    let was = c.sync_drives.new.lost.drives in
    let x = c.append_patches.ensures in
    let y = c.sync_drives.ensures in
    let z = c.write_headers.ensures in
    let w = c.sync_drives-2.ensures in
    let at_b = x.ran.on.continues.honest h in
    let holds = (λ (i : ℕ) (p : Patch) (at : slice_get ps i ≡ Some p). synced_kept _ m p _ was (facts_of_tag plan p.tag) y.lost (y.bytes at_b) (x.stand h i p at)) in
    let first = ran_then stays x.ran (synced_on ps 1 15 drives only y.ran) in
    let last = ran_then stays z.ran (synced_on ps 0 1 drives only w.ran) in
    weaker (λ stop turn. more_lost a plan ps was c.sync_drives-2.new.lost.drives stop (λ slot is. w.lost.stays slot (z.lost.stays slot is)) turn)
    (in_turn a plan ps c.requires.patches m _ drives was c.drives_of_patches-drives.ensures.each (y.clean at_b) holds first.on.continues (first.on.writes h) (last.on.writes (y.ran.on.continues.honest at_b)))

pub returns-clause-clean : goal.returns-clause-clean
returns-clause-clean g c h =
    let a = g.S.Shelf.shelf c.args.shelf.now in
    let e = g.S.Shelf.shelf c.sync_drives-2.new.shelf in
    let drives = c.drives_of_patches-drives.result in
    let at_d = c.write_headers.ensures.ran.on.continues.honest (c.sync_drives.ensures.ran.on.continues.honest (c.append_patches.ensures.ran.on.continues.honest h)) in
    clean_again a e drives c.sync_drives-2.new.lost.drives (others_but a e c.args.patches.now drives c.drives_of_patches-drives.ensures.each (returns-clause-ran g c).on.others) (c.sync_drives-2.ensures.clean at_d)
