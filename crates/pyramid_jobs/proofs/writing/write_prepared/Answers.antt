use Rattle.pyramid_jobs.proofs.Prelude.{facts, ran_more, held_after}
use Rattle.array_checkpoint.proofs.FreeUnits.{patches_on_drives, patches_unused}
use Rattle.array_checkpoint.proofs.Left.{still_held}
use Rattle.array_checkpoint.proofs.Wrote.{has_written}
use Rattle.pyramid_jobs.proofs.Merged.{holds_merged, may_be_written, taken}
use Rattle.pyramid_jobs.proofs.writing.write_prepared.Goals as goal

pub write_merged-requires : goal.write_merged-requires
write_merged-requires g c = may_be_written (g.S.Shelf.shelf c.args.shelf.now) c.args.array.now c.requires.prepared.0 c.args.prepared.now c.requires.is_of c.requires.prepared.1

pub returns-in_err-write_merged-clause-ran : goal.returns-in_err-write_merged-clause-ran
returns-in_err-write_merged-clause-ran g c =
    let q = c.args.prepared.now in
    ran_more (patches_on_drives q.added) (patches_unused c.args.array.now q.added (taken (g.S.Shelf.shelf c.args.shelf.now) c.args.array.now c.requires.prepared.0 q c.requires.is_of c.requires.prepared.1)) c.write_merged.ensures.ran

pub returns-clause-ran : goal.returns-clause-ran
returns-clause-ran g c =
    let q = c.args.prepared.now in
    ran_more (patches_on_drives q.added) (patches_unused c.args.array.now q.added (taken (g.S.Shelf.shelf c.args.shelf.now) c.args.array.now c.requires.prepared.0 q c.requires.is_of c.requires.prepared.1)) c.write_merged.ensures.ran

pub returns-clause-wrote : goal.returns-clause-wrote
returns-clause-wrote g c i prepared =
    let a = g.S.Shelf.shelf c.args.shelf.now in
    let b = g.S.Shelf.shelf c.write_merged.new.shelf in
    let x = c.args.array.now in
    let q = c.args.prepared.now in
    let lost = c.write_merged.new.lost.drives in
    let of = c.requires.is_of in
    let run = (returns-clause-ran g c).on in
    let is = g.met.S.Shelf.is_shelf c.args.shelf.now in
    has_written a b x is of run lost c.write_merged.ensures.lost c.in_ok-write_merged.ensures.clean q.tables (held_after x.memory.memory i q) (λ contents. contents) (facts x.memory.memory.tables)
    (λ h. holds_merged a x i q of prepared b is (g.met.S.Shelf.is_shelf c.write_merged.new.shelf) run lost h (c.in_ok-write_merged.ensures.stand h))
    (λ h contents hold left fewer members among enough. still_held a b x of run lost left fewer members among enough h contents hold)
