use Rattle.boot_region.proofs.Prelude.{rules, ◌≡◌, length, arith, ◌∙◌, below_more, slice_index_or, false, drive, drives_apart, ran_then, ran_more, IsRead, AnswerCounts}
use Rattle.boot_region.proofs.ReadingLemmas.{stays_read, first_read, counts_stay, first_counts, only_drive}
use Rattle.boot_region.proofs.reading.read_regions.Goals as goal

pub loop-drive-preserved : goal.loop-drive-preserved
loop-drive-preserved g c =
    let inv = c.loop-drive.invariant in
    let x = c.read_region in
    let slot = c.loop-drive.drive in
    let a = g.S.Shelf.shelf c.args.shelf.now in
    let b = g.S.Shelf.shelf c.loop-drive.shelf in
    let n = g.S.Shelf.shelf x.new.shelf in
    record {
      ran = ran_then g.met.S.Shelf.shelf_rest_stays inv.ran (ran_more (only_drive slot) (λ d i w. w) x.ensures.ran);
      drives = x.ensures.drives ∙ inv.drives;
      same = λ h device.
          let was = inv.same h device in
          let is = x.ensures.same (inv.ran.on.continues.honest h) device in
          record { bytes = is.bytes ∙ was.bytes; dirty = is.dirty ∙ was.dirty };
      looks = λ device. x.ensures.looks device ∙ inv.looks device;
      passed = λ h. below_more (λ i. IsRead a n x.new.regions.bytes.items x.new.regions.answered.items i) slot
          (λ i lt. stays_read a b n c.loop-drive.regions.bytes.items x.new.regions.bytes.items c.loop-drive.regions.answered.items x.new.regions.answered.items i
          (inv.passed h i lt) (x.ensures.kept i (omega (arith, lt))) (x.ensures.ran.on.others (drive i) (drives_apart i slot (omega (arith, lt)))))
          (first_read a b n x.new.regions.bytes.items x.new.regions.answered.items slot (x.ensures.read (inv.ran.on.continues.honest h)) (inv.ahead slot (omega arith)));
      counts = below_more (λ i. AnswerCounts (slice_index_or x.new.regions.answered.items i false) (a.disk (drive i)) (n.disk (drive i))) slot
          (λ i lt. counts_stay _ _ (a.disk (drive i)) (b.disk (drive i)) (n.disk (drive i)) (inv.counts i lt) (x.ensures.answers_kept i (omega (arith, lt))) (x.ensures.ran.on.others (drive i) (drives_apart i slot (omega (arith, lt)))))
          (first_counts _ (a.disk (drive slot)) (b.disk (drive slot)) (n.disk (drive slot)) x.ensures.counts (inv.ahead slot (omega arith)));
      ahead = λ i le. x.ensures.ran.on.others (drive i) (drives_apart i slot (omega (arith, le))) ∙ inv.ahead i (omega (arith, le));
    }

pub returns-clause-read : goal.returns-clause-read
returns-clause-read g c h i lt =
    let drives : c.len-drive-end.result ≡ length c.args.regions.now.answered.items = search rules in
    c.loop-drive.invariant.passed h i (omega (arith, lt, drives, c.requires, c.loop-drive-test.false))

pub returns-clause-counts : goal.returns-clause-counts
returns-clause-counts g c i lt =
    let drives : c.len-drive-end.result ≡ length c.args.regions.now.answered.items = search rules in
    c.loop-drive.invariant.counts i (omega (arith, lt, drives, c.requires, c.loop-drive-test.false))
