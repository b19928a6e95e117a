use Rattle.boot_region.proofs.Prelude.{rules, ◌≡◌, ◌*◌, length, arith, get_or-set_other, false, refl, drive, REGION_BYTES}
use Rattle.boot_region.proofs.GateCalls.{ran_read}
use Rattle.boot_region.proofs.ReadingLemmas.{others_are_kept, is_read, lent_size, counts_of}
use Rattle.boot_region.proofs.reading.read_region.Goals as goal

pub returns-clause-read : goal.returns-clause-read
returns-clause-read g c honest =
    let held : c.args.regions.now.bytes.len ≡ length c.args.regions.now.bytes.items = search rules in
    let whole : length c.args.regions.now.bytes.items ≡ REGION_BYTES * length c.args.regions.now.answered.items = search rules in
    let part : length c.read-answer.new.into ≡ REGION_BYTES = search rules in
    is_read c.read-answer.result (g.S.Shelf.shelf c.args.shelf.now) (g.S.Shelf.shelf c.read-answer.new.self) c.args.regions.now.bytes.items c.deref_mut.result.now c.read-answer.new.into c.args.regions.now.answered.items _ _ _ c.args.index _ c.is_ok.result
    c.deref_mut.ensures.value held (omega arith) (omega arith) (omega (arith, whole, c.requires.drive_in)) part c.requires.drive_in c.is_ok.ensures.value honest (lent_size c.args.regions.now.bytes.items c.deref_mut.result.now _ _ c.args.index c.deref_mut.ensures.value (omega arith) (omega arith) (omega (arith, whole, c.requires.drive_in))) c.read-answer.ensures.bytes c.read-answer.ensures.counts.faults

pub returns-clause-kept : goal.returns-clause-kept
returns-clause-kept g c i other =
    let held : c.args.regions.now.bytes.len ≡ length c.args.regions.now.bytes.items = search rules in
    let whole : length c.args.regions.now.bytes.items ≡ REGION_BYTES * length c.args.regions.now.answered.items = search rules in
    let part : length c.read-answer.new.into ≡ REGION_BYTES = search rules in
    others_are_kept c.args.regions.now.bytes.items c.deref_mut.result.now c.read-answer.new.into c.args.regions.now.answered.items _ _ _ c.args.index i c.is_ok.result
    c.deref_mut.ensures.value held (omega arith) (omega arith) (omega (arith, whole, c.requires.drive_in)) part other

pub returns-clause-ran : goal.returns-clause-ran
returns-clause-ran g c =
    ran_read (drive c.args.index) refl (g.met.S.Shelf.is_shelf c.args.shelf.now) c.read-answer.ensures.time c.read-answer.ensures.others c.read-answer.ensures.rest c.read-answer.ensures.device

pub returns-clause-counts : goal.returns-clause-counts
returns-clause-counts g c =
    counts_of c.read-answer.result c.args.regions.now.answered.items c.args.index c.is_ok.result _ _ c.requires.drive_in c.is_ok.ensures.value c.read-answer.ensures.counts

pub returns-clause-answers_kept : goal.returns-clause-answers_kept
returns-clause-answers_kept g c i other = get_or-set_other c.args.regions.now.answered.items c.args.index i c.is_ok.result false other
