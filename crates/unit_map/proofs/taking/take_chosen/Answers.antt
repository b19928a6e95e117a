use Rattle.unit_map.proofs.Prelude.{◌≡◌, ◌<◌, ◌+◌, false, length, get_or, set, arith, sym, ◌∙◌, ap, subst, get_or_default, Drive, IsLowestFree, no_drive, drive_at, with_unit_of}
use Rattle.unit_map.proofs.TakingLemmas.{IsTakenUpTo, chosen-within, shard-room, taken-more, taken-all}
use Rattle.unit_map.proofs.taking.take_chosen.Goals as goal

pub loop-slot-preserved : goal.loop-slot-preserved
loop-slot-preserved c =
    let drives = c.loop-slot.drives in
    let slot = c.loop-slot.slot in
    let unit = c.take_lowest-unit.result in
    let inside : slot < length drives = omega arith in
    let is = c.if-not-chosen-slot.false in
    let there : get_or drives slot c.index-drives-slot.result ≡ drive_at drives slot = get_or_default drives slot c.index-drives-slot.result no_drive inside in
    let new : c.take_lowest-unit.new.drive ≡ with_unit_of false unit (drive_at drives slot) = c.take_lowest-unit.ensures.new ∙ ap (with_unit_of false unit) there in
    let lowest : IsLowestFree (drive_at drives slot).free unit = subst (λ (d : Drive). IsLowestFree d.free unit) there c.take_lowest-unit.ensures.lowest in
    subst (λ (d : Drive). IsTakenUpTo c.args.drives.now (set drives slot d) c.args.chosen.now (set c.loop-slot.places c.loop-slot.shard (record { slot = slot; unit = unit })) (slot + 1) (c.loop-slot.shard + 1)) (sym new)
    (taken-more c.args.drives.now drives c.args.chosen.now c.loop-slot.places slot c.loop-slot.shard unit (chosen-within c.args.chosen.now slot is) c.loop-slot-test.true is lowest c.take_lowest-unit.ensures.boot c.loop-slot.invariant)

pub returns : goal.returns
returns c = taken-all c.args.drives.now c.loop-slot.drives c.args.chosen.now c.loop-slot.places c.loop-slot.slot c.loop-slot.shard c.loop-slot-test.false c.requires.nine c.loop-slot.invariant
