use Rattle.shelf_init.proofs.Prelude.{◌≡◌, length, refl, ap, ◌∙◌, SECTOR_BYTES, gate_place, WritesOnly, ran_more, OnMembers, slot_in}
use Rattle.shelf_init.proofs.CallLemmas.{on_there, one_drive, wrote_there}
use Rattle.shelf_init.proofs.CloseLemmas.{chosen_open, if_shut}
use Rattle.shelf_init.proofs.closing.close_slot.Goals as goal

pub returns-clause-ran : goal.returns-clause-ran
returns-clause-ran g c =
    let size : length c.as_bytes.result.now ≡ SECTOR_BYTES = ap length c.as_bytes.ensures.bytes ∙ c.as_bytes.ensures.len in
    ran_more (one_drive c.open_in.result)
    (λ d k w. chosen_open c.args.regions.now.bytes.items c.open_in.result (slot_in c.args.slot) (length c.args.regions.now.answered.items) c.open_in.ensures.within c.open_in.ensures.value d k (on_there refl c.gate.ensures size d k w))
    c.write_chosen.ensures.ran

pub returns-clause-shut : goal.returns-clause-shut
returns-clause-shut g c h =
    let s = g.S.Shelf.shelf c.args.shelf.now in
    let t = g.S.Shelf.shelf c.write_chosen.new.shelf in
    let size : length c.as_bytes.result.now ≡ SECTOR_BYTES = ap length c.as_bytes.ensures.bytes ∙ c.as_bytes.ensures.len in
    let w : WritesOnly (OnMembers c.open_in.result (gate_place (slot_in c.args.slot)) SECTOR_BYTES) s t = wrote_there refl c.gate.ensures size (c.write_chosen.ensures.ran.on.writes h) in
    if_shut c.args.regions.now.bytes.items c.open_in.result (slot_in c.args.slot) (length c.args.regions.now.answered.items) c.open_in.ensures.within c.open_in.ensures.value
    c.write_chosen.result s t c.as_bytes.result.now c.gate.result c.requires c.write_chosen.ensures.ran.on.continues (c.as_bytes.ensures.bytes ∙ c.gate_sector-closed.ensures) w c.gate.ensures (c.write_chosen.ensures.written h)
