use Rattle.nvram_log.proofs.Prelude.{◌≤◌, ℕ, List, length, refl, ap, ◌∙◌, arith, nvram, ran_write, slot_at, slot_place, SpellsAs}
use Rattle.nvram_log.proofs.Along.{front_written}
use Rattle.nvram_log.specs.lemmas.Heads.{spells_front}
use Rattle.nvram_log.proofs.Mended.{where_written}
use Rattle.nvram_log.proofs.mending.write_record.Goals as goal

pub returns-clause-ran : goal.returns-clause-ran
returns-clause-ran g c =
    let logged = c.args.logged.now in
    let long : length c.deref.result.now ≤ 33280 = omega (arith, logged.fits, ap (length {A = ℕ}) c.deref.ensures.value) in
    ran_write (nvram c.args.device.0) refl (g.met.S.Shelf.is_shelf c.args.shelf.now) c.write.ensures.time c.write.ensures.others c.write.ensures.rest c.write.ensures.device (λ i is. (refl, (is.0, omega (arith, is.1, long))))

pub returns-clause-written : goal.returns-clause-written
returns-clause-written g c h =
    let device = nvram c.args.device.0 in
    let logged = c.args.logged.now in
    let body : List ℕ = c.deref.result.now in
    let a : List ℕ = ((g.S.Shelf.shelf c.args.shelf.now).disk device).bytes in
    let b : List ℕ = ((g.S.Shelf.shelf c.write.new.self).disk device).bytes in
    let long : length body ≤ 33280 = omega (arith, logged.fits, ap (length {A = ℕ}) c.deref.ensures.value) in
    where_written (SpellsAs (slot_at c.args.slot b) logged) c.write.result (slot_place c.args.slot) body a b (c.write.ensures.device h).bytes
    (λ written number d lawful read. spells_front (slot_at c.args.slot b) (length body) number d lawful (front_written c.args.slot body a b long written ∙ c.deref.ensures.value ∙ read.text))
