use Rattle.nvram_log.proofs.Prelude.{◌≡◌, ◌∷◌, [], List, ℕ, length, slice_index, refl, arith, nvram, ran_write}
use Rattle.nvram_log.proofs.Mended.{gate_is, where_written}
use Rattle.nvram_log.proofs.mending.write_gate.Goals as goal

pub returns-clause-ran : goal.returns-clause-ran
returns-clause-ran g c =
    ran_write (nvram c.args.device.0) refl (g.met.S.Shelf.is_shelf c.args.shelf.now) c.write.ensures.time c.write.ensures.others c.write.ensures.rest c.write.ensures.device (λ i is. (refl, is))

pub returns-clause-written : goal.returns-clause-written
returns-clause-written g c h =
    let device = nvram c.args.device.0 in
    let a : List ℕ = ((g.S.Shelf.shelf c.args.shelf.now).disk device).bytes in
    let b : List ℕ = ((g.S.Shelf.shelf c.write.new.self).disk device).bytes in
    let size : length a ≡ 2134016 = (g.met.S.Shelf.is_shelf c.args.shelf.now).sizes h device c.requires.device in
    where_written (slice_index b c.args.slot ≡ c.args.gate) c.write.result c.args.slot (c.args.gate ∷ []) a b (c.write.ensures.device h).bytes
    (λ written. gate_is c.args.slot c.args.gate a b written (omega (arith, size, c.requires.slot)))
