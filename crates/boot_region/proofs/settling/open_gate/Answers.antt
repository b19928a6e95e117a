use Rattle.boot_region.proofs.Prelude.{arith, ◌≡◌, length, false, refl, slice_index, ap, ◌∙◌, is_open, SECTOR_BYTES, reads_closed}
use Rattle.boot_region.proofs.GateCalls.{ran_read, none_behind, ran_behind_read, wrote_open}
use Rattle.boot_region.proofs.settling.open_gate.Goals as goal

pub returns-in_err-read-clause-ran : goal.returns-in_err-read-clause-ran
returns-in_err-read-clause-ran g c =
    ran_read c.args.device refl (g.met.S.Shelf.is_shelf c.args.shelf.now) c.read.ensures.time c.read.ensures.others c.read.ensures.rest c.read.ensures.device

pub returns-then-is_open_gate-clause-ran : goal.returns-then-is_open_gate-clause-ran
returns-then-is_open_gate-clause-ran g c =
    ran_read c.args.device refl (g.met.S.Shelf.is_shelf c.args.shelf.now) c.read.ensures.time c.read.ensures.others c.read.ensures.rest c.read.ensures.device

pub returns-clause-opened : goal.returns-clause-opened
returns-clause-opened g c h =
    wrote_open c.write_synced.result c.args.at c.as_bytes.result.now _ _ (c.as_bytes.ensures.bytes ∙ c.gate_sector-open.ensures) (c.write_synced.ensures.written (c.read.ensures.time.continues.honest h))

pub returns-clause-unlost : goal.returns-clause-unlost
returns-clause-unlost g c = none_behind c.write_synced.result _ _ _ c.read.ensures.counts.write_faults c.write_synced.ensures.counts.write_faults

pub returns-clause-ran : goal.returns-clause-ran
returns-clause-ran g c =
    let a = g.S.Shelf.shelf c.args.shelf.now in
    let size : length c.as_bytes.result.now ≡ SECTOR_BYTES = ap length c.as_bytes.ensures.bytes ∙ c.as_bytes.ensures.len in
    let isn't : slice_index c.read.new.into 0 ≡ 1 → ⊥ = λ is. absurd (cc (c.is_open_gate.ensures.1 is, c.if-is_open_gate.false)) in
    let closed : a.honest → is_open c.args.at (a.disk c.args.device).bytes ≡ false = λ h. reads_closed _ c.read.new.into c.args.at SECTOR_BYTES (c.in_ok-read.ensures.bytes h) (omega arith) isn't in
    ran_behind_read c.args.device c.args.at size (g.met.S.Shelf.is_shelf c.args.shelf.now) g.met.S.Shelf.shelf_rest_stays c.read.ensures.time c.read.ensures.others c.read.ensures.rest c.read.ensures.device
    c.write_synced.ensures.ran (λ h k i w. (w.0, w.1, closed h))
