use Rattle.boot_region.proofs.Prelude.{rules, arith, ◌≡◌, ◌<◌, length, ℕ, true, refl, is_ok, slice_index, ◌∙◌, subst, ap, SECTOR_BYTES, WritesOnly, OneRange, weaker, read_writes}
use Rattle.boot_region.proofs.GateCalls.{ran_read, ran_behind_read, left_more, not_shut, not_shut_on, closing_moments, none_behind, wrote_closed}
use Rattle.boot_region.proofs.gates.close_gate.Goals as goal
use Rattle.boot_region.proofs.gates.close_gate.Goals.{else-is_ok-via-then-is_ok+else-not-is_open_gate, else-is_ok-via-else-is_ok}

some : 0 < SECTOR_BYTES
some = omega arith

pub returns-then-not-is_open_gate-clause-ran : goal.returns-then-not-is_open_gate-clause-ran
returns-then-not-is_open_gate-clause-ran g c =
    ran_read c.args.device refl (g.met.S.Shelf.is_shelf c.args.shelf.now) c.read-answer.ensures.time c.read-answer.ensures.others c.read-answer.ensures.rest c.read-answer.ensures.device

pub returns-then-not-is_open_gate-clause-any_moment : goal.returns-then-not-is_open_gate-clause-any_moment
returns-then-not-is_open_gate-clause-any_moment g c h =
    let none : WritesOnly (λ d i. ⊥) (g.S.Shelf.shelf c.args.shelf.now) (g.S.Shelf.shelf c.read-answer.new.self) = read_writes (λ d i. ⊥) c.args.device (g.met.S.Shelf.is_shelf c.args.shelf.now) c.read-answer.ensures.time c.read-answer.ensures.others (c.read-answer.ensures.device h) in
    weaker (λ stop left. left_more (λ d i none. absurd none) left) none.any_moment

pub returns-clause-closed : goal.returns-clause-closed
returns-clause-closed g c h =
    wrote_closed c.write_synced.result c.args.at c.as_bytes.result.now _ _ (c.as_bytes.ensures.bytes ∙ c.gate_sector-closed.ensures) (c.write_synced.ensures.written (c.read-answer.ensures.time.continues.honest h))

pub returns-clause-ran : goal.returns-clause-ran
returns-clause-ran g c =
    let opens : is_ok c.read-answer.result ≡ true → slice_index c.read-answer.new.into 0 ≡ 1 = λ ok. elim c.else-is_ok.branch [
      | else-is_ok-via-then-is_ok+else-not-is_open_gate w ↦ search rules
      | else-is_ok-via-else-is_ok w ↦ absurd (cc (ok, w.if-is_ok.false, c.is_ok.ensures.value))
    ] in
    let size : length c.as_bytes.result.now ≡ SECTOR_BYTES = omega (arith, c.as_bytes.ensures.len, ap length c.as_bytes.ensures.bytes) in
    ran_behind_read c.args.device c.args.at size (g.met.S.Shelf.is_shelf c.args.shelf.now) g.met.S.Shelf.shelf_rest_stays c.read-answer.ensures.time c.read-answer.ensures.others c.read-answer.ensures.rest c.read-answer.ensures.device
    c.write_synced.ensures.ran
    (λ h k i w. (
      w.0,
      w.1,
      not_shut_on c.args.at _ _ _ _ (c.write_synced.ensures.ran.on.continues.faults c.args.device)
          (not_shut c.read-answer.result c.args.at SECTOR_BYTES c.read-answer.new.into _ _ c.read-answer.ensures.counts some h c.read-answer.ensures.bytes opens),
    ))

pub returns-clause-any_moment : goal.returns-clause-any_moment
returns-clause-any_moment g c h =
    let a = g.S.Shelf.shelf c.args.shelf.now in
    let b = g.S.Shelf.shelf c.read-answer.new.self in
    let d = g.S.Shelf.shelf c.write_synced.new.shelf in
    let on = c.read-answer.ensures.time.continues in
    let opens : is_ok c.read-answer.result ≡ true → slice_index c.read-answer.new.into 0 ≡ 1 = λ ok. elim c.else-is_ok.branch [
      | else-is_ok-via-then-is_ok+else-not-is_open_gate w ↦ search rules
      | else-is_ok-via-else-is_ok w ↦ absurd (cc (ok, w.if-is_ok.false, c.is_ok.ensures.value))
    ] in
    let none : WritesOnly (λ k i. ⊥) a b = read_writes (λ k i. ⊥) c.args.device (g.met.S.Shelf.is_shelf c.args.shelf.now) c.read-answer.ensures.time c.read-answer.ensures.others (c.read-answer.ensures.device h) in
    let size : length c.as_bytes.result.now ≡ SECTOR_BYTES = omega (arith, c.as_bytes.ensures.len, ap length c.as_bytes.ensures.bytes) in
    let wrote : WritesOnly (OneRange c.args.device c.args.at SECTOR_BYTES) b d = subst (λ (n : ℕ). WritesOnly (OneRange c.args.device c.args.at n) b d) size (c.write_synced.ensures.ran.on.writes (on.honest h)) in
    closing_moments c.args.device c.args.at a b d on none
    (not_shut c.read-answer.result c.args.at SECTOR_BYTES c.read-answer.new.into _ _ c.read-answer.ensures.counts some h c.read-answer.ensures.bytes opens)
    c.write_synced.ensures.ran.on.continues wrote

pub returns-then-not-is_open_gate-clause-unlost : goal.returns-then-not-is_open_gate-clause-unlost
returns-then-not-is_open_gate-clause-unlost g c = c.read-answer.ensures.counts.write_faults

pub returns-clause-unlost : goal.returns-clause-unlost
returns-clause-unlost g c = none_behind c.write_synced.result _ _ _ c.read-answer.ensures.counts.write_faults c.write_synced.ensures.counts.write_faults
