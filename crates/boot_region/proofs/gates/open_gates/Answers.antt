use Rattle.boot_region.proofs.Prelude.{rules, ◌≡◌, ◌<◌, ℕ, List, length, ap, ◌∙◌, arith, ◌%◌, Some, drive, SECTOR_BYTES, shown_by, weaker, as_read, slot_in, gate_low, gate_aligned, member_below, shows_written}
use Rattle.boot_region.proofs.Phases.{opens_gates}
use Rattle.boot_region.proofs.Stored.{loses_written}
use Rattle.boot_region.proofs.gates.open_gates.Goals as goal

pub write_members-requires-clause-fits : goal.write_members-requires-clause-fits
write_members-requires-clause-fits g c = omega (arith, c.as_bytes.ensures.len, ap length c.as_bytes.ensures.bytes, c.gate.ensures, gate_low (slot_in c.args.slot), (g.met.S.Shelf.is_shelf c.args.shelf.now).units.0)

pub write_members-requires-clause-aligned : goal.write_members-requires-clause-aligned
write_members-requires-clause-aligned g c =
    (ap (λ (n : ℕ). n % SECTOR_BYTES) c.gate.ensures ∙ gate_aligned (slot_in c.args.slot), ap (λ (l : List ℕ). length l % SECTOR_BYTES) c.as_bytes.ensures.bytes ∙ ap (λ (n : ℕ). n % SECTOR_BYTES) c.as_bytes.ensures.len)

pub returns-clause-ran : goal.returns-clause-ran
returns-clause-ran g c =
    let size : length c.as_bytes.result.now ≡ SECTOR_BYTES = ap length c.as_bytes.ensures.bytes ∙ c.as_bytes.ensures.len in
    rw (c.gate.ensures, size) at c.write_members.ensures.ran

pub returns-clause-members : goal.returns-clause-members
returns-clause-members g c =
    let same : length c.write_members.new.members ≡ length c.args.members.now = search rules in
    loses_written c.args.members.now c.write_members.new.members (g.S.Shelf.shelf c.args.shelf.now) (g.S.Shelf.shelf c.write_members.new.shelf) same c.write_members.ensures.outcome

pub returns-clause-clean : goal.returns-clause-clean
returns-clause-clean g c h i is =
    let same : length c.write_members.new.members ≡ length c.args.members.now = search rules in
    (c.write_members.ensures.outcome i (omega (arith, member_below c.write_members.new.members i is, same))).clean h is

pub returns-clause-any_moment : goal.returns-clause-any_moment
returns-clause-any_moment g c h missing body clean closed written =
    weaker (λ stop left. opens_gates c.args.members.now (g.S.Shelf.shelf c.args.shelf.now) stop missing (slot_in c.args.slot) body (g.met.S.Shelf.is_shelf c.args.shelf.now) h left clean closed written)
    ((returns-clause-ran g c).on.writes h).any_moment

pub returns-clause-shown : goal.returns-clause-shown
returns-clause-shown g c h i is =
    let same : length c.write_members.new.members ≡ length c.args.members.now = search rules in
    let below : i < length c.args.members.now = omega (arith, member_below c.write_members.new.members i is, same) in
    shows_written (slot_in c.args.slot) c.as_bytes.result.now _ _ (c.as_bytes.ensures.bytes ∙ c.gate_sector-open.ensures) (rw c.gate.ensures at ((c.write_members.ensures.outcome i below).written h is))

pub returns-clause-held : goal.returns-clause-held
returns-clause-held g c h missing boot stop sound written may others =
    let new = g.S.Shelf.shelf c.write_members.new.shelf in
    record {
      shown = λ i lt s.
          let is = sound i lt s in
          ap (shown_by (slot_in c.args.slot)) (as_read (new.disk (drive i)) (stop.image (drive i)) (returns-clause-clean g c h i is) (may.device (drive i)))
          ∙ returns-clause-shown g c h i is ∙ ap (λ (x : List ℕ). Some x) (written i ((returns-clause-members g c).fewer i is) s);
      few = others;
    }
