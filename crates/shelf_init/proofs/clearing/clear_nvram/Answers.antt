use Rattle.shelf_init.proofs.Prelude.{◌≡◌, ℕ, refl, arith, sym, ap, ◌∙◌, subst, false, inl, inr, cases_eq, ran_then, ran_more, Disk, nvram, is_open}
use Rattle.shelf_init.proofs.CallLemmas.{one_ok, one_clean, none_then, nvrams_apart, only_nvram, on_log_gates}
use Rattle.shelf_init.proofs.CloseLemmas.{log_gate}
use Rattle.shelf_init.proofs.clearing.clear_nvram.Goals as goal

pub returns-in_err-write_synced-clause-ran : goal.returns-in_err-write_synced-clause-ran
returns-in_err-write_synced-clause-ran g c =
    ran_then g.met.S.Shelf.shelf_rest_stays c.loop-device.invariant.ran (ran_more (only_nvram c.loop-device.device) (on_log_gates c.loop-device.device _ refl) c.write_synced.ensures.ran)

pub loop-device-preserved : goal.loop-device-preserved
loop-device-preserved g c =
    let inv = c.loop-device.invariant in
    let at = c.loop-device.device in
    let a = g.S.Shelf.shelf c.args.shelf.now in
    let b = g.S.Shelf.shelf c.loop-device.shelf in
    let n = g.S.Shelf.shelf c.write_synced.new.shelf in
    let x = c.write_synced.ensures in
    let y = c.in_ok-write_synced.ensures in
    record {
      ran = ran_then g.met.S.Shelf.shelf_rest_stays inv.ran (ran_more (only_nvram at) (on_log_gates at _ refl) x.ran);
      cleared = λ h m i lt below. elim (cases_eq m at) [
        | inl here ↦ subst (λ (k : ℕ). is_open i (n.disk (nvram k)).bytes ≡ false) (sym here) (log_gate _ (b.disk (nvram at)).bytes (n.disk (nvram at)).bytes i refl (y.written (inv.ran.on.continues.honest h)) below)
        | inr ne ↦ ap (λ (d : Disk). is_open i d.bytes) (x.ran.on.others (nvram m) (nvrams_apart m at ne)) ∙ inv.cleared h m i (omega (arith, lt, ne)) below
      ];
      clean = λ h was. one_clean b n (nvram at) x.ran.on.others (y.clean (inv.ran.on.continues.honest h)) (inv.clean h was);
      counts = none_then a b n inv.ran.on.continues inv.counts (one_ok b n (nvram at) x.ran.on.others (record { faults = y.counts.faults; write_faults = y.counts.write_faults }));
    }
