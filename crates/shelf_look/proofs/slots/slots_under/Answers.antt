use Rattle.shelf_look.proofs.Prelude.{◌∙◌, ◌<◌, length-set, ℕ, List, slice_index_or, slice_set, get_or-set_same, get_or-set_other, sym, subst, refl, arith, below_more, false, nvram, ran_none, ran_then, IsShownAt}
use Rattle.segment_io.proofs.Gathers.{same_then}
use Rattle.shelf_look.proofs.Heads.{gate_read}
use Rattle.shelf_look.proofs.slots.slots_under.Goals as goal

pub loop-slot-init : goal.loop-slot-init
loop-slot-init g c = record {
  size = refl;
  ran = ran_none g.met.S.Shelf.shelf_rest_stays c.args.shelf.now (g.met.S.Shelf.is_shelf c.args.shelf.now);
  same = λ h d. record { bytes = refl; dirty = refl };
  done = λ h are k lt. absurd (omega (arith, lt));
}

pub loop-slot-preserved : goal.loop-slot-preserved
loop-slot-preserved g c =
    let inv = c.loop-slot.invariant in
    let a = g.S.Shelf.shelf c.args.shelf.now in
    let d = nvram c.args.device.0 in
    let slot = c.loop-slot.slot in
    let lt : slot < 64 = omega (arith, c.loop-slot-test.true) in
    record {
      size = length-set c.loop-slot.shown slot c.in_ok-shown.field-0 ∙ inv.size;
      ran = ran_then g.met.S.Shelf.shelf_rest_stays inv.ran c.shows.ensures.ran;
      same = λ h k. same_then (inv.same h k) (c.shows.ensures.same (inv.ran.on.continues.honest h) k);
      done = λ h are.
          let now = inv.same h d in
          below_more (λ k. IsShownAt (a.disk d).bytes c.args.flushed k (slice_index_or (slice_set c.loop-slot.shown slot c.in_ok-shown.field-0) k false)) slot
          (λ k under. subst (IsShownAt (a.disk d).bytes c.args.flushed k) (sym (get_or-set_other c.loop-slot.shown slot k c.in_ok-shown.field-0 false (λ e. omega (arith, e, under)))) (inv.done h are k under))
          (subst (IsShownAt (a.disk d).bytes c.args.flushed slot) (sym (get_or-set_same c.loop-slot.shown slot c.in_ok-shown.field-0 false (omega (arith, lt, inv.size))))
          (subst (λ (l : List ℕ). IsShownAt l c.args.flushed slot c.in_ok-shown.field-0) now.bytes
          (c.in_ok-shown.ensures.shown (inv.ran.on.continues.honest h) (gate_read (a.disk d).bytes _ c.args.gates.now slot lt are now.bytes))));
    }

pub returns-in_err-shown-clause-ran : goal.returns-in_err-shown-clause-ran
returns-in_err-shown-clause-ran g c = ran_then g.met.S.Shelf.shelf_rest_stays c.loop-slot.invariant.ran c.shows.ensures.ran
