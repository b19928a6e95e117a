use Rattle.patch_io.proofs.Prelude.{◌≡◌, ◌<◌, ℕ, List, length, map, get_or, refl, sym, subst, ap, ◌∙◌, arith, slice_get, length-map, slice_get-get_or, err_from_is_err_and, Device, PatchSegment, continues_refl, continues_trans, writes_then, nothing_written, still_places, AreInOrder}
use Rattle.segment_io.proofs.Gathers.{looks_none, looks_then}
use Rattle.patch_io.proofs.Parts.{Loads, loads_none, loads_more, size_more, patch_loaded, facts_loaded, part_places, reads_as, load_fault, others_more}
use Rattle.patch_io.proofs.loading.read_parts.Goals as goal

pub loop-segment-init : goal.loop-segment-init
loop-segment-init g c =
    let a = g.S.Shelf.shelf c.args.shelf.now in
    record {
      size = omega (arith, ap length c.requires.none);
      loads = subst (λ (xs : List g.row.F.Denot). Loads a a c.args.patch.now c.args.missing.now (map g.F.TableFact.any xs)) (sym c.requires.none) (loads_none a c.args.patch.now c.args.missing.now);
      continues = continues_refl a;
      looks = looks_none a;
      writes = λ h. nothing_written a (g.met.S.Shelf.is_shelf c.args.shelf.now);
      others = λ device none. refl;
      rest = g.met.S.Shelf.shelf_rest_stays.reflexive _;
    }

pub read_part-requires-clause-places : goal.read_part-requires-clause-places
read_part-requires-clause-places g c =
    let items = c.as_slice-segment-items.result.now in
    let part = c.loop-segment.segment-index in
    still_places c.loop-segment.invariant.continues
    (part_places (g.S.Shelf.shelf c.args.shelf.now) c.args.patch.now part (get_or items part _) c.requires.patch
    (ap (λ (l : List PatchSegment). slice_get l part) (sym c.as_slice-segment-items.ensures) ∙ slice_get-get_or items part _ c.loop-segment-test.true))

pub read_part-requires-clause-in_order : goal.read_part-requires-clause-in_order
read_part-requires-clause-in_order g c = subst (λ (t : ℕ). AreInOrder t (map g.F.TableFact.any c.loop-segment.facts.items)) c.requires.tag c.loop-segment.invariant.loads.in_order

pub loop-segment-preserved : goal.loop-segment-preserved
loop-segment-preserved g c =
    let a = g.S.Shelf.shelf c.args.shelf.now in
    let b = g.S.Shelf.shelf c.loop-segment.shelf in
    let p = c.args.patch.now in
    let missing = c.args.missing.now in
    let inv = c.loop-segment.invariant in
    let x = c.in_ok-read_part.ensures in
    let items = c.as_slice-segment-items.result.now in
    let part = c.loop-segment.segment-index in
    let count = c.min-count.result in
    let any = g.F.TableFact.any in
    let got = map any c.loop-segment.facts.items in
    let new = map any c.read_part.new.facts.items in
    let long : length got ≡ length c.loop-segment.facts.items = length-map c.loop-segment.facts.items any in
    let within : part < length p.segments = omega (arith, ap length c.as_slice-segment-items.ensures, c.loop-segment-test.true) in
    let at = ap (λ (l : List PatchSegment). slice_get l part) (sym c.as_slice-segment-items.ensures) ∙ slice_get-get_or items part _ c.loop-segment-test.true in
    let n = g.S.Shelf.shelf c.read_part.new.shelf in
    let reads = reads_as b n p missing part count g.F.TableFact.tag _ got new at c.requires.tag x.facts in
    let same = λ (h : a.honest) (device : Device). (inv.looks.same h device).bytes in
    record {
      size = sym (length-map c.read_part.new.facts.items any) ∙ size_more a b p missing part count got inv.continues.honest same c.requires.patch.room within (long ∙ inv.size) (omega (arith, long)) inv.loads n new reads;
      loads = loads_more a b p missing part count got inv.continues.honest same c.requires.patch.room within (long ∙ inv.size) (omega (arith, long)) inv.loads n inv.continues x.continues new reads;
      continues = continues_trans inv.continues x.continues;
      looks = looks_then inv.continues inv.looks x.looks;
      writes = λ h. writes_then inv.continues (inv.writes h) (x.writes (inv.continues.honest h));
      others = others_more a b n p part _ within at inv.others x.others;
      rest = g.met.S.Shelf.shelf_rest_stays.transitive _ _ _ inv.rest x.rest;
    }

pub returns-in_err-read_part-clause-continues : goal.returns-in_err-read_part-clause-continues
returns-in_err-read_part-clause-continues g c = continues_trans c.loop-segment.invariant.continues c.read_part.ensures.continues

pub returns-in_err-read_part-clause-looks : goal.returns-in_err-read_part-clause-looks
returns-in_err-read_part-clause-looks g c = looks_then c.loop-segment.invariant.continues c.loop-segment.invariant.looks c.read_part.ensures.looks

pub returns-in_err-read_part-clause-fault : goal.returns-in_err-read_part-clause-fault
returns-in_err-read_part-clause-fault g c =
    let r = err_from_is_err_and c.from_residual.result c.from_residual.ensures.1 in
    let a = g.S.Shelf.shelf c.args.shelf.now in
    let b = g.S.Shelf.shelf c.loop-segment.shelf in
    let p = c.args.patch.now in
    let inv = c.loop-segment.invariant in
    let items = c.as_slice-segment-items.result.now in
    let part = c.loop-segment.segment-index in
    let got = map g.F.TableFact.any c.loop-segment.facts.items in
    let long : length got ≡ length c.loop-segment.facts.items = length-map c.loop-segment.facts.items g.F.TableFact.any in
    let within : part < length p.segments = omega (arith, ap length c.as_slice-segment-items.ensures, c.loop-segment-test.true) in
    let at = ap (λ (l : List PatchSegment). slice_get l part) (sym c.as_slice-segment-items.ensures) ∙ slice_get-get_or items part _ c.loop-segment-test.true in
    rw (r.1, r.2) (load_fault a b (g.S.Shelf.shelf c.read_part.new.shelf) p c.args.missing.now part c.min-count.result g.F.TableFact.tag _ got _ inv.continues (λ h device. (inv.looks.same h device).bytes)
    c.requires.patch.room within (long ∙ inv.size) (omega (arith, long)) inv.loads at c.requires.tag c.in_err-read_part.ensures.fault)

pub returns-in_err-read_part-clause-writes : goal.returns-in_err-read_part-clause-writes
returns-in_err-read_part-clause-writes g c h = writes_then c.loop-segment.invariant.continues (c.loop-segment.invariant.writes h) (c.read_part.ensures.writes (c.loop-segment.invariant.continues.honest h))

pub returns-in_err-read_part-clause-others : goal.returns-in_err-read_part-clause-others
returns-in_err-read_part-clause-others g c =
    let items = c.as_slice-segment-items.result.now in
    let part = c.loop-segment.segment-index in
    let within : part < length c.args.patch.now.segments = omega (arith, ap length c.as_slice-segment-items.ensures, c.loop-segment-test.true) in
    others_more (g.S.Shelf.shelf c.args.shelf.now) (g.S.Shelf.shelf c.loop-segment.shelf) (g.S.Shelf.shelf c.read_part.new.shelf) c.args.patch.now part _ within
    (ap (λ (l : List PatchSegment). slice_get l part) (sym c.as_slice-segment-items.ensures) ∙ slice_get-get_or items part _ c.loop-segment-test.true) c.loop-segment.invariant.others c.read_part.ensures.others

pub returns-clause-decoded : goal.returns-clause-decoded
returns-clause-decoded g c =
    let got = map g.F.TableFact.any c.loop-segment.facts.items in
    facts_loaded (g.S.Shelf.shelf c.args.shelf.now) (g.S.Shelf.shelf c.loop-segment.shelf) c.args.patch.now c.args.missing.now c.loop-segment.segment-index got c.requires.patch.room
    (omega (arith, ap length c.as_slice-segment-items.ensures, c.loop-segment-test.false)) (length-map c.loop-segment.facts.items g.F.TableFact.any ∙ c.loop-segment.invariant.size) c.loop-segment.invariant.loads

pub returns-clause-facts : goal.returns-clause-facts
returns-clause-facts g c h view shows stripes =
    let got = map g.F.TableFact.any c.loop-segment.facts.items in
    patch_loaded (g.S.Shelf.shelf c.args.shelf.now) (g.S.Shelf.shelf c.loop-segment.shelf) c.args.patch.now c.args.missing.now c.loop-segment.segment-index got c.requires.patch.room
    (omega (arith, ap length c.as_slice-segment-items.ensures, c.loop-segment-test.false)) (length-map c.loop-segment.facts.items g.F.TableFact.any ∙ c.loop-segment.invariant.size) c.loop-segment.invariant.loads h view shows stripes

pub returns-clause-shown : goal.returns-clause-shown
returns-clause-shown g c = c.loop-segment.invariant.loads.shown
