use Rattle.segment_writer.proofs.Prelude.{◌≡◌, List, length, sym, ap, ◌∙◌, arith, slice_get, slice_get-get_or, PatchSegment, pages_in_part}
use Rattle.patch_io.proofs.Parts.{places_are}
use Rattle.segment_writer.proofs.PatchLayout.{ids_are, same_header}
use Rattle.segment_writer.proofs.patch.PatchHeadsHeaded.header.Goals as goal

pub returns : goal.returns
returns c =
    let p = c.args.self.now.patch.now in
    let part = c.args.number in
    let items = c.as_slice-segments.result.now in
    let same = c.as_slice-segments.ensures in
    let lt = c.requires.number in
    let placed : c.min-placed.result ≡ pages_in_part p.facts part = omega arith in
    let at = ap (λ (l : List PatchSegment). slice_get l part) (sym same) ∙ slice_get-get_or items part _ (omega (arith, lt, ap length same)) in
    same_header p c.args.self.now.generation part _ c.min-placed.result (length items) _ (sym (ids_are p part _ at)) placed (ap length same) (sym (places_are p part _ at))
