use Rattle.table_soundness.proofs.Prelude.{◌∙◌, [], length, numbers_before, AreNumbersOf}
use Rattle.pur_base.specs.declared.request.Table.TheVariants as table
use Rattle.table_soundness.proofs.FaultLemmas.{all_of}
use Rattle.table_soundness.proofs.NumberLemmas.{marked_none}
use Rattle.table_soundness.proofs.marking.mark_tables.Goals as goal

pub returns : goal.returns
returns c = λ yes.
    let t = c.args.tables.now in
    let all = c.are_all.ensures yes in
    let l1 = c.mark_all-objects.auto.marks in
    let l2 = c.mark_all-mediums.auto.marks ∙ l1 in
    let l3 = c.mark_all-addresses.auto.marks ∙ l2 in
    let l4 = c.mark_all-segments.auto.marks ∙ l3 in
    let s1 = rw c.deref.ensures.value at (c.mark_all-objects.ensures all.0 [] (marked_none c.args.marks.now)) in
    let s2 = rw (c.deref-2.ensures.value, l1) at (c.mark_all-mediums.ensures all.1 (numbers_before t table.Medium) s1.1) in
    let s3 = rw (c.deref-3.ensures.value, l2) at (c.mark_all-addresses.ensures all.2 (numbers_before t table.Address) s2.1) in
    let s4 = rw (c.deref-4.ensures.value, l3) at (c.mark_all-segments.ensures all.3 (numbers_before t table.Segment) s3.1) in
    let s5 = rw (c.deref-5.ensures.value, l4) at (c.mark_all-elisions.ensures all.4 (numbers_before t table.Elision) s4.1) in
    all_of (AreNumbersOf (length c.args.marks.now) t) s1.0 s2.0 s3.0 s4.0 s5.0
