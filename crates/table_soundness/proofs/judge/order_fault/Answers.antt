use Rattle.table_soundness.proofs.Prelude.{IfNone, IfSome, ObjectFact, MediumFact, AddressFact, SegmentFact, ElisionFact, Table, numbers_before, AreNumbersOf, IsFirst}
use Rattle.pur_base.specs.declared.request.Table.TheVariants as table
use Rattle.table_soundness.proofs.FaultLemmas.{first_is, distinct_before, in_order}
use Rattle.table_soundness.proofs.judge.order_fault.Goals.{After-first_false}
use Rattle.table_soundness.proofs.judge.order_fault.Goals as goal

found : (c : After-first_false) → IfNone c.first_false.result ((x : Table) → AreNumbersOf c.args.next c.args.tables.now x) × IfSome c.first_false.result (IsFirst (AreNumbersOf c.args.next c.args.tables.now))
found c =
    let t = c.args.tables.now in
    let n = c.args.next in
    let apart = distinct_before t c.requires in
    rw c.first_false.ensures
    (first_is (AreNumbersOf n t) c.are_in_order.result c.are_in_order-2.result c.are_in_order-3.result c.are_in_order-4.result c.are_in_order-5.result
    (in_order (λ (f : ObjectFact). f.seq.0) n (numbers_before t table.Object) t.objects.items c.deref.result.now c.are_in_order.result c.deref.ensures.value (apart table.Object) c.are_in_order.ensures)
    (in_order (λ (f : MediumFact). f.seq.0) n (numbers_before t table.Medium) t.mediums.items c.deref-2.result.now c.are_in_order-2.result c.deref-2.ensures.value (apart table.Medium) c.are_in_order-2.ensures)
    (in_order (λ (f : AddressFact). f.seq.0) n (numbers_before t table.Address) t.addresses.items c.deref-3.result.now c.are_in_order-3.result c.deref-3.ensures.value (apart table.Address) c.are_in_order-3.ensures)
    (in_order (λ (f : SegmentFact). f.seq.0) n (numbers_before t table.Segment) t.segments.items c.deref-4.result.now c.are_in_order-4.result c.deref-4.ensures.value (apart table.Segment) c.are_in_order-4.ensures)
    (in_order (λ (f : ElisionFact). f.seq.0) n (numbers_before t table.Elision) t.elisions.items c.deref-5.result.now c.are_in_order-5.result c.deref-5.ensures.value (apart table.Elision) c.are_in_order-5.ensures))

pub returns-clause-none : goal.returns-clause-none
returns-clause-none c = (found c).0

pub returns-clause-some : goal.returns-clause-some
returns-clause-some c = (found c).1
