use Rattle.table_soundness.proofs.Prelude.{[], subst, sym, IsPermutation, IfNone, IfSome, IsPermutation-refl, ObjectFact, MediumFact, AddressFact, SegmentFact, ElisionFact, Table, numbers_before, AreNumbersOf, IsFirst}
use Rattle.pur_base.specs.declared.request.Table.TheVariants as table
use Rattle.table_soundness.proofs.FaultLemmas.{first_is, numbers_step}
use Rattle.table_soundness.proofs.judge.fault_by_table.Goals.{After-drop-numbers-2}
use Rattle.table_soundness.proofs.judge.fault_by_table.Goals as goal

found : (c : After-drop-numbers-2) → IfNone c.first_false.result ((x : Table) → AreNumbersOf c.args.next c.args.tables.now x) × IfSome c.first_false.result (IsFirst (AreNumbersOf c.args.next c.args.tables.now))
found c =
    let t = c.args.tables.now in
    let n = c.args.next in
    let p : IsPermutation [] c.new-numbers.result.items = subst (λ xs. IsPermutation [] xs) (sym c.new-numbers.ensures.items) (IsPermutation-refl []) in
    let s1 = numbers_step (λ (f : ObjectFact). f.seq.0) n (numbers_before t table.Object) c.new-numbers.result.items c.are_numbers_sound.new.numbers.items t.objects.items c.deref.result.now c.in_ok-objects.objects c.deref.ensures.value p c.in_ok-objects.ensures.sound c.in_ok-objects.ensures.numbers in
    let s2 = numbers_step (λ (f : MediumFact). f.seq.0) n (numbers_before t table.Medium) c.are_numbers_sound.new.numbers.items c.are_numbers_sound-2.new.numbers.items t.mediums.items c.deref-2.result.now c.in_ok-mediums.mediums c.deref-2.ensures.value s1.1 c.in_ok-mediums.ensures.sound c.in_ok-mediums.ensures.numbers in
    let s3 = numbers_step (λ (f : AddressFact). f.seq.0) n (numbers_before t table.Address) c.are_numbers_sound-2.new.numbers.items c.are_numbers_sound-3.new.numbers.items t.addresses.items c.deref-3.result.now c.in_ok-addresses.addresses c.deref-3.ensures.value s2.1 c.in_ok-addresses.ensures.sound c.in_ok-addresses.ensures.numbers in
    let s4 = numbers_step (λ (f : SegmentFact). f.seq.0) n (numbers_before t table.Segment) c.are_numbers_sound-3.new.numbers.items c.are_numbers_sound-4.new.numbers.items t.segments.items c.deref-4.result.now c.in_ok-segments.segments c.deref-4.ensures.value s3.1 c.in_ok-segments.ensures.sound c.in_ok-segments.ensures.numbers in
    let s5 = numbers_step (λ (f : ElisionFact). f.seq.0) n (numbers_before t table.Elision) c.are_numbers_sound-4.new.numbers.items c.are_numbers_sound-5.new.numbers.items t.elisions.items c.deref-5.result.now c.in_ok-elisions.elisions c.deref-5.ensures.value s4.1 c.in_ok-elisions.ensures.sound c.in_ok-elisions.ensures.numbers in
    rw c.first_false.ensures (first_is (AreNumbersOf n t) c.in_ok-objects.objects c.in_ok-mediums.mediums c.in_ok-addresses.addresses c.in_ok-segments.segments c.in_ok-elisions.elisions s1.0 s2.0 s3.0 s4.0 s5.0)

pub returns-clause-none : goal.returns-clause-none
returns-clause-none c = (found c).0

pub returns-clause-some : goal.returns-clause-some
returns-clause-some c = (found c).1
