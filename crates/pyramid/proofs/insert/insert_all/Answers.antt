use Rattle.pyramid.proofs.Prelude.{◌≡◌, ◌++◌, ◌∙◌, ap, arith, length, take, length-append}
use Rattle.pyramid.proofs.WeaveLemmas.{front_of, slice_whole}
use Rattle.pyramid.proofs.insert.insert_all.Goals as goal

pub returns-in_err-extend_from_slice-clause-ordered : goal.returns-in_err-extend_from_slice-clause-ordered
returns-in_err-extend_from_slice-clause-ordered g c = rw c.in_err-extend_from_slice.ensures.items c.requires.ordered

pub merge_back-requires-clause-ordered : goal.merge_back-requires-clause-ordered
merge_back-requires-clause-ordered g c =
    let total = ap length (c.deref_mut.ensures.value ∙ c.in_ok-extend_from_slice.ensures.items) ∙ length-append c.args.facts.now.items c.args.run.now in
    let front : take c.len-len.result (c.args.facts.now.items ++ c.args.run.now) ≡ c.args.facts.now.items = front_of c.len-len.result c.args.facts.now.items c.args.run.now
    (omega (arith, total, c.deref_mut.ensures.len, c.in_ok-extend_from_slice.ensures.len, c.len-len.ensures)) in
    rw (c.deref_mut.ensures.value, c.in_ok-extend_from_slice.ensures.items, front) c.requires.ordered

pub returns-clause-ordered : goal.returns-clause-ordered
returns-clause-ordered g c =
    let same = ap length c.deref_mut.ensures.value in
    let whole = slice_whole c.extend_from_slice.new.self.len c.merge_back.new.facts c.extend_from_slice.new.self.items (omega (arith, c.merge_back.auto.facts, same)) (omega (arith, c.deref_mut.ensures.len, same)) in
    rw whole c.merge_back.ensures.ordered

pub returns-clause-facts : goal.returns-clause-facts
returns-clause-facts g c =
    let same = ap length c.deref_mut.ensures.value in
    let whole = slice_whole c.extend_from_slice.new.self.len c.merge_back.new.facts c.extend_from_slice.new.self.items (omega (arith, c.merge_back.auto.facts, same)) (omega (arith, c.deref_mut.ensures.len, same)) in
    let total = ap length (c.deref_mut.ensures.value ∙ c.in_ok-extend_from_slice.ensures.items) ∙ length-append c.args.facts.now.items c.args.run.now in
    let front : take c.len-len.result (c.args.facts.now.items ++ c.args.run.now) ≡ c.args.facts.now.items = front_of c.len-len.result c.args.facts.now.items c.args.run.now
    (omega (arith, total, c.deref_mut.ensures.len, c.in_ok-extend_from_slice.ensures.len, c.len-len.ensures)) in
    let facts = rw (c.deref_mut.ensures.value, c.in_ok-extend_from_slice.ensures.items, front) at c.merge_back.ensures.facts in
    rw whole facts
