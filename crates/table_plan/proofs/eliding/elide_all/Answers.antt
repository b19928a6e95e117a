use Rattle.table_plan.proofs.Prelude.{[], ◌∷◌, ◌+◌, ℕ, sym, subst, arith, get_or, Contains, append-nil, append_assoc, ◌↔◌, ◌⊎◌, take_all, drop_all, is_within, Table, ranges_of, AreElisionsOf}
use Rattle.pur_base.specs.declared.request.Table.TheVariants as table
use Rattle.table_plan.proofs.RangesOf.{IsIn, item_more, elided_step, elided_more, others_more}
use Rattle.table_plan.proofs.eliding.elide_all.Goals as goal

zero : Table × ℕ
zero = (table.Object, 0)

pub elide-requires : goal.elide-requires
unfolding zero
elide-requires c = c.requires.tables c.loop-i.i zero c.loop-i-test.true

pub loop-i-preserved : goal.loop-i-preserved
unfolding zero
loop-i-preserved c =
    let items = c.args.items.now in
    let i = c.loop-i.i in
    let x = get_or items i zero in
    let one = c.elision_of.ensures (is_within (ranges_of c.loop-i.elided x.0)) c.in_ok-elide.ensures.ids in
    let more = item_more c.loop-i.elided c.elide.new.self x c.in_ok-elide.ensures.ids c.elide.ensures.others in
    record {
      facts = λ rest h. rw (c.in_ok-push.ensures.items, append_assoc) (c.loop-i.invariant.facts (_ ∷ rest) (elided_step (IsIn c.loop-i.elided) (IsIn c.elide.new.self) c.args.number i items zero _ rest c.loop-i-test.true more one h));
      ids = elided_more (IsIn c.args.elided.now) (IsIn c.loop-i.elided) (IsIn c.elide.new.self) items zero i c.loop-i-test.true more c.loop-i.invariant.ids;
      others = others_more items c.args.elided.now c.loop-i.elided c.elide.new.self zero i c.loop-i-test.true c.elide.ensures.others c.loop-i.invariant.others;
    }

pub returns-clause-facts : goal.returns-clause-facts
returns-clause-facts c =
    subst (λ l. AreElisionsOf (IsIn c.args.elided.now) c.args.number c.args.items.now l) (append-nil c.loop-i.facts.items)
    (c.loop-i.invariant.facts [] (subst (λ l. AreElisionsOf (IsIn c.loop-i.elided) (c.args.number + c.loop-i.i) l []) (sym (drop_all c.loop-i.i c.args.items.now (omega arith))) tt))

pub returns-clause-ids : goal.returns-clause-ids
returns-clause-ids c = λ t j. subst (λ l. IsIn c.loop-i.elided t j ↔ (IsIn c.args.elided.now t j ⊎ Contains l (t, j))) (take_all c.loop-i.i c.args.items.now (omega arith)) (c.loop-i.invariant.ids t j)

pub returns-in_err-push-clause-others : goal.returns-in_err-push-clause-others
unfolding zero
returns-in_err-push-clause-others c = others_more c.args.items.now c.args.elided.now c.loop-i.elided c.elide.new.self zero c.loop-i.i c.loop-i-test.true c.elide.ensures.others c.loop-i.invariant.others
