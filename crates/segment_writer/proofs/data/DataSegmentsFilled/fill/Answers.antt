use Rattle.segment_writer.proofs.Prelude.{◌≡◌, ◌*◌, ◌≤◌, ℕ, List, [], length, take, drop, subst, ap, ◌∙◌, arith, length-take-le, div_ceil, get_or_append_left, stripe_in, HoldsSectors}
use Rattle.segment_writer.proofs.DataAppended.{stripe_holds}
use Rattle.segment_writer.proofs.DataLayout.{part_order, part_fits}
use Rattle.segment_writer.proofs.data.DataSegmentsFilled.fill.Goals as goal

pub returns-clause-count : goal.returns-clause-count
returns-clause-count c =
    let d = c.args.self.now in
    let fits : 840 * c.args.number ≤ length d.order.now = omega (arith, c.requires.number, c.requires.lawful.0.count) in
    c.div_ceil-count.ensures ∙ ap (λ (o : List ℕ). div_ceil (length o) 56) (part_order d.order.now c.args.number (840 * c.args.number) c.min-end.result (omega arith) (omega arith) fits)

pub returns-clause-filled : goal.returns-clause-filled
returns-clause-filled c stripe shards lt of nine =
    let d = c.args.self.now in
    let count = c.div_ceil-count.result in
    let fits : 840 * c.args.number ≤ length d.order.now = omega (arith, c.requires.number, c.requires.lawful.0.count) in
    let part = part_order d.order.now c.args.number (840 * c.args.number) c.min-end.result (omega arith) (omega arith) fits in
    let few : count ≤ 15 = omega (arith, returns-clause-count c, part_fits d.order.now c.args.number) in
    let cut : length (take count c.args.stripes.now) ≡ count = length-take-le count c.args.stripes.now (omega (arith, few)) in
    let of_data = rw (get_or_append_left c.fill_stripes.new.stripes (drop count c.args.stripes.now) [] stripe (omega (arith, lt, cut, c.fill_stripes.auto.stripes))) at of in
    let filled = c.fill_stripes.ensures stripe (omega (arith, lt, cut)) in
    subst (λ (o : List ℕ). HoldsSectors d.staged.now o stripe shards) part (stripe_holds d.staged.now _ stripe (stripe_in c.fill_stripes.new.stripes stripe) shards of_data nine filled)
