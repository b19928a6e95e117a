use Rattle.segment_writer.proofs.Prelude.{◌≡◌, ◌*◌, ◌-◌, ◌≤◌, ℕ, List, [], length, map, take, drop, subst, sym, ap, ◌∙◌, arith, length-take-le, div_ceil, AllByRecursion, get_or_append_left, length-map, AnyFact, IsLawful, stripe_in, HoldsFacts}
use Rattle.segment_writer.proofs.PatchAppended.{stripe_holds}
use Rattle.segment_writer.proofs.PatchLayout.{part_facts, part_fits, part_lawful}
use Rattle.segment_writer.proofs.patch.PatchSegmentsFilled.fill.Goals as goal

pub fill_stripes-requires-clause-lawful : goal.fill_stripes-requires-clause-lawful
fill_stripes-requires-clause-lawful g c =
    let any = g.F.TableFact.any in
    let facts = c.args.self.now.facts.now in
    let number = c.args.number in
    let fits : 6720 * number ≤ length facts = omega (arith, length-map facts any, c.requires.number, c.requires.lawful.room, c.requires.lawful.count) in
    subst (AllByRecursion IsLawful) (sym (part_facts any facts number (6720 * number) c.min-end.result (omega arith) (omega arith) fits)) (part_lawful (map any facts) number c.requires.lawful.each)

pub returns-clause-count : goal.returns-clause-count
returns-clause-count g c =
    let any = g.F.TableFact.any in
    let facts = c.args.self.now.facts.now in
    let number = c.args.number in
    let fits : 6720 * number ≤ length facts = omega (arith, length-map facts any, c.requires.number, c.requires.lawful.room, c.requires.lawful.count) in
    c.div_ceil-count.ensures ∙ ap (λ (n : ℕ). div_ceil n 448) (sym (length-map (take (c.min-end.result - 6720 * number) (drop (6720 * number) facts)) any))
    ∙ ap (λ (l : List AnyFact). div_ceil (length l) 448) (part_facts any facts number (6720 * number) c.min-end.result (omega arith) (omega arith) fits)

pub returns-clause-filled : goal.returns-clause-filled
returns-clause-filled g c stripe shards lt of nine =
    let any = g.F.TableFact.any in
    let facts = c.args.self.now.facts.now in
    let number = c.args.number in
    let count = c.div_ceil-count.result in
    let fits : 6720 * number ≤ length facts = omega (arith, length-map facts any, c.requires.number, c.requires.lawful.room, c.requires.lawful.count) in
    let part = part_facts any facts number (6720 * number) c.min-end.result (omega arith) (omega arith) fits in
    let few : count ≤ 15 = omega (arith, returns-clause-count g c, part_fits (map any facts) number) in
    let cut : length (take count c.args.stripes.now) ≡ count = length-take-le count c.args.stripes.now (omega (arith, few)) in
    let of_data = rw (get_or_append_left c.fill_stripes.new.stripes (drop count c.args.stripes.now) [] stripe (omega (arith, lt, cut, c.fill_stripes.auto.stripes))) at of in
    let filled = c.fill_stripes.ensures stripe (omega (arith, lt, cut)) in
    subst (λ (l : List AnyFact). HoldsFacts l stripe shards) part (stripe_holds _ stripe (stripe_in c.fill_stripes.new.stripes stripe) shards of_data nine filled)
