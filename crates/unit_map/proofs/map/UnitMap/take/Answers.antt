use Rattle.unit_map.proofs.Prelude.{refl, ◌∙◌, ap, length, with_items_is, SLOTS_MAX}
use Rattle.unit_map.proofs.NewLemmas.{kept-few}
use Rattle.unit_map.proofs.ChoiceLemmas.{choice-room, no-room}
use Rattle.unit_map.proofs.LoweringLemmas.{lowers-by-one}
use Rattle.unit_map.proofs.map.UnitMap.take.Goals as goal

pub returns-in_err-chosen-clause-none : goal.returns-in_err-chosen-clause-none
returns-in_err-chosen-clause-none c =
    let few = rw (c.deref.ensures.value, c.self.view_is) at c.in_err-chosen.ensures.none in
    (λ none. no-room c.args.self.now few, λ none. rw c.from_residual.ensures refl)

pub returns-clause-none : goal.returns-clause-none
returns-clause-none c =
    let choice = rw (c.deref.ensures.value, c.self.view_is) at c.in_ok-chosen.ensures.some in
    (λ never. absurd cc, λ none. absurd (choice-room c.args.self.now c.in_ok-chosen.chosen choice none))

pub returns-clause-lowers : goal.returns-clause-lowers
returns-clause-lowers c =
    let choice = rw (c.deref.ensures.value, c.self.view_is) at c.in_ok-chosen.ensures.some in
    let loses = rw (c.deref_mut.ensures.value, c.self.view_is) at c.take_chosen.ensures.loses in
    let items = with_items_is c.self.inside.drives c.take_chosen.new.drives (c.take_chosen.ensures.loses.size ∙ c.deref_mut.ensures.len) in
    rw items (lowers-by-one c.args.self.now c.take_chosen.new.drives c.in_ok-chosen.chosen choice loses)

pub invariant_of-self : goal.invariant_of-self
invariant_of-self c =
    let size = c.take_chosen.ensures.loses.size in
    let items = with_items_is c.self.inside.drives c.take_chosen.new.drives (size ∙ c.deref_mut.ensures.len) in
    kept-few SLOTS_MAX c.self.inside.drives.items _ (ap length items ∙ size ∙ ap length c.deref_mut.ensures.value) c.self.invariant
