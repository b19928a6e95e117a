use Rattle.array_model.proofs.Prelude.{◌≡◌, List, ℕ, subst, ◌∙◌, OnOk, appended, sectors_of}
use Rattle.array_model.proofs.plain.Plain.append_copy.Goals as goal

pub returns-clause-ok : goal.returns-clause-ok
returns-clause-ok c =
    let body : c.in_ok-sectors.sectors.items ≡ sectors_of c.args.self.now c.args.name.now = c.in_ok-sectors.ensures.items_if_clones_equal (λ x y e. e) ∙ c.sectors_of.ensures in
    subst (λ (s : List (List ℕ)). OnOk c.push.result (c.push.new.self ≡ appended c.args.self.now c.args.new.now c.args.snapshot s)) body c.push.ensures.ok
