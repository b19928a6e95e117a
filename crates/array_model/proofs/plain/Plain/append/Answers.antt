use Rattle.array_model.proofs.Prelude.{◌≡◌, false, List, ℕ, replicate, ap, subst, ◌∙◌, OnOk, appended, filled}
use Rattle.array_model.proofs.plain.Plain.append.Goals as goal

pub returns-clause-ok : goal.returns-clause-ok
returns-clause-ok c =
    let body : c.in_ok-sectors.sectors.items ≡ replicate c.args.sectors (filled 0) =
    c.in_ok-sectors.ensures.items_if_clones_equal (λ y e. e) ∙ ap (λ (s : List ℕ). replicate c.args.sectors s) c.filled.ensures in
    subst (λ (s : List (List ℕ)). OnOk c.push.result (c.push.new.self ≡ appended c.args.self.now c.args.name.now false s)) body c.push.ensures.ok
