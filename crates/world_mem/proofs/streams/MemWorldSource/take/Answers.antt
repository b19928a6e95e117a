use Rattle.world_mem.proofs.Prelude.{◌≡◌, ◌⊎◌, ◌+◌, ◌≤◌, ◌∷◌, [], ◌++◌, ◌∙◌, ap, subst, List, ℕ, length, take, rules, arith, refl, Take, view, sunk, same_stream}
use Rattle.world_mem.proofs.Takes.{the_rest, took, told}
use Rattle.world_mem.proofs.Turned.{takes}
use Rattle.world_mem.proofs.streams.MemWorldSource.take.Goals as goal

pub returns-clause-taken : goal.returns-clause-taken
returns-clause-taken c h =
    let w = c.args.self.now in
    let copied = c.copy_front-n in
    let rest = the_rest w.input.items w.taken c.deref.result.now c.deref.ensures.value in (
      took w.input.items copied.new.into w.taken copied.result (copied.ensures.copied ∙ ap (λ (l : List ℕ). take copied.result l) rest),
      λ zero. subst (λ (l : List ℕ). (copied.new.into ≡ []) ⊎ (l ≡ [])) rest (copied.ensures.none w.piece_in zero),
    )

pub returns-clause-rest : goal.returns-clause-rest
returns-clause-rest c =
    let w = c.args.self.now in
    let n = c.copy_front-n.result in
    let rest = the_rest w.input.items w.taken c.deref.result.now c.deref.ensures.value in
    let further : w.taken ≤ w.taken + n = omega arith in
    let recorded : c.record.new.calls.items ≡ w.calls.items ++ Take w.taken ∷ [] = search rules in
    let starved : c.record.new.starved ≡ w.starved = search rules in
    record {
      plans = record { device = λ d. refl; takes = c.is_next_named.ensures.same; gives = refl };
      shelf = takes (view w) (w.taken + n) c.record.new.calls.items c.record.new.starved further recorded starved;
      sink = same_stream (sunk w);
      told = told w.input.items w.taken n (subst (λ (l : List ℕ). n ≤ length l) rest c.copy_front-n.ensures.inside);
    }
