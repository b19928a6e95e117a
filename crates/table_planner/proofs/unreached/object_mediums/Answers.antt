use Rattle.table_planner.proofs.Prelude.{◌≡◌, ℕ, ◌+◌, List, [], ◌∷◌, ◌++◌, map, take, get_or, Some, sym, ap, ◌∙◌, map-append, take_more, ObjectFact}
use Rattle.std.specs.List.{slice_get}
use Rattle.std.proofs.lemmas.Option.{get_or_from_slice_get, slice_get_within}
use Rattle.table_planner.proofs.unreached.object_mediums.Goals as goal

one_more : (xs : List ObjectFact) (i : ℕ) (x : ObjectFact) → Some x ≡ slice_get xs i → map (λ (y : ObjectFact). y.medium) (take (i + 1) xs) ≡ map (λ (y : ObjectFact). y.medium) (take i xs) ++ x.medium ∷ []
one_more xs i x e =
    let is : get_or xs i x ≡ x = get_or_from_slice_get xs i x x (sym e) in
    ap (map (λ (y : ObjectFact). y.medium)) (take_more xs i x (slice_get_within xs i x (sym e)) ∙ ap (λ y. take i xs ++ y ∷ []) is) ∙ map-append (λ (y : ObjectFact). y.medium) (take i xs) (x ∷ [])

pub loop-i-preserved : goal.loop-i-preserved
loop-i-preserved c =
    let x = c.in-Some.object in
    c.in_ok-push-in-Some.ensures.items ∙ ap (λ l. l ++ x.medium ∷ []) c.loop-i.invariant ∙ sym (one_more c.args.memory.now.objects c.loop-i.i x c.in-Some.ensures)
