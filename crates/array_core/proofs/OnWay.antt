-- Commands behind commands.
use Rattle.array_core.proofs.Prelude.{arith, ◌≡◌, List, [], ◌∷◌, ◌++◌, refl, sym, ap, ◌∙◌, append_assoc, nat_tests, Array, Command, AllAccepted, after, after_all, IsOnWay}

pub after_more : (x : Array) (cs ds : List Command) → after_all x (cs ++ ds) ≡ after_all (after_all x cs) ds
after_more x [] ds = refl
after_more x (c ∷ cs) ds = after_more (after x c) cs ds

pub accepted_more : (x : Array) (cs ds : List Command) → AllAccepted x cs → AllAccepted (after_all x cs) ds → AllAccepted x (cs ++ ds)
accepted_more x [] ds first next = next
accepted_more x (c ∷ cs) ds first next = (first.0, accepted_more (after x c) cs ds first.1 next)

-- on the way of the first ones, and of the second ones behind them
pub on_first : (x : Array) (cs ds : List Command) (y : Array) → IsOnWay x cs y → IsOnWay x (cs ++ ds) y
on_first x cs ds y on = grind (arith, nat_tests, append_assoc)

pub on_second : (x : Array) (cs ds : List Command) (y : Array) → IsOnWay (after_all x cs) ds y → IsOnWay x (cs ++ ds) y
on_second x cs ds y on = record {
  front = cs ++ on.front;
  rest = on.rest;
  whole = ap (λ (l : List Command). cs ++ l) on.whole ∙ sym (append_assoc cs on.front on.rest);
  is = on.is ∙ sym (after_more x cs on.front);
}
