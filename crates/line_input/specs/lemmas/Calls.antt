-- Calls of a source or a sink, one after another.
use Rattle.std.proofs.Common.{◌≡◌, ◌↔◌, ◌∙◌, sym, subst, Result, Ok, Err}
use Rattle.world.specs.declared.streams.Failed.{Failed}
use Rattle.world.specs.Prelude.{Counts, Streamed, IsPreorder}
use Rattle.line_input.specs.Ahead.{Ahead, Tells}
use Rattle.line_input.specs.Calls.{Went}

pub both : {A B C : Type 0} → A ↔ B → B ↔ C → A ↔ C
both f g = (λ a. g.0 (f.0 a), λ c. f.1 (g.1 c))

-- the last call behind calls that succeeded
pub went-then : {X : Type 0} {meaning : X → Streamed} {same_rest : X → X → Type 0} {S T : Type 0} {said : S} {answer : Result T Failed} {a b c : X} → IsPreorder same_rest
    → Went meaning same_rest (Ok said) a b → Went meaning same_rest answer b c → Went meaning same_rest answer a c
went-then {meaning = meaning} {answer = answer} {a = a} {b = b} {c = c} p first last = record {
  honest = both first.honest last.honest;
  counts = subst (λ n. Counts answer n (meaning c).faults) first.counts last.counts;
  rest = p.transitive a b c first.rest last.rest;
}

-- what the calls say is another thing, and so is a failure
pub went-well : {X : Type 0} {meaning : X → Streamed} {same_rest : X → X → Type 0} {S T : Type 0} {said : S} {says : T} {a b : X} → Went meaning same_rest (Ok said) a b → Went meaning same_rest (Ok says) a b
went-well w = record { honest = w.honest; counts = w.counts; rest = w.rest }

pub went-failed : {X : Type 0} {meaning : X → Streamed} {same_rest : X → X → Type 0} {S T : Type 0} {e f : Failed} {a b : X} → Went meaning same_rest {T = S} (Err e) a b → Went meaning same_rest {T = T} (Err f) a b
went-failed w = record { honest = w.honest; counts = w.counts; rest = w.rest }

-- a call more that succeeded
pub went-on : {X : Type 0} {meaning : X → Streamed} {same_rest : X → X → Type 0} {S T U : Type 0} {said : S} {says : T} {so : U} {a b c : X} → IsPreorder same_rest
    → Went meaning same_rest (Ok said) a b → Went meaning same_rest (Ok says) b c → Went meaning same_rest (Ok so) a c
went-on p first last = went-well (went-then p first last)

-- what is consumed leaves what the source tells
pub tells-same : {a b : Ahead} {s : Streamed} → b.ended ≡ a.ended → Tells a s → Tells b s
tells-same e t = record { honest = t.honest; ended = λ is. t.ended (sym e ∙ is) }
