-- A source that is asked, call after call.
use Rattle.std.proofs.Common.{◌≡◌, ◌∙◌, Bool, true, false, refl, sym, Result, Ok, Err}
use Rattle.std.proofs.lemmas.Result.{on_err_weaker}
use Rattle.world.specs.declared.streams.Failed.{Failed}
use Rattle.world.specs.Prelude.{Streamed, IsPreorder}
use Rattle.line_input.specs.Ahead.{Ahead}
use Rattle.line_input.specs.Asking.{Asks}
use Rattle.line_input.specs.lemmas.Calls.{went-then, went-well, went-failed}

unended : (a b : Bool) → (a ≡ true → b ≡ true) → b ≡ false → a ≡ false
unended true b f e = sym (f refl) ∙ e
unended false b f e = refl

-- the last call behind calls that succeeded
pub asks-then : {X : Type 0} {source : X → Streamed} {same_rest : X → X → Type 0} {S T : Type 0} {said : S} {answer : Result T Failed} {a b c : Ahead} {x y z : X} → IsPreorder same_rest
    → Asks source same_rest (Ok said) a b x y → Asks source same_rest answer b c y z → Asks source same_rest answer a c x z
asks-then {answer = answer} {a = a} {b = b} p first last = record {
  limited = λ h. last.limited (first.limited h);
  latched = λ e. let was = first.latched e in let is = last.latched was.1 in (is.0 ∙ was.0, is.1);
  asked = on_err_weaker answer (unended a.ended b.ended (λ e. (first.latched e).1)) last.asked;
  dropped = last.dropped;
  went = went-then p first.went last.went;
}

-- what the calls say is another thing, and so is a failure
pub asks-well : {X : Type 0} {source : X → Streamed} {same_rest : X → X → Type 0} {S T : Type 0} {said : S} {says : T} {a b : Ahead} {x y : X} → Asks source same_rest (Ok said) a b x y → Asks source same_rest (Ok says) a b x y
asks-well w = record { limited = w.limited; latched = w.latched; asked = tt; dropped = tt; went = went-well w.went }

pub asks-failed : {X : Type 0} {source : X → Streamed} {same_rest : X → X → Type 0} {S T : Type 0} {e f : Failed} {a b : Ahead} {x y : X} → Asks source same_rest {T = S} (Err e) a b x y → Asks source same_rest {T = T} (Err f) a b x y
asks-failed w = record { limited = w.limited; latched = w.latched; asked = w.asked; dropped = w.dropped; went = went-failed w.went }

-- what is pending is consumed behind calls that succeeded
pub asks-consumed : {X : Type 0} {source : X → Streamed} {same_rest : X → X → Type 0} {S T : Type 0} {said : S} {says : T} {a b c : Ahead} {x y : X}
    → c.taken ≡ b.taken → c.ended ≡ b.ended → Asks source same_rest (Ok said) a b x y → Asks source same_rest (Ok says) a c x y
asks-consumed t e w = record {
  limited = λ h. rw t (w.limited h);
  latched = λ h. let is = w.latched h in (is.0, e ∙ is.1);
  asked = tt;
  dropped = tt;
  went = went-well w.went;
}

-- a call more that succeeded
pub asks-on : {X : Type 0} {source : X → Streamed} {same_rest : X → X → Type 0} {S T U : Type 0} {said : S} {says : T} {so : U} {a b c : Ahead} {x y z : X} → IsPreorder same_rest
    → Asks source same_rest (Ok said) a b x y → Asks source same_rest (Ok says) b c y z → Asks source same_rest (Ok so) a c x z
asks-on p first last = asks-well (asks-then p first last)
