-- Where the reading of a line ends.
use Rattle.std.proofs.Common.{◌≡◌, Bool, true, false, ℕ, ◌+◌, ◌<◌, ◌≤◌, List, [], ◌∷◌, ◌++◌, length, drop, refl, sym, ap, ◌∙◌, subst, arith, length-drop, append-nil, take_all}
use Rattle.std.specs.List.{position_or_len, before_first, after_first}
use Rattle.world.specs.Prelude.{is_line_end, IsOpen, after-open}
use Rattle.line_input.specs.Reading.{Overruns, Totals}
use Rattle.line_input.specs.Lines.{Holds}
use Rattle.line_input.specs.declared.line.Line.{Line}
use Rattle.line_input.specs.declared.input.Refill.TheVariants as refill
use Rattle.line_input.specs.declared.line.LineEnd.TheVariants as line_end
use Rattle.line_input.proofs.RefillLemmas.{all-kept}

-- what rules one another out, said where little is known
pub not-both : (b : Bool) → b ≡ true → b ≡ false → ⊥
not-both b e f = cc

pub bytes-below : refill.Bytes ≡ refill.Limit → ⊥
bytes-below e = cc

pub end-below : refill.End ≡ refill.Limit → ⊥
end-below e = cc

pub line-below : line_end.Line ≡ line_end.Limit → ⊥
line-below e = cc

pub ended-below : line_end.End ≡ line_end.Limit → ⊥
ended-below e = cc

pub limit-before : line_end.Limit ≡ line_end.End → ⊥
limit-before e = cc

-- what is unread behind the line so far
pub behind : (xs got old now : List ℕ) → xs ≡ got ++ old → old ≡ now → xs ≡ got ++ now
behind xs got old now e is = e ∙ ap (λ (ys : List ℕ). got ++ ys) is

whole : (xs got old : List ℕ) → xs ≡ got ++ old → old ≡ [] → xs ≡ got
whole xs got old e none = behind xs got old [] e none ∙ append-nil got

no-bytes : (got : List ℕ) → length got ≡ 0 → got ≡ []
no-bytes [] e = refl
no-bytes (b ∷ got) e = absurd (omega (arith, e))

-- the input ends, and nothing of a line was there
pub nothing-left : (xs got old : List ℕ) → xs ≡ got ++ old → old ≡ [] → length got ≡ 0 → xs ≡ []
nothing-left xs got old e none empty = whole xs got old e none ∙ no-bytes got empty

pub record LastLine (held : Line) (before after : List ℕ) : Type 0 where
  pub some : 0 < length before
  pub line : Holds held (before_first is_line_end before)
  pub rest : after ≡ after_first is_line_end before

-- the input ends, and the line so far is the last
pub last-line : (held : Line) (xs got old after : List ℕ) → xs ≡ got ++ old → old ≡ [] → after ≡ [] → IsOpen got → Holds held got → (length got ≡ 0 → ⊥) → LastLine held xs after
last-line held xs got old after e none gone no_end holds some =
    let is = whole xs got old e none in
    let all : before_first is_line_end got ≡ got = take_all (position_or_len is_line_end got) got (omega (arith, no_end.none)) in
    record {
      some = omega (arith, ap length is, some);
      line = subst (λ (ys : List ℕ). Holds held ys) (sym (ap (before_first is_line_end) is ∙ all)) holds;
      rest = gone ∙ sym (ap (after_first is_line_end) is ∙ after-open got no_end);
    }

pub overrun : (xs got old after : List ℕ) (byte : ℕ) → xs ≡ got ++ old → old ≡ byte ∷ after → IsOpen got → Overruns xs after (λ rest. position_or_len is_line_end rest ≡ length rest)
overrun xs got old after byte e is no_end = (got, byte, behind xs got old (byte ∷ after) e is, no_end.none)

-- a call of which each byte counts, behind calls of the same kind
pub counted-on : {P Q : Type 0} → (P → ⊥) → (Q → ⊥) → (taken now after left_taken left_now left_after : ℕ) → now + left_now ≡ taken + left_taken → Totals P now after left_now left_after
    → Totals Q taken after left_taken left_after
counted-on np nq taken now after left_taken left_now left_after so_far total = all-kept nq taken after left_taken left_after (total.same np ∙ so_far)

pub limited-on : {P Q : Type 0} → P → Q → (taken now after left_taken left_now left_after : ℕ) → now + left_now ≡ taken + left_taken → Totals P now after left_now left_after
    → Totals Q taken after left_taken left_after
limited-on p q taken now after left_taken left_now left_after so_far total = record { same = λ other. absurd (other q); most = λ _. total.most p; probed = λ _. sym so_far ∙ total.probed p }

-- ---- the budget: rest is what may still be taken

pub some-held : (budget0 budget1 budget2 : ℕ) (got : List ℕ) → budget1 + length got ≤ budget0 → budget2 ≡ budget1 → (length got ≡ 0 → ⊥) → budget2 < budget0
some-held budget0 budget1 budget2 got so_far is some = omega (arith, so_far, is, some)

pub line-gone : (budget0 budget1 rest at : ℕ) (got pend piece gone : List ℕ) → budget1 + length got ≤ budget0 → rest + length pend ≡ budget1 → piece ≡ pend → at < length piece → gone ≡ drop (at + 1) pend
    → rest + length gone < budget0
line-gone budget0 budget1 rest at got pend piece gone so_far is piece-is lt gone-is = omega (arith, so_far, is, ap length piece-is, lt, ap length gone-is, length-drop (at + 1) pend)

pub piece-gone : (budget1 rest : ℕ) (pend piece gone : List ℕ) → rest + length pend ≡ budget1 → 0 < length pend → piece ≡ pend → gone ≡ drop (length piece) pend → rest + length gone < budget1
piece-gone budget1 rest pend piece gone is some piece-is gone-is = omega (arith, is, some, ap length piece-is, ap length gone-is, length-drop (length piece) pend)
