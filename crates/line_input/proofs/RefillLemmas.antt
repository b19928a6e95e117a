-- What a refill puts into the buffer.
use Rattle.std.proofs.Common.{◌≡◌, ℕ, ◌+◌, ◌-◌, ◌<◌, ◌≤◌, min, List, ◌++◌, length, take, drop, sym, ap, ◌∙◌, arith, length-append, length-take-le}
use Rattle.std.proofs.Math.Seq.{take-append_seam}
use Rattle.world.specs.Prelude.{INPUT_BYTES}
use Rattle.line_input.specs.Ahead.{InBuffer}
use Rattle.line_input.specs.Reading.{Totals}
use Rattle.line_input.specs.declared.buffer.TheConstants.{BUFFER_BYTES}

-- what was written over all of a Vec is what it holds
pub put-back : (len : ℕ) (into was items : List ℕ) → length into ≡ length was → length was ≡ len → take len (into ++ drop (length into) items) ≡ into
put-back len into was items e n = rw (sym n ∙ sym e) (take-append_seam into (drop (length into) items))

pub still-in : (len n taken : ℕ) (into was items : List ℕ) → length into ≡ length was → length was ≡ len → was ≡ items → length items ≡ BUFFER_BYTES
    → n ≤ BUFFER_BYTES → taken ≤ INPUT_BYTES → InBuffer (take len (into ++ drop (length into) items)) 0 n taken
still-in len n taken into was items e l is size within limited = record {
  size = ap length (put-back len into was items e l) ∙ e ∙ ap length is ∙ size;
  ordered = omega arith;
  within = within;
  limited = limited;
}

-- how many bytes may come
pub record InRoom (limit taken buffer count : ℕ) : Type 0 where
  pub within : count ≤ buffer
  pub limited : taken + count ≤ limit

pub in-room : (limit taken buffer room count : ℕ) → room ≡ min (limit - taken) buffer → count ≤ room → taken ≤ limit → InRoom limit taken buffer count
in-room limit taken buffer room count is le most = record { within = omega (arith, is, le); limited = omega (arith, is, le, most) }

pub refilled : (count : ℕ) (items into before after : List ℕ) → items ≡ into → take count into ++ after ≡ before → before ≡ take count items ++ after
refilled count items into before after is e = sym e ∙ ap (λ (xs : List ℕ). take count xs ++ after) (sym is)

pub counted : (count taken : ℕ) (into before after : List ℕ) → count ≤ length into → take count into ++ after ≡ before → taken + count + length after ≡ taken + length before
counted count taken into before after le e = omega (arith, sym (length-append (take count into) after) ∙ ap length e, length-take-le count into le)

-- below the limit no byte is lost
pub all-kept : {P : Type 0} → (P → ⊥) → (taken after left left_after : ℕ) → after + left_after ≡ taken + left → Totals P taken after left left_after
all-kept below taken after left left_after e = record { same = λ _. e; most = λ p. absurd (below p); probed = λ p. absurd (below p) }

pub some-came : (limit taken count : ℕ) (items into : List ℕ) → items ≡ into → (count ≡ 0 → ⊥) → count ≤ length into → taken + count ≤ limit
    → (0 < length (take count items)) × ((limit - (taken + count)) + length (take count items) ≡ (limit - taken) + 0)
some-came limit taken count items into is some le most =
    let n : length (take count items) ≡ count = length-take-le count items (omega (arith, ap length is, le)) in
    (omega (arith, n, some), omega (arith, n, most))
