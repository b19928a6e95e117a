use Rattle.boot_codec.proofs.Prelude.{◌≡◌, ◌-◌, ◌∷◌, Bool, true, false, cond, refl, ap, ◌∙◌, ℕ, zeros}
use Rattle.boot_codec.specs.Gate.{gate_bytes}
use Rattle.boot_codec.proofs.gate.gate_sector.Goals as goal
use mir.Val.{bool_byte}

byte_is : (b : Bool) → bool_byte b ≡ cond b 1 0
byte_is true = refl
byte_is false = refl

pub returns : goal.returns
unfolding gate_bytes
returns c = c.new.ensures ∙ ap (λ (n : ℕ). n ∷ zeros (512 - 1)) (byte_is c.args.is_open)
