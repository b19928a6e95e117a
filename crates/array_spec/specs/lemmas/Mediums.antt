-- A sector of a medium reads as one target.
use Rattle.std.proofs.Common.{◌≡◌, ℕ, ◌+◌, ◌-◌, refl, subst}
use Rattle.std.specs.Prelude.{Option, Some, None}
use Rattle.boot_codec.specs.Prelude.{Reads, here, below, unwritten, Facts, address, Target}
use Rattle.array_spec.specs.Laws.{ReadsOne}
use Rattle.array_spec.specs.Sound.{AreMediumsSound}

pub same_some : {X : Type 0} {a b : X} (o : Option X) → o ≡ Some a → o ≡ Some b → a ≡ b
same_some o e f = cc

pub not_both : {X : Type 0} {a : X} (o : Option X) → o ≡ Some a → o ≡ None → ⊥
not_both o e f = cc

one : (facts : Facts) → AreMediumsSound facts → {medium sector : ℕ} {s t : Target} → Reads facts medium sector s → Reads facts medium sector t → s ≡ t
one facts sound {medium = m} {sector = x} (here e) (here f) = same_some (address facts m x) e f
one facts sound {medium = m} {sector = x} (here e) (below r f over rest) = absurd (not_both (address facts m x) e f)
one facts sound {medium = m} {sector = x} (here e) (unwritten f none) = absurd (not_both (address facts m x) e f)
one facts sound {medium = m} {sector = x} (below r e over rest) (here f) = absurd (not_both (address facts m x) f e)
one facts sound {medium = m} {sector = x} {t = t} (below r e over rest) (below q f over2 rest2) =
    one facts sound rest (subst (λ z. Reads facts z.target.0 (z.target_start + (x - z.start)) t) (sound.disjoint m x q r over2 over) rest2)
one facts sound (below r e over rest) (unwritten f none) = absurd (none r over)
one facts sound {medium = m} {sector = x} (unwritten e none) (here f) = absurd (not_both (address facts m x) f e)
one facts sound (unwritten e none) (below r f over rest) = absurd (none r over)
one facts sound (unwritten e none) (unwritten f none2) = refl

pub reads_one : ReadsOne
reads_one facts medium sector s t sound first second = one facts sound first second
