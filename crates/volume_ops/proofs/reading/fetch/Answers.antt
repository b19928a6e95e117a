use Rattle.std.proofs.Common.{◌≡◌, ℕ, length, sym, ◌∙◌, arith}
use Rattle.std.proofs.lemmas.List.{ext_get_or, length-replicate, get_or-replicate}
use Rattle.memory_spec.specs.Prelude.{filled}
use Rattle.volume_ops.proofs.reading.fetch.Goals as goal

pub returns-in-Zero-clause-none : goal.returns-in-Zero-clause-none
unfolding filled
returns-in-Zero-clause-none c = λ contents.
    let zeros = c.clear.new.into in
    let long : length zeros ≡ 512 = c.clear.auto.into ∙ c.requires.size in
    let are : zeros ≡ filled 0 = ext_get_or 0 zeros (filled 0) (long ∙ sym (length-replicate {A = ℕ} 512 0)) (λ i low. c.clear.ensures i ∙ sym (get_or-replicate {A = ℕ} 512 i 0 0 (omega (arith, low, long)))) in
    rw c.in-Zero.is are
