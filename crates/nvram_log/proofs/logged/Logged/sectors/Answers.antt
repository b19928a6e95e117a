use Rattle.nvram_log.proofs.Prelude.{◌≡◌, ◌∙◌, ◌-◌, ℕ, length, take, drop, ap, arith, drop_at, length-drop, length-take, concat}
use Rattle.std.proofs.Common.{take_all}
use Rattle.nvram_log.specs.lemmas.Heads.{length-head, length-sectors}
use Rattle.nvram_log.proofs.logged.Logged.sectors.Goals as goal

pub returns-clause-few : goal.returns-clause-few
returns-clause-few c = omega (arith, length-take (length c.deref.result.now - 512) (drop 512 c.deref.result.now), length-drop 512 c.deref.result.now, ap (length {A = ℕ}) c.deref.ensures.value, c.args.self.now.fits)

pub returns-clause-text : goal.returns-clause-text
returns-clause-text c number d lawful read =
    let bytes = c.deref.result.now in
    let behind : take (length bytes - 512) (drop 512 bytes) ≡ concat d.sectors =
    take_all (length bytes - 512) (drop 512 bytes) (omega (arith, length-drop 512 bytes)) ∙ ap (drop 512) (c.deref.ensures.value ∙ read.text) ∙ drop_at _ (concat d.sectors) 512 (length-head _ lawful.command) in
    (behind, ap (length {A = ℕ}) behind ∙ length-sectors d.sectors lawful.sectors)
