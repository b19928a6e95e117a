use Rattle.nvram_log.proofs.Prelude.{◌∙◌, ◌+◌, ℕ, List, refl, subst, sym, with_items_is, Spells, command_of}
use Rattle.nvram_log.proofs.log.NvLog.append.Goals as goal

pub returns-then-not-has_any-clause-any_moment : goal.returns-then-not-has_any-clause-any_moment
returns-then-not-has_any-clause-any_moment g c h commands keeps holds =
    let log = c.args.self.now in
    let staged = c.deref.ensures.value ∙ with_items_is log.slot c.stage.new.slot (c.stage.auto.slot ∙ c.deref_mut.ensures.len) in
    let spells = subst (λ (l : List ℕ). Spells l (log.flushed + 1 + log.count) (command_of c.args.logged.now)) (sym staged) c.stage.ensures in
    c.store.ensures.any_moment h log.flushed commands _ keeps.count refl spells holds

pub returns-clause-any_moment : goal.returns-clause-any_moment
returns-clause-any_moment g c h commands keeps holds =
    let log = c.args.self.now in
    let staged = c.deref.ensures.value ∙ with_items_is log.slot c.stage.new.slot (c.stage.auto.slot ∙ c.deref_mut.ensures.len) in
    let spells = subst (λ (l : List ℕ). Spells l (log.flushed + 1 + log.count) (command_of c.args.logged.now)) (sym staged) c.stage.ensures in
    c.store.ensures.any_moment h log.flushed commands _ keeps.count refl spells holds
