use Rattle.array_memory.proofs.Prelude.{◌≡◌, ℕ, ◌<◌, get_or, length, take, None, sym, ap, ◌∙◌, subst, is_some, facts, facts_in, ELIDED_SEGMENTS, AreLowestUnused, is_hidden, is_named, unnamed}
use Rattle.array_memory.proofs.UnusedLemmas.{lowest_unused}
use Rattle.array_memory.proofs.memory.Memory.looked.Goals as goal

pub returns : goal.returns
returns c =
    let k = c.args.self.now in
    let fs = facts_in k.memory.tables.addresses in
    let hidden = is_hidden c.args.elided.now in
    let lost = c.in_ok-lost.lost.items in
    let told : (i : ℕ) → i < length lost → is_some (get_or c.in_ok-found.found.items i None) ≡ is_named fs hidden (get_or lost i 0) = rw c.deref.ensures.value at c.in_ok-found.ensures.found in
    let ids : c.in_ok-ids.ids.items ≡ unnamed fs hidden lost = (rw (c.deref-2.ensures.value, c.deref-3.ensures.value) at c.in_ok-ids.ensures) (is_named fs hidden) told in
    λ now say. subst (λ l. AreLowestUnused (facts k.memory.tables) now l) (sym (c.truncate.ensures.items ∙ ap (λ l. take ELIDED_SEGMENTS l) (ids ∙ c.in_ok-lost.ensures.unnamed))) (lowest_unused k c.kept.ensures hidden now say)
