use Rattle.array_memory.proofs.Prelude.{◌≡◌, ◌||◌, ◌++◌, List, get_or, length, take, drop, None, sym, ap, ◌∙◌, arith, take_all, list_any, is_some, common_steps, list_any-append, AddressFact, facts_in, facts_of, Kept, is_hidden, is_named, names}
use Rattle.array_memory.proofs.memory.Memory.find.Goals as goal

pub returns-clause-found : goal.returns-clause-found
unfolding is_named
returns-clause-found c = λ i l.
    let a = c.args.self.now.memory.tables.addresses in
    let p = names (facts_in c.args.self.now.memory.tables.addresses) (is_hidden c.args.elided.now) (get_or c.args.ids.now i 0) in
    let same : take c.loop-patch.found.len (c.find_among.new.found ++ drop (length c.find_among.new.found) c.loop-patch.found.items) ≡ c.find_among.new.found = grind (arith, common_steps) in
    let patches : c.patches-patch-items.result.now ≡ a.patches = c.patches-patch-items.ensures ∙ ap (λ (k : Kept). k.memory.tables.addresses.patches) c.self.view_is in
    let unflushed : c.unflushed.result.now ≡ a.unflushed = c.unflushed.ensures ∙ ap (λ (k : Kept). k.memory.tables.addresses.unflushed) c.self.view_is in
    let all : take c.loop-patch.patch-index a.patches ≡ a.patches = take_all c.loop-patch.patch-index a.patches (rw patches at c.loop-patch-test.false) in
    let flushed : is_some (get_or c.deref_mut-2.result.now i None) ≡ list_any p (facts_of a.patches) =
    ap (λ xs. is_some (get_or xs i None)) c.deref_mut-2.ensures.value ∙ c.loop-patch.invariant.each i l ∙ ap (λ (ps : List (List AddressFact)). list_any p (facts_of ps)) all in
    ap (λ xs. is_some (get_or xs i None)) same ∙ c.find_among.ensures i l
    ∙ ap (λ b. b || list_any p c.unflushed.result.now) flushed ∙ ap (λ (us : List AddressFact). list_any p (facts_of a.patches) || list_any p us) unflushed ∙ sym (list_any-append p (facts_of a.patches) a.unflushed)
