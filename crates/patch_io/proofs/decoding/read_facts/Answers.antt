use Rattle.patch_io.proofs.Prelude.{◌≡◌, ◌+◌, ◌<◌, List, [], ◌∷◌, ◌++◌, ℕ, map, arith, ◌∙◌, ap, sym, subst, refl, true, false, IfSome, map_push, AnyFact, Decodes, Extends}
use Rattle.std.proofs.lemmas.Grind.{common_steps}
use Rattle.patch_io.proofs.Spelling.{extends_none, extends_more, none_by_text, none_by_order, last_key, last_pushed, behind_last, not_behind_last}
use Rattle.patch_io.proofs.decoding.read_facts.Goals as goal

pub loop-text-init : goal.loop-text-init
loop-text-init g c = record {
  read = extends_none _ _ _ c.requires.in_order;
  last = rw (← c.deref.ensures.value) c.last_key-last.ensures;
}

pub returns-in_default-clause-fault : goal.returns-in_default-clause-fault
returns-in_default-clause-fault g c =
    none_by_text g.F.TableFact.tag c.args.bytes.now c.loop-text.text-index c.args.count (map g.F.TableFact.any c.args.facts.now.items) (omega arith)
    (λ f text is. c.in_default.ensures.none f (subst (λ (t : List ℕ). Decodes t f) (sym (c.texts_in-text-items.ensures.texts c.loop-text.text-index [] (omega arith))) text) is)

pub returns-then-not-may_come-clause-fault : goal.returns-then-not-may_come-clause-fault
returns-then-not-may_come-clause-fault g c =
    let any = g.F.TableFact.any in
    let key = g.F.Fact.key in
    let f = c.in-Some.fact in
    let xs = c.loop-text.facts.items in
    none_by_order g.F.TableFact.tag c.args.bytes.now c.loop-text.text-index c.args.count (map any c.args.facts.now.items) (map any xs) (any f) (omega arith) c.loop-text.invariant.read
    (subst (λ (t : List ℕ). Decodes t (any f)) (c.texts_in-text-items.ensures.texts c.loop-text.text-index [] (omega arith)) c.in-Some.ensures.some)
    (not_behind_last any key g.met.F.TableFact.have_key xs f
    (λ less. let same : false ≡ true = c.if-not-may_come.ensures.1 (rw (c.loop-text.invariant.last, c.key-key.ensures) less) in absurd cc))

pub loop-text-preserved : goal.loop-text-preserved
loop-text-preserved g c =
    let any = g.F.TableFact.any in
    let key = g.F.Fact.key in
    let f = c.in-Some.fact in
    let xs = c.loop-text.facts.items in
    let pushed : c.push.new.self.items ≡ xs ++ f ∷ [] = grind (arith, common_steps) in
    let mapped : map any xs ++ any f ∷ [] ≡ map any c.push.new.self.items = sym (ap (map any) pushed ∙ map_push any xs f) in
    let less : IfSome (last_key key xs) (λ last. last < key f) = rw (← c.loop-text.invariant.last, ← c.key-key.ensures) (c.if-not-may_come.ensures.0 refl) in
    record {
      read = subst (λ (l : List AnyFact). Extends g.F.TableFact.tag c.args.bytes.now (c.loop-text.text-index + 1) (map any c.args.facts.now.items) l) mapped
          (extends_more g.F.TableFact.tag c.args.bytes.now c.loop-text.text-index (map any c.args.facts.now.items) (map any xs) (any f) c.loop-text.invariant.read
          (subst (λ (t : List ℕ). Decodes t (any f)) (c.texts_in-text-items.ensures.texts c.loop-text.text-index [] (omega arith)) c.in-Some.ensures.some)
          (g.met.F.TableFact.have_tag f)
          (behind_last any key g.met.F.TableFact.have_key xs f less));
      last = rw (c.key-key.ensures, pushed) (sym (last_pushed key xs f));
    }

pub returns-clause-ok : goal.returns-clause-ok
returns-clause-ok g c =
    let end : c.loop-text.text-index ≡ c.args.count = omega arith in
    subst (λ (n : ℕ). Extends g.F.TableFact.tag c.args.bytes.now n (map g.F.TableFact.any c.args.facts.now.items) (map g.F.TableFact.any c.loop-text.facts.items)) end c.loop-text.invariant.read
