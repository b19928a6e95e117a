use Rattle.fact_codec.proofs.Prelude.{◌≡◌, sym, refl, subst, ◌∙◌, AnyFact, Decodes, IsHeaded}
use Rattle.fact_codec.proofs.HeadLemmas.{is_spelled, decodes}
use Rattle.fact_codec.proofs.reading.read_fact.Goals as goal

no_value : (c : goal.After-from_residual) (f : AnyFact) → ¬ Decodes c.args.bytes.now f
no_value c f spells =
    let is = c.fact_in.ensures.complete f (is_spelled c.args.bytes.now c.head_in.result.0 c.head_in.result.1.now f c.head_in.ensures.field c.head_in.ensures.fits spells) in
    let was = c.in_err-fact.was in
    cc (is, was)

pub returns-in_err-fact-clause-complete : goal.returns-in_err-fact-clause-complete
returns-in_err-fact-clause-complete c = λ f spells. absurd (no_value c f spells)

pub returns-in_err-fact-clause-err : goal.returns-in_err-fact-clause-err
returns-in_err-fact-clause-err c = (λ _. no_value c, λ _. c.from_residual.ensures.0)

not_headed : (c : goal.Then-not-is_headed) (f : AnyFact) → ¬ Decodes c.args.bytes.now f
not_headed c f spells =
    let is = is_spelled c.args.bytes.now c.head_in.result.0 c.head_in.result.1.now f c.head_in.ensures.field c.head_in.ensures.fits spells in
    let read = c.fact_in.ensures.complete f is in
    let was = c.in_ok-fact.was in
    let same : f ≡ c.in_ok-fact.fact = cc in
    let headed = c.is_headed.ensures.1 (subst (λ (x : AnyFact). IsHeaded c.head_in.result.0 x) same (record { lawful = is.fact.lawful; same_head = is.same_head })) in
    cc (headed, c.if-not-is_headed.true)

pub returns-then-not-is_headed-clause-complete : goal.returns-then-not-is_headed-clause-complete
returns-then-not-is_headed-clause-complete c = λ f spells. absurd (not_headed c f spells)

pub returns-then-not-is_headed-clause-err : goal.returns-then-not-is_headed-clause-err
returns-then-not-is_headed-clause-err c = (λ _. not_headed c, λ _. refl)

found : (c : goal.Else-not-is_headed) → Decodes c.args.bytes.now c.in_ok-fact.fact
found c = decodes c.args.bytes.now c.head_in.result.0 c.head_in.result.1.now c.in_ok-fact.fact c.head_in.ensures.field c.in_ok-fact.ensures.ok (c.is_headed.ensures.0 c.if-not-is_headed.false)

pub returns-clause-ok : goal.returns-clause-ok
returns-clause-ok c = found c

pub returns-clause-complete : goal.returns-clause-complete
returns-clause-complete c = λ f spells.
    sym c.in_ok-fact.was ∙ c.fact_in.ensures.complete f (is_spelled c.args.bytes.now c.head_in.result.0 c.head_in.result.1.now f c.head_in.ensures.field c.head_in.ensures.fits spells)

pub returns-clause-err : goal.returns-clause-err
returns-clause-err c = (λ e. absurd cc, λ none. absurd (none c.in_ok-fact.fact (found c)))
