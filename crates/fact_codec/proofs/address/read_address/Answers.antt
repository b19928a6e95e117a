use Rattle.fact_codec.proofs.Prelude.{◌≡◌, subst, sym, ◌∙◌, IsLawful}
use Rattle.pur_base.specs.declared.facts.AddressFact.{AddressFact}
use Rattle.pur_base.specs.declared.facts.AnyFact.TheVariants as any
use Rattle.fact_codec.proofs.HeadLemmas.{is_spelled, decodes}
use Rattle.fact_codec.proofs.AddressLemmas.{headed}
use Rattle.fact_codec.proofs.address.read_address.Goals as goal

pub returns-in_err-address-clause-complete : goal.returns-in_err-address-clause-complete
returns-in_err-address-clause-complete c = λ f spells.
    let read = c.address_in.ensures.complete f (is_spelled c.args.bytes.now c.in-Some.head c.in-Some.value.now (any.Address f) c.in-Some.ensures.field c.in-Some.ensures.fits spells) in
    let was = c.in_err-address.was in
    absurd (cc (read, was))

pub returns-then-not-is_lawful_address-clause-complete : goal.returns-then-not-is_lawful_address-clause-complete
returns-then-not-is_lawful_address-clause-complete c = λ f spells.
    let is = is_spelled c.args.bytes.now c.in-Some.head c.in-Some.value.now (any.Address f) c.in-Some.ensures.field c.in-Some.ensures.fits spells in
    let read = c.address_in.ensures.complete f is in
    let was = c.in_ok-address.was in
    let same : f ≡ c.in_ok-address.address = cc in
    let lawful = c.is_lawful_address.ensures.1 (subst (λ (x : AddressFact). IsLawful (any.Address x)) same is.fact.lawful) in
    absurd (cc (lawful, c.if-not-is_lawful_address.true))

pub returns-clause-ok : goal.returns-clause-ok
returns-clause-ok c =
    decodes c.args.bytes.now c.in-Some.head c.in-Some.value.now (any.Address c.in_ok-address.address) c.in-Some.ensures.field c.in_ok-address.ensures.ok
    (record {
      lawful = c.is_lawful_address.ensures.0 c.if-not-is_lawful_address.false;
      same_head = headed c.in-Some.head c.in_ok-address.address c.in-Some.ensures.head c.in_ok-address.ensures.head;
    })

pub returns-clause-complete : goal.returns-clause-complete
returns-clause-complete c = λ f spells.
    sym c.in_ok-address.was ∙ c.address_in.ensures.complete f (is_spelled c.args.bytes.now c.in-Some.head c.in-Some.value.now (any.Address f) c.in-Some.ensures.field c.in-Some.ensures.fits spells)
