use Rattle.fact_codec.proofs.AddressLemmas.{front_is}
use Rattle.fact_codec.proofs.address.address_head_in.Goals as goal

pub returns-in_default-clause-none : goal.returns-in_default-clause-none
returns-in_default-clause-none c = λ f spells.
    let found = c.in_default.ensures.complete f.target (front_is c.args.bytes.now c.u64_in-front.result.1.now c.u64_in-front.result.0 f c.u64_in-front.ensures.field spells) in
    absurd (cc found)
