use Rattle.lower_tests.proofs.Prelude.{◌+◌, ◌<◌, ◌∙◌, arith, AddressFact, address_key}
use Rattle.lower_tests.proofs.GridLemmas.{newest_alone, each_with}
use Rattle.lower_tests.proofs.chained.say.Goals as goal

pub put_run-requires-clause-newest : goal.put_run-requires-clause-newest
put_run-requires-clause-newest c =
    newest_alone address_key (λ (a : AddressFact). a.seq.0) c.args.addresses.now.facts.patches c.args.addresses.now.facts.unflushed _ c.requires.none c.requires.each

pub returns-in-Ok : goal.returns-in-Ok
returns-in-Ok c = λ _. record {
  none = c.in-Ok.ensures.patches ∙ c.requires.none;
  each = each_with (λ (a : AddressFact). a.seq.0 < c.args.number) (λ (a : AddressFact). a.seq.0 < c.args.number + 1) c.put_run.new.self.facts.unflushed c.args.addresses.now.facts.unflushed _
      (λ a less. omega (arith, less)) c.requires.each (omega arith) c.in-Ok.ensures.facts;
}
