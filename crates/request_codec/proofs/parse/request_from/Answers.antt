use Rattle.request_codec.proofs.Prelude.{◌≡◌, ◌≤◌, Option, Some, None, subst, sym, arith, IfSome, Request, words, request_of, data_count, REQUEST_SECTORS, IsSpelledRequest}
use Rattle.pur_base.specs.declared.request.Request.TheVariants as request
use Rattle.request_codec.proofs.SpelledLemmas.{request-spelled}
use Rattle.request_codec.proofs.parse.request_from.Goals as goal

some-same : (o : Option Request) (r : Request) → IfSome o (λ x. x ≡ r) → IsSpelledRequest r → IfSome o IsSpelledRequest
some-same None r is h = tt
some-same (Some x) r is h = subst IsSpelledRequest (sym is) h

is-spelled : (o : Option Request) (r : Request) → Some r ≡ o → IfSome o IsSpelledRequest → IsSpelledRequest r
is-spelled None r is h = absurd cc
is-spelled (Some x) r is h = subst IsSpelledRequest (some-is is) h
  where
    some-is : Some r ≡ Some x → x ≡ r
    some-is e = cc e

few-data : (r : Request) → IsSpelledRequest r → data_count r ≤ REQUEST_SECTORS
few-data (request.Write n lba count) h = h.few
few-data _ h = omega arith

some-few : (o : Option Request) → IfSome o IsSpelledRequest → IfSome o (λ r. data_count r ≤ REQUEST_SECTORS)
some-few None h = tt
some-few (Some r) h = few-data r h

pub returns-clause-spelled : goal.returns-clause-spelled
returns-clause-spelled c =
    let line = words c.args.line.now in
    some-same c.if_served.result c.in_ok-request.request c.if_served.ensures.same (is-spelled (request_of line) c.in_ok-request.request c.in_ok-request.ensures.request (request-spelled line))

pub returns-clause-few : goal.returns-clause-few
returns-clause-few c = some-few c.if_served.result (returns-clause-spelled c)
