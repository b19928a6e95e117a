-- Requests that were read are within the bounds that memory and the log ask for.
use Rattle.array_engine.proofs.Prelude.{List, arith, IsLogged, ObjectFact, Request, IsCommand, IsAllowed, IsLawful, IsSpelledRequest}
use Rattle.pur_base.specs.declared.request.Request.TheVariants as request

pub is_lawful : (r : Request) → IsLogged r → IsSpelledRequest r → IsLawful r
is_lawful (request.Create n size) logs h = h.0
is_lawful (request.Write n lba count) logs h = h.few
is_lawful (request.Fill n lba count byte) logs h = h.0.few
is_lawful (request.Zero n lba count) logs h = h.few
is_lawful (request.Snapshot n new) logs h = h.1
is_lawful (request.Clone n new) logs h = h.1
is_lawful (request.Copy n lba m at count) logs h = h.some
is_lawful (request.Destroy n) logs h = tt
is_lawful _ logs h = absurd logs

pub is_command : (objects : List ObjectFact) (r : Request) → IsLogged r → IsSpelledRequest r → IsAllowed objects r → IsCommand r
is_command objects (request.Create n size) logs h allowed = (h.0, omega (arith, allowed.most))
is_command objects (request.Write n lba count) logs h allowed = (h.named, omega (arith, h.number), (h.some, h.few))
is_command objects (request.Fill n lba count byte) logs h allowed = (h.0.named, omega (arith, h.0.number), (h.0.some, h.0.few), h.1)
is_command objects (request.Zero n lba count) logs h allowed = (h.named, omega (arith, h.number), (h.some, h.few))
is_command objects (request.Snapshot n new) logs h allowed = h
is_command objects (request.Clone n new) logs h allowed = h
is_command objects (request.Copy n lba m at count) logs h allowed = (h.named, omega (arith, h.number), h.other_named, omega (arith, h.to_number), h.some, allowed.few)
is_command objects (request.Destroy n) logs h allowed = h
is_command objects _ logs h allowed = absurd logs
