-- Logged commands, and what they make of the plain array.
use Rattle.std.specs.Prelude.{◌≡◌, ℕ, Bool, true, false, List, [], ◌∷◌, fold, None}
use Rattle.pur_base.specs.declared.request.Request.{Request}
use Rattle.pur_base.specs.declared.request.Request.TheVariants as request
use Rattle.pur_base.specs.Plain.{Array, refusal}
use Rattle.pur_base.specs.Grammar.{Asked}
use Rattle.pur_base.specs.Replies as replies

-- requests that are logged
abbrev pub IsLogged : Request → Type 0
IsLogged (request.Create n sectors) = Unit {0}
IsLogged (request.Write n lba count) = Unit {0}
IsLogged (request.Fill n lba count byte) = Unit {0}
IsLogged (request.Zero n lba count) = Unit {0}
IsLogged (request.Snapshot n new) = Unit {0}
IsLogged (request.Clone n new) = Unit {0}
IsLogged (request.Copy n lba m to count) = Unit {0}
IsLogged (request.Destroy n) = Unit {0}
IsLogged _ = ⊥

-- it takes an object away, and adds nothing
abbrev pub is_removal : Request → Bool
is_removal (request.Destroy n) = true
is_removal _ = false

-- a request, with the sectors that a write brings
pub record Command : Type 0 where
  pub request : Request
  pub sectors : List (List ℕ)

-- the array accepts the command
abbrev pub Accepts : Array → Command → Type 0
Accepts a c = refusal a c.request ≡ None

-- a refused command leaves the array
abbrev pub after : Array → Command → Array
after a c = replies.after a (Asked c.request c.sectors)

-- what the commands make of the array, one after the other
abbrev pub after_all : Array → List Command → Array
after_all a commands = fold after a commands

-- each command is accepted after those before it
abbrev pub AllAccepted : Array → List Command → Type 0
AllAccepted a [] = Unit {0}
AllAccepted a (c ∷ cs) = Accepts a c × AllAccepted (after a c) cs
