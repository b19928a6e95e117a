-- What a step of the plain array answers and leaves.
use Rattle.std.specs.Prelude.{◌≡◌, ℕ, List}
use Rattle.pur_base.specs.declared.request.Request.{Request}
use Rattle.pur_base.specs.declared.request.Request.TheVariants as request
use Rattle.pur_base.specs.declared.reply.Reply.TheVariants as reply
use Rattle.pur_base.specs.Prelude.{Asked, Array, span, Answer, Line, Sectors, Entries, refused, answer}
use Rattle.pur_base.specs.Replies.{after}
use Rattle.array_model.specs.declared.step.PlainReply.{PlainReply}
use Rattle.array_model.specs.declared.step.PlainReply.TheVariants as plain
use Rattle.array_model.specs.Held.{IsHeld, sectors_at}

-- the array holds the sectors that the reply points to
abbrev pub IsThere : Array → PlainReply → Type 0
IsThere a (plain.Data place) = IsHeld a place
IsThere a _ = Unit {0}

-- the answer that a reply stands for; the array holds its sectors or its names
abbrev pub answer_of : Array → PlainReply → Answer
answer_of a plain.Done = Line reply.Done
answer_of a (plain.Data place) = Sectors (span place.lba place.count (sectors_at a place.object))
answer_of a plain.Names = Entries a
answer_of a (plain.Refused why) = refused why

-- the array a answers the request as the model does, and goes on as b
pub record Meets (a : Array) (r : Request) (sectors : List (List ℕ)) (q : PlainReply) (b : Array) : Type 0 where
  pub there : IsThere b q
  pub reply : answer_of b q ≡ answer a (Asked r sectors)
  pub array : b ≡ after a (Asked r sectors)

-- a request that makes an object, which takes memory
abbrev pub TakesMemory : Request → Type 0
TakesMemory (request.Create n sectors) = Unit {0}
TakesMemory (request.Snapshot n new) = Unit {0}
TakesMemory (request.Clone n new) = Unit {0}
TakesMemory _ = ⊥
