-- Runs: which replies may come to which items, and what was acknowledged.
use Rattle.std.specs.Prelude.{◌≡◌, ◌≢◌, ◌⊎◌, List, [], ◌∷◌, length, None}
use Rattle.boot_codec.specs.Prelude.{Request, Refusal, Reply, Array, refusal, Item, Asked, Syntax, Cut, Answer, Line, answer, after}
use Rattle.pur_base.specs.declared.request.Request.TheVariants as request
use Rattle.pur_base.specs.declared.reply.Refusal.TheVariants as refusals
use Rattle.pur_base.specs.declared.reply.Reply.TheVariants as reply

-- refusals whose cause isn't in the plain array
abbrev pub IsPhysical : Refusal → Type 0
IsPhysical refusals.Limit = Unit {0}
IsPhysical refusals.Spent = Unit {0}
IsPhysical refusals.NothingThere = Unit {0}
IsPhysical refusals.Member = Unit {0}
IsPhysical refusals.Missing = Unit {0}
IsPhysical refusals.TooFew = Unit {0}
IsPhysical refusals.Space = Unit {0}
IsPhysical refusals.Memory = Unit {0}
IsPhysical refusals.Device = Unit {0}
IsPhysical _ = ⊥

-- refusals that stand before the model's: the array is halted, or a takeover that is owed failed again
abbrev pub IsBarred : Refusal → Type 0
IsBarred refusals.Halted = Unit {0}
IsBarred refusals.Memory = Unit {0}
IsBarred refusals.Device = Unit {0}
IsBarred _ = ⊥

-- the replies to background steps, drive commands, takeover and status
abbrev pub IsStepReply : Request → Reply → Type 0
IsStepReply request.Status (reply.Numbers ns) = length ns ≡ 10
IsStepReply request.Takeover (reply.Controller c) = Unit {0}
IsStepReply request.Checkpoint reply.Done = Unit {0}
IsStepReply (request.Merge t i) reply.Done = Unit {0}
IsStepReply (request.Evict d) reply.Done = Unit {0}
IsStepReply (request.Admit d) reply.Done = Unit {0}
IsStepReply (request.Flatten n) reply.Done = Unit {0}
IsStepReply (request.Flatten n) reply.Idle = Unit {0}
IsStepReply (request.Flatten n) reply.Left = Unit {0}
IsStepReply (request.Clean p) reply.Done = Unit {0}
IsStepReply (request.Clean p) reply.Idle = Unit {0}
IsStepReply (request.Clean p) reply.Left = Unit {0}
IsStepReply request.Reclaim reply.Done = Unit {0}
IsStepReply request.Reclaim reply.Idle = Unit {0}
IsStepReply request.Reclaim reply.Left = Unit {0}
IsStepReply (request.Rebuild d) reply.Left = Unit {0}
IsStepReply (request.Rebuild d) reply.Member = Unit {0}
IsStepReply _ _ = ⊥

-- Whether the model itself answers. Background steps, drive commands, takeover and status have replies of their own.
abbrev pub IsModelled : Request → Type 0
IsModelled request.Status = ⊥
IsModelled request.Takeover = ⊥
IsModelled request.Checkpoint = ⊥
IsModelled (request.Merge t i) = ⊥
IsModelled (request.Flatten n) = ⊥
IsModelled (request.Clean p) = ⊥
IsModelled request.Reclaim = ⊥
IsModelled (request.Evict d) = ⊥
IsModelled (request.Admit d) = ⊥
IsModelled (request.Rebuild d) = ⊥
IsModelled _ = Unit {0}

-- A refusal by the model is an answer to any request.
abbrev pub IsModelledItem : Array → Item → Type 0
IsModelledItem a (Asked r sectors) = IsModelled r ⊎ (refusal a r ≢ None)
IsModelledItem a Syntax = Unit {0}
IsModelledItem a Cut = Unit {0}

-- a reply that leaves the array, and whose cause isn't in it
abbrev pub IsOther : Array → Item → Answer → Type 0
IsOther a (Asked r sectors) (Line (reply.Refused why)) = IsBarred why ⊎ ((refusal a r ≡ None) × IsPhysical why)
IsOther a (Asked r sectors) (Line q) = (refusal a r ≡ None) × IsStepReply r q
IsOther a _ _ = ⊥

-- the model's own reply, with its effect
abbrev pub IsModels : Array → Item → Answer → Array → Type 0
IsModels a item q b = IsModelledItem a item × (q ≡ answer a item) × (b ≡ after a item)

-- The array a may give this reply to the item, and go on as b.
abbrev pub Step : Array → Item → Answer → Array → Type 0
Step a item q b = IsModels a item q b ⊎ (IsOther a item q × (b ≡ a))

-- The replies qs are those of steps by S to the first of the items, one each, and lead from a to b.
abbrev pub RunsBy : (Array → Item → Answer → Array → Type 0) → Array → List Item → List Answer → Array → Type 0
RunsBy S a items [] b = b ≡ a
RunsBy S a [] (q ∷ qs) b = ⊥
RunsBy S a (item ∷ items) (q ∷ qs) b = (m : Array) × S a item q m × RunsBy S m items qs b

-- the replies are lawful ones to the first of the items, and lead from a to b
abbrev pub Runs : Array → List Item → List Answer → Array → Type 0
Runs a items qs b = RunsBy Step a items qs b
