-- Replies, what the model answers, and the text of a reply.
use Rattle.std.specs.Prelude.{ℕ, Bool, if◌then◌else◌, List, [], ◌∷◌, ◌++◌, length, codes, decimal, Option, Some, None}
use Rattle.std.specs.List.{flat_map}
use Rattle.pur_base.specs.declared.request.Request.{Request}
use Rattle.pur_base.specs.declared.request.Request.TheVariants as request
use Rattle.pur_base.specs.declared.reply.Refusal.{Refusal}
use Rattle.pur_base.specs.declared.reply.Refusal.TheVariants as refusals
use Rattle.pur_base.specs.declared.reply.Reply.{Reply}
use Rattle.pur_base.specs.declared.reply.Reply.TheVariants as reply
use Rattle.pur_base.specs.Plain.{Entry, Array, refusal, done, span, sectors_of}
use Rattle.pur_base.specs.Grammar.{Item, Asked, Syntax, Cut}

-- A whole reply: its first line, and the sectors or the entries that follow it.
pub data Answer : Type 0 where
  Line : Reply → Answer
  Sectors : List (List ℕ) → Answer
  Entries : List Entry → Answer

-- a refusal as an answer
abbrev pub refused : Refusal → Answer
refused why = Line (reply.Refused why)

-- ---- what the model answers

-- the answer to a request that isn't refused
abbrev pub given : Array → Request → Answer
given a (request.Read n lba count) = Sectors (span lba count (sectors_of a n))
given a request.List = Entries a
given a _ = Line reply.Done

-- the answer, unless the request is refused
abbrev pub answer_unless : Option Refusal → Answer → Answer
answer_unless (Some why) q = refused why
answer_unless None q = q

-- the array after the request, unless it is refused
abbrev pub after_unless : Option Refusal → Array → Array → Array
after_unless (Some why) a b = a
after_unless None a b = b

-- the model's answer to an item
abbrev pub answer : Array → Item → Answer
answer a (Asked r sectors) = answer_unless (refusal a r) (given a r)
answer a Syntax = refused refusals.Syntax
answer a Cut = refused refusals.Cut

-- the array after it
abbrev pub after : Array → Item → Array
after a (Asked r sectors) = after_unless (refusal a r) a (done a r sectors)
after a Syntax = a
after a Cut = a

-- ---- text

-- the word of a refusal
abbrev pub word : Refusal → List ℕ
word refusals.Cut = codes "cut"
word refusals.Syntax = codes "syntax"
word refusals.Halted = codes "halted"
word refusals.Unknown = codes "unknown"
word refusals.Taken = codes "taken"
word refusals.ReadOnly = codes "read-only"
word refusals.Range = codes "range"
word refusals.Limit = codes "limit"
word refusals.Spent = codes "spent"
word refusals.NothingThere = codes "nothing-there"
word refusals.Member = codes "member"
word refusals.Missing = codes "missing"
word refusals.TooFew = codes "too-few"
word refusals.Space = codes "space"
word refusals.Memory = codes "memory"
word refusals.Device = codes "device"

-- each number behind a space
abbrev pub numbers_text : List ℕ → List ℕ
numbers_text ns = flat_map (λ n. 32 ∷ decimal n) ns

-- the first line of a reply, with its end
abbrev pub line_text : Reply → List ℕ
line_text reply.Done = codes "ok" ++ 10 ∷ []
line_text (reply.Data count) = codes "data " ++ decimal count ++ 10 ∷ []
line_text (reply.Names count) = codes "names " ++ decimal count ++ 10 ∷ []
line_text (reply.Controller number) = codes "ok controller " ++ decimal number ++ 10 ∷ []
line_text (reply.Numbers numbers) = codes "status" ++ numbers_text numbers ++ 10 ∷ []
line_text reply.Idle = codes "ok idle" ++ 10 ∷ []
line_text reply.Left = codes "ok left" ++ 10 ∷ []
line_text reply.Member = codes "ok member" ++ 10 ∷ []
line_text (reply.Refused why) = codes "no " ++ word why ++ 10 ∷ []

-- what stands between the name and the size of an entry
abbrev pub kind_text : Bool → List ℕ
kind_text snapshot = if snapshot then codes " snapshot " else codes " volume "

-- NAME volume SECTORS or NAME snapshot SECTORS
abbrev pub entry_text : List ℕ → Bool → ℕ → List ℕ
entry_text name snapshot sectors = name ++ kind_text snapshot ++ decimal sectors ++ 10 ∷ []

-- a line an entry
abbrev pub entries_text : List Entry → List ℕ
entries_text es = flat_map (λ e. entry_text e.name e.snapshot (length e.sectors)) es

-- sectors one behind another
abbrev pub sectors_text : List (List ℕ) → List ℕ
sectors_text ss = flat_map (λ s. s) ss

-- the bytes of an answer
abbrev pub text : Answer → List ℕ
text (Line r) = line_text r
text (Sectors ss) = line_text (reply.Data (length ss)) ++ sectors_text ss
text (Entries es) = line_text (reply.Names (length es)) ++ entries_text es

-- the bytes of answers, one behind another
abbrev pub texts : List Answer → List ℕ
texts qs = flat_map text qs
