-- What is said to an item, as an answer: sectors stand in a buffer, and names in memory.
use Rattle.std.specs.Prelude.{◌≡◌, ◌≤◌, List, ℕ, length, take, drop}
use Rattle.session_spec.specs.Prelude.{REQUEST_SECTORS, Array, Answer, Line, Sectors, Entries, refused, line_text, sectors_in, Memory, Contents, ReadsAs}
use Rattle.pur_base.specs.declared.reply.Reply.TheVariants as reply
use Rattle.array_engine.specs.declared.buffers.TheConstants.{LINE_ROOM, REPLY_BYTES}
use Rattle.array_engine.specs.declared.said.Said.{Said}
use Rattle.array_engine.specs.declared.said.Said.TheVariants as said

-- ---- sectors in the buffer of a reply

-- so many sectors, which stand behind the room for their line
abbrev pub read_in : ℕ → List ℕ → List (List ℕ)
read_in count bytes = sectors_in count (drop LINE_ROOM bytes)

-- the line of a reply of so many sectors begins there, and they follow it
pub record HasLine (bytes : List ℕ) (start count : ℕ) : Type 0 where
  pub within : start ≤ LINE_ROOM
  pub line : drop start (take LINE_ROOM bytes) ≡ line_text (reply.Data count)

-- the reply of so many sectors stands there
pub record IsDataReply (bytes : List ℕ) (start count : ℕ) : Type 0 where
  pub few : count ≤ REQUEST_SECTORS
  pub room : length bytes ≡ REPLY_BYTES
  pub line : HasLine bytes start count

-- ---- answers

-- memory reads as an array of these names
pub record IsListOf (m : Memory) (array : Array) : Type 0 where
  pub contents : Contents
  pub reads : ReadsAs contents m array

-- what is said is this answer, where these are the bytes of the reply's buffer
abbrev pub Says : Memory → List ℕ → Said → Answer → Type 0
Says m bytes said.Done q = q ≡ Line reply.Done
Says m bytes said.Left q = q ≡ Line reply.Left
Says m bytes said.Idle q = q ≡ Line reply.Idle
Says m bytes (said.Data count) q = q ≡ Sectors (read_in count bytes)
Says m bytes said.Names q = (array : Array) × IsListOf m array × (q ≡ Entries array)
Says m bytes (said.Numbers numbers) q = q ≡ Line (reply.Numbers numbers)
Says m bytes (said.Refused why) q = q ≡ refused why

-- the reply of sectors is there
abbrev pub HasReply : List ℕ → ℕ → Said → Type 0
HasReply bytes start (said.Data count) = IsDataReply bytes start count
HasReply bytes start _ = Unit {0}
