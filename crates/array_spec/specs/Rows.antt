-- Worked rows, computed.
use Rattle.std.specs.Prelude.{◌≡◌, ℕ, List, [], ◌∷◌, ◌++◌, codes, map, replicate, Option, Some, None}
use Rattle.std.specs.List.{flat_map}
use Rattle.boot_codec.specs.Prelude.{filled, Request, Item, Asked, Syntax, requests, request_of, words, texts}
use Rattle.array_spec.specs.Acked.{acked}
use Rattle.array_spec.specs.Model.{answers}

-- a line with its end
abbrev pub line : List ℕ → List ℕ
line words = words ++ 10 ∷ []

-- what the model gives for an input, from the empty array on
abbrev pub output : List ℕ → List ℕ
output input = texts (answers [] (requests input))

-- a request without data, or a syntax fault
abbrev pub or_syntax : Option Request → Item
or_syntax None = Syntax
or_syntax (Some r) = Asked r []

-- the item of a line of any form, also of one that isn't in force yet
abbrev pub asked : List ℕ → Item
asked text = or_syntax (request_of (words text))

-- what the model gives for such lines, from the empty array on
abbrev pub replies_to : List (List ℕ) → List ℕ
replies_to lines = texts (answers [] (map asked lines))

-- no input, no output
abbrev pub EmptyInput : Type 0
EmptyInput = output [] ≡ []

-- a new volume reads as zeros
abbrev pub ReadsZeros : Type 0
ReadsZeros = output (line (codes "create a 8") ++ line (codes "read a 0 8"))
    ≡ line (codes "ok") ++ line (codes "data 8") ++ flat_map (λ s. s) (replicate 8 (filled 0))

-- fills are read back, and what passes the end is refused
abbrev pub FillsAndLists : Type 0
FillsAndLists = output (line (codes "create a 8") ++ line (codes "fill a 7 1 65") ++ line (codes "read a 7 1") ++ line (codes "fill a 7 2 65") ++ line (codes "list"))
    ≡ line (codes "ok") ++ line (codes "ok") ++ line (codes "data 1") ++ filled 65 ++ line (codes "no range") ++ line (codes "names 1") ++ line (codes "a volume 8")

-- a zeroing is read as zeros, and refused as a fill is
abbrev pub ZeroesSectors : Type 0
ZeroesSectors = output (line (codes "create a 8") ++ line (codes "fill a 0 2 65") ++ line (codes "zero a 1 2") ++ line (codes "read a 0 2") ++ line (codes "zero a 7 2") ++ line (codes "zero b 0 1"))
    ≡ line (codes "ok") ++ line (codes "ok") ++ line (codes "ok") ++ line (codes "data 2") ++ filled 65 ++ filled 0 ++ line (codes "no range") ++ line (codes "no unknown")

-- the data of a refused write is taken from the input
abbrev pub TakesDataOfRefusedWrite : Type 0
TakesDataOfRefusedWrite = output (line (codes "create a 8") ++ line (codes "write a 8 1") ++ replicate 512 66 ++ line (codes "list"))
    ≡ line (codes "ok") ++ line (codes "no range") ++ line (codes "names 1") ++ line (codes "a volume 8")

-- an input that ends inside the data of a write
abbrev pub CutsShortWrite : Type 0
CutsShortWrite = output (line (codes "create a 8") ++ line (codes "write a 0 1") ++ replicate 511 66)
    ≡ line (codes "ok") ++ line (codes "no cut")

-- lines of no form
abbrev pub RefusesOtherForms : Type 0
RefusesOtherForms = output (line [] ++ line (codes "create abcdefghijklmnopqrstuvwxy 1") ++ line (codes "fill a 0 65 1") ++ line (codes "read  a 0 1") ++ line (codes "create a 01"))
    ≡ line (codes "no syntax") ++ line (codes "no syntax") ++ line (codes "no syntax") ++ line (codes "no syntax") ++ line (codes "no syntax")

-- a volume has 1 to 1,048,576 sectors
abbrev pub RefusesSizes : Type 0
RefusesSizes = output (line (codes "create a 0") ++ line (codes "create a 1048577")) ≡ line (codes "no limit") ++ line (codes "no limit")

-- a copy within a volume reads the old content
abbrev pub CopiesOldContent : Type 0
CopiesOldContent = replies_to (codes "create a 8" ∷ codes "fill a 0 1 0" ∷ codes "fill a 1 1 1" ∷ codes "fill a 2 1 2" ∷ codes "fill a 3 1 3" ∷ codes "fill a 4 1 4" ∷ codes "fill a 5 1 5" ∷ codes "copy a 0 a 2 6" ∷ codes "read a 0 8" ∷ [])
    ≡ flat_map (λ (n : ℕ). line (codes "ok")) (replicate 8 0) ++ line (codes "data 8") ++ flat_map filled (0 ∷ 1 ∷ 0 ∷ 1 ∷ 2 ∷ 3 ∷ 4 ∷ 5 ∷ [])

-- a snapshot keeps what its volume had, and is not written
abbrev pub KeepsSnapshots : Type 0
KeepsSnapshots = replies_to (codes "create a 8" ∷ codes "snapshot a s" ∷ codes "fill a 0 1 1" ∷ codes "read s 0 1" ∷ codes "fill s 0 1 1" ∷ codes "create s 2" ∷ [])
    ≡ line (codes "ok") ++ line (codes "ok") ++ line (codes "ok") ++ line (codes "data 1") ++ filled 0 ++ line (codes "no read-only") ++ line (codes "no taken")

-- a clone reads on when all that it came from is destroyed
abbrev pub KeepsClones : Type 0
KeepsClones = replies_to (codes "create a 4" ∷ codes "fill a 0 4 1" ∷ codes "snapshot a s" ∷ codes "clone s b" ∷ codes "snapshot b t" ∷ codes "clone t c" ∷ codes "destroy s" ∷ codes "destroy b" ∷ codes "destroy t" ∷ codes "destroy a" ∷ codes "checkpoint" ∷ codes "read c 0 4" ∷ [])
    ≡ flat_map (λ (n : ℕ). line (codes "ok")) (replicate 11 0) ++ line (codes "data 4") ++ flat_map filled (1 ∷ 1 ∷ 1 ∷ 1 ∷ [])

-- a new volume has nothing of a destroyed one of its name
abbrev pub ForgetsDestroyed : Type 0
ForgetsDestroyed = replies_to (codes "create a 8" ∷ codes "fill a 0 1 9" ∷ codes "destroy a" ∷ codes "destroy a" ∷ codes "create a 8" ∷ codes "read a 0 1" ∷ [])
    ≡ line (codes "ok") ++ line (codes "ok") ++ line (codes "ok") ++ line (codes "no unknown") ++ line (codes "ok") ++ line (codes "data 1") ++ filled 0

-- a form that isn't in force is a syntax fault
abbrev pub RefusesLaterForms : Type 0
RefusesLaterForms = output (line (codes "clean 0") ++ line (codes "reclaim")) ≡ line (codes "no syntax") ++ line (codes "no syntax")

-- a flattening of what isn't there is refused
abbrev pub RefusesUnknown : Type 0
RefusesUnknown = output (line (codes "flatten x")) ≡ line (codes "no unknown")

-- an unfinished last line is a line
abbrev pub ReadsUnfinishedLine : Type 0
ReadsUnfinishedLine = output (line (codes "create a 8") ++ codes "list") ≡ line (codes "ok") ++ line (codes "names 1") ++ line (codes "a volume 8")

-- whole replies are counted, and a part of one is not
abbrev pub CountsReplies : Type 0
CountsReplies = acked (line (codes "ok") ++ line (codes "names 1") ++ line (codes "a volume 8") ++ line (codes "data 1") ++ replicate 512 10 ++ line (codes "no cut") ++ codes "no cu") ≡ 4

-- all of these
pub record WorkedRows : Type 0 where
  pub empty : EmptyInput
  pub zeros : ReadsZeros
  pub fills : FillsAndLists
  pub zeroes : ZeroesSectors
  pub refused_write : TakesDataOfRefusedWrite
  pub cut : CutsShortWrite
  pub syntax : RefusesOtherForms
  pub sizes : RefusesSizes
  pub copies : CopiesOldContent
  pub snapshots : KeepsSnapshots
  pub clones : KeepsClones
  pub destroyed : ForgetsDestroyed
  pub later : RefusesLaterForms
  pub unknown : RefusesUnknown
  pub unfinished : ReadsUnfinishedLine
  pub acked : CountsReplies
