-- The words that are left of a line.
use Rattle.std.specs.Prelude.{ℕ, List, [], Option, Some, None}
use Rattle.world.specs.Prelude.{words}
use Rattle.request_codec.specs.declared.words.Words.{Words}
use Rattle.std.specs.Borrow.{Bor}

-- the words of a text, if there is one
abbrev pub words_in : Option (Bor (List ℕ)) → List (List ℕ)
words_in None = []
words_in (Some text) = words text.now

-- the words that are left
abbrev pub left_words : Words → List (List ℕ)
left_words w = words_in w.rest
