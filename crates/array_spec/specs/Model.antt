-- The model alone: its answers to a list of items, and the array that they leave.
use Rattle.std.specs.Prelude.{List, [], ◌∷◌}
use Rattle.boot_codec.specs.Prelude.{Array, Item, Answer, answer, after}

-- the model's answers to the items, one each
abbrev pub answers : Array → List Item → List Answer
answers a [] = []
answers a (item ∷ items) = answer a item ∷ answers (after a item) items

-- the array that the items leave
abbrev pub left_by : Array → List Item → Array
left_by a [] = a
left_by a (item ∷ items) = left_by (after a item) items
