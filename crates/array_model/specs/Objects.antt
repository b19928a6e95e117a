-- The plain array that named objects stand for.
use Rattle.std.specs.Prelude.{ℕ, List, map}
use Rattle.pur_base.specs.Prelude.{Entry, Array}
use Rattle.array_model.specs.declared.plain.Object.{Object}

-- an object under its name, as an entry of the plain array
abbrev pub entry_of : (List ℕ × Object) → Entry
entry_of e = record { name = e.0; snapshot = e.1.snapshot; sectors = e.1.sectors.items }

-- the objects, in order of creation, as a plain array
abbrev pub array_of : List (List ℕ × Object) → Array
array_of es = map entry_of es
