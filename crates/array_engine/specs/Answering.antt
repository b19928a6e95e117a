-- Items that are answered.
use Rattle.std.specs.Prelude.{◌≡◌, true}
use Rattle.session_spec.specs.Prelude.{is_in_force}
use Rattle.request_codec.specs.declared.reader.Item.{Item}
use Rattle.request_codec.specs.declared.reader.Item.TheVariants as item

-- an item of the grammar, and no end of the input; a request is of a form in force
abbrev pub IsAnswered : Item → Type 0
IsAnswered (item.Request r) = is_in_force r ≡ true
IsAnswered item.Syntax = Unit {0}
IsAnswered item.Cut = Unit {0}
IsAnswered item.Limit = ⊥
IsAnswered item.End = ⊥
