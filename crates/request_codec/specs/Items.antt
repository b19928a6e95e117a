-- What a call of next did: before and after are the unread bytes.
use Rattle.std.specs.Prelude.{◌≡◌, ℕ, ◌<◌, true, false, List, [], ◌∷◌, ◌++◌, length}
use Rattle.pur_base.specs.Grammar as grammar
use Rattle.world.specs.Prelude.{Asked, Syntax, Cut, first_item, data_count, is_in_force, is_whole}
use Rattle.request_codec.specs.Spelled.{IsSpelledRequest}
use Rattle.request_codec.specs.declared.reader.Item.{Item}
use Rattle.request_codec.specs.declared.reader.Item.TheVariants as item

-- An item is the first of the unread bytes. At the limit there are more bytes than those of the part of an item that was taken.
abbrev pub Reads : Item → List (List ℕ) → List ℕ → List ℕ → Type 0
Reads (item.Request r) sectors before after = (0 < length before) × (first_item before ≡ (Asked r sectors, after))
Reads item.Syntax sectors before after = (0 < length before) × (first_item before ≡ (Syntax, after))
Reads item.Cut sectors before after = (0 < length before) × (first_item before ≡ (Cut, after))
Reads item.End sectors before after = (before ≡ []) × (after ≡ [])
Reads item.Limit sectors before after = (rest : List ℕ) × (byte : ℕ) × (before ≡ rest ++ byte ∷ after) × (is_whole rest ≡ false)

-- a request or a fault takes a byte at least
abbrev pub TakesSome : Item → ℕ → ℕ → Type 0
TakesSome item.End before after = Unit {0}
TakesSome item.Limit before after = Unit {0}
TakesSome _ before after = after < before

-- a request is of a form in force
abbrev pub IsServed : Item → Type 0
IsServed (item.Request r) = is_in_force r ≡ true
IsServed _ = Unit {0}

-- a request's fields are within their bounds
abbrev pub IsSpelled : Item → Type 0
IsSpelled (item.Request r) = IsSpelledRequest r
IsSpelled _ = Unit {0}

-- a request comes with its data
abbrev pub HasData : Item → List (List ℕ) → Type 0
HasData (item.Request r) sectors = length sectors ≡ data_count r
HasData _ sectors = Unit {0}

-- a request is one that can be answered
pub record IsComplete (item : Item) (sectors : List (List ℕ)) : Type 0 where
  pub served : IsServed item
  pub spelled : IsSpelled item
  pub has_data : HasData item sectors

-- the item of the grammar that was read
abbrev pub item_read : Item → List (List ℕ) → grammar.Item
item_read (item.Request r) sectors = Asked r sectors
item_read item.Cut sectors = Cut
item_read _ sectors = Syntax
