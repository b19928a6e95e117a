-- Places of units as bytes.
use Rattle.std.specs.Prelude.{ℕ, ◌<◌, ◌^◌, List, ◌++◌}
use Rattle.std.specs.List.{flat_map}
use Rattle.pur_base.specs.Bytes.{u8, u16}
use Rattle.pur_base.specs.declared.place.Place.{Place}

-- a place in three bytes
abbrev pub place_bytes : Place → List ℕ
place_bytes p = u8 p.slot ++ u16 p.unit

-- places one behind another
abbrev pub places_bytes : List Place → List ℕ
places_bytes = flat_map place_bytes

-- a place that three bytes can spell, on any shelf
pub record FitsBytes (p : Place) : Type 0 where
  pub slot : p.slot < 2 ^ 8
  pub unit : p.unit < 2 ^ 16
