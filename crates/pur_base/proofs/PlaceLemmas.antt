-- Places one behind another.
use Rattle.std.proofs.Common.{ℕ, ◌+◌, ◌<◌, List, [], ◌∷◌, length, take, All, set}
use Rattle.std.proofs.lemmas.List.{take_more_set}
use Rattle.std.proofs.lemmas.List.Elements.{All-append, All-cons, All-nil}
use Rattle.pur_base.specs.declared.place.Place.{Place}
use Rattle.pur_base.specs.Places.{FitsBytes}

pub fits_more : (places : List Place) (i : ℕ) (p : Place) → i < length places → All FitsBytes (take i places) → FitsBytes p → All FitsBytes (take (i + 1) (set places i p))
fits_more places i p lt so_far here = rw take_more_set (All-append FitsBytes (take i places) (p ∷ []) so_far (All-cons FitsBytes p [] here (All-nil FitsBytes)))
