-- A small memory: volumes a and b on mediums 1 and 2, and one sector of b written.
use Rattle.std.specs.Prelude.{ℕ, false, List, [], ◌∷◌}
use Rattle.array_spec.specs.Prelude.{Array, filled, Volume, Stored, ObjectFact, AddressFact, NextNumbers}
use Rattle.pyramid.specs.Prelude.{Layers}
use Rattle.memory_spec.specs.Memory.{Memory, Contents, ReadsAs}

-- a table of these facts, none of them flushed
abbrev pub unflushed : {F : Type 0} → List F → Layers F
unflushed fs = record { patches = []; unflushed = fs; room = 0; patch_room = 0 }

-- a volume of that id, on the medium of that id
abbrev pub volume : ℕ → List ℕ → ℕ → ObjectFact
volume id name sectors = record { object = record { 0 = id }; kind = Volume; sectors = sectors; medium = record { 0 = id }; name = name; seq = record { 0 = id } }

-- sector 1 of medium 2 is the first staged one
abbrev pub written : AddressFact
written = record { medium = record { 0 = 2 }; sector = 1; target = Stored (record { segment = record { 0 = 0 }; index = 0 }); seq = record { 0 = 3 } }

-- memory of these objects, addresses and staged sectors
abbrev pub memory_of : List ObjectFact → List AddressFact → List (List ℕ) → NextNumbers → Memory
memory_of objects addresses staged next = record {
  tables = record { objects = unflushed objects; mediums = unflushed []; addresses = unflushed addresses; segments = unflushed []; elisions = unflushed [] };
  staged = staged;
  next = next;
}

-- the next object, medium and sequence number
abbrev pub next_of : ℕ → ℕ → ℕ → NextNumbers
next_of object medium sequence = record { object = object; medium = medium; segment = 1; patch_segment = 1; sequence = sequence }

abbrev pub two_volumes : Memory
two_volumes = memory_of (volume 1 (97 ∷ []) 1 ∷ volume 2 (98 ∷ []) 2 ∷ []) (written ∷ []) (filled 7 ∷ []) (next_of 3 3 4)

abbrev pub two_entries : Array
two_entries = record { name = 97 ∷ []; snapshot = false; sectors = filled 0 ∷ [] } ∷ record { name = 98 ∷ []; snapshot = false; sectors = filled 0 ∷ filled 7 ∷ [] } ∷ []

-- it is sound, and reads as these entries
abbrev pub TwoVolumesRead : Type 0
TwoVolumesRead = (contents : Contents) → ReadsAs contents two_volumes two_entries
