-- Small examples of the definitions, computed.
use Rattle.std.specs.Prelude.{◌≡◌, ℕ, true, List, [], ◌∷◌, ◌++◌, map, replicate, Some, None}
use Rattle.std.specs.List.{range_with_len}
use Rattle.pur_base.specs.declared.request.Table.TheVariants as table
use Rattle.boot_codec.specs.Prelude.{Location, Volume, Snapshot, Stored, ObjectFact, MediumFact, AddressFact, Facts, address, objects, is_elided, Reads}
use Rattle.array_spec.specs.Counts.{IsGroups, stored, pointed}

-- ---- room

-- eleven drives of 61 free units
abbrev pub eleven : List ℕ
eleven = replicate 11 61

-- after one take: nine of them have one less
abbrev pub eleven_less_one : List ℕ
eleven_less_one = replicate 9 60 ++ replicate 2 61

-- after four
abbrev pub eleven_less_four : List ℕ
eleven_less_four = replicate 3 57 ++ replicate 8 58

-- room for 74 segments, for 73 after one take, and for 70 after four
pub record GroupsOfEleven : Type 0 where
  pub fresh : IsGroups eleven 74
  pub after_one : IsGroups eleven_less_one 73
  pub after_four : IsGroups eleven_less_four 70

-- ---- facts

-- a volume of that id, size, medium and name
abbrev pub fact_of_object : ℕ → ℕ → ℕ → List ℕ → ℕ → ObjectFact
fact_of_object id sectors medium name seq =
    record { object = record { 0 = id }; kind = Volume; sectors = sectors; medium = record { 0 = medium }; name = name; seq = record { 0 = seq } }

-- an index of a segment
abbrev pub location : ℕ → ℕ → Location
location segment index = record { segment = record { 0 = segment }; index = index }

-- a sector of a medium that stands there
abbrev pub fact_of_address : ℕ → ℕ → Location → ℕ → AddressFact
fact_of_address medium sector at seq = record { medium = record { 0 = medium }; sector = sector; target = Stored at; seq = record { 0 = seq } }

-- the volume's medium 2 leads to medium 1
abbrev pub new_range : MediumFact
new_range = record { medium = record { 0 = 2 }; start = 0; end = 8; target = record { 0 = 1 }; target_start = 0; seq = record { 0 = 6 } }

-- volume a was written twice, a snapshot s was taken, and mediums 3 and 4 are elided from the addresses
abbrev pub some_facts : Facts
some_facts = record {
  objects = fact_of_object 1 8 1 (97 ∷ []) 1 ∷ fact_of_object 1 8 2 (97 ∷ []) 5 ∷ record (fact_of_object 2 8 1 (115 ∷ []) 4) { kind = Snapshot } ∷ [];
  mediums = new_range ∷ [];
  addresses = fact_of_address 1 0 (location 1 0) 2 ∷ fact_of_address 1 0 (location 1 1) 3 ∷ fact_of_address 3 0 (location 1 2) 7 ∷ [];
  segments = record { segment = record { 0 = 1 }; places = map (λ i. record { slot = i; unit = 3 }) (range_with_len 0 9); placed = 3; seq = record { 0 = 8 } } ∷ [];
  elisions = record { first = 3; table = table.Address; last = 4; seq = record { 0 = 9 } } ∷ [];
}

-- what these facts say
pub record WhatFactsSay : Type 0 where
  -- the newest fact of a key counts
  pub newest : address some_facts 1 0 ≡ Some (Stored (location 1 1))
  -- the volume's new medium has no address of its own, and reads through its range
  pub through : address some_facts 2 0 ≡ None
  pub reads : Reads some_facts 2 0 (Stored (location 1 1))
  -- an elided id has none, whatever its facts
  pub elided : address some_facts 3 0 ≡ None
  pub next_elided : is_elided some_facts.elisions table.Address 4 ≡ true
  -- the volume is on its new medium, the snapshot on the old one
  pub mediums : map (λ x. x.medium.0) (objects some_facts 3) ≡ 2 ∷ 1 ∷ []
  pub stored : stored some_facts 2 ≡ 3
  pub pointed : pointed some_facts 2 ≡ 1
