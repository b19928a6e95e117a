-- The visible objects beside the facts that they come from.
use Rattle.std.specs.Prelude.{◌≡◌, ◌≢◌, ℕ, ◌==◌, Bool, List, All, AllPairs, map, if◌then◌else◌}
use Rattle.pyramid.specs.Prelude.{Ascends, object_key, never, ObjectFact, MediumId, Seq, Layers, facts_in, IsShown}

-- the facts of all objects, and the objects that are visible, in order of creation
pub record Objects : Type 0 where
  pub facts : Layers ObjectFact
  pub visible : List ObjectFact
  -- how many more objects are named without memory
  pub name_room : ℕ

-- the sequence number of a fact
abbrev pub number : ObjectFact → ℕ
number f = f.seq.0

-- the visible objects are what the facts say where those ids are elided
abbrev pub AreVisible : (ℕ → Bool) → Objects → Type 0
AreVisible elided t = IsShown object_key number never (facts_in t.facts) elided t.visible

-- no two objects have one name
abbrev pub AreNamesDistinct : List ObjectFact → Type 0
AreNamesDistinct objects = AllPairs (λ x y. x.name ≢ y.name) objects

-- the object, if it is that one with another medium, as a newer fact says
abbrev pub with_medium : ℕ → MediumId → Seq → ObjectFact → ObjectFact
with_medium id medium seq x = if x.object.0 == id then record x { medium = medium; seq = seq } else x

-- the objects of a map from names to objects
abbrev pub objects_of : List (List ℕ × ObjectFact) → List ObjectFact
objects_of entries = map (λ e. e.1) entries

-- each object stands at its own name, in order of creation
pub record AreListed (entries : List (List ℕ × ObjectFact)) : Type 0 where
  pub named : All (λ e. e.0 ≡ e.1.name) entries
  pub ascends : Ascends object_key (objects_of entries)
