-- Facts that stand on the drives of a segment, or of a patch.
use Rattle.std.specs.Prelude.{◌≡◌, ℕ, ◌/◌, ◌%◌, ◌<◌, Bool, List, ◌++◌, length, Some, slice_get}
use Rattle.std.specs.List.{AllByRecursion}
use Rattle.array_spec.specs.Prelude.{View, Place, AnyFact, Patch, PAGE_FACTS, Decodes, IsFact, SectorStands, StripesStand, pages, places_of_part, pages_in_part, IsShownAt}
use Rattle.world.specs.Prelude.{Shelved}
use Rattle.segment_io.specs.Prelude.{ShowsPresent, ShowsNoOther}
use Rattle.patch_io.specs.Tables.{AreInOrder}
use Rattle.patch_io.specs.Spelled.{fact_text}

-- ---- in a segment

-- the fact of that number stands there
abbrev pub StandsAt : View → List Place → ℕ → AnyFact → Type 0
StandsAt view places k f = (sector : List ℕ) × SectorStands view places (k / PAGE_FACTS) sector × Decodes (fact_text sector (k % PAGE_FACTS)) f

-- the facts stand there, one behind another
abbrev pub StandIn : View → List Place → List AnyFact → Type 0
StandIn view places facts = (k : ℕ) (f : AnyFact) → slice_get facts k ≡ Some f → StandsAt view places k f

-- each fact is what the drive of its sector shows, where that is shown
abbrev pub AreShownIn : View → List Place → List AnyFact → Type 0
AreShownIn view places facts = (k : ℕ) (f : AnyFact) → slice_get facts k ≡ Some f → (sector : List ℕ) × IsShownAt view places (k / PAGE_FACTS) sector × Decodes (fact_text sector (k % PAGE_FACTS)) f

-- Behind the old facts stand as many more, in order. They are those that stand in the segment by its present drives, and what the drives show that answered.
pub record ReadsPart (shelf after : Shelved) (places : List Place) (missing : List Bool) (tag count : ℕ) (old new : List AnyFact) : Type 0 where
  pub added : List AnyFact
  pub behind : new ≡ old ++ added
  pub size : length added ≡ count
  pub each : AllByRecursion IsFact added
  pub in_order : AreInOrder tag new
  pub stand : shelf.honest → (view : View) → ShowsPresent shelf places missing view → StripesStand view places (pages count) → StandIn view places added
  pub no_other : shelf.honest → (view : View) (others : List AnyFact) → ShowsPresent shelf places missing view → length others ≡ count → StandIn view places others → others ≡ added
  pub shown : shelf.honest → (view : View) → ShowsNoOther shelf after places missing view → AreShownIn view places added

-- ---- in a patch

-- as many facts as the patch names, of its table, in the order of their keys
pub record AreFactsOf (p : Patch) (facts : List AnyFact) : Type 0 where
  pub count : length facts ≡ p.facts
  pub each : AllByRecursion IsFact facts
  pub in_order : AreInOrder p.tag facts

-- in each segment each drive that isn't missing is shown as it stands
abbrev pub ShowsPatch : Shelved → Patch → List Bool → View → Type 0
ShowsPatch shelf p missing view = (part : ℕ) → part < length p.segments → ShowsPresent shelf (places_of_part p part) missing view

-- each stripe of the patch stands
abbrev pub StripesStandOf : View → Patch → Type 0
StripesStandOf view p = (part : ℕ) → part < length p.segments → StripesStand view (places_of_part p part) (pages_in_part p.facts part)

-- in each segment each drive is shown as it stands, or not at all; one that is missing, or on which a call failed, isn't shown
abbrev pub ShowsNoOtherOfPatch : Shelved → Shelved → Patch → List Bool → View → Type 0
ShowsNoOtherOfPatch old new p missing view = (part : ℕ) → part < length p.segments → ShowsNoOther old new (places_of_part p part) missing view
