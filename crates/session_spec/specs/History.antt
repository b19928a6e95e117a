-- Histories: an array is made, and one session follows another.
use Rattle.std.specs.Prelude.{◌≡◌, ◌⊎◌, ◌<◌, ℕ, zero, suc, true, false, List, [], ◌∷◌, ◌++◌, length, drop}
use Rattle.memory_spec.specs.Prelude.{Geometry, Conditions, IsBearable, Array, requests, Answer, text, texts, Status, AcceptsNext, Runs}
use Rattle.world.specs.Prelude.{Shelved, Stop, MayStop, IsQuiet, IsQuietBy, IsLater, geometry_of}
use Rattle.session_spec.specs.Chain.{EntersWith, Resumes}
use Rattle.session_spec.specs.Entering.{IsStanding, failed_by, failed_since, read_now}
use Rattle.session_spec.specs.Faring.{now_missing}
use Rattle.session_spec.specs.Headline.{IsOpenedBearably, Opening, Replied, Served, Serving, Unopened}
use Rattle.session_spec.specs.Making.{IsMade, none_missing}

-- ---- what sessions make of the plain array

-- what came in in a session, and what it gave
pub record Exchange : Type 0 where
  pub input : List ℕ
  pub output : List ℕ

-- a part of a reply, of which some is missing
pub record IsPartOfReply (part : List ℕ) : Type 0 where
  pub reply : Answer
  pub missing : List ℕ
  pub spelled : text reply ≡ part ++ missing
  pub some : 0 < length missing

-- What a session makes of an array: the replies that it gave whole are lawful ones to its first items, with their effect, and the next item may be done as well.
pub record IsMadeOf (before : Array) (e : Exchange) (now : Array) : Type 0 where
  pub replies : List Answer
  pub acknowledged : Array
  pub run : Runs before (requests e.input) replies acknowledged
  pub part : List ℕ
  pub is_part : (part ≡ []) ⊎ IsPartOfReply part
  pub output : e.output ≡ texts replies ++ part
  pub state : (now ≡ acknowledged) ⊎ AcceptsNext acknowledged (drop (length replies) (requests e.input)) now

-- The arrays to which sessions lead from the array of nothing, the last one first: as after a prefix of the items that each was asked, in which each is that it acknowledged.
abbrev pub LeadTo : List Exchange → Array → Type 0
LeadTo [] now = now ≡ []
LeadTo (e ∷ earlier) now = (before : Array) × LeadTo earlier before × IsMadeOf before e now

-- ---- from one session to the next

-- What is promised of a session: it isn't opened, or it's served.
abbrev pub IsSession : (old new : Shelved) (input left : List ℕ) → Status → Type 0
IsSession old new input left ended = Unopened old new input left ended ⊎ Served old new input left ended

module _ {A : Type 0} (shelf_of : A → Shelved) where
  -- As long as what counts as missing is borne, each next session that finds what was left has Q.
  abbrev pub GoesOnAs : (shelf : Geometry) → Conditions → (A → Conditions → Type 0) → (A → Conditions → Type 0) → Type 0
  GoesOnAs shelf now Finds Q = IsBearable shelf now → (next : A) (missing : Conditions) → Finds next missing → Q next missing

  -- It finds what a stop left.
  abbrev pub FindsStop : Geometry → Stop → Conditions → A → Conditions → Type 0
  FindsStop shelf stop now next missing = Resumes shelf (λ was. was ≡ stop.image) now (shelf_of next) missing

  -- It finds what a session left at its end.
  abbrev pub FindsEnd : A → Conditions → A → Conditions → Type 0
  FindsEnd ended now next missing = Resumes (geometry_of (shelf_of ended)) (λ was. (stop : Stop) × MayStop (shelf_of ended) stop × (was ≡ stop.image)) now (shelf_of next) missing

  -- A session is stopped. In the opening those count as missing that did at the entry, and those that failed since. After it, where so many replies were whole, those that the record in force
  -- doesn't name, and those on which a write failed since; of an array that was halted by then nothing is told.
  abbrev pub GoesOnFromStop : (old new : A) (input left : List ℕ) → Status → Conditions → Stop → (A → Conditions → Type 0) → Type 0
  GoesOnFromStop old new input left ended missing stop Q =
      (IsQuietBy (shelf_of old) stop × GoesOnAs (geometry_of (shelf_of old)) (failed_by (shelf_of old) stop missing) (FindsStop (geometry_of (shelf_of old)) stop (failed_by (shelf_of old) stop missing)) Q)
      ⊎ ((o : Opening (shelf_of old)) × IsLater o.stop stop × (IsOpenedBearably (shelf_of old) o missing
      → (s : Serving true (shelf_of old) (shelf_of new) input left ended o)
      × (at : Replied true (geometry_of (shelf_of old)) ((shelf_of new).left_since o.moment) s.first (requests input) stop)
      × (at.point.halted ≡ false → GoesOnAs (geometry_of (shelf_of old)) (now_missing at.point stop) (FindsStop (geometry_of (shelf_of old)) stop (now_missing at.point stop)) Q)))

  -- A session has ended, opened or not.
  abbrev pub GoesOnFromEnd : (old new : A) (input left : List ℕ) → Status → Conditions → (A → Conditions → Type 0) → Type 0
  GoesOnFromEnd old new input left ended missing Q =
      (IsQuiet (shelf_of old) (shelf_of new) × GoesOnAs (geometry_of (shelf_of old)) (failed_since (shelf_of old) (shelf_of new) missing) (FindsEnd new (failed_since (shelf_of old) (shelf_of new) missing)) Q)
      ⊎ ((o : Opening (shelf_of old)) × (IsOpenedBearably (shelf_of old) o missing
      → (s : Serving true (shelf_of old) (shelf_of new) input left ended o)
      × (s.last.halted ≡ false → GoesOnAs (geometry_of (shelf_of old)) (now_missing s.last (read_now (shelf_of new))) (FindsEnd new (now_missing s.last (read_now (shelf_of new)))) Q)))

  -- what it was given by then
  abbrev pub exchange_by : A → List ℕ → List ℕ → Exchange
  exchange_by old input output = record { input = input; output = drop (length (shelf_of old).output) output }

  -- So many sessions may follow, whatever each is asked, wherever it's stopped or however it ends, and whatever fails, as long as it's borne: each one enters with arrays to which those before it lead.
  abbrev pub HoldsFor : ℕ → List Exchange → A → Conditions → Type 0
  HoldsFor zero earlier old missing = EntersWith (shelf_of old) missing (LeadTo earlier)
  HoldsFor (suc n) earlier old missing = EntersWith (shelf_of old) missing (LeadTo earlier)
      × ((new : A) (input left : List ℕ) (ended : Status) → IsSession (shelf_of old) (shelf_of new) input left ended
      → ((stop : Stop) → (shelf_of new).left_since (shelf_of old).moment stop
      → GoesOnFromStop old new input left ended missing stop (λ next later. HoldsFor n (exchange_by old input stop.output ∷ earlier) next later))
      × GoesOnFromEnd old new input left ended missing (λ next later. HoldsFor n (exchange_by old input (shelf_of new).output ∷ earlier) next later))

  -- It begins with the making of an array, whether that ended or was stopped once the devices stood for the array of nothing.
  pub record HistoriesHold : Type 0 where
    pub made : (n : ℕ) (new next : A) (missing : Conditions) → IsMade (shelf_of new) → FindsEnd new none_missing next missing → HoldsFor n [] next missing
    pub making : (n : ℕ) (shelf : Geometry) (stop : Stop) (next : A) (missing : Conditions) → IsStanding shelf stop.image none_missing ([] ∷ []) → FindsStop shelf stop none_missing next missing → HoldsFor n [] next missing
