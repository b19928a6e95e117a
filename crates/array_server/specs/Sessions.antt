-- What a session answers from the moment on when its array is open, and what it does to that.
use Rattle.std.specs.Prelude.{◌≡◌, ℕ, Bool, true, false, List, length, drop}
use Rattle.session_spec.specs.Prelude.{Status, IsBearable, requests, Answer, geometry_of, IsLater, Shelved, Leaves, read_now, Point, IsReached, Fares, now_missing, Ends, IsOutput, Replied, StandsOn, IsLeftAfter, in_hand}
use Rattle.pur_base.specs.declared.reply.Status.TheVariants as status
use Rattle.register.specs.Prelude.{Content, array_of}
use Rattle.array_core.specs.Prelude.{IsReady}
use Rattle.array_engine.specs.declared.engine.Engine.{Engine}
use Rattle.array_engine.specs.Prelude.{IsAt}

-- the ways in which a session ends that was opened
abbrev pub IsSessionEnd : Status → Type 0
IsSessionEnd status.Done = Unit {0}
IsSessionEnd status.Halted = Unit {0}
IsSessionEnd status.Source = Unit {0}
IsSessionEnd status.Sink = Unit {0}
IsSessionEnd status.Cut = Unit {0}
IsSessionEnd status.InputLimit = Unit {0}
IsSessionEnd _ = ⊥

-- how a session ends whose input is answered to its end
abbrev pub end_of : Bool → Status
end_of true = status.Halted
end_of false = status.Done

-- a session begins there: the engine isn't halted, and nothing has happened since
pub record BeginsAt (told : Bool) (start : Shelved) (e : Engine) (first : Point) : Type 0 where
  pub at : IsAt told start e first
  pub awake : e.halted ≡ false
  pub stop : first.stop ≡ read_now start

-- the devices held the array of the first point at the beginning
abbrev pub IsHeldAt : Shelved → Engine → Point → Type 0
IsHeldAt start e first = (held : Content) × IsReady start e.array held × (first.array ≡ array_of held)

-- The replies and how the session ended, and at each stop those that were whole, by which no less had failed than at the beginning. Where the devices held the array at the beginning, they stand for what the replies tell at each stop and at the end.
pub record IsServedFrom (told : Bool) (start new : Shelved) (e : Engine) (input left : List ℕ) (ended : Status) (first : Point) : Type 0 where
  pub reached : IsReached (new.left_since start.moment) first
  pub replies : List Answer
  pub last : Point
  pub run : Fares told (geometry_of start) (new.left_since start.moment) first (requests input) replies last
  pub output : IsOutput ended told (geometry_of start) last (read_now new) (drop (length replies) (requests input)) start.output new.output replies
  pub ends : Ends ended last.halted input replies left
  pub replied : Leaves start new (λ stop. IsLater first.stop stop × Replied told (geometry_of start) (new.left_since start.moment) first (requests input) stop)
  pub stands : IsHeldAt start e first → Leaves start new (λ stop. IsLater first.stop stop
      × (at : Replied told (geometry_of start) (new.left_since start.moment) first (requests input) stop) × StandsOn told (geometry_of start) (new.left_since start.moment) first (requests input) stop at)
  pub at_end : IsHeldAt start e first → last.halted ≡ false → IsBearable (geometry_of start) (now_missing last (read_now new)) → IsLeftAfter new last (in_hand ended (drop (length replies) (requests input)))
