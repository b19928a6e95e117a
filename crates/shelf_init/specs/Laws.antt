-- What holds of devices before the making calls any of them.
use Rattle.session_spec.specs.Prelude.{geometry_of, Shelved, Stop, MayStop, AreClean, IsBlank, IsNoneOrEmpty}

-- whatever a stop now leaves of blank devices gives no record
abbrev pub StayBlank : Shelved → Type 0
StayBlank shelf = AreClean shelf → IsBlank shelf → (stop : Stop) → MayStop shelf stop → IsNoneOrEmpty (geometry_of shelf) stop.image
