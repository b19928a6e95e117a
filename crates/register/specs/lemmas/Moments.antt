-- What is so at each moment of a store.
use Rattle.std.proofs.Common.{◌⊎◌, Bool, List}
use Rattle.array_spec.specs.Prelude.{Conditions, Array}
use Rattle.world.specs.Prelude.{Shelved, LeavesOnly, weaker}
use Rattle.boot_region.specs.Prelude.{StandsBut}
use Rattle.register.specs.declared.state.Register.{Register}
use Rattle.register.specs.Registers.{drives_of, next_slot}
use Rattle.register.specs.Standing.{AllShow, Content, GivesOldOrNext, IsInStoreOf, MayStore, StandsBack, StandsInLog, StillGiven}

module _ {a b : Shelved} {r : Register} {nvrams : List Bool} (moments : LeavesOnly a b (IsInStoreOf a r nvrams)) where
  -- the devices stand for the arrays
  pub stands_at : (missing : Conditions) (held : Content) (arrays : List Array) → MayStore a r nvrams missing held arrays → LeavesOnly a b (StandsBut a (drives_of r) missing (next_slot r.record) r.record arrays)
  stands_at missing held arrays may = weaker (λ stop at. at.stands missing held arrays may) moments

  -- what may be given is the record, or a next one
  pub gives_at : (missing : Conditions) (held : Content) (arrays : List Array) → MayStore a r nvrams missing held arrays → LeavesOnly a b (GivesOldOrNext a r nvrams missing)
  gives_at missing held arrays may = weaker (λ stop at. at.gives missing held arrays may) moments

  -- members may be back that were missing, once the record is superseded
  pub back_at : (held : Content) → StandsInLog a r nvrams held → AllShow a r → LeavesOnly a b (λ stop. StillGiven a r nvrams held stop ⊎ StandsBack a r nvrams held stop)
  back_at held logged shows = weaker (λ stop at. at.back held logged shows) moments
