use Rattle.table_soundness.proofs.Prelude.{subst, IfNone, Geometry, Table, facts_in, AreNumbersOf, IsTableSound}
use Rattle.table_soundness.proofs.SoundLemmas.{sound_from_parts}
use Rattle.table_soundness.proofs.judge.check.Goals as goal

pub returns-in-None-clause-sound : goal.returns-in-None-clause-sound
returns-in-None-clause-sound c =
    let shelf : Geometry = record { slots = c.args.slots; units = c.args.units } in
    let boot = c.args.boot.now in
    let tables = c.args.tables.now in
    let own = subst (λ o. IfNone o ((t : Table) → IsTableSound shelf boot (facts_in tables) t)) c.in_default.is c.in_ok-own.ensures.none in
    let numbers = subst (λ o. IfNone o ((t : Table) → AreNumbersOf boot.next.sequence tables t)) c.in-None.is c.in_ok-numbers.ensures.none in
    sound_from_parts boot tables c.requires.named shelf own numbers
