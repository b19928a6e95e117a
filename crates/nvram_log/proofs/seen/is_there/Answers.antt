use Rattle.nvram_log.proofs.Prelude.{◌≡◌, ◌∙◌, ℕ, true, false, List, Some, None, refl, sym, arith, slice_get, slice_get_read, slice_get_within, Logged, IsThere, NoneThere}
use Rattle.std.specs.Prelude.{Option, is_some}
use Rattle.nvram_log.proofs.seen.is_there.Goals as goal

some_there : (records : List (Option Logged)) (i : ℕ) (o : Option Logged) → slice_get records i ≡ Some o → is_some o ≡ true → (l : Logged) × IsThere records i l
some_there records i (Some l) at is = (l, at)
some_there records i None at is = absurd (cc is)

none_there : (records : List (Option Logged)) (i : ℕ) (o : Option Logged) → slice_get records i ≡ Some o → is_some o ≡ false → NoneThere records i
none_there records i (Some l) at is d there = absurd (cc is)
none_there records i None at is l there = absurd (cc (at, there))

pub returns-then-i-records-clause-some : goal.returns-then-i-records-clause-some
returns-then-i-records-clause-some c is =
    some_there c.args.records.now c.args.i c.index-records-i.result (slice_get_read c.args.records.now _ c.args.i c.index-records-i.result refl (omega arith) c.index-records-i.is) (sym c.is_some.ensures ∙ is)

pub returns-then-i-records-clause-none : goal.returns-then-i-records-clause-none
returns-then-i-records-clause-none c is =
    none_there c.args.records.now c.args.i c.index-records-i.result (slice_get_read c.args.records.now _ c.args.i c.index-records-i.result refl (omega arith) c.index-records-i.is) (sym c.is_some.ensures ∙ is)

pub returns-else-i-records-clause-none : goal.returns-else-i-records-clause-none
returns-else-i-records-clause-none c is l there = omega (arith, slice_get_within c.args.records.now c.args.i (Some l) there, c.if-i-records.false)
