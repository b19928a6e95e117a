use Rattle.nvram_log.proofs.Prelude.{◌∙◌, ℕ, List, Some, None, sym, subst, slice_get_within, get_or_from_slice_get, arith, Command, HasSpelling, IsReadAs, IsReadAt, Logged}
use Rattle.std.proofs.Common.{Option}
use Rattle.std.specs.Prelude.{IsSomeAnd}
use Rattle.std.specs.Slice.{IsItemAt}
use denote.Bor.{Bor}
use Rattle.nvram_log.proofs.log.NvLog.record_at.Goals as goal

-- what is looked up is the record that stands there
looked_up : (records : List Logged) (i number : ℕ) (d : Command) (r : Option (Bor Logged)) → IsItemAt records i r → IsReadAt records i number d → IsSomeAnd r (λ l. IsReadAs l.now number d × HasSpelling number d)
looked_up records i number d (Some l) is read = (subst (λ (x : Logged). IsReadAs x number d) (sym (is.1 ∙ get_or_from_slice_get records i read.logged l.now read.at)) read.read, read.lawful)
looked_up records i number d None is read = absurd (let lt = slice_get_within records i read.logged read.at in omega (arith, lt, is.0))

pub returns-clause-item : goal.returns-clause-item
returns-clause-item c = subst (λ (l : List Logged). IsItemAt l c.args.i c.get.result) c.deref.ensures.value c.get.ensures.lookup

pub returns-clause-read : goal.returns-clause-read
returns-clause-read c commands d has at = looked_up c.args.self.now.records.items c.args.i _ d c.get.result (subst (λ (l : List Logged). IsItemAt l c.args.i c.get.result) c.deref.ensures.value c.get.ensures.lookup) (has.each c.args.i d at)
