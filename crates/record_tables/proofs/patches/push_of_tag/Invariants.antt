use Rattle.record_tables.proofs.Prelude.{◌≡◌, ◌++◌, take, of_tag}
use Rattle.record_tables.proofs.patches.push_of_tag.Given as goal

abbrev pub invariant-loop-index : goal.invariant-loop-index
invariant-loop-index l = l.patches ≡ l.initial.patches ++ of_tag l.tag (take l.index l.from)
