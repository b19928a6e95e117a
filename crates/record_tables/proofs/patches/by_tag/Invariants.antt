use Rattle.record_tables.proofs.Prelude.{◌≡◌, ◌-◌, ◌++◌, by_tag}
use Rattle.record_tables.proofs.Tags.{in_order}
use Rattle.record_tables.proofs.patches.by_tag.Given as goal

abbrev pub invariant-loop-tag : goal.invariant-loop-tag
invariant-loop-tag l = l.all ++ in_order l.tag (6 - l.tag) l.was l.added ≡ by_tag l.was l.added
