-- The newest facts of some patches, as they are held.
use Rattle.std.specs.Prelude.{List}
use Rattle.table_soundness.specs.declared.shown.Newest.{Newest}
use Rattle.table_soundness.specs.declared.shown.Newest.TheVariants as newest

abbrev pub newest_facts : {F : Type 0} → Newest F → List F
newest_facts (newest.Held facts) = facts.now
newest_facts (newest.Made facts) = facts.items
