-- What is told of an array that can be opened.
use Rattle.std.specs.Prelude.{◌≡◌, ℕ, List, [], ◌∷◌, length, sum_by}
use Rattle.std.specs.Vec.{vec_len}
use Rattle.session_spec.specs.Prelude.{Patch, patch_segments}
use Rattle.memory_spec.specs.Prelude.{of_table}
use Rattle.pur_base.specs.declared.request.Table.TheVariants as table
use Rattle.shelf_look.specs.declared.finding.Opening.{Opening}
use Rattle.shelf_look.specs.declared.found.Found.{Found}
use Rattle.shelf_look.specs.declared.counts.TableCounts.{TableCounts}
use Rattle.shelf_look.specs.Numbers.{AreNumbersOf}

-- how many facts the patches hold
abbrev pub patch_facts : List Patch → ℕ
patch_facts ps = sum_by (λ p. p.facts) ps

-- how much a table has by its patches, where so many facts are shown
pub record IsCountOf (ps : List Patch) (shown : ℕ) (t : TableCounts) : Type 0 where
  pub patches : t.patches ≡ length ps
  pub segments : t.segments ≡ patch_segments ps
  pub facts : t.facts ≡ patch_facts ps
  pub visible : t.visible ≡ shown

-- so of objects, mediums, addresses, segments and elisions; each elision counts as visible
abbrev pub AreCountsBy : List Patch → Opening → List TableCounts → Type 0
AreCountsBy ps o (objects ∷ mediums ∷ addresses ∷ segments ∷ elisions ∷ []) =
    IsCountOf (of_table table.Object ps) (length o.memory.objects) objects
    × IsCountOf (of_table table.Medium ps) (vec_len o.visible.mediums) mediums
    × IsCountOf (of_table table.Address ps) (vec_len o.visible.addresses) addresses
    × IsCountOf (of_table table.Segment ps) (length o.memory.segments) segments
    × IsCountOf (of_table table.Elision ps) (patch_facts (of_table table.Elision ps)) elisions
AreCountsBy ps o _ = ⊥

abbrev pub AreCountsOf : Opening → List TableCounts → Type 0
AreCountsOf o counts = AreCountsBy o.loaded.record.patches o counts

-- its numbers, how much its tables have, the NVRAM devices that answered, and the commands of the log
pub record IsFoundOf (o : Opening) (f : Found) : Type 0 where
  pub numbers : AreNumbersOf o f.numbers
  pub tables : AreCountsOf o f.tables
  pub nvrams : f.nvrams ≡ o.log.members
  pub waiting : f.waiting ≡ o.waiting
