use Rattle.table_planner.proofs.Prelude.{◌≡◌, ◌≢◌, ℕ, ◌+◌, ◌<◌, Bool, ◌==◌, List, sym, ap, ◌∙◌, refl, subst, is_elided, is_within, Table, IsMerged, patch_at, Tables, FactOf, flushed, kind_of, layers_of, elided_by, ElidedRanges, ranges_of, patch_count}
use Rattle.pur_base.specs.declared.request.Table.TheVariants as table
use Rattle.table_planner.proofs.merging.merged_by.Goals as goal
use Rattle.table_planner.proofs.merging.merged_by.Goals.{in-Object+in_ok-merged-in-Object, in-Medium+in_ok-merged-in-Medium, in-Address+in_ok-merged-in-Address, in-Segment+in_ok-merged-in-Segment, in-Elision+in_ok-merged-in-Elision}

-- the ranges of a table elide what its stored elisions do
elided_test : (ts : Tables) (e : ElidedRanges) → ((x : Table) → x ≢ table.Elision → (id : ℕ) → is_elided (flushed ts).elisions x id ≡ is_within (ranges_of e x) id) → (t : Table) → is_within (ranges_of e t) ≡ elided_by ts t
elided_test ts e by table.Object = λ i id. sym (by table.Object (λ x. cc) id) i
elided_test ts e by table.Medium = λ i id. sym (by table.Medium (λ x. cc) id) i
elided_test ts e by table.Address = λ i id. sym (by table.Address (λ x. cc) id) i
elided_test ts e by table.Segment = λ i id. sym (by table.Segment (λ x. cc) id) i
elided_test ts e by table.Elision = refl

abbrev Of : goal.Joined-table → Tables
Of c = c.args.memory.now.memory.tables

-- the two of a table make these facts, without what is elided so
abbrev Makes : goal.Joined-table → (t : Table) → (ℕ → Bool) → List (FactOf t) → Type 0
Makes c t elided new = IsMerged (kind_of t).key (kind_of t).number (kind_of t).empty (kind_of t).within (c.args.index == 0) elided (patch_at (layers_of t (Of c)) c.args.index) (patch_at (layers_of t (Of c)) (c.args.index + 1)) new

made : (c : goal.Joined-table) (t : Table) → c.args.table ≡ t → (new : List (FactOf t)) → Makes c t (is_within c.ranges-elided.result.now) new → (c.args.index + 1 < patch_count (Of c) t) × Makes c t (elided_by (Of c) t) new
made c t is new h =
    let test = ap is_within (c.ranges-elided.ensures.value ∙ ap (λ t. ranges_of c.args.elided.now t) is) ∙ elided_test (Of c) c.args.elided.now c.requires.elided t in
    (subst (λ t. c.args.index + 1 < patch_count (Of c) t) is c.requires.there, subst (λ e. Makes c t e new) test h)

pub returns-clause-merged : goal.returns-clause-merged
returns-clause-merged c = elim c.match-table.branch [
  | in-Object+in_ok-merged-in-Object w ↦ rw w.result-is (made c table.Object w.in-Object.is _ (rw (w.facts.ensures, w.objects.ensures) at w.in_ok-merged-in-Object.ensures))
  | in-Medium+in_ok-merged-in-Medium w ↦ rw w.result-is (made c table.Medium w.in-Medium.is _ (rw w.mediums.ensures at w.in_ok-merged-in-Medium.ensures))
  | in-Address+in_ok-merged-in-Address w ↦ rw w.result-is (made c table.Address w.in-Address.is _ (rw w.addresses.ensures at w.in_ok-merged-in-Address.ensures))
  | in-Segment+in_ok-merged-in-Segment w ↦ rw w.result-is (made c table.Segment w.in-Segment.is _ (rw (w.facts-in-Segment.ensures, w.segment_table.ensures) at w.in_ok-merged-in-Segment.ensures))
  | in-Elision+in_ok-merged-in-Elision w ↦ rw w.result-is (made c table.Elision w.in-Elision.is _ (rw w.elisions.ensures at w.in_ok-merged-in-Elision.ensures))
]
