-- What the visible segments tell.
use Rattle.command_spec.proofs.Prelude.{◌≡◌, ◌≢◌, ℕ, ◌<◌, refl, ap, ◌∙◌, arith, Option, Some, None, All, Contains, IfNone, All-contains, segment_key, is_elided, SegmentFact, says_is, facts, each_by_recursion, of_each, Kept, IsKept}
use Rattle.memory_spec.specs.Prelude.{never, key_of, segment}
use Rattle.pur_base.specs.declared.request.Table.TheVariants as table

-- a segment that the facts say is visible
pub said_visible : (k : Kept) → IsKept k → (id : ℕ) (d : SegmentFact) → segment (facts k.memory.tables) id ≡ Some d → Contains k.segments d × (d.segment.0 ≡ id)
said_visible k h id d e =
    let fs = (facts k.memory.tables).segments in
    let is = says_is segment_key (λ f. f.seq.0) never (λ f. Contains fs f) fs (is_elided (facts k.memory.tables).elisions table.Segment) (key_of id 0) d (each_by_recursion (λ f. Contains fs f) fs (λ f c. c)) e in
    let same : d.segment.0 ≡ id = omega (arith, is.1) in
    let low : d.segment.0 < k.memory.next.segment = of_each (λ (f : SegmentFact). f.segment.0 < k.memory.next.segment) fs d h.ids.segments is.0 in
    (h.segments.all d (omega (arith, low, h.next.segment)) (ap (segment (facts k.memory.tables)) same ∙ e), same)

-- so where none of them has an id, the facts say none
pub none_said : (k : Kept) → IsKept k → (id : ℕ) → All (λ (d : SegmentFact). d.segment.0 ≢ id) k.segments → segment (facts k.memory.tables) id ≡ None
none_said k h id none = one (segment (facts k.memory.tables) id) refl
  where
    one : (o : Option SegmentFact) → segment (facts k.memory.tables) id ≡ o → o ≡ None
    one None e = refl
    one (Some d) e = let is = said_visible k h id d e in absurd (All-contains (λ (x : SegmentFact). x.segment.0 ≢ id) k.segments d none is.0 is.1)

-- the answer to a look-up
pub none_if : (k : Kept) {X : Type 0} (o : Option X) → IsKept k → (id : ℕ) → IfNone o (All (λ (d : SegmentFact). d.segment.0 ≢ id) k.segments) → IfNone o (segment (facts k.memory.tables) id ≡ None)
none_if k None h id none = none_said k h id none
none_if k (Some x) h id none = tt
