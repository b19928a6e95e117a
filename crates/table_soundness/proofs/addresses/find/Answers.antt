use Rattle.table_soundness.proofs.Prelude.{◌≡◌, ◌≢◌, sym, ◌∙◌, All, Contains, All-weaker, segment_key, id_of, SegmentFact, IsLastOf}
use Rattle.table_soundness.proofs.AddressLemmas.{if_some, if_none, segment_id}
use Rattle.table_soundness.proofs.addresses.find.Goals as goal

pub returns-clause-some : goal.returns-clause-some
returns-clause-some c =
    let segments = c.args.segments.now in
    let id = c.args.id.0 in
    if_some (IsLastOf segment_key segments id) (λ (d : SegmentFact). Contains segments d × (d.segment.0 ≡ id)) (λ d l. (l.there, sym (segment_id d) ∙ l.of_id)) c.last_of.result c.last_of.ensures.some

pub returns-clause-none : goal.returns-clause-none
returns-clause-none c =
    let segments = c.args.segments.now in
    let id = c.args.id.0 in
    if_none (All (λ f. id_of (segment_key f) ≢ id) segments) (All (λ (d : SegmentFact). d.segment.0 ≢ id) segments)
    (λ h. All-weaker (λ f. id_of (segment_key f) ≢ id) (λ d. d.segment.0 ≢ id) (λ d n e. n (segment_id d ∙ e)) segments h) c.last_of.result c.last_of.ensures.none
