use Rattle.fact_codec.proofs.Prelude.{◌≡◌, ℕ, List, ◌++◌, ◌-◌, length, ap, sym, ◌∙◌, rules, refl, Ok, append_assoc, recursion_from_All, u16, places_bytes, FitsBytes, zeros_are, VALUE_BYTES, Head, value_bytes}
use Rattle.pur_base.specs.declared.facts.AnyFact.TheVariants as any
use Rattle.fact_codec.proofs.FieldLemmas.{segment_is}
use Rattle.fact_codec.proofs.ValueLemmas.{padded_is}
use Rattle.fact_codec.proofs.values.segment_in.Goals as goal

pub returns-then-not-are_blank-clause-complete : goal.returns-then-not-are_blank-clause-complete
returns-then-not-are_blank-clause-complete c = λ f spells.
    let places = c.places_in.result in
    let placed = c.u16_in-placed.result in
    let is = segment_is c.args.value.now places.1.now placed.1.now places.0 placed.0 f (search rules) (recursion_from_All FitsBytes places.0 c.places_in.ensures.fits) (search rules)
    c.places_in.ensures.field c.u16_in-placed.ensures.field spells.fact spells.bytes in
    let unused = c.are_blank.ensures.1 (zeros_are placed.1.now (VALUE_BYTES - length (value_bytes (any.Segment f))) is.2) in
    absurd (cc (unused, c.if-not-are_blank.true))

pub returns-clause-ok : goal.returns-clause-ok
returns-clause-ok c =
    let places = c.places_in.result in
    let placed = c.u16_in-placed.result in
    let fields = places_bytes places.0 ++ u16 placed.0 in
    let field : c.args.value.now ≡ fields ++ placed.1.now =
    c.places_in.ensures.field ∙ ap (λ (x : List ℕ). places_bytes places.0 ++ x) c.u16_in-placed.ensures.field ∙ sym (append_assoc (places_bytes places.0) (u16 placed.0) placed.1.now) in
    record {
      fits = (search rules, recursion_from_All FitsBytes places.0 c.places_in.ensures.fits);
      judged = tt;
      bytes = padded_is VALUE_BYTES c.args.value.now fields placed.1.now c.requires field (c.are_blank.ensures.0 c.if-not-are_blank.false);
    }

pub returns-clause-complete : goal.returns-clause-complete
returns-clause-complete c = λ f spells.
    let places = c.places_in.result in
    let placed = c.u16_in-placed.result in
    let is = segment_is c.args.value.now places.1.now placed.1.now places.0 placed.0 f (search rules) (recursion_from_All FitsBytes places.0 c.places_in.ensures.fits) (search rules)
    c.places_in.ensures.field c.u16_in-placed.ensures.field spells.fact spells.bytes in
    let id : c.args.head.now.id ≡ f.segment.0 = ap (λ (h : Head). h.id) spells.same_head in
    let number : c.args.head.now.number ≡ f.seq.0 = ap (λ (h : Head). h.number) spells.same_head in
    ap Ok (rw (id, is.0, is.1, number) refl)
