use Rattle.fact_codec.proofs.Prelude.{◌≡◌, ℕ, List, ◌++◌, ap, ◌∙◌, rules, refl, Ok, u64, VALUE_BYTES, Head}
use Rattle.fact_codec.proofs.FieldLemmas.{range_is}
use Rattle.fact_codec.proofs.ValueLemmas.{padded_is}
use Rattle.fact_codec.proofs.values.medium_in.Goals as goal

pub returns-clause-ok : goal.returns-clause-ok
returns-clause-ok c =
    let end = c.u64_in-end.result in
    let target = c.u64_in-target.result in
    let start = c.u64_in-target_start.result in
    let fields = u64 end.0 ++ u64 target.0 ++ u64 start.0 in
    let field : c.args.value.now ≡ fields ++ start.1.now =
    c.u64_in-end.ensures.field ∙ ap (λ (x : List ℕ). u64 end.0 ++ x) (c.u64_in-target.ensures.field ∙ ap (λ (x : List ℕ). u64 target.0 ++ x) c.u64_in-target_start.ensures.field) in
    record {
      fits = c.requires.second;
      judged = tt;
      bytes = padded_is VALUE_BYTES c.args.value.now fields start.1.now c.requires.value field (c.are_blank.ensures.0 c.if-not-are_blank.false);
    }

pub returns-clause-complete : goal.returns-clause-complete
returns-clause-complete c = λ f spells.
    let end = c.u64_in-end.result in
    let target = c.u64_in-target.result in
    let start = c.u64_in-target_start.result in
    let is = range_is c.args.value.now end.1.now target.1.now start.1.now end.0 target.0 start.0 f (search rules) (search rules) (search rules)
    c.u64_in-end.ensures.field c.u64_in-target.ensures.field c.u64_in-target_start.ensures.field spells.fact spells.bytes in
    let id : c.args.head.now.id ≡ f.medium.0 = ap (λ (h : Head). h.id) spells.same_head in
    let second : c.args.head.now.second ≡ f.start = ap (λ (h : Head). h.second) spells.same_head in
    let number : c.args.head.now.number ≡ f.seq.0 = ap (λ (h : Head). h.number) spells.same_head in
    ap Ok (rw (id, second, is.0, is.1, is.2, number) refl)
