use Rattle.fact_codec.proofs.Prelude.{◌≡◌, ap, sym, ◌∙◌, rules, refl, Ok, Head, object_code}
use Rattle.fact_codec.proofs.FieldLemmas.{object_is, same_kind}
use Rattle.fact_codec.proofs.values.object_in.Goals as goal

pub returns-clause-complete : goal.returns-clause-complete
returns-clause-complete c = λ f spells.
    let medium = c.u64_in-medium.result in
    let is = object_is c.args.value.now medium.1.now medium.0 f (search rules) c.u64_in-medium.ensures.field spells.fact spells.bytes in
    let id : c.args.head.now.id ≡ f.object.0 = ap (λ (h : Head). h.id) spells.same_head in
    let code : c.args.head.now.kind ≡ object_code f.kind = ap (λ (h : Head). h.kind) spells.same_head in
    let kind : c.in-Some.kind ≡ f.kind = same_kind c.in-Some.kind f.kind (sym c.in-Some.ensures.some ∙ code) in
    let sectors : c.args.head.now.sectors ≡ f.sectors = ap (λ (h : Head). h.sectors) spells.same_head in
    let number : c.args.head.now.number ≡ f.seq.0 = ap (λ (h : Head). h.number) spells.same_head in
    let read = c.name_in.ensures.complete f.name (record { lawful = spells.fact.lawful.statement.3; size = ap (λ (h : Head). h.name_len) spells.same_head; bytes = is.1 }) in
    let was = c.in_ok-name.was in
    let name : c.in_ok-name.name ≡ f.name = cc (read, was) in
    ap Ok (rw (id, kind, sectors, is.0, name, number) refl)
