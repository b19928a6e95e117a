use Rattle.std.proofs.Common.{sym, ap, refl, subst, Ok}
use Rattle.segment_codec.specs.declared.header.Header.{Header}
use Rattle.segment_codec.specs.Header.{Decodes, IsLawful}
use Rattle.segment_codec.proofs.FieldLemmas.{fields_are_of, frame_of, header_is, header_of, is_spelled}
use Rattle.segment_codec.proofs.reading.read_header.Goals as goal

no_frame : (c : goal.Then-not-is_frame) (h : Header) → ¬ Decodes c.args.sector.now h
no_frame c h spells =
    let of = fields_are_of c.args.sector.now c.of-fields.result h c.of-fields.ensures spells in
    let frame = c.is_frame.ensures.1 (frame_of c.of-fields.result h of) in
    cc (frame, c.if-not-is_frame.true)

pub returns-then-not-is_frame-clause-complete : goal.returns-then-not-is_frame-clause-complete
returns-then-not-is_frame-clause-complete c = λ h spells. absurd (no_frame c h spells)

pub returns-then-not-is_frame-clause-err : goal.returns-then-not-is_frame-clause-err
returns-then-not-is_frame-clause-err c = (λ _. no_frame c, λ _. refl)

no_kind : (c : goal.In_default) (h : Header) → ¬ Decodes c.args.sector.now h
no_kind c h spells =
    let of = fields_are_of c.args.sector.now c.of-fields.result h c.of-fields.ensures spells in
    c.in_default.ensures.none h.kind of.code

pub returns-in_default-clause-complete : goal.returns-in_default-clause-complete
returns-in_default-clause-complete c = λ h spells. absurd (no_kind c h spells)

pub returns-in_default-clause-err : goal.returns-in_default-clause-err
returns-in_default-clause-err c = (λ _. no_kind c, λ _. refl)

not_lawful : (c : goal.Then-not-is_lawful) (h : Header) → ¬ Decodes c.args.sector.now h
not_lawful c h spells =
    let of = fields_are_of c.args.sector.now c.of-fields.result h c.of-fields.ensures spells in
    let is = header_is c.of-fields.result h c.in-Some.kind of c.in-Some.ensures.some in
    let lawful = c.is_lawful.ensures.1 (subst (λ (x : Header). IsLawful x) (sym is) spells.header.lawful) in
    cc (lawful, c.if-not-is_lawful.true)

pub returns-then-not-is_lawful-clause-complete : goal.returns-then-not-is_lawful-clause-complete
returns-then-not-is_lawful-clause-complete c = λ h spells. absurd (not_lawful c h spells)

pub returns-then-not-is_lawful-clause-err : goal.returns-then-not-is_lawful-clause-err
returns-then-not-is_lawful-clause-err c = (λ _. not_lawful c, λ _. refl)

found : (c : goal.Else-not-is_lawful) → Decodes c.args.sector.now (header_of c.of-fields.result c.in-Some.kind)
found c =
    is_spelled c.args.sector.now c.of-fields.result c.in-Some.kind c.of-fields.ensures (c.is_frame.ensures.0 c.if-not-is_frame.false)
    c.in-Some.ensures.some (c.is_lawful.ensures.0 c.if-not-is_lawful.false)

pub returns-clause-ok : goal.returns-clause-ok
returns-clause-ok c = found c

pub returns-clause-complete : goal.returns-clause-complete
returns-clause-complete c = λ h spells.
    ap Ok (header_is c.of-fields.result h c.in-Some.kind (fields_are_of c.args.sector.now c.of-fields.result h c.of-fields.ensures spells) c.in-Some.ensures.some)

pub returns-clause-err : goal.returns-clause-err
returns-clause-err c = (λ e. absurd cc, λ none. absurd (none (header_of c.of-fields.result c.in-Some.kind) (found c)))
