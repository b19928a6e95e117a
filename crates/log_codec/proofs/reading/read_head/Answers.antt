use Rattle.std.proofs.Common.{ap, refl, Ok, ◌≡◌, Some, ℕ}
use Rattle.pur_base.specs.declared.request.Request.{Request}
use Rattle.log_codec.specs.declared.head.Head.{Head}
use Rattle.log_codec.specs.Head.{Decodes}
use Rattle.log_codec.proofs.FieldLemmas.{fields_are_of, frame_of, parts_of, is_spelled}
use Rattle.log_codec.proofs.reading.read_head.Goals as goal

same_head : (number : ℕ) (command : Request) (h : Head) → number ≡ h.number → Some command ≡ Some h.command → ◌≡◌ {A = Head} (record { number = number; command = command }) h
same_head number command h number_is is =
    let command_is : command ≡ h.command = cc in
    rw (number_is, command_is) refl

no_frame : (c : goal.Then-not-is_frame) (h : Head) → ¬ Decodes c.args.sector.now h
no_frame c h spells =
    let of = fields_are_of c.args.sector.now c.of-fields.result h c.of-fields.ensures spells in
    let frame = c.is_frame.ensures.1 (frame_of c.of-fields.result h spells.head of) in
    cc (frame, c.if-not-is_frame.true)

pub returns-then-not-is_frame-clause-complete : goal.returns-then-not-is_frame-clause-complete
returns-then-not-is_frame-clause-complete c = λ h spells. absurd (no_frame c h spells)

pub returns-then-not-is_frame-clause-err : goal.returns-then-not-is_frame-clause-err
returns-then-not-is_frame-clause-err c = (λ _. no_frame c, λ _. refl)

no_command : (c : goal.In_default) (h : Head) → ¬ Decodes c.args.sector.now h
no_command c h spells =
    let of = fields_are_of c.args.sector.now c.of-fields.result h c.of-fields.ensures spells in
    let is = c.in_default.ensures.complete h.command spells.head.command (parts_of c.of-fields.result h c.parts.result of c.parts.ensures) in
    absurd cc

pub returns-in_default-clause-complete : goal.returns-in_default-clause-complete
returns-in_default-clause-complete c = λ h spells. absurd (no_command c h spells)

pub returns-in_default-clause-err : goal.returns-in_default-clause-err
returns-in_default-clause-err c = (λ _. no_command c, λ _. refl)

found : (c : goal.In-Some) → Decodes c.args.sector.now (record { number = c.of-fields.result.number; command = c.in-Some.command })
found c =
    is_spelled c.args.sector.now c.of-fields.result c.parts.result c.in-Some.command c.of-fields.ensures (c.is_frame.ensures.0 c.if-not-is_frame.false)
    c.parts.ensures c.in-Some.ensures.some.0 c.in-Some.ensures.some.1

pub returns-clause-ok : goal.returns-clause-ok
returns-clause-ok c = found c

pub returns-clause-complete : goal.returns-clause-complete
returns-clause-complete c = λ h spells.
    let of = fields_are_of c.args.sector.now c.of-fields.result h c.of-fields.ensures spells in
    let is = c.in-Some.ensures.complete h.command spells.head.command (parts_of c.of-fields.result h c.parts.result of c.parts.ensures) in
    ap Ok (same_head c.of-fields.result.number c.in-Some.command h of.number is)

pub returns-clause-err : goal.returns-clause-err
returns-clause-err c = (λ e. absurd cc, λ none. absurd (none (record { number = c.of-fields.result.number; command = c.in-Some.command }) (found c)))
