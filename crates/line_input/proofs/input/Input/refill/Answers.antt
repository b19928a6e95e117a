use Rattle.std.proofs.Common.{◌+◌, length, ap, ◌∙◌, arith}
use Rattle.world.specs.Prelude.{INPUT_BYTES}
use Rattle.line_input.specs.declared.buffer.TheConstants.{BUFFER_BYTES}
use Rattle.line_input.proofs.EndLemmas.{not-both, bytes-below}
use Rattle.line_input.proofs.RefillLemmas.{put-back, still-in, in-room, refilled, counted, all-kept, some-came}
use Rattle.line_input.proofs.input.Input.refill.Goals as goal

pub invariant_of-self-in_err-count : goal.invariant_of-self-in_err-count
invariant_of-self-in_err-count g c =
    let lent = c.deref_mut.ensures in
    still-in c.self.inside.buffer.len 0 c.self.inside.taken c.take_into.new.into c.deref_mut.result.now c.self.inside.buffer.items c.take_into.auto.into lent.len lent.value c.self.invariant.size
    (omega arith) c.self.invariant.limited

pub invariant_of-self-then-count-eq0 : goal.invariant_of-self-then-count-eq0
invariant_of-self-then-count-eq0 g c =
    let lent = c.deref_mut.ensures in
    still-in c.self.inside.buffer.len 0 c.self.inside.taken c.take_into.new.into c.deref_mut.result.now c.self.inside.buffer.items c.take_into.auto.into lent.len lent.value c.self.invariant.size
    (omega arith) c.self.invariant.limited

pub invariant_of-self-2 : goal.invariant_of-self-2
invariant_of-self-2 g c =
    let lent = c.deref_mut.ensures in
    let room = in-room INPUT_BYTES c.self.inside.taken BUFFER_BYTES c.min-room.result c.in_ok-count.count c.min-room.ensures c.in_ok-count.ensures.room c.self.invariant.limited in
    still-in c.self.inside.buffer.len c.in_ok-count.count (c.self.inside.taken + c.in_ok-count.count) c.take_into.new.into c.deref_mut.result.now c.self.inside.buffer.items
    c.take_into.auto.into lent.len lent.value c.self.invariant.size room.within room.limited

pub returns-clause-limited : goal.returns-clause-limited
returns-clause-limited g c =
    (in-room INPUT_BYTES c.self.inside.taken BUFFER_BYTES c.min-room.result c.in_ok-count.count c.min-room.ensures c.in_ok-count.ensures.room c.self.invariant.limited).limited

pub returns-clause-told : goal.returns-clause-told
returns-clause-told g c = λ t.
    let lent = c.deref_mut.ensures in
    let back = put-back c.self.inside.buffer.len c.take_into.new.into c.deref_mut.result.now c.self.inside.buffer.items c.take_into.auto.into lent.len in (
      record { honest = c.in_ok-count.ensures.went.honest.0 t.honest; ended = λ is. absurd (not-both c.self.inside.ended is c.if-self.false) },
      refilled c.in_ok-count.count _ c.take_into.new.into (g.S.Source.source c.args.source.now).bytes (g.S.Source.source c.take_into.new.source).bytes back (c.in_ok-count.ensures.told t.honest),
    )

pub returns-clause-total : goal.returns-clause-total
returns-clause-total g c = λ t.
    let lent = c.deref_mut.ensures in
    let size = c.take_into.auto.into ∙ ap length lent.value ∙ c.self.invariant.size in
    let room = in-room INPUT_BYTES c.self.inside.taken BUFFER_BYTES c.min-room.result c.in_ok-count.count c.min-room.ensures c.in_ok-count.ensures.room c.self.invariant.limited in
    let all = counted c.in_ok-count.count c.self.inside.taken c.take_into.new.into (g.S.Source.source c.args.source.now).bytes (g.S.Source.source c.take_into.new.source).bytes
    (rw size room.within) (c.in_ok-count.ensures.told t.honest) in
    all-kept bytes-below c.args.self.now.taken _ _ _ (rw (← c.self.view_is) all)

pub returns-clause-bytes : goal.returns-clause-bytes
returns-clause-bytes g c = λ _.
    let lent = c.deref_mut.ensures in
    let back = put-back c.self.inside.buffer.len c.take_into.new.into c.deref_mut.result.now c.self.inside.buffer.items c.take_into.auto.into lent.len in
    let size = c.take_into.auto.into ∙ ap length lent.value ∙ c.self.invariant.size in
    let room = in-room INPUT_BYTES c.self.inside.taken BUFFER_BYTES c.min-room.result c.in_ok-count.count c.min-room.ensures c.in_ok-count.ensures.room c.self.invariant.limited in
    let some = some-came INPUT_BYTES c.self.inside.taken c.in_ok-count.count _ c.take_into.new.into back c.if-count-eq0.false (rw size room.within) room.limited in
    (some.0, rw (c.requires, ← c.self.view_is) some.1)
