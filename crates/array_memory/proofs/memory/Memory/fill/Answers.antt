use Rattle.array_memory.proofs.Prelude.{◌≡◌, ◌+◌, ◌-◌, ◌++◌, ◌∙◌, sym, ap, arith, List, ℕ, Some, length, replicate, vec_len, vec_capacity, length-append, length-replicate, filled, ObjectFact, Kept, kept_of, targets_from, targets_long, put_done, staging, staged_then}
use Rattle.array_memory.proofs.memory.Memory.fill.Goals as goal

pub overflow_cast-lba : goal.overflow_cast-lba
overflow_cast-lba c =
    let s = c.requires.span in
    let e = ap (λ (x : ObjectFact). x.sectors) (c.object_of-object.ensures.is s.volume s.there s.named) in
    omega (arith, e, s.within, c.object_of-object.ensures.size)

pub put-requires-clause-sectors : goal.put-requires-clause-sectors
put-requires-clause-sectors c =
    let s = c.requires.span in
    let e = ap (λ (x : ObjectFact). x.sectors) (c.object_of-object.ensures.is s.volume s.there s.named) in
    omega (arith, e, s.within, c.object_of-object.ensures.size)

pub returns-clause-put : goal.returns-clause-put
returns-clause-put c =
    let s = c.requires.span in
    let m = c.self.inside in
    let k = c.args.self.now in
    let room = vec_capacity c.stage_filled.new.staged - vec_len c.stage_filled.new.staged in
    let mid = kept_of m.objects m.mediums.facts m.addresses.facts m.segments m.elisions m.elided c.stage_filled.new.staged.items room m.next in
    let staged : mid ≡ staging k (replicate c.args.count (filled c.args.byte)) room =
    ap (λ (st : List (List ℕ)). kept_of m.objects m.mediums.facts m.addresses.facts m.segments m.elisions m.elided st room m.next) c.stage_filled.ensures.staged
    ∙ ap (λ (x : Kept). staging x (replicate c.args.count (filled c.args.byte)) room) c.self.view_is in
    let index : c.len-index.result ≡ length m.staged.items = omega (arith, c.len-index.ensures, m.staged.ok.0) in
    let index_is : c.len-index.result ≡ length k.memory.staged = index ∙ ap (λ (x : Kept). length x.memory.staged) c.self.view_is in
    put_done k mid c.put.new.self c.args.name.now c.args.lba c.args.count c.object_of-object.result.medium.0 room (targets_from (Some (length k.memory.staged)) 0 c.args.count) (replicate c.args.count (filled c.args.byte)) s
    (ap (λ (x : ObjectFact). x.medium.0) (c.object_of-object.ensures.is s.volume s.there s.named)) staged c.put.ensures.rest (targets_long (Some (length k.memory.staged)) 0 c.args.count)
    (rw index_is at c.put.ensures.addresses) c.put.ensures.patches

pub returns-clause-room_left : goal.returns-clause-room_left
returns-clause-room_left c =
    let m = c.self.inside in
    let k = c.args.self.now in
    let n = c.args.count in
    let more = replicate n (filled c.args.byte) in
    let room = vec_capacity c.stage_filled.new.staged - vec_len c.stage_filled.new.staged in
    let mid = kept_of m.objects m.mediums.facts m.addresses.facts m.segments m.elisions m.elided c.stage_filled.new.staged.items room m.next in
    let staged : mid ≡ staging k more room =
    ap (λ (st : List (List ℕ)). kept_of m.objects m.mediums.facts m.addresses.facts m.segments m.elisions m.elided st room m.next) c.stage_filled.ensures.staged
    ∙ ap (λ (x : Kept). staging x more room) c.self.view_is in
    let before : k.staged_room ≡ vec_capacity m.staged - vec_len m.staged = sym (ap (λ (x : Kept). x.staged_room) c.self.view_is) in
    let kept : length k.memory.staged ≡ length m.staged.items = sym (ap (λ (x : Kept). length x.memory.staged) c.self.view_is) in
    let many : length more ≡ n = length-replicate n (filled c.args.byte) in
    let added : length c.stage_filled.new.staged.items ≡ length m.staged.items + length more = ap (λ (l : List (List ℕ)). length l) c.stage_filled.ensures.staged ∙ length-append m.staged.items more in
    let long : vec_len c.stage_filled.new.staged ≡ vec_len m.staged + n = omega (arith, added, many, m.staged.ok.0, c.stage_filled.new.staged.ok.0) in
    let all : length (k.memory.staged ++ more) ≡ length k.memory.staged + length more = length-append k.memory.staged more in
    let capacity = c.stage_filled.ensures.capacity in
    staged_then k mid c.put.new.self more n room staged (omega (arith, before, long, capacity)) (omega (arith, all, many)) (omega (arith, before, long, capacity, kept, all, many, m.staged.ok.0)) c.put.ensures.room_left
