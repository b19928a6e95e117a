use Rattle.array_memory.proofs.Prelude.{◌≡◌, ◌+◌, ◌-◌, ◌++◌, ◌∙◌, sym, ap, arith, List, ℕ, Some, length, vec_len, vec_capacity, length-append, ObjectFact, Kept, kept_of, targets_from, targets_long, put_done, staging, staged_then}
use Rattle.array_memory.proofs.memory.Memory.write.Goals as goal

pub overflow_cast-lba : goal.overflow_cast-lba
overflow_cast-lba c =
    let s = c.requires.span in
    let e = ap (λ (x : ObjectFact). x.sectors) (c.object_of-object.ensures.is s.volume s.there s.named) in
    omega (arith, e, s.within, c.object_of-object.ensures.size)

pub put-requires-clause-sectors : goal.put-requires-clause-sectors
put-requires-clause-sectors c =
    let s = c.requires.span in
    let e = ap (λ (x : ObjectFact). x.sectors) (c.object_of-object.ensures.is s.volume s.there s.named) in
    omega (arith, e, s.within, c.object_of-object.ensures.size)

pub returns-clause-put : goal.returns-clause-put
returns-clause-put c =
    let s = c.requires.span in
    let m = c.self.inside in
    let k = c.args.self.now in
    let room = vec_capacity c.stage_all.new.staged - vec_len c.stage_all.new.staged in
    let mid = kept_of m.objects m.mediums.facts m.addresses.facts m.segments m.elisions m.elided c.stage_all.new.staged.items room m.next in
    let staged : mid ≡ staging k c.args.sectors.now room =
    ap (λ (st : List (List ℕ)). kept_of m.objects m.mediums.facts m.addresses.facts m.segments m.elisions m.elided st room m.next) c.stage_all.ensures.staged
    ∙ ap (λ (x : Kept). staging x c.args.sectors.now room) c.self.view_is in
    let index : c.len-index.result ≡ length m.staged.items = omega (arith, c.len-index.ensures, m.staged.ok.0) in
    let index_is : c.len-index.result ≡ length k.memory.staged = index ∙ ap (λ (x : Kept). length x.memory.staged) c.self.view_is in
    put_done k mid c.put.new.self c.args.name.now c.args.lba (length c.args.sectors.now) c.object_of-object.result.medium.0 room (targets_from (Some (length k.memory.staged)) 0 (length c.args.sectors.now)) c.args.sectors.now s
    (ap (λ (x : ObjectFact). x.medium.0) (c.object_of-object.ensures.is s.volume s.there s.named)) staged c.put.ensures.rest (targets_long (Some (length k.memory.staged)) 0 (length c.args.sectors.now))
    (rw index_is at c.put.ensures.addresses) c.put.ensures.patches

pub returns-clause-room_left : goal.returns-clause-room_left
returns-clause-room_left c =
    let m = c.self.inside in
    let k = c.args.self.now in
    let n = length c.args.sectors.now in
    let room = vec_capacity c.stage_all.new.staged - vec_len c.stage_all.new.staged in
    let mid = kept_of m.objects m.mediums.facts m.addresses.facts m.segments m.elisions m.elided c.stage_all.new.staged.items room m.next in
    let staged : mid ≡ staging k c.args.sectors.now room =
    ap (λ (st : List (List ℕ)). kept_of m.objects m.mediums.facts m.addresses.facts m.segments m.elisions m.elided st room m.next) c.stage_all.ensures.staged
    ∙ ap (λ (x : Kept). staging x c.args.sectors.now room) c.self.view_is in
    let before : k.staged_room ≡ vec_capacity m.staged - vec_len m.staged = sym (ap (λ (x : Kept). x.staged_room) c.self.view_is) in
    let kept : length k.memory.staged ≡ length m.staged.items = sym (ap (λ (x : Kept). length x.memory.staged) c.self.view_is) in
    let added : length c.stage_all.new.staged.items ≡ length m.staged.items + n = ap (λ (l : List (List ℕ)). length l) c.stage_all.ensures.staged ∙ length-append m.staged.items c.args.sectors.now in
    let long : vec_len c.stage_all.new.staged ≡ vec_len m.staged + n = omega (arith, added, m.staged.ok.0, c.stage_all.new.staged.ok.0) in
    let all : length (k.memory.staged ++ c.args.sectors.now) ≡ length k.memory.staged + n = length-append k.memory.staged c.args.sectors.now in
    let capacity = c.stage_all.ensures.capacity in
    staged_then k mid c.put.new.self c.args.sectors.now n room staged (omega (arith, before, long, capacity)) (omega (arith, all)) (omega (arith, before, long, capacity, kept, all, m.staged.ok.0)) c.put.ensures.room_left
