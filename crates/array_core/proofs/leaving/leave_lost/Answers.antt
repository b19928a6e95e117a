use Rattle.array_core.proofs.Prelude.{inl, inr, ◌≡◌, ◌-◌, ◌^◌, ◌<◌, [], ◌∷◌, arith, sym, ap, subst, slice_index_or, false, length-take, BootRecord, started, ran_more, Register, cases_Bool, member_below, drives_of, IsOpen, array_of, cut_in, in_cut, stands_at, gives_at, IsKeptAt}
use Rattle.array_core.proofs.Holders.{is_drive, slots_of_more}
use Rattle.array_core.proofs.Kept.{free_writes_keep_open, free_writes_leave}
use Rattle.array_core.proofs.FreeWrites.{all_synced, kept_then, left_then, may_leave}
use Rattle.array_core.proofs.Changes.{unlost_of}
use Rattle.array_core.proofs.Stages.{ok_if}
use Rattle.array_core.proofs.Storing.{store_moments}
use Rattle.array_core.proofs.leaving.leave_lost.Given as given
use Rattle.array_core.proofs.leaving.leave_lost.Goals as goal

pub returns-then-not-lose-clause-held : goal.returns-then-not-lose-clause-held
returns-then-not-lose-clause-held g c h start held o w =
    let s = g.S.Shelf.shelf start in
    let a = g.S.Shelf.shelf c.args.shelf.now in
    let r = c.args.register.now in
    let same : c.lose.new.self ≡ r = c.lose.ensures.none c.if-not-lose.true in
    subst (λ (x : Register). IsOpen a x c.args.nvrams held) (sym same)
    (free_writes_keep_open s a (g.met.S.Shelf.is_shelf start) (g.met.S.Shelf.is_shelf c.args.shelf.now) (w.free.continues.honest_before h) r c.args.nvrams held o w.free
    (all_synced s a r c.lose.new.self c.args.lost.now held w same (λ i m. (c.lose.ensures.left i).0 m)))

pub returns-then-not-lose-clause-any_moment : goal.returns-then-not-lose-clause-any_moment
returns-then-not-lose-clause-any_moment g c h start held o w =
    let s = g.S.Shelf.shelf start in
    let a = g.S.Shelf.shelf c.args.shelf.now in
    let r = c.args.register.now in
    let is = g.met.S.Shelf.is_shelf start in
    let hs = w.free.continues.honest_before h in
    started a (IsKeptAt s r.record (array_of held ∷ [])) (g.met.S.Shelf.is_shelf c.args.shelf.now)
    (λ stop may. kept_then s is hs r c.args.nvrams held o stop (left_then s is hs r c.args.nvrams held o a w.free stop may))

pub returns-clause-ran : goal.returns-clause-ran
returns-clause-ran g c =
    let r = c.args.register.now in
    let now = c.lose.new.self in
    ran_more (is_drive (drives_of now)) (slots_of_more r now (ap (λ (b : BootRecord). b.slots) c.lose.ensures.record) (λ k m. ((c.lose.ensures.left k).0 m).0)) c.store.ensures.ran

pub returns-clause-left : goal.returns-clause-left
returns-clause-left g c =
    let e : c.lose.new.self.record.generation ≡ c.args.register.now.record.generation = ap (λ (b : BootRecord). b.generation) c.lose.ensures.record in
    let y = c.store.ensures in
    record { of_shelf = y.left.is_of; few = omega (arith, e, y.made.few); fewer = λ i m. (c.lose.ensures.left i).0 (y.left.fewer i m); fewer_logs = λ n m. m }

pub returns-clause-dropped : goal.returns-clause-dropped
returns-clause-dropped g c =
    let r = c.args.register.now in
    let now = c.lose.new.self in
    let slots : now.record.slots ≡ r.record.slots = ap (λ (b : BootRecord). b.slots) c.lose.ensures.record in
    record {
      dropped = λ i m. elim (cases_Bool (slice_index_or c.args.lost.now i false)) [
        | inl is ↦ inl is
        | inr none ↦ inr (c.store.ensures.left.dropped i (cut_in now.drives now.record.slots i (omega (arith, slots, member_below (drives_of r) i m, length-take r.record.slots r.drives))
            ((c.lose.ensures.left i).1 (in_cut r.drives r.record.slots i m, λ is. cc (is, none)))))
      ];
      unlost = unlost_of c.store.ensures.left;
    }

low : (g : given.Over) (c : goal.After-store g) → c.store.new.self.record.generation < 2 ^ 48 - 8
low g c = let e : c.lose.new.self.record.generation ≡ c.args.register.now.record.generation = ap (λ (b : BootRecord). b.generation) c.lose.ensures.record in omega (arith, e, c.store.ensures.made.few, c.requires.not_spent)

pub returns-clause-held : goal.returns-clause-held
returns-clause-held g c h = ok_if c.store.result (λ get start held o w. get _ (c.store.ensures.stored h (low g c) held
    (free_writes_leave (g.S.Shelf.shelf start) (g.S.Shelf.shelf c.args.shelf.now) (g.met.S.Shelf.is_shelf start) (w.free.continues.honest_before h) c.args.register.now c.lose.new.self c.args.nvrams held o w.free
    c.lose.ensures.record (λ k m. ((c.lose.ensures.left k).0 m).0))))

pub returns-clause-any_moment : goal.returns-clause-any_moment
returns-clause-any_moment g c h start held o w =
    let s = g.S.Shelf.shelf start in
    let a = g.S.Shelf.shelf c.args.shelf.now in
    let b = g.S.Shelf.shelf c.store.new.shelf in
    let r = c.args.register.now in
    let now = c.lose.new.self in
    store_moments s a r now c.args.nvrams c.args.nvrams held held (array_of held ∷ [])
    (may_leave s a (g.met.S.Shelf.is_shelf start) (g.met.S.Shelf.is_shelf c.args.shelf.now) (w.free.continues.honest_before h) r now c.args.lost.now c.args.nvrams held o w c.lose.ensures.record
    (λ i m. (c.lose.ensures.left i).0 m) (λ i m. (c.lose.ensures.left i).1 m))
    b (c.store.ensures.ran.on.writes h) (stands_at (c.store.ensures.moments h (low g c))) (gives_at (c.store.ensures.moments h (low g c)))
