use Rattle.array_core.proofs.Prelude.{rules, ◌≡◌, ◌∙◌, inl, inr, ℕ, ◌+◌, ◌-◌, ◌^◌, ◌<◌, ◌∷◌, [], List, Bool, Ok, arith, refl, sym, ap, subst, Command, drive, nvram, BootRecord, LeavesOnly, ran_more, ran_then, HoldsOn, Content, IsOpen, StandsInLog, array_of, same_flags, stands_at, gives_at, IsKeptAt, MayClear}
use Rattle.register.proofs.Made.{store_later}
use Rattle.array_core.proofs.Changes.{only_faults, unlost_of, when_err}
use Rattle.array_core.proofs.Cleared.{IsClearing, all_moments, clear_moments, clearing, logged_left, still_open}
use Rattle.array_core.proofs.Lost.{lost_log}
use Rattle.array_core.proofs.LostOnWay.{drives_lost}
use Rattle.array_core.proofs.Tables.{still_holds}
use Rattle.array_core.proofs.clearing.clear_log.Given as given
use Rattle.array_core.proofs.clearing.clear_log.Goals as goal
use Rattle.array_core.proofs.clearing.clear_log.Goals.{After-clear, After-store}

-- the log is cleared on its devices
cleared : (g : given.Over) (c : After-clear g) → (g.S.Shelf.shelf c.args.shelf.now).honest → (held : Content) (commands : List Command) → MayClear (g.S.Shelf.shelf c.args.shelf.now) c.args.register.now c.args.log.now held commands
    → IsClearing (g.S.Shelf.shelf c.args.shelf.now) (g.S.Shelf.shelf c.clear.new.shelf) c.args.register.now c.args.log.now.members c.clear.new.self.members held
cleared g c h held commands may =
    let x = c.clear.ensures in
    clearing (g.S.Shelf.shelf c.args.shelf.now) (g.S.Shelf.shelf c.clear.new.shelf) c.args.register.now c.args.log.now c.clear.new.self.members commands held (g.met.S.Shelf.is_shelf c.args.shelf.now) (g.met.S.Shelf.is_shelf c.clear.new.shelf) h
    x.ran.on.continues may.is_open.is_open may.empty (λ i. x.ran.on.others (drive i) (λ none. none)) x.members.fewer x.members.dropped (x.none_later h commands may.keeps may.is_open.held_log) (x.ran.on.writes h) c.requires.flushed may.keeps

-- ---- no device of it is left

pub returns-in_err-clear-clause-faults : goal.returns-in_err-clear-clause-faults
returns-in_err-clear-clause-faults g c =
    let a = g.S.Shelf.shelf c.args.shelf.now in
    let m = g.S.Shelf.shelf c.clear.new.shelf in
    let r = c.args.register.now in
    let x = c.clear.ensures in
    only_faults a m m r r c.args.log.now.members c.clear.new.self.members (search rules) (λ i. x.ran.on.others (drive i) (λ none. none)) (λ k. refl) x.members (λ i is. inl is) (λ i is. refl) c.from_residual.result
    (λ dropped. when_err c.from_residual.result (inl (lost_log a m c.args.log.now.members c.clear.new.self.members x.members.dropped c.in_err-clear.ensures.err.2)))

pub returns-in_err-clear-clause-stays : goal.returns-in_err-clear-clause-stays
returns-in_err-clear-clause-stays g c h held commands may = record {
  opens = search rules;
  any_moment = clear_moments (g.S.Shelf.shelf c.args.shelf.now) (g.S.Shelf.shelf c.clear.new.shelf) c.args.register.now c.args.log.now.members c.clear.new.self.members held (cleared g (goal.at.returns-in_err-clear-clause-stays g c).After-clear h held commands may);
}

-- ---- no device of it failed

pub returns-then-eq-clause-faults : goal.returns-then-eq-clause-faults
returns-then-eq-clause-faults g c =
    let m = g.S.Shelf.shelf c.clear.new.shelf in
    let r = c.args.register.now in
    let x = c.clear.ensures in
    only_faults (g.S.Shelf.shelf c.args.shelf.now) m m r r c.args.log.now.members c.clear.new.self.members (search rules) (λ i. x.ran.on.others (drive i) (λ none. none)) (λ k. refl) x.members (λ i is. inl is) (λ i is. refl) (Ok tt) (λ dropped. tt)

pub returns-then-eq-clause-stays : goal.returns-then-eq-clause-stays
returns-then-eq-clause-stays g c h held commands may =
    let m = g.S.Shelf.shelf c.clear.new.shelf in
    let r = c.args.register.now in
    let log = c.args.log.now in
    let now = c.clear.new.self.members in
    let p = cleared g (goal.at.returns-then-eq-clause-stays g c).After-clear h held commands may in
    let holds = c.in_ok-clear.ensures.holds h commands may.keeps may.is_open.held_log in
    let holds_then : HoldsOn m now r.record.flushed [] = subst (λ (f : ℕ). HoldsOn m now f []) (c.in_ok-clear.ensures.ok.0 ∙ sym c.requires.flushed) holds in
    let same : now ≡ log.members = sym c.members-members.ensures ∙ same_flags c.members-members.result c.members-before.result c.if-eq.ensures ∙ c.members-before.ensures in
    record {
      opens = record { is_open = still_open (g.S.Shelf.shelf c.args.shelf.now) m r log.members now held p holds_then same; held_log = holds };
      any_moment = clear_moments (g.S.Shelf.shelf c.args.shelf.now) m r log.members now held p;
    }

-- ---- a record was stored without one of them, or could not be

room : (g : given.Over) (c : After-store g) → c.store.new.self.record.generation < 2 ^ 48 - 8
room g c = omega (arith, c.store.ensures.made.few, c.requires.not_spent)

holds_then : (g : given.Over) (c : After-store g) → (g.S.Shelf.shelf c.args.shelf.now).honest → (held : Content) (commands : List Command) → MayClear (g.S.Shelf.shelf c.args.shelf.now) c.args.register.now c.args.log.now held commands
    → HoldsOn (g.S.Shelf.shelf c.clear.new.shelf) c.clear.new.self.members c.args.register.now.record.flushed []
holds_then g c h held commands may = subst (λ (f : ℕ). HoldsOn (g.S.Shelf.shelf c.clear.new.shelf) c.clear.new.self.members f []) (c.in_ok-clear.ensures.ok.0 ∙ sym c.requires.flushed) (c.in_ok-clear.ensures.holds h commands may.keeps may.is_open.held_log)

store_moments : (g : given.Over) (c : After-store g) → (g.S.Shelf.shelf c.args.shelf.now).honest → (held : Content) (commands : List Command) → MayClear (g.S.Shelf.shelf c.args.shelf.now) c.args.register.now c.args.log.now held commands
    → IsClearing (g.S.Shelf.shelf c.args.shelf.now) (g.S.Shelf.shelf c.clear.new.shelf) c.args.register.now c.args.log.now.members c.clear.new.self.members held
    → LeavesOnly (g.S.Shelf.shelf c.args.shelf.now) (g.S.Shelf.shelf c.store.new.shelf) (IsKeptAt (g.S.Shelf.shelf c.args.shelf.now) c.args.register.now.record (array_of held ∷ []))
store_moments g c h held commands may p =
    let hm = c.clear.ensures.ran.on.continues.honest h in
    all_moments (g.S.Shelf.shelf c.args.shelf.now) (g.S.Shelf.shelf c.clear.new.shelf) (g.S.Shelf.shelf c.store.new.shelf) c.args.register.now c.args.log.now.members c.clear.new.self.members c.members-members.result held p
    (holds_then g c h held commands may) c.members-members.ensures (c.store.ensures.ran.on.writes hm) (stands_at (c.store.ensures.moments hm (room g c))) (gives_at (c.store.ensures.moments hm (room g c)))

pub returns-in_err-store-clause-ran : goal.returns-in_err-store-clause-ran
returns-in_err-store-clause-ran g c =
    ran_then g.met.S.Shelf.shelf_rest_stays (ran_more (λ d is. tt) (λ d i w. inr w) c.clear.ensures.ran) (ran_more (λ d is. tt) (λ d i w. inl w) c.store.ensures.ran)

pub returns-in_err-store-clause-faults : goal.returns-in_err-store-clause-faults
returns-in_err-store-clause-faults g c =
    let a = g.S.Shelf.shelf c.args.shelf.now in
    let n = g.S.Shelf.shelf c.store.new.shelf in
    let r = c.args.register.now in
    let now = c.store.new.self in
    let x = c.clear.ensures in
    let y = c.store.ensures in
    let low : now.record.generation + 1 < 2 ^ 48 = omega (arith, y.made.few, c.requires.not_spent) in
    only_faults a (g.S.Shelf.shelf c.clear.new.shelf) n r now c.args.log.now.members c.clear.new.self.members (search rules) (λ i. x.ran.on.others (drive i) (λ none. none)) (λ k. y.ran.on.others (nvram k) (λ none. none)) x.members y.left.dropped (unlost_of y.left)
    c.from_residual-in_err-store.result (λ dropped. when_err c.from_residual-in_err-store.result
    (inr (drives_lost a n r now (ap (λ (b : BootRecord). b.slots) (store_later y.made).rest) dropped low c.in_err-store.field-0.0 c.in_err-store.ensures.made.fault)))

pub returns-in_err-store-clause-stays : goal.returns-in_err-store-clause-stays
returns-in_err-store-clause-stays g c h held commands may =
    let k = goal.at.returns-in_err-store-clause-stays g c in
    record { opens = search rules; any_moment = store_moments g k.After-store h held commands may (cleared g k.After-clear h held commands may) }

pub returns-clause-ran : goal.returns-clause-ran
returns-clause-ran g c =
    ran_then g.met.S.Shelf.shelf_rest_stays (ran_more (λ d is. tt) (λ d i w. inr w) c.clear.ensures.ran) (ran_more (λ d is. tt) (λ d i w. inl w) c.store.ensures.ran)

pub returns-clause-faults : goal.returns-clause-faults
returns-clause-faults g c =
    let x = c.clear.ensures in
    let y = c.store.ensures in
    only_faults (g.S.Shelf.shelf c.args.shelf.now) (g.S.Shelf.shelf c.clear.new.shelf) (g.S.Shelf.shelf c.store.new.shelf) c.args.register.now c.store.new.self c.args.log.now.members c.clear.new.self.members (search rules)
    (λ i. x.ran.on.others (drive i) (λ none. none)) (λ k. y.ran.on.others (nvram k) (λ none. none)) x.members y.left.dropped (unlost_of y.left) (Ok tt) (λ dropped. tt)

pub returns-clause-stays : goal.returns-clause-stays
returns-clause-stays g c h held commands may =
    let m = g.S.Shelf.shelf c.clear.new.shelf in
    let n = g.S.Shelf.shelf c.store.new.shelf in
    let r = c.args.register.now in
    let now = c.clear.new.self.members in
    let k = (goal.at.returns-clause-stays g c).After-store in
    let p = cleared g (goal.at.returns-clause-stays g c).After-clear h held commands may in
    let stored : IsOpen n c.store.new.self c.members-members.result held =
    c.in_ok-store.ensures.stored (c.clear.ensures.ran.on.continues.honest h) (room g k) held
    (subst (λ (l : List Bool). StandsInLog m r l held) (sym c.members-members.ensures) (logged_left (g.S.Shelf.shelf c.args.shelf.now) m r c.args.log.now.members now held p (holds_then g k h held commands may))) in
    record {
      opens = record {
        is_open = subst (λ (l : List Bool). IsOpen n c.store.new.self l held) c.members-members.ensures stored;
        held_log = still_holds m n now c.clear.new.self.flushed [] (λ k. c.store.ensures.ran.on.others (nvram k) (λ z. z)) (c.in_ok-clear.ensures.holds h commands may.keeps may.is_open.held_log);
      };
      any_moment = store_moments g k h held commands may p;
    }
