use Rattle.array_core.proofs.Prelude.{rules, ◌≡◌, ◌∙◌, sym, subst, ap, refl, inl, inr, ℕ, ◌+◌, ◌-◌, ◌^◌, ◌<◌, ◌++◌, ◌∷◌, [], List, length, Bool, Ok, arith, Command, Conditions, drive, nvram, BootRecord, geometry_of, LeavesOnly, ran_more, ran_then, facts, named_sound, StandsAgain, StandsBut, HoldsOn, drives_of, next_slot, Content, GivesOldOrNext, IsFirm, IsOpen, MayStore, StandsInLog, same_flags, other_flags, stands_at, gives_at, MayLog, logged, IsKeptAt, StandsOnceBack, without_or_with}
use Rattle.pur_base.specs.Plain as plain
use Rattle.register.proofs.Made.{store_later}
use Rattle.array_core.specs.declared.array.Array.{Array}
use Rattle.array_core.proofs.Changes.{only_faults, unlost_of, when_err}
use Rattle.array_core.proofs.Lost.{lost_log}
use Rattle.array_core.proofs.LostOnWay.{drives_lost}
use Rattle.array_core.proofs.Dropped.{fewer_drives, none_joins, rises_little}
use Rattle.array_core.proofs.Appended.{IsAppending, appending, append_moments, still_open, logged_then, all_moments}
use Rattle.array_core.proofs.Outlasts.{append_again, store_again}
use Rattle.array_core.proofs.Segments.{AreKept, behind_boot, drives_left, hold_fewer, hold_kept, unwritten}
use Rattle.array_core.proofs.Tables.{still_holds}
use Rattle.array_core.proofs.commit.commit.Given as given
use Rattle.array_core.proofs.commit.commit.Goals as goal
use Rattle.array_core.proofs.commit.commit.Goals.{After-append, After-store}

abbrev command : (g : given.Over) → After-append g → Command
command g c = record { request = c.args.request.now; sectors = c.args.sectors.now }

-- the command is appended
appended : (g : given.Over) (c : After-append g) → (g.S.Shelf.shelf c.args.shelf.now).honest → (held : Content) → MayLog (g.S.Shelf.shelf c.args.shelf.now) c.args.array.now held (command g c)
    → IsAppending (g.S.Shelf.shelf c.args.shelf.now) (g.S.Shelf.shelf c.append.new.shelf) c.args.array.now.register c.args.array.now.log.members c.append.new.self.members held (command g c)
appended g c h held may =
    let x = c.append.ensures in
    appending (g.S.Shelf.shelf c.args.shelf.now) (g.S.Shelf.shelf c.append.new.shelf) c.args.array.now.register c.args.array.now.log c.append.new.self.members held (command g c) (g.met.S.Shelf.is_shelf c.args.shelf.now) (g.met.S.Shelf.is_shelf c.append.new.shelf) h
    x.ran.on.continues may.is_open.is_open may.keeps c.requires.room c.requires.is_of.flushed may.accepted (λ i. x.ran.on.others (drive i) (λ none. none)) x.members.fewer x.members.dropped (x.any_moment h held.log may.keeps may.is_open.held_log) (x.ran.on.writes h) x.spelled

-- ---- it is on no device

pub returns-in_err-append-clause-ran : goal.returns-in_err-append-clause-ran
returns-in_err-append-clause-ran g c = ran_more (λ d is. tt) (λ d i w. inr w) c.append.ensures.ran

pub returns-in_err-append-clause-faults : goal.returns-in_err-append-clause-faults
returns-in_err-append-clause-faults g c =
    let a = g.S.Shelf.shelf c.args.shelf.now in
    let m = g.S.Shelf.shelf c.append.new.shelf in
    let r = c.args.array.now.register in
    let x = c.append.ensures in
    only_faults a m m r r c.args.array.now.log.members c.append.new.self.members (search rules) (λ i. x.ran.on.others (drive i) (λ none. none)) (λ k. refl) x.members (λ i is. inl is) (λ i is. refl) c.from_residual.result
    (λ dropped. when_err c.from_residual.result (inl (lost_log a m c.args.array.now.log.members c.append.new.self.members x.members.dropped c.in_err-append.ensures.err.1)))

pub returns-in_err-append-clause-stays : goal.returns-in_err-append-clause-stays
returns-in_err-append-clause-stays g c h held may =
    let k = (goal.at.returns-in_err-append-clause-stays g c).After-append in
    record { opens = search rules; any_moment = append_moments (g.S.Shelf.shelf c.args.shelf.now) (g.S.Shelf.shelf c.append.new.shelf) c.args.array.now.register c.args.array.now.log.members c.append.new.self.members held (command g k) (appended g k h held may) }

pub returns-in_err-append-clause-outlasts : goal.returns-in_err-append-clause-outlasts
returns-in_err-append-clause-outlasts g c h held may = let k = (goal.at.returns-in_err-append-clause-outlasts g c).After-append in append_again (g.S.Shelf.shelf c.args.shelf.now) (g.S.Shelf.shelf c.append.new.shelf) c.args.array.now.register c.args.array.now.log.members c.append.new.self.members held (command g k) (appended g k h held may)

-- ---- no device failed

pub returns-then-eq-clause-ran : goal.returns-then-eq-clause-ran
returns-then-eq-clause-ran g c = ran_more (λ d is. tt) (λ d i w. inr w) c.append.ensures.ran

pub returns-then-eq-clause-appended : goal.returns-then-eq-clause-appended
returns-then-eq-clause-appended g c =
    let a = g.S.Shelf.shelf c.args.shelf.now in
    let m = g.S.Shelf.shelf c.append.new.shelf in
    let was = c.args.array.now in
    let same : c.append.new.self.members ≡ was.log.members = sym c.members-members.ensures ∙ same_flags c.members-members.result c.members-before.result c.if-eq.ensures ∙ c.members-before.ensures in
    record {
      some = c.in_ok-append.ensures.ok.1;
      count = c.in_ok-append.ensures.ok.0;
      keeps = c.in_ok-append.ensures.keeps;
      boot = search rules;
      joins = record { holders = search rules; named = λ d e. inl e; names_holders = λ before. (before.0, before.1 ∙ sym same); enough = λ before. before };
      segments = λ h contents hold. hold_kept (geometry_of a) a m was.register (unwritten a m was.register (λ i. c.append.ensures.ran.on.others (drive i) (λ none. none))) contents (facts was.memory.memory.tables) c.requires.is_of.segments.places hold;
    }

pub returns-then-eq-clause-faults : goal.returns-then-eq-clause-faults
returns-then-eq-clause-faults g c =
    let m = g.S.Shelf.shelf c.append.new.shelf in
    let r = c.args.array.now.register in
    let x = c.append.ensures in
    only_faults (g.S.Shelf.shelf c.args.shelf.now) m m r r c.args.array.now.log.members c.append.new.self.members (search rules) (λ i. x.ran.on.others (drive i) (λ none. none)) (λ k. refl) x.members (λ i is. inl is) (λ i is. refl) (Ok tt) (λ dropped. tt)

pub returns-then-eq-clause-stays : goal.returns-then-eq-clause-stays
returns-then-eq-clause-stays g c h held may =
    let m = g.S.Shelf.shelf c.append.new.shelf in
    let r = c.args.array.now.register in
    let log = c.args.array.now.log in
    let now = c.append.new.self.members in
    let x = c.append.ensures in
    let k = (goal.at.returns-then-eq-clause-stays g c).After-append in
    let holds = c.in_ok-append.ensures.holds h held.log may.keeps may.is_open.held_log in
    let holds_then : HoldsOn m now r.record.flushed (held.log ++ command g k ∷ []) = subst (λ (f : ℕ). HoldsOn m now f (held.log ++ command g k ∷ [])) (x.flushed ∙ c.requires.is_of.flushed) holds in
    let p = appended g k h held may in
    let same : log.members ≡ now = sym c.members-before.ensures ∙ sym (same_flags c.members-members.result c.members-before.result c.if-eq.ensures) ∙ c.members-members.ensures in
    record {
      opens = record { is_open = still_open (g.S.Shelf.shelf c.args.shelf.now) m r log.members now held (command g k) p holds_then same; held_log = holds };
      any_moment = append_moments (g.S.Shelf.shelf c.args.shelf.now) m r log.members now held (command g k) p;
    }

pub returns-then-eq-clause-outlasts : goal.returns-then-eq-clause-outlasts
returns-then-eq-clause-outlasts g c h held may = let k = (goal.at.returns-then-eq-clause-outlasts g c).After-append in append_again (g.S.Shelf.shelf c.args.shelf.now) (g.S.Shelf.shelf c.append.new.shelf) c.args.array.now.register c.args.array.now.log.members c.append.new.self.members held (command g k) (appended g k h held may)

-- ---- a record was stored without one of them, or could not be

room : (g : given.Over) (c : After-store g) → c.store.new.self.record.generation < 2 ^ 48 - 8
room g c = omega (arith, c.store.ensures.made.few, c.requires.not_spent)

abbrev command_then : (g : given.Over) → After-store g → Command
command_then g c = record { request = c.args.request.now; sectors = c.args.sectors.now }

holds_then : (g : given.Over) (c : After-store g) → (g.S.Shelf.shelf c.args.shelf.now).honest → (held : Content) → MayLog (g.S.Shelf.shelf c.args.shelf.now) c.args.array.now held (command_then g c)
    → HoldsOn (g.S.Shelf.shelf c.append.new.shelf) c.append.new.self.members c.args.array.now.register.record.flushed (held.log ++ command_then g c ∷ [])
holds_then g c h held may =
    subst (λ (f : ℕ). HoldsOn (g.S.Shelf.shelf c.append.new.shelf) c.append.new.self.members f (held.log ++ command_then g c ∷ [])) (c.append.ensures.flushed ∙ c.requires.is_of.flushed)
    (c.in_ok-append.ensures.holds h held.log may.keeps may.is_open.held_log)

store_moments : (g : given.Over) (c : After-store g) → (g.S.Shelf.shelf c.args.shelf.now).honest → (held : Content) → MayLog (g.S.Shelf.shelf c.args.shelf.now) c.args.array.now held (command_then g c)
    → IsAppending (g.S.Shelf.shelf c.args.shelf.now) (g.S.Shelf.shelf c.append.new.shelf) c.args.array.now.register c.args.array.now.log.members c.append.new.self.members held (command_then g c)
    → LeavesOnly (g.S.Shelf.shelf c.args.shelf.now) (g.S.Shelf.shelf c.store.new.shelf) (IsKeptAt (g.S.Shelf.shelf c.args.shelf.now) c.args.array.now.register.record (without_or_with held (command_then g c)))
store_moments g c h held may p =
    let m = g.S.Shelf.shelf c.append.new.shelf in
    let n = g.S.Shelf.shelf c.store.new.shelf in
    let r = c.args.array.now.register in
    let now = c.append.new.self.members in
    let hm = c.append.ensures.ran.on.continues.honest h in
    all_moments (g.S.Shelf.shelf c.args.shelf.now) m r c.args.array.now.log.members now held (command_then g c) p (holds_then g c h held may) n (c.store.ensures.ran.on.writes hm)
    (subst (λ (l : List Bool). (missing : Conditions) (k : Content) (others : List plain.Array) → MayStore m r l missing k others → LeavesOnly m n (StandsBut m (drives_of r) missing (next_slot r.record) r.record others))
    c.members-members.ensures (stands_at (c.store.ensures.moments hm (room g c))))
    (subst (λ (l : List Bool). (missing : Conditions) (k : Content) (others : List plain.Array) → MayStore m r l missing k others → LeavesOnly m n (GivesOldOrNext m r l missing))
    c.members-members.ensures (gives_at (c.store.ensures.moments hm (room g c))))

store_outlasts : (g : given.Over) (c : After-store g) → (g.S.Shelf.shelf c.args.shelf.now).honest → (held : Content) → MayLog (g.S.Shelf.shelf c.args.shelf.now) c.args.array.now held (command_then g c)
    → IsAppending (g.S.Shelf.shelf c.args.shelf.now) (g.S.Shelf.shelf c.append.new.shelf) c.args.array.now.register c.args.array.now.log.members c.append.new.self.members held (command_then g c)
    → LeavesOnly (g.S.Shelf.shelf c.args.shelf.now) (g.S.Shelf.shelf c.store.new.shelf) (StandsOnceBack (g.S.Shelf.shelf c.args.shelf.now) (named_sound c.args.array.now.register.record) (without_or_with held (command_then g c)))
store_outlasts g c h held may p =
    let m = g.S.Shelf.shelf c.append.new.shelf in
    let n = g.S.Shelf.shelf c.store.new.shelf in
    let r = c.args.array.now.register in
    store_again (g.S.Shelf.shelf c.args.shelf.now) m r c.args.array.now.log.members c.append.new.self.members held (command_then g c) p (holds_then g c h held may) c.in_ok-append.ensures.ok.1 n
    (subst (λ (l : List Bool). (missing : Conditions) (k : Content) (others : List plain.Array) → MayStore m r l missing k others → IsFirm m r missing → LeavesOnly m n (StandsAgain m missing others))
    c.members-members.ensures (c.store.ensures.outlasts (c.append.ensures.ran.on.continues.honest h) (room g c)))

pub returns-in_err-store-clause-ran : goal.returns-in_err-store-clause-ran
returns-in_err-store-clause-ran g c =
    ran_then g.met.S.Shelf.shelf_rest_stays (ran_more (λ d is. tt) (λ d i w. inr w) c.append.ensures.ran) (ran_more (λ d is. tt) (λ d i w. inl w) c.store.ensures.ran)

pub returns-in_err-store-clause-faults : goal.returns-in_err-store-clause-faults
returns-in_err-store-clause-faults g c =
    let a = g.S.Shelf.shelf c.args.shelf.now in
    let n = g.S.Shelf.shelf c.store.new.shelf in
    let r = c.args.array.now.register in
    let now = c.store.new.self in
    let x = c.append.ensures in
    let y = c.store.ensures in
    let low : now.record.generation + 1 < 2 ^ 48 = omega (arith, y.made.few, c.requires.not_spent) in
    only_faults a (g.S.Shelf.shelf c.append.new.shelf) n r now c.args.array.now.log.members c.append.new.self.members (search rules) (λ i. x.ran.on.others (drive i) (λ none. none)) (λ k. y.ran.on.others (nvram k) (λ none. none)) x.members y.left.dropped (unlost_of y.left)
    c.from_residual-in_err-store.result (λ dropped. when_err c.from_residual-in_err-store.result
    (inr (drives_lost a n r now (ap (λ (b : BootRecord). b.slots) (store_later y.made).rest) dropped low c.in_err-store.field-0.0 c.in_err-store.ensures.made.fault)))

pub returns-in_err-store-clause-stays : goal.returns-in_err-store-clause-stays
returns-in_err-store-clause-stays g c h held may =
    let k = goal.at.returns-in_err-store-clause-stays g c in
    record { opens = search rules; any_moment = store_moments g k.After-store h held may (appended g k.After-append h held may) }

pub returns-in_err-store-clause-outlasts : goal.returns-in_err-store-clause-outlasts
returns-in_err-store-clause-outlasts g c h held may = let k = goal.at.returns-in_err-store-clause-outlasts g c in store_outlasts g k.After-store h held may (appended g k.After-append h held may)

pub returns-clause-ran : goal.returns-clause-ran
returns-clause-ran g c =
    ran_then g.met.S.Shelf.shelf_rest_stays (ran_more (λ d is. tt) (λ d i w. inr w) c.append.ensures.ran) (ran_more (λ d is. tt) (λ d i w. inl w) c.store.ensures.ran)

pub returns-clause-appended : goal.returns-clause-appended
returns-clause-appended g c =
    let a = g.S.Shelf.shelf c.args.shelf.now in
    let m = g.S.Shelf.shelf c.append.new.shelf in
    let n = g.S.Shelf.shelf c.store.new.shelf in
    let was = c.args.array.now in
    let now : Array = record { memory = was.memory; log = c.append.new.self; register = c.store.new.self; background = was.background } in
    let of_shelf = c.requires.is_of.of_shelf in
    let places = c.requires.is_of.segments.places in
    let tables = facts was.memory.memory.tables in
    let x = c.append.ensures in
    let y = c.in_ok-store.ensures in
    let later = store_later c.store.ensures.made in
    let two : length was.log.members ≡ 2 = search rules in
    let two_now : length now.log.members ≡ 2 = search rules in
    let other : now.log.members ≡ was.log.members → ⊥ = λ e. other_flags c.members-members.result c.members-before.result c.if-eq.ensures (c.members-members.ensures ∙ e ∙ sym c.members-before.ensures) in
    record {
      some = c.in_ok-append.ensures.ok.1;
      count = c.in_ok-append.ensures.ok.0;
      keeps = c.in_ok-append.ensures.keeps;
      boot = rises_little a m n was.log.members now.log.members was.register now.register two two_now other x.members.fewer x.members.dropped (λ k. c.store.ensures.ran.on.others (nvram k) (λ none. none)) of_shelf later y.made.generation.0 y.made.enough y.made.stores;
      joins = none_joins (geometry_of a) was now c.members-members.result of_shelf later y.left.fewer x.members.fewer c.members-members.ensures y.made.members y.made.enough;
      segments = λ h contents hold.
          let kept : AreKept a n now.register = behind_boot a m n was.register now.register (λ i. x.ran.on.others (drive i) (λ none. none)) (c.store.ensures.ran.on.writes (x.ran.on.continues.honest h)) in
          let flags = y.left.is_of.lawful.lawful.members in
          let left = drives_left (geometry_of a) was.register now.register of_shelf later y.made.members.0 flags.drive_flags flags.within y.made.enough in
          hold_kept (geometry_of a) a n now.register kept contents tables places
          (hold_fewer (geometry_of a) a was.register now.register (fewer_drives was.register now.register later y.left.fewer) left.0 left.1 contents tables places hold);
    }

pub returns-clause-faults : goal.returns-clause-faults
returns-clause-faults g c =
    let x = c.append.ensures in
    let y = c.store.ensures in
    only_faults (g.S.Shelf.shelf c.args.shelf.now) (g.S.Shelf.shelf c.append.new.shelf) (g.S.Shelf.shelf c.store.new.shelf) c.args.array.now.register c.store.new.self c.args.array.now.log.members c.append.new.self.members (search rules)
    (λ i. x.ran.on.others (drive i) (λ none. none)) (λ k. y.ran.on.others (nvram k) (λ none. none)) x.members y.left.dropped (unlost_of y.left) (Ok tt) (λ dropped. tt)

pub returns-clause-stays : goal.returns-clause-stays
returns-clause-stays g c h held may =
    let m = g.S.Shelf.shelf c.append.new.shelf in
    let n = g.S.Shelf.shelf c.store.new.shelf in
    let r = c.args.array.now.register in
    let now = c.append.new.self.members in
    let k = (goal.at.returns-clause-stays g c).After-store in
    let cmd = command_then g k in
    let p = appended g (goal.at.returns-clause-stays g c).After-append h held may in
    let in_log = logged_then (g.S.Shelf.shelf c.args.shelf.now) m r c.args.array.now.log.members now held cmd p (holds_then g k h held may) in
    let stored : IsOpen n c.store.new.self c.members-members.result (logged held cmd) =
    c.in_ok-store.ensures.stored (c.append.ensures.ran.on.continues.honest h) (room g k) (logged held cmd) (subst (λ (l : List Bool). StandsInLog m r l (logged held cmd)) (sym c.members-members.ensures) in_log) in
    record {
      opens = record {
        is_open = subst (λ (l : List Bool). IsOpen n c.store.new.self l (logged held cmd)) c.members-members.ensures stored;
        held_log = still_holds m n now c.append.new.self.flushed (held.log ++ cmd ∷ []) (λ k. c.store.ensures.ran.on.others (nvram k) (λ z. z)) (c.in_ok-append.ensures.holds h held.log may.keeps may.is_open.held_log);
      };
      any_moment = store_moments g k h held may p;
    }

pub returns-clause-outlasts : goal.returns-clause-outlasts
returns-clause-outlasts g c h held may = let k = goal.at.returns-clause-outlasts g c in store_outlasts g k.After-store h held may (appended g k.After-append h held may)
