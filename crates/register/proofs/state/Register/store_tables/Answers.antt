use Rattle.register.proofs.Prelude.{rules, List, ◌∷◌, [], refl, Ok, arith, ◌≡◌, ◌+◌, ◌-◌, ◌^◌, ◌<◌, ◌≤◌, length, sym, ◌∙◌, ap, subst, BootRecord, set_count, Array, named_sound, then_run, weaker, ran_then, ran_more, LeavesOnly, drives_of, IsFirm, IsInStoreOf, IsOpen, MayStore, array_of, IsNextWith, same_flags, other_flags, Register, HasStored, with_tables, cut_length, members_sound, fewer_cut, on_more}
use Rattle.boot_region.proofs.Stored.{on_fewer}
use Rattle.register.proofs.Opened.{is_open}
use Rattle.register.proofs.Outlasts.{left, next_round, later_again}
use Rattle.register.proofs.Made.{same_but_room, first_is_on_all, store_later, then_stored}
use Rattle.register.proofs.Rounds.{some_named}
use Rattle.register.proofs.Tabling.{is_next_with, later_gives, later_round}
use Rattle.register.proofs.state.Register.store_tables.Given as given
use Rattle.register.proofs.state.Register.store_tables.Goals as goal
use Rattle.nvram_log.proofs.SettledEach.{both_leave}

pub returns-then-eq-clause-made : goal.returns-then-eq-clause-made
returns-then-eq-clause-made g c =
    let same : c.store_first.new.self.drives ≡ c.store_first.new.self.record.members.drives = same_flags c.store_first.new.self.drives c.store_first.new.self.record.members.drives c.if-eq.ensures in
    subst (λ (r : Register). HasStored (Ok tt) (with_tables c.args.self.now.record c.args.tables) c.args.self.now.record.members.nvrams c.args.self.now r) (same_but_room c.store_first.new.self _)
    (first_is_on_all (with_tables c.args.self.now.record c.args.tables) c.args.self.now.record.members.nvrams c.args.self.now refl refl _ _ c.store_first.new.self c.in_ok-store_first.ensures.made same c.in_ok-store_first.ensures.left.is_of.lawful.lawful.generation.1)

made : (g : given.Over) (c : goal.After-store g) → HasStored c.store.result c.store_first.new.self.record c.args.self.now.record.members.nvrams c.store_first.new.self c.store.new.self
made g c = subst (λ (r : Register). HasStored c.store.result c.store_first.new.self.record c.args.self.now.record.members.nvrams r c.store.new.self) (sym (same_but_room c.store_first.new.self _)) c.store.ensures.made

pub returns-clause-made : goal.returns-clause-made
returns-clause-made g c =
    then_stored (with_tables c.args.self.now.record c.args.tables) c.args.self.now.record.members.nvrams c.args.self.now refl refl c.store_first.new.self _ c.in_ok-store_first.ensures.made c.in_ok-store_first.ensures.left (other_flags c.store_first.new.self.drives c.store_first.new.self.record.members.drives c.if-eq.ensures)
    c.requires.is_of c.store.result c.store.new.self (made g c)

room : (g : given.Over) (c : goal.After-store g) → c.store.new.self.record.generation < 2 ^ 48 - 8 → c.store_first.new.self.record.generation < 2 ^ 48 - 8
room g c low = let le = (store_later (made g c)).generation in omega (arith, le, low)

pub returns-clause-ran : goal.returns-clause-ran
returns-clause-ran g c =
    let m0 = drives_of c.args.self.now in
    let m1 = drives_of c.store_first.new.self in
    let fewer = fewer_cut c.args.self.now c.store_first.new.self (ap (λ (b : BootRecord). b.slots) c.in_ok-store_first.ensures.made.next) c.in_ok-store_first.ensures.left.fewer in
    ran_then g.met.S.Shelf.shelf_rest_stays c.in_ok-store_first.ensures.ran (ran_more (on_fewer m0 m1 fewer) (on_more m0 m1 fewer) c.store.ensures.ran)

pub returns-then-eq-clause-held : goal.returns-then-eq-clause-held
returns-then-eq-clause-held g c h low held next o plan =
    let same : c.store_first.new.self.drives ≡ c.store_first.new.self.record.members.drives = same_flags c.store_first.new.self.drives c.store_first.new.self.record.members.drives c.if-eq.ensures in
    let slots : c.store_first.new.self.record.slots ≡ c.args.self.now.record.slots = ap (λ (b : BootRecord). b.slots) c.in_ok-store_first.ensures.made.next in
    let count : set_count c.store_first.new.self.drives ≡ set_count c.args.self.now.drives = ap set_count (same ∙ ap (λ (b : BootRecord). b.members.drives) c.in_ok-store_first.ensures.made.next) in
    let on = c.in_ok-store_first.ensures.again h in
    let enough : c.store_first.new.self.record.slots ≤ set_count c.store_first.new.self.drives + 2 = omega (arith, slots, count, c.in_ok-store_first.ensures.made.enough) in
    subst (λ (r : Register). IsOpen (g.S.Shelf.shelf c.store_first.new.shelf) r c.args.self.now.record.members.nvrams next) (same_but_room c.store_first.new.self _)
    (is_open (g.S.Shelf.shelf c.store_first.new.shelf) (g.met.S.Shelf.is_shelf c.store_first.new.shelf) _ c.args.self.now.record.members.nvrams next
    (on.logged held next o plan)
    (sym same) (ap (λ (b : BootRecord). b.members.nvrams) c.in_ok-store_first.ensures.made.next) enough low (some_named c.args.self.now.record c.requires.is_of.lawful.lawful)
    on.shown (on.older held next o plan))

pub returns-clause-any_moment : goal.returns-clause-any_moment
returns-clause-any_moment g c h low held next o plan =
    let b = g.S.Shelf.shelf c.store_first.new.shelf in
    let was = c.args.self.now in
    let now = c.store_first.new.self in
    let ab = c.in_ok-store_first.ensures.ran.on.continues in
    let hb = ab.honest h in
    let on = c.in_ok-store_first.ensures.again h in
    let low_now = room g c low in
    then_run ab (c.in_ok-store_first.ensures.any_moment h low_now held next o plan) (weaker (λ stop x.
    later_round (g.S.Shelf.shelf c.args.shelf.now) b ab was now held next
    (fewer_cut was now (ap (λ (r : BootRecord). r.slots) c.in_ok-store_first.ensures.made.next) c.in_ok-store_first.ensures.left.fewer)
    (on.older held next o plan) (on.again low_now held next o plan) stop x.0.counts x.1.stands)
    (both_leave (c.store.ensures.ran.on.writes hb).any_moment
    (subst (λ (r : Register). LeavesOnly b (g.S.Shelf.shelf c.store.new.shelf) (IsInStoreOf b r was.record.members.nvrams)) (sym (same_but_room c.store_first.new.self _)) (c.store.ensures.moments hb low))))

pub returns-clause-gives : goal.returns-clause-gives
returns-clause-gives g c h low held next o plan =
    let a = g.S.Shelf.shelf c.args.shelf.now in
    let b = g.S.Shelf.shelf c.store_first.new.shelf in
    let was = c.args.self.now in
    let now = c.store_first.new.self in
    let ab = c.in_ok-store_first.ensures.ran.on.continues in
    let hb = ab.honest h in
    let on = c.in_ok-store_first.ensures.again h in
    let low_now = room g c low in
    let first = c.in_ok-store_first.ensures.gives h low_now held next o plan in
    let is_next : IsNextWith was c.args.tables now.record = subst (λ (r : BootRecord). IsNextWith was c.args.tables r) (sym c.in_ok-store_first.ensures.made.next) (is_next_with was c.args.tables) in
    then_run ab first (weaker (λ stop x.
    later_gives a b (g.met.S.Shelf.is_shelf c.store_first.new.shelf) ab was now c.args.tables held next is_next c.in_ok-store_first.ensures.left.fewer
    (fewer_cut was now (ap (λ (r : BootRecord). r.slots) c.in_ok-store_first.ensures.made.next) c.in_ok-store_first.ensures.left.fewer)
    (on.older held next o plan) (on.again low_now held next o plan) first stop x.0.counts x.1.gives)
    (both_leave (c.store.ensures.ran.on.writes hb).any_moment
    (subst (λ (r : Register). LeavesOnly b (g.S.Shelf.shelf c.store.new.shelf) (IsInStoreOf b r was.record.members.nvrams)) (sym (same_but_room c.store_first.new.self _)) (c.store.ensures.moments hb low))))

pub returns-clause-outlasts : goal.returns-clause-outlasts
returns-clause-outlasts g c h low held next o plan =
    let a = g.S.Shelf.shelf c.args.shelf.now in
    let b = g.S.Shelf.shelf c.store_first.new.shelf in
    let was = c.args.self.now in
    let now = c.store_first.new.self in
    let nvrams = c.args.self.now.record.members.nvrams in
    let ab = c.in_ok-store_first.ensures.ran.on.continues in
    let low_now = room g c low in
    let flags : length now.drives ≡ 24 = search rules in
    let fewer = fewer_cut was now (ap (λ (r : BootRecord). r.slots) c.in_ok-store_first.ensures.made.next) c.in_ok-store_first.ensures.left.fewer in
    let as_many = cut_length now flags c.in_ok-store_first.ensures.left.is_of in
    let firmly = (c.in_ok-store_first.ensures.again h).firmly low_now held next o plan in
    let sound = members_sound was c.requires.is_of in
    let arrays : List Array = array_of held ∷ [] in
    let round = next_round a b ab now (drives_of was) nvrams (named_sound was.record) next arrays o.bearable sound fewer as_many c.in_ok-store_first.ensures.made.left firmly in
    let again = later_again a b ab now (drives_of was) nvrams (named_sound was.record) next arrays o.bearable sound fewer as_many c.in_ok-store_first.ensures.made.left firmly in
    let after = left a b ab now (drives_of was) nvrams (named_sound was.record) next arrays o.bearable sound fewer as_many c.in_ok-store_first.ensures.made.left firmly in
    then_run ab (c.in_ok-store_first.ensures.outlasts h low_now held next o plan)
    (weaker again (c.store.ensures.outlasts (ab.honest h) low after next arrays
    (subst (λ (r : Register). MayStore b r nvrams after next arrays) (same_but_room c.store_first.new.self _) round.0) (subst (λ (r : Register). IsFirm b r after) (same_but_room c.store_first.new.self _) round.1)))
