use Rattle.register.proofs.Prelude.{rules, refl, Ok, subst, ◌-◌, ◌^◌, arith, ◌≡◌, ◌+◌, ◌<◌, ◌≤◌, length, sym, ◌∙◌, ap, BootRecord, set_count, then_run, weaker, ran_then, ran_more, LeavesOnly, drives_of, Register, IsFirm, IsInStoreOf, IsNextOf, IsOpen, MayStore, same_flags, other_flags, HasStored, cut_length, fewer_cut, on_more}
use Rattle.boot_region.proofs.Stored.{on_fewer}
use Rattle.register.proofs.Opened.{is_open}
use Rattle.register.proofs.Back.{is_next_of}
use Rattle.register.proofs.Turns.{in_store_later}
use Rattle.register.proofs.Outlasts.{left, next_round, later_again}
use Rattle.register.proofs.Made.{same_but_room, first_is_on_all, smaller, store_later, then_stored}
use Rattle.register.proofs.state.Register.+store.Given as given
use Rattle.register.proofs.state.Register.+store.Goals as goal
use Rattle.nvram_log.proofs.SettledEach.{both_leave}

pub returns-then-eq-clause-made : goal.returns-then-eq-clause-made
returns-then-eq-clause-made g t c =
    let same : c.store_next.new.self.drives ≡ c.store_next.new.self.record.members.drives = same_flags c.store_next.new.self.drives c.store_next.new.self.record.members.drives c.if-eq.ensures in
    subst (λ (r : Register). HasStored (Ok tt) c.args.self.now.record c.args.nvrams c.args.self.now r) (same_but_room c.store_next.new.self _)
    (first_is_on_all c.args.self.now.record c.args.nvrams c.args.self.now refl refl _ _ c.store_next.new.self c.in_ok-store_next.ensures.made same c.in_ok-store_next.ensures.left.is_of.lawful.lawful.generation.1)

pub store-requires : goal.store-requires
store-requires g t c κs within =
    let less = smaller c.args.self.now.record c.args.nvrams c.args.self.now refl refl c.store_next.new.self _ c.in_ok-store_next.ensures.made c.in_ok-store_next.ensures.left (other_flags c.store_next.new.self.drives c.store_next.new.self.record.members.drives c.if-eq.ensures) in
    let is_of = c.in_ok-store_next.ensures.left.is_of in
    search rules

made : (g : given.Over) (t : _) (c : goal.After-store g t) → HasStored c.store.result c.store_next.new.self.record c.args.nvrams c.store_next.new.self c.store.new.self
made g t c = subst (λ (r : Register). HasStored c.store.result c.store_next.new.self.record c.args.nvrams r c.store.new.self) (sym (same_but_room c.store_next.new.self _)) c.store.ensures.made

pub returns-clause-made : goal.returns-clause-made
returns-clause-made g t c =
    then_stored c.args.self.now.record c.args.nvrams c.args.self.now refl refl c.store_next.new.self _ c.in_ok-store_next.ensures.made c.in_ok-store_next.ensures.left
    (other_flags c.store_next.new.self.drives c.store_next.new.self.record.members.drives c.if-eq.ensures) c.requires.is_of c.store.result c.store.new.self (made g t c)

room : (g : given.Over) (t : _) (c : goal.After-store g t) → c.store.new.self.record.generation < 2 ^ 48 - 8 → c.store_next.new.self.record.generation < 2 ^ 48 - 8
room g t c low = let le = (store_later (made g t c)).generation in omega (arith, le, low)

pub returns-then-eq-clause-stored : goal.returns-then-eq-clause-stored
returns-then-eq-clause-stored g t c h low held logged =
    let same : c.store_next.new.self.drives ≡ c.store_next.new.self.record.members.drives = same_flags c.store_next.new.self.drives c.store_next.new.self.record.members.drives c.if-eq.ensures in
    let slots : c.store_next.new.self.record.slots ≡ c.args.self.now.record.slots = ap (λ (b : BootRecord). b.slots) c.in_ok-store_next.ensures.made.next in
    let count : set_count c.store_next.new.self.drives ≡ set_count c.args.self.now.drives = ap set_count (same ∙ ap (λ (b : BootRecord). b.members.drives) c.in_ok-store_next.ensures.made.next) in
    let on = c.in_ok-store_next.ensures.again h in
    let enough : c.store_next.new.self.record.slots ≤ set_count c.store_next.new.self.drives + 2 = omega (arith, slots, count, c.in_ok-store_next.ensures.made.enough) in
    subst (λ (r : Register). IsOpen (g.S.Shelf.shelf c.store_next.new.shelf) r c.args.nvrams held) (same_but_room c.store_next.new.self _)
    (is_open (g.S.Shelf.shelf c.store_next.new.shelf) (g.met.S.Shelf.is_shelf c.store_next.new.shelf) _ c.args.nvrams held
    ((c.in_ok-store_next.ensures.logged h).ok held logged)
    (sym same) (ap (λ (b : BootRecord). b.members.nvrams) c.in_ok-store_next.ensures.made.next) enough low c.requires.nvrams
    on.shown (on.older held logged))

pub returns-clause-ran : goal.returns-clause-ran
returns-clause-ran g t c =
    let m0 = drives_of c.args.self.now in
    let m1 = drives_of c.store_next.new.self in
    let fewer = fewer_cut c.args.self.now c.store_next.new.self (ap (λ (b : BootRecord). b.slots) c.in_ok-store_next.ensures.made.next) c.in_ok-store_next.ensures.left.fewer in
    ran_then g.met.S.Shelf.shelf_rest_stays c.in_ok-store_next.ensures.ran (ran_more (on_fewer m0 m1 fewer) (on_more m0 m1 fewer) c.store.ensures.ran)

pub returns-clause-moments : goal.returns-clause-moments
returns-clause-moments g t c h low =
    let a = g.S.Shelf.shelf c.args.shelf.now in
    let b = g.S.Shelf.shelf c.store_next.new.shelf in
    let was = c.args.self.now in
    let now = c.store_next.new.self in
    let ab = c.in_ok-store_next.ensures.ran.on.continues in
    let hb = ab.honest h in
    let on = c.in_ok-store_next.ensures.again h in
    let first = c.in_ok-store_next.ensures.moments h (room g t c low) in
    let next : IsNextOf was c.args.nvrams now.record = subst (λ (x : BootRecord). IsNextOf was c.args.nvrams x) (sym c.in_ok-store_next.ensures.made.next) (is_next_of was c.args.nvrams) in
    then_run ab first (weaker (λ stop x.
    in_store_later a b (g.met.S.Shelf.is_shelf c.store_next.new.shelf) ab was now c.args.nvrams c.requires.nvrams next c.in_ok-store_next.ensures.left.fewer
    (fewer_cut was now (ap (λ (x : BootRecord). x.slots) c.in_ok-store_next.ensures.made.next) c.in_ok-store_next.ensures.left.fewer) c.in_ok-store_next.ensures.left.dropped (room g t c low) first
    (c.in_ok-store_next.ensures.logged h).ok on.shown on.older (on.again (room g t c low)) stop x.0.counts x.1.stands x.1.gives)
    (both_leave (c.store.ensures.ran.on.writes hb).any_moment
    (subst (λ (r : Register). LeavesOnly b (g.S.Shelf.shelf c.store.new.shelf) (IsInStoreOf b r c.args.nvrams)) (sym (same_but_room c.store_next.new.self _)) (c.store.ensures.moments hb low))))

pub returns-clause-outlasts : goal.returns-clause-outlasts
returns-clause-outlasts g t c h low missing held arrays may firm =
    let a = g.S.Shelf.shelf c.args.shelf.now in
    let b = g.S.Shelf.shelf c.store_next.new.shelf in
    let was = c.args.self.now in
    let now = c.store_next.new.self in
    let ab = c.in_ok-store_next.ensures.ran.on.continues in
    let flags : length now.drives ≡ 24 = search rules in
    let fewer = fewer_cut was now (ap (λ (x : BootRecord). x.slots) c.in_ok-store_next.ensures.made.next) c.in_ok-store_next.ensures.left.fewer in
    let as_many = cut_length now flags c.in_ok-store_next.ensures.left.is_of in
    let firmly = (c.in_ok-store_next.ensures.again h).firmly (room g t c low) missing held arrays may firm in
    let next = next_round a b ab now (drives_of was) c.args.nvrams missing held arrays firm.bearable firm.sound fewer as_many c.in_ok-store_next.ensures.made.left firmly in
    let again = later_again a b ab now (drives_of was) c.args.nvrams missing held arrays firm.bearable firm.sound fewer as_many c.in_ok-store_next.ensures.made.left firmly in
    let after = left a b ab now (drives_of was) c.args.nvrams missing held arrays firm.bearable firm.sound fewer as_many c.in_ok-store_next.ensures.made.left firmly in
    then_run ab (c.in_ok-store_next.ensures.outlasts h (room g t c low) missing held arrays may firm)
    (weaker again (c.store.ensures.outlasts (ab.honest h) low after held arrays
    (subst (λ (r : Register). MayStore b r c.args.nvrams after held arrays) (same_but_room c.store_next.new.self _) next.0) (subst (λ (r : Register). IsFirm b r after) (same_but_room c.store_next.new.self _) next.1)))
