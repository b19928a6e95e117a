use Rattle.register.proofs.Prelude.{rules, refl, inl, ◌≡◌, ◌+◌, ◌-◌, ◌^◌, ◌<◌, ◌∷◌, [], length, ◌∙◌, ap, subst, IsOk, BootRecord, IsBootRecord, spelling, given_with_fewer, named_sound, started, drives_of, next_slot, next_record, array_of, GivesOldOrTables, StandsAsBefore, with_tables, fewer_cut, from_ok, when_ok, StandsAgain}
use Rattle.register.proofs.Follows.{stands_before}
use Rattle.register.proofs.Numbers.{next_other}
use Rattle.boot_region.proofs.Composing.{as_it_is}
use Rattle.nvram_log.specs.Members as nv
use Rattle.register.proofs.Rounds.{Puts, puts_next, shown_put, some_named}
use Rattle.register.proofs.Tabling.{logged_now, older_now, moments_now, gives_now, again_now, firmly_now, outlasts_now}
use Rattle.register.proofs.state.Register.store_first.Given as given
use Rattle.register.proofs.state.Register.store_first.Goals as goal

pub returns-in_err-advance_to-clause-any_moment : goal.returns-in_err-advance_to-clause-any_moment
returns-in_err-advance_to-clause-any_moment g c h low held next o plan =
    let a = g.S.Shelf.shelf c.args.shelf.now in
    started a (StandsAsBefore a c.args.self.now held) (g.met.S.Shelf.is_shelf c.args.shelf.now)
    (λ stop m later account. stands_before a (named_sound c.args.self.now.record) later (array_of held ∷ []) stop m (o.stands stop m) account.within account.bearable)

pub returns-in_err-advance_to-clause-gives : goal.returns-in_err-advance_to-clause-gives
returns-in_err-advance_to-clause-gives g c h low held next o plan =
    let a = g.S.Shelf.shelf c.args.shelf.now in
    started a (GivesOldOrTables a c.args.self.now c.args.tables) (g.met.S.Shelf.is_shelf c.args.shelf.now)
    (λ stop m later account slot boot given. inl (o.alone stop slot boot m (given_with_fewer account.within given)).1)

-- the record that is stored
abbrev made : (g : given.Over) → goal.After-put g → BootRecord
made g c = next_record (with_tables c.args.self.now.record c.args.tables) c.args.self.now.drives c.args.self.now.record.members.nvrams

the_puts : (g : given.Over) (c : goal.After-put g) → Puts (IsOk c.put.result) (g.S.Shelf.shelf c.args.shelf.now) (g.S.Shelf.shelf c.put.new.shelf) c.put.new.self (drives_of c.args.self.now) (next_slot c.args.self.now.record) (spelling (made g c))
the_puts g c =
    puts_next (g.S.Shelf.shelf c.args.shelf.now) (g.S.Shelf.shelf c.put.new.shelf) c.args.self.now c.advance_to.new.self c.put.new.self (made g c) refl (next_other c.args.self.now.record.generation)
    c.in_ok-advance_to.ensures.ok c.in_ok-advance_to.ensures.drives c.in_ok-advance_to.ensures.body
    (record {
      fewer = fewer_cut c.advance_to.new.self c.put.new.self (ap (λ (b : BootRecord). b.slots) c.put.ensures.made.kept) c.put.ensures.left.fewer;
      dropped = c.put.ensures.left.dropped;
      shown = λ is h. from_ok c.put.result (c.put.ensures.shown h) is;
      runs = c.put.ensures.ran.on;
      moments = c.put.ensures.moments;
      again = c.put.ensures.again;
      stored_on = λ is h. from_ok c.put.result (c.put.ensures.stored_on h) is;
      stored = λ is h. from_ok c.put.result (c.put.ensures.stored h) is;
    })

some : (g : given.Over) (c : goal.After-put g) → nv.IsSome c.args.self.now.record.members.nvrams
some g c = some_named c.args.self.now.record c.requires.is_of.lawful.lawful

lawful : (g : given.Over) (c : goal.After-put g) → IsBootRecord (made g c)
lawful g c = subst (λ (b : BootRecord). IsBootRecord b) c.in_ok-advance_to.ensures.ok c.in_ok-advance_to.ensures.lawful

kept : (g : given.Over) (c : goal.After-put g) → c.put.new.self.record ≡ made g c
kept g c = c.put.ensures.made.kept ∙ c.in_ok-advance_to.ensures.ok

room : (g : given.Over) (c : goal.After-put g) → c.put.new.self.record.generation < 2 ^ 48 - 8 → c.args.self.now.record.generation + 1 < 2 ^ 48 - 8
room g c low = subst (λ (b : BootRecord). b.generation < 2 ^ 48 - 8) (kept g c) low

pub returns-clause-any_moment : goal.returns-clause-any_moment
returns-clause-any_moment g c h low held next o plan =
    moments_now (g.S.Shelf.shelf c.args.shelf.now) (g.met.S.Shelf.is_shelf c.args.shelf.now) h c.args.self.now c.args.tables c.requires.is_of (some g c) (lawful g c) c.requires.lawful held next o plan
    (g.S.Shelf.shelf c.put.new.shelf) c.put.ensures.ran.on.continues c.put.new.self (kept g c) c.put.ensures.left.is_of (the_puts g c) (room g c low)

pub returns-clause-gives : goal.returns-clause-gives
returns-clause-gives g c h low held next o plan =
    gives_now (g.S.Shelf.shelf c.args.shelf.now) (g.met.S.Shelf.is_shelf c.args.shelf.now) h c.args.self.now c.args.tables c.requires.is_of (some g c) (lawful g c) c.requires.lawful held next o plan
    (g.S.Shelf.shelf c.put.new.shelf) c.put.ensures.ran.on.continues c.put.new.self (kept g c) c.put.ensures.left.is_of (the_puts g c) (room g c low)

pub returns-clause-outlasts : goal.returns-clause-outlasts
returns-clause-outlasts g c h low held next o plan =
    let flags : length c.args.self.now.drives ≡ 24 = search rules in
    outlasts_now (g.S.Shelf.shelf c.args.shelf.now) (g.met.S.Shelf.is_shelf c.args.shelf.now) h c.args.self.now c.args.tables c.requires.is_of (some g c) (lawful g c) c.requires.lawful held next o plan
    (g.S.Shelf.shelf c.put.new.shelf) c.put.ensures.ran.on.continues c.put.new.self (kept g c) c.put.ensures.left.is_of (the_puts g c) (room g c low) flags

pub returns-in_err-advance_to-clause-outlasts : goal.returns-in_err-advance_to-clause-outlasts
returns-in_err-advance_to-clause-outlasts g c h low held next o plan =
    let a = g.S.Shelf.shelf c.args.shelf.now in
    started a (StandsAgain a (named_sound c.args.self.now.record) (array_of held ∷ [])) (g.met.S.Shelf.is_shelf c.args.shelf.now)
    (λ stop m. record { later = named_sound c.args.self.now.record; within = as_it_is (named_sound c.args.self.now.record); logs = λ n. refl; stands = o.stands stop m })

pub returns-clause-again : goal.returns-clause-again
returns-clause-again g c h =
    let flags : length c.args.self.now.drives ≡ 24 = search rules in
    when_ok c.put.result (λ is. record {
      shown = shown_put (made g c) (next_other c.args.self.now.record.generation) (kept g c) (the_puts g c) is h;
      older = λ held next o plan. older_now (g.S.Shelf.shelf c.args.shelf.now) (g.met.S.Shelf.is_shelf c.args.shelf.now) h c.args.self.now c.args.tables c.requires.is_of (some g c) (lawful g c) c.requires.lawful held next o plan
          (g.S.Shelf.shelf c.put.new.shelf) c.put.ensures.ran.on.continues c.put.new.self (kept g c) c.put.ensures.left.is_of (the_puts g c);
      logged = λ held next o plan. logged_now (g.S.Shelf.shelf c.args.shelf.now) (g.met.S.Shelf.is_shelf c.args.shelf.now) h c.args.self.now c.args.tables c.requires.is_of (some g c) (lawful g c) c.requires.lawful held next o plan
          (g.S.Shelf.shelf c.put.new.shelf) c.put.ensures.ran.on.continues c.put.new.self (kept g c) c.put.ensures.left.is_of (the_puts g c) is;
      again = λ low held next o plan. again_now (g.S.Shelf.shelf c.args.shelf.now) (g.met.S.Shelf.is_shelf c.args.shelf.now) h c.args.self.now c.args.tables c.requires.is_of (some g c) (lawful g c) c.requires.lawful held next o plan
          (g.S.Shelf.shelf c.put.new.shelf) c.put.ensures.ran.on.continues c.put.new.self (kept g c) c.put.ensures.left.is_of (the_puts g c) (room g c low) is;
      firmly = λ low held next o plan. firmly_now (g.S.Shelf.shelf c.args.shelf.now) (g.met.S.Shelf.is_shelf c.args.shelf.now) h c.args.self.now c.args.tables c.requires.is_of (some g c) (lawful g c) c.requires.lawful held next o plan
          (g.S.Shelf.shelf c.put.new.shelf) c.put.ensures.ran.on.continues c.put.new.self (kept g c) c.put.ensures.left.is_of (the_puts g c) (room g c low) is flags;
    })
