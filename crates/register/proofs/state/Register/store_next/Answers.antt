use Rattle.register.proofs.Prelude.{rules, refl, inl, arith, ◌≡◌, ◌+◌, ◌-◌, ◌^◌, ◌<◌, length, ◌∙◌, ap, subst, IsOk, BootRecord, IsBootRecord, spelling, given_with_fewer, started, drives_of, next_slot, next_record, IsInStoreOf, ended_midway, fewer_cut, from_ok, when_ok}
use Rattle.register.proofs.Rounds.{Puts, puts_next, logged_next, older_next, shown_put, moments_next, again_next, firmly_next, outlasts_next}
use Rattle.register.proofs.Follows.{stands_before}
use Rattle.register.proofs.Numbers.{next_other}
use Rattle.register.proofs.state.Register.store_next.Given as given
use Rattle.register.proofs.state.Register.store_next.Goals as goal

pub returns-in_err-advance-clause-moments : goal.returns-in_err-advance-clause-moments
returns-in_err-advance-clause-moments g c h low =
    let a = g.S.Shelf.shelf c.args.shelf.now in
    started a (IsInStoreOf a c.args.self.now c.args.nvrams) (g.met.S.Shelf.is_shelf c.args.shelf.now)
    (λ stop m. record {
      stands = λ missing held arrays may later account. stands_before a missing later arrays stop m (may.stands stop m) account.within account.bearable;
      gives = λ missing held arrays may later account slot boot given. inl (record { start = stop; may = m; given = given_with_fewer account.within given });
      back = λ held logged shows. inl (λ missing arrays may later account given. given stop m);
    })

-- what `put` promises, in the words of the record before
the_puts : (g : given.Over) (c : goal.After-put g) → Puts (IsOk c.put.result) (g.S.Shelf.shelf c.args.shelf.now) (g.S.Shelf.shelf c.put.new.shelf) c.put.new.self (drives_of c.args.self.now) (next_slot c.args.self.now.record) (spelling (next_record c.args.self.now.record c.args.self.now.drives c.args.nvrams))
the_puts g c =
    puts_next (g.S.Shelf.shelf c.args.shelf.now) (g.S.Shelf.shelf c.put.new.shelf) c.args.self.now c.advance.new.self c.put.new.self (next_record c.args.self.now.record c.args.self.now.drives c.args.nvrams) refl (next_other c.args.self.now.record.generation)
    c.in_ok-advance.ensures.ok c.in_ok-advance.ensures.drives c.in_ok-advance.ensures.body
    (record {
      fewer = fewer_cut c.advance.new.self c.put.new.self (ap (λ (b : BootRecord). b.slots) c.put.ensures.made.kept) c.put.ensures.left.fewer;
      dropped = c.put.ensures.left.dropped;
      shown = λ is h. from_ok c.put.result (c.put.ensures.shown h) is;
      runs = c.put.ensures.ran.on;
      moments = c.put.ensures.moments;
      again = c.put.ensures.again;
      stored_on = λ is h. from_ok c.put.result (c.put.ensures.stored_on h) is;
      stored = λ is h. from_ok c.put.result (c.put.ensures.stored h) is;
    })

lawful : (g : given.Over) (c : goal.After-put g) → IsBootRecord (next_record c.args.self.now.record c.args.self.now.drives c.args.nvrams)
lawful g c = subst (λ (b : BootRecord). IsBootRecord b) c.in_ok-advance.ensures.ok c.in_ok-advance.ensures.lawful

kept : (g : given.Over) (c : goal.After-put g) → c.put.new.self.record ≡ next_record c.args.self.now.record c.args.self.now.drives c.args.nvrams
kept g c = c.put.ensures.made.kept ∙ c.in_ok-advance.ensures.ok

room : (g : given.Over) (c : goal.After-put g) → c.put.new.self.record.generation < 2 ^ 48 - 8 → c.args.self.now.record.generation + 1 < 2 ^ 48 - 8
room g c low = subst (λ (b : BootRecord). b.generation < 2 ^ 48 - 8) (kept g c) low

pub returns-clause-moments : goal.returns-clause-moments
returns-clause-moments g c h low =
    moments_next (g.S.Shelf.shelf c.args.shelf.now) (g.S.Shelf.shelf c.put.new.shelf) (g.met.S.Shelf.is_shelf c.args.shelf.now) c.put.ensures.ran.on.continues c.args.self.now c.put.new.self c.args.nvrams
    c.requires.is_of c.requires.nvrams (lawful g c) (kept g c) c.put.ensures.left.is_of (the_puts g c) h (room g c low)

pub returns-clause-outlasts : goal.returns-clause-outlasts
returns-clause-outlasts g c h low missing held arrays may firm =
    let flags : length c.args.self.now.drives ≡ 24 = search rules in
    outlasts_next (g.S.Shelf.shelf c.args.shelf.now) (g.S.Shelf.shelf c.put.new.shelf) (g.met.S.Shelf.is_shelf c.args.shelf.now) c.put.ensures.ran.on.continues c.args.self.now c.put.new.self c.args.nvrams
    c.requires.is_of c.requires.nvrams (lawful g c) (kept g c) c.put.ensures.left.is_of (the_puts g c) h (room g c low) missing held arrays may flags firm

pub returns-clause-logged : goal.returns-clause-logged
returns-clause-logged g c h =
    let generation : c.put.new.self.record.generation ≡ c.args.self.now.record.generation + 1 = ap (λ (b : BootRecord). b.generation) (kept g c) in
    record {
      ok = when_ok c.put.result (λ is held logged.
          logged_next (g.S.Shelf.shelf c.args.shelf.now) (g.S.Shelf.shelf c.put.new.shelf) (g.met.S.Shelf.is_shelf c.args.shelf.now) c.put.ensures.ran.on.continues c.args.self.now c.put.new.self c.args.nvrams
          c.requires.is_of c.requires.nvrams (lawful g c) (kept g c) c.put.ensures.left.is_of (the_puts g c) h held logged is);
      err = ended_midway _ c.args.self.now c.put.new.self c.put.result (omega (arith, generation)) c.put.ensures.made.too_few c.put.ensures.made.fault;
    }

pub returns-clause-again : goal.returns-clause-again
returns-clause-again g c h =
    let flags : length c.args.self.now.drives ≡ 24 = search rules in
    when_ok c.put.result (λ is. record {
      shown = shown_put (next_record c.args.self.now.record c.args.self.now.drives c.args.nvrams) (next_other c.args.self.now.record.generation) (kept g c) (the_puts g c) is h;
      older = λ held logged. older_next (g.S.Shelf.shelf c.args.shelf.now) (g.S.Shelf.shelf c.put.new.shelf) (g.met.S.Shelf.is_shelf c.args.shelf.now) c.put.ensures.ran.on.continues c.args.self.now c.put.new.self c.args.nvrams
          c.requires.is_of c.requires.nvrams (lawful g c) (kept g c) c.put.ensures.left.is_of (the_puts g c) h held logged is;
      again = λ low missing held arrays may. again_next (g.S.Shelf.shelf c.args.shelf.now) (g.S.Shelf.shelf c.put.new.shelf) (g.met.S.Shelf.is_shelf c.args.shelf.now) c.put.ensures.ran.on.continues c.args.self.now c.put.new.self c.args.nvrams
          c.requires.is_of c.requires.nvrams (lawful g c) (kept g c) c.put.ensures.left.is_of (the_puts g c) h (room g c low) missing held arrays may is;
      firmly = λ low missing held arrays may firm. firmly_next (g.S.Shelf.shelf c.args.shelf.now) (g.S.Shelf.shelf c.put.new.shelf) (g.met.S.Shelf.is_shelf c.args.shelf.now) c.put.ensures.ran.on.continues c.args.self.now c.put.new.self c.args.nvrams
          c.requires.is_of c.requires.nvrams (lawful g c) (kept g c) c.put.ensures.left.is_of (the_puts g c) h (room g c low) missing held arrays may is flags firm;
    })
