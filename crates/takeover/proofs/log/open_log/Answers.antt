use Rattle.takeover.proofs.Prelude.{◌≡◌, ◌∙◌, rules, List, Bool, length, sym, subst, AnyFact, Conditions, drive, nvram, Array, ran_then, ran_more, Loaded, AllFailed, LogFault, IsFoundOn, IsLogFault, log_fault_of, OpensLog, HasTables}
use Rattle.takeover.proofs.Answered.{told}
use Rattle.boot_region.proofs.LoadingLemmas.{if_err}
use Rattle.takeover.specs.declared.log.LogFault.TheVariants as log_fault
use Rattle.takeover.proofs.LogOpened.{WasRead, was_read, not_opened, not_read, not_settled, settled, nothing_on, fewer_on, read_fault_is, both_lost}
use Rattle.takeover.proofs.LogReplayed as showed
use Rattle.takeover.proofs.Running.{nvram_of}
use Rattle.takeover.proofs.log.open_log.Given as given
use Rattle.takeover.proofs.log.open_log.Goals as goal
use Rattle.takeover.proofs.log.open_log.Goals.{After-settle}

pub returns-in_err-log-clause-opens : goal.returns-in_err-log-clause-opens
returns-in_err-log-clause-opens g c h x missing arrays ps base same_nvrams same_flushed found has =
    let a = g.S.Shelf.shelf c.args.shelf.now in
    let m = g.S.Shelf.shelf c.read_synced.new.shelf in
    let on = c.read_synced.ensures.ran.on.continues in
    let wrote = c.read_synced.ensures.ran.on.writes h in
    let e = c.in_err-log.field-0.0 in
    let all : AllFailed e a m x.record.members.nvrams = subst (λ (l : List Bool). AllFailed e a m l) (sym same_nvrams) c.in_err-log.ensures.err in
    told (OpensLog a m x missing arrays ps base) c.from_residual.result (log_fault_of e) c.from_residual.ensures.1
    (not_opened a m x missing arrays ps base (log_fault_of e) wrote found (λ borne. not_read a m x missing arrays ps base (g.met.S.Shelf.is_shelf c.args.shelf.now) (g.met.S.Shelf.is_shelf c.read_synced.new.shelf) (on.honest h) wrote (λ i. c.read_synced.ensures.ran.on.others (drive i) (λ none. none)) found has.hold borne e all))

pub returns-in_err-made-clause-opens : goal.returns-in_err-made-clause-opens
returns-in_err-made-clause-opens g c h x missing arrays ps base same_nvrams same_flushed found has =
    let a = g.S.Shelf.shelf c.args.shelf.now in
    let m = g.S.Shelf.shelf c.read_synced.new.shelf in
    let fault : LogFault = log_fault.Memory c.in_err-made.field-0.0 in
    told (OpensLog a m x missing arrays ps base) c.from_residual-in_err-made.result fault c.from_residual-in_err-made.ensures.1 (not_opened a m x missing arrays ps base fault (c.read_synced.ensures.ran.on.writes h) found (λ borne. tt))

-- the log was read, and its first commands were done in memory
was : (g : given.Over) (c : After-settle g) → (g.S.Shelf.shelf c.args.shelf.now).honest → (x : Loaded) (missing : Conditions) (arrays : List Array) (ps : List (List AnyFact)) (base : Array)
    → x.record.members.nvrams ≡ c.args.nvrams → x.record.flushed ≡ c.args.flushed → IsFoundOn (g.S.Shelf.shelf c.args.shelf.now) x missing arrays → HasTables (g.S.Shelf.shelf c.args.shelf.now) x c.args.memory ps base
    → WasRead (g.S.Shelf.shelf c.args.shelf.now) (g.S.Shelf.shelf c.read_synced.new.shelf) x missing arrays ps base c.in_ok-log.log c.in_ok-made.made.count
was g c h x missing arrays ps base same_nvrams same_flushed found has =
    let made = c.in_ok-made.made in
    let read = c.in_ok-log.ensures in
    was_read (g.S.Shelf.shelf c.args.shelf.now) (g.S.Shelf.shelf c.read_synced.new.shelf) x missing arrays ps base c.args.nvrams c.args.flushed c.in_ok-log.log made.count c.args.memory made.memory
    (g.met.S.Shelf.is_shelf c.args.shelf.now) (g.met.S.Shelf.is_shelf c.read_synced.new.shelf) h c.read_synced.ensures.ran.on.continues (c.read_synced.ensures.ran.on.writes h) (λ i. c.read_synced.ensures.ran.on.others (drive i) (λ none. none))
    same_nvrams same_flushed found has read.members.fewer read.members.counted (read.clean h) read.flushed read.log (read.seen h) c.in_ok-made.ensures.within c.in_ok-made.ensures.ok

pub returns-in_err-settle-clause-opens : goal.returns-in_err-settle-clause-opens
returns-in_err-settle-clause-opens g c h x missing arrays ps base same_nvrams same_flushed found has =
    let a = g.S.Shelf.shelf c.args.shelf.now in
    let m = g.S.Shelf.shelf c.read_synced.new.shelf in
    let n = g.S.Shelf.shelf c.settle.new.shelf in
    let log = c.in_ok-log.log in
    let made = c.in_ok-made.made in
    let h_m = c.read_synced.ensures.ran.on.continues.honest h in
    let now = c.settle.new.self in
    let r = was g (goal.at.returns-in_err-settle-clause-opens g c).After-settle h x missing arrays ps base same_nvrams same_flushed found has in
    told (OpensLog a n x missing arrays ps base) c.from_residual-in_err-settle.result log_fault.BothLost c.from_residual-in_err-settle.ensures.1
    (not_settled a m n x missing arrays ps base log made.count r c.settle.ensures.ran.on.continues (c.settle.ensures.ran.on.writes h_m) (c.settle.ensures.any_moment h_m) c.in_ok-log.ensures.members.some
    (g.met.S.Shelf.is_shelf c.settle.new.shelf) (λ i. c.settle.ensures.ran.on.others (drive i) (λ none. none)) now.members c.settle.ensures.members.fewer c.settle.ensures.members.counted c.in_err-settle.ensures.err.1 log_fault.BothLost)

pub returns-clause-opens : goal.returns-clause-opens
returns-clause-opens g c h x missing arrays ps base same_nvrams same_flushed found has =
    let a = g.S.Shelf.shelf c.args.shelf.now in
    let m = g.S.Shelf.shelf c.read_synced.new.shelf in
    let n = g.S.Shelf.shelf c.settle.new.shelf in
    let log = c.in_ok-log.log in
    let made = c.in_ok-made.made in
    let h_m = c.read_synced.ensures.ran.on.continues.honest h in
    let now = c.settle.new.self in
    let r = was g (goal.at.returns-clause-opens g c).After-settle h x missing arrays ps base same_nvrams same_flushed found has in
    settled a m n x missing arrays ps base log made.count r c.settle.ensures.ran.on.continues (c.settle.ensures.ran.on.writes h_m) (c.settle.ensures.any_moment h_m) c.in_ok-log.ensures.members.some
    (g.met.S.Shelf.is_shelf c.settle.new.shelf) (λ i. c.settle.ensures.ran.on.others (drive i) (λ none. none)) now.members c.settle.ensures.members.fewer c.settle.ensures.members.counted (record { log = now; memory = made.memory }) (λ i. now.members) c.in_ok-settle.ensures.ok.1 c.settle.ensures.flushed
    (c.in_ok-settle.ensures.keeps r.read.commands r.read.has) (λ agree. c.in_ok-settle.ensures.holds h_m r.read.commands r.read.has r.seen agree)

pub returns-in_err-log-clause-ran : goal.returns-in_err-log-clause-ran
returns-in_err-log-clause-ran g c = ran_more (λ d is. is) (nothing_on c.args.nvrams) c.read_synced.ensures.ran

pub returns-in_err-made-clause-ran : goal.returns-in_err-made-clause-ran
returns-in_err-made-clause-ran g c = ran_more (λ d is. is) (nothing_on c.args.nvrams) c.read_synced.ensures.ran

pub returns-in_err-settle-clause-ran : goal.returns-in_err-settle-clause-ran
returns-in_err-settle-clause-ran g c =
    let members = c.in_ok-log.log.members in
    ran_then g.met.S.Shelf.shelf_rest_stays (ran_more (λ d is. is) (nothing_on c.args.nvrams) c.read_synced.ensures.ran)
    (ran_more (nvram_of members) (fewer_on c.args.nvrams members c.in_ok-log.ensures.members.fewer) c.settle.ensures.ran)

pub returns-clause-ran : goal.returns-clause-ran
returns-clause-ran g c =
    let members = c.in_ok-log.log.members in
    ran_then g.met.S.Shelf.shelf_rest_stays (ran_more (λ d is. is) (nothing_on c.args.nvrams) c.read_synced.ensures.ran)
    (ran_more (nvram_of members) (fewer_on c.args.nvrams members c.in_ok-log.ensures.members.fewer) c.settle.ensures.ran)

pub returns-clause-unlost : goal.returns-clause-unlost
returns-clause-unlost g c n lt is = c.settle.ensures.members.unlost n lt is ∙ c.in_ok-log.ensures.members.unlost n lt (c.settle.ensures.members.fewer n is)

pub returns-in_err-log-clause-err : goal.returns-in_err-log-clause-err
returns-in_err-log-clause-err g c =
    let a = g.S.Shelf.shelf c.args.shelf.now in
    let m = g.S.Shelf.shelf c.read_synced.new.shelf in
    if_err c.from_residual.result _ _ c.from_residual.ensures.1 (λ f is. subst (λ (k : LogFault). IsLogFault k a m c.args.nvrams) (sym is)
    (read_fault_is a m c.args.nvrams c.in_err-log.field-0.0 c.in_err-log.ensures.err))

pub returns-in_err-made-clause-err : goal.returns-in_err-made-clause-err
returns-in_err-made-clause-err g c =
    let a = g.S.Shelf.shelf c.args.shelf.now in
    let m = g.S.Shelf.shelf c.read_synced.new.shelf in
    if_err c.from_residual-in_err-made.result _ _ c.from_residual-in_err-made.ensures.1 (λ f is. subst (λ (k : LogFault). IsLogFault k a m c.args.nvrams) (sym is) tt)

pub returns-in_err-settle-clause-err : goal.returns-in_err-settle-clause-err
returns-in_err-settle-clause-err g c =
    let a = g.S.Shelf.shelf c.args.shelf.now in
    let m = g.S.Shelf.shelf c.read_synced.new.shelf in
    let n = g.S.Shelf.shelf c.settle.new.shelf in
    if_err c.from_residual-in_err-settle.result _ _ c.from_residual-in_err-settle.ensures.1 (λ f is. subst (λ (k : LogFault). IsLogFault k a n c.args.nvrams) (sym is)
    (both_lost a m n c.args.nvrams c.in_ok-log.log.members c.settle.new.self.members c.read_synced.ensures.ran.on.continues c.settle.ensures.ran.on.continues c.in_ok-log.ensures.members.counted c.settle.ensures.members.counted c.in_err-settle.ensures.err.1))

pub returns-clause-replayed : goal.returns-clause-replayed
returns-clause-replayed g c h =
    let a = g.S.Shelf.shelf c.args.shelf.now in
    let m = g.S.Shelf.shelf c.read_synced.new.shelf in
    let n = g.S.Shelf.shelf c.settle.new.shelf in
    let log = c.in_ok-log.log in
    let made = c.in_ok-made.made in
    let read = c.in_ok-log.ensures.log in
    showed.replayed_from a m n c.args.nvrams c.args.flushed h c.read_synced.ensures.ran.on.continues (c.read_synced.ensures.ran.on.writes h) log c.in_ok-log.ensures.flushed c.in_ok-log.ensures.members.fewer c.in_ok-log.ensures.members.counted read
    made.count c.args.memory made.memory c.in_ok-made.ensures.within c.in_ok-made.ensures.ok (record { log = c.settle.new.self; memory = made.memory }) c.settle.ensures.ran.on.continues c.settle.ensures.members.fewer c.settle.ensures.members.counted
    (c.in_ok-settle.ensures.keeps read.commands read.has)

pub returns-in_err-log-clause-clean : goal.returns-in_err-log-clause-clean
returns-in_err-log-clause-clean g c h missing clean = showed.clean_read (g.S.Shelf.shelf c.args.shelf.now) (g.S.Shelf.shelf c.read_synced.new.shelf) missing clean (c.read_synced.ensures.still_clean h)

pub returns-in_err-made-clause-clean : goal.returns-in_err-made-clause-clean
returns-in_err-made-clause-clean g c h missing clean = showed.clean_read (g.S.Shelf.shelf c.args.shelf.now) (g.S.Shelf.shelf c.read_synced.new.shelf) missing clean (c.read_synced.ensures.still_clean h)

pub returns-in_err-settle-clause-clean : goal.returns-in_err-settle-clause-clean
returns-in_err-settle-clause-clean g c h missing clean =
    let on = c.read_synced.ensures.ran.on.continues in
    let two : length c.args.nvrams ≡ 2 = search rules in
    showed.clean_settled (g.S.Shelf.shelf c.args.shelf.now) (g.S.Shelf.shelf c.read_synced.new.shelf) (g.S.Shelf.shelf c.settle.new.shelf) missing c.args.nvrams c.in_ok-log.log.members c.settle.new.self.members on clean
    (c.read_synced.ensures.still_clean h) two c.in_ok-log.ensures.members.fewer c.settle.ensures.members.counted (λ i. c.settle.ensures.ran.on.others (drive i) (λ none. none)) (λ k out. c.settle.ensures.ran.on.others (nvram k) out) (c.settle.ensures.clean (on.honest h))

pub returns-clause-clean : goal.returns-clause-clean
returns-clause-clean g c h missing clean =
    let on = c.read_synced.ensures.ran.on.continues in
    let two : length c.args.nvrams ≡ 2 = search rules in
    showed.clean_settled (g.S.Shelf.shelf c.args.shelf.now) (g.S.Shelf.shelf c.read_synced.new.shelf) (g.S.Shelf.shelf c.settle.new.shelf) missing c.args.nvrams c.in_ok-log.log.members c.settle.new.self.members on clean
    (c.read_synced.ensures.still_clean h) two c.in_ok-log.ensures.members.fewer c.settle.ensures.members.counted (λ i. c.settle.ensures.ran.on.others (drive i) (λ none. none)) (λ k out. c.settle.ensures.ran.on.others (nvram k) out) (c.settle.ensures.clean (on.honest h))

-- memory has what was read
pub replay_log-requires : goal.replay_log-requires
replay_log-requires g c = (c.in_ok-log.ensures.log.commands, c.in_ok-log.ensures.log.has)

pub returns-clause-left : goal.returns-clause-left
returns-clause-left g c =
    let made = c.in_ok-made.made in
    let read = c.in_ok-log.ensures in
    let log = read.log in
    record {
      follows = c.settle.ensures.flushed ∙ read.flushed;
      fewer = λ n m. read.members.fewer n (c.settle.ensures.members.fewer n m);
      some = c.in_ok-settle.ensures.ok.1;
      done = showed.has_replayed c.args.memory made.memory c.in_ok-log.log made.count log.commands (record { log = c.settle.new.self; memory = made.memory }) (c.in_ok-made.ensures.ok log.commands log.has) (λ i. made.memory)
          c.in_ok-made.ensures.layered (c.in_ok-settle.ensures.keeps log.commands log.has) c.in_ok-settle.ensures.ok.0;
    }
