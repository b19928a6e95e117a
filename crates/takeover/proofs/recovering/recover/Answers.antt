use Rattle.takeover.proofs.Prelude.{arith, ◌≡◌, ◌⊎◌, Ok, ◌<◌, ◌≤◌, ◌+◌, ◌-◌, ◌^◌, ℕ, List, refl, sym, subst, ap, ◌∙◌, Bool, Result, Err, IfOk, IfErr, OnOk, None, Some, AnyFact, NoMemory, Command, after_all, Geometry, Conditions, IsBearable, drive, nvram, Array, BootRecord, set_count, IsRecordOf, shown_by, spelling, ReadsAs, patches, geometry_of, has_risen, Disk, LeavesOnly, continues_trans, then_run, weaker, ran_then, ran_more, runs_moments, Enters, StandsStill, failed_since, IsLawfulLoad, IsMember, slot_in, StandsAgain, Register, StoreFault, IsLaterRecord, IsRegisterOf, drives_of, Content, GivesOldOrNext, IsFirm, IsOpen, MayStore, StandsBack, StandsInLog, StillGiven, stands_at, gives_at, back_at, OpenFault, OpenedLog, LogFault, FoundArray, fault_of_log, fault_of_store, IsFoundOn, IsLogFault, IsLogOpen, IsLogOpenBy, IsLogOpenOn, IsHeldBy, IsOpened, IsOpenedBy, IsRecovered, IsShut, IsFoundFirmly, OutlastsFailures, HasReplayed, AreTablesSeen, AreTablesSeenBy, IsLogLeft, HasTables, IsMemoryOf, fewer_borne, sound_since}
use Rattle.takeover.proofs.Answered.{told}
use Rattle.nvram_log.specs.Members as nv
use Rattle.register.specs.Prelude.{IsFaultOf}
use Rattle.takeover.specs.declared.faults.OpenFault.TheVariants as open_fault
use Rattle.takeover.proofs.ArrayOf.{array_of_shelf, array_with, patches_are}
use Rattle.takeover.proofs.BaseHeld as base_held
use Rattle.takeover.proofs.Chains.{one_read}
use Rattle.takeover.proofs.Failing.{goes_on, since_later}
use Rattle.takeover.proofs.Enough.{names_fewer, names_unlost}
use Rattle.takeover.proofs.Moments.{back_again, tables_found, log_opened, opening_outlasts, recovered, room_left, while_storing}
use Rattle.takeover.proofs.Opening as opening
use Rattle.takeover.proofs.RecoveredLemmas.{content, in_log}
use Rattle.takeover.proofs.Running.{gates_off, log_off, nvrams_still, slots_off}
use Rattle.takeover.proofs.Stops.{unstored}
use Rattle.takeover.proofs.recovering.recover.Given as given
use Rattle.takeover.proofs.recovering.recover.Goals as goal
use Rattle.takeover.proofs.recovering.recover.Goals.{After-store}
use Rattle.register.proofs.Rounds.{same_shelf}
use Rattle.register.proofs.Made.{store_later}

pub returns-in_err-found-clause-ran : goal.returns-in_err-found-clause-ran
returns-in_err-found-clause-ran g c = ran_more (λ d is. tt) gates_off c.find_array.ensures.ran

pub returns-in_err-register-clause-ran : goal.returns-in_err-register-clause-ran
returns-in_err-register-clause-ran g c = ran_more (λ d is. tt) gates_off c.find_array.ensures.ran

pub returns-in_err-opened-clause-ran : goal.returns-in_err-opened-clause-ran
returns-in_err-opened-clause-ran g c = ran_then g.met.S.Shelf.shelf_rest_stays (ran_more (λ d is. tt) gates_off c.find_array.ensures.ran) (ran_more (λ d is. tt) (log_off c.in_ok-found.found.loaded.record.members.nvrams) c.open_log.ensures.ran)

pub returns-in_err-store-clause-ran : goal.returns-in_err-store-clause-ran
returns-in_err-store-clause-ran g c =
    let stays = g.met.S.Shelf.shelf_rest_stays in
    ran_then stays (ran_then stays (ran_more (λ d is. tt) gates_off c.find_array.ensures.ran) (ran_more (λ d is. tt) (log_off c.in_ok-found.found.loaded.record.members.nvrams) c.open_log.ensures.ran))
    (ran_more (λ d is. tt) (slots_off (drives_of c.in_ok-register.register)) c.store.ensures.ran)

pub returns-clause-ran : goal.returns-clause-ran
returns-clause-ran g c =
    let stays = g.met.S.Shelf.shelf_rest_stays in
    ran_then stays (ran_then stays (ran_more (λ d is. tt) gates_off c.find_array.ensures.ran) (ran_more (λ d is. tt) (log_off c.in_ok-found.found.loaded.record.members.nvrams) c.open_log.ensures.ran))
    (ran_more (λ d is. tt) (slots_off (drives_of c.in_ok-register.register)) c.store.ensures.ran)

pub returns-in_err-found-clause-opened : goal.returns-in_err-found-clause-opened
returns-in_err-found-clause-opened g c h =
    let a = g.S.Shelf.shelf c.args.shelf.now in
    let b = g.S.Shelf.shelf c.find_array.new.shelf in
    let e = c.in_err-found.field-0.0 in
    let seen : AreTablesSeenBy a b (Err e) = subst (λ (r : Result FoundArray OpenFault). AreTablesSeenBy a b r) c.in_err-found.was (c.find_array.ensures.seen h) in
    told (IsOpenedBy a b) c.from_residual.result e c.from_residual.ensures.1
    (opening.shut a b (g.met.S.Shelf.is_shelf c.args.shelf.now) h e (opening.unfound a b e seen) (c.find_array.ensures.stands h).any_moment (λ missing arrays enters. (c.find_array.ensures.stands h).clean missing enters.clean))

pub returns-in_err-register-clause-opened : goal.returns-in_err-register-clause-opened
returns-in_err-register-clause-opened g c h =
    let a = g.S.Shelf.shelf c.args.shelf.now in
    let b = g.S.Shelf.shelf c.find_array.new.shelf in
    let e : OpenFault = open_fault.Memory c.in_err-register.field-0.0 in
    told (IsOpenedBy a b) c.from_residual-in_err-register.result e c.from_residual-in_err-register.ensures.1
    (opening.shut a b (g.met.S.Shelf.is_shelf c.args.shelf.now) h e tt (c.find_array.ensures.stands h).any_moment (λ missing arrays enters. (c.find_array.ensures.stands h).clean missing enters.clean))

pub returns-in_err-opened-clause-opened : goal.returns-in_err-opened-clause-opened
returns-in_err-opened-clause-opened g c h =
    let a = g.S.Shelf.shelf c.args.shelf.now in
    let b = g.S.Shelf.shelf c.find_array.new.shelf in
    let n = g.S.Shelf.shelf c.open_log.new.shelf in
    let f = c.in_ok-found.found in
    let x = f.loaded in
    let ps : List (List AnyFact) = patches f.memory.memory.tables in
    let h_b = c.find_array.ensures.ran.on.continues.honest h in
    let fault = c.in_err-opened.field-0.0 in
    let e : OpenFault = fault_of_log fault in
    let seen : AreTablesSeen a b f = subst (λ (r : Result FoundArray OpenFault). AreTablesSeenBy a b r) c.in_ok-found.was (c.find_array.ensures.seen h) in
    let lawful : IsLawfulLoad (geometry_of b) x = c.in_ok-found.ensures.loaded.lawful in
    let err : IsLogFault fault b n x.record.members.nvrams = subst (λ (r : Result OpenedLog LogFault). IfErr r (λ k. IsLogFault k b n x.record.members.nvrams)) c.in_err-opened.was c.open_log.ensures.err in
    let found_then = λ (missing : Conditions) (arrays : List Array). tables_found a b f missing arrays (c.in_ok-found.ensures.found h) in
    let each : (missing : Conditions) (arrays : List Array) → Enters a missing arrays → LeavesOnly a n (StandsStill a None missing arrays) =
    λ missing arrays enters.
    unstored a b missing arrays c.find_array.ensures.ran.on.continues (g.met.S.Shelf.is_shelf c.find_array.new.shelf) h_b ((c.find_array.ensures.stands h).any_moment missing arrays enters) n (runs_moments c.open_log.ensures.ran.on h_b)
    (λ bears. let there = found_then missing arrays enters bears in (c.open_log.ensures.opens h_b x (failed_since a b missing) arrays ps there.1 refl refl there.0 there.2).any_moment) in
    told (IsOpenedBy a n) c.from_residual-in_err-opened.result e c.from_residual-in_err-opened.ensures.1
    (opening.shut a n (g.met.S.Shelf.is_shelf c.args.shelf.now) h e (opening.unread a b x c.find_array.ensures.ran.on.continues seen.seen lawful (nvrams_still c.find_array.ensures.ran.on) n c.open_log.ensures.ran.on.continues fault err) each
    (λ missing arrays enters. opening.clean_on a b n missing c.find_array.ensures.ran.on.continues c.open_log.ensures.ran.on.continues (c.open_log.ensures.clean h_b (failed_since a b missing) ((c.find_array.ensures.stands h).clean missing enters.clean))))

-- the record was stored, or not
opened_by : (g : given.Over) (c : After-store g) → (g.S.Shelf.shelf c.args.shelf.now).honest
    → ((e : StoreFault) → c.store.result ≡ Err e → IsShut (g.S.Shelf.shelf c.args.shelf.now) (g.S.Shelf.shelf c.store.new.shelf) (fault_of_store e))
    × ((u : Unit {0}) → c.store.result ≡ Ok u → IsOpened (g.S.Shelf.shelf c.args.shelf.now) (g.S.Shelf.shelf c.store.new.shelf) (array_with c.in_ok-opened.opened c.store.new.self))
opened_by g c h =
    let a = g.S.Shelf.shelf c.args.shelf.now in
    let b = g.S.Shelf.shelf c.find_array.new.shelf in
    let n = g.S.Shelf.shelf c.open_log.new.shelf in
    let s = g.S.Shelf.shelf c.store.new.shelf in
    let f = c.in_ok-found.found in
    let x = f.loaded in
    let ps : List (List AnyFact) = patches f.memory.memory.tables in
    let o = c.in_ok-opened.opened in
    let was = c.in_ok-register.register in
    let now = c.store.new.self in
    let is_a = g.met.S.Shelf.is_shelf c.args.shelf.now in
    let is_b = g.met.S.Shelf.is_shelf c.find_array.new.shelf in
    let is_n = g.met.S.Shelf.is_shelf c.open_log.new.shelf in
    let on = c.find_array.ensures.ran.on.continues in
    let after = c.open_log.ensures.ran.on.continues in
    let last = c.store.ensures.ran.on.continues in
    let h_b = on.honest h in
    let h_n = after.honest h_b in
    let seen : AreTablesSeen a b f = subst (λ (r : Result FoundArray OpenFault). AreTablesSeenBy a b r) c.in_ok-found.was (c.find_array.ensures.seen h) in
    let lawful : IsLawfulLoad (geometry_of b) x = c.in_ok-found.ensures.loaded.lawful in
    let replayed = c.in_ok-opened.ensures.replayed h_b in
    let made : (was.record ≡ x.record) × (was.drives ≡ x.drives) = subst (λ (r : Result Register NoMemory). IfOk r (λ y. (y.record ≡ x.record) × (y.drives ≡ x.drives))) c.in_ok-register.was c.new.ensures in
    let is_of : IsRegisterOf (geometry_of n) was = record {
      lawful = subst (λ (r : BootRecord). IsRecordOf (geometry_of n) r) (sym made.0) (subst (λ (k : Geometry). IsRecordOf k x.record) (same_shelf after) lawful.lawful);
      named = λ i m. subst (λ (r : BootRecord). IsMember r.members.drives i) (sym made.0) (lawful.named i (subst (λ (l : List _). IsMember l i) made.1 m));
    } in
    let shown : (i : ℕ) → IsMember x.drives i → shown_by (slot_in x.slot) (n.disk (drive i)).bytes ≡ Some (spelling x.record) =
    λ i m. ap (λ (k : Disk). shown_by (slot_in x.slot) k.bytes) (c.open_log.ensures.ran.on.others (drive i) (λ none. none))
    ∙ c.in_ok-found.ensures.loaded.shown h i m in
    let found_then = λ (missing : Conditions) (arrays : List Array). tables_found a b f missing arrays (c.in_ok-found.ensures.found h) in
    let opens : (missing : Conditions) (arrays : List Array) → Enters a missing arrays → IsBearable (geometry_of a) (failed_since a n missing)
    → (base : Array) × HasTables b x f.memory ps base × IsLogOpen n x (failed_since a n missing) arrays ps base o =
    λ missing arrays enters bears.
    let there = log_opened a b n missing arrays x f.memory ps on after (found_then missing arrays enters) c.open_log.result
    (λ base is has bears_then. (c.open_log.ensures.opens h_b x (failed_since a b missing) arrays ps base refl refl is has).opened (λ d sound. goes_on (a.disk d).faults (b.disk d).faults (sound_since (has_risen (a.disk d).faults (b.disk d).faults) (missing d) sound).1) bears_then) bears in
    (there.0, there.1, subst (λ (r : Result OpenedLog LogFault). IsLogOpenBy n x (failed_since a n missing) arrays ps there.0 r) c.in_ok-opened.was there.2) in
    let each : (missing : Conditions) (arrays : List Array) → Enters a missing arrays → LeavesOnly a s (StandsStill a (Some (opening.found a b x on seen.seen lawful (nvrams_still c.find_array.ensures.ran.on) n after s f.memory o was now last is_a is_b is_n h replayed is_of made.0 made.1 c.store.ensures.left.dropped (store_later c.store.ensures.made) c.store.ensures.made.few shown)) missing arrays) =
    λ missing arrays enters.
    opening.each_moment a b x on seen.seen lawful (nvrams_still c.find_array.ensures.ran.on) n after s f.memory o was now last is_a is_b is_n h replayed is_of made.0 made.1 c.store.ensures.left.dropped (store_later c.store.ensures.made) c.store.ensures.made.few shown
    missing arrays ((c.find_array.ensures.stands h).any_moment missing arrays enters) (seen.seen.given missing arrays enters) ps (opens missing arrays enters) (runs_moments c.open_log.ensures.ran.on h_b)
    (λ bears. let there = found_then missing arrays enters bears in (c.open_log.ensures.opens h_b x (failed_since a b missing) arrays ps there.1 refl refl there.0 there.2).any_moment) (λ i. c.open_log.ensures.ran.on.others (drive i) (λ none. none)) (c.open_log.ensures.ran.on.writes h_b) (c.store.ensures.ran.on.writes h_n)
    (λ room held may. stands_at (c.store.ensures.moments h_n room) (failed_since a n missing) held arrays (subst (λ (l : List Bool). MayStore n was l (failed_since a n missing) held arrays) (sym c.members.ensures) may))
    (λ room held may. subst (λ (l : List Bool). LeavesOnly n s (GivesOldOrNext n was l (failed_since a n missing))) c.members.ensures
    (gives_at (c.store.ensures.moments h_n room) (failed_since a n missing) held arrays (subst (λ (l : List Bool). MayStore n was l (failed_since a n missing) held arrays) (sym c.members.ensures) may)))
    (λ room held logged own. subst (λ (l : List Bool). LeavesOnly n s (λ stop. StillGiven n was l held stop ⊎ StandsBack n was l held stop)) c.members.ensures
    (back_at (c.store.ensures.moments h_n room) held (subst (λ (l : List Bool). StandsInLog n was l held) (sym c.members.ensures) logged) own)) in
    let unstored : (e : StoreFault) → c.store.result ≡ Err e → IsShut a s (fault_of_store e) =
    λ e is_err. opening.unstored a b x on seen.seen lawful (nvrams_still c.find_array.ensures.ran.on) n after s f.memory o was now last is_a is_b is_n h replayed is_of made.0 made.1 c.store.ensures.left.dropped (store_later c.store.ensures.made) c.store.ensures.made.few shown each e (subst (λ (r : Result (Unit {0}) StoreFault). IfErr r (λ k. IsFaultOf now k)) is_err c.store.ensures.made.fault) in (
      unstored,
      λ u is_ok.
          let is_s = g.met.S.Shelf.is_shelf c.store.new.shelf in
          let h_s = last.honest h_n in
          let memory : IsMemoryOf (geometry_of b) x.record f.memory = subst (λ (r : Result FoundArray OpenFault). IfOk r (λ y. IsMemoryOf (geometry_of b) y.loaded.record y.memory)) c.in_ok-found.was c.find_array.ensures.memory in
          let enough_found : b.drives ≤ set_count x.drives + 2 = c.in_ok-found.ensures.loaded.enough in
          let done : HasReplayed f.memory o = c.in_ok-opened.ensures.left.done in
          let generation : (was.record.generation < now.record.generation) × (now.record.generation < 2 ^ 48) =
          subst (λ (r : Result (Unit {0}) StoreFault). OnOk r ((was.record.generation < now.record.generation) × (now.record.generation < 2 ^ 48))) is_ok c.store.ensures.made.generation in
          let members : (now.record.members.drives ≡ now.drives) × (now.record.members.nvrams ≡ c.members.result) =
          subst (λ (r : Result (Unit {0}) StoreFault). OnOk r ((now.record.members.drives ≡ now.drives) × (now.record.members.nvrams ≡ c.members.result))) is_ok c.store.ensures.made.members in
          let enough : now.record.slots ≤ set_count now.drives + 2 = subst (λ (r : Result (Unit {0}) StoreFault). OnOk r (now.record.slots ≤ set_count now.drives + 2)) is_ok c.store.ensures.made.enough in
          let later : IsLaterRecord x.record now.record = subst (λ (r : BootRecord). IsLaterRecord r now.record) made.0 (store_later c.store.ensures.made) in
          let left : IsLogLeft x.record.members.nvrams x.record.flushed f.memory o = c.in_ok-opened.ensures.left in
          let found = opening.found a b x on seen.seen lawful (nvrams_still c.find_array.ensures.ran.on) n after s f.memory o was now last is_a is_b is_n h replayed is_of made.0 made.1 c.store.ensures.left.dropped (store_later c.store.ensures.made) c.store.ensures.made.few shown in
          let is_recovered : (missing : Conditions) (arrays : List Array) → Enters a missing arrays → IsBearable (geometry_of a) (failed_since a s missing)
          → IsRecovered a s found (array_with o now) done.log (failed_since a s missing) arrays =
          λ missing arrays enters bears.
          let on_n = continues_trans on after in
          let there = opens missing arrays enters (fewer_borne (geometry_of a) (failed_since a n missing) (failed_since a s missing) (since_later a n s missing last) bears) in
          let base = there.0 in
          let is = there.2 in
          let logged : StandsInLog n was c.members.result (content ps base is.commands) =
          subst (λ (l : List Bool). StandsInLog n was l (content ps base is.commands)) (sym c.members.ensures) (in_log n x (failed_since a n missing) arrays ps base o was is is_of made.0 made.1) in
          let room = opening.enough_room a b x on seen.seen lawful (nvrams_still c.find_array.ensures.ran.on) n after s f.memory o was now last is_a is_b is_n h replayed is_of made.0 made.1 c.store.ensures.left.dropped (store_later c.store.ensures.made) c.store.ensures.made.few shown is.found.room in
          let stored : IsOpen s now c.members.result (content ps base is.commands) =
          subst (λ (r : Result (Unit {0}) StoreFault). OnOk r (IsOpen s now c.members.result (content ps base is.commands))) is_ok (c.store.ensures.stored h_n room (content ps base is.commands) logged) in
          let is_open : IsOpen s now o.log.members (content ps base is.commands) = subst (λ (l : List Bool). IsOpen s now l (content ps base is.commands)) c.members.ensures stored in
          let same_log : is.commands ≡ done.log = one_read o.log is.commands done.log is.has done.has in
          let contents = base_held.contents (geometry_of b) x.record f.memory o memory done s is_s h_s now later enough base is.commands is_open in
          let reads = base_held.memory_reads (geometry_of b) x.record f.memory o memory done s is_s h_s now later enough base is.commands is_open in
          let hold = base_held.hold (geometry_of b) x.record f.memory o memory done s is_s h_s now later enough base is.commands is_open in
          let held : IsHeldBy a s found (array_with o now) base = record {
            holds = base_held.base_shown a b x on seen.seen (opening.lawful a b x on seen.seen lawful (nvrams_still c.find_array.ensures.ran.on) n after) lawful.named enough_found is_b h_b ps base there.1.hold found.view
                (λ i. found.shown (drive i)) (λ i. refl);
            contents = contents;
            reads = base_held.tables_read (geometry_of b) x.record f.memory o memory done s is_s h_s now later enough base is.commands is_open;
            hold = hold;
          } in
          recovered a n s missing arrays x o was on_n last ps base is is_of made.0 made.1 bears now c.store.ensures.left.dropped (store_later c.store.ensures.made) is_open (λ k. c.store.ensures.ran.on.others (nvram k) (λ z. z))
          found done.log same_log held (sym (patches_are (geometry_of b) x.record f.memory o memory done)) contents
          (subst (λ (l : List Command). ReadsAs contents o.memory.memory (after_all base l)) (sym same_log) reads) hold in
          let drive_then : (i : ℕ) → IsMember now.record.members.drives i → IsMember now.drives i = λ i m. subst (λ (l : List Bool). IsMember l i) members.0 m in
          let drive_found : (i : ℕ) → IsMember now.drives i → IsMember x.drives i = λ i m. subst (λ (l : List Bool). IsMember l i) made.1 (c.store.ensures.left.fewer i m) in
          let log_then : (k : ℕ) → nv.IsMember now.record.members.nvrams k → nv.IsMember o.log.members k = λ k m. subst (λ (l : List Bool). nv.IsMember l k) (members.1 ∙ c.members.ensures) m in
          let fewer = names_fewer x.record now.record (λ i m. lawful.named i (drive_found i (drive_then i m))) (λ k m. left.fewer k (log_then k m)) in
          opening.opened a b x on seen.seen lawful (nvrams_still c.find_array.ensures.ran.on) n after s f.memory o was now last is_a is_b is_n h replayed is_of made.0 made.1 c.store.ensures.left.dropped (store_later c.store.ensures.made) c.store.ensures.made.few shown each memory done seen.no_other seen.shown
          generation.0 (members.0, members.1 ∙ c.members.ensures) is_recovered
          fewer
          (names_unlost a s x.record now.record lawful.lawful.lawful fewer
          (λ i lt m.
          let own = drive_then i m in
          c.store.ensures.left.unlost i own ∙ ap (λ (k : Disk). k.write_faults) (c.open_log.ensures.ran.on.others (drive i) (λ none. none))
          ∙ c.in_ok-found.ensures.loaded.unlost i (omega (arith, lt, lawful.lawful.slots)) (drive_found i own))
          (λ k lt m.
          ap (λ (k : Disk). k.write_faults) (c.store.ensures.ran.on.others (nvram k) (λ none. none)) ∙ c.in_ok-opened.ensures.unlost k lt (log_then k m)
          ∙ ap (λ (k : Disk). k.write_faults) (c.find_array.ensures.ran.on.others (nvram k) (λ none. none))))
          enough,
    )

pub returns-in_err-store-clause-opened : goal.returns-in_err-store-clause-opened
returns-in_err-store-clause-opened g c h =
    told (IsOpenedBy (g.S.Shelf.shelf c.args.shelf.now) (g.S.Shelf.shelf c.store.new.shelf)) c.from_residual-in_err-store.result (fault_of_store c.in_err-store.field-0.0) c.from_residual-in_err-store.ensures.1
    ((opened_by g (goal.at.returns-in_err-store-clause-opened g c).After-store h).0 c.in_err-store.field-0.0 c.in_err-store.was)

pub returns-clause-opened : goal.returns-clause-opened
returns-clause-opened g c h = (opened_by g (goal.at.returns-clause-opened g c).After-store h).1 _ c.in_ok-store.was

pub returns-clause-named : goal.returns-clause-named
returns-clause-named g c =
    let now = c.store.new.self in
    let members : (now.record.members.drives ≡ now.drives) × (now.record.members.nvrams ≡ c.members.result) =
    subst (λ (r : Result (Unit {0}) StoreFault). OnOk r ((now.record.members.drives ≡ now.drives) × (now.record.members.nvrams ≡ c.members.result))) c.in_ok-store.was c.store.ensures.made.members in
    (members.0, members.1 ∙ c.members.ensures)

pub returns-clause-is_of : goal.returns-clause-is_of
returns-clause-is_of g c =
    let b = g.S.Shelf.shelf c.find_array.new.shelf in
    let s = g.S.Shelf.shelf c.store.new.shelf in
    let f = c.in_ok-found.found in
    let x = f.loaded in
    let o = c.in_ok-opened.opened in
    let was = c.in_ok-register.register in
    let now = c.store.new.self in
    let made : (was.record ≡ x.record) × (was.drives ≡ x.drives) = subst (λ (r : Result Register NoMemory). IfOk r (λ y. (y.record ≡ x.record) × (y.drives ≡ x.drives))) c.in_ok-register.was c.new.ensures in
    let memory_b : IsMemoryOf (geometry_of b) x.record f.memory = subst (λ (r : Result FoundArray OpenFault). IfOk r (λ y. IsMemoryOf (geometry_of b) y.loaded.record y.memory)) c.in_ok-found.was c.find_array.ensures.memory in
    let memory : IsMemoryOf (geometry_of s) x.record f.memory = subst (λ (k : Geometry). IsMemoryOf k x.record f.memory) (same_shelf c.open_log.ensures.ran.on.continues ∙ same_shelf c.store.ensures.ran.on.continues) memory_b in
    let done : HasReplayed f.memory o = c.in_ok-opened.ensures.left.done in
    let left : IsLogLeft x.record.members.nvrams x.record.flushed f.memory o = c.in_ok-opened.ensures.left in
    array_of_shelf (geometry_of s) x.record f.memory o memory done now c.store.ensures.left.is_of (subst (λ (r : BootRecord). IsLaterRecord r now.record) made.0 (store_later c.store.ensures.made)) left.follows left.some

pub returns-in_err-found-clause-outlasts : goal.returns-in_err-found-clause-outlasts
returns-in_err-found-clause-outlasts g c h missing next boot arrays enters entry =
    weaker (λ stop again. back_again (g.S.Shelf.shelf c.args.shelf.now) missing arrays stop again) ((c.find_array.ensures.stands h).again missing next boot arrays enters entry)

pub returns-in_err-register-clause-outlasts : goal.returns-in_err-register-clause-outlasts
returns-in_err-register-clause-outlasts g c h missing next boot arrays enters entry =
    weaker (λ stop again. back_again (g.S.Shelf.shelf c.args.shelf.now) missing arrays stop again) ((c.find_array.ensures.stands h).again missing next boot arrays enters entry)

pub returns-in_err-opened-clause-outlasts : goal.returns-in_err-opened-clause-outlasts
returns-in_err-opened-clause-outlasts g c h =
    let a = g.S.Shelf.shelf c.args.shelf.now in
    let b = g.S.Shelf.shelf c.find_array.new.shelf in
    let n = g.S.Shelf.shelf c.open_log.new.shelf in
    let on = c.find_array.ensures.ran.on.continues in
    opening_outlasts a b n on (g.met.S.Shelf.is_shelf c.find_array.new.shelf) (on.honest h) h c.in_ok-found.found (c.find_array.ensures.stands h) c.in_ok-found.ensures.loaded (c.in_ok-found.ensures.found h) c.open_log.result
    (λ during standing ps base. c.open_log.ensures.opens (on.honest h) c.in_ok-found.found.loaded during standing ps base refl refl)

-- the record was stored, or not
outlasts : (g : given.Over) (c : After-store g) → (g.S.Shelf.shelf c.args.shelf.now).honest → OutlastsFailures (g.S.Shelf.shelf c.args.shelf.now) (g.S.Shelf.shelf c.store.new.shelf)
outlasts g c h missing next boot arrays enters entry =
    let a = g.S.Shelf.shelf c.args.shelf.now in
    let b = g.S.Shelf.shelf c.find_array.new.shelf in
    let n = g.S.Shelf.shelf c.open_log.new.shelf in
    let f = c.in_ok-found.found in
    let x = f.loaded in
    let on = c.find_array.ensures.ran.on.continues in
    let h_b = on.honest h in
    let firm : IsFoundFirmly b x missing arrays = c.in_ok-found.ensures.loaded.firmly h missing next boot arrays enters entry in
    let enough : b.drives ≤ set_count x.drives + 2 = c.in_ok-found.ensures.loaded.enough in
    let opening =
    opening_outlasts a b n on (g.met.S.Shelf.is_shelf c.find_array.new.shelf) h_b h f (c.find_array.ensures.stands h) c.in_ok-found.ensures.loaded (c.in_ok-found.ensures.found h) c.open_log.result
    (λ during standing ps base. c.open_log.ensures.opens h_b x during standing ps base refl refl) in
    let s = g.S.Shelf.shelf c.store.new.shelf in
    let o = c.in_ok-opened.opened in
    let was = c.in_ok-register.register in
    let now = c.store.new.self in
    let after = c.open_log.ensures.ran.on.continues in
    let h_n = after.honest h_b in
    let lawful : IsLawfulLoad (geometry_of b) x = c.in_ok-found.ensures.loaded.lawful in
    let made : (was.record ≡ x.record) × (was.drives ≡ x.drives) = subst (λ (r : Result Register NoMemory). IfOk r (λ y. (y.record ≡ x.record) × (y.drives ≡ x.drives))) c.in_ok-register.was c.new.ensures in
    let is_of : IsRegisterOf (geometry_of n) was = record {
      lawful = subst (λ (r : BootRecord). IsRecordOf (geometry_of n) r) (sym made.0) (subst (λ (k : Geometry). IsRecordOf k x.record) (same_shelf after) lawful.lawful);
      named = λ i m. subst (λ (r : BootRecord). IsMember r.members.drives i) (sym made.0) (lawful.named i (subst (λ (l : List _). IsMember l i) made.1 m));
    } in
    let opened : (during : Conditions) → IsFoundOn b x during arrays → (qs : List (List AnyFact)) × (base : Array) × IsLogOpenOn n x during arrays qs base o =
    λ during is.
    let ps = patches f.memory.memory.tables in
    let has = (c.in_ok-found.ensures.found h).tables during arrays is in
    (ps, has.0, (c.in_ok-opened.ensures.opens h_b x during arrays ps has.0 refl refl is has.1).opened_on) in
    let left : IsLogLeft x.record.members.nvrams x.record.flushed f.memory o = c.in_ok-opened.ensures.left in
    let stores : x.record.generation < 2 ^ 48 - 16 → (during : Conditions) (held : Content) → MayStore n was o.log.members during held arrays → IsFirm n was during → LeavesOnly n s (StandsAgain n during arrays) =
    λ room during held may is_firm. c.store.ensures.outlasts h_n (room_left x.record was.record now.record made.0 c.store.ensures.made.few room) during held arrays
    (subst (λ (l : List Bool). MayStore n was l during held arrays) (sym c.members.ensures) may) is_firm in
    let storing = while_storing a b missing arrays x on (g.met.S.Shelf.is_shelf c.find_array.new.shelf) h_b enters.bearable enough firm n s after (g.met.S.Shelf.is_shelf c.open_log.new.shelf) h_n (λ i. c.open_log.ensures.ran.on.others (drive i) (λ none. none))
    o was opened left.fewer left.some is_of made.0 made.1 stores in
    then_run (continues_trans on after) (opening missing next boot arrays enters entry) storing

pub returns-in_err-store-clause-outlasts : goal.returns-in_err-store-clause-outlasts
returns-in_err-store-clause-outlasts g c = outlasts g (goal.at.returns-in_err-store-clause-outlasts g c).After-store

pub returns-clause-outlasts : goal.returns-clause-outlasts
returns-clause-outlasts g c = outlasts g (goal.at.returns-clause-outlasts g c).After-store
