-- The point behind an answer.
use Rattle.array_engine.proofs.Prelude.{◌≡◌, inl, inr, ℕ, ◌≤◌, Bool, true, false, cond, List, Option, Some, None, refl, sym, ap, subst, ◌∙◌, arith, length, AllByRecursion, Device, Geometry, IsBearable, Request, Refusal, SECTOR_BYTES, Item, Asked, refusal, Answer, Line, Sectors, Entries, refused, given, IsAnswer, Shelved, Stop, geometry_of, Contents, ReadsAs, facts, Point, Answers, AnswersRequest, IsAsBefore, IsRefused, numbers_at, named_sound, HasGroups, patches_at, told_of, Content, Array, SegmentsHold, IsReady, IsLike, Engine, Said, Says, failed_in, lost_in, IsAt, StandsAt, IsAnsweredAt, point_after}
use Rattle.session_spec.specs.Prelude.{LosesThree}
use Rattle.pur_base.specs.declared.request.Request.TheVariants as request
use Rattle.pur_base.specs.declared.reply.Refusal.TheVariants as refusals
use Rattle.pur_base.specs.Plain as plain
use Rattle.pur_base.specs.declared.reply.Reply.TheVariants as reply
use Rattle.array_checkpoint.proofs.Like.{like_is, like_is_ready, roomed_reads}
use Rattle.array_engine.specs.declared.said.Said.TheVariants as said

-- ---- nothing changes

-- What segments hold is as it was where that is told, and no write failed.
pub record KeepsSegments (told : Bool) (old new : Shelved) (a : Array) : Type 0 where
  pub hold : told ≡ true → (contents : Contents) → SegmentsHold contents old a.register (facts a.memory.memory.tables) → SegmentsHold contents new a.register (facts a.memory.memory.tables)
  pub write_faults : (d : Device) → (new.disk d).write_faults ≡ (old.disk d).write_faults
  pub size : geometry_of old ≡ geometry_of new

-- and so is what honest devices hold

abbrev pub KeepsReady : Shelved → Shelved → Array → Type 0
KeepsReady old new a = old.honest → (held : Content) → IsReady old a held → IsReady new a held

if_same : {A : Type 0} (b : Bool) (x y : A) → (b ≡ false → x ≡ y) → cond b x y ≡ x
if_same true x y h = refl
if_same false x y h = sym (h refl)

-- an array that differs in room alone stands where the other does
stands_like : (told : Bool) (shelf : Shelved) (a b : Array) (p : Point) → IsLike a b → StandsAt told shelf a p → StandsAt told shelf b p
stands_like told shelf a b p like s = subst (λ (x : Array). StandsAt told shelf x p) (sym (like_is a b like)) (record {
  logged = s.logged;
  boot = s.boot;
  memory = s.memory;
  background = s.background;
  contents = s.contents;
  reads = roomed_reads a b.memory s.contents p.array s.reads;
  hold = s.hold;
  names_holders = s.names_holders;
  enough = s.enough;
  borne = s.borne;
})

pub like_itself : (a : Array) → IsLike a a
like_itself a = record { register = refl; log = refl; background = refl; memory = refl; names = omega arith }

pub like_same : {a b : Array} → b ≡ a → IsLike a b
like_same {a} {b} same = subst (λ (x : Array). IsLike a x) (sym same) (like_itself a)

-- the array is as it was, and the point behind the answer stands for it
stands_on : (told : Bool) (old new : Shelved) (a : Array) (from to : Point) → KeepsSegments told old new a → IsAsBefore from to → StandsAt told old a from → StandsAt told new a to
stands_on told old new a from to keeps before s = record {
  logged = before.logged ∙ s.logged;
  boot = before.boot ∙ s.boot;
  memory = before.memory ∙ s.memory;
  background = before.background ∙ s.background;
  contents = s.contents;
  reads = subst (λ (x : plain.Array). ReadsAs s.contents a.memory.memory x) (sym before.array) s.reads;
  hold = λ t. keeps.hold t s.contents (s.hold t);
  names_holders = s.names_holders;
  enough = s.enough;
  borne = subst (λ (g : Geometry). IsBearable g (named_sound a.register.record)) keeps.size s.borne;
}

-- The engine has the same array, but for room, and is halted as it was.
module _ (told : Bool) (old new : Shelved) (e f : Engine) (like : IsLike e.array f.array) (halts : f.halted ≡ e.halted) (keeps : KeepsSegments told old new f.array) (from : Point) (at : IsAt told old e from) where
  abbrev there : Stop → Point
  there stop = point_after f from.array stop from

  stands_there : f.halted ≡ false → StandsAt told old f.array from
  stands_there awake = stands_like told old e.array f.array from like (at.stands (sym halts ∙ awake))

  pub as_before : (stop : Stop) → IsAsBefore from (there stop)
  as_before stop = record {
    array = refl;
    logged = if_same f.halted from.logged f.array.log.count (λ awake. (stands_there awake).logged);
    boot = if_same f.halted from.boot f.array.register.record (λ awake. (stands_there awake).boot);
    memory = if_same f.halted from.memory (told_of f.array.memory.memory) (λ awake. (stands_there awake).memory);
    background = if_same f.halted from.background f.array.background.facts (λ awake. (stands_there awake).background);
  }

  pub at_so : (stop : Stop) → IsAt told new f (there stop)
  at_so stop = record { halted = refl; stands = λ awake. stands_on told old new f.array from (there stop) keeps (as_before stop) (stands_there awake) }

  pub refused_so : (why : Refusal) (stop : Stop) → IsRefused why from (refused why) (there stop)
  refused_so why stop = record { reply = refl; stays = as_before stop; halted = halts ∙ sym at.halted }

  module _ (ready : KeepsReady old new f.array) (item : Item) where
    pub answered_so : (s : Said) (q : Answer) → Says f.array.memory.memory f.buffers.reply.items s q → IsAnswer q → ((stop : Stop) → Answers told (geometry_of old) (failed_in old new) (lost_in old new) from item q (there stop))
        → IsAnsweredAt told old new e f item s from
    answered_so s q says whole answers = record {
      reply = q;
      says = says;
      whole = whole;
      array = from.array;
      answers = answers;
      at = at_so;
      unlost = λ awake d named. keeps.write_faults d;
      ready = λ h awake held r same. (held, ready h held (like_is_ready old e.array f.array held like r), same);
    }

    -- a refusal, with its cause
    pub answered_refused : (why : Refusal) → ((stop : Stop) → IsRefused why from (refused why) (there stop) → Answers told (geometry_of old) (failed_in old new) (lost_in old new) from item (refused why) (there stop))
        → IsAnsweredAt told old new e f item (said.Refused why) from
    answered_refused why cause = answered_so (said.Refused why) (refused why) refl tt (λ stop. cause stop (refused_so why stop))

  -- a request, where the engine isn't halted
  module _ (awake : e.halted ≡ false) (r : Request) (sectors : List (List ℕ)) where
    by_cause : (why : Option Refusal) → refusal from.array r ≡ why → (q : Answer) (stop : Stop) → AnswersRequest false why told (geometry_of old) (failed_in old new) (lost_in old new) from r sectors q (there stop)
        → Answers told (geometry_of old) (failed_in old new) (lost_in old new) from (Asked r sectors) q (there stop)
    by_cause why cause q stop h = subst (λ (b : Bool). AnswersRequest b (refusal from.array r) told (geometry_of old) (failed_in old new) (lost_in old new) from r sectors q (there stop)) (sym (at.halted ∙ awake))
        (subst (λ (o : Option Refusal). AnswersRequest false o told (geometry_of old) (failed_in old new) (lost_in old new) from r sectors q (there stop)) (sym cause) h)

    pub refused_by_cause : KeepsReady old new f.array → (why : Refusal) → refusal from.array r ≡ Some why → IsAnsweredAt told old new e f (Asked r sectors) (said.Refused why) from
    refused_by_cause ready why cause = answered_refused ready (Asked r sectors) why (λ stop h. by_cause (Some why) cause (refused why) stop h)

  pub refused_halted : KeepsReady old new f.array → e.halted ≡ true → (r : Request) (sectors : List (List ℕ)) → IsAnsweredAt told old new e f (Asked r sectors) (said.Refused refusals.Halted) from
  refused_halted ready asleep r sectors = answered_refused ready (Asked r sectors) refusals.Halted
      (λ stop h. subst (λ (b : Bool). AnswersRequest b (refusal from.array r) told (geometry_of old) (failed_in old new) (lost_in old new) from r sectors (refused refusals.Halted) (there stop)) (sym (at.halted ∙ asleep)) h)

  -- what is read from memory alone
  pub listed : KeepsReady old new f.array → (awake : e.halted ≡ false) → (sectors : List (List ℕ)) → IsAnswer (Entries from.array) → IsAnsweredAt told old new e f (Asked request.List sectors) said.Names from
  listed ready awake sectors whole =
      let s = stands_there (halts ∙ awake) in
      answered_so ready (Asked request.List sectors) said.Names (Entries from.array)
      (from.array, record { contents = s.contents; reads = s.reads }, refl) whole
      (λ stop. by_cause awake request.List sectors None refl (Entries from.array) stop (record { reply = refl; stays = as_before stop; halted = halts ∙ sym at.halted }))

  -- numbers, of which each is so
  pub stated : KeepsReady old new f.array → (awake : e.halted ≡ false) → (sectors : List (List ℕ)) (groups : ℕ) (numbers : List ℕ) → HasGroups from.boot (patches_at from) groups → numbers ≡ numbers_at from groups → IsAnswer (Line (reply.Numbers numbers))
      → IsAnsweredAt told old new e f (Asked request.Status sectors) (said.Numbers numbers) from
  stated ready awake sectors groups numbers left are whole =
      answered_so ready (Asked request.Status sectors) (said.Numbers numbers) (Line (reply.Numbers numbers)) refl whole
      (λ stop. by_cause awake request.Status sectors None refl (Line (reply.Numbers numbers)) stop
      (record { groups = groups; left = left; reply = ap (λ (ns : List ℕ). Line (reply.Numbers ns)) are; stays = as_before stop; halted = halts ∙ sym at.halted }))

  -- sectors
  module _ (ready : KeepsReady old new f.array) (awake : e.halted ≡ false) (name : List ℕ) (lba count : ℕ) (sectors : List (List ℕ)) (accepted : refusal from.array (request.Read name lba count) ≡ None) where
    pub was_read : (read : List (List ℕ)) → Says f.array.memory.memory f.buffers.reply.items (said.Data count) (Sectors read) → length read ≡ count → AllByRecursion (λ sector. length sector ≡ SECTOR_BYTES) read → count ≤ 64
        → (told ≡ true → Sectors read ≡ given from.array (request.Read name lba count)) → IsAnsweredAt told old new e f (Asked (request.Read name lba count) sectors) (said.Data count) from
    was_read read says size whole few known = answered_so ready (Asked (request.Read name lba count) sectors) (said.Data count) (Sectors read) says (omega (arith, size, few), whole)
        (λ stop. by_cause awake (request.Read name lba count) sectors None accepted (Sectors read) stop
        (inl (record { sectors = read; reply = refl; count_is = size; whole = whole; known = known; stays = as_before stop; halted = halts ∙ sym at.halted })))

    pub was_lost : LosesThree (geometry_of old) (failed_in old new) from → IsAnsweredAt told old new e f (Asked (request.Read name lba count) sectors) (said.Refused refusals.Device) from
    was_lost three = answered_refused ready (Asked (request.Read name lba count) sectors) refusals.Device
        (λ stop h. by_cause awake (request.Read name lba count) sectors None accepted (refused refusals.Device) stop (inr (record { three = three; refused_so = h })))
