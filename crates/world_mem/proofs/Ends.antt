-- The ends of a call on a device in memory.
use Rattle.world_mem.proofs.Prelude.{◌≡◌, inl, inr, Bool, true, false, List, [], ◌∷◌, ◌++◌, length, refl, ◌∙◌, ap, subst, Ok, Err, Device, Disk, Failed, Call, On, What, Part, HasFailed, WasCalled, disk_of, plan_of, will_fail, undo_what, Logged, OnlyCounted}

module _ {device : Device} {was_starved : Bool} {calls after : List Call} (old mid new : Part) (same : disk_of mid ≡ disk_of old) (plan : plan_of mid ≡ plan_of old) where
  -- it was to fail
  pub failed_call : {starved : Bool} {error : Failed} → will_fail old ≡ true → HasFailed device was_starved starved calls after mid new → WasCalled device (Err error) was_starved starved calls after old new
  failed_call {starved} {error} told h = record {
    only = inl told;
    told = λ is. refl;
    size = ap length h.bytes ∙ ap (λ (d : Disk). length d.bytes) same;
    recorded = record { plan = h.recorded.plan ∙ plan; stays = h.recorded.stays; logged = subst (λ (d : Disk). Logged device (starved ≡ true) d (disk_of new) calls after) same h.recorded.logged };
  }

  -- its record found no memory
  pub starved_call : {starved : Bool} {error : Failed} → starved ≡ true → after ≡ calls → plan_of new ≡ plan_of mid → OnlyCounted (disk_of mid) (disk_of new) → WasCalled device (Err error) was_starved starved calls after old new
  starved_call {starved} {error} gap is planned counted = record {
    only = inr gap;
    told = λ is. refl;
    size = ap length counted.bytes ∙ ap (λ (d : Disk). length d.bytes) same;
    recorded = record { plan = planned ∙ plan; stays = λ was. gap; logged = inr (gap, is, subst (λ (d : Disk). OnlyCounted d (disk_of new)) same counted) };
  }

  -- it is recorded
  pub recorded_call : {starved : Bool} (what : What) → starved ≡ was_starved → will_fail old ≡ false → after ≡ calls ++ On device what ∷ [] → plan_of new ≡ plan_of mid → length new.bytes.items ≡ length mid.bytes.items → undo_what what (disk_of new) ≡ disk_of mid
      → WasCalled device (Ok tt) was_starved starved calls after old new
  recorded_call {starved} what still sound is planned size undone = record {
    only = tt;
    told = λ told. absurd (cc (sound, told));
    size = size ∙ ap (λ (d : Disk). length d.bytes) same;
    recorded = record { plan = planned ∙ plan; stays = λ was. still ∙ was; logged = inl (what, is, undone ∙ same) };
  }
