-- The laws of a shelf, behind a fuse.
use Rattle.std.proofs.Common.{◌≡◌, inl, inr, ⊎_elim, Bool, true, false, ℕ, ◌+◌, ◌-◌, ◌≤◌, ◌^◌, List, ◌++◌, length, refl, sym, ◌∙◌, ap, subst, arith}
use Rattle.world.specs.Prelude.{Device, Drive, Nv, Disk, Shelved, Stop, MayLeave, MayStop, IsShelf, IsOf, size_of, Continues, Elapses, OutputOnly, TakenOnly, MayStopGiving, MayStopTaking, IsCountedBy, Streamed, SameStream, no_output, nothing_taken, front_refl, capped}
use Rattle.world_mem.specs.declared.extra.Extra.{Extra}
use Rattle.world_mem.specs.Fuse.{Fuse, fused, fused_disk, fused_stream, tick, StopsNow, IsWhole, SameFuse, CutOff}

capped_end : (n : ℕ) → capped n ≤ 2 ^ 64 - 1
capped_end n = omega arith

pub capped_same : (n : ℕ) → n ≤ 2 ^ 64 - 1 → capped (n + 0) ≡ n
capped_same n le = omega arith

pub capped_more : (n m : ℕ) → n ≤ m → capped n ≤ capped m
capped_more n m le = omega arith

-- a whole fuse changes nothing
pub same_disk : (s : Shelved) (f : Fuse) → IsShelf s → IsWhole f → f.blown ≡ false → (d : Device) → fused_disk s f d ≡ s.disk d
same_disk s f is whole sound d =
    let e = whole sound d in
    λ i. record {
      bytes = (s.disk d).bytes;
      dirty = (s.disk d).dirty;
      faults = (ap (λ (x : Extra). capped ((s.disk d).faults + x.faults)) e ∙ capped_same (s.disk d).faults (is.faults d)) i;
      write_faults = (ap (λ (x : Extra). capped ((s.disk d).write_faults + x.write_faults)) e ∙ capped_same (s.disk d).write_faults (is.write_faults d)) i;
    }

pub to_fused : (s : Shelved) (f : Fuse) → IsShelf s → IsWhole f → f.blown ≡ false → (stop : Stop) → MayStop s stop → StopsNow s f stop
to_fused s f is whole sound stop may =
    let e = same_disk s f is whole sound in
    record {
      device = λ d. subst (λ (x : Disk). MayLeave x (stop.image d)) (sym (e d)) (may.device d);
      faults = λ d. omega (arith, may.counts.faults d, ap (λ (x : Disk). x.faults) (e d));
      write_faults = λ d. omega (arith, may.counts.write_faults d, ap (λ (x : Disk). x.write_faults) (e d));
      output = may.output;
      taken = may.taken;
    }

pub to_inner : (s : Shelved) (f : Fuse) → IsShelf s → (stop : Stop) → StopsNow s f stop → MayStop s stop
to_inner s f is stop now = record {
  device = λ d. let m = now.device d in record { size = m.size; is_byte = m.is_byte; clean = m.clean };
  counts = record {
    faults = λ d. omega (arith, now.faults d, is.faults d);
    write_faults = λ d. omega (arith, now.write_faults d, is.write_faults d);
  };
  output = now.output;
  taken = now.taken;
}

pub from_now : (s : Shelved) (f : Fuse) (stop : Stop) → StopsNow s f stop → MayStop (fused s f) stop
from_now s f stop now = record { device = now.device; counts = record { faults = now.faults; write_faults = now.write_faults }; output = now.output; taken = now.taken }

pub fused_shelf : (s : Shelved) (f : Fuse) → IsShelf s → IsWhole f → IsShelf (fused s f)
fused_shelf s f is whole = record {
  drives = is.drives;
  units = is.units;
  sizes = sizes;
  bytes = is.bytes;
  faults = λ d. capped_end _;
  write_faults = λ d. capped_end _;
  counts_now = λ t stop le may. inr (record { device = may.device; faults = may.counts.faults; write_faults = may.counts.write_faults; output = may.output; taken = may.taken });
  only_now = λ stop left. ⊎_elim (λ was. from_now s f stop (before stop was.0 was.1)) (λ now. from_now s f stop now) left;
}
  where
    sizes : s.honest → (d : Device) → IsOf (fused s f) d → length ((fused s f).disk d).bytes ≡ size_of (fused s f) d
    sizes h (Drive d) there = is.sizes h (Drive d) there
    sizes h (Nv n) there = is.sizes h (Nv n) there

    at : (b : Bool) → f.blown ≡ b → (stop : Stop) → s.moment + tick b ≤ s.moment → s.left_since (s.moment + tick b) stop → StopsNow s f stop
    at true blown stop le left = absurd (omega (arith, le))
    at false sound stop le left = to_fused s f is whole sound stop (is.only_now stop (subst (λ (t : ℕ). s.left_since t stop) (let e : s.moment + 0 ≡ s.moment = omega arith in e) left))

    before : (stop : Stop) → s.moment + tick f.blown ≤ s.moment → s.left_since (s.moment + tick f.blown) stop → StopsNow s f stop
    before stop le left = at f.blown refl stop le left

same_fuse : (f g : Fuse) → SameFuse f g → g ≡ f
same_fuse f g same = λ i. record { blown = same.blown i; drives = same.drives i; nvram = same.nvram i }

-- a call that goes through
module _ (s t : Shelved) (f g : Fuse) (is_s : IsShelf s) (is_t : IsShelf t) (whole_f : IsWhole f) (whole_g : IsWhole g) (sound_f : f.blown ≡ false) (sound_g : g.blown ≡ false) where
  old_disk : (d : Device) → fused_disk s f d ≡ s.disk d
  old_disk d = same_disk s f is_s whole_f sound_f d

  new_disk : (d : Device) → fused_disk t g d ≡ t.disk d
  new_disk d = same_disk t g is_t whole_g sound_g d

  earlier : (time : ℕ) → time ≤ s.moment + tick f.blown → time ≤ s.moment
  earlier time le = omega (arith, le, ap tick sound_f)

  pub carried : (R : Disk → Disk → Type 0) (d : Device) → R (s.disk d) (t.disk d) → R (fused_disk s f d) (fused_disk t g d)
  carried R d r = subst (λ (x : Disk). R x (fused_disk t g d)) (sym (old_disk d)) (subst (λ (x : Disk). R (s.disk d) x) (sym (new_disk d)) r)

  pub stays : (d : Device) → t.disk d ≡ s.disk d → fused_disk t g d ≡ fused_disk s f d
  stays d same = new_disk d ∙ same ∙ sym (old_disk d)

  pub continues : Continues s t → Continues (fused s f) (fused t g)
  continues on = record {
    drives = on.drives;
    units = on.units;
    honest = on.honest;
    honest_before = on.honest_before;
    lapsed = λ l. ⊎_elim (λ was. inl (on.lapsed was)) (λ blown. absurd (cc (blown, sound_f))) l;
    output = on.output;
    taken = on.taken;
    later = omega (arith, on.later, ap tick sound_f, ap tick sound_g);
    faults = λ d. omega (arith, on.faults d, ap (λ (x : Disk). x.faults) (old_disk d), ap (λ (x : Disk). x.faults) (new_disk d));
    write_faults = λ d. omega (arith, on.write_faults d, ap (λ (x : Disk). x.write_faults) (old_disk d), ap (λ (x : Disk). x.write_faults) (new_disk d));
    keeps = λ whole time stop le left.
        let le_s = earlier time le in
        let le_t : time ≤ t.moment = omega (arith, le_s, on.later) in
        let unlapsed : t.lapsed → ⊥ = λ l. whole (inl l) in
        inl (le_t, on.keeps unlapsed time stop le_s (⊎_elim (λ was. was.1) (λ now. is_s.counts_now time stop le_s (to_inner s f is_s stop now)) left));
  }

  pub passes : Elapses s t → Elapses (fused s f) (fused t g)
  passes passed = record {
    continues = continues passed.continues;
    quiet = record { output = passed.quiet.output; taken = passed.quiet.taken };
    nothing_else = λ time stop le left.
        let le_s = earlier time le in
        ⊎_elim
        (λ was. ⊎_elim (λ before. inl (inl (le_s, before))) (λ now. inr (from_now t g stop (to_fused t g is_t whole_g sound_g stop now))) (passed.nothing_else time stop le_s was.1))
        (λ now. inr (from_now t g stop now))
        left;
  }

  still : (stop : Stop) → ((d : Device) → MayLeave (s.disk d) (stop.image d)) → (d : Device) → MayLeave (fused_disk s f d) (stop.image d)
  still stop may d = subst (λ (x : Disk). MayLeave x (stop.image d)) (sym (old_disk d)) (may d)

  counted : (stop : Stop) → IsCountedBy s stop → IsCountedBy (fused s f) stop
  counted stop counts = record {
    faults = λ d. omega (arith, counts.faults d, ap (λ (x : Disk). x.faults) (old_disk d));
    write_faults = λ d. omega (arith, counts.write_faults d, ap (λ (x : Disk). x.write_faults) (old_disk d));
  }

  counted_before : (stop : Stop) → ((d : Device) → t.disk d ≡ s.disk d) → IsCountedBy t stop → IsCountedBy s stop
  counted_before stop same counts = record {
    faults = λ d. omega (arith, counts.faults d, ap (λ (x : Disk). x.faults) (same d));
    write_faults = λ d. omega (arith, counts.write_faults d, ap (λ (x : Disk). x.write_faults) (same d));
  }

  giving : (stop : Stop) → MayStopGiving s t stop → MayStopGiving (fused s f) (fused t g) stop
  giving stop may = record { device = still stop may.device; counts = counted stop may.counts; from = may.from; to = may.to; taken = may.taken }

  gave : OutputOnly s t → (stop : Stop) → StopsNow t g stop → MayStopGiving (fused s f) (fused t g) stop
  gave gives stop now =
      let may = to_inner t g is_t stop now in
      record {
        device = still stop (λ d. subst (λ (x : Disk). MayLeave x (stop.image d)) (gives.disk d) (may.device d));
        counts = counted stop (counted_before stop gives.disk may.counts);
        from = subst (λ (l : List ℕ). (more : List ℕ) × (l ≡ s.output ++ more)) (sym now.output) gives.continues.output;
        to = subst (λ (l : List ℕ). (more : List ℕ) × (t.output ≡ l ++ more)) (sym now.output) (front_refl t.output);
        taken = now.taken ∙ gives.taken;
      }

  pub passes_output : OutputOnly s t → OutputOnly (fused s f) (fused t g)
  passes_output gives = record {
    continues = continues gives.continues;
    disk = λ d. stays d (gives.disk d);
    taken = gives.taken;
    nothing_else = λ time stop le left.
        let le_s = earlier time le in
        ⊎_elim (λ was. ⊎_elim (λ before. inl (inl (le_s, before))) (λ now. inr (giving stop now)) (gives.nothing_else time stop le_s was.1)) (λ now. inr (gave gives stop now)) left;
  }

  taking : (stop : Stop) → MayStopTaking s t stop → MayStopTaking (fused s f) (fused t g) stop
  taking stop may = record { device = still stop may.device; counts = counted stop may.counts; output = may.output; from = may.from; to = may.to }

  took : TakenOnly s t → (stop : Stop) → StopsNow t g stop → MayStopTaking (fused s f) (fused t g) stop
  took takes stop now =
      let may = to_inner t g is_t stop now in
      record {
        device = still stop (λ d. subst (λ (x : Disk). MayLeave x (stop.image d)) (takes.disk d) (may.device d));
        counts = counted stop (counted_before stop takes.disk may.counts);
        output = now.output ∙ takes.output;
        from = omega (arith, now.taken, takes.continues.taken);
        to = omega (arith, now.taken);
      }

  pub passes_input : TakenOnly s t → TakenOnly (fused s f) (fused t g)
  passes_input takes = record {
    continues = continues takes.continues;
    disk = λ d. stays d (takes.disk d);
    output = takes.output;
    nothing_else = λ time stop le left.
        let le_s = earlier time le in
        ⊎_elim (λ was. ⊎_elim (λ before. inl (inl (le_s, before))) (λ now. inr (taking stop now)) (takes.nothing_else time stop le_s was.1)) (λ now. inr (took takes stop now)) left;
  }

-- what the sink of a fused world leaves; once it has blown, all is as it was
pub fused_gives : {X : Type 0} (shelf : X → Shelved) (x y : X) (f g : Fuse) → IsShelf (shelf x) → IsShelf (shelf y) → IsWhole f → IsWhole g → OutputOnly (shelf x) (shelf y) → SameFuse f g → (f.blown ≡ true → y ≡ x) → OutputOnly (fused (shelf x) f) (fused (shelf y) g)
fused_gives {X} shelf x y f g is_x is_y whole_f whole_g gives same still = at f.blown refl
  where
    at : (b : Bool) → f.blown ≡ b → OutputOnly (fused (shelf x) f) (fused (shelf y) g)
    at true blown =
        subst (λ (z : X). OutputOnly (fused (shelf x) f) (fused (shelf z) g)) (sym (still blown))
        (subst (λ (h : Fuse). OutputOnly (fused (shelf x) f) (fused (shelf x) h)) (sym (same_fuse f g same)) (no_output (fused (shelf x) f)))
    at false sound = passes_output (shelf x) (shelf y) f g is_x is_y whole_f whole_g sound (same.blown ∙ sound) gives

pub fused_takes : {X : Type 0} (shelf : X → Shelved) (x y : X) (f g : Fuse) → IsShelf (shelf x) → IsShelf (shelf y) → IsWhole f → IsWhole g → TakenOnly (shelf x) (shelf y) → SameFuse f g → (f.blown ≡ true → y ≡ x) → TakenOnly (fused (shelf x) f) (fused (shelf y) g)
fused_takes {X} shelf x y f g is_x is_y whole_f whole_g takes same still = at f.blown refl
  where
    at : (b : Bool) → f.blown ≡ b → TakenOnly (fused (shelf x) f) (fused (shelf y) g)
    at true blown =
        subst (λ (z : X). TakenOnly (fused (shelf x) f) (fused (shelf z) g)) (sym (still blown))
        (subst (λ (h : Fuse). TakenOnly (fused (shelf x) f) (fused (shelf x) h)) (sym (same_fuse f g same)) (nothing_taken (fused (shelf x) f)))
    at false sound = passes_input (shelf x) (shelf y) f g is_x is_y whole_f whole_g sound (same.blown ∙ sound) takes

-- a stream within means the same
pub fused_stays : {s t : Streamed} (a b : ℕ) → SameStream s t → b ≡ a → SameStream (fused_stream s a) (fused_stream t b)
fused_stays {s} {t} a b same extra = record { honest = same.honest; honest_before = same.honest_before; bytes = same.bytes; faults = λ i. capped (same.faults i + extra i) }

pub not_cut : {X : Type 0} {x : X} (b : Bool) → CutOff b b (x ≡ x)
not_cut {X} {x} b = record { stays = λ blown. blown; within = λ blown. refl }

pub cut_then : {X : Type 0} {x y z : X} {a b c : Bool} → CutOff a b (y ≡ x) → CutOff b c (z ≡ y) → CutOff a c (z ≡ x)
cut_then {X} {x} {y} {z} {a} {b} {c} ab bc = record { stays = λ blown. bc.stays (ab.stays blown); within = λ blown. bc.within (ab.stays blown) ∙ ab.within blown }

pub fuse_stays : (f : Fuse) → SameFuse f f
fuse_stays f = record { blown = refl; drives = refl; nvram = refl }

pub fuse_then : {f g h : Fuse} → SameFuse f g → SameFuse g h → SameFuse f h
fuse_then {f} {g} {h} fg gh = record { blown = gh.blown ∙ fg.blown; drives = gh.drives ∙ fg.drives; nvram = gh.nvram ∙ fg.nvram }

-- while it is blown, nothing within changes
pub within_then : {X : Type 0} {x y z : X} {a b : Bool} → b ≡ a → (a ≡ true → y ≡ x) → (b ≡ true → z ≡ y) → a ≡ true → z ≡ x
within_then {X} {x} {y} {z} {a} {b} same xy yz blown = yz (same ∙ blown) ∙ xy blown
