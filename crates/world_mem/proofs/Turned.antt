-- Input and output in the past of a world in memory.
use Rattle.world_mem.proofs.Prelude.{Bool, ◌≡◌, ◌≤◌, inl, inr, ⊎_elim, ℕ, List, [], ◌∷◌, ◌++◌, length, take, refl, sym, ◌∙◌, ap, subst, arith, length-append, take_at, append-nil, Stop, MayStopGiving, OutputOnly, MayStopTaking, TakenOnly, front_refl, Call, Give, Take, View, StopAt, shelved_of, undo}
use Rattle.world_mem.proofs.Steps.{Since, less, more}

-- one piece of output more
module _ (old : View) (from output : List ℕ) (calls : List Call) (gave : output ≡ old.now.output ++ from) (recorded : calls ≡ old.calls ++ Give (length old.now.output) ∷ []) where
  abbrev with_output : View
  with_output = record { now = record { drives = old.now.drives; nvram = old.now.nvram; output = output; taken = old.now.taken }; units = old.units; calls = calls; starved = old.starved }

  output_back : undo (Give (length old.now.output)) with_output.now ≡ old.now
  output_back = λ i. record { drives = old.now.drives; nvram = old.now.nvram; output = (ap (λ (l : List ℕ). take (length old.now.output) l) gave ∙ take_at old.now.output from (length old.now.output) refl) i; taken = old.now.taken }

  giving : (stop : Stop) → StopAt with_output.now stop → MayStopGiving (shelved_of old) (shelved_of with_output) stop
  giving stop at = record {
    device = at.device;
    counts = record { faults = at.faults; write_faults = at.write_faults };
    from = (from, at.output ∙ gave);
    to = ([], sym at.output ∙ sym (append-nil stop.output));
    taken = at.taken;
  }

  pub gives : OutputOnly (shelved_of old) (shelved_of with_output)
  gives = record {
    continues = record {
      drives = refl;
      units = refl;
      honest = λ h. h;
      honest_before = λ h. h;
      lapsed = λ l. l;
      output = (from, gave);
      taken = omega arith;
      later = omega (arith, ap (length {A = Call}) recorded, length-append old.calls (Give (length old.now.output) ∷ []));
      faults = λ d. omega arith;
      write_faults = λ d. omega arith;
      keeps = λ whole t stop le left. subst (λ (cs : List Call). Since cs with_output.now t stop) (sym recorded) (more old.calls (Give (length old.now.output)) old.now with_output.now t le output_back stop (inr left));
    };
    disk = λ d. refl;
    taken = refl;
    nothing_else = λ t stop le left. ⊎_elim (λ now. inr (giving stop now)) (λ was. inl was)
        (less old.calls (Give (length old.now.output)) old.now with_output.now t le output_back stop (subst (λ (cs : List Call). Since cs with_output.now t stop) recorded left));
  }

-- one piece of input more
module _ (old : View) (taken : ℕ) (calls : List Call) (starved : Bool) (further : old.now.taken ≤ taken) (recorded : calls ≡ old.calls ++ Take old.now.taken ∷ []) (same : starved ≡ old.starved) where
  abbrev with_taken : View
  with_taken = record { now = record { drives = old.now.drives; nvram = old.now.nvram; output = old.now.output; taken = taken }; units = old.units; calls = calls; starved = starved }

  taking : (stop : Stop) → StopAt with_taken.now stop → MayStopTaking (shelved_of old) (shelved_of with_taken) stop
  taking stop at = record {
    device = at.device;
    counts = record { faults = at.faults; write_faults = at.write_faults };
    output = at.output;
    from = let e = at.taken in omega (arith, further);
    to = let e = at.taken in omega arith;
  }

  pub takes : TakenOnly (shelved_of old) (shelved_of with_taken)
  takes = record {
    continues = record {
      drives = refl;
      units = refl;
      honest = λ h. h;
      honest_before = λ h. h;
      lapsed = λ l. same ∙ l;
      output = front_refl old.now.output;
      taken = further;
      later = omega (arith, ap (length {A = Call}) recorded, length-append old.calls (Take old.now.taken ∷ []));
      faults = λ d. omega arith;
      write_faults = λ d. omega arith;
      keeps = λ whole t stop le left. subst (λ (cs : List Call). Since cs with_taken.now t stop) (sym recorded) (more old.calls (Take old.now.taken) old.now with_taken.now t le refl stop (inr left));
    };
    disk = λ d. refl;
    output = refl;
    nothing_else = λ t stop le left. ⊎_elim (λ now. inr (taking stop now)) (λ was. inl was)
        (less old.calls (Take old.now.taken) old.now with_taken.now t le refl stop (subst (λ (cs : List Call). Since cs with_taken.now t stop) recorded left));
  }
