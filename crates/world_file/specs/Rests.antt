-- What a call of a world over files leaves as it was: it tells no contents, so that is the counts.
use Rattle.std.proofs.Common.{◌≡◌, ℕ, refl, ◌∙◌}
use Rattle.world.specs.Prelude.{TakenOnly, OutputOnly, SameStream, IsPreorder, untold, untold_stream, nothing_taken, taken_then, no_output, output_then}
use Rattle.world_file.specs.declared.files.Files.{Files}

-- nothing but the shelf has changed
pub record StreamsStay (a b : Files) : Type 0 where
  pub source : b.source_faults ≡ a.source_faults
  pub sink : b.sink_faults ≡ a.sink_faults

-- nothing but the source has changed
pub record AllButInputStays (a b : Files) : Type 0 where
  pub shelf : TakenOnly (untold a.drives a.units a.tallies) (untold b.drives b.units b.tallies)
  pub sink : b.sink_faults ≡ a.sink_faults

-- nothing but the sink has changed
pub record AllButOutputStays (a b : Files) : Type 0 where
  pub shelf : OutputOnly (untold a.drives a.units a.tallies) (untold b.drives b.units b.tallies)
  pub source : b.source_faults ≡ a.source_faults

-- it is reflexive and transitive
pub streams_stay : IsPreorder StreamsStay
streams_stay = record {
  reflexive = λ f. record { source = refl; sink = refl };
  transitive = λ a b c ab bc. record { source = bc.source ∙ ab.source; sink = bc.sink ∙ ab.sink };
}

-- and so is this
pub all_but_input_stays : IsPreorder AllButInputStays
all_but_input_stays = record {
  reflexive = λ f. record { shelf = nothing_taken (untold f.drives f.units f.tallies); sink = refl };
  transitive = λ a b c ab bc. record { shelf = taken_then ab.shelf bc.shelf; sink = bc.sink ∙ ab.sink };
}

-- and so is this
pub all_but_output_stays : IsPreorder AllButOutputStays
all_but_output_stays = record {
  reflexive = λ f. record { shelf = no_output (untold f.drives f.units f.tallies); source = refl };
  transitive = λ a b c ab bc. record { shelf = output_then ab.shelf bc.shelf; source = bc.source ∙ ab.source };
}

-- a stream with the same count means the same
pub same_count : {a b : ℕ} → b ≡ a → SameStream (untold_stream a) (untold_stream b)
same_count {a} {b} same = record { honest = λ h. h; honest_before = λ h. h; bytes = refl; faults = same }
