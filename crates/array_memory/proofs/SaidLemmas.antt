-- What was looked up of addresses tells what they name.
use Rattle.array_memory.proofs.Prelude.{◌≡◌, ◌∙◌, ℕ, ◌+◌, ◌-◌, Bool, List, None, Option, get_or, ap, arith, option_map, AddressFact, is_said_in, names_at, visible}
use Rattle.array_memory.specs.Saying.{AreSaid, HasSector}
use Rattle.array_memory.specs.declared.said.SaidRun.{SaidRun}

module _ (run : SaidRun) (addresses : List AddressFact) (hidden : ℕ → Bool) (medium sector : ℕ) where
  said_here : AreSaid addresses hidden run → HasSector run medium sector → get_or run.said (sector - run.first) None ≡ visible addresses hidden medium sector
  said_here are has =
      let at : run.first + (sector - run.first) ≡ sector = omega (arith, has.behind) in
      are (sector - run.first) (omega (arith, has.behind, has.within)) ∙ ap (λ (m : ℕ). visible addresses hidden m (run.first + (sector - run.first))) has.medium_is ∙ ap (visible addresses hidden medium) at

  -- by what is said of a sector
  pub named_by_said : (segment : ℕ) (o : Option AddressFact) → AreSaid addresses hidden run → HasSector run medium sector → o ≡ get_or run.said (sector - run.first) None
      → is_said_in segment (option_map (λ f. f.target) o) ≡ names_at addresses hidden segment medium sector
  unfolding names_at
  named_by_said segment o are has is = ap (λ (a : Option AddressFact). is_said_in segment (option_map (λ f. f.target) a)) (is ∙ said_here are has)
