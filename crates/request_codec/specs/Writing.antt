-- What a writer gave of a text.
use Rattle.std.specs.Prelude.{◌≡◌, ℕ, ◌<◌, ◌≤◌, List, [], ◌++◌, length, Result, Ok, Err}
use Rattle.line_input.specs.declared.buffer.TheConstants.{BUFFER_BYTES}

-- The text was given after the bytes before. At an error a part of it wasn't.
abbrev pub Gave : {E : Type 0} → Result Unit E → List ℕ → List ℕ → List ℕ → Type 0
Gave (Ok u) before after text = after ≡ before ++ text
Gave (Err e) before after text = (cut : List ℕ) × (missing : List ℕ) × (0 < length missing) × (text ≡ cut ++ missing) × (after ≡ before ++ cut)

-- The text goes behind what is pending: some of it was given in order and the rest is pending. At an error what was given ends inside it, and nothing is pending.
abbrev pub Goes : {E : Type 0} → Result Unit E → List ℕ → List ℕ → List ℕ → List ℕ → List ℕ → Type 0
Goes (Ok u) given pending text given_after pending_after = given_after ++ pending_after ≡ given ++ pending ++ text
Goes (Err e) given pending text given_after pending_after =
    (cut : List ℕ) × (missing : List ℕ) × (0 < length missing) × (pending ++ text ≡ cut ++ missing) × (given_after ≡ given ++ cut) × (pending_after ≡ [])

-- what was given stays, and more may stand behind it
abbrev pub Extends : List ℕ → List ℕ → Type 0
Extends given given_after = (more : List ℕ) × (given_after ≡ given ++ more)

-- the buffer, and how many of its bytes are pending
pub record HasRoom (buffer : List ℕ) (len : ℕ) : Type 0 where
  pub size : length buffer ≡ BUFFER_BYTES
  pub within : len ≤ BUFFER_BYTES
