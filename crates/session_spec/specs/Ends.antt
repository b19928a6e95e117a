-- How a session ends, and what it has given then.
use Rattle.std.specs.Prelude.{◌≡◌, ◌<◌, ◌+◌, ℕ, Bool, true, false, List, [], ◌∷◌, ◌++◌, length}
use Rattle.std.specs.List.{list_any}
use Rattle.memory_spec.specs.Prelude.{INPUT_BYTES, Status, Geometry, Item, Asked, Syntax, Cut, requests, is_whole, Answer, text, texts}
use Rattle.pur_base.specs.declared.reply.Status.TheVariants as status
use Rattle.world.specs.Prelude.{Rises, has_failed, has_lost_writes, Stop}
use Rattle.session_spec.specs.Faring.{Point, Answers}

-- ---- the input

-- whether the item is the write that was cut
abbrev pub is_cut : Item → Bool
is_cut (Asked r sectors) = false
is_cut Syntax = false
is_cut Cut = true

-- whether the input ends inside a write's data
abbrev pub ends_in_write : List ℕ → Bool
ends_in_write input = list_any is_cut (requests input)

-- the whole input is answered, one reply an item
pub record IsAnswered (input : List ℕ) (qs : List Answer) (left : List ℕ) : Type 0 where
  pub count : length qs ≡ length (requests input)
  pub none : left ≡ []
  pub within : length input < INPUT_BYTES + 1

-- The input is answered up to what was taken behind the last whole item, which holds no whole one, and to what is behind that.
pub record IsAnsweredUpTo (input : List ℕ) (qs : List Answer) (behind : List ℕ) : Type 0 where
  pub taken : List ℕ
  pub rest : List ℕ
  pub whole : input ≡ taken ++ (rest ++ behind)
  pub front : List Item
  pub items : requests input ≡ front ++ requests (rest ++ behind)
  pub count : length qs ≡ length front
  pub part : is_whole rest ≡ false

-- The session ended at the limit: 2^40 bytes were taken and one more came. Each item that stands whole in the first 2^40 is answered.
pub record IsOverrun (input : List ℕ) (qs : List Answer) (left : List ℕ) : Type 0 where
  pub byte : ℕ
  pub taken : length input ≡ INPUT_BYTES + 1 + length left
  pub answered : IsAnsweredUpTo input qs (byte ∷ left)

-- How a session ends that was opened: halted or not, so many replies are whole, and so much of the input is left.
abbrev pub Ends : Status → Bool → List ℕ → List Answer → List ℕ → Type 0
Ends status.Done halted input qs left = (halted ≡ false) × (ends_in_write input ≡ false) × IsAnswered input qs left
Ends status.Halted halted input qs left = (halted ≡ true) × (ends_in_write input ≡ false) × IsAnswered input qs left
Ends status.Cut halted input qs left = (ends_in_write input ≡ true) × IsAnswered input qs left
Ends status.Source halted input qs left = IsAnsweredUpTo input qs left
Ends status.InputLimit halted input qs left = IsOverrun input qs left
-- one reply at least wasn't given whole
Ends status.Sink halted input qs left = length qs < length (requests input)
Ends _ halted input qs left = ⊥

-- ---- the output

-- a part of the reply to the next item, of which some is missing
pub record IsPartOfNext (told : Bool) (shelf : Geometry) (last : Point) (stop : Stop) (rest : List Item) (part : List ℕ) : Type 0 where
  pub item : Item
  pub items : List Item
  pub next : rest ≡ item ∷ items
  pub reply : Answer
  pub to : Point
  pub answers : Answers told shelf (has_failed last.stop stop) (has_lost_writes last.stop stop) last item reply to
  pub missing : List ℕ
  pub spelled : text reply ≡ part ++ missing
  pub some : 0 < length missing

-- The output is the text of the replies. Where the sink failed, a part of the next one follows.
abbrev pub IsOutput : Status → Bool → Geometry → Point → Stop → List Item → List ℕ → List ℕ → List Answer → Type 0
IsOutput status.Sink told shelf last stop rest before after qs = (part : List ℕ) × IsPartOfNext told shelf last stop rest part × (after ≡ before ++ texts qs ++ part)
IsOutput _ told shelf last stop rest before after qs = after ≡ before ++ texts qs

-- ---- the counts of the input and the output

-- a count of faults rose exactly where the session ended for it
abbrev pub RisesIf : Bool → ℕ → ℕ → Type 0
RisesIf true before now = Rises before now
RisesIf false before now = now ≡ before

-- whether that is the end of a failed source
abbrev pub is_source : Status → Bool
is_source status.Source = true
is_source _ = false

-- whether that is the end of a failed sink
abbrev pub is_sink : Status → Bool
is_sink status.Sink = true
is_sink _ = false
