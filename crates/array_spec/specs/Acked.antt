-- What was acknowledged: the whole replies of an output. Replies delimit themselves.
use Rattle.std.specs.Prelude.{◌≡◌, ℕ, zero, suc, ◌*◌, ◌<◌, ◌^◌, true, List, ◌++◌, length, drop, codes, nat_eq, nat_lt, if◌then◌else◌, Option, Some, None}
use Rattle.std.specs.List.{AllByRecursion, list_any, starts_with, before_first, after_first}
use Rattle.boot_codec.specs.Prelude.{is_name, SECTOR_BYTES, Reply, Entry, digits_number, is_line_end, Answer, Line, Sectors, Entries, text, texts}
use Rattle.pur_base.specs.declared.reply.Reply.TheVariants as reply

-- what follows so many bytes, if they are there
abbrev pub skip : ℕ → List ℕ → Option (List ℕ)
skip n bytes = if nat_lt (length bytes) n then None else Some (drop n bytes)

-- what follows so many lines, if they are there
abbrev pub skip_lines : ℕ → List ℕ → Option (List ℕ)
skip_lines zero bytes = Some bytes
skip_lines (suc n) bytes = if list_any is_line_end bytes then skip_lines n (after_first is_line_end bytes) else None

-- what follows the reply that begins with this line, if it is whole
abbrev pub skip_reply : List ℕ → List ℕ → Option (List ℕ)
skip_reply line behind =
    if starts_with nat_eq line (codes "data ") then skip (SECTOR_BYTES * digits_number (drop 5 line)) behind else
    if starts_with nat_eq line (codes "names ") then skip_lines (digits_number (drop 6 line)) behind else Some behind

-- what follows the first reply, if it is whole
abbrev pub after_reply : List ℕ → Option (List ℕ)
after_reply out = if list_any is_line_end out then skip_reply (before_first is_line_end out) (after_first is_line_end out) else None

-- one for each of at most so many whole replies
abbrev pub acked_within : ℕ → Option (List ℕ) → ℕ
acked_within zero out = 0
acked_within (suc n) None = 0
acked_within (suc n) (Some rest) = suc (acked_within n (after_reply rest))

-- The number of whole replies in the output.
abbrev pub acked : List ℕ → ℕ
acked out = acked_within (length out) (after_reply out)

-- a reply of one line
abbrev pub IsLine : Reply → Type 0
IsLine (reply.Data count) = ⊥
IsLine (reply.Names count) = ⊥
IsLine (reply.Controller number) = number < 2 ^ 64
IsLine (reply.Numbers numbers) = AllByRecursion (λ n. n < 2 ^ 64) numbers
IsLine _ = Unit {0}

-- an entry whose line is whole: a lawful name, and a number that is printed
pub record IsEntry (e : Entry) : Type 0 where
  pub name : is_name e.name ≡ true
  pub sectors : length e.sectors < 2 ^ 64

-- what a whole reply is made of
abbrev pub IsAnswer : Answer → Type 0
IsAnswer (Line r) = IsLine r
IsAnswer (Sectors ss) = (length ss < 2 ^ 64) × AllByRecursion (λ s. length s ≡ SECTOR_BYTES) ss
IsAnswer (Entries es) = (length es < 2 ^ 64) × AllByRecursion IsEntry es

-- Behind whole replies stands a part of one that isn't whole: the replies are those that are counted.
abbrev pub CountsReplies : Type 0
CountsReplies = (qs : List Answer) (cut : List ℕ) → AllByRecursion IsAnswer qs → after_reply cut ≡ None → acked (texts qs ++ cut) ≡ length qs

-- A part of a reply isn't whole.
abbrev pub CutIsNone : Type 0
CutIsNone = (q : Answer) (cut missing : List ℕ) → IsAnswer q → text q ≡ cut ++ missing → 0 < length missing → after_reply cut ≡ None
