-- The head of a logged command in a slot of the NVRAM: its one spelling, and what has one.
use Rattle.std.specs.Prelude.{◌≡◌, ℕ, ◌<◌, ◌≤◌, ◌^◌, true, List, [], ◌++◌, length, codes}
use Rattle.pur_base.specs.Prelude.{u8, u32, u64, padded, is_name}
use Rattle.pur_base.specs.declared.limits.TheConstants.{SECTOR_BYTES, NAME_BYTES, REQUEST_SECTORS}
use Rattle.pur_base.specs.declared.request.Request.{Request}
use Rattle.pur_base.specs.declared.request.Request.TheVariants as request
use Rattle.log_codec.specs.declared.head.Head.{Head}

-- ---- the spelling

-- the byte that stands for the kind of command
abbrev pub kind_code : Request → ℕ
kind_code (request.Create n sectors) = 1
kind_code (request.Write n lba count) = 2
kind_code (request.Fill n lba count byte) = 3
kind_code (request.Zero n lba count) = 4
kind_code (request.Snapshot n new) = 5
kind_code (request.Clone n new) = 6
kind_code (request.Copy n lba m to count) = 7
kind_code (request.Destroy n) = 8
kind_code _ = 0

-- the name that a command begins with
abbrev pub first_name : Request → List ℕ
first_name (request.Create n sectors) = n
first_name (request.Write n lba count) = n
first_name (request.Fill n lba count byte) = n
first_name (request.Zero n lba count) = n
first_name (request.Snapshot n new) = n
first_name (request.Clone n new) = n
first_name (request.Copy n lba m to count) = n
first_name (request.Destroy n) = n
first_name _ = []

-- the other name of a command that has two
abbrev pub second_name : Request → List ℕ
second_name (request.Snapshot n new) = new
second_name (request.Clone n new) = new
second_name (request.Copy n lba m to count) = m
second_name _ = []

-- the byte of a fill
abbrev pub fill_byte : Request → ℕ
fill_byte (request.Fill n lba count byte) = byte
fill_byte _ = 0

-- the sectors of a create, the count of the others
abbrev pub sector_count : Request → ℕ
sector_count (request.Create n sectors) = sectors
sector_count (request.Write n lba count) = count
sector_count (request.Fill n lba count byte) = count
sector_count (request.Zero n lba count) = count
sector_count (request.Copy n lba m to count) = count
sector_count _ = 0

-- where a command begins in its volume
abbrev pub first_lba : Request → ℕ
first_lba (request.Write n lba count) = lba
first_lba (request.Fill n lba count byte) = lba
first_lba (request.Zero n lba count) = lba
first_lba (request.Copy n lba m to count) = lba
first_lba _ = 0

-- where a copy begins in its target
abbrev pub second_lba : Request → ℕ
second_lba (request.Copy n lba m to count) = to
second_lba _ = 0

-- the fields one behind another
abbrev pub head_fields : Head → List ℕ
head_fields h =
    codes "PURNVLOG" ++ u64 h.number ++ u8 (kind_code h.command)
    ++ u8 (length (first_name h.command)) ++ u8 (length (second_name h.command)) ++ u8 (fill_byte h.command)
    ++ u32 (sector_count h.command) ++ u64 (first_lba h.command) ++ u64 (second_lba h.command)
    ++ padded NAME_BYTES (first_name h.command) ++ padded NAME_BYTES (second_name h.command)

-- the sector that spells a head: its fields, and zeros behind them
unfoldable pub head_bytes : Head → List ℕ
head_bytes h = padded SECTOR_BYTES (head_fields h)

-- ---- what has a spelling

-- how many sectors one command writes
abbrev pub IsCount : ℕ → Type 0
IsCount n = (1 ≤ n) × (n ≤ REQUEST_SECTORS)

-- a lawful name
abbrev pub IsName : List ℕ → Type 0
IsName text = is_name text ≡ true

-- a logged command whose fields are in their bounds
abbrev pub IsCommand : Request → Type 0
IsCommand (request.Create n sectors) = IsName n × (sectors < 2 ^ 32)
IsCommand (request.Write n lba count) = IsName n × (lba < 2 ^ 64) × IsCount count
IsCommand (request.Fill n lba count byte) = IsName n × (lba < 2 ^ 64) × IsCount count × (byte < 256)
IsCommand (request.Zero n lba count) = IsName n × (lba < 2 ^ 64) × IsCount count
IsCommand (request.Snapshot n new) = IsName n × IsName new
IsCommand (request.Clone n new) = IsName n × IsName new
IsCommand (request.Copy n lba m to count) = IsName n × (lba < 2 ^ 64) × IsName m × (to < 2 ^ 64) × (1 ≤ count) × (count < 2 ^ 32)
IsCommand (request.Destroy n) = IsName n
IsCommand _ = ⊥

-- what has a spelling
pub record IsHead (h : Head) : Type 0 where
  pub number : h.number < 2 ^ 64
  pub command : IsCommand h.command

-- the sector spells this head
pub record Decodes (sector : List ℕ) (h : Head) : Type 0 where
  pub head : IsHead h
  pub bytes : sector ≡ head_bytes h
