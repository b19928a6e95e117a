-- What memory reads as after a request.
use Rattle.command_spec.proofs.Prelude.{◌≡◌, ◌≢◌, ℕ, ◌+◌, ◌<◌, Bool, true, false, List, [], ◌∷◌, ◌++◌, length, replicate, refl, sym, ap, ◌∙◌, arith, subst, Contains, Some, None, ◌||◌, leb-false, AllZip, length-replicate, All-contains, All-replicate, Accepts, after, Array, has, is_full, is_no_size, done, replaced, appended, first_cause, after_unless, filled, SECTOR_BYTES, OBJECTS, Taken, Limit, Request, Target, Stored, NUMBER_LIMIT, HasCreated, IsNextVolume, Contents, TargetReads, IsSound, ReadsAs, facts, owns, volumes_own, put_sound, putting_reads, created_sound, creating_reads, command_of, IsFree, Kept, IsKept, IsPut, targets_from}
use Rattle.memory_spec.specs.Prelude.{Location, ObjectFact, nowhere}
use Rattle.pur_base.specs.declared.request.Request.TheVariants as request
use Rattle.command_spec.proofs.KeptLemmas.{visible_are, visible_said}
use Rattle.command_spec.proofs.RunLemmas.{targets_long, staged_read, zeros_read, staged_only}

accepted : (a : Array) (r : Request) (sectors : List (List ℕ)) → Accepts a (command_of r sectors) → after a (command_of r sectors) ≡ done a r sectors
accepted a r sectors e = ap (λ o. after_unless o a (done a r sectors)) e

-- a creation that is accepted has a new name, and is not one too many
not_refused : (b c d : Bool) → first_cause ((b, Taken) ∷ (c || d, Limit) ∷ []) ≡ None → (b ≡ false) × (d ≡ false)
not_refused true c d e = cc
not_refused false true d e = cc
not_refused false false true e = cc
not_refused false false false e = (refl, refl)

-- ---- sectors in a span

filled_long : (byte : ℕ) → length (filled byte) ≡ SECTOR_BYTES
unfolding filled
filled_long byte = length-replicate SECTOR_BYTES byte

all_whole : (count byte : ℕ) (sector : List ℕ) → Contains (replicate count (filled byte)) sector → length sector ≡ SECTOR_BYTES
all_whole count byte sector c =
    All-contains (λ (s : List ℕ). length s ≡ SECTOR_BYTES) (replicate count (filled byte)) sector
    (All-replicate (λ (s : List ℕ). length s ≡ SECTOR_BYTES) count (filled byte) (filled_long byte)) c

put_reads : (contents : Contents) (was now : Kept) (name : List ℕ) (lba count : ℕ) (targets : List Target) (more sectors : List (List ℕ)) (array : Array)
    → IsKept was → ReadsAs contents was.memory array → IsPut was now name lba count targets more → length sectors ≡ count → length targets ≡ count
    → AllZip (TargetReads contents (was.memory.staged ++ more)) targets sectors
    → ((at : Location) → Contains targets (Stored at) → at.segment.0 ≡ 0)
    → ((sector : List ℕ) → Contains more sector → length sector ≡ SECTOR_BYTES)
    → was.memory.next.sequence + count < NUMBER_LIMIT → ReadsAs contents now.memory (replaced array name lba sectors)
put_reads contents was now name lba count targets more sectors array kept reads h long targets_are zip staged whole left =
    putting_reads contents was.memory now.memory name h.span.volume.medium.0 lba targets sectors more array reads
    (rw long (volumes_own contents was.memory array name h.span.volume lba count reads (visible_said was kept h.span.volume h.span.there) h.span.named h.span.kind h.span.within))
    zip staged whole (omega (arith, left, targets_are)) h.put

-- ---- soundness alone

-- contents of segments of which nothing is asked
no_contents : Contents
no_contents id index = []

put_keeps : (was now : Kept) (name : List ℕ) (lba count : ℕ) (targets : List Target) (more sectors : List (List ℕ))
    → IsKept was → IsSound was.memory → IsPut was now name lba count targets more → length sectors ≡ count → length targets ≡ count
    → AllZip (TargetReads no_contents (was.memory.staged ++ more)) targets sectors
    → ((at : Location) → Contains targets (Stored at) → at.segment.0 ≡ 0)
    → ((sector : List ℕ) → Contains more sector → length sector ≡ SECTOR_BYTES)
    → was.memory.next.sequence + count < NUMBER_LIMIT → IsSound now.memory
put_keeps was now name lba count targets more sectors kept sound h long targets_are zip staged whole left =
    put_sound no_contents was.memory now.memory name h.span.volume.medium.0 lba targets sectors more sound
    (rw long (owns (facts was.memory.tables) was.memory.next.object name h.span.volume lba count sound.objects sound.mediums (visible_said was kept h.span.volume h.span.there) h.span.named h.span.kind h.span.within))
    zip staged whole (omega (arith, left, targets_are)) h.put

module _ (was now : Kept) (kept : IsKept was) (sound : IsSound was.memory) where
  pub write_keeps : (name : List ℕ) (lba : ℕ) (sectors : List (List ℕ))
      → IsPut was now name lba (length sectors) (targets_from (Some (length was.memory.staged)) 0 (length sectors)) sectors
      → ((sector : List ℕ) → Contains sectors sector → length sector ≡ SECTOR_BYTES) → was.memory.next.sequence + length sectors < NUMBER_LIMIT
      → IsSound now.memory
  write_keeps name lba sectors put whole left =
      put_keeps was now name lba (length sectors) (targets_from (Some (length was.memory.staged)) 0 (length sectors)) sectors sectors kept sound put refl
      (targets_long (Some (length was.memory.staged)) 0 (length sectors)) (staged_read no_contents was.memory.staged sectors (length was.memory.staged) 0 (omega arith))
      (staged_only (Some (length was.memory.staged)) 0 (length sectors)) whole left

  pub fill_keeps : (name : List ℕ) (lba count byte : ℕ)
      → IsPut was now name lba count (targets_from (Some (length was.memory.staged)) 0 count) (replicate count (filled byte))
      → was.memory.next.sequence + count < NUMBER_LIMIT → IsSound now.memory
  fill_keeps name lba count byte put left =
      let full : List (List ℕ) = replicate count (filled byte) in
      let long : length full ≡ count = length-replicate count (filled byte) in
      let zip = staged_read no_contents was.memory.staged full (length was.memory.staged) 0 (omega arith) in
      put_keeps was now name lba count (targets_from (Some (length was.memory.staged)) 0 count) full full kept sound put long
      (targets_long (Some (length was.memory.staged)) 0 count) (subst (λ n. AllZip (TargetReads no_contents (was.memory.staged ++ full)) (targets_from (Some (length was.memory.staged)) 0 n) full) long zip)
      (staged_only (Some (length was.memory.staged)) 0 count) (all_whole count byte) left

  pub zero_keeps : (name : List ℕ) (lba count : ℕ)
      → IsPut was now name lba count (targets_from None 0 count) []
      → was.memory.next.sequence + count < NUMBER_LIMIT → IsSound now.memory
  zero_keeps name lba count put left =
      put_keeps was now name lba count (targets_from None 0 count) [] (replicate count (filled 0)) kept sound put (length-replicate count (filled 0))
      (targets_long None 0 count) (zeros_read no_contents (was.memory.staged ++ []) 0 count) (staged_only None 0 count) (λ s c. absurd (nowhere s c)) left

  pub create_keeps : (name : List ℕ) (size : ℕ) (x : ObjectFact) → IsNextVolume was.memory x → x.name ≡ name → HasCreated was.memory now.memory x → IsFree was.objects name size → IsSound now.memory
  create_keeps name size x next named created free =
      created_sound was.memory now.memory x sound next
      (λ y c same. All-contains (λ (z : ObjectFact). z.name ≢ name) was.objects y free.fresh (subst (λ l. Contains l y) (sym (visible_are was kept)) c) (same ∙ named))
      (subst (λ (l : List ObjectFact). length l < OBJECTS) (visible_are was kept) free.few) created

-- ---- what is read

module _ (contents : Contents) (was now : Kept) (array : Array) (kept : IsKept was) (reads : ReadsAs contents was.memory array) where
  pub write_reads : (name : List ℕ) (lba count : ℕ) (sectors : List (List ℕ)) → length sectors ≡ count
      → IsPut was now name lba (length sectors) (targets_from (Some (length was.memory.staged)) 0 (length sectors)) sectors
      → ((sector : List ℕ) → Contains sectors sector → length sector ≡ SECTOR_BYTES) → was.memory.next.sequence + length sectors < NUMBER_LIMIT
      → Accepts array (command_of (request.Write name lba count) sectors) → ReadsAs contents now.memory (after array (command_of (request.Write name lba count) sectors))
  write_reads name lba count sectors long put whole left e =
      subst (ReadsAs contents now.memory) (sym (accepted array (request.Write name lba count) sectors e))
      (put_reads contents was now name lba (length sectors) (targets_from (Some (length was.memory.staged)) 0 (length sectors)) sectors sectors array kept reads put refl
      (targets_long (Some (length was.memory.staged)) 0 (length sectors)) (staged_read contents was.memory.staged sectors (length was.memory.staged) 0 (omega arith))
      (staged_only (Some (length was.memory.staged)) 0 (length sectors)) whole left)

  pub fill_reads : (name : List ℕ) (lba count byte : ℕ) (sectors : List (List ℕ))
      → IsPut was now name lba count (targets_from (Some (length was.memory.staged)) 0 count) (replicate count (filled byte))
      → was.memory.next.sequence + count < NUMBER_LIMIT
      → Accepts array (command_of (request.Fill name lba count byte) sectors) → ReadsAs contents now.memory (after array (command_of (request.Fill name lba count byte) sectors))
  fill_reads name lba count byte sectors put left e =
      let full : List (List ℕ) = replicate count (filled byte) in
      let long : length full ≡ count = length-replicate count (filled byte) in
      let zip = staged_read contents was.memory.staged full (length was.memory.staged) 0 (omega arith) in
      subst (ReadsAs contents now.memory) (sym (accepted array (request.Fill name lba count byte) sectors e))
      (put_reads contents was now name lba count (targets_from (Some (length was.memory.staged)) 0 count) full full array kept reads put long
      (targets_long (Some (length was.memory.staged)) 0 count) (subst (λ n. AllZip (TargetReads contents (was.memory.staged ++ full)) (targets_from (Some (length was.memory.staged)) 0 n) full) long zip)
      (staged_only (Some (length was.memory.staged)) 0 count) (all_whole count byte) left)

  pub zero_reads : (name : List ℕ) (lba count : ℕ) (sectors : List (List ℕ))
      → IsPut was now name lba count (targets_from None 0 count) []
      → was.memory.next.sequence + count < NUMBER_LIMIT
      → Accepts array (command_of (request.Zero name lba count) sectors) → ReadsAs contents now.memory (after array (command_of (request.Zero name lba count) sectors))
  zero_reads name lba count sectors put left e =
      subst (ReadsAs contents now.memory) (sym (accepted array (request.Zero name lba count) sectors e))
      (put_reads contents was now name lba count (targets_from None 0 count) [] (replicate count (filled 0)) array kept reads put (length-replicate count (filled 0))
      (targets_long None 0 count) (zeros_read contents (was.memory.staged ++ []) 0 count) (staged_only None 0 count) (λ s c. absurd (nowhere s c)) left)

  -- ---- a new volume

  pub create_reads : (name : List ℕ) (size : ℕ) (sectors : List (List ℕ)) (x : ObjectFact) → IsNextVolume was.memory x → x.name ≡ name → x.sectors ≡ size → HasCreated was.memory now.memory x
      → Accepts array (command_of (request.Create name size) sectors) → ReadsAs contents now.memory (after array (command_of (request.Create name size) sectors))
  create_reads name size sectors x next named sized created e =
      let free = not_refused (has array name) (is_no_size size) (is_full array) e in
      let new : has array x.name ≡ false = ap (has array) named ∙ free.0 in
      let few : length array < OBJECTS = leb-false OBJECTS (length array) free.1 in
      let done_is : appended array x.name false (replicate x.sectors (filled 0)) ≡ appended array name false (replicate size (filled 0)) =
      ap (λ n. appended array n false (replicate x.sectors (filled 0))) named ∙ ap (λ s. appended array name false (replicate s (filled 0))) sized in
      subst (ReadsAs contents now.memory) (done_is ∙ sym (accepted array (request.Create name size) sectors e))
      (creating_reads contents was.memory now.memory x array reads next new few created)
