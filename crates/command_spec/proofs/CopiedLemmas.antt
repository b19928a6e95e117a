-- What a snapshot, a clone, a copy and a destruction make of memory.
use Rattle.command_spec.proofs.Prelude.{nat_tests, ◌≡◌, ◌≢◌, ℕ, ◌+◌, ◌<◌, Bool, true, false, not, ◌&&◌, List, [], ◌++◌, length, refl, sym, ap, ◌∙◌, arith, subst, Contains, if◌then◌else◌, bytes_eq, All-contains, Accepts, after, Array, done, appended, replaced, span, after_unless, Request, ElisionFact, NextNumbers, AreNext, OBJECTS, Contents, IsSound, ReadsAs, entries_read, next_after, ranges_beside, HasSameSegmentIds, without, is_snapshot as is_snapshot_kind, Derived, clone_of, copy_of, moves_both, snapshot_of, MayBeCopied, MayBeNamed, HasRemoved, command_of, AreLeft, HasCopy, HasObject, IsDerivable, AddsOnly, Kept, IsKept}
use Rattle.memory_spec.specs.Prelude.{is_snapshot, sectors_of, ObjectFact}
use Rattle.pur_base.specs.declared.request.Request.TheVariants as request
use Rattle.command_spec.proofs.Sound.{deriving_sound}
use Rattle.command_spec.proofs.MayBeNamed.{snapshot_may_be, clone_may_be}
use Rattle.command_spec.proofs.MayBeCopied.{copy_may_be}
use Rattle.command_spec.proofs.Together.{snapshot_reads, clone_reads, copy_reads}
use Rattle.command_spec.proofs.Removed.{removal_reads, removed_sound}
use Rattle.command_spec.proofs.KeptLemmas.{visible_are, visible_said}

-- ---- of both ways

-- the next numbers of the one that it is
next_either : (b c : Bool) (d e : Derived) → c ≡ b → (if b then d else e).next ≡ (if c then d.next else e.next)
next_either true true d e same = refl
next_either true false d e same = cc
next_either false true d e same = cc
next_either false false d e same = refl

-- so few numbers are left for one command
snapshot_left : (n : NextNumbers) (x : ObjectFact) (name : List ℕ) → AreNext n → AreLeft n → AreNext (snapshot_of n x name).next
snapshot_left n x name h left = grind (arith, nat_tests)

clone_left : (n : NextNumbers) (x : ObjectFact) (name : List ℕ) → AreNext n → AreLeft n → AreNext (clone_of n x name).next
clone_left n x name h left = grind (arith, nat_tests)

copy_left : (n : NextNumbers) (x : ObjectFact) (lba : ℕ) (y : ObjectFact) (to count : ℕ) → AreNext n → AreLeft n → AreNext (copy_of n x lba y to count).next
copy_left n x lba y to count h left = grind (arith, nat_tests)

-- ids of segments aren't given
pub snapshot_ids : (n : NextNumbers) (x : ObjectFact) (name : List ℕ) → HasSameSegmentIds n (snapshot_of n x name).next
snapshot_ids n x name = grind (arith, nat_tests)

pub clone_ids : (n : NextNumbers) (x : ObjectFact) (name : List ℕ) → HasSameSegmentIds n (clone_of n x name).next
clone_ids n x name = grind (arith, nat_tests)

pub copy_ids : (n : NextNumbers) (x : ObjectFact) (lba : ℕ) (y : ObjectFact) (to count : ℕ) → HasSameSegmentIds n (copy_of n x lba y to count).next
copy_ids n x lba y to count = grind (arith, nat_tests)

-- what an accepted command does is what memory reads as
reads_done : (contents : Contents) (now : Kept) (a : Array) (r : Request) (sectors : List (List ℕ)) → Accepts a (command_of r sectors) → ReadsAs contents now.memory (done a r sectors)
    → ReadsAs contents now.memory (after a (command_of r sectors))
reads_done contents now a r sectors e reads = subst (ReadsAs contents now.memory) (sym (ap (λ o. after_unless o a (done a r sectors)) e)) reads

module _ (was now : Kept) (kept : IsKept was) (left : AreLeft was.memory.next) where
  abbrev Next : NextNumbers
  Next = was.memory.next

  -- ---- an object under a new name

  may_be_named : (d : Derived) (name new : List ℕ) (may : IsDerivable was.objects name new) → AreNext d.next → MayBeNamed was.memory may.source new d
  may_be_named d name new may next = grind (arith, nat_tests, visible_said, visible_are)

  kind_of : (contents : Contents) (array : Array) → ReadsAs contents was.memory array → (x : ObjectFact) (name : List ℕ) → Contains was.objects x → x.name ≡ name → is_snapshot array name ≡ is_snapshot_kind x.kind
  kind_of contents array reads x name c named =
      ap (is_snapshot array) (sym named) ∙ ((entries_read contents was.memory array reads).each x (visible_said was kept x c)).kind

  module _ (name new : List ℕ) (may : IsDerivable was.objects name new) where
    pub snapshot_keeps : AddsOnly was now (snapshot_of was.memory.next may.source new) → IsSound was.memory → IsSound now.memory
    snapshot_keeps adds sound =
        deriving_sound was.memory now.memory (snapshot_of Next may.source new) sound
        (snapshot_may_be was.memory may.source new sound (may_be_named (snapshot_of Next may.source new) name new may (snapshot_left Next may.source new kept.next left))) adds.derived

    pub snapshot_done : (contents : Contents) (array : Array) (sectors : List (List ℕ)) → AddsOnly was now (snapshot_of was.memory.next may.source new) → ReadsAs contents was.memory array
        → Accepts array (command_of (request.Snapshot name new) sectors) → ReadsAs contents now.memory (after array (command_of (request.Snapshot name new) sectors))
    snapshot_done contents array sectors adds reads e =
        reads_done contents now array (request.Snapshot name new) sectors e
        (subst (λ n. ReadsAs contents now.memory (appended array new true (sectors_of array n))) may.named
        (snapshot_reads contents was.memory now.memory may.source new array reads
        (may_be_named (snapshot_of Next may.source new) name new may (snapshot_left Next may.source new kept.next left)) adds.derived))

    pub snapshot_next : (contents : Contents) (array : Array) → AddsOnly was now (snapshot_of was.memory.next may.source new) → ReadsAs contents was.memory array
        → now.memory.next ≡ next_after array was.memory.next (request.Snapshot name new)
    snapshot_next contents array adds reads =
        adds.derived.next ∙ next_either (is_snapshot_kind may.source.kind) (is_snapshot array name) _ _ (kind_of contents array reads may.source name may.there may.named)

    pub clone_keeps : AddsOnly was now (clone_of was.memory.next may.source new) → IsSound was.memory → IsSound now.memory
    clone_keeps adds sound =
        deriving_sound was.memory now.memory (clone_of Next may.source new) sound
        (clone_may_be was.memory may.source new sound (may_be_named (clone_of Next may.source new) name new may (clone_left Next may.source new kept.next left))) adds.derived

    pub clone_done : (contents : Contents) (array : Array) (sectors : List (List ℕ)) → AddsOnly was now (clone_of was.memory.next may.source new) → ReadsAs contents was.memory array
        → Accepts array (command_of (request.Clone name new) sectors) → ReadsAs contents now.memory (after array (command_of (request.Clone name new) sectors))
    clone_done contents array sectors adds reads e =
        reads_done contents now array (request.Clone name new) sectors e
        (subst (λ n. ReadsAs contents now.memory (appended array new false (sectors_of array n))) may.named
        (clone_reads contents was.memory now.memory may.source new array reads
        (may_be_named (clone_of Next may.source new) name new may (clone_left Next may.source new kept.next left)) adds.derived))

    pub clone_next : (contents : Contents) (array : Array) → AddsOnly was now (clone_of was.memory.next may.source new) → ReadsAs contents was.memory array
        → now.memory.next ≡ next_after array was.memory.next (request.Clone name new)
    clone_next contents array adds reads =
        adds.derived.next ∙ next_either (is_snapshot_kind may.source.kind) (is_snapshot array name) _ _ (kind_of contents array reads may.source name may.there may.named)

  -- ---- a copy

  module _ (name : List ℕ) (lba : ℕ) (other : List ℕ) (to count : ℕ) (may : HasCopy was.objects name lba other to count) where
    may_be_copied : MayBeCopied was.memory may.source lba may.target to count
    may_be_copied = record {
      source = visible_said was kept may.source may.source_there;
      target = visible_said was kept may.target may.target_there;
      kind = may.kind;
      some = may.some;
      from = may.within;
      to_within = may.to_within;
      left = copy_left Next may.source lba may.target to count kept.next left;
    }

    pub copy_keeps : AddsOnly was now (copy_of was.memory.next may.source lba may.target to count) → IsSound was.memory → IsSound now.memory
    copy_keeps adds sound =
        deriving_sound was.memory now.memory (copy_of Next may.source lba may.target to count) sound (copy_may_be was.memory may.source lba may.target to count sound may_be_copied) adds.derived

    pub copy_done : (contents : Contents) (array : Array) (sectors : List (List ℕ)) → AddsOnly was now (copy_of was.memory.next may.source lba may.target to count) → ReadsAs contents was.memory array
        → Accepts array (command_of (request.Copy name lba other to count) sectors) → ReadsAs contents now.memory (after array (command_of (request.Copy name lba other to count) sectors))
    copy_done contents array sectors adds reads e =
        reads_done contents now array (request.Copy name lba other to count) sectors e
        (subst (λ m. ReadsAs contents now.memory (replaced array m to (span lba count (sectors_of array name)))) may.target_named
        (subst (λ n. ReadsAs contents now.memory (replaced array may.target.name to (span lba count (sectors_of array n)))) may.source_named
        (copy_reads contents was.memory now.memory may.source lba may.target to count array reads may_be_copied adds.derived)))

    -- the numbers behind a copy into a volume of a size
    abbrev Behind : Bool → ℕ → NextNumbers
    Behind b size =
        let numbers = 1 + ranges_beside size to count in
        if b then record Next { medium = Next.medium + 2; sequence = Next.sequence + (2 + numbers) } else record Next { medium = Next.medium + 1; sequence = Next.sequence + numbers }

    pub copy_next : (contents : Contents) (array : Array) → AddsOnly was now (copy_of was.memory.next may.source lba may.target to count) → ReadsAs contents was.memory array
        → now.memory.next ≡ next_after array was.memory.next (request.Copy name lba other to count)
    copy_next contents array adds reads =
        let kind = kind_of contents array reads may.source name may.source_there may.source_named in
        let size : length (sectors_of array other) ≡ may.target.sectors =
        ap (λ m. length (sectors_of array m)) (sym may.target_named) ∙ ((entries_read contents was.memory array reads).each may.target (visible_said was kept may.target may.target_there)).size in
        let both : (not (is_snapshot array name) && not (bytes_eq name other)) ≡ moves_both may.source may.target =
        ap (λ b. not b && not (bytes_eq name other)) kind
        ∙ ap (λ n. not (is_snapshot_kind may.source.kind) && not (bytes_eq n other)) (sym may.source_named)
        ∙ ap (λ m. not (is_snapshot_kind may.source.kind) && not (bytes_eq may.source.name m)) (sym may.target_named) in
        adds.derived.next
        ∙ next_either (moves_both may.source may.target) (not (is_snapshot array name) && not (bytes_eq name other)) _ _ both
        ∙ ap (Behind (not (is_snapshot array name) && not (bytes_eq name other))) (sym size)

  -- ---- a destruction

  module _ (name : List ℕ) (may : HasObject was.objects name) (f : ElisionFact) (gone : HasRemoved was.memory now.memory may.0 f) where
    pub destroy_keeps : IsSound was.memory → IsSound now.memory
    destroy_keeps sound = removed_sound was.memory now.memory may.0 f sound (visible_said was kept may.0 may.1) (omega (arith, left.numbers)) gone

    pub destroy_done : (contents : Contents) (array : Array) (sectors : List (List ℕ)) → ReadsAs contents was.memory array
        → Accepts array (command_of (request.Destroy name) sectors) → ReadsAs contents now.memory (after array (command_of (request.Destroy name) sectors))
    destroy_done contents array sectors reads e =
        reads_done contents now array (request.Destroy name) sectors e
        (subst (λ n. ReadsAs contents now.memory (without array n)) may.2
        (removal_reads contents was.memory now.memory may.0 f array reads (visible_said was kept may.0 may.1) (omega (arith, left.numbers)) gone))
