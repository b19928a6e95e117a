-- All that each logged request makes of memory.
use Rattle.command_spec.proofs.Prelude.{nat_tests, ◌≡◌, ◌≢◌, ℕ, ◌+◌, ◌<◌, List, [], ◌++◌, length, replicate, refl, sym, ap, ◌∙◌, arith, subst, Contains, Some, None, append-nil, ElidedRanges, ranges_of, Accepts, after, Array, filled, SECTOR_BYTES, Request, Target, ElisionFact, NextNumbers, NUMBER_LIMIT, HasCreated, IsNextVolume, Contents, IsSound, ReadsAs, next_after, HasSameSegmentIds, Table, NOTHING, command_of, staged_by, AreLeft, HasCopy, HasObject, HasRoomLeft, IsDerivable, IsFree, AddsOnly, Derived, clone_of, copy_of, snapshot_of, Kept, IsKept, HasSamePatches, IsPut, HasRemoved, TakesOnly, targets_from}
use Rattle.memory_spec.specs.Prelude.{ObjectFact}
use Rattle.pur_base.specs.declared.request.Request.TheVariants as request
use Rattle.pur_base.specs.declared.request.Table.TheVariants as table
use Rattle.command_spec.specs.Done.{HasDone}
use Rattle.command_spec.proofs.ApplyLemmas.{write_keeps, fill_keeps, zero_keeps, create_keeps, write_reads, fill_reads, zero_reads, create_reads}
use Rattle.command_spec.proofs.CopiedLemmas.{clone_done, clone_ids, clone_keeps, clone_next, copy_done, copy_ids, copy_keeps, copy_next, destroy_done, destroy_keeps, snapshot_done, snapshot_ids, snapshot_keeps, snapshot_next}
use Rattle.command_spec.proofs.PutLemmas.{put_next}
use Rattle.command_spec.proofs.RunLemmas.{targets_long}

-- numbers of objects, mediums and facts were given, and no ids of segments
ids_kept : (was now : NextNumbers) (o m s : ℕ) → now ≡ record was { object = o; medium = m; sequence = s } → HasSameSegmentIds was now
ids_kept was now o m s e = record { segment = ap (λ (n : NextNumbers). n.segment) e; patch_segment = ap (λ (n : NextNumbers). n.patch_segment) e }

-- nothing is staged
none_staged : (was now : List (List ℕ)) → now ≡ was → now ≡ was ++ []
none_staged was now same = same ∙ sym (append-nil was)

-- nothing is elided
none_elided : (was now : ElidedRanges) → now ≡ was → (t : Table) → ranges_of now t ≡ ranges_of was t
none_elided was now same t = ap (λ (e : ElidedRanges). ranges_of e t) same

module _ (was now : Kept) (kept : IsKept was) (left : AreLeft was.memory.next) (sectors : List (List ℕ)) where
  abbrev Next : NextNumbers
  Next = was.memory.next

  abbrev Reading : Request → Type 0
  Reading r = (contents : Contents) (array : Array) → ReadsAs contents was.memory array → Accepts array (command_of r sectors) → ReadsAs contents now.memory (after array (command_of r sectors))

  -- ---- spans

  -- so many numbers were given
  given : (name : List ℕ) (lba count n : ℕ) (targets : List Target) (more : List (List ℕ)) → IsPut was now name lba n targets more → length targets ≡ n → n ≡ count
      → now.memory.next ≡ record Next { sequence = Next.sequence + count }
  given name lba count n targets more p long same = put_next was now name lba n targets more p long ∙ ap (λ (i : ℕ). record Next { sequence = Next.sequence + i }) same

  module _ (name : List ℕ) (lba count : ℕ) where
    pub write_does : length sectors ≡ count → IsPut was now name lba (length sectors) (targets_from (Some (length was.memory.staged)) 0 (length sectors)) sectors
        → ((sector : List ℕ) → Contains sectors sector → length sector ≡ SECTOR_BYTES)
        → TakesOnly was now (record NOTHING { addresses = length sectors; staged = length sectors }) → HasDone was now (request.Write name lba count) sectors
    write_does long p whole room =
        let fits : Next.sequence + length sectors < NUMBER_LIMIT = omega (arith, left.numbers, p.span.few) in
        let next = given name lba count (length sectors) _ sectors p (targets_long (Some (length was.memory.staged)) 0 (length sectors)) long in
        record {
          reads = λ contents array reads e. write_reads contents was now array kept reads name lba count sectors long p whole fits e;
          sound = λ sound. write_keeps was now kept sound name lba sectors p whole fits;
          patches = p.patches;
          staged = p.put.staged;
          next = λ contents array reads. next;
          segment_ids = ids_kept Next now.memory.next Next.object Next.medium (Next.sequence + count) next;
          segments = p.segments;
          elided = λ t other. none_elided was.elided now.elided p.elided t;
          room = subst (λ n. TakesOnly was now (record NOTHING { addresses = n; staged = n })) long room;
        }

    pub fill_does : (byte : ℕ) → IsPut was now name lba count (targets_from (Some (length was.memory.staged)) 0 count) (replicate count (filled byte))
        → TakesOnly was now (record NOTHING { addresses = count; staged = count }) → HasDone was now (request.Fill name lba count byte) sectors
    fill_does byte p room =
        let fits : Next.sequence + count < NUMBER_LIMIT = omega (arith, left.numbers, p.span.few) in
        let next = given name lba count count _ _ p (targets_long (Some (length was.memory.staged)) 0 count) refl in
        record {
          reads = λ contents array reads e. fill_reads contents was now array kept reads name lba count byte sectors p fits e;
          sound = λ sound. fill_keeps was now kept sound name lba count byte p fits;
          patches = p.patches;
          staged = p.put.staged;
          next = λ contents array reads. next;
          segment_ids = ids_kept Next now.memory.next Next.object Next.medium (Next.sequence + count) next;
          segments = p.segments;
          elided = λ t other. none_elided was.elided now.elided p.elided t;
          room = room;
        }

    pub zero_does : IsPut was now name lba count (targets_from None 0 count) [] → TakesOnly was now (record NOTHING { addresses = count })
        → HasDone was now (request.Zero name lba count) sectors
    zero_does p room =
        let fits : Next.sequence + count < NUMBER_LIMIT = omega (arith, left.numbers, p.span.few) in
        let next = given name lba count count _ _ p (targets_long None 0 count) refl in
        record {
          reads = λ contents array reads e. zero_reads contents was now array kept reads name lba count sectors p fits e;
          sound = λ sound. zero_keeps was now kept sound name lba count p fits;
          patches = p.patches;
          staged = p.put.staged;
          next = λ contents array reads. next;
          segment_ids = ids_kept Next now.memory.next Next.object Next.medium (Next.sequence + count) next;
          segments = p.segments;
          elided = λ t other. none_elided was.elided now.elided p.elided t;
          room = room;
        }

  -- ---- objects and ranges that are added

  pub create_does : (name : List ℕ) (size : ℕ) (x : ObjectFact) → IsNextVolume was.memory x → x.name ≡ name → x.sectors ≡ size → HasCreated was.memory now.memory x → IsFree was.objects name size
      → HasSamePatches was.memory.tables now.memory.tables → now.segments ≡ was.segments → now.elided ≡ was.elided → TakesOnly was now (record NOTHING { objects = 1; names = 1 })
      → HasDone was now (request.Create name size) sectors
  create_does name size x volume named sized created free patches segments elided room = record {
    reads = λ contents array reads e. create_reads contents was now array kept reads name size sectors x volume named sized created e;
    sound = λ sound. create_keeps was now kept sound name size x volume named created free;
    patches = patches;
    staged = none_staged was.memory.staged now.memory.staged created.staged;
    next = λ contents array reads. created.next;
    segment_ids = ids_kept Next now.memory.next (Next.object + 1) (Next.medium + 1) (Next.sequence + 1) created.next;
    segments = segments;
    elided = λ t other. none_elided was.elided now.elided elided t;
    room = room;
  }

  adds_do : (r : Request) (d : Derived) → AddsOnly was now d → HasSameSegmentIds Next d.next → staged_by r sectors ≡ [] → Reading r → (IsSound was.memory → IsSound now.memory)
      → ((contents : Contents) (array : Array) → ReadsAs contents was.memory array → now.memory.next ≡ next_after array Next r) → HasRoomLeft was now r → HasDone was now r sectors
  adds_do r d adds ids none reads sound next room = grind (arith, nat_tests, none_staged, none_elided)

  module _ (name new : List ℕ) (may : IsDerivable was.objects name new) where
    pub snapshot_does : AddsOnly was now (snapshot_of Next may.source new) → TakesOnly was now (record NOTHING { objects = 2; mediums = 1; names = 1 }) → HasDone was now (request.Snapshot name new) sectors
    snapshot_does adds room =
        adds_do (request.Snapshot name new) (snapshot_of Next may.source new) adds (snapshot_ids Next may.source new) refl
        (λ contents array reads e. snapshot_done was now kept left name new may contents array sectors adds reads e) (snapshot_keeps was now kept left name new may adds)
        (λ contents array reads. snapshot_next was now kept left name new may contents array adds reads) room

    pub clone_does : AddsOnly was now (clone_of Next may.source new) → TakesOnly was now (record NOTHING { objects = 2; mediums = 2; names = 1 }) → HasDone was now (request.Clone name new) sectors
    clone_does adds room =
        adds_do (request.Clone name new) (clone_of Next may.source new) adds (clone_ids Next may.source new) refl
        (λ contents array reads e. clone_done was now kept left name new may contents array sectors adds reads e) (clone_keeps was now kept left name new may adds)
        (λ contents array reads. clone_next was now kept left name new may contents array adds reads) room

  module _ (name : List ℕ) (lba : ℕ) (other : List ℕ) (to count : ℕ) (may : HasCopy was.objects name lba other to count) where
    pub copy_does : AddsOnly was now (copy_of Next may.source lba may.target to count) → TakesOnly was now (record NOTHING { objects = 2; mediums = 4 }) → HasDone was now (request.Copy name lba other to count) sectors
    copy_does adds room =
        adds_do (request.Copy name lba other to count) (copy_of Next may.source lba may.target to count) adds (copy_ids Next may.source lba may.target to count) refl
        (λ contents array reads e. copy_done was now kept left name lba other to count may contents array sectors adds reads e) (copy_keeps was now kept left name lba other to count may adds)
        (λ contents array reads. copy_next was now kept left name lba other to count may contents array adds reads) room

  -- ---- a destruction

  pub destroy_does : (name : List ℕ) (may : HasObject was.objects name) (f : ElisionFact) → HasRemoved was.memory now.memory may.0 f → HasSamePatches was.memory.tables now.memory.tables
      → now.segments ≡ was.segments → ((t : Table) → t ≢ table.Object → ranges_of now.elided t ≡ ranges_of was.elided t) → TakesOnly was now (record NOTHING { elisions = 1; ranges = 1 })
      → HasDone was now (request.Destroy name) sectors
  destroy_does name may f gone patches segments elided room = record {
    reads = λ contents array reads e. destroy_done was now kept left name may f gone contents array sectors reads e;
    sound = destroy_keeps was now kept left name may f gone;
    patches = patches;
    staged = none_staged was.memory.staged now.memory.staged gone.staged;
    next = λ contents array reads. gone.next;
    segment_ids = ids_kept Next now.memory.next Next.object Next.medium (Next.sequence + 1) gone.next;
    segments = segments;
    elided = elided;
    room = room;
  }
