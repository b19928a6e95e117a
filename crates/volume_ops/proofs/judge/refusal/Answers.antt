use Rattle.volume_ops.proofs.judge.refusal.Goals as goal

pub returns-in-Create-clause-array : goal.returns-in-Create-clause-array
returns-in-Create-clause-array c = λ contents array r. rw c.in-Create.is (c.create_refusal.ensures.array contents array r)

pub returns-in-Write-clause-array : goal.returns-in-Write-clause-array
returns-in-Write-clause-array c = λ contents array r. rw c.in-Write.is (c.overwrite_refusal.ensures.array contents array r)

pub returns-in-Fill-clause-array : goal.returns-in-Fill-clause-array
returns-in-Fill-clause-array c = λ contents array r. rw c.in-Fill.is (c.overwrite_refusal-in-Fill.ensures.array contents array r)

pub returns-in-Zero-clause-array : goal.returns-in-Zero-clause-array
returns-in-Zero-clause-array c = λ contents array r. rw c.in-Zero.is (c.overwrite_refusal-in-Zero.ensures.array contents array r)

pub returns-in-Snapshot-clause-array : goal.returns-in-Snapshot-clause-array
returns-in-Snapshot-clause-array c = λ contents array r. rw c.in-Snapshot.is (c.derive_refusal.ensures.array contents array r)

pub returns-in-Clone-clause-array : goal.returns-in-Clone-clause-array
returns-in-Clone-clause-array c = λ contents array r. rw c.in-Clone.is (c.derive_refusal-in-Clone.ensures.array contents array r)

pub returns-in-Copy-clause-array : goal.returns-in-Copy-clause-array
returns-in-Copy-clause-array c = λ contents array r. rw c.in-Copy.is (c.copy_refusal.ensures.array contents array r)
