-- A commit of what isn't committed yet.
use Rattle.std.proofs.Common.{◌≡◌, inl, inr, ℕ, length, drop, Option, Some, None, refl, sym, ap, subst, ◌∙◌}
use Rattle.std.specs.Prelude.{Result, IfSome}
use Rattle.fsl_disk.specs.Disk.{DiskState}
use Rattle.fsl_journal.specs.declared.CommitFault.{CommitFault}
use Rattle.fsl_repo.specs.declared.Event.TheVariants as event
use Rattle.fsl_repo.specs.declared.Answer.{Answer}
use Rattle.fsl_repo.specs.declared.Answer.TheVariants as answer
use Rattle.fsl_repo.specs.Machine.{State, IsCommit}
use Rattle.fsl_repo.specs.Laters.{later_through}
use Rattle.fsl_repo.specs.Onward.{Step, MayStep, IsLaterOn}
use Rattle.fsl_repo.specs.Whole.{Seen, Whole, stored, blobs}
use Rattle.fsl_serve.specs.Crews.{AreAllCommitted}

-- its records stay, and all are committed where it isn't stopped
abbrev Settles : State → State → Type 0
Settles old new = (new.records ≡ old.records) × AreAllCommitted new

never_some : (o : Option ℕ) (n : ℕ) → o ≡ Some n → o ≡ None → ⊥
never_some o n e k = cc

committed : (stopped : Option ℕ) (old : State) (r : Result ℕ CommitFault) (new : State) → old.stopped ≡ stopped → IsCommit stopped old r new → Settles old new
committed (Some faults) old r new is p =
    (ap (λ (s : State). s.records) p.1.state, λ none. absurd (never_some new.stopped faults (ap (λ (s : State). s.stopped) p.1.state ∙ is) none))
committed None old r new is (inl p) =
    (ap (λ (s : State). s.records) p.2.state, λ none. absurd (never_some new.stopped new.faults (ap (λ (s : State). s.stopped) p.2.state) none))
committed None old r new is (inr p) =
    (ap (λ (s : State). s.records) p.1, λ none. ap (λ (s : State). s.committed) p.1 ∙ sym (ap (λ (s : State). length s.records) p.1))

settles : (old : State) (a : Answer) (new : State) → Step old event.Commit a new → Settles old new
settles old (answer.Arrive r) new p = absurd p
settles old (answer.Receive r) new p = absurd p
settles old (answer.Announce r) new p = absurd p
settles old (answer.Shun r) new p = absurd p
settles old (answer.Unshun r) new p = absurd p
settles old (answer.Cluster r) new p = absurd p
settles old (answer.Build r) new p = absurd p
settles old (answer.Commit r) new p = committed old.stopped old r new refl p

stored_same : (old new : Seen) → new.loaded ≡ old.loaded → new.state.records ≡ old.state.records → stored new ≡ stored old
stored_same old new loaded records = λ i. blobs (drop (loaded i) (records i))

-- ---- of a repository

pub commit_stores_none : {D : Type 0} (d e : DiskState) (old new : Whole D) (a : Answer) → MayStep d e old event.Commit a new → stored new.seen ≡ stored old.seen
commit_stores_none d e old new a p = stored_same old.seen new.seen p.loaded (settles old.seen.state a new.seen.state p.step).0

pub commit_settles : {D : Type 0} (d e : DiskState) (old new : Whole D) (a : Answer) → MayStep d e old event.Commit a new → AreAllCommitted new.seen.state
commit_settles d e old new a p = (settles old.seen.state a new.seen.state p.step).1

-- what comes out of the lock is later than what went in, and so is what the last commit leaves
pub through_first : {D : Type 0} (tells : D → DiskState) (first : Option (Whole D)) (old mid new : Whole D) → first ≡ Some old
    → IfSome first (λ m. IsLaterOn (tells m.disk) (tells mid.disk) m mid) → IsLaterOn (tells mid.disk) (tells new.disk) mid new
    → IsLaterOn (tells old.disk) (tells new.disk) old new
through_first {D} tells first old mid new is p q =
    let since = subst (λ (o : Option (Whole D)). IfSome o (λ m. IsLaterOn (tells m.disk) (tells mid.disk) m mid)) is p in
    later_through (tells old.disk) (tells mid.disk) (tells new.disk) old mid new since q
