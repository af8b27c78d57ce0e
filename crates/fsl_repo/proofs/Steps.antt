-- Steps of the machine, from what the parts did.
use Rattle.std.proofs.Common.{◌≡◌, inl, inr, ℕ, ◌≤◌, Bool, List, Option, Some, None, Result, Ok, Err, IfOk, IfErr, OnErr, refl, sym, ap, subst, ◌∙◌, arith}
use Rattle.std.specs.Prelude.{◌&&◌, IsTrue}
use Rattle.fsl_text.specs.declared.memory.Memory.{Memory}
use Rattle.fsl_order.specs.Causes.{Rose}
use Rattle.fsl_disk.specs.Disk.{DiskState, Keeps}
use Rattle.fsl_record.specs.declared.Record.{Record}
use Rattle.fsl_journal.specs.Journal.{Committed, CommitFailed}
use Rattle.fsl_journal.specs.Log.{Log}
use Rattle.fsl_journal.specs.declared.CommitFault.{CommitFault}
use Rattle.fsl_journal.specs.declared.CommitFault.TheVariants as commit_fault
use Rattle.fsl_blobs.specs.Seen as blobs
use Rattle.fsl_blobs.specs.declared.Known.{Known}
use Rattle.fsl_blobs.specs.declared.Known.TheVariants as known
use Rattle.fsl_repo.specs.Machine.{IsCommit, AnnounceStep, announce, announced, announce_wants}
use Rattle.fsl_repo.specs.Keeping.{state_of}
use Rattle.fsl_repo.specs.Whole.{is_modelled}

-- ---- disks

-- a disk that stays of its kind tells its contents and meets the disk model as before
pub same_kind : (old new : DiskState) → Keeps old new → is_modelled new ≡ is_modelled old
same_kind old new keeps = λ i. keeps.tells i && keeps.model i

-- ---- commits

abbrev CommitStep : Log → Log → blobs.Seen → DiskState → DiskState → Bool → Result ℕ CommitFault → Type 0
CommitStep old new held d0 d1 honest r = IsCommit old.stopped (state_of old held d0.faults honest) r (state_of new held d1.faults honest)

commit_ok : (old new : Log) (held : blobs.Seen) (d0 d1 : DiskState) (honest : Bool) (n : ℕ) → Committed n old new d0 d1 → CommitStep old new held d0 d1 honest (Ok n)
commit_ok old new held d0 d1 honest n done =
    subst (λ (o : Option ℕ). IsCommit o (state_of old held d0.faults honest) (Ok n) (state_of new held d1.faults honest)) (sym done.runs)
    (inr (
      (λ i. Ok (done.all i)),
      (λ i. record { records = done.records i; committed = done.stable i; announced = held.announced; stopped = (done.goes_on ∙ sym done.runs) i; faults = done.faults i; honest = honest }),
    ))

commit_stopped : (old new : Log) (held : blobs.Seen) (d0 d1 : DiskState) (honest : Bool) (n : ℕ) → (old.stopped ≡ Some n) × (new ≡ old) → d0.faults ≤ d1.faults → CommitStep old new held d0 d1 honest (Err (commit_fault.Stopped n))
commit_stopped old new held d0 d1 honest n failed later =
    subst (λ (o : Option ℕ). IsCommit o (state_of old held d0.faults honest) (Err (commit_fault.Stopped n)) (state_of new held d1.faults honest)) (sym failed.0)
    (refl, record { state = ap (λ (l : Log). state_of l held d1.faults honest) failed.1; faults = later })

commit_failed : (old new : Log) (held : blobs.Seen) (d0 d1 : DiskState) (honest : Bool) → (old.stopped ≡ None) × (new ≡ record old { stopped = Some d1.faults }) × Rose d0.faults d1.faults → d0.faults ≤ d1.faults → CommitStep old new held d0 d1 honest (Err commit_fault.Disk)
commit_failed old new held d0 d1 honest failed later =
    subst (λ (o : Option ℕ). IsCommit o (state_of old held d0.faults honest) (Err commit_fault.Disk) (state_of new held d1.faults honest)) (sym failed.0)
    (inl (refl, failed.2, record { state = ap (λ (l : Log). state_of l held d1.faults honest) failed.1; faults = later }))

pub commit_step : (old new : Log) (held : blobs.Seen) (d0 d1 : DiskState) (honest : Bool) (r : Result ℕ CommitFault) → d0.faults ≤ d1.faults → IfOk r (λ n. Committed n old new d0 d1) → IfErr r (λ fault. CommitFailed fault old new d0 d1) → CommitStep old new held d0 d1 honest r
commit_step old new held d0 d1 honest (Ok n) later ok err = commit_ok old new held d0 d1 honest n ok
commit_step old new held d0 d1 honest (Err (commit_fault.Stopped n)) later ok err = commit_stopped old new held d0 d1 honest n err later
commit_step old new held d0 d1 honest (Err commit_fault.Disk) later ok err = commit_failed old new held d0 d1 honest err later

-- ---- announcements

announced_is : (log : Log) (held more : blobs.Seen) (faults : ℕ) (honest : Bool) (name : List ℕ) (k : Known) → more ≡ blobs.announced_after held name k → state_of log more faults honest ≡ record (announced (state_of log held faults honest) name k) { faults = faults }
announced_is log held more faults honest name known.Held is = ap (λ (h : blobs.Seen). state_of log h faults honest) is
announced_is log held more faults honest name known.Shunned is = ap (λ (h : blobs.Seen). state_of log h faults honest) is
announced_is log held more faults honest name known.Again is = ap (λ (h : blobs.Seen). state_of log h faults honest) is
announced_is log held more faults honest name known.Full is = ap (λ (h : blobs.Seen). state_of log h faults honest) is
announced_is log held more faults honest name known.New is = ap (λ (h : blobs.Seen). state_of log h faults honest) is

abbrev l : Log → blobs.Seen → Log
l log held = record log { records = held.records }

announce_by : (log : Log) (held more : blobs.Seen) (faults : ℕ) (honest : Bool) (name : List ℕ) (r : Result Known Memory)
    → IfOk r (λ k. k ≡ blobs.known_of held name) → IfOk r (λ k. more ≡ blobs.announced_after held name k) → OnErr r (more ≡ held) → OnErr r (blobs.known_of held name ≡ known.New)
    → AnnounceStep (state_of (l log held) held faults honest) name r (state_of (l log held) more faults honest)
announce_by log held more faults honest name (Ok k) is value err memory =
    let s = state_of (l log held) held faults honest in
    inl (
      announced s name (announce s name),
      (ap Ok is, refl),
      record {
        state = announced_is (l log held) held more faults honest name (announce s name) (value ∙ ap (blobs.announced_after held name) is);
        faults = omega arith;
      },
    )
announce_by log held more faults honest name (Err e) is value err memory =
    inr (refl, subst (λ (k : Known). IsTrue (announce_wants k)) (sym memory) refl, record { state = ap (λ (h : blobs.Seen). state_of (l log held) h faults honest) err; faults = omega arith })

pub announce_step : (log : Log) (held more : blobs.Seen) (faults : ℕ) (honest : Bool) (name : List ℕ) (r : Result Known Memory) → held.records ≡ log.records
    → IfOk r (λ k. k ≡ blobs.known_of held name) → IfOk r (λ k. more ≡ blobs.announced_after held name k) → OnErr r (more ≡ held) → OnErr r (blobs.known_of held name ≡ known.New)
    → AnnounceStep (state_of log held faults honest) name r (state_of log more faults honest)
announce_step log held more faults honest name r same is value err memory =
    subst (λ (rs : List Record). AnnounceStep (state_of (record log { records = rs }) held faults honest) name r (state_of (record log { records = rs }) more faults honest)) same
    (announce_by log held more faults honest name r is value err memory)
