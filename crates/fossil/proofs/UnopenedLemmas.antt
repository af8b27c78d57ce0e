-- What the commands that sync come to where a file isn't loaded, or words can't be read for want of memory.
use Rattle.std.proofs.Common.{◌≡◌, ◌≢◌, ◌⊎◌, inl, inr, ℕ, List, [], Option, Some, is_some, IsTrue, refl, sym, ap, subst, ◌∙◌}
use Rattle.fsl_order.specs.Causes.{Rose}
use Rattle.fsl_outside.specs.Connections.{LinkState}
use Rattle.fsl_record.specs.declared.Record.{Record}
use Rattle.fsl_disk.specs.Disk.{DiskState, IsModelled, Keeps, LeavesOnly}
use Rattle.fsl_disk.proofs.Moments.{started}
use Rattle.fsl_journal.specs.File.{IsFileOf, FailsAt}
use Rattle.fsl_journal.specs.Journal.{OfBytes, HeldOrSame, IsSpared}
use Rattle.fsl_journal.specs.declared.LoadFault.{LoadFault}
use Rattle.fsl_journal.specs.declared.LoadFault.TheVariants as load_fault
use Rattle.fsl_journal.proofs.Failing.{no_file}
use Rattle.fsl_journal.proofs.Unique.{one_file}
use Rattle.fsl_repo.specs.Whole.{Whole, IsWholeOn, is_modelled}
use Rattle.fsl_repo.specs.Opening as opening
use Rattle.fsl_pull.specs.Kept.{StandsForSome}
use Rattle.fsl_pull.proofs.KeptLemmas.{none_of_them}
use Rattle.fsl_words.specs.declared.Command.{Command}
use Rattle.fsl_words.specs.declared.Command.TheVariants as command_of
use Rattle.fossil.specs.declared.commands.sync.Way.{Way}
use Rattle.fossil.specs.declared.commands.sync.Way.TheVariants as way
use Rattle.fossil.specs.Printed.{Printed, disk_fault, no_memory}
use Rattle.fossil.specs.Outcome.{printed_of, not_repository}
use Rattle.fossil.specs.Run.{Agrees, Output, IsWritten, all, front}
use Rattle.fossil.specs.Acts.{KeepsContents, IsUnopened}
use Rattle.fossil.specs.Due.{printed, Due, IsNotLoadedDue, IsNotLoadedAs}
use Rattle.fossil.specs.Syncs.{with_commits, no_peer}
use Rattle.fossil.specs.Uses.{command_asks_peer}
use Rattle.fossil.specs.Synced.{Read, Objects, IsSyncOutcome, IsFileDue, IsAnswer, reached, StandsAsFar, MayBeUnloaded, StandsOrWasLeft, IsFileLeft, IsDurable, IsPeerKept, SyncsBy, HasSynced, objects_of}
use Rattle.fossil.specs.Syncing.{ComesTo, IsReady, command_by}
use Rattle.fossil.proofs.InputLemmas.{some_bytes}
use Rattle.fossil.proofs.FileLemmas.{both, agrees, some_same, quiet_none}
use Rattle.fossil.proofs.LoadLemmas.{KeepsBetween}
use Rattle.fossil.proofs.RepoLemmas.{repo_opened}
use Rattle.fossil.proofs.SyncedLemmas.{holds, made_all, as_old_so_far, moments_loaded, none_grown, untouched, peer_idle}
use Rattle.fossil.proofs.SyncLemmas.{at_start, fresh, synced_by}

-- a repository that was loaded just now
pub ready_of : {D : Type 0} (file left : DiskState) (r : Whole D) → opening.IsOpened file left r → IsWholeOn left r → KeepsBetween file left → Keeps file left → IsReady file left r
ready_of file left r is whole between keeps = record { loaded = repo_opened file left r is whole between keeps; faults = file.faults; state = is.state; whole = whole }

-- ---- the repository's file

module _ (command : Command) (no_repository : (r : Read) (at : ℕ) → FailsAt r.file at → r.rounds ≡ [] → IsSyncOutcome command r (not_repository at)) (file left peer : DiskState) (dial : LinkState)
    (due_first : (r : Read) → r.rounds ≡ [] → IsFileDue command r [] (both peer peer)) (peer_kept : IsTrue (command_asks_peer command) → IsPeerKept (both peer peer)) (spared : IsSpared file left)
    (harmless : IsModelled file → LeavesOnly file left (HeldOrSame file)) (d : Due) where
  abbrev x : Objects
  x = objects_of (file, left) (peer, peer) (dial, dial)

  abbrev read : List ℕ → Read
  read bytes = record { file = bytes; peer = (some_bytes peer.contents).0; honest = is_modelled file; peer_honest = is_modelled peer; rounds = [] }

  abbrev Comes : Type 0
  Comes = ComesTo command (file, left) (peer, peer) (dial, dial) d

  -- the records that were loaded are those that the bytes stand for
  same_records : (bytes : List ℕ) → file.contents ≡ Some bytes → (records old : List Record) → OfBytes file (λ b. IsFileOf b records) → IsFileOf bytes old → (held : List ℕ) → IsFileOf held records
      → IsFileOf held old
  same_records bytes told records old of are held is =
      subst (λ (rs : List Record). IsFileOf held rs) (one_file bytes records old (subst (λ (b : List ℕ). IsFileOf b records) (of.1 bytes told) of.2) are) is

  module _ (fault : LoadFault) (un : IsUnopened file left fault) where
    by_text : (bytes : List ℕ) (o : Printed) → Agrees file.contents bytes → printed d ≡ o → IsAnswer command (read bytes) [] [] x (λ p. o ≡ p) → IsFileLeft (both file left) bytes o.status (made_all [])
        → IsDurable (both file left) bytes o.status (made_all []) → (o.status ≢ 4 → left.faults ≡ file.faults) → Comes
    by_text bytes o told is answer contents durable steady = (
      [],
      [],
      none_grown _,
      (
        read bytes,
        [],
        subst (λ (p : Printed). SyncsBy command x (λ q. p ≡ q) p.status [] [] (read bytes) []) (sym is)
            (record {
              file_told = told;
              peer_told = (some_bytes peer.contents).1;
              rounds_are = refl;
              honest = refl;
              peer_honest = refl;
              led = inr (refl, refl);
              answer = answer;
              far = made_all [];
              are_made = inl (refl, refl);
              contents = contents;
              kept = λ file_told refused. un.unreadable bytes file_told refused.0 refused.1;
              any_moment = moments_loaded file left (reached o.status (made_all [])) un.any_moment;
              durable = durable;
              keeps = un.keeps;
              peer = peer_kept;
              unasked = λ file_told refused. untouched peer;
              disk = λ other. (steady other, λ asks. refl);
              dial = λ other. refl;
            }),
      ),
    )

    -- what it stands for stays
    contents_by : (fault ≡ load_fault.Disk → ⊥) → (bytes : List ℕ) (status : ℕ) → IsFileLeft (both file left) bytes status (made_all [])
    contents_by other bytes status old held file_told left_told are known = as_old_so_far status old held (un.contents other bytes file_told old are held left_told)

    -- a crash leaves what it might have left before, or the same records
    image_by : (bytes : List ℕ) (status : ℕ) → MayBeUnloaded (both file left) status → file.contents ≡ Some bytes → (old : List Record) → IsFileOf bytes old → (c : List ℕ) → HeldOrSame file c
        → StandsOrWasLeft (both file left) status old (made_all []) c
    image_by bytes status unloaded told old are c (inl image) = inr (unloaded, refl, image)
    image_by bytes status unloaded told old are c (inr (records, of, is)) = inl (as_old_so_far status old c (same_records bytes told records old of are c is))

    images_by : (bytes : List ℕ) (status : ℕ) → MayBeUnloaded (both file left) status → IsDurable (both file left) bytes status (made_all [])
    images_by bytes status unloaded modelled file_told old are c image = image_by bytes status unloaded file_told old are c ((harmless modelled).now c image)

    -- the contents stand for the same records; where its disk failed, by the disk model
    spared_by : (bytes : List ℕ) (status : ℕ) → IsSpared file left → file.contents ≡ Some bytes → (old : List Record) → IsFileOf bytes old → IsTrue file.is_model
        → (held : List ℕ) → left.contents ≡ Some held → StandsAsFar status old (made_all []) held
    spared_by bytes status (inl same) told old are model held left_told = as_old_so_far status old held (subst (λ (b : List ℕ). IsFileOf b old) (some_same (sym told ∙ sym same ∙ left_told)) are)
    spared_by bytes status (inr (records, of, stands)) told old are model held left_told =
        let modelled : IsModelled file = record { tells = ap is_some told; model = model } in
        as_old_so_far status old held (same_records bytes told records old of are held (stands modelled held left_told))

    memory : (fault ≡ load_fault.Disk → ⊥) → printed d ≡ no_memory → Comes
    memory other told =
        let bytes = some_bytes file.contents in
        by_text bytes.0 no_memory bytes.1 told (inr (inr (inr (inl (inl refl, refl))))) (contents_by other bytes.0 9) (images_by bytes.0 9 (inl refl)) (λ status. un.faults other)

    disk : Rose file.faults left.faults → printed d ≡ disk_fault → Comes
    disk rose told =
        let bytes = some_bytes file.contents in
        by_text bytes.0 disk_fault bytes.1 told (inr (inl (refl, inl (rose, (λ asks. refl), due_first (read bytes.0) refl), refl)))
        (λ old held file_told left_told are known. spared_by bytes.0 4 spared file_told old are (known refl rose) held left_told) (images_by bytes.0 4 (inr (refl, rose))) (λ other. absurd (other refl))

    nowhere : (fault ≡ load_fault.Disk → ⊥) → (bytes : List ℕ) (at : ℕ) → Agrees file.contents bytes → FailsAt bytes at → printed d ≡ printed_of (not_repository at) → Comes
    nowhere other bytes at agree fails told =
        by_text bytes (printed_of (not_repository at)) agree told (inl (not_repository at, refl, no_repository (read bytes) at fails refl, refl, refl)) (contents_by other bytes 2)
        (λ modelled file_told old are c image. absurd (no_file bytes at old fails are)) (λ status. un.faults other)

  -- it wasn't loaded
  pub unopened_comes : (fault : LoadFault) → IsUnopened file left fault → IsNotLoadedDue fault d → Comes
  unopened_comes load_fault.Disk un due = disk load_fault.Disk un un.cause (ap printed due)
  unopened_comes (load_fault.NotRepository at) un (inl due) =
      nowhere (load_fault.NotRepository at) un (λ e. cc) un.cause.0 at (agrees file.contents un.cause.0 un.cause.1) un.cause.2 (ap printed due)
  unopened_comes (load_fault.NotRepository at) un (inr due) = memory (load_fault.NotRepository at) un (λ e. cc) (ap printed due)
  unopened_comes load_fault.Memory un due = memory load_fault.Memory un (λ e. cc) (ap printed due)

pull_unopened : (address : List ℕ) (login : Option (List ℕ × List ℕ)) (r : Read) (at : ℕ) → FailsAt r.file at → r.rounds ≡ [] → IsSyncOutcome (command_of.Pull address login) r (not_repository at)
pull_unopened address login r at fails none = inl (at, fails, none, refl)

push_unopened : (address : List ℕ) (login : Option (List ℕ × List ℕ)) (r : Read) (at : ℕ) → FailsAt r.file at → r.rounds ≡ [] → IsSyncOutcome (command_of.Push address login) r (not_repository at)
push_unopened address login r at fails none = inl (at, fails, none, refl)

pub over_unopened : (w : Way) (address : List ℕ) (login : Option (List ℕ × List ℕ)) (r : Read) (at : ℕ) → FailsAt r.file at → r.rounds ≡ [] → IsSyncOutcome (command_by w address login) r (not_repository at)
over_unopened way.Pull address login r at fails none = pull_unopened address login r at fails none
over_unopened way.Push address login r at fails none = push_unopened address login r at fails none

-- before the first round the file is to be loaded
pub over_due : (w : Way) (address : List ℕ) (login : Option (List ℕ × List ℕ)) (peer : DiskState) (r : Read) → r.rounds ≡ [] → IsFileDue (command_by w address login) r [] (both peer peer)
over_due way.Pull address login peer r none = inl none
over_due way.Push address login peer r none = inl none

-- neither of them reads a peer's file
pub over_alone : (w : Way) (address : List ℕ) (login : Option (List ℕ × List ℕ)) (peer : DiskState) → IsTrue (command_asks_peer (command_by w address login)) → IsPeerKept (both peer peer)
over_alone way.Pull address login peer asks = absurd (cc)
over_alone way.Push address login peer asks = absurd (cc)

pub local_unopened : (path : List ℕ) (r : Read) (at : ℕ) → FailsAt r.file at → r.rounds ≡ [] → IsSyncOutcome (command_of.PullLocal path) r (not_repository at)
local_unopened path r at fails none = (none, inl (at, fails, none, refl))

-- and of a pull from a peer's file, before this is looked at
pub local_due : (path : List ℕ) (peer : DiskState) (r : Read) → r.rounds ≡ [] → IsFileDue (command_of.PullLocal path) r [] (both peer peer)
local_due path peer r none = inl (untouched peer)

-- ---- the peer's file

module _ {D : Type 0} (path : List ℕ) (file mid : DiskState) (old : Whole D) (ready : IsReady file mid old) (peer peer_left : DiskState) (dial : LinkState)
    (file_reads : (held : List ℕ) → IsTrue file.is_model → file.contents ≡ Some held → file.images held) (mid_reads : (held : List ℕ) → IsTrue mid.is_model → mid.contents ≡ Some held → mid.images held)
    (spared : IsSpared peer peer_left) (harmless : IsModelled peer → LeavesOnly peer peer_left (HeldOrSame peer)) (d : Due) where
  abbrev local : Command
  local = command_of.PullLocal path

  abbrev Locals : Type 0
  Locals = ComesTo local (file, mid) (peer, peer_left) (dial, dial) d

  same_keeps : Keeps mid mid
  same_keeps = record { tells = refl; model = refl }

  module _ (fault : LoadFault) (un : IsUnopened peer peer_left fault) where
    peer_by : (bytes : List ℕ) (o : Printed) → Agrees peer.contents bytes → printed d ≡ o → IsAnswer local (record { file = ready.loaded.stands.0; peer = bytes; honest = is_modelled file; peer_honest = is_modelled peer; rounds = [] }) [] [] (objects_of (file, mid) (peer, peer_left) (dial, dial)) (λ p. o ≡ p)
        → Rose peer.faults peer_left.faults ⊎ KeepsContents peer peer_left → (o.status ≢ 4 → peer_left.faults ≡ peer.faults) → Locals
    peer_by bytes o told is answer contents steady = (
      [],
      [],
      none_grown _,
      (
        record { file = ready.loaded.stands.0; peer = bytes; honest = is_modelled file; peer_honest = is_modelled peer; rounds = [] },
        [],
        synced_by local peer peer_left dial dial file mid mid old old ready ready.whole same_keeps file_reads mid_reads bytes told d [] [] [] (made_all []) o is (inr (refl, refl)) answer (inl (refl, refl))
            (inl (holds mid old (at_start local peer peer_left dial dial file mid mid old old ready ready.whole same_keeps file_reads mid_reads bytes told d) [] ready.whole
            (fresh local peer peer_left dial dial file mid mid old old ready ready.whole same_keeps file_reads mid_reads bytes told d)))
            (moments_loaded file mid (reached o.status (made_all [])) ready.loaded.any_moment)
            (λ asks. record { contents = contents; spared = spared; any_moment = un.any_moment; harmless = harmless; unreadable = un.unreadable; keeps = un.keeps })
            (λ other. (ready.loaded.faults, λ asks. steady other)) (λ other. refl),
      ),
    )

    peer_memory : (fault ≡ load_fault.Disk → ⊥) → printed d ≡ no_memory → Locals
    peer_memory other told = let bytes = some_bytes peer.contents in peer_by bytes.0 no_memory bytes.1 told (inr (inr (inr (inl (inl refl, refl))))) (inr (un.contents other)) (λ status. un.faults other)

    peer_disk : Rose peer.faults peer_left.faults → printed d ≡ disk_fault → Locals
    peer_disk rose told =
        let bytes = some_bytes peer.contents in
        peer_by bytes.0 disk_fault bytes.1 told (inr (inl (refl, inr (refl, rose, ready.loaded.faults, inl refl), refl))) (inl rose) (λ other. absurd (other refl))

    peer_nowhere : (fault ≡ load_fault.Disk → ⊥) → (bytes : List ℕ) (at : ℕ) → Agrees peer.contents bytes → FailsAt bytes at → printed d ≡ no_peer at → Locals
    peer_nowhere other bytes at agree fails told =
        peer_by bytes (no_peer at) agree told
        (inl (with_commits (no_peer at) [], refl, (refl, inr (old.seen.state.records, ready.loaded.stands.2, inl (at, fails, refl))), refl, refl)) (inr (un.contents other)) (λ status. un.faults other)

  -- it wasn't loaded
  pub no_peer_comes : (fault : LoadFault) → IsUnopened peer peer_left fault → IsNotLoadedAs no_peer fault d → Locals
  no_peer_comes load_fault.Disk un due = peer_disk load_fault.Disk un un.cause (ap printed due)
  no_peer_comes (load_fault.NotRepository at) un (inl due) =
      peer_nowhere (load_fault.NotRepository at) un (λ e. cc) un.cause.0 at (agrees peer.contents un.cause.0 un.cause.1) un.cause.2 (ap printed due)
  no_peer_comes (load_fault.NotRepository at) un (inr due) = peer_memory (load_fault.NotRepository at) un (λ e. cc) (ap printed due)
  no_peer_comes load_fault.Memory un due = peer_memory load_fault.Memory un (λ e. cc) (ap printed due)

-- ---- words for which there was no memory

-- its status stays
ended : (status : ℕ) (out : Output) → IsWritten no_memory out status → status ≡ 9
ended status out (all e appended quiet) = e
ended status out (front e cut) = e

pub idle_synced : (command : Command) (file peer : DiskState) (dial : LinkState) (out : Output) (status : ℕ) → (IsTrue file.is_model → (c : List ℕ) → file.since file.moment c → file.images c)
    → (IsTrue peer.is_model → (c : List ℕ) → peer.since peer.moment c → peer.images c) → IsWritten no_memory out status
    → HasSynced command (objects_of (file, file) (peer, peer) (dial, dial)) (λ o. IsWritten o out status) status
idle_synced command file peer dial out status no_other no_other_peer written =
    let bytes = some_bytes file.contents in
    let there = some_bytes peer.contents in
    let nine : status ≡ 9 = ended status out written in (
      [],
      [],
      none_grown _,
      (
        record { file = bytes.0; peer = there.0; honest = is_modelled file; peer_honest = is_modelled peer; rounds = [] },
        [],
        record {
          file_told = bytes.1;
          peer_told = there.1;
          rounds_are = refl;
          honest = refl;
          peer_honest = refl;
          led = inr (refl, refl);
          answer = inr (inr (inr (inl (inl refl, written))));
          far = made_all [];
          are_made = inl (refl, refl);
          contents = λ old held file_told left_told are known. as_old_so_far status old held (subst (λ (b : List ℕ). IsFileOf b old) (some_same (sym file_told ∙ left_told)) are);
          kept = λ told refused. quiet_none file;
          any_moment = λ modelled old are. started file (StandsForSome old (reached status (made_all []))) (no_other modelled.model) (λ c image. none_of_them old (reached status (made_all [])) c (are c image));
          durable = λ modelled file_told old are c image. inr (inl nine, refl, image);
          keeps = record { tells = refl; model = refl };
          peer = λ asks. peer_idle peer no_other_peer;
          unasked = λ told refused. untouched peer;
          disk = λ other. (refl, λ asks. refl);
          dial = λ other. refl;
        },
      ),
    )
