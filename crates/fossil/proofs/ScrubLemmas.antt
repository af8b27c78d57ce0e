-- What a scrub comes to.
use Rattle.std.proofs.Common.{◌≡◌, ◌⊎◌, inl, inr, ℕ, ◌<◌, Bool, true, false, List, [], length, Some, None, is_some, Result, Ok, Err, IsTrue, refl, sym, ap, subst, ◌∙◌}
use Rattle.std.specs.Prelude.{◌++◌, ◌==◌, if◌then◌else◌, codes, decimal, IfOk, IfErr, OnOk}
use Rattle.fsl_order.specs.Causes.{Rose}
use Rattle.fsl_outside.specs.Streams.{SinkState}
use Rattle.fsl_record.specs.declared.Record.{Record}
use Rattle.fsl_record.specs.Records.{AreRecords}
use Rattle.fsl_disk.specs.Disk.{DiskState, IsModelled, Keeps, Quiet, LeavesOnly}
use Rattle.fsl_disk.proofs.Moments.{keeps_on, modelled_after}
use Rattle.fsl_journal.specs.File.{IsFileOf}
use Rattle.fsl_journal.specs.Log.{WhereEmpty}
use Rattle.fsl_journal.specs.Journal.{HeldOrSame}
use Rattle.fsl_journal.specs.declared.LoadFault.{LoadFault}
use Rattle.fsl_journal.specs.declared.LoadFault.TheVariants as load_fault
use Rattle.fsl_journal.proofs.Unique.{one_file}
use Rattle.fsl_blobs.specs.Fold.{contents}
use Rattle.fsl_repo.specs.Machine.{State}
use Rattle.fsl_repo.specs.Replies.{IsSpoilt}
use Rattle.fsl_repo.specs.Whole.{Whole, IsWholeOn, log_of, is_modelled}
use Rattle.fsl_repo.proofs.Steps.{same_kind}
use Rattle.fsl_query.specs.Answers.{IsSpoiltIn}
use Rattle.fsl_scrub.specs.declared.scrubbing.Scrubbed.{Scrubbed}
use Rattle.fsl_scrub.specs.declared.faults.ScrubFault.{ScrubFault}
use Rattle.fsl_scrub.specs.declared.faults.ScrubFault.TheVariants as scrub_fault
use Rattle.fsl_scrub.specs.Scrubbed.{AreWrittenAs, IsScrubbed, scrubbed}
use Rattle.fsl_scrub.specs.Copying.{AsWritten}
use Rattle.fsl_scrub.specs.Closing as closing
use Rattle.fsl_scrub.specs.Closing.{HasBegun, IsOfLength, OneFailed, ScrubFailed, UnopenedOr, WasEmpty}
use Rattle.fsl_scrub.proofs.ClosingLemmas.{look_moments}
use Rattle.fsl_scrub.proofs.ScrubbedLemmas.{held_have_blobs}
use Rattle.fsl_scrub.proofs.WrittenLemmas.{all_same, honest_is_same, written_moments_stand}
use Rattle.fsl_scrub.proofs.AlikeLemmas.{written_folds_alike}
use Rattle.fsl_words.specs.declared.Command.{Command}
use Rattle.fsl_words.specs.declared.Command.TheVariants as command_of
use Rattle.fsl_words.specs.declared.Unversioned.{Unversioned}
use Rattle.fossil.specs.Uses.{command_syncs, command_scrubs}
use Rattle.fossil.specs.Printed.{Printed, refused, damaged, disk_fault, no_memory}
use Rattle.fossil.specs.Run.{File, Output, Agrees, IsWritten}
use Rattle.fossil.specs.Acts.{Loaded, KeepsContents, IsOpened, IsUnopened, loaded_of}
use Rattle.fossil.specs.Due.{printed, IsDue, Due, IsNotLoadedDue}
use Rattle.fossil.specs.UvSyncs.{Part, aside, kept, IsLeftAs, IsSteady}
use Rattle.fossil.specs.Scrubs.{NewFile, counts, counted, scrub_of, IsScrub, IsNewFile, IsPeerLeft, IsAnswer, HasScrubbed, ScrubsIf}
use Rattle.fossil.specs.ScrubCall.{IsScrubDue}
use Rattle.fossil.proofs.InputLemmas.{some_bytes}
use Rattle.fossil.proofs.InitLemmas.{of_length, no_zero}
use Rattle.fossil.proofs.FileLemmas.{both, agrees, quiet_none, readable}
use Rattle.fossil.proofs.LoadLemmas.{images_quiet}
use Rattle.fossil.proofs.CommitLemmas.{idle_just, idle_durable}
use Rattle.fossil.proofs.SyncedLemmas.{untouched, said_one, IsNoScrub}
use Rattle.fossil.proofs.UvFileLemmas.{idle_left}
use Rattle.fossil.proofs.ScrubOutcomes.{no_scrub, some_scrub}

no_kept_aside : kept ≡ aside → ⊥
no_kept_aside e = cc

no_aside_kept : aside ≡ kept → ⊥
no_aside_kept e = cc

-- a disk since whose moment there is no other
abbrev pub IsNow : DiskState → Type 0
IsNow disk = IsTrue disk.is_model → (c : List ℕ) → disk.since disk.moment c → disk.images c

-- ---- the file of the repository, which isn't opened

contents_by : (file left : DiskState) (fault : LoadFault) → IsUnopened file left fault → (Rose file.faults left.faults → IsModelled file) → KeepsContents file left
contents_by file left load_fault.Disk un known = un.modelled (known un.cause)
contents_by file left (load_fault.NotRepository at) un known = un.contents (λ e. cc)
contents_by file left load_fault.Memory un known = un.contents (λ e. cc)

module _ (file left : DiskState) (fault : LoadFault) (un : IsUnopened file left fault) (harmless : IsModelled file → LeavesOnly file left (HeldOrSame file)) (bytes : List ℕ) where
  -- a crash leaves what it might have left before, or the same records
  held_or : file.contents ≡ Some bytes → (old : List Record) → IsFileOf bytes old → (c : List ℕ) → HeldOrSame file c → file.images c ⊎ IsFileOf c old
  held_or told old is c (inl before) = inl before
  held_or told old is c (inr (records, of, stands)) =
      inr (subst (λ (rs : List Record). IsFileOf c rs) (one_file bytes records old (subst (λ (b : List ℕ). IsFileOf b records) (of.1 bytes told) of.2) is) stands)

  unopened_left : IsLeftAs aside (both file left) bytes
  unopened_left = record {
    contents = λ old held file_told left_told is known.
        contents_by file left fault un (λ rose. record { tells = ap is_some file_told; model = known rose }) bytes file_told old is held left_told;
    any_moment = un.any_moment;
    durable = λ modelled file_told old is c image. held_or file_told old is c ((harmless modelled).now c image);
    refused = λ file_told refused. un.unreadable bytes file_told refused.0 refused.1;
    keeps = un.keeps;
  }

-- ---- and one that is opened, and then read alone

module _ (file mid left : DiskState) (l : Loaded) (opened : IsOpened file mid l) (quiet : Quiet mid left) (no_other : IsNow mid) (bytes : List ℕ) where
  same_records : file.contents ≡ Some bytes → (old : List Record) → IsFileOf bytes old → l.journal.records ≡ old
  same_records told old is = one_file bytes l.journal.records old (subst (λ (b : List ℕ). IsFileOf b l.journal.records) (opened.stands.1 bytes told) opened.stands.2) is

  read_left : IsLeftAs kept (both file left) bytes
  read_left = record {
    contents = λ old held file_told left_told is known. opened.contents bytes file_told old is held (sym quiet.contents ∙ left_told);
    any_moment = images_quiet file mid left opened.any_moment opened.keeps quiet no_other;
    durable = λ modelled file_told old is c image.
        subst (λ (rs : List Record). IsFileOf c rs) (same_records file_told old is)
        (idle_durable l.journal mid opened.belongs opened.is_open.runs opened.is_open.stable (modelled_after file mid opened.keeps modelled) c
        (quiet.images (opened.keeps.model ∙ modelled.model) c image));
    refused = λ file_told refused. readable file left (opened.stands.0, opened.stands.1, (l.journal.records, opened.stands.2)) bytes file_told refused.0 refused.1;
    keeps = keeps_on file mid left opened.keeps quiet.keeps;
  }

-- ---- the peer's file

module _ (honest : Bool) (records : List Record) (are : AreRecords records) (peer left : DiskState) (written : List Record) (as_read : AreWrittenAs honest (scrubbed records) written) where
  exactly : honest ≡ true → written ≡ scrubbed records
  exactly e = honest_is_same (scrubbed records) written (subst (λ (b : Bool). AreWrittenAs b (scrubbed records) written) e as_read)

  -- it isn't whole, or need not be
  undone : WhereEmpty peer (LeavesOnly peer left (UnopenedOr written)) → IsNewFile honest records (both peer left) false written
  undone moments = record {
    as_read = as_read;
    exact = exactly;
    leaves = written_folds_alike honest records written as_read;
    contents = λ done. absurd (cc);
    stands = λ done. absurd (cc);
    durable = λ done. absurd (cc);
    any_moment = moments;
    images = λ c may. written_moments_stand honest records written are as_read c may;
  }

  -- it is whole
  whole : (made : Scrubbed) → closing.IsNewFile peer left (Ok made) written → IsNewFile honest records (both peer left) true written
  whole made is = record {
    as_read = as_read;
    exact = exactly;
    leaves = written_folds_alike honest records written as_read;
    contents = λ done. is.contents;
    stands = λ done. is.stands;
    durable = λ done. is.durable;
    any_moment = is.moments;
    images = λ c may. written_moments_stand honest records written are as_read c may;
  }

-- a peer's file of this length, which is refused
abbrev full_peer : ℕ → NewFile
full_peer len = record { printed = refused (codes "file not empty " ++ decimal len); of = None }

abbrev scrub_if : List Record → ℕ → Bool → NewFile
scrub_if records len empty = if empty then record { printed = counted records; of = Some records } else full_peer len

-- nothing of it changed
module _ (honest : Bool) (peer left : DiskState) (quiet : Quiet peer left) (no_other : IsNow peer) where
  quiet_left : (records : List Record) → AreRecords records → (len : ℕ) → IsPeerLeft honest (scrub_of records len).of (both peer left) false
  quiet_left records are len = by (len == 0)
    where
      by : (empty : Bool) → IsPeerLeft honest (scrub_if records len empty).of (both peer left) false
      by true =
          (scrubbed records, undone honest records are peer left (scrubbed records) (all_same honest (scrubbed records)) (look_moments (scrubbed records) peer left quiet no_other))
      by false = quiet

  quiet_scrub : (bytes others : List ℕ) (s : NewFile) → IsScrub bytes others s → IsPeerLeft honest s.of (both peer left) false
  quiet_scrub bytes others s (inl (at, fails, e)) = subst (λ (t : NewFile). IsPeerLeft honest t.of (both peer left) false) (sym e) quiet
  quiet_scrub bytes others s (inr (records, is, e)) = subst (λ (t : NewFile). IsPeerLeft honest t.of (both peer left) false) (sym e) (quiet_left records is.fit (length others))

-- ---- the file of the repository isn't opened

module _ (file left : DiskState) (fault : LoadFault) (un : IsUnopened file left fault) (harmless : IsModelled file → LeavesOnly file left (HeldOrSame file))
    (peer : DiskState) (no_other : IsNow peer) (d : Due) where
  abbrev theirs : (b : List ℕ) × Agrees peer.contents b
  theirs = some_bytes peer.contents

  abbrev First : Type 0
  First = HasScrubbed (both file left) (both peer peer) (λ o. printed d ≡ o)

  first_by : (bytes : List ℕ) → Agrees file.contents bytes → (s : NewFile) (done : Bool) → IsScrub bytes theirs.0 s
      → IsAnswer s (both file left) (both peer peer) bytes theirs.0 aside done (λ o. printed d ≡ o) → IsPeerLeft (is_modelled file) s.of (both peer peer) done → First
  first_by bytes told s done is answer peer_left = (
    bytes,
    theirs.0,
    s,
    aside,
    done,
    record {
      file_told = told;
      peer_told = theirs.1;
      outcome = is;
      answer = answer;
      bare = inl refl;
      here_left = unopened_left file left fault un harmless bytes;
      trimmed = λ e. absurd (no_aside_kept e);
      peer_left = peer_left;
      peer_keeps = record { tells = refl; model = refl };
      unasked = λ e. untouched peer;
      opened = λ e. absurd (no_aside_kept e);
    },
  )

  -- whatever the outcome is, it isn't told
  first_fault : ((bytes : List ℕ) (s : NewFile) → IsAnswer s (both file left) (both peer peer) bytes theirs.0 aside false (λ o. printed d ≡ o)) → First
  first_fault answer =
      let own = some_bytes file.contents in
      let s = some_scrub own.0 theirs.0 in
      first_by own.0 own.1 s.0 false s.1 (answer own.0 s.0) (quiet_scrub (is_modelled file) peer peer (quiet_none peer) no_other own.0 theirs.0 s.0 s.1)

module _ (file left : DiskState) (harmless : IsModelled file → LeavesOnly file left (HeldOrSame file)) (peer : DiskState) (no_other : IsNow peer) (d : Due) where
  pub unopened_scrubs : (fault : LoadFault) → IsUnopened file left fault → IsNotLoadedDue fault d
      → HasScrubbed (both file left) (both peer peer) (λ o. printed d ≡ o)
  unopened_scrubs load_fault.Disk un due =
      first_fault file left load_fault.Disk un harmless peer no_other d (λ bytes s. inr (inl (inl (un.cause, refl, inl refl), ap printed due)))
  unopened_scrubs (load_fault.NotRepository at) un (inl due) =
      let own = un.cause in
      first_by file left (load_fault.NotRepository at) un harmless peer no_other d own.0 (agrees file.contents own.0 own.1) (no_scrub at) true (inl (at, own.2, refl))
      (inl (refl, un.faults (λ e. cc), refl, ap printed due)) (quiet_none peer)
  unopened_scrubs (load_fault.NotRepository at) un (inr due) =
      first_fault file left (load_fault.NotRepository at) un harmless peer no_other d (λ bytes s. inr (inr (inr (un.faults (λ e. cc), refl, ap printed due))))
  unopened_scrubs load_fault.Memory un due =
      first_fault file left load_fault.Memory un harmless peer no_other d (λ bytes s. inr (inr (inr (un.faults (λ e. cc), refl, ap printed due))))

-- ---- it is opened

is_full : (records : List Record) (len : ℕ) → 0 < len → scrub_of records len ≡ full_peer len
is_full records len some = ap (scrub_if records len) (no_zero len some)

module _ {D : Type 0} (state : D → DiskState) (file : DiskState) (old new : Whole D) (opened : IsOpened file (state old.disk) (loaded_of old)) (whole_old : IsWholeOn (state old.disk) old)
    (whole_new : IsWholeOn (state new.disk) new) (quiet : Quiet (state old.disk) (state new.disk)) (no_other : IsNow (state old.disk)) (peer left : DiskState) (keeps : Keeps peer left) (no_other_peer : IsNow peer) (d : Due) where
  abbrev records : List Record
  records = old.seen.state.records

  abbrev x : File
  x = both file (state new.disk)

  abbrev y : File
  y = both peer left

  abbrev bytes : List ℕ
  bytes = opened.stands.0

  is_file : IsFileOf bytes records
  is_file = opened.stands.2

  abbrev honest : Bool
  honest = is_modelled file

  same_honest : old.seen.state.honest ≡ honest
  same_honest = whole_old.honest ∙ same_kind file (state old.disk) opened.keeps

  abbrev Came : Type 0
  Came = HasScrubbed x y (λ o. printed d ≡ o)

  abbrev Answers : NewFile → List ℕ → Bool → Type 0
  Answers s others done = IsAnswer s x y bytes others kept done (λ o. printed d ≡ o)

  by_answer : (others : List ℕ) → Agrees peer.contents others → (s : NewFile) (done : Bool) → s ≡ scrub_of records (length others) → Answers s others done → IsPeerLeft honest s.of y done → Came
  by_answer others told s done is answer peer_left = (
    bytes,
    others,
    s,
    kept,
    done,
    record {
      file_told = agrees file.contents bytes opened.stands.1;
      peer_told = told;
      outcome = inr (records, is_file, is);
      answer = answer;
      bare = inr refl;
      here_left = read_left file (state old.disk) (state new.disk) (loaded_of old) opened quiet no_other bytes;
      trimmed = λ e held told. (records, idle_just (log_of old) (state old.disk) opened.belongs opened.is_open.runs opened.is_open.stable held (sym quiet.contents ∙ told));
      peer_left = peer_left;
      peer_keeps = keeps;
      unasked = λ e. absurd (no_kept_aside e);
      opened = λ e. (records, is_file);
    },
  )

  steady : new.seen.state.faults ≡ old.seen.state.faults → IsSteady x
  steady same = sym whole_new.faults ∙ same ∙ whole_old.faults ∙ opened.faults

  own_rose : Rose old.seen.state.faults new.seen.state.faults → Rose file.faults (state new.disk).faults
  own_rose rose = subst (λ (n : ℕ). Rose n (state new.disk).faults) (whole_old.faults ∙ opened.faults) (subst (λ (n : ℕ). Rose old.seen.state.faults n) whole_new.faults rose)

  -- the outcome is told, or there was no memory for it
  told_or_short : (s : NewFile) (others : List ℕ) → IsDue s.printed d → IsSteady x → IsSteady y → Answers s others true
  told_or_short s others (inl told) here there = inl (refl, here, there, told)
  told_or_short s others (inr told) here there = inr (inr (inr (here, there, told)))

  -- its length ends it
  away : (why : ScrubFault) → IsOfLength why peer left → Quiet peer left → new ≡ old → IsScrubDue (Err why) d → Came
  away (scrub_fault.NotEmpty len) (some, told, same) still stays due =
      let others = of_length peer.contents len told in
      by_answer others.0 others.1 (full_peer len) true (sym (is_full records len some) ∙ ap (scrub_of records) (sym others.2))
      (told_or_short (full_peer len) others.0 due (steady (ap (λ (w : Whole D). w.seen.state.faults) stays)) same) still
  away scrub_fault.Disk rose still stays due =
      let others = some_bytes peer.contents in
      by_answer others.0 others.1 (scrub_of records (length others.0)) false refl
      (inr (inl (inr (rose, steady (ap (λ (w : Whole D). w.seen.state.faults) stays), refl, inl still), due))) (quiet_left honest peer left still no_other_peer records is_file.fit (length others.0))
  away (scrub_fault.Damaged name found) of still stays due = absurd of
  away scrub_fault.Memory of still stays due = absurd of

  -- it is empty
  module _ (empty : WasEmpty peer) where
    empty_told : Agrees peer.contents []
    empty_told = agrees peer.contents [] (λ held told. sym (empty held told))

    abbrev s : NewFile
    s = record { printed = counted records; of = Some records }

    by_new : (done : Bool) (written : List Record) → Answers s [] done → IsNewFile honest records y done written → Came
    by_new done written answer is = by_answer [] empty_told s done refl answer (written, is)

    module _ (why : ScrubFault) (other : AsWritten old.seen.state (scrubbed records) (closing.IsNewFile {A = Scrubbed} peer left (Err why))) where
      fault_by : Answers s [] false → Came
      fault_by answer =
          by_new false other.0 answer (undone honest records is_file.fit peer left other.0 (subst (λ (b : Bool). AreWrittenAs b (scrubbed records) other.0) same_honest other.1) (other.2).moments)

    done_by : (made : Scrubbed) → IsScrubbed records made → AsWritten old.seen.state (scrubbed records) (closing.IsNewFile peer left (Ok made)) → left.faults ≡ peer.faults → new.seen.state ≡ old.seen.state
        → IsDue (counts made.blobs made.shuns made.len) d → Came
    done_by made is other same stays due =
        let numbers : counts made.blobs made.shuns made.len ≡ counted records = λ i. counts ((is.blobs ∙ sym (held_have_blobs records)) i) (is.shuns i) (is.len i) in
        by_new true other.0 (told_or_short s [] (subst (λ (p : Printed). IsDue p d) numbers due) (steady (ap (λ (t : State). t.faults) stays)) same)
        (whole honest records is_file.fit peer left other.0 (subst (λ (b : Bool). AreWrittenAs b (scrubbed records) other.0) same_honest other.1) made other.2)

    spoilt : (name found : List ℕ) → IsSpoilt old.seen.state name found → IsSpoiltIn honest (contents records) name found
    spoilt name found h =
        record { artifact = h.artifact; held = h.held; bytes = h.bytes; sized = h.sized; named = h.named; other = h.other; never = sym same_honest ∙ h.never }

    disk_by : AsWritten old.seen.state (scrubbed records) (closing.IsNewFile {A = Scrubbed} peer left (Err scrub_fault.Disk)) → OneFailed old.seen.state new.seen.state peer left
        → printed d ≡ disk_fault → Came
    disk_by other (inl (rose, same)) due = fault_by scrub_fault.Disk other (inr (inl (inl (own_rose rose, same, inr refl), due)))
    disk_by other (inr (rose, same)) due = fault_by scrub_fault.Disk other (inr (inl (inr (rose, steady same, refl, inr refl), due)))

    damaged_by : (name found : List ℕ) → AsWritten old.seen.state (scrubbed records) (closing.IsNewFile {A = Scrubbed} peer left (Err (scrub_fault.Damaged name found)))
        → ScrubFailed (scrub_fault.Damaged name found) old.seen.state new.seen.state peer left → printed d ≡ damaged name found → Came
    damaged_by name found other (is, (own, same)) due =
        fault_by (scrub_fault.Damaged name found) other (inr (inr (inl (name, found, ((records, is_file, spoilt name found is), refl), steady own, same, due))))

    begun_by : (made : Result Scrubbed ScrubFault) → IfErr made closing.IsOfWriting → IfOk made (IsScrubbed records) → AsWritten old.seen.state (scrubbed records) (closing.IsNewFile peer left made)
        → IfErr made (λ f. ScrubFailed f old.seen.state new.seen.state peer left) → OnOk made (left.faults ≡ peer.faults) → OnOk made (new.seen.state ≡ old.seen.state) → IsScrubDue made d → Came
    begun_by (Ok made) writing is other fault same stays due = done_by made is other same stays due
    begun_by (Err (scrub_fault.NotEmpty len)) writing is other fault same stays due = absurd writing
    begun_by (Err scrub_fault.Disk) writing is other fault same stays due = disk_by other fault due
    begun_by (Err (scrub_fault.Damaged name found)) writing is other fault same stays due = damaged_by name found other fault due
    begun_by (Err scrub_fault.Memory) writing is other fault same stays due = fault_by scrub_fault.Memory other (inr (inr (inr (steady fault.0, fault.1, due))))

  pub made_scrubs : (made : Result Scrubbed ScrubFault) → HasBegun old new peer left made → IfOk made (IsScrubbed records) → AsWritten old.seen.state (scrubbed records) (closing.IsNewFile peer left made)
      → IfErr made (λ f. ScrubFailed f old.seen.state new.seen.state peer left) → OnOk made (left.faults ≡ peer.faults) → OnOk made (new.seen.state ≡ old.seen.state) → IsScrubDue made d → Came
  made_scrubs made (inl (empty, writing)) is other fault same stays due = begun_by empty made writing is other fault same stays due
  made_scrubs (Ok made) (inr (of, still, unread)) is other fault same stays due = absurd of
  made_scrubs (Err why) (inr (of, still, unread)) is other fault same stays due = away why of still unread due

-- ---- the printing

answered_as : (s : NewFile) (file peer : File) (own others : List ℕ) (here : Part) (done : Bool) (P Q : Printed → Type 0) → ((o : Printed) → P o → Q o) → IsAnswer s file peer own others here done P → IsAnswer s file peer own others here done Q
answered_as s file peer own others here done P Q turn (inl (is, steady, peer_steady, told)) = inl (is, steady, peer_steady, turn s.printed told)
answered_as s file peer own others here done P Q turn (inr (inl (failed, told))) = inr (inl (failed, turn disk_fault told))
answered_as s file peer own others here done P Q turn (inr (inr (inl (name, found, is, steady, peer_steady, told)))) = inr (inr (inl (name, found, is, steady, peer_steady, turn (damaged name found) told)))
answered_as s file peer own others here done P Q turn (inr (inr (inr (steady, peer_steady, told)))) = inr (inr (inr (steady, peer_steady, turn no_memory told)))

-- what is due was printed
pub scrubbed_printed : (file peer : File) (d : Due) (out : Output) (status : ℕ) → HasScrubbed file peer (λ o. printed d ≡ o) → IsWritten (printed d) out status → HasScrubbed file peer (λ o. IsWritten o out status)
scrubbed_printed file peer d out status (bytes, others, s, here, done, h) written =
    let turn : (o : Printed) → printed d ≡ o → IsWritten o out status = λ o e. subst (λ (p : Printed). IsWritten p out status) e written in (
      bytes,
      others,
      s,
      here,
      done,
      record {
        file_told = h.file_told;
        peer_told = h.peer_told;
        outcome = h.outcome;
        answer = answered_as s file peer bytes others here done (λ o. printed d ≡ o) (λ o. IsWritten o out status) turn h.answer;
        bare = h.bare;
        here_left = h.here_left;
        trimmed = h.trimmed;
        peer_left = h.peer_left;
        peer_keeps = h.peer_keeps;
        unasked = h.unasked;
        opened = h.opened;
      },
    )

-- words for which there was no memory
pub idle_scrubbed : (file peer : DiskState) (out : Output) (status : ℕ) → IsNow file → IsNow peer → IsWritten no_memory out status → HasScrubbed (both file file) (both peer peer) (λ o. IsWritten o out status)
idle_scrubbed file peer out status no_other no_other_peer written =
    let own = some_bytes file.contents in
    let others = some_bytes peer.contents in
    let s = some_scrub own.0 others.0 in (
      own.0,
      others.0,
      s.0,
      aside,
      false,
      record {
        file_told = own.1;
        peer_told = others.1;
        outcome = s.1;
        answer = inr (inr (inr (refl, refl, written)));
        bare = inl refl;
        here_left = idle_left file no_other own.0;
        trimmed = λ e. absurd (no_aside_kept e);
        peer_left = quiet_scrub (is_modelled file) peer peer (quiet_none peer) no_other_peer own.0 others.0 s.0 s.1;
        peer_keeps = record { tells = refl; model = refl };
        unasked = λ e. untouched peer;
        opened = λ e. absurd (no_aside_kept e);
      },
    )

-- ---- commands

-- another command is no scrub
pub no_scrub_as : (a b : Command) → a ≡ b → command_scrubs b ≡ false → IsNoScrub a
no_scrub_as a b same is path e = let h : true ≡ false = sym (ap command_scrubs e) ∙ ap command_scrubs same ∙ is in absurd (cc)

pub uv_no_scrub : (a : Command) (asked : Unversioned) → a ≡ command_of.Unversioned asked → IsNoScrub a
uv_no_scrub a asked same path e = let h : command_of.Unversioned asked ≡ command_of.Scrub path = sym same ∙ e in absurd (cc)

-- and a scrub doesn't sync
pub scrub_alone : (a : Command) (path : List ℕ) → a ≡ command_of.Scrub path → IsTrue (command_syncs a) → ⊥
scrub_alone a path same asks = let e : true ≡ false = sym asks ∙ ap command_syncs same in cc

module _ (command : Command) (file peer : DiskState × DiskState) (out : SinkState × SinkState) (status : ℕ) where
  pub not_scrubbed : IsNoScrub command → ScrubsIf (Some command) file peer out status
  not_scrubbed no_scrub path said = absurd (no_scrub path (said_one command (command_of.Scrub path) said))
