-- What the commands did that don't touch the file.
use Rattle.std.proofs.Common.{◌≡◌, ◌≢◌, inl, inr, ℕ, ◌≤◌, Bool, true, false, List, [], length, Option, Some, None, Result, Ok, Err, IfOk, IfErr, IsTrue, refl, sym, ap, subst, arith}
use Rattle.std.specs.Prelude.{◌^◌, nat_lt, MatchBool}
use Rattle.std.specs.Io.KnownBytes.{IsAtEnd}
use Rattle.fsl_text.specs.declared.memory.Memory.{Memory}
use Rattle.fsl_disk.specs.Disk.{DiskState}
use Rattle.fsl_repo.specs.Whole.{is_modelled}
use Rattle.fsl_words.specs.declared.Command.{Command}
use Rattle.fsl_words.specs.declared.Command.TheVariants as command_of
use Rattle.fossil.specs.Due.{Due, printed_fault}
use Rattle.fossil.specs.declared.answers.fault.Fault.{Fault}
use Rattle.fossil.specs.declared.answers.fault.Fault.TheVariants as fault_is
use Rattle.fossil.specs.declared.reading.message.MessageFile.{MessageFile}
use Rattle.fossil.specs.Arrivals.{Taken, none_taken, Arrive}
use Rattle.fossil.proofs.ArrivalLemmas.{refused_files}
use Rattle.fossil.specs.Printed.{Printed}
use Rattle.fossil.specs.Printed as printing
use Rattle.fossil.specs.Gen.{IsGenPrinted}
use Rattle.fossil.specs.Ingest as ingest
use Rattle.fossil.specs.Outcome.{Outcome, without_commit, printed_of, usage, meets, IsSaidOutcome}
use Rattle.fossil.specs.Run.{Input, IsInputSteady, Output, Agrees, reads, opens, TakesMoment, IsWritten, HasRun}
use Rattle.fossil.specs.Acts.{HasActed, IsCaused, IsUnread, IsIngestRun}
use Rattle.fossil.proofs.InputLemmas.{some_bytes}
use Rattle.fossil.proofs.MessageLemmas.{refused_status}
use Rattle.fossil.proofs.FileLemmas.{both, quiet_none, idle_left, idle_touches, fault_undone, fault_fades, fault_left}
use Rattle.fossil.proofs.SomeOutcome.{some_said_outcome}
use Rattle.fossil.proofs.ActLemmas.{still, still_by, none_due}
use Rattle.fossil.proofs.PrintedLemmas.{no_zero, written}

module _ (command : Option Command) (input : Input) (clock : Option (List ℕ)) (file : DiskState) (no_other : IsTrue file.is_model → (c : List ℕ) → file.since file.moment c → file.images c) where
  abbrev Acted : Due → Type 0
  Acted result = HasActed command input (still clock) (both file file) result

  -- nothing was done but the outcome, which commits nothing
  pub idle_acted : IsInputSteady input → (IsTrue (opens command) → ⊥) → ((read bytes : List ℕ) → TakesMoment command read bytes → ⊥) → (read : List ℕ) (o : Outcome) → Agrees input.before.left read
      → IsSaidOutcome (is_modelled file) command read 0 (some_bytes file.contents).0 o → o.status ≤ 3
      → (o.status ≡ 0 → IsTrue (reads command) → IsAtEnd input.after.left) → o.commits ≡ [] → Acted (Ok (printed_of o))
  idle_acted input_steady closed never read o told is small end none =
      let bytes = some_bytes file.contents in (
        read,
        0,
        bytes.0,
        o,
        record {
          input_told = told;
          file_told = bytes.1;
          outcome = is;
          answer = refl;
          plain = small;
          cause = tt;
          end = end;
          contents = idle_left command file no_other bytes.0 o o.status (λ done. none);
          touches = idle_touches command file no_other bytes.0 o;
          durable = λ last opened. absurd (closed opened);
          trimmed = λ last opened. absurd (closed opened);
          spared = λ nine begun. quiet_none file;
          steady = λ other. refl;
          input_steady = λ other. input_steady;
        },
        none_due command clock true read 0 bytes.0 (never read bytes.0),
      )

  -- a fault before anything was done
  idle_fault : meets command ≡ false → (fault : Fault) → (fault ≢ fault_is.Input → IsInputSteady input) → (fault ≡ fault_is.Disk → ⊥) → ((bytes : List ℕ) (o : Outcome) → IsCaused command input (both file file) bytes o fault) → Acted (Err fault)
  idle_fault plain fault input_steady other cause =
      let read = some_bytes input.before.left in
      let bytes = some_bytes file.contents in
      let o = some_said_outcome (is_modelled file) command read.0 0 bytes.0 plain in (
        read.0,
        0,
        bytes.0,
        o.0,
        record {
          input_told = read.1;
          file_told = bytes.1;
          outcome = o.1;
          answer = tt;
          plain = tt;
          cause = cause bytes.0 o.0;
          end = λ z. absurd (no_zero fault z);
          contents = idle_left command file no_other bytes.0 o.0 (printed_fault fault).status (λ done. absurd (fault_undone fault done));
          touches = idle_touches command file no_other bytes.0 o.0;
          durable = λ last. absurd (fault_fades command fault last);
          trimmed = λ last. absurd (fault_left command fault last);
          spared = λ nine begun. quiet_none file;
          steady = λ unlike. refl;
          input_steady = λ unlike. input_steady (λ is. unlike (ap (λ (f : Fault). Err f) is));
        },
        still_by command input clock fault other read.0 0 bytes.0,
      )

  pub idle_memory : IsInputSteady input → meets command ≡ false → Acted (Err fault_is.Memory)
  idle_memory input_steady plain = idle_fault plain fault_is.Memory (λ other. input_steady) (λ e. cc) (λ bytes o. tt)

  pub idle_unread : meets command ≡ false → (fault : Fault) → IsUnread fault input → IsTrue (reads command) → (IsTrue (opens command) → ⊥) → Acted (Err fault)
  idle_unread plain fault_is.Usage un reads_it closed = absurd un
  idle_unread plain fault_is.Disk un reads_it closed = absurd un
  idle_unread plain fault_is.Input un reads_it closed = idle_fault plain fault_is.Input (λ other. absurd (other refl)) (λ e. cc) (λ bytes o. record { read = reads_it; rose = un; file = λ opened. absurd (closed opened) })
  idle_unread plain fault_is.Link un reads_it closed = absurd un
  idle_unread plain (fault_is.Damaged name found) un reads_it closed = absurd un
  idle_unread plain fault_is.Memory un reads_it closed = idle_memory un plain

-- what opens no file and comes to the usage
usage_of : (command : Option Command) → (IsTrue (opens command) → ⊥) → ((read bytes : List ℕ) → TakesMoment command read bytes → ⊥) → ((honest : Bool) (read : List ℕ) (moment : ℕ) (bytes : List ℕ) → IsSaidOutcome honest command read moment bytes usage)
    → (input : Input) → IsInputSteady input → (clock : Option (List ℕ)) (file : DiskState)
    → (IsTrue file.is_model → (c : List ℕ) → file.since file.moment c → file.images c) → (out : Output) (status : ℕ) → IsWritten printing.usage out status → HasRun command input (still clock) out (both file file) status
usage_of command closed never is input input_steady clock file no_other out status said =
    let read = some_bytes input.before.left in
    written command input (still clock) (both file file) (Ok (printed_of usage)) out status
    (idle_acted command input clock file no_other input_steady closed never read.0 usage read.1 (is (is_modelled file) read.0 0 (some_bytes file.contents).0) (omega arith) (λ z. absurd (cc)) refl) said

-- words that are no command
pub usage_run : (input : Input) → IsInputSteady input → (clock : Option (List ℕ)) (file : DiskState) → (IsTrue file.is_model → (c : List ℕ) → file.since file.moment c → file.images c) → (out : Output) (status : ℕ) → IsWritten printing.usage out status
    → HasRun None input (still clock) out (both file file) status
usage_run = usage_of None (λ opened. cc) (λ read bytes due. due) (λ honest read moment bytes. refl)

-- a serve, which is no command of a run
pub serve_run : (address users : List ℕ) (workers requests : ℕ) (input : Input) → IsInputSteady input → (clock : Option (List ℕ)) (file : DiskState) → (IsTrue file.is_model → (c : List ℕ) → file.since file.moment c → file.images c)
    → (out : Output) (status : ℕ) → IsWritten printing.usage out status → HasRun (Some (command_of.Serve address users workers requests)) input (still clock) out (both file file) status
serve_run address users workers requests = usage_of (Some (command_of.Serve address users workers requests)) (λ opened. cc) (λ read bytes due. due) (λ honest read moment bytes. refl)

-- ---- ingest

small_printed : (files : List MessageFile) (result : Result Taken Printed) (answer : Printed) → Arrive None (none_taken ingest.fresh) files result → ingest.IsPrintedBy result answer → answer.status ≤ 3
small_printed files (Ok t) answer arrive is = let z = ap (λ (a : Printed). a.status) is.2 in omega (arith, z)
small_printed files (Err refusal) answer arrive is = let e = refused_files None files (none_taken ingest.fresh) refusal arrive in let same = ap (λ (a : Printed). a.status) is in omega (arith, e, same)

small_read : (read : List ℕ) (answer : Printed) → ingest.IsRead read answer → answer.status ≤ 3
small_read read answer (inl h) = let e = refused_status read answer h in omega (arith, e)
small_read read answer (inr h) = small_printed h.0 h.2.0 answer h.2.1 h.2.2

small_ingest : (read : List ℕ) (t : Bool) (answer : Printed) → MatchBool t (answer ≡ printing.too_long) (ingest.IsRead read answer) → answer.status ≤ 3
small_ingest read true answer h = let e = ap (λ (a : Printed). a.status) h in omega (arith, e)
small_ingest read false answer h = small_read read answer h

pub ingest_acted : (input : Input) (clock : Option (List ℕ)) (file : DiskState) → (IsTrue file.is_model → (c : List ℕ) → file.since file.moment c → file.images c) → (result : Due)
    → IfOk result (IsIngestRun input) → IfErr result (λ fault. IsUnread fault input) → HasActed (Some command_of.Ingest) input (still clock) (both file file) result
ingest_acted input clock file no_other (Ok answer) run un =
    idle_acted (Some command_of.Ingest) input clock file no_other run.input_steady (λ opened. cc) (λ read bytes due. due) run.read (without_commit answer) run.told (answer, run.ingested, refl) (small_ingest run.read (nat_lt (2 ^ 27) (length run.read)) answer run.ingested) (λ z reads. run.end z) refl
ingest_acted input clock file no_other (Err fault) run un = idle_unread (Some command_of.Ingest) input clock file no_other refl fault un refl (λ e. cc)

-- ---- gen

pub gen_acted : (count : ℕ) (reversed : Bool) (input : Input) → IsInputSteady input → (clock : Option (List ℕ)) (file : DiskState) → (IsTrue file.is_model → (c : List ℕ) → file.since file.moment c → file.images c) → (made : Result Printed Memory) (result : Due)
    → IfOk made (IsGenPrinted count reversed) → IfOk made (λ a. result ≡ Ok a) → IfErr made (λ _. result ≡ Err fault_is.Memory)
    → HasActed (Some (command_of.Gen count reversed)) input (still clock) (both file file) result
gen_acted count reversed input input_steady clock file no_other (Ok answer) result printed ok err =
    let read = some_bytes input.before.left in
    let small : answer.status ≤ 3 = let z = ap (λ (a : Printed). a.status) printed.2 in omega (arith, z) in
    subst (λ (d : Due). HasActed (Some (command_of.Gen count reversed)) input (still clock) (both file file) d) (sym ok)
    (idle_acted (Some (command_of.Gen count reversed)) input clock file no_other input_steady (λ opened. cc) (λ read bytes due. due) read.0 (without_commit answer) read.1 (answer, printed, refl) small (λ z reads. absurd (cc)) refl)
gen_acted count reversed input input_steady clock file no_other (Err memory) result printed ok err =
    subst (λ (d : Due). HasActed (Some (command_of.Gen count reversed)) input (still clock) (both file file) d) (sym err) (idle_memory (Some (command_of.Gen count reversed)) input clock file no_other input_steady refl)
