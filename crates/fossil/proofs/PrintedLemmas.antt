-- What a run says once the text of what it did is written.
use Rattle.std.proofs.Common.{◌≡◌, ◌≢◌, ◌⊎◌, inl, inr, ⊎_elim, ℕ, Bool, true, false, cond, List, Ok, Err, Option, Some, None, IsTrue, refl, sym, ap, subst, ◌∙◌, arith}
use Rattle.std.specs.Prelude.{◌==◌, ◌&&◌, is_ok}
use Rattle.fsl_order.specs.Causes.{Rose}
use Rattle.fsl_disk.specs.Disk.{DiskState, IsModelled}
use Rattle.fsl_repo.specs.Whole.{is_modelled}
use Rattle.fsl_words.specs.declared.Command.{Command}
use Rattle.fsl_words.specs.declared.Command.TheVariants as command_of
use Rattle.fossil.specs.Due.{Due, printed, printed_fault, IsDue, IsAnsweredWith}
use Rattle.fossil.specs.declared.answers.fault.Fault.{Fault}
use Rattle.fossil.specs.declared.answers.fault.Fault.TheVariants as fault_is
use Rattle.fossil.specs.Printed.{Printed}
use Rattle.fossil.specs.Outcome.{Outcome, printed_of}
use Rattle.fossil.specs.Run.{Input, IsInputSteady, Clock, Output, File, is_answered, TakesNone, IsTimed, IsCutTimed, IsWritten, all, front, IsDamaged, IsFaulted, IsFileLeft, IsLeft, lasts, IsDurable, IsSpared, RunsBy, HasRun, trims, IsTrimmed}
use Rattle.fossil.specs.Acts.{ActsBy, HasActed, IsTimedBy, IsCaused}

-- what is answered is due
pub due_of : (a : Printed) (d : Due) → IsAnsweredWith a d → IsDue a d
due_of a d (inl e) = inl (ap printed e)
due_of a d (inr e) = inr (ap printed e)

abbrev OutputRose : Output → Type 0
OutputRose out = Rose out.before.faults out.after.faults

-- the status stays, or a report is cut off
abbrev pub Ends : Printed → ℕ → Output → Type 0
Ends p status out = (status ≡ p.status) ⊎ ((p.status ≡ 0) × (status ≡ 6) × OutputRose out)

zero_or : (n : ℕ) (zero : Bool) → (n == 0) ≡ zero → (status : ℕ) → status ≡ cond zero 6 n → (status ≡ n) ⊎ ((n ≡ 0) × (status ≡ 6))
zero_or n true z status e = let is : n ≡ 0 = grind (arith) in inr (is, e)
zero_or n false z status e = inl e

pub ends : (p : Printed) (status : ℕ) (out : Output) → IsWritten p out status → Ends p status out
ends p status out (all e appended quiet) = inl e
ends p status out (front e cut) = ⊎_elim inl (λ z. inr (z.0, z.1, cut.4)) (zero_or p.status (p.status == 0) refl status e)

pub no_zero : (fault : Fault) → (printed_fault fault).status ≡ 0 → ⊥
no_zero fault_is.Usage z = cc
no_zero fault_is.Disk z = cc
no_zero fault_is.Input z = cc
no_zero fault_is.Link z = cc
no_zero (fault_is.Damaged name found) z = cc
no_zero fault_is.Memory z = cc

answered_timed : (command : Option Command) (clock : Clock) (result : Due) (status : ℕ) (read : List ℕ) (moment : ℕ) (bytes : List ℕ) → (IsTrue (is_answered status) → IsTrue (is_ok result))
    → IsTimed command clock (is_ok result) read moment bytes → IsTimed command clock (is_answered status) read moment bytes
answered_timed command clock result status read moment bytes ok (inl one) = inl one
answered_timed command clock result status read moment bytes ok (inr none) = inr ((λ answered. none.0 (ok answered)), none.1)

-- where a fault ended the command a moment was taken that it takes, or none was
plain_timed : (command : Option Command) (input : Input) (clock : Clock) (result : Due) (read : List ℕ) (moment : ℕ) (bytes : List ℕ)
    → IsTimedBy command input clock result read moment bytes → IsTimed command clock (is_ok result) read moment bytes
plain_timed command input clock (Ok answer) read moment bytes timed = timed
plain_timed command input clock (Err fault_is.Disk) read moment bytes (inl none) = inr ((λ answered. absurd (cc)), none.1)
plain_timed command input clock (Err fault_is.Disk) read moment bytes (inr (inl one)) = inl one
plain_timed command input clock (Err fault_is.Disk) read moment bytes (inr (inr none)) = inr ((λ answered. absurd (cc)), none.1)
plain_timed command input clock (Err fault_is.Input) read moment bytes none = inr ((λ answered. absurd (cc)), none)
plain_timed command input clock (Err fault_is.Usage) read moment bytes timed = timed
plain_timed command input clock (Err fault_is.Link) read moment bytes timed = timed
plain_timed command input clock (Err (fault_is.Damaged name found)) read moment bytes timed = timed
plain_timed command input clock (Err fault_is.Memory) read moment bytes timed = timed

-- over a disk that tells its contents and meets the disk model no content has another name
modelled_kind : (disk : DiskState) → IsModelled disk → is_modelled disk ≡ true
modelled_kind disk m = λ i. m.tells i && m.model i

not_spoilt : (command : Option Command) {disk : DiskState} (bytes name found : List ℕ) → IsModelled disk → IsDamaged (is_modelled disk) command bytes name found → ⊥
not_spoilt None bytes name found m h = h
not_spoilt (Some (command_of.Ask question)) {disk} bytes name found m h = let no = sym (modelled_kind disk m) ∙ h.3.never in cc
not_spoilt (Some (command_of.Init project server fields)) bytes name found m h = h
not_spoilt (Some command_of.Ingest) bytes name found m h = h
not_spoilt (Some command_of.Put) bytes name found m h = h
not_spoilt (Some (command_of.Shun other)) bytes name found m h = h
not_spoilt (Some (command_of.Unshun other)) bytes name found m h = h
not_spoilt (Some (command_of.Serve address users workers requests)) bytes name found m h = h
not_spoilt (Some (command_of.Checkin parent user comment)) bytes name found m h = h
not_spoilt (Some (command_of.Export prefix)) {disk} bytes name found m h = let no = sym (modelled_kind disk m) ∙ h.2.1.never in cc
not_spoilt (Some (command_of.Verify prefix)) {disk} bytes name found m h = let no = sym (modelled_kind disk m) ∙ h.2.1.never in cc
not_spoilt (Some (command_of.Scrub path)) bytes name found m h = h
not_spoilt (Some (command_of.Unversioned asked)) bytes name found m h = h
not_spoilt (Some (command_of.Gen count reversed)) bytes name found m h = h
not_spoilt (Some (command_of.Pull address login)) bytes name found m h = h
not_spoilt (Some (command_of.Push address login)) bytes name found m h = h
not_spoilt (Some (command_of.Clone address server fields)) bytes name found m h = h
not_spoilt (Some (command_of.PullLocal path)) bytes name found m h = h

module _ (command : Option Command) (input : Input) (file : File) (read : List ℕ) (moment : ℕ) (bytes : List ℕ) (o : Outcome) where
  -- a status of no fault is that of an answer
  fault_answered : (fault : Fault) → IsCaused command input file bytes o fault → IsTrue (is_answered (printed_fault fault).status) → ⊥
  fault_answered fault_is.Usage h e = h
  fault_answered fault_is.Disk h e = cc
  fault_answered fault_is.Input h e = cc
  fault_answered fault_is.Link h e = h
  fault_answered (fault_is.Damaged name found) h e = cc
  fault_answered fault_is.Memory h e = cc

  no_fault : (result : Due) (status : ℕ) (out : Output) → ActsBy command input file result read moment bytes o → Ends (printed result) status out → IsTrue (is_answered status) → IsTrue (is_ok result)
  no_fault (Ok answer) status out acts e answered = refl
  no_fault (Err fault) status out acts (inl e) answered = absurd (fault_answered fault acts.cause (subst (λ (n : ℕ). IsTrue (is_answered n)) e answered))
  no_fault (Err fault) status out acts (inr cut) answered = absurd (no_zero fault cut.0)

  -- a status of a fault is that of this fault
  of_disk : (fault : Fault) → (printed_fault fault).status ≡ 4 → IsCaused command input file bytes o fault → Rose file.before.faults file.after.faults
  of_disk fault_is.Usage e h = absurd h
  of_disk fault_is.Disk e h = h.rose
  of_disk fault_is.Input e h = absurd (cc)
  of_disk fault_is.Link e h = absurd h
  of_disk (fault_is.Damaged name found) e h = absurd (cc)
  of_disk fault_is.Memory e h = absurd (cc)

  of_input : (fault : Fault) → (printed_fault fault).status ≡ 5 → IsCaused command input file bytes o fault → Rose input.before.faults input.after.faults
  of_input fault_is.Usage e h = absurd h
  of_input fault_is.Disk e h = absurd (cc)
  of_input fault_is.Input e h = h.rose
  of_input fault_is.Link e h = absurd h
  of_input (fault_is.Damaged name found) e h = absurd (cc)
  of_input fault_is.Memory e h = absurd (cc)

  no_output : (fault : Fault) → (printed_fault fault).status ≡ 6 → ⊥
  no_output fault_is.Usage e = cc
  no_output fault_is.Disk e = cc
  no_output fault_is.Input e = cc
  no_output fault_is.Link e = cc
  no_output (fault_is.Damaged name found) e = cc
  no_output fault_is.Memory e = cc

  disk_of : (result : Due) → ActsBy command input file result read moment bytes o → (printed result).status ≡ 4 → Rose file.before.faults file.after.faults
  disk_of (Ok answer) acts four = let plain = acts.plain in absurd (omega (arith, plain, four))
  disk_of (Err fault) acts four = of_disk fault four acts.cause

  input_of_result : (result : Due) → ActsBy command input file result read moment bytes o → (printed result).status ≡ 5 → Rose input.before.faults input.after.faults
  input_of_result (Ok answer) acts five = let plain = acts.plain in absurd (omega (arith, plain, five))
  input_of_result (Err fault) acts five = of_input fault five acts.cause

  -- and how far it came
  cut_of : (clock : Clock) (result : Due) → ActsBy command input file result read moment bytes o → IsTimedBy command input clock result read moment bytes → (printed result).status ≡ 4
      → IsCutTimed command input clock read moment bytes
  cut_of clock (Ok answer) acts timed four = let plain = acts.plain in absurd (omega (arith, plain, four))
  cut_of clock (Err fault_is.Usage) acts timed four = absurd (cc)
  cut_of clock (Err fault_is.Disk) acts timed four = timed
  cut_of clock (Err fault_is.Input) acts timed four = absurd (cc)
  cut_of clock (Err fault_is.Link) acts timed four = absurd (cc)
  cut_of clock (Err (fault_is.Damaged name found)) acts timed four = absurd (cc)
  cut_of clock (Err fault_is.Memory) acts timed four = absurd (cc)

  none_of : (clock : Clock) (result : Due) → ActsBy command input file result read moment bytes o → IsTimedBy command input clock result read moment bytes → (printed result).status ≡ 5 → TakesNone clock
  none_of clock (Ok answer) acts timed five = let plain = acts.plain in absurd (omega (arith, plain, five))
  none_of clock (Err fault_is.Usage) acts timed five = absurd (cc)
  none_of clock (Err fault_is.Disk) acts timed five = absurd (cc)
  none_of clock (Err fault_is.Input) acts timed five = timed
  none_of clock (Err fault_is.Link) acts timed five = absurd (cc)
  none_of clock (Err (fault_is.Damaged name found)) acts timed five = absurd (cc)
  none_of clock (Err fault_is.Memory) acts timed five = absurd (cc)

  no_six : (result : Due) → ActsBy command input file result read moment bytes o → (printed result).status ≡ 6 → ⊥
  no_six (Ok answer) acts six = let plain = acts.plain in omega (arith, plain, six)
  no_six (Err fault) acts six = no_output fault six

  -- no content of a modelled disk is damaged
  never_damaged : (fault : Fault) → (printed_fault fault).status ≡ 12 → IsCaused command input file bytes o fault → IsModelled file.before → ⊥
  never_damaged fault_is.Usage e h modelled = h
  never_damaged fault_is.Disk e h modelled = cc
  never_damaged fault_is.Input e h modelled = cc
  never_damaged fault_is.Link e h modelled = h
  never_damaged (fault_is.Damaged name found) e h modelled = not_spoilt command bytes name found modelled h.0
  never_damaged fault_is.Memory e h modelled = cc

  undamaged_of : (result : Due) → ActsBy command input file result read moment bytes o → IsModelled file.before → (printed result).status ≡ 12 → ⊥
  undamaged_of (Ok answer) acts modelled twelve = let plain = acts.plain in omega (arith, plain, twelve)
  undamaged_of (Err fault) acts modelled twelve = never_damaged fault twelve acts.cause modelled

  module _ (out : Output) (status : ℕ) where
    faulted : (fault : Fault) → IsCaused command input file bytes o fault → IsWritten (printed_fault fault) out status → IsFaulted command input out file status bytes o
    faulted fault_is.Usage cause said = absurd cause
    faulted fault_is.Disk cause said = inl (cause, said)
    faulted fault_is.Input cause said = inr (inl (cause, said))
    faulted fault_is.Link cause said = absurd cause
    faulted (fault_is.Damaged name found) cause said = inr (inr (inr (record { name = name; found = found; damaged = cause.0; faults = cause.1; said = said })))
    faulted fault_is.Memory cause said = inr (inr (inl said))

    answer_by : (result : Due) → ActsBy command input file result read moment bytes o → IsWritten (printed result) out status → IsWritten (printed_of o) out status ⊎ IsFaulted command input out file status bytes o
    answer_by (Ok answer) acts written = inl (subst (λ (a : Printed). IsWritten a out status) acts.answer written)
    answer_by (Err fault) acts written = inr (faulted fault acts.cause written)

    module _ (clock : Clock) (result : Due) (acts : ActsBy command input file result read moment bytes o) (timed : IsTimedBy command input clock result read moment bytes) where
      left_by : Ends (printed result) status out → IsFileLeft command file status bytes o
      left_by (inl e) = subst (λ (n : ℕ). IsFileLeft command file n bytes o) (sym e) acts.contents
      left_by (inr cut) = λ old held file_told left_told are known.
          let all = acts.contents old held file_told left_told are (λ four. absurd (let z = cut.0 in cc)) in
          subst (λ (n : ℕ). IsLeft n old o.commits held) (sym cut.1) (subst (λ (n : ℕ). IsLeft n old o.commits held) cut.0 all)

      zero_by : Ends (printed result) status out → status ≡ 0 → (printed result).status ≡ 0
      zero_by (inl e) z = sym e ∙ z
      zero_by (inr cut) z = cut.0

      durable_by : Ends (printed result) status out → IsTrue (lasts command status) → IsDurable command file bytes o
      durable_by (inl e) last = acts.durable (subst (λ (n : ℕ). IsTrue (lasts command n)) e last)
      durable_by (inr cut) last = acts.durable (subst (λ (n : ℕ). IsTrue (lasts command n)) (sym cut.0) refl)

      trimmed_by : Ends (printed result) status out → IsTrue (trims command status) → IsTrimmed command file
      trimmed_by (inl e) last = acts.trimmed (subst (λ (n : ℕ). IsTrue (trims command n)) e last)
      trimmed_by (inr cut) last = acts.trimmed (subst (λ (n : ℕ). IsTrue (trims command n)) (sym cut.0) refl)

      spared_by : Ends (printed result) status out → IsSpared command file status
      spared_by (inl e) nine = acts.spared (sym e ∙ nine)
      spared_by (inr cut) nine = absurd (let six = cut.1 in cc)

      disk_by : Ends (printed result) status out → status ≡ 4 → Rose file.before.faults file.after.faults
      disk_by (inl e) four = disk_of result acts (sym e ∙ four)
      disk_by (inr cut) four = absurd (let six = cut.1 in cc)

      input_by : Ends (printed result) status out → status ≡ 5 → Rose input.before.faults input.after.faults
      input_by (inl e) five = input_of_result result acts (sym e ∙ five)
      input_by (inr cut) five = absurd (let six = cut.1 in cc)

      output_by : Ends (printed result) status out → status ≡ 6 → OutputRose out
      output_by (inl e) six = absurd (no_six result acts (sym e ∙ six))
      output_by (inr cut) six = cut.2

      undamaged_by : Ends (printed result) status out → IsModelled file.before → status ≡ 12 → ⊥
      undamaged_by (inl e) modelled twelve = undamaged_of result acts modelled (sym e ∙ twelve)
      undamaged_by (inr cut) modelled twelve = let six = cut.1 in cc

      -- another status is that of no such fault
      not_of : Ends (printed result) status out → (fault : Fault) → status ≢ (printed_fault fault).status → result ≢ Err fault
      not_of (inl e) fault other is = other (e ∙ ap (λ (d : Due). (printed d).status) is)
      not_of (inr cut) fault other is = no_zero fault (sym (ap (λ (d : Due). (printed d).status) is) ∙ cut.0)

      steady_by : Ends (printed result) status out → status ≢ 4 → file.after.faults ≡ file.before.faults
      steady_by e other = acts.steady (not_of e fault_is.Disk other)

      input_steady_by : Ends (printed result) status out → status ≢ 5 → IsInputSteady input
      input_steady_by e other = acts.input_steady (not_of e fault_is.Input other)

      timed_by : Ends (printed result) status out → IsTimed command clock (is_answered status) read moment bytes
      timed_by e = answered_timed command clock result status read moment bytes (no_fault result status out acts e) (plain_timed command input clock result read moment bytes timed)

      asked_by : Ends (printed result) status out → status ≡ 4 → IsCutTimed command input clock read moment bytes
      asked_by (inl e) four = cut_of clock result acts timed (sym e ∙ four)
      asked_by (inr cut) four = absurd (let six = cut.1 in cc)

      unasked_by : Ends (printed result) status out → status ≡ 5 → TakesNone clock
      unasked_by (inl e) five = none_of clock result acts timed (sym e ∙ five)
      unasked_by (inr cut) five = absurd (let six = cut.1 in cc)

      written_by : IsWritten (printed result) out status → RunsBy command input clock out file status read moment bytes o
      written_by written =
          let end = ends (printed result) status out written in
          record {
            input_told = acts.input_told;
            file_told = acts.file_told;
            outcome = acts.outcome;
            timed = timed_by end;
            asked = asked_by end;
            unasked = unasked_by end;
            answer = answer_by result acts written;
            end = λ z. acts.end (zero_by end z);
            contents = left_by end;
            kept = acts.touches.kept;
            any_moment = acts.touches.any_moment;
            durable = durable_by end;
            trimmed = trimmed_by end;
            spared = spared_by end;
            keeps = acts.touches.keeps;
            steady = steady_by end;
            input_steady = input_steady_by end;
            disk_fault = disk_by end;
            input_fault = input_by end;
            output_fault = output_by end;
            undamaged = undamaged_by end;
          }

pub written : (command : Option Command) (input : Input) (clock : Clock) (file : File) (result : Due) (out : Output) (status : ℕ) → HasActed command input clock file result → IsWritten (printed result) out status
    → HasRun command input clock out file status
written command input clock file result out status acted is =
    (acted.0, acted.1, acted.2, acted.3, written_by command input file acted.0 acted.1 acted.2 acted.3 out status clock result acted.4 acted.5 is)
