-- What the commands did that load the file.
use Rattle.std.proofs.Common.{◌≡◌, ◌⊎◌, inl, inr, ℕ, Bool, true, false, List, [], Some, Ok, Err, IsTrue, refl, sym, ap, subst, arith}
use Rattle.fsl_order.specs.Causes.{Rose}
use Rattle.fsl_record.specs.declared.Record.{Record}
use Rattle.fsl_disk.specs.Disk.{DiskState, IsModelled}
use Rattle.fsl_outside.specs.Streams.{SourceState}
use Rattle.fsl_journal.specs.File.{IsFileOf, FailsAt}
use Rattle.fsl_journal.proofs.Failing.{no_file}
use Rattle.fsl_journal.specs.declared.LoadFault.{LoadFault}
use Rattle.fsl_journal.specs.declared.LoadFault.TheVariants as load_fault
use Rattle.fsl_repo.specs.Whole.{is_modelled}
use Rattle.fsl_words.specs.declared.Command.{Command}
use Rattle.fsl_words.specs.declared.Command.TheVariants as command_of
use Rattle.fsl_words.specs.declared.Question.{Question}
use Rattle.std.specs.Prelude.{Option, is_some}
use Rattle.fossil.specs.Due.{Due, IsNotLoadedDue}
use Rattle.fossil.specs.declared.answers.fault.Fault.{Fault}
use Rattle.fossil.specs.declared.answers.fault.Fault.TheVariants as fault_is
use Rattle.fossil.specs.Outcome.{Outcome, printed_of, not_repository, IsSaidOutcome}
use Rattle.fossil.specs.Run.{Input, IsInputSteady, Clock, Agrees, reads, TakesMoment, IsTimed, IsInputFault, IsDamaged, IsFileLeft}
use Rattle.fossil.specs.Acts.{ActsBy, HasActed, IsTimedBy, Touches, IsUnopened, IsUnread, KeepsContents, KeepsImages}
use Rattle.fossil.proofs.InputLemmas.{some_bytes}
use Rattle.fossil.proofs.FileLemmas.{both, Loads, stands, agrees, none_committed, loaded_left, loaded_touches}
use Rattle.fossil.proofs.SomeOutcome.{some_said_outcome}

pub put_loads : Loads (Some command_of.Put)
put_loads = record { opened = refl; begun = λ begun. cc; old = λ old bytes are. are; refused = λ bytes refused. refused; fails = λ honest read moment bytes at fails. inl (at, fails, refl); alone = refl; due = λ read bytes due. due.0 }

pub shun_loads : (name : List ℕ) → Loads (Some (command_of.Shun name))
shun_loads name = record { opened = refl; begun = λ begun. cc; old = λ old bytes are. are; refused = λ bytes refused. refused; fails = λ honest read moment bytes at fails. inl (at, fails, refl); alone = refl; due = λ read bytes due. absurd due }

pub unshun_loads : (name : List ℕ) → Loads (Some (command_of.Unshun name))
unshun_loads name = record { opened = refl; begun = λ begun. cc; old = λ old bytes are. are; refused = λ bytes refused. refused; fails = λ honest read moment bytes at fails. inl (at, fails, refl); alone = refl; due = λ read bytes due. absurd due }

pub ask_loads : (question : Question) → Loads (Some (command_of.Ask question))
ask_loads question = record { opened = refl; begun = λ begun. cc; old = λ old bytes are. are; refused = λ bytes refused. refused; fails = λ honest read moment bytes at fails. inl (at, fails, refl); alone = refl; due = λ read bytes due. absurd due }

-- ---- faults, by what was read

module _ (command : Option Command) (loads : Loads command) (input : Input) (file left : DiskState) (read : List ℕ) (moment : ℕ) (bytes : List ℕ) (o : Outcome)
    (input_told : Agrees input.before.left read) (file_told : Agrees file.contents bytes) (outcome : IsSaidOutcome (is_modelled file) command read moment bytes o) (touches : Touches command (both file left) bytes o) where
  pub memory_by : left.faults ≡ file.faults → IsInputSteady input → KeepsContents file left → ActsBy command input (both file left) (Err fault_is.Memory) read moment bytes o
  memory_by steady input_steady contents = record {
    input_told = input_told;
    file_told = file_told;
    outcome = outcome;
    answer = tt;
    plain = tt;
    cause = tt;
    end = λ z. absurd (cc);
    contents = loaded_left command loads file left bytes o 9 (λ done. absurd (cc)) contents;
    touches = touches;
    durable = λ last. absurd (cc);
    trimmed = λ last. absurd (cc);
    spared = λ nine begun. absurd (loads.begun begun);
    steady = λ other. steady;
    input_steady = λ other. input_steady;
  }

  input_by : left.faults ≡ file.faults → IsInputFault command input bytes → KeepsContents file left → ActsBy command input (both file left) (Err fault_is.Input) read moment bytes o
  input_by steady cause contents = record {
    input_told = input_told;
    file_told = file_told;
    outcome = outcome;
    answer = tt;
    plain = tt;
    cause = cause;
    end = λ z. absurd (cc);
    contents = loaded_left command loads file left bytes o 5 (λ done. absurd (cc)) contents;
    touches = touches;
    durable = λ last. absurd (cc);
    trimmed = λ last. absurd (cc);
    spared = λ nine begun. absurd (loads.begun begun);
    steady = λ other. steady;
    input_steady = λ other. absurd (other refl);
  }

  pub disk_by : Rose file.faults left.faults → IsInputSteady input → (input.after ≡ input.before) ⊎ (o.commits ≡ [] → ⊥) → IsFileLeft command (both file left) 4 bytes o
      → ActsBy command input (both file left) (Err fault_is.Disk) read moment bytes o
  disk_by rose input_steady moment contents = record {
    input_told = input_told;
    file_told = file_told;
    outcome = outcome;
    answer = tt;
    plain = tt;
    cause = record { opened = loads.opened; rose = rose; moment = moment };
    end = λ z. absurd (cc);
    contents = contents;
    touches = touches;
    durable = λ last. absurd (cc);
    trimmed = λ last. absurd (cc);
    spared = λ nine begun. absurd (loads.begun begun);
    steady = λ other. absurd (other refl);
    input_steady = λ other. input_steady;
  }

  -- a content is damaged
  pub damaged_by : (name found : List ℕ) → IsDamaged (is_modelled file) command bytes name found → left.faults ≡ file.faults → IsInputSteady input → KeepsContents file left
      → ActsBy command input (both file left) (Err (fault_is.Damaged name found)) read moment bytes o
  damaged_by name found damaged faults input_steady contents = record {
    input_told = input_told;
    file_told = file_told;
    outcome = outcome;
    answer = tt;
    plain = tt;
    cause = (damaged, faults);
    end = λ z. absurd (cc);
    contents = loaded_left command loads file left bytes o 12 (λ done. absurd (cc)) contents;
    touches = touches;
    durable = λ last. absurd (cc);
    trimmed = λ last. absurd (cc);
    spared = λ nine begun. absurd (loads.begun begun);
    steady = λ other. faults;
    input_steady = λ other. input_steady;
  }

  -- the place at which the file fails is told
  nowhere_by : (at : ℕ) → o ≡ not_repository at → KeepsContents file left → KeepsImages file left → left.faults ≡ file.faults → IsInputSteady input → ActsBy command input (both file left) (Ok (printed_of (not_repository at))) read moment bytes o
  nowhere_by at is contents images faults input_steady = record {
    input_told = input_told;
    file_told = file_told;
    outcome = outcome;
    answer = λ i. printed_of (sym is i);
    plain = omega arith;
    cause = tt;
    end = λ z. absurd (cc);
    contents = loaded_left command loads file left bytes o 2 (λ done. absurd (cc)) contents;
    touches = touches;
    durable = λ last. absurd (cc);
    trimmed = λ last. absurd (cc);
    spared = λ nine begun. absurd (loads.begun begun);
    steady = λ other. faults;
    input_steady = λ other. input_steady;
  }

  -- the input wasn't read
  pub unread_by : (fault : Fault) → IsUnread fault input → IsTrue (reads command) → (records : List Record) → IsFileOf bytes records → left.faults ≡ file.faults → KeepsContents file left
      → ActsBy command input (both file left) (Err fault) read moment bytes o
  unread_by fault_is.Usage un reads_it records is steady contents = absurd un
  unread_by fault_is.Disk un reads_it records is steady contents = absurd un
  unread_by fault_is.Input un reads_it records is steady contents = input_by steady (record { read = reads_it; rose = un; file = λ opened. (records, is) }) contents
  unread_by fault_is.Link un reads_it records is steady contents = absurd un
  unread_by (fault_is.Damaged name found) un reads_it records is steady contents = absurd un
  unread_by fault_is.Memory un reads_it records is steady contents = memory_by steady un contents

-- ---- the clock

-- a clock that isn't asked
abbrev pub still : Option (List ℕ) → Clock
still told = record { before = told; after = told }

-- a run that a fault ends need not ask it
pub fault_still : (command : Option Command) (told : Option (List ℕ)) (read : List ℕ) (moment : ℕ) (bytes : List ℕ) → IsTimed command (still told) false read moment bytes
fault_still command told read moment bytes = inr ((λ answered. absurd (cc)), refl)

-- whatever fault it is, unless the disk failed
pub still_by : (command : Option Command) (input : Input) (told : Option (List ℕ)) (fault : Fault) → (fault ≡ fault_is.Disk → ⊥) → (read : List ℕ) (moment : ℕ) (bytes : List ℕ)
    → IsTimedBy command input (still told) (Err fault) read moment bytes
still_by command input told fault_is.Usage other read moment bytes = fault_still command told read moment bytes
still_by command input told fault_is.Disk other read moment bytes = absurd (other refl)
still_by command input told fault_is.Input other read moment bytes = refl
still_by command input told fault_is.Link other read moment bytes = fault_still command told read moment bytes
still_by command input told (fault_is.Damaged name found) other read moment bytes = fault_still command told read moment bytes
still_by command input told fault_is.Memory other read moment bytes = fault_still command told read moment bytes

-- no moment is due
pub none_due : (command : Option Command) (told : Option (List ℕ)) (answered : Bool) (read : List ℕ) (moment : ℕ) (bytes : List ℕ) → (TakesMoment command read bytes → ⊥)
    → IsTimed command (still told) answered read moment bytes
none_due command told answered read moment bytes none = inr ((λ is due. none due), refl)

-- a file that is no repository stands for no records
pub unread_none : (command : Option Command) (loads : Loads command) (read bytes : List ℕ) (at : ℕ) → FailsAt bytes at → TakesMoment command read bytes → ⊥
unread_none command loads read bytes at fails due = let file = loads.due read bytes due in no_file bytes at file.0 fails file.1

-- ---- a file that isn't loaded

module _ (command : Option Command) (loads : Loads command) (source : SourceState) (clock : Option (List ℕ)) (file left : DiskState) (file_reads : (held : List ℕ) → IsTrue left.is_model → left.contents ≡ Some held → left.images held) where
  abbrev input : Input
  input = record { before = source; after = source }

  abbrev Acted : Due → Type 0
  Acted result = HasActed command input (still clock) (record { before = file; after = left }) result

  not_repository_acted : (at : ℕ) → IsUnopened file left (load_fault.NotRepository at) → Acted (Ok (printed_of (not_repository at)))
  not_repository_acted at un =
      let read = some_bytes source.left in
      let o = not_repository at in (
        read.0,
        0,
        un.cause.0,
        o,
        nowhere_by command loads input file left read.0 0 un.cause.0 o read.1 (agrees file.contents un.cause.0 un.cause.1) (loads.fails (is_modelled file) read.0 0 un.cause.0 at un.cause.2)
            (loaded_touches command loads file left un.cause.0 o un.unreadable un.any_moment un.keeps) at refl (un.contents (λ e. cc)) un.any_moment (un.faults (λ e. cc)) refl,
        none_due command clock true read.0 0 un.cause.0 (unread_none command loads read.0 un.cause.0 at un.cause.2),
      )

  module _ (fault : LoadFault) (un : IsUnopened file left fault) where
    read : (bytes : List ℕ) × Agrees source.left bytes
    read = some_bytes source.left

    held : (bytes : List ℕ) × Agrees file.contents bytes
    held = some_bytes file.contents

    outcome : (o : Outcome) × IsSaidOutcome (is_modelled file) command read.0 0 held.0 o
    outcome = some_said_outcome (is_modelled file) command read.0 0 held.0 loads.alone

    unasked : IsTimed command (still clock) false read.0 0 held.0
    unasked = fault_still command clock read.0 0 held.0

    touches : Touches command (both file left) held.0 outcome.0
    touches = loaded_touches command loads file left held.0 outcome.0 un.unreadable un.any_moment un.keeps

    memory_acted : (fault ≡ load_fault.Disk → ⊥) → Acted (Err fault_is.Memory)
    memory_acted other = (read.0, 0, held.0, outcome.0, memory_by command loads input file left read.0 0 held.0 outcome.0 read.1 held.1 outcome.1 touches (un.faults other) refl (un.contents other), unasked)

    -- the file stands for what it stood for
    contents : IsFileLeft command (both file left) 4 held.0 outcome.0
    contents old bytes file_told left_told are known =
        let modelled : IsModelled file = record { tells = ap is_some file_told; model = (known refl).0 } in
        none_committed old outcome.0.commits bytes (stands old bytes (un.modelled modelled held.0 file_told old (loads.old old held.0 are) bytes left_told))

    disk_acted : Rose file.faults left.faults → Acted (Err fault_is.Disk)
    disk_acted rose = (read.0, 0, held.0, outcome.0, disk_by command loads input file left read.0 0 held.0 outcome.0 read.1 held.1 outcome.1 touches rose refl (inl refl) contents, inl (refl, refl))

  pub not_loaded_acted : (fault : LoadFault) (result : Due) → IsUnopened file left fault → IsNotLoadedDue fault result → Acted result
  not_loaded_acted load_fault.Disk result un is = subst Acted (sym is) (disk_acted load_fault.Disk un un.cause)
  not_loaded_acted (load_fault.NotRepository at) result un (inl is) = subst Acted (sym is) (not_repository_acted at un)
  not_loaded_acted (load_fault.NotRepository at) result un (inr is) = subst Acted (sym is) (memory_acted (load_fault.NotRepository at) un (λ e. cc))
  not_loaded_acted load_fault.Memory result un is = subst Acted (sym is) (memory_acted load_fault.Memory un (λ e. cc))
