-- What a command did that loads the file and only reads it.
use Rattle.std.proofs.Common.{◌≡◌, inl, ℕ, ◌≤◌, Bool, true, false, List, Option, Ok, Err, IsTrue, refl, sym, subst, ◌∙◌}
use Rattle.fsl_order.specs.Causes.{Rose}
use Rattle.fsl_outside.specs.Streams.{SourceState}
use Rattle.fsl_disk.specs.Disk.{DiskState, Quiet}
use Rattle.fsl_disk.proofs.Moments.{keeps_on, modelled_after}
use Rattle.fsl_repo.specs.Whole.{is_modelled}
use Rattle.fsl_words.specs.declared.Command.{Command}
use Rattle.fossil.specs.Due.{Due}
use Rattle.fossil.specs.declared.answers.fault.Fault.TheVariants as fault_is
use Rattle.fossil.specs.Printed.{Printed}
use Rattle.fossil.specs.Outcome.{Outcome, without_commit, IsSaidOutcome}
use Rattle.fossil.specs.Run.{Input, Agrees, reads, TakesMoment, IsTimed, IsDamaged}
use Rattle.fossil.specs.Acts.{Loaded, HasActed, Touches, IsOpened, KeepsContents, KeepsImages}
use Rattle.fossil.proofs.InputLemmas.{some_bytes}
use Rattle.fossil.proofs.FileLemmas.{both, Loads, agrees, stands, none_committed, readable, loaded_left, loaded_touches, loaded_durable}
use Rattle.fossil.proofs.SomeOutcome.{some_said_outcome}
use Rattle.fossil.proofs.ActLemmas.{still, none_due, memory_by, disk_by, damaged_by}
use Rattle.fossil.proofs.CommitLemmas.{idle_just, idle_durable}
use Rattle.fossil.proofs.LoadLemmas.{images_quiet}

-- it loads the file, reads no input and takes no moment
pub record OnlyReads (command : Option Command) : Type 0 where
  pub loads : Loads command
  pub idle : reads command ≡ false
  pub never : (read bytes : List ℕ) → TakesMoment command read bytes → ⊥

module _ (command : Option Command) (only : OnlyReads command) (source : SourceState) (clock : Option (List ℕ)) (file mid left : DiskState) where
  abbrev input : Input
  input = record { before = source; after = source }

  abbrev Acted : Due → Type 0
  Acted result = HasActed command input (still clock) (both file left) result

  unasked : (answered : Bool) (read bytes : List ℕ) → IsTimed command (still clock) answered read 0 bytes
  unasked answered read bytes = none_due command clock answered read 0 bytes (only.never read bytes)

  module _ (no_other : IsTrue mid.is_model → (c : List ℕ) → mid.since mid.moment c → mid.images c) (l : Loaded) (opened : IsOpened file mid l) (quiet : Quiet mid left) where
    abbrev bytes : List ℕ
    bytes = opened.stands.0

    file_told : Agrees file.contents bytes
    file_told = agrees file.contents bytes opened.stands.1

    images : KeepsImages file left
    images = images_quiet file mid left opened.any_moment opened.keeps quiet no_other

    touches : (o : Outcome) → Touches command (both file left) bytes o
    touches o =
        loaded_touches command only.loads file left bytes o (readable file left (bytes, opened.stands.1, (l.journal.records, opened.stands.2)))
        images (keeps_on file mid left opened.keeps quiet.keeps)

    kept : KeepsContents file left
    kept told is_told old are held left_told = opened.contents told is_told old are held (sym quiet.contents ∙ left_told)

    pub read_memory : left.faults ≡ mid.faults → Acted (Err fault_is.Memory)
    read_memory same =
        let read = some_bytes source.left in
        let o = some_said_outcome (is_modelled file) command read.0 0 bytes only.loads.alone in
        (read.0, 0, bytes, o.0, memory_by command only.loads input file left read.0 0 bytes o.0 read.1 file_told o.1 (touches o.0) (same ∙ opened.faults) refl kept, unasked false read.0 bytes)

    pub read_answer : (a : Printed) → a.status ≤ 3 → left.faults ≡ mid.faults → ((read : List ℕ) → IsSaidOutcome (is_modelled file) command read 0 bytes (without_commit a)) → Acted (Ok a)
    read_answer a small same is =
        let read = some_bytes source.left in
        let o = without_commit a in (
          read.0,
          0,
          bytes,
          o,
          record {
            input_told = read.1;
            file_told = file_told;
            outcome = is read.0;
            answer = refl;
            plain = small;
            cause = tt;
            end = λ z asks. absurd (let no = sym only.idle ∙ asks in cc);
            contents = loaded_left command only.loads file left bytes o a.status (λ done. refl) kept;
            touches = touches o;
            durable = λ last.
                loaded_durable command only.loads file left bytes o refl l.journal.records opened.stands.2
                (λ modelled c image. idle_durable l.journal mid opened.belongs opened.is_open.runs opened.is_open.stable (modelled_after file mid opened.keeps modelled) c
                (quiet.images (opened.keeps.model ∙ modelled.model) c image));
            trimmed = λ last opens begun held told. (l.journal.records, idle_just l.journal mid opened.belongs opened.is_open.runs opened.is_open.stable held (sym quiet.contents ∙ told));
            spared = λ nine begun. absurd (only.loads.begun begun);
            steady = λ other. same ∙ opened.faults;
            input_steady = λ other. refl;
          },
          unasked true read.0 bytes,
        )

    pub read_disk : Rose mid.faults left.faults → Acted (Err fault_is.Disk)
    read_disk rose =
        let read = some_bytes source.left in
        let o = some_said_outcome (is_modelled file) command read.0 0 bytes only.loads.alone in (
          read.0,
          0,
          bytes,
          o.0,
          disk_by command only.loads input file left read.0 0 bytes o.0 read.1 file_told o.1 (touches o.0) (subst (λ (n : ℕ). Rose n left.faults) opened.faults rose) refl (inl refl)
              (λ old held told left_told are known. none_committed old (o.0).commits held (stands old held (kept bytes told old (only.loads.old old bytes are) held left_told))),
          inl (refl, refl),
        )

    pub read_damaged : (name found : List ℕ) → IsDamaged (is_modelled file) command bytes name found → left.faults ≡ mid.faults → Acted (Err (fault_is.Damaged name found))
    read_damaged name found damaged same =
        let read = some_bytes source.left in
        let o = some_said_outcome (is_modelled file) command read.0 0 bytes only.loads.alone in (
          read.0,
          0,
          bytes,
          o.0,
          damaged_by command only.loads input file left read.0 0 bytes o.0 read.1 file_told o.1 (touches o.0) name found damaged (same ∙ opened.faults) refl kept,
          unasked false read.0 bytes,
        )
