-- What is answered to questions.
use Rattle.std.proofs.Common.{◌≡◌, inl, inr, ℕ, ◌≤◌, Bool, true, false, List, [], Option, Some, Result, Ok, Err, IsTrue, refl, sym, ap, subst, ◌∙◌, arith}
use Rattle.fsl_order.specs.Causes.{Rose}
use Rattle.fsl_outside.specs.Streams.{SourceState}
use Rattle.fsl_record.specs.declared.Record.{Record}
use Rattle.fsl_blobs.specs.Fold.{contents}
use Rattle.fsl_disk.specs.Disk.{DiskState, Quiet}
use Rattle.fsl_disk.proofs.Moments.{keeps_on, modelled_after}
use Rattle.fsl_repo.specs.Whole.{is_modelled}
use Rattle.fsl_repo.proofs.Steps.{same_kind}
use Rattle.fsl_words.specs.declared.Question.{Question}
use Rattle.fsl_words.specs.declared.Command.{Command}
use Rattle.fsl_words.specs.declared.Command.TheVariants as command_of
use Rattle.fsl_query.specs.declared.Refused.{Refused}
use Rattle.fsl_query.specs.declared.QueryFault.{QueryFault}
use Rattle.fsl_query.specs.declared.QueryFault.TheVariants as query_fault
use Rattle.fsl_query.specs.Refusals.{refusal_text}
use Rattle.fsl_query.specs.Reports.{IsReport}
use Rattle.fsl_query.specs.Answers.{content_asked, IsReported, IsReportedOn, IsSpoiltIn}
use Rattle.fossil.specs.Due.{Due}
use Rattle.fossil.specs.declared.answers.fault.Fault.TheVariants as fault_is
use Rattle.fossil.specs.Printed.{Printed}
use Rattle.fossil.specs.Printed as printing
use Rattle.fossil.specs.Outcome.{Outcome, without_commit, printed_of, report_outcome, IsAnswered}
use Rattle.fossil.specs.Run.{Input, Agrees, IsTimed}
use Rattle.fossil.specs.Acts.{Loaded, HasActed, Touches, IsOpened, IsAnsweredBy, IsAnswerOf, KeepsContents, KeepsImages}
use Rattle.fossil.proofs.InputLemmas.{some_bytes}
use Rattle.fossil.proofs.FileLemmas.{both, agrees, stands, none_committed, readable, loaded_left, loaded_touches, loaded_durable}
use Rattle.fossil.proofs.SomeOutcome.{some_said_outcome}
use Rattle.fossil.proofs.ActLemmas.{still, none_due, ask_loads, memory_by, disk_by, damaged_by}
use Rattle.fossil.proofs.CommitLemmas.{idle_just, idle_durable}
use Rattle.fossil.proofs.LoadLemmas.{images_quiet}

answered_small : (r : Result (List ℕ) Refused) → (report_outcome r).status ≤ 3
answered_small (Ok text) = omega arith
answered_small (Err refused) = omega arith

answered_none : (r : Result (List ℕ) Refused) → (report_outcome r).commits ≡ []
answered_none (Ok text) = refl
answered_none (Err refused) = refl

module _ (question : Question) (source : SourceState) (clock : Option (List ℕ)) (file mid left : DiskState) where
  abbrev command : Option Command
  command = Some (command_of.Ask question)

  abbrev input : Input
  input = record { before = source; after = source }

  abbrev Acted : Due → Type 0
  Acted result = HasActed command input (still clock) (both file left) result

  unasked : (answered : Bool) (read bytes : List ℕ) → IsTimed command (still clock) answered read 0 bytes
  unasked answered read bytes = none_due command clock answered read 0 bytes (λ due. due)

  -- it was loaded, and then only read
  module _ (no_other : IsTrue mid.is_model → (c : List ℕ) → mid.since mid.moment c → mid.images c) (l : Loaded) (opened : IsOpened file mid l) (quiet : Quiet mid left) where
    abbrev bytes : List ℕ
    bytes = opened.stands.0

    file_told : Agrees file.contents bytes
    file_told = agrees file.contents bytes opened.stands.1

    images : KeepsImages file left
    images = images_quiet file mid left opened.any_moment opened.keeps quiet no_other

    touches : (o : Outcome) → Touches command (both file left) bytes o
    touches o =
        loaded_touches command (ask_loads question) file left bytes o (readable file left (bytes, opened.stands.1, (l.journal.records, opened.stands.2)))
        images (keeps_on file mid left opened.keeps quiet.keeps)

    kept : KeepsContents file left
    kept told is_told old are held left_told = opened.contents told is_told old are held (sym quiet.contents ∙ left_told)

    pub no_memory : left.faults ≡ mid.faults → Acted (Err fault_is.Memory)
    no_memory same =
        let read = some_bytes source.left in
        let o = some_said_outcome (is_modelled file) command read.0 0 bytes refl in
        (read.0, 0, bytes, o.0, memory_by command (ask_loads question) input file left read.0 0 bytes o.0 read.1 file_told o.1 (touches o.0) (same ∙ opened.faults) refl kept, unasked false read.0 bytes)

    result_acted : (result : Result (List ℕ) Refused) → left.faults ≡ mid.faults → IsReport (is_modelled file) (contents l.journal.records) question result → Acted (Ok (printed_of (report_outcome result)))
    result_acted result same is =
        let read = some_bytes source.left in
        let o = report_outcome result in (
          read.0,
          0,
          bytes,
          o,
          record {
            input_told = read.1;
            file_told = file_told;
            outcome = inr (l.journal.records, opened.stands.2, (result, is, refl));
            answer = refl;
            plain = answered_small result;
            cause = tt;
            end = λ z reads. absurd (cc);
            contents = loaded_left command (ask_loads question) file left bytes o o.status (λ done. answered_none result) kept;
            touches = touches o;
            durable = λ last.
                loaded_durable command (ask_loads question) file left bytes o (answered_none result) l.journal.records opened.stands.2
                (λ modelled c image. idle_durable l.journal mid opened.belongs opened.is_open.runs opened.is_open.stable (modelled_after file mid opened.keeps modelled) c
                (quiet.images (opened.keeps.model ∙ modelled.model) c image));
            trimmed = λ last opens begun held told. (l.journal.records, idle_just l.journal mid opened.belongs opened.is_open.runs opened.is_open.stable held (sym quiet.contents ∙ told));
            spared = λ nine begun. absurd (cc);
            steady = λ other. same ∙ opened.faults;
            input_steady = λ other. refl;
          },
          unasked true read.0 bytes,
        )

    answer_acted : (a : Printed) → left.faults ≡ mid.faults → IsAnswered (is_modelled file) question l.journal.records (without_commit a) → Acted (Ok a)
    answer_acted a same is = subst (λ (x : Printed). Acted (Ok x)) (sym (ap printed_of is.2)) (result_acted is.0 same is.1)

    disk_acted : Rose mid.faults left.faults → Acted (Err fault_is.Disk)
    disk_acted rose =
        let read = some_bytes source.left in
        let o = some_said_outcome (is_modelled file) command read.0 0 bytes refl in (
          read.0,
          0,
          bytes,
          o.0,
          disk_by command (ask_loads question) input file left read.0 0 bytes o.0 read.1 file_told o.1 (touches o.0) (subst (λ (n : ℕ). Rose n left.faults) opened.faults rose) refl (inl refl)
              (λ old held told left_told are known. none_committed old (o.0).commits held (stands old held (kept bytes told old are held left_told))),
          inl (refl, refl),
        )

    damaged_acted : (name found : List ℕ) → content_asked (contents l.journal.records) question ≡ Some name → IsSpoiltIn (is_modelled file) (contents l.journal.records) name found
        → left.faults ≡ mid.faults → Acted (Err (fault_is.Damaged name found))
    damaged_acted name found asked spoilt same =
        let read = some_bytes source.left in
        let o = some_said_outcome (is_modelled file) command read.0 0 bytes refl in (
          read.0,
          0,
          bytes,
          o.0,
          damaged_by command (ask_loads question) input file left read.0 0 bytes o.0 read.1 file_told o.1 (touches o.0) name found
              (l.journal.records, opened.stands.2, asked, spoilt) (same ∙ opened.faults) refl kept,
          unasked false read.0 bytes,
        )

    by_answer : (made : Due) → IsAnsweredBy (is_modelled file) l.journal.records question mid.faults left.faults made → Acted made
    by_answer (Ok a) is = answer_acted a is.1 is.0
    by_answer (Err fault_is.Disk) is = disk_acted is
    by_answer (Err fault_is.Usage) is = absurd is
    by_answer (Err fault_is.Input) is = absurd is
    by_answer (Err fault_is.Link) is = absurd is
    by_answer (Err (fault_is.Damaged name found)) is = damaged_acted name found is.0 is.1 is.2
    by_answer (Err fault_is.Memory) is = no_memory is

    -- what was found of the loaded records is answered
    pub found_acted : (found : Result (List ℕ) QueryFault) (made : Due) → IsReportedOn mid l.records question left found → IsAnswerOf found made → Acted made
    found_acted found made is answers =
        by_answer made
        (answers (is_modelled file) l.journal.records question mid.faults left.faults
        (subst (λ (rs : List Record). IsReported (is_modelled file) (contents rs) question mid.faults left.faults found) (sym opened.is_open.same.0)
        (subst (λ (b : Bool). IsReported b (contents l.records) question mid.faults left.faults found) (same_kind file mid opened.keeps) is)))

-- ---- what was found

pub text_answer : (text : List ℕ) → IsAnswerOf (Ok text) (Ok (record { status = 0; text = text }))
text_answer text honest records question before after is = ((Ok text, is.0, refl), is.1)

pub refused_answer : (refused : Refused) (a : Printed) → a ≡ printing.refused (refusal_text refused) → IsAnswerOf (Err (query_fault.Refused refused)) (Ok a)
refused_answer refused a same honest records question before after is = ((Err refused, is.0, ap without_commit same), is.1)

-- there was no memory for the report, or for the refusal
pub memory_answer : IsAnswerOf (Err query_fault.Memory) (Err fault_is.Memory)
memory_answer honest records question before after is = is

pub short_answer : (refused : Refused) → IsAnswerOf (Err (query_fault.Refused refused)) (Err fault_is.Memory)
short_answer refused honest records question before after is = is.1

pub disk_answer : IsAnswerOf (Err query_fault.Disk) (Err fault_is.Disk)
disk_answer honest records question before after is = is.2

pub damaged_answer : (name found : List ℕ) → IsAnswerOf (Err (query_fault.Damaged name found)) (Err (fault_is.Damaged name found))
damaged_answer name found honest records question before after is = is

-- ---- by what was found

pub disk_told : (fault : QueryFault) → fault ≡ query_fault.Disk → IsAnswerOf (Err fault) (Err fault_is.Disk)
disk_told fault same = subst (λ (f : QueryFault). IsAnswerOf (Err f) (Err fault_is.Disk)) (sym same) disk_answer

pub memory_told : (fault : QueryFault) → fault ≡ query_fault.Memory → IsAnswerOf (Err fault) (Err fault_is.Memory)
memory_told fault same = subst (λ (f : QueryFault). IsAnswerOf (Err f) (Err fault_is.Memory)) (sym same) memory_answer

pub short_told : (refused : Refused) (fault : QueryFault) → fault ≡ query_fault.Refused refused → IsAnswerOf (Err fault) (Err fault_is.Memory)
short_told refused fault same = subst (λ (f : QueryFault). IsAnswerOf (Err f) (Err fault_is.Memory)) (sym same) (short_answer refused)

pub damaged_told : (name found : List ℕ) (fault : QueryFault) → fault ≡ query_fault.Damaged name found → IsAnswerOf (Err fault) (Err (fault_is.Damaged name found))
damaged_told name found fault same = subst (λ (f : QueryFault). IsAnswerOf (Err f) (Err (fault_is.Damaged name found))) (sym same) (damaged_answer name found)

pub refused_told : (refused : Refused) (fault : QueryFault) (a : Printed) → fault ≡ query_fault.Refused refused → a ≡ printing.refused (refusal_text refused) → IsAnswerOf (Err fault) (Ok a)
refused_told refused fault a same is = subst (λ (f : QueryFault). IsAnswerOf (Err f) (Ok a)) (sym same) (refused_answer refused a is)
