-- What `put` appended, by what it read.
use Rattle.std.proofs.Common.{◌≡◌, inl, inr, ℕ, ◌^◌, Bool, true, false, List, [], ◌++◌, length, Option, Some, None, Ok, Err, refl, sym, ap, subst, ◌∙◌}
use Rattle.std.specs.Prelude.{drop, nat_lt, MatchBool}
use Rattle.std.proofs.lemmas.List.{append-nil}
use Rattle.fsl_record.specs.Receipts.{Brought}
use Rattle.fsl_record.specs.declared.Record.{Record}
use Rattle.fsl_journal.specs.File.{IsFileOf}
use Rattle.fsl_repo.specs.Whole.{Whole, opened}
use Rattle.fsl_words.specs.declared.Command.TheVariants as command_of
use Rattle.fossil.specs.declared.reading.message.MessageFile.{MessageFile}
use Rattle.fossil.specs.Messages.{IsMessageRefused, IsFileList}
use Rattle.fossil.specs.Printed.{Printed}
use Rattle.fossil.specs.Printed as printing
use Rattle.fossil.specs.Arrivals.{none_taken, Arrive}
use Rattle.fossil.specs.Put.{IsPutRead}
use Rattle.fossil.specs.Run.{Input, Clock, IsTimed}
use Rattle.fossil.specs.Acts.{Loaded, loaded_of, IsInput}
use Rattle.fossil.specs.Taking.{AreAllTaken, IsPutReceipt}
use Rattle.fossil.proofs.MessageLemmas.{refused_status, not_both}
use Rattle.fossil.proofs.ArrivalLemmas.{refused_files}
use Rattle.fossil.proofs.ActLemmas.{still, none_due}
use Rattle.fossil.proofs.AppendLemmas.{IsPlain, IsAppended}

-- the moment of a message that has its form was taken
pub form_timed : (clock : Clock) (receipt : Brought) (answered : Bool) (message : List ℕ) (bytes : List ℕ) (records : List Record) (files : List MessageFile) → IsPutReceipt clock.before clock.after receipt → IsFileOf bytes records
    → nat_lt (2 ^ 27) (length message) ≡ false → IsFileList message files → IsTimed (Some command_of.Put) clock answered message receipt.moment bytes
form_timed clock receipt answered message bytes records files taken is short list = inl (((records, is), (short, (files, list))), (taken.is_moment, taken.answered))

module _ (input : Input) (clock : Clock) (moment : ℕ) (bytes : List ℕ) (before after : Loaded) (answer : Printed) (appended : List Record)
    (records : after.journal.records ≡ before.journal.records ++ appended) (stable : after.journal.stable ≡ before.journal.stable) where
  -- by a message that was read
  by_message : (message : List ℕ) → IsInput input (Some message) → IsPutRead message moment before.journal.records answer appended → IsPlain answer appended
      → (IsFileOf bytes before.journal.records → IsTimed (Some command_of.Put) clock true message moment bytes) → IsAppended (Some command_of.Put) input clock bytes before after answer
  by_message message is put plain timed = record {
    read = message;
    moment = moment;
    appended = appended;
    told = is.0;
    outcome = λ file honest. inr (
      before.journal.records,
      file,
      (answer, appended, subst (λ (t : Bool). MatchBool t ((answer ≡ printing.too_long) × (appended ≡ [])) (IsPutRead message moment before.journal.records answer appended)) (sym is.2) put, refl),
    );
    timed = timed;
    plain = plain;
    records = records;
    stable = stable;
    end = λ z reads. is.1;
    input_steady = is.3;
  }

-- all files were taken
pub files_appended : {D : Type 0} (input : Input) (clock : Clock) (receipt : Brought) (bytes message : List ℕ) (before after : Whole D) (files : List MessageFile) (lines : List ℕ) → IsPutReceipt clock.before clock.after receipt
    → IsInput input (Some message) → IsFileList message files → AreAllTaken receipt files before.seen.state after.seen.state lines
    → IsAppended (Some command_of.Put) input clock bytes (loaded_of before) (loaded_of after) (record { status = 0; text = lines })
files_appended input clock receipt bytes message before after files lines taken is list are =
    let old = before.seen.state.records in
    let arrive = subst (λ (r : Brought). Arrive (Some r) (none_taken (opened old 0 true)) files (Ok are.taken)) taken.put are.arrive in
    by_message input clock receipt.moment bytes (loaded_of before) (loaded_of after) (record { status = 0; text = lines }) (drop (length old) are.taken.state.records) are.records are.committed message is
    (inr (files, list, (Ok are.taken, arrive, (λ i. record { status = 0; text = are.printed i }), refl))) (inl refl)
    (λ file. form_timed clock receipt true message bytes old files taken file is.2 list)

-- a file is refused, behind the moment
pub refused_file_appended : (input : Input) (clock : Clock) (receipt : Brought) (bytes : List ℕ) (before : Loaded) (answer : Printed) (message : List ℕ) (files : List MessageFile) → IsPutReceipt clock.before clock.after receipt
    → IsInput input (Some message) → IsFileList message files → Arrive (Some receipt) (none_taken (opened before.journal.records 0 true)) files (Err answer)
    → IsAppended (Some command_of.Put) input clock bytes before before answer
refused_file_appended input clock receipt bytes before answer message files taken is list refused =
    let old = before.journal.records in
    let arrive = subst (λ (r : Brought). Arrive (Some r) (none_taken (opened old 0 true)) files (Err answer)) taken.put refused in
    by_message input clock receipt.moment bytes before before answer [] (sym (append-nil old)) refl message is (inr (files, list, (Err answer, arrive, refl, refl)))
    (inr (refused_files (Some receipt) files (none_taken (opened old 0 true)) answer refused, refl))
    (λ file. form_timed clock receipt true message bytes old files taken file is.2 list)

-- no moment is due, and nothing is appended
module _ (input : Input) (clock : Option (List ℕ)) (bytes : List ℕ) (before : Loaded) (answer : Printed) where
  pub refused_appended : (message : List ℕ) → IsInput input (Some message) → IsMessageRefused message answer → IsAppended (Some command_of.Put) input (still clock) bytes before before answer
  refused_appended message is refused =
      by_message input (still clock) 0 bytes before before answer [] (sym (append-nil before.journal.records)) refl message is (inl (refused, refl)) (inr (refused_status message answer refused, refl))
      (λ file. none_due (Some command_of.Put) clock true message 0 bytes (λ due. not_both message due.1.1.0 answer due.1.1.1 refused))

  abbrev none : List Record
  none = []

  pub long_appended : IsInput input None → answer ≡ printing.too_long → IsAppended (Some command_of.Put) input (still clock) bytes before before answer
  long_appended is long = record {
    read = is.0;
    moment = 0;
    appended = [];
    told = is.1;
    outcome = λ file honest. inr (
      before.journal.records,
      file,
      (answer, [], subst (λ (t : Bool). MatchBool t ((answer ≡ printing.too_long) × (none ≡ [])) (IsPutRead is.0 0 before.journal.records answer none)) (sym is.2) (long, refl), refl),
    );
    timed = λ file. none_due (Some command_of.Put) clock true is.0 0 bytes (λ due. let e = sym is.2 ∙ due.1.0 in cc);
    plain = inr (ap (λ (a : Printed). a.status) long, refl);
    records = sym (append-nil before.journal.records);
    stable = refl;
    end = λ z reads. absurd (let three = ap (λ (a : Printed). a.status) long in cc);
    input_steady = is.3;
  }
