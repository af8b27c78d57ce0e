-- Words, an input and a file have an outcome.
use Rattle.std.proofs.Common.{◌≡◌, ◌⊎◌, inl, inr, ℕ, Bool, true, false, codes, List, [], ◌∷◌, length, map, Option, Some, None, Result, Ok, Err, refl}
use Rattle.std.specs.Prelude.{◌^◌, nat_lt, MatchBool}
use Rattle.fsl_record.specs.declared.Record.{Record}
use Rattle.fsl_record.specs.declared.Record.TheVariants as record_of
use Rattle.fsl_record.specs.Records.{AreRecords}
use Rattle.fsl_journal.specs.File.{IsFileOf, FailsAt}
use Rattle.fsl_journal.proofs.SomeFile.{some_file}
use Rattle.std.specs.FinSet as set
use Rattle.fsl_blobs.specs.Fold.{Contents, contents}
use Rattle.fsl_cross.specs.Tables.{tables}
use Rattle.fsl_gen.specs.Arrival.{generated}
use Rattle.fsl_query.specs.Summary.{summary}
use Rattle.fsl_cross.specs.declared.Item.{Item}
use Rattle.fsl_repo.specs.Machine.{now, AreItems}
use Rattle.fsl_repo.specs.Whole.{opened}
use Rattle.fsl_query.specs.declared.Refused.{Refused}
use Rattle.fsl_query.specs.Reports.{IsReport, IsReadContent, receipt_report, report, content}
use Rattle.fsl_words.specs.declared.Question.{Question}
use Rattle.fsl_words.specs.declared.Question.TheVariants as question_of
use Rattle.fsl_words.specs.declared.Command.{Command}
use Rattle.fsl_words.specs.declared.Command.TheVariants as command_of
use Rattle.fossil.specs.Arrivals.{Taken, none_taken}
use Rattle.fossil.specs.Printed.{Printed}
use Rattle.fossil.specs.Printed as printing
use Rattle.fossil.specs.Gen.{public_record}
use Rattle.fossil.specs.Ingest as ingest
use Rattle.fossil.specs.Put.{IsPutRead, put_receipt, printed_by, appended_by}
use Rattle.fossil.specs.Unshun.{wanted_without, IsUnshun}
use Rattle.fossil.specs.Uses.{command_meets}
use Rattle.fsl_uv.specs.Entries.{Version}
use Rattle.fsl_uv.specs.Reports.{Done, list_done, cat_done, add_done, remove_done}
use Rattle.fsl_words.specs.declared.Unversioned.{Unversioned}
use Rattle.fsl_words.specs.declared.Unversioned.TheVariants as uv
use Rattle.fossil.proofs.UvOutcomes.{some_uv}
use Rattle.fossil.specs.Outcome.{Outcome, without_commit, with_commit, init_outcome, report_outcome, not_repository, usage, IsAnswered, IsCheckinOf, IsExportedBy, IsVerifiedBy, IsPutOfFiles, shun_outcome, IsShunOf, IsUnshunOf, IsUvOf, IsUvOutcome, IsLoaded, IsCommandOutcome, said, meets, IsSaidOutcome, HasSomeOutcome}
use Rattle.fossil.proofs.MessageLemmas.{IsSomeMessage, some_message}
use Rattle.fsl_repo.proofs.SomeArrival.{some_items}
use Rattle.fossil.proofs.ArrivalLemmas.{some_arrive}
use Rattle.fossil.proofs.OneCheckin.{some_checkin}
use Rattle.fossil.proofs.OneTree.{some_exported, some_verified}

-- ---- ingest and put

some_printed : (result : Result Taken Printed) → (o : Printed) × ingest.IsPrintedBy result o
some_printed (Ok t) = let i = some_items (now t.state).held in (record { status = 0; text = ingest.report (now t.state) i.0 }, (i.0, i.1, refl))
some_printed (Err refusal) = (refusal, refl)

some_read : (input : List ℕ) → IsSomeMessage input → (o : Printed) × ingest.IsRead input o
some_read input (inl h) =
    let result = some_arrive None h.0 (none_taken ingest.fresh) in
    let o = some_printed result.0 in (o.0, inr (h.0, h.1, (result.0, result.1, o.1)))
some_read input (inr h) = (h.0, inl h.1)

some_ingested : (input : List ℕ) (t : Bool) → (o : Printed) × MatchBool t (o ≡ printing.too_long) (ingest.IsRead input o)
some_ingested input true = (printing.too_long, refl)
some_ingested input false = some_read input (some_message input)

module _ (moment : ℕ) (old : List Record) where
  some_put_read : (input : List ℕ) → IsSomeMessage input → (o : Printed) × (xs : List Record) × IsPutRead input moment old o xs
  some_put_read input (inl h) =
      let result = some_arrive (Some (put_receipt moment)) h.0 (none_taken (opened old 0 true)) in
      (printed_by result.0, appended_by old result.0, inr (h.0, h.1, (result.0, result.1, refl, refl)))
  some_put_read input (inr h) = (h.0, [], inl (h.1, refl))

  some_put : (input : List ℕ) (t : Bool) → (o : Printed) × (xs : List Record) × MatchBool t ((o ≡ printing.too_long) × (xs ≡ [])) (IsPutRead input moment old o xs)
  some_put input true = (printing.too_long, [], (refl, refl))
  some_put input false = some_put_read input (some_message input)

-- ---- unshun

some_unshun : (name : List ℕ) (c : Contents) → (o : Printed) × (xs : List Record) × IsUnshun name c o xs
some_unshun name c = by_list (set.contains c.shunned name)
  where
    by_room : (full : Bool) → (o : Printed) × (xs : List Record)
        × MatchBool full ((o ≡ printing.full name) × (xs ≡ [])) ((o ≡ record { status = 0; text = printing.name_line (codes "unshunned") name }) × (xs ≡ record_of.Unshun name ∷ []))
    by_room true = (printing.full name, [], (refl, refl))
    by_room false = (record { status = 0; text = printing.name_line (codes "unshunned") name }, record_of.Unshun name ∷ [], (refl, refl))

    by_list : (listed : Bool) → (o : Printed) × (xs : List Record)
        × MatchBool listed
        ((items : List Item) × AreItems c.held items
        × MatchBool (nat_lt (2 ^ 20) (wanted_without name c items)) ((o ≡ printing.full name) × (xs ≡ []))
        ((o ≡ record { status = 0; text = printing.name_line (codes "unshunned") name }) × (xs ≡ record_of.Unshun name ∷ [])))
        ((o ≡ record { status = 0; text = printing.name_line (codes "not shunned") name }) × (xs ≡ []))
    by_list true =
        let i = some_items c.held in
        let o = by_room (nat_lt (2 ^ 20) (wanted_without name c i.0)) in (o.0, o.1, (i.0, i.1, o.2))
    by_list false = (record { status = 0; text = printing.name_line (codes "not shunned") name }, [], (refl, refl))

some_unshun_outcome : (name : List ℕ) (old : List Record) → (o : Outcome) × IsUnshunOf name old o
some_unshun_outcome name old = let o = some_unshun name (contents old) in (with_commit o.0 o.1, (o.0, o.1, o.2, refl))

-- ---- questions

some_content : (honest : Bool) (due : Result (List ℕ) Refused) → IsReadContent honest due due
some_content honest (Ok bytes) = (bytes, record { named = refl; sized = refl; same = λ kind. refl }, refl)
some_content honest (Err refused) = refl

some_report : (honest : Bool) (c : Contents) (q : Question) → (result : Result (List ℕ) Refused) × IsReport honest c q result
some_report honest c (question_of.Cat prefix) = (content c prefix, some_content honest (content c prefix))
some_report honest c (question_of.Receipt prefix) = (receipt_report c prefix, refl)
some_report honest c (question_of.Timeline count) = let i = some_items c.held in (report c i.0 (question_of.Timeline count), (i.0, i.1, refl))
some_report honest c question_of.Leaves = let i = some_items c.held in (report c i.0 question_of.Leaves, (i.0, i.1, refl))
some_report honest c (question_of.Tags prefix) = let i = some_items c.held in (report c i.0 (question_of.Tags prefix), (i.0, i.1, refl))
some_report honest c (question_of.Tip symbol) = let i = some_items c.held in (report c i.0 (question_of.Tip symbol), (i.0, i.1, refl))
some_report honest c (question_of.Files prefix) = let i = some_items c.held in (report c i.0 (question_of.Files prefix), (i.0, i.1, refl))
some_report honest c (question_of.Wiki title) = let i = some_items c.held in (report c i.0 (question_of.Wiki title), (i.0, i.1, refl))
some_report honest c (question_of.Ticket prefix) = let i = some_items c.held in (report c i.0 (question_of.Ticket prefix), (i.0, i.1, refl))
some_report honest c (question_of.Thread prefix) = let i = some_items c.held in (report c i.0 (question_of.Thread prefix), (i.0, i.1, refl))
some_report honest c question_of.Phantoms = let i = some_items c.held in (report c i.0 question_of.Phantoms, (i.0, i.1, refl))
some_report honest c question_of.Info = let i = some_items c.held in (report c i.0 question_of.Info, (i.0, i.1, refl))
some_report honest c question_of.Branches = let i = some_items c.held in (report c i.0 question_of.Branches, (i.0, i.1, refl))
some_report honest c question_of.Pages = let i = some_items c.held in (report c i.0 question_of.Pages, (i.0, i.1, refl))
some_report honest c (question_of.Tickets fields) = let i = some_items c.held in (report c i.0 (question_of.Tickets fields), (i.0, i.1, refl))
some_report honest c question_of.Threads = let i = some_items c.held in (report c i.0 question_of.Threads, (i.0, i.1, refl))

-- ---- a run

some_loaded : (bytes : List ℕ) (ByRecords : List Record → Outcome → Type 0) → ((records : List Record) → (o : Outcome) × ByRecords records o) → ((at : ℕ) × FailsAt bytes at) ⊎ ((records : List Record) × IsFileOf bytes records)
    → (o : Outcome) × IsLoaded ByRecords bytes o
some_loaded bytes ByRecords some (inl fails) = (not_repository fails.0, inl (fails.0, fails.1, refl))
some_loaded bytes ByRecords some (inr is) = let o = some is.0 in (o.0, inr (is.0, is.1, o.1))

abbrev Map : Type 0
Map = List (List ℕ × Version)

some_uv_outcome : (asked : Unversioned) (input : List ℕ) (moment : ℕ) (bytes : List ℕ) → command_meets (command_of.Unversioned asked) ≡ false → (o : Outcome) × IsUvOutcome asked input moment bytes o
some_uv_outcome (uv.Init project server) input moment bytes plain = (init_outcome project server [] (length bytes), refl)
some_uv_outcome (uv.Add path) input moment bytes plain = let does : Map → Done = λ m. add_done m path moment input in some_loaded bytes (IsUvOf does) (some_uv does) (some_file bytes)
some_uv_outcome (uv.Remove path) input moment bytes plain = let does : Map → Done = λ m. remove_done m path moment in some_loaded bytes (IsUvOf does) (some_uv does) (some_file bytes)
some_uv_outcome uv.List input moment bytes plain = some_loaded bytes (IsUvOf list_done) (some_uv list_done) (some_file bytes)
some_uv_outcome (uv.Cat path) input moment bytes plain = let does : Map → Done = λ m. cat_done m path in some_loaded bytes (IsUvOf does) (some_uv does) (some_file bytes)
some_uv_outcome (uv.Sync peer) input moment bytes plain = absurd (cc)

-- by records of a file
some_fit : (bytes : List ℕ) (ByRecords : List Record → Outcome → Type 0) → ((records : List Record) → AreRecords records → (o : Outcome) × ByRecords records o) → ((at : ℕ) × FailsAt bytes at) ⊎ ((records : List Record) × IsFileOf bytes records)
    → (o : Outcome) × IsLoaded ByRecords bytes o
some_fit bytes ByRecords some (inl fails) = (not_repository fails.0, inl (fails.0, fails.1, refl))
some_fit bytes ByRecords some (inr is) = let o = some is.0 is.1.fit in (o.0, inr (is.0, is.1, o.1))

some_command : (honest : Bool) (command : Command) (input : List ℕ) (moment : ℕ) (bytes : List ℕ) → command_meets command ≡ false → (o : Outcome) × IsCommandOutcome honest command input moment bytes o
some_command honest (command_of.Init project server fields) input moment bytes plain = (init_outcome project server fields (length bytes), refl)
some_command honest command_of.Ingest input moment bytes plain = let o = some_ingested input (nat_lt (2 ^ 27) (length input)) in (without_commit o.0, (o.0, o.1, refl))
some_command honest command_of.Put input moment bytes plain =
    some_loaded bytes (IsPutOfFiles input moment) (λ old. let o = some_put moment old input (nat_lt (2 ^ 27) (length input)) in (with_commit o.0 o.1, (o.0, o.1, o.2, refl))) (some_file bytes)
some_command honest (command_of.Shun name) input moment bytes plain = some_loaded bytes (IsShunOf name) (λ old. (shun_outcome name old, refl)) (some_file bytes)
some_command honest (command_of.Unshun name) input moment bytes plain = some_loaded bytes (IsUnshunOf name) (some_unshun_outcome name) (some_file bytes)
some_command honest (command_of.Serve address users workers requests) input moment bytes plain = (usage, refl)
some_command honest (command_of.Checkin parent user comment) input moment bytes plain =
    some_loaded bytes (IsCheckinOf parent user comment input moment) (λ old. let o = some_checkin parent user comment moment old input in (with_commit o.0 o.1, (o.0, o.1, o.2, refl))) (some_file bytes)
some_command honest (command_of.Export prefix) input moment bytes plain =
    some_fit bytes (IsExportedBy honest prefix) (λ records are. let p = some_exported honest prefix records are in (without_commit p.0, (p.0, p.1, refl))) (some_file bytes)
some_command honest (command_of.Verify prefix) input moment bytes plain =
    some_fit bytes (IsVerifiedBy honest prefix) (λ records are. let p = some_verified honest prefix records are in (without_commit p.0, (p.0, p.1, refl))) (some_file bytes)
some_command honest (command_of.Scrub path) input moment bytes plain = absurd (cc)
some_command honest (command_of.Unversioned asked) input moment bytes plain = some_uv_outcome asked input moment bytes plain
some_command honest (command_of.Gen count reversed) input moment bytes plain =
    let i = some_items (contents (map public_record (generated count reversed))).held in
    let printed : Printed = record { status = 0; text = summary (tables [] i.0) i.0 } in (without_commit printed, (printed, (i.0, i.1, refl), refl))
some_command honest (command_of.Ask question) input moment bytes plain =
    some_loaded bytes (IsAnswered honest question) (λ records. let r = some_report honest (contents records) question in (report_outcome r.0, (r.0, r.1, refl))) (some_file bytes)
some_command honest (command_of.Pull address login) input moment bytes plain = absurd (cc)
some_command honest (command_of.Push address login) input moment bytes plain = absurd (cc)
some_command honest (command_of.Clone address server fields) input moment bytes plain = absurd (cc)
some_command honest (command_of.PullLocal path) input moment bytes plain = absurd (cc)

pub some_said_outcome : (honest : Bool) (command : Option Command) (input : List ℕ) (moment : ℕ) (bytes : List ℕ) → meets command ≡ false → (o : Outcome) × IsSaidOutcome honest command input moment bytes o
some_said_outcome honest None input moment bytes plain = (usage, refl)
some_said_outcome honest (Some command) input moment bytes plain = some_command honest command input moment bytes plain

pub some_outcome : HasSomeOutcome
some_outcome honest words input moment bytes plain = some_said_outcome honest (said words) input moment bytes plain
