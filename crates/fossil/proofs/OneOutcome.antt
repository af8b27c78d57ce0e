-- Words, an input and a file have one outcome.
use Rattle.std.proofs.Common.{◌≡◌, ℕ, Bool, true, false, not, codes, List, [], ◌∷◌, length, ltb, Option, Some, None, Result, Ok, Err, IsTrue, refl, sym, ap, subst, ◌∙◌, inl, inr}
use Rattle.std.specs.Prelude.{◌^◌, ◌||◌, MatchBool, is_some}
use Rattle.fsl_blobs.specs.Fold.{Contents, contents}
use Rattle.fsl_journal.proofs.Failing.{no_file, one_place}
use Rattle.fsl_journal.proofs.Unique.{one_file}
use Rattle.fsl_record.specs.declared.Record.{Record}
use Rattle.fsl_record.specs.declared.Record.TheVariants as record_of
use Rattle.fsl_cross.specs.declared.Item.{Item}
use Rattle.std.specs.FinSet as set
use Rattle.fsl_repo.specs.Machine.{State, now, AreItems}
use Rattle.fsl_repo.specs.Whole.{opened}
use Rattle.fsl_repo.proofs.OneList.{are_one_list}
use Rattle.fsl_words.specs.declared.Question.{Question}
use Rattle.fsl_words.specs.declared.Command.{Command}
use Rattle.fsl_words.specs.declared.Command.TheVariants as command_of
use Rattle.fossil.specs.declared.reading.message.MessageFile.{MessageFile}
use Rattle.fossil.specs.Arrivals.{Taken, none_taken}
use Rattle.fossil.specs.Printed.{Printed}
use Rattle.fossil.specs.Printed as printing
use Rattle.fossil.specs.Ingest as ingest
use Rattle.fossil.specs.Put.{IsPut, IsPutRead, IsPutFiles, put_receipt, printed_by, appended_by}
use Rattle.fossil.specs.Unshun.{wanted_without, IsUnshun}
use Rattle.fsl_query.specs.Answers.{prefix_of}
use Rattle.fossil.specs.Outcome.{Outcome, without_commit, with_commit, not_repository, report_outcome, IsAnswered, IsCheckinOf, IsExportedBy, IsVerifiedBy, IsIngestOfFiles, IsPutOfFiles, IsShunOf, IsUnshunOf, IsUvOf, IsUvOutcome, IsLoaded, IsCommandOutcome, said, IsSaidOutcome, command_reads_tree, command_reads_content, reads_content, reads_tree, AreAlike, HasOneOutcome}
use Rattle.fsl_uv.specs.Entries.{Version}
use Rattle.fsl_uv.specs.Reports.{Done, list_done, cat_done, add_done, remove_done}
use Rattle.fsl_words.specs.declared.Unversioned.{Unversioned}
use Rattle.fsl_words.specs.declared.Unversioned.TheVariants as uv
use Rattle.fossil.proofs.UvOutcomes.{one_uv}
use Rattle.fossil.proofs.GenLemmas.{one_gen}
use Rattle.fossil.proofs.OneReport.{honest_of, one_result, alike_result, same_alike}
use Rattle.fossil.proofs.OneCheckin.{one_checkin}
use Rattle.fossil.proofs.OneTree.{exported_ends, one_exported, one_verified, verified_ends}
use Rattle.fossil.proofs.MessageLemmas.{one_files, one_refused, not_both}
use Rattle.fossil.proofs.ArrivalLemmas.{one_arrive}

-- ---- ingest

-- artifacts are one list of items
one_set : (s : State) (a b : Printed) → ingest.IsSetPrinted s a → ingest.IsSetPrinted s b → a ≡ b
one_set s a b h k = h.2 ∙ ap (λ (items : List Item). record { status = 0; text = ingest.report (now s) items }) (are_one_list (now s).held h.0 k.0 h.1 k.1) ∙ sym k.2

one_printed : (result : Result Taken Printed) (a b : Printed) → ingest.IsPrintedBy result a → ingest.IsPrintedBy result b → a ≡ b
one_printed (Ok t) a b h k = one_set t.state a b h k
one_printed (Err refusal) a b h k = h ∙ sym k

one_report : (files : List MessageFile) (a b : Printed) → ingest.IsReported files a → ingest.IsReported files b → a ≡ b
one_report files a b h k =
    one_printed k.0 a b (subst (λ (r : Result Taken Printed). ingest.IsPrintedBy r a) (one_arrive None files (none_taken ingest.fresh) h.0 k.0 h.1 k.1) h.2) k.2

one_read : (input : List ℕ) (a b : Printed) → ingest.IsRead input a → ingest.IsRead input b → a ≡ b
one_read input a b (inl h) (inl k) = one_refused input a b h k
one_read input a b (inl h) (inr k) = absurd (not_both input k.0 a k.1 h)
one_read input a b (inr h) (inl k) = absurd (not_both input h.0 b h.1 k)
one_read input a b (inr h) (inr k) = one_report k.0 a b (subst (λ (files : List MessageFile). ingest.IsReported files a) (one_files input h.0 k.0 h.1 k.1) h.2) k.2

by_length : (input : List ℕ) (t : Bool) (a b : Printed) → MatchBool t (a ≡ printing.too_long) (ingest.IsRead input a) → MatchBool t (b ≡ printing.too_long) (ingest.IsRead input b) → a ≡ b
by_length input true a b h k = h ∙ sym k
by_length input false a b h k = one_read input a b h k

one_ingest : (input : List ℕ) (a b : Printed) → ingest.IsIngested input a → ingest.IsIngested input b → a ≡ b
one_ingest input a b h k = by_length input (ltb (2 ^ 27) (length input)) a b h k

one_ingested : (input : List ℕ) (a b : Outcome) → IsIngestOfFiles input a → IsIngestOfFiles input b → a ≡ b
one_ingested input a b h k = h.2 ∙ ap without_commit (one_ingest input h.0 k.0 h.1 k.1) ∙ sym k.2

-- ---- put

-- what is printed and appended
abbrev Same : Printed → Printed → List Record → List Record → Type 0
Same a b xs ys = (a ≡ b) × (xs ≡ ys)

module _ (moment : ℕ) (old : List Record) (a b : Printed) (xs ys : List Record) where
  same_refusal : (refusal : Printed) → (a ≡ refusal) × (xs ≡ []) → (b ≡ refusal) × (ys ≡ []) → Same a b xs ys
  same_refusal refusal h k = (h.0 ∙ sym k.0, h.1 ∙ sym k.1)

  same_read : (input : List ℕ) → IsPutRead input moment old a xs → IsPutRead input moment old b ys → Same a b xs ys
  same_read input (inl h) (inl k) = (one_refused input a b h.0 k.0, h.1 ∙ sym k.1)
  same_read input (inl h) (inr k) = absurd (not_both input k.0 a k.1 h.0)
  same_read input (inr h) (inl k) = absurd (not_both input h.0 b h.1 k.0)
  same_read input (inr h) (inr k) =
      let f = subst (λ (files : List MessageFile). IsPutFiles files moment old a xs) (one_files input h.0 k.0 h.1 k.1) h.2 in
      let same = one_arrive (Some (put_receipt moment)) k.0 (none_taken (opened old 0 true)) f.0 k.2.0 f.1 k.2.1 in
      (f.2 ∙ ap printed_by same ∙ sym k.2.2, f.3 ∙ ap (appended_by old) same ∙ sym k.2.3)

  same_put : (input : List ℕ) (t : Bool) → MatchBool t ((a ≡ printing.too_long) × (xs ≡ [])) (IsPutRead input moment old a xs) → MatchBool t ((b ≡ printing.too_long) × (ys ≡ [])) (IsPutRead input moment old b ys) → Same a b xs ys
  same_put input true h k = same_refusal printing.too_long h k
  same_put input false h k = same_read input h k

pub one_put : (input : List ℕ) (moment : ℕ) (old : List Record) (a b : Printed) (xs ys : List Record) → IsPut input moment old a xs → IsPut input moment old b ys → (a ≡ b) × (xs ≡ ys)
one_put input moment old a b xs ys h k = same_put moment old a b xs ys input (ltb (2 ^ 27) (length input)) h k

pub one_put_outcome : (input : List ℕ) (moment : ℕ) (old : List Record) (a b : Outcome) → IsPutOfFiles input moment old a → IsPutOfFiles input moment old b → a ≡ b
one_put_outcome input moment old a b h k =
    let same = one_put input moment old h.0 k.0 h.1 k.1 h.2 k.2 in
    h.3 ∙ (λ i. with_commit (same.0 i) (same.1 i)) ∙ sym k.3

-- ---- unshun

-- what is printed and appended of a shunned name, by whether too many names would be wanted; and of a name, by whether it is shunned
abbrev AreRoom : Bool → List ℕ → Printed → List Record → Type 0
AreRoom full name printed appended =
    MatchBool full ((printed ≡ printing.full name) × (appended ≡ []))
    ((printed ≡ record { status = 0; text = printing.name_line (codes "unshunned") name }) × (appended ≡ record_of.Unshun name ∷ []))

abbrev Unshuns : Bool → List ℕ → Contents → Printed → List Record → Type 0
Unshuns listed name c printed appended =
    MatchBool listed ((items : List Item) × AreItems c.held items × AreRoom (ltb (2 ^ 20) (wanted_without name c items)) name printed appended)
    ((printed ≡ record { status = 0; text = printing.name_line (codes "not shunned") name }) × (appended ≡ []))

one_unshun : (name : List ℕ) (c : Contents) (a b : Printed) (xs ys : List Record) → IsUnshun name c a xs → IsUnshun name c b ys → Same a b xs ys
one_unshun name c a b xs ys h k = by_list (set.contains c.shunned name) h k
  where
    by_room : (full : Bool) (items : List Item) → AreRoom full name a xs → AreRoom full name b ys → Same a b xs ys
    by_room true items h k = same_refusal 0 [] a b xs ys (printing.full name) h k
    by_room false items h k = (h.0 ∙ sym k.0, h.1 ∙ sym k.1)

    by_list : (listed : Bool) → Unshuns listed name c a xs → Unshuns listed name c b ys → Same a b xs ys
    by_list true h k =
        let same : h.0 ≡ k.0 = are_one_list c.held h.0 k.0 h.1 k.1 in
        by_room (ltb (2 ^ 20) (wanted_without name c k.0)) k.0 (subst (λ (items : List Item). AreRoom (ltb (2 ^ 20) (wanted_without name c items)) name a xs) same h.2) k.2
    by_list false h k = (h.0 ∙ sym k.0, h.1 ∙ sym k.1)

one_unshun_outcome : (name : List ℕ) (old : List Record) (a b : Outcome) → IsUnshunOf name old a → IsUnshunOf name old b → a ≡ b
one_unshun_outcome name old a b h k =
    let same = one_unshun name (contents old) h.0 k.0 h.1 k.1 h.2 k.2 in
    h.3 ∙ (λ i. with_commit (same.0 i) (same.1 i)) ∙ sym k.3

-- ---- the file

-- two outcomes over a file are the same, or so are those by its records
loaded_by : (R : Outcome → Outcome → Type 0) → ((a b : Outcome) → a ≡ b → R a b) → (ByRecords : List Record → Outcome → Type 0) (bytes : List ℕ)
    → ((old : List Record) (a b : Outcome) → ByRecords old a → ByRecords old b → R a b) → (a b : Outcome) → IsLoaded ByRecords bytes a → IsLoaded ByRecords bytes b → R a b
loaded_by R same ByRecords bytes one a b (inl h) (inl k) = same a b (h.2 ∙ ap not_repository (one_place bytes h.0 k.0 h.1 k.1) ∙ sym k.2)
loaded_by R same ByRecords bytes one a b (inl h) (inr k) = absurd (no_file bytes h.0 k.0 h.1 k.1)
loaded_by R same ByRecords bytes one a b (inr h) (inl k) = absurd (no_file bytes k.0 h.0 k.1 h.1)
loaded_by R same ByRecords bytes one a b (inr h) (inr k) =
    one k.0 a b (subst (λ (old : List Record). ByRecords old a) (one_file bytes h.0 k.0 h.1 k.1) h.2) k.2

pub one_loaded : (ByRecords : List Record → Outcome → Type 0) (bytes : List ℕ) → ((old : List Record) (a b : Outcome) → ByRecords old a → ByRecords old b → a ≡ b)
    → (a b : Outcome) → IsLoaded ByRecords bytes a → IsLoaded ByRecords bytes b → a ≡ b
one_loaded ByRecords bytes one a b h k = loaded_by (λ a b. a ≡ b) (λ a b same. same) ByRecords bytes one a b h k

-- ---- a run

abbrev Map : Type 0
Map = List (List ℕ × Version)

one_answered : (honest : Bool) (question : Question) → IsTrue (honest || not (is_some (prefix_of question))) → (old : List Record) (a b : Outcome)
    → IsAnswered honest question old a → IsAnswered honest question old b → a ≡ b
one_answered honest question kind old a b h k = h.2 ∙ ap report_outcome (one_result honest (contents old) question kind h.0 k.0 h.1 k.1) ∙ sym k.2

alike_answered : (honest : Bool) (question : Question) (old : List Record) (a b : Outcome) → IsAnswered honest question old a → IsAnswered honest question old b → AreAlike a b
alike_answered honest question old a b h k =
    subst (λ (x : Outcome). AreAlike x b) (sym h.2) (subst (AreAlike (report_outcome h.0)) (sym k.2) (alike_result honest (contents old) question h.0 k.0 h.1 k.1))

one_uv_outcome : (asked : Unversioned) (input : List ℕ) (moment : ℕ) (bytes : List ℕ) (a b : Outcome) → IsUvOutcome asked input moment bytes a → IsUvOutcome asked input moment bytes b → a ≡ b
one_uv_outcome (uv.Init project server) input moment bytes a b h k = h ∙ sym k
one_uv_outcome (uv.Add path) input moment bytes a b h k = let does : Map → Done = λ m. add_done m path moment input in one_loaded (IsUvOf does) bytes (one_uv does) a b h k
one_uv_outcome (uv.Remove path) input moment bytes a b h k = let does : Map → Done = λ m. remove_done m path moment in one_loaded (IsUvOf does) bytes (one_uv does) a b h k
one_uv_outcome uv.List input moment bytes a b h k = one_loaded (IsUvOf list_done) bytes (one_uv list_done) a b h k
one_uv_outcome (uv.Cat path) input moment bytes a b h k = let does : Map → Done = λ m. cat_done m path in one_loaded (IsUvOf does) bytes (one_uv does) a b h k
one_uv_outcome (uv.Sync peer) input moment bytes a b h k = absurd h

one_checkin_of : (parent : Option (List ℕ)) (user comment input : List ℕ) (moment : ℕ) (old : List Record) (a b : Outcome) → IsCheckinOf parent user comment input moment old a → IsCheckinOf parent user comment input moment old b → a ≡ b
one_checkin_of parent user comment input moment old a b h k =
    let same = one_checkin parent user comment moment old h.0 k.0 h.1 k.1 input h.2 k.2 in
    h.3 ∙ (λ i. with_commit (same.0 i) (same.1 i)) ∙ sym k.3

one_exported_by : (honest : Bool) (prefix : List ℕ) → IsTrue (honest || false) → (old : List Record) (a b : Outcome) → IsExportedBy honest prefix old a → IsExportedBy honest prefix old b → a ≡ b
one_exported_by honest prefix kind old a b h k = h.2 ∙ ap without_commit (one_exported honest prefix (contents old) (honest_of honest kind) h.0 k.0 h.1 k.1) ∙ sym k.2

one_verified_by : (honest : Bool) (prefix : List ℕ) → IsTrue (honest || false) → (old : List Record) (a b : Outcome) → IsVerifiedBy honest prefix old a → IsVerifiedBy honest prefix old b → a ≡ b
one_verified_by honest prefix kind old a b h k = h.2 ∙ ap without_commit (one_verified honest prefix (contents old) (honest_of honest kind) h.0 k.0 h.1 k.1) ∙ sym k.2

pub one_command_outcome : (honest : Bool) (command : Command) → IsTrue (honest || not (command_reads_content command)) → (input : List ℕ) (moment : ℕ) (bytes : List ℕ) (a b : Outcome)
    → IsCommandOutcome honest command input moment bytes a → IsCommandOutcome honest command input moment bytes b → a ≡ b
one_command_outcome honest (command_of.Init project server fields) kind input moment bytes a b h k = h ∙ sym k
one_command_outcome honest command_of.Ingest kind input moment bytes a b h k = one_ingested input a b h k
one_command_outcome honest command_of.Put kind input moment bytes a b h k = one_loaded (IsPutOfFiles input moment) bytes (λ old x y p q. one_put_outcome input moment old x y p q) a b h k
one_command_outcome honest (command_of.Shun name) kind input moment bytes a b h k = one_loaded (IsShunOf name) bytes (λ old x y p q. p ∙ sym q) a b h k
one_command_outcome honest (command_of.Unshun name) kind input moment bytes a b h k = one_loaded (IsUnshunOf name) bytes (one_unshun_outcome name) a b h k
one_command_outcome honest (command_of.Ask question) kind input moment bytes a b h k = one_loaded (IsAnswered honest question) bytes (one_answered honest question kind) a b h k
one_command_outcome honest (command_of.Serve address users workers requests) kind input moment bytes a b h k = h ∙ sym k
one_command_outcome honest (command_of.Checkin parent user comment) kind input moment bytes a b h k = one_loaded (IsCheckinOf parent user comment input moment) bytes (one_checkin_of parent user comment input moment) a b h k
one_command_outcome honest (command_of.Export prefix) kind input moment bytes a b h k = one_loaded (IsExportedBy honest prefix) bytes (one_exported_by honest prefix kind) a b h k
one_command_outcome honest (command_of.Verify prefix) kind input moment bytes a b h k = one_loaded (IsVerifiedBy honest prefix) bytes (one_verified_by honest prefix kind) a b h k
one_command_outcome honest (command_of.Scrub path) kind input moment bytes a b h k = absurd h
one_command_outcome honest (command_of.Unversioned asked) kind input moment bytes a b h k = one_uv_outcome asked input moment bytes a b h k
one_command_outcome honest (command_of.Gen count reversed) kind input moment bytes a b h k = one_gen count reversed a b h k
one_command_outcome honest (command_of.Pull address login) kind input moment bytes a b h k = absurd h
one_command_outcome honest (command_of.Push address login) kind input moment bytes a b h k = absurd h
one_command_outcome honest (command_of.Clone address server fields) kind input moment bytes a b h k = absurd h
one_command_outcome honest (command_of.PullLocal path) kind input moment bytes a b h k = absurd h

pub one_said_outcome : (honest : Bool) (command : Option Command) → IsTrue (honest || not (reads_content command)) → (input : List ℕ) (moment : ℕ) (bytes : List ℕ) (a b : Outcome)
    → IsSaidOutcome honest command input moment bytes a → IsSaidOutcome honest command input moment bytes b → a ≡ b
one_said_outcome honest None kind input moment bytes a b h k = h ∙ sym k
one_said_outcome honest (Some command) kind input moment bytes a b h k = one_command_outcome honest command kind input moment bytes a b h k

alike_command : (command : Command) → command_reads_tree command ≡ false → (input : List ℕ) (moment : ℕ) (bytes : List ℕ) (a b : Outcome) → IsCommandOutcome false command input moment bytes a → IsCommandOutcome false command input moment bytes b → AreAlike a b
alike_command (command_of.Init project server fields) no_tree input moment bytes a b h k = same_alike a b (one_command_outcome false (command_of.Init project server fields) refl input moment bytes a b h k)
alike_command command_of.Ingest no_tree input moment bytes a b h k = same_alike a b (one_command_outcome false command_of.Ingest refl input moment bytes a b h k)
alike_command command_of.Put no_tree input moment bytes a b h k = same_alike a b (one_command_outcome false command_of.Put refl input moment bytes a b h k)
alike_command (command_of.Shun name) no_tree input moment bytes a b h k = same_alike a b (one_command_outcome false (command_of.Shun name) refl input moment bytes a b h k)
alike_command (command_of.Unshun name) no_tree input moment bytes a b h k = same_alike a b (one_command_outcome false (command_of.Unshun name) refl input moment bytes a b h k)
alike_command (command_of.Ask question) no_tree input moment bytes a b h k = loaded_by AreAlike same_alike (IsAnswered false question) bytes (alike_answered false question) a b h k
alike_command (command_of.Serve address users workers requests) no_tree input moment bytes a b h k =
    same_alike a b (one_command_outcome false (command_of.Serve address users workers requests) refl input moment bytes a b h k)
alike_command (command_of.Checkin parent user comment) no_tree input moment bytes a b h k =
    same_alike a b (one_command_outcome false (command_of.Checkin parent user comment) refl input moment bytes a b h k)
alike_command (command_of.Export prefix) no_tree input moment bytes a b h k = absurd cc
alike_command (command_of.Verify prefix) no_tree input moment bytes a b h k = absurd cc
alike_command (command_of.Scrub path) no_tree input moment bytes a b h k = absurd h
alike_command (command_of.Unversioned asked) no_tree input moment bytes a b h k =
    same_alike a b (one_command_outcome false (command_of.Unversioned asked) refl input moment bytes a b h k)
alike_command (command_of.Gen count reversed) no_tree input moment bytes a b h k = same_alike a b (one_command_outcome false (command_of.Gen count reversed) refl input moment bytes a b h k)
alike_command (command_of.Pull address login) no_tree input moment bytes a b h k = absurd h
alike_command (command_of.Push address login) no_tree input moment bytes a b h k = absurd h
alike_command (command_of.Clone address server fields) no_tree input moment bytes a b h k = absurd h
alike_command (command_of.PullLocal path) no_tree input moment bytes a b h k = absurd h

alike_said : (command : Option Command) → reads_tree command ≡ false → (input : List ℕ) (moment : ℕ) (bytes : List ℕ) (a b : Outcome) → IsSaidOutcome false command input moment bytes a → IsSaidOutcome false command input moment bytes b → AreAlike a b
alike_said None no_tree input moment bytes a b h k = same_alike a b (h ∙ sym k)
alike_said (Some command) no_tree input moment bytes a b h k = alike_command command no_tree input moment bytes a b h k

-- ---- status and commits, whatever was read

abbrev EndsAlike : Outcome → Outcome → Type 0
EndsAlike a b = (a.status ≡ b.status) × (a.commits ≡ b.commits)

same_ends : (a b : Outcome) → a ≡ b → EndsAlike a b
same_ends a b same = (ap (λ (o : Outcome). o.status) same, ap (λ (o : Outcome). o.commits) same)

printed_ends : (x y : Printed) → x.status ≡ y.status → (a b : Outcome) → a ≡ without_commit x → b ≡ without_commit y → EndsAlike a b
printed_ends x y same a b h k = (ap (λ (o : Outcome). o.status) h ∙ same ∙ sym (ap (λ (o : Outcome). o.status) k), ap (λ (o : Outcome). o.commits) h ∙ sym (ap (λ (o : Outcome). o.commits) k))

-- a command of a tree, or another
ends_command : (command : Command) (tree : Bool) → command_reads_tree command ≡ tree → (input : List ℕ) (moment : ℕ) (bytes : List ℕ) (a b : Outcome)
    → IsCommandOutcome false command input moment bytes a → IsCommandOutcome false command input moment bytes b → EndsAlike a b
ends_command command false e input moment bytes a b h k = let alike = alike_command command e input moment bytes a b h k in (alike.status, alike.commits)
ends_command (command_of.Export prefix) true e input moment bytes a b h k =
    loaded_by EndsAlike same_ends (IsExportedBy false prefix) bytes (λ old x y p q. printed_ends p.0 q.0 (exported_ends false prefix (contents old) p.0 q.0 p.1 q.1) x y p.2 q.2) a b h k
ends_command (command_of.Verify prefix) true e input moment bytes a b h k =
    loaded_by EndsAlike same_ends (IsVerifiedBy false prefix) bytes (λ old x y p q. printed_ends p.0 q.0 (verified_ends false prefix (contents old) p.0 q.0 p.1 q.1) x y p.2 q.2) a b h k
ends_command (command_of.Init project server fields) true e input moment bytes a b h k = absurd cc
ends_command command_of.Ingest true e input moment bytes a b h k = absurd cc
ends_command command_of.Put true e input moment bytes a b h k = absurd cc
ends_command (command_of.Shun name) true e input moment bytes a b h k = absurd cc
ends_command (command_of.Unshun name) true e input moment bytes a b h k = absurd cc
ends_command (command_of.Ask question) true e input moment bytes a b h k = absurd cc
ends_command (command_of.Serve address users workers requests) true e input moment bytes a b h k = absurd cc
ends_command (command_of.Checkin parent user comment) true e input moment bytes a b h k = absurd cc
ends_command (command_of.Scrub path) true e input moment bytes a b h k = absurd cc
ends_command (command_of.Unversioned asked) true e input moment bytes a b h k = absurd cc
ends_command (command_of.Gen count reversed) true e input moment bytes a b h k = absurd cc
ends_command (command_of.Pull address login) true e input moment bytes a b h k = absurd h
ends_command (command_of.Push address login) true e input moment bytes a b h k = absurd h
ends_command (command_of.Clone address server fields) true e input moment bytes a b h k = absurd h
ends_command (command_of.PullLocal path) true e input moment bytes a b h k = absurd h

ends_said : (command : Option Command) (input : List ℕ) (moment : ℕ) (bytes : List ℕ) (a b : Outcome) → IsSaidOutcome false command input moment bytes a → IsSaidOutcome false command input moment bytes b → EndsAlike a b
ends_said None input moment bytes a b h k = same_ends a b (h ∙ sym k)
ends_said (Some command) input moment bytes a b h k = ends_command command (command_reads_tree command) refl input moment bytes a b h k

pub one_outcome : HasOneOutcome
one_outcome = record {
  one = λ honest words input moment bytes a b kind h k. one_said_outcome honest (said words) kind input moment bytes a b h k;
  alike = λ words input moment bytes a b no_tree h k. alike_said (said words) no_tree input moment bytes a b h k;
  ends = λ words input moment bytes a b h k. ends_said (said words) input moment bytes a b h k;
}
