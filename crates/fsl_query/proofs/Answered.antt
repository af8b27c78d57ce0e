-- What an answer says of its value, of its refusal, and of what is reported.
use Rattle.std.proofs.Common.{◌≡◌, ℕ, arith, Bool, true, List, [], ◌∷◌, length, Option, Some, None, Ok, Err, inl, inr, refl, sym, ap, subst, ◌∙◌}
use Rattle.std.specs.Prelude.{◌≢◌, ◌↔◌, false, All, Contains, Result, IfOk, IfSome}
use Rattle.std.specs.Option.{option_map_or}
use Rattle.std.specs.FinMap as map_of
use Rattle.fsl_name.specs.Name.{name_of}
use Rattle.fsl_record.specs.declared.Record.{Record}
use Rattle.fsl_record.specs.Records.{AreRecords, IsFit}
use Rattle.std.specs.List.{AllByRecursion}
use Rattle.fsl_disk.specs.Disk.{DiskState, IsModelled}
use Rattle.fsl_order.specs.Causes.{Rose}
use Rattle.fsl_blobs.specs.Content.{IsContentOf, IsDamaged, ContentFailed}
use Rattle.fsl_blobs.specs.Fold.{Held, Contents, contents, size_in}
use Rattle.fsl_blobs.specs.Seen.{Seen, AreTrue}
use Rattle.fsl_blobs.specs.declared.Found.{Found}
use Rattle.fsl_blobs.specs.declared.Found.TheVariants as found_as
use Rattle.fsl_blobs.specs.Held.{matching, found}
use Rattle.fsl_blobs.proofs.NamedHeld.{held_are_named}
use Rattle.fsl_cross.specs.declared.Item.{Item}
use Rattle.fsl_cross.specs.Tables.{IsItem}
use Rattle.fsl_blobs.specs.declared.BlobFault.{BlobFault}
use Rattle.fsl_blobs.specs.declared.BlobFault.TheVariants as blob_fault
use Rattle.fsl_repo.specs.Machine.{State, AreItems, now}
use Rattle.fsl_repo.specs.Contents.{IsContentNow, ContentFails}
use Rattle.fsl_repo.specs.Opening.{HasItems}
use Rattle.fsl_repo.specs.Whole.{is_modelled}
use Rattle.fsl_repo.proofs.Givings.{modelled_by}
use Rattle.fsl_words.specs.declared.Question.{Question}
use Rattle.fsl_words.specs.declared.Question.TheVariants as question_of
use Rattle.fsl_query.specs.declared.Refused.{Refused}
use Rattle.fsl_query.specs.declared.Refused.TheVariants as refused_as
use Rattle.fsl_query.specs.declared.QueryFault.{QueryFault}
use Rattle.fsl_query.specs.declared.QueryFault.TheVariants as query_fault
use Rattle.fsl_query.specs.Answers.{IsAnswer, IsReadFor, IsReported, IsReportedIn, IsReportedOn, IsSpoiltIn, IsContentUntold, content_asked, one_of, prefix_of}
use Rattle.fsl_query.specs.Reports.{IsReadContent, IsReport, IsReportTold, by_found, content, name_found, receipt_report, report}
use Rattle.fsl_query.proofs.Prefixes.{of_one}

-- ---- questions that ask for no content

-- a refusal is the one that is due
pub refusal_of : {X : Type 0} (due : Result X Refused) (told : Result X QueryFault) (refused : Refused) → IsAnswer due told → told ≡ Err (query_fault.Refused refused) → due ≡ Err refused
refusal_of due told refused h is = subst (λ f. IsAnswer due f) is h

-- the report by the items that are held is a report
report_by : (honest : Bool) (c : Contents) (items : List Item) (question : Question) (due : Result (List ℕ) Refused) → prefix_of question ≡ None → AreItems c.held items → due ≡ report c items question → IsReport honest c question due
report_by honest c items (question_of.Cat prefix) due unread are is = absurd cc
report_by honest c items (question_of.Receipt prefix) due unread are is = is
report_by honest c items (question_of.Timeline count) due unread are is = (items, are, is)
report_by honest c items question_of.Leaves due unread are is = (items, are, is)
report_by honest c items (question_of.Tags prefix) due unread are is = (items, are, is)
report_by honest c items (question_of.Tip symbol) due unread are is = (items, are, is)
report_by honest c items (question_of.Files prefix) due unread are is = (items, are, is)
report_by honest c items (question_of.Wiki title) due unread are is = (items, are, is)
report_by honest c items (question_of.Ticket prefix) due unread are is = (items, are, is)
report_by honest c items (question_of.Thread prefix) due unread are is = (items, are, is)
report_by honest c items question_of.Phantoms due unread are is = (items, are, is)
report_by honest c items question_of.Info due unread are is = (items, are, is)
report_by honest c items question_of.Branches due unread are is = (items, are, is)
report_by honest c items question_of.Pages due unread are is = (items, are, is)
report_by honest c items (question_of.Tickets fields) due unread are is = (items, are, is)
report_by honest c items question_of.Threads due unread are is = (items, are, is)

-- an answer by the items that are held is reported
pub reported_by : (honest : Bool) (c : Contents) (items : List Item) (question : Question) (faults : ℕ) (told : Result (List ℕ) QueryFault) → prefix_of question ≡ None → AreItems c.held items → IsAnswer (report c items question) told → IsReported honest c question faults faults told
reported_by honest c items question faults (Ok text) unread are h = (report_by honest c items question (Ok text) unread are (sym h), refl)
reported_by honest c items question faults (Err (query_fault.Refused refused)) unread are h = (report_by honest c items question (Err refused) unread are (sym h), refl)
reported_by honest c items question faults (Err query_fault.Disk) unread are h = absurd h
reported_by honest c items question faults (Err (query_fault.Damaged name found)) unread are h = absurd h
reported_by honest c items question faults (Err query_fault.Memory) unread are h = refl

-- the line of a receipt is reported
pub reported_receipt : (honest : Bool) (c : Contents) (prefix : List ℕ) (faults : ℕ) (told : Result (List ℕ) QueryFault) → IsAnswer (receipt_report c prefix) told → IsReported honest c (question_of.Receipt prefix) faults faults told
reported_receipt honest c prefix faults (Ok text) h = (sym h, refl)
reported_receipt honest c prefix faults (Err (query_fault.Refused refused)) h = (sym h, refl)
reported_receipt honest c prefix faults (Err query_fault.Disk) h = absurd h
reported_receipt honest c prefix faults (Err (query_fault.Damaged name found)) h = absurd h
reported_receipt honest c prefix faults (Err query_fault.Memory) h = refl

-- and its value is told as it is
as_due : (honest : Bool) (question : Question) (due : Result (List ℕ) Refused) (text : List ℕ) → prefix_of question ≡ None → due ≡ Ok text → IsReportTold honest question due (Ok text)
as_due honest (question_of.Cat prefix) due text unread is = absurd cc
as_due honest (question_of.Receipt prefix) due text unread is = is
as_due honest (question_of.Timeline count) due text unread is = is
as_due honest question_of.Leaves due text unread is = is
as_due honest (question_of.Tags prefix) due text unread is = is
as_due honest (question_of.Tip symbol) due text unread is = is
as_due honest (question_of.Files prefix) due text unread is = is
as_due honest (question_of.Wiki title) due text unread is = is
as_due honest (question_of.Ticket prefix) due text unread is = is
as_due honest (question_of.Thread prefix) due text unread is = is
as_due honest question_of.Phantoms due text unread is = is
as_due honest question_of.Info due text unread is = is
as_due honest question_of.Branches due text unread is = is
as_due honest question_of.Pages due text unread is = is
as_due honest (question_of.Tickets fields) due text unread is = is
as_due honest question_of.Threads due text unread is = is

pub value_of : (honest : Bool) (question : Question) (due : Result (List ℕ) Refused) (told : Result (List ℕ) QueryFault) → prefix_of question ≡ None → IsAnswer due told → IfOk told (λ text. IsReportTold honest question due (Ok text))
value_of honest question due (Ok text) unread h = as_due honest question due text unread h
value_of honest question due (Err fault) unread h = tt

-- ---- questions that ask for a content

pub is_cat : (question : Question) (prefix : List ℕ) → prefix_of question ≡ Some prefix → question ≡ question_of.Cat prefix
is_cat (question_of.Cat other) prefix is = let same : other ≡ prefix = cc in ap question_of.Cat same
is_cat (question_of.Receipt other) prefix is = absurd cc
is_cat (question_of.Timeline count) prefix is = absurd cc
is_cat question_of.Leaves prefix is = absurd cc
is_cat (question_of.Tags other) prefix is = absurd cc
is_cat (question_of.Tip symbol) prefix is = absurd cc
is_cat (question_of.Files other) prefix is = absurd cc
is_cat (question_of.Wiki title) prefix is = absurd cc
is_cat (question_of.Ticket other) prefix is = absurd cc
is_cat (question_of.Thread other) prefix is = absurd cc
is_cat question_of.Phantoms prefix is = absurd cc
is_cat question_of.Info prefix is = absurd cc
is_cat question_of.Branches prefix is = absurd cc
is_cat question_of.Pages prefix is = absurd cc
is_cat (question_of.Tickets fields) prefix is = absurd cc
is_cat question_of.Threads prefix is = absurd cc

-- a content that is told is the one that is due, as it is read; and a refusal the one that is due
told_content : (honest : Bool) (c : Contents) (prefix : List ℕ) (before after : ℕ) (told : Result (List ℕ) QueryFault) → IsReported honest c (question_of.Cat prefix) before after told → IfOk told (λ text. IsReadContent honest (content c prefix) (Ok text))
told_content honest c prefix before after (Ok text) h = h.0
told_content honest c prefix before after (Err fault) h = tt

refused_due : (honest : Bool) (due : Result (List ℕ) Refused) (refused : Refused) → IsReadContent honest due (Err refused) → due ≡ Err refused
refused_due honest (Ok text) refused h = absurd (let e = h.2 in cc)
refused_due honest (Err other) refused h = sym h

refused_content : (honest : Bool) (c : Contents) (prefix : List ℕ) (before after : ℕ) (told : Result (List ℕ) QueryFault) (refused : Refused) → IsReported honest c (question_of.Cat prefix) before after told → told ≡ Err (query_fault.Refused refused) → content c prefix ≡ Err refused
refused_content honest c prefix before after told refused h is =
    refused_due honest (content c prefix) refused (subst (λ r. IsReported honest c (question_of.Cat prefix) before after r) is h).0

-- and so of the question that asks for it
module _ (honest : Bool) (c : Contents) (items : List Item) (question : Question) (prefix : List ℕ) (asks : prefix_of question ≡ Some prefix) (before after : ℕ) (told : Result (List ℕ) QueryFault) (h : IsReported honest c (question_of.Cat prefix) before after told) where
  pub content_told : IfOk told (λ text. IsReportTold honest question (report c items question) (Ok text))
  content_told = subst (λ q. IfOk told (λ text. IsReportTold honest q (report c items q) (Ok text))) (sym (is_cat question prefix asks)) (told_content honest c prefix before after told h)

  pub content_refused : (refused : Refused) → told ≡ Err (query_fault.Refused refused) → report c items question ≡ Err refused
  content_refused refused is = ap (report c items) (is_cat question prefix asks) ∙ refused_content honest c prefix before after told refused h is

as_refused : (honest : Bool) (due : Result (List ℕ) Refused) (refused : Refused) → due ≡ Err refused → IsReadContent honest due (Err refused)
as_refused honest due refused is = subst (λ (r : Result (List ℕ) Refused). IsReadContent honest r (Err refused)) (sym is) refl

-- a prefix that finds no name or several is refused
not_found : (prefix : List ℕ) (answer : List ℕ → Result (List ℕ) Refused) (refused : Refused) (f : Found) → by_found {X = List ℕ} prefix (λ name. Ok name) f ≡ Err refused → by_found prefix answer f ≡ Err refused
not_found prefix answer refused found_as.Nothing is = is
not_found prefix answer refused found_as.Several is = is
not_found prefix answer refused (found_as.One name) is = absurd cc

named_one : (prefix name : List ℕ) (f : Found) → by_found {X = List ℕ} prefix (λ name. Ok name) f ≡ Ok name → one_of f ≡ Some name
named_one prefix name found_as.Nothing is = absurd cc
named_one prefix name found_as.Several is = absurd cc
named_one prefix name (found_as.One other) is = let same : other ≡ name = cc in ap Some same

none_there : (e : ℕ × List ℕ) → Contains [] e → ⊥
none_there e there = let within = there.1 in omega arith

fit_of : (records : List Record) → AreRecords records → AllByRecursion IsFit records
fit_of [] are = absurd are
fit_of (r ∷ records) are = are.2

abbrev of_held : List ℕ → Option Held → Result (List ℕ) Refused
of_held prefix o = option_map_or (λ held. Ok held.bytes) o (Err (refused_as.NoArtifact prefix))

-- what is reported of a content
module _ (honest : Bool) (records : List Record) (are : AreRecords records) (prefix : List ℕ) (faults : ℕ) where
  abbrev c : Contents
  c = contents records

  abbrev Reported : ℕ → Result (List ℕ) QueryFault → Type 0
  Reported after told = IsReported honest c (question_of.Cat prefix) faults after told

  -- no name was found
  pub unfound : (fault : QueryFault) → IsAnswer (name_found c prefix) (Err fault) → Reported faults (Err fault)
  unfound (query_fault.Refused refused) h =
      (as_refused honest (content c prefix) refused (not_found prefix (λ name. of_held prefix (map_of.get c.held name)) refused (found (matching c.held prefix)) h), refl)
  unfound query_fault.Disk h = absurd h
  unfound (query_fault.Damaged name found) h = absurd h
  unfound query_fault.Memory h = refl

  module _ (name : List ℕ) (is : name_found c prefix ≡ Ok name) where
    asked : content_asked c (question_of.Cat prefix) ≡ Some name
    asked = named_one prefix name (found (matching c.held prefix)) is

    pub never_unasked : content_asked c (question_of.Cat prefix) ≡ None → ⊥
    never_unasked none = let e = sym asked ∙ none in cc

    due : (o : Option Held) → map_of.get c.held name ≡ o → content c prefix ≡ of_held prefix o
    due o held = of_one c prefix prefix name (λ name. of_held prefix (map_of.get c.held name)) refl is ∙ ap (of_held prefix) held

    named : (a : Held) → map_of.get c.held name ≡ Some a → name ≡ name_of a.bytes
    named a held = subst (λ (o : Option Held). IfSome o (λ a. name ≡ name_of a.bytes)) held (held_are_named records (fit_of records are) name)

    -- a content that was read
    pub read : (text : List ℕ) (a : Held) → map_of.get c.held name ≡ Some a → name_of text ≡ name → length text ≡ length a.bytes → (honest ≡ true → text ≡ a.bytes) → Reported faults (Ok text)
    read text a held right sized same =
        (subst (λ (r : Result (List ℕ) Refused). IsReadContent honest r (Ok text)) (sym (due (Some a) held)) (text, record { named = right ∙ named a held; sized = sized; same = same }, refl), refl)

    -- a content that isn't held
    missing : map_of.get c.held name ≡ None → IsReadContent honest (content c prefix) (Err (refused_as.NoArtifact prefix))
    missing none = as_refused honest (content c prefix) (refused_as.NoArtifact prefix) (due None none)

    -- a content that isn't told
    abbrev pub Fails : BlobFault → ℕ → Type 0
    Fails blob_fault.Absent after = (map_of.get c.held name ≡ None) × (after ≡ faults)
    Fails blob_fault.Disk after = Rose faults after
    Fails (blob_fault.Damaged found) after = IsSpoiltIn honest c name found × (after ≡ faults)
    Fails blob_fault.Memory after = after ≡ faults

    told_as : (after : ℕ) (told due : QueryFault) → told ≡ due → Reported after (Err due) → Reported after (Err told)
    told_as after told due why h = subst (λ t. Reported after (Err t)) (sym why) h

    pub fails : (fault : BlobFault) (told : QueryFault) (after : ℕ) → IsContentUntold prefix name fault told → Fails fault after → Reported after (Err told)
    fails blob_fault.Absent told after (inl why) failed = told_as after told (query_fault.Refused (refused_as.NoArtifact prefix)) why (missing failed.0, failed.1)
    fails blob_fault.Absent told after (inr why) failed = told_as after told query_fault.Memory why failed.1
    fails blob_fault.Disk told after why failed = told_as after told query_fault.Disk why (name, asked, failed)
    fails (blob_fault.Damaged found) told after why failed = told_as after told (query_fault.Damaged name found) why (asked, failed.0, failed.1)
    fails blob_fault.Memory told after why failed = told_as after told query_fault.Memory why failed

-- by a repository's state
module _ (s : State) (are : AreRecords s.records) (prefix name : List ℕ) (is : name_found (now s) prefix ≡ Ok name) where
  pub read_now : (text : List ℕ) (new : State) → new ≡ s → IsContentNow s name text → IsReportedIn s (question_of.Cat prefix) new (Ok text)
  read_now text new same has =
      subst (λ (x : State). IsReportedIn s (question_of.Cat prefix) x (Ok text)) (sym same)
      (read s.honest s.records are prefix s.faults name is text has.artifact has.held has.named has.sized has.same)

  now_fails : (fault : BlobFault) (new : State) → ContentFails fault s name new → Fails s.honest s.records are prefix s.faults name is fault new.faults
  now_fails blob_fault.Absent new failed = failed
  now_fails blob_fault.Disk new failed = failed
  now_fails (blob_fault.Damaged found) new failed =
      let h = failed.0 in
      (record { artifact = h.artifact; held = h.held; bytes = h.bytes; sized = h.sized; named = h.named; other = h.other; never = h.never }, failed.1)
  now_fails blob_fault.Memory new failed = failed

  pub fails_now : (fault : BlobFault) (told : QueryFault) (new : State) → IsContentUntold prefix name fault told → ContentFails fault s name new → IsReportedIn s (question_of.Cat prefix) new (Err told)
  fails_now fault told new why failed = fails s.honest s.records are prefix s.faults name is fault told new.faults why (now_fails fault new failed)

never_true : (b : Bool) → (b ≡ true → ⊥) → b ≡ false
never_true true never = absurd (never refl)
never_true false never = refl

-- by what was loaded from a disk
module _ (before after : DiskState) (b : Seen) (are : AreRecords b.records) (cached : IsModelled before → AreTrue b) (prefix name : List ℕ) (is : name_found (contents b.records) prefix ≡ Ok name) where
  pub read_on : (text : List ℕ) → after.faults ≡ before.faults → IsContentOf before b name text → IsReportedOn before b.records (question_of.Cat prefix) after (Ok text)
  read_on text same has =
      subst (λ (n : ℕ). IsReported (is_modelled before) (contents b.records) (question_of.Cat prefix) before.faults n (Ok text)) (sym same)
      (read (is_modelled before) b.records are prefix before.faults name is text has.artifact has.held has.named has.sized
      (λ honest. let modelled = modelled_by before honest in has.same modelled (cached modelled)))

  spoilt_on : (found : List ℕ) (o : Option Held) → map_of.get (contents b.records).held name ≡ o → o ≢ None → IsDamaged before name (size_in (contents b.records).held name) found → IsSpoiltIn (is_modelled before) (contents b.records) name found
  spoilt_on found None has some damaged = absurd (some refl)
  spoilt_on found (Some artifact) has some damaged = record {
    artifact = artifact;
    held = has;
    bytes = damaged.bytes;
    sized = damaged.sized ∙ ap (λ (o : Option Held). option_map_or (λ a. length a.bytes) o 0) has;
    named = damaged.named;
    other = damaged.other;
    never = never_true (is_modelled before) (λ honest. damaged.never (modelled_by before honest));
  }

  on_fails : (fault : BlobFault) (r : Result (List ℕ) BlobFault) → r ≡ Err fault → (r ≡ Err blob_fault.Absent) ↔ (map_of.get (contents b.records).held name ≡ None)
      → ContentFailed fault b name before after → Fails (is_modelled before) b.records are prefix before.faults name is fault after.faults
  on_fails blob_fault.Absent r fails absent failed = failed
  on_fails blob_fault.Disk r fails absent failed = failed
  on_fails (blob_fault.Damaged found) r fails absent failed =
      (spoilt_on found (map_of.get (contents b.records).held name) refl (λ none. let e = sym fails ∙ absent.1 none in cc) failed.0, failed.1)
  on_fails blob_fault.Memory r fails absent failed = failed

  pub fails_on : (fault : BlobFault) (told : QueryFault) (r : Result (List ℕ) BlobFault) → r ≡ Err fault → (r ≡ Err blob_fault.Absent) ↔ (map_of.get (contents b.records).held name ≡ None)
      → IsContentUntold prefix name fault told → ContentFailed fault b name before after → IsReportedOn before b.records (question_of.Cat prefix) after (Err told)
  fails_on fault told r is_fault absent why failed =
      fails (is_modelled before) b.records are prefix before.faults name is fault told after.faults why (on_fails fault r is_fault absent failed)

-- nothing is kept of contents where none was read
pub none_cached : (b : Seen) → b.cached ≡ [] → AreTrue b
none_cached b is = λ e there. absurd (none_there e (subst (λ (es : List (ℕ × List ℕ)). Contains es e) is there))

-- ---- what was read of a file for a question

pub read_for : (question : Question) (c : Contents) (items : Option (List Item)) → HasItems c items → prefix_of question ≡ None → ((prefix : List ℕ) → question ≡ question_of.Receipt prefix → ⊥) → IsReadFor question c items
read_for (question_of.Cat prefix) c items has unread other = absurd cc
read_for (question_of.Receipt prefix) c items has unread other = absurd (other prefix refl)
read_for (question_of.Timeline count) c items has unread other = has
read_for question_of.Leaves c items has unread other = has
read_for (question_of.Tags prefix) c items has unread other = has
read_for (question_of.Tip symbol) c items has unread other = has
read_for (question_of.Files prefix) c items has unread other = has
read_for (question_of.Wiki title) c items has unread other = has
read_for (question_of.Ticket prefix) c items has unread other = has
read_for (question_of.Thread prefix) c items has unread other = has
read_for question_of.Phantoms c items has unread other = has
read_for question_of.Info c items has unread other = has
read_for question_of.Branches c items has unread other = has
read_for question_of.Pages c items has unread other = has
read_for (question_of.Tickets fields) c items has unread other = has
read_for question_of.Threads c items has unread other = has

pub items_for : (question : Question) (c : Contents) (items : List Item) → IsReadFor question c (Some items) → AreItems c.held items × All IsItem items
items_for (question_of.Cat prefix) c items read = absurd cc
items_for (question_of.Receipt prefix) c items read = absurd cc
items_for (question_of.Timeline count) c items read = read
items_for question_of.Leaves c items read = read
items_for (question_of.Tags prefix) c items read = read
items_for (question_of.Tip symbol) c items read = read
items_for (question_of.Files prefix) c items read = read
items_for (question_of.Wiki title) c items read = read
items_for (question_of.Ticket prefix) c items read = read
items_for (question_of.Thread prefix) c items read = read
items_for question_of.Phantoms c items read = read
items_for question_of.Info c items read = read
items_for question_of.Branches c items read = read
items_for question_of.Pages c items read = read
items_for (question_of.Tickets fields) c items read = read
items_for question_of.Threads c items read = read
