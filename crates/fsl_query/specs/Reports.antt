-- The report or the refusal that a question gets, by the contents and the items that the held artifacts are.
use Rattle.std.specs.Prelude.{◌≡◌, ℕ, Bool, true, List, [], ◌∷◌, ◌++◌, length, filter, flat_map, zip, Option, Result, Ok, Err}
use Rattle.std.specs.Option.{option_map_or}
use Rattle.std.specs.FinMap as map_of
use Rattle.fsl_name.specs.Name.{name_in, name_of, name_text}
use Rattle.fsl_tags.specs.declared.Fact as tags
use Rattle.fsl_tags.specs.Tags.{in_force}
use Rattle.fsl_leaves.specs.declared.Fact as leaves_of
use Rattle.fsl_leaves.specs.Leaves.{leaves}
use Rattle.fsl_files.specs.declared.Fact as files_of
use Rattle.fsl_files.specs.declared.Listing.{Listing}
use Rattle.fsl_files.specs.declared.Listing.TheVariants.{NotCheckin as not_checkin, NoBaseline as no_baseline, Known}
use Rattle.fsl_files.specs.Files.{files, changes}
use Rattle.fsl_timeline.specs.declared.Row.{Row}
use Rattle.fsl_timeline.specs.Timeline.{latest, timeline}
use Rattle.fsl_wiki.specs.declared.Fact as pages_of
use Rattle.fsl_wiki.specs.Pages.{history, attached}
use Rattle.fsl_ticket.specs.declared.Fact as tickets_of
use Rattle.fsl_ticket.specs.Tickets.{fields}
use Rattle.fsl_forum.specs.declared.Fact as posts_of
use Rattle.fsl_forum.specs.Threads.{thread}
use Rattle.fsl_cross.specs.declared.Item.{Item}
use Rattle.fsl_cross.specs.Checkins.{branch, tip}
use Rattle.fsl_cross.specs.Tables.{TableFacts, tables}
use Rattle.fsl_blobs.specs.Fold.{Contents}
use Rattle.fsl_blobs.specs.declared.Found.{Found}
use Rattle.fsl_blobs.specs.declared.Found.TheVariants as found_as
use Rattle.fsl_blobs.specs.Held.{matching, found}
use Rattle.fsl_repo.specs.Machine.{AreItems, configured, now, wants}
use Rattle.fsl_repo.specs.Whole.{Seen}
use Rattle.fsl_words.specs.declared.Question.{Question}
use Rattle.fsl_words.specs.declared.Question.TheVariants.{Cat, Receipt, Timeline, Leaves, Tags, Tip, Files, Wiki, Ticket, Thread, Phantoms, Info, Branches, Pages, Tickets, Threads}
use Rattle.fsl_query.specs.declared.Refused.{Refused}
use Rattle.fsl_query.specs.declared.Refused.TheVariants as refused
use Rattle.fsl_query.specs.Info.{info_report}
use Rattle.fsl_query.specs.Listings.{beginning, branches_report, pages_report, thread_names, threads_report, ticket_ids, tickets_report}
use Rattle.fsl_query.specs.Lines.{receipt_line, timeline_line, leaf_line, tag_line, tip_line, file_line, change_line, page_line, attachment_line, field_line, post_line, wanted_line}

-- all tables of the items
abbrev pub tables_now : Contents → List Item → TableFacts
tables_now c items = tables (configured c) items

-- what follows from the one name that a prefix finds, or its refusal
abbrev pub by_found : {X : Type 0} → List ℕ → (List ℕ → Result X Refused) → Found → Result X Refused
by_found prefix answer found_as.Nothing = Err (refused.NoArtifact prefix)
by_found prefix answer found_as.Several = Err (refused.SeveralArtifacts prefix)
by_found prefix answer (found_as.One name) = answer name

abbrev pub of_prefix : {X : Type 0} → Contents → List ℕ → (List ℕ → Result X Refused) → Result X Refused
of_prefix c prefix answer = by_found prefix answer (found (matching c.held prefix))

-- the name that the prefix finds
abbrev pub name_found : Contents → List ℕ → Result (List ℕ) Refused
name_found c prefix = of_prefix c prefix (λ name. Ok name)

-- the text, where there is something to report
abbrev pub unless_none : {X : Type 0} → List X → Refused → List ℕ → Result (List ℕ) Refused
unless_none [] refusal text = Err refusal
unless_none (x ∷ xs) refusal text = Ok text

-- ---- the questions

-- the content alone
abbrev pub content : Contents → List ℕ → Result (List ℕ) Refused
content c prefix = of_prefix c prefix (λ name. option_map_or (λ held. Ok held.bytes) (map_of.get c.held name) (Err (refused.NoArtifact prefix)))

-- the receipt of an artifact
abbrev pub receipt_report : Contents → List ℕ → Result (List ℕ) Refused
receipt_report c prefix = of_prefix c prefix (λ name. Ok (receipt_line (map_of.get c.receipts name)))

-- a text that may stand in place of a content: over a disk that tells its contents and meets the disk model it is it; over every other disk it has its name and its size
pub record IsReadText (honest : Bool) (content text : List ℕ) : Type 0 where
  pub named : name_of text ≡ name_of content
  pub sized : length text ≡ length content
  pub same : honest ≡ true → text ≡ content

-- the content as it is read, or the refusal
abbrev pub IsReadContent : Bool → Result (List ℕ) Refused → Result (List ℕ) Refused → Type 0
IsReadContent honest (Ok content) result = (text : List ℕ) × IsReadText honest content text × (result ≡ Ok text)
IsReadContent honest (Err refused) result = result ≡ Err refused

-- the first rows of the timeline
abbrev pub timeline_report : List Row → ℕ → List ℕ
timeline_report rows count = flat_map timeline_line (latest rows count)

-- the leaves by name, each with its branch
abbrev pub leaves_report : (List ℕ → List ℕ) → List leaves_of.Fact → List ℕ
leaves_report branch_of facts = flat_map (λ name. leaf_line (branch_of name) name) (leaves facts)

-- the tags in force on a name, by tag
abbrev pub tags_report : List tags.Fact → List ℕ → List ℕ
tags_report facts name = flat_map tag_line (in_force facts name)

-- the check-in that is the tip of a symbolic name, where there is one
abbrev pub tip_report : Option (List ℕ) → List ℕ → Result (List ℕ) Refused
tip_report latest_of symbol = option_map_or (λ name. Ok (tip_line name)) latest_of (Err (refused.NoCheckin symbol))

-- the files by path, and then the changes by path, where there are some
abbrev pub listing_report : List files_of.Fact → List ℕ → Listing → Result (List ℕ) Refused
listing_report facts name not_checkin = Err (refused.NotCheckin name)
listing_report facts name no_baseline = Err (refused.NoBaseline name)
listing_report facts name (Known rows) = Ok (flat_map file_line rows ++ option_map_or (flat_map change_line) (changes facts name) [])

abbrev pub files_report : List files_of.Fact → List ℕ → Result (List ℕ) Refused
files_report facts name = listing_report facts name (files facts name)

-- the attachments of a target that aren't deleted, by file
abbrev pub attachments_report : List pages_of.Fact → List ℕ → List ℕ
attachments_report facts target = flat_map attachment_line (filter (λ a. a.sourced) (attached facts target))

-- the versions of a page by date and name, and its attachments
abbrev pub wiki_report : List pages_of.Fact → List ℕ → Result (List ℕ) Refused
wiki_report facts title =
    let pages = history facts title in
    unless_none pages (refused.NoPage title) (flat_map page_line pages ++ attachments_report facts title)

-- the configured fields in their order, and the attachments of the ticket
abbrev pub ticket_report : List (List ℕ) → List tickets_of.Fact → List pages_of.Fact → List ℕ → Result (List ℕ) Refused
ticket_report configured tickets pages id =
    option_map_or (λ values. Ok (flat_map field_line (zip configured values) ++ attachments_report pages (name_text id)))
    (fields configured tickets id) (Err (refused.NoTicket (name_text id)))

-- the valid posts of a thread by date and name
abbrev pub thread_report : List posts_of.Fact → List ℕ → Result (List ℕ) Refused
thread_report facts name = let posts = thread facts name in unless_none posts (refused.NoThread (name_text name)) (flat_map post_line posts)

-- what follows from the one of some names that begins with the prefix, or the refusal; 40 digits are a name themselves
abbrev pub by_beginning : {X : Type 0} → List ℕ → Refused → (List ℕ → Result X Refused) → Found → Result X Refused
by_beginning prefix none answer found_as.Nothing = Err none
by_beginning prefix none answer found_as.Several = Err (refused.Several prefix)
by_beginning prefix none answer (found_as.One name) = answer name

abbrev pub of_beginning : {X : Type 0} → List (List ℕ) → List ℕ → Refused → (List ℕ → Result X Refused) → Result X Refused
of_beginning names prefix none answer = option_map_or answer (name_in prefix) (by_beginning prefix none answer (found (beginning prefix names)))

-- the ticket whose id begins with the prefix
abbrev pub ticket_of_prefix : TableFacts → List ℕ → Result (List ℕ) Refused
ticket_of_prefix t prefix =
    of_beginning (ticket_ids t.tickets) prefix (refused.NoTicket prefix) (ticket_report t.fields t.tickets t.pages)

-- the thread whose name begins with the prefix
abbrev pub thread_of_facts : List posts_of.Fact → List ℕ → Result (List ℕ) Refused
thread_of_facts facts prefix = of_beginning (thread_names facts) prefix (refused.NoThread prefix) (thread_report facts)

abbrev pub thread_of_prefix : TableFacts → List ℕ → Result (List ℕ) Refused
thread_of_prefix t prefix = thread_of_facts t.threads prefix

-- the threads, with the titles that the timeline has
abbrev pub threads_told : TableFacts → List ℕ
threads_told t = threads_report t.threads (timeline t.timeline)

-- a line for each of some names
abbrev pub phantoms_report : List (List ℕ) → List ℕ
phantoms_report names = flat_map wanted_line names

-- ---- reports

-- the report on a question, or its refusal; phantoms are the names that held artifacts refer to and that are neither held nor shunned
abbrev pub report : Contents → List Item → Question → Result (List ℕ) Refused
report c items (Cat prefix) = content c prefix
report c items (Receipt prefix) = receipt_report c prefix
report c items (Timeline count) = Ok (timeline_report (tables_now c items).timeline count)
report c items Leaves = Ok (leaves_report (branch items) (tables_now c items).leaves)
report c items (Tags prefix) = of_prefix c prefix (λ name. Ok (tags_report (tables_now c items).tags name))
report c items (Tip symbol) = tip_report (tip items symbol) symbol
report c items (Files prefix) = of_prefix c prefix (files_report (tables_now c items).files)
report c items (Wiki title) = wiki_report (tables_now c items).pages title
report c items (Ticket prefix) = ticket_of_prefix (tables_now c items) prefix
report c items (Thread prefix) = thread_of_prefix (tables_now c items) prefix
report c items Phantoms = Ok (phantoms_report (wants c items))
report c items Info = Ok (info_report c (wants c items))
report c items Branches = Ok (branches_report (branch items) (timeline (tables_now c items).timeline))
report c items Pages = Ok (pages_report (tables_now c items).pages)
report c items (Tickets asked) = let t = tables_now c items in tickets_report t.fields asked t.tickets
report c items Threads = Ok (threads_told (tables_now c items))

-- what is told for a report that is due: a content as it is read, and every other report as it is
abbrev pub IsReportTold : Bool → Question → Result (List ℕ) Refused → Result (List ℕ) Refused → Type 0
IsReportTold honest (Cat prefix) due result = IsReadContent honest due result
IsReportTold honest question due result = due ≡ result

-- the report of a repository
abbrev pub report_in : Seen → Question → Result (List ℕ) Refused
report_in seen question = report (now seen.state) seen.items question

-- the report by the items that the held artifacts are; of a content and of a receipt they don't matter, and a content is as it is read
abbrev pub IsReport : Bool → Contents → Question → Result (List ℕ) Refused → Type 0
IsReport honest c (Cat prefix) result = IsReadContent honest (content c prefix) result
IsReport honest c (Receipt prefix) result = result ≡ receipt_report c prefix
IsReport honest c question result = (items : List Item) × AreItems c.held items × (result ≡ report c items question)
