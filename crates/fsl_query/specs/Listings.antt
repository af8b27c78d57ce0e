-- What there is: the branches, pages, tickets and threads of what is held, by the facts of their tables and by the rows of the timeline.
use Rattle.std.specs.Prelude.{ℕ, ◌-◌, ◌&&◌, Bool, not, List, [], length, if◌then◌else◌, Option, Some, None, filter, filter_map, find, flat_map, map, slice_get, take, option_map, Result, Ok, Err}
use Rattle.std.specs.Option.{option_eq, option_map_or}
use Rattle.std.specs.Str.{bytes_eq}
use Rattle.fsl_order.specs.Names.{dated_cmp, has}
use Rattle.fsl_order.specs.Rows.{ascending, greatest}
use Rattle.fsl_name.specs.Name.{name_text}
use Rattle.fsl_timeline.specs.declared.Row.{Row}
use Rattle.fsl_timeline.specs.declared.RowKind.{RowKind}
use Rattle.fsl_timeline.specs.declared.RowKind.TheVariants as row
use Rattle.fsl_timeline.specs.Timeline.{timeline}
use Rattle.fsl_wiki.specs.declared.Fact as pages_of
use Rattle.fsl_wiki.specs.declared.Page.{Page}
use Rattle.fsl_wiki.specs.Pages.{as_page, history}
use Rattle.fsl_ticket.specs.declared.Fact as tickets_of
use Rattle.fsl_ticket.specs.Tickets.{value}
use Rattle.fsl_forum.specs.declared.Fact as posts_of
use Rattle.fsl_forum.specs.Threads.{place, thread}
use Rattle.fsl_query.specs.declared.Refused.{Refused}
use Rattle.fsl_query.specs.declared.Refused.TheVariants.{NoField}
use Rattle.fsl_query.specs.Lines.{branch_line, title_line, ticket_line, thread_line}

-- ---- dates and names under keys

-- the last of a list
abbrev pub last : {X : Type 0} → List X → Option X
last xs = slice_get xs (length xs - 1)

-- the keys, ascending, each once
abbrev pub keys_in : List (List ℕ × (ℕ × List ℕ)) → List (List ℕ)
keys_in dated = ascending (map (λ e. e.0) dated)

-- the date and the name, where they stand under the key
abbrev pub under : List ℕ → List ℕ × (ℕ × List ℕ) → Option (ℕ × List ℕ)
under key e = if bytes_eq e.0 key then Some e.1 else None

-- the newest under a key: of the greatest date, and at one date of the greatest name
abbrev pub newest : List (List ℕ × (ℕ × List ℕ)) → List ℕ → Option (ℕ × List ℕ)
newest dated key = greatest dated_cmp (filter_map (under key) dated)

-- what is told of each key and of the newest under it, by rising key
abbrev pub of_each : (List ℕ → ℕ × List ℕ → List ℕ) → List (List ℕ × (ℕ × List ℕ)) → List ℕ
of_each tell dated = flat_map (λ key. option_map_or (tell key) (newest dated key) []) (keys_in dated)

-- ---- branches

-- the date and the name of a row under its branch, where it is that of a check-in
abbrev pub dated_checkin : List ℕ → Row → RowKind → Option (List ℕ × (ℕ × List ℕ))
dated_checkin branch r row.Checkin = Some (branch, (r.time, r.name))
dated_checkin branch r _ = None

-- the check-ins under their branches, with the dates that the timeline has of them
abbrev pub checkins : (List ℕ → List ℕ) → List Row → List (List ℕ × (ℕ × List ℕ))
checkins branch_of rows = filter_map (λ r. dated_checkin (branch_of r.name) r r.kind) rows

-- the branches that check-ins have, by their bytes, each with its newest check-in
abbrev pub branches_report : (List ℕ → List ℕ) → List Row → List ℕ
branches_report branch_of rows = of_each (λ branch newest. branch_line newest branch) (checkins branch_of rows)

-- ---- pages

-- the versions of pages under their titles
abbrev pub dated_page : Page → List ℕ × (ℕ × List ℕ)
dated_page p = (p.title, (p.date, p.name))

abbrev pub versions : List pages_of.Fact → List (List ℕ × (ℕ × List ℕ))
versions facts = filter_map (λ f. option_map dated_page (as_page f)) facts

-- the current version of a page: the last one by date and name
abbrev pub current_page : List pages_of.Fact → List ℕ → Option Page
current_page facts title = last (history facts title)

-- the titles of pages, by their bytes, each with the current version
abbrev pub pages_report : List pages_of.Fact → List ℕ
pages_report facts = flat_map (λ title. option_map_or title_line (current_page facts title) []) (keys_in (versions facts))

-- ---- tickets

-- the changes of tickets under the digits of their ids
abbrev pub dated_change : tickets_of.Fact → List ℕ × (ℕ × List ℕ)
dated_change f = (name_text f.id, (f.date, f.id))

-- the first of some fields that isn't configured
abbrev pub unknown_field : List (List ℕ) → List (List ℕ) → Option (List ℕ)
unknown_field configured asked = find (λ field. not (has configured field)) asked

-- the ids of tickets by their digits, each with the date of its last change and the values of the fields that are asked for
abbrev pub tickets_lines : List (List ℕ) → List tickets_of.Fact → List ℕ
tickets_lines asked facts = of_each (λ digits latest. ticket_line latest.0 latest.1 (map (value facts latest.1) asked)) (map dated_change facts)

-- .. where all of these are configured
abbrev pub tickets_report : List (List ℕ) → List (List ℕ) → List tickets_of.Fact → Result (List ℕ) Refused
tickets_report configured asked facts = option_map_or (λ field. Err (NoField field)) (unknown_field configured asked) (Ok (tickets_lines asked facts))

-- the ids of tickets, ascending
abbrev pub ticket_ids : List tickets_of.Fact → List (List ℕ)
ticket_ids facts = ascending (map (λ f. f.id) facts)

-- ---- threads

-- the threads that have a valid post, ascending
abbrev pub thread_names : List posts_of.Fact → List (List ℕ)
thread_names facts = ascending (filter_map (λ f. place facts f.name) facts)

-- whether a row is that of the post of a name, and this is a valid post of the thread that is named by it
abbrev pub names_thread : List posts_of.Fact → List ℕ → Row → Bool
names_thread facts name r = bytes_eq r.name name && option_eq bytes_eq (place facts r.name) (Some r.name)

-- the H card of that post, which is the text of its row; no text where there is no such post
abbrev pub thread_title : List posts_of.Fact → List Row → List ℕ → List ℕ
thread_title facts rows name = option_map_or (λ r. r.text) (find (names_thread facts name) rows) []

-- a thread as a row: the date of its last post by date, its name and its title; none where it has no valid post
abbrev pub thread_row : List posts_of.Fact → List Row → List ℕ → Option Row
thread_row facts rows name =
    option_map (λ post. record { time = post.date; name = name; kind = row.Forum; user = []; text = thread_title facts rows name }) (last (thread facts name))

abbrev pub threads_as_rows : List posts_of.Fact → List Row → List (List ℕ) → List Row
threads_as_rows facts rows names = filter_map (thread_row facts rows) names

-- the threads in the order of a timeline: that with the latest post first, of one date by name; each with how many valid posts it has
abbrev pub threads_report : List posts_of.Fact → List Row → List ℕ
threads_report facts rows = flat_map (λ r. thread_line r (length (thread facts r.name))) (timeline (threads_as_rows facts rows (thread_names facts)))

-- ---- prefixes

-- those of some names whose digits begin with the prefix
abbrev pub beginning : List ℕ → List (List ℕ) → List (List ℕ)
beginning prefix names = filter (λ name. bytes_eq (take (length prefix) (name_text name)) prefix) names
