-- The lines of reports.
use Rattle.std.specs.Prelude.{ℕ, List, [], ◌∷◌, ◌++◌, Option, Some, None, if◌then◌else◌, codes, decimal, map}
use Rattle.std.specs.Option.{option_map_or}
use Rattle.fsl_date.specs.Moment.{moment_text}
use Rattle.fsl_text.specs.Bytes.{is_empty}
use Rattle.fsl_text.specs.Escapes.{escape}
use Rattle.fsl_name.specs.Name.{name_text}
use Rattle.fsl_name.specs.Ref.{ref_text}
use Rattle.fsl_record.specs.Receipts.{Brought}
use Rattle.fsl_tags.specs.declared.Assertion.{Assertion}
use Rattle.fsl_files.specs.declared.Perm.{Perm}
use Rattle.fsl_files.specs.declared.Perm.TheVariants as perm
use Rattle.fsl_files.specs.declared.FileRow.{FileRow}
use Rattle.fsl_files.specs.declared.How.{How}
use Rattle.fsl_files.specs.declared.How.TheVariants.{Added, Edited, Deleted}
use Rattle.fsl_files.specs.declared.Change.{Change}
use Rattle.fsl_timeline.specs.declared.RowKind.{RowKind}
use Rattle.fsl_timeline.specs.declared.RowKind.TheVariants as row
use Rattle.fsl_timeline.specs.declared.Row.{Row}
use Rattle.fsl_wiki.specs.declared.Page.{Page}
use Rattle.fsl_wiki.specs.declared.Attached.{Attached}
use Rattle.fsl_forum.specs.declared.PostKind.{PostKind}
use Rattle.fsl_forum.specs.declared.PostKind.TheVariants.{Start, Edit, Reply}
use Rattle.fsl_forum.specs.declared.Post.{Post}

-- words with one space between them, and a newline
abbrev pub spaced : List (List ℕ) → List ℕ
spaced [] = 10 ∷ []
spaced (word ∷ []) = word ++ 10 ∷ []
spaced (word ∷ words) = word ++ 32 ∷ spaced words

-- a text as a line shows it: `-` where it is empty
abbrev pub shown : List ℕ → List ℕ
shown text = if is_empty text then 45 ∷ [] else escape text

-- a line of a key and a value, or of the key alone where the value is empty
abbrev pub valued_line : List ℕ → List ℕ → List ℕ
valued_line key value = if is_empty value then spaced (escape key ∷ []) else spaced (escape key ∷ escape value ∷ [])

-- ---- receipts

-- MOMENT LOGIN of who brought an artifact and when, or `none` where that wasn't told
abbrev pub receipt_line : Option Brought → List ℕ
receipt_line None = codes "none" ++ 10 ∷ []
receipt_line (Some r) = spaced (moment_text r.moment ∷ shown r.login ∷ [])

-- ---- timeline

abbrev pub kind_text : RowKind → List ℕ
kind_text row.Checkin = codes "ci"
kind_text row.Wiki = codes "wiki"
kind_text row.Ticket = codes "tkt"
kind_text row.Note = codes "note"
kind_text row.Forum = codes "forum"
kind_text row.Tag = codes "tag"

-- TIME NAME KIND USER TEXT
abbrev pub timeline_line : Row → List ℕ
timeline_line r = spaced (moment_text r.time ∷ name_text r.name ∷ kind_text r.kind ∷ shown r.user ∷ shown r.text ∷ [])

-- ---- leaves, tags and tips

-- NAME BRANCH
abbrev pub leaf_line : List ℕ → List ℕ → List ℕ
leaf_line branch name = spaced (name_text name ∷ shown branch ∷ [])

-- TAG VALUE, or TAG
abbrev pub tag_line : Assertion → List ℕ
tag_line a = valued_line a.tag a.value

-- NAME
abbrev pub tip_line : List ℕ → List ℕ
tip_line name = spaced (name_text name ∷ [])

-- ---- files

abbrev pub perm_text : Perm → List ℕ
perm_text perm.Plain = codes "-"
perm_text perm.Writable = codes "-"
perm_text perm.Exec = codes "x"
perm_text perm.Symlink = codes "l"

-- HASH PERM PATH; each file that is known has a hash
abbrev pub file_line : FileRow → List ℕ
file_line f = option_map_or (λ hash. spaced (ref_text hash ∷ perm_text f.perm ∷ escape f.path ∷ [])) f.hash []

abbrev pub how_text : How → List ℕ
how_text Added = codes "added"
how_text Edited = codes "edited"
how_text Deleted = codes "deleted"

-- added PATH, edited PATH, deleted PATH
abbrev pub change_line : Change → List ℕ
change_line c = spaced (how_text c.how ∷ escape c.path ∷ [])

-- ---- wiki, tickets and threads

-- DATE NAME USER
abbrev pub page_line : Page → List ℕ
page_line p = spaced (moment_text p.date ∷ name_text p.name ∷ shown p.user ∷ [])

-- attachment NAME FILE
abbrev pub attachment_line : Attached → List ℕ
attachment_line a = spaced (codes "attachment" ∷ name_text a.name ∷ escape a.file ∷ [])

-- FIELD VALUE, or FIELD
abbrev pub field_line : List ℕ × List ℕ → List ℕ
field_line pair = valued_line pair.0 pair.1

abbrev pub post_kind_text : PostKind → List ℕ
post_kind_text Start = codes "start"
post_kind_text Edit = codes "edit"
post_kind_text Reply = codes "reply"

-- DATE NAME KIND USER
abbrev pub post_line : Post → List ℕ
post_line p = spaced (moment_text p.date ∷ name_text p.name ∷ post_kind_text p.how ∷ shown p.user ∷ [])

-- ---- what there is

-- DATE NAME BRANCH, of a date and a name
abbrev pub branch_line : ℕ × List ℕ → List ℕ → List ℕ
branch_line newest branch = spaced (moment_text newest.0 ∷ name_text newest.1 ∷ shown branch ∷ [])

-- DATE NAME USER TITLE
abbrev pub title_line : Page → List ℕ
title_line p = spaced (moment_text p.date ∷ name_text p.name ∷ shown p.user ∷ shown p.title ∷ [])

-- DATE ID VALUE ..
abbrev pub ticket_line : ℕ → List ℕ → List (List ℕ) → List ℕ
ticket_line date id values = spaced (moment_text date ∷ name_text id ∷ map shown values)

-- DATE NAME POSTS TITLE, of a thread as a row
abbrev pub thread_line : Row → ℕ → List ℕ
thread_line r posts = spaced (moment_text r.time ∷ name_text r.name ∷ decimal posts ∷ shown r.text ∷ [])

-- WORD N
abbrev pub count_line : List ℕ → ℕ → List ℕ
count_line word n = spaced (word ∷ decimal n ∷ [])

-- WORD CODE
abbrev pub code_line : List ℕ → List ℕ → List ℕ
code_line word code = spaced (word ∷ name_text code ∷ [])

-- field NAME
abbrev pub configured_line : List ℕ → List ℕ
configured_line field = spaced (codes "field" ∷ escape field ∷ [])

-- ---- phantoms

-- wanted NAME
abbrev pub wanted_line : List ℕ → List ℕ
wanted_line name = spaced (codes "wanted" ∷ name_text name ∷ [])
