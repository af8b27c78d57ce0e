-- What `checkin` prints and appends, by its words, its input, the moment and the records of the file.
use Rattle.std.specs.Prelude.{◌≡◌, ℕ, ◌⊎◌, true, false, nat_lt, List, [], ◌∷◌, ◌++◌, length, map, codes, decimal, Option, Some, None, is_some, Result, Ok, Err, MatchBool, MatchResult, if◌then◌else◌}
use Rattle.fsl_text.specs.Limits.{most_of_message}
use Rattle.fsl_name.specs.Name.{name_of}
use Rattle.fsl_record.specs.declared.Record.{Record}
use Rattle.fsl_card.specs.Writing.{sealed_text}
use Rattle.fsl_manifest.specs.Writing.{manifest_cards}
use Rattle.fsl_blobs.specs.Fold.{Contents, contents}
use Rattle.fsl_cross.specs.declared.Item.{Item}
use Rattle.fsl_repo.specs.Machine.{AreItems}
use Rattle.fsl_repo.specs.Whole.{opened}
use Rattle.fsl_query.specs.declared.Refused.{Refused}
use Rattle.fsl_query.specs.declared.Refused.TheVariants as refused_as
use Rattle.fsl_query.specs.Refusals.{refusal_text}
use Rattle.fsl_query.specs.Reports.{of_prefix}
use Rattle.fsl_checkin.specs.declared.types.TreeItem.{TreeItem}
use Rattle.fsl_checkin.specs.Trees.{IsBadItem, IsTreeText}
use Rattle.fsl_checkin.specs.Checkins.{checkin_of}
use Rattle.fsl_checkin.specs.Exports.{checkin_at}
use Rattle.fossil.specs.declared.reading.message.MessageFile.{MessageFile}
use Rattle.fossil.specs.Printed.{Printed, name_line}
use Rattle.fossil.specs.Printed as printing
use Rattle.fossil.specs.Arrivals.{Taken, none_taken, Arrive}
use Rattle.fossil.specs.Put.{appended_by, put_receipt}

-- ---- what arrives

-- the text of the check-in that a tree becomes
abbrev pub checkin_text : List TreeItem → Option (List ℕ) → List ℕ → List ℕ → ℕ → List ℕ
checkin_text t parent user comment moment = sealed_text (manifest_cards (checkin_of t parent user comment moment))

-- a public file under the name of its bytes
abbrev pub sent_of : List ℕ → MessageFile
sent_of bytes = record { name = name_of bytes; bytes = bytes; private = false }

-- the contents of the tree in order, and then the text of the check-in
abbrev pub arrivals_of : List TreeItem → List ℕ → List MessageFile
arrivals_of t text = map (λ item. sent_of item.bytes) t ++ sent_of text ∷ []

-- ---- refusals

-- an item that is none, by its number
abbrev pub bad_item : ℕ → Printed
bad_item n = printing.refused (codes "item " ++ decimal n)

-- the check-in of a name as a parent
abbrev pub checkin_or : List Item → List ℕ → Result (Option (List ℕ)) Refused
checkin_or items name = if is_some (checkin_at items name) then Ok (Some name) else Err (refused_as.NotCheckin name)

-- the parent: none, or the check-in whose name has the prefix
abbrev pub parent_of : Contents → List Item → Option (List ℕ) → Result (Option (List ℕ)) Refused
parent_of c items None = Ok None
parent_of c items (Some prefix) = of_prefix c prefix (checkin_or items)

-- ---- what it comes to

-- what is printed: a line for each arrival and one of the check-in, or the refusal
abbrev pub checked_in : List ℕ → Result Taken Printed → Printed
checked_in text (Ok t) = record { status = 0; text = t.text ++ name_line (codes "checkin") (name_of text) }
checked_in text (Err refusal) = refusal

-- a tree arrives with the text of its check-in behind the old records, each with the receipt of the moment; where one is refused, nothing is kept
abbrev pub IsCheckedIn : List TreeItem → List ℕ → ℕ → List Record → Printed → List Record → Type 0
IsCheckedIn t text moment old printed appended =
    (result : Result Taken Printed) × Arrive (Some (put_receipt moment)) (none_taken (opened old 0 true)) (arrivals_of t text) result
    × (printed ≡ checked_in text result) × (appended ≡ appended_by old result)

-- over a parent, if there is one, or it is refused
abbrev pub IsOver : List TreeItem → List ℕ → List ℕ → ℕ → List Record → Printed → List Record → Result (Option (List ℕ)) Refused → Type 0
IsOver t user comment moment old printed appended parent =
    MatchResult parent (λ over. IsCheckedIn t (checkin_text t over user comment moment) moment old printed appended)
    (λ refused. (printed ≡ printing.refused (refusal_text refused)) × (appended ≡ []))

-- an input that isn't too long: its items first, and then the parent
abbrev pub IsCheckinRead : Option (List ℕ) → List ℕ → List ℕ → List ℕ → ℕ → List Record → Printed → List Record → Type 0
IsCheckinRead prefix user comment input moment old printed appended =
    ((n : ℕ) × IsBadItem input n × (printed ≡ bad_item n) × (appended ≡ []))
    ⊎ ((t : List TreeItem) × IsTreeText input t × ((items : List Item) × AreItems (contents old).held items
    × IsOver t user comment moment old printed appended (parent_of (contents old) items prefix)))

-- the length of the input first
abbrev pub IsCheckin : Option (List ℕ) → List ℕ → List ℕ → List ℕ → ℕ → List Record → Printed → List Record → Type 0
IsCheckin prefix user comment input moment old printed appended =
    MatchBool (nat_lt most_of_message (length input)) ((printed ≡ printing.too_long) × (appended ≡ []))
    (IsCheckinRead prefix user comment input moment old printed appended)

-- the moment is taken where tree and parent are none of those that are refused
abbrev pub IsToCheckIn : Option (List ℕ) → Contents → List ℕ → Type 0
IsToCheckIn prefix c input =
    (nat_lt most_of_message (length input) ≡ false) × ((t : List TreeItem) × IsTreeText input t)
    × ((items : List Item) × (over : Option (List ℕ)) × AreItems c.held items × (parent_of c items prefix ≡ Ok over))
