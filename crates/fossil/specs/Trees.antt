-- What `export` and `verify` print of a check-in, by the records of the file.
use Rattle.std.specs.Prelude.{◌≡◌, ℕ, Bool, IsTrue, List, [], ◌∷◌, ◌++◌, codes, Ok, MatchResult}
use Rattle.hex.specs.Hex.{encode_lower}
use Rattle.fsl_order.specs.Names.{has}
use Rattle.fsl_name.specs.declared.reference.Ref.{Ref}
use Rattle.fsl_name.specs.Ref.{ref_text}
use Rattle.fsl_blobs.specs.Fold.{Contents, HeldSet}
use Rattle.fsl_cross.specs.declared.Item.{Item}
use Rattle.fsl_repo.specs.Machine.{AreItems}
use Rattle.fsl_query.specs.declared.Refused.TheVariants as refused_as
use Rattle.fsl_query.specs.Refusals.{refusal_text}
use Rattle.fsl_query.specs.Reports.{name_found}
use Rattle.fsl_query.specs.Answers.{IsSpoiltIn}
use Rattle.fsl_checkin.specs.declared.answers.Export.{Export}
use Rattle.fsl_checkin.specs.declared.answers.Export.TheVariants as export
use Rattle.fsl_checkin.specs.declared.answers.Verdict.{Verdict}
use Rattle.fsl_checkin.specs.declared.answers.Verdict.TheVariants as verdict
use Rattle.fsl_checkin.specs.Trees.{tree_text}
use Rattle.fsl_checkin.specs.Reads.{IsExportRead, IsVerdictRead, IsTested, asked}
use Rattle.fossil.specs.Printed.{Printed}
use Rattle.fossil.specs.Printed as printing

-- ---- texts

-- what a check-in lacks
abbrev pub incomplete : Ref → List ℕ
incomplete missing = codes "incomplete " ++ ref_text missing

-- a name that is no check-in's
abbrev pub not_a_checkin : List ℕ → Printed
not_a_checkin name = printing.refused (refusal_text (refused_as.NotCheckin name))

-- the tree of a check-in, or why there is none
abbrev pub export_printed : List ℕ → Export → Printed
export_printed name export.NotCheckin = not_a_checkin name
export_printed name (export.Incomplete missing) = printing.refused (incomplete missing)
export_printed name (export.Tree t) = record { status = 0; text = tree_text t }

-- a line
abbrev pub line_of : List ℕ → Printed
line_of text = record { status = 0; text = text ++ 10 ∷ [] }

-- the line of a test of a check-in's checksum, or why there is none
abbrev pub verdict_printed : List ℕ → Verdict → Printed
verdict_printed name verdict.NotCheckin = not_a_checkin name
verdict_printed name verdict.NoSum = line_of (codes "no sum")
verdict_printed name (verdict.Incomplete missing) = line_of (incomplete missing)
verdict_printed name (verdict.Wrong kept found) = line_of (codes "wrong " ++ encode_lower kept ++ 32 ∷ encode_lower found)
verdict_printed name verdict.Right = line_of (codes "right")

-- ---- by the contents

-- what is printed of the one artifact that a prefix finds, or its refusal
abbrev pub IsOfPrefix : {X : Type 0} → (List Item → List ℕ → X → Type 0) → (List ℕ → X → Printed) → List ℕ → Contents → Printed → Type 0
IsOfPrefix {X} IsAnswer print prefix c printed =
    MatchResult (name_found c prefix)
    (λ name. (items : List Item) × AreItems c.held items × (answer : X) × IsAnswer items name answer × (printed ≡ print name answer))
    (λ refused. printed ≡ printing.refused (refusal_text refused))

-- an export as its contents are read: over an honest disk, which tells its contents and meets the disk model, they are those of the records
abbrev pub IsExported : Bool → List ℕ → Contents → Printed → Type 0
IsExported honest prefix c printed = IsOfPrefix (IsExportRead honest c.held) export_printed prefix c printed

-- and a test of a checksum
abbrev pub IsVerified : Bool → List ℕ → Contents → Printed → Type 0
IsVerified honest prefix c printed = IsOfPrefix (IsVerdictRead honest c.held) verdict_printed prefix c printed

-- ---- damaged contents

-- a content is asked for of the one artifact that a prefix finds
abbrev pub IsAskedOf : (HeldSet → List Item → List ℕ → List ℕ → Type 0) → List ℕ → Contents → List ℕ → Type 0
IsAskedOf Asks prefix c name =
    (of : List ℕ) × (items : List Item) × (name_found c prefix ≡ Ok of) × AreItems c.held items × Asks c.held items of name

-- it is damaged, which is never so over an honest disk
abbrev pub IsSpoiltOf : (HeldSet → List Item → List ℕ → List ℕ → Type 0) → Bool → List ℕ → Contents → List ℕ → List ℕ → Type 0
IsSpoiltOf Asks honest prefix c name found = IsAskedOf Asks prefix c name × IsSpoiltIn honest c name found

-- for `export` a content of the files; for `verify` that of the check-in, and where that has an R card one of the files; in both of the files none behind the first
-- that is missing
abbrev pub IsExportAsked : HeldSet → List Item → List ℕ → List ℕ → Type 0
IsExportAsked held items of name = IsTrue (has (asked held items of) name)

abbrev pub IsExportSpoilt : Bool → List ℕ → Contents → List ℕ → List ℕ → Type 0
IsExportSpoilt honest prefix c name found = IsSpoiltOf IsExportAsked honest prefix c name found

abbrev pub IsVerifySpoilt : Bool → List ℕ → Contents → List ℕ → List ℕ → Type 0
IsVerifySpoilt honest prefix c name found = IsSpoiltOf (IsTested honest) honest prefix c name found
