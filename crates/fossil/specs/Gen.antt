-- What `gen` prints, by its count and its order.
use Rattle.std.specs.Prelude.{◌≡◌, ℕ, List, [], ◌∷◌, Bool, false, map, None}
use Rattle.std.specs.FinSet as set
use Rattle.fsl_name.specs.Name.{name_of}
use Rattle.fsl_record.specs.declared.Record.{Record}
use Rattle.fsl_record.specs.declared.Record.TheVariants as record_of
use Rattle.fsl_blobs.specs.Fold.{Contents, contents, after}
use Rattle.fsl_cross.specs.declared.Item.{Item}
use Rattle.fsl_cross.specs.Tables.{Seen, tables}
use Rattle.fsl_gen.specs.Arrival.{generated}
use Rattle.fsl_query.specs.Summary.{summary}
use Rattle.fsl_repo.specs.Machine.{AreItems}
use Rattle.fossil.specs.Printed.{Printed}

-- a text as a public artifact under its name
abbrev pub public_record : List ℕ → Record
public_record text = record_of.Blob false (name_of text) None text

-- the summary of the set that texts make, one after another
abbrev pub IsSummed : List (List ℕ) → List ℕ → Type 0
IsSummed texts text =
    (items : List Item) × AreItems (contents (map public_record texts)).held items × (text ≡ summary (tables [] items) items)

-- so many generated artifacts make the set
abbrev pub IsGenPrinted : ℕ → Bool → Printed → Type 0
IsGenPrinted count reversed printed =
    (items : List Item) × AreItems (contents (map public_record (generated count reversed))).held items
    × (printed ≡ record { status = 0; text = summary (tables [] items) items })

-- ---- one after another

-- the items are those of the contents, and no name is shunned
pub record IsSetOf (c : Contents) (items : List Item) : Type 0 where
  pub held : AreItems c.held items
  pub unshunned : (name : List ℕ) → set.contains c.shunned name ≡ false

-- the set goes from one of the contents to one of what these become
pub record GoesOn (next : Contents → Contents) (before now : Seen) : Type 0 where
  pub set : (c : Contents) → IsSetOf c before.items → IsSetOf (next c) now.items
  pub fields : now.fields ≡ before.fields

-- a text was added, or passed over where its name is there
abbrev pub IsTextAdded : List ℕ → Seen → Seen → Type 0
IsTextAdded text before now = GoesOn (λ c. after c (public_record text)) before now

-- texts were added, one after another
abbrev pub all_after : Contents → List (List ℕ) → Contents
all_after c [] = c
all_after c (text ∷ texts) = all_after (after c (public_record text)) texts

abbrev pub AreTextsAdded : List (List ℕ) → Seen → Seen → Type 0
AreTextsAdded texts before now = GoesOn (λ c. all_after c texts) before now
