-- A tree that `checkin` took comes back: `export` of the name that was printed gives it, and `verify` of that name is right.
use Rattle.std.specs.Prelude.{◌≡◌, ℕ, ◌⊎◌, Bool, true, false, List, [], ◌∷◌, ◌++◌, length, map, codes, Option, Some, IsTrue, Ok}
use Rattle.std.specs.List.{AllByRecursion}
use Rattle.std.specs.FinSet as set
use Rattle.fsl_order.specs.Names.{has}
use Rattle.fsl_name.specs.Name.{name_of, name_text}
use Rattle.fsl_date.specs.Moment.{IsMoment}
use Rattle.fsl_record.specs.declared.Record.{Record}
use Rattle.fsl_journal.specs.File.{IsFileOf}
use Rattle.fsl_blobs.specs.Fold.{Contents, contents}
use Rattle.fsl_cross.specs.declared.Item.{Item}
use Rattle.fsl_repo.specs.Machine.{AreItems}
use Rattle.fsl_words.specs.Grammar.{is_word}
use Rattle.fsl_checkin.specs.declared.types.TreeItem.{TreeItem}
use Rattle.fsl_checkin.specs.Trees.{IsTreeText, tree_text}
use Rattle.fsl_checkin.specs.Exports.{held_at}
use Rattle.fossil.specs.declared.reading.message.MessageFile.{MessageFile}
use Rattle.fossil.specs.declared.commands.checkin.NewCheckin.{NewCheckin}
use Rattle.fossil.specs.Printed.{Printed, name_line}
use Rattle.fossil.specs.Trees.{IsExported, IsVerified, line_of}
use Rattle.fossil.specs.Checkins.{arrivals_of, checkin_text, parent_of}
use Rattle.fossil.specs.CheckinCall.{asked_for}
use Rattle.fossil.specs.Outcome.{IsOutcome, Outcome, said, without_commit}
use Rattle.fossil.specs.Run.{StandsForAll, after_commits}

-- ---- what `checkin` takes

-- what its words ask for, its input, its moment, and the records of the file
pub record Call : Type 0 where
  pub asked : NewCheckin
  pub input : List ℕ
  pub moment : ℕ
  pub old : List Record

-- the tree that the input is, and the check-in that is its parent, if there is one
pub record IsTakenOver (call : Call) (t : List TreeItem) (over : Option (List ℕ)) : Type 0 where
  pub tree : IsTreeText call.input t
  pub items : List Item
  pub each : AreItems (contents call.old).held items
  pub parent : parent_of (contents call.old) items call.asked.parent ≡ Ok over

-- the text of the check-in
abbrev pub text_over : Call → List TreeItem → Option (List ℕ) → List ℕ
text_over call t over = checkin_text t over call.asked.user call.asked.comment call.moment

-- none of what arrives has a shunned name
abbrev pub AreWelcome : Contents → List MessageFile → Type 0
AreWelcome c files = AllByRecursion (λ f. set.contains c.shunned f.name ≡ false) files

-- a text is held, or it arrives
abbrev pub IsThere : Contents → List MessageFile → List ℕ → Type 0
IsThere c files text = ((name : List ℕ) × (held_at c.held name ≡ Some text)) ⊎ IsTrue (has (map (λ f. f.bytes) files) text)

-- of all texts that are held or arrive, two with one name are equal
abbrev pub HaveOwnNames : Contents → List MessageFile → Type 0
HaveOwnNames c files = (a b : List ℕ) → IsThere c files a → IsThere c files b → name_of a ≡ name_of b → a ≡ b

-- ---- what comes back

-- what `export` prints of a tree, and what `verify` prints where the checksum is that of the tree
abbrev pub tree_printed : List TreeItem → Printed
tree_printed t = record { status = 0; text = tree_text t }

abbrev pub right_printed : Printed
right_printed = line_of (codes "right")

-- over an honest disk with these contents, each export of a name is this tree, and each test of its checksum is right
pub record IsHadFrom (c : Contents) (name : List ℕ) (t : List TreeItem) : Type 0 where
  pub exported : (printed : Printed) → IsExported true (name_text name) c printed → printed ≡ tree_printed t
  pub verified : (printed : Printed) → IsVerified true (name_text name) c printed → printed ≡ right_printed

-- the words of a command with the 40 digits of a name
abbrev pub with_name : List ℕ → List ℕ → List ℕ → List (List ℕ)
with_name repository command name = repository ∷ command ∷ name_text name ∷ []

-- over an honest disk whose file has these bytes, each outcome of such words prints this, and commits nothing
abbrev pub Always : List ℕ → List ℕ → List ℕ → Printed → Type 0
Always command name bytes printed =
    (repository input : List ℕ) (moment : ℕ) (o : Outcome) → IsTrue (is_word repository) →
    IsOutcome true (with_name repository command name) input moment bytes o → o ≡ without_commit printed

-- what an outcome of `checkin` leads to, which took a tree and made this text of it
pub record ComesBack (call : Call) (o : Outcome) (t : List TreeItem) (text : List ℕ) : Type 0 where
  -- the last line that is printed names the check-in
  pub named : (lines : List ℕ) × (o.text ≡ lines ++ name_line (codes "checkin") (name_of text))
  -- what is exported reads as the tree that was read, and is the input where that is what is written of a tree
  pub again : IsTreeText (tree_text t) t
  pub exact : (s : List TreeItem) → IsTreeText (tree_text s) s → call.input ≡ tree_text s → tree_text t ≡ call.input
  -- from the old records and the commit
  pub had : IsHadFrom (contents (after_commits call.old o.commits (length o.commits))) (name_of text) t
  -- and from each file that stands for them
  pub exported : (bytes : List ℕ) → StandsForAll call.old o.commits bytes → Always (codes "export") (name_of text) bytes (tree_printed t)
  pub verified : (bytes : List ℕ) → StandsForAll call.old o.commits bytes → Always (codes "verify") (name_of text) bytes right_printed

-- where none of what arrives is shunned, and names tell texts apart
abbrev pub ComesBackIf : Call → Outcome → List TreeItem → Option (List ℕ) → Type 0
ComesBackIf call o t over =
    let files = arrivals_of t (text_over call t over) in
    AreWelcome (contents call.old) files → HaveOwnNames (contents call.old) files → ComesBack call o t (text_over call t over)

-- Law. After status 0 of `checkin` the input is a tree, and that tree comes back. The moment is one of the years 0 to 9999, as each clock answers
abbrev pub TreeComesBack : Type 0
TreeComesBack =
    (honest : Bool) (words : List (List ℕ)) (call : Call) (bytes : List ℕ) (o : Outcome) →
    said words ≡ Some (asked_for call.asked) → IsMoment call.moment → IsFileOf bytes call.old →
    IsOutcome honest words call.input call.moment bytes o → o.status ≡ 0 →
    (t : List TreeItem) × (over : Option (List ℕ)) × IsTakenOver call t over × ComesBackIf call o t over
