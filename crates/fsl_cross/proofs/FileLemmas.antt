-- Check-ins meet what the table of files asks.
use Rattle.std.proofs.Common.{◌≡◌, ℕ, true, ◌&&◌, List, [], ◌∷◌, Bool, Option, Some, None, map, All, refl, ap, ◌∙◌}
use Rattle.std.specs.Prelude.{◌||◌, is_some, IfSome, IfNone, IsTrue}
use Rattle.std.specs.List.{list_all, cons_option}
use Rattle.std.proofs.lemmas.List.Elements.{All-nil, All-cons, All-head, All-tail}
use Rattle.fsl_order.specs.Names.{is_before}
use Rattle.fsl_order.specs.Rows.{rises}
use Rattle.fsl_order.proofs.Booleans.{first_holds, second_holds}
use Rattle.fsl_grammar.specs.Forms.{is_tag_written, refs_differ}
use Rattle.fsl_manifest.specs.declared.FileCard.{FileCard}
use Rattle.fsl_manifest.specs.declared.Manifest.{Manifest}
use Rattle.fsl_manifest.specs.Manifests.{begins_own, files_rise, has_hashes}
use Rattle.fsl_manifest.proofs.Exact.{well_formed_from}
use Rattle.fsl_artifact.specs.declared.Artifact.{Artifact}
use Rattle.fsl_artifact.specs.declared.Artifact.TheVariants.{Plain, Cluster, Control, Wiki, Ticket, Attachment, Technote, Forum}
use Rattle.fsl_artifact.specs.declared.Artifact.TheVariants as kind
use Rattle.fsl_artifact.specs.Kind.{IsKind, IsOfKind}
use Rattle.fsl_files.specs.declared.Fact.{Fact}
use Rattle.fsl_files.specs.Conditions.{IsFilesFact}
use Rattle.fsl_cross.specs.declared.Item.{Item}
use Rattle.fsl_cross.specs.Facts.{file_row, files_fact}
use Rattle.fsl_cross.specs.Tables.{IsItem, files_facts}

-- the paths of files are those of the F cards
rises-as_files : (files : List FileCard) → rises (map (λ r. r.path) (map file_row files)) ≡ files_rise files
rises-as_files [] = refl
rises-as_files (a ∷ []) = refl
rises-as_files (a ∷ b ∷ files) = ap (λ t. is_before a.path b.path && t) (rises-as_files (b ∷ files))

-- .. and so are their hashes
hashes-as_files : (files : List FileCard) → list_all (λ r. is_some r.hash) (map file_row files) ≡ list_all (λ f. is_some f.hash) files
hashes-as_files [] = refl
hashes-as_files (f ∷ files) = ap (λ t. is_some f.hash && t) (hashes-as_files files)

whole-without : (baseline : Option (List ℕ)) (files : List FileCard) → (is_some baseline || list_all (λ f. is_some f.hash) files) ≡ true → IfNone baseline (IsTrue (list_all (λ r. is_some r.hash) (map file_row files)))
whole-without None files h = hashes-as_files files ∙ h
whole-without (Some base) files h = tt

abbrev rise_of : (text : List ℕ) (m : Manifest) → IsOfKind text (kind.Manifest m) → files_rise m.files ≡ true
rise_of text m is =
    let well = well_formed_from text is.0 m is.1 is.2 in
    second_holds _ (files_rise m.files) (first_holds _ (has_hashes m) (first_holds _ (begins_own m.parents) (first_holds _ (refs_differ m.parents) (first_holds _ (list_all is_tag_written m.tags) well))))

-- the fact of what some bytes are meets it
pub fit_of : (name text : List ℕ) (private : Bool) (a : Artifact) → IsKind text a → IfSome (files_fact (record { name = name; private = private; artifact = a })) IsFilesFact
fit_of name text private (kind.Manifest m) is = record { rising = rises-as_files m.files ∙ rise_of text m is; whole = whole-without m.baseline m.files is.2.hashes }
fit_of name text private Plain is = tt
fit_of name text private (Cluster c) is = tt
fit_of name text private (Control c) is = tt
fit_of name text private (Wiki w) is = tt
fit_of name text private (Ticket t) is = tt
fit_of name text private (Attachment a) is = tt
fit_of name text private (Technote t) is = tt
fit_of name text private (Forum f) is = tt

pub files-fit : (items : List Item) → All IsItem items → All IsFilesFact (files_facts items)
files-fit [] all = All-nil IsFilesFact
files-fit (item ∷ items) all =
    let is = All-head IsItem item items all in
    by (files_fact item) (fit_of item.name is.0 item.private item.artifact is.1) (files-fit items (All-tail IsItem item items all))
  where
    by : (o : Option Fact) → IfSome o IsFilesFact → All IsFilesFact (files_facts items) → All IsFilesFact (cons_option o (files_facts items))
    by None is rest = rest
    by (Some f) is rest = All-cons IsFilesFact f (files_facts items) is rest
