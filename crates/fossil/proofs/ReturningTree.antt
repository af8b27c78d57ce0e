-- A check-in whose text and whose contents are held is exported as its tree, and its checksum is right.
use Rattle.std.proofs.Common.{◌≡◌, ◌≢◌, ℕ, true, List, Option, Some, None, Result, Ok, refl, sym, ap, subst, ◌∙◌}
use Rattle.std.specs.Prelude.{option_map, MatchResult}
use Rattle.std.specs.FinMap as map_of
use Rattle.fsl_name.specs.Name.{IsName, name_text}
use Rattle.fsl_card.specs.Cards.{IsTextOf}
use Rattle.fsl_manifest.specs.Manifests.{IsManifest}
use Rattle.fsl_blobs.specs.Fold.{Contents, Held}
use Rattle.fsl_blobs.specs.Held.{found}
use Rattle.fsl_cross.specs.declared.Item.{Item}
use Rattle.fsl_repo.specs.Machine.{AreItems}
use Rattle.fsl_query.specs.declared.Refused.{Refused}
use Rattle.fsl_query.specs.Refusals.{refusal_text}
use Rattle.fsl_query.specs.Reports.{by_found, name_found}
use Rattle.fsl_checkin.specs.declared.types.TreeItem.{TreeItem}
use Rattle.fsl_checkin.specs.declared.answers.Export.TheVariants as export
use Rattle.fsl_checkin.specs.declared.answers.Verdict.TheVariants as verdict
use Rattle.fsl_checkin.specs.Sums.{sum}
use Rattle.fsl_checkin.specs.Checkins.{checkin_of}
use Rattle.fsl_checkin.specs.Exports.{held_at, kept_sum, tree}
use Rattle.fsl_checkin.specs.Laws.{AreHeld, IsHad}
use Rattle.fsl_checkin.specs.Reads.{IsExportRead, IsVerdictRead}
use Rattle.fsl_checkin.proofs.FilesLemmas.{export_due, verdict_due}
use Rattle.fsl_checkin.proofs.LawLemmas.{trees_come_back}
use Rattle.fsl_checkin.proofs.OneLemmas.{export_is_one, verdict_is_one}
use Rattle.fossil.specs.Printed.{Printed}
use Rattle.fossil.specs.Printed as printing
use Rattle.fossil.specs.Trees.{export_printed, verdict_printed}
use Rattle.fossil.specs.Returning.{IsHadFrom, right_printed, tree_printed}
use Rattle.fossil.proofs.ReturningName.{whole_name}

-- what is printed by what was found
abbrev IsBy : {X : Type 0} → (List Item → List ℕ → X → Type 0) → (List ℕ → X → Printed) → Contents → Result (List ℕ) Refused → Printed → Type 0
IsBy {X} IsAnswer print c found printed =
    MatchResult found
    (λ name. (items : List Item) × AreItems c.held items × (answer : X) × IsAnswer items name answer × (printed ≡ print name answer))
    (λ refused. printed ≡ printing.refused (refusal_text refused))

module _ (c : Contents) (t : List TreeItem) (parent : Option (List ℕ)) (user comment : List ℕ) (moment : ℕ) (text name : List ℕ)
    (is : IsTextOf IsManifest text (checkin_of t parent user comment moment)) (there : held_at c.held name ≡ Some text) (contents : AreHeld c.held t) where
  back : (items : List Item) → AreItems c.held items → IsHad c.held items name t
  back items each = trees_come_back c.held items t parent user comment moment text name each is there contents

  had_export : (printed : Printed) → IsBy (IsExportRead true c.held) export_printed c (Ok name) printed → printed ≡ tree_printed t
  had_export printed (items, each, answer, read, same) =
      same ∙ ap (export_printed name) (export_is_one c.held items name each answer (export.Tree t) (export_due c.held items name each answer read) (back items each).same)

  had_verdict : (printed : Printed) → IsBy (IsVerdictRead true c.held) verdict_printed c (Ok name) printed → printed ≡ right_printed
  had_verdict printed (items, each, answer, read, same) =
      let had = back items each in
      let some : kept_sum items name ≢ None = λ none. let no : None ≡ Some (sum t) = sym none ∙ had.kept in cc in
      let sums : option_map sum (tree c.held items name) ≡ kept_sum items name = ap (option_map sum) had.same ∙ sym had.kept in
      same ∙ ap (verdict_printed name) (verdict_is_one c.held items name answer verdict.Right (verdict_due c.held items name each answer read) (some, sums))

  module _ (names : (q : List ℕ) (a : Held) → map_of.get c.held q ≡ Some a → IsName q) where
    held_is : (o : Option Held) → option_map (λ (a : Held). a.bytes) o ≡ Some text → (a : Held) × (o ≡ Some a)
    held_is None h = absurd cc
    held_is (Some a) h = (a, refl)

    one : name_found c (name_text name) ≡ Ok name
    one = let a = held_is (map_of.get c.held name) there in ap (by_found (name_text name) (λ (n : List ℕ). Ok n)) (whole_name c.held name a.0 names a.1)

    pub had_from : IsHadFrom c name t
    had_from = record {
      exported = λ printed h. had_export printed (subst (λ (r : Result (List ℕ) Refused). IsBy (IsExportRead true c.held) export_printed c r printed) one h);
      verified = λ printed h. had_verdict printed (subst (λ (r : Result (List ℕ) Refused). IsBy (IsVerdictRead true c.held) verdict_printed c r printed) one h);
    }
