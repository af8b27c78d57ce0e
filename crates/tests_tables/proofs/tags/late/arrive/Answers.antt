use Rattle.std.specs.Prelude.{◌≡◌, ℕ, List, [], ◌∷◌, false, cond, Option, Some, None, IfSome, IsTrue}
use Rattle.std.proofs.Common.{refl, sym, ap, ◌∙◌, subst}
use Rattle.std.specs.Option.{option_map_or}
use Rattle.std.specs.Str.{bytes_eq}
use Rattle.std.specs.Cmp.Lexicographic.{bytes_decides}
use Rattle.fsl_order.specs.Rows.{by_name, named}
use Rattle.fsl_order.proofs.NamedLemmas.{named-by_name}
use Rattle.fsl_tags.specs.declared.Fact.{Fact}
use Rattle.fsl_tags.specs.Conditions.{IsParentChange}
use Rattle.fsl_tags.specs.Tags.{IsTagFact}
use Rattle.tests_tables.proofs.tags.late.arrive.Goals as goal

-- the first fact is there without its parent
moved : (early second whole : Fact) (facts : List Fact) → facts ≡ by_name (λ f. f.name) (second ∷ early ∷ []) → early ≡ record whole { parent = None } → bytes_eq second.name early.name ≡ false → IsParentChange facts whole
moved early second whole facts is e differ = record {
  old = early;
  there =
      ap (λ fs. named (λ f. f.name) fs whole.name) is ∙ named-by_name (λ f. f.name) (second ∷ early ∷ []) whole.name
      ∙ ap (named (λ f. f.name) (second ∷ early ∷ [])) (sym (ap (λ f. f.name) e))
      ∙ ap (λ b. cond b (Some second) (cond (bytes_eq early.name early.name) (Some early) None)) differ
      ∙ ap (λ b. let none : Option Fact = None in cond b (Some early) none) ((bytes_decides early.name early.name).1 refl);
  kept = sym (ap (λ (f : Fact). record f { parent = whole.parent }) e);
}

-- a fact fits the facts by name that it fits
fits : (facts some : List Fact) (f : Fact) → facts ≡ by_name (λ f. f.name) some → IsTagFact some f → IsTagFact facts f
fits facts some f is fit = record {
  child = elim f.parent as (λ p. IfSome p (λ up. IsTrue f.checkin × IsTrue (option_map_or (λ f. f.checkin) (named (λ f. f.name) some up) false)) → IfSome p (λ up. IsTrue f.checkin × IsTrue (option_map_or (λ f. f.checkin) (named (λ f. f.name) facts up) false))) [
    | None ↦ λ h. h
    | Some up ↦ λ h. (
      h.0,
      subst (λ o. IsTrue (option_map_or (λ f. f.checkin) o false)) (sym (ap (λ fs. named (λ f. f.name) fs up) is ∙ named-by_name (λ f. f.name) some up)) h.1,
    )
  ] fit.child;
  sources = fit.sources;
  places = fit.places;
}

pub change_back-requires-clause-change : goal.change_back-requires-clause-change
change_back-requires-clause-change g c =
    let facts : c.add-2.new.tags.facts ≡ by_name (λ f. f.name) (c.args.second.now ∷ c.args.early.now ∷ []) =
    c.in_ok-add-2.ensures ∙ (λ i. by_name (λ f. f.name) (c.args.second.now ∷ (c.in_ok-add.ensures ∙ (λ j. by_name (λ f. f.name) (c.args.early.now ∷ c.requires.none j))) i)) in
    moved c.args.early.now c.args.second.now c.args.whole.now c.add-2.new.tags.facts facts c.requires.early c.requires.differ

pub change_back-requires-clause-fit : goal.change_back-requires-clause-fit
change_back-requires-clause-fit g c =
    let facts : c.add-2.new.tags.facts ≡ by_name (λ f. f.name) (c.args.second.now ∷ c.args.early.now ∷ []) =
    c.in_ok-add-2.ensures ∙ (λ i. by_name (λ f. f.name) (c.args.second.now ∷ (c.in_ok-add.ensures ∙ (λ j. by_name (λ f. f.name) (c.args.early.now ∷ c.requires.none j))) i)) in
    fits c.add-2.new.tags.facts (c.args.second.now ∷ c.args.early.now ∷ []) c.args.whole.now facts c.requires.whole_fit
