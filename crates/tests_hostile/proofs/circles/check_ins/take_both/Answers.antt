use Rattle.std.specs.Prelude.{◌≡◌, ℕ, List, [], ◌∷◌, false, cond, Option, Some, None}
use Rattle.std.proofs.Common.{refl, sym, ap, ◌∙◌}
use Rattle.std.specs.Str.{bytes_eq}
use Rattle.std.specs.Cmp.Lexicographic.{bytes_decides}
use Rattle.fsl_order.specs.Rows.{by_name, named}
use Rattle.fsl_order.proofs.NamedLemmas.{named-by_name}
use Rattle.fsl_tags.specs.declared.Fact.{Fact}
use Rattle.fsl_tags.specs.Conditions.{IsParentChange}
use Rattle.tests_hostile.proofs.circles.check_ins.take_both.Goals as goal

-- the first check-in is there without its parent
moved : (early late whole : Fact) (facts : List Fact) → facts ≡ by_name (λ f. f.name) (late ∷ early ∷ []) → early ≡ record whole { parent = None } → bytes_eq late.name whole.name ≡ false → IsParentChange facts whole
moved early late whole facts is e differ = record {
  old = early;
  there =
      let none : Option Fact = None in
      ap (λ fs. named (λ f. f.name) fs whole.name) is ∙ named-by_name (λ f. f.name) (late ∷ early ∷ []) whole.name
      ∙ ap (λ b. cond b (Some late) (cond (bytes_eq early.name whole.name) (Some early) none)) differ
      ∙ ap (λ (f : Fact). cond (bytes_eq f.name whole.name) (Some early) none) e
      ∙ ap (λ b. cond b (Some early) none) ((bytes_decides whole.name whole.name).1 refl);
  kept = sym (ap (λ (f : Fact). record f { parent = whole.parent }) e);
}

pub grow-requires-clause-change : goal.grow-requires-clause-change
grow-requires-clause-change g c =
    let facts : c.take-2.new.tags.facts ≡ by_name (λ f. f.name) (c.args.late ∷ c.args.early ∷ []) =
    c.in_ok-take-2.ensures ∙ (λ i. by_name (λ f. f.name) (c.args.late ∷ (c.in_ok-take.ensures ∙ (λ j. by_name (λ f. f.name) (c.args.early ∷ c.requires.none j))) i)) in
    moved c.args.early c.args.late c.args.whole c.take-2.new.tags.facts facts c.requires.early c.requires.differ
