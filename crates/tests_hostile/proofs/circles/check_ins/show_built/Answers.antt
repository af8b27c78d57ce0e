use Rattle.std.specs.Prelude.{◌≡◌, ℕ, List, [], ◌∷◌, true, false, cond, Option, Some, None, IsTrue, IfSome}
use Rattle.std.specs.Option.{option_map_or}
use Rattle.std.proofs.Common.{refl, sym, ap, subst, ◌∙◌}
use Rattle.std.specs.Str.{bytes_eq}
use Rattle.std.specs.Cmp.Lexicographic.{bytes_decides}
use Rattle.fsl_order.specs.Rows.{named}
use Rattle.fsl_tags.specs.declared.Fact.{Fact}
use Rattle.fsl_tags.specs.Tags.{IsTagFact, AreTagFacts}
use Rattle.tests_hostile.specs.Circles.{IsCheckin}
use Rattle.tests_hostile.proofs.Pairs.{distinct_pair}
use Rattle.tests_hostile.proofs.circles.check_ins.show_built.Goals as goal

-- a check-in whose parent is there as one
fit : (facts : List Fact) (fact up : Fact) → IsCheckin fact.name up.name fact → up.checkin ≡ true → named (λ (f : Fact). f.name) facts up.name ≡ Some up → IsTagFact facts fact
fit facts fact up is checkin there = record {
  child = subst (λ p. IfSome p (λ (u : List ℕ). IsTrue fact.checkin × IsTrue (option_map_or (λ (f : Fact). f.checkin) (named (λ (f : Fact). f.name) facts u) false))) (sym is.parent)
      (is.checkin, ap (λ o. option_map_or (λ (f : Fact). f.checkin) o false) there ∙ checkin);
  sources = is.sources;
  places = is.places;
}

same : (name : List ℕ) → bytes_eq name name ≡ true
same name = (bytes_decides name name).1 refl

-- two check-ins of which each is the other's parent
both : (late whole : Fact) → IsCheckin whole.name late.name whole → IsCheckin late.name whole.name late → bytes_eq late.name whole.name ≡ false → AreTagFacts (late ∷ whole ∷ [])
both late whole of_whole of_late differ =
    let none : Option Fact = None in
    let first : named (λ (f : Fact). f.name) (late ∷ whole ∷ []) late.name ≡ Some late = ap (λ b. cond b (Some late) (cond (bytes_eq whole.name late.name) (Some whole) none)) (same late.name) in
    let second : named (λ (f : Fact). f.name) (late ∷ whole ∷ []) whole.name ≡ Some whole =
    ap (λ b. cond b (Some late) (cond (bytes_eq whole.name whole.name) (Some whole) none)) differ ∙ ap (λ b. cond b (Some whole) none) (same whole.name) in
    record {
      differ = distinct_pair late.name whole.name differ;
      fit = (fit (late ∷ whole ∷ []) late whole of_late of_whole.checkin second, (fit (late ∷ whole ∷ []) whole late of_whole of_late.checkin first, tt));
    }

pub build-requires : goal.build-requires
build-requires c = both c.args.late c.args.whole c.requires.whole c.requires.late c.requires.differ
