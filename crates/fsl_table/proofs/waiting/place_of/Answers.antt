use Rattle.std.proofs.Common.{◌≡◌, ◌+◌, ℕ, Option, Some, None, option_map, true, false, refl, sym, ap, ◌∙◌, arith}
use Rattle.std.specs.BTreeMap.{is_at}
use Rattle.std.specs.Ordering.{is_eq}
use Rattle.fsl_table.proofs.Places.{place_here, place_later}
use Rattle.fsl_table.proofs.waiting.place_of.Goals as goal

from_first : (r : Option ℕ) → r ≡ option_map (λ j. j + 0) r
from_first None = refl
from_first (Some j) = let e : j ≡ j + 0 = omega arith in ap (λ n. Some n) e

pub loop-at-init : goal.loop-at-init
loop-at-init g c = from_first _

pub loop-at-preserved : goal.loop-at-preserved
loop-at-preserved g c =
    let key = c.args.key.now in
    let miss : is_eq (g.K.Ord.cmp key c.index-waiting-at.result.0) ≡ false =
    ap (λ e. is_eq (g.K.Ord.cmp key e.0)) c.index-waiting-at.is ∙ sym (c.is_eq.ensures ∙ ap is_eq c.cmp.ensures) ∙ c.if-is_eq.false in
    place_later (is_at (g.K.Ord.cmp key)) c.args.waiting.now c.loop-at.at c.index-waiting-at.result c.loop-at-test.true c.index-waiting-at.is miss c.loop-at.invariant

pub returns-then-is_eq : goal.returns-then-is_eq
returns-then-is_eq g c =
    let key = c.args.key.now in
    let hit : is_eq (g.K.Ord.cmp key c.index-waiting-at.result.0) ≡ true =
    ap (λ e. is_eq (g.K.Ord.cmp key e.0)) c.index-waiting-at.is ∙ sym (c.is_eq.ensures ∙ ap is_eq c.cmp.ensures) ∙ c.if-is_eq.true in
    place_here (is_at (g.K.Ord.cmp key)) c.args.waiting.now c.loop-at.at c.index-waiting-at.result c.loop-at-test.true c.index-waiting-at.is hit c.loop-at.invariant
