use Rattle.std.proofs.Common.{◌≡◌, List, ℕ, subst, MatchOption}
use Rattle.std.specs.Prelude.{◌≢◌, IsTrue}
use Rattle.fsl_text.specs.Escapes.{escape}
use Rattle.fsl_uv.specs.Entries.{is_path}
use Rattle.fsl_uv.proofs.HeadLemmas.{no-marks, no-path-word}
use Rattle.fsl_uv.proofs.heads.read_stamped.Goals as goal

pub returns-in_default-read_marks : goal.returns-in_default-read_marks
returns-in_default-read_marks c = no-marks c.args.words.now c.in-Some.word.now c.in-Some.rest.now c.in-Some.ensures.0 c.in-Some.ensures.1 c.in_default-read_marks.ensures

pub returns-in-None : goal.returns-in-None
returns-in-None c =
    let word = c.in-Some.word.now in
    no-path-word c.args.words.now word c.in-Some.rest.now c.in-Some.ensures.0 c.in-Some.ensures.1
    (subst (λ o. MatchOption o ((p : List ℕ) → IsTrue (is_path p) → word ≢ escape p) (λ p. IsTrue (is_path p) × (word ≡ escape p))) c.in-None.is c.in_ok-path.ensures)
