use Rattle.std.proofs.Common.{◌≡◌, List, ℕ, subst, MatchOption}
use Rattle.std.specs.Prelude.{◌≢◌, IsTrue}
use Rattle.fsl_text.specs.Escapes.{escape}
use Rattle.fsl_uv.specs.Entries.{is_path}
use Rattle.fsl_uv.proofs.EntryLemmas.{no-parts, no-entry}
use Rattle.fsl_uv.proofs.entries.read_entry.Goals as goal

pub returns-in_default : goal.returns-in_default
returns-in_default c = no-parts c.args.text.now c.in_default.ensures

pub returns-in-None : goal.returns-in-None
returns-in-None c =
    let word = c.in-Some.parts.word.now in
    no-entry c.args.text.now c.in-Some.parts.moment c.in-Some.parts.hash word c.in-Some.parts.held.now c.in-Some.ensures
    (subst (λ o. MatchOption o ((p : List ℕ) → IsTrue (is_path p) → word ≢ escape p) (λ p. IsTrue (is_path p) × (word ≡ escape p))) c.in-None.is c.in_ok-path.ensures)
