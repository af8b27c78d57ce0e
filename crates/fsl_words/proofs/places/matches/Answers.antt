use Rattle.std.proofs.Common.{ap, sym, subst, map, length, ◌∙◌, ◌<◌, ◌^◌, rules}
use Rattle.std.specs.Prelude.{string_bytes}
use Rattle.clap.specs.Simple.{App, is_simple, matches_of}
use Rattle.clap.specs.Faults.{fault_of, is_simple_and_free}
use Rattle.clap.specs.Kinds.{HasKind, Kinds}
use Rattle.fsl_words.proofs.PlaceLemmas.{enough, too_few}
use Rattle.fsl_words.proofs.places.matches.Goals as goal

pub returns-in-Ok-try_get_matches_from-clause-ok : goal.returns-in-Ok-try_get_matches_from-clause-ok
returns-in-Ok-try_get_matches_from-clause-ok c =
    let words = map string_bytes c.args.words.now in
    let same = c.in-Ok.ensures in
    let given = c.in-Ok-try_get_matches_from.ensures in
    enough words c.in-Ok-try_get_matches_from.matches c.requires
    (sym (ap (λ (a : App). fault_of a words) same) ∙ given.kinds (ap is_simple_and_free same))
    ((given.matches (ap is_simple same)).0 ∙ ap (λ (a : App). matches_of a words) same)

pub returns : goal.returns
returns c =
    let words = map string_bytes c.args.words.now in
    let same = c.in-Ok.ensures in
    let fits : length c.args.words.now < 2 ^ 64 = search rules in
    record {
      ok = tt;
      usage = λ _. too_few string_bytes c.args.words.now c.in-Err-try_get_matches_from.error c.requires fits
          (subst (λ (ks : Kinds). HasKind ks c.in-Err-try_get_matches_from.error) (ap (λ (a : App). fault_of a words) same)
          (c.in-Err-try_get_matches_from.ensures.kinds (ap is_simple_and_free same)))
          (λ memory. c.in_default.not-OutOfMemory (c.kind.ensures ∙ memory));
    }
