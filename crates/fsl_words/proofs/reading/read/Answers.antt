use Rattle.std.proofs.Common.{◌≡◌, Bool, cond, map, None, Err, sym, ap, ◌∙◌}
use Rattle.std.specs.Prelude.{string_bytes}
use Rattle.fsl_words.specs.Grammar.{parts_in}
use Rattle.fsl_words.specs.declared.WordsFault.{WordsFault}
use Rattle.fsl_words.specs.declared.WordsFault.TheVariants as words_fault
use Rattle.fsl_words.proofs.GrammarLemmas.{no_command}
use Rattle.fsl_words.proofs.reading.read.Goals as goal

pub returns-in-Err-clause-usage : goal.returns-in-Err-clause-usage
returns-in-Err-clause-usage c e =
    let words = c.args.words.now in
    let usage : ◌≡◌ {A = WordsFault} c.in-Err.fault words_fault.Usage = cc in
    ap (λ (b : Bool). cond b (parts_in (map string_bytes words)) None) (sym c.if-not-are_words.ensures)
    ∙ no_command string_bytes words (c.in-Err.ensures.usage (ap (λ (f : WordsFault). Err f) usage))
