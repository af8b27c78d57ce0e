use Rattle.std.proofs.Common.{sym, ap, ◌∙◌, String, Global}
use Rattle.std.specs.Prelude.{string_bytes}
use Rattle.fsl_words.specs.Grammar.{is_word}
use Rattle.fsl_words.proofs.GrammarLemmas.{each_more, each_not}
use Rattle.fsl_words.proofs.reading.are_words.Goals as goal

pub returns-then-not-is_word : goal.returns-then-not-is_word
returns-then-not-is_word c =
    let word = c.word-item.result in
    sym (each_not is_word string_bytes c.args.words.now c.loop-word.word-index word c.loop-word-test.true
    (ap (λ (w : String Global). is_word (string_bytes w)) (sym c.word-item.is) ∙ ap is_word (sym c.as_bytes.ensures.value) ∙ sym c.if-not-is_word.ensures))

pub loop-word-preserved : goal.loop-word-preserved
loop-word-preserved c =
    let word = c.word-item.result in
    each_more is_word string_bytes c.args.words.now c.loop-word.word-index word c.loop-word-test.true
    (ap (λ (w : String Global). is_word (string_bytes w)) (sym c.word-item.is) ∙ ap is_word (sym c.as_bytes.ensures.value) ∙ sym c.if-not-is_word.ensures)
    c.loop-word.invariant
