use Rattle.std.proofs.Common.{◌≡◌, map, take, true}
use Rattle.std.specs.Prelude.{string_bytes}
use Rattle.std.specs.List.{list_all}
use Rattle.fsl_words.specs.Grammar.{is_word}
use Rattle.fsl_words.proofs.reading.are_words.Given as goal

abbrev pub invariant-loop-word : goal.invariant-loop-word
invariant-loop-word l = list_all is_word (map string_bytes (take l.word-index l.words)) ≡ true
