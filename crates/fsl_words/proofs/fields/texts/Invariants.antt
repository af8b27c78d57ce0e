use Rattle.std.proofs.Common.{◌≡◌, map, take}
use Rattle.std.specs.Prelude.{string_bytes}
use Rattle.fsl_words.proofs.fields.texts.Given as goal

-- the words that were passed are copied
abbrev pub invariant-loop-word : goal.invariant-loop-word
invariant-loop-word l = l.texts.items ≡ map string_bytes (take l.word-index l.words)
