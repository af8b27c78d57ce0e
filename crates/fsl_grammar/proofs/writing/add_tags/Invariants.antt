use Rattle.std.proofs.Common.{◌≡◌, ◌++◌, map, take}
use Rattle.fsl_card.specs.Cards.{text_of}
use Rattle.fsl_grammar.specs.Writing.{tag_card}
use Rattle.fsl_grammar.proofs.writing.add_tags.Given as goal

abbrev pub invariant-loop-tag : goal.invariant-loop-tag
invariant-loop-tag l = l.into ≡ l.initial.into ++ text_of (map tag_card (take l.tag-index l.tags))
