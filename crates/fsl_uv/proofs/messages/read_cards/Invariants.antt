use Rattle.std.proofs.Common.{◌≡◌, ◌+◌, ◌-◌, ◌≤◌, ◌++◌, length, drop}
use Rattle.std.specs.List.{AllByRecursion}
use Rattle.fsl_uv.specs.Cards.{IsCard, message_text}
use Rattle.fsl_uv.proofs.messages.read_cards.Given as goal

-- the bytes so far are those of the cards
abbrev pub invariant-loop-at : goal.invariant-loop-at
invariant-loop-at l = record {
  good : AllByRecursion IsCard l.cards.items;
  layout : l.message ≡ message_text l.cards.items ++ drop l.at l.message;
  line : l.line ≡ length l.cards.items + 1;
  within : l.at ≤ length l.message;
  fewer : l.line ≤ l.at + 1;
}

abbrev pub decreases-loop-at : goal.decreases-loop-at
decreases-loop-at l = length l.message - l.at
