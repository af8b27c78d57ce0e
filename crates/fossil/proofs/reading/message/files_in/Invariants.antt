use Rattle.std.proofs.Common.{◌≡◌, ◌++◌, false}
use Rattle.fossil.specs.Messages.{files_of}
use Rattle.fossil.proofs.reading.message.files_in.Given as goal

abbrev pub invariant-loop-card : goal.invariant-loop-card
invariant-loop-card l = l.files ++ files_of l.marked l.card-iterator.rest.items ≡ files_of false l.fn.cards
