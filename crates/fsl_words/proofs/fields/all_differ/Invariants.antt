use Rattle.std.proofs.Common.{◌≡◌, take, List, ℕ, true, Bor}
use Rattle.std.specs.BTreeSet.{contains}
use Rattle.fsl_order.specs.Names.{bytes_cmp, has}
use Rattle.fsl_words.specs.Grammar.{all_differ}
use Rattle.fsl_words.proofs.fields.all_differ.Given as goal

-- the texts that were passed are in the set, and differ
abbrev pub invariant-loop-text : goal.invariant-loop-text
invariant-loop-text l = record {
  seen : (q : Bor (List ℕ)) → contains (λ a b. bytes_cmp a.now b.now) l.seen q ≡ has (take l.text-index l.texts) q.now;
  apart : all_differ (take l.text-index l.texts) ≡ true;
}
