use Rattle.std.proofs.Common.{◌≡◌, ◌&&◌, not, drop}
use Rattle.std.specs.List.Sorted.{IsStrictlySortedBy}
use Rattle.std.specs.Map.{keys_of}
use Rattle.fsl_ticket.specs.Kept.{Setting, setting_cmp, is_kept_set, is_set_of}
use Rattle.fsl_ticket.proofs.sets.take_sets.Given as goal

-- without those of the cards that are left, they are what stays
abbrev pub invariant-loop-card : goal.invariant-loop-card
invariant-loop-card g l = record {
  ordered : IsStrictlySortedBy setting_cmp (keys_of l.sets.held.entries);
  sets : (k : Setting) → (not (is_set_of l.id l.place (drop l.card-index l.cards) k) && is_kept_set l.sets.held.entries k) ≡ (not (is_set_of l.id l.place l.cards k) && is_kept_set l.fn.sets.held.entries k);
  was : l.sets.was ≡ l.fn.sets.was;
}
