use Rattle.std.proofs.Common.{◌≡◌, true}
use Rattle.std.specs.List.{list_any}
use Rattle.std.specs.Map.Iter.{deref_pair}
use Rattle.std.specs.Str.{bytes_eq}
use Rattle.std.proofs.lemmas.Map.Views.{All-turn}
use Rattle.fsl_query.proofs.tickets.append_tickets.Goals as goal

pub append_told-requires : goal.append_told-requires
append_told-requires c =
    All-turn deref_pair (λ e. list_any (λ f. bytes_eq f.id e.1.1) c.args.table.now.facts ≡ true) _ _ _ _ _ _ _ c.requires c.into_iter-change-iterator.ensures.into_iter_gives.0
    c.loop-change.yielded_by c.in-Some.is c.next.ensures.steps
