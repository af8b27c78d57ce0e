-- A clone never says `Damaged`.
use Rattle.std.specs.Prelude.{ℕ, List, Option, Err}
use Rattle.std.proofs.Common.{sym, subst, inl, inr}
use Rattle.fsl_disk.specs.Disk.{DiskState}
use Rattle.fsl_outside.specs.Connections.{LinkState}
use Rattle.fsl_wire.specs.declared.WireCard.{WireCard}
use Rattle.fsl_repo.specs.Whole.{Seen}
use Rattle.fsl_pull.specs.declared.PullFault.{PullFault}
use Rattle.fsl_pull.specs.declared.PullFault.TheVariants as fault
use Rattle.fsl_pull.specs.Taking.{IsRefusal, TakesAll}
use Rattle.fsl_pull.specs.CloneCalls.{IsUndamaged}
use Rattle.fsl_pull.specs.CloneTurns.{IsUnreplied, IsUnbegun}

of_refusal : (why : PullFault) → IsRefusal why → IsUndamaged why
of_refusal (fault.NotEmpty len) h = tt
of_refusal (fault.NotRepository place) h = tt
of_refusal (fault.Project found) h = tt
of_refusal (fault.Stopped count) h = tt
of_refusal fault.Link h = tt
of_refusal fault.Disk h = tt
of_refusal (fault.Damaged name found) h = absurd h
of_refusal (fault.Peer wrong) h = tt
of_refusal (fault.TooLarge name size) h = tt
of_refusal (fault.Full name) h = tt
of_refusal (fault.Missing name) h = tt
of_refusal fault.Rounds h = tt
of_refusal fault.Memory h = tt

-- a card that is wrong, or want of memory
pub refused_undamaged : (old new : Seen) (due : Option ℕ) (cards : List WireCard) (why : PullFault) → TakesAll old due cards (Err why) new → IsUndamaged why
refused_undamaged old new due cards why (inl h) = of_refusal why h.refusal
refused_undamaged old new due cards why (inr (memory, h)) = subst IsUndamaged (sym memory) tt

-- no reply
pub unreplied_undamaged : (d e : LinkState) (request : List ℕ) (why : PullFault) → IsUnreplied d e request why → IsUndamaged why
unreplied_undamaged d e request (fault.NotEmpty len) h = tt
unreplied_undamaged d e request (fault.NotRepository place) h = tt
unreplied_undamaged d e request (fault.Project found) h = tt
unreplied_undamaged d e request (fault.Stopped count) h = tt
unreplied_undamaged d e request fault.Link h = tt
unreplied_undamaged d e request fault.Disk h = tt
unreplied_undamaged d e request (fault.Damaged name found) h = absurd h
unreplied_undamaged d e request (fault.Peer wrong) h = tt
unreplied_undamaged d e request (fault.TooLarge name size) h = tt
unreplied_undamaged d e request (fault.Full name) h = tt
unreplied_undamaged d e request (fault.Missing name) h = tt
unreplied_undamaged d e request fault.Rounds h = tt
unreplied_undamaged d e request fault.Memory h = tt

-- no repository
pub unbegun_undamaged : {D : Type 0} (disk : D → DiskState) (server : List ℕ) (fields : List (List ℕ)) (reply : List WireCard) (before after : D) (why : PullFault) → IsUnbegun disk server fields reply before after why → IsUndamaged why
unbegun_undamaged disk server fields reply before after (fault.NotEmpty len) h = tt
unbegun_undamaged disk server fields reply before after (fault.NotRepository place) h = tt
unbegun_undamaged disk server fields reply before after (fault.Project found) h = tt
unbegun_undamaged disk server fields reply before after (fault.Stopped count) h = tt
unbegun_undamaged disk server fields reply before after fault.Link h = tt
unbegun_undamaged disk server fields reply before after fault.Disk h = tt
unbegun_undamaged disk server fields reply before after (fault.Damaged name found) (project, pushes, h) = absurd h
unbegun_undamaged disk server fields reply before after (fault.Peer wrong) h = tt
unbegun_undamaged disk server fields reply before after (fault.TooLarge name size) h = tt
unbegun_undamaged disk server fields reply before after (fault.Full name) h = tt
unbegun_undamaged disk server fields reply before after (fault.Missing name) h = tt
unbegun_undamaged disk server fields reply before after fault.Rounds h = tt
unbegun_undamaged disk server fields reply before after fault.Memory h = tt
