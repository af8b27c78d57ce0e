-- Behind a sync that ended well all records are committed: the round that is its end was committed.
use Rattle.std.specs.Prelude.{◌≡◌, ⊤, ℕ, ◌==◌, Bool, true, false, List, [], ◌∷◌, Option, Some, None, Result, Ok, Err, if◌then◌else◌, MatchBool, MatchOption}
use Rattle.std.specs.List.{list_all}
use Rattle.std.specs.Str.{bytes_eq}
use Rattle.std.proofs.Common.{refl, sym, subst, inl, inr}
use Rattle.fsl_order.specs.Names.{has}
use Rattle.fsl_wire.specs.declared.WireCard.{WireCard}
use Rattle.fsl_repo.specs.Machine.{State, now}
use Rattle.fsl_blobs.specs.Fold.{Contents}
use Rattle.fsl_http.specs.Responses.{Exchanged}
use Rattle.fsl_pull.specs.declared.Login.{Login}
use Rattle.fsl_pull.specs.declared.PeerFault.{PeerFault}
use Rattle.fsl_pull.specs.declared.PeerFault.TheVariants as peer
use Rattle.fsl_pull.specs.declared.PullFault.{PullFault}
use Rattle.fsl_pull.specs.declared.PullFault.TheVariants as fault
use Rattle.fsl_pull.specs.Rounds.{Round, Point, End, Then, goes_on, ends, Course, EndsIn, IsSync}
use Rattle.fsl_pull.specs.Replies.{sequel_in}
use Rattle.fsl_pull.specs.Arrivals.{Taken, AreWants}
use Rattle.fsl_pull.specs.Pulls.{IsPull, PullRound, IsPullReply, pull_then, behind, ended, uncommitted, unread, stopped_end, pull_start}
use Rattle.fsl_pull.specs.Pushes.{Sending, IsPush, PushRound, IsPushReply, files_to_send, push_then, quiet_then, sent_on, push_ended, push_uncommitted, push_start, asked_here}
use Rattle.fsl_pull.specs.Clones.{Cloning, IsClone, CloneRound, IsCloneReply, IsCloned, IsBegun, clone_then, clone_start, begun_with, first_record, project_in, not_empty_end}
use Rattle.fsl_pull.specs.Locals.{IsLocalPull, LocalRound, local_then, other_project_end, project_code, AreLocalRounds}
use Rattle.fsl_pull.specs.Laws.{AreAllCommitted, SyncsCommitAll}
use Rattle.fsl_pull.proofs.EndsWell.{LastRound, last_round, some_none}

abbrev Names : Type 0
Names = List (List ℕ)

-- a round that goes on, or an end behind which all is committed
abbrev IsDone : {M : Type 0} → Then M → Type 0
IsDone (goes_on p) = ⊤
IsDone (ends e) = AreAllCommitted e

-- ---- all rounds

module _ {M Q A : Type 0} (R : Course M Q A) (one : (p : Point M) (r : Round Q A) (step : Then M) → R p r step → IsDone step) where
  by_last : (rounds : List (Round Q A)) (e : End) → LastRound R rounds e → AreAllCommitted e
  by_last rounds e l = one l.point l.last (ends e) l.is_last

  end : (p : Point M) (rounds : List (Round Q A)) (e : End) → EndsIn R p rounds e → AreAllCommitted e
  end p rounds e h = by_last rounds e (last_round R p rounds e h)

  whole : (p : Point M) (rounds : List (Round Q A)) (e : End) → IsSync R p rounds e → AreAllCommitted e
  whole p rounds e (inl h) = end p rounds e h.1
  whole p rounds e (inr h) = subst AreAllCommitted (sym h.1.2) (λ well. absurd (some_none fault.Rounds well))

stopped : (s : State) (faults : ℕ) (e : End) → e ≡ stopped_end s faults → AreAllCommitted e
stopped s faults e is = subst AreAllCommitted (sym is) (λ well. absurd (some_none (fault.Stopped faults) well))

-- ---- a pull

pull_step : {M : Type 0} (p : Point M) (t : Taken) (last : Bool) (why : Option PullFault) (memory : M) → IsDone (if last then ends (ended p t why) else goes_on (behind p t memory))
pull_step p t true why memory = λ well. refl
pull_step p t false why memory = tt

pull_one : (login : Option Login) (p : Point Names) (r : Round (List ℕ) Exchanged) (step : Then Names) → PullRound login p r step → IsDone step
pull_one login p r step (asks, told) = by_read told.0 told.2
  where
    by_fault : (reply : List WireCard) (t : Taken) (o : Option PullFault) → MatchOption o ((wanted : Names) × AreWants t.state wanted × (step ≡ pull_then p reply t wanted)) (λ why. step ≡ ends (uncommitted p t why)) → IsDone step
    by_fault reply t None h = subst (λ (s : Then Names). IsDone s) (sym h.2) (pull_step p t _ _ _)
    by_fault reply t (Some why) h = subst (λ (s : Then Names). IsDone s) (sym h) (λ well. absurd (some_none why well))

    by_read : (read : Result (List WireCard) PeerFault) → IsPullReply p read step → IsDone step
    by_read (Ok reply) h = by_fault reply h.0 (h.0).fault h.2
    by_read (Err why) h = subst (λ (s : Then Names). IsDone s) (sym h) (λ well. absurd (some_none (fault.Peer why) well))

pulls : (login : Option Login) (s : State) (rounds : List (Round (List ℕ) Exchanged)) (e : End) → IsPull login s rounds e → AreAllCommitted e
pulls login s rounds e h = by_stop s.stopped h
  where
    by_stop : (o : Option ℕ) → MatchOption o ((wanted : Names) × AreWants s wanted × IsSync (PullRound login) (pull_start s wanted) rounds e) (λ faults. (rounds ≡ []) × (e ≡ stopped_end s faults)) → AreAllCommitted e
    by_stop None k = whole (PullRound login) (pull_one login) (pull_start s k.0) rounds e k.2
    by_stop (Some faults) k = stopped s faults e k.1

-- ---- a push

push_step : (p : Point Sending) (reply : List WireCard) (t : Taken) (files : List (List ℕ × List ℕ)) → IsDone (push_then p reply t files)
push_step p reply t [] = quiet (asked_here (now t.state) reply)
  where
    again : (b : Bool) (least : List ℕ) → IsDone (if b then ends (push_ended p t (Some (fault.Peer (peer.Again least)))) else goes_on (sent_on p reply t []))
    again true least = λ well. refl
    again false least = tt

    quiet : (here : Names) → IsDone (quiet_then p reply t here)
    quiet [] = λ well. refl
    quiet (least ∷ more) = again (list_all (has p.memory.sent) (least ∷ more)) least
push_step p reply t (file ∷ files) = tt

push_one : (login : Option Login) (p : Point Sending) (r : Round (List ℕ) Exchanged) (step : Then Sending) → PushRound login p r step → IsDone step
push_one login p r step (names, are, request, told) = by_read (files_to_send (now p.state) p.memory) told.0 told.2
  where
    by_fault : (reply : List WireCard) (files : List (List ℕ × List ℕ)) (t : Taken) (o : Option PullFault) → MatchOption o (step ≡ push_then p reply t files) (λ why. step ≡ ends (push_uncommitted p t why)) → IsDone step
    by_fault reply files t None h = subst (λ (s : Then Sending). IsDone s) (sym h) (push_step p reply t files)
    by_fault reply files t (Some why) h = subst (λ (s : Then Sending). IsDone s) (sym h) (λ well. absurd (some_none why well))

    by_read : (files : List (List ℕ × List ℕ)) (read : Result (List WireCard) PeerFault) → IsPushReply p files read step → IsDone step
    by_read files (Ok reply) h = by_fault reply files h.0 (h.0).fault h.2
    by_read files (Err why) h = subst (λ (s : Then Sending). IsDone s) (sym h) (λ well. absurd (some_none (fault.Peer why) well))

pushes : (login : Option Login) (s : State) (rounds : List (Round (List ℕ) Exchanged)) (e : End) → IsPush login s rounds e → AreAllCommitted e
pushes login s rounds e h = by_stop s.stopped h
  where
    by_stop : (o : Option ℕ) → MatchOption o (IsSync (PushRound login) (push_start s) rounds e) (λ faults. (rounds ≡ []) × (e ≡ stopped_end s faults)) → AreAllCommitted e
    by_stop None k = whole (PushRound login) (push_one login) (push_start s) rounds e k
    by_stop (Some faults) k = stopped s faults e k.1

-- ---- a pull from another repository

local_one : (peer : State) (unclustered : Names) (p : Point Names) (r : Round Names (List WireCard)) (step : Then Names) → LocalRound peer unclustered p r step → IsDone step
local_one peer unclustered p r step (request, gives, told) = by_fault (told.0).fault told.2
  where
    by_fault : (o : Option PullFault) → MatchOption o ((wanted : Names) × AreWants (told.0).state wanted × (step ≡ local_then p r.reply told.0 wanted)) (λ why. step ≡ ends (uncommitted p told.0 why)) → IsDone step
    by_fault None h = subst (λ (s : Then Names). IsDone s) (sym h.2) (pull_step p told.0 _ _ _)
    by_fault (Some why) h = subst (λ (s : Then Names). IsDone s) (sym h) (λ well. absurd (some_none why well))

locals : (s peer : State) (rounds : List (Round Names (List WireCard))) (e : End) → IsLocalPull s peer rounds e → AreAllCommitted e
locals s peer rounds e h = by_project (bytes_eq (project_code (now s)) (project_code (now peer))) h
  where
    by_stop : (o : Option ℕ) → MatchOption o (AreLocalRounds s peer rounds e) (λ faults. (rounds ≡ []) × (e ≡ stopped_end s faults)) → AreAllCommitted e
    by_stop None k = end (LocalRound peer k.0) (local_one peer k.0) (pull_start s k.2.0) rounds e k.2.2
    by_stop (Some faults) k = stopped s faults e k.1

    by_project : (b : Bool) → MatchBool b (MatchOption s.stopped (AreLocalRounds s peer rounds e) (λ faults. (rounds ≡ []) × (e ≡ stopped_end s faults))) ((rounds ≡ []) × (e ≡ other_project_end s (project_code (now peer)))) → AreAllCommitted e
    by_project true k = by_stop s.stopped k
    by_project false k = subst AreAllCommitted (sym k.1) (λ well. absurd (some_none (fault.Project (project_code (now peer))) well))

-- ---- a clone

clone_step : (p : Point Cloning) (t : Taken) (o : Option ℕ) → IsDone (clone_then p t o)
clone_step p t None = λ well. absurd (some_none (fault.Peer peer.NoSequence) well)
clone_step p t (Some next) = pull_step p t (next == 0) None (record { begun = true; from = next })

cloned : (p : Point Cloning) (reply : List WireCard) (step : Then Cloning) → IsCloned p reply step → IsDone step
cloned p reply step (t, takes, told) = by_fault t.fault told
  where
    by_fault : (o : Option PullFault) → MatchOption o (step ≡ clone_then p t (sequel_in reply)) (λ why. step ≡ ends (uncommitted p t why)) → IsDone step
    by_fault None h = subst (λ (s : Then Cloning). IsDone s) (sym h) (clone_step p t (sequel_in reply))
    by_fault (Some why) h = subst (λ (s : Then Cloning). IsDone s) (sym h) (λ well. absurd (some_none why well))

clone_one : (server : List ℕ) (fields : Names) (login : Option Login) (p : Point Cloning) (r : Round (List ℕ) Exchanged) (step : Then Cloning) → CloneRound server fields login p r step → IsDone step
clone_one server fields login p r step (asks, told) = by_read told.0 told.2
  where
    by_project : (reply : List WireCard) (o : Option (List ℕ)) → MatchOption o (step ≡ ends (unread p peer.NoPush)) (λ project. IsCloned (begun_with p (first_record project server fields)) reply step) → IsDone step
    by_project reply None h = subst (λ (s : Then Cloning). IsDone s) (sym h) (λ well. absurd (some_none (fault.Peer peer.NoPush) well))
    by_project reply (Some project) h = cloned (begun_with p (first_record project server fields)) reply step h

    by_begun : (reply : List WireCard) (b : Bool) → MatchBool b (IsCloned p reply step) (IsBegun server fields p reply step) → IsDone step
    by_begun reply true h = cloned p reply step h
    by_begun reply false h = by_project reply (project_in reply) h

    by_read : (read : Result (List WireCard) PeerFault) → IsCloneReply server fields p read step → IsDone step
    by_read (Ok reply) h = by_begun reply p.memory.begun h
    by_read (Err why) h = subst (λ (s : Then Cloning). IsDone s) (sym h) (λ well. absurd (some_none (fault.Peer why) well))

clones : (server : List ℕ) (fields : Names) (login : Option Login) (len faults : ℕ) (honest : Bool) (rounds : List (Round (List ℕ) Exchanged)) (e : End) → IsClone server fields login len faults honest rounds e → AreAllCommitted e
clones server fields login len faults honest rounds e h = by_length (len == 0) h
  where
    by_length : (b : Bool) → MatchBool b (IsSync (CloneRound server fields login) (clone_start faults honest) rounds e) ((rounds ≡ []) × (e ≡ not_empty_end faults honest len)) → AreAllCommitted e
    by_length true k = whole (CloneRound server fields login) (clone_one server fields login) (clone_start faults honest) rounds e k
    by_length false k = subst AreAllCommitted (sym k.1) (λ well. absurd (some_none (fault.NotEmpty len) well))

pub syncs_commit_all : SyncsCommitAll
syncs_commit_all = record { pull = pulls; push = pushes; clone = clones; local = locals }
