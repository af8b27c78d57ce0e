-- What a clone comes to, whatever count of faults its disk has and whether it tells its contents and meets the disk model.
use Rattle.std.specs.Prelude.{◌≡◌, ℕ, ◌==◌, Bool, true, false, List, [], ◌∷◌, Option, Some, None, Result, Ok, Err, MatchBool, MatchOption, if◌then◌else◌}
use Rattle.std.proofs.Common.{refl, sym, ap, subst, ◌∙◌, inl, inr}
use Rattle.fsl_wire.specs.declared.WireCard.{WireCard}
use Rattle.fsl_wire.specs.declared.WireCard.TheVariants as cards
use Rattle.fsl_repo.specs.declared.Arrival.{Arrival}
use Rattle.fsl_repo.specs.declared.Arrival.TheVariants as arrival
use Rattle.fsl_repo.specs.declared.ArriveFault.{ArriveFault}
use Rattle.fsl_repo.specs.Machine.{State, arrived}
use Rattle.fsl_http.specs.Responses.{Exchanged}
use Rattle.fsl_pull.specs.declared.Login.{Login}
use Rattle.fsl_pull.specs.declared.PeerFault.{PeerFault}
use Rattle.fsl_pull.specs.declared.PeerFault.TheVariants as peer
use Rattle.fsl_pull.specs.declared.PullFault.{PullFault}
use Rattle.fsl_pull.specs.declared.PullFault.TheVariants as fault
use Rattle.fsl_pull.specs.Rounds.{Round, Point, End, Then, goes_on, ends, GoOn, EndsIn, IsSync}
use Rattle.fsl_pull.specs.Replies.{sequel_in}
use Rattle.fsl_pull.specs.Arrivals.{Taken, Takes, stopped_by, is_onward}
use Rattle.fsl_pull.specs.Pulls.{behind, ended, uncommitted, unread}
use Rattle.fsl_pull.specs.Clones.{Cloning, project_in, first_record, begun_with, clone_then, IsCloned, IsBegun, IsCloneReply, CloneRound, clone_start, not_empty_end}
use Rattle.fsl_pull.specs.Laws.{with_disk, ClonesCountNoFaults}
use Rattle.fsl_pull.specs.CloneTurns.{cloning}
use Rattle.fsl_pull.proofs.TakesLemmas.{FileTaken}

-- the same with this count, on such a disk
abbrev pub counted : ℕ → Bool → State → State
counted n kind s = record s { faults = n; honest = kind }

abbrev pub taken_at : ℕ → Bool → Taken → Taken
taken_at n kind t = record t { state = counted n kind t.state }

abbrev pub point_at : ℕ → Bool → Point Cloning → Point Cloning
point_at n kind p = record p { state = counted n kind p.state }

abbrev pub then_at : ℕ → Bool → Then Cloning → Then Cloning
then_at n kind (goes_on p) = goes_on (point_at n kind p)
then_at n kind (ends e) = ends (with_disk n kind e)

abbrev Told : Type 0
Told = Result Arrival ArriveFault

-- ---- cards

arrived_at : (n : ℕ) (kind : Bool) (s : State) (name bytes : List ℕ) (a : Arrival) → arrived (counted n kind s) name None bytes false (Ok a) ≡ counted n kind (arrived s name None bytes false (Ok a))
arrived_at n kind s name bytes arrival.Shunned = refl
arrived_at n kind s name bytes arrival.Present = refl
arrived_at n kind s name bytes arrival.Published = refl
arrived_at n kind s name bytes arrival.Stored = refl

file_at : (n : ℕ) (kind : Bool) (s : State) (name bytes : List ℕ) (due : Option ℕ) (rest : List WireCard) (t : Taken) (answer : Told) → ((s2 : State) (more : Taken) → Takes s2 due rest more → Takes (counted n kind s2) due rest (taken_at n kind more)) → FileTaken s name bytes due rest t answer → FileTaken (counted n kind s) name bytes due rest (taken_at n kind t) answer
file_at n kind s name bytes due rest t (Ok a) others h = (
  taken_at n kind h.0,
  subst (λ (x : State). Takes x due rest (taken_at n kind h.0)) (sym (arrived_at n kind s name bytes a)) (others (arrived s name None bytes false (Ok a)) h.0 h.1),
  ap (taken_at n kind) h.2,
)
file_at n kind s name bytes due rest t (Err why) others h = ap (taken_at n kind) h

sequel_at : (n : ℕ) (kind : Bool) (b : Bool) (s : State) (rest : List WireCard) (t : Taken) (why : PullFault) → ((s2 : State) (more : Taken) → Takes s2 None rest more → Takes (counted n kind s2) None rest (taken_at n kind more)) → MatchBool b (Takes s None rest t) (t ≡ stopped_by s why) → MatchBool b (Takes (counted n kind s) None rest (taken_at n kind t)) (taken_at n kind t ≡ stopped_by (counted n kind s) why)
sequel_at n kind true s rest t why others h = others s t h
sequel_at n kind false s rest t why others h = ap (taken_at n kind) h

takes_at : (n : ℕ) (kind : Bool) (s : State) (due : Option ℕ) (reply : List WireCard) (t : Taken) → Takes s due reply t → Takes (counted n kind s) due reply (taken_at n kind t)
takes_at n kind s due [] t h = ap (taken_at n kind) h
takes_at n kind s due (cards.File name bytes ∷ rest) t h = (h.0, h.1, file_at n kind s name bytes due rest t h.0 (λ s2 more. takes_at n kind s2 due rest more) h.2)
takes_at n kind s (Some from) (cards.CloneSeqno next ∷ rest) t h = sequel_at n kind (is_onward from next) s rest t (fault.Peer (peer.Sequence next)) (λ s2 more. takes_at n kind s2 None rest more) h
takes_at n kind s None (cards.CloneSeqno next ∷ rest) t h = takes_at n kind s None rest t h
takes_at n kind s due (cards.Login user nonce signature tail line ∷ rest) t h = takes_at n kind s due rest t h
takes_at n kind s due (cards.Push server project ∷ rest) t h = takes_at n kind s due rest t h
takes_at n kind s due (cards.Pull server project ∷ rest) t h = takes_at n kind s due rest t h
takes_at n kind s due (cards.Clone from ∷ rest) t h = takes_at n kind s due rest t h
takes_at n kind s due (cards.Private ∷ rest) t h = takes_at n kind s due rest t h
takes_at n kind s due (cards.Igot name private ∷ rest) t h = takes_at n kind s due rest t h
takes_at n kind s due (cards.Gimme name ∷ rest) t h = takes_at n kind s due rest t h
takes_at n kind s due (cards.Error text ∷ rest) t h = takes_at n kind s due rest t h
takes_at n kind s due (cards.Message text ∷ rest) t h = takes_at n kind s due rest t h
takes_at n kind s due (cards.SendPrivate ∷ rest) t h = takes_at n kind s due rest t h

-- ---- rounds

sequence_at : (n : ℕ) (kind : Bool) (p : Point Cloning) (t : Taken) (next : ℕ) (last : Bool)
    → (if last then ends (ended (point_at n kind p) (taken_at n kind t) None) else goes_on (behind (point_at n kind p) (taken_at n kind t) (cloning next))) ≡ then_at n kind (if last then ends (ended p t None) else goes_on (behind p t (cloning next)))
sequence_at n kind p t next true = refl
sequence_at n kind p t next false = refl

clone_then_at : (n : ℕ) (kind : Bool) (p : Point Cloning) (t : Taken) (o : Option ℕ) → clone_then (point_at n kind p) (taken_at n kind t) o ≡ then_at n kind (clone_then p t o)
clone_then_at n kind p t None = refl
clone_then_at n kind p t (Some next) = sequence_at n kind p t next (next == 0)

by_fault : (n : ℕ) (kind : Bool) (p : Point Cloning) (reply : List WireCard) (t : Taken) (o : Option PullFault) (step : Then Cloning) → MatchOption o (step ≡ clone_then p t (sequel_in reply)) (λ why. step ≡ ends (uncommitted p t why))
    → MatchOption o (then_at n kind step ≡ clone_then (point_at n kind p) (taken_at n kind t) (sequel_in reply)) (λ why. then_at n kind step ≡ ends (uncommitted (point_at n kind p) (taken_at n kind t) why))
by_fault n kind p reply t None step h = ap (then_at n kind) h ∙ sym (clone_then_at n kind p t (sequel_in reply))
by_fault n kind p reply t (Some why) step h = ap (then_at n kind) h

cloned_at : (n : ℕ) (kind : Bool) (p : Point Cloning) (reply : List WireCard) (step : Then Cloning) → IsCloned p reply step → IsCloned (point_at n kind p) reply (then_at n kind step)
cloned_at n kind p reply step h = (taken_at n kind h.0, takes_at n kind p.state (Some p.memory.from) reply h.0 h.1, by_fault n kind p reply h.0 (h.0).fault step h.2)

begun_at : (n : ℕ) (kind : Bool) (server : List ℕ) (fields : List (List ℕ)) (p : Point Cloning) (reply : List WireCard) (o : Option (List ℕ)) (step : Then Cloning)
    → MatchOption o (step ≡ ends (unread p peer.NoPush)) (λ project. IsCloned (begun_with p (first_record project server fields)) reply step)
    → MatchOption o (then_at n kind step ≡ ends (unread (point_at n kind p) peer.NoPush)) (λ project. IsCloned (begun_with (point_at n kind p) (first_record project server fields)) reply (then_at n kind step))
begun_at n kind server fields p reply None step h = ap (then_at n kind) h
begun_at n kind server fields p reply (Some project) step h = cloned_at n kind (begun_with p (first_record project server fields)) reply step h

either_at : (n : ℕ) (kind : Bool) (server : List ℕ) (fields : List (List ℕ)) (p : Point Cloning) (reply : List WireCard) (b : Bool) (step : Then Cloning)
    → MatchBool b (IsCloned p reply step) (IsBegun server fields p reply step) → MatchBool b (IsCloned (point_at n kind p) reply (then_at n kind step)) (IsBegun server fields (point_at n kind p) reply (then_at n kind step))
either_at n kind server fields p reply true step h = cloned_at n kind p reply step h
either_at n kind server fields p reply false step h = begun_at n kind server fields p reply (project_in reply) step h

reply_at : (n : ℕ) (kind : Bool) (server : List ℕ) (fields : List (List ℕ)) (p : Point Cloning) (read : Result (List WireCard) PeerFault) (step : Then Cloning) → IsCloneReply server fields p read step → IsCloneReply server fields (point_at n kind p) read (then_at n kind step)
reply_at n kind server fields p (Ok reply) step h = either_at n kind server fields p reply p.memory.begun step h
reply_at n kind server fields p (Err why) step h = ap (then_at n kind) h

module _ (server : List ℕ) (fields : List (List ℕ)) (login : Option Login) (n : ℕ) (kind : Bool) where
  abbrev R : Point Cloning → Round (List ℕ) Exchanged → Then Cloning → Type 0
  R = CloneRound server fields login

  round_at : (p : Point Cloning) (r : Round (List ℕ) Exchanged) (step : Then Cloning) → R p r step → R (point_at n kind p) r (then_at n kind step)
  round_at p r step h = (h.0, (h.1.0, h.1.1, reply_at n kind server fields p h.1.0 step h.1.2))

  go_at : (p : Point Cloning) (rounds : List (Round (List ℕ) Exchanged)) (q : Point Cloning) → GoOn R p rounds q → GoOn R (point_at n kind p) rounds (point_at n kind q)
  go_at p [] q h = ap (point_at n kind) h
  go_at p (r ∷ rounds) q h = (point_at n kind h.0, round_at p r (goes_on h.0) h.1, go_at h.0 rounds q h.2)

  ends_at : (p : Point Cloning) (rounds : List (Round (List ℕ) Exchanged)) (e : End) → EndsIn R p rounds e → EndsIn R (point_at n kind p) rounds (with_disk n kind e)
  ends_at p [] e h = h
  ends_at p (r ∷ rounds) e (inl h) = inl (h.0, round_at p r (ends e) h.1)
  ends_at p (r ∷ rounds) e (inr h) = inr (point_at n kind h.0, round_at p r (goes_on h.0) h.1, ends_at h.0 rounds e h.2)

  sync_at : (p : Point Cloning) (rounds : List (Round (List ℕ) Exchanged)) (e : End) → IsSync R p rounds e → IsSync R (point_at n kind p) rounds (with_disk n kind e)
  sync_at p rounds e (inl h) = inl (h.0, ends_at p rounds e h.1)
  sync_at p rounds e (inr h) = inr (h.0, (point_at n kind h.1.0, go_at p rounds h.1.0 h.1.1, ap (with_disk n kind) h.1.2))

clone_at : (server : List ℕ) (fields : List (List ℕ)) (login : Option Login) (len m n : ℕ) (honest kind : Bool) (b : Bool) (rounds : List (Round (List ℕ) Exchanged)) (e : End)
    → MatchBool b (IsSync (CloneRound server fields login) (clone_start m honest) rounds e) ((rounds ≡ []) × (e ≡ not_empty_end m honest len))
    → MatchBool b (IsSync (CloneRound server fields login) (clone_start n kind) rounds (with_disk n kind e)) ((rounds ≡ []) × (with_disk n kind e ≡ not_empty_end n kind len))
clone_at server fields login len m n honest kind true rounds e h = sync_at server fields login n kind (clone_start m honest) rounds e h
clone_at server fields login len m n honest kind false rounds e h = (h.0, ap (with_disk n kind) h.1)

pub clones_count_no_faults : ClonesCountNoFaults
clones_count_no_faults server fields login len m n honest kind rounds e h = clone_at server fields login len m n honest kind (len == 0) rounds e h
