-- What a sync comes to doesn't depend on the count of faults that its repository's disk had.
use Rattle.std.proofs.Common.{◌≡◌, inl, inr, ℕ, Bool, true, false, List, [], ◌∷◌, Option, Some, None, Result, Ok, Err, refl, sym, ap, subst, ◌∙◌}
use Rattle.std.specs.Prelude.{if◌then◌else◌, MatchBool, MatchOption}
use Rattle.std.specs.List.{list_all}
use Rattle.std.specs.Str.{bytes_eq}
use Rattle.fsl_order.specs.Names.{has}
use Rattle.fsl_record.specs.declared.Record.{Record}
use Rattle.fsl_wire.specs.declared.WireCard.{WireCard}
use Rattle.fsl_wire.specs.declared.WireCard.TheVariants as cards
use Rattle.fsl_repo.specs.declared.Arrival.{Arrival}
use Rattle.fsl_repo.specs.declared.Arrival.TheVariants as arrival
use Rattle.fsl_repo.specs.declared.ArriveFault.{ArriveFault}
use Rattle.fsl_repo.specs.Machine.{State, now, arrived}
use Rattle.fsl_repo.specs.Whole.{opened}
use Rattle.fsl_http.specs.Responses.{Exchanged}
use Rattle.fsl_pull.specs.declared.Login.{Login}
use Rattle.fsl_pull.specs.declared.PeerFault.{PeerFault}
use Rattle.fsl_pull.specs.declared.PeerFault.TheVariants as peer
use Rattle.fsl_pull.specs.declared.PullFault.{PullFault}
use Rattle.fsl_pull.specs.declared.PullFault.TheVariants as fault
use Rattle.fsl_pull.specs.Rounds.{Round, Point, End, Then, goes_on, ends, Course, GoOn, EndsIn, IsSync}
use Rattle.fsl_pull.specs.Replies.{announced_in}
use Rattle.fsl_pull.specs.Arrivals.{Taken, Takes, AreWants, stopped_by, is_onward}
use Rattle.fsl_pull.specs.Pulls.{next_names, is_end, missing, missing_fault, behind, ended, uncommitted, pull_then, IsPullReply, PullRound, pull_start, IsPull}
use Rattle.fsl_pull.specs.Pushes.{Sending, files_to_send, asked_here, sent_on, push_ended, quiet_then, push_then, push_uncommitted, IsPushReply, PushRound, push_start, IsPush}
use Rattle.fsl_pull.specs.Locals.{local_then, LocalRound, AreLocalRounds, IsLocalPull, project_code, other_project_end}
use Rattle.fsl_pull.proofs.TakesLemmas.{FileTaken}

-- the same with this count
abbrev pub counted : ℕ → State → State
counted n s = record s { faults = n }

abbrev taken_so : ℕ → Taken → Taken
taken_so n t = record t { state = counted n t.state }

abbrev point_so : {M : Type 0} → ℕ → Point M → Point M
point_so n p = record p { state = counted n p.state }

abbrev pub end_so : ℕ → End → End
end_so n e = record e { state = counted n e.state }

abbrev then_so : {M : Type 0} → ℕ → Then M → Then M
then_so n (goes_on p) = goes_on (point_so n p)
then_so n (ends e) = ends (end_so n e)

abbrev Told : Type 0
Told = Result Arrival ArriveFault

-- ---- cards

arrived_so : (n : ℕ) (s : State) (name bytes : List ℕ) (a : Arrival) → arrived (counted n s) name None bytes false (Ok a) ≡ counted n (arrived s name None bytes false (Ok a))
arrived_so n s name bytes arrival.Shunned = refl
arrived_so n s name bytes arrival.Present = refl
arrived_so n s name bytes arrival.Published = refl
arrived_so n s name bytes arrival.Stored = refl

file_so : (n : ℕ) (s : State) (name bytes : List ℕ) (due : Option ℕ) (rest : List WireCard) (t : Taken) (answer : Told) → ((s2 : State) (more : Taken) → Takes s2 due rest more → Takes (counted n s2) due rest (taken_so n more))
    → FileTaken s name bytes due rest t answer → FileTaken (counted n s) name bytes due rest (taken_so n t) answer
file_so n s name bytes due rest t (Ok a) others h = (
  taken_so n h.0,
  subst (λ (x : State). Takes x due rest (taken_so n h.0)) (sym (arrived_so n s name bytes a)) (others (arrived s name None bytes false (Ok a)) h.0 h.1),
  ap (taken_so n) h.2,
)
file_so n s name bytes due rest t (Err why) others h = ap (taken_so n) h

sequel_so : (n : ℕ) (b : Bool) (s : State) (rest : List WireCard) (t : Taken) (why : PullFault) → ((s2 : State) (more : Taken) → Takes s2 None rest more → Takes (counted n s2) None rest (taken_so n more))
    → MatchBool b (Takes s None rest t) (t ≡ stopped_by s why) → MatchBool b (Takes (counted n s) None rest (taken_so n t)) (taken_so n t ≡ stopped_by (counted n s) why)
sequel_so n true s rest t why others h = others s t h
sequel_so n false s rest t why others h = ap (taken_so n) h

takes_so : (n : ℕ) (s : State) (due : Option ℕ) (reply : List WireCard) (t : Taken) → Takes s due reply t → Takes (counted n s) due reply (taken_so n t)
takes_so n s due [] t h = ap (taken_so n) h
takes_so n s due (cards.File name bytes ∷ rest) t h = (h.0, h.1, file_so n s name bytes due rest t h.0 (λ s2 more. takes_so n s2 due rest more) h.2)
takes_so n s (Some from) (cards.CloneSeqno next ∷ rest) t h = sequel_so n (is_onward from next) s rest t (fault.Peer (peer.Sequence next)) (λ s2 more. takes_so n s2 None rest more) h
takes_so n s None (cards.CloneSeqno next ∷ rest) t h = takes_so n s None rest t h
takes_so n s due (cards.Login user nonce signature tail line ∷ rest) t h = takes_so n s due rest t h
takes_so n s due (cards.Push server project ∷ rest) t h = takes_so n s due rest t h
takes_so n s due (cards.Pull server project ∷ rest) t h = takes_so n s due rest t h
takes_so n s due (cards.Clone from ∷ rest) t h = takes_so n s due rest t h
takes_so n s due (cards.Private ∷ rest) t h = takes_so n s due rest t h
takes_so n s due (cards.Igot name private ∷ rest) t h = takes_so n s due rest t h
takes_so n s due (cards.Gimme name ∷ rest) t h = takes_so n s due rest t h
takes_so n s due (cards.Error text ∷ rest) t h = takes_so n s due rest t h
takes_so n s due (cards.Message text ∷ rest) t h = takes_so n s due rest t h
takes_so n s due (cards.SendPrivate ∷ rest) t h = takes_so n s due rest t h

-- ---- rounds, of whatever course

abbrev IsUncounted : {M Q A : Type 0} → Course M Q A → Type 0
IsUncounted {M} {Q} {A} R = (n : ℕ) (p : Point M) (r : Round Q A) (step : Then M) → R p r step → R (point_so n p) r (then_so n step)

module _ {M Q A : Type 0} (R : Course M Q A) (one : IsUncounted R) (n : ℕ) where
  go_so : (p : Point M) (rounds : List (Round Q A)) (q : Point M) → GoOn R p rounds q → GoOn R (point_so n p) rounds (point_so n q)
  go_so p [] q h = ap (point_so n) h
  go_so p (r ∷ rounds) q h = (point_so n h.0, one n p r (goes_on h.0) h.1, go_so h.0 rounds q h.2)

  ends_so : (p : Point M) (rounds : List (Round Q A)) (e : End) → EndsIn R p rounds e → EndsIn R (point_so n p) rounds (end_so n e)
  ends_so p [] e h = absurd h
  ends_so p (r ∷ rounds) e (inl h) = inl (h.0, one n p r (ends e) h.1)
  ends_so p (r ∷ rounds) e (inr h) = inr (point_so n h.0, one n p r (goes_on h.0) h.1, ends_so h.0 rounds e h.2)

  sync_so : (p : Point M) (rounds : List (Round Q A)) (e : End) → IsSync R p rounds e → IsSync R (point_so n p) rounds (end_so n e)
  sync_so p rounds e (inl h) = inl (h.0, ends_so p rounds e h.1)
  sync_so p rounds e (inr h) = inr (h.0, (point_so n h.1.0, go_so p rounds h.1.0 h.1.1, ap (end_so n) h.1.2))

-- ---- a pull

abbrev Names : Type 0
Names = List (List ℕ)

-- behind a round that was committed
behind_so : (n : ℕ) (p : Point Names) (t : Taken) (finish : Option PullFault) (next : Names) (last : Bool)
    → (if last then ends (ended (point_so n p) (taken_so n t) finish) else goes_on (behind (point_so n p) (taken_so n t) next)) ≡ then_so n (if last then ends (ended p t finish) else goes_on (behind p t next))
behind_so n p t finish next true = refl
behind_so n p t finish next false = refl

pull_then_so : (n : ℕ) (p : Point Names) (reply : List WireCard) (t : Taken) (wanted : Names) → pull_then (point_so n p) reply (taken_so n t) wanted ≡ then_so n (pull_then p reply t wanted)
pull_then_so n p reply t wanted =
    let next = next_names (now t.state) wanted (announced_in reply) in
    behind_so n p t (missing_fault (missing next (announced_in reply))) next (is_end p.memory t next)

pulled_so : (n : ℕ) (p : Point Names) (reply : List WireCard) (t : Taken) (o : Option PullFault) (step : Then Names) → MatchOption o ((wanted : Names) × AreWants t.state wanted × (step ≡ pull_then p reply t wanted)) (λ why. step ≡ ends (uncommitted p t why))
    → MatchOption o ((wanted : Names) × AreWants (counted n t.state) wanted × (then_so n step ≡ pull_then (point_so n p) reply (taken_so n t) wanted)) (λ why. then_so n step ≡ ends (uncommitted (point_so n p) (taken_so n t) why))
pulled_so n p reply t None step h = (h.0, h.1, ap (then_so n) h.2 ∙ sym (pull_then_so n p reply t h.0))
pulled_so n p reply t (Some why) step h = ap (then_so n) h

pull_read_so : (n : ℕ) (p : Point Names) (read : Result (List WireCard) PeerFault) (step : Then Names) → IsPullReply p read step → IsPullReply (point_so n p) read (then_so n step)
pull_read_so n p (Ok reply) step h = (taken_so n h.0, takes_so n p.state None reply h.0 h.1, pulled_so n p reply h.0 (h.0).fault step h.2)
pull_read_so n p (Err why) step h = ap (then_so n) h

pull_so : (login : Option Login) → IsUncounted (PullRound login)
pull_so login n p r step h = (h.0, (h.1.0, h.1.1, pull_read_so n p h.1.0 step h.1.2))

-- a repository that was just opened, whatever the count
pub pull_counted : (login : Option Login) (honest : Bool) (records : List Record) (m n : ℕ) (rounds : List (Round (List ℕ) Exchanged)) (e : End) → IsPull login (opened records m honest) rounds e → IsPull login (opened records n honest) rounds (end_so n e)
pull_counted login honest records m n rounds e h = (h.0, h.1, sync_so (PullRound login) (pull_so login) n (pull_start (opened records m honest) h.0) rounds e h.2)

-- ---- a push

again_so : (n : ℕ) (p : Point Sending) (reply : List WireCard) (t : Taken) (least : List ℕ) (sent : Bool)
    → (if sent then ends (push_ended (point_so n p) (taken_so n t) (Some (fault.Peer (peer.Again least)))) else goes_on (sent_on (point_so n p) reply (taken_so n t) []))
    ≡ then_so n (if sent then ends (push_ended p t (Some (fault.Peer (peer.Again least)))) else goes_on (sent_on p reply t []))
again_so n p reply t least true = refl
again_so n p reply t least false = refl

quiet_so : (n : ℕ) (p : Point Sending) (reply : List WireCard) (t : Taken) (asked : Names) → quiet_then (point_so n p) reply (taken_so n t) asked ≡ then_so n (quiet_then p reply t asked)
quiet_so n p reply t [] = refl
quiet_so n p reply t (least ∷ more) = again_so n p reply t least (list_all (has p.memory.sent) (least ∷ more))

push_then_so : (n : ℕ) (p : Point Sending) (reply : List WireCard) (t : Taken) (files : List (List ℕ × List ℕ)) → push_then (point_so n p) reply (taken_so n t) files ≡ then_so n (push_then p reply t files)
push_then_so n p reply t [] = quiet_so n p reply t (asked_here (now t.state) reply)
push_then_so n p reply t (file ∷ files) = refl

pushed_so : (n : ℕ) (p : Point Sending) (reply : List WireCard) (files : List (List ℕ × List ℕ)) (t : Taken) (o : Option PullFault) (step : Then Sending) → MatchOption o (step ≡ push_then p reply t files) (λ why. step ≡ ends (push_uncommitted p t why))
    → MatchOption o (then_so n step ≡ push_then (point_so n p) reply (taken_so n t) files) (λ why. then_so n step ≡ ends (push_uncommitted (point_so n p) (taken_so n t) why))
pushed_so n p reply files t None step h = ap (then_so n) h ∙ sym (push_then_so n p reply t files)
pushed_so n p reply files t (Some why) step h = ap (then_so n) h

push_read_so : (n : ℕ) (p : Point Sending) (files : List (List ℕ × List ℕ)) (read : Result (List WireCard) PeerFault) (step : Then Sending) → IsPushReply p files read step → IsPushReply (point_so n p) files read (then_so n step)
push_read_so n p files (Ok reply) step h = (taken_so n h.0, takes_so n p.state None reply h.0 h.1, pushed_so n p reply files h.0 (h.0).fault step h.2)
push_read_so n p files (Err why) step h = ap (then_so n) h

push_so : (login : Option Login) → IsUncounted (PushRound login)
push_so login n p r step h = (h.0, h.1, record { files = h.2.files; read = h.2.read; bytes = h.2.bytes }, (h.3.0, h.3.1, push_read_so n p (files_to_send (now p.state) p.memory) h.3.0 step h.3.2))

pub push_counted : (login : Option Login) (honest : Bool) (records : List Record) (m n : ℕ) (rounds : List (Round (List ℕ) Exchanged)) (e : End) → IsPush login (opened records m honest) rounds e → IsPush login (opened records n honest) rounds (end_so n e)
push_counted login honest records m n rounds e h = sync_so (PushRound login) (push_so login) n (push_start (opened records m honest)) rounds e h

-- ---- a pull from another repository

local_then_so : (n : ℕ) (p : Point Names) (reply : List WireCard) (t : Taken) (wanted : Names) → local_then (point_so n p) reply (taken_so n t) wanted ≡ then_so n (local_then p reply t wanted)
local_then_so n p reply t wanted =
    let next = next_names (now t.state) wanted (announced_in reply) in behind_so n p t None next (is_end p.memory t next)

given_so : (n : ℕ) (p : Point Names) (reply : List WireCard) (t : Taken) (o : Option PullFault) (step : Then Names) → MatchOption o ((wanted : Names) × AreWants t.state wanted × (step ≡ local_then p reply t wanted)) (λ why. step ≡ ends (uncommitted p t why))
    → MatchOption o ((wanted : Names) × AreWants (counted n t.state) wanted × (then_so n step ≡ local_then (point_so n p) reply (taken_so n t) wanted)) (λ why. then_so n step ≡ ends (uncommitted (point_so n p) (taken_so n t) why))
given_so n p reply t None step h = (h.0, h.1, ap (then_so n) h.2 ∙ sym (local_then_so n p reply t h.0))
given_so n p reply t (Some why) step h = ap (then_so n) h

local_so : (peer : State) (unclustered : Names) → IsUncounted (LocalRound peer unclustered)
local_so peer unclustered n p r step h = (h.0, h.1, (taken_so n h.2.0, takes_so n p.state None r.reply h.2.0 h.2.1, given_so n p r.reply h.2.0 (h.2.0).fault step h.2.2))

abbrev Given : Type 0
Given = List (Round Names (List WireCard))

local_by : (honest kind : Bool) (records there : List Record) (m n k l : ℕ) (rounds : Given) (e : End) (b : Bool)
    → MatchBool b (AreLocalRounds (opened records m honest) (opened there k kind) rounds e) ((rounds ≡ []) × (e ≡ other_project_end (opened records m honest) (project_code (now (opened there k kind)))))
    → MatchBool b (AreLocalRounds (opened records n honest) (opened there l kind) rounds (end_so n e)) ((rounds ≡ []) × (end_so n e ≡ other_project_end (opened records n honest) (project_code (now (opened there l kind)))))
local_by honest kind records there m n k l rounds e true h = (h.0, h.1, (h.2.0, h.2.1, ends_so (LocalRound (opened there k kind) h.0) (local_so (opened there k kind) h.0) n (pull_start (opened records m honest) h.2.0) rounds e h.2.2))
local_by honest kind records there m n k l rounds e false h = (h.0, ap (end_so n) h.1)

pub local_counted : (honest kind : Bool) (records there : List Record) (m n k l : ℕ) (rounds : Given) (e : End) → IsLocalPull (opened records m honest) (opened there k kind) rounds e → IsLocalPull (opened records n honest) (opened there l kind) rounds (end_so n e)
local_counted honest kind records there m n k l rounds e h =
    local_by honest kind records there m n k l rounds e (bytes_eq (project_code (now (opened records m honest))) (project_code (now (opened there k kind)))) h
