-- What a pull that misses a name leaves.
use Rattle.std.specs.Prelude.{◌≡◌, ⊤, ℕ, Bool, true, false, not, List, [], ◌∷◌, cond, Option, Some, None, IfSome, Result, Ok, Err, MatchBool, MatchOption}
use Rattle.std.proofs.Common.{refl, sym, ap, subst, ◌∙◌, inl, inr}
use Rattle.std.proofs.lemmas.Bool.{and_parts, false_from_ne_true}
use Rattle.fsl_order.specs.Names.{has}
use Rattle.fsl_wire.specs.declared.WireCard.{WireCard}
use Rattle.fsl_wire.specs.declared.WireCard.TheVariants as cards
use Rattle.fsl_blobs.specs.Fold.{is_new}
use Rattle.fsl_repo.specs.declared.Arrival.{Arrival}
use Rattle.fsl_repo.specs.declared.ArriveFault.{ArriveFault}
use Rattle.fsl_repo.specs.declared.ArriveFault.TheVariants as arrive_fault
use Rattle.fsl_repo.specs.Machine.{State, now, arrived}
use Rattle.fsl_http.specs.Responses.{Exchanged}
use Rattle.fsl_pull.specs.declared.Login.{Login}
use Rattle.fsl_pull.specs.declared.PeerFault.{PeerFault}
use Rattle.fsl_pull.specs.declared.PeerFault.TheVariants as peer
use Rattle.fsl_pull.specs.declared.PullFault.{PullFault}
use Rattle.fsl_pull.specs.declared.PullFault.TheVariants as fault
use Rattle.fsl_pull.specs.Rounds.{Round, Point, End, goes_on, ends, IsSync, given_up}
use Rattle.fsl_pull.specs.Replies.{IsReplyRead, announced_in, files_in}
use Rattle.fsl_pull.specs.Arrivals.{Taken, Takes, AreWants, any_moved, arrival_fault, stopped_by, is_onward}
use Rattle.fsl_pull.specs.Pulls.{next_names, is_end, missing, missing_fault, pull_then, behind, ended, uncommitted, unread, IsPullReply, PullRound, pull_start, stopped_end}
use Rattle.fsl_pull.specs.Laws.{Misses, PullsMissWhatIsKept}
use Rattle.fsl_pull.proofs.TakesLemmas.{FileTaken, files_settle}
use Rattle.fsl_pull.proofs.NextLemmas.{found_passes, found_is_in, each_passes, next_is_new}
use Rattle.fsl_pull.proofs.EndsWell.{LastRound, last_round, end_of, end_is, no_end, clash}

abbrev Names : Type 0
Names = List (List ℕ)

-- ---- a card that is wrong misses no name

abbrev MissesNone : PullFault → Type 0
MissesNone (fault.Missing name) = ⊥
MissesNone why = ⊤

arrival_misses : (name : List ℕ) (why : ArriveFault) → MissesNone (arrival_fault name why)
arrival_misses name (arrive_fault.Stopped faults) = tt
arrival_misses name (arrive_fault.TooLarge size) = tt
arrival_misses name (arrive_fault.NameWrong found) = tt
arrival_misses name (arrive_fault.Full bytes count missed) = tt
arrival_misses name arrive_fault.Memory = tt

abbrev EndsSo : Taken → Type 0
EndsSo t = IfSome t.fault MissesNone

by_answer : (s : State) (name bytes : List ℕ) (due : Option ℕ) (rest : List WireCard) (t : Taken) (answer : Result Arrival ArriveFault) → ((s2 : State) (more : Taken) → Takes s2 due rest more → EndsSo more) → FileTaken s name bytes due rest t answer → EndsSo t
by_answer s name bytes due rest t (Ok a) others h = subst EndsSo (sym h.2) (others (arrived s name None bytes false (Ok a)) h.0 h.1)
by_answer s name bytes due rest t (Err why) others h = subst EndsSo (sym h) (arrival_misses name why)

by_sequel : (b : Bool) (s : State) (rest : List WireCard) (t : Taken) (next : ℕ) → ((s2 : State) (more : Taken) → Takes s2 None rest more → EndsSo more) → MatchBool b (Takes s None rest t) (t ≡ stopped_by s (fault.Peer (peer.Sequence next))) → EndsSo t
by_sequel true s rest t next others h = others s t h
by_sequel false s rest t next others h = subst EndsSo (sym h) tt

takes_miss : (s : State) (due : Option ℕ) (reply : List WireCard) (t : Taken) → Takes s due reply t → EndsSo t
takes_miss s due [] t h = subst EndsSo (sym h) tt
takes_miss s due (cards.File name bytes ∷ rest) t h = by_answer s name bytes due rest t h.0 (λ s2 more. takes_miss s2 due rest more) h.2
takes_miss s (Some from) (cards.CloneSeqno next ∷ rest) t h = by_sequel (is_onward from next) s rest t next (λ s2 more. takes_miss s2 None rest more) h
takes_miss s None (cards.CloneSeqno next ∷ rest) t h = takes_miss s None rest t h
takes_miss s due (cards.Login user nonce signature tail line ∷ rest) t h = takes_miss s due rest t h
takes_miss s due (cards.Push server project ∷ rest) t h = takes_miss s due rest t h
takes_miss s due (cards.Pull server project ∷ rest) t h = takes_miss s due rest t h
takes_miss s due (cards.Clone from ∷ rest) t h = takes_miss s due rest t h
takes_miss s due (cards.Private ∷ rest) t h = takes_miss s due rest t h
takes_miss s due (cards.Igot name private ∷ rest) t h = takes_miss s due rest t h
takes_miss s due (cards.Gimme name ∷ rest) t h = takes_miss s due rest t h
takes_miss s due (cards.Error text ∷ rest) t h = takes_miss s due rest t h
takes_miss s due (cards.Message text ∷ rest) t h = takes_miss s due rest t h
takes_miss s due (cards.SendPrivate ∷ rest) t h = takes_miss s due rest t h

-- ---- the last round

abbrev some_fault : PullFault → Option PullFault
some_fault w = Some w

fault_is : (v w : PullFault) → some_fault v ≡ some_fault w → v ≡ w
fault_is v w e = cc

none_is_some : (w : PullFault) → None ≡ some_fault w → ⊥
none_is_some w e = cc

missing_name : (a b : List ℕ) → fault.Missing a ≡ fault.Missing b → a ≡ b
missing_name a b e = cc

-- an end by another fault isn't this one
not_so : (w : PullFault) (name : List ℕ) → MissesNone w → some_fault w ≡ Some (fault.Missing name) → ⊥
not_so w name h e = subst MissesNone (fault_is w (fault.Missing name) e) h

not_by : (e f : End) (w : PullFault) (name : List ℕ) → e ≡ f → f.fault ≡ Some w → MissesNone w → e.fault ≡ Some (fault.Missing name) → ⊥
not_by e f w name same is h missed = not_so w name h (sym is ∙ sym (ap (λ (x : End). x.fault) same) ∙ missed)

-- what holds behind the last reply
record Missed (asked : Names) (reply : List WireCard) (e : End) (name : List ℕ) : Type 0 where
  is_asked : has asked name ≡ true
  is_announced : has (announced_in reply) name ≡ true
  is_unsent : has (files_in reply) name ≡ false
  is_absent : is_new (now e.state) name ≡ true

at_end : (p : Point Names) (reply : List WireCard) (t : Taken) (wanted : Names) (name : List ℕ) (why : Option PullFault) → Takes p.state None reply t → t.fault ≡ None
    → is_end p.memory t (next_names (now t.state) wanted (announced_in reply)) ≡ true
    → missing (next_names (now t.state) wanted (announced_in reply)) (announced_in reply) ≡ Some name → Missed p.memory reply (ended p t why) name
at_end p reply t wanted name why takes none is_last found =
    let next : Names = next_names (now t.state) wanted (announced_in reply) in
    let among : has next name ≡ true = found_is_in (has (announced_in reply)) next name found in
    let new : is_new (now t.state) name ≡ true = next_is_new (now t.state) wanted (announced_in reply) name among in
    record {
      is_asked = each_passes (has p.memory) next name (and_parts (not (any_moved t.arrivals)) _ is_last).1 among;
      is_announced = found_passes (has (announced_in reply)) next name found;
      is_unsent = false_from_ne_true (has (files_in reply) name) (λ sent. clash (is_new (now t.state) name) new (files_settle p.state None reply t name takes none sent));
      is_absent = new;
    }

by_then : (p : Point Names) (reply : List WireCard) (t : Taken) (wanted : Names) (e : End) (name : List ℕ) → Takes p.state None reply t → t.fault ≡ None → end_of Names e ≡ pull_then p reply t wanted → e.fault ≡ Some (fault.Missing name) → Missed p.memory reply e name
by_then p reply t wanted e name takes none same missed = by_test (is_end p.memory t next) refl same
  where
    next : Names
    next = next_names (now t.state) wanted (announced_in reply)

    at_last : is_end p.memory t next ≡ true → (o : Option (List ℕ)) → missing next (announced_in reply) ≡ o → e ≡ ended p t (missing_fault o) → Missed p.memory reply e name
    at_last is_last None found is = absurd (none_is_some (fault.Missing name) (sym (ap (λ (x : End). x.fault) is) ∙ missed))
    at_last is_last (Some other) found is =
        let one : other ≡ name = missing_name other name (fault_is (fault.Missing other) (fault.Missing name) (sym (ap (λ (x : End). x.fault) is) ∙ missed)) in
        subst (λ (x : End). Missed p.memory reply x name) (sym is) (at_end p reply t wanted name (Some (fault.Missing other)) takes none is_last (found ∙ ap (λ (n : List ℕ). Some n) one))

    by_test : (b : Bool) → is_end p.memory t next ≡ b
        → end_of Names e ≡ cond b (ends (ended p t (missing_fault (missing next (announced_in reply))))) (goes_on (behind p t next)) → Missed p.memory reply e name
    by_test true is_last h = at_last is_last (missing next (announced_in reply)) refl (end_is Names e _ h)
    by_test false is_last h = absurd (no_end Names e _ h)

by_fault : (p : Point Names) (reply : List WireCard) (t : Taken) (e : End) (o : Option PullFault) (name : List ℕ) → Takes p.state None reply t → t.fault ≡ o
    → MatchOption o ((wanted : Names) × AreWants t.state wanted × (end_of Names e ≡ pull_then p reply t wanted)) (λ why. end_of Names e ≡ ends (uncommitted p t why)) → e.fault ≡ Some (fault.Missing name) → Missed p.memory reply e name
by_fault p reply t e None name takes is h missed = by_then p reply t h.0 e name takes is h.2 missed
by_fault p reply t e (Some why) name takes is h missed =
    let other : MissesNone why = subst (λ (o : Option PullFault). IfSome o MissesNone) is (takes_miss p.state None reply t takes) in
    absurd (not_by e (uncommitted p t why) why name (end_is Names e _ h) refl other missed)

record MissedRound (login : Option Login) (p : Point Names) (r : Round (List ℕ) Exchanged) (e : End) (name : List ℕ) : Type 0 where
  reply : List WireCard
  read : IsReplyRead r.reply (Ok reply)
  missed : Missed p.memory reply e name

by_read : (login : Option Login) (p : Point Names) (r : Round (List ℕ) Exchanged) (e : End) (name : List ℕ) (read : Result (List WireCard) PeerFault) → IsReplyRead r.reply read → IsPullReply p read (ends e) → e.fault ≡ Some (fault.Missing name) → MissedRound login p r e name
by_read login p r e name (Ok reply) is h missed = record { reply = reply; read = is; missed = by_fault p reply h.0 e (h.0).fault name h.1 refl h.2 missed }
by_read login p r e name (Err why) is h missed = absurd (not_by e (unread p why) (fault.Peer why) name (end_is Names e _ h) refl tt missed)

from_last : (login : Option Login) (rounds : List (Round (List ℕ) Exchanged)) (e : End) (name : List ℕ) → LastRound (PullRound login) rounds e → e.fault ≡ Some (fault.Missing name) → Misses login rounds e name
from_last login rounds e name l missed =
    let round = by_read login l.point l.last e name (l.is_last).1.0 (l.is_last).1.1 (l.is_last).1.2 missed in
    record {
      front = l.front;
      last = l.last;
      whole = l.whole;
      state = (l.point).state;
      asked = (l.point).memory;
      request = (l.is_last).0;
      reply = round.reply;
      read = round.read;
      is_asked = round.missed.is_asked;
      is_announced = round.missed.is_announced;
      is_unsent = round.missed.is_unsent;
      is_absent = round.missed.is_absent;
    }

by_sync : (login : Option Login) (p : Point Names) (rounds : List (Round (List ℕ) Exchanged)) (e : End) (name : List ℕ) → IsSync (PullRound login) p rounds e → e.fault ≡ Some (fault.Missing name) → Misses login rounds e name
by_sync login p rounds e name (inl h) missed = from_last login rounds e name (last_round (PullRound login) p rounds e h.1) missed
by_sync login p rounds e name (inr h) missed = absurd (not_by e (given_up fault.Rounds h.1.0) fault.Rounds name h.1.2 refl tt missed)

by_stopped : (login : Option Login) (s : State) (rounds : List (Round (List ℕ) Exchanged)) (e : End) (name : List ℕ) (o : Option ℕ)
    → MatchOption o ((wanted : Names) × AreWants s wanted × IsSync (PullRound login) (pull_start s wanted) rounds e) (λ faults. (rounds ≡ []) × (e ≡ stopped_end s faults)) → e.fault ≡ Some (fault.Missing name) → Misses login rounds e name
by_stopped login s rounds e name None h missed = by_sync login (pull_start s h.0) rounds e name h.2 missed
by_stopped login s rounds e name (Some faults) h missed = absurd (not_by e (stopped_end s faults) (fault.Stopped faults) name h.1 refl tt missed)

pub pulls_miss_what_is_kept : PullsMissWhatIsKept
pulls_miss_what_is_kept login s rounds e name h missed = by_stopped login s rounds e name s.stopped h missed
