-- Syncs commit what arrived: behind each round the committed records are those before the sync, followed by its commits.
use Rattle.std.specs.Prelude.{◌≡◌, ℕ, ◌≤◌, ◌==◌, Bool, true, false, List, [], ◌∷◌, ◌++◌, length, take, drop, Option, Some, None, Result, Ok, Err, if◌then◌else◌, MatchBool, MatchOption, MatchResult}
use Rattle.std.specs.List.{list_all}
use Rattle.std.specs.Str.{bytes_eq}
use Rattle.std.proofs.Common.{refl, sym, ap, subst, ◌∙◌, inl, inr, arith, append_assoc}
use Rattle.std.proofs.lemmas.List.{append-nil, take-append-le, take-append-drop, take_all, length-append}
use Rattle.fsl_order.specs.Names.{has}
use Rattle.fsl_record.specs.declared.Record.{Record}
use Rattle.fsl_record.specs.declared.Record.TheVariants as record_of
use Rattle.fsl_wire.specs.declared.WireCard.{WireCard}
use Rattle.fsl_wire.specs.declared.WireCard.TheVariants as cards
use Rattle.fsl_repo.specs.declared.Arrival.{Arrival}
use Rattle.fsl_repo.specs.declared.Arrival.TheVariants as arrival
use Rattle.fsl_repo.specs.declared.ArriveFault.{ArriveFault}
use Rattle.fsl_repo.specs.Machine.{State, now, arrived}
use Rattle.fsl_repo.specs.Whole.{front}
use Rattle.fsl_http.specs.Responses.{Exchanged}
use Rattle.fsl_pull.specs.declared.Login.{Login}
use Rattle.fsl_pull.specs.declared.PeerFault.{PeerFault}
use Rattle.fsl_pull.specs.declared.PeerFault.TheVariants as peer
use Rattle.fsl_pull.specs.declared.PullFault.{PullFault}
use Rattle.fsl_pull.specs.declared.PullFault.TheVariants as fault
use Rattle.fsl_pull.specs.Rounds.{Round, Point, End, Then, goes_on, ends, Course, GoOn, EndsIn, IsSync, state_of}
use Rattle.fsl_pull.specs.Replies.{sequel_in}
use Rattle.fsl_pull.specs.Arrivals.{Taken, Takes, AreWants, arrival_fault, stopped_by, is_onward, committed, commits_with}
use Rattle.fsl_pull.specs.Pulls.{IsPull, PullRound, IsPullReply, pull_then, behind, ended, uncommitted, unread, stopped_end, pull_start}
use Rattle.fsl_pull.specs.Pushes.{Sending, IsPush, PushRound, IsPushReply, files_to_send, push_then, quiet_then, sent_on, push_ended, push_uncommitted, push_start, asked_here}
use Rattle.fsl_pull.specs.Clones.{Cloning, IsClone, CloneRound, IsCloneReply, IsCloned, IsBegun, clone_then, clone_start, begun_with, first_record, project_in, not_empty_end}
use Rattle.fsl_pull.specs.Locals.{IsLocalPull, LocalRound, local_then, other_project_end, project_code, AreLocalRounds}
use Rattle.fsl_pull.specs.Kept.{all_of_them}
use Rattle.fsl_pull.specs.Turns.{commits_of, AreCommitted}
use Rattle.fsl_pull.specs.Laws.{Commits, SyncsCommit}
use Rattle.fsl_pull.proofs.CommitLemmas.{with_records}

-- ---- arrivals append

record Longer (s t : State) : Type 0 where
  more : List Record
  records : t.records ≡ s.records ++ more
  committed : t.committed ≡ s.committed

same_long : (s : State) → Longer s s
same_long s = record { more = []; records = sym (append-nil s.records); committed = refl }

arrived_long : (s : State) (name bytes : List ℕ) (answer : Result Arrival ArriveFault) → Longer s (arrived s name None bytes false answer)
arrived_long s name bytes (Ok arrival.Published) = record { more = record_of.Publish name ∷ []; records = refl; committed = refl }
arrived_long s name bytes (Ok arrival.Stored) = record { more = record_of.Blob false name None bytes ∷ []; records = refl; committed = refl }
arrived_long s name bytes (Ok arrival.Shunned) = same_long s
arrived_long s name bytes (Ok arrival.Present) = same_long s
arrived_long s name bytes (Err e) = same_long s

long_on : (a b c : State) → Longer a b → Longer b c → Longer a c
long_on a b c h k =
    record {
      more = h.more ++ k.more;
      records = k.records ∙ ap (λ (r : List Record). r ++ k.more) h.records ∙ append_assoc a.records h.more k.more;
      committed = k.committed ∙ h.committed;
    }

-- what the rest of the cards says of the file before it
abbrev FileTaken : State → List ℕ → List ℕ → Option ℕ → List WireCard → Taken → Result Arrival ArriveFault → Type 0
FileTaken s name bytes due rest t answer =
    MatchResult answer (λ a. (more : Taken) × Takes (arrived s name None bytes false answer) due rest more × (t ≡ record more { arrivals = a ∷ more.arrivals }))
    (λ why. t ≡ stopped_by s (arrival_fault name why))

by_answer : (s : State) (name bytes : List ℕ) (due : Option ℕ) (rest : List WireCard) (t : Taken) (answer : Result Arrival ArriveFault) → ((s2 : State) (more : Taken) → Takes s2 due rest more → Longer s2 more.state) → FileTaken s name bytes due rest t answer → Longer s t.state
by_answer s name bytes due rest t (Ok a) others h =
    let after = arrived s name None bytes false (Ok a) in
    subst (λ (x : Taken). Longer s x.state) (sym h.2) (long_on s after (h.0).state (arrived_long s name bytes (Ok a)) (others after h.0 h.1))
by_answer s name bytes due rest t (Err why) others h = subst (λ (x : Taken). Longer s x.state) (sym h) (same_long s)

by_sequel : (b : Bool) (s : State) (rest : List WireCard) (t : Taken) (why : PullFault) → ((s2 : State) (more : Taken) → Takes s2 None rest more → Longer s2 more.state) → MatchBool b (Takes s None rest t) (t ≡ stopped_by s why) → Longer s t.state
by_sequel true s rest t why others h = others s t h
by_sequel false s rest t why others h = subst (λ (x : Taken). Longer s x.state) (sym h) (same_long s)

longer : (s : State) (due : Option ℕ) (reply : List WireCard) (t : Taken) → Takes s due reply t → Longer s t.state
longer s due [] t h = subst (λ (x : Taken). Longer s x.state) (sym h) (same_long s)
longer s due (cards.File name bytes ∷ rest) t h = by_answer s name bytes due rest t h.0 (λ s2 more. longer s2 due rest more) h.2
longer s (Some from) (cards.CloneSeqno next ∷ rest) t h = by_sequel (is_onward from next) s rest t (fault.Peer (peer.Sequence next)) (λ s2 more. longer s2 None rest more) h
longer s None (cards.CloneSeqno next ∷ rest) t h = longer s None rest t h
longer s due (cards.Login user nonce signature tail line ∷ rest) t h = longer s due rest t h
longer s due (cards.Push server project ∷ rest) t h = longer s due rest t h
longer s due (cards.Pull server project ∷ rest) t h = longer s due rest t h
longer s due (cards.Clone from ∷ rest) t h = longer s due rest t h
longer s due (cards.Private ∷ rest) t h = longer s due rest t h
longer s due (cards.Igot name private ∷ rest) t h = longer s due rest t h
longer s due (cards.Gimme name ∷ rest) t h = longer s due rest t h
longer s due (cards.Error text ∷ rest) t h = longer s due rest t h
longer s due (cards.Message text ∷ rest) t h = longer s due rest t h
longer s due (cards.SendPrivate ∷ rest) t h = longer s due rest t h

-- ---- one round

-- the committed records are a base and those of commits, and no more than there are
record Stands (base : List Record) (s : State) (commits : List (List Record)) : Type 0 where
  are : AreCommitted base s commits
  within : s.committed ≤ length s.records

-- what was committed before stays committed while more arrives
still : (base : List Record) (s t : State) (commits : List (List Record)) → Longer s t → Stands base s commits → Stands base t commits
still base s t commits long h =
    let at : t.committed ≤ length s.records = subst (λ (n : ℕ). n ≤ length s.records) (sym long.committed) h.within in
    let grown = ap (λ (r : List Record). length r) long.records ∙ length-append s.records long.more in
    record {
      are = (λ i. take (long.committed i) (long.records i)) ∙ take-append-le s.committed s.records long.more h.within ∙ h.are;
      within = omega (arith, at, grown);
    }

-- and with the commit of what arrived the records are all committed
commits : (base : List Record) (t : State) (before : List (List Record)) → Stands base t before → Stands base (committed t) (commits_with before t)
commits base t before h =
    let more = drop t.committed t.records in
    record {
      are =
          take_all (length t.records) t.records (omega arith) ∙ sym (take-append-drop t.committed t.records)
          ∙ ap (λ (x : List Record). x ++ more) h.are ∙ append_assoc base (all_of_them before) more
          ∙ ap (λ (x : List Record). base ++ x) (sym (with_records before more));
      within = omega arith;
    }

abbrev StandsBehind : {M : Type 0} → List Record → Then M → Type 0
StandsBehind base step = Stands base (state_of step) (commits_of step)

-- ---- all rounds

module _ {M Q A : Type 0} (R : Course M Q A) (base : List Record) (one : (p : Point M) (r : Round Q A) (step : Then M) → R p r step → Stands base p.state p.commits → StandsBehind base step) where
  go : (p : Point M) (rounds : List (Round Q A)) (q : Point M) → GoOn R p rounds q → Stands base p.state p.commits → Stands base q.state q.commits
  go p [] q h k = subst (λ (x : Point M). Stands base x.state x.commits) (sym h) k
  go p (r ∷ rounds) q h k = go h.0 rounds q h.2 (one p r (goes_on h.0) h.1 k)

  end : (p : Point M) (rounds : List (Round Q A)) (e : End) → EndsIn R p rounds e → Stands base p.state p.commits → Stands base e.state e.commits
  end p [] e h k = absurd h
  end p (r ∷ rounds) e (inl h) k = one p r (ends e) h.1 k
  end p (r ∷ rounds) e (inr h) k = end h.0 rounds e h.2 (one p r (goes_on h.0) h.1 k)

  whole : (p : Point M) (rounds : List (Round Q A)) (e : End) → IsSync R p rounds e → Stands base p.state p.commits → Stands base e.state e.commits
  whole p rounds e (inl h) k = end p rounds e h.1 k
  whole p rounds e (inr h) k = subst (λ (x : End). Stands base x.state x.commits) (sym h.1.2) (go p rounds h.1.0 h.1.1 k)

-- before a sync there is no commit
begins : (s : State) → s.committed ≤ length s.records → Stands (front s) s []
begins s within = record { are = sym (append-nil (front s)); within = within }

-- a sync without a round leaves what there was
none : (s : State) → Commits s (record { fault = None; count = 0; state = s; commits = [] })
none s = sym (append-nil (front s))

-- ---- a pull

pull_step : (base : List Record) (p : Point (List (List ℕ))) (reply : List WireCard) (t : Taken) (more : Bool) (a : Point (List (List ℕ))) (e : End)
    → Stands base a.state a.commits → Stands base e.state e.commits → StandsBehind base (if more then ends e else goes_on a)
pull_step base p reply t true a e h k = k
pull_step base p reply t false a e h k = h

pull_one : (login : Option Login) (base : List Record) (p : Point (List (List ℕ))) (r : Round (List ℕ) Exchanged) (step : Then (List (List ℕ))) → PullRound login p r step → Stands base p.state p.commits → StandsBehind base step
pull_one login base p r step (asks, told) k = by_read told.0 told.2
  where
    by_fault : (reply : List WireCard) (t : Taken) (o : Option PullFault) → Longer p.state t.state → MatchOption o ((wanted : List (List ℕ)) × AreWants t.state wanted × (step ≡ pull_then p reply t wanted)) (λ why. step ≡ ends (uncommitted p t why)) → StandsBehind base step
    by_fault reply t None long h =
        subst (λ (s : Then (List (List ℕ))). StandsBehind base s) (sym h.2)
        (let done = commits base t.state p.commits (still base p.state t.state p.commits long k) in pull_step base p reply t _ _ _ done done)
    by_fault reply t (Some why) long h = subst (λ (s : Then (List (List ℕ))). StandsBehind base s) (sym h) (still base p.state t.state p.commits long k)

    by_read : (read : Result (List WireCard) PeerFault) → IsPullReply p read step → StandsBehind base step
    by_read (Ok reply) h = by_fault reply h.0 (h.0).fault (longer p.state None reply h.0 h.1) h.2
    by_read (Err why) h = subst (λ (s : Then (List (List ℕ))). StandsBehind base s) (sym h) k

pulls : (login : Option Login) (s : State) (rounds : List (Round (List ℕ) Exchanged)) (e : End) → s.committed ≤ length s.records → IsPull login s rounds e → Commits s e
pulls login s rounds e within h = by_stop s.stopped h
  where
    by_stop : (o : Option ℕ) → MatchOption o ((wanted : List (List ℕ)) × AreWants s wanted × IsSync (PullRound login) (pull_start s wanted) rounds e) (λ faults. (rounds ≡ []) × (e ≡ stopped_end s faults)) → Commits s e
    by_stop None k = (whole (PullRound login) (front s) (pull_one login (front s)) (pull_start s k.0) rounds e k.2 (begins s within)).are
    by_stop (Some faults) k = subst (λ (x : End). Commits s x) (sym k.1) (none s)

-- ---- a push

push_step : (base : List Record) (p : Point Sending) (reply : List WireCard) (t : Taken) (files : List (List ℕ × List ℕ)) → Stands base (committed t.state) (commits_with p.commits t.state) → StandsBehind base (push_then p reply t files)
push_step base p reply t [] h = quiet (asked_here (now t.state) reply)
  where
    again : (b : Bool) (least : List ℕ) → StandsBehind base (if b then ends (push_ended p t (Some (fault.Peer (peer.Again least)))) else goes_on (sent_on p reply t []))
    again true least = h
    again false least = h

    quiet : (here : List (List ℕ)) → StandsBehind base (quiet_then p reply t here)
    quiet [] = h
    quiet (least ∷ more) = again (list_all (has p.memory.sent) (least ∷ more)) least
push_step base p reply t (file ∷ files) h = h

push_one : (login : Option Login) (base : List Record) (p : Point Sending) (r : Round (List ℕ) Exchanged) (step : Then Sending) → PushRound login p r step → Stands base p.state p.commits → StandsBehind base step
push_one login base p r step (names, are, request, told) k = by_read (files_to_send (now p.state) p.memory) told.0 told.2
  where
    by_fault : (reply : List WireCard) (files : List (List ℕ × List ℕ)) (t : Taken) (o : Option PullFault) → Longer p.state t.state → MatchOption o (step ≡ push_then p reply t files) (λ why. step ≡ ends (push_uncommitted p t why)) → StandsBehind base step
    by_fault reply files t None long h =
        subst (λ (s : Then Sending). StandsBehind base s) (sym h) (push_step base p reply t files (commits base t.state p.commits (still base p.state t.state p.commits long k)))
    by_fault reply files t (Some why) long h = subst (λ (s : Then Sending). StandsBehind base s) (sym h) (still base p.state t.state p.commits long k)

    by_read : (files : List (List ℕ × List ℕ)) (read : Result (List WireCard) PeerFault) → IsPushReply p files read step → StandsBehind base step
    by_read files (Ok reply) h = by_fault reply files h.0 (h.0).fault (longer p.state None reply h.0 h.1) h.2
    by_read files (Err why) h = subst (λ (s : Then Sending). StandsBehind base s) (sym h) k

pushes : (login : Option Login) (s : State) (rounds : List (Round (List ℕ) Exchanged)) (e : End) → s.committed ≤ length s.records → IsPush login s rounds e → Commits s e
pushes login s rounds e within h = by_stop s.stopped h
  where
    by_stop : (o : Option ℕ) → MatchOption o (IsSync (PushRound login) (push_start s) rounds e) (λ faults. (rounds ≡ []) × (e ≡ stopped_end s faults)) → Commits s e
    by_stop None k = (whole (PushRound login) (front s) (push_one login (front s)) (push_start s) rounds e k (begins s within)).are
    by_stop (Some faults) k = subst (λ (x : End). Commits s x) (sym k.1) (none s)

-- ---- a pull from another repository

local_one : (peer : State) (unclustered : List (List ℕ)) (base : List Record) (p : Point (List (List ℕ))) (r : Round (List (List ℕ)) (List WireCard)) (step : Then (List (List ℕ))) → LocalRound peer unclustered p r step → Stands base p.state p.commits → StandsBehind base step
local_one peer unclustered base p r step (request, gives, told) k = by_fault (told.0).fault told.2
  where
    long : Longer p.state (told.0).state
    long = longer p.state None r.reply told.0 told.1

    by_fault : (o : Option PullFault) → MatchOption o ((wanted : List (List ℕ)) × AreWants (told.0).state wanted × (step ≡ local_then p r.reply told.0 wanted)) (λ why. step ≡ ends (uncommitted p told.0 why)) → StandsBehind base step
    by_fault None h =
        subst (λ (s : Then (List (List ℕ))). StandsBehind base s) (sym h.2)
        (let done = commits base (told.0).state p.commits (still base p.state (told.0).state p.commits long k) in pull_step base p r.reply told.0 _ _ _ done done)
    by_fault (Some why) h = subst (λ (s : Then (List (List ℕ))). StandsBehind base s) (sym h) (still base p.state (told.0).state p.commits long k)

locals : (s peer : State) (rounds : List (Round (List (List ℕ)) (List WireCard))) (e : End) → s.committed ≤ length s.records → IsLocalPull s peer rounds e → Commits s e
locals s peer rounds e within h = by_project (bytes_eq (project_code (now s)) (project_code (now peer))) h
  where
    by_stop : (o : Option ℕ) → MatchOption o (AreLocalRounds s peer rounds e) (λ faults. (rounds ≡ []) × (e ≡ stopped_end s faults)) → Commits s e
    by_stop None k = (end (LocalRound peer k.0) (front s) (local_one peer k.0 (front s)) (pull_start s k.2.0) rounds e k.2.2 (begins s within)).are
    by_stop (Some faults) k = subst (λ (x : End). Commits s x) (sym k.1) (none s)

    by_project : (b : Bool) → MatchBool b (MatchOption s.stopped (AreLocalRounds s peer rounds e) (λ faults. (rounds ≡ []) × (e ≡ stopped_end s faults))) ((rounds ≡ []) × (e ≡ other_project_end s (project_code (now peer)))) → Commits s e
    by_project true k = by_stop s.stopped k
    by_project false k = subst (λ (x : End). Commits s x) (sym k.1) (none s)

-- ---- a clone

clone_step : (base : List Record) (p : Point Cloning) (t : Taken) (o : Option ℕ) → Stands base t.state p.commits → StandsBehind base (clone_then p t o)
clone_step base p t None h = h
clone_step base p t (Some next) h = by_end (next == 0)
  where
    by_end : (b : Bool) → StandsBehind base (if b then ends (ended p t None) else goes_on (behind p t (record { begun = true; from = next })))
    by_end true = commits base t.state p.commits h
    by_end false = commits base t.state p.commits h

cloned : (base : List Record) (p : Point Cloning) (reply : List WireCard) (step : Then Cloning) → IsCloned p reply step → Stands base p.state p.commits → StandsBehind base step
cloned base p reply step (t, takes, told) k = by_fault t.fault told
  where
    now_stands : Stands base t.state p.commits
    now_stands = still base p.state t.state p.commits (longer p.state (Some p.memory.from) reply t takes) k

    by_fault : (o : Option PullFault) → MatchOption o (step ≡ clone_then p t (sequel_in reply)) (λ why. step ≡ ends (uncommitted p t why)) → StandsBehind base step
    by_fault None h = subst (λ (s : Then Cloning). StandsBehind base s) (sym h) (clone_step base p t (sequel_in reply) now_stands)
    by_fault (Some why) h = subst (λ (s : Then Cloning). StandsBehind base s) (sym h) now_stands

-- the repository that the first reply begins has its Config committed
begun_stands : (p : Point Cloning) (config : Record) → Stands [] (begun_with p config).state (begun_with p config).commits
begun_stands p config = record { are = refl; within = omega arith }

clone_one : (server : List ℕ) (fields : List (List ℕ)) (login : Option Login) (p : Point Cloning) (r : Round (List ℕ) Exchanged) (step : Then Cloning) → CloneRound server fields login p r step → Stands [] p.state p.commits → StandsBehind [] step
clone_one server fields login p r step (asks, told) k = by_read told.0 told.2
  where
    by_project : (reply : List WireCard) (o : Option (List ℕ)) → MatchOption o (step ≡ ends (unread p peer.NoPush)) (λ project. IsCloned (begun_with p (first_record project server fields)) reply step) → StandsBehind [] step
    by_project reply None h = subst (λ (s : Then Cloning). StandsBehind [] s) (sym h) k
    by_project reply (Some project) h = let config = first_record project server fields in cloned [] (begun_with p config) reply step h (begun_stands p config)

    by_begun : (reply : List WireCard) (b : Bool) → MatchBool b (IsCloned p reply step) (IsBegun server fields p reply step) → StandsBehind [] step
    by_begun reply true h = cloned [] p reply step h k
    by_begun reply false h = by_project reply (project_in reply) h

    by_read : (read : Result (List WireCard) PeerFault) → IsCloneReply server fields p read step → StandsBehind [] step
    by_read (Ok reply) h = by_begun reply p.memory.begun h
    by_read (Err why) h = subst (λ (s : Then Cloning). StandsBehind [] s) (sym h) k

clones : (server : List ℕ) (fields : List (List ℕ)) (login : Option Login) (len faults : ℕ) (honest : Bool) (rounds : List (Round (List ℕ) Exchanged)) (e : End) → IsClone server fields login len faults honest rounds e → front e.state ≡ all_of_them e.commits
clones server fields login len faults honest rounds e h = by_length (len == 0) h
  where
    by_length : (b : Bool) → MatchBool b (IsSync (CloneRound server fields login) (clone_start faults honest) rounds e) ((rounds ≡ []) × (e ≡ not_empty_end faults honest len)) → front e.state ≡ all_of_them e.commits
    by_length true k = (whole (CloneRound server fields login) [] (clone_one server fields login) (clone_start faults honest) rounds e k (record { are = refl; within = omega arith })).are
    by_length false k = subst (λ (x : End). front x.state ≡ all_of_them x.commits) (sym k.1) refl

pub syncs_commit : SyncsCommit
syncs_commit = record { pull = pulls; push = pushes; clone = clones; local = locals }
