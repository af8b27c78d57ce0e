-- One round of a clone over a network.
use Rattle.std.specs.Prelude.{◌≡◌, ℕ, ◌==◌, Bool, true, false, List, [], drop, Option, Some, None, Result, Ok, Err, MatchBool, MatchOption, MatchResult, if◌then◌else◌}
use Rattle.std.proofs.Common.{refl, sym, ap, subst, ◌∙◌, inl, inr}
use Rattle.std.proofs.lemmas.List.{append-nil}
use Rattle.fsl_disk.specs.Disk.{DiskState}
use Rattle.fsl_outside.specs.Connections.{LinkState}
use Rattle.fsl_wire.specs.declared.WireCard.{WireCard}
use Rattle.fsl_repo.specs.Whole.{Seen, front, stored}
use Rattle.fsl_http.specs.Responses.{Exchanged}
use Rattle.fsl_pull.specs.declared.Login.{Login}
use Rattle.fsl_pull.specs.declared.PeerFault.{PeerFault}
use Rattle.fsl_pull.specs.declared.PullFault.{PullFault}
use Rattle.fsl_pull.specs.declared.PullFault.TheVariants as fault
use Rattle.fsl_pull.specs.Rounds.{Round, Point, Then, goes_on, ends}
use Rattle.fsl_pull.specs.Requests.{clone_cards, request_bytes}
use Rattle.fsl_pull.specs.Replies.{sequel_in}
use Rattle.fsl_pull.specs.Arrivals.{Taken, commits_with}
use Rattle.fsl_pull.specs.Pulls.{behind, ended, uncommitted, unread}
use Rattle.fsl_pull.specs.Clones.{Cloning, clone_then, IsCloned, IsBegun, IsCloneReply, CloneAsks, CloneRound}
use Rattle.fsl_pull.specs.Asking.{IsAsked}
use Rattle.fsl_pull.specs.Turns.{commits_of, IsCarried, IsMade, ComesTo, TurnsTo}
use Rattle.fsl_pull.specs.CloneTurns.{clone_bytes, IsUnreplied, cloning, AsksFrom, BrokenClone, IsKeptOn, IsCloneTaken, IsCloneTurned}
use Rattle.fsl_pull.proofs.CommitLemmas.{with_longer}
use Rattle.fsl_pull.proofs.SyncLoop.{Longer}

module _ (login : Option Login) (from : ℕ) (d e : LinkState) (before after : DiskState) (old new : Seen) (Still : Type 0) where
  asks : (p : Point Cloning) → p.memory ≡ cloning from → CloneAsks login p (clone_bytes login from)
  asks p m = ap (λ (c : Cloning). request_bytes login (clone_cards c.from)) (sym m)

  -- there is no reply
  pub unreplied_turn : (why : PullFault) → IsUnreplied d e (clone_bytes login from) why → new.state ≡ old.state → Still → IsCloneTurned login from d e before after old new Still (Err why)
  unreplied_turn (fault.Peer why) (reply, made, read) same still server fields p at m =
      inl (inl (
        tt,
        (
          unread p why,
          (
            (record { request = clone_bytes login from; reply = reply }, made, (asks p m, (Err why, read, refl))),
            (inl (still, refl), λ base are. are, refl),
          ),
          refl,
          at ∙ sym same,
        ),
      ))
  unreplied_turn fault.Link lost same still server fields p at m = inr (still, inl (refl, same ∙ sym at, (clone_bytes login from, asks p m, lost)))
  unreplied_turn fault.Memory (inl idle) same still server fields p at m = inr (still, inr (refl, inl (same ∙ sym at, inl idle)))
  unreplied_turn fault.Memory (inr left) same still server fields p at m = inr (still, inr (refl, inl (same ∙ sym at, inr (clone_bytes login from, asks p m, left))))
  unreplied_turn (fault.NotEmpty len) h same still server fields p at m = absurd h
  unreplied_turn (fault.NotRepository place) h same still server fields p at m = absurd h
  unreplied_turn (fault.Project found) h same still server fields p at m = absurd h
  unreplied_turn (fault.Stopped faults) h same still server fields p at m = absurd h
  unreplied_turn fault.Disk h same still server fields p at m = absurd h
  unreplied_turn (fault.TooLarge name size) h same still server fields p at m = absurd h
  unreplied_turn (fault.Full name) h same still server fields p at m = absurd h
  unreplied_turn (fault.Missing name) h same still server fields p at m = absurd h
  unreplied_turn (fault.Damaged name found) h same still server fields p at m = absurd h
  unreplied_turn fault.Rounds h same still server fields p at m = absurd h

  -- a round of a clone that was begun
  as_begun : (server : List ℕ) (fields : List (List ℕ)) (p : Point Cloning) → p.memory ≡ cloning from → (reply : List WireCard) (s : Then Cloning) → IsCloned p reply s → IsCloneReply server fields p (Ok reply) s
  as_begun server fields p m reply s h =
      let here : IsCloned (record p { memory = cloning from }) reply s = subst (λ (c : Cloning). IsCloned (record p { memory = c }) reply s) m h in
      subst (λ (c : Cloning). IsCloneReply server fields (record p { memory = c }) (Ok reply) s) (sym m) here

  -- the cards of the reply were taken
  pub taken_turn : (reply : List WireCard) (result : Result (Option ℕ) PullFault) → IsAsked d e (clone_bytes login from) (Ok reply) → IsCloneTaken from reply before after old new Still result → IsCloneTurned login from d e before after old new Still result
  taken_turn reply result (came, made, read) taken server fields p at m = by result (taken p at m)
    where
      says : (s : Then Cloning) → IsCloned p reply s → IsMade d e (λ r. CloneRound server fields login p r s)
      says s h = (record { request = clone_bytes login from; reply = came }, made, (asks p m, (Ok reply, read, as_begun server fields p m reply s h)))

      by : (result : Result (Option ℕ) PullFault)
          → ComesTo AsksFrom p (λ s. IsCloned p reply s × IsKeptOn before after Still p s) (IsCarried (stored old) (stored new) p) (λ left. (front left ≡ front p.state) × Still) new.state result
          → TurnsTo AsksFrom (CloneRound server fields login) (CloneAsks login) (BrokenClone login) p d e (IsKeptOn before after Still p) (IsCarried (stored old) (stored new) p) Still new.state result
      by (Ok (Some next)) (q, ((h, kept), carried), is, mem) = (q, (says (goes_on q) h, kept, carried), is, mem)
      by (Ok None) (end, ((h, kept), carried), none, is) = (end, (says (ends end) h, kept, carried), none, is)
      by (Err why) (inl (inl (refusal, (end, (h, kept), some, is)))) = inl (inl (refusal, (end, (says (ends end) h, kept), some, is)))
      by (Err why) (inl (inr (disk, (s, (h, kept), un)))) = inl (inr (disk, (s, (says s h, kept), un)))
      by (Err why) (inr (memory, (same, still))) = inr (still, inr (memory, inr (record { request = clone_bytes login from; reply = came }, made, (asks p m, (reply, read, same)))))

-- ---- the commits of a step begin with those before it

sequel_commits : (p : Point Cloning) (t : Taken) (next : ℕ) (last : Bool) → commits_of (if last then ends (ended p t None) else goes_on (behind p t (cloning next))) ≡ commits_with p.commits t.state
sequel_commits p t next true = refl
sequel_commits p t next false = refl

then_longer : (p : Point Cloning) (t : Taken) (o : Option ℕ) → Longer p.commits (commits_of (clone_then p t o))
then_longer p t None = ([], sym (append-nil p.commits))
then_longer p t (Some next) =
    let w = with_longer p.commits (drop (t.state).committed (t.state).records) in
    (w.0, sequel_commits p t next (next == 0) ∙ w.1)

taken_longer : (p : Point Cloning) (reply : List WireCard) (t : Taken) (o : Option PullFault) (step : Then Cloning) → MatchOption o (step ≡ clone_then p t (sequel_in reply)) (λ why. step ≡ ends (uncommitted p t why)) → Longer p.commits (commits_of step)
taken_longer p reply t None step h = let w = then_longer p t (sequel_in reply) in (w.0, ap commits_of h ∙ w.1)
taken_longer p reply t (Some why) step h = ([], ap commits_of h ∙ sym (append-nil p.commits))

pub cloned_longer : (p : Point Cloning) (reply : List WireCard) (step : Then Cloning) → IsCloned p reply step → Longer p.commits (commits_of step)
cloned_longer p reply step h = taken_longer p reply h.0 (h.0).fault step h.2

begun_longer : (server : List ℕ) (fields : List (List ℕ)) (p : Point Cloning) (read : Result (List WireCard) PeerFault) (step : Then Cloning) (b : Bool) → b ≡ true
    → MatchResult read (λ reply. MatchBool b (IsCloned p reply step) (IsBegun server fields p reply step)) (λ why. step ≡ ends (unread p why)) → Longer p.commits (commits_of step)
begun_longer server fields p (Ok reply) step true e h = cloned_longer p reply step h
begun_longer server fields p (Ok reply) step false e h = absurd (no e)
  where
    no : false ≡ true → ⊥
    no e = cc
begun_longer server fields p (Err why) step b e h = ([], ap commits_of h ∙ sym (append-nil p.commits))

-- of a clone that was begun
pub round_longer : (server : List ℕ) (fields : List (List ℕ)) (login : Option Login) (p : Point Cloning) → p.memory.begun ≡ true → (r : Round (List ℕ) Exchanged) (step : Then Cloning) → CloneRound server fields login p r step → Longer p.commits (commits_of step)
round_longer server fields login p is r step h = begun_longer server fields p h.1.0 step p.memory.begun is h.1.2
