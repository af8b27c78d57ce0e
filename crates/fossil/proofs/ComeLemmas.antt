-- What `pull`, `push` and `pull-local` come to.
use Rattle.std.proofs.Common.{◌≡◌, ◌≢◌, ◌⊎◌, inl, inr, ℕ, Bool, true, false, List, [], ◌∷◌, ◌++◌, length, Option, Some, None, Result, Ok, Err, IsTrue, refl, sym, ap, subst, ◌∙◌}
use Rattle.std.specs.Prelude.{⊤, IfSome, ◌||◌}
use Rattle.std.specs.Str.{bytes_eq}
use Rattle.std.specs.Cmp.Lexicographic.{bytes_decides}
use Rattle.fsl_order.specs.Names.{has}
use Rattle.fsl_order.specs.Causes.{Rose}
use Rattle.fsl_outside.specs.Connections.{LinkState}
use Rattle.fsl_record.specs.declared.Record.{Record}
use Rattle.fsl_disk.specs.Disk.{DiskState, IsModelled, Keeps, LeavesOnly, Quiet}
use Rattle.fsl_disk.proofs.Moments.{and_then, keeps_on, quiet_moments}
use Rattle.fsl_journal.specs.Journal.{HeldOrSame, IsSpared}
use Rattle.fsl_wire.specs.declared.WireCard.{WireCard}
use Rattle.fsl_repo.specs.Machine.{State, now}
use Rattle.fsl_repo.specs.Replies.{IsSpoilt}
use Rattle.fsl_repo.specs.Whole.{Whole, IsWholeOn, front, opened, is_modelled}
use Rattle.fsl_pull.specs.declared.Login.{Login}
use Rattle.fsl_pull.specs.declared.Pulled.{Pulled}
use Rattle.fsl_pull.specs.declared.PullFault.{PullFault}
use Rattle.fsl_pull.specs.declared.PullFault.TheVariants as fault
use Rattle.fsl_pull.specs.Dialled.{Rounds}
use Rattle.fsl_pull.specs.Rounds.{Round, Point, End, Then, goes_on, ends, GoOn}
use Rattle.fsl_pull.specs.Arrivals.{AreWants, AreUnclustered}
use Rattle.fsl_pull.specs.Pulls.{IsPull, PullSoFar, pull_start}
use Rattle.fsl_pull.specs.Pushes.{IsPush, PushSoFar, is_public}
use Rattle.fsl_pull.specs.Locals.{LocalRound, IsLocalPull, local_reply}
use Rattle.fsl_pull.specs.Kept.{IsKeptAtAnyMoment}
use Rattle.fsl_pull.specs.Asking.{IsDialCounted}
use Rattle.fsl_pull.specs.Turns.{commits_of}
use Rattle.fsl_pull.specs.CloneCalls.{UnlessDisk}
use Rattle.fsl_pull.specs.Calls.{Ended, a_pull, a_push, IsLocalEnd, MayBegin, IsLocalSoFar, IsLocalShort, IsLocalFailed, IsLocalUnread, IsStuck, IsLocalAnswer}
use Rattle.fsl_pull.proofs.RoundLemmas.{go_behind, end_behind}
use Rattle.fsl_words.specs.declared.Command.{Command}
use Rattle.fsl_words.specs.declared.Command.TheVariants as command_of
use Rattle.fossil.specs.declared.commands.sync.Way.{Way}
use Rattle.fossil.specs.declared.commands.sync.Way.TheVariants as way
use Rattle.fossil.specs.Printed.{Printed, damaged, disk_fault, no_memory}
use Rattle.fossil.specs.Outcome.{Outcome}
use Rattle.fossil.specs.Run.{Agrees}
use Rattle.fossil.specs.Due.{printed, IsDue, Due}
use Rattle.fossil.specs.Syncs.{fault_printed, end_printed, with_commits, IsEndOutcome, login_of, LocalRoundsGoOn}
use Rattle.fossil.specs.Uses.{command_asks_peer}
use Rattle.fossil.specs.Synced.{Read, honesty, IsSyncOutcome, AreCommits, ReadsContent, IsAnswer, Far, AreMade, reached, IsPeerKept, SyncsBy, objects_of}
use Rattle.fossil.specs.Syncing.{IsSyncDue, ComesTo, IsReady, IsMadeOver, HasMade, HasPulledFrom, command_by}
use Rattle.fossil.proofs.InputLemmas.{some_bytes}
use Rattle.fossil.proofs.FileLemmas.{both, agrees, readable}
use Rattle.fossil.proofs.LoadLemmas.{images_quiet}
use Rattle.fossil.proofs.TakenLemmas.{takes_over, Start, IsAt, same_at, taken_at, IsEndAt, goes_at, partly_at, other_commits, IsFailedAt, failed_at}
use Rattle.fossil.proofs.SoundLemmas.{PullIsDue, pull_sound, no_reading, local_keeps, HasOneMore, local_one, local_pull, local_end_at}
use Rattle.fossil.proofs.PushLemmas.{PushIsDue, PushReads, push_sound}
use Rattle.fossil.proofs.SyncedLemmas.{IsLeftSo, made_all, reached_all, holds, holds_either, none_grown}
use Rattle.fossil.proofs.SyncLemmas.{fresh, came, ended_by, synced_by, some_printed, due_ok, due_err, rose_file, steady_by, moments_by}

-- ---- a sync over a dial

module _ {D : Type 0} (login : Option (List ℕ × List ℕ)) (address : List ℕ) (peer : DiskState) (dial dial_left : LinkState) (file mid left : DiskState) (old new : Whole D) (ready : IsReady file mid old) (whole : IsWholeOn left new) (keeps : Keeps mid left)
    (file_reads : (held : List ℕ) → IsTrue file.is_model → file.contents ≡ Some held → file.images held) (left_reads : (held : List ℕ) → IsTrue left.is_model → left.contents ≡ Some held → left.images held) (d : Due) where
  abbrev mine : State
  mine = old.seen.state

  abbrev user : Option Login
  user = login_of login

  abbrev bytes : List ℕ
  bytes = ready.loaded.stands.0

  abbrev held : (b : List ℕ) × Agrees peer.contents b
  held = some_bytes peer.contents

  abbrev Comes : Way → Type 0
  Comes w = ComesTo (command_by w address login) (file, left) (peer, peer) (dial, dial_left) d

  -- the repository is at its start
  abbrev begin : Start
  begin = record { records = mine.records; faults = mine.faults }

  begun : (w : Way) → IsAt begin mine []
  begun w = fresh (command_by w address login) peer peer dial dial_left file mid left old new ready whole keeps file_reads left_reads held.0 held.1 d

  pull_comes : (result : Result Pulled PullFault) → IsMadeOver way.Pull user (dial, dial_left) (mid, left) old.seen new.seen result → IsDialCounted dial dial_left result → IsSyncDue result d → Comes way.Pull
  pull_comes result (rounds, broken, grows, (is, kept)) counted due =
      let c =
      came (command_of.Pull address login) peer peer dial dial_left file mid left old new ready whole keeps file_reads left_reads held.0 held.1 d (λ asks. absurd (cc)) (λ asks. absurd (cc))
      (a_pull user mine) (PullIsDue user mine) no_reading (pull_sound user mine begin (begun way.Pull))
      (λ rs e o pulled end. inr (mine.records, ready.loaded.stands.2, (ready.faults, e, subst (λ (t : State). IsPull user t rs e) ready.state pulled, end)))
      (λ rs commits so_far. (mine.records, ready.loaded.stands.2, (ready.faults, subst (λ (t : State). PullSoFar user t rs commits) ready.state so_far)))
      (λ rs body asks. (mine.records, ready.loaded.stands.2, (ready.faults, subst (λ (t : State). PullIsDue user t rs body) ready.state asks)))
      (λ rs commits far off. off) (λ rs commits due. inr due) (λ rs commits Says reads. absurd reads)
      rounds broken kept result is counted due in
      (rounds, broken, grows, (record { file = bytes; peer = held.0; honest = is_modelled file; peer_honest = is_modelled peer; rounds = rounds }, c.0, c.1))

  push_comes : (result : Result Pulled PullFault) → IsMadeOver way.Push user (dial, dial_left) (mid, left) old.seen new.seen result → IsDialCounted dial dial_left result → IsSyncDue result d → Comes way.Push
  push_comes result (rounds, broken, grows, (is, kept)) counted due =
      let c =
      came (command_of.Push address login) peer peer dial dial_left file mid left old new ready whole keeps file_reads left_reads held.0 held.1 d (λ asks. absurd (cc)) (λ asks. absurd (cc))
      (a_push user mine) (PushIsDue user mine) (PushReads user mine) (push_sound user mine begin (begun way.Push))
      (λ rs e o pushed end. inr (mine.records, ready.loaded.stands.2, (ready.faults, e, subst (λ (t : State). IsPush user t rs e) ready.state pushed, end)))
      (λ rs commits so_far. (mine.records, ready.loaded.stands.2, (ready.faults, subst (λ (t : State). PushSoFar user t rs commits) ready.state so_far)))
      (λ rs body asks. (mine.records, ready.loaded.stands.2, (ready.faults, subst (λ (t : State). PushIsDue user t rs body) ready.state asks)))
      (λ rs commits far off. off) (λ rs commits due. inr due)
      (λ rs commits Says reads. (mine.records, ready.loaded.stands.2, (ready.faults, subst (λ (t : State). PushReads user t rs commits Says) ready.state reads)))
      rounds broken kept result is counted due in
      (rounds, broken, grows, (record { file = bytes; peer = held.0; honest = is_modelled file; peer_honest = is_modelled peer; rounds = rounds }, c.0, c.1))

  pub over_comes : (w : Way) → HasMade w user (dial, dial_left) (mid, left) old.seen new.seen d → Comes w
  over_comes way.Pull h = pull_comes h.result h.made h.counted h.says
  over_comes way.Push h = push_comes h.result h.made h.counted h.says

-- ---- a pull from another repository

nil_front : {X : Type 0} (a b : List X) → a ++ b ≡ [] → a ≡ []
nil_front [] b e = refl
nil_front (x ∷ a) b e = absurd (cc)

-- where one more commit was due than were made, there is one
some_due : (done due : List (List Record)) → HasOneMore done due → due ≢ done → due ≢ []
some_due done due (more, split, few) others none = others (none ∙ sym (nil_front done more (sym split ∙ none)))

-- a name that stands in a list
has_middle : (front : List (List ℕ)) (name : List ℕ) (rest : List (List ℕ)) → IsTrue (has (front ++ name ∷ rest) name)
has_middle [] name rest = λ i. (bytes_decides name name).1 refl i || has rest name
has_middle (x ∷ front) name rest = or_right (bytes_eq name x) (has (front ++ name ∷ rest) name) (has_middle front name rest)
  where
    or_right : (b c : Bool) → IsTrue c → IsTrue (b || c)
    or_right true c h = refl
    or_right false c h = h

module _ {D P : Type 0} (path : List ℕ) (dial : LinkState) (file mid left : DiskState) (old new : Whole D) (ready : IsReady file mid old) (whole : IsWholeOn left new) (keeps : Keeps mid left)
    (file_reads : (held : List ℕ) → IsTrue file.is_model → file.contents ≡ Some held → file.images held) (left_reads : (held : List ℕ) → IsTrue left.is_model → left.contents ≡ Some held → left.images held)
    (peer peer_mid peer_left : DiskState) (there later : Whole P) (ready_peer : IsReady peer peer_mid there) (spared : IsSpared peer peer_mid) (harmless : IsModelled peer → LeavesOnly peer peer_mid (HeldOrSame peer))
    (quiet : Quiet peer_mid peer_left) (later_whole : IsWholeOn peer_left later) (no_other : IsTrue peer_mid.is_model → (c : List ℕ) → peer_mid.since peer_mid.moment c → peer_mid.images c) (d : Due) where
  abbrev Names : Type 0
  Names = List (List ℕ)

  abbrev Gives : Type 0
  Gives = List (Round Names (List WireCard))

  abbrev command : Command
  command = command_of.PullLocal path

  abbrev s : State
  s = old.seen.state

  abbrev t : State
  t = there.seen.state

  abbrev t2 : State
  t2 = later.seen.state

  abbrev peer_bytes : List ℕ
  peer_bytes = ready_peer.loaded.stands.0

  peer_told : Agrees peer.contents peer_bytes
  peer_told = agrees peer.contents peer_bytes ready_peer.loaded.stands.1

  abbrev read : Read
  read = record { file = ready.loaded.stands.0; peer = peer_bytes; honest = is_modelled file; peer_honest = is_modelled peer; rounds = [] }

  -- ---- the peer, which was loaded and then only read

  spared_by : IsSpared peer peer_mid → IsSpared peer peer_left
  spared_by (inl same) = inl (quiet.contents ∙ same)
  spared_by (inr (records, of, stands)) = inr (records, of, λ modelled held told. stands modelled held (sym quiet.contents ∙ told))

  peer_kept : IsTrue (command_asks_peer command) → IsPeerKept (both peer peer_left)
  peer_kept asks = record {
    contents = inr (λ told is_told records are held held_told. ready_peer.loaded.contents told is_told records are held (sym quiet.contents ∙ held_told));
    spared = spared_by spared;
    any_moment = images_quiet peer peer_mid peer_left ready_peer.loaded.any_moment ready_peer.loaded.keeps quiet no_other;
    harmless = λ modelled.
        let model : IsTrue peer_mid.is_model = ready_peer.loaded.keeps.model ∙ modelled.model in
        let before = harmless modelled in
        and_then peer peer_mid peer_left (HeldOrSame peer) before (quiet_moments peer_mid peer_left (HeldOrSame peer) quiet model (no_other model) before.now);
    unreadable = readable peer peer_left (peer_bytes, ready_peer.loaded.stands.1, (t.records, ready_peer.loaded.stands.2));
    keeps = keeps_on peer peer_mid peer_left ready_peer.loaded.keeps quiet.keeps;
  }

  peer_count : peer_left.faults ≡ t2.faults
  peer_count = sym later_whole.faults

  peer_steady : t2 ≡ t → IsTrue (command_asks_peer command) → peer_left.faults ≡ peer.faults
  peer_steady same asks = peer_count ∙ ap (λ (x : State). x.faults) same ∙ ready_peer.whole.faults ∙ ready_peer.loaded.faults

  peer_rose : Rose t.faults t2.faults → Rose peer.faults peer_left.faults
  peer_rose rose =
      subst (λ (n : ℕ). Rose n peer_left.faults) (ready_peer.whole.faults ∙ ready_peer.loaded.faults) (subst (λ (n : ℕ). Rose t.faults n) (sym peer_count) rose)

  -- ---- the repository

  abbrev at_first : Start
  at_first = record { records = s.records; faults = s.faults }

  start : IsAt at_first s []
  start = fresh command peer peer_left dial dial file mid left old new ready whole keeps file_reads left_reads peer_bytes peer_told d

  outcome : (rounds : Gives) (e : End) → IsLocalPull s t rounds e → (o : Outcome) → IsEndOutcome (length rounds) e o → IsSyncOutcome command read o
  outcome rounds e is o end = (
    refl,
    inr (
      s.records,
      ready.loaded.stands.2,
      inr (
        t.records,
        ready_peer.loaded.stands.2,
        (
          ready.faults,
          ready_peer.faults,
          rounds,
          (e, subst (λ (u : State). IsLocalPull (opened s.records ready.faults (is_modelled file)) u rounds e) ready_peer.state (subst (λ (u : State). IsLocalPull u t rounds e) ready.state is), end),
        ),
      ),
    ),
  )

  end_at : (rounds : Gives) (e : End) → IsLocalPull s t rounds e → IsEndAt at_first [] e
  end_at rounds e is = local_end_at s t at_first start rounds e is

  -- what is said of rounds that went on
  so_far : (Says : State → Point Names → Type 0) → IsLocalSoFar s t (λ unclustered p. Says t p) → LocalRoundsGoOn (honesty read) peer_bytes s.records Says
  so_far Says is = (
    t.records,
    ready_peer.loaded.stands.2,
    (
      ready.faults,
      ready_peer.faults,
      subst (λ (u : State). IsLocalSoFar (opened s.records ready.faults (is_modelled file)) u (λ unclustered p. Says u p)) ready_peer.state
          (subst (λ (u : State). IsLocalSoFar u t (λ unclustered p. Says t p)) ready.state is),
    ),
  )

  led : (commits : List (List Record)) → IsLocalSoFar s t (λ unclustered p. commits ≡ p.commits) → AreCommits command read commits
  led commits is = inr (refl, (s.records, ready.loaded.stands.2, so_far (λ u p. commits ≡ p.commits) is))

  led_by : (rounds : Gives) (e : End) → IsLocalPull s t rounds e → AreCommits command read e.commits
  led_by rounds e is =
      let text = some_printed e.fault (length rounds) e.count (end_at rounds e is).told in
      let o = with_commits text.0 e.commits in inl (o, outcome rounds e is o (text.0, text.1, refl), refl)

  abbrev Came : Type 0
  Came = (commits : List (List Record)) × SyncsBy command (objects_of (file, left) (peer, peer_left) (dial, dial)) (λ o. printed d ≡ o) (printed d).status [] [] read commits

  -- what a crash leaves, by commits
  abbrev IsKept : List (List Record) → Type 0
  IsKept commits = IsKeptAtAnyMoment (front s) mid left commits

  abbrev no_rounds : Rounds
  no_rounds = []

  by_text : (commits : List (List Record)) (far : Far) (o : Printed) → printed d ≡ o → AreCommits command read commits ⊎ ((no_rounds ≡ []) × (commits ≡ []))
      → IsAnswer command read [] commits (objects_of (file, left) (peer, peer_left) (dial, dial)) (λ p. o ≡ p) → AreMade command read o.status [] commits far → IsLeftSo file left s.records o.status far
      → IsKept (reached o.status far) → (o.status ≢ 4 → (left.faults ≡ file.faults) × (IsTrue (command_asks_peer command) → peer_left.faults ≡ peer.faults)) → Came
  by_text commits far o told led_so answer made left_so kept_so steady = (
    commits,
    synced_by command peer peer_left dial dial file mid left old new ready whole keeps file_reads left_reads peer_bytes peer_told d [] [] commits far o told led_so answer made left_so
        (moments_by command peer peer_left dial dial file mid left old new ready whole keeps file_reads left_reads peer_bytes peer_told d (reached o.status far) kept_so) peer_kept steady (λ other. refl),
  )

  file_steady : {commits : List (List Record)} → IsAt at_first new.seen.state commits → left.faults ≡ file.faults
  file_steady at = steady_by command peer peer_left dial dial file mid left old new ready whole keeps file_reads left_reads peer_bytes peer_told d at.steady

  -- all of these commits were made
  all_made : (commits : List (List Record)) (o : Printed) → printed d ≡ o → AreCommits command read commits ⊎ ((no_rounds ≡ []) × (commits ≡ []))
      → IsAnswer command read [] commits (objects_of (file, left) (peer, peer_left) (dial, dial)) (λ p. o ≡ p) → IsAt at_first new.seen.state commits → IsKept commits
      → (o.status ≢ 4 → IsTrue (command_asks_peer command) → peer_left.faults ≡ peer.faults) → Came
  all_made commits o told led_so answer at kept_so steady =
      by_text commits (made_all commits) o told led_so answer (inl (refl, refl)) (inl (holds left new at_first commits whole at)) (subst IsKept (sym (reached_all o.status commits)) kept_so)
      (λ other. (file_steady at, steady other))

  -- ---- its end

  whole_by : (why : Option PullFault) (pulled : Option Pulled) → IsLocalEnd s t new.seen.state IsKept why pulled
      → ((n : ℕ) (e : End) (p : Printed) → Ended e n new.seen.state why pulled → end_printed e.fault n e.count ≡ Some p → IsDue p d) → t2 ≡ t → Came
  whole_by why pulled (rounds, (e, is, ended, kept_so)) due same = (
    e.commits,
    ended_by command peer peer_left dial dial file mid left old new ready whole keeps file_reads left_reads peer_bytes peer_told d peer_kept (peer_steady same) [] [] (length rounds) e why pulled refl
        (end_at rounds e is) ended (outcome rounds e is) kept_so (λ p text. due (length rounds) e p ended text) refl,
  )

  ok : (pulled : Pulled) → IsLocalEnd s t new.seen.state IsKept None (Some pulled) → IsSyncDue (Ok pulled) d → t2 ≡ t → Came
  ok pulled is due same = whole_by None (Some pulled) is (λ n e p ended text. due_ok n new.seen.state e d p text pulled ended due) same

  refused : (why : PullFault) → IsLocalEnd s t new.seen.state IsKept (Some why) None → IfSome (fault_printed why) (λ o. IsDue o d) → t2 ≡ t → Came
  refused why is due same = whole_by (Some why) None is (λ n e p ended text. due_err n new.seen.state e d p text why ended due) same

  -- a fault of the dial has no line, so that no end has it
  no_link : (n : ℕ) (e : End) (p : Printed) → Ended e n new.seen.state (Some fault.Link) None → end_printed e.fault n e.count ≡ Some p → ⊥
  no_link n e p ended text = let none = ap (λ (f : Option PullFault). end_printed f n e.count) (sym ended.fault) ∙ text in no_text p none
    where
      no_text : (q : Printed) → None ≡ Some q → ⊥
      no_text q h = cc

  -- ---- it was cut off

  short : IsLocalShort s t new.seen.state IsKept → printed d ≡ no_memory → t2 ≡ t → Came
  short (inl (same, kept_so)) told steady =
      all_made [] no_memory told (inr (refl, refl)) (inr (inr (inr (inl (inl refl, refl))))) (same_at at_first s new.seen.state [] same start) kept_so (λ other. peer_steady steady)
  short (inr (may, (u, w, are_u, are_w, (rounds, (p, go, ((reply, is_reply, partly), kept_so)))))) told steady =
      let stood = goes_at (LocalRound t u) (local_keeps t u) at_first (pull_start s w) rounds p start go in
      all_made p.commits no_memory told (inl (led p.commits (u, w, are_u, are_w, (rounds, (p, go, refl))))) (inr (inr (inr (inl (inl refl, refl)))))
      (partly_at at_first p stood.0 reply new.seen.state partly) kept_so (λ other. peer_steady steady)

  -- the commit of a round failed, behind which the pull goes on or is at its end
  lost : (done due : List (List Record)) → AreCommits command read due → HasOneMore done due → due ≢ done → IsFailedAt at_first new.seen.state done due → IsKept due → Rose s.faults new.seen.state.faults
      → printed d ≡ disk_fault → t2 ≡ t → Came
  lost done due are one others stands kept_so rose told steady =
      let failed = rose_file command peer peer_left dial dial file mid left old new ready whole keeps file_reads left_reads peer_bytes peer_told d rose in
      by_text due (record { done = done; due = due }) disk_fault told (inl are) (inr (inl (refl, inl (failed, peer_steady steady, inr (some_due done due one others)), refl))) (inr (refl, refl, (one, refl)))
      (inr (refl, failed, holds_either left new at_first (record { done = done; due = due }) whole stands)) kept_so (λ other. absurd (other refl))

  led_step : MayBegin s t → (u w : Names) → AreUnclustered t u → AreWants s w → (first : Gives) (last : Round Names (List WireCard)) (p : Point Names) → GoOn (LocalRound t u) (pull_start s w) first p
      → (step : Then Names) → LocalRound t u p last step → AreCommits command read (commits_of step)
  led_step may u w are_u are_w first last p go (goes_on q) is =
      led q.commits (u, w, are_u, are_w, (first ++ last ∷ [], (q, go_behind (LocalRound t u) (pull_start s w) first p q last go is, refl)))
  led_step may u w are_u are_w first last p go (ends e) is =
      led_by (first ++ last ∷ []) e (local_pull s t (first ++ last ∷ []) e may (u, are_u, (w, are_w, end_behind (LocalRound t u) (pull_start s w) first p e last go is)))

  failed : Rose s.faults new.seen.state.faults → IsLocalFailed s t new.seen.state IsKept → printed d ≡ disk_fault → t2 ≡ t → Came
  failed rose (may, (u, w, are_u, are_w, (rounds, (off, kept_so)))) told steady =
      let p = off.point in
      let stood = goes_at (LocalRound t u) (local_keeps t u) at_first (pull_start s w) off.front p start off.go in
      let behind_it = local_keeps t u at_first p off.last off.step stood.0 off.is_round in
      lost p.commits (commits_of off.step) (led_step may u w are_u are_w off.front off.last p off.go off.step off.is_round) (local_one t u p off.last off.step off.is_round)
      (other_commits at_first p off.step stood.0 behind_it off.is_due off.some) (failed_at at_first p off.step new.seen.state stood.0 behind_it off.is_due off.state) kept_so rose told steady

  -- ---- a content of the peer wasn't read

  module _ (why : PullFault) (u w : Names) (are_u : AreUnclustered t u) (are_w : AreWants s w) (rounds : Gives) (p : Point Names) (go : GoOn (LocalRound t u) (pull_start s w) rounds p)
      (stuck : IsStuck why t u p.memory p.state new.seen.state t2) where
    stuck_at : IsAt at_first new.seen.state p.commits
    stuck_at =
        let stood = (goes_at (LocalRound t u) (local_keeps t u) at_first (pull_start s w) rounds p start go).0 in
        same_at at_first (stuck.taken).state new.seen.state p.commits stuck.state
        (taken_at at_first p.state p.commits stood stuck.taken (takes_over p.state None (local_reply u stuck.files) stuck.taken stuck.takes))

    stuck_led : AreCommits command read p.commits
    stuck_led = led p.commits (u, w, are_u, are_w, (rounds, (p, go, refl)))

    stuck_reads : (Says : List ℕ → State → Type 0) → Says stuck.name t → ReadsContent command read p.commits Says
    stuck_reads Says says = (
      s.records,
      ready.loaded.stands.2,
      so_far (λ x q. (name : List ℕ) × IsTrue (has q.memory name) × IsTrue (is_public (now x) name) × ((p.commits ≡ q.commits) × Says name x))
          (u, w, are_u, are_w, (rounds, (p, go, (stuck.name, subst (λ (ns : Names). IsTrue (has ns stuck.name)) (sym stuck.whole) (has_middle stuck.front stuck.name stuck.rest), stuck.public, (refl, says))))),
    )

  unread : IsLocalUnread fault.Disk s t new.seen.state t2 IsKept → printed d ≡ disk_fault → Came
  unread (may, (u, w, are_u, are_w, (rounds, (p, go, (stuck, kept_so))))) told =
      let at = stuck_at fault.Disk u w are_u are_w rounds p go stuck in
      all_made p.commits disk_fault told (inl (stuck_led fault.Disk u w are_u are_w rounds p go stuck))
      (inr (inl (refl, inr (refl, peer_rose stuck.cant.0, file_steady at, inr (stuck_reads fault.Disk u w are_u are_w rounds p go stuck (λ name x. ⊤) tt)), refl))) at kept_so (λ other. absurd (other refl))

  spoilt : (name found : List ℕ) → IsLocalUnread (fault.Damaged name found) s t new.seen.state t2 IsKept → printed d ≡ damaged name found → t2 ≡ t → Came
  spoilt name found (may, (u, w, are_u, are_w, (rounds, (p, go, (stuck, kept_so))))) told steady =
      let why = fault.Damaged name found in
      let named : name ≡ stuck.name = stuck.cant.0 in
      let says : (stuck.name ≡ name) × IsSpoilt t name found = (sym named, subst (λ (n : List ℕ). IsSpoilt t n found) (sym named) stuck.cant.1) in
      all_made p.commits (damaged name found) told (inl (stuck_led why u w are_u are_w rounds p go stuck))
      (inr (inr (inr (inr (name, found, refl, stuck_reads why u w are_u are_w rounds p go stuck (λ asked x. (asked ≡ name) × IsSpoilt x name found) says, refl)))))
      (stuck_at why u w are_u are_w rounds p go stuck) kept_so (λ other. peer_steady steady)

  -- ---- whatever it answered

  came_by : (result : Result Pulled PullFault) → IsLocalAnswer s new.seen.state t t2 IsKept result → UnlessDisk (t2 ≡ t) result → IsSyncDue result d → Came
  came_by (Ok pulled) is same due = ok pulled is due same
  came_by (Err (fault.NotEmpty len)) is same due = refused (fault.NotEmpty len) is due same
  came_by (Err (fault.NotRepository at)) is same due = refused (fault.NotRepository at) is tt same
  came_by (Err (fault.Project found)) is same due = refused (fault.Project found) is due same
  came_by (Err (fault.Stopped faults)) is same due = refused (fault.Stopped faults) is tt same
  came_by (Err fault.Link) is same due = whole_by (Some fault.Link) None is (λ n e p ended text. absurd (no_link n e p ended text)) same
  came_by (Err fault.Disk) (inl (steady, rose, is)) same due = failed rose is due steady
  came_by (Err fault.Disk) (inr is) same due = unread is due
  came_by (Err (fault.Damaged name found)) is same due = spoilt name found is due same
  came_by (Err (fault.Peer why)) is same due = refused (fault.Peer why) is due same
  came_by (Err (fault.TooLarge name size)) is same due = refused (fault.TooLarge name size) is due same
  came_by (Err (fault.Full name)) is same due = refused (fault.Full name) is due same
  came_by (Err (fault.Missing name)) is same due = refused (fault.Missing name) is due same
  came_by (Err fault.Rounds) is same due = refused fault.Rounds is due same
  came_by (Err fault.Memory) is same due = short is due same

  pub local_comes : HasPulledFrom (mid, left) old.seen new.seen (there.seen, later.seen) d → ComesTo (command_of.PullLocal path) (file, left) (peer, peer_left) (dial, dial) d
  local_comes (result, is, same, due) = let c = came_by result is.0 same due in ([], [], none_grown _, (read, c.0, c.1))
