-- What the commands that sync come to, once the repository was loaded or wasn't.
use Rattle.std.proofs.Common.{◌≡◌, ◌≢◌, ◌⊎◌, inl, inr, ℕ, true, List, [], ◌∷◌, ◌++◌, length, take, Option, Some, None, is_some, Result, Ok, Err, IsTrue, refl, sym, ap, subst, ◌∙◌, arith}
use Rattle.std.specs.Prelude.{⊤, IfSome}
use Rattle.std.proofs.lemmas.List.{append-nil, take_all}
use Rattle.fsl_order.specs.Causes.{Rose}
use Rattle.fsl_outside.specs.Connections.{Connection, LinkState}
use Rattle.fsl_record.specs.declared.Record.{Record}
use Rattle.fsl_disk.specs.Disk.{DiskState, Keeps}
use Rattle.fsl_disk.proofs.Moments.{keeps_on}
use Rattle.fsl_journal.specs.File.{IsFileOf}
use Rattle.fsl_journal.proofs.Failing.{no_file}
use Rattle.fsl_repo.specs.Machine.{State}
use Rattle.fsl_repo.specs.Replies.{IsSpoilt}
use Rattle.fsl_repo.specs.Whole.{Whole, IsWholeOn, front, is_modelled}
use Rattle.fsl_http.specs.Responses.{Exchanged, IsBrokenOff, IsLeft}
use Rattle.fsl_pull.specs.declared.Pulled.{Pulled}
use Rattle.fsl_pull.specs.declared.PullFault.{PullFault}
use Rattle.fsl_pull.specs.declared.PullFault.TheVariants as fault
use Rattle.fsl_pull.specs.Rounds.{Round, End}
use Rattle.fsl_pull.specs.Dialled.{Rounds}
use Rattle.fsl_pull.specs.Kept.{IsKeptAtAnyMoment}
use Rattle.fsl_pull.specs.Asking.{IsDialCounted}
use Rattle.fsl_pull.specs.Calls.{Kind, Ended, IsWhole, IsSynced, AreCommitsOf}
use Rattle.fsl_words.specs.declared.Command.{Command}
use Rattle.fossil.specs.Printed.{Printed, damaged, disk_fault, link_fault, no_memory}
use Rattle.fossil.specs.Outcome.{Outcome, printed_of}
use Rattle.fossil.specs.Run.{Agrees}
use Rattle.fossil.specs.Due.{printed, IsDue, Due}
use Rattle.fossil.specs.Syncs.{synced, fault_printed, end_printed, with_commits, IsEndOutcome}
use Rattle.fossil.specs.Uses.{command_asks_peer}
use Rattle.fossil.specs.Synced.{Read, Objects, IsSyncOutcome, AreCommitsSoFar, AreCommits, IsDue as IsAsked, AreCommitsBefore, ReadsContent, IsFileDue, IsAnswer, Far, AreCutOff, AreMade, reached, IsWholeAtAnyMoment, IsPeerKept, SyncsBy, objects_of}
use Rattle.fossil.specs.Syncing.{IsSyncDue, IsReady}
use Rattle.fossil.proofs.FileLemmas.{both, agrees}
use Rattle.fossil.proofs.TakenLemmas.{IsTellable, Start, IsAt, same_at, IsEndAt}
use Rattle.fossil.proofs.SoundLemmas.{Reading, IsUncommittedAt, IsUnreadAt, IsSound, AreBefore, sent_as}
use Rattle.fossil.proofs.SyncedLemmas.{holds, holds_either, IsLeftSo, made_all, reached_all, contents_left, durable_left, moments_left}

-- ---- ends

some_of : (o : Option Printed) → is_some o ≡ true → (p : Printed) × (o ≡ Some p)
some_of None e = absurd (cc)
some_of (Some p) e = (p, refl)

-- an end whose fault has a line has its text
pub some_printed : (f : Option PullFault) (rounds stored : ℕ) → IsTellable f → (p : Printed) × (end_printed f rounds stored ≡ Some p)
some_printed None rounds stored told = (synced rounds stored, refl)
some_printed (Some why) rounds stored told = some_of (fault_printed why) told

pub printed_one : (a b : Printed) → Some a ≡ Some b → a ≡ b
printed_one a b e = cc

pulled_one : (a b : Pulled) → (Some a ≡ None) ⊎ (Some a ≡ Some b) → a ≡ b
pulled_one a b (inl e) = absurd (cc)
pulled_one a b (inr e) = cc

module _ (rounds : ℕ) (new : State) (e : End) (d : Due) (p : Printed) (text : end_printed e.fault rounds e.count ≡ Some p) where
  -- what is due is the text of the end, or want of memory in its place
  pub due_ok : (pulled : Pulled) → Ended e rounds new None (Some pulled) → IsDue (synced pulled.rounds pulled.stored) d → IsDue p d
  due_ok pulled ended due =
      let numbers : pulled ≡ record { rounds = rounds; stored = e.count } = pulled_one pulled (record { rounds = rounds; stored = e.count }) ended.numbers in
      let same : synced rounds e.count ≡ p = printed_one (synced rounds e.count) p (ap (λ (f : Option PullFault). end_printed f rounds e.count) (sym ended.fault) ∙ text) in
      subst (λ (o : Printed). IsDue o d) (ap (λ (q : Pulled). synced q.rounds q.stored) numbers ∙ same) due

  pub due_err : (why : PullFault) → Ended e rounds new (Some why) None → IfSome (fault_printed why) (λ o. IsDue o d) → IsDue p d
  due_err why ended due =
      let same : fault_printed why ≡ Some p = ap (λ (f : Option PullFault). end_printed f rounds e.count) (sym ended.fault) ∙ text in
      subst (λ (o : Option Printed). IfSome o (λ x. IsDue x d)) same due

-- ---- a repository that was loaded

module _ {D : Type 0} (command : Command) (peer peer_left : DiskState) (dial dial_left : LinkState) (file mid left : DiskState) (old new : Whole D) (ready : IsReady file mid old) (whole : IsWholeOn left new) (keeps : Keeps mid left)
    (file_reads : (held : List ℕ) → IsTrue file.is_model → file.contents ≡ Some held → file.images held) (left_reads : (held : List ℕ) → IsTrue left.is_model → left.contents ≡ Some held → left.images held)
    (peer_bytes : List ℕ) (peer_told : Agrees peer.contents peer_bytes) (d : Due) where
  abbrev pub base : List Record
  base = old.seen.state.records

  -- where it starts
  abbrev pub at_start : Start
  at_start = record { records = base; faults = old.seen.state.faults }

  abbrev pub bytes : List ℕ
  bytes = ready.loaded.stands.0

  abbrev pub read : Rounds → Read
  read rounds = record { file = bytes; peer = peer_bytes; honest = is_modelled file; peer_honest = is_modelled peer; rounds = rounds }

  abbrev x : Objects
  x = objects_of (file, left) (peer, peer_left) (dial, dial_left)

  stands : IsFileOf bytes base
  stands = ready.loaded.stands.2

  file_told : Agrees file.contents bytes
  file_told = agrees file.contents bytes ready.loaded.stands.1

  all_keeps : Keeps file left
  all_keeps = keeps_on file mid left ready.loaded.keeps keeps

  -- the loaded repository is at its start
  committed_is : old.seen.state.committed ≡ length base
  committed_is = ap (λ (s : State). s.committed) ready.state

  front_is : front old.seen.state ≡ base
  front_is = (λ i. take (committed_is i) base) ∙ take_all (length base) base (omega arith)

  pub fresh : IsAt at_start old.seen.state []
  fresh = record { runs = ap (λ (s : State). s.stopped) ready.state; stands = front_is ∙ sym (append-nil base); within = omega (arith, committed_is); steady = refl }

  -- a repository whose count is the same was left by no call that failed
  pub steady_by : new.seen.state.faults ≡ old.seen.state.faults → left.faults ≡ file.faults
  steady_by same = sym whole.faults ∙ same ∙ ready.whole.faults ∙ ready.loaded.faults

  pub moments_by : (commits : List (List Record)) → IsKeptAtAnyMoment (front old.seen.state) mid left commits → IsWholeAtAnyMoment (both file left) commits
  moments_by commits kept =
      moments_left file left bytes base file_told stands all_keeps mid commits ready.loaded.keeps ready.loaded.any_moment
      (λ modelled c image. subst (λ (rs : List Record). IsFileOf c rs) front_is (ready.whole.exact fresh.runs modelled c image)) file_reads
      (subst (λ (rs : List Record). IsKeptAtAnyMoment rs mid left commits) front_is kept)

  -- where all of them were made
  moments_all : (status : ℕ) (commits : List (List Record)) → IsKeptAtAnyMoment (front old.seen.state) mid left commits → IsWholeAtAnyMoment (both file left) (reached status (made_all commits))
  moments_all status commits kept = subst (IsWholeAtAnyMoment (both file left)) (sym (reached_all status commits)) (moments_by commits kept)

  abbrev Tells : Printed → Type 0
  Tells o = printed d ≡ o

  -- no call of the disks failed
  abbrev AreSteady : Type 0
  AreSteady = (left.faults ≡ file.faults) × (IsTrue (command_asks_peer command) → peer_left.faults ≡ peer.faults)

  -- by what is printed, and how far the commits came
  pub synced_by : (rounds : Rounds) (broken : List Connection) (commits : List (List Record)) (far : Far) (o : Printed) → printed d ≡ o → AreCommits command (read rounds) commits ⊎ ((rounds ≡ []) × (commits ≡ []))
      → IsAnswer command (read rounds) broken commits x (λ p. o ≡ p) → AreMade command (read rounds) o.status broken commits far → IsLeftSo file left base o.status far → IsWholeAtAnyMoment (both file left) (reached o.status far)
      → (IsTrue (command_asks_peer command) → IsPeerKept (both peer peer_left)) → (o.status ≢ 4 → AreSteady) → (o.status ≢ 7 → dial_left.faults ≡ dial.faults)
      → SyncsBy command x Tells (printed d).status rounds broken (read rounds) commits
  synced_by rounds broken commits far o is led answer made left_so moments peer_kept disk_kept dial_kept =
      subst (λ (p : Printed). SyncsBy command x (λ q. p ≡ q) p.status rounds broken (read rounds) commits) (sym is)
      (record {
        file_told = file_told;
        peer_told = peer_told;
        rounds_are = refl;
        honest = refl;
        peer_honest = refl;
        led = led;
        answer = answer;
        far = far;
        are_made = made;
        contents = contents_left file left bytes base file_told stands all_keeps left_reads o.status far left_so;
        kept = λ told refused. absurd (no_file bytes refused.0 base refused.1 stands);
        any_moment = moments;
        durable = durable_left file left bytes base file_told stands all_keeps o.status far left_so;
        keeps = all_keeps;
        peer = peer_kept;
        unasked = λ told refused. absurd (no_file bytes refused.0 base refused.1 stands);
        disk = disk_kept;
        dial = dial_kept;
      })

  pub rose_file : Rose old.seen.state.faults new.seen.state.faults → Rose file.faults left.faults
  rose_file rose =
      subst (λ (n : ℕ). Rose n left.faults) (ready.whole.faults ∙ ready.loaded.faults) (subst (λ (n : ℕ). Rose old.seen.state.faults n) whole.faults rose)

  module _ (peer_kept : IsTrue (command_asks_peer command) → IsPeerKept (both peer peer_left)) (peer_steady : IsTrue (command_asks_peer command) → peer_left.faults ≡ peer.faults) where
    -- where all commits were made, and no call of the disks failed
    pub at_by : (rounds : Rounds) (broken : List Connection) (commits : List (List Record)) (o : Printed) → printed d ≡ o → AreCommits command (read rounds) commits → IsAnswer command (read rounds) broken commits x (λ p. o ≡ p)
        → IsAt at_start new.seen.state commits → IsKeptAtAnyMoment (front old.seen.state) mid left commits → (o.status ≢ 7 → dial_left.faults ≡ dial.faults) → SyncsBy command x Tells (printed d).status rounds broken (read rounds) commits
    at_by rounds broken commits o is are answer at kept dial_kept =
        synced_by rounds broken commits (made_all commits) o is (inl are) answer (inl (refl, refl)) (inl (holds left new at_start commits whole at)) (moments_all o.status commits kept) peer_kept (λ other. (steady_by at.steady, peer_steady)) dial_kept

    -- a whole sync, of so many rounds that were counted
    pub ended_by : (rounds : Rounds) (broken : List Connection) (n : ℕ) (e : End) (why : Option PullFault) (pulled : Option Pulled) → broken ≡ [] → IsEndAt at_start [] e → Ended e n new.seen.state why pulled
        → ((o : Outcome) → IsEndOutcome n e o → IsSyncOutcome command (read rounds) o) → IsKeptAtAnyMoment (front old.seen.state) mid left e.commits → ((p : Printed) → end_printed e.fault n e.count ≡ Some p → IsDue p d)
        → dial_left.faults ≡ dial.faults → SyncsBy command x Tells (printed d).status rounds broken (read rounds) e.commits
    ended_by rounds broken n e why pulled none at_end ended outcome kept due same_count =
        let text = some_printed e.fault n e.count at_end.told in
        let o = with_commits text.0 e.commits in
        let is : IsSyncOutcome command (read rounds) o = outcome o (text.0, text.1, refl) in
        by_due text.0 o is (same_at at_start e.state new.seen.state e.commits ended.state at_end.stands) refl refl (due text.0 text.1)
      where
        by_due : (text : Printed) (o : Outcome) → IsSyncOutcome command (read rounds) o → IsAt at_start new.seen.state e.commits → text ≡ printed_of o → o.commits ≡ e.commits → IsDue text d → SyncsBy command x Tells (printed d).status rounds broken (read rounds) e.commits
        by_due text o is at same commits (inl told) =
            at_by rounds broken e.commits text told (inl (o, is, sym commits)) (inl (o, none, is, commits, same)) at kept (λ other. same_count)
        by_due text o is at same commits (inr told) =
            at_by rounds broken e.commits no_memory told (inl (o, is, sym commits)) (inr (inr (inr (inl (inl none, refl))))) at kept (λ other. same_count)

    -- ---- a sync over the dial, of whatever kind

    module _ (k : Kind) (IsDueK : Rounds → List ℕ → Type 0) (Reads : Reading) (sound : IsSound k IsDueK Reads at_start)
        (outcome : (rounds : Rounds) (e : End) (o : Outcome) → k.Is rounds e → IsEndOutcome (length rounds) e o → IsSyncOutcome command (read rounds) o)
        (so_far : (rounds : Rounds) (commits : List (List Record)) → k.SoFar rounds commits → AreCommitsSoFar command (read rounds) commits)
        (asked : (rounds : Rounds) (body : List ℕ) → IsDueK rounds body → IsAsked command (read rounds) body)
        (cut_off : (rounds : Rounds) (commits : List (List Record)) (far : Far) → (AreCommitsBefore command (read rounds) far.done × (far.due ≡ commits)) → AreCutOff command (read rounds) commits far)
        (file_due : (rounds : Rounds) (commits : List (List Record)) → ((done : List (List Record)) × AreCommitsBefore command (read rounds) done × (commits ≢ done)) ⊎ ReadsContent command (read rounds) commits (λ name s. ⊤)
        → IsFileDue command (read rounds) commits (both peer peer_left))
        (reads : (rounds : Rounds) (commits : List (List Record)) (Says : List ℕ → State → Type 0) → Reads rounds commits Says → ReadsContent command (read rounds) commits Says)
        (rounds : Rounds) (broken : List Connection)
        (kept : (commits : List (List Record)) → AreCommitsOf k.Is k.SoFar rounds commits → IsKeptAtAnyMoment (front old.seen.state) mid left commits) where
      abbrev pub Came : Type 0
      Came = (commits : List (List Record)) × SyncsBy command x Tells (printed d).status rounds broken (read rounds) commits

      led_by : (commits : List (List Record)) → AreCommitsOf k.Is k.SoFar rounds commits → AreCommits command (read rounds) commits
      led_by commits (inl (e, is, same)) =
          let text = some_printed e.fault (length rounds) e.count (sound.whole rounds e is).told in
          let o = with_commits text.0 e.commits in inl (o, outcome rounds e o is (text.0, text.1, refl), same)
      led_by commits (inr h) = inr (so_far rounds commits h)

      before_by : (done : List (List Record)) → AreBefore k rounds done → AreCommitsBefore command (read rounds) done
      before_by done (first, last, split, h) = (first, last, split, so_far first done h)

      -- all but the last round's commit was made
      abbrev all_but : List (List Record) → List (List Record) → Far
      all_but done commits = record { done = done; due = commits }

      cut_by : (done commits : List (List Record)) → AreBefore k rounds done → AreCutOff command (read rounds) commits (all_but done commits)
      cut_by done commits before = cut_off rounds commits (all_but done commits) (before_by done before, refl)

      whole_by : (why : Option PullFault) (pulled : Option Pulled) → IsWhole k.Is new.seen.state why pulled rounds broken
          → ((e : End) (p : Printed) → Ended e (length rounds) new.seen.state why pulled → end_printed e.fault (length rounds) e.count ≡ Some p → IsDue p d) → dial_left.faults ≡ dial.faults → Came
      whole_by why pulled (none, (e, is, ended)) due same_count = (
        e.commits,
        ended_by rounds broken (length rounds) e why pulled none (sound.whole rounds e is) ended (λ o end. outcome rounds e o is end) (kept e.commits (inl (e, is, refl))) (λ p text. due e p ended text) same_count,
      )

      refused_by : (why : PullFault) → IsWhole k.Is new.seen.state (Some why) None rounds broken → IfSome (fault_printed why) (λ o. IsDue o d) → dial_left.faults ≡ dial.faults → Came
      refused_by why is due same_count = whole_by (Some why) None is (λ e p ended text. due_err (length rounds) new.seen.state e d p text why ended due) same_count

      lost : Rose dial.faults dial_left.faults → k.IsLeftOff IsBrokenOff broken 1 rounds new.seen.state → printed d ≡ link_fault → Came
      lost rose off told =
          let l = sound.left_off IsBrokenOff broken 1 rounds new.seen.state off in (
            l.commits,
            at_by rounds broken l.commits link_fault told (led_by l.commits (inr l.so_far))
                (inr (inr (inl (rose, record { due = (l.due.0, asked rounds l.due.0 l.due.1); few = l.few; sent = sent_as IsBrokenOff broken (IsDueK rounds) (IsAsked command (read rounds)) (asked rounds) l.sent }, refl))))
                l.stands (kept l.commits (inr l.so_far)) (λ other. absurd (other refl)),
          )

      failed_by : IsUncommittedAt k at_start rounds new.seen.state ⊎ IsUnreadAt k Reads at_start rounds new.seen.state (λ name s. ⊤) → Rose old.seen.state.faults new.seen.state.faults → broken ≡ []
          → printed d ≡ disk_fault → dial_left.faults ≡ dial.faults → Came
      failed_by (inr c) rose none told same_count = (
        c.commits,
        synced_by rounds broken c.commits (made_all c.commits) disk_fault told (inl (led_by c.commits (inr c.so_far)))
            (inr (inl (none, inl (rose_file rose, peer_steady, file_due rounds c.commits (inr (reads rounds c.commits (λ name s. ⊤) c.reads))), refl))) (inl (refl, refl))
            (inl (holds left new (record at_start { faults = new.seen.state.faults }) c.commits whole c.stands)) (moments_all 4 c.commits (kept c.commits (inr c.so_far))) peer_kept
            (λ other. absurd (other refl)) (λ other. same_count),
      )
      failed_by (inl c) rose none told same_count = (
        c.commits,
        synced_by rounds broken c.commits (all_but c.done c.commits) disk_fault told (inl (led_by c.commits c.are))
            (inr (inl (none, inl (rose_file rose, peer_steady, file_due rounds c.commits (inl (c.done, before_by c.done c.before, c.others))), refl))) (inr (refl, none, cut_by c.done c.commits c.before))
            (inr (refl, rose_file rose, holds_either left new at_start (all_but c.done c.commits) whole c.stands)) (moments_by c.commits (kept c.commits c.are)) peer_kept (λ other. absurd (other refl)) (λ other. same_count),
      )

      failed : Rose old.seen.state.faults new.seen.state.faults → broken ≡ [] → k.IsFailed rounds new.seen.state → printed d ≡ disk_fault → dial_left.faults ≡ dial.faults → Came
      failed rose none is told same_count = failed_by (sound.failed rounds new.seen.state is) rose none told same_count

      -- a content is damaged, and no call of the disks failed
      damaged_by : (name found : List ℕ) → broken ≡ [] → k.IsDamaged name found rounds new.seen.state → printed d ≡ damaged name found → dial_left.faults ≡ dial.faults → Came
      damaged_by name found none is told same_count = by_read (sound.damaged name found rounds new.seen.state is)
        where
          by_read : IsUnreadAt k Reads at_start rounds new.seen.state (λ asked s. (asked ≡ name) × IsSpoilt s name found) × (new.seen.state.faults ≡ at_start.faults) → Came
          by_read (c, steady) =
              let at = subst (λ (n : ℕ). IsAt (record at_start { faults = n }) new.seen.state c.commits) steady c.stands in (
                c.commits,
                at_by rounds broken c.commits (damaged name found) told (led_by c.commits (inr c.so_far))
                    (inr (inr (inr (inr (name, found, none, reads rounds c.commits (λ asked s. (asked ≡ name) × IsSpoilt s name found) c.reads, refl)))))
                    at (kept c.commits (inr c.so_far)) (λ other. same_count),
              )

      -- no memory before the first round, behind some rounds, or in the midst of a reply
      unbegun : rounds ≡ [] → broken ≡ [] → new.seen.state ≡ old.seen.state → printed d ≡ no_memory → dial_left.faults ≡ dial.faults → Came
      unbegun first none same told same_count =
          let are : AreCommitsOf k.Is k.SoFar rounds [] = inr (subst (λ (rs : Rounds). k.SoFar rs []) (sym first) sound.none) in (
            [],
            at_by rounds broken [] no_memory told (led_by [] are) (inr (inr (inr (inl (inl none, refl))))) (same_at at_start old.seen.state new.seen.state [] same fresh) (kept [] are) (λ other. same_count),
          )

      left_off : k.IsLeftOff IsLeft broken (length broken) rounds new.seen.state → printed d ≡ no_memory → dial_left.faults ≡ dial.faults → Came
      left_off off told same_count =
          let l = sound.left_off IsLeft broken (length broken) rounds new.seen.state off in (
            l.commits,
            at_by rounds broken l.commits no_memory told (led_by l.commits (inr l.so_far))
                (inr (inr (inr (inl (inr (record { due = (l.due.0, asked rounds l.due.0 l.due.1); few = l.few; sent = sent_as IsLeft broken (IsDueK rounds) (IsAsked command (read rounds)) (asked rounds) l.sent }), refl)))))
                l.stands (kept l.commits (inr l.so_far)) (λ other. same_count),
          )

      -- what a crash leaves is said by the commits that were made
      in_part : broken ≡ [] → k.IsBroken rounds new.seen.state
          → ((first : Rounds) (last : Round (List ℕ) Exchanged) (done : List (List Record)) → rounds ≡ first ++ last ∷ [] → k.SoFar first done → IsKeptAtAnyMoment (front old.seen.state) mid left done) → printed d ≡ no_memory → dial_left.faults ≡ dial.faults → Came
      in_part none is kept_so told same_count =
          let b = sound.broken rounds new.seen.state is in
          let before = b.before in (
            b.commits,
            synced_by rounds broken b.commits (all_but b.done b.commits) no_memory told (inl (led_by b.commits b.are)) (inr (inr (inr (inl (inl none, refl))))) (inr (refl, none, cut_by b.done b.commits before))
                (inl (holds left new at_start b.done whole b.stands)) (moments_by b.done (kept_so before.0 before.1 b.done before.2 before.3)) peer_kept (λ other. (steady_by (b.stands).steady, peer_steady)) (λ other. same_count),
          )

      pub came : (result : Result Pulled PullFault) → IsSynced k old.seen.state new.seen.state dial.faults dial_left.faults (IsKeptAtAnyMoment (front old.seen.state) mid left) result rounds broken → IsDialCounted dial dial_left result → IsSyncDue result d → Came
      came (Ok pulled) is same due = whole_by None (Some pulled) is (λ e p ended text. due_ok (length rounds) new.seen.state e d p text pulled ended due) same
      came (Err (fault.NotEmpty len)) is same due = refused_by (fault.NotEmpty len) is due same
      came (Err (fault.NotRepository at)) is same due = refused_by (fault.NotRepository at) is tt same
      came (Err (fault.Project found)) is same due = refused_by (fault.Project found) is due same
      came (Err (fault.Stopped faults)) is same due = refused_by (fault.Stopped faults) is tt same
      came (Err fault.Link) is same due = lost is.0 is.1 due
      came (Err fault.Disk) is same due = failed is.0 is.1 is.2 due same
      came (Err (fault.Peer why)) is same due = refused_by (fault.Peer why) is due same
      came (Err (fault.TooLarge name size)) is same due = refused_by (fault.TooLarge name size) is due same
      came (Err (fault.Full name)) is same due = refused_by (fault.Full name) is due same
      came (Err (fault.Missing name)) is same due = refused_by (fault.Missing name) is due same
      came (Err (fault.Damaged name found)) is same due = damaged_by name found is.0 is.1 due same
      came (Err fault.Rounds) is same due = refused_by fault.Rounds is due same
      came (Err fault.Memory) (inl (first, none, left_as)) same due = unbegun first none left_as due same
      came (Err fault.Memory) (inr (inl off)) same due = left_off off due same
      came (Err fault.Memory) (inr (inr (none, is, kept_so))) same due = in_part none is kept_so due same
