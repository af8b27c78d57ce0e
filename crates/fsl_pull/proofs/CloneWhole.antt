-- A clone onto a disk, by what its parts say.
use Rattle.std.specs.Prelude.{◌≡◌, ◌≢◌, ℕ, ◌+◌, ◌≤◌, ◌==◌, ◌⊎◌, Bool, false, List, [], ◌∷◌, length, Option, Some, None, is_some, IsSome, Result, Ok, Err, MatchBool, MatchOption, IsTrue}
use Rattle.std.proofs.Common.{refl, sym, ap, subst, ◌∙◌, inl, inr, arith}
use Rattle.std.proofs.lemmas.Bool.Decides.{nat_tests}
use Rattle.fsl_order.specs.Causes.{Rose}
use Rattle.fsl_disk.specs.Disk.{DiskState, IsModelled, Told, Keeps, Quiet, LeavesOnly}
use Rattle.fsl_disk.proofs.Moments.{and_then, modelled_after, quiet_on, quiet_moments}
use Rattle.fsl_outside.specs.Connections.{LinkState}
use Rattle.fsl_record.specs.declared.Config.{Config}
use Rattle.fsl_record.specs.declared.Record.{Record}
use Rattle.fsl_journal.specs.File.{IsFileOf}
use Rattle.fsl_journal.specs.Log.{IsNoFile, BeforeOrAll}
use Rattle.fsl_wire.specs.declared.WireCard.{WireCard}
use Rattle.fsl_http.specs.Responses.{Exchanged, IsBrokenOff, IsLeft}
use Rattle.fsl_http.specs.Exchanges.{IsExchangeOf}
use Rattle.fsl_repo.specs.Machine.{State}
use Rattle.fsl_repo.specs.Whole.{Whole, Seen, front, opened, is_modelled, log_of, IsWholeOn}
use Rattle.fsl_pull.specs.declared.Login.{Login}
use Rattle.fsl_pull.specs.declared.PeerFault.{PeerFault}
use Rattle.fsl_pull.specs.declared.PeerFault.TheVariants as peer
use Rattle.fsl_pull.specs.declared.Pulled.{Pulled}
use Rattle.fsl_pull.specs.declared.PullFault.{PullFault}
use Rattle.fsl_pull.specs.declared.PullFault.TheVariants as fault
use Rattle.fsl_pull.specs.Rounds.{Round, End, Then, ends, IsSync, most_rounds}
use Rattle.fsl_pull.specs.Dialled.{Rounds}
use Rattle.fsl_pull.specs.Replies.{IsReplyRead}
use Rattle.fsl_pull.specs.Kept.{all_of_them, StandsForSome}
use Rattle.fsl_pull.specs.Pulls.{unread}
use Rattle.fsl_pull.specs.Clones.{Cloning, project_in, config_of, first_record, begun_with, IsCloned, IsCloneReply, CloneAsks, CloneRound, clone_start, not_empty_end, IsClone}
use Rattle.fsl_pull.specs.Asking.{IsDialCounted}
use Rattle.fsl_pull.specs.Turns.{commits_of}
use Rattle.fsl_pull.specs.Calls.{dialled}
use Rattle.fsl_pull.specs.CloneCalls.{HasLength, IsEmptied, IsLeftAs, IsLostAs, NoneOr, IsKeptSince, CloneOf, as_before, made, IsUnmade, IsCloneCall, UnlessDisk, clone_onto, IsClonedOver}
use Rattle.fsl_pull.specs.CloneTurns.{clone_bytes, IsUnreplied, IsMadeBy, IsUnmadeBy, IsUnbegun, clone_within, HasCommitted, HasLost, StandsFor, StandsForEither, IsKeptFrom, IsClonedOn, IsClosedOn}
use Rattle.fsl_pull.proofs.OneEnd.{read_one}
use Rattle.fsl_pull.proofs.DialCounts.{counts_on}
use Rattle.fsl_pull.proofs.DialLemmas.{all_of, cut_off, idle, none_joined}
use Rattle.fsl_pull.proofs.CloneAnswers.{cut, left_off, refused, in_part, unmade_by_disk, differs, forestalled, no_round, unless_on, unless_all, call_on}
use Rattle.fsl_pull.proofs.CloneTurnLemmas.{cloned_longer}
use Rattle.fsl_pull.proofs.CloneMaking.{empty_is_none, same_kind}
use Rattle.fsl_pull.proofs.KeptLemmas.{itself_quiet}

-- ---- the repository is closed

-- what is committed in it is in its file
stands_by : {D : Type 0} (disk : DiskState) (r : Whole D) → IsWholeOn disk r → r.seen.state.stopped ≡ None → (commits : List (List Record)) → HasCommitted r.seen.state commits → StandsFor disk commits
stands_by disk r whole runs commits (some, are) = (
  some,
  λ held told. subst (IsFileOf held) are ((whole.belongs).reads runs held told).0.file,
  λ model c left. subst (IsFileOf c) are (whole.exact runs model c left),
)

-- and where a commit failed each image has what was committed before it, or all
lost_by : {D : Type 0} (disk : DiskState) (r : Whole D) → IsWholeOn disk r → (done all : List (List Record)) → HasLost r.seen.state done all → StandsForEither disk done all
lost_by disk r whole done all ((some, are), is) model c left = by ((whole.belongs).stands model c left)
  where
    by : BeforeOrAll (log_of r) c → IsFileOf c (all_of_them done) ⊎ IsFileOf c (all_of_them all)
    by (inl before) = inl (subst (IsFileOf c) are before)
    by (inr every) = inr (subst (IsFileOf c) is every)

pub closed : {D : Type 0} (login : Option Login) (reply : List WireCard) (d e : LinkState) (before after : DiskState) (old : Seen) (r : Whole D) (result : Result Pulled PullFault) → IsWholeOn after r → UnlessDisk (r.seen.state.stopped ≡ None) result
    → IsClonedOn login reply d e before after old r.seen result → IsClosedOn login reply d e before after old result
closed login reply d e before after old r result whole runs call server fields l0 project first is =
    let n = old.state.faults in
    let kind = old.state.honest in
    let Kept : List (List Record) → Type 0 = IsKeptFrom before after (first_record project server fields ∷ []) in
    let k = clone_within server fields login n kind (HasCommitted r.seen.state) (HasLost r.seen.state) in
    subst (λ (faults : ℕ). IsCloneCall (clone_within server fields login n kind (StandsFor after) (StandsForEither after)) (dialled l0 e) faults Kept result) whole.faults
    (call_on k (λ len. len ≡ 0) (StandsFor after) (StandsForEither after) ⊥ (λ len h. h) (lost_by after r whole) (λ h. h) Kept Kept (dialled l0 e) r.seen.state.faults result
    (unless_on (r.seen.state.stopped ≡ None) ((commits : List (List Record)) → HasCommitted r.seen.state commits → StandsFor after commits) result (λ running. stands_by after r whole running) runs)
    (λ commits h. h) (call server fields l0 project first is))

-- ---- the file that was found

pub long_empty : (o : Option (List ℕ)) → ((held : List ℕ) → o ≡ Some held → held ≡ []) → HasLength o 0
long_empty None empty = tt
long_empty (Some held) empty = sym (ap (λ (x : List ℕ). length x) (empty held refl))

pub long_told : (o : Option (List ℕ)) (len : ℕ) → ((held : List ℕ) → o ≡ Some held → len ≡ length held) → HasLength o len
long_told None len is = tt
long_told (Some held) len is = is held refl

none_by : (o : Option (List ℕ)) → is_some o ≡ false → o ≡ None
none_by None e = refl
none_by (Some held) e = absurd (cc)

pub none_told : (before after : DiskState) → Keeps before after → before.contents ≡ None → after.contents ≡ None
none_told before after keeps none = none_by after.contents (keeps.tells ∙ ap (λ (o : Option (List ℕ)). is_some o) none)

module _ {D : Type 0} (disk : D → DiskState) (server : List ℕ) (fields : List (List ℕ)) (login : Option Login) (l0 : LinkState) (before : D) (empty : Told (disk before) (λ held. held ≡ [])) where
  abbrev n : ℕ
  n = (disk before).faults

  abbrev kind : Bool
  kind = is_modelled (disk before)

  abbrev The : D → CloneOf
  The x = clone_onto server fields login (disk before) (disk x)

  abbrev Kept : D → List (List Record) → Type 0
  Kept x = IsKeptSince disk before x

  abbrev pub Tells : LinkState → D → Result Pulled PullFault → Type 0
  Tells l x result = IsClonedOver disk server fields login l0 l before x result

  nothing : (x : D) → x ≡ before → Quiet (disk before) (disk x)
  nothing x same = subst (λ (y : D). Quiet (disk before) (disk y)) (sym same) (itself_quiet (disk before))

  few : 0 + 1 ≤ most_rounds
  few = omega arith

  long : HasLength (disk before).contents 0
  long = long_empty (disk before).contents empty

  -- ---- there is no first reply

  pub unreplied : (l : LinkState) (x : D) (why : PullFault) → x ≡ before → l0.faults ≤ l.faults → IsUnreplied l0 l (clone_bytes login 1) why → Tells l x (Err why)
  unreplied l x (fault.Peer why) same later (came, exchange, read) =
      let none = nothing x same in
      refused (The x) (Kept x) l0 l0 l (disk x).faults long [] (clone_start n kind) refl (none_joined (all_of l0)) (unread (clone_start n kind) why)
      (record { request = clone_bytes login 1; reply = came }, exchange, (refl, (Err why, read, refl))) (fault.Peer why) few tt refl none none
  unreplied l x fault.Link same later (rose, inl idles) =
      let none = nothing x same in
      cut (The x) (Kept x) l0 l0 l (disk x).faults long [] (clone_start n kind) refl (none_joined (all_of l0)) rose few
      (idle l0 l0 l [] (none_joined (all_of l0)) IsBrokenOff (CloneAsks login (clone_start n kind)) idles) none none
  unreplied l x fault.Link same later (rose, inr joins) =
      let none = nothing x same in
      cut (The x) (Kept x) l0 l0 l (disk x).faults long [] (clone_start n kind) refl (none_joined (all_of l0)) rose few
      (cut_off l0 l0 l [] (none_joined (all_of l0)) IsBrokenOff (CloneAsks login (clone_start n kind)) (clone_bytes login 1) joins refl) none none
  unreplied l x fault.Memory same later (inl idles) =
      let none = nothing x same in
      left_off (The x) (Kept x) l0 l0 l (disk x).faults long [] (clone_start n kind) refl (none_joined (all_of l0)) few
      (idle l0 l0 l [] (none_joined (all_of l0)) IsLeft (CloneAsks login (clone_start n kind)) idles) none none
  unreplied l x fault.Memory same later (inr joins) =
      let none = nothing x same in
      left_off (The x) (Kept x) l0 l0 l (disk x).faults long [] (clone_start n kind) refl (none_joined (all_of l0)) few
      (cut_off l0 l0 l [] (none_joined (all_of l0)) IsLeft (CloneAsks login (clone_start n kind)) (clone_bytes login 1) joins refl) none none
  unreplied l x (fault.NotEmpty len) same later h = absurd h
  unreplied l x (fault.NotRepository place) same later h = absurd h
  unreplied l x (fault.Project found) same later h = absurd h
  unreplied l x (fault.Stopped faults) same later h = absurd h
  unreplied l x fault.Disk same later h = absurd h
  unreplied l x (fault.TooLarge name size) same later h = absurd h
  unreplied l x (fault.Full name) same later h = absurd h
  unreplied l x (fault.Missing name) same later h = absurd h
  unreplied l x (fault.Damaged name found) same later h = absurd h
  unreplied l x fault.Rounds same later h = absurd h

  -- ---- a first reply

  module _ (l1 : LinkState) (came : Exchanged) (reply : List WireCard) (exchange : IsExchangeOf l0 l1 (clone_bytes login 1) came) (read : IsReplyRead came (Ok reply)) where
    abbrev first : Round (List ℕ) Exchanged
    first = record { request = clone_bytes login 1; reply = came }

    -- whatever is said of it, the commits begin with that of the Config
    begins_so : (project : List ℕ) → project_in reply ≡ Some project → (step : Then Cloning) → CloneRound server fields login (clone_start n kind) first step
        → (more : List (List Record)) × (commits_of step ≡ (first_record project server fields ∷ []) ∷ more)
    begins_so project pushes step (asks, (found, reads, k)) =
        let same : found ≡ Ok reply = read_one came (Ok reply) found read reads in
        let start = clone_start n kind in
        let cloned : IsCloned (begun_with start (first_record project server fields)) reply step =
        subst (λ (o : Option (List ℕ)). MatchOption o (step ≡ ends (unread start peer.NoPush)) (λ project. IsCloned (begun_with start (first_record project server fields)) reply step)) pushes
        (subst (λ (x : Result (List WireCard) PeerFault). IsCloneReply server fields start x step) same k) in
        cloned_longer (begun_with start (first_record project server fields)) reply step cloned

    some_project : (project : List ℕ) → project_in reply ≡ Some project → IsSome (project_in reply)
    some_project project is = subst (λ (o : Option (List ℕ)). IsSome o) (sym is) refl

    module _ (x : D) (project : List ℕ) (pushes : project_in reply ≡ Some project) (moments : IsEmptied (disk before) → LeavesOnly (disk before) (disk x) (NoneOr (first_record project server fields ∷ []))) where
      kept_so : (step : Then Cloning) → CloneRound server fields login (clone_start n kind) first step → Kept x (commits_of step)
      kept_so step k = let b = begins_so project pushes step k in subst (Kept x) (sym b.1) (λ emptied. inl (moments emptied))

      unmade : IsUnmade (The x) (first ∷ [])
      unmade = record { empty = long; last = first; one = refl; asked = refl; reply = reply; read = read; pushes = some_project project pushes }

      unmade_answer : (why : PullFault) → Keeps (disk before) (disk x) → IsUnmadeBy (config_of project server fields) (disk before) (disk x) why → Tells l1 x (Err why)
      unmade_answer fault.Disk keeps rose = unmade_by_disk (The x) (Kept x) l0 l0 l1 (disk x).faults first exchange unmade kept_so rose
      unmade_answer fault.Memory keeps (inl left) =
          in_part (The x) (Kept x) l0 l0 l1 (disk x).faults long [] (clone_start n kind) refl (none_joined (all_of l0)) first reply [] exchange few refl read (as_before refl) left.left left.left kept_so
      unmade_answer fault.Memory keeps (inr left) =
          in_part (The x) (Kept x) l0 l0 l1 (disk x).faults long [] (clone_start n kind) refl (none_joined (all_of l0)) first reply ((first_record project server fields ∷ []) ∷ []) exchange few refl read (made project refl pushes refl)
          left.left (λ emptied. inl (moments emptied)) kept_so
      unmade_answer (fault.NotRepository place) keeps (same, none) =
          differs (The x) (Kept x) l0 l0 l1 (disk x).faults first exchange unmade kept_so place (none_told (disk before) (disk x) keeps none)
      unmade_answer (fault.NotEmpty len) keeps (same, none, some, quiet) =
          forestalled (The x) (Kept x) l0 l0 l1 (disk x).faults first exchange unmade kept_so len (none_told (disk before) (disk x) keeps none) some quiet
      unmade_answer (fault.Project found) keeps h = absurd h
      unmade_answer (fault.Stopped faults) keeps h = absurd h
      unmade_answer fault.Link keeps h = absurd h
      unmade_answer (fault.Peer why) keeps h = absurd h
      unmade_answer (fault.TooLarge name size) keeps h = absurd h
      unmade_answer (fault.Full name) keeps h = absurd h
      unmade_answer (fault.Missing name) keeps h = absurd h
      unmade_answer (fault.Damaged name found) keeps h = absurd h
      unmade_answer fault.Rounds keeps h = absurd h

    -- the reply has no project
    no_push : (x : D) → x ≡ before → project_in reply ≡ None → Tells l1 x (Err (fault.Peer peer.NoPush))
    no_push x same without =
        let none = nothing x same in
        let start = clone_start n kind in
        let e : Then Cloning = ends (unread start peer.NoPush) in
        let said : IsCloneReply server fields start (Ok reply) e =
        subst (λ (o : Option (List ℕ)). MatchOption o (e ≡ ends (unread start peer.NoPush)) (λ project. IsCloned (begun_with start (first_record project server fields)) reply e)) (sym without) refl in
        refused (The x) (Kept x) l0 l0 l1 (disk x).faults long [] start refl (none_joined (all_of l0)) (unread start peer.NoPush) (first, exchange, (refl, (Ok reply, read, said)))
        (fault.Peer peer.NoPush) few tt refl none none

    abbrev Moments : D → Type 0
    Moments x = (project : List ℕ) → project_in reply ≡ Some project → IsEmptied (disk before) → LeavesOnly (disk before) (disk x) (NoneOr (first_record project server fields ∷ []))

    pub unbegun : (x : D) (why : PullFault) → Keeps (disk before) (disk x) → Moments x → IsUnbegun disk server fields reply before x why → Tells l1 x (Err why)
    unbegun x (fault.Peer why) keeps moments (is, without, same) =
        subst (λ (w : PeerFault). Tells l1 x (Err (fault.Peer w))) (sym is) (no_push x same without)
    unbegun x fault.Disk keeps moments (project, pushes, h) = unmade_answer x project pushes (moments project pushes) fault.Disk keeps h
    unbegun x fault.Memory keeps moments (project, pushes, h) = unmade_answer x project pushes (moments project pushes) fault.Memory keeps h
    unbegun x (fault.NotRepository place) keeps moments (project, pushes, h) = unmade_answer x project pushes (moments project pushes) (fault.NotRepository place) keeps h
    unbegun x (fault.NotEmpty len) keeps moments (project, pushes, h) = unmade_answer x project pushes (moments project pushes) (fault.NotEmpty len) keeps h
    unbegun x (fault.Project found) keeps moments (project, pushes, h) = absurd h
    unbegun x (fault.Stopped faults) keeps moments (project, pushes, h) = absurd h
    unbegun x fault.Link keeps moments (project, pushes, h) = absurd h
    unbegun x (fault.TooLarge name size) keeps moments (project, pushes, h) = absurd h
    unbegun x (fault.Full name) keeps moments (project, pushes, h) = absurd h
    unbegun x (fault.Missing name) keeps moments (project, pushes, h) = absurd h
    unbegun x (fault.Damaged name found) keeps moments (project, pushes, h) = absurd h
    unbegun x fault.Rounds keeps moments (project, pushes, h) = absurd h

    -- ---- the repository was begun

    module _ (mid x : D) (old : Seen) (project : List ℕ) (pushes : project_in reply ≡ Some project) (is : IsMadeBy (config_of project server fields) n kind old) (moments : Moments mid) (stands : (c : List ℕ) → IsModelled (disk mid) → (disk mid).images c → IsFileOf c (front old.state)) (first_keeps : Keeps (disk before) (disk mid)) (keeps : Keeps (disk mid) (disk x)) where
      abbrev F : List Record
      F = first_record project server fields ∷ []

      is_n : old.state.faults ≡ n
      is_n = ap (λ (t : State). t.faults) is.state

      is_kind : old.state.honest ≡ kind
      is_kind = ap (λ (t : State). t.honest) is.state

      modelled_on : IsModelled (disk before) → IsModelled (disk x)
      modelled_on model = modelled_after (disk mid) (disk x) keeps (modelled_after (disk before) (disk mid) first_keeps model)

      leaves_on : (commits : List (List Record)) → StandsFor (disk x) commits → IsLeftAs (disk before) (disk x) commits
      leaves_on [] (some, file, images) = absurd (some refl)
      leaves_on (commit ∷ commits) (some, file, images) = record { file = file; images = λ model c left. images (modelled_on model) c left }

      loses_on : (done all : List (List Record)) → StandsForEither (disk x) done all → IsLostAs (disk before) (disk x) done all
      loses_on done all h model c left = h (modelled_on model) c left

      kept_on : (commits : List (List Record)) → IsKeptFrom (disk mid) (disk x) F commits → Kept x commits
      kept_on commits (more, same, since) =
          subst (Kept x) (sym same) (λ emptied.
          let model = modelled_after (disk before) (disk mid) first_keeps emptied.model in
          inr (mid, moments project pushes emptied, (λ c left. subst (IsFileOf c) (ap front is.state) (stands c model left)), since model))

      pub begun_answer : (l : LinkState) (result : Result Pulled PullFault) → l0.faults ≤ l1.faults → IsClosedOn login reply l1 l (disk mid) (disk x) old result → Tells l x result
      begun_answer l result later call =
          let k = clone_within server fields login n kind (StandsFor (disk x)) (StandsForEither (disk x)) in
          let told : IsCloneCall (clone_within server fields login old.state.faults old.state.honest (StandsFor (disk x)) (StandsForEither (disk x))) (dialled l0 l) (disk x).faults (IsKeptFrom (disk mid) (disk x) F) result =
          call server fields l0 project first
          (record { exchange = exchange; later = later; asked = refl; read = read; pushes = pushes; made = record { state = is.state ∙ (λ i. opened F (sym is_n i) (sym is_kind i)); loaded = is.loaded } }) in
          call_on k (HasLength (disk before).contents) (IsLeftAs (disk before) (disk x)) (IsLostAs (disk before) (disk x)) ((disk x).contents ≡ None)
          (λ len zeroes. subst (HasLength (disk before).contents) (sym zeroes) long) loses_on (λ never. absurd never) (IsKeptFrom (disk mid) (disk x) F) (Kept x) (dialled l0 l) (disk x).faults result
          (unless_all ((commits : List (List Record)) → StandsFor (disk x) commits → IsLeftAs (disk before) (disk x) commits) result leaves_on)
          kept_on (
          subst (λ (b : Bool). IsCloneCall (clone_within server fields login n b (StandsFor (disk x)) (StandsForEither (disk x))) (dialled l0 l) (disk x).faults (IsKeptFrom (disk mid) (disk x) F) result) is_kind
          (subst (λ (m : ℕ). IsCloneCall (clone_within server fields login m old.state.honest (StandsFor (disk x)) (StandsForEither (disk x))) (dialled l0 l) (disk x).faults (IsKeptFrom (disk mid) (disk x) F) result) is_n told)
          )

-- what wasn't begun left the count, but for a fault of the disk
unmade_same : (config : Config) (before after : DiskState) (why : PullFault) → IsUnmadeBy config before after why → UnlessDisk {A = Pulled} (after.faults ≡ before.faults) (Err why)
unmade_same config before after fault.Disk h = tt
unmade_same config before after fault.Memory (inl left) = left.faults
unmade_same config before after fault.Memory (inr left) = left.faults
unmade_same config before after (fault.NotRepository place) h = h.0
unmade_same config before after (fault.NotEmpty len) h = h.0
unmade_same config before after (fault.Project found) h = absurd h
unmade_same config before after (fault.Stopped faults) h = absurd h
unmade_same config before after fault.Link h = absurd h
unmade_same config before after (fault.Peer why) h = absurd h
unmade_same config before after (fault.TooLarge name size) h = absurd h
unmade_same config before after (fault.Full name) h = absurd h
unmade_same config before after (fault.Missing name) h = absurd h
unmade_same config before after (fault.Damaged name found) h = absurd h
unmade_same config before after fault.Rounds h = absurd h

pub unbegun_same : {D : Type 0} (disk : D → DiskState) (server : List ℕ) (fields : List (List ℕ)) (reply : List WireCard) (before after : D) (why : PullFault) → IsUnbegun disk server fields reply before after why → UnlessDisk {A = Pulled} ((disk after).faults ≡ (disk before).faults) (Err why)
unbegun_same disk server fields reply before after (fault.Peer why) (is, none, same) = ap (λ d. (disk d).faults) same
unbegun_same disk server fields reply before after fault.Disk (project, pushes, h) = unmade_same (config_of project server fields) (disk before) (disk after) fault.Disk h
unbegun_same disk server fields reply before after fault.Memory (project, pushes, h) = unmade_same (config_of project server fields) (disk before) (disk after) fault.Memory h
unbegun_same disk server fields reply before after (fault.NotRepository place) (project, pushes, h) = unmade_same (config_of project server fields) (disk before) (disk after) (fault.NotRepository place) h
unbegun_same disk server fields reply before after (fault.NotEmpty len) (project, pushes, h) = unmade_same (config_of project server fields) (disk before) (disk after) (fault.NotEmpty len) h
unbegun_same disk server fields reply before after (fault.Project found) (project, pushes, h) = absurd h
unbegun_same disk server fields reply before after (fault.Stopped faults) (project, pushes, h) = absurd h
unbegun_same disk server fields reply before after fault.Link (project, pushes, h) = absurd h
unbegun_same disk server fields reply before after (fault.TooLarge name size) (project, pushes, h) = absurd h
unbegun_same disk server fields reply before after (fault.Full name) (project, pushes, h) = absurd h
unbegun_same disk server fields reply before after (fault.Missing name) (project, pushes, h) = absurd h
unbegun_same disk server fields reply before after (fault.Damaged name found) (project, pushes, h) = absurd h
unbegun_same disk server fields reply before after fault.Rounds (project, pushes, h) = absurd h

-- and the dial wasn't called
pub unbegun_counts : {D : Type 0} (disk : D → DiskState) (server : List ℕ) (fields : List (List ℕ)) (reply : List WireCard) (before after : D) (why : PullFault) (d e : LinkState) → IsUnbegun disk server fields reply before after why → e.faults ≡ d.faults → IsDialCounted {A = Pulled} d e (Err why)
unbegun_counts disk server fields reply before after fault.Link d e (project, pushes, h) same = absurd h
unbegun_counts disk server fields reply before after (fault.Peer why) d e h same = same
unbegun_counts disk server fields reply before after fault.Disk d e h same = same
unbegun_counts disk server fields reply before after fault.Memory d e h same = same
unbegun_counts disk server fields reply before after (fault.NotRepository place) d e h same = same
unbegun_counts disk server fields reply before after (fault.NotEmpty len) d e h same = same
unbegun_counts disk server fields reply before after (fault.Project found) d e h same = same
unbegun_counts disk server fields reply before after (fault.Stopped faults) d e h same = same
unbegun_counts disk server fields reply before after (fault.TooLarge name size) d e h same = same
unbegun_counts disk server fields reply before after (fault.Full name) d e h same = same
unbegun_counts disk server fields reply before after (fault.Missing name) d e h same = same
unbegun_counts disk server fields reply before after (fault.Damaged name found) d e h same = same
unbegun_counts disk server fields reply before after fault.Rounds d e h same = same

-- rounds behind a first request that left the dial's count
pub counts_since : (old before after : LinkState) (result : Result Pulled PullFault) → before.faults ≡ old.faults → IsDialCounted before after result → IsDialCounted old after result
counts_since old before after (Ok pulled) e h = h ∙ e
counts_since old before after (Err why) e h = counts_on Pulled Pulled old before after why e h

-- ---- the length of the file is asked for

pub not_zero : (len : ℕ) → len ≢ 0 → (len == 0) ≡ false
not_zero len h = grind (arith, nat_tests)

module _ {D : Type 0} (disk : D → DiskState) (server : List ℕ) (fields : List (List ℕ)) (login : Option Login) (l0 : LinkState) (d0 d1 : D) where
  abbrev pub Over : LinkState → D → D → Result Pulled PullFault → Type 0
  Over l x y result = IsClonedOver disk server fields login l0 l x y result

  -- the disk failed
  pub unmeasured : Rose (disk d0).faults (disk d1).faults → Quiet (disk d0) (disk d1) → Over l0 d0 d1 (Err fault.Disk)
  unmeasured rose quiet =
      no_round (clone_onto server fields login (disk d0) (disk d1)) (IsKeptSince disk d0 d1) l0 l0 l0 (disk d1).faults (Err fault.Disk) refl quiet (rose, refl, inl refl)

  -- the file has bytes
  pub has_bytes : (len : ℕ) → (len == 0) ≡ false → Told (disk d0) (λ held. len ≡ length held) → Quiet (disk d0) (disk d1) → Over l0 d0 d1 (Err (fault.NotEmpty len))
  has_bytes len some is quiet =
      let n = (disk d0).faults in
      let kind = is_modelled (disk d0) in
      let none : Rounds = [] in
      let end : End = not_empty_end n kind len in
      let is_end : IsClone server fields login len n kind none end =
      subst (λ (b : Bool). MatchBool b (IsSync (CloneRound server fields login) (clone_start n kind) none end) ((none ≡ []) × (end ≡ not_empty_end n kind len))) (sym some) (refl, refl) in
      no_round (clone_onto server fields login (disk d0) (disk d1)) (IsKeptSince disk d0 d1) l0 l0 l0 (disk d1).faults (Err (fault.NotEmpty len)) refl quiet (inl (
        refl,
        (
          len,
          long_told (disk d0).contents len is,
          (
            end,
            is_end,
            refl,
            inl refl,
            quiet,
          ),
        ),
      ))

  -- it has none, and the clone goes on over the disk as it is now
  module _ (only_now : (c : List ℕ) → IsTrue (disk d0).is_model → (disk d0).since (disk d0).moment c → (disk d0).images c) (quiet : Quiet (disk d0) (disk d1)) (same : (disk d1).faults ≡ (disk d0).faults) where
    modelled_now : IsModelled (disk d0) → IsModelled (disk d1)
    modelled_now model = modelled_after (disk d0) (disk d1) quiet.keeps model

    emptied_on : IsEmptied (disk d0) → IsEmptied (disk d1)
    emptied_on h =
        record {
          model = modelled_now h.model;
          empty = λ c left. h.empty c (quiet.images (h.model).model c left);
        }

    before_it : IsEmptied (disk d0) → (commit : List Record) → LeavesOnly (disk d0) (disk d1) (NoneOr commit)
    before_it h commit =
        quiet_moments (disk d0) (disk d1) (NoneOr commit) quiet (h.model).model (λ c. only_now c (h.model).model)
        (λ c left. inl (subst IsNoFile (sym (h.empty c left)) empty_is_none))

    leaves_since : (x : D) (commits : List (List Record)) → IsLeftAs (disk d1) (disk x) commits → IsLeftAs (disk d0) (disk x) commits
    leaves_since x [] left = quiet_on (disk d0) (disk d1) (disk x) quiet left
    leaves_since x (commit ∷ commits) left = record { file = left.file; images = λ model c now. left.images (modelled_now model) c now }

    loses_since : (x : D) (done all : List (List Record)) → IsLostAs (disk d1) (disk x) done all → IsLostAs (disk d0) (disk x) done all
    loses_since x done all lost model c now = lost (modelled_now model) c now

    first_since : IsEmptied (disk d0) → (commit : List Record) (y : D) → LeavesOnly (disk d1) (disk y) (NoneOr commit) → LeavesOnly (disk d0) (disk y) (NoneOr commit)
    first_since h commit y run = and_then (disk d0) (disk d1) (disk y) (NoneOr commit) (before_it h commit) run

    either_since : (x : D) (commit : List Record) (more : List (List Record)) → IsEmptied (disk d0)
        → LeavesOnly (disk d1) (disk x) (NoneOr commit) ⊎ ((mid : D) × LeavesOnly (disk d1) (disk mid) (NoneOr commit) × ((c : List ℕ) → (disk mid).images c → IsFileOf c commit) × LeavesOnly (disk mid) (disk x) (StandsForSome commit more))
        → LeavesOnly (disk d0) (disk x) (NoneOr commit) ⊎ ((mid : D) × LeavesOnly (disk d0) (disk mid) (NoneOr commit) × ((c : List ℕ) → (disk mid).images c → IsFileOf c commit) × LeavesOnly (disk mid) (disk x) (StandsForSome commit more))
    either_since x commit more h (inl run) = inl (first_since h commit x run)
    either_since x commit more h (inr (mid, run, images, since)) = inr (mid, first_since h commit mid run, images, since)

    kept_since : (x : D) (commits : List (List Record)) → IsKeptSince disk d1 x commits → IsKeptSince disk d0 x commits
    kept_since x [] kept = quiet_on (disk d0) (disk d1) (disk x) quiet kept
    kept_since x (commit ∷ more) kept = λ h. either_since x commit more h (kept (emptied_on h))

    pub over_on : (l : LinkState) (x : D) (result : Result Pulled PullFault) → Over l d1 x result → Over l d0 x result
    over_on l x result call =
        let q : CloneOf = clone_onto server fields login (disk d0) (disk x) in
        let k : CloneOf = clone_onto server fields login (disk d1) (disk x) in
        subst (λ (b : Bool). IsCloneCall (record q { honest = b }) (dialled l0 l) (disk x).faults (IsKeptSince disk d0 x) result) (same_kind (disk d0) (disk d1) quiet.keeps)
        (subst (λ (n : ℕ). IsCloneCall (record q { faults = n; honest = is_modelled (disk d1) }) (dialled l0 l) (disk x).faults (IsKeptSince disk d0 x) result) same
        (call_on k (HasLength (disk d0).contents) (IsLeftAs (disk d0) (disk x)) (IsLostAs (disk d0) (disk x)) ((disk x).contents ≡ None)
        (λ len h. subst (λ (o : Option (List ℕ)). HasLength o len) quiet.contents h) (loses_since x) (λ h. h) (IsKeptSince disk d1 x) (IsKeptSince disk d0 x) (dialled l0 l) (disk x).faults result
        (unless_all ((commits : List (List Record)) → IsLeftAs (disk d1) (disk x) commits → IsLeftAs (disk d0) (disk x) commits) result (leaves_since x))
        (kept_since x) call))
