-- A clone as a loop of rounds, the first of which began its repository.
use Rattle.std.specs.Prelude.{◌≡◌, ◌≢◌, ℕ, ◌+◌, ◌<◌, ◌≤◌, Bool, List, [], ◌∷◌, ◌++◌, length, take, drop, Option, Some, None, Result, Ok, Err, MatchOption, IsTrue, if◌then◌else◌}
use Rattle.std.proofs.Common.{refl, sym, ap, subst, ◌∙◌, inl, inr, arith}
use Rattle.std.proofs.lemmas.List.{take_all}
use Rattle.fsl_order.specs.Causes.{Rose}
use Rattle.fsl_disk.specs.Disk.{DiskState, IsModelled, Keeps, LeavesOnly}
use Rattle.fsl_disk.proofs.Moments.{started, weaker, and_then, keeps_on, modelled_after}
use Rattle.fsl_outside.specs.Connections.{LinkState}
use Rattle.fsl_record.specs.declared.Record.{Record}
use Rattle.fsl_journal.specs.File.{IsFileOf}
use Rattle.fsl_wire.specs.declared.WireCard.{WireCard}
use Rattle.fsl_http.specs.Responses.{Exchanged, IsBrokenOff, IsLeft}
use Rattle.fsl_repo.specs.Machine.{State}
use Rattle.fsl_repo.specs.Whole.{Seen, front, stored, blobs}
use Rattle.fsl_pull.specs.declared.Login.{Login}
use Rattle.fsl_pull.specs.declared.PeerFault.{PeerFault}
use Rattle.fsl_pull.specs.declared.PeerFault.TheVariants as peer
use Rattle.fsl_pull.specs.declared.Pulled.{Pulled}
use Rattle.fsl_pull.specs.declared.PullFault.{PullFault}
use Rattle.fsl_pull.specs.declared.PullFault.TheVariants as fault
use Rattle.fsl_pull.specs.Rounds.{Round, Point, Then, goes_on, ends, Course, GoOn, state_of, most_rounds}
use Rattle.fsl_pull.specs.Dialled.{Rounds, Grows}
use Rattle.fsl_pull.specs.Kept.{all_of_them, StandsForSome}
use Rattle.fsl_pull.specs.Pulls.{unread}
use Rattle.fsl_pull.specs.Clones.{Cloning, first_record, begun_with, IsCloned, IsCloneReply, CloneAsks, CloneRound, clone_start}
use Rattle.fsl_pull.specs.Turns.{commits_of, AreCommitted, IsKeptBy, IsCarried, IsUncommitted, IsMade, ComesTo, TurnsTo}
use Rattle.fsl_pull.specs.Calls.{dialled}
use Rattle.fsl_pull.specs.CloneCalls.{CloneOf, as_before, made, committed_before, commits_before, IsCloneCall}
use Rattle.fsl_pull.specs.CloneTurns.{cloning, AsksFrom, BrokenClone, IsKeptOn, IsCloneTaken, IsCloneTurned, IsFirst, clone_within, HasCommitted, HasLost, IsKeptFrom}
use Rattle.fsl_pull.proofs.OneEnd.{read_one}
use Rattle.fsl_pull.proofs.RoundLemmas.{go_behind, length_behind}
use Rattle.fsl_pull.proofs.DialLemmas.{all_of, grown, cut_off, idle, none_joined}
use Rattle.fsl_pull.proofs.KeptLemmas.{all_some, some_more}
use Rattle.fsl_pull.proofs.SyncLoop.{Longer, rose_since}
use Rattle.fsl_pull.proofs.CloneTurnLemmas.{cloned_longer, round_longer}
use Rattle.fsl_pull.proofs.CloneAnswers.{cut, left_off, ended, refused, lost, in_part, too_many}

-- the commits begin with this one
abbrev pub Begins : List Record → List (List Record) → Type 0
Begins first commits = (more : List (List Record)) × (commits ≡ first ∷ more)

-- where a clone stands behind n rounds, of which none was the end
pub record IsAt {D : Type 0} (disk : D → DiskState) (server : List ℕ) (fields : List (List ℕ)) (login : Option Login) (project : List ℕ) (first : Round (List ℕ) Exchanged) (faults : ℕ) (honest : Bool) (l0 l : LinkState) (mid d : D) (s : Seen) (from n : ℕ) : Type 0 where
  pub rest : Rounds
  pub point : Point Cloning
  pub go : GoOn (CloneRound server fields login) (clone_start faults honest) (first ∷ rest) point
  pub state : point.state ≡ s.state
  pub memory : point.memory ≡ cloning from
  pub many : length (first ∷ rest) ≡ n
  pub grows : Grows (all_of l0) (all_of l) (first ∷ rest) []
  pub count : point.count ≡ stored s
  pub begins : Begins (first_record project server fields ∷ []) point.commits
  pub committed : AreCommitted [] point.state point.commits
  pub images : IsModelled (disk mid) → LeavesOnly (disk mid) (disk d) (StandsForSome [] point.commits)
  pub keeps : Keeps (disk mid) (disk d)
  pub counted : s.state.faults ≡ faults
  pub dial : l0.faults ≤ l.faults

begins_some : (first : List Record) (commits : List (List Record)) → Begins first commits → commits ≢ []
begins_some first commits b none = no (sym b.1 ∙ none)
  where
    no : first ∷ b.0 ≡ [] → ⊥
    no e = cc

-- all records are committed
all_committed : (s : State) → s.committed ≡ length s.records → s.records ≡ front s
all_committed s due = sym (take_all s.committed s.records (omega (arith, due)))

same_head : (a b : List Record) (xs ys : List (List Record)) → a ∷ xs ≡ b ∷ ys → b ≡ a
same_head a b xs ys e = cc

same_tail : (a b : List Record) (xs ys : List (List Record)) → a ∷ xs ≡ b ∷ ys → xs ≡ ys
same_tail a b xs ys e = cc

-- a file stands for some records, so it is behind the first commit
behind_first : (first : List Record) (more : List (List Record)) (c : List ℕ) → StandsForSome [] (first ∷ more) c → StandsForSome first more c
behind_first first more c ([], left, e, file) = absurd (file.fit)
behind_first first more c (d ∷ done, left, e, file) =
    (done, left, same_tail first d more (done ++ left) e, subst (λ (x : List Record). IsFileOf c (x ++ all_of_them done)) (same_head first d more (done ++ left) e) file)

module _ {D : Type 0} (disk : D → DiskState) (server : List ℕ) (fields : List (List ℕ)) (login : Option Login) (project : List ℕ) (first : Round (List ℕ) Exchanged) (l0 : LinkState) (mid : D) (n : ℕ) (honest : Bool) where
  abbrev R : Course Cloning (List ℕ) Exchanged
  R = CloneRound server fields login

  abbrev start : Point Cloning
  start = clone_start n honest

  abbrev config : Record
  config = first_record project server fields

  abbrev begun : Point Cloning
  begun = begun_with start config

  abbrev F : List Record
  F = config ∷ []

  abbrev pub The : Seen → CloneOf
  The s = clone_within server fields login n honest (HasCommitted s.state) (HasLost s.state)

  abbrev Kept : D → List (List Record) → Type 0
  Kept x commits = IsKeptFrom (disk mid) (disk x) F commits

  abbrev pub Tells : LinkState → D → Seen → Result Pulled PullFault → Type 0
  Tells l x s result = IsCloneCall (The s) (dialled l0 l) s.state.faults (Kept x) result

  abbrev Images : D → List (List Record) → Type 0
  Images x commits = IsModelled (disk mid) → LeavesOnly (disk mid) (disk x) (StandsForSome [] commits)

  longer_begins : (commits more : List (List Record)) → Begins F commits → Longer commits more → Begins F more
  longer_begins commits more b w = (b.0 ++ w.0, w.1 ∙ ap (λ (x : List (List Record)). x ++ w.0) b.1)

  longer_images : (x : D) (commits more : List (List Record)) → Longer commits more → Images x commits → Images x more
  longer_images x commits more w images model =
      weaker (disk mid) (disk x) (StandsForSome [] commits) (StandsForSome [] more)
      (λ c s. subst (λ (m : List (List Record)). StandsForSome [] m c) (sym w.1) (some_more [] commits w.0 c s)) (images model)

  kept_by : (x : D) (commits : List (List Record)) → Begins F commits → Images x commits → Kept x commits
  kept_by x commits b images = (
    b.0,
    b.1,
    λ model.
        weaker (disk mid) (disk x) (StandsForSome [] commits) (StandsForSome F b.0)
        (λ c s. behind_first F b.0 c (subst (λ (m : List (List Record)). StandsForSome [] m c) b.1 s)) (images model),
  )

  -- what a round leaves of the images
  step_images : (d x : D) (p : Point Cloning) (step : Then Cloning) → AreCommitted [] p.state p.commits → Images d p.commits → Keeps (disk mid) (disk d) → Longer p.commits (commits_of step) → IsKeptBy (disk d) (disk x) (x ≡ d) p step → Images x (commits_of step)
  step_images d x p step are images keeps w (inl (still, same)) =
      subst (Images x) (sym same) (subst (λ (y : D). Images y p.commits) (sym still) images)
  step_images d x p step are images keeps w (inr k) = λ model.
      and_then (disk mid) (disk d) (disk x) (StandsForSome [] (commits_of step)) (longer_images d p.commits (commits_of step) w images model)
      (k [] are (modelled_after (disk mid) (disk d) keeps model) (λ c left. (images model).now c left))

  leaves_by : (s : Seen) (state : State) (commits : List (List Record)) → Begins F commits → AreCommitted [] state commits → state ≡ s.state → HasCommitted s.state commits
  leaves_by s state commits b are same = (begins_some F commits b, subst (λ (t : State). front t ≡ all_of_them commits) same are)

  -- what a commit that failed leaves
  loses_by : (s : Seen) (p : Point Cloning) (step : Then Cloning) → Begins F p.commits → AreCommitted [] p.state p.commits → IsUncommitted p step s.state
      → AreCommitted [] (state_of step) (commits_of step) → take p.state.committed (state_of step).records ≡ front p.state → HasLost s.state p.commits (commits_of step)
  loses_by s p step b are un all in_front = (
    (begins_some F p.commits b, ap front un.state ∙ in_front ∙ are),
    ap (λ (t : State). t.records) un.state ∙ all_committed (state_of step) un.is_due ∙ all,
  )

  to_fault : (l : LinkState) (x : D) (s : Seen) (why w : PullFault) → why ≡ w → Tells l x s (Err w) → Tells l x s (Err why)
  to_fault l x s why w e t = subst (λ (v : PullFault). Tells l x s (Err v)) (sym e) t

  -- ---- the first round

  module _ (l1 : LinkState) (old : Seen) (reply : List WireCard) (h : IsFirst server fields login l0 l1 reply project first old) (is_n : old.state.faults ≡ n) (is_kind : old.state.honest ≡ honest) (only_now : (c : List ℕ) → IsTrue (disk mid).is_model → (disk mid).since (disk mid).moment c → (disk mid).images c) (exact : IsModelled (disk mid) → (c : List ℕ) → (disk mid).images c → IsFileOf c (front old.state)) where
    first_is : begun.state ≡ old.state
    first_is = sym ((h.made).state ∙ (λ i. (begun_with (clone_start (is_n i) (is_kind i)) config).state))

    none_stored : stored old ≡ 0
    none_stored = λ i. blobs (drop ((h.made).loaded i) (((h.made).state i).records))

    at_first : Images mid begun.commits
    at_first model =
        started (disk mid) (StandsForSome [] begun.commits) (λ c. only_now c model.model)
        (λ c k. all_some [] begun.commits c (subst (IsFileOf c) (ap front (sym first_is)) (exact model c k)))

    made_round : (step : Then Cloning) → IsCloned begun reply step → R start first step
    made_round step k = (
      h.asked,
      (
        Ok reply,
        h.read,
        subst (λ (o : Option (List ℕ)). MatchOption o (step ≡ ends (unread start peer.NoPush)) (λ project. IsCloned (begun_with start (first_record project server fields)) reply step)) (sym h.pushes) k,
      ),
    )

    is_made : (step : Then Cloning) → IsCloned begun reply step → IsMade l0 l1 (λ r. R start r step)
    is_made step k = (first, h.exchange, made_round step k)

    -- whatever is said of it
    first_step : (step : Then Cloning) → R start first step → IsCloned begun reply step
    first_step step (asked, (read, is_read, k)) =
        let same : read ≡ Ok reply = read_one first.reply (Ok reply) read h.read is_read in
        subst (λ (o : Option (List ℕ)). MatchOption o (step ≡ ends (unread start peer.NoPush)) (λ project. IsCloned (begun_with start (first_record project server fields)) reply step)) h.pushes
        (subst (λ (x : Result (List WireCard) PeerFault). IsCloneReply server fields start x step) same k)

    first_longer : (step : Then Cloning) → IsCloned begun reply step → Longer begun.commits (commits_of step)
    first_longer step k = cloned_longer begun reply step k

    first_begins : (step : Then Cloning) → IsCloned begun reply step → Begins F (commits_of step)
    first_begins step k = longer_begins begun.commits (commits_of step) ([], refl) (first_longer step k)

    first_images : (x : D) (step : Then Cloning) → IsCloned begun reply step → IsKeptBy (disk mid) (disk x) (x ≡ mid) begun step → Images x (commits_of step)
    first_images x step k kept = step_images mid x begun step refl at_first (record { tells = refl; model = refl }) (first_longer step k) kept

    first_kept : (x : D) (step : Then Cloning) → IsCloned begun reply step → IsKeptBy (disk mid) (disk x) (x ≡ mid) begun step → Kept x (commits_of step)
    first_kept x step k kept = kept_by x (commits_of step) (first_begins step k) (first_images x step k kept)

    abbrev FirstTurn : D → Seen → Result (Option ℕ) PullFault → Type 0
    FirstTurn x s result = IsCloneTaken 1 reply (disk mid) (disk x) old s (x ≡ mid) result

    few : 0 + 1 ≤ most_rounds
    few = omega arith

    pub first_goes : (x : D) (s : Seen) (next : ℕ) → FirstTurn x s (Ok (Some next)) → Keeps (disk mid) (disk x) → s.state.faults ≡ old.state.faults → IsAt disk server fields login project first n honest l0 l1 mid x s next 1
    first_goes x s next turned keeps counted =
        let t = turned begun first_is refl in
        let q = t.0 in
        let says = t.1.0 in
        let count : q.count + stored old ≡ 0 + stored s = (t.1.1).count in
        record {
          rest = [];
          point = q;
          go = (q, made_round (goes_on q) says.0, refl);
          state = t.2;
          memory = t.3;
          many = refl;
          grows = grown l0 l0 l1 [] (none_joined (all_of l0)) first h.exchange;
          count = omega (arith, count, none_stored);
          begins = first_begins (goes_on q) says.0;
          committed = says.1.1 [] refl;
          images = first_images x (goes_on q) says.0 says.1.0;
          keeps = keeps;
          counted = counted ∙ is_n;
          dial = h.later;
        }

    pub first_ends : (x : D) (s : Seen) (stores : ℕ) → FirstTurn x s (Ok None) → stores ≡ stored s → Tells l1 x s (Ok (record { rounds = 1; stored = stores }))
    first_ends x s stores turned is_stores =
        let t = turned begun first_is refl in
        let e = t.0 in
        let says = t.1.0 in
        let count : e.count + stored old ≡ 0 + stored s = (t.1.1).count in
        ended (The s) (Kept x) l0 l0 l1 s.state.faults refl [] start refl (none_joined (all_of l0)) e (is_made (ends e) says.0) 1 stores few t.2 refl
        (omega (arith, count, none_stored, is_stores)) (leaves_by s e.state e.commits (first_begins (ends e) says.0) (says.1.1 [] refl) t.3) (first_kept x (ends e) says.0 says.1.0)

    pub first_fails : (x : D) (s : Seen) (why : PullFault) → FirstTurn x s (Err why) → Tells l1 x s (Err why)
    first_fails x s why turned = by (turned begun first_is refl)
      where
        -- before its commit there was that of the Config
        first_loses : (step : Then Cloning) → IsCloned begun reply step → IsUncommitted begun step s.state → AreCommitted [] (state_of step) (commits_of step)
            → take begun.state.committed (state_of step).records ≡ front begun.state → HasLost s.state (commits_before start (commits_of step)) (commits_of step)
        first_loses step k un all in_front =
            subst (λ (done : List (List Record)). HasLost s.state done (commits_of step)) (sym (ap (λ (all : List (List Record)). take 1 all) (first_begins step k).1))
            (loses_by s begun step ([], refl) refl un all in_front)

        by : ComesTo AsksFrom begun (λ s. IsCloned begun reply s × IsKeptOn (disk mid) (disk x) (x ≡ mid) begun s) (IsCarried (stored old) (stored s) begun) (λ left. (front left ≡ front begun.state) × (x ≡ mid)) s.state (Err why) → Tells l1 x s (Err why)
        by (inl (inl (refusal, (e, (k, (kept, on, in_front)), is_fault, is_state)))) =
            refused (The s) (Kept x) l0 l0 l1 s.state.faults refl [] start refl (none_joined (all_of l0)) e (is_made (ends e) k) why few refusal is_fault
            (leaves_by s e.state e.commits (first_begins (ends e) k) (on [] refl) is_state) (first_kept x (ends e) k kept)
        by (inl (inr (is, (step, (k, (kept, on, in_front)), un)))) =
            to_fault l1 x s why fault.Disk is
            (lost (The s) (Kept x) l0 l0 l1 s.state.faults refl [] start refl (none_joined (all_of l0)) step (is_made step k) few un.is_due un.some
            (first_loses step k un (on [] refl) in_front) un.rose (first_kept x step k kept))
        by (inr (is, (same, still))) =
            to_fault l1 x s why fault.Memory is
            (in_part (The s) (Kept x) l0 l0 l1 s.state.faults refl [] start refl (none_joined (all_of l0)) first reply (F ∷ []) h.exchange few h.asked h.read (made project refl h.pushes refl) (begins_some F (F ∷ []) ([], refl), same)
            (kept_by x (F ∷ []) ([], refl) (subst (λ (y : D). Images y begun.commits) (sym still) at_first))
            (λ step r.
            let k = first_step step r in
            kept_by x (commits_of step) (first_begins step k) (longer_images x begun.commits (commits_of step) (first_longer step k) (subst (λ (y : D). Images y begun.commits) (sym still) at_first))))

  -- ---- one round more

  module _ (l : LinkState) (d : D) (s : Seen) (from m : ℕ) (h : IsAt disk server fields login project first n honest l0 l mid d s from m) where
    abbrev rounds : Rounds
    rounds = first ∷ h.rest

    more_longer : (r : Round (List ℕ) Exchanged) (step : Then Cloning) → R h.point r step → Longer (h.point).commits (commits_of step)
    more_longer r step k = round_longer server fields login h.point (ap (λ (c : Cloning). c.begun) h.memory) r step k

    more_begins : (r : Round (List ℕ) Exchanged) (step : Then Cloning) → R h.point r step → Begins F (commits_of step)
    more_begins r step k = longer_begins (h.point).commits (commits_of step) h.begins (more_longer r step k)

    more_images : (x : D) (r : Round (List ℕ) Exchanged) (step : Then Cloning) → R h.point r step → IsKeptBy (disk d) (disk x) (x ≡ d) h.point step → Images x (commits_of step)
    more_images x r step k kept = step_images d x h.point step h.committed h.images h.keeps (more_longer r step k) kept

    more_kept : (x : D) (r : Round (List ℕ) Exchanged) (step : Then Cloning) → R h.point r step → IsKeptBy (disk d) (disk x) (x ≡ d) h.point step → Kept x (commits_of step)
    more_kept x r step k kept = kept_by x (commits_of step) (more_begins r step k) (more_images x r step k kept)

    still_images : (x : D) → x ≡ d → Images x (h.point).commits
    still_images x still = subst (λ (y : D). Images y (h.point).commits) (sym still) h.images

    still_kept : (x : D) → x ≡ d → Kept x (h.point).commits
    still_kept x still = kept_by x (h.point).commits h.begins (still_images x still)

    abbrev Turn : LinkState → D → Seen → Result (Option ℕ) PullFault → Type 0
    Turn l2 x s2 result = IsCloneTurned login from l l2 (disk d) (disk x) s s2 (x ≡ d) result

    pub goes : (l2 : LinkState) (x : D) (s2 : Seen) (next : ℕ) → Turn l2 x s2 (Ok (Some next)) → Keeps (disk d) (disk x) → s2.state.faults ≡ s.state.faults → l.faults ≤ l2.faults → IsAt disk server fields login project first n honest l0 l2 mid x s2 next (m + 1)
    goes l2 x s2 next turned keeps counted dial =
        let t = turned server fields h.point h.state h.memory in
        let q = t.0 in
        let r = t.1.0 in
        let kept = t.1.1 in
        let count : q.count + stored s ≡ (h.point).count + stored s2 = (t.1.2).count in
        record {
          rest = h.rest ++ r.0 ∷ [];
          point = q;
          go = go_behind R start rounds h.point q r.0 h.go r.2;
          state = t.2;
          memory = t.3;
          many = length_behind rounds r.0 ∙ ap (λ (x : ℕ). x + 1) h.many;
          grows = grown l0 l l2 rounds h.grows r.0 r.1;
          count = omega (arith, count, h.count);
          begins = more_begins r.0 (goes_on q) r.2;
          committed = kept.1 [] h.committed;
          images = more_images x r.0 (goes_on q) r.2 kept.0;
          keeps = keeps_on (disk mid) (disk d) (disk x) h.keeps keeps;
          counted = counted ∙ h.counted;
          dial = omega (arith, dial, h.dial);
        }

    more : m + 1 ≤ most_rounds → length rounds + 1 ≤ most_rounds
    more lt = omega (arith, lt, h.many)

    pub ends_well : (l2 : LinkState) (x : D) (s2 : Seen) (count stores : ℕ) → Turn l2 x s2 (Ok None) → m + 1 ≤ most_rounds → count ≡ m + 1 → stores ≡ stored s2 → Tells l2 x s2 (Ok (record { rounds = count; stored = stores }))
    ends_well l2 x s2 count stores turned lt is_count is_stores =
        let t = turned server fields h.point h.state h.memory in
        let e = t.0 in
        let r = t.1.0 in
        let kept = t.1.1 in
        let carried : e.count + stored s ≡ (h.point).count + stored s2 = (t.1.2).count in
        ended (The s2) (Kept x) l0 l l2 s2.state.faults refl rounds h.point h.go h.grows e r count stores (more lt) t.2 (is_count ∙ ap (λ (x : ℕ). x + 1) (sym h.many))
        (omega (arith, carried, h.count, is_stores)) (leaves_by s2 e.state e.commits (more_begins r.0 (ends e) r.2) (kept.1 [] h.committed) t.3) (more_kept x r.0 (ends e) r.2 kept.0)

    pub fails : (l2 : LinkState) (x : D) (s2 : Seen) (why : PullFault) → Turn l2 x s2 (Err why) → m + 1 ≤ most_rounds → l.faults ≤ l2.faults → Tells l2 x s2 (Err why)
    fails l2 x s2 why turned lt dial = by (turned server fields h.point h.state h.memory)
      where
        left : s2.state ≡ (h.point).state → HasCommitted s2.state (h.point).commits
        left same = leaves_by s2 (h.point).state (h.point).commits h.begins h.committed (sym same)

        some_before : (step : Then Cloning) → (h.point).state.committed < length (state_of step).records → committed_before h.point < length (state_of step).records
        some_before step some = subst (λ (b : Bool). (if b then (h.point).state.committed else 1) < length (state_of step).records) (sym (ap (λ (c : Cloning). c.begun) h.memory)) some

        loses : (step : Then Cloning) → IsUncommitted h.point step s2.state → AreCommitted [] (state_of step) (commits_of step)
            → take (h.point).state.committed (state_of step).records ≡ front (h.point).state → HasLost s2.state (commits_before h.point (commits_of step)) (commits_of step)
        loses step un all in_front =
            subst (λ (b : Bool). HasLost s2.state (if b then (h.point).commits else take 1 (commits_of step)) (commits_of step)) (sym (ap (λ (c : Cloning). c.begun) h.memory))
            (loses_by s2 h.point step h.begins h.committed un all in_front)

        by : TurnsTo AsksFrom R (CloneAsks login) (BrokenClone login) h.point l l2 (IsKeptOn (disk d) (disk x) (x ≡ d) h.point) (IsCarried (stored s) (stored s2) h.point) (x ≡ d) s2.state (Err why) → Tells l2 x s2 (Err why)
        by (inl (inl (refusal, (e, (r, (kept, on, in_front)), is_fault, is_state)))) =
            refused (The s2) (Kept x) l0 l l2 s2.state.faults refl rounds h.point h.go h.grows e r why (more lt) refusal is_fault
            (leaves_by s2 e.state e.commits (more_begins r.0 (ends e) r.2) (on [] h.committed) is_state) (more_kept x r.0 (ends e) r.2 kept)
        by (inl (inr (is, (step, (r, (kept, on, in_front)), un)))) =
            to_fault l2 x s2 why fault.Disk is
            (lost (The s2) (Kept x) l0 l l2 s2.state.faults refl rounds h.point h.go h.grows step r (more lt) un.is_due (some_before step un.some)
            (loses step un (on [] h.committed) in_front)
            (subst (λ (c : ℕ). Rose c s2.state.faults) (ap (λ (t : State). t.faults) h.state ∙ h.counted) un.rose) (more_kept x r.0 step r.2 kept))
        by (inr (still, inl (is, same, (request, asks, (rose, inl idles))))) =
            to_fault l2 x s2 why fault.Link is
            (cut (The s2) (Kept x) l0 l l2 s2.state.faults refl rounds h.point h.go h.grows (rose_since l0.faults l.faults l2.faults h.dial rose) (more lt)
            (idle l0 l l2 rounds h.grows IsBrokenOff (CloneAsks login h.point) idles) (left same) (still_kept x still))
        by (inr (still, inl (is, same, (request, asks, (rose, inr joins))))) =
            to_fault l2 x s2 why fault.Link is
            (cut (The s2) (Kept x) l0 l l2 s2.state.faults refl rounds h.point h.go h.grows (rose_since l0.faults l.faults l2.faults h.dial rose) (more lt)
            (cut_off l0 l l2 rounds h.grows IsBrokenOff (CloneAsks login h.point) request joins asks) (left same) (still_kept x still))
        by (inr (still, inr (is, inl (same, inl idles)))) =
            to_fault l2 x s2 why fault.Memory is
            (left_off (The s2) (Kept x) l0 l l2 s2.state.faults refl rounds h.point h.go h.grows (more lt)
            (idle l0 l l2 rounds h.grows IsLeft (CloneAsks login h.point) idles) (left same) (still_kept x still))
        by (inr (still, inr (is, inl (same, inr (request, asks, joins))))) =
            to_fault l2 x s2 why fault.Memory is
            (left_off (The s2) (Kept x) l0 l l2 s2.state.faults refl rounds h.point h.go h.grows (more lt)
            (cut_off l0 l l2 rounds h.grows IsLeft (CloneAsks login h.point) request joins asks) (left same) (still_kept x still))
        by (inr (still, inr (is, inr (r, exchange, (asked, (reply, read, same)))))) =
            to_fault l2 x s2 why fault.Memory is
            (in_part (The s2) (Kept x) l0 l l2 s2.state.faults refl rounds h.point h.go h.grows r reply (h.point).commits exchange (more lt) asked read (as_before refl) (begins_some F (h.point).commits h.begins, same ∙ h.committed) (still_kept x still)
            (λ step k. kept_by x (commits_of step) (more_begins r step k) (longer_images x (h.point).commits (commits_of step) (more_longer r step k) (still_images x still))))

    pub gives_up : m ≡ most_rounds → Tells l d s (Err fault.Rounds)
    gives_up all =
        too_many (The s) (Kept d) l0 l0 l s.state.faults refl rounds h.point h.go h.grows (h.many ∙ all) (leaves_by s (h.point).state (h.point).commits h.begins h.committed h.state) (still_kept d refl)

-- turns, as the code has them
pub first_turn : (reply : List WireCard) (before after : DiskState) (old new : Seen) (Still : Type 0) (r q : Result (Option ℕ) PullFault) → r ≡ q → IsCloneTaken 1 reply before after old new Still r → IsCloneTaken 1 reply before after old new Still q
first_turn reply before after old new Still r q is h = subst (λ (x : Result (Option ℕ) PullFault). IsCloneTaken 1 reply before after old new Still x) is h

pub turn_is : (login : Option Login) (from : ℕ) (d e : LinkState) (before after : DiskState) (old new : Seen) (Still : Type 0) (r q : Result (Option ℕ) PullFault) → r ≡ q
    → IsCloneTurned login from d e before after old new Still r → IsCloneTurned login from d e before after old new Still q
turn_is login from d e before after old new Still r q is h = subst (λ (x : Result (Option ℕ) PullFault). IsCloneTurned login from d e before after old new Still x) is h
