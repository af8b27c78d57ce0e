-- What every step keeps, and which repository is later than another. An impl's laws stand on it, so it is no proof file.
use Rattle.std.proofs.Common.{◌≡◌, inl, inr, ℕ, ◌+◌, ◌≤◌, Bool, true, false, cond, List, [], ◌∷◌, ◌++◌, length, drop, Option, Some, None, Result, Ok, Err, refl, sym, ap, subst, ◌∙◌, arith, append_assoc}
use Rattle.std.specs.Prelude.{nat_le, MatchBool, MatchOption, ◌⊎◌, IsSome, IsTrue}
use Rattle.fsl_order.specs.Causes.{Rose}
use Rattle.std.proofs.lemmas.List.{append-nil, drop-append-le}
use Rattle.std.proofs.lemmas.List.Sums.{sum_by-append}
use Rattle.fsl_record.specs.Receipts.{Brought}
use Rattle.fsl_record.specs.declared.Record.{Record}
use Rattle.fsl_record.specs.declared.Record.TheVariants as record_of
use Rattle.fsl_journal.specs.declared.CommitFault.{CommitFault}
use Rattle.fsl_journal.specs.Log.{Log}
use Rattle.fsl_blobs.specs.declared.Known.{Known}
use Rattle.fsl_blobs.specs.declared.Known.TheVariants as known
use Rattle.fsl_disk.proofs.Moments.{keeps_on, quiet_on}
use Rattle.fsl_disk.specs.Disk.{DiskState, Quiet}
use Rattle.fsl_cross.specs.declared.Item.{Item}
use Rattle.fsl_repo.specs.declared.Arrival.{Arrival}
use Rattle.fsl_repo.specs.declared.Arrival.TheVariants as arrival
use Rattle.fsl_repo.specs.declared.ArriveFault.{ArriveFault}
use Rattle.fsl_repo.specs.declared.Shunning.{Shunning}
use Rattle.fsl_repo.specs.declared.Shunning.TheVariants as shunning
use Rattle.fsl_repo.specs.declared.ShunFault.{ShunFault}
use Rattle.fsl_repo.specs.declared.Unshunning.{Unshunning}
use Rattle.fsl_repo.specs.declared.Unshunning.TheVariants as unshunning
use Rattle.fsl_repo.specs.declared.UnshunFault.{UnshunFault}
use Rattle.fsl_repo.specs.declared.BuildFault.{BuildFault}
use Rattle.fsl_repo.specs.declared.Ask.{Ask}
use Rattle.fsl_repo.specs.declared.Clustering.{Clustering}
use Rattle.fsl_repo.specs.declared.Clustering.TheVariants as clustering
use Rattle.fsl_repo.specs.declared.ArriveFault.TheVariants as arrive_fault
use Rattle.fsl_repo.specs.declared.Event.{Event}
use Rattle.fsl_repo.specs.declared.Event.TheVariants as event
use Rattle.fsl_repo.specs.declared.Answer.{Answer}
use Rattle.fsl_repo.specs.declared.Answer.TheVariants as answer
use Rattle.fsl_repo.specs.Machine.{State, IsDueOrMemory, Leaves, now, AreItems, arrived, announced, announce, shun, shunned, IsArrival, IsUnshunning, unshunned, IsClusterArrival, IsClusteringOf, IsClustering, IsCommit, unclustered_names, due_cluster}
use Rattle.fsl_repo.specs.Replies.{BuildStep}
use Rattle.fsl_repo.specs.Whole.{Seen, Whole, IsLater, is_blob, blobs, stored, log_of}
use Rattle.fsl_repo.specs.Onward.{Step, DiskStep, MayStep, IsLaterOn, StepsGoOn}
use Rattle.fsl_name.specs.Name.{name_of}

-- ---- the records go on

abbrev Grows : State → State → Type 0
Grows old new = (more : List Record) × (new.records ≡ old.records ++ more)

same_records : (old : State) → Grows old old
same_records old = ([], sym (append-nil old.records))

by_leaves : (old due new : State) → Leaves old due new → Grows old due → Grows old new
by_leaves old due new l g = (g.0, ap (λ (s : State). s.records) l.state ∙ g.1)

by_due : {A : Type 0} (old new : State) (IsDue : A → State → Type 0) (memory : A) (May : Type 0) (r : A) → ((due : State) → IsDue r due → Grows old due) → IsDueOrMemory old IsDue memory May r new → Grows old new
by_due old new IsDue memory May r go (inl x) = by_leaves old x.0 new x.2 (go x.0 x.1)
by_due old new IsDue memory May r go (inr y) = by_leaves old old new y.2 (same_records old)

arrived_grows : (s : State) (name : List ℕ) (receipt : Option Brought) (bytes : List ℕ) (private : Bool) (r : Result Arrival ArriveFault) → Grows s (arrived s name receipt bytes private r)
arrived_grows s name receipt bytes private (Ok arrival.Shunned) = same_records s
arrived_grows s name receipt bytes private (Ok arrival.Present) = same_records s
arrived_grows s name receipt bytes private (Ok arrival.Published) = (record_of.Publish name ∷ [], refl)
arrived_grows s name receipt bytes private (Ok arrival.Stored) = (record_of.Blob private name receipt bytes ∷ [], refl)
arrived_grows s name receipt bytes private (Err e) = same_records s

announced_grows : (s : State) (name : List ℕ) (k : Known) → Grows s (announced s name k)
announced_grows s name known.Held = same_records s
announced_grows s name known.Shunned = same_records s
announced_grows s name known.Again = same_records s
announced_grows s name known.Full = same_records s
announced_grows s name known.New = same_records s

shunned_grows : (s : State) (name : List ℕ) (r : Result Shunning ShunFault) → Grows s (shunned s name r)
shunned_grows s name (Ok shunning.Already) = same_records s
shunned_grows s name (Ok shunning.Removed) = (record_of.Shun name ∷ [], refl)
shunned_grows s name (Ok shunning.Listed) = (record_of.Shun name ∷ [], refl)
shunned_grows s name (Err e) = same_records s

unshunned_grows : (s : State) (name : List ℕ) (r : Result Unshunning UnshunFault) → Grows s (unshunned s name r)
unshunned_grows s name (Ok unshunning.NotShunned) = same_records s
unshunned_grows s name (Ok unshunning.Unshunned) = (record_of.Unshun name ∷ [], refl)
unshunned_grows s name (Err e) = same_records s

by_equal : (s due due2 : State) → due ≡ due2 → Grows s due2 → Grows s due
by_equal s due due2 is g = subst (Grows s) (sym is) g

-- a build leaves the records
build_grows : (s : State) (ask : Ask) (r : Result (List ℕ) BuildFault) (new : State) → BuildStep s ask r new → Grows s new
build_grows s ask r new (inl p) = by_equal s new s p.1 (same_records s)
build_grows s ask r new (inr p) = by_leaves s s new p.4 (same_records s)

module _ (s : State) (result : Result Clustering ArriveFault) (due : State) where
  of_grows : (few : Bool) (items : List Item)
      → MatchBool few ((result ≡ Ok (clustering.Few (length (unclustered_names items)))) × (due ≡ s)) (IsClusterArrival s (due_cluster items) result due) → Grows s due
  of_grows true items p = by_equal s due s p.1 (same_records s)
  of_grows false items p =
      by_equal s due (arrived s (name_of (due_cluster items)) None (due_cluster items) false p.0) p.3
      (arrived_grows s (name_of (due_cluster items)) None (due_cluster items) false p.0)

  clustering_grows : (stopped : Option ℕ)
      → MatchOption stopped ((items : List Item) × AreItems (now s).held items × IsClusteringOf s items result due)
      (λ faults. (result ≡ Err (arrive_fault.Stopped faults)) × (due ≡ s)) → Grows s due
  clustering_grows None p = of_grows (nat_le (length (unclustered_names p.0)) 100) p.0 p.2
  clustering_grows (Some faults) p = by_equal s due s p.1 (same_records s)

commit_grows : (stopped : Option ℕ) (old : State) (r : Result ℕ CommitFault) (new : State) → IsCommit stopped old r new → Grows old new
commit_grows (Some faults) old r new p = by_leaves old old new p.1 (same_records old)
commit_grows None old r new (inl p) = by_leaves old (record old { stopped = Some new.faults }) new p.2 (same_records old)
commit_grows None old r new (inr p) = ([], ap (λ (s : State). s.records) p.1 ∙ sym (append-nil old.records))

pub grows : (old : State) (e : Event) (a : Answer) (new : State) → Step old e a new → Grows old new
grows old (event.Arrive name bytes private) (answer.Arrive r) new p =
    by_due old new (λ r due. IsArrival old name bytes private r × (due ≡ arrived old name None bytes private r)) _ _ r
    (λ due is. by_equal old due (arrived old name None bytes private r) is.1 (arrived_grows old name None bytes private r)) p
grows old (event.Arrive name bytes private) (answer.Receive r) new p = absurd p
grows old (event.Arrive name bytes private) (answer.Announce r) new p = absurd p
grows old (event.Arrive name bytes private) (answer.Shun r) new p = absurd p
grows old (event.Arrive name bytes private) (answer.Unshun r) new p = absurd p
grows old (event.Arrive name bytes private) (answer.Cluster r) new p = absurd p
grows old (event.Arrive name bytes private) (answer.Build r) new p = absurd p
grows old (event.Arrive name bytes private) (answer.Commit r) new p = absurd p
grows old (event.Receive name bytes private receipt) (answer.Arrive r) new p = absurd p
grows old (event.Receive name bytes private receipt) (answer.Receive r) new p =
    by_due old new (λ r due. IsArrival old name bytes private r × (due ≡ arrived old name (Some receipt) bytes private r)) _ _ r
    (λ due is. by_equal old due (arrived old name (Some receipt) bytes private r) is.1 (arrived_grows old name (Some receipt) bytes private r)) p
grows old (event.Receive name bytes private receipt) (answer.Announce r) new p = absurd p
grows old (event.Receive name bytes private receipt) (answer.Shun r) new p = absurd p
grows old (event.Receive name bytes private receipt) (answer.Unshun r) new p = absurd p
grows old (event.Receive name bytes private receipt) (answer.Cluster r) new p = absurd p
grows old (event.Receive name bytes private receipt) (answer.Build r) new p = absurd p
grows old (event.Receive name bytes private receipt) (answer.Commit r) new p = absurd p
grows old (event.Announce name) (answer.Arrive r) new p = absurd p
grows old (event.Announce name) (answer.Receive r) new p = absurd p
grows old (event.Announce name) (answer.Announce r) new p =
    by_due old new (λ r due. (r ≡ Ok (announce old name)) × (due ≡ announced old name (announce old name))) _ _ r
    (λ due is. by_equal old due (announced old name (announce old name)) is.1 (announced_grows old name (announce old name))) p
grows old (event.Announce name) (answer.Shun r) new p = absurd p
grows old (event.Announce name) (answer.Unshun r) new p = absurd p
grows old (event.Announce name) (answer.Cluster r) new p = absurd p
grows old (event.Announce name) (answer.Build r) new p = absurd p
grows old (event.Announce name) (answer.Commit r) new p = absurd p
grows old (event.Shun name) (answer.Arrive r) new p = absurd p
grows old (event.Shun name) (answer.Receive r) new p = absurd p
grows old (event.Shun name) (answer.Announce r) new p = absurd p
grows old (event.Shun name) (answer.Shun r) new p =
    by_due old new (λ r due. (r ≡ shun old name) × (due ≡ shunned old name r)) _ _ r
    (λ due is. by_equal old due (shunned old name r) is.1 (shunned_grows old name r)) p
grows old (event.Shun name) (answer.Unshun r) new p = absurd p
grows old (event.Shun name) (answer.Cluster r) new p = absurd p
grows old (event.Shun name) (answer.Build r) new p = absurd p
grows old (event.Shun name) (answer.Commit r) new p = absurd p
grows old (event.Unshun name) (answer.Arrive r) new p = absurd p
grows old (event.Unshun name) (answer.Receive r) new p = absurd p
grows old (event.Unshun name) (answer.Announce r) new p = absurd p
grows old (event.Unshun name) (answer.Shun r) new p = absurd p
grows old (event.Unshun name) (answer.Unshun r) new p =
    by_due old new (λ r due. IsUnshunning old name r × (due ≡ unshunned old name r)) _ _ r
    (λ due is. by_equal old due (unshunned old name r) is.1 (unshunned_grows old name r)) p
grows old (event.Unshun name) (answer.Cluster r) new p = absurd p
grows old (event.Unshun name) (answer.Build r) new p = absurd p
grows old (event.Unshun name) (answer.Commit r) new p = absurd p
grows old event.Cluster (answer.Arrive r) new p = absurd p
grows old event.Cluster (answer.Receive r) new p = absurd p
grows old event.Cluster (answer.Announce r) new p = absurd p
grows old event.Cluster (answer.Shun r) new p = absurd p
grows old event.Cluster (answer.Unshun r) new p = absurd p
grows old event.Cluster (answer.Cluster r) new p = by_due old new (IsClustering old) _ _ r (λ due is. clustering_grows old r due old.stopped is) p
grows old event.Cluster (answer.Build r) new p = absurd p
grows old event.Cluster (answer.Commit r) new p = absurd p
grows old (event.Build ask) (answer.Arrive r) new p = absurd p
grows old (event.Build ask) (answer.Receive r) new p = absurd p
grows old (event.Build ask) (answer.Announce r) new p = absurd p
grows old (event.Build ask) (answer.Shun r) new p = absurd p
grows old (event.Build ask) (answer.Unshun r) new p = absurd p
grows old (event.Build ask) (answer.Cluster r) new p = absurd p
grows old (event.Build ask) (answer.Build r) new p = build_grows old ask r new p
grows old (event.Build ask) (answer.Commit r) new p = absurd p
grows old event.Commit (answer.Arrive r) new p = absurd p
grows old event.Commit (answer.Receive r) new p = absurd p
grows old event.Commit (answer.Announce r) new p = absurd p
grows old event.Commit (answer.Shun r) new p = absurd p
grows old event.Commit (answer.Unshun r) new p = absurd p
grows old event.Commit (answer.Cluster r) new p = absurd p
grows old event.Commit (answer.Build r) new p = absurd p
grows old event.Commit (answer.Commit r) new p = commit_grows old.stopped old r new p

-- ---- a commit alone stops, and a commit alone raises how many are committed

-- it is stopped as before, and as many records are committed
abbrev Stays : State → State → Type 0
Stays old due = (due.stopped ≡ old.stopped) × (due.committed ≡ old.committed)

-- the disk's count doesn't fall; what stopped stays so, or it stopped now and the count rose; and as many are committed as before, or all that were there
abbrev Stops : State → State → Type 0
Stops old new =
    (old.faults ≤ new.faults) × ((new.stopped ≡ old.stopped) ⊎ ((old.stopped ≡ None) × Rose old.faults new.faults))
    × ((new.committed ≡ old.committed) ⊎ (new.committed ≡ length old.records))

stop_leaves : (old due new : State) → Leaves old due new → Stays old due → Stops old new
stop_leaves old due new l same = (l.faults, inl (ap (λ (s : State). s.stopped) l.state ∙ same.0), inl (ap (λ (s : State). s.committed) l.state ∙ same.1))

stop_due : {A : Type 0} (old new : State) (IsDue : A → State → Type 0) (memory : A) (May : Type 0) (r : A) → ((due : State) → IsDue r due → Stays old due) → IsDueOrMemory old IsDue memory May r new → Stops old new
stop_due old new IsDue memory May r same (inl x) = stop_leaves old x.0 new x.2 (same x.0 x.1)
stop_due old new IsDue memory May r same (inr y) = stop_leaves old old new y.2 (refl, refl)

stop_equal : (s due due2 : State) → due ≡ due2 → Stays s due2 → Stays s due
stop_equal s due due2 is same = (ap (λ (x : State). x.stopped) is ∙ same.0, ap (λ (x : State). x.committed) is ∙ same.1)

stop_same : (s due : State) → due ≡ s → Stays s due
stop_same s due is = stop_equal s due s is (refl, refl)

arrived_stop : (s : State) (name : List ℕ) (receipt : Option Brought) (bytes : List ℕ) (private : Bool) (r : Result Arrival ArriveFault) → Stays s (arrived s name receipt bytes private r)
arrived_stop s name receipt bytes private (Ok arrival.Shunned) = (refl, refl)
arrived_stop s name receipt bytes private (Ok arrival.Present) = (refl, refl)
arrived_stop s name receipt bytes private (Ok arrival.Published) = (refl, refl)
arrived_stop s name receipt bytes private (Ok arrival.Stored) = (refl, refl)
arrived_stop s name receipt bytes private (Err e) = (refl, refl)

announced_stop : (s : State) (name : List ℕ) (k : Known) → Stays s (announced s name k)
announced_stop s name known.Held = (refl, refl)
announced_stop s name known.Shunned = (refl, refl)
announced_stop s name known.Again = (refl, refl)
announced_stop s name known.Full = (refl, refl)
announced_stop s name known.New = (refl, refl)

unshunned_stop : (s : State) (name : List ℕ) (r : Result Unshunning UnshunFault) → Stays s (unshunned s name r)
unshunned_stop s name (Ok unshunning.NotShunned) = (refl, refl)
unshunned_stop s name (Ok unshunning.Unshunned) = (refl, refl)
unshunned_stop s name (Err e) = (refl, refl)

-- a build leaves the state, but for the disk's count
build_stop : (s : State) (ask : Ask) (r : Result (List ℕ) BuildFault) (new : State) → BuildStep s ask r new → Stops s new
build_stop s ask r new (inl p) =
    let same : new.faults ≡ s.faults = ap (λ (x : State). x.faults) p.1 in
    (omega (arith, same), inl (ap (λ (x : State). x.stopped) p.1), inl (ap (λ (x : State). x.committed) p.1))
build_stop s ask r new (inr p) = stop_leaves s s new p.4 (refl, refl)

shunned_stop : (s : State) (name : List ℕ) (r : Result Shunning ShunFault) → Stays s (shunned s name r)
shunned_stop s name (Ok shunning.Already) = (refl, refl)
shunned_stop s name (Ok shunning.Removed) = (refl, refl)
shunned_stop s name (Ok shunning.Listed) = (refl, refl)
shunned_stop s name (Err e) = (refl, refl)

module _ (s : State) (result : Result Clustering ArriveFault) (due : State) where
  of_stop : (few : Bool) (items : List Item)
      → MatchBool few ((result ≡ Ok (clustering.Few (length (unclustered_names items)))) × (due ≡ s)) (IsClusterArrival s (due_cluster items) result due) → Stays s due
  of_stop true items p = stop_same s due p.1
  of_stop false items p = stop_equal s due (arrived s (name_of (due_cluster items)) None (due_cluster items) false p.0) p.3 (arrived_stop s (name_of (due_cluster items)) None (due_cluster items) false p.0)

  clustering_stop : (stopped : Option ℕ)
      → MatchOption stopped ((items : List Item) × AreItems (now s).held items × IsClusteringOf s items result due)
      (λ faults. (result ≡ Err (arrive_fault.Stopped faults)) × (due ≡ s)) → Stays s due
  clustering_stop None p = of_stop (nat_le (length (unclustered_names p.0)) 100) p.0 p.2
  clustering_stop (Some faults) p = stop_same s due p.1

commit_stop : (stopped : Option ℕ) (old : State) (r : Result ℕ CommitFault) (new : State) → old.stopped ≡ stopped → IsCommit stopped old r new → Stops old new
commit_stop (Some faults) old r new is p = stop_leaves old old new p.1 (refl, refl)
commit_stop None old r new is (inl p) = (p.2.faults, inr (is, p.1), inl (ap (λ (s : State). s.committed) p.2.state))
commit_stop None old r new is (inr p) =
    let same : new.faults ≡ old.faults = ap (λ (s : State). s.faults) p.1 in
    (omega (arith, same), inl (ap (λ (s : State). s.stopped) p.1), inr (ap (λ (s : State). s.committed) p.1))

stopping : (old : State) (e : Event) (a : Answer) (new : State) → Step old e a new → Stops old new
stopping old (event.Arrive name bytes private) (answer.Arrive r) new p =
    stop_due old new (λ r due. IsArrival old name bytes private r × (due ≡ arrived old name None bytes private r)) _ _ r
    (λ due is. stop_equal old due (arrived old name None bytes private r) is.1 (arrived_stop old name None bytes private r)) p
stopping old (event.Arrive name bytes private) (answer.Receive r) new p = absurd p
stopping old (event.Arrive name bytes private) (answer.Announce r) new p = absurd p
stopping old (event.Arrive name bytes private) (answer.Shun r) new p = absurd p
stopping old (event.Arrive name bytes private) (answer.Unshun r) new p = absurd p
stopping old (event.Arrive name bytes private) (answer.Cluster r) new p = absurd p
stopping old (event.Arrive name bytes private) (answer.Build r) new p = absurd p
stopping old (event.Arrive name bytes private) (answer.Commit r) new p = absurd p
stopping old (event.Receive name bytes private receipt) (answer.Arrive r) new p = absurd p
stopping old (event.Receive name bytes private receipt) (answer.Receive r) new p =
    stop_due old new (λ r due. IsArrival old name bytes private r × (due ≡ arrived old name (Some receipt) bytes private r)) _ _ r
    (λ due is. stop_equal old due (arrived old name (Some receipt) bytes private r) is.1 (arrived_stop old name (Some receipt) bytes private r)) p
stopping old (event.Receive name bytes private receipt) (answer.Announce r) new p = absurd p
stopping old (event.Receive name bytes private receipt) (answer.Shun r) new p = absurd p
stopping old (event.Receive name bytes private receipt) (answer.Unshun r) new p = absurd p
stopping old (event.Receive name bytes private receipt) (answer.Cluster r) new p = absurd p
stopping old (event.Receive name bytes private receipt) (answer.Build r) new p = absurd p
stopping old (event.Receive name bytes private receipt) (answer.Commit r) new p = absurd p
stopping old (event.Announce name) (answer.Arrive r) new p = absurd p
stopping old (event.Announce name) (answer.Receive r) new p = absurd p
stopping old (event.Announce name) (answer.Announce r) new p =
    stop_due old new (λ r due. (r ≡ Ok (announce old name)) × (due ≡ announced old name (announce old name))) _ _ r
    (λ due is. stop_equal old due (announced old name (announce old name)) is.1 (announced_stop old name (announce old name))) p
stopping old (event.Announce name) (answer.Shun r) new p = absurd p
stopping old (event.Announce name) (answer.Unshun r) new p = absurd p
stopping old (event.Announce name) (answer.Cluster r) new p = absurd p
stopping old (event.Announce name) (answer.Build r) new p = absurd p
stopping old (event.Announce name) (answer.Commit r) new p = absurd p
stopping old (event.Shun name) (answer.Arrive r) new p = absurd p
stopping old (event.Shun name) (answer.Receive r) new p = absurd p
stopping old (event.Shun name) (answer.Announce r) new p = absurd p
stopping old (event.Shun name) (answer.Shun r) new p =
    stop_due old new (λ r due. (r ≡ shun old name) × (due ≡ shunned old name r)) _ _ r
    (λ due is. stop_equal old due (shunned old name r) is.1 (shunned_stop old name r)) p
stopping old (event.Shun name) (answer.Unshun r) new p = absurd p
stopping old (event.Shun name) (answer.Cluster r) new p = absurd p
stopping old (event.Shun name) (answer.Build r) new p = absurd p
stopping old (event.Shun name) (answer.Commit r) new p = absurd p
stopping old (event.Unshun name) (answer.Arrive r) new p = absurd p
stopping old (event.Unshun name) (answer.Receive r) new p = absurd p
stopping old (event.Unshun name) (answer.Announce r) new p = absurd p
stopping old (event.Unshun name) (answer.Shun r) new p = absurd p
stopping old (event.Unshun name) (answer.Unshun r) new p =
    stop_due old new (λ r due. IsUnshunning old name r × (due ≡ unshunned old name r)) _ _ r
    (λ due is. stop_equal old due (unshunned old name r) is.1 (unshunned_stop old name r)) p
stopping old (event.Unshun name) (answer.Cluster r) new p = absurd p
stopping old (event.Unshun name) (answer.Build r) new p = absurd p
stopping old (event.Unshun name) (answer.Commit r) new p = absurd p
stopping old event.Cluster (answer.Arrive r) new p = absurd p
stopping old event.Cluster (answer.Receive r) new p = absurd p
stopping old event.Cluster (answer.Announce r) new p = absurd p
stopping old event.Cluster (answer.Shun r) new p = absurd p
stopping old event.Cluster (answer.Unshun r) new p = absurd p
stopping old event.Cluster (answer.Cluster r) new p = stop_due old new (IsClustering old) _ _ r (λ due is. clustering_stop old r due old.stopped is) p
stopping old event.Cluster (answer.Build r) new p = absurd p
stopping old event.Cluster (answer.Commit r) new p = absurd p
stopping old (event.Build ask) (answer.Arrive r) new p = absurd p
stopping old (event.Build ask) (answer.Receive r) new p = absurd p
stopping old (event.Build ask) (answer.Announce r) new p = absurd p
stopping old (event.Build ask) (answer.Shun r) new p = absurd p
stopping old (event.Build ask) (answer.Unshun r) new p = absurd p
stopping old (event.Build ask) (answer.Cluster r) new p = absurd p
stopping old (event.Build ask) (answer.Build r) new p = build_stop old ask r new p
stopping old (event.Build ask) (answer.Commit r) new p = absurd p
stopping old event.Commit (answer.Arrive r) new p = absurd p
stopping old event.Commit (answer.Receive r) new p = absurd p
stopping old event.Commit (answer.Announce r) new p = absurd p
stopping old event.Commit (answer.Shun r) new p = absurd p
stopping old event.Commit (answer.Unshun r) new p = absurd p
stopping old event.Commit (answer.Cluster r) new p = absurd p
stopping old event.Commit (answer.Build r) new p = absurd p
stopping old event.Commit (answer.Commit r) new p = commit_stop old.stopped old r new refl p

none_of : {A : Type 0} (o : Option A) → o ≡ None → IsSome o → ⊥
none_of None e h = cc
none_of (Some x) e h = cc

pub faults_go : (old : State) (e : Event) (a : Answer) (new : State) → Step old e a new → old.faults ≤ new.faults
faults_go old e a new step = (stopping old e a new step).0

pub stops_go : (old : State) (e : Event) (a : Answer) (new : State) → Step old e a new → old.stopped ≡ None → IsSome new.stopped → Rose old.faults new.faults
stops_go old e a new step runs some = by (stopping old e a new step).1
  where
    by : (new.stopped ≡ old.stopped) ⊎ ((old.stopped ≡ None) × Rose old.faults new.faults) → Rose old.faults new.faults
    by (inl same) = absurd (none_of new.stopped (same ∙ runs) some)
    by (inr rose) = rose.1

pub stays_go : (old : State) (e : Event) (a : Answer) (new : State) → Step old e a new → IsSome old.stopped → new.stopped ≡ old.stopped
stays_go old e a new step some = by (stopping old e a new step).1
  where
    by : (new.stopped ≡ old.stopped) ⊎ ((old.stopped ≡ None) × Rose old.faults new.faults) → new.stopped ≡ old.stopped
    by (inl same) = same
    by (inr rose) = absurd (none_of old.stopped rose.0 some)

pub commits_go : (old : State) (e : Event) (a : Answer) (new : State) → Step old e a new → old.committed ≤ length old.records → old.committed ≤ new.committed
commits_go old e a new step within = by (stopping old e a new step).2
  where
    by : (new.committed ≡ old.committed) ⊎ (new.committed ≡ length old.records) → old.committed ≤ new.committed
    by (inl same) = omega (arith, same)
    by (inr all) = omega (arith, within, all)

-- ---- later

blobs_of_both : (xs ys : List Record) → blobs (xs ++ ys) ≡ blobs xs + blobs ys
blobs_of_both xs ys = sum_by-append (λ r. cond (is_blob r) 1 0) xs ys

pub same : (s : Seen) → IsLater s s
same s = record { more = []; records = sym (append-nil s.state.records); stored = omega arith }

pub later : (old new : Seen) (e : Event) (a : Answer) → old.loaded ≤ length old.state.records → new.loaded ≡ old.loaded → Step old.state e a new.state → IsLater old new
later old new e a within loaded step =
    let g = grows old.state e a new.state step in
    record {
      more = g.0;
      records = g.1;
      stored =
          (λ i. blobs (drop (loaded i) (g.1 i)))
          ∙ ap blobs (drop-append-le old.loaded old.state.records g.0 within)
          ∙ blobs_of_both (drop old.loaded old.state.records) g.0;
    }

pub through : (a b c : Seen) → IsLater a b → IsLater b c → IsLater a c
through a b c p q =
    record {
      more = p.more ++ q.more;
      records = q.records ∙ ap (λ (r : List Record). r ++ q.more) p.records ∙ append_assoc a.state.records p.more q.more;
      stored = let both = blobs_of_both p.more q.more in omega (arith, p.stored, q.stored, both);
    }

pub seen_never_falls : (a b : Seen) → IsLater a b → stored a ≤ stored b
seen_never_falls a b p = omega (arith, p.stored)

pub steps_go_on : StepsGoOn
steps_go_on = record { grows = grows; later = later; same = same; through = through; never_falls = seen_never_falls; faults = faults_go; stops = stops_go; stays = stays_go; commits = commits_go }

-- ---- repositories with their disks

-- what no call leaves
pub quiet_same : (d : DiskState) → Quiet d d
quiet_same d = record {
  keeps = record { tells = refl; model = refl };
  contents = refl;
  later = λ _. omega arith;
  images = λ _ c h. h;
  since = λ _ t c le h. inl h;
}

pub later_self : {D : Type 0} (d : DiskState) (a : Whole D) → IsLaterOn d d a a
later_self d a = record {
  seen = same a.seen;
  loaded = refl;
  committed = omega arith;
  keeps = search;
  faults = omega arith;
  stops = λ runs some. absurd (none_of a.seen.state.stopped runs some);
  stays = λ _. refl;
  still = λ _. quiet_same d;
}

rose_on : (a b c : ℕ) → a ≤ b → Rose b c → Rose a c
rose_on a b c le rose = omega arith

rose_still : (a b c : ℕ) → Rose a b → b ≤ c → Rose a c
rose_still a b c rose le = omega arith

module _ {D : Type 0} (d e f : DiskState) (a b c : Whole D) (p : IsLaterOn d e a b) (q : IsLaterOn e f b c) where
  stops_through : (o : Option ℕ) → b.seen.state.stopped ≡ o → a.seen.state.stopped ≡ None → IsSome c.seen.state.stopped → Rose d.faults f.faults
  stops_through None is runs some = rose_on d.faults e.faults f.faults p.faults (q.stops is some)
  stops_through (Some n) is runs some = rose_still d.faults e.faults f.faults (p.stops runs (subst IsSome (sym is) refl)) q.faults

  stays_through : IsSome a.seen.state.stopped → c.seen.state.stopped ≡ a.seen.state.stopped
  stays_through some = q.stays (subst IsSome (sym (p.stays some)) some) ∙ p.stays some

  still_through : IsSome a.seen.state.stopped → Quiet d f
  still_through some = quiet_on d e f (p.still some) (q.still (subst IsSome (sym (p.stays some)) some))

  pub later_through : IsLaterOn d f a c
  later_through = record {
    seen = through a.seen b.seen c.seen p.seen q.seen;
    loaded = q.loaded ∙ p.loaded;
    committed = omega (arith, p.committed, q.committed);
    keeps = keeps_on d e f p.keeps q.keeps;
    faults = omega (arith, p.faults, q.faults);
    stops = stops_through b.seen.state.stopped refl;
    stays = stays_through;
    still = still_through;
  }

-- a repository that is stopped writes nothing
stopped_stays : (d e : DiskState) (log : Log) (event : Event) (same : Type 0) → (same → Quiet d e) → DiskStep event d e log same → IsSome log.stopped → Quiet d e
stopped_stays d e log event.Commit same quiet p some = quiet (p.1 (inl some))
stopped_stays d e log (event.Arrive name bytes private) same quiet p some = quiet p
stopped_stays d e log (event.Receive name bytes private receipt) same quiet p some = quiet p
stopped_stays d e log (event.Announce name) same quiet p some = quiet p
stopped_stays d e log (event.Shun name) same quiet p some = quiet p
stopped_stays d e log (event.Unshun name) same quiet p some = quiet p
stopped_stays d e log event.Cluster same quiet p some = quiet p
stopped_stays d e log (event.Build ask) same quiet p some = p

pub step_later : {D : Type 0} (state : D → DiskState) (a : Whole D) (event : Event) (answer : Answer) (b : Whole D) → MayStep (state a.disk) (state b.disk) a event answer b → IsLaterOn (state a.disk) (state b.disk) a b
step_later {D} state a event answer b p =
    let d : DiskState = state a.disk in
    let e : DiskState = state b.disk in
    let quiet : b.disk ≡ a.disk → Quiet d e = λ same. subst (λ (x : D). Quiet (state a.disk) (state x)) (sym same) (quiet_same (state a.disk)) in
    let within : a.seen.loaded ≤ length a.seen.state.records = omega (arith, p.old_whole.seen.loaded, p.old_whole.seen.committed) in
    let faults : a.seen.state.faults ≤ b.seen.state.faults = faults_go a.seen.state event answer b.seen.state p.step in
    record {
      seen = later a.seen b.seen event answer within p.loaded p.step;
      loaded = p.loaded;
      committed = commits_go a.seen.state event answer b.seen.state p.step p.old_whole.seen.committed;
      keeps = p.keeps;
      faults = omega (arith, faults, p.old_whole.faults, p.new_whole.faults);
      stops = λ runs some. subst (λ (n : ℕ). Rose n e.faults) p.old_whole.faults (subst (λ (n : ℕ). Rose a.seen.state.faults n) p.new_whole.faults (stops_go a.seen.state event answer b.seen.state p.step runs some));
      stays = stays_go a.seen.state event answer b.seen.state p.step;
      still = stopped_stays d e (log_of a) event (b.disk ≡ a.disk) quiet p.disk;
    }

pub never_falls : {D : Type 0} (d e : DiskState) (a b : Whole D) → IsLaterOn d e a b → stored a.seen ≤ stored b.seen
never_falls d e a b p = seen_never_falls a.seen b.seen p.seen
