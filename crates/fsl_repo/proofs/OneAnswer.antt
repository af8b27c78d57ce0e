-- A cluster and a build have an answer each, and one at most; and so has each event one.
use Rattle.std.specs.Str.{bytes_eq}
use Rattle.std.specs.List.{AllZip}
use Rattle.std.specs.Option.{option_map_or}
use Rattle.std.specs.FinMap as map_of
use Rattle.std.specs.FinSet as set
use Rattle.fsl_record.specs.Receipts.{Brought}
use Rattle.fsl_record.specs.declared.Record.TheVariants as record_of
use Rattle.fsl_blobs.specs.Fold.{Contents, after, held_bytes}
use Rattle.std.specs.Prelude.{◌≡◌, ℕ, ◌^◌, List, [], ◌∷◌, length, Bool, true, false, ◌||◌, nat_lt, nat_le, if◌then◌else◌, Option, Some, None, Result, Ok, Err, MatchBool, MatchOption}
use Rattle.std.proofs.Common.{refl, sym, ap, subst, ◌∙◌, inl, inr, arith}
use Rattle.fsl_name.specs.Name.{name_of}
use Rattle.fsl_cross.specs.declared.Item.{Item}
use Rattle.fsl_journal.specs.declared.CommitFault.{CommitFault}
use Rattle.fsl_journal.specs.declared.CommitFault.TheVariants as commit_fault
use Rattle.fsl_blobs.specs.declared.Known.{Known}
use Rattle.fsl_blobs.specs.declared.Known.TheVariants as known
use Rattle.fsl_repo.specs.declared.Arrival.{Arrival}
use Rattle.fsl_repo.specs.declared.Arrival.TheVariants as arrival
use Rattle.fsl_repo.specs.declared.Shunning.{Shunning}
use Rattle.fsl_repo.specs.declared.Shunning.TheVariants as shunning
use Rattle.fsl_repo.specs.declared.ShunFault.{ShunFault}
use Rattle.fsl_repo.specs.declared.ShunFault.TheVariants as shun_fault
use Rattle.fsl_repo.specs.declared.ArriveFault.{ArriveFault}
use Rattle.fsl_repo.specs.declared.ArriveFault.TheVariants as arrive_fault
use Rattle.fsl_repo.specs.declared.Unshunning.{Unshunning}
use Rattle.fsl_repo.specs.declared.Unshunning.TheVariants as unshunning
use Rattle.fsl_repo.specs.declared.UnshunFault.{UnshunFault}
use Rattle.fsl_repo.specs.declared.UnshunFault.TheVariants as unshun_fault
use Rattle.fsl_repo.specs.declared.Clustering.{Clustering}
use Rattle.fsl_repo.specs.declared.Clustering.TheVariants as clustering
use Rattle.fsl_repo.specs.declared.Event.TheVariants as event
use Rattle.fsl_repo.specs.declared.Answer.TheVariants as answer
use Rattle.fsl_repo.specs.Machine.{State, Leaves, now, AreItems, wants, room, again, IsRoom, IsArrivalOf, IsArrival, IsClustering, IsClusteringOf, IsClusterArrival, IsCommit, arrived, announced, announce, shun, shunned, as_clustering, due_cluster, unclustered_names, IsUnshunning, unshunned, unshun_room, HasClustering, HasOneClustering, HasUnshunning, HasOneUnshunning}
use Rattle.fsl_answer.specs.declared.SentFile.{SentFile}
use Rattle.fsl_repo.specs.Replies.{reply_lists, reply_of, reply_with, IsSentAs, HasBuilt, HasOneBuilt}
use Rattle.fsl_repo.specs.Onward.{arriving_wants, wants_memory, HasStep}
use Rattle.fsl_repo.proofs.OneArrival.{one_arrival}
use Rattle.fsl_repo.proofs.OneList.{are_one_list}
use Rattle.fsl_repo.proofs.SomeArrival.{some_arrival, some_items}

-- ---- clusters

module _ (s : State) where
  abbrev Clustered : Type 0
  Clustered = (answer : Result Clustering ArriveFault) × (due : State) × IsClustering s answer due

  abbrev Of : List Item → Bool → Result Clustering ArriveFault → State → Type 0
  Of items few result due = MatchBool few ((result ≡ Ok (clustering.Few (length (unclustered_names items)))) × (due ≡ s)) (IsClusterArrival s (due_cluster items) result due)

  some_of : (items : List Item) (few : Bool) → (answer : Result Clustering ArriveFault) × (due : State) × Of items few answer due
  some_of items true = (Ok (clustering.Few (length (unclustered_names items))), s, (refl, refl))
  some_of items false =
      let bytes = due_cluster items in
      let a = some_arrival s (name_of bytes) bytes false in
      (as_clustering (name_of bytes) a.0, arrived s (name_of bytes) None bytes false a.0, (a.0, a.1, refl, refl))

  abbrev By : Option ℕ → Result Clustering ArriveFault → State → Type 0
  By stopped result due = MatchOption stopped ((items : List Item) × AreItems (now s).held items × IsClusteringOf s items result due) (λ faults. (result ≡ Err (arrive_fault.Stopped faults)) × (due ≡ s))

  some_by : (stopped : Option ℕ) → (answer : Result Clustering ArriveFault) × (due : State) × By stopped answer due
  some_by None =
      let items = some_items (now s).held in
      let told = some_of items.0 (nat_le (length (unclustered_names items.0)) 100) in
      (told.0, told.1, (items.0, items.1, told.2))
  some_by (Some faults) = (Err (arrive_fault.Stopped faults), s, (refl, refl))

  one_of : (items : List Item) (few : Bool) (a b : Result Clustering ArriveFault) (due other : State) → Of items few a due → Of items few b other → (a ≡ b) × (due ≡ other)
  one_of items true a b due other p q = (p.0 ∙ sym q.0, p.1 ∙ sym q.1)
  one_of items false a b due other p q =
      let bytes = due_cluster items in
      let same : p.0 ≡ q.0 = one_arrival s (name_of bytes) bytes false p.0 q.0 p.1 q.1 in
      (p.2 ∙ ap (as_clustering (name_of bytes)) same ∙ sym q.2, p.3 ∙ ap (arrived s (name_of bytes) None bytes false) same ∙ sym q.3)

  one_by : (stopped : Option ℕ) (a b : Result Clustering ArriveFault) (due other : State) → By stopped a due → By stopped b other → (a ≡ b) × (due ≡ other)
  one_by None a b due other p q =
      let same : q.0 ≡ p.0 = are_one_list (now s).held q.0 p.0 q.1 p.1 in
      one_of p.0 (nat_le (length (unclustered_names p.0)) 100) a b due other p.2 (subst (λ (items : List Item). IsClusteringOf s items b other) same q.2)
  one_by (Some faults) a b due other p q = (p.0 ∙ sym q.0, p.1 ∙ sym q.1)

pub some_clustering : HasClustering
some_clustering s = some_by s s.stopped

pub one_clustering : HasOneClustering
one_clustering s a b due other p q = one_by s s.stopped a b due other p q

-- ---- builds

-- files that are as they are
as_they_are : (honest : Bool) (files : List SentFile) → AllZip (IsSentAs honest) files files
as_they_are honest [] = tt
as_they_are honest (f ∷ files) = (record { alike = refl; named = refl; sized = refl; same = λ _. refl }, as_they_are honest files)

-- over a disk that tells its contents and meets the disk model no others are read
no_others : (honest : Bool) → honest ≡ true → (due files : List SentFile) → AllZip (IsSentAs honest) due files → files ≡ due
no_others honest yes_ [] [] h = refl
no_others honest yes_ [] (f ∷ files) h = absurd h
no_others honest yes_ (x ∷ due) [] h = absurd h
no_others honest yes_ (x ∷ due) (f ∷ files) h =
    let one : f ≡ x = h.0.alike ∙ ap (λ (bs : List ℕ). record x { bytes = bs }) (h.0.same yes_) in
    (λ i. one i ∷ no_others honest yes_ due files h.1 i)

pub some_build : HasBuilt
some_build s ask = let items = some_items (now s).held in (items.0, items.1, inl (items.0, (reply_lists s items.0 ask).files, items.1, as_they_are s.honest (reply_lists s items.0 ask).files, refl))

clash : (b : Bool) → b ≡ true → b ≡ false → ⊥
clash b t f = cc

pub one_build : HasOneBuilt
one_build s ask a b honest (inl p) (inl q) =
    let items : p.0 ≡ q.0 = are_one_list (now s).held p.0 q.0 p.2 q.2 in
    let files : p.1 ≡ q.1 =
    no_others s.honest honest (reply_lists s p.0 ask).files p.1 p.3 ∙ ap (λ (items : List Item). (reply_lists s items ask).files) items
    ∙ sym (no_others s.honest honest (reply_lists s q.0 ask).files q.1 q.3) in
    p.4 ∙ (λ i. Ok (reply_with s (items i) (files i) ask)) ∙ sym q.4
one_build s ask a b honest (inr p) q = absurd (clash s.honest honest p.3.never)
one_build s ask a b honest (inl p) (inr q) = absurd (clash s.honest honest q.3.never)

-- ---- unshuns

module _ (s : State) (name : List ℕ) where
  abbrev Unlisting : Bool → Result Unshunning UnshunFault → Type 0
  Unlisting listed r = MatchBool listed ((items : List Item) × AreItems (now s).held items × (r ≡ unshun_room (after (now s) (record_of.Unshun name)) items)) (r ≡ Ok unshunning.NotShunned)

  some_unlisting : (listed : Bool) → (r : Result Unshunning UnshunFault) × Unlisting listed r
  some_unlisting true = let items = some_items (now s).held in (unshun_room (after (now s) (record_of.Unshun name)) items.0, (items.0, items.1, refl))
  some_unlisting false = (Ok unshunning.NotShunned, refl)

  one_unlisting : (listed : Bool) (a b : Result Unshunning UnshunFault) → Unlisting listed a → Unlisting listed b → a ≡ b
  one_unlisting true a b p q = p.2 ∙ ap (unshun_room (after (now s) (record_of.Unshun name))) (are_one_list (now s).held p.0 q.0 p.1 q.1) ∙ sym q.2
  one_unlisting false a b p q = p ∙ sym q

  abbrev Unshunned_by : Option ℕ → Result Unshunning UnshunFault → Type 0
  Unshunned_by stopped r = MatchOption stopped (Unlisting (set.contains (now s).shunned name) r) (λ faults. r ≡ Err (unshun_fault.Stopped faults))

  some_unshun : (stopped : Option ℕ) → (r : Result Unshunning UnshunFault) × Unshunned_by stopped r
  some_unshun None = some_unlisting (set.contains (now s).shunned name)
  some_unshun (Some n) = (Err (unshun_fault.Stopped n), refl)

  one_unshun : (stopped : Option ℕ) (a b : Result Unshunning UnshunFault) → Unshunned_by stopped a → Unshunned_by stopped b → a ≡ b
  one_unshun None a b p q = one_unlisting (set.contains (now s).shunned name) a b p q
  one_unshun (Some n) a b p q = p ∙ sym q

  -- none is for want of memory
  room_told : (t : Bool) (n : ℕ) → wants_memory (answer.Unshun (if t then Err (unshun_fault.Full n) else Ok unshunning.Unshunned)) ≡ false
  room_told true n = refl
  room_told false n = refl

  not_unlisting : (listed : Bool) (r : Result Unshunning UnshunFault) → Unlisting listed r → wants_memory (answer.Unshun r) ≡ false
  not_unlisting true r p =
      let n = length (wants (after (now s) (record_of.Unshun name)) p.0) in
      ap (λ (x : Result Unshunning UnshunFault). wants_memory (answer.Unshun x)) p.2 ∙ room_told (nat_lt (2 ^ 20) n) n
  not_unlisting false r p = ap (λ (x : Result Unshunning UnshunFault). wants_memory (answer.Unshun x)) p

  not_unshunned : (stopped : Option ℕ) (r : Result Unshunning UnshunFault) → Unshunned_by stopped r → wants_memory (answer.Unshun r) ≡ false
  not_unshunned None r p = not_unlisting (set.contains (now s).shunned name) r p
  not_unshunned (Some n) r p = ap (λ (x : Result Unshunning UnshunFault). wants_memory (answer.Unshun x)) p

pub some_unshunning : HasUnshunning
some_unshunning s name = some_unshun s name s.stopped

pub one_unshunning : HasOneUnshunning
one_unshunning s name a b p q = one_unshun s name s.stopped a b p q

unshunned_faults : (s : State) (name : List ℕ) (r : Result Unshunning UnshunFault) → (unshunned s name r).faults ≡ s.faults
unshunned_faults s name (Ok unshunning.NotShunned) = refl
unshunned_faults s name (Ok unshunning.Unshunned) = refl
unshunned_faults s name (Err e) = refl

-- ---- events

leaves_due : (old due : State) → due.faults ≡ old.faults → Leaves old due due
leaves_due old due same = record { state = refl; faults = omega (arith, same) }

arrived_faults : (s : State) (name : List ℕ) (receipt : Option Brought) (bytes : List ℕ) (private : Bool) (r : Result Arrival ArriveFault) → (arrived s name receipt bytes private r).faults ≡ s.faults
arrived_faults s name receipt bytes private (Ok arrival.Shunned) = refl
arrived_faults s name receipt bytes private (Ok arrival.Present) = refl
arrived_faults s name receipt bytes private (Ok arrival.Published) = refl
arrived_faults s name receipt bytes private (Ok arrival.Stored) = refl
arrived_faults s name receipt bytes private (Err e) = refl

announced_faults : (s : State) (name : List ℕ) (k : Known) → (announced s name k).faults ≡ s.faults
announced_faults s name known.Held = refl
announced_faults s name known.Shunned = refl
announced_faults s name known.Again = refl
announced_faults s name known.Full = refl
announced_faults s name known.New = refl

shunned_faults : (s : State) (name : List ℕ) (r : Result Shunning ShunFault) → (shunned s name r).faults ≡ s.faults
shunned_faults s name (Ok shunning.Already) = refl
shunned_faults s name (Ok shunning.Removed) = refl
shunned_faults s name (Ok shunning.Listed) = refl
shunned_faults s name (Err e) = refl

clustered_faults : (s : State) (stopped : Option ℕ) (r : Result Clustering ArriveFault) (due : State) → By s stopped r due → due.faults ≡ s.faults
clustered_faults s None r due p = of (nat_le (length (unclustered_names p.0)) 100) p.0 p.2
  where
    of : (few : Bool) (items : List Item) → Of s items few r due → due.faults ≡ s.faults
    of true items q = ap (λ (x : State). x.faults) q.1
    of false items q = ap (λ (x : State). x.faults) q.3 ∙ arrived_faults s (name_of (due_cluster items)) None (due_cluster items) false q.0
clustered_faults s (Some n) r due p = ap (λ (x : State). x.faults) p.1

-- ---- and none of these is for want of memory

abbrev Told : Type 0
Told = Result Arrival ArriveFault

abbrev AreNotWanting : (Told → Type 0) → Type 0
AreNotWanting P = (a : Told) → P a → arriving_wants a ≡ false

is_not : (r : Told) → arriving_wants r ≡ false → AreNotWanting (λ a. a ≡ r)
is_not r not a h = ap (λ (a : Told). arriving_wants a) h ∙ not

not_by_test : (t : Bool) (P Q : Told → Type 0) → AreNotWanting P → AreNotWanting Q → AreNotWanting (λ a. MatchBool t (P a) (Q a))
not_by_test true P Q p q a h = p a h
not_by_test false P Q p q a h = q a h

not_by_option : {X : Type 0} (o : Option X) (P : Told → Type 0) (Q : X → Told → Type 0) → AreNotWanting P → ((x : X) → AreNotWanting (Q x)) → AreNotWanting (λ a. MatchOption o (P a) (λ x. Q x a))
not_by_option None P Q p q a h = p a h
not_by_option (Some x) P Q p q a h = q x a h

full_or_stored : (t : Bool) (bytes count missed : ℕ) → arriving_wants (if t then Err (arrive_fault.Full bytes count missed) else Ok arrival.Stored) ≡ false
full_or_stored true bytes count missed = refl
full_or_stored false bytes count missed = refl

not_wanting_room : (c : Contents) → AreNotWanting (IsRoom c)
not_wanting_room c a h =
    let bytes = held_bytes c.held in
    let count = map_of.len c.held in
    let missed = length (wants c h.0) in
    is_not (room c h.0) (full_or_stored (nat_lt (2 ^ 30) bytes || nat_lt (2 ^ 20) count || nat_lt (2 ^ 20) missed) bytes count missed) a h.2

not_wanting_of : (c : Contents) (name bytes : List ℕ) (private : Bool) → AreNotWanting (IsArrivalOf c name bytes private)
not_wanting_of c name bytes private =
    not_by_test (set.contains c.shunned name) (λ r. r ≡ Ok arrival.Shunned)
    (λ r. MatchOption (map_of.get c.held name) (IsRoom (after c (record_of.Blob private name None bytes)) r) (λ held. r ≡ Ok (again held private)))
    (is_not (Ok arrival.Shunned) refl)
    (not_by_option (map_of.get c.held name) (IsRoom (after c (record_of.Blob private name None bytes))) (λ held r. r ≡ Ok (again held private))
    (not_wanting_room (after c (record_of.Blob private name None bytes))) (λ held. is_not (Ok (again held private)) refl))

not_wanting : (s : State) (name bytes : List ℕ) (private : Bool) → AreNotWanting (IsArrival s name bytes private)
not_wanting s name bytes private =
    not_by_option s.stopped
    (λ r.
    MatchBool (nat_lt (2 ^ 24) (length bytes)) (r ≡ Err (arrive_fault.TooLarge (length bytes)))
    (MatchBool (bytes_eq (name_of bytes) name) (IsArrivalOf (now s) name bytes private r) (r ≡ Err (arrive_fault.NameWrong (name_of bytes)))))
    (λ faults r. r ≡ Err (arrive_fault.Stopped faults))
    (not_by_test (nat_lt (2 ^ 24) (length bytes)) (λ r. r ≡ Err (arrive_fault.TooLarge (length bytes)))
    (λ r. MatchBool (bytes_eq (name_of bytes) name) (IsArrivalOf (now s) name bytes private r) (r ≡ Err (arrive_fault.NameWrong (name_of bytes))))
    (is_not (Err (arrive_fault.TooLarge (length bytes))) refl)
    (not_by_test (bytes_eq (name_of bytes) name) (IsArrivalOf (now s) name bytes private) (λ r. r ≡ Err (arrive_fault.NameWrong (name_of bytes)))
    (not_wanting_of (now s) name bytes private) (is_not (Err (arrive_fault.NameWrong (name_of bytes))) refl)))
    (λ faults. is_not (Err (arrive_fault.Stopped faults)) refl)

as_wanting : (name : List ℕ) (r : Told) → arriving_wants r ≡ false → arriving_wants (as_clustering name r) ≡ false
as_wanting name (Ok a) not = refl
as_wanting name (Err (arrive_fault.Stopped faults)) not = refl
as_wanting name (Err (arrive_fault.TooLarge size)) not = refl
as_wanting name (Err (arrive_fault.NameWrong found)) not = refl
as_wanting name (Err (arrive_fault.Full bytes count missed)) not = refl
as_wanting name (Err arrive_fault.Memory) not = not

not_clustered : (s : State) (stopped : Option ℕ) (r : Result Clustering ArriveFault) (due : State) → By s stopped r due → arriving_wants r ≡ false
not_clustered s None r due p = of (nat_le (length (unclustered_names p.0)) 100) p.0 p.2
  where
    of : (few : Bool) (items : List Item) → Of s items few r due → arriving_wants r ≡ false
    of true items q = ap (λ (r : Result Clustering ArriveFault). arriving_wants r) q.0
    of false items q =
        ap (λ (r : Result Clustering ArriveFault). arriving_wants r) q.2
        ∙ as_wanting (name_of (due_cluster items)) q.0 (not_wanting s (name_of (due_cluster items)) (due_cluster items) false q.0 q.1)
not_clustered s (Some n) r due p = ap (λ (r : Result Clustering ArriveFault). arriving_wants r) p.0

not_shunned : (s : State) (name : List ℕ) → wants_memory (answer.Shun (shun s name)) ≡ false
not_shunned s name = of s.stopped (set.contains (now s).shunned name) (map_of.contains_key (now s).held name)
  where
    of : (stopped : Option ℕ) (shunned held : Bool) →
        wants_memory (answer.Shun (option_map_or (λ faults. Err (shun_fault.Stopped faults)) stopped (if shunned then Ok shunning.Already else (if held then Ok shunning.Removed else Ok shunning.Listed)))) ≡ false
    of (Some faults) shunned held = refl
    of None true held = refl
    of None false true = refl
    of None false false = refl

commit_of : (s : State) (stopped : Option ℕ) → (r : Result ℕ CommitFault) × (new : State) × IsCommit stopped s r new
commit_of s (Some faults) = (Err (commit_fault.Stopped faults), s, (refl, leaves_due s s refl))
commit_of s None = (Ok (length s.records), record s { committed = length s.records }, inr (refl, refl))

pub some_step : HasStep
some_step s (event.Arrive name bytes private) =
    let a = some_arrival s name bytes private in
    let due = arrived s name None bytes private a.0 in
    (answer.Arrive a.0, due, inl (due, (a.1, refl), leaves_due s due (arrived_faults s name None bytes private a.0)), not_wanting s name bytes private a.0 a.1)
some_step s (event.Receive name bytes private receipt) =
    let a = some_arrival s name bytes private in
    let due = arrived s name (Some receipt) bytes private a.0 in
    (answer.Receive a.0, due, inl (due, (a.1, refl), leaves_due s due (arrived_faults s name (Some receipt) bytes private a.0)), not_wanting s name bytes private a.0 a.1)
some_step s (event.Unshun name) =
    let a = some_unshunning s name in
    let due = unshunned s name a.0 in
    (answer.Unshun a.0, due, inl (due, (a.1, refl), leaves_due s due (unshunned_faults s name a.0)), not_unshunned s name s.stopped a.0 a.1)
some_step s (event.Announce name) =
    let due = announced s name (announce s name) in
    (answer.Announce (Ok (announce s name)), due, inl (due, (refl, refl), leaves_due s due (announced_faults s name (announce s name))), refl)
some_step s (event.Shun name) =
    let due = shunned s name (shun s name) in
    (answer.Shun (shun s name), due, inl (due, (refl, refl), leaves_due s due (shunned_faults s name (shun s name))), not_shunned s name)
some_step s event.Cluster =
    let told = some_clustering s in
    (answer.Cluster told.0, told.1, inl (told.1, told.2, leaves_due s told.1 (clustered_faults s s.stopped told.0 told.1 told.2)), not_clustered s s.stopped told.0 told.1 told.2)
some_step s (event.Build ask) =
    let told = some_build s ask in
    (answer.Build (Ok (reply_of s told.0 ask)), s, inl (inl told.2, refl), refl)
some_step s event.Commit = let told = commit_of s s.stopped in (answer.Commit told.0, told.1, told.2, refl)
