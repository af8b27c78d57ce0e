-- A command that syncs has one outcome at most.
use Rattle.std.proofs.Common.{◌≡◌, inl, inr, ℕ, Bool, true, List, [], ◌++◌, length, Option, IsTrue, refl, sym, ap, subst, ◌∙◌}
use Rattle.std.proofs.lemmas.List.{length-map}
use Rattle.fsl_record.specs.declared.Record.{Record}
use Rattle.fsl_journal.proofs.Failing.{no_file, one_place}
use Rattle.fsl_journal.proofs.Unique.{one_file}
use Rattle.fsl_repo.specs.Whole.{opened}
use Rattle.fsl_http.specs.Responses.{Exchanged}
use Rattle.fsl_pull.specs.Rounds.{Round, End}
use Rattle.fsl_pull.specs.Dialled.{Rounds}
use Rattle.fsl_pull.specs.Laws.{replies}
use Rattle.fsl_pull.proofs.OneEnd.{syncs_have_one_end}
use Rattle.fsl_words.specs.declared.Command.{Command}
use Rattle.fsl_words.specs.declared.Command.TheVariants as command_of
use Rattle.fossil.specs.Outcome.{Outcome, not_repository}
use Rattle.fossil.specs.Syncs.{Honesty, end_printed, with_commits, no_peer, login_of, IsEndOutcome, IsPullOutcome, IsPushOutcome, IsLocalOutcomeOn, IsLocalOutcome}
use Rattle.fossil.specs.Uses.{command_dials}
use Rattle.fossil.specs.Synced.{IsLoadedBy, IsSyncOutcome}
use Rattle.fossil.specs.SyncLaws.{reading, HasOneSyncOutcome}
use Rattle.fossil.proofs.CountLemmas.{end_so, pull_counted, push_counted, local_counted}
use Rattle.fossil.proofs.SyncLemmas.{printed_one}

-- ---- ends

-- one end has one outcome
one_end : (n : ℕ) (e f : End) (a b : Outcome) → f.fault ≡ e.fault → f.count ≡ e.count → f.commits ≡ e.commits → IsEndOutcome n e a → IsEndOutcome n f b → b ≡ a
one_end n e f a b faults counts commits (p, is_p, is_a) (q, is_q, is_b) =
    let same : q ≡ p = printed_one q p (sym is_q ∙ (λ i. end_printed (faults i) n (counts i)) ∙ is_p) in
    is_b ∙ (λ i. with_commits (same i) (commits i)) ∙ sym is_a

-- the same whatever the count of faults
same_end : (n m k : ℕ) (e f : End) (a b : Outcome) → k ≡ n → end_so m f ≡ e → IsEndOutcome n e a → IsEndOutcome k f b → b ≡ a
same_end n m k e f a b many same is other =
    one_end n e f a b (ap (λ (x : End). x.fault) same) (ap (λ (x : End). x.count) same) (ap (λ (x : End). x.commits) same) is (subst (λ (l : ℕ). IsEndOutcome l f b) many other)

abbrev IsOne : (Rounds → List Record → Outcome → Type 0) → Type 0
IsOne ByRounds = (records : List Record) (xs ys : Rounds) (more : List Exchanged) (a b : Outcome) → replies ys ≡ replies xs ++ more → ByRounds xs records a → ByRounds ys records b → (ys ≡ xs) × (b ≡ a)

one_pull : (honest : Bool) (login : Option (List ℕ × List ℕ)) → IsOne (IsPullOutcome honest login)
one_pull honest login records xs ys more a b same (m, e, is, end) (n, f, other, other_end) =
    let ends = syncs_have_one_end.pull (login_of login) (opened records m honest) xs ys more e (end_so m f) same is (pull_counted (login_of login) honest records n m ys f other) in
    (ends.0, same_end (length xs) m (length ys) e f a b (ap length ends.0) ends.1 end other_end)

-- the replies of one begin with those of another
abbrev AreOne : Bool → Rounds → Rounds → Outcome → Outcome → Type 0
AreOne honest xs ys a b = (replies ys ≡ replies xs) × (b ≡ a) × (honest ≡ true → ys ≡ xs)

abbrev IsOneBy : Bool → (Rounds → List Record → Outcome → Type 0) → Type 0
IsOneBy honest ByRounds = (records : List Record) (xs ys : Rounds) (more : List Exchanged) (a b : Outcome) → replies ys ≡ replies xs ++ more → ByRounds xs records a → ByRounds ys records b → AreOne honest xs ys a b

-- one of which the requests are its own whatever the disk
one_so : (honest : Bool) (ByRounds : Rounds → List Record → Outcome → Type 0) → IsOne ByRounds → IsOneBy honest ByRounds
one_so honest ByRounds one records xs ys more a b same h k = let is = one records xs ys more a b same h k in (ap replies is.0, is.1, λ kind. is.0)

as_many : (xs ys : Rounds) → replies ys ≡ replies xs → length ys ≡ length xs
as_many xs ys same = sym (length-map ys (λ (r : Round (List ℕ) Exchanged). r.reply)) ∙ ap length same ∙ length-map xs (λ (r : Round (List ℕ) Exchanged). r.reply)

one_push : (honest : Bool) (login : Option (List ℕ × List ℕ)) → IsOneBy honest (IsPushOutcome honest login)
one_push honest login records xs ys more a b same (m, e, is, end) (n, f, other, other_end) =
    let ends = syncs_have_one_end.push (login_of login) (opened records m honest) xs ys more e (end_so m f) same is (push_counted (login_of login) honest records n m ys f other) in
    (ends.0, same_end (length xs) m (length ys) e f a b (as_many xs ys ends.0) ends.1 end other_end, ends.2)

one_local_on : (honest : Bool) (there records : List Record) (a b : Outcome) → IsLocalOutcomeOn (honest, true) there records a → IsLocalOutcomeOn (honest, true) there records b → b ≡ a
one_local_on honest there records a b (m, k, xs, (e, is, end)) (n, l, ys, (f, other, other_end)) =
    let ends = syncs_have_one_end.local (opened records m honest) (opened there k true) xs ys e (end_so m f) refl is (local_counted honest true records there n m l k ys f other) in
    same_end (length xs) m (length ys) e f a b (ap length ends.0) ends.1 end other_end

one_local : (honest : Bool) (peer : List ℕ) (records : List Record) (a b : Outcome) → IsLocalOutcome (honest, true) peer records a → IsLocalOutcome (honest, true) peer records b → b ≡ a
one_local honest peer records a b (inl (at, fails, is)) (inl (place, other, same)) = same ∙ ap (λ (n : ℕ). with_commits (no_peer n) []) (one_place peer place at other fails) ∙ sym is
one_local honest peer records a b (inl (at, fails, is)) (inr (there, are, on)) = absurd (no_file peer at there fails are)
one_local honest peer records a b (inr (there, are, on)) (inl (at, fails, is)) = absurd (no_file peer at there fails are)
one_local honest peer records a b (inr (there, are, on)) (inr (others, too, other)) =
    one_local_on honest there records a b on (subst (λ (rs : List Record). IsLocalOutcomeOn (honest, true) rs records b) (one_file peer others there too are) other)

-- ---- the file

module _ (honest : Honesty) (file peer : List ℕ) where
  over_file : (ByRounds : Rounds → List Record → Outcome → Type 0) → IsOneBy honest.0 ByRounds → (xs ys : Rounds) (more : List Exchanged) (a b : Outcome) → replies ys ≡ replies xs ++ more
      → IsLoadedBy (ByRounds xs) (reading honest file peer xs) a → IsLoadedBy (ByRounds ys) (reading honest file peer ys) b → AreOne honest.0 xs ys a b
  over_file ByRounds one xs ys more a b same (inl (at, fails, none, is)) (inl (place, other, nothing, too)) =
      let both : ys ≡ xs = nothing ∙ sym none in (ap replies both, too ∙ ap not_repository (one_place file place at other fails) ∙ sym is, λ kind. both)
  over_file ByRounds one xs ys more a b same (inl (at, fails, none, is)) (inr (records, are, by)) = absurd (no_file file at records fails are)
  over_file ByRounds one xs ys more a b same (inr (records, are, by)) (inl (at, fails, none, is)) = absurd (no_file file at records fails are)
  over_file ByRounds one xs ys more a b same (inr (records, are, by)) (inr (others, too, other)) =
      one records xs ys more a b same by (subst (λ (rs : List Record). ByRounds ys rs b) (one_file file others records too are) other)

  over_dial : (command : Command) (xs ys : Rounds) (more : List Exchanged) (a b : Outcome) → IsTrue (command_dials command) → replies ys ≡ replies xs ++ more
      → IsSyncOutcome command (reading honest file peer xs) a → IsSyncOutcome command (reading honest file peer ys) b → AreOne honest.0 xs ys a b
  over_dial (command_of.Init project server fields) xs ys more a b dials same h k = absurd h
  over_dial command_of.Ingest xs ys more a b dials same h k = absurd h
  over_dial command_of.Put xs ys more a b dials same h k = absurd h
  over_dial (command_of.Shun name) xs ys more a b dials same h k = absurd h
  over_dial (command_of.Unshun name) xs ys more a b dials same h k = absurd h
  over_dial (command_of.Ask question) xs ys more a b dials same h k = absurd h
  over_dial (command_of.Serve address users workers requests) xs ys more a b dials same h k = absurd h
  over_dial (command_of.Checkin parent user comment) xs ys more a b dials same h k = absurd h
  over_dial (command_of.Export prefix) xs ys more a b dials same h k = absurd h
  over_dial (command_of.Verify prefix) xs ys more a b dials same h k = absurd h
  over_dial (command_of.Scrub path) xs ys more a b dials same h k = absurd h
  over_dial (command_of.Unversioned asked) xs ys more a b dials same h k = absurd h
  over_dial (command_of.Gen count reversed) xs ys more a b dials same h k = absurd h
  over_dial (command_of.Pull address login) xs ys more a b dials same h k = over_file (IsPullOutcome honest.0 login) (one_so honest.0 (IsPullOutcome honest.0 login) (one_pull honest.0 login)) xs ys more a b same h k
  over_dial (command_of.Push address login) xs ys more a b dials same h k = over_file (IsPushOutcome honest.0 login) (one_push honest.0 login) xs ys more a b same h k
  over_dial (command_of.Clone address server fields) xs ys more a b dials same h k = absurd h
  over_dial (command_of.PullLocal path) xs ys more a b dials same h k = absurd (cc)

over_both : (honest : Bool) (file peer : List ℕ) (xs ys : Rounds) (a b : Outcome) → IsLoadedBy (IsLocalOutcome (honest, true) peer) (reading (honest, true) file peer xs) a
    → IsLoadedBy (IsLocalOutcome (honest, true) peer) (reading (honest, true) file peer ys) b → b ≡ a
over_both honest file peer xs ys a b (inl (at, fails, none, is)) (inl (place, other, nothing, too)) = too ∙ ap not_repository (one_place file place at other fails) ∙ sym is
over_both honest file peer xs ys a b (inl (at, fails, none, is)) (inr (records, are, by)) = absurd (no_file file at records fails are)
over_both honest file peer xs ys a b (inr (records, are, by)) (inl (at, fails, none, is)) = absurd (no_file file at records fails are)
over_both honest file peer xs ys a b (inr (records, are, by)) (inr (others, too, other)) =
    one_local honest peer records a b by (subst (λ (rs : List Record). IsLocalOutcome (honest, true) peer rs b) (one_file file others records too are) other)

-- over honest disks
one_honest : (command : Command) (file peer : List ℕ) (xs ys : Rounds) (more : List Exchanged) (a b : Outcome) → replies ys ≡ replies xs ++ more
    → IsSyncOutcome command (reading (true, true) file peer xs) a → IsSyncOutcome command (reading (true, true) file peer ys) b → (ys ≡ xs) × (b ≡ a)
one_honest (command_of.Init project server fields) file peer xs ys more a b same h k = absurd h
one_honest command_of.Ingest file peer xs ys more a b same h k = absurd h
one_honest command_of.Put file peer xs ys more a b same h k = absurd h
one_honest (command_of.Shun name) file peer xs ys more a b same h k = absurd h
one_honest (command_of.Unshun name) file peer xs ys more a b same h k = absurd h
one_honest (command_of.Ask question) file peer xs ys more a b same h k = absurd h
one_honest (command_of.Serve address users workers requests) file peer xs ys more a b same h k = absurd h
one_honest (command_of.Checkin parent user comment) file peer xs ys more a b same h k = absurd h
one_honest (command_of.Export prefix) file peer xs ys more a b same h k = absurd h
one_honest (command_of.Verify prefix) file peer xs ys more a b same h k = absurd h
one_honest (command_of.Scrub path) file peer xs ys more a b same h k = absurd h
one_honest (command_of.Unversioned asked) file peer xs ys more a b same h k = absurd h
one_honest (command_of.Gen count reversed) file peer xs ys more a b same h k = absurd h
one_honest (command_of.Pull address login) file peer xs ys more a b same h k = let is = over_dial (true, true) file peer (command_of.Pull address login) xs ys more a b refl same h k in (is.2 refl, is.1)
one_honest (command_of.Push address login) file peer xs ys more a b same h k = let is = over_dial (true, true) file peer (command_of.Push address login) xs ys more a b refl same h k in (is.2 refl, is.1)
one_honest (command_of.Clone address server fields) file peer xs ys more a b same h k = absurd h
one_honest (command_of.PullLocal path) file peer xs ys more a b same h k = (k.0 ∙ sym h.0, over_both true file peer xs ys a b h.1 k.1)

pub one_sync_outcome : HasOneSyncOutcome
one_sync_outcome = record {
  one = one_honest;
  over = λ honest command file peer xs ys more a b dials same h k. let is = over_dial honest file peer command xs ys more a b dials same h k in (is.0, is.1);
}
