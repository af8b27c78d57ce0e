-- A command that syncs has an outcome.
use Rattle.std.proofs.Common.{◌≡◌, ◌⊎◌, inl, inr, ℕ, Bool, List, [], ◌++◌, length, Option, IsTrue, refl, sym, ◌∙◌, arith}
use Rattle.std.proofs.lemmas.List.{append-nil, take_all}
use Rattle.fsl_record.specs.declared.Record.{Record}
use Rattle.fsl_journal.specs.File.{IsFileOf, FailsAt}
use Rattle.fsl_repo.specs.Whole.{opened}
use Rattle.fsl_http.specs.Responses.{Exchanged}
use Rattle.fsl_pull.specs.Rounds.{End, most_rounds}
use Rattle.fsl_pull.specs.Dialled.{Rounds}
use Rattle.fsl_pull.specs.Laws.{replies}
use Rattle.fsl_pull.proofs.SomeEnd.{syncs_have_some_end}
use Rattle.fsl_pull.proofs.LocalEnds.{local_pulls_end}
use Rattle.fsl_words.specs.declared.Command.{Command}
use Rattle.fsl_words.specs.declared.Command.TheVariants as command_of
use Rattle.fsl_words.specs.declared.Unversioned.{Unversioned}
use Rattle.fsl_words.specs.declared.Unversioned.TheVariants as uv
use Rattle.fossil.specs.Uses.{command_syncs, command_dials}
use Rattle.fossil.specs.Outcome.{Outcome, not_repository}
use Rattle.fossil.specs.Syncs.{Honesty, with_commits, no_peer, login_of, IsEndOutcome, IsPullOutcome, IsPushOutcome, IsLocalOutcomeOn, IsLocalOutcome}
use Rattle.fossil.specs.Synced.{IsSyncOutcome, IsLoadedBy}
use Rattle.fossil.specs.SyncLaws.{reading, HasSomeSyncOutcome}
use Rattle.fsl_journal.proofs.SomeFile.{some_file}
use Rattle.fossil.proofs.TakenLemmas.{IsTellable, Start, IsAt}
use Rattle.fossil.proofs.SoundLemmas.{pull_sound, local_end_at}
use Rattle.fossil.proofs.PushLemmas.{push_sound}
use Rattle.fossil.proofs.SyncLemmas.{some_printed}

abbrev Fails : List ℕ → Type 0
Fails bytes = (at : ℕ) × FailsAt bytes at

abbrev Stands : List ℕ → Type 0
Stands bytes = (records : List Record) × IsFileOf bytes records

-- a repository that was just opened is at its start
abbrev start : List Record → ℕ → Start
start records faults = record { records = records; faults = faults }

opened_at : (records : List Record) (faults : ℕ) (honest : Bool) → IsAt (start records faults) (opened records faults honest) []
opened_at records faults honest = record { runs = refl; stands = take_all (length records) records (omega arith) ∙ sym (append-nil records); within = omega arith; steady = refl }

-- an end whose fault has a line has an outcome
some_end : (n : ℕ) (e : End) → IsTellable e.fault → (o : Outcome) × IsEndOutcome n e o
some_end n e told = let text = some_printed e.fault n e.count told in (with_commits text.0 e.commits, (text.0, text.1, refl))

-- ---- a pull from another repository

some_local_on : (honest : Honesty) (there records : List Record) → (o : Outcome) × IsLocalOutcomeOn honest there records o
some_local_on honest there records =
    let mine = opened records 0 honest.0 in
    let theirs = opened there 0 honest.1 in
    let all = local_pulls_end mine theirs in
    let o = some_end (length all.0) all.1 (local_end_at mine theirs (start records 0) (opened_at records 0 honest.0) all.0 all.1 all.2).told in
    (o.0, (0, 0, all.0, (all.1, all.2, o.1)))

some_local : (honest : Honesty) (peer : List ℕ) (records : List Record) → Fails peer ⊎ Stands peer → (o : Outcome) × IsLocalOutcome honest peer records o
some_local honest peer records (inl fails) = (with_commits (no_peer fails.0) [], inl (fails.0, fails.1, refl))
some_local honest peer records (inr is) = let o = some_local_on honest is.0 records in (o.0, inr (is.0, is.1, o.1))

over_local : (honest : Honesty) (file peer : List ℕ) → Fails file ⊎ Stands file → (o : Outcome) × IsLoadedBy (IsLocalOutcome honest peer) (reading honest file peer []) o
over_local honest file peer (inl fails) = (not_repository fails.0, inl (fails.0, fails.1, refl, refl))
over_local honest file peer (inr is) = let o = some_local honest peer is.0 (some_file peer) in (o.0, inr (is.0, is.1, o.1))

local : (honest : Honesty) (path file peer : List ℕ) → (o : Outcome) × IsSyncOutcome (command_of.PullLocal path) (reading honest file peer []) o
local honest path file peer = let o = over_local honest file peer (some_file file) in (o.0, (refl, o.1))

-- ---- a sync over a dial

abbrev HasSome : (Rounds → List Record → Outcome → Type 0) → Type 0
HasSome ByRounds = (records : List Record) (came : List Exchanged) → length came ≡ most_rounds → (rounds : Rounds) × (rest : List Exchanged) × (o : Outcome) × (came ≡ replies rounds ++ rest) × ByRounds rounds records o

some_pull : (honest : Bool) (login : Option (List ℕ × List ℕ)) → HasSome (IsPullOutcome honest login)
some_pull honest login records came many =
    let s = opened records 0 honest in
    let is = syncs_have_some_end.pull (login_of login) s came many in
    let o = some_end (length is.0) is.2 ((pull_sound (login_of login) s (start records 0) (opened_at records 0 honest)).whole is.0 is.2 is.4).told in
    (is.0, is.1, o.0, is.3, (0, is.2, is.4, o.1))

some_push : (honest : Bool) (login : Option (List ℕ × List ℕ)) → HasSome (IsPushOutcome honest login)
some_push honest login records came many =
    let s = opened records 0 honest in
    let is = syncs_have_some_end.push (login_of login) s came many in
    let o = some_end (length is.0) is.2 ((push_sound (login_of login) s (start records 0) (opened_at records 0 honest)).whole is.0 is.2 is.4).told in
    (is.0, is.1, o.0, is.3, (0, is.2, is.4, o.1))

over_file : (honest : Honesty) (ByRounds : Rounds → List Record → Outcome → Type 0) → HasSome ByRounds → (file peer : List ℕ) (came : List Exchanged) → length came ≡ most_rounds → Fails file ⊎ Stands file
    → (rounds : Rounds) × (rest : List Exchanged) × (o : Outcome) × (came ≡ replies rounds ++ rest) × IsLoadedBy (ByRounds rounds) (reading honest file peer rounds) o
over_file honest ByRounds some file peer came many (inl fails) = ([], came, not_repository fails.0, refl, inl (fails.0, fails.1, refl, refl))
over_file honest ByRounds some file peer came many (inr is) = let o = some is.0 came many in (o.0, o.1, o.2, o.3, inr (is.0, is.1, o.4))

-- no command of unversioned files has rounds
no_rounds : (asked : Unversioned) → IsTrue (command_syncs (command_of.Unversioned asked)) → ⊥
no_rounds (uv.Init project server) syncs = cc
no_rounds (uv.Add path) syncs = cc
no_rounds (uv.Remove path) syncs = cc
no_rounds uv.List syncs = cc
no_rounds (uv.Cat path) syncs = cc
no_rounds (uv.Sync path) syncs = cc

over : (honest : Honesty) (command : Command) (file peer : List ℕ) (came : List Exchanged) → IsTrue (command_syncs command) → IsTrue (command_dials command) → length came ≡ most_rounds
    → (rounds : Rounds) × (rest : List Exchanged) × (o : Outcome) × (came ≡ replies rounds ++ rest) × IsSyncOutcome command (reading honest file peer rounds) o
over honest (command_of.Init project server fields) file peer came syncs dials many = absurd (cc)
over honest command_of.Ingest file peer came syncs dials many = absurd (cc)
over honest command_of.Put file peer came syncs dials many = absurd (cc)
over honest (command_of.Shun name) file peer came syncs dials many = absurd (cc)
over honest (command_of.Unshun name) file peer came syncs dials many = absurd (cc)
over honest (command_of.Ask question) file peer came syncs dials many = absurd (cc)
over honest (command_of.Serve address users workers requests) file peer came syncs dials many = absurd (cc)
over honest (command_of.Checkin parent user comment) file peer came syncs dials many = absurd (cc)
over honest (command_of.Export prefix) file peer came syncs dials many = absurd (cc)
over honest (command_of.Verify prefix) file peer came syncs dials many = absurd (cc)
over honest (command_of.Scrub path) file peer came syncs dials many = absurd (cc)
over honest (command_of.Unversioned asked) file peer came syncs dials many = absurd (no_rounds asked syncs)
over honest (command_of.Gen count reversed) file peer came syncs dials many = absurd (cc)
over honest (command_of.Clone address server fields) file peer came syncs dials many = absurd (cc)
over honest (command_of.Pull address login) file peer came syncs dials many = over_file honest (IsPullOutcome honest.0 login) (some_pull honest.0 login) file peer came many (some_file file)
over honest (command_of.Push address login) file peer came syncs dials many = over_file honest (IsPushOutcome honest.0 login) (some_push honest.0 login) file peer came many (some_file file)
over honest (command_of.PullLocal path) file peer came syncs dials many = absurd (cc)

pub some_sync_outcome : HasSomeSyncOutcome
some_sync_outcome = record { local = local; over = over }
