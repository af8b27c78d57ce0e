-- What a sync leaves of a disk whose file stood for one list of records.
use Rattle.std.proofs.Common.{◌≡◌, ◌⊎◌, inl, inr, ℕ, Bool, true, false, List, [], ◌∷◌, ◌++◌, length, take, Some, refl, sym, ap, subst, ◌∙◌, arith}
use Rattle.std.specs.Prelude.{◌==◌, if◌then◌else◌, flat_map}
use Rattle.std.proofs.lemmas.List.{length-append}
use Rattle.std.proofs.Math.Seq.{take-append_seam, take-length}
use Rattle.fsl_outside.specs.Connections.{Connection, LinkState}
use Rattle.fsl_record.specs.declared.Record.{Record}
use Rattle.fsl_disk.specs.Disk.{DiskState, IsModelled, Told, Only}
use Rattle.fsl_disk.proofs.Moments.{weaker, told_contents}
use Rattle.fsl_journal.specs.File.{IsFileOf}
use Rattle.fsl_journal.specs.Log.{IsNoFile}
use Rattle.fsl_journal.specs.Laws.{IsSomeFile}
use Rattle.fsl_pull.specs.Dialled.{Rounds}
use Rattle.fsl_pull.specs.Kept as kept
use Rattle.fsl_pull.specs.Kept.{all_of_them}
use Rattle.fsl_words.specs.declared.Command.{Command}
use Rattle.fsl_words.specs.declared.Command.TheVariants.{Init, Ingest, Put, Shun, Unshun, Ask, Serve, Gen, Pull, Push, Clone, PullLocal, Checkin, Export, Verify, Scrub, Unversioned}
use Rattle.fossil.specs.Printed.{Printed}
use Rattle.fossil.specs.Outcome.{Outcome}
use Rattle.fossil.specs.Run.{File, StandsFor, StandsForAll, StandsForSome, after_commits, is_done}
use Rattle.fossil.specs.Synced.{Read, IsSyncOutcome, AreCommits, AreCommitsSoFar, AreCutOff, AreMade, StandsOrWasLeft, MayBeUnloaded, Far, SyncsBy, reached, objects_of}
use Rattle.laws_runs.specs.Stands.{IsSettled}
use Rattle.laws_runs.proofs.Steps.{Lasts, Passes, idle_passes, settled_some, has_record, file_stands, agreed, fails_there}

-- ---- commits of a file that is no repository

outcome_none : (command : Command) (r : Read) (o : Outcome) → IsNoFile r.file → IsSyncOutcome command r o → o.commits ≡ []
outcome_none (Pull address login) r o none (inl fails) = ap (λ (x : Outcome). x.commits) fails.3
outcome_none (Pull address login) r o none (inr stands) = absurd (none stands.0 stands.1)
outcome_none (Push address login) r o none (inl fails) = ap (λ (x : Outcome). x.commits) fails.3
outcome_none (Push address login) r o none (inr stands) = absurd (none stands.0 stands.1)
outcome_none (PullLocal path) r o none (rounds, inl fails) = ap (λ (x : Outcome). x.commits) fails.3
outcome_none (PullLocal path) r o none (rounds, inr stands) = absurd (none stands.0 stands.1)
outcome_none (Init project server fields) r o none is = absurd is
outcome_none Ingest r o none is = absurd is
outcome_none Put r o none is = absurd is
outcome_none (Shun name) r o none is = absurd is
outcome_none (Unshun name) r o none is = absurd is
outcome_none (Ask question) r o none is = absurd is
outcome_none (Serve address users workers requests) r o none is = absurd is
outcome_none (Gen count reversed) r o none is = absurd is
outcome_none (Clone address server fields) r o none is = absurd is
outcome_none (Checkin parent user comment) r o none is = absurd is
outcome_none (Export prefix) r o none is = absurd is
outcome_none (Verify prefix) r o none is = absurd is
outcome_none (Scrub path) r o none is = absurd is
outcome_none (Unversioned asked) r o none is = absurd is

no_commits_so_far : (command : Command) (r : Read) (commits : List (List Record)) → IsNoFile r.file → AreCommitsSoFar command r commits → ⊥
no_commits_so_far (Pull address login) r commits none are = none are.0 are.1
no_commits_so_far (Push address login) r commits none are = none are.0 are.1
no_commits_so_far (PullLocal path) r commits none are = none are.1.0 are.1.1
no_commits_so_far (Init project server fields) r commits none are = are
no_commits_so_far Ingest r commits none are = are
no_commits_so_far Put r commits none are = are
no_commits_so_far (Shun name) r commits none are = are
no_commits_so_far (Unshun name) r commits none are = are
no_commits_so_far (Ask question) r commits none are = are
no_commits_so_far (Serve address users workers requests) r commits none are = are
no_commits_so_far (Gen count reversed) r commits none are = are
no_commits_so_far (Clone address server fields) r commits none are = are
no_commits_so_far (Checkin parent user comment) r commits none are = are
no_commits_so_far (Export prefix) r commits none are = are
no_commits_so_far (Verify prefix) r commits none are = are
no_commits_so_far (Scrub path) r commits none are = are
no_commits_so_far (Unversioned asked) r commits none are = are

led_none : (command : Command) (r : Read) (rounds : Rounds) (commits : List (List Record)) → IsNoFile r.file
    → AreCommits command r commits ⊎ ((rounds ≡ []) × (commits ≡ [])) → commits ≡ []
led_none command r rounds commits none (inr nothing) = nothing.1
led_none command r rounds commits none (inl (inl o)) = o.2 ∙ outcome_none command r o.0 none o.1
led_none command r rounds commits none (inl (inr so_far)) = absurd (no_commits_so_far command r commits none so_far)

front_none : {A : Type 0} (front more : List A) → [] ≡ front ++ more → front ≡ []
front_none [] more e = refl
front_none (x ∷ front) more e = absurd (cc)

cut_none : (command : Command) (r : Read) (commits : List (List Record)) (far : Far) → IsNoFile r.file → commits ≡ [] → AreCutOff command r commits far
    → (far.done ≡ []) × (far.due ≡ [])
cut_none (PullLocal path) r commits far none empty cut = (front_none far.done cut.0.0 (sym empty ∙ cut.0.1), cut.1 ∙ empty)
cut_none (Pull address login) r commits far none empty cut = absurd (none cut.0.3.0 cut.0.3.1)
cut_none (Push address login) r commits far none empty cut = absurd (none cut.0.3.0 cut.0.3.1)
cut_none (Init project server fields) r commits far none empty cut = absurd cut.0.3
cut_none Ingest r commits far none empty cut = absurd cut.0.3
cut_none Put r commits far none empty cut = absurd cut.0.3
cut_none (Shun name) r commits far none empty cut = absurd cut.0.3
cut_none (Unshun name) r commits far none empty cut = absurd cut.0.3
cut_none (Ask question) r commits far none empty cut = absurd cut.0.3
cut_none (Serve address users workers requests) r commits far none empty cut = absurd cut.0.3
cut_none (Gen count reversed) r commits far none empty cut = absurd cut.0.3
cut_none (Clone address server fields) r commits far none empty cut = absurd cut.0.3
cut_none (Checkin parent user comment) r commits far none empty cut = absurd cut.0.3
cut_none (Export prefix) r commits far none empty cut = absurd cut.0.3
cut_none (Verify prefix) r commits far none empty cut = absurd cut.0.3
cut_none (Scrub path) r commits far none empty cut = absurd cut.0.3
cut_none (Unversioned asked) r commits far none empty cut = absurd cut.0.3

made_none : (command : Command) (r : Read) (status : ℕ) (broken : List Connection) (commits : List (List Record)) (far : Far) → IsNoFile r.file → commits ≡ []
    → AreMade command r status broken commits far → (far.done ≡ []) × (far.due ≡ [])
made_none command r status broken commits far none empty (inl whole) = (whole.0 ∙ empty, whole.1 ∙ empty)
made_none command r status broken commits far none empty (inr cut) = cut_none command r commits far none empty cut.2

either_none : (t : Bool) (a b : List (List Record)) → a ≡ [] → b ≡ [] → (if t then a else b) ≡ []
either_none true a b first second = first
either_none false a b first second = second

-- ---- a sync that is done

done_is_no : (status k : ℕ) → is_done status ≡ true → is_done k ≡ false → status ≡ k → ⊥
done_is_no status k done other same = let wrong : true ≡ false = sym done ∙ ap (λ n. is_done n) same ∙ other in cc

not_unloaded : (file : File) (status : ℕ) → is_done status ≡ true → MayBeUnloaded file status → ⊥
not_unloaded file status done (inl nine) = done_is_no status 9 done refl nine
not_unloaded file status done (inr four) = done_is_no status 4 done refl four.0

not_four : (n : ℕ) → (n ≡ 4 → ⊥) → (n == 4) ≡ false
not_four n h = grind (arith)

is_second : (t : Bool) (a b : List (List Record)) → t ≡ false → (if t then a else b) ≡ b
is_second true a b is = absurd (cc)
is_second false a b is = refl

-- ---- one sync

module _ (command : Command) (before after : DiskState) (peer : DiskState × DiskState) (dial : LinkState × LinkState) (Tells : Printed → Type 0) (status : ℕ) (rounds : Rounds)
    (broken : List Connection) (r : Read) (all : List (List Record)) (s : SyncsBy command (objects_of (before, after) peer dial) Tells status rounds broken r all)
    (some_file : IsSomeFile) (modelled : IsModelled before) (reads : (held : List ℕ) → before.contents ≡ Some held → before.images held)
    (only : (c : List ℕ) → before.since before.moment c → before.images c) where
  abbrev commits : List (List Record)
  commits = reached status s.far

  told_bytes : before.contents ≡ Some r.file
  told_bytes =
      let told = told_contents before modelled in
      told.1 ∙ ap (λ b. Some b) (sym (agreed before.contents told.0 r.file told.1 s.file_told))

  is_image : before.images r.file
  is_image = reads r.file told_bytes

  module _ (old : List Record) where
    some_of : (c : List ℕ) → kept.StandsForSome old commits c → StandsForSome old commits c
    some_of c x = (
      length x.0,
      omega (arith, ap length x.2, length-append x.0 x.1),
      subst (λ cs. StandsFor (old ++ flat_map (λ commit. commit) cs) c) (sym (ap (take (length x.0)) x.2 ∙ take-append_seam x.0 x.1)) (file_stands (old ++ all_of_them x.0) c x.3),
    )

    done_commits : is_done status ≡ true → commits ≡ s.far.done
    done_commits done = is_second (status == 4) s.far.due s.far.done (not_four status (done_is_no status 4 done refl))

    all_of : is_done status ≡ true → (c : List ℕ) → StandsOrWasLeft (record { before = before; after = after }) status old s.far c → StandsForAll old commits c
    all_of done c (inl (inl file)) =
        subst (λ cs. StandsFor (old ++ flat_map (λ commit. commit) cs) c) (sym (take-length commits ∙ done_commits done)) (file_stands (old ++ all_of_them s.far.done) c file)
    all_of done c (inl (inr failed)) = absurd (done_is_no status 4 done refl failed.0)
    all_of done c (inr unloaded) = absurd (not_unloaded (record { before = before; after = after }) status done unloaded.0)

    -- one that is done over what reads as old records, whatever a crash might have left before
    pub sync_lasts : Told before (λ held. IsFileOf held old) → is_done status ≡ true → Lasts old commits after
    sync_lasts file done = record { all = behind; settled = settled_some (after_commits old commits (length commits)) after.images (has_record old _ r.file (file r.file told_bytes)) behind }
      where
        behind : (c : List ℕ) → after.images c → StandsForAll old commits c
        behind c image = all_of done c (s.durable modelled told_bytes old (file r.file told_bytes) c image)

    sync_file : ((c : List ℕ) → before.images c → IsFileOf c old) → Passes old commits (is_done status) before after
    sync_file files = record {
      moments = weaker before after (kept.StandsForSome old commits) (StandsForSome old commits) some_of (s.any_moment modelled old files);
      lasts = λ done. sync_lasts (λ held told. files held (reads held told)) done;
    }

  sync_bare : (held : List ℕ) → Only held before.images → IsNoFile held → Passes [] commits (is_done status) before after
  sync_bare held single none =
      let made = made_none command r status broken all s.far (stands r.file is_image) (led_none command r rounds all (stands r.file is_image) s.led) s.are_made in
      idle_passes [] commits (is_done status) before after (either_none (status == 4) s.far.due s.far.done made.1 made.0)
      (s.kept told_bytes (fails_there r.file some_file (stands r.file is_image))) modelled.model only stands (inr (refl, held, single, none))
    where
      stands : (c : List ℕ) → before.images c → StandsFor [] c
      stands c image = subst (λ b. IsNoFile b) (sym (single c image)) none

  pub sync_passes : (old : List Record) → IsSettled old before.images → Passes old commits (is_done status) before after
  sync_passes old (inl files) = sync_file old files
  sync_passes old (inr one) = subst (λ rs. Passes rs commits (is_done status) before after) (sym one.0) (sync_bare one.1 one.2 one.3)
