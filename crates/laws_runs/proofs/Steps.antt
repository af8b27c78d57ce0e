-- What one run and its end leave of a disk whose file stood for one list of records.
use Rattle.std.proofs.Common.{◌≡◌, ◌≢◌, ◌⊎◌, inl, inr, ℕ, ◌≤◌, Bool, true, false, List, [], ◌∷◌, ◌++◌, length, Option, Some, IsTrue, refl, sym, ap, subst, ◌∙◌, arith}
use Rattle.std.specs.Prelude.{◌||◌, ◌&&◌, ◌==◌, not, MatchBool}
use Rattle.std.proofs.lemmas.List.{append-nil}
use Rattle.fsl_record.specs.declared.Record.{Record}
use Rattle.fsl_disk.specs.Disk.{DiskState, IsModelled, Told, Quiet, LeavesOnly, Only}
use Rattle.fsl_disk.proofs.Moments.{quiet_moments, told_contents}
use Rattle.fsl_journal.specs.File.{IsFileOf}
use Rattle.fsl_journal.specs.Log.{IsNoFile}
use Rattle.fsl_journal.specs.Laws.{IsSomeFile}
use Rattle.fsl_repo.specs.Whole.{is_modelled}
use Rattle.fsl_words.specs.declared.Command.{Command}
use Rattle.fossil.specs.Outcome.{Outcome}
use Rattle.fossil.specs.Run.{Input, Output, Clock, Agrees, opens, begins, StandsFor, StandsForAll, StandsForSome, AreOldBy, AreImages, IsNoRepository, IsRefused, RunsBy, after_commits, is_done, lasts}
use Rattle.fossil.specs.Acts.{file_of}
use Rattle.laws_runs.specs.declared.session.End.{End}
use Rattle.laws_runs.specs.declared.session.End.TheVariants as end_is
use Rattle.laws_runs.specs.Reboot.{IsRebooted, IsKilled}
use Rattle.laws_runs.specs.Stands.{Stands, IsSettled}
use Rattle.laws_runs.specs.Runs.{IsEndedBy, is_sure, is_killed}
use Rattle.laws_runs.proofs.Commits.{closed_commits, refused_commits, refused_file, begun_commits}

-- ---- records and files

-- one content that stands for these is settled
pub settled_one : (records : List Record) (images : List ℕ → Type 0) (held : List ℕ) → Only held images → StandsFor records held → IsSettled records images
settled_one [] images held only none = inr (refl, held, only, none)
settled_one (r ∷ records) images held only file = inl (λ c image. subst (λ b. IsFileOf b (r ∷ records)) (sym (only c image)) file)

-- and so are images of which each stands for some
pub settled_some : (records : List Record) (images : List ℕ → Type 0) → records ≢ [] → ((c : List ℕ) → images c → StandsFor records c) → IsSettled records images
settled_some [] images some each = absurd (some refl)
settled_some (r ∷ records) images some each = inl each

-- a file has a record
pub has_record : (records more : List Record) (c : List ℕ) → IsFileOf c records → records ++ more ≢ []
has_record [] more c file = absurd file.fit
has_record (r ∷ records) more c file = λ e. cc

pub file_stands : (records : List Record) (c : List ℕ) → IsFileOf c records → StandsFor records c
file_stands [] c file = absurd file.fit
file_stands (r ∷ records) c file = file

by_begins : (b : Bool) (records : List Record) (c : List ℕ) → IsFileOf c records → AreOldBy b records c
by_begins true records c file = inr file
by_begins false records c file = file

begins_empty : (b : Bool) (c : List ℕ) → b ≡ true → c ≡ [] → AreOldBy b [] c
begins_empty true c is empty = inl (refl, empty)
begins_empty false c is empty = absurd (cc)

pub agreed : (told : Option (List ℕ)) (held bytes : List ℕ) → told ≡ Some held → Agrees told bytes → bytes ≡ held
agreed told held bytes is agrees = subst (λ t. Agrees t bytes) is agrees

pub fails_there : (bytes : List ℕ) → IsSomeFile → IsNoFile bytes → IsNoRepository bytes
fails_there bytes some none = or_none (some bytes)
  where
    or_none : IsNoRepository bytes ⊎ ((records : List Record) × IsFileOf bytes records) → IsNoRepository bytes
    or_none (inl fails) = fails
    or_none (inr file) = absurd (none file.0 file.1)

is_empty : (bytes : List ℕ) → (bytes ≡ []) ⊎ (bytes ≢ [])
is_empty [] = inl refl
is_empty (b ∷ bytes) = inr (λ e. cc)

done_lasts : (command : Option Command) (status : ℕ) → is_done status ≡ true → IsTrue (lasts command status)
done_lasts command status done = ap (λ d. d || ((status == 3) && not (begins command))) done

stands_file : (records : List Record) (c : List ℕ) → records ≢ [] → StandsFor records c → IsFileOf c records
stands_file [] c some none = absurd (some refl)
stands_file (r ∷ records) c some file = file

-- what reads as a repository, and stands for these, is their file
pub is_its_file : (records : List Record) (held : List ℕ) → StandsFor records held → (other : List Record) × IsFileOf held other → IsFileOf held records
is_its_file [] held none file = absurd (none file.0 file.1)
is_its_file (r ∷ records) held file other = file

nothing_more : (old : List Record) → after_commits old [] (length {A = List Record} []) ≡ old
nothing_more old = append-nil old

nothing_quiet : (file : DiskState) → Quiet file file
nothing_quiet file = record {
  keeps = record { tells = refl; model = refl };
  contents = refl;
  later = λ model. omega arith;
  images = λ model c image. image;
  since = λ model t c le left. inl left;
}

-- ---- what a run did to its file

-- behind a run that was done each image stands for the old records and all commits, and so the file is settled
pub record Lasts (old : List Record) (commits : List (List Record)) (after : DiskState) : Type 0 where
  pub all : (c : List ℕ) → after.images c → StandsForAll old commits c
  pub settled : IsSettled (after_commits old commits (length commits)) after.images

-- at each moment each image stands for the old records and some first commits; where the run was done, this lasts
pub record Passes (old : List Record) (commits : List (List Record)) (done : Bool) (before after : DiskState) : Type 0 where
  pub moments : LeavesOnly before after (StandsForSome old commits)
  pub lasts : done ≡ true → Lasts old commits after

-- one that left its file as it was, and appended nothing
pub idle_passes : (old : List Record) (commits : List (List Record)) (done : Bool) (before after : DiskState) → commits ≡ [] → Quiet before after → IsTrue before.is_model
    → ((c : List ℕ) → before.since before.moment c → before.images c) → ((c : List ℕ) → before.images c → StandsFor old c) → IsSettled old before.images
    → Passes old commits done before after
idle_passes old commits done before after none quiet model only stands settled =
    subst (λ cs. Passes old cs done before after) (sym none) (record {
      moments = quiet_moments before after (StandsForSome old []) quiet model only (λ c image. (0, omega arith, kept c image));
      lasts = λ is. record { all = λ c image. kept c (quiet.images model c image); settled = still settled };
    })
  where
    kept : (c : List ℕ) → before.images c → StandsFor (after_commits old [] 0) c
    kept c image = subst (λ rs. StandsFor rs c) (sym (nothing_more old)) (stands c image)

    still : IsSettled old before.images → IsSettled (after_commits old [] 0) after.images
    still (inl files) = inl (λ c image. subst (λ rs. IsFileOf c rs) (sym (nothing_more old)) (files c (quiet.images model c image)))
    still (inr one) = inr (nothing_more old ∙ one.0, one.1, (λ c image. one.2 c (quiet.images model c image)), one.3)

-- ---- one run

module _ {D : Type 0} (disk : D → DiskState)
    (reads : (d : D) (held : List ℕ) → IsTrue (disk d).is_model → (disk d).contents ≡ Some held → (disk d).images held)
    (only_now : (d : D) (c : List ℕ) → IsTrue (disk d).is_model → (disk d).since (disk d).moment c → (disk d).images c)
    (some_file : IsSomeFile) (command : Option Command) (input : Input) (clock : Clock) (out : Output) (began ended : D) (status : ℕ) (read : List ℕ) (moment : ℕ)
    (bytes : List ℕ) (o : Outcome) (runs : RunsBy command input clock out (file_of (disk began, disk ended)) status read moment bytes o)
    (untouched : opens command ≡ false → ended ≡ began) (modelled : IsModelled (disk began)) where
  told_bytes : (disk began).contents ≡ Some bytes
  told_bytes =
      let told = told_contents (disk began) modelled in
      told.1 ∙ ap (λ b. Some b) (sym (agreed (disk began).contents told.0 bytes told.1 runs.file_told))

  is_image : (disk began).images bytes
  is_image = reads began bytes modelled.model told_bytes

  closed_quiet : opens command ≡ false → Quiet (disk began) (disk ended)
  closed_quiet closed = subst (λ d. Quiet (disk began) (disk d)) (sym (untouched closed)) (nothing_quiet (disk began))

  -- a command that touches no file
  closed_passes : (old : List Record) → opens command ≡ false → ((c : List ℕ) → (disk began).images c → StandsFor old c) → IsSettled old (disk began).images
      → Passes old o.commits (is_done status) (disk began) (disk ended)
  closed_passes old closed stands settled =
      idle_passes old o.commits (is_done status) (disk began) (disk ended) (closed_commits command (is_modelled (disk began)) read moment bytes o closed runs.outcome) (closed_quiet closed)
      modelled.model (λ c since. only_now began c modelled.model since) stands settled

  -- one that is done over what reads as old records, whatever a crash might have left before
  open_lasts : (old : List Record) → opens command ≡ true → AreOldBy (begins command) old bytes
      → (is_done status ≡ true → after_commits old o.commits (length o.commits) ≢ []) → is_done status ≡ true → Lasts old o.commits (disk ended)
  open_lasts old opened at some done = record { all = all; settled = settled_some (after_commits old o.commits (length o.commits)) (disk ended).images (some done) all }
    where
      all : (c : List ℕ) → (disk ended).images c → StandsForAll old o.commits c
      all c image = runs.durable (done_lasts command status done) opened modelled told_bytes old at c image

  pub run_lasts : (old : List Record) → Told (disk began) (λ held. IsFileOf held old) → opens command ≡ true → is_done status ≡ true → Lasts old o.commits (disk ended)
  run_lasts old file opened done =
      open_lasts old opened (by_begins (begins command) old bytes (file bytes told_bytes)) (λ d. has_record old _ bytes (file bytes told_bytes)) done

  -- one over old records, or over an empty file that it begins
  open_passes : (old : List Record) → opens command ≡ true → AreImages command old (disk began).images
      → (is_done status ≡ true → after_commits old o.commits (length o.commits) ≢ [])
      → Passes old o.commits (is_done status) (disk began) (disk ended)
  open_passes old opened images some = record {
    moments = runs.any_moment modelled old images;
    lasts = λ done. open_lasts old opened (images bytes is_image) some done;
  }

  file_passes : (old : List Record) → ((c : List ℕ) → (disk began).images c → IsFileOf c old) → Passes old o.commits (is_done status) (disk began) (disk ended)
  file_passes old files = by_open (opens command) refl
    where
      by_open : (b : Bool) → opens command ≡ b → Passes old o.commits (is_done status) (disk began) (disk ended)
      by_open true opened =
          open_passes old opened (λ c image. by_begins (begins command) old c (files c image)) (λ done. has_record old _ bytes (files bytes is_image))
      by_open false closed = closed_passes old closed (λ c image. file_stands old c (files c image)) (inl files)

  bare_passes : (held : List ℕ) → Only held (disk began).images → IsNoFile held → Passes [] o.commits (is_done status) (disk began) (disk ended)
  bare_passes held single none = by_open (opens command) refl
    where
      stands : (c : List ℕ) → (disk began).images c → StandsFor [] c
      stands c image = subst (λ b. IsNoFile b) (sym (single c image)) none

      settled : IsSettled [] (disk began).images
      settled = inr (refl, held, single, none)

      refused : IsRefused command bytes → Passes [] o.commits (is_done status) (disk began) (disk ended)
      refused is =
          idle_passes [] o.commits (is_done status) (disk began) (disk ended) (refused_commits command (is_modelled (disk began)) read moment bytes o is (stands bytes is_image) runs.outcome)
          (runs.kept told_bytes is) modelled.model (λ c since. only_now began c modelled.model since) stands settled

      fails : IsNoRepository bytes
      fails = fails_there bytes some_file (stands bytes is_image)

      by_empty : opens command ≡ true → begins command ≡ true → (bytes ≡ []) ⊎ (bytes ≢ []) → Passes [] o.commits (is_done status) (disk began) (disk ended)
      by_empty opened begun (inl empty) =
          open_passes [] opened (λ c image. begins_empty (begins command) c begun (single c image ∙ sym (single bytes is_image) ∙ empty))
          (λ done. begun_commits command (is_modelled (disk began)) read moment bytes o begun empty runs.outcome)
      by_empty opened begun (inr some) = refused (refused_file command bytes opened fails (inr some))

      by_begin : opens command ≡ true → (b : Bool) → begins command ≡ b → Passes [] o.commits (is_done status) (disk began) (disk ended)
      by_begin opened true begun = by_empty opened begun (is_empty bytes)
      by_begin opened false loads = refused (refused_file command bytes opened fails (inl loads))

      by_open : (b : Bool) → opens command ≡ b → Passes [] o.commits (is_done status) (disk began) (disk ended)
      by_open true opened = by_begin opened (begins command) refl
      by_open false closed = closed_passes [] closed stands settled

  pub run_passes : (old : List Record) → IsSettled old (disk began).images → Passes old o.commits (is_done status) (disk began) (disk ended)
  run_passes old (inl files) = file_passes old files
  run_passes old (inr one) = subst (λ rs. Passes rs o.commits (is_done status) (disk began) (disk ended)) (sym one.0) (bare_passes one.1 one.2 one.3)

-- ---- its end

-- some first commits, all where it is known that the run was done; and what is known of the disk by these
abbrev pub Steps : List Record → List (List Record) → End → ℕ → DiskState → Type 0
Steps old commits e status left =
    (n : ℕ) × (n ≤ length commits) × (IsTrue (is_sure e status) → n ≡ length commits) × Stands (is_killed e) (after_commits old commits n) left

-- somebody knows it of a run that was done alone
pub sure_done : (e : End) (status : ℕ) → IsTrue (is_sure e status) → is_done status ≡ true
sure_done end_is.Cut status sure = let wrong : false ≡ true = sure in absurd (cc)
sure_done end_is.Killed status sure = let wrong : false ≡ true = sure in absurd (cc)
sure_done end_is.Heard status sure = sure
sure_done end_is.Spared status sure = sure

module _ {D : Type 0} (disk : D → DiskState)
    (only_now : (d : D) (c : List ℕ) → IsTrue (disk d).is_model → (disk d).since (disk d).moment c → (disk d).images c) (old : List Record)
    (commits : List (List Record)) (status : ℕ) (began ended left : D) (modelled : IsModelled (disk ended)) where
  -- the power fails behind it
  struck_one : IsRebooted (disk ended) (disk ended) (disk left) → (held : List ℕ) × (disk ended).images held × Only held (disk left).images
  struck_one struck =
      let one = struck modelled (omega arith) in
      (one.0, only_now ended one.0 modelled.model one.1, one.2)

  struck_lasts : Lasts old commits (disk ended) → IsRebooted (disk ended) (disk ended) (disk left)
      → IsSettled (after_commits old commits (length commits)) (disk left).images
  struck_lasts lasts struck =
      let one = struck_one struck in
      settled_one (after_commits old commits (length commits)) (disk left).images one.0 one.2 (lasts.all one.0 one.1)

  -- a run of which somebody knows that it was done
  pub firm_steps : (e : End) → IsTrue (is_sure e status) → Lasts old commits (disk ended) → IsEndedBy disk e status began ended left → Steps old commits e status (disk left)
  firm_steps end_is.Cut sure lasts struck = let wrong : false ≡ true = sure in absurd (cc)
  firm_steps end_is.Killed sure lasts struck = let wrong : false ≡ true = sure in absurd (cc)
  firm_steps end_is.Heard sure lasts struck = (length commits, omega arith, (λ known. refl), struck_lasts lasts struck)
  firm_steps end_is.Spared sure lasts spared =
      let same : left ≡ ended = subst (λ b. MatchBool b (left ≡ ended) (IsRebooted (disk ended) (disk ended) (disk left))) sure spared in
      (length commits, omega arith, (λ known. refl), subst (λ d. IsSettled (after_commits old commits (length commits)) (disk d).images) (sym same) lasts.settled)

  module _ (passes : Passes old commits (is_done status) (disk began) (disk ended)) where
    -- the power fails at some moment since it began
    cut_steps : IsRebooted (disk began) (disk ended) (disk left) → Steps old commits end_is.Cut status (disk left)
    cut_steps struck =
        let one = struck modelled passes.moments.later in
        let some = passes.moments.each one.0 one.1 in
        (some.0, some.1, (λ known. let wrong : false ≡ true = known in absurd (cc)), settled_one (after_commits old commits some.0) (disk left).images one.0 one.2 some.2)

    -- its process is killed then
    killed_steps : IsKilled (disk began) (disk ended) (disk left) → Steps old commits end_is.Killed status (disk left)
    killed_steps struck =
        let one = struck modelled passes.moments.later in
        let some = passes.moments.each one.0 one.1 in (
          some.0,
          some.1,
          (λ known. let wrong : false ≡ true = known in absurd (cc)),
          λ held told.
              subst (λ b. StandsFor (after_commits old commits some.0) b)
              (agreed (disk left).contents held one.0 told (subst (λ t. Agrees t one.0) (sym one.2) refl)) some.2,
        )

    -- the power fails behind one that wasn't done
    failed_steps : (e : End) → is_killed e ≡ false → is_done status ≡ false → IsRebooted (disk ended) (disk ended) (disk left) → Steps old commits e status (disk left)
    failed_steps e ended_so failed struck =
        let one = struck_one struck in
        let some = passes.moments.now one.0 one.1 in (
          some.0,
          some.1,
          (λ sure. let wrong : true ≡ false = sym (sure_done e status sure) ∙ failed in absurd (cc)),
          subst (λ b. Stands b (after_commits old commits some.0) (disk left)) (sym ended_so)
              (settled_one (after_commits old commits some.0) (disk left).images one.0 one.2 some.2),
        )

    heard_steps : (b : Bool) → is_done status ≡ b → IsRebooted (disk ended) (disk ended) (disk left) → Steps old commits end_is.Heard status (disk left)
    heard_steps true done struck = firm_steps end_is.Heard done (passes.lasts done) struck
    heard_steps false failed struck = failed_steps end_is.Heard refl failed struck

    spared_steps : (b : Bool) → is_done status ≡ b → MatchBool (is_done status) (left ≡ ended) (IsRebooted (disk ended) (disk ended) (disk left))
        → Steps old commits end_is.Spared status (disk left)
    spared_steps true done spared = firm_steps end_is.Spared done (passes.lasts done) spared
    spared_steps false failed spared =
        failed_steps end_is.Spared refl failed (subst (λ b. MatchBool b (left ≡ ended) (IsRebooted (disk ended) (disk ended) (disk left))) failed spared)

    pub ended_steps : (e : End) → IsEndedBy disk e status began ended left → Steps old commits e status (disk left)
    ended_steps end_is.Cut struck = cut_steps struck
    ended_steps end_is.Killed struck = killed_steps struck
    ended_steps end_is.Heard struck = heard_steps (is_done status) refl struck
    ended_steps end_is.Spared spared = spared_steps (is_done status) refl spared
