-- What a command did that appends to the file in one commit, once the file was loaded.
use Rattle.std.proofs.Common.{◌≡◌, ◌≢◌, ◌⊎◌, inl, inr, ⊎_elim, ℕ, ◌<◌, ◌≤◌, List, [], ◌∷◌, ◌++◌, length, take, Option, Some, Ok, Err, IsTrue, refl, sym, ap, subst, ◌∙◌, arith, length-append, Bool, true, false}
use Rattle.std.specs.Io.KnownBytes.{IsAtEnd}
use Rattle.std.specs.Prelude.{is_some}
use Rattle.std.proofs.lemmas.List.{append-nil, take_at}
use Rattle.fsl_order.specs.Causes.{Rose}
use Rattle.fsl_record.specs.declared.Record.{Record}
use Rattle.fsl_disk.specs.Disk.{DiskState, IsModelled, Told, Keeps, LeavesOnly}
use Rattle.fsl_disk.proofs.Moments.{weaker, and_then, keeps_on, modelled_after, told_contents}
use Rattle.fsl_journal.specs.File.{IsFileOf}
use Rattle.fsl_journal.specs.Log.{committed, BeforeOrAll}
use Rattle.fsl_journal.proofs.Unique.{one_file}
use Rattle.fsl_words.specs.declared.Command.{Command}
use Rattle.fossil.specs.declared.answers.fault.Fault.{Fault}
use Rattle.fossil.specs.declared.answers.fault.Fault.TheVariants as fault_is
use Rattle.fossil.specs.Printed.{Printed}
use Rattle.fsl_repo.specs.Whole.{is_modelled}
use Rattle.fossil.specs.Outcome.{Outcome, with_commit, one_commit, IsSaidOutcome}
use Rattle.fossil.specs.Run.{Input, IsInputSteady, Clock, Agrees, IsTimed, AreImages, StandsFor, StandsForAll, StandsForSome, IsLeft, IsWholeAtAnyMoment, reads, IsJust}
use Rattle.fossil.specs.Acts.{Loaded, HasActed, Touches, IsOpened, IsUnread, KeepsUnreadable}
use Rattle.fossil.proofs.InputLemmas.{some_bytes}
use Rattle.fossil.proofs.FileLemmas.{both, Loads, stands, agrees, none_committed, all_committed, one_is_all, readable, loaded_touches}
use Rattle.fossil.proofs.SomeOutcome.{some_said_outcome}
use Rattle.fossil.proofs.CommitLemmas.{idle_just, idle_durable}
use Rattle.fossil.proofs.ActLemmas.{still, fault_still, still_by, unread_by, memory_by, disk_by}

-- the status is 0, or 3 with nothing appended
abbrev pub IsPlain : Printed → List Record → Type 0
IsPlain answer appended = (answer.status ≡ 0) ⊎ ((answer.status ≡ 3) × (appended ≡ []))

-- what is left holds the bytes of these records alone, and no call of the disk failed
abbrev pub IsSettledOn : DiskState → DiskState → List Record → Type 0
IsSettledOn mid left records = Told left (λ held. IsJust held records) × (left.faults ≡ mid.faults)

no_commit : (records : List Record) → one_commit records ≡ [] → records ≡ []
no_commit [] e = refl
no_commit (r ∷ records) e = absurd (cc)

-- what a command read, answers and appended in memory
pub record IsAppended (command : Option Command) (input : Input) (clock : Clock) (bytes : List ℕ) (before after : Loaded) (answer : Printed) : Type 0 where
  pub read : List ℕ
  pub moment : ℕ
  pub appended : List Record
  pub told : Agrees input.before.left read
  pub outcome : IsFileOf bytes before.journal.records → (honest : Bool) → IsSaidOutcome honest command read moment bytes (with_commit answer appended)
  pub timed : IsFileOf bytes before.journal.records → IsTimed command clock true read moment bytes
  pub plain : IsPlain answer appended
  pub records : after.journal.records ≡ before.journal.records ++ appended
  pub stable : after.journal.stable ≡ before.journal.stable
  pub end : answer.status ≡ 0 → IsTrue (reads command) → IsAtEnd input.after.left
  pub input_steady : IsInputSteady input

module _ (command : Option Command) (loads : Loads command) (input : Input) (file mid : DiskState) (l : Loaded) (opened : IsOpened file mid l) where
  abbrev bytes : List ℕ
  bytes = opened.stands.0

  file_told : Agrees file.contents bytes
  file_told = agrees file.contents bytes opened.stands.1

  -- the old records are those that were loaded
  old_is : (told : List ℕ) (old : List Record) → file.contents ≡ Some told → IsFileOf told old → l.journal.records ≡ old
  old_is told old e are = one_file told l.journal.records old (subst (λ (b : List ℕ). IsFileOf b l.journal.records) (opened.stands.1 told e) opened.stands.2) are

  unreadable : (left : DiskState) → KeepsUnreadable file left
  unreadable left = readable file left (bytes, opened.stands.1, (l.journal.records, opened.stands.2))

  -- the input wasn't read
  pub unread_acted : (told : Option (List ℕ)) (fault : Fault) → IsUnread fault input → IsTrue (reads command) → HasActed command input (still told) (both file mid) (Err fault)
  unread_acted told fault un reads_it =
      let read = some_bytes input.before.left in
      let o = some_said_outcome (is_modelled file) command read.0 0 bytes loads.alone in (
        read.0,
        0,
        bytes,
        o.0,
        unread_by command loads input file mid read.0 0 bytes o.0 read.1 file_told o.1
            (loaded_touches command loads file mid bytes o.0 (unreadable mid) opened.any_moment opened.keeps) fault un reads_it l.journal.records opened.stands.2 opened.faults opened.contents,
        still_by command input told fault (λ e. subst (λ (f : Fault). IsUnread f input) e un) read.0 0 bytes,
      )

  -- there was no memory for what is appended, behind a moment that was taken
  pub memory_timed : IsInputSteady input → (clock : Clock) (read : List ℕ) (moment : ℕ) → Agrees input.before.left read → IsTimed command clock false read moment bytes → HasActed command input clock (both file mid) (Err fault_is.Memory)
  memory_timed input_steady clock read moment told timed =
      let o = some_said_outcome (is_modelled file) command read moment bytes loads.alone in (
        read,
        moment,
        bytes,
        o.0,
        memory_by command loads input file mid read moment bytes o.0 told file_told o.1
            (loaded_touches command loads file mid bytes o.0 (unreadable mid) opened.any_moment opened.keeps) opened.faults input_steady opened.contents,
        timed,
      )

  -- and before one is
  pub memory_acted : IsInputSteady input → (told : Option (List ℕ)) → HasActed command input (still told) (both file mid) (Err fault_is.Memory)
  memory_acted input_steady told =
      let read = some_bytes input.before.left in
      memory_timed input_steady (still told) read.0 0 read.1 (fault_still command told read.0 0 bytes)

  module _ (clock : Clock) (after : Loaded) (answer : Printed) (run : IsAppended command input clock bytes l after answer) where
    abbrev outcome : Outcome
    outcome = with_commit answer run.appended

    is_outcome : IsSaidOutcome (is_modelled file) command run.read run.moment bytes outcome
    is_outcome = run.outcome opened.stands.2 (is_modelled file)

    small : answer.status ≤ 3
    small = ⊎_elim (λ z. omega (arith, z)) (λ three. let t = three.0 in omega (arith, t)) run.plain

    committed_is : committed after.journal ≡ l.journal.records
    committed_is =
        (λ i. take ((run.stable ∙ opened.is_open.stable) i) (run.records i))
        ∙ take_at l.journal.records run.appended (length l.journal.records) refl

    -- where something was due, the outcome has a commit
    has_commit : after.journal.stable < length after.journal.records → outcome.commits ≢ []
    has_commit due none =
        let stable : after.journal.stable ≡ length l.journal.records = run.stable ∙ opened.is_open.stable in
        omega (arith, due, stable, ap length run.records, length-append l.journal.records run.appended, ap length (no_commit run.appended none))

    -- bytes that stand for all that was appended
    all_stand : (old : List Record) (held : List ℕ) → l.journal.records ≡ old → IsFileOf held after.journal.records → StandsForAll old outcome.commits held
    all_stand old held same is =
        one_is_all old run.appended outcome.commits held refl
        (stands (old ++ run.appended) held (subst (λ (rs : List Record). IsFileOf held rs) (run.records ∙ ap (λ (rs : List Record). rs ++ run.appended) same) is))

    some_stand : (old : List Record) (held : List ℕ) → l.journal.records ≡ old → BeforeOrAll after.journal held → StandsForSome old outcome.commits held
    some_stand old held same (inl is) = none_committed old outcome.commits held (stands old held (subst (λ (rs : List Record). IsFileOf held rs) (committed_is ∙ same) is))
    some_stand old held same (inr is) = all_committed old outcome.commits held (all_stand old held same is)

    module _ (left : DiskState) (commit_keeps : Keeps mid left) (moments : IsModelled mid → LeavesOnly mid left (BeforeOrAll after.journal)) (file_reads : (held : List ℕ) → IsTrue file.is_model → file.contents ≡ Some held → file.images held) where
      -- images stand for what was loaded
      old_images : IsModelled file → (old : List Record) → AreImages command old file.images → l.journal.records ≡ old
      old_images modelled old are = let told = told_contents file modelled in old_is told.0 old told.1 (loads.old old told.0 (are told.0 (file_reads told.0 modelled.model told.1)))

      all_moments : IsWholeAtAnyMoment command (both file left) outcome
      all_moments modelled old are =
          let same = old_images modelled old are in
          and_then file mid left (StandsForSome old outcome.commits)
          (weaker file mid (λ c. IsFileOf c old) (StandsForSome old outcome.commits) (λ c h. none_committed old outcome.commits c (stands old c h)) (opened.any_moment modelled old (λ c image. loads.old old c (are c image))))
          (weaker mid left (BeforeOrAll after.journal) (StandsForSome old outcome.commits) (λ c h. some_stand old c same h) (moments (modelled_after file mid opened.keeps modelled)))

      touches : Touches command (both file left) bytes outcome
      touches = record {
        kept = λ told refused. let fails = loads.refused bytes refused in unreadable left bytes told fails.0 fails.1;
        any_moment = all_moments;
        keeps = keeps_on file mid left opened.keeps commit_keeps;
      }

      -- the commit failed
      pub failed_acted : ((held : List ℕ) → IsTrue left.is_model → left.contents ≡ Some held → left.images held) → Rose mid.faults left.faults → after.journal.stable < length after.journal.records
          → HasActed command input clock (both file left) (Err fault_is.Disk)
      failed_acted reads rose due = (
        run.read,
        run.moment,
        bytes,
        outcome,
        disk_by command loads input file left run.read run.moment bytes outcome run.told file_told is_outcome touches (subst (λ (n : ℕ). Rose n left.faults) opened.faults rose) run.input_steady (inr (has_commit due))
            (λ old held told left_told are known.
            let modelled : IsModelled file = record { tells = ap is_some told; model = (known refl).0 } in
            some_stand old held (old_is bytes old told (loads.old old bytes are))
            ((moments (modelled_after file mid opened.keeps modelled)).now held (reads held (commit_keeps.model ∙ opened.keeps.model ∙ (known refl).0) left_told))),
        inr (run.timed opened.stands.2),
      )

      module _ (settled : IsSettledOn mid left after.journal.records) (durable : IsModelled mid → (c : List ℕ) → left.images c → IsFileOf c after.journal.records) where
        left_by : (status : ℕ) → (status ≡ 0) ⊎ ((status ≡ 3) × (run.appended ≡ [])) → (old : List Record) (held : List ℕ) → StandsForAll old outcome.commits held → IsLeft status old outcome.commits held
        left_by status (inl z) old held all = subst (λ (n : ℕ). IsLeft n old outcome.commits held) (sym z) all
        left_by status (inr three) old held all =
            subst (λ (n : ℕ). IsLeft n old outcome.commits held) (sym three.0)
            (subst (λ (rs : List Record). StandsFor rs held) (append-nil old)
            (subst (λ (rs : List Record). StandsForAll old (one_commit rs) held) three.1 all))

        pub appended_acted : HasActed command input clock (both file left) (Ok answer)
        appended_acted = (
          run.read,
          run.moment,
          bytes,
          outcome,
          record {
            input_told = run.told;
            file_told = file_told;
            outcome = is_outcome;
            answer = refl;
            plain = small;
            cause = tt;
            end = run.end;
            contents = λ old held told left_told are known. left_by answer.status run.plain old held (all_stand old held (old_is bytes old told (loads.old old bytes are)) ((settled.0 held left_told).0));
            touches = touches;
            durable = λ last opens modelled told old are c image. all_stand old c (old_is bytes old told (loads.old old bytes are)) (durable (modelled_after file mid opened.keeps modelled) c image);
            trimmed = λ last opens begun held told. (after.journal.records, settled.0 held told);
            spared = λ nine begun. absurd (loads.begun begun);
            steady = λ other. settled.1 ∙ opened.faults;
            input_steady = λ other. run.input_steady;
          },
          run.timed opened.stands.2,
        )

-- nothing was appended, and no device was called
pub idle_acted : (command : Option Command) (loads : Loads command) (input : Input) (clock : Clock) (file mid : DiskState) (l : Loaded) (opened_is : IsOpened file mid l) (answer : Printed)
    → IsAppended command input clock opened_is.stands.0 l l answer
    → (IsModelled mid → LeavesOnly mid mid (BeforeOrAll l.journal)) → ((held : List ℕ) → IsTrue file.is_model → file.contents ≡ Some held → file.images held)
    → HasActed command input clock (both file mid) (Ok answer)
idle_acted command loads input clock file mid l opened_is answer run moments reads =
    appended_acted command loads input file mid l opened_is clock l answer run mid ((record { tells = refl; model = refl })) moments reads
    (idle_just l.journal mid opened_is.belongs opened_is.is_open.runs opened_is.is_open.stable, refl) (idle_durable l.journal mid opened_is.belongs opened_is.is_open.runs opened_is.is_open.stable)
