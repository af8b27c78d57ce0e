-- What `init` did.
use Rattle.std.proofs.Common.{◌≡◌, ◌≢◌, ◌⊎◌, inl, inr, ⊎_elim, ℕ, ◌<◌, Bool, true, false, cond, List, [], ◌∷◌, ◌++◌, length, Option, Some, None, Ok, Err, IsTrue, refl, sym, ap, subst, ◌∙◌, arith}
use Rattle.std.specs.Prelude.{◌==◌, codes, decimal, replicate}
use Rattle.std.proofs.lemmas.List.{length-replicate}
use Rattle.fsl_order.specs.Causes.{Rose}
use Rattle.fsl_outside.specs.Streams.{SourceState}
use Rattle.fsl_record.specs.declared.Config.{Config}
use Rattle.fsl_record.specs.declared.Record.{Record}
use Rattle.fsl_record.specs.declared.Record.TheVariants as record_of
use Rattle.fsl_disk.specs.Disk.{DiskState, IsModelled, Told, Keeps, Quiet, LeavesOnly}
use Rattle.fsl_disk.proofs.Moments.{weaker, quiet_moments, told_contents}
use Rattle.fsl_journal.specs.File.{IsFileOf}
use Rattle.fsl_journal.specs.Journal.{NothingOr, IsLeft, IsMade}
use Rattle.fsl_words.specs.declared.Command.{Command}
use Rattle.fsl_words.specs.declared.Command.TheVariants as command_of
use Rattle.fossil.specs.Due.{Due, printed}
use Rattle.fossil.specs.declared.answers.fault.Fault.{Fault}
use Rattle.fossil.specs.declared.answers.fault.Fault.TheVariants as fault_is
use Rattle.fossil.specs.Printed.{Printed}
use Rattle.fossil.specs.Printed as printing
use Rattle.fossil.specs.Outcome.{Outcome, init_outcome, without_commit, one_commit, printed_of}
use Rattle.fossil.specs.Run.{Input, Agrees, IsTimed, StandsFor, StandsForAll, StandsForSome, AreOldBy, AreImages, is_done, lasts, IsFileLeft, IsWholeAtAnyMoment, IsSpared}
use Rattle.fossil.specs.Acts.{ActsBy, HasActed, IsCaused, Touches}
use Rattle.fossil.proofs.InputLemmas.{some_bytes}
use Rattle.fossil.proofs.ActLemmas.{still, none_due}
use Rattle.fossil.proofs.FileLemmas.{both, some_same, agrees, agreed, empty_file, old_stands, none_committed, all_committed, one_is_all, left_same, left_failed, fault_fades}

-- some bytes of a length, or those that are told
pub of_length : (told : Option (List ℕ)) (len : ℕ) → ((held : List ℕ) → told ≡ Some held → len ≡ length held) → (bytes : List ℕ) × Agrees told bytes × (length bytes ≡ len)
of_length None len h = (replicate len 0, tt, length-replicate len 0)
of_length (Some held) len h = (held, refl, sym (h held refl))

pub no_zero : (n : ℕ) → 0 < n → (n == 0) ≡ false
no_zero n h = grind (arith)

is_empty : (bytes : List ℕ) → (bytes ≡ []) ⊎ (bytes ≢ [])
is_empty [] = inl refl
is_empty (b ∷ bytes) = inr (λ e. cc)

module _ (config : Config) (source : SourceState) (clock : Option (List ℕ)) (file left : DiskState) (keeps : Keeps file left) (moments : IsModelled file → ((c : List ℕ) → file.images c → c ≡ []) → LeavesOnly file left (NothingOr config))
    (file_reads : (held : List ℕ) → IsTrue file.is_model → file.contents ≡ Some held → file.images held) (untouched : Told file (λ held. (held ≡ []) ⊎ Quiet file left))
    (only_now : IsTrue file.is_model → (c : List ℕ) → file.since file.moment c → file.images c) where
  abbrev command : Option Command
  command = Some (command_of.Init config.project config.server config.fields)

  abbrev input : Input
  input = record { before = source; after = source }

  abbrev outcome : List ℕ → Outcome
  outcome bytes = init_outcome config.project config.server config.fields (length bytes)

  abbrev first : List Record
  first = record_of.Config config ∷ []

  -- over an empty file the outcome is the one commit of the Config
  one_config : (bytes : List ℕ) → bytes ≡ [] → (outcome bytes).commits ≡ one_commit first
  one_config bytes empty = ap (λ (b : List ℕ). (outcome b).commits) empty

  all_stand : (old : List Record) (commits : List (List Record)) (bytes : List ℕ) → old ≡ [] → commits ≡ one_commit first → IsFileOf bytes first → StandsForAll old commits bytes
  all_stand old commits bytes none one is =
      one_is_all old first commits bytes one (subst (λ (rs : List Record). StandsFor (rs ++ first) bytes) (sym none) is)

  some_stand : (old : List Record) (commits : List (List Record)) (bytes : List ℕ) → old ≡ [] → commits ≡ one_commit first → NothingOr config bytes → StandsForSome old commits bytes
  some_stand old commits bytes none one (inl nothing) = none_committed old commits bytes (subst (λ (rs : List Record). StandsFor rs bytes) (sym none) nothing)
  some_stand old commits bytes none one (inr is) = all_committed old commits bytes (all_stand old commits bytes none one is)

  -- an image of no old records is empty
  image_empty : (old : List Record) (c : List ℕ) → old ≡ [] → AreOldBy true old c → c ≡ []
  image_empty old c none (inl h) = h.1
  image_empty old c none (inr is) = absurd (subst (λ (rs : List Record). IsFileOf c rs) none is).fit

  -- an empty file has no old records
  old_none : (old : List Record) (bytes : List ℕ) → bytes ≡ [] → AreOldBy true old bytes → old ≡ []
  old_none old bytes empty (inl h) = h.0
  old_none old bytes empty (inr is) = absurd (empty_file old (subst (λ (b : List ℕ). IsFileOf b old) empty is))

  module _ (bytes : List ℕ) (file_told : Agrees file.contents bytes) where
    -- the disk tells these bytes
    tells : IsModelled file → file.contents ≡ Some bytes
    tells modelled =
        let told = told_contents file modelled in
        told.1 ∙ ap (λ (b : List ℕ). Some b) (sym (agreed file.contents bytes told.0 file_told told.1))

    -- the old records of an empty file
    none_old : IsModelled file → (old : List Record) → AreImages command old file.images → bytes ≡ [] → old ≡ []
    none_old modelled old are empty = old_none old bytes empty (are bytes (file_reads bytes modelled.model (tells modelled)))

    pub quiet_file : file.contents ≡ Some bytes → bytes ≢ [] → Quiet file left
    quiet_file told some = ⊎_elim (λ e. absurd (some e)) (λ quiet. quiet) (untouched bytes told)

    -- what stays of an empty file, and of one with bytes
    whole_by : (bytes ≡ []) ⊎ (bytes ≢ []) → IsWholeAtAnyMoment command (both file left) (outcome bytes)
    whole_by (inl empty) modelled old are =
        let none = none_old modelled old are empty in
        weaker file left (NothingOr config) (StandsForSome old (outcome bytes).commits) (λ c h. some_stand old (outcome bytes).commits c none (one_config bytes empty) h)
        (moments modelled (λ c image. image_empty old c none (are c image)))
    whole_by (inr some) modelled old are =
        quiet_moments file left (StandsForSome old (outcome bytes).commits) (quiet_file (tells modelled) some) modelled.model (only_now modelled.model)
        (λ c image. none_committed old (outcome bytes).commits c (old_stands true old c (are c image)))

    touches : Touches command (both file left) bytes (outcome bytes)
    touches = record { kept = quiet_file; any_moment = whole_by (is_empty bytes); keeps = keeps }

    -- a fault after which the contents are as they were, or the disk failed
    pub fault_acted : (fault : Fault) → (fault ≢ fault_is.Disk → left.faults ≡ file.faults) → IsCaused command input (both file left) bytes (outcome bytes) fault → IsFileLeft command (both file left) ((printed (Err fault)).status) bytes (outcome bytes)
        → IsSpared command (both file left) ((printed (Err fault)).status) → ActsBy command input (both file left) (Err fault) (some_bytes source.left).0 0 bytes (outcome bytes)
    fault_acted fault same cause contents spared = record {
      input_told = (some_bytes source.left).1;
      file_told = file_told;
      outcome = refl;
      answer = tt;
      plain = tt;
      cause = cause;
      end = λ z reads. absurd (cc);
      contents = contents;
      touches = touches;
      durable = λ last. absurd (fault_fades command fault last);
      trimmed = λ last opened begun. absurd (cc);
      spared = spared;
      steady = λ other. same (λ is. other (ap (λ (f : Fault). Err f) is));
      input_steady = λ other. refl;
    }

  abbrev Acted : Due → Type 0
  Acted result = HasActed command input (still clock) (both file left) result

  unasked : (answered : Bool) (read bytes : List ℕ) → IsTimed command (still clock) answered read 0 bytes
  unasked answered read bytes = none_due command clock answered read 0 bytes (λ due. due)

  -- ---- the answers

  made_empty : IsMade config file left → (IsModelled file → (c : List ℕ) → left.images c → IsFileOf c first) → Acted (Ok (record { status = 0; text = [] }))
  made_empty made durable =
      let read = some_bytes source.left in
      let told = agrees file.contents [] (λ held told. sym (made.was held told)) in (
        read.0,
        0,
        [],
        outcome [],
        record {
          input_told = read.1;
          file_told = told;
          outcome = refl;
          answer = refl;
          plain = omega arith;
          cause = tt;
          end = λ z reads. absurd (cc);
          contents = λ old held file_told left_told are known.
              let stands = made.file [] file_told in
              all_stand old (outcome []).commits held (old_none old [] refl are) refl (subst (λ (b : List ℕ). IsFileOf b first) (some_same (sym stands.1 ∙ left_told)) stands.2);
          touches = touches [] told;
          durable = λ last opened modelled file_told old are c image. all_stand old (outcome []).commits c (old_none old [] refl are) refl (durable modelled c image);
          trimmed = λ last opened begun. absurd (cc);
          spared = λ nine begun. absurd (cc);
          steady = λ other. made.faults;
          input_steady = λ other. refl;
        },
        unasked true read.0 [],
      )

  pub made_acted : (text : List ℕ) → text ≡ [] → IsMade config file left → (IsModelled file → (c : List ℕ) → left.images c → IsFileOf c first) → Acted (Ok (record { status = 0; text = text }))
  made_acted text empty made durable = subst (λ (t : List ℕ). Acted (Ok (record { status = 0; text = t }))) (sym empty) (made_empty made durable)

  -- a file that isn't empty
  begun_refused : (n : ℕ) → 0 < n → init_outcome config.project config.server config.fields n ≡ without_commit (printing.refused (codes "file not empty " ++ decimal n))
  begun_refused n h =
      ap (λ (b : Bool). cond b (record { status = 0; text = []; commits = first ∷ [] }) (without_commit (printing.refused (codes "file not empty " ++ decimal n)))) (no_zero n h)

  pub refused_acted : (len : ℕ) (answer : Printed) → 0 < len → Told file (λ held. len ≡ length held) → IsLeft file left → answer ≡ printing.refused (codes "file not empty " ++ decimal len) → Acted (Ok answer)
  refused_acted len answer some is same refusal =
      let read = some_bytes source.left in
      let bytes = of_length file.contents len is in
      let three : answer.status ≡ 3 = ap (λ (a : Printed). a.status) refusal in (
        read.0,
        0,
        bytes.0,
        outcome bytes.0,
        record {
          input_told = read.1;
          file_told = bytes.1;
          outcome = refl;
          answer = refusal ∙ sym (ap printed_of (ap (init_outcome config.project config.server config.fields) bytes.2 ∙ begun_refused len some));
          plain = omega (arith, three);
          cause = tt;
          end = λ z reads. absurd (cc);
          contents = left_same command file left bytes.0 (outcome bytes.0) answer.status (λ done. absurd (let none = subst (λ (n : ℕ). IsTrue (is_done n)) three done in cc)) same.contents;
          touches = touches bytes.0 bytes.1;
          durable = λ last. absurd (let none = subst (λ (n : ℕ). IsTrue (lasts command n)) three last in cc);
          trimmed = λ last opened begun. absurd (cc);
          spared = λ nine begun. absurd (omega (arith, three, nine));
          steady = λ other. same.faults;
          input_steady = λ other. refl;
        },
        unasked true read.0 bytes.0,
      )

  pub memory_acted : IsLeft file left → Quiet file left → Acted (Err fault_is.Memory)
  memory_acted same quiet =
      let bytes = some_bytes file.contents in
      ((some_bytes source.left).0, 0, bytes.0, outcome bytes.0, fault_acted bytes.0 bytes.1 fault_is.Memory (λ other. same.faults) tt (left_same command file left bytes.0 (outcome bytes.0) 9 (λ done. absurd (cc)) same.contents) (λ nine begun. quiet), unasked false (some_bytes source.left).0 bytes.0)

  pub disk_acted : ((held : List ℕ) → IsTrue left.is_model → left.contents ≡ Some held → left.images held) → Rose file.faults left.faults → Acted (Err fault_is.Disk)
  disk_acted reads rose =
      let bytes = some_bytes file.contents in (
        (some_bytes source.left).0,
        0,
        bytes.0,
        outcome bytes.0,
        fault_acted bytes.0 bytes.1 fault_is.Disk (λ other. absurd (other refl)) (record { opened = refl; rose = rose; moment = inl refl })
            (left_failed command file left bytes.0 (outcome bytes.0) refl keeps reads (touches bytes.0 bytes.1).any_moment) (λ nine begun. absurd (cc)),
        inl (refl, refl),
      )
