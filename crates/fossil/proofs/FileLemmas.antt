-- What a file stands for after a command.
use Rattle.std.proofs.Common.{◌≡◌, inl, inr, ℕ, Bool, true, false, List, [], ◌∷◌, ◌++◌, length, Option, Some, None, is_some, IsTrue, refl, sym, ap, subst, ◌∙◌, arith}
use Rattle.std.specs.Prelude.{◌==◌, ◌||◌, ◌&&◌, not, MatchBool}
use Rattle.std.specs.Option.{option_map_or}
use Rattle.std.proofs.lemmas.List.{append-nil}
use Rattle.fsl_record.specs.declared.Record.{Record}
use Rattle.fsl_disk.specs.Disk.{DiskState, IsModelled, Keeps, Quiet, LeavesOnly}
use Rattle.fsl_disk.proofs.Moments.{started, weaker}
use Rattle.fsl_journal.specs.File.{IsFileOf, FailsAt}
use Rattle.fsl_journal.specs.Journal.{OfBytes}
use Rattle.fsl_journal.proofs.Failing.{no_file}
use Rattle.fsl_journal.proofs.Unique.{one_file}
use Rattle.fsl_words.specs.declared.Command.{Command}
use Rattle.fossil.specs.Due.{printed_fault}
use Rattle.fossil.specs.declared.answers.fault.Fault.{Fault}
use Rattle.fossil.specs.declared.answers.fault.Fault.TheVariants as fault_is
use Rattle.fossil.specs.Outcome.{Outcome, one_commit, not_repository, meets, IsSaidOutcome}
use Rattle.fossil.specs.Run.{File, Agrees, opens, begins, StandsFor, StandsForAll, StandsForSome, AreOldBy, AreOld, AreImages, is_done, IsLeft, IsFileLeft, IsNoRepository, IsRefused, IsWholeAtAnyMoment, lasts, IsDurable, TakesMoment, after_commits, command_trims, trims}
use Rattle.fossil.specs.Acts.{KeepsContents, KeepsImages, KeepsUnreadable, Touches}

-- a file stands for some records
pub stands : (old : List Record) (bytes : List ℕ) → IsFileOf bytes old → StandsFor old bytes
stands [] bytes is = absurd is.fit
stands (r ∷ old) bytes is = is

pub empty_file : (records : List Record) → IsFileOf [] records → ⊥
empty_file records is = let layout = is.layout in cc

pub old_stands : (begins : Bool) (old : List Record) (bytes : List ℕ) → AreOldBy begins old bytes → StandsFor old bytes
old_stands true old bytes (inl h) = subst (λ (rs : List Record). StandsFor rs bytes) (sym h.0) (subst (λ (b : List ℕ). StandsFor [] b) (sym h.1) empty_file)
old_stands true old bytes (inr h) = stands old bytes h
old_stands false old bytes h = stands old bytes h

-- ---- commits

pub none_committed : (old : List Record) (commits : List (List Record)) (bytes : List ℕ) → StandsFor old bytes → StandsForSome old commits bytes
none_committed old commits bytes h = (0, omega arith, subst (λ (rs : List Record). StandsFor rs bytes) (sym (append-nil old)) h)

pub all_committed : (old : List Record) (commits : List (List Record)) (bytes : List ℕ) → StandsForAll old commits bytes → StandsForSome old commits bytes
all_committed old commits bytes h = (length commits, omega arith, h)

after_all : (old records : List Record) → after_commits old (one_commit records) (length (one_commit records)) ≡ old ++ records
after_all old [] = refl
after_all old (r ∷ records) = ap (λ (rs : List Record). old ++ rs) (append-nil (r ∷ records))

-- nothing is committed where there is nothing to commit
pub none_is_all : (old : List Record) (commits : List (List Record)) (bytes : List ℕ) → commits ≡ [] → StandsFor old bytes → StandsForAll old commits bytes
none_is_all old commits bytes none h =
    subst (λ (cs : List (List Record)). StandsForAll old cs bytes) (sym none) (subst (λ (rs : List Record). StandsFor rs bytes) (sym (append-nil old)) h)

-- the one commit of an outcome
pub one_is_all : (old appended : List Record) (commits : List (List Record)) (bytes : List ℕ) → commits ≡ one_commit appended → StandsFor (old ++ appended) bytes → StandsForAll old commits bytes
one_is_all old appended commits bytes one h =
    subst (λ (cs : List (List Record)). StandsForAll old cs bytes) (sym one) (subst (λ (rs : List Record). StandsFor rs bytes) (sym (after_all old appended)) h)

-- ---- what is left after a status

left_by : (done four : Bool) (old : List Record) (commits : List (List Record)) (bytes : List ℕ) → (IsTrue done → StandsForAll old commits bytes) → StandsFor old bytes
    → MatchBool done (StandsForAll old commits bytes) (MatchBool four (StandsForSome old commits bytes) (StandsFor old bytes))
left_by true four old commits bytes all h = all refl
left_by false true old commits bytes all h = none_committed old commits bytes h
left_by false false old commits bytes all h = h

-- the old records, and nothing to commit where the command is done
pub left_old : (status : ℕ) (old : List Record) (commits : List (List Record)) (bytes : List ℕ) → (IsTrue (is_done status) → commits ≡ []) → StandsFor old bytes → IsLeft status old commits bytes
left_old status old commits bytes none h =
    left_by (is_done status) (status == 4) old commits bytes (λ done. none_is_all old commits bytes (none done) h) h

-- after a fault the command isn't done, nothing need last, and bytes may stand behind the closed gate
fault_plain : (fault : Fault) → (is_done (printed_fault fault).status ≡ false) × (((printed_fault fault).status == 3) ≡ false)
fault_plain fault_is.Usage = (refl, refl)
fault_plain fault_is.Disk = (refl, refl)
fault_plain fault_is.Input = (refl, refl)
fault_plain fault_is.Link = (refl, refl)
fault_plain (fault_is.Damaged name found) = (refl, refl)
fault_plain fault_is.Memory = (refl, refl)

neither : (a b other : Bool) → a ≡ false → b ≡ false → IsTrue (a || (b && other)) → ⊥
neither true b other e f h = cc
neither false true other e f h = cc
neither false false other e f h = cc

pub fault_undone : (fault : Fault) → IsTrue (is_done (printed_fault fault).status) → ⊥
fault_undone fault done = let e = sym done ∙ (fault_plain fault).0 in cc

pub fault_fades : (command : Option Command) (fault : Fault) → IsTrue (lasts command (printed_fault fault).status) → ⊥
fault_fades command fault last = neither _ _ (not (begins command)) (fault_plain fault).0 (fault_plain fault).1 last

pub fault_left : (command : Option Command) (fault : Fault) → IsTrue (trims command (printed_fault fault).status) → ⊥
fault_left command fault last = neither _ _ (option_map_or command_trims command false) (fault_plain fault).0 (fault_plain fault).1 last

-- ---- what is told

pub some_same : {a b : List ℕ} → Some a ≡ Some b → a ≡ b
some_same e = cc

pub agreed : (told : Option (List ℕ)) (read bytes : List ℕ) → Agrees told read → told ≡ Some bytes → read ≡ bytes
agreed None read bytes h e = absurd (cc)
agreed (Some told) read bytes h e = h ∙ same
  where
    same : told ≡ bytes
    same = cc

-- bytes that were read agree with those that are told
pub agrees : (told : Option (List ℕ)) (bytes : List ℕ) → ((held : List ℕ) → told ≡ Some held → bytes ≡ held) → Agrees told bytes
agrees None bytes h = tt
agrees (Some held) bytes h = h held refl

-- ---- a file before and after

-- calls that aren't made write nothing
pub quiet_none : (file : DiskState) → Quiet file file
quiet_none file = record {
  keeps = record { tells = refl; model = refl };
  contents = refl;
  later = λ model. omega arith;
  images = λ model c image. image;
  since = λ model t c le past. inl past;
}

abbrev pub both : DiskState → DiskState → File
both file left = record { before = file; after = left }

module _ (command : Option Command) (file left : DiskState) (bytes : List ℕ) (o : Outcome) where
  -- contents that stand for the old records
  pub left_stands : (status : ℕ) → (IsTrue (is_done status) → o.commits ≡ [])
      → ((old : List Record) (held : List ℕ) → file.contents ≡ Some bytes → left.contents ≡ Some held → AreOld command old bytes → StandsFor old held) → IsFileLeft command (both file left) status bytes o
  left_stands status none stay old held file_told left_told are known = left_old status old o.commits held none (stay old held file_told left_told are)

  -- contents that stay
  pub left_same : (status : ℕ) → (IsTrue (is_done status) → o.commits ≡ []) → left.contents ≡ file.contents → IsFileLeft command (both file left) status bytes o
  left_same status none same =
      left_stands status none
      (λ old held file_told left_told are. old_stands (begins command) old held (subst (λ (b : List ℕ). AreOld command old b) (some_same (sym file_told ∙ sym same ∙ left_told)) are))

  -- a disk that failed holds what an image may hold
  pub left_failed : IsTrue (begins command) → Keeps file left → ((held : List ℕ) → IsTrue left.is_model → left.contents ≡ Some held → left.images held) → IsWholeAtAnyMoment command (both file left) o → IsFileLeft command (both file left) 4 bytes o
  left_failed begun keeps reads moments old held file_told left_told are known =
      let k = known refl in
      let modelled : IsModelled file = record { tells = ap is_some file_told; model = k.0 } in
      (moments modelled old (k.1 begun)).now held (reads held (keeps.model ∙ k.0) left_told)

  -- moments of the old records
  pub whole_of_old : (IsModelled file → (old : List Record) → AreImages command old file.images → LeavesOnly file left (StandsFor old)) → IsWholeAtAnyMoment command (both file left) o
  whole_of_old stay modelled old are = weaker file left (StandsFor old) (StandsForSome old o.commits) (none_committed old o.commits) (stay modelled old are)

-- ---- a file that isn't touched

module _ (command : Option Command) (file : DiskState) (no_other : IsTrue file.is_model → (c : List ℕ) → file.since file.moment c → file.images c) (bytes : List ℕ) (o : Outcome) where
  idle_images : IsModelled file → (old : List Record) → AreImages command old file.images → LeavesOnly file file (StandsFor old)
  idle_images modelled old are = started file (StandsFor old) (no_other modelled.model) (λ c image. old_stands (begins command) old c (are c image))

  pub idle_touches : Touches command (both file file) bytes o
  idle_touches = record {
    kept = λ told refused. quiet_none file;
    any_moment = whole_of_old command file file bytes o idle_images;
    keeps = record { tells = refl; model = refl };
  }

  pub idle_left : (status : ℕ) → (IsTrue (is_done status) → o.commits ≡ []) → IsFileLeft command (both file file) status bytes o
  idle_left status none = left_same command file file bytes o status none refl

-- ---- a file that is loaded

-- a command that loads the file
pub record Loads (command : Option Command) : Type 0 where
  pub opened : IsTrue (opens command)
  pub begun : IsTrue (begins command) → ⊥
  pub old : (old : List Record) (bytes : List ℕ) → AreOld command old bytes → IsFileOf bytes old
  pub refused : (bytes : List ℕ) → IsRefused command bytes → IsNoRepository bytes
  pub fails : (honest : Bool) (read : List ℕ) (moment : ℕ) (bytes : List ℕ) (at : ℕ) → FailsAt bytes at → IsSaidOutcome honest command read moment bytes (not_repository at)
  pub alone : meets command ≡ false
  -- it takes a moment behind a file of records alone
  pub due : (read bytes : List ℕ) → TakesMoment command read bytes → (records : List Record) × IsFileOf bytes records

module _ (command : Option Command) (loads : Loads command) (file left : DiskState) (bytes : List ℕ) (o : Outcome) where
  -- what the contents stand for stays
  pub loaded_left : (status : ℕ) → (IsTrue (is_done status) → o.commits ≡ []) → KeepsContents file left → IsFileLeft command (both file left) status bytes o
  loaded_left status none stay =
      left_stands command file left bytes o status none (λ old held file_told left_told are. stands old held (stay bytes file_told old (loads.old old bytes are) held left_told))

  loaded_images : KeepsImages file left → IsModelled file → (old : List Record) → AreImages command old file.images → LeavesOnly file left (StandsFor old)
  loaded_images stay modelled old are = weaker file left (λ c. IsFileOf c old) (StandsFor old) (stands old) (stay modelled old (λ c image. loads.old old c (are c image)))

  pub loaded_touches : KeepsUnreadable file left → KeepsImages file left → Keeps file left → Touches command (both file left) bytes o
  loaded_touches unreadable stay keeps = record {
    kept = λ told refused. let fails = loads.refused bytes refused in unreadable bytes told fails.0 fails.1;
    any_moment = whole_of_old command file left bytes o (loaded_images stay);
    keeps = keeps;
  }

  -- images that stand for what was loaded
  pub loaded_durable : o.commits ≡ [] → (records : List Record) → IsFileOf bytes records → (IsModelled file → (c : List ℕ) → left.images c → IsFileOf c records) → IsDurable command (both file left) bytes o
  loaded_durable none records is images opened modelled told old are c image =
      none_is_all old o.commits c none
      (stands old c (subst (λ (rs : List Record). IsFileOf c rs) (one_file bytes records old is (loads.old old bytes are)) (images modelled c image)))

-- bytes that stand for records aren't unreadable
pub readable : (file left : DiskState) → OfBytes file (λ bytes. (records : List Record) × IsFileOf bytes records) → KeepsUnreadable file left
readable file left stands bytes told at fails = absurd (no_file bytes at stands.2.0 fails (subst (λ (b : List ℕ). IsFileOf b stands.2.0) (stands.1 bytes told) stands.2.1))
