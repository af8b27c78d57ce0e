-- What a serve says and leaves, stage by stage.
use Rattle.std.proofs.Common.{◌≡◌, inl, inr, ℕ, ◌+◌, ◌<◌, ◌≤◌, List, [], ◌∷◌, length, Option, Some, None, refl, sym, ap, subst, arith}
use Rattle.std.specs.Prelude.{slice_index_or}
use Rattle.std.specs.Option.{option_map_or}
use Rattle.fsl_outside.specs.Connections.{Connection, Standing}
use Rattle.fsl_outside.specs.Streams.{SourceState}
use Rattle.fsl_disk.specs.Disk.{DiskState, IsModelled, Told, Keeps, Quiet, LeavesOnly}
use Rattle.fsl_record.specs.declared.Record.{Record}
use Rattle.fsl_record.specs.declared.Config.{Config}
use Rattle.fsl_journal.specs.File.{FailsAt}
use Rattle.fsl_journal.specs.Journal.{HeldOrSame}
use Rattle.fsl_journal.specs.Log.{StandsBetween}
use Rattle.fsl_journal.specs.declared.LoadFault.{LoadFault}
use Rattle.fsl_journal.specs.declared.LoadFault.TheVariants as load_fault
use Rattle.fsl_blobs.specs.Fold.{contents}
use Rattle.fsl_repo.specs.Whole.{Whole, IsWholeOn, stored}
use Rattle.fsl_repo.specs.Onward.{IsLaterOn}
use Rattle.fsl_repo.specs.Opening.{IsOpened, OpenFailed}
use Rattle.fsl_login.specs.declared.User.{User}
use Rattle.fsl_serve.specs.declared.work.Work.{Work}
use Rattle.fsl_serve.specs.Crews.{AllWorked, AreAllCommitted}
use Rattle.fossil.specs.Printed.{Printed, no_memory}
use Rattle.fossil.specs.Printed as printing
use Rattle.fossil.specs.Run.{Input, Output, IsWritten}
use Rattle.fossil.specs.Served.{Left, Loaded, Unloaded, Workers, Serving, serving_in, IsSafe, IsUsers, AreNoUsers, unread, project_of, not_loaded, worked, HasServed, ServesLoaded, unstaffed, served, ServesDisk, unloaded, loaded, Serves, no_users, to_users, Ends, no_serve, serve, Says}
use Rattle.fossil.specs.Due.{printed, IsDue, Due, IsNotLoadedDue}
use Rattle.fossil.specs.Serving.{IsSaidOf, IsAsked, IsUnasked, AreWithin}
use Rattle.fossil.proofs.PrintedLemmas.{due_of}

-- ---- what is said

pub said_of : (o : Printed) (d : Due) (out : Output) (status : ℕ) → IsDue o d → IsWritten (printed d) out status → IsSaidOf o out status
said_of o d out status (inl e) p = inl (subst (λ (x : Printed). IsWritten x out status) e p)
said_of o d out status (inr e) p = inr (subst (λ (x : Printed). IsWritten x out status) e p)

-- a file that isn't loaded
not_loaded_due : (fault : LoadFault) (d : Due) → IsNotLoadedDue fault d → IsDue (not_loaded fault) d
not_loaded_due load_fault.Disk d e = inl (ap printed e)
not_loaded_due (load_fault.NotRepository at) d e = due_of (not_loaded (load_fault.NotRepository at)) d e
not_loaded_due load_fault.Memory d e = inl (ap printed e)

-- ---- the stages

module _ {D X : Type 0} (tells : D → DiskState) (Worked : Workers D) (left : Left D) (crews crews_left : List X) (out : Output) (status : ℕ) where
  -- there was no memory for the workers
  pub nobody_works : (first : Whole D) (users : List User) (requests : ℕ) → left ≡ Loaded first → crews_left ≡ crews → IsWritten no_memory out status
      → Says (λ o. ServesLoaded tells Worked first left crews crews_left users requests o) out status
  nobody_works first users requests l c p = (no_memory, unstaffed l c refl, inl p)

  pub workers_ran : (first last : Whole D) (users : List User) (requests : ℕ) (o : Printed) → left ≡ Loaded last → HasServed tells Worked users requests first last o → IsSaidOf o out status
      → Says (λ o. ServesLoaded tells Worked first left crews crews_left users requests o) out status
  workers_ran first last users requests o l h p = (o, served last l h, p)

  -- the file wasn't loaded
  pub not_served : (disk rest : D) (fault : LoadFault) (d : Due) (users : List User) (requests : ℕ) → left ≡ Unloaded rest → crews_left ≡ crews → OpenFailed fault (tells disk) (tells rest) → IsSafe (tells disk) (tells rest)
      → IsNotLoadedDue fault d → IsWritten (printed d) out status → Says (λ o. ServesDisk tells Worked disk left crews crews_left users requests o) out status
  not_served disk rest fault d users requests l c failed safe due p = (not_loaded fault, unloaded rest fault l c failed safe refl, said_of (not_loaded fault) d out status (not_loaded_due fault d due) p)

  pub loaded_served : (disk : D) (first : Whole D) (users : List User) (requests : ℕ) → IsOpened (tells disk) (tells first.disk) first → IsSafe (tells disk) (tells first.disk)
      → Says (λ o. ServesLoaded tells Worked first left crews crews_left users requests o) out status → Says (λ o. ServesDisk tells Worked disk left crews crews_left users requests o) out status
  loaded_served disk first users requests opened safe s = (s.0, loaded first opened safe s.1, s.2)

  -- there are no users
  pub nobody_served : (disk : D) (users : Input) (d : Due) (requests : ℕ) → left ≡ Unloaded disk → crews_left ≡ crews → AreNoUsers users (printed d) → IsWritten (printed d) out status
      → Says (λ o. Serves tells Worked users disk left crews crews_left requests o) out status
  nobody_served disk users d requests l c none p = (printed d, no_users none l c, inl p)

  pub users_served : (disk : D) (users : Input) (these : List User) (requests : ℕ) → IsUsers users these → Says (λ o. ServesDisk tells Worked disk left crews crews_left these requests o) out status
      → Says (λ o. Serves tells Worked users disk left crews crews_left requests o) out status
  users_served disk users these requests is s = (s.0, to_users these is s.1, s.2)

  unasked_by : (words : List (List ℕ)) (users : Input) (disk : D) (asked : Option Serving) → serving_in words ≡ asked → users.after ≡ users.before → left ≡ Unloaded disk → crews_left ≡ crews
      → (o : Printed) × Ends tells Worked words users disk left crews crews_left o
  unasked_by words users disk None is same l c = (printing.usage, no_serve is same l c refl)
  unasked_by words users disk (Some asked) is same l c = (no_memory, serve asked is (no_users (unread (ap (λ (s : SourceState). s.faults) same) refl) l c))

  -- the words are no serve, or there was no memory to read them
  pub unasked : (words : List (List ℕ)) (users : Input) (disk : D) (d : Due) → IsUnasked words d → users.after ≡ users.before → left ≡ Unloaded disk → crews_left ≡ crews → IsWritten (printed d) out status
      → Says (λ o. Ends tells Worked words users disk left crews crews_left o) out status
  unasked words users disk d (inl why) same l c p = (printing.usage, no_serve why.0 same l c refl, inl (subst (λ (x : Printed). IsWritten x out status) why.1 p))
  unasked words users disk d (inr e) same l c p =
      let o = unasked_by words users disk (serving_in words) refl same l c in
      (o.0, o.1, inr (subst (λ (x : Printed). IsWritten x out status) e p))

  pub asked_served : (words : List (List ℕ)) (users : Input) (disk : D) (requests : ℕ) → IsAsked words requests → Says (λ o. Serves tells Worked users disk left crews crews_left requests o) out status
      → Says (λ o. Ends tells Worked words users disk left crews crews_left o) out status
  asked_served words users disk requests is s = (s.0, serve (record { workers = is.0; requests = requests }) is.1 s.1, s.2)

-- ---- the disk

module _ {D : Type 0} (tells : D → DiskState) (disk : D) where
  pub safe_as : (a b : D) → a ≡ b → Keeps (tells disk) (tells a) → (Told (tells disk) (λ held. (at : ℕ) → FailsAt held at → Quiet (tells disk) (tells a)))
      → (IsModelled (tells disk) → LeavesOnly (tells disk) (tells a) (HeldOrSame (tells disk)))
      → (IsModelled (tells disk) → (low high : List Record) → ((c : List ℕ) → (tells disk).images c → StandsBetween low high c) → LeavesOnly (tells disk) (tells a) (StandsBetween low high))
      → IsSafe (tells disk) (tells b)
  safe_as a b e keeps refused harmless any =
      subst (λ (x : D). IsSafe (tells disk) (tells x)) e (record { keeps = keeps; any_moment = any; harmless = harmless; refused = refused })

-- ---- the workers

within_at : {D X : Type 0} (tells : D → DiskState) (xs : List X) (present : X → Option Connection) (standing : X → Standing) (users : List User) (project : List ℕ) (requests : ℕ) (works : List Work) (ys : List X) → AllWorked tells present standing users project requests works xs ys
    → (i : ℕ) (w : Work) → i < length xs → (slice_index_or works i w).sessions ≤ requests
within_at tells [] present standing users project requests works ys all i w l = absurd (omega (arith, l))
within_at tells (x ∷ xs) present standing users project requests works ys all i w l = (all.2 i x w l).2.within

-- each worker took as many connections as it was asked for, or fewer
pub within_of : {D X : Type 0} (tells : D → DiskState) (xs : List X) (present : X → Option Connection) (standing : X → Standing) (users : List User) (project : List ℕ) (requests : ℕ) (works : List Work) (ys : List X) → AllWorked tells present standing users project requests works xs ys
    → requests ≤ 65536 → AreWithin 65536 works
within_of tells xs present standing users project requests works ys all few i w l =
    let each = within_at tells xs present standing users project requests works ys all i w (omega (arith, l, all.1)) in
    omega (arith, each, few)

-- the project code of the Config record
pub project_is : (records : List Record) (config : Config) → (contents records).config ≡ Some config → config.project ≡ project_of records
project_is records config is = sym (ap (λ (o : Option Config). option_map_or (λ c. c.project) o []) is)

pub has_served : {D : Type 0} (tells : D → DiskState) (Worked : Workers D) (users : List User) (requests : ℕ) (first last : Whole D) (works : List Work) (project : List ℕ) (n : ℕ)
    → IsLaterOn (tells first.disk) (tells last.disk) first last → stored last.seen ≡ stored first.seen + n → IsWholeOn (tells last.disk) last → AreAllCommitted last.seen.state → project ≡ project_of first.seen.state.records
    → Worked users project requests works first last → HasServed tells Worked users requests first last (worked last.seen.state.stopped works n)
has_served tells Worked users requests first last works project n later rise whole settled is so =
    record {
      later = later;
      whole = whole;
      settled = settled;
      works = works;
      worked_so = subst (λ (p : List ℕ). Worked users p requests works first last) is so;
      says = ap (λ (m : ℕ). worked last.seen.state.stopped works m) (omega (arith, rise, later.seen.stored));
    }
