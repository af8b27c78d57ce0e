-- What a clone says of what it prints.
use Rattle.std.proofs.Common.{◌≡◌, ◌⊎◌, inl, inr, ℕ, true, false, List, [], ◌∷◌, length, Option, Some, None, Result, Ok, Err, refl, sym, ap, subst, ◌∙◌, arith}
use Rattle.fsl_outside.specs.Connections.{LinkState}
use Rattle.fsl_outside.specs.Streams.{SinkState}
use Rattle.fsl_disk.specs.Disk.{DiskState, Told}
use Rattle.fsl_pull.specs.declared.Pulled.{Pulled}
use Rattle.fsl_pull.specs.declared.PullFault.{PullFault}
use Rattle.fsl_pull.specs.declared.PullFault.TheVariants as fault
use Rattle.fsl_pull.specs.Asking.{IsDialCounted}
use Rattle.fsl_pull.specs.CloneCalls.{UnlessDisk, IsClonedOver}
use Rattle.fsl_pull.proofs.CloneWhole.{unreplied, not_zero, has_bytes}
use Rattle.fsl_words.specs.declared.Command.{Command}
use Rattle.fsl_words.specs.declared.Command.TheVariants as command_of
use Rattle.fossil.specs.Printed.{Printed, disk_fault, link_fault, no_memory}
use Rattle.fossil.specs.Uses.{command_clones}
use Rattle.fossil.specs.Run.{Output, IsWritten}
use Rattle.fossil.specs.Due.{printed, Due}
use Rattle.fossil.specs.Cloned.{result_printed, IsResultTold, ClonesBy, Clones, ClonesIf}
use Rattle.fossil.specs.Syncing.{IsSyncDue}
use Rattle.fossil.proofs.FileLemmas.{some_same, quiet_none}
use Rattle.fossil.proofs.SyncedLemmas.{said_one, IsNoClone}

-- what is due of a sync is its text, or want of memory in its place, but for a fault of a device
pub due_text : (result : Result Pulled PullFault) (d : Due) → IsSyncDue result d → IsResultTold (λ o. printed d ≡ o) result
due_text (Ok pulled) d due = due
due_text (Err (fault.NotEmpty len)) d due = due
due_text (Err (fault.NotRepository at)) d due = due
due_text (Err (fault.Project found)) d due = due
due_text (Err (fault.Stopped faults)) d due = inl due
due_text (Err fault.Link) d due = due
due_text (Err fault.Disk) d due = due
due_text (Err (fault.Peer why)) d due = due
due_text (Err (fault.TooLarge name size)) d due = due
due_text (Err (fault.Full name)) d due = due
due_text (Err (fault.Missing name)) d due = due
due_text (Err fault.Rounds) d due = due
due_text (Err (fault.Damaged name found)) d due = inl due
due_text (Err fault.Memory) d due = inl due

module _ {D : Type 0} (disk : D → DiskState) (server : List ℕ) (fields : List (List ℕ)) (before after : D) (dial : LinkState × LinkState) where
  -- what is told may be told otherwise
  either : (P Q : Printed → Type 0) → ((o : Printed) → P o → Q o) → (o : Printed) → P o ⊎ P no_memory → Q o ⊎ Q no_memory
  either P Q turn o (inl h) = inl (turn o h)
  either P Q turn o (inr h) = inr (turn no_memory h)

  told_so : (P Q : Printed → Type 0) → ((o : Printed) → P o → Q o) → (result : Result Pulled PullFault) → IsResultTold P result → IsResultTold Q result
  told_so P Q turn (Ok pulled) h = either P Q turn (result_printed (Ok pulled)) h
  told_so P Q turn (Err fault.Link) h = turn link_fault h
  told_so P Q turn (Err fault.Disk) h = turn disk_fault h
  told_so P Q turn (Err (fault.NotEmpty len)) h = either P Q turn (result_printed (Err (fault.NotEmpty len))) h
  told_so P Q turn (Err (fault.NotRepository at)) h = either P Q turn (result_printed (Err (fault.NotRepository at))) h
  told_so P Q turn (Err (fault.Project found)) h = either P Q turn (result_printed (Err (fault.Project found))) h
  told_so P Q turn (Err (fault.Stopped faults)) h = either P Q turn (result_printed (Err (fault.Stopped faults))) h
  told_so P Q turn (Err (fault.Peer why)) h = either P Q turn (result_printed (Err (fault.Peer why))) h
  told_so P Q turn (Err (fault.TooLarge name size)) h = either P Q turn (result_printed (Err (fault.TooLarge name size))) h
  told_so P Q turn (Err (fault.Full name)) h = either P Q turn (result_printed (Err (fault.Full name))) h
  told_so P Q turn (Err (fault.Missing name)) h = either P Q turn (result_printed (Err (fault.Missing name))) h
  told_so P Q turn (Err fault.Rounds) h = either P Q turn (result_printed (Err fault.Rounds)) h
  told_so P Q turn (Err (fault.Damaged name found)) h = either P Q turn (result_printed (Err (fault.Damaged name found))) h
  told_so P Q turn (Err fault.Memory) h = either P Q turn (result_printed (Err fault.Memory)) h

  -- what is due was printed
  pub cloned_printed : (d : Due) (out : Output) (status : ℕ) → ClonesBy disk server fields before after dial (λ o. printed d ≡ o) → IsWritten (printed d) out status → ClonesBy disk server fields before after dial (λ o. IsWritten o out status)
  cloned_printed d out status h written =
      let turn : (o : Printed) → printed d ≡ o → IsWritten o out status = λ o e. subst (λ (p : Printed). IsWritten p out status) e written in
      record {
        result = h.result;
        clones = h.clones;
        counts = h.counts;
        steady = h.steady;
        untouched = h.untouched;
        keeps = h.keeps;
        tells = told_so (λ o. printed d ≡ o) (λ o. IsWritten o out status) turn h.result h.tells;
      }

-- ---- commands

same_server : (a b s t : List ℕ) (f g : List (List ℕ)) → command_of.Clone a s f ≡ command_of.Clone b t g → s ≡ t
same_server a b s t f g e = cc

same_fields : (a b s t : List ℕ) (f g : List (List ℕ)) → command_of.Clone a s f ≡ command_of.Clone b t g → f ≡ g
same_fields a b s t f g e = cc

-- another command is no clone
pub other_command : (a b : Command) → a ≡ b → command_clones b ≡ false → IsNoClone a
other_command a b same is address server fields e = let h : true ≡ false = sym (ap command_clones e) ∙ ap command_clones same ∙ is in absurd (cc)

module _ {D : Type 0} (disk : D → DiskState) (command : Command) (before after : D) (dial : LinkState × LinkState) (out : SinkState × SinkState) (status : ℕ) where
  pub cloned_if : (address server : List ℕ) (fields : List (List ℕ)) → command ≡ command_of.Clone address server fields → Clones disk server fields before after dial out status → ClonesIf (Some command) disk before after dial out status
  cloned_if address server fields is h other_address other_server other_fields said =
      let same : command_of.Clone address server fields ≡ command_of.Clone other_address other_server other_fields = sym is ∙ said_one command (command_of.Clone other_address other_server other_fields) said in
      subst (λ (s : List ℕ). Clones disk s other_fields before after dial out status) (same_server address other_address server other_server fields other_fields same)
      (subst (λ (f : List (List ℕ)). Clones disk server f before after dial out status) (same_fields address other_address server other_server fields other_fields same) h)

  pub not_cloned : IsNoClone command → ClonesIf (Some command) disk before after dial out status
  not_cloned no_clone address server fields said = absurd (no_clone address server fields (said_one command (command_of.Clone address server fields) said))

-- ---- words for which there was no memory

module _ {D : Type 0} (disk : D → DiskState) (server : List ℕ) (fields : List (List ℕ)) (at : D) (dial : LinkState) where
  -- a result of a clone of which nothing was done
  record Idle : Type 1 where
    result : Result Pulled PullFault
    clones : IsClonedOver disk server fields None dial dial at at result
    counts : IsDialCounted dial dial result
    steady : UnlessDisk ((disk at).faults ≡ (disk at).faults) result
    memory : (Tells : Printed → Type 0) → Tells no_memory → IsResultTold Tells result

  empty_idle : Told (disk at) (λ held. held ≡ []) → Idle
  empty_idle empty = record {
    result = Err fault.Memory;
    clones = unreplied disk server fields None dial at empty dial at fault.Memory refl (omega arith) (inl (refl, refl));
    counts = refl;
    steady = refl;
    memory = λ Tells h. inr h;
  }

  -- of a file with bytes it is its length
  long_idle : (byte : ℕ) (bytes : List ℕ) → (disk at).contents ≡ Some (byte ∷ bytes) → Idle
  long_idle byte bytes told = record {
    result = Err (fault.NotEmpty (length (byte ∷ bytes)));
    clones =
        has_bytes disk server fields None dial at at (length (byte ∷ bytes)) (not_zero (length (byte ∷ bytes)) (λ e. absurd (omega arith))) (λ held is. ap (λ (x : List ℕ). length x) (some_same (sym told ∙ is))) (quiet_none (disk at));
    counts = refl;
    steady = refl;
    memory = λ Tells h. inr h;
  }

  idle_by : (o : Option (List ℕ)) → (disk at).contents ≡ o → Idle
  idle_by None is = empty_idle (λ held told. let e : None ≡ Some held = sym is ∙ told in absurd (cc))
  idle_by (Some []) is = empty_idle (λ held told. some_same (sym told ∙ is))
  idle_by (Some (byte ∷ bytes)) is = long_idle byte bytes is

  pub idle_cloned : (out : Output) (status : ℕ) → IsWritten no_memory out status → ClonesBy disk server fields at at (dial, dial) (λ o. IsWritten o out status)
  idle_cloned out status written =
      let i = idle_by (disk at).contents refl in
      record {
        result = i.result;
        clones = i.clones;
        counts = i.counts;
        steady = i.steady;
        untouched = λ held told. inr (quiet_none (disk at));
        keeps = record { tells = refl; model = refl };
        tells = i.memory (λ o. IsWritten o out status) written;
      }
