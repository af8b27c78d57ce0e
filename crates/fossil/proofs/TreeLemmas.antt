-- What `export` and `verify` did.
use Rattle.std.proofs.Common.{◌≡◌, inl, inr, ℕ, ◌≤◌, Bool, List, Option, Some, Result, Ok, Err, IsTrue, refl, sym, ap, subst, ◌∙◌, arith}
use Rattle.std.specs.Prelude.{MatchResult}
use Rattle.fsl_order.specs.Causes.{Rose}
use Rattle.fsl_outside.specs.Streams.{SourceState}
use Rattle.fsl_record.specs.declared.Record.{Record}
use Rattle.fsl_disk.specs.Disk.{DiskState}
use Rattle.fsl_journal.specs.File.{IsFileOf}
use Rattle.fsl_blobs.specs.Fold.{contents}
use Rattle.fsl_cross.specs.declared.Item.{Item}
use Rattle.fsl_repo.specs.Machine.{State, AreItems, now}
use Rattle.fsl_repo.specs.Replies.{IsSpoilt}
use Rattle.fsl_repo.specs.Whole.{Whole, IsWholeOn, is_modelled}
use Rattle.fsl_repo.proofs.Steps.{same_kind}
use Rattle.fsl_query.specs.declared.Refused.{Refused}
use Rattle.fsl_query.specs.Refusals.{refusal_text}
use Rattle.fsl_query.specs.Reports.{name_found}
use Rattle.fsl_query.specs.Answers.{IsSpoiltIn}
use Rattle.fsl_words.specs.declared.Command.{Command}
use Rattle.fsl_words.specs.declared.Command.TheVariants as command_of
use Rattle.fsl_checkin.specs.declared.answers.Export.{Export}
use Rattle.fsl_checkin.specs.declared.answers.Export.TheVariants as export
use Rattle.fsl_checkin.specs.declared.answers.Verdict.{Verdict}
use Rattle.fsl_checkin.specs.declared.answers.Verdict.TheVariants as verdict
use Rattle.fsl_checkin.specs.declared.answers.ExportFault.{ExportFault}
use Rattle.fsl_checkin.specs.declared.answers.ExportFault.TheVariants as unread
use Rattle.fsl_checkin.specs.Reads.{AskFails, IsOnlyRead}
use Rattle.fossil.specs.Due.{Due}
use Rattle.fossil.specs.declared.answers.fault.Fault.{Fault}
use Rattle.fossil.specs.declared.answers.fault.Fault.TheVariants as fault_is
use Rattle.fossil.specs.Printed.{Printed}
use Rattle.fossil.specs.Printed as printing
use Rattle.fossil.specs.Trees.{export_printed, verdict_printed, IsOfPrefix, IsSpoiltOf}
use Rattle.fossil.specs.TreeCall.{Reading, IsNamedAnswer, exporting, verifying, fault_as}
use Rattle.fossil.specs.Outcome.{without_commit, IsSaidOutcome}
use Rattle.fossil.specs.Run.{IsDamaged}
use Rattle.fossil.specs.Acts.{Acts, loaded_of, IsOpened}
use Rattle.fossil.proofs.FileLemmas.{Loads, quiet_none}
use Rattle.fossil.proofs.ReadLemmas.{OnlyReads, read_memory, read_answer, read_disk, read_damaged}

-- ---- of a name

-- what a damaged content is by a repository's state
spoilt_in : {D : Type 0} (disk : D → DiskState) (r : Whole D) (name found : List ℕ) → IsWholeOn (disk r.disk) r → IsSpoilt r.seen.state name found → IsSpoiltIn (is_modelled (disk r.disk)) (now r.seen.state) name found
spoilt_in disk r name found whole h = record { artifact = h.artifact; held = h.held; bytes = h.bytes; sized = h.sized; named = h.named; other = h.other; never = sym whole.honest ∙ h.never }

module _ {X D : Type 0} (way : Reading X) (name : List ℕ) (disk : D → DiskState) (before after : Whole D) (whole : IsWholeOn (disk before.disk) before) where
  named_steady : IsWholeOn (disk after.disk) after → after.seen.state ≡ before.seen.state → (disk after.disk).faults ≡ (disk before.disk).faults
  named_steady left stays = sym left.faults ∙ ap (λ (s : State). s.faults) stays ∙ whole.faults

  -- there was no memory for the answer
  pub named_short : IsWholeOn (disk after.disk) after → after.seen.state ≡ before.seen.state → IsNamedAnswer way name (disk, before, after) (Err fault_is.Memory)
  named_short left stays = named_steady left stays

  pub named_ok : IsWholeOn (disk after.disk) after → after.seen.state ≡ before.seen.state → (answer : X) (a : Printed) → way.Reads before.seen.state.honest (now before.seen.state).held before.seen.items name answer → a ≡ way.print name answer
      → IsNamedAnswer way name (disk, before, after) (Ok a)
  named_ok left stays answer a is same =
      (answer, subst (λ (b : Bool). way.Reads b (now before.seen.state).held before.seen.items name answer) whole.honest is, same, named_steady left stays)

  named_fault : IsWholeOn (disk after.disk) after → (why : ExportFault) → AskFails (way.Asks before.seen.state.honest (now before.seen.state).held before.seen.items name) why before.seen.state after.seen.state → IsNamedAnswer way name (disk, before, after) (Err (fault_as why))
  named_fault left unread.Disk h = subst (λ (n : ℕ). Rose n (disk after.disk).faults) whole.faults (subst (λ (n : ℕ). Rose before.seen.state.faults n) left.faults h.2)
  named_fault left (unread.Damaged damaged found) h =
      (subst (λ (b : Bool). way.Asks b (now before.seen.state).held before.seen.items name damaged) whole.honest h.0, spoilt_in disk before damaged found whole h.1, sym left.faults ∙ h.2 ∙ whole.faults)
  named_fault left unread.Memory h = sym left.faults ∙ h ∙ whole.faults

  pub named_err : IsWholeOn (disk after.disk) after → (why : ExportFault) (fault : Fault) → AskFails (way.Asks before.seen.state.honest (now before.seen.state).held before.seen.items name) why before.seen.state after.seen.state → fault ≡ fault_as why
      → IsNamedAnswer way name (disk, before, after) (Err fault)
  named_err left why fault h same = subst (λ (f : Fault). IsNamedAnswer way name (disk, before, after) (Err f)) (sym same) (named_fault left why h)

-- ---- of a prefix

-- a command that prints such an answer of the check-in whose name has a prefix
pub record IsWay {X : Type 0} (way : Reading X) (prefix : List ℕ) (command : Command) : Type 0 where
  pub only : OnlyReads (Some command)
  pub outcome : (honest : Bool) (bytes : List ℕ) (records : List Record) → IsFileOf bytes records → (a : Printed) → IsOfPrefix (way.Reads honest (contents records).held) way.print prefix (contents records) a
      → (read : List ℕ) → IsSaidOutcome honest (Some command) read 0 bytes (without_commit a)
  pub damaged : (honest : Bool) (bytes : List ℕ) (records : List Record) → IsFileOf bytes records → (name found : List ℕ) → IsSpoiltOf (way.Asks honest) honest prefix (contents records) name found → IsDamaged honest (Some command) bytes name found
  pub small : (name : List ℕ) (answer : X) → (way.print name answer).status ≤ 3

module _ {X D : Type 0} (way : Reading X) (prefix : List ℕ) (command : Command) (is_way : IsWay way prefix command) (disk : D → DiskState) (of : D) (before after : Whole D) (source : SourceState) (clock : Option (List ℕ))
    (no_other : IsTrue (disk before.disk).is_model → (c : List ℕ) → (disk before.disk).since (disk before.disk).moment c → (disk before.disk).images c) (opened : IsOpened (disk of) (disk before.disk) (loaded_of before)) where
  abbrev Acted : D → Due → Type 0
  Acted left result = Acts command (source, source) (clock, clock) (disk of, disk left) result

  abbrev OfPrefix : Printed → Type 0
  OfPrefix a = IsOfPrefix (way.Reads (is_modelled (disk of)) (now before.seen.state).held) way.print prefix (now before.seen.state) a

  -- the prefix finds none
  pub refused_acted : (refused : Refused) (a : Printed) → Err refused ≡ name_found (now before.seen.state) prefix → a ≡ printing.refused (refusal_text refused) → Acted before.disk (Ok a)
  refused_acted refused a found same =
      read_answer (Some command) is_way.only source clock (disk of) (disk before.disk) (disk before.disk) no_other (loaded_of before) opened (quiet_none (disk before.disk)) a
      (let three = ap (λ (x : Printed). x.status) same in omega (arith, three)) refl
      (is_way.outcome (is_modelled (disk of)) opened.stands.0 before.seen.state.records opened.stands.2 a
      (subst (λ (r : Result (List ℕ) Refused).
      MatchResult r (λ name. (items : List Item) × AreItems (now before.seen.state).held items × (answer : X) × way.Reads (is_modelled (disk of)) (now before.seen.state).held items name answer × (a ≡ way.print name answer))
      (λ refused. a ≡ printing.refused (refusal_text refused))) found same))

  pub memory_acted : Acted before.disk (Err fault_is.Memory)
  memory_acted = read_memory (Some command) is_way.only source clock (disk of) (disk before.disk) (disk before.disk) no_other (loaded_of before) opened (quiet_none (disk before.disk)) refl

  -- the prefix finds a name
  module _ (each : AreItems (now before.seen.state).held before.seen.items) (read : IsOnlyRead disk before after) (name : List ℕ) (found : Ok name ≡ name_found (now before.seen.state) prefix) where
    told : (a : Printed) (answer : X) → way.Reads (is_modelled (disk before.disk)) (now before.seen.state).held before.seen.items name answer → a ≡ way.print name answer → OfPrefix a
    told a answer is same =
        subst (λ (r : Result (List ℕ) Refused).
        MatchResult r (λ name. (items : List Item) × AreItems (now before.seen.state).held items × (answer : X) × way.Reads (is_modelled (disk of)) (now before.seen.state).held items name answer × (a ≡ way.print name answer))
        (λ refused. a ≡ printing.refused (refusal_text refused))) found
        (before.seen.items, each, answer, subst (λ (b : Bool). way.Reads b (now before.seen.state).held before.seen.items name answer) (same_kind (disk of) (disk before.disk) opened.keeps) is, same)

    pub named_acted : (result : Due) → IsNamedAnswer way name (disk, before, after) result → Acted after.disk result
    named_acted (Ok a) is =
        read_answer (Some command) is_way.only source clock (disk of) (disk before.disk) (disk after.disk) no_other (loaded_of before) opened read.quiet a
        (let same = ap (λ (x : Printed). x.status) is.2 in let few = is_way.small name is.0 in omega (arith, same, few)) is.3
        (is_way.outcome (is_modelled (disk of)) opened.stands.0 before.seen.state.records opened.stands.2 a (told a is.0 is.1 is.2))
    named_acted (Err fault_is.Disk) is = read_disk (Some command) is_way.only source clock (disk of) (disk before.disk) (disk after.disk) no_other (loaded_of before) opened read.quiet is
    named_acted (Err fault_is.Usage) is = absurd is
    named_acted (Err fault_is.Input) is = absurd is
    named_acted (Err fault_is.Link) is = absurd is
    named_acted (Err (fault_is.Damaged damaged wrong)) is =
        read_damaged (Some command) is_way.only source clock (disk of) (disk before.disk) (disk after.disk) no_other (loaded_of before) opened read.quiet damaged wrong
        (is_way.damaged (is_modelled (disk of)) opened.stands.0 before.seen.state.records opened.stands.2 damaged wrong
        ((name, before.seen.items, sym found, each, subst (λ (b : Bool). way.Asks b (now before.seen.state).held before.seen.items name damaged) (same_kind (disk of) (disk before.disk) opened.keeps) is.0), subst (λ (b : Bool). IsSpoiltIn b (now before.seen.state) damaged wrong) (same_kind (disk of) (disk before.disk) opened.keeps) is.1)) is.2
    named_acted (Err fault_is.Memory) is = read_memory (Some command) is_way.only source clock (disk of) (disk before.disk) (disk after.disk) no_other (loaded_of before) opened read.quiet is

-- ---- the two commands

pub export_loads : (prefix : List ℕ) → Loads (Some (command_of.Export prefix))
export_loads prefix = record { opened = refl; begun = λ begun. cc; old = λ old bytes are. are; refused = λ bytes refused. refused; fails = λ honest read moment bytes at fails. inl (at, fails, refl); alone = refl; due = λ read bytes due. absurd due }

pub verify_loads : (prefix : List ℕ) → Loads (Some (command_of.Verify prefix))
verify_loads prefix = record { opened = refl; begun = λ begun. cc; old = λ old bytes are. are; refused = λ bytes refused. refused; fails = λ honest read moment bytes at fails. inl (at, fails, refl); alone = refl; due = λ read bytes due. absurd due }

small_export : (name : List ℕ) (e : Export) → (export_printed name e).status ≤ 3
small_export name export.NotCheckin = omega arith
small_export name (export.Incomplete missing) = omega arith
small_export name (export.Tree t) = omega arith

small_verdict : (name : List ℕ) (v : Verdict) → (verdict_printed name v).status ≤ 3
small_verdict name verdict.NotCheckin = omega arith
small_verdict name verdict.NoSum = omega arith
small_verdict name (verdict.Incomplete missing) = omega arith
small_verdict name (verdict.Wrong kept found) = omega arith
small_verdict name verdict.Right = omega arith

pub export_way : (prefix : List ℕ) → IsWay exporting prefix (command_of.Export prefix)
export_way prefix = record {
  only = record { loads = export_loads prefix; idle = refl; never = λ read bytes due. due };
  outcome = λ honest bytes records is a of read. inr (records, is, (a, of, refl));
  damaged = λ honest bytes records is name found spoilt. (records, is, spoilt);
  small = small_export;
}

pub verify_way : (prefix : List ℕ) → IsWay verifying prefix (command_of.Verify prefix)
verify_way prefix = record {
  only = record { loads = verify_loads prefix; idle = refl; never = λ read bytes due. due };
  outcome = λ honest bytes records is a of read. inr (records, is, (a, of, refl));
  damaged = λ honest bytes records is name found spoilt. (records, is, spoilt);
  small = small_verdict;
}
