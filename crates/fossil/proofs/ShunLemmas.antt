-- What `shun` appended and committed.
use Rattle.std.proofs.Common.{◌≡◌, ◌⊎◌, inl, inr, ℕ, ◌<◌, ◌≤◌, Bool, true, false, cond, List, [], ◌∷◌, ◌++◌, length, Option, Some, None, Result, Ok, Err, refl, sym, ap, subst, ◌∙◌, codes}
use Rattle.std.specs.Option.{option_map_or}
use Rattle.std.specs.FinMap as map_of
use Rattle.std.specs.FinSet as set
use Rattle.std.proofs.Math.Nat.{eq-or-lt_of_le}
use Rattle.std.proofs.lemmas.List.{append-nil}
use Rattle.fsl_order.specs.Causes.{Rose}
use Rattle.fsl_outside.specs.Streams.{SourceState}
use Rattle.fsl_record.specs.declared.Record.{Record}
use Rattle.fsl_record.specs.declared.Record.TheVariants as record_of
use Rattle.fsl_disk.specs.Disk.{DiskState, Told}
use Rattle.fsl_journal.specs.declared.CommitFault.{CommitFault}
use Rattle.fsl_words.specs.declared.Command.TheVariants as command_of
use Rattle.fsl_repo.specs.declared.Shunning.{Shunning}
use Rattle.fsl_repo.specs.declared.Shunning.TheVariants as became
use Rattle.fsl_repo.specs.declared.ShunFault.{ShunFault}
use Rattle.fsl_repo.specs.declared.ShunFault.TheVariants as shun_fault
use Rattle.fsl_repo.specs.Machine.{State, now, shun, shunned, ShunStep, IsCommit}
use Rattle.fsl_repo.specs.Whole.{Whole, log_of, IsWholeOn}
use Rattle.fossil.specs.Run.{IsJust}
use Rattle.fossil.specs.Printed.{Printed, name_line}
use Rattle.fossil.specs.Outcome.{with_commit}
use Rattle.fossil.specs.Shun.{TextAndRecords, shunning, word_of}
use Rattle.fossil.specs.Acts.{loaded_of}
use Rattle.fossil.proofs.InputLemmas.{some_bytes}
use Rattle.fossil.proofs.CommitLemmas.{idle_just}
use Rattle.fossil.proofs.ActLemmas.{still, none_due}
use Rattle.fossil.proofs.AppendLemmas.{IsAppended, IsSettledOn}

-- ---- what is appended

-- what is printed and appended, by what became of the name
abbrev done_as : Shunning → List ℕ → TextAndRecords
done_as became.Already name = record { text = name_line (codes "already") name; records = [] }
done_as became.Removed name = record { text = name_line (codes "removed") name; records = record_of.Shun name ∷ [] }
done_as became.Listed name = record { text = name_line (codes "listed") name; records = record_of.Shun name ∷ [] }

done_text : (done : Shunning) (name : List ℕ) → name_line (word_of done) name ≡ (done_as done name).text
done_text became.Already name = refl
done_text became.Removed name = refl
done_text became.Listed name = refl

-- by whether the name is shunned, and whether it is held
abbrev answered : Bool → Bool → Result Shunning ShunFault
answered shunned held = cond shunned (Ok became.Already) (cond held (Ok became.Removed) (Ok became.Listed))

done_by : (shunned held : Bool) (name : List ℕ) (done : Shunning) → answered shunned held ≡ Ok done
    → cond shunned (done_as became.Already name) (cond held (done_as became.Removed name) (done_as became.Listed name)) ≡ done_as done name
done_by true held name done e = let same : became.Already ≡ done = cc in ap (λ (d : Shunning). done_as d name) same
done_by false true name done e = let same : became.Removed ≡ done = cc in ap (λ (d : Shunning). done_as d name) same
done_by false false name done e = let same : became.Listed ≡ done = cc in ap (λ (d : Shunning). done_as d name) same

due_is : (s : State) (name : List ℕ) → s.stopped ≡ None → shun s name ≡ answered (set.contains (now s).shunned name) (map_of.contains_key (now s).held name)
due_is s name runs =
    ap (λ (o : Option ℕ). option_map_or (λ faults. Err (shun_fault.Stopped faults)) o (answered (set.contains (now s).shunned name) (map_of.contains_key (now s).held name))) runs

records_after : (s : State) (name : List ℕ) (done : Shunning) → (shunned s name (Ok done)).records ≡ s.records ++ (done_as done name).records
records_after s name became.Already = sym (append-nil s.records)
records_after s name became.Removed = refl
records_after s name became.Listed = refl

committed_after : (s : State) (name : List ℕ) (done : Shunning) → (shunned s name (Ok done)).committed ≡ s.committed
committed_after s name became.Already = refl
committed_after s name became.Removed = refl
committed_after s name became.Listed = refl

stopped_after : (s : State) (name : List ℕ) (done : Shunning) → (shunned s name (Ok done)).stopped ≡ s.stopped
stopped_after s name became.Already = refl
stopped_after s name became.Removed = refl
stopped_after s name became.Listed = refl

-- a name was shunned: what is told and appended is what is due
pub record HasShunned (old new : State) (name : List ℕ) (done : Shunning) : Type 0 where
  pub text : name_line (word_of done) name ≡ (shunning (now old) name).text
  pub records : new.records ≡ old.records ++ (shunning (now old) name).records
  pub committed : new.committed ≡ old.committed
  pub runs : new.stopped ≡ None

pub has_shunned : (old new : State) (name : List ℕ) (done : Shunning) → old.stopped ≡ None → ShunStep old name (Ok done) new → HasShunned old new name done
has_shunned old new name done runs (inr want) = absurd (let e = want.0 in cc)
has_shunned old new name done runs (inl due) =
    let same : shunning (now old) name ≡ done_as done name =
    done_by (set.contains (now old).shunned name) (map_of.contains_key (now old).held name) name done (sym (due_is old name runs) ∙ sym due.1.0) in
    let state : due.0 ≡ shunned old name (Ok done) = due.1.1 in
    record {
      text = done_text done name ∙ ap (λ (t : TextAndRecords). t.text) (sym same);
      records =
          ap (λ (s : State). s.records) due.2.state ∙ ap (λ (s : State). s.records) state ∙ records_after old name done
          ∙ ap (λ (t : TextAndRecords). old.records ++ t.records) (sym same);
      committed = ap (λ (s : State). s.committed) due.2.state ∙ ap (λ (s : State). s.committed) state ∙ committed_after old name done;
      runs = ap (λ (s : State). s.stopped) due.2.state ∙ ap (λ (s : State). s.stopped) state ∙ stopped_after old name done ∙ runs;
    }

pub shun_appended : {D : Type 0} (name : List ℕ) (source : SourceState) (clock : Option (List ℕ)) (bytes : List ℕ) (before after : Whole D) (done : Shunning) (answer : Printed)
    → answer ≡ record { status = 0; text = name_line (word_of done) name } → HasShunned before.seen.state after.seen.state name done
    → IsAppended (Some (command_of.Shun name)) (record { before = source; after = source }) (still clock) bytes (loaded_of before) (loaded_of after) answer
shun_appended name source clock bytes before after done answer line has =
    let read = some_bytes source.left in
    let t = shunning (now before.seen.state) name in
    let is : answer ≡ record { status = 0; text = t.text } = line ∙ ap (λ (text : List ℕ). record { status = 0; text = text }) has.text in
    record {
      read = read.0;
      moment = 0;
      appended = t.records;
      told = read.1;
      timed = λ file. none_due (Some (command_of.Shun name)) clock true read.0 0 bytes (λ due. due);
      outcome = λ file honest. inr (before.seen.state.records, file, ap (λ (a : Printed). with_commit a t.records) is);
      plain = inl (ap (λ (a : Printed). a.status) line);
      records = has.records;
      stable = has.committed;
      end = λ z reads. absurd (cc);
      input_steady = refl;
    }

-- ---- what is committed

runs_on : (s new : State) (result : Result ℕ CommitFault) → s.stopped ≡ None → IsCommit s.stopped s result new → IsCommit None s result new
runs_on s new result runs step = subst (λ (o : Option ℕ). IsCommit o s result new) runs step

failed : (s new : State) (fault : CommitFault) → IsCommit None s (Err fault) new → Rose s.faults new.faults
failed s new fault (inl h) = h.1
failed s new fault (inr h) = absurd (let e = h.0 in cc)

done_all : (s new : State) (count : ℕ) → IsCommit None s (Ok count) new → new ≡ record s { committed = length s.records }
done_all s new count (inl h) = absurd (let e = h.0 in cc)
done_all s new count (inr h) = h.1

-- a commit that fails had something to write
pub was_due : (s : State) (fault : CommitFault) (result : Result ℕ CommitFault) → result ≡ Err fault → s.stopped ≡ None → s.committed ≤ length s.records
    → (s.stopped ≡ None → s.committed ≡ length s.records → result ≡ Ok (length s.records)) → s.committed < length s.records
was_due s fault result is runs most nothing = due (eq-or-lt_of_le most) where
  due : (s.committed ≡ length s.records) ⊎ (s.committed < length s.records) → s.committed < length s.records
  due (inl all) = absurd (let e = nothing runs all in cc)
  due (inr less) = less

module _ {D : Type 0} (before after : Whole D) (mid left : DiskState) (was : IsWholeOn mid before) (is : IsWholeOn left after) (runs : before.seen.state.stopped ≡ None) where
  pub commit_rose : (fault : CommitFault) → IsCommit before.seen.state.stopped before.seen.state (Err fault) after.seen.state → Rose mid.faults left.faults
  commit_rose fault step =
      let rose = failed before.seen.state after.seen.state fault (runs_on before.seen.state after.seen.state (Err fault) runs step) in
      subst (λ (n : ℕ). Rose n left.faults) was.faults (subst (λ (n : ℕ). Rose before.seen.state.faults n) is.faults rose)

  pub commit_settles : (count : ℕ) → IsCommit before.seen.state.stopped before.seen.state (Ok count) after.seen.state → IsSettledOn mid left before.seen.state.records
  commit_settles count step =
      let all = done_all before.seen.state after.seen.state count (runs_on before.seen.state after.seen.state (Ok count) runs step) in
      let records : after.seen.state.records ≡ before.seen.state.records = ap (λ (s : State). s.records) all in (
        subst (λ (rs : List Record). Told left (λ held. IsJust held rs)) records
            (idle_just (log_of after) left is.belongs (ap (λ (s : State). s.stopped) all ∙ runs) (ap (λ (s : State). s.committed) all ∙ ap length (sym records))),
        sym is.faults ∙ ap (λ (s : State). s.faults) all ∙ was.faults,
      )
