-- What `unshun` appended and committed.
use Rattle.std.proofs.Common.{◌≡◌, inl, inr, ℕ, Bool, true, false, List, [], ◌∷◌, ◌++◌, Option, Some, None, Result, Ok, Err, refl, sym, ap, subst, ◌∙◌, codes}
use Rattle.std.specs.Prelude.{◌^◌, nat_lt, if◌then◌else◌, MatchBool, MatchOption}
use Rattle.std.specs.FinSet as set
use Rattle.std.proofs.lemmas.List.{append-nil}
use Rattle.fsl_outside.specs.Streams.{SourceState}
use Rattle.fsl_record.specs.declared.Record.{Record}
use Rattle.fsl_record.specs.declared.Record.TheVariants as record_of
use Rattle.fsl_blobs.specs.Fold.{Contents, after}
use Rattle.fsl_cross.specs.declared.Item.{Item}
use Rattle.fsl_words.specs.declared.Command.TheVariants as command_of
use Rattle.fsl_repo.specs.declared.Unshunning.{Unshunning}
use Rattle.fsl_repo.specs.declared.Unshunning.TheVariants as became
use Rattle.fsl_repo.specs.declared.UnshunFault.{UnshunFault}
use Rattle.fsl_repo.specs.declared.UnshunFault.TheVariants as unshun_fault
use Rattle.fsl_repo.specs.Machine.{State, now, AreItems, unshun_room, IsUnshunning, unshunned, UnshunStep}
use Rattle.fsl_repo.specs.Whole.{Whole}
use Rattle.fossil.specs.Printed.{Printed, name_line, full}
use Rattle.fossil.specs.Unshun.{wanted_without, IsUnshun, word_of}
use Rattle.fossil.specs.Acts.{loaded_of}
use Rattle.fossil.proofs.InputLemmas.{some_bytes}
use Rattle.fossil.proofs.ActLemmas.{still, none_due}
use Rattle.fossil.proofs.AppendLemmas.{IsAppended}

abbrev Became : Type 0
Became = Result Unshunning UnshunFault

-- what is printed and appended, by what became of the name
abbrev printed_by : Became → List ℕ → Printed
printed_by (Ok done) name = record { status = 0; text = name_line (word_of done) name }
printed_by (Err fault) name = full name

abbrev records_by : Became → List ℕ → List Record
records_by (Ok became.NotShunned) name = []
records_by (Ok became.Unshunned) name = record_of.Unshun name ∷ []
records_by (Err fault) name = []

module _ (name : List ℕ) (r : Became) where
  -- by whether too many names would be wanted
  by_room : (many : Bool) (n : ℕ) → r ≡ (if many then Err (unshun_fault.Full n) else Ok became.Unshunned)
      → MatchBool many ((printed_by r name ≡ full name) × (records_by r name ≡ []))
      ((printed_by r name ≡ record { status = 0; text = name_line (codes "unshunned") name }) × (records_by r name ≡ record_of.Unshun name ∷ []))
  by_room true n e = (ap (λ (x : Became). printed_by x name) e, ap (λ (x : Became). records_by x name) e)
  by_room false n e = (ap (λ (x : Became). printed_by x name) e, ap (λ (x : Became). records_by x name) e)

  -- by whether the name is shunned
  by_list : (listed : Bool) (c : Contents) → MatchBool listed ((items : List Item) × AreItems c.held items × (r ≡ unshun_room (after c (record_of.Unshun name)) items)) (r ≡ Ok became.NotShunned)
      → MatchBool listed
      ((items : List Item) × AreItems c.held items
      × MatchBool (nat_lt (2 ^ 20) (wanted_without name c items)) ((printed_by r name ≡ full name) × (records_by r name ≡ []))
      ((printed_by r name ≡ record { status = 0; text = name_line (codes "unshunned") name }) × (records_by r name ≡ record_of.Unshun name ∷ [])))
      ((printed_by r name ≡ record { status = 0; text = name_line (codes "not shunned") name }) × (records_by r name ≡ []))
  by_list true c h = (h.0, h.1, by_room (nat_lt (2 ^ 20) (wanted_without name c h.0)) (wanted_without name c h.0) h.2)
  by_list false c e = (ap (λ (x : Became). printed_by x name) e, ap (λ (x : Became). records_by x name) e)

  due_is : (s : State) → s.stopped ≡ None → IsUnshunning s name r → IsUnshun name (now s) (printed_by r name) (records_by r name)
  due_is s runs is =
      by_list (set.contains (now s).shunned name) (now s)
      (subst (λ (o : Option ℕ). MatchOption o
      (MatchBool (set.contains (now s).shunned name) ((items : List Item) × AreItems (now s).held items × (r ≡ unshun_room (after (now s) (record_of.Unshun name)) items)) (r ≡ Ok became.NotShunned))
      (λ faults. r ≡ Err (unshun_fault.Stopped faults))) runs is)

records_after : (s : State) (name : List ℕ) (r : Became) → (unshunned s name r).records ≡ s.records ++ records_by r name
records_after s name (Ok became.NotShunned) = sym (append-nil s.records)
records_after s name (Ok became.Unshunned) = refl
records_after s name (Err fault) = sym (append-nil s.records)

committed_after : (s : State) (name : List ℕ) (r : Became) → (unshunned s name r).committed ≡ s.committed
committed_after s name (Ok became.NotShunned) = refl
committed_after s name (Ok became.Unshunned) = refl
committed_after s name (Err fault) = refl

stopped_after : (s : State) (name : List ℕ) (r : Became) → (unshunned s name r).stopped ≡ s.stopped
stopped_after s name (Ok became.NotShunned) = refl
stopped_after s name (Ok became.Unshunned) = refl
stopped_after s name (Err fault) = refl

-- a name was taken off the list, or is to stay on it: what is told and appended is what is due
pub record HasUnshunned (old new : State) (name : List ℕ) (r : Became) : Type 0 where
  pub is : IsUnshun name (now old) (printed_by r name) (records_by r name)
  pub records : new.records ≡ old.records ++ records_by r name
  pub committed : new.committed ≡ old.committed
  pub runs : new.stopped ≡ None

pub has_unshunned : (old new : State) (name : List ℕ) (r : Became) → old.stopped ≡ None → (r ≡ Err unshun_fault.Memory → ⊥) → UnshunStep old name r new → HasUnshunned old new name r
has_unshunned old new name r runs other (inr want) = absurd (other want.0)
has_unshunned old new name r runs other (inl due) = record {
  is = due_is name r old runs due.1.0;
  records = ap (λ (s : State). s.records) due.2.state ∙ ap (λ (s : State). s.records) due.1.1 ∙ records_after old name r;
  committed = ap (λ (s : State). s.committed) due.2.state ∙ ap (λ (s : State). s.committed) due.1.1 ∙ committed_after old name r;
  runs = ap (λ (s : State). s.stopped) due.2.state ∙ ap (λ (s : State). s.stopped) due.1.1 ∙ stopped_after old name r ∙ runs;
}

module _ (name : List ℕ) (source : SourceState) (clock : Option (List ℕ)) (bytes : List ℕ) where
  pub unshun_appended : {D : Type 0} (before after : Whole D) (done : Unshunning) (answer : Printed) → answer ≡ record { status = 0; text = name_line (word_of done) name }
      → HasUnshunned before.seen.state after.seen.state name (Ok done)
      → IsAppended (Some (command_of.Unshun name)) (record { before = source; after = source }) (still clock) bytes (loaded_of before) (loaded_of after) answer
  unshun_appended before after done answer line has =
      let read = some_bytes source.left in
      let appended = records_by (Ok done) name in
      record {
        read = read.0;
        moment = 0;
        appended = appended;
        told = read.1;
        outcome = λ file honest. inr (before.seen.state.records, file, (answer, appended, subst (λ (a : Printed). IsUnshun name (now before.seen.state) a appended) (sym line) has.is, refl));
        timed = λ file. none_due (Some (command_of.Unshun name)) clock true read.0 0 bytes (λ due. due);
        plain = inl (ap (λ (a : Printed). a.status) line);
        records = has.records;
        stable = has.committed;
        end = λ z reads. absurd (cc);
        input_steady = refl;
      }

  -- too many names would be wanted
  pub full_appended : {D : Type 0} (before : Whole D) (new : State) (fault : UnshunFault) (answer : Printed) → answer ≡ full name → HasUnshunned before.seen.state new name (Err fault)
      → IsAppended (Some (command_of.Unshun name)) (record { before = source; after = source }) (still clock) bytes (loaded_of before) (loaded_of before) answer
  full_appended before new fault answer line has =
      let read = some_bytes source.left in
      let three : answer.status ≡ 3 = ap (λ (a : Printed). a.status) line in
      record {
        read = read.0;
        moment = 0;
        appended = [];
        told = read.1;
        outcome = λ file honest. inr (before.seen.state.records, file, (answer, [], subst (λ (a : Printed). IsUnshun name (now before.seen.state) a []) (sym line) has.is, refl));
        timed = λ file. none_due (Some (command_of.Unshun name)) clock true read.0 0 bytes (λ due. due);
        plain = inr (three, refl);
        records = sym (append-nil before.seen.state.records);
        stable = refl;
        end = λ z reads. absurd (cc);
        input_steady = refl;
      }
