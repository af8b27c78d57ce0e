-- What arrivals put behind others.
use Rattle.std.specs.Prelude.{◌≡◌, ℕ, false, List, [], ◌∷◌, ◌++◌, None, Result, Ok, Err}
use Rattle.std.proofs.Common.{inl, inr, refl, sym, ap, subst, ◌∙◌, append_assoc}
use Rattle.std.proofs.lemmas.List.{append-nil}
use Rattle.fsl_name.specs.Name.{name_of}
use Rattle.fsl_record.specs.declared.Record.{Record}
use Rattle.fsl_record.specs.declared.Record.TheVariants as record_of
use Rattle.fsl_repo.specs.declared.Arrival.{Arrival}
use Rattle.fsl_repo.specs.declared.Arrival.TheVariants as arrival
use Rattle.fsl_repo.specs.declared.ArriveFault.{ArriveFault}
use Rattle.fsl_repo.specs.declared.ArriveFault.TheVariants as arrive_fault
use Rattle.fsl_repo.specs.Machine.{State, IsArrival, ArriveStep, arrived}
use Rattle.fsl_repo.specs.Whole.{Whole}
use Rattle.laws_openings.specs.Lives.{IsWork}
use Rattle.tests_laws.specs.Texts.{PutsText, PutsTexts}

-- the records that an answer puts there; the rest stays
record Put (s due : State) : Type 0 where
  group : List Record
  records : due.records ≡ s.records ++ group
  committed : due.committed ≡ s.committed
  stopped : due.stopped ≡ s.stopped

put : (s : State) (name text : List ℕ) (r : Result Arrival ArriveFault) → Put s (arrived s name None text false r)
put s name text (Ok arrival.Shunned) = record { group = []; records = sym (append-nil s.records); committed = refl; stopped = refl }
put s name text (Ok arrival.Present) = record { group = []; records = sym (append-nil s.records); committed = refl; stopped = refl }
put s name text (Ok arrival.Published) = record { group = record_of.Publish name ∷ []; records = refl; committed = refl; stopped = refl }
put s name text (Ok arrival.Stored) = record { group = record_of.Blob false name None text ∷ []; records = refl; committed = refl; stopped = refl }
put s name text (Err e) = record { group = []; records = sym (append-nil s.records); committed = refl; stopped = refl }

-- an arrival is a work
pub arrives : {D : Type 0} (old new : Whole D) (name text : List ℕ) (r : Result Arrival ArriveFault) → name ≡ name_of text → old.seen.state.stopped ≡ None
    → new.disk ≡ old.disk → (r ≡ Err arrive_fault.Memory → ⊥) → ArriveStep old.seen.state name None text false r new.seen.state → IsWork (PutsText text) old new
arrives old new name text r is runs disk other (inr memory) = absurd (other memory.0)
arrives old new name text r is runs disk other (inl due) =
    let did = put old.seen.state name text r in
    record {
      disk = disk;
      committed = ap (λ (s : State). s.committed) due.2.state ∙ ap (λ (s : State). s.committed) due.1.1 ∙ did.committed;
      stopped = ap (λ (s : State). s.stopped) due.2.state ∙ ap (λ (s : State). s.stopped) due.1.1 ∙ did.stopped;
      group = did.group;
      fits =
          subst (λ n. (s : State) × (q : Result Arrival ArriveFault) × (s.records ≡ old.seen.state.records) × (s.stopped ≡ None)
          × IsArrival s n text false q × ((arrived s n None text false q).records ≡ old.seen.state.records ++ did.group)) is
          (old.seen.state, r, refl, runs, due.1.0, did.records);
      records = ap (λ (s : State). s.records) due.2.state ∙ ap (λ (s : State). s.records) due.1.1 ∙ did.records;
    }

-- no arrival is one, too
pub none_arrive : {D : Type 0} (repo : Whole D) → IsWork (PutsTexts []) repo repo
none_arrive repo = record {
  disk = refl;
  committed = refl;
  stopped = refl;
  group = [];
  fits = refl;
  records = sym (append-nil repo.seen.state.records);
}

-- one text more
puts_more : (texts : List (List ℕ)) (text : List ℕ) (old first next : List Record) → PutsTexts texts old first → PutsText text (old ++ first) next
    → PutsTexts (texts ++ text ∷ []) old (first ++ next)
puts_more [] text old first next none puts = (
  next,
  [],
  subst (λ rs. PutsText text rs next) (ap (λ g. old ++ g) none ∙ append-nil old) puts,
  refl,
  ap (λ g. g ++ next) none ∙ sym (append-nil next),
)
puts_more (t ∷ texts) text old first next put puts = (
  put.0,
  put.1 ++ next,
  put.2,
  puts_more texts text (old ++ put.0) put.1 next put.3
      (subst (λ rs. PutsText text rs next) (ap (λ g. old ++ g) put.4 ∙ sym (append_assoc old put.0 put.1)) puts),
  ap (λ g. g ++ next) put.4 ∙ append_assoc put.0 put.1 next,
)

pub one_more : {D : Type 0} (old mid new : Whole D) (texts : List (List ℕ)) (text : List ℕ) → IsWork (PutsTexts texts) old mid → IsWork (PutsText text) mid new
    → IsWork (PutsTexts (texts ++ text ∷ [])) old new
one_more old mid new texts text so_far more = record {
  disk = more.disk ∙ so_far.disk;
  committed = more.committed ∙ so_far.committed;
  stopped = more.stopped ∙ so_far.stopped;
  group = so_far.group ++ more.group;
  fits = puts_more texts text old.seen.state.records so_far.group more.group so_far.fits (subst (λ rs. PutsText text rs more.group) so_far.records more.fits);
  records = more.records ∙ ap (λ rs. rs ++ more.group) so_far.records ∙ append_assoc old.seen.state.records so_far.group more.group;
}
