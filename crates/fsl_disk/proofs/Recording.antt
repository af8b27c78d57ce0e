-- One more call of a disk in memory.
use Rattle.std.proofs.Common.{◌≡◌, ◌⊎◌, inl, inr, ℕ, ◌≤◌, List, ◌∷◌, length, refl, sym, subst, ap, ◌∙◌, arith, Result, Ok, Err, OnOk, OnErr}
use Rattle.fsl_disk.specs.Disk.{Calls, Same, Torn, CutShort}
use Rattle.fsl_disk.specs.Change.{reads, Leaves}
use Rattle.fsl_disk.specs.History.{Past}
use Rattle.fsl_disk.specs.Memory.{InMemory, memory_state, held, reads_left}
use Rattle.fsl_disk.specs.declared.change.Change.{Change}
use Rattle.fsl_disk.specs.declared.change.Change.TheVariants.{Write, Cut, Sync}
use Rattle.fsl_disk.proofs.Stopping.{torn_none, torn_part, cut_none, cut_part}

-- whatever a call answered, one of two things is so
pub either : {T E P Q : Type 0} → (r : Result T E) → OnOk r P → OnErr r Q → P ⊎ Q
either (Ok x) p q = inl p
either (Err e) p q = inr q

module _ (step : List ℕ → List ℕ → Type 0) (first : List ℕ) (past : List Change) where
  pub more : (change : Change) (fails other : List ℕ) (m n k l : ℕ) → ((c : List ℕ) → Leaves first (change ∷ past) c → (d : List ℕ) × Leaves first past d × step d c)
      → Calls step (memory_state (record { first = first; past = past; fails = fails; made = m; faults = k })) (memory_state (record { first = first; past = change ∷ past; fails = other; made = n; faults = l }))
  more change fails other m n k l follows = record {
    keeps = record { tells = refl; model = refl };
    crash = λ model. record {
      follows = follows;
      later = omega arith;
      nothing_else = λ t c le left. elim left [ inl now ↦ inr now | inr before ↦ inl before.1 ];
      keeps = λ t c le left. inr (le, left);
    };
  }

  pub none : (fails other : List ℕ) (m n k l : ℕ) → ((d : List ℕ) → step d d)
      → Calls step (memory_state (record { first = first; past = past; fails = fails; made = m; faults = k })) (memory_state (record { first = first; past = past; fails = other; made = n; faults = l }))
  none fails other m n k l same = record {
    keeps = record { tells = refl; model = refl };
    crash = λ model. record {
      follows = λ c left. (c, left, same c);
      later = omega arith;
      nothing_else = λ t c le left. inl left;
      keeps = λ t c le left. left;
    };
  }

-- a call that kept a change, or none
kept : (step : List ℕ → List ℕ → Type 0) (old new : InMemory) (change : Change) → ((d : List ℕ) → step d d)
    → ((c : List ℕ) → Leaves old.first (change ∷ old.past) c → (d : List ℕ) × Leaves old.first old.past d × step d c)
    → new.first ≡ old.first → (new.past ≡ change ∷ old.past) ⊎ (new.past ≡ old.past) → Calls step (memory_state old) (memory_state new)
kept step old new change same follows first past =
    subst (λ (l : List ℕ). Calls step (memory_state old) (memory_state (record { first = l; past = new.past; fails = new.fails; made = new.made; faults = new.faults }))) (sym first)
    (elim past [
      | inl done ↦
          subst (λ (l : List Change). Calls step (memory_state old) (memory_state (record { first = old.first; past = l; fails = new.fails; made = new.made; faults = new.faults }))) (sym done)
          (more step old.first old.past change old.fails new.fails old.made new.made old.faults new.faults follows)
      | inr nothing ↦
          subst (λ (l : List Change). Calls step (memory_state old) (memory_state (record { first = old.first; past = l; fails = new.fails; made = new.made; faults = new.faults }))) (sym nothing)
          (none step old.first old.past old.fails new.fails old.made new.made old.faults new.faults same)
    ])

-- what a record of changes kept of a call, as the disk around it shows it
pub shown : (old new : InMemory) (before after : Past) (change : Change) → before.first ≡ old.first → before.changes ≡ old.past
    → new.first ≡ after.first → new.past ≡ after.changes
    → (after ≡ record before { changes = change ∷ before.changes }) ⊎ (after ≡ before)
    → (new.first ≡ old.first) × ((new.past ≡ change ∷ old.past) ⊎ (new.past ≡ old.past))
shown old new before after change first past same here done = (
  here_first ∙ first,
  elim done [
    | inl more ↦ inl (here ∙ ap (λ (p : Past). p.changes) more ∙ ap (λ (l : List Change). change ∷ l) past)
    | inr nothing ↦ inr (here ∙ ap (λ (p : Past). p.changes) nothing ∙ past)
  ],
)
  where
    here_first : new.first ≡ before.first
    here_first = same ∙ elim done [ inl more ↦ ap (λ (p : Past). p.first) more | inr nothing ↦ ap (λ (p : Past). p.first) nothing ]

pub kept_write : (old new : InMemory) (at range : ℕ) (piece : List ℕ) → at ≤ length (held old) → length piece ≤ range → new.first ≡ old.first
    → (new.past ≡ Write at piece range ∷ old.past) ⊎ (new.past ≡ old.past) → Calls (Torn at range) (memory_state old) (memory_state new)
kept_write old new at range piece inside part first past = kept (Torn at range) old new (Write at piece range) (torn_none at range) follows first past
  where
    follows : (c : List ℕ) → Leaves old.first (Write at piece range ∷ old.past) c → (d : List ℕ) × Leaves old.first old.past d × Torn at range d c
    follows c (inl done) = (reads old.first old.past, reads_left old.first old.past, torn_part at range piece (reads old.first old.past) c inside part done)
    follows c (inr stopped) = stopped

pub kept_cut : (old new : InMemory) (len left : ℕ) → len ≤ left → new.first ≡ old.first
    → (new.past ≡ Cut len left ∷ old.past) ⊎ (new.past ≡ old.past) → Calls (CutShort len) (memory_state old) (memory_state new)
kept_cut old new len left part first past = kept (CutShort len) old new (Cut len left) (cut_none len) follows first past
  where
    follows : (c : List ℕ) → Leaves old.first (Cut len left ∷ old.past) c → (d : List ℕ) × Leaves old.first old.past d × CutShort len d c
    follows c (inl done) = (reads old.first old.past, reads_left old.first old.past, cut_part len left (reads old.first old.past) c part done)
    follows c (inr stopped) = stopped

pub kept_sync : (old new : InMemory) → new.first ≡ old.first → new.past ≡ Sync ∷ old.past → Calls Same (memory_state old) (memory_state new)
kept_sync old new first past =
    kept Same old new Sync (λ d. refl) (λ c left. (reads old.first old.past, reads_left old.first old.past, left)) first (inl past)
