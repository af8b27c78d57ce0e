-- What a read of a content gives.
use Rattle.std.proofs.Common.{◌≡◌, ◌⊎◌, inl, inr, ℕ, ◌+◌, ◌-◌, ◌<◌, ◌≤◌, List, [], length, take, drop, Option, Bool, false, None, Some, Result, Ok, Err, refl, sym, ◌∙◌, ap, subst, arith}
use Rattle.std.specs.Prelude.{IfOk, IfErr, is_some}
use Rattle.fsl_disk.specs.Disk.{DiskState, Told, Quiet}
use Rattle.fsl_order.specs.Causes.{Rose}
use Rattle.fsl_journal.specs.declared.journal.Journal.TheInside.{Inside}
use Rattle.fsl_journal.specs.Inside.{records_of, places_of, log_of, IsSound}
use Rattle.fsl_journal.specs.Journal.{Belongs, BytesFailed}
use Rattle.fsl_journal.specs.declared.BytesFault.{BytesFault}
use Rattle.fsl_journal.specs.declared.BytesFault.TheVariants as bytes_fault
use Rattle.fsl_journal.specs.Places.{content_places, HasContent, StandsAt, IsAppended, IsCommitted, IsPending}
use Rattle.fsl_journal.proofs.Standing.{has_split, contents_stand, contents_behind, contents_within}
use Rattle.fsl_journal.proofs.Pending.{records_count, places_count}

-- nothing was called
pub quiet_same : (s : DiskState) → Quiet s s
quiet_same s = record {
  keeps = record { tells = refl; model = refl };
  contents = refl;
  later = λ _. omega arith;
  images = λ _ c left. left;
  since = λ _ t c before left. inl left;
}

pub answer_weaker : {X E : Type 0} (r : Result X E) (P Q : X → Type 0) → ((x : X) → P x → Q x) → IfOk r P → IfOk r Q
answer_weaker (Ok x) P Q f p = f x p
answer_weaker (Err e) P Q f p = tt

pub fault_weaker : {X E : Type 0} (r : Result X E) (P Q : E → Type 0) → ((e : E) → P e → Q e) → IfErr r P → IfErr r Q
fault_weaker (Ok x) P Q f p = tt
fault_weaker (Err e) P Q f p = f e p

-- after a call that left the count
pub failed_on : (fault : BytesFault) (s0 s1 s2 : DiskState) → s1.faults ≡ s0.faults → BytesFailed fault s1 s2 → BytesFailed fault s0 s2
failed_on bytes_fault.Disk s0 s1 s2 same rose = subst (λ n. Rose n s2.faults) same rose
failed_on bytes_fault.Memory s0 s1 s2 same stays = stays ∙ same

pub no_memory : (fault : BytesFault) (s : DiskState) → fault ≡ bytes_fault.Memory → BytesFailed fault s s
no_memory fault s is = subst (λ (f : BytesFault). BytesFailed f s s) (sym is) refl

-- as many bytes as there are
pub part_length : (start size : ℕ) (content bytes text : List ℕ) → StandsAt start content bytes → length content ≡ size → text ≡ take size (drop start bytes) → length text ≡ size
part_length start size content bytes text there long is =
    ap length (is ∙ ap (λ (n : ℕ). take n (drop start bytes)) (sym long) ∙ there.same) ∙ long

pub part_is : (start size : ℕ) (content bytes text : List ℕ) → StandsAt start content bytes → length content ≡ size → text ≡ take size (drop start bytes) → text ≡ content
part_is start size content bytes text there long is = is ∙ ap (λ (n : ℕ). take n (drop start bytes)) (sym long) ∙ there.same

pub not_some : (o : Option ℕ) (b : Bool) → b ≡ is_some o → b ≡ false → o ≡ None
not_some None b is none = refl
not_some (Some x) b is none = absurd (let e = sym is ∙ none in cc)

module _ (j : Inside) (sound : IsSound j) (at : ℕ) (content : List ℕ) where
  split : IsAppended (log_of j) at content → IsCommitted (log_of j) at content ⊎ IsPending (log_of j) at content
  split has = has_split j.stable (records_of j) (places_of j) at content (places_count j sound) (omega (arith, sound.stable, records_count j sound)) has

  placed : IsPending (log_of j) at content → HasContent (drop j.stable (records_of j)) (content_places (j.place + 9) (drop j.stable (records_of j))) at content
  placed has = subst (λ (ps : List ℕ). HasContent (drop j.stable (records_of j)) ps at content) sound.behind has

  behind : IsPending (log_of j) at content → j.place + 9 ≤ at
  behind has = contents_behind (drop j.stable (records_of j)) (j.place + 9) at content (placed has)

  -- behind the closed gate stands what isn't committed, and before it what is
  pub pending_of : IsAppended (log_of j) at content → j.place < at → IsPending (log_of j) at content
  pending_of has after = elim (split has) [
    | inl committed ↦ absurd (let within = sound.inside at content committed in omega (arith, within.0, after))
    | inr pending ↦ pending
  ]

  pub committed_of : IsAppended (log_of j) at content → at ≤ j.place → IsCommitted (log_of j) at content
  committed_of has before = elim (split has) [
    | inl committed ↦ committed
    | inr pending ↦ absurd (omega (arith, behind pending, before))
  ]

  pub not_pending : {X : Type 0} → at ≤ j.place → IsPending (log_of j) at content → X
  not_pending before pending = absurd (omega (arith, behind pending, before))

  -- where it stands among the bytes of the records that aren't committed
  pub pending_place : IsPending (log_of j) at content → (j.place + 9 ≤ at) × (at + length content ≤ j.place + 9 + length j.pending)
  pending_place has = (
    behind has,
    (let within = contents_within (drop j.stable (records_of j)) (j.place + 9) at content (placed has) in omega (arith, within, ap length sound.pending)),
  )

  pub pending_stands : (start : ℕ) → start ≡ at - j.place - 9 → IsPending (log_of j) at content → StandsAt start content j.pending
  pending_stands start is has =
      subst (λ (n : ℕ). StandsAt n content j.pending) (omega (arith, is))
      (subst (StandsAt (at - (j.place + 9)) content) (sym sound.pending)
      (contents_stand (drop j.stable (records_of j)) [] (j.place + 9) (j.place + 9) at content (omega arith) (placed has)))

  -- a committed content lies in the file
  pub committed_inside : (s : DiskState) → Belongs (log_of j) s → j.stopped ≡ None → IsCommitted (log_of j) at content → Told s (λ held. at + length content ≤ length held)
  committed_inside s belongs runs has held told =
      let within = sound.inside at content has in
      omega (arith, within.0, (belongs.reads runs held told).1)
