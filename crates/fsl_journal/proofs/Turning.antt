-- One turn of a walk over the gates of a file that another process writes to.
use Rattle.std.proofs.Common.{◌≡◌, ◌⊎◌, inl, inr, ℕ, ◌+◌, ◌<◌, ◌≤◌, ◌^◌, List, length, get_or, None, Some, Result, Ok, Err, sym, ◌∙◌, ap, subst, arith}
use Rattle.std.specs.Prelude.{slice_index, IfOk, OnErr}
use Rattle.std.specs.Int.{from_be_bytes, w64}
use Rattle.std.proofs.lemmas.Nat.{be_bytes_8}
use Rattle.fsl_disk.specs.Shared.{SharedState, ToldOf, Sees, IsLengthOf, AreOf, ReadFailed}
use Rattle.fsl_order.specs.Causes.{Rose}
use Rattle.fsl_journal.specs.Beside.{IsByteOf}
use Rattle.fsl_journal.specs.Commit.{eight}
use Rattle.fsl_journal.specs.Gates.{Grows, IsGateAt, IsOpenAt, From}
use Rattle.fsl_journal.proofs.Gates.{first_gate, gate_on, open_at, open_on, next_at, gate_inside, number_is}

some_place : {a b : ℕ} → Some a ≡ Some b → a ≡ b
some_place e = cc

none_place : {a : ℕ} → None ≡ Some a → ⊥
none_place e = cc

pub sees_on : (a b c : SharedState) → Sees a b → Sees b c → Sees a c
sees_on a b c first then = record { same = then.same ∙ first.same; later = omega (arith, first.later, then.later) }

pub one_byte : (old new : SharedState) (held : ℕ → List ℕ) (at byte : ℕ) (bytes : List ℕ) → AreOf old new held at bytes → 0 < length bytes → byte ≡ slice_index bytes 0 → IsByteOf old new held at byte
one_byte old new held at byte bytes are some is =
    let seen = are 0 some in
    let same : at + 0 ≡ at = omega arith in
    (seen.0, seen.1, omega (arith, seen.2), is ∙ seen.3 ∙ ap (λ (n : ℕ). slice_index (held seen.0) n) same)

-- the first gate of a file that grows
pub grown_first : (held : ℕ → List ℕ) (from now : ℕ) → Grows held from → from ≤ now → From held now (IsGateAt 15)
grown_first held from now grows le = λ m since. gate_on 15 (held from) (held m) (grows.on from m (omega arith) (omega (arith, le, since))) (first_gate grows.mark grows.groups (held from) grows.first)

-- it is longer than the header
pub grown_long : (old new : SharedState) (held : ℕ → List ℕ) (len : ℕ) → Grows held old.moment → IsLengthOf old new held len → 15 < len
grown_long old new held len grows (m, within, is) =
    omega (arith, is, gate_inside 15 (held m) (grown_first held old.moment m grows within.0 m (omega arith)))

-- a gate that was seen open
pub opened_from : (old new : SharedState) (held : ℕ → List ℕ) (from gate byte : ℕ) → Grows held from → from ≤ old.moment → From held old.moment (IsGateAt gate) → IsByteOf old new held gate byte → byte ≡ 79 → (size : ℕ) × From held new.moment (IsOpenAt gate size)
opened_from old new held from gate byte grows le there (m, within, inside, is) open_byte =
    let opened = open_at gate (held m) (there m within.0) (sym is ∙ open_byte) in
    (opened.0, λ n since. open_on gate opened.0 (held m) (held n) (grows.on m n (omega (arith, le, within.0)) (omega (arith, within.1, since))) opened.1)

pub next_from : (held : ℕ → List ℕ) (from now gate place size : ℕ) → From held from (IsOpenAt gate size) → from ≤ now → Some place ≡ Some (gate + 9 + size) → From held now (IsGateAt place)
next_from held from now gate place size opened le is = λ m since.
    subst (λ (p : ℕ). IsGateAt p (held m)) (sym (some_place is)) (next_at gate size (held m) (opened m (omega (arith, le, since))))

pub never_none : {X : Type 0} (a : ℕ) → None ≡ Some a → X
never_none a is = absurd (none_place is)

-- ---- behind an open gate

pub open_long : (held : ℕ → List ℕ) (from gate size m : ℕ) → From held from (IsOpenAt gate size) → from ≤ m → gate + 9 + size < length (held m)
open_long held from gate size m opened le = gate_inside (gate + 9 + size) (held m) (next_at gate size (held m) (opened m le))

pub number_read : (now old new : SharedState) (held : ℕ → List ℕ) (gate size number : ℕ) → From held now.moment (IsOpenAt gate size) → now.moment ≤ old.moment → number < 2 ^ 64 → AreOf old new held (gate + 1) (eight number) → number ≡ size
number_read now old new held gate size number opened le fits are =
    number_is held now.moment gate size number opened fits (λ k below. let seen = are k below in (seen.0, omega (arith, le, seen.1.0), seen.3))

-- a length that is asked for has the gate and its number
pub long_enough : (X : Type 0) (now old new : SharedState) (held : ℕ → List ℕ) (gate size len place : ℕ) → From held now.moment (IsOpenAt gate size) → now.moment ≤ old.moment → (place < len) ⊎ IsLengthOf old new held len → place ≤ gate + 9 + size → len ≤ place → X
long_enough X now old new held gate size len place opened le (inl inside) within short = absurd (omega (arith, inside, short))
long_enough X now old new held gate size len place opened le (inr (m, between, is)) within short =
    absurd (omega (arith, is, open_long held now.moment gate size m opened (omega (arith, le, between.0)), within, short))

-- the number is there to be read
pub number_failed : (now old new : SharedState) (gate : ℕ) → Sees now old → old.faults ≡ now.faults → ReadFailed old new (gate + 1 + 8) → ToldOf now (λ held. (size : ℕ) × From held now.moment (IsOpenAt gate size)) → Rose now.faults new.faults
number_failed now old new gate sees count (inl rose) opened = subst (λ (n : ℕ). Rose n new.faults) count rose
number_failed now old new gate sees count (inr short) opened =
    let there = opened short.held (sym sees.same ∙ short.told) in
    absurd (omega (arith, short.short, open_long short.held now.moment gate there.0 short.moment there.1 (omega (arith, sees.later, short.within.0))))

-- so is a gate, and the mark
pub gate_failed : (first now new : SharedState) (gate end : ℕ) → Sees first now → now.faults ≡ first.faults → ToldOf first (λ held. Grows held first.moment → From held now.moment (IsGateAt gate)) → end ≤ gate + 1 → ReadFailed now new end → ToldOf first (λ held. Grows held first.moment) → Rose first.faults new.faults
gate_failed first now new gate end sees count there inside (inl rose) grows = subst (λ (n : ℕ). Rose n new.faults) count rose
gate_failed first now new gate end sees count there inside (inr short) grows =
    let told = sym sees.same ∙ short.told in
    absurd (omega (arith, short.short, inside, gate_inside gate (short.held short.moment) (there short.held told (grows short.held told) short.moment short.within.0)))

pub rose_on : (a b c : ℕ) → b ≡ a → Rose b c → Rose a c
rose_on a b c same rose = subst (λ (n : ℕ). Rose n c) same rose

pub told_or : {A : Type 0} (file : SharedState) (P : (ℕ → List ℕ) → Type 0) (held : ℕ → List ℕ) → file.held ≡ Some held → A ⊎ ToldOf file P → A ⊎ P held
told_or file P held told (inl a) = inl a
told_or file P held told (inr of) = inr (of held told)

pub eight_back : (bytes : List ℕ) (n : ℕ) → length bytes ≡ 8 → ((i : ℕ) → get_or bytes i 0 < 256) → n ≡ from_be_bytes w64 bytes → eight n ≡ bytes
unfolding eight
eight_back bytes n long all is = be_bytes_8 bytes n long all is

pub if_ok_on : {X E : Type 0} (r : Result X E) (P Q : X → Type 0) → IfOk r P → ((x : X) → P x → Q x) → IfOk r Q
if_ok_on (Ok x) P Q p more = more x p
if_ok_on (Err e) P Q p more = tt

pub if_err_on : {X E : Type 0} (r : Result X E) (P Q : Type 0) → OnErr r P → (P → Q) → OnErr r Q
if_err_on (Ok x) P Q p more = tt
if_err_on (Err e) P Q p more = more p
