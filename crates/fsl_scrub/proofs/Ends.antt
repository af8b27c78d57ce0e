-- What the end of a call leaves of a clause: an end by a fault that is handed on, and one by a last call whose answer is handed on.
use Rattle.std.proofs.Common.{◌≡◌, ℕ, ◌≤◌, Result, Ok, Err, sym, subst}
use Rattle.std.specs.Prelude.{IsErrAnd, IfOk, IfErr, OnOk, OnErr}
use Rattle.fsl_order.specs.Causes.{Rose, HasCause}

pub no_answer : {X E : Type 0} (r : Result X E) (Q : E → Type 0) → IsErrAnd r Q → (P : X → Type 0) → IfOk r P
no_answer (Ok x) Q h P = absurd h
no_answer (Err e) Q h P = tt

pub no_success : {X E : Type 0} (r : Result X E) (Q : E → Type 0) → IsErrAnd r Q → (P : Type 0) → OnOk r P
no_success (Ok x) Q h P = absurd h
no_success (Err e) Q h P = tt

pub same_fault : {X E : Type 0} (r : Result X E) (fault : E) → IsErrAnd r (λ e. e ≡ fault) → (P : E → Type 0) → P fault → IfErr r P
same_fault (Ok x) fault h P p = absurd h
same_fault (Err e) fault h P p = subst P (sym h) p

-- and what is so of it
pub error_with : {X E : Type 0} (r : Result X E) (fault : E) → IsErrAnd r (λ e. e ≡ fault) → (P : E → Type 0) → P fault → IsErrAnd r P
error_with (Ok x) fault h P p = absurd h
error_with (Err e) fault h P p = subst P (sym h) p

pub fault_cause : {X E : Type 0} (r : Result X E) (Q : E → Type 0) → IsErrAnd r Q → (before now : ℕ) → before ≤ now → Rose before now → HasCause before now r
fault_cause (Ok x) Q h before now later rose = absurd h
fault_cause (Err e) Q h before now later rose = record { later = later; failed = rose; same = tt }

-- the calls before the last one left the count
pub cause_on : {X E : Type 0} (r : Result X E) (first before now : ℕ) → before ≡ first → HasCause before now r → HasCause first now r
cause_on r first before now same cause = subst (λ n. HasCause n now r) same cause

-- what holds whatever the last call answers
pub on_success : {X E : Type 0} (r : Result X E) (P : Type 0) → P → OnOk r P
on_success (Ok x) P p = p
on_success (Err e) P p = tt

-- and whatever fault it is
pub on_fault : {X E : Type 0} (r : Result X E) (P : Type 0) → P → OnErr r P
on_fault (Ok x) P p = tt
on_fault (Err e) P p = p
