-- What the end of a call leaves of a clause: an end by a fault that is handed on, and one by a last call whose answer is handed on.
use Rattle.std.specs.Prelude.{Result, Ok, Err, IsErrAnd, IfOk, OnOk}

pub no_answer : {X E : Type 0} (r : Result X E) (Q : E → Type 0) → IsErrAnd r Q → (P : X → Type 0) → IfOk r P
no_answer (Ok x) Q h P = absurd h
no_answer (Err e) Q h P = tt

pub no_success : {X E : Type 0} (r : Result X E) (Q : E → Type 0) → IsErrAnd r Q → (P : Type 0) → OnOk r P
no_success (Ok x) Q h P = absurd h
no_success (Err e) Q h P = tt

-- what two clauses of success give
pub both_if : {X E : Type 0} {P Q R : X → Type 0} (r : Result X E) → ((x : X) → P x → Q x → R x) → IfOk r P → IfOk r Q → IfOk r R
both_if (Ok x) f p q = f x p q
both_if (Err e) f p q = tt
