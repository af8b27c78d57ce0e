-- What a fault that is handed on leaves of each clause.
use Rattle.std.proofs.Common.{◌≡◌, ℕ, Result, Ok, Err, sym, subst}
use Rattle.std.specs.Prelude.{IsErrAnd, IfOk, IfErr, OnOk}
use Rattle.fsl_http.specs.declared.request.HttpFault.{HttpFault}
use Rattle.fsl_http.specs.Reading.{FailsBy}

pub no_answer : {X : Type 0} (r : Result X HttpFault) (Q : HttpFault → Type 0) → IsErrAnd r Q → (P : X → Type 0) → IfOk r P
no_answer (Ok x) Q h P = absurd h
no_answer (Err e) Q h P = tt

pub no_success : {X : Type 0} (r : Result X HttpFault) (Q : HttpFault → Type 0) → IsErrAnd r Q → (P : Type 0) → OnOk r P
no_success (Ok x) Q h P = absurd h
no_success (Err e) Q h P = tt

pub same_fault : {X : Type 0} (r : Result X HttpFault) (fault : HttpFault) → IsErrAnd r (λ e. e ≡ fault) → (P : HttpFault → Type 0) → P fault → IfErr r P
same_fault (Ok x) fault h P p = absurd h
same_fault (Err e) fault h P p = subst P (sym h) p

-- the count was still the first when it failed
pub counted_fault : {X : Type 0} (r : Result X HttpFault) (fault : HttpFault) → IsErrAnd r (λ e. e ≡ fault) → (first before now : ℕ) → before ≡ first → FailsBy before now fault → IfErr r (FailsBy first now)
counted_fault r fault h first before now same fails = same_fault r fault h (FailsBy first now) (subst (λ n. FailsBy n now fault) same fails)
