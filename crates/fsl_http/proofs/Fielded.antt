-- Facts on the fields of a head.
use Rattle.std.proofs.Common.{◌≡◌, ℕ, ◌<◌, ◌≤◌, Bool, true, false, List, [], ◌∷◌, Result, Ok, Err, sym, ap, ◌∙◌}
use Rattle.std.specs.Prelude.{codes, nat_lt, if◌then◌else◌}
use Rattle.std.proofs.lemmas.Bool.{lt-ltb, le-ltb}
use Rattle.fsl_text.specs.Decimals.{decimal_of}
use Rattle.fsl_text.specs.declared.fault.DecimalFault.{DecimalFault}
use Rattle.httparse.specs.declared.spans.HeaderSpan.{HeaderSpan}
use Rattle.fsl_http.specs.declared.request_head.Verdict.{Verdict}
use Rattle.fsl_http.specs.declared.request_head.Verdict.TheVariants.{Refuse, Length}
use Rattle.fsl_http.specs.Limits.{most_body}
use Rattle.fsl_http.specs.Fields.{values_of}
use Rattle.fsl_http.specs.Requests.{judge_size, judge_number, judge_values}
use Rattle.fsl_http.specs.Responses.{SaysLength}

pub one_encoding : (ts ls : List (List ℕ)) (x : List ℕ) (xs : List (List ℕ)) → ts ≡ x ∷ xs → Refuse 400 ≡ judge_values ts ls
one_encoding ts ls x xs is = sym (ap (λ (t : List (List ℕ)). judge_values t ls) is)

pub one_length : (ts ls : List (List ℕ)) (x text : List ℕ) (rest : List (List ℕ)) → ts ≡ [] → ls ≡ x ∷ rest → rest ≡ [] → text ≡ x → (v : Verdict) → v ≡ judge_number text → v ≡ judge_values ts ls
one_length ts ls x text rest none is last same v judged =
    judged ∙ ap judge_number same
    ∙ sym (ap (λ (t : List (List ℕ)). judge_values t ls) none ∙ ap (λ (t : List (List ℕ)). judge_values [] t) (is ∙ ap (λ (t : List (List ℕ)). x ∷ t) last))

pub two_lengths : (ts ls : List (List ℕ)) (x y : List ℕ) (rest more : List (List ℕ)) → ts ≡ [] → ls ≡ x ∷ rest → rest ≡ y ∷ more → Refuse 400 ≡ judge_values ts ls
two_lengths ts ls x y rest more none is next =
    sym (ap (λ (t : List (List ℕ)). judge_values t ls) none ∙ ap (λ (t : List (List ℕ)). judge_values [] t) (is ∙ ap (λ (t : List (List ℕ)). x ∷ t) next))

pub no_header : HeaderSpan
no_header = record { name = record { start = 0; end = 0 }; value = record { start = 0; end = 0 } }

rest_is : (a b : List ℕ) (xs ys : List (List ℕ)) → a ∷ xs ≡ b ∷ ys → xs ≡ ys
rest_is a b xs ys e = cc

filled : (a : List ℕ) (xs : List (List ℕ)) → a ∷ xs ≡ [] → ⊥
filled a xs e = cc

pub more_lengths : (fields : List (List ℕ × List ℕ)) (n : ℕ) (x y : List ℕ) (rest more : List (List ℕ)) → values_of (codes "content-length") fields ≡ x ∷ rest → rest ≡ y ∷ more → SaysLength fields n → ⊥
more_lengths fields n x y rest more has next is = filled y more (sym next ∙ rest_is x is.text rest [] (sym has ∙ is.one))

-- ---- what a length comes to

pub no_number : (text : List ℕ) (fault : DecimalFault) (read : Result ℕ DecimalFault) → read ≡ decimal_of text → read ≡ Err fault → Refuse 400 ≡ judge_number text
no_number text fault read of is = sym (ap judge_size (sym of ∙ is))

pub above_limit : (text : List ℕ) (n : ℕ) (read : Result ℕ DecimalFault) → read ≡ decimal_of text → read ≡ Ok n → most_body < n → Refuse 413 ≡ judge_number text
above_limit text n read of is above =
    let over : nat_lt most_body n ≡ true = lt-ltb most_body n above in
    sym (ap judge_size (sym of ∙ is) ∙ ap (λ (t : Bool). if t then Refuse 413 else Length n) over)

pub within_limit : (text : List ℕ) (n : ℕ) (read : Result ℕ DecimalFault) → read ≡ decimal_of text → read ≡ Ok n → n ≤ most_body → Length n ≡ judge_number text
within_limit text n read of is within =
    let under : nat_lt most_body n ≡ false = le-ltb most_body n within in
    sym (ap judge_size (sym of ∙ is) ∙ ap (λ (t : Bool). if t then Refuse 413 else Length n) under)
