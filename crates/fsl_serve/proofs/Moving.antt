-- What one turn of a loop takes from the front of a list and puts behind another.
use Rattle.std.proofs.Common.{◌≡◌, ℕ, ◌+◌, ◌<◌, ◌≤◌, List, [], ◌∷◌, ◌++◌, map, length, get_or, Result, Ok, ap, subst, sym, ◌∙◌, refl, arith}
use Rattle.std.proofs.lemmas.List.{append-nil, append_assoc, map-append}
use Rattle.std.specs.Bool.{if◌then◌else◌}
use Rattle.std.specs.List.{remove}
use Rattle.std.specs.Result.{is_ok}

-- what a push left that succeeded
pub pushed : {X T E : Type 0} (r : Result T E) (t : T) (new more same : X) → r ≡ Ok t → new ≡ (if is_ok r then more else same) → new ≡ more
pushed r t new more same ok is = subst (λ q. new ≡ (if is_ok q then more else same)) ok is

-- the parts of the first job are behind the others
pub taken_apart : {J C : Type 0} (part : J → C) (parts grown : List C) (jobs rest : List J) (all : List C) (j : J) → 0 < length jobs → j ≡ get_or jobs 0 j → rest ≡ remove jobs 0 → grown ≡ parts ++ part j ∷ [] → parts ++ map part jobs ≡ all → grown ++ map part rest ≡ all
taken_apart part parts grown [] rest all j l at left more h = absurd (omega arith)
taken_apart part parts grown (k ∷ ks) rest all j l at left more h =
    ap (λ xs. xs ++ map part rest) more ∙ (append_assoc parts (part j ∷ []) (map part rest) ∙ (ap (λ (x : _). parts ++ (part x ∷ map part rest)) at ∙ (ap (λ xs. parts ++ (part k ∷ map part xs)) left ∙ h)))

-- the first part is in a job behind the others
pub put_together : {J C : Type 0} (part : J → C) (jobs grown : List J) (parts rest : List C) (all : List C) (j : J) (c : C) → 0 < length parts → c ≡ get_or parts 0 c → rest ≡ remove parts 0 → part j ≡ c → grown ≡ jobs ++ j ∷ [] → map part jobs ++ parts ≡ all → map part grown ++ rest ≡ all
put_together part jobs grown [] rest all j c l at left is more h = absurd (omega arith)
put_together part jobs grown (k ∷ ks) rest all j c l at left is more h =
    ap (λ xs. map part xs ++ rest) more ∙ (ap (λ xs. xs ++ rest) (map-append part jobs (j ∷ [])) ∙ (append_assoc (map part jobs) (part j ∷ []) rest ∙ (ap (λ x. map part jobs ++ (x ∷ rest)) (is ∙ at) ∙ (ap (λ xs. map part jobs ++ (k ∷ xs)) left ∙ h))))

-- no job is left
pub all_apart : {J C : Type 0} (part : J → C) (parts : List C) (jobs : List J) (all : List C) → length jobs ≤ 0 → parts ++ map part jobs ≡ all → parts ≡ all
all_apart part parts [] all l h = sym (append-nil parts) ∙ h
all_apart part parts (j ∷ js) all l h = absurd (omega arith)

-- no part is left
pub all_together : {J C : Type 0} (part : J → C) (jobs : List J) (parts : List C) (all : List C) → length parts ≤ 0 → map part jobs ++ parts ≡ all → map part jobs ≡ all
all_together part jobs [] all l h = sym (append-nil (map part jobs)) ∙ h
all_together part jobs (c ∷ cs) all l h = absurd (omega arith)

-- no part is there yet
pub none_there : {C : Type 0} (n : ℕ) (parts more : List C) → n ≡ 0 → n ≡ length parts → parts ++ more ≡ more
none_there n [] more none same = refl
none_there n (c ∷ cs) more none same = absurd (omega arith)

-- no job is there yet
pub none_staffed : {J C : Type 0} (part : J → C) (n : ℕ) (jobs : List J) (parts : List C) → n ≡ 0 → n ≡ length jobs → map part jobs ++ parts ≡ parts
none_staffed part n [] parts none same = refl
none_staffed part n (j ∷ js) parts none same = absurd (omega arith)

-- there is still room for what is left
pub still_room : (n m n' m' c c' : ℕ) → n' ≤ n + 1 → m' + 1 ≡ m → c ≤ c' → n + m ≤ c → n' + m' ≤ c'
still_room n m n' m' c c' grown left kept room = omega arith

-- there is room for one more
pub one_more : (n m c : ℕ) → 0 < m → n + m ≤ c → n < c
one_more n m c l room = omega arith

-- there is room for all
pub first_room : (n m c : ℕ) → n ≡ 0 → m ≤ c → n + m ≤ c
first_room n m c none room = omega arith

-- as many are left of both
pub as_many : (n m n' m' : ℕ) → n ≡ m → n' + 1 ≡ n → m' + 1 ≡ m → n' ≡ m'
as_many n m n' m' same left right = omega arith

-- fewer are left
pub fewer : (n m n' m' : ℕ) → n' + 1 ≡ n → n ≡ m → n' ≡ m' → m' < m
fewer n m n' m' left same same' = omega arith

-- a test of a length says so of the list
pub some_there : (n m l : ℕ) → 0 < n → n ≡ m → m ≡ l → 0 < l
some_there n m l some same same' = omega arith

pub none_left : (n m l : ℕ) → n ≤ 0 → n ≡ m → m ≡ l → l ≤ 0
none_left n m l none same same' = omega arith

pub is_none : (n m : ℕ) → n ≤ 0 → n ≡ m → m ≡ 0
is_none n m none same = omega arith
