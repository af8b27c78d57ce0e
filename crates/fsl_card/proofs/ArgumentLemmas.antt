-- Facts on the arguments of a line.
use Rattle.std.proofs.Common.{◌≡◌, ℕ, suc, ◌+◌, ◌<◌, ◌≤◌, Bool, true, false, cond, eqb, List, [], ◌∷◌, ◌++◌, length, take, drop, Some, None, refl, sym, ap, subst, ◌∙◌, append_assoc, arith}
use Rattle.std.specs.Prelude.{◌||◌, not, position}
use Rattle.std.specs.List.{list_all, position_or_len}
use Rattle.std.proofs.lemmas.Bool.{both_ways, not-true, ltb-false, eqb-true, eqb-false, ne_eqb, or_right, false≢true}
use Rattle.std.proofs.lemmas.List.{append-nil, drop-drop, length-take-le, take-append-drop}
use Rattle.std.proofs.lemmas.List.Concat.{flat_map-append}
use Rattle.std.proofs.lemmas.List.Folds.{list_all-append}
use Rattle.std.proofs.lemmas.List.Sums.{prefix_len-le-length}
use Rattle.fsl_order.proofs.Booleans.{first_holds, second_holds}
use Rattle.fsl_text.specs.Bytes.{is_empty}
use Rattle.fsl_card.specs.Cards.{is_argument, is_argument_byte, are_arguments, are_field_arguments}
use Rattle.fsl_card.specs.Parts.{AreArgumentsTo, IsRun, arguments_text, argument_length, next_argument, some_length, stops}
use Rattle.fsl_card.proofs.ReadAgain.{clean, clean-from_arguments, clean_by}

-- ---- the first byte that can't stand in an argument

-- a place that is found is the length of what stands before it
pub length_found : (p : ℕ → Bool) (xs : List ℕ) (n : ℕ) → Some n ≡ position p xs → n ≡ position_or_len p xs
length_found p xs n e = inside _ n _ e
  where
    inside : (t : Bool) (n k : ℕ) → Some n ≡ cond t (Some k) None → n ≡ k
    inside true n k e = cc
    inside false n k e = absurd cc

-- where no place is found nothing stops
pub length_whole : (p : ℕ → Bool) (xs : List ℕ) → None ≡ position p xs → length xs ≡ position_or_len p xs
length_whole p xs e =
    let over : length xs ≤ position_or_len p xs = ltb-false (position_or_len p xs) (length xs) (inside _ _ e) in
    let under : position_or_len p xs ≤ length xs = prefix_len-le-length (λ b. not (p b)) xs in
    omega arith
  where
    inside : (t : Bool) (k : ℕ) → None ≡ cond t (Some k) None → t ≡ false
    inside true k e = absurd cc
    inside false k e = refl

-- ---- texts that are cut where a byte stops an argument

no_byte : (c : ℕ) (x y : List ℕ) → is_argument_byte c ≡ true → stops x ≡ true → x ≡ c ∷ y → ⊥
no_byte c x y byte stop e =
    let P : List ℕ → Type 0 = λ t. stops t ≡ true in
    both_ways (is_argument_byte c) (not-true (is_argument_byte c) (subst P e stop)) byte

record AreSame (a b x y : List ℕ) : Type 0 where
  first : a ≡ b
  rest : x ≡ y

cut_unique : (a b x y : List ℕ) → list_all is_argument_byte a ≡ true → list_all is_argument_byte b ≡ true
    → stops x ≡ true → stops y ≡ true → a ++ x ≡ b ++ y → AreSame a b x y
cut_unique [] [] x y ha hb sx sy e = record { first = refl; rest = e }
cut_unique [] (c ∷ b) x y ha hb sx sy e = absurd (no_byte c x (b ++ y) (first_holds _ _ hb) sx e)
cut_unique (c ∷ a) [] x y ha hb sx sy e = absurd (no_byte c y (a ++ x) (first_holds _ _ ha) sy (sym e))
cut_unique (c ∷ a) (d ∷ b) x y ha hb sx sy e =
    let head : c ≡ d = cc in
    let tail : a ++ x ≡ b ++ y = cc in
    let more = cut_unique a b x y (second_holds _ _ ha) (second_holds _ _ hb) sx sy tail in
    record { first = ap (λ (h : ℕ). h ∷ a) head ∙ ap (λ (t : List ℕ). d ∷ t) more.first; rest = more.rest }

stops_behind : (args : List (List ℕ)) (rest : List ℕ) → stops rest ≡ true → stops (arguments_text args ++ rest) ≡ true
stops_behind [] rest h = h
stops_behind (arg ∷ args) rest h = refl

-- arguments with a newline behind them go on where other arguments with the same text end
pub record GoesOn (xs ys : List (List ℕ)) (rest more : List ℕ) : Type 0 where
  pub others : List (List ℕ)
  pub are : ys ≡ xs ++ others
  pub rest_is : rest ≡ arguments_text others ++ 10 ∷ more

pub goes_on : (xs ys : List (List ℕ)) (rest more : List ℕ) → clean xs ≡ true → clean ys ≡ true → (is_empty xs || stops rest) ≡ true
    → arguments_text xs ++ rest ≡ arguments_text ys ++ 10 ∷ more → GoesOn xs ys rest more
goes_on [] ys rest more cx cy whole e = record { others = ys; are = refl; rest_is = e }
goes_on (x ∷ xs) [] rest more cx cy whole e = absurd (let n : ◌≡◌ {A = ℕ} 32 10 = cc in omega arith)
goes_on (x ∷ xs) (y ∷ ys) rest more cx cy whole e =
    let tail : (x ++ arguments_text xs) ++ rest ≡ (y ++ arguments_text ys) ++ 10 ∷ more = cc in
    let cut : x ++ (arguments_text xs ++ rest) ≡ y ++ (arguments_text ys ++ 10 ∷ more) = sym (append_assoc x (arguments_text xs) rest) ∙ tail ∙ append_assoc y (arguments_text ys) (10 ∷ more) in
    let same = cut_unique x y (arguments_text xs ++ rest) (arguments_text ys ++ 10 ∷ more) (first_holds _ _ cx) (first_holds _ _ cy)
    (stops_behind xs rest whole) (stops_behind ys (10 ∷ more) refl) cut in
    let ih = goes_on xs ys rest more (second_holds _ _ cx) (second_holds _ _ cy) (or_right (is_empty xs) (stops rest) whole) same.rest in
    record {
      others = ih.others;
      are = ap (λ (h : List ℕ). h ∷ ys) (sym same.first) ∙ ap (λ (t : List (List ℕ)). x ∷ t) ih.are;
      rest_is = ih.rest_is;
    }

-- two lists of arguments with a newline behind them are the same where their texts are
pub record AreSameArguments (xs ys : List (List ℕ)) (a b : List ℕ) : Type 0 where
  pub args : xs ≡ ys
  pub rest : a ≡ b

pub arguments_unique : (letter : ℕ) (xs ys : List (List ℕ)) (a b : List ℕ) → are_arguments letter xs ≡ true → are_arguments letter ys ≡ true
    → arguments_text xs ++ 10 ∷ a ≡ arguments_text ys ++ 10 ∷ b → AreSameArguments xs ys a b
arguments_unique letter xs ys a b hx hy e =
    let on = goes_on xs ys (10 ∷ a) b (clean_by (eqb letter 74) xs hx) (clean_by (eqb letter 74) ys hy) (or_right (is_empty xs) true refl) e in
    inside on.others on.are on.rest_is
  where
    inside : (others : List (List ℕ)) → ys ≡ xs ++ others → 10 ∷ a ≡ arguments_text others ++ 10 ∷ b → AreSameArguments xs ys a b
    inside [] are rest = record { args = sym (are ∙ append-nil xs); rest = cc }
    inside (o ∷ others) are rest = absurd (let n : ◌≡◌ {A = ℕ} 10 32 = cc in omega arith)

-- ---- what a card's letter allows

pub fields-from_arguments : (args : List (List ℕ)) → list_all is_argument args ≡ true → are_field_arguments args ≡ true
fields-from_arguments [] h = refl
fields-from_arguments (a ∷ []) h = h
fields-from_arguments (a ∷ [] ∷ []) h = first_holds (is_argument a) _ h
fields-from_arguments (a ∷ (b ∷ bs) ∷ []) h = h
fields-from_arguments (a ∷ [] ∷ c ∷ cs) h = h
fields-from_arguments (a ∷ (b ∷ bs) ∷ c ∷ cs) h = h

pub are_arguments-from_all : (letter : ℕ) (args : List (List ℕ)) → list_all is_argument args ≡ true → are_arguments letter args ≡ true
are_arguments-from_all letter args h = inside (eqb letter 74)
  where
    inside : (t : Bool) → cond t (are_field_arguments args) (list_all is_argument args) ≡ true
    inside true = fields-from_arguments args h
    inside false = h

-- a field without a value
pub are_arguments-field : (letter : ℕ) (args : List (List ℕ)) → letter ≡ 74 → length args ≡ 1 → list_all is_argument args ≡ true → are_arguments letter (args ++ [] ∷ []) ≡ true
are_arguments-field letter args e one h = let P : ℕ → Type 0 = λ l. are_arguments l (args ++ [] ∷ []) ≡ true in subst P (sym e) (inside args one h)
  where
    inside : (args : List (List ℕ)) → length args ≡ 1 → list_all is_argument args ≡ true → are_field_arguments (args ++ [] ∷ []) ≡ true
    inside [] one h = absurd (omega arith)
    inside (a ∷ []) one h = first_holds (is_argument a) true h
    inside (a ∷ b ∷ args) one h = absurd (omega arith)

-- where an empty argument stands
pub record IsField (letter : ℕ) (args others : List (List ℕ)) : Type 0 where
  pub letter_is : letter ≡ 74
  pub one : length args ≡ 1
  pub last : others ≡ []

no_empty : (args others : List (List ℕ)) → list_all is_argument (args ++ [] ∷ others) ≡ true → ⊥
no_empty [] others h = false≢true h
no_empty (a ∷ args) others h = no_empty args others (second_holds (is_argument a) _ h)

field_here : (letter : ℕ) (args others : List (List ℕ)) → letter ≡ 74 → list_all is_argument args ≡ true → are_field_arguments (args ++ [] ∷ others) ≡ true → IsField letter args others
field_here letter [] [] e h f = absurd (false≢true f)
field_here letter [] ([] ∷ []) e h f = absurd (false≢true f)
field_here letter [] ((b ∷ bs) ∷ []) e h f = absurd (false≢true f)
field_here letter [] ([] ∷ c ∷ cs) e h f = absurd (false≢true f)
field_here letter [] ((b ∷ bs) ∷ c ∷ cs) e h f = absurd (false≢true f)
field_here letter (a ∷ []) [] e h f = record { letter_is = e; one = refl; last = refl }
field_here letter (a ∷ []) (c ∷ cs) e h f = absurd (no_empty (a ∷ []) (c ∷ cs) f)
field_here letter (a ∷ [] ∷ args) others e h f = absurd (no_empty (a ∷ []) args h)
field_here letter (a ∷ (b ∷ bs) ∷ []) others e h f = absurd (no_empty (a ∷ (b ∷ bs) ∷ []) others f)
field_here letter (a ∷ (b ∷ bs) ∷ c ∷ args) others e h f = absurd (no_empty (a ∷ (b ∷ bs) ∷ c ∷ args) others f)

pub field_by : (letter : ℕ) (args others : List (List ℕ)) → list_all is_argument args ≡ true → are_arguments letter (args ++ [] ∷ others) ≡ true → IsField letter args others
field_by letter args others h f = inside (eqb letter 74) refl f
  where
    inside : (t : Bool) → eqb letter 74 ≡ t → cond t (are_field_arguments (args ++ [] ∷ others)) (list_all is_argument (args ++ [] ∷ others)) ≡ true → IsField letter args others
    inside true e g = field_here letter args others (eqb-true letter 74 e) h g
    inside false e g = absurd (no_empty args others g)

-- ---- a line without arguments

-- another argument would have been found
next_found : (arg rest more : List ℕ) → is_argument arg ≡ true → rest ≡ 32 ∷ (arg ++ more) → next_argument rest ≡ None → ⊥
next_found [] rest more h e none = false≢true h
next_found (b ∷ arg) rest more h e none =
    let byte : is_argument_byte b ≡ true = first_holds _ (list_all is_argument_byte arg) h in
    let P : List ℕ → Type 0 = λ t. next_argument t ≡ None in
    let found : next_argument (32 ∷ b ∷ (arg ++ more)) ≡ None = subst P e none in
    inside (is_argument_byte b) (argument_length (arg ++ more)) byte found
  where
    inside : (t : Bool) (n : ℕ) → t ≡ true → some_length (cond (not (not t)) (1 + n) 0) ≡ None → ⊥
    inside true n h e = let some : eqb (1 + n) 0 ≡ false = ne_eqb (1 + n) 0 (λ z. omega arith) in let f = rw some at e in cc
    inside false n h e = false≢true h

pub no_arguments : (letter : ℕ) (text : List ℕ) (list : List (List ℕ)) (rest : List ℕ) → AreArgumentsTo text list rest → next_argument rest ≡ None
    → ((more : List ℕ) → rest ≡ 10 ∷ more → ⊥)
    → ((more : List ℕ) → letter ≡ 74 → length list ≡ 1 → rest ≡ 32 ∷ 10 ∷ more → ⊥)
    → (args : List (List ℕ)) (more : List ℕ) → are_arguments letter args ≡ true → text ≡ arguments_text args ++ 10 ∷ more → ⊥
no_arguments letter text list rest read ends no_line no_field args more h e =
    let on = goes_on list args rest more (clean-from_arguments list read.each) (clean_by (eqb letter 74) args h) read.whole (sym read.spelled ∙ e) in
    let P : List (List ℕ) → Type 0 = λ l. are_arguments letter l ≡ true in
    inside on.others (subst P on.are h) on.rest_is
  where
    inside : (others : List (List ℕ)) → are_arguments letter (list ++ others) ≡ true → rest ≡ arguments_text others ++ 10 ∷ more → ⊥
    inside [] f e = no_line more e
    inside ([] ∷ others) f e =
        let field = field_by letter list others read.each f in
        no_field more field.letter_is field.one (e ∙ ap (λ (l : List (List ℕ)). 32 ∷ (arguments_text l ++ 10 ∷ more)) field.last)
    inside ((b ∷ arg) ∷ others) f e =
        next_found (b ∷ arg) rest (arguments_text others ++ 10 ∷ more) (argument_in list (b ∷ arg) others (clean_by (eqb letter 74) (list ++ (b ∷ arg) ∷ others) f))
        (e ∙ ap (λ (t : List ℕ). 32 ∷ t) (append_assoc (b ∷ arg) (arguments_text others) (10 ∷ more))) ends
      where
        argument_in : (list : List (List ℕ)) (arg : List ℕ) (others : List (List ℕ)) → clean (list ++ arg ∷ others) ≡ true → list_all is_argument_byte arg ≡ true
        argument_in [] arg others h = first_holds _ _ h
        argument_in (l ∷ list) arg others h = argument_in list arg others (second_holds (list_all is_argument_byte l) _ h)

-- ---- a line with one more argument

record IsCut (text : List ℕ) : Type 0 where
  before : list_all is_argument_byte (take (argument_length text) text) ≡ true
  behind : stops (drop (argument_length text) text) ≡ true

cut_at : (text : List ℕ) → IsCut text
cut_at [] = record { before = refl; behind = refl }
cut_at (b ∷ text) = by (cut_at text) (is_argument_byte b) refl
  where
    by : IsCut text → (t : Bool) → is_argument_byte b ≡ t → IsCut (b ∷ text)
    by ih true e =
        let len : argument_length (b ∷ text) ≡ suc (argument_length text) = rw e (omega arith) in
        let P : ℕ → Type 0 = λ n. list_all is_argument_byte (take n (b ∷ text)) ≡ true in
        let Q : ℕ → Type 0 = λ n. stops (drop n (b ∷ text)) ≡ true in
        record { before = subst P (sym len) (rw (e, ih.before) refl); behind = subst Q (sym len) ih.behind }
    by ih false e =
        let len : argument_length (b ∷ text) ≡ 0 = rw e refl in
        let P : ℕ → Type 0 = λ n. list_all is_argument_byte (take n (b ∷ text)) ≡ true in
        let Q : ℕ → Type 0 = λ n. stops (drop n (b ∷ text)) ≡ true in
        record { before = subst P (sym len) refl; behind = subst Q (sym len) (rw e refl) }

-- a text begins with a space and an argument of n bytes
pub record IsNext (text : List ℕ) (n : ℕ) : Type 0 where
  pub within : n + 1 ≤ length text
  pub some : is_argument (take n (drop 1 text)) ≡ true
  pub is : text ≡ 32 ∷ (take n (drop 1 text) ++ drop n (drop 1 text))
  pub stop : stops (drop n (drop 1 text)) ≡ true

some_bytes : (xs : List ℕ) → 0 < length xs → not (is_empty xs) ≡ true
some_bytes [] h = absurd (omega arith)
some_bytes (x ∷ xs) h = refl

record IsSomeLength (n k : ℕ) : Type 0 where
  is : n ≡ k
  some : 0 < n

is_length : (n k : ℕ) → Some n ≡ some_length k → IsSomeLength n k
is_length n k e = inside (eqb k 0) refl e
  where
    inside : (t : Bool) → eqb k 0 ≡ t → Some n ≡ cond t None (Some k) → IsSomeLength n k
    inside true h f = absurd cc
    inside false h f = let same : n ≡ k = cc in record { is = same; some = let ne : k ≡ 0 → ⊥ = eqb-false k 0 h in omega arith }

pub next_here : (text : List ℕ) (n : ℕ) → Some n ≡ next_argument text → IsNext text n
next_here [] n e = absurd cc
next_here (b ∷ rest) n e = by (eqb b 32) refl e
  where
    by : (t : Bool) → eqb b 32 ≡ t → Some n ≡ cond t (some_length (argument_length rest)) None → IsNext (b ∷ rest) n
    by false h f = absurd cc
    by true h f =
        let long = is_length n (argument_length rest) f in
        let cut = cut_at rest in
        let under : argument_length rest ≤ length rest = prefix_len-le-length (λ x. not (not (is_argument_byte x))) rest in
        let same : n ≡ argument_length rest = long.is in
        let some : 0 < n = long.some in
        let taken : length (take n rest) ≡ n = length-take-le n rest (omega arith) in
        let P : ℕ → Type 0 = λ k. list_all is_argument_byte (take k rest) ≡ true in
        let Q : ℕ → Type 0 = λ k. stops (drop k rest) ≡ true in
        record {
          within = omega arith;
          some = rw (some_bytes (take n rest) (omega arith), subst P (sym same) cut.before) refl;
          is = ap (λ (h : ℕ). h ∷ rest) (eqb-true b 32 h) ∙ ap (λ (t : List ℕ). 32 ∷ t) (sym (take-append-drop n rest));
          stop = subst Q (sym same) cut.behind;
        }

pub run_more : (text : List ℕ) (list more : List (List ℕ)) (rest arg : List ℕ) (n : ℕ) → AreArgumentsTo text list rest → Some n ≡ next_argument rest
    → arg ≡ take n (drop 1 rest) → more ≡ list ++ arg ∷ [] → AreArgumentsTo text more (drop n (drop 1 rest))
run_more text list more rest arg n read found is_arg is_more =
    let next = next_here rest n found in
    let P : List (List ℕ) → Type 0 = λ l. AreArgumentsTo text l (drop n (drop 1 rest)) in
    let here : is_argument arg ≡ true = ap is_argument is_arg ∙ next.some in
    subst P (sym is_more) (record {
      each = list_all-append is_argument list (arg ∷ []) ∙ rw (read.each, here) refl;
      spelled =
          read.spelled
          ∙ ap (λ (r : List ℕ). arguments_text list ++ r) (next.is ∙ ap (λ (a : List ℕ). 32 ∷ (a ++ drop n (drop 1 rest))) (sym is_arg))
          ∙ sym (append_assoc (arguments_text list) (32 ∷ arg) (drop n (drop 1 rest)))
          ∙ ap (λ (l : List ℕ). l ++ drop n (drop 1 rest)) (ap (λ (r : List ℕ). arguments_text list ++ (32 ∷ r)) (sym (append-nil arg)) ∙ sym (flat_map-append (λ a. 32 ∷ a) list (arg ∷ [])));
      whole = or_right (is_empty (list ++ arg ∷ [])) (stops (drop n (drop 1 rest))) next.stop;
    })

-- ---- a whole line

pub line_ends : (text : List ℕ) (list : List (List ℕ)) (taken : ℕ) → IsRun text list taken → drop taken text ≡ 10 ∷ drop 1 (drop taken text)
    → text ≡ arguments_text list ++ 10 ∷ drop (taken + 1) text
line_ends text list taken run e = run.read.spelled ∙ ap (λ (r : List ℕ). arguments_text list ++ r) (e ∙ ap (λ (r : List ℕ). 10 ∷ r) (drop-drop 1 taken text))

pub field_ends : (text : List ℕ) (list more : List (List ℕ)) (taken : ℕ) → IsRun text list taken → drop taken text ≡ 32 ∷ 10 ∷ drop 2 (drop taken text)
    → more ≡ list ++ [] ∷ [] → text ≡ arguments_text more ++ 10 ∷ drop (taken + 2) text
field_ends text list more taken run e is =
    run.read.spelled ∙ ap (λ (r : List ℕ). arguments_text list ++ r) (e ∙ ap (λ (r : List ℕ). 32 ∷ 10 ∷ r) (drop-drop 2 taken text))
    ∙ sym (append_assoc (arguments_text list) (32 ∷ []) (10 ∷ drop (taken + 2) text))
    ∙ ap (λ (l : List ℕ). l ++ 10 ∷ drop (taken + 2) text) (sym (flat_map-append (λ a. 32 ∷ a) list ([] ∷ [])) ∙ ap arguments_text (sym is))
