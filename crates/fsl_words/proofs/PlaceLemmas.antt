-- What clap makes of plain words: the first is the repository, the second the command, and the rest are its words.
use Rattle.std.proofs.Common.{◌≡◌, ◌∙◌, ◌≤◌, ◌<◌, ◌&&◌, ◌||◌, not, ℕ, Bool, cond, true, false, refl, sym, ap, ap₂, arith, List, [], ◌∷◌, ◌++◌, length, Option, Some, None, append-nil, append_assoc, codes, true≢false, le-ltb, map, subst, ◌^◌, inl, inr}
use Rattle.std.specs.Prelude.{fold, ◌==◌, option_and_then, is_some, unwrap_or}
use Rattle.std.specs.List.{list_all}
use Rattle.std.specs.Str.{bytes_eq}
use Rattle.clap.specs.Lexer.{usize_max, long_of, long_of_rest, short_of, short_of_rest, strip_byte}
use Rattle.clap.specs.Walk.{Held, Row, Rule, Step, Text, Waiting, Walk, after_step, all_of, arg_by_index, first_of, finished, idle, rows_of, long_or_other, nothing_held, positional, settled, short_or_plain, to_positional, trailing, value, walk, walk_from, walked, word_met}
use Rattle.clap.specs.Simple.{Shape, built, entered, matches_of}
use Rattle.clap.specs.Kinds.{HasKind, Kinds, or_else, range_kinds, values_kinds}
use Rattle.clap.specs.Faults.{defaults_fault, entered_fault, check_fault, other_fault, fault_of, flag_word_fault, settle_fault, step_fault, turn_fault, walk_fault, bundle_fault}
use Rattle.clap.specs.declared.builder.value_parser.ValueParser.TheVariants as vp
use Rattle.clap.specs.declared.builder.value_parser.Reading.TheVariants as reading
use Rattle.clap.specs.declared.parser.matches.ValueSource.TheVariants.{CommandLine}
use Rattle.clap.specs.declared.error.kind.ErrorKind.TheVariants as kind
use Rattle.std.specs.Option.{option_map_or}
use Rattle.clap.proofs.OnLiterals.{clap_on_literals}
use Rattle.clap.proofs.WalkLemmas.{both, first_value-rows, raw_values-rows}
use Rattle.clap.specs.Matches.{found_of}
use Rattle.clap.specs.Values.{kind_of}
use Rattle.clap.specs.declared.error.Error.{Error}
use Rattle.clap.specs.declared.error.kind.ErrorKind.{ErrorKind}
use Rattle.clap.specs.declared.parser.matches.ArgMatches.{ArgMatches}
use Rattle.std.proofs.lemmas.List.{length-map}
use Rattle.fsl_words.specs.Grammar.{is_word}
use Rattle.fsl_words.specs.Places.{HasPlaces, line}

-- the text is no flag and not `--`
pub record IsPlain (word : Text) : Type 0 where
  pub long : long_of word ≡ None
  pub short : short_of word ≡ None
  pub dashes : bytes_eq word (45 ∷ 45 ∷ []) ≡ false

abbrev rules : List Rule
rules = (built line).top.rules

abbrev top : Shape
top = (built line).top

met_idle : (c : List Rule) (position : ℕ) (word : Text) (h : Held) → IsPlain word → word_met c [] false idle position word h ≡ (h, value)
met_idle c position word h p =
    ap (λ b. cond b (h, trailing position) (long_or_other c idle word (long_of word) h)) p.dashes
    ∙ ap (λ o. long_or_other c idle word o h) p.long ∙ ap (λ o. short_or_plain c idle word o h) p.short

met_positional : (c : List Rule) (position : ℕ) (word : Text) (h : Held) → IsPlain word → word_met c [] false positional position word h ≡ (h, value)
met_positional c position word h p =
    ap (λ b. cond b (h, trailing position) (long_or_other c positional word (long_of word) h)) p.dashes
    ∙ ap (λ o. long_or_other c positional word o h) p.long ∙ ap (λ o. short_or_plain c positional word o h) p.short

abbrev at_place : Held → Waiting → ℕ → Walk
at_place h waiting position = record { held = h; waiting = waiting; position = position; is_trailing = false; stopped = None }

step_idle : (c : List Rule) (h : Held) (position : ℕ) (word : Text) → IsPlain word
    → walked c [] (at_place h idle position) word ≡ to_positional c (arg_by_index c position) word (at_place h idle position) h
unfolding walked
step_idle c h position word p = ap (λ (m : Held × Step). after_step c word (at_place h idle position) m.0 m.1) (met_idle c position word h p)

step_positional : (c : List Rule) (h : Held) (position : ℕ) (word : Text) → IsPlain word
    → walked c [] (at_place h positional position) word ≡ to_positional c (arg_by_index c position) word (at_place h positional position) h
unfolding walked
step_positional c h position word p = ap (λ (m : Held × Step). after_step c word (at_place h positional position) m.0 m.1) (met_positional c position word h p)

abbrev row : Text → List Text → Row
row id values = record { id = id; values = values; count = None; source = Some CommandLine; reading = reading.AsWritten }

-- the walk after the repository, after the command, and after further words
abbrev after_one : Text → Walk
after_one r = at_place (record { rows = []; pending = Some (codes "repository", r ∷ []); skip = 0 }) idle 2

abbrev after_two : Text → Text → Walk
after_two r w = at_place (record { rows = row (codes "repository") (r ∷ []) ∷ []; pending = Some (codes "command", w ∷ []); skip = 0 }) idle 3

abbrev after_more : Text → Text → List Text → Walk
after_more r w xs = at_place (record {
  rows = row (codes "repository") (r ∷ []) ∷ row (codes "command") (w ∷ []) ∷ [];
  pending = Some (codes "words", xs);
  skip = 0;
}) positional 3

walked_one : (r : Text) → IsPlain r → walked rules [] (walk_from nothing_held) r ≡ after_one r
walked_one r p = step_idle rules nothing_held 1 r p

walked_two : (r w : Text) → IsPlain w → walked rules [] (after_one r) w ≡ after_two r w
walked_two r w p = step_idle rules (after_one r).held 2 w p

walked_three : (r w x : Text) → IsPlain x → walked rules [] (after_two r w) x ≡ after_more r w (x ∷ [])
walked_three r w x p = step_idle rules (after_two r w).held 3 x p

walked_more : (r w : Text) (seen : List Text) (x : Text) → IsPlain x → walked rules [] (after_more r w seen) x ≡ after_more r w (seen ++ x ∷ [])
walked_more r w seen x p = step_positional rules (after_more r w seen).held 3 x p

-- ---- which texts are plain

tail_of_dash : (x y : ℕ) (ys : List ℕ) (b : Bool) → (x == 45) ≡ b → (bytes_eq (x ∷ y ∷ ys) (45 ∷ []) || not (x == 45)) ≡ true → b ≡ true → ⊥
tail_of_dash x y ys false e h t = true≢false (sym t)
tail_of_dash x y ys true e h t = true≢false (sym h ∙ ap (λ b. (b && false) || not b) e)

plain_first : (x : ℕ) (xs : List ℕ) (b : Bool) → (x == 45) ≡ b → is_word (x ∷ xs) ≡ true → IsPlain (x ∷ xs)
plain_first x xs false e h = record {
  long = ap (λ b. option_and_then long_of_rest (option_and_then (strip_byte 45) (cond b (Some xs) None))) e;
  short = ap (λ b. option_and_then short_of_rest (cond b (Some xs) None)) e;
  dashes = ap (λ b. b && bytes_eq xs (45 ∷ [])) e;
}
plain_first x [] true e h = record {
  long = ap (λ b. option_and_then long_of_rest (option_and_then (strip_byte 45) (cond b (Some []) None))) e;
  short = ap (λ b. option_and_then short_of_rest (cond b (Some []) None)) e;
  dashes = ap (λ b. b && false) e;
}
plain_first x (y ∷ ys) true e h = absurd (tail_of_dash x y ys true e h refl)

plain_word : (word : Text) → is_word word ≡ true → IsPlain word
plain_word [] h = absurd (true≢false (sym h))
plain_word (x ∷ xs) h = plain_first x xs (x == 45) refl h

-- ---- the walk over all words

walk_more : (r w : Text) (seen xs : List Text) → list_all is_word xs ≡ true → fold (walked rules []) (after_more r w seen) xs ≡ after_more r w (seen ++ xs)
walk_more r w seen [] h = ap (after_more r w) (sym (append-nil seen))
walk_more r w seen (x ∷ xs) h =
    ap (λ s. fold (walked rules []) s xs) (walked_more r w seen x (plain_word x (both _ _ h).0))
    ∙ walk_more r w (seen ++ x ∷ []) xs (both _ _ h).1 ∙ ap (after_more r w) (append_assoc seen (x ∷ []) xs)

-- the walk at the end
abbrev after_all : Text → Text → List Text → Walk
after_all r w [] = after_two r w
after_all r w (x ∷ xs) = after_more r w (x ∷ xs)

walk_rest : (r w : Text) (rest : List Text) → list_all is_word rest ≡ true → fold (walked rules []) (after_two r w) rest ≡ after_all r w rest
walk_rest r w [] h = refl
walk_rest r w (x ∷ xs) h = ap (λ s. fold (walked rules []) s xs) (walked_three r w x (plain_word x (both _ _ h).0)) ∙ walk_more r w (x ∷ []) xs (both _ _ h).1

walk_all : (r w : Text) (rest : List Text) → list_all is_word (r ∷ w ∷ rest) ≡ true → walk rules [] nothing_held (r ∷ w ∷ rest) ≡ after_all r w rest
walk_all r w rest h =
    let more = both (is_word w) _ (both (is_word r) _ h).1 in
    ap (λ s. fold (walked rules []) s (w ∷ rest)) (walked_one r (plain_word r (both (is_word r) _ h).0))
    ∙ ap (λ s. fold (walked rules []) s rest) (walked_two r w (plain_word w more.0)) ∙ walk_rest r w rest more.1

-- ---- the matches

rows_all : (r w : Text) (rest : List Text) → list_all is_word (r ∷ w ∷ rest) ≡ true → matches_of line (r ∷ w ∷ rest) ≡ finished rules (after_all r w rest).held
rows_all r w rest h = ap (λ (s : Walk). finished rules s.held) (walk_all r w rest h)

pub repository_found : (r w : Text) (rest : List Text) → list_all is_word (r ∷ w ∷ rest) ≡ true → first_of (codes "repository") (matches_of line (r ∷ w ∷ rest)) ≡ Some r
repository_found r w rest h = ap (first_of (codes "repository")) (rows_all r w rest h) ∙ go rest
  where
    go : (xs : List Text) → first_of (codes "repository") (finished rules (after_all r w xs).held) ≡ Some r
    go [] = refl
    go (x ∷ xs) = refl

pub command_found : (r w : Text) (rest : List Text) → list_all is_word (r ∷ w ∷ rest) ≡ true → first_of (codes "command") (matches_of line (r ∷ w ∷ rest)) ≡ Some w
command_found r w rest h = ap (first_of (codes "command")) (rows_all r w rest h) ∙ go rest
  where
    go : (xs : List Text) → first_of (codes "command") (finished rules (after_all r w xs).held) ≡ Some w
    go [] = refl
    go (x ∷ xs) = refl

pub words_found : (r w : Text) (rest : List Text) → list_all is_word (r ∷ w ∷ rest) ≡ true → unwrap_or (all_of (codes "words") (matches_of line (r ∷ w ∷ rest))) [] ≡ rest
words_found r w rest h = ap (λ (rs : List Row). unwrap_or (all_of (codes "words") rs) []) (rows_all r w rest h) ∙ go rest
  where
    go : (xs : List Text) → unwrap_or (all_of (codes "words") (finished rules (after_all r w xs).held)) [] ≡ xs
    go [] = refl
    go (x ∷ xs) = refl

-- ---- the faults

plain_fault : (word : Text) (h : Held) → IsPlain word → other_fault top None word h ≡ []
plain_fault word h p =
    ap (λ b. cond b [] (flag_word_fault rules top.args_override_self (long_of word) word h)) p.dashes
    ∙ ap (λ o. flag_word_fault rules top.args_override_self o word h) p.long
    ∙ ap (λ o. option_map_or (λ flags. bundle_fault rules top.args_override_self flags h) o []) p.short

turn_idle : (h : Held) (position : ℕ) (word : Text) → IsPlain word → turn_fault top [] (at_place h idle position) word ≡ step_fault top position h value
turn_idle h position word p = ap₂ or_else (plain_fault word h p) (ap (λ (m : Held × Step). step_fault top position m.0 m.1) (met_idle rules position word h p))

turn_positional : (h : Held) (position : ℕ) (word : Text) → IsPlain word → turn_fault top [] (at_place h positional position) word ≡ step_fault top position h value
turn_positional h position word p = ap₂ or_else (plain_fault word h p) (ap (λ (m : Held × Step). step_fault top position m.0 m.1) (met_positional rules position word h p))

next_fault : (w next : Walk) (word : Text) (rest : List Text) → turn_fault top [] w word ≡ [] → walked rules [] w word ≡ next → walk_fault top [] next rest ≡ []
    → walk_fault top [] w (word ∷ rest) ≡ []
unfolding walk_fault
next_fault w next word rest turn step more = ap₂ or_else turn (ap (λ v. walk_fault top [] v rest) step ∙ more)

end_fault : (w : Walk) → walk_fault top [] w [] ≡ []
unfolding walk_fault
end_fault w = refl

fault_more : (r w : Text) (seen xs : List Text) → list_all is_word xs ≡ true → walk_fault top [] (after_more r w seen) xs ≡ []
fault_more r w seen [] h = end_fault (after_more r w seen)
fault_more r w seen (x ∷ xs) h =
    let p = plain_word x (both _ _ h).0 in
    next_fault (after_more r w seen) (after_more r w (seen ++ x ∷ [])) x xs (turn_positional (after_more r w seen).held 3 x p) (walked_more r w seen x p)
    (fault_more r w (seen ++ x ∷ []) xs (both _ _ h).1)

fault_rest : (r w : Text) (rest : List Text) → list_all is_word rest ≡ true → walk_fault top [] (after_two r w) rest ≡ []
fault_rest r w [] h = end_fault (after_two r w)
fault_rest r w (x ∷ xs) h =
    let p = plain_word x (both _ _ h).0 in
    next_fault (after_two r w) (after_more r w (x ∷ [])) x xs (turn_idle (after_two r w).held 3 x p) (walked_three r w x p) (fault_more r w (x ∷ []) xs (both _ _ h).1)

fault_one : (r : Text) (rest : List Text) → is_word r ≡ true → walk_fault top [] (after_one r) rest ≡ [] → walk_fault top [] (walk_from nothing_held) (r ∷ rest) ≡ []
fault_one r rest h more =
    let p = plain_word r h in
    next_fault (walk_from nothing_held) (after_one r) r rest (turn_idle nothing_held 1 r p) (walked_one r p) more

fault_all : (r w : Text) (rest : List Text) → list_all is_word (r ∷ w ∷ rest) ≡ true → walk_fault top [] (walk_from nothing_held) (r ∷ w ∷ rest) ≡ []
fault_all r w rest h =
    let more = both (is_word w) _ (both (is_word r) _ h).1 in
    let p = plain_word w more.0 in
    fault_one r (w ∷ rest) (both (is_word r) _ h).0
    (next_fault (after_one r) (after_two r w) w rest (turn_idle (after_one r).held 2 w p) (walked_two r w p) (fault_rest r w rest more.1))

-- the faults behind the walk
abbrev late_fault : Walk → Kinds
late_fault s = or_else (entered_fault (built line) s.stopped)
    (or_else (settle_fault rules top.args_override_self s.held)
    (or_else (defaults_fault (settled rules s.held).rows rules)
    (check_fault top (finished rules s.held) (is_some (entered (built line) s.stopped)))))

values_fit : (xs : List Text) → values_kinds false vp.String xs ≡ []
values_fit [] = refl
values_fit (x ∷ xs) = values_fit xs

number_fits : (n : ℕ) → n ≤ usize_max → range_kinds 0 usize_max n ≡ []
number_fits n h = ap₂ (λ a b. cond a (kind.TooFewValues ∷ []) (cond b (kind.TooManyValues ∷ []) [])) (le-ltb n 0 (omega arith)) (le-ltb usize_max n h)

late_all : (r w : Text) (rest : List Text) → length rest ≤ usize_max → late_fault (after_all r w rest) ≡ []
unfolding defaults_fault
late_all r w [] h = refl
late_all r w (x ∷ xs) h = ap₂ (λ a b. or_else (or_else a b) []) (number_fits (length (x ∷ xs)) h) (values_fit (x ∷ xs))

-- two words or more are taken
pub taken : (r w : Text) (rest : List Text) → list_all is_word (r ∷ w ∷ rest) ≡ true → length rest ≤ usize_max → fault_of line (r ∷ w ∷ rest) ≡ []
taken r w rest h short = ap₂ (λ k s. or_else k (late_fault s)) (fault_all r w rest h) (walk_all r w rest h) ∙ late_all r w rest short

-- fewer are not
pub refused_none : fault_of line [] ≡ kind.MissingRequiredArgument ∷ []
unfolding clap_on_literals
refused_none = refl

late_one : (r : Text) → late_fault (after_one r) ≡ kind.MissingRequiredArgument ∷ []
unfolding defaults_fault
late_one r = refl

pub refused_one : (r : Text) → is_word r ≡ true → fault_of line (r ∷ []) ≡ kind.MissingRequiredArgument ∷ []
refused_one r h =
    ap₂ (λ k s. or_else k (late_fault s)) (fault_one r [] h (end_fault (after_one r))) (walked_one r (plain_word r h)) ∙ late_one r

-- ---- what the caller knows

no_fault : (k : ErrorKind) → ◌≡◌ {A = Kinds} (k ∷ []) [] → ⊥
no_fault k e = cc

-- words that are taken have their places
pub enough : (words : List Text) (m : ArgMatches) → list_all is_word words ≡ true → fault_of line words ≡ [] → rows_of (found_of m) ≡ matches_of line words → HasPlaces words m
enough [] m h none rows = absurd (no_fault _ (sym refused_none ∙ none))
enough (r ∷ []) m h none rows = absurd (no_fault _ (sym (refused_one r (both (is_word r) _ h).0) ∙ none))
enough (r ∷ w ∷ rest) m h none rows = record {
  repository = r;
  command = w;
  rest = rest;
  whole = refl;
  at_repository = first_value-rows (found_of m) (codes "repository") ∙ ap (first_of (codes "repository")) rows ∙ repository_found r w rest h;
  at_command = first_value-rows (found_of m) (codes "command") ∙ ap (first_of (codes "command")) rows ∙ command_found r w rest h;
  at_words = ap (λ (o : Option (List Text)). unwrap_or o []) (raw_values-rows (found_of m) (codes "words")) ∙ ap (λ (rs : List Row). unwrap_or (all_of (codes "words") rs) []) rows ∙ words_found r w rest h;
}

few : (words : List Text) (e : Error) → list_all is_word words ≡ true → length words < 2 ^ 64 → HasKind (fault_of line words) e → (kind_of e ≡ kind.OutOfMemory → ⊥) → length words < 2
few [] e h fits k other = omega arith
few (r ∷ []) e h fits k other = omega arith
few (r ∷ w ∷ rest) e h fits k other = elim (subst (λ (ks : Kinds). HasKind ks e) (taken r w rest h (omega arith)) k) [
  | inl memory ↦ absurd (other memory)
  | inr none ↦ absurd none
]

-- words that are refused, but not for memory, are fewer than two
pub too_few : {A : Type 0} (f : A → Text) (words : List A) (e : Error) → list_all is_word (map f words) ≡ true → length words < 2 ^ 64 → HasKind (fault_of line (map f words)) e
    → (kind_of e ≡ kind.OutOfMemory → ⊥) → length words < 2
too_few f words e h fits k other = omega (arith, length-map words f, few (map f words) e h (simp length-map fits) k other)
