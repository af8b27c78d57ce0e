-- What is noted of artifacts, one artifact more, and counts of lists.
use Rattle.std.proofs.Common.{◌≡◌, ℕ, ◌+◌, zero, suc, ◌<◌, List, [], ◌∷◌, ◌++◌, length, take, get_or, map, Option, Some, None, refl, sym, ap, subst, ◌∙◌, arith}
use Rattle.std.specs.Prelude.{filter_map}
use Rattle.std.specs.List.{cons_option}
use Rattle.std.proofs.lemmas.List.{map-append, append-nil, take_more}
use Rattle.std.proofs.lemmas.List.Elements.{filter_map-append}
use Rattle.fsl_query.specs.declared.Note.{Note}
use Rattle.fsl_query.specs.declared.Note.TheVariants as note
use Rattle.fsl_query.specs.Summary.{checkin_in, id_in, post_in}

module _ {Y E X : Type 0} (h : E → Option X) (shows : Y → E) where
  more : (ys : List Y) (y : Y) → filter_map h (map shows (ys ++ y ∷ [])) ≡ filter_map h (map shows ys) ++ cons_option (h (shows y)) []
  more ys y = ap (λ (es : List E). filter_map h es) (map-append shows ys (y ∷ [])) ∙ filter_map-append h (map shows ys) (shows y ∷ [])

  -- one that gives something
  pub one_noted : (ys : List Y) (y : Y) (x : X) (xs : List X) → xs ≡ filter_map h (map shows ys) → h (shows y) ≡ Some x → xs ++ x ∷ [] ≡ filter_map h (map shows (ys ++ y ∷ []))
  one_noted ys y x xs before is =
      sym (more ys y ∙ ap (λ (o : Option X). filter_map h (map shows ys) ++ cons_option o []) is ∙ ap (λ (zs : List X). zs ++ x ∷ []) (sym before))

  -- one that gives nothing
  pub none_noted : (ys : List Y) (y : Y) (xs : List X) → xs ≡ filter_map h (map shows ys) → h (shows y) ≡ None → xs ≡ filter_map h (map shows (ys ++ y ∷ []))
  none_noted ys y xs before is =
      before ∙ sym (more ys y ∙ ap (λ (o : Option X). filter_map h (map shows ys) ++ cons_option o []) is ∙ append-nil (filter_map h (map shows ys)))

-- what the items up to one give
pub given_front : {Y X : Type 0} (h : Y → Option X) (ys : List Y) (i : ℕ) (y : Y) → i < length ys → y ≡ get_or ys i y → filter_map h (take (i + 1) ys) ≡ filter_map h (take i ys) ++ cons_option (h y) []
given_front {Y} h ys i y lt is =
    ap (λ (zs : List Y). filter_map h zs) (take_more ys i y lt) ∙ filter_map-append h (take i ys) (get_or ys i y ∷ [])
    ∙ ap (λ (z : Y). filter_map h (take i ys) ++ cons_option (h z) []) (sym is)

-- ---- the kinds

pub checkin_is : (name : List ℕ) (n : Note) → n ≡ note.Checkin → checkin_in (name, n) ≡ Some name
checkin_is name n is = ap (λ (m : Note). checkin_in (name, m)) is

pub checkin_not : (name : List ℕ) (n : Note) → (n ≡ note.Checkin → ⊥) → checkin_in (name, n) ≡ None
checkin_not name note.Checkin other = absurd (other refl)
checkin_not name (note.Ticket id) other = refl
checkin_not name note.Post other = refl
checkin_not name note.Other other = refl

pub id_is : (name id : List ℕ) (n : Note) → n ≡ note.Ticket id → id_in (name, n) ≡ Some id
id_is name id n is = ap (λ (m : Note). id_in (name, m)) is

pub id_not : (name : List ℕ) (n : Note) → ((id : List ℕ) → n ≡ note.Ticket id → ⊥) → id_in (name, n) ≡ None
id_not name note.Checkin other = refl
id_not name (note.Ticket id) other = absurd (other id refl)
id_not name note.Post other = refl
id_not name note.Other other = refl

pub post_is : (name : List ℕ) (n : Note) → n ≡ note.Post → post_in (name, n) ≡ Some name
post_is name n is = ap (λ (m : Note). post_in (name, m)) is

pub post_not : (name : List ℕ) (n : Note) → (n ≡ note.Post → ⊥) → post_in (name, n) ≡ None
post_not name note.Checkin other = refl
post_not name (note.Ticket id) other = refl
post_not name note.Post other = absurd (other refl)
post_not name note.Other other = refl

-- ---- counts

all_taken : {X : Type 0} (n : ℕ) (xs : List X) → length (take n xs) < n → take n xs ≡ xs
all_taken zero xs short = absurd (omega arith)
all_taken (suc n) [] short = refl
all_taken (suc n) (x ∷ xs) short = ap (λ ys. x ∷ ys) (all_taken n xs (omega arith))

-- a front that is shorter than was asked for is all
pub rows_counted : {X : Type 0} (n k : ℕ) (front xs : List X) → front ≡ take n xs → k ≡ length front → k < n → k ≡ length xs
rows_counted n k front xs is count short =
    let taken : k ≡ length (take n xs) = count ∙ ap (λ ys. length ys) is in
    let all : take n xs ≡ xs = all_taken n xs (subst (λ (m : ℕ). m < n) taken short) in
    taken ∙ ap (λ ys. length ys) all

pub rows_whole : {X : Type 0} (n k : ℕ) (front xs : List X) → front ≡ take n xs → k ≡ length front → k < n → front ≡ xs
rows_whole n k front xs is count short =
    let taken : k ≡ length (take n xs) = count ∙ ap (λ ys. length ys) is in
    is ∙ all_taken n xs (subst (λ (m : ℕ). m < n) taken short)
