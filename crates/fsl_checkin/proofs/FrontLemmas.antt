-- What is written of an item is read again, and what is read was written so.
use Rattle.std.proofs.Common.{◌≡◌, ℕ, suc, ◌+◌, ◌^◌, ◌<◌, ◌≤◌, Bool, true, false, not, cond, List, [], ◌∷◌, ◌++◌, length, take, drop, get_or, Option, Some, None, Ok, Err, Result, refl, sym, ap, subst, ◌∙◌, append_assoc, length-append, length-take, add-one, arith}
use Rattle.std.specs.Prelude.{◌&&◌, ◌==◌, codes, decimal, nat_lt, option_map, position, slice_index}
use Rattle.std.specs.List.{list_all, position_or_len}
use Rattle.std.specs.Str.{bytes_eq}
use Rattle.std.proofs.lemmas.Bool.{eqb-true, false≢true}
use Rattle.std.proofs.lemmas.Bool.Decides.{nat_tests}
use Rattle.std.proofs.lemmas.List.{take-append-drop}
use Rattle.std.proofs.lemmas.Slice.Eq.{bytes_eq-Decides}
use Rattle.std.proofs.lemmas.List.Quantifiers.{position-Some}
use Rattle.std.proofs.Math.Seq.{take-append_seam, drop-append-add, drop-cons, get_or-append_seam}
use Rattle.fsl_order.proofs.Booleans.{first_holds, second_holds}
use Rattle.fsl_text.specs.Bytes.{is_empty}
use Rattle.fsl_text.specs.Decimals.{decimal_of, is_decimal_digit}
use Rattle.fsl_text.proofs.Bytewise.{weaker}
use Rattle.fsl_text.proofs.DecimalTexts.{decimal_is, fits}
use Rattle.fsl_text.specs.declared.fault.DecimalFault.{DecimalFault}
use Rattle.fsl_text.specs.Escapes.{unescape}
use Rattle.fsl_text.specs.Paths.{path_ok}
use Rattle.fsl_card.specs.Cards.{is_argument, is_argument_byte}
use Rattle.fsl_grammar.specs.Forms.{given, ◌>>=◌}
use Rattle.fsl_checkin.specs.declared.types.TreeItem.{TreeItem}
use Rattle.fsl_checkin.specs.declared.types.Perm.{Perm}
use Rattle.fsl_checkin.specs.declared.types.Perm.TheVariants.{Plain, Exec, Symlink}
use Rattle.fsl_checkin.specs.Trees.{IsItemText, item_text, perm_text}
use Rattle.fsl_checkin.specs.Reading.{Head, Parts, content_in, cut, head_in, head_of, parts_in, perm_in, size_as, size_in}

-- ---- cuts

-- a byte stands nowhere in a text
abbrev pub lacks : ℕ → List ℕ → Bool
lacks stop text = list_all (λ b. not (b == stop)) text

not_first : (a b : Bool) → (not a && b) ≡ true → a ≡ false
not_first true b h = absurd cc
not_first false b h = refl

first_at : (stop : ℕ) (text rest : List ℕ) → lacks stop text ≡ true → position_or_len (λ b. b == stop) (text ++ stop ∷ rest) ≡ length text
first_at stop [] rest h = grind (arith, nat_tests)
first_at stop (b ∷ text) rest h =
    rw (not_first (b == stop) (lacks stop text) h, first_at stop text rest (second_holds (not (b == stop)) (lacks stop text) h)) (omega arith)

inside : (stop : ℕ) (text rest : List ℕ) → nat_lt (length text) (length (text ++ stop ∷ rest)) ≡ true
inside stop text rest = grind (arith, nat_tests, length-append)

behind : (stop : ℕ) (text rest : List ℕ) → drop (length text + 1) (text ++ stop ∷ rest) ≡ rest
behind stop text rest = drop-append-add text (stop ∷ rest) 1

pub cut_again : (stop : ℕ) (text rest : List ℕ) → lacks stop text ≡ true → cut stop (text ++ stop ∷ rest) ≡ Some (text, rest)
cut_again stop text rest h = rw (first_at stop text rest h, inside stop text rest, behind stop text rest, take-append_seam text (stop ∷ rest)) refl

pub cut_is : (stop : ℕ) (text : List ℕ) (parts : List ℕ × List ℕ) → cut stop text ≡ Some parts → text ≡ parts.0 ++ stop ∷ parts.1
cut_is stop text parts h = found (position (λ b. b == stop) text) refl h
  where
    split : (k : ℕ) → k < length text → get_or text k 0 ≡ stop → text ≡ take k text ++ stop ∷ drop (k + 1) text
    split k lt is =
        sym (take-append-drop k text)
        ∙ ap (λ (r : List ℕ). take k text ++ r) (drop-cons text k 0 lt ∙ ap (λ (b : ℕ). b ∷ drop (suc k) text) is ∙ ap (λ (n : ℕ). stop ∷ drop n text) (sym (add-one k)))

    found : (o : Option ℕ) → position (λ b. b == stop) text ≡ o → option_map (λ place. (take place text, drop (place + 1) text)) o ≡ Some parts → text ≡ parts.0 ++ stop ∷ parts.1
    found None e h = absurd cc
    found (Some k) e h =
        let at = position-Some (λ b. b == stop) text k 0 e in
        let pair : List ℕ × List ℕ = (take k text, drop (k + 1) text) in
        let same : pair ≡ parts = cc in
        subst (λ (p : List ℕ × List ℕ). text ≡ p.0 ++ stop ∷ p.1) same (split k at.0 (eqb-true (get_or text k 0) stop at.1))

-- ---- sizes

not_true : (b : Bool) → not b ≡ true → b ≡ false
not_true true h = absurd cc
not_true false h = refl

decimal_read : (n : ℕ) → n < 2 ^ 64 → decimal_of (decimal n) ≡ Ok n
decimal_read n h =
    let is = decimal_is n h in
    let some : is_empty (decimal n) ≡ false = not_true (is_empty (decimal n)) (first_holds (not (is_empty (decimal n))) (list_all is_decimal_digit (decimal n)) is.0) in
    let digits : list_all is_decimal_digit (decimal n) ≡ true = second_holds (not (is_empty (decimal n))) (list_all is_decimal_digit (decimal n)) is.0 in
    rw (some, digits, is.1, fits n h) refl

size_again : (n : ℕ) → n < 2 ^ 64 → size_in (decimal n) ≡ Some n
size_again n h =
    ap (size_as (decimal n)) (decimal_read n h) ∙ ap (λ (b : Bool). given b n) ((bytes_eq-Decides (decimal n) (decimal n)).1 refl)

-- what is given was there, and the test held
given_is : {X : Type 0} (b : Bool) (x y : X) → given b x ≡ Some y → (b ≡ true) × (x ≡ y)
given_is true x y h = (refl, cc)
given_is false x y h = absurd cc

size_is : (text : List ℕ) (n : ℕ) → size_in text ≡ Some n → text ≡ decimal n
size_is text n h = by (decimal_of text) h
  where
    by : (r : Result ℕ DecimalFault) → size_as text r ≡ Some n → text ≡ decimal n
    by (Ok m) e =
        let g = given_is (bytes_eq (decimal m) text) m n e in
        sym ((bytes_eq-Decides (decimal m) text).0 g.0) ∙ ap decimal g.1
    by (Err fault) e = absurd cc

-- ---- permissions

perm_again : (p : Perm) → perm_in (perm_text p) ≡ Some p
perm_again Plain = refl
perm_again Exec = refl
perm_again Symlink = refl

perm_is : (text : List ℕ) (p : Perm) → perm_in text ≡ Some p → text ≡ perm_text p
perm_is text p h = by (bytes_eq text (codes "-")) (bytes_eq text (codes "x")) (bytes_eq text (codes "l")) refl refl refl h
  where
    by : (a b c : Bool) → bytes_eq text (codes "-") ≡ a → bytes_eq text (codes "x") ≡ b → bytes_eq text (codes "l") ≡ c
        → cond a (Some Plain) (cond b (Some Exec) (cond c (Some Symlink) None)) ≡ Some p → text ≡ perm_text p
    by true b c ea eb ec e = let is : Plain ≡ p = cc in (bytes_eq-Decides text (codes "-")).0 ea ∙ ap perm_text is
    by false true c ea eb ec e = let is : Exec ≡ p = cc in (bytes_eq-Decides text (codes "x")).0 eb ∙ ap perm_text is
    by false false true ea eb ec e = let is : Symlink ≡ p = cc in (bytes_eq-Decides text (codes "l")).0 ec ∙ ap perm_text is
    by false false false ea eb ec e = absurd cc

-- ---- what stands before the content

digit_apart : (b : ℕ) → is_decimal_digit b ≡ true → not (b == 10) ≡ true
digit_apart b h = grind (arith, h)

argument_apart : (b : ℕ) → is_argument_byte b ≡ true → not (b == 32) ≡ true
argument_apart b h = grind (arith, h)

perm_apart : (p : Perm) → lacks 32 (perm_text p) ≡ true
perm_apart Plain = refl
perm_apart Exec = refl
perm_apart Symlink = refl

decimal_apart : (n : ℕ) → n < 2 ^ 64 → lacks 10 (decimal n) ≡ true
decimal_apart n h = weaker is_decimal_digit (λ b. not (b == 10)) digit_apart (decimal n) (second_holds (not (is_empty (decimal n))) (list_all is_decimal_digit (decimal n)) ((decimal_is n h).0))

written_apart : (written : List ℕ) → is_argument written ≡ true → lacks 32 written ≡ true
written_apart written h = weaker is_argument_byte (λ b. not (b == 32)) argument_apart written (second_holds (not (is_empty written)) (list_all is_argument_byte written) h)

-- the text of what stands before the content, with this behind it
abbrev from_size : ℕ → List ℕ → List ℕ
from_size n rest = decimal n ++ 10 ∷ rest

abbrev from_perm : Perm → ℕ → List ℕ → List ℕ
from_perm p n rest = perm_text p ++ 32 ∷ from_size n rest

abbrev from_path : List ℕ → Perm → ℕ → List ℕ → List ℕ
from_path path p n rest = path ++ 32 ∷ from_perm p n rest

abbrev from_word : List ℕ → Perm → ℕ → List ℕ → List ℕ
from_word path p n rest = codes "add" ++ 32 ∷ from_path path p n rest

-- the steps of its reading
abbrev after_size : List ℕ → List ℕ → List ℕ → List ℕ × List ℕ → Option Head
after_size word path perm size = head_of word path perm (size.0) (size.1)

abbrev after_perm : List ℕ → List ℕ → List ℕ × List ℕ → Option Head
after_perm word path perm = cut 10 (perm.1) >>= after_size word path (perm.0)

abbrev after_path : List ℕ → List ℕ × List ℕ → Option Head
after_path word path = cut 32 (path.1) >>= after_perm word (path.0)

abbrev after_word : List ℕ × List ℕ → Option Head
after_word word = cut 32 (word.1) >>= after_path (word.0)

abbrev step : (List ℕ × List ℕ → Option Head) → Option (List ℕ × List ℕ) → Option Head
step f o = o >>= f

head_again : (path : List ℕ) (p : Perm) (n : ℕ) (rest : List ℕ) → is_argument path ≡ true → n < 2 ^ 64
    → head_in (from_word path p n rest) ≡ Some (record { path = path; perm = p; size = n; rest = rest })
head_again path p n rest h lt =
    ap (step after_word) (cut_again 32 (codes "add") (from_path path p n rest) refl)
    ∙ ap (step (after_path (codes "add"))) (cut_again 32 path (from_perm p n rest) (written_apart path h))
    ∙ ap (step (after_perm (codes "add") path)) (cut_again 32 (perm_text p) (from_size n rest) (perm_apart p))
    ∙ ap (step (after_size (codes "add") path (perm_text p))) (cut_again 10 (decimal n) rest (decimal_apart n lt))
    ∙ rw (h, perm_again p, size_again n lt) refl

bind_is : {X Y : Type 0} (o : Option X) (f : X → Option Y) (y : Y) → (o >>= f) ≡ Some y → (x : X) × (o ≡ Some x) × (f x ≡ Some y)
bind_is None f y h = absurd cc
bind_is (Some x) f y h = (x, refl, h)

abbrev with_size : List ℕ → Perm → List ℕ → ℕ → Option Head
with_size path p rest n = Some (record { path = path; perm = p; size = n; rest = rest })

abbrev with_perm : List ℕ → List ℕ → List ℕ → Perm → Option Head
with_perm path size rest p = size_in size >>= with_size path p rest

abbrev with_path : List ℕ → List ℕ → List ℕ → List ℕ → Option Head
with_path perm size rest path = perm_in perm >>= with_perm path size rest

-- the words of a head are these
record IsHeadOf (a b c d behind : List ℕ) (h : Head) : Type 0 where
  word : a ≡ codes "add"
  path : b ≡ h.path
  argument : is_argument h.path ≡ true
  perm : c ≡ perm_text h.perm
  size : d ≡ decimal h.size
  rest : behind ≡ h.rest

head_of_is : (word path perm size rest : List ℕ) (h : Head) → head_of word path perm size rest ≡ Some h → IsHeadOf word path perm size rest h
head_of_is word path perm size rest h e =
    let one = bind_is (given (bytes_eq word (codes "add") && is_argument path) path) (with_path perm size rest) h e in
    let g = given_is (bytes_eq word (codes "add") && is_argument path) path one.0 one.1 in
    let two = bind_is (perm_in perm) (with_perm one.0 size rest) h one.2 in
    let three = bind_is (size_in size) (with_size one.0 two.0 rest) h two.2 in
    let made : Head = record { path = one.0; perm = two.0; size = three.0; rest = rest } in
    let same : made ≡ h = cc in
    let argument : is_argument one.0 ≡ true = subst (λ (w : List ℕ). is_argument w ≡ true) g.1 (second_holds (bytes_eq word (codes "add")) (is_argument path) g.0) in
    let is : IsHeadOf word path perm size rest made = record {
      word = (bytes_eq-Decides word (codes "add")).0 (first_holds (bytes_eq word (codes "add")) (is_argument path) g.0);
      path = g.1;
      argument = argument;
      perm = perm_is perm two.0 two.1;
      size = size_is size three.0 three.1;
      rest = refl;
    } in
    subst (IsHeadOf word path perm size rest) same is

record IsFrom (text : List ℕ) (h : Head) : Type 0 where
  spelled : text ≡ from_word h.path h.perm h.size h.rest
  argument : is_argument h.path ≡ true

head_is : (text : List ℕ) (h : Head) → head_in text ≡ Some h → IsFrom text h
head_is text h e =
    let one = bind_is (cut 32 text) after_word h e in
    let word = one.0 in
    let two = bind_is (cut 32 (word.1)) (after_path (word.0)) h one.2 in
    let path = two.0 in
    let three = bind_is (cut 32 (path.1)) (after_perm (word.0) (path.0)) h two.2 in
    let perm = three.0 in
    let four = bind_is (cut 10 (perm.1)) (after_size (word.0) (path.0) (perm.0)) h three.2 in
    let size = four.0 in
    let is = head_of_is (word.0) (path.0) (perm.0) (size.0) (size.1) h four.2 in
    let a = cut_is 32 text word one.1 in
    let b = cut_is 32 (word.1) path two.1 in
    let c = cut_is 32 (path.1) perm three.1 in
    let d = cut_is 10 (perm.1) size four.1 in
    record {
      spelled =
          a ∙ ap (λ (w : List ℕ). w ++ 32 ∷ word.1) is.word
          ∙ ap (λ (r : List ℕ). codes "add" ++ 32 ∷ r) (b ∙ ap (λ (w : List ℕ). w ++ 32 ∷ path.1) is.path)
          ∙ ap (λ (r : List ℕ). codes "add" ++ 32 ∷ (h.path ++ 32 ∷ r)) (c ∙ ap (λ (w : List ℕ). w ++ 32 ∷ perm.1) is.perm)
          ∙ ap (λ (r : List ℕ). codes "add" ++ 32 ∷ (h.path ++ 32 ∷ (perm_text h.perm ++ 32 ∷ r)))
          (d ∙ ap (λ (w : List ℕ). w ++ 10 ∷ size.1) is.size ∙ ap (λ (r : List ℕ). decimal h.size ++ 10 ∷ r) is.rest);
      argument = is.argument;
    }

-- ---- items

-- the item of parts with this path
abbrev pub item_of : List ℕ → Parts → TreeItem
item_of path p = record { path = path; perm = p.perm; bytes = p.bytes }

abbrev after_head : Head → Option Parts
after_head head = content_in head.size head.rest >>= λ content. Some (record { path = head.path; perm = head.perm; bytes = content.0; rest = content.1 })

abbrev head_step : Option Head → Option Parts
head_step o = o >>= after_head

content_again : (bytes rest : List ℕ) → content_in (length bytes) (bytes ++ 10 ∷ rest) ≡ Some (bytes, rest)
content_again bytes rest = rw (inside 10 bytes rest, get_or-append_seam bytes 10 rest 0, take-append_seam bytes (10 ∷ rest), behind 10 bytes rest) refl

content_is : (size : ℕ) (text : List ℕ) (parts : List ℕ × List ℕ) → content_in size text ≡ Some parts → (text ≡ parts.0 ++ 10 ∷ parts.1) × (length parts.0 ≡ size)
content_is size text parts e =
    let pair : List ℕ × List ℕ = (take size text, drop (size + 1) text) in
    let g = given_is (nat_lt size (length text) && slice_index text size == 10) pair parts e in
    let lt : size < length text = grind (arith, nat_tests, first_holds (nat_lt size (length text)) (slice_index text size == 10) g.0) in
    let is : get_or text size 0 ≡ 10 = eqb-true (get_or text size 0) 10 (second_holds (nat_lt size (length text)) (slice_index text size == 10) g.0) in
    subst (λ (p : List ℕ × List ℕ). (text ≡ p.0 ++ 10 ∷ p.1) × (length p.0 ≡ size)) g.1 (
      sym (take-append-drop size text)
          ∙ ap (λ (r : List ℕ). take size text ++ r) (drop-cons text size 0 lt ∙ ap (λ (b : ℕ). b ∷ drop (suc size) text) is ∙ ap (λ (n : ℕ). 10 ∷ drop n text) (sym (add-one size))),
      omega (arith, length-take size text),
    )

pub parts_again : (written : List ℕ) (item : TreeItem) (rest : List ℕ) → is_argument written ≡ true → length item.bytes < 2 ^ 64
    → parts_in (item_text written item ++ rest) ≡ Some (record { path = written; perm = item.perm; bytes = item.bytes; rest = rest })
parts_again written item rest h lt =
    ap parts_in regrouped
    ∙ ap head_step (head_again written item.perm (length item.bytes) (item.bytes ++ 10 ∷ rest) h lt)
    ∙ rw (content_again item.bytes rest) refl
  where
    regrouped : item_text written item ++ rest ≡ from_word written item.perm (length item.bytes) (item.bytes ++ 10 ∷ rest)
    regrouped = simp append_assoc

pub record IsPartsOf (text : List ℕ) (p : Parts) : Type 0 where
  pub spelled : (path : List ℕ) → text ≡ item_text p.path (item_of path p) ++ p.rest
  pub argument : is_argument p.path ≡ true

pub parts_is : (text : List ℕ) (p : Parts) → parts_in text ≡ Some p → IsPartsOf text p
parts_is text p e =
    let one = bind_is (head_in text) after_head p e in
    let h = one.0 in
    let head = head_is text h one.1 in
    let two = bind_is (content_in h.size h.rest) (λ content. Some (record { path = h.path; perm = h.perm; bytes = content.0; rest = content.1 })) p one.2 in
    let content = content_is h.size h.rest two.0 two.1 in
    let made : Parts = record { path = h.path; perm = h.perm; bytes = two.0.0; rest = two.0.1 } in
    let same : made ≡ p = cc in
    let regrouped : (path : List ℕ) → from_word h.path h.perm (length two.0.0) (two.0.0 ++ 10 ∷ two.0.1) ≡ item_text h.path (item_of path made) ++ two.0.1 = λ path. simp append_assoc in
    let is : IsPartsOf text made = record {
      spelled = λ path. head.spelled
          ∙ ap (λ (n : ℕ). from_word h.path h.perm n h.rest) (sym content.1)
          ∙ ap (λ (r : List ℕ). from_word h.path h.perm (length two.0.0) r) content.0
          ∙ regrouped path;
      argument = head.argument;
    } in
    subst (IsPartsOf text) same is

content_fits : (text : List ℕ) (written : List ℕ) (item : TreeItem) (more : List ℕ) → text ≡ item_text written item ++ more → length item.bytes ≤ length text
content_fits text written item more e = omega (arith, simp length-append at (ap length e))

-- the parts of an item are read
pub item_again : (text own more : List ℕ) (item : TreeItem) → length text < 2 ^ 64 → (is : IsItemText own item) → text ≡ own ++ more
    → parts_in text ≡ Some (record { path = is.written; perm = item.perm; bytes = item.bytes; rest = more })
item_again text own more item lt is e =
    let whole : text ≡ item_text is.written item ++ more = e ∙ ap (λ (o : List ℕ). o ++ more) is.spelled in
    let fit = content_fits text is.written item more whole in
    ap parts_in whole ∙ parts_again is.written item more is.argument (omega arith)

pub no_item : (text : List ℕ) → length text < 2 ^ 64 → parts_in text ≡ None → (item : TreeItem) (own more : List ℕ) → IsItemText own item → text ≡ own ++ more → ⊥
no_item text lt none item own more is e = let again = item_again text own more item lt is e in absurd cc

pub bad_path : (text path : List ℕ) (p : Parts) → length text < 2 ^ 64 → parts_in text ≡ Some p → path ≡ unescape p.path → path_ok path ≡ false
    → (item : TreeItem) (own more : List ℕ) → IsItemText own item → text ≡ own ++ more → ⊥
bad_path text path p lt found un bad item own more is e =
    let again = item_again text own more item lt is e in
    let one : Parts = record { path = is.written; perm = item.perm; bytes = item.bytes; rest = more } in
    let same : one ≡ p = cc in
    let path_is : path ≡ item.path = un ∙ ap unescape (ap (λ (q : Parts). q.path) (sym same)) ∙ is.stands_for in
    false≢true (sym bad ∙ ap path_ok path_is ∙ is.good)

pub an_item : (text path rest : List ℕ) (item : TreeItem) (p : Parts) → parts_in text ≡ Some p → path ≡ unescape p.path → path_ok path ≡ true
    → item ≡ item_of path p → rest ≡ p.rest → (own : List ℕ) × IsItemText own item × (text ≡ own ++ rest)
an_item text path rest item p found un good item_is rest_is =
    let is = parts_is text p found in
    let own : List ℕ = item_text p.path (item_of path p) in
    let one : IsItemText own (item_of path p) = record { written = p.path; spelled = refl; argument = is.argument; stands_for = sym un; good = good } in
    (own, subst (IsItemText own) (sym item_is) one, is.spelled path ∙ ap (λ (r : List ℕ). own ++ r) (sym rest_is))

-- ---- an item is one

pub record AreSameItems (i j : TreeItem) (x y : List ℕ) : Type 0 where
  pub item : i ≡ j
  pub rest : x ≡ y

pub item_unique : (text a b x y : List ℕ) (i j : TreeItem) → length text < 2 ^ 64 → IsItemText a i → IsItemText b j → text ≡ a ++ x → text ≡ b ++ y → AreSameItems i j x y
item_unique text a b x y i j lt is_i is_j e f =
    let p : Parts = record { path = is_i.written; perm = i.perm; bytes = i.bytes; rest = x } in
    let q : Parts = record { path = is_j.written; perm = j.perm; bytes = j.bytes; rest = y } in
    let one : parts_in text ≡ Some p = item_again text a x i lt is_i e in
    let other : parts_in text ≡ Some q = item_again text b y j lt is_j f in
    let same : p ≡ q = cc in
    let path : i.path ≡ j.path = sym is_i.stands_for ∙ ap (λ (r : Parts). unescape r.path) same ∙ is_j.stands_for in
    record {
      item = ap (λ (w : List ℕ). item_of w p) path ∙ ap (λ (r : Parts). item_of j.path r) same;
      rest = ap (λ (r : Parts). r.rest) same;
    }
