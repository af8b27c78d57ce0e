-- Which rows differ where a row is put, put in the place of another, or taken out.
use Rattle.std.proofs.Common.{zero, suc, ◌≡◌, ◌≢◌, ℕ, List, [], ◌∷◌, Bool, true, false, cond, not, ◌||◌, ◌&&◌, if◌then◌else◌, Option, Some, None, is_some, refl, sym, ap, subst, ◌∙◌}
use mathlib.Core.Bool.{true≢false}
use Rattle.std.specs.Bool.{MatchBool, ◌==◌}
use Rattle.std.specs.Option.{option_map}
use Rattle.std.specs.Cmp.{nat_eq_equiv}
use Rattle.std.proofs.lemmas.Bool.{eqb-true}
use Rattle.std.specs.Str.{bytes_eq}
use Rattle.std.specs.List.Sorted.{IsStrictlySortedBy}
use Rattle.std.specs.Map.{keys_of}
use Rattle.std.specs.Cmp.Lexicographic.{bytes_decides, nat_list_eq_equiv}
use Rattle.fsl_order.specs.Names.{bytes_cmp, has}
use Rattle.fsl_order.specs.Rows.{ListsChanged}
use Rattle.fsl_order.proofs.Booleans.{first_holds, second_holds}
use Rattle.fsl_table.specs.Contents.{value_at, with_entry, without_key}
use Rattle.fsl_table.proofs.Facts.{named-facts}
use Rattle.fsl_table.proofs.Finding.{value-with, value-without}
use Rattle.fsl_timeline.specs.declared.Row.{Row}
use Rattle.fsl_timeline.specs.declared.RowKind.{RowKind}
use Rattle.fsl_timeline.specs.declared.RowKind.TheVariants.{Checkin, Wiki, Ticket, Note, Forum, Tag}
use Rattle.fsl_timeline.specs.declared.entry.Entry.{Entry}
use Rattle.fsl_timeline.specs.Timeline.{timeline_row}
use Rattle.fsl_timeline.specs.Kept.{Lines, entry_of, row_of, rows_of, row_at, kind_number, is_same, stands}

pub row_is : (es : Lines) (q : List ℕ) → timeline_row (rows_of es) q ≡ row_at es q
row_is es q = named-facts row_of (λ r. r.name) (λ e. refl) es q

-- ---- when a row is an entry

kind_of : ℕ → RowKind
kind_of zero = Checkin
kind_of (suc zero) = Wiki
kind_of (suc (suc zero)) = Ticket
kind_of (suc (suc (suc zero))) = Note
kind_of (suc (suc (suc (suc zero)))) = Forum
kind_of (suc (suc (suc (suc (suc n))))) = Tag

kind_back : (k : RowKind) → kind_of (kind_number k) ≡ k
unfolding kind_of
kind_back Checkin = refl
kind_back Wiki = refl
kind_back Ticket = refl
kind_back Note = refl
kind_back Forum = refl
kind_back Tag = refl

same_kind : (a b : RowKind) → (kind_number a == kind_number b) ≡ true → a ≡ b
same_kind a b h = sym (kind_back a) ∙ ap kind_of (eqb-true (kind_number a) (kind_number b) h) ∙ kind_back b

eqb-itself : (n : ℕ) → (n == n) ≡ true
eqb-itself n = nat_eq_equiv.refl n

same_row : (e : Entry) (row : Row) → is_same e row ≡ true → row_of (row.name, e) ≡ row
same_row e row h =
    let head = first_holds ((e.time == row.time) && (kind_number e.kind == kind_number row.kind)) (bytes_eq e.user row.user && bytes_eq e.text row.text) h in
    let tail = second_holds ((e.time == row.time) && (kind_number e.kind == kind_number row.kind)) (bytes_eq e.user row.user && bytes_eq e.text row.text) h in
    let time : e.time ≡ row.time = eqb-true e.time row.time (first_holds (e.time == row.time) (kind_number e.kind == kind_number row.kind) head) in
    let kind : e.kind ≡ row.kind = same_kind e.kind row.kind (second_holds (e.time == row.time) (kind_number e.kind == kind_number row.kind) head) in
    let user : e.user ≡ row.user = (bytes_decides e.user row.user).0 (first_holds (bytes_eq e.user row.user) (bytes_eq e.text row.text) tail) in
    let text : e.text ≡ row.text = (bytes_decides e.text row.text).0 (second_holds (bytes_eq e.user row.user) (bytes_eq e.text row.text) tail) in
    λ i. record { time = time i; name = row.name; kind = kind i; user = user i; text = text i }

same_itself : (row : Row) → is_same (entry_of row) row ≡ true
same_itself row = λ i. (eqb-itself row.time i && eqb-itself (kind_number row.kind) i) && (nat_list_eq_equiv.refl row.user i && nat_list_eq_equiv.refl row.text i)

some_of : Option Row → Row → Row
some_of None d = d
some_of (Some r) d = r

pub stands_true : (o : Option Entry) (row : Row) → stands o row ≡ true → option_map (λ e. row_of (row.name, e)) o ≡ Some row
stands_true None row h = absurd (true≢false (sym h))
stands_true (Some e) row h = ap Some (same_row e row h)

pub stands_false : (o : Option Entry) (row : Row) → stands o row ≡ false → option_map (λ e. row_of (row.name, e)) o ≢ Some row
unfolding some_of
stands_false None row h e = cc
stands_false (Some x) row h e =
    let same : row_of (row.name, x) ≡ row = ap (λ o. some_of o row) e in
    true≢false (sym (ap (λ r. is_same (entry_of r) row) same ∙ same_itself row) ∙ h)

-- ---- the one name

one_has : (name q : List ℕ) (w : Bool) → has (if w then name ∷ [] else []) q ≡ (w && bytes_eq q name)
one_has name q true = elim (bytes_eq q name) as (λ b. (b || false) ≡ b) [ true ↦ refl | false ↦ refl ]
one_has name q false = refl

one_rises : (name : List ℕ) (w : Bool) → IsStrictlySortedBy bytes_cmp (if w then name ∷ [] else [])
unfolding IsStrictlySortedBy
one_rises name true = (tt, tt)
one_rises name false = tt

-- where the rows of other names stay, the list of the name is right
module _ (es fs : Lines) (name : List ℕ) (other : (q : List ℕ) → bytes_eq q name ≡ false → row_at es q ≡ row_at fs q) where
  abbrev Differ : List ℕ → Bool → Type 0
  Differ q b = MatchBool b (timeline_row (rows_of es) q ≢ timeline_row (rows_of fs) q) (timeline_row (rows_of es) q ≡ timeline_row (rows_of fs) q)

  rows_stay : (q : List ℕ) → row_at es q ≡ row_at fs q → timeline_row (rows_of es) q ≡ timeline_row (rows_of fs) q
  rows_stay q h = row_is es q ∙ h ∙ sym (row_is fs q)

  by : (w : Bool) → MatchBool w (row_at es name ≢ row_at fs name) (row_at es name ≡ row_at fs name) → (q : List ℕ) (b : Bool) → bytes_eq q name ≡ b → Differ q (w && b)
  by true own q true h =
      let same : q ≡ name = (bytes_decides q name).0 h in
      λ e. own (ap (row_at es) (sym same) ∙ sym (row_is es q) ∙ e ∙ row_is fs q ∙ ap (row_at fs) same)
  by false own q true h =
      let same : q ≡ name = (bytes_decides q name).0 h in
      rows_stay q (ap (row_at es) same ∙ own ∙ ap (row_at fs) (sym same))
  by true own q false h = rows_stay q (other q h)
  by false own q false h = rows_stay q (other q h)

  pub lists_one : (w : Bool) → MatchBool w (row_at es name ≢ row_at fs name) (row_at es name ≡ row_at fs name) → ListsChanged (timeline_row (rows_of es)) (timeline_row (rows_of fs)) (if w then name ∷ [] else [])
  lists_one w own = record {
    rising = one_rises name w;
    differ = λ q. subst (Differ q) (sym (one_has name q w)) (by w own q (bytes_eq q name) refl);
  }

-- a row put: other names stay, and its own is there then
pub other_with : (es : Lines) (name : List ℕ) (e : Entry) (q : List ℕ) → bytes_eq q name ≡ false → row_at es q ≡ row_at (with_entry bytes_cmp name e es) q
other_with es name e q h = ap (option_map (λ e. row_of (q, e))) (sym (value-with name e es q ∙ ap (λ b. cond b (Some e) (value_at bytes_cmp q es)) h))

pub own_with : (es : Lines) (name : List ℕ) (e : Entry) → row_at (with_entry bytes_cmp name e es) name ≡ Some (row_of (name, e))
own_with es name e = ap (option_map (λ e. row_of (name, e))) (value-with name e es name ∙ ap (λ b. cond b (Some e) (value_at bytes_cmp name es)) (nat_list_eq_equiv.refl name))

pub other_without : (es : Lines) (name : List ℕ) → IsStrictlySortedBy bytes_cmp (keys_of es) → (q : List ℕ) → bytes_eq q name ≡ false → row_at es q ≡ row_at (without_key bytes_cmp name es) q
other_without es name sorted q h = ap (option_map (λ e. row_of (q, e))) (sym (value-without name es sorted q ∙ ap (λ b. cond b None (value_at bytes_cmp q es)) h))

pub own_without : (es : Lines) (name : List ℕ) → IsStrictlySortedBy bytes_cmp (keys_of es) → row_at (without_key bytes_cmp name es) name ≡ None
own_without es name sorted = ap (option_map (λ e. row_of (name, e))) (value-without name es sorted name ∙ ap (λ b. cond b None (value_at bytes_cmp name es)) (nat_list_eq_equiv.refl name))

pub none_some : (o : Option Row) (row : Row) → o ≡ None → o ≢ Some row
none_some None row h e = cc
none_some (Some r) row h e = cc

pub there_none : (o : Option Entry) (name : List ℕ) → is_some o ≡ true → option_map (λ e. row_of (name, e)) o ≢ None
there_none None name h e = true≢false (sym h)
there_none (Some x) name h e = cc

-- whether the row that is put differs from the one that stands
pub own_other : (es : Lines) (row : Row) (s : Bool) → s ≡ stands (value_at bytes_cmp row.name es) row
    → MatchBool (not s) (row_at es row.name ≢ row_at (with_entry bytes_cmp row.name (entry_of row) es) row.name) (row_at es row.name ≡ row_at (with_entry bytes_cmp row.name (entry_of row) es) row.name)
own_other es row true s = stands_true (value_at bytes_cmp row.name es) row (sym s) ∙ sym (own_with es row.name (entry_of row))
own_other es row false s = λ e. stands_false (value_at bytes_cmp row.name es) row (sym s) (e ∙ own_with es row.name (entry_of row))
