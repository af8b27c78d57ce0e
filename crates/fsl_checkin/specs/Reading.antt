-- How an item is read at the front of a text.
use Rattle.std.specs.Prelude.{◌≡◌, ℕ, ◌+◌, ◌==◌, ◌&&◌, Bool, true, false, List, [], ◌∷◌, ◌++◌, length, take, drop, position, nat_lt, slice_index, codes, decimal, Option, Some, None, option_map, Result, Ok, Err, if◌then◌else◌}
use Rattle.std.specs.Borrow.{Bor}
use Rattle.std.specs.Str.{bytes_eq}
use Rattle.fsl_order.specs.Names.{is_before}
use Rattle.fsl_text.specs.Decimals.{decimal_of}
use Rattle.fsl_text.specs.declared.fault.DecimalFault.{DecimalFault}
use Rattle.fsl_card.specs.Cards.{is_argument}
use Rattle.fsl_grammar.specs.Forms.{given, ◌>>=◌}
use Rattle.fsl_checkin.specs.declared.types.Perm.{Perm}
use Rattle.fsl_checkin.specs.declared.types.Perm.TheVariants.{Plain, Exec, Symlink}
use Rattle.fsl_checkin.specs.declared.types.TreeItem.{TreeItem}
use Rattle.fsl_checkin.specs.declared.front.Head.{Head as ReadHead}
use Rattle.fsl_checkin.specs.declared.front.Parts.{Parts as ReadParts}
use Rattle.fsl_checkin.specs.declared.front.Front.{Front}
use Rattle.fsl_checkin.specs.Trees.{IsItemText}

-- the bytes before the first such byte, and those behind it
abbrev pub cut : ℕ → List ℕ → Option (List ℕ × List ℕ)
cut stop text = option_map (λ place. (take place text, drop (place + 1) text)) (position (λ b. b == stop) text)

-- the permission that is written so
abbrev pub perm_in : List ℕ → Option Perm
perm_in text =
    if bytes_eq text (codes "-") then Some Plain
    else if bytes_eq text (codes "x") then Some Exec
    else if bytes_eq text (codes "l") then Some Symlink
    else None

-- the size that is written so, without leading zeros
abbrev pub size_as : List ℕ → Result ℕ DecimalFault → Option ℕ
size_as text (Ok size) = given (bytes_eq (decimal size) text) size
size_as text (Err _) = None

abbrev pub size_in : List ℕ → Option ℕ
size_in text = size_as text (decimal_of text)

-- what stands of an item before its content, and what stands behind that
pub record Head : Type 0 where
  pub path : List ℕ
  pub perm : Perm
  pub size : ℕ
  pub rest : List ℕ

abbrev pub as_head : ReadHead → Head
as_head h = record { path = h.path.now; perm = h.perm; size = h.size; rest = h.rest.now }

abbrev pub head_of : List ℕ → List ℕ → List ℕ → List ℕ → List ℕ → Option Head
head_of word path perm size rest =
    given (bytes_eq word (codes "add") && is_argument path) path >>= λ path.
    perm_in perm >>= λ p.
    size_in size >>= λ n.
    Some (record { path = path; perm = p; size = n; rest = rest })

abbrev pub head_in : List ℕ → Option Head
head_in text =
    cut 32 text >>= λ word.
    cut 32 (word.1) >>= λ path.
    cut 32 (path.1) >>= λ perm.
    cut 10 (perm.1) >>= λ size.
    head_of (word.0) (path.0) (perm.0) (size.0) (size.1)

-- so many bytes, where a newline stands behind them, and what stands behind that
abbrev pub content_in : ℕ → List ℕ → Option (List ℕ × List ℕ)
content_in size text = given (nat_lt size (length text) && slice_index text size == 10) (take size text, drop (size + 1) text)

-- the parts of an item, with its path as it is written, and what stands behind it
pub record Parts : Type 0 where
  pub path : List ℕ
  pub perm : Perm
  pub bytes : List ℕ
  pub rest : List ℕ

abbrev pub as_parts : ReadParts → Parts
as_parts p = record { path = p.path.now; perm = p.perm; bytes = p.bytes.now; rest = p.rest.now }

abbrev pub parts_in : List ℕ → Option Parts
parts_in text =
    head_in text >>= λ head.
    content_in head.size head.rest >>= λ content.
    Some (record { path = head.path; perm = head.perm; bytes = content.0; rest = content.1 })

-- an item stands at the front of a text, with this behind it; or none does
abbrev pub IsFront : List ℕ → Option Front → Type 0
IsFront text (Some front) = (own : List ℕ) × IsItemText own front.item × (text ≡ own ++ front.rest.now)
IsFront text None = (item : TreeItem) (own more : List ℕ) → IsItemText own item → text ≡ own ++ more → ⊥

-- whether an item stands behind the last of some by path, if there is one
abbrev pub goes_on : List TreeItem → TreeItem → Bool
goes_on [] next = true
goes_on (last ∷ []) next = is_before last.path next.path
goes_on (_ ∷ item ∷ items) next = goes_on (item ∷ items) next

-- the item at the front of a text was added, with this behind it; or none stands there that goes on with these, which stay
abbrev pub IsAdded : List TreeItem → List TreeItem → List ℕ → Option (Bor (List ℕ)) → Type 0
IsAdded old new text (Some rest) =
    (item : TreeItem) × (own : List ℕ) × IsItemText own item × (text ≡ own ++ rest.now) × (goes_on old item ≡ true) × (new ≡ old ++ item ∷ [])
IsAdded old new text None =
    (new ≡ old) × ((item : TreeItem) (own more : List ℕ) → IsItemText own item → text ≡ own ++ more → goes_on old item ≡ false)
