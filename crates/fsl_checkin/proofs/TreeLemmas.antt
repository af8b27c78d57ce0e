-- A tree's items, one more at a time.
use Rattle.std.proofs.Common.{◌≡◌, ℕ, ◌+◌, Bool, true, false, List, [], ◌∷◌, ◌++◌, length, refl, sym, ap, subst, ◌∙◌, append_assoc}
use Rattle.std.specs.Prelude.{◌&&◌, ◌≢◌, flat_map}
use Rattle.std.specs.List.{AllZip}
use Rattle.std.proofs.lemmas.Bool.{false≢true}
use Rattle.std.proofs.lemmas.List.{append-nil}
use Rattle.std.proofs.lemmas.List.Concat.{flat_map-append}
use Rattle.fsl_order.proofs.Booleans.{and_true, second_holds}
use Rattle.fsl_order.specs.Names.{is_before}
use Rattle.fsl_order.specs.Rows.{rises}
use Rattle.fsl_checkin.specs.declared.types.TreeItem.{TreeItem}
use Rattle.fsl_checkin.specs.Trees.{IsBadItem, IsItemText, IsTreeText, paths}
use Rattle.fsl_checkin.specs.Reading.{goes_on}

pub goes_on-last : (items : List TreeItem) (last next : TreeItem) → goes_on (items ++ last ∷ []) next ≡ is_before last.path next.path
goes_on-last [] last next = refl
goes_on-last (a ∷ []) last next = refl
goes_on-last (a ∷ b ∷ items) last next = goes_on-last (b ∷ items) last next

and_assoc : (a b c : Bool) → (a && (b && c)) ≡ ((a && b) && c)
and_assoc true b c = refl
and_assoc false b c = refl

pub rises-push : (items : List TreeItem) (next : TreeItem) → rises (paths (items ++ next ∷ [])) ≡ (rises (paths items) && goes_on items next)
rises-push [] next = refl
rises-push (a ∷ []) next = and_true (is_before a.path next.path)
rises-push (a ∷ b ∷ items) next =
    ap (λ (t : Bool). is_before a.path b.path && t) (rises-push (b ∷ items) next) ∙ and_assoc (is_before a.path b.path) (rises (paths (b ∷ items))) (goes_on (b ∷ items) next)

-- the items stand at the front of a text, with a rest behind them
pub record IsReadTo (text : List ℕ) (items : List TreeItem) (rest : List ℕ) : Type 0 where
  pub front : List ℕ
  pub split : text ≡ front ++ rest
  pub read : IsTreeText front items

all_zip_push : (parts : List (List ℕ)) (items : List TreeItem) (own : List ℕ) (item : TreeItem) → AllZip IsItemText parts items → IsItemText own item
    → AllZip IsItemText (parts ++ own ∷ []) (items ++ item ∷ [])
all_zip_push [] [] own item all is = (is, tt)
all_zip_push [] (j ∷ items) own item all is = absurd all
all_zip_push (p ∷ parts) [] own item all is = absurd all
all_zip_push (p ∷ parts) (j ∷ items) own item all is = (all.0, all_zip_push parts items own item all.1 is)

pub read_none : (text : List ℕ) → IsReadTo text [] text
read_none text = record { front = []; split = refl; read = record { parts = []; spelled = refl; each = tt; rising = refl } }

pub read_more : (text rest behind own : List ℕ) (items more : List TreeItem) (item : TreeItem) → IsReadTo text items rest → IsItemText own item → rest ≡ own ++ behind
    → goes_on items item ≡ true → more ≡ items ++ item ∷ [] → IsReadTo text more behind
read_more text rest behind own items more item to is e goes m =
    subst (λ (l : List TreeItem). IsReadTo text l behind) (sym m) (record {
      front = to.front ++ own;
      split = to.split ∙ ap (λ (r : List ℕ). to.front ++ r) e ∙ sym (append_assoc to.front own behind);
      read = record {
        parts = to.read.parts ++ own ∷ [];
        spelled = ap (λ (f : List ℕ). f ++ own) to.read.spelled ∙ spelled;
        each = all_zip_push to.read.parts items own item to.read.each is;
        rising = rises-push items item ∙ rw (to.read.rising, goes) refl;
      };
    })
  where
    spelled : flat_map (λ (part : List ℕ). part) to.read.parts ++ own ≡ flat_map (λ (part : List ℕ). part) (to.read.parts ++ own ∷ [])
    spelled = ap (λ (o : List ℕ). flat_map (λ (part : List ℕ). part) to.read.parts ++ o) (sym (append-nil own)) ∙ sym (flat_map-append (λ (part : List ℕ). part) to.read.parts (own ∷ []))

pub all_read : (text rest : List ℕ) (items : List TreeItem) → IsReadTo text items rest → rest ≡ [] → IsTreeText text items
all_read text rest items to none =
    let whole : text ≡ to.front = to.split ∙ ap (λ (r : List ℕ). to.front ++ r) none ∙ append-nil to.front in
    subst (λ (t : List ℕ). IsTreeText t items) (sym whole) to.read

pub bad_item : (text rest : List ℕ) (items : List TreeItem) (number : ℕ) → IsReadTo text items rest → rest ≢ [] → number ≡ length items + 1
    → ((item : TreeItem) (own more : List ℕ) → IsItemText own item → rest ≡ own ++ more → goes_on items item ≡ false) → IsBadItem text number
bad_item text rest items number to some count none = record {
  items = items;
  front = to.front;
  rest = rest;
  split = to.split;
  read = to.read;
  count = count;
  some = some;
  none = λ item own more e is rising. false≢true (sym (none item own more is e) ∙ second_holds (rises (paths items)) (goes_on items item) (sym (rises-push items item) ∙ rising));
}
