-- Pairs of ids and of what belongs to them, one item more.
use Rattle.std.proofs.Common.{◌≡◌, ◌≤◌, ℕ, true, false, cond, not, ◌&&◌, length, List, [], ◌∷◌, Bool, Ok, Err, Option, Some, None, refl, sym, ap, ◌∙◌, subst}
use Rattle.std.specs.Prelude.{◌||◌, ◌==◌, filter_map, option_map}
use Rattle.std.specs.List.{list_any, list_all, cons_option, position_or_len}
use Rattle.std.specs.List.Sorted.{IsStrictlySortedBy}
use Rattle.fsl_name.specs.Name.{name_in, name_read, is_name_digit, bytes_of_digits}
use Rattle.fsl_name.specs.declared.NameFault.{NameFault}
use Rattle.fsl_name.specs.declared.NameFault.TheVariants.{Length, Digit}
use Rattle.fsl_table.specs.Contents.{Contents, value_at}
use Rattle.fsl_table.specs.Exact.{pair_cmp, exact_pair}
use Rattle.fsl_table.specs.Undo.{Undoes}
use Rattle.fsl_table.specs.declared.key.Pair.{Pair}
use Rattle.fsl_table.specs.declared.step.Step.{Step}
use Rattle.fsl_table.proofs.Finding.{same_found, same_units}
use Rattle.fsl_table.proofs.PairOrder.{pair_cmp-IsTotalOrder}
use Rattle.fsl_table.proofs.Leading.{leads_back}
use Rattle.fsl_cross.specs.Attached.{pair_of, is_pair, is_pair_of, AreOrdered, ArePairs, TakesBack}

or-assoc : (a b c : Bool) → ((a || b) || c) ≡ (b || (a || c))
or-assoc true true c = refl
or-assoc true false c = refl
or-assoc false b c = refl

-- the pair of the next item, of those that are left
pub pair-next : {X : Type 0} (give : X → Option Pair) (k : Pair) (item : X) (name : List ℕ) (id : Option (List ℕ)) (left rest all : List X) (now next : Bool) → give item ≡ option_map (pair_of name) id
    → next ≡ (is_pair_of k id name || now) → left ≡ item ∷ rest
    → (now || list_any (is_pair k) (filter_map give left)) ≡ list_any (is_pair k) (filter_map give all) → (next || list_any (is_pair k) (filter_map give rest)) ≡ list_any (is_pair k) (filter_map give all)
pair-next give k item name id left rest all now next is put cut so =
    ap (λ b. b || list_any (is_pair k) (filter_map give rest)) put
    ∙ by id is ∙ ap (λ l. now || list_any (is_pair k) (filter_map give l)) (sym cut) ∙ so
  where
    by : (o : Option (List ℕ)) → give item ≡ option_map (pair_of name) o → ((is_pair_of k o name || now) || list_any (is_pair k) (filter_map give rest)) ≡ (now || list_any (is_pair k) (cons_option (give item) (filter_map give rest)))
    by None e = ap (λ o. now || list_any (is_pair k) (cons_option o (filter_map give rest))) (sym e)
    by (Some p) e = or-assoc (is_pair k (pair_of name p)) now (list_any (is_pair k) (filter_map give rest)) ∙ ap (λ o. now || list_any (is_pair k) (cons_option o (filter_map give rest))) (sym e)

pub none-ordered : (es : List (Pair × Unit {0})) → es ≡ [] → AreOrdered es
unfolding IsStrictlySortedBy
none-ordered es e = subst AreOrdered (sym e) tt

-- the pairs determine the entries
pub same_pairs : (ps : List Pair) (es fs : List (Pair × Unit {0})) → ArePairs ps es → ArePairs ps fs → es ≡ fs
same_pairs ps es fs e f =
    same_found pair_cmp pair_cmp-IsTotalOrder exact_pair es fs e.ordered f.ordered (λ k. same_units (value_at pair_cmp k es) (value_at pair_cmp k fs) (e.there k ∙ sym (f.there k)))

-- a log that takes the table back from a state does so from each with the same pairs and no less room
pub takes_back : (log : List (Step Pair (Unit {0}))) (ps qs : List Pair) (before after now : Contents Pair (Unit {0})) → ArePairs ps before.entries → ArePairs qs after.entries → ArePairs qs now.entries
    → after.spare ≤ now.spare → Undoes pair_cmp log after before → TakesBack log ps before.spare now
takes_back log ps qs before after now b a n room undoes =
    let back = leads_back pair_cmp log before after now (same_pairs qs now.entries after.entries n a) room undoes in
    record {
      can = back.can;
      pairs = subst (ArePairs ps) (sym back.good.entries) b;
      spare = back.good.spare;
    }

-- a text that can't be read as a name is none
pub read-none : (text : List ℕ) (fault : NameFault) → name_read text ≡ Err fault → None ≡ name_in text
read-none text fault e = by (length text == 40) (list_all is_name_digit text) (Length (length text)) (Digit (position_or_len (λ c. not (is_name_digit c)) text)) (bytes_of_digits text) e
  where
    by : (a b : Bool) (x y : NameFault) (name : List ℕ) → cond (not a) (Err x) (cond (not b) (Err y) (Ok name)) ≡ Err fault → None ≡ cond (a && b) (Some name) None
    by true true x y name h = cc
    by true false x y name h = refl
    by false b x y name h = refl

pub read-some : (text name : List ℕ) → name_read text ≡ Ok name → Some name ≡ name_in text
read-some text name e = by (length text == 40) (list_all is_name_digit text) (Length (length text)) (Digit (position_or_len (λ c. not (is_name_digit c)) text)) (bytes_of_digits text) e
  where
    by : (a b : Bool) (x y : NameFault) (found : List ℕ) → cond (not a) (Err x) (cond (not b) (Err y) (Ok found)) ≡ Ok name → Some name ≡ cond (a && b) (Some found) None
    by true true x y found h = cc
    by true false x y found h = cc
    by false b x y found h = cc
