-- The tables that are filled from facts keep what tables of tags keep.
use mathlib.Core.Bool.{true≢false}
use Rattle.std.proofs.Math.Path.{transport}
use Rattle.std.specs.Prelude.{◌≡◌, ℕ, ◌-◌, ◌<◌, zero, suc, List, [], ◌∷◌, ◌++◌, Bool, true, false, ◌&&◌, not, cond, Option, Some, None, IfSome, is_some, option_and_then, unwrap_or, map}
use Rattle.std.proofs.Common.{refl, sym, ap, ◌∙◌, subst, arith}
use Rattle.std.specs.Str.{bytes_eq}
use Rattle.std.specs.List.{AllByRecursion, IsDistinct}
use Rattle.std.specs.List.Sorted.{IsStrictlySortedBy}
use Rattle.std.specs.Map.{keys_of}
use Rattle.std.specs.Option.{option_map_or}
use Rattle.std.specs.Cmp.Lexicographic.{texts_ties, bytes_decides, nat_list_eq_equiv}
use Rattle.fsl_order.specs.Names.{bytes_cmp}
use Rattle.fsl_order.specs.Rows.{named, by_name}
use Rattle.fsl_order.proofs.NamedLemmas.{named-by_name}
use Rattle.fsl_order.proofs.Orders.{bytes_cmp-IsTotalOrder}
use Rattle.fsl_table.specs.declared.key.Pair.{Pair}
use Rattle.fsl_table.specs.Contents.{value_at}
use Rattle.fsl_table.specs.Exact.{pair_cmp}
use Rattle.fsl_table.specs.Pairs.{is_name}
use Rattle.fsl_table.proofs.Entries.{none_above}
use Rattle.fsl_tags.specs.declared.Fact.{Fact}
use Rattle.fsl_tags.specs.declared.Assertion.{Assertion}
use Rattle.fsl_tags.specs.declared.node.Node.{Node}
use Rattle.fsl_tags.specs.Joined.{joined}
use Rattle.fsl_tags.specs.Climbed.{climbed, row_up}
use Rattle.fsl_tags.specs.Kept.{newest_of}
use Rattle.fsl_tags.specs.Tags.{parent, direct, AreTagFacts}
use Rattle.fsl_tags.specs.Held.{Rows, IsKept, fact_of, facts_of}
use Rattle.fsl_tags.specs.Laid.{Rises, row_in, parent_in, settled, AreFull, AreLaid}
use Rattle.fsl_tags.specs.Laying.{IsGrouped, IsLaying, AreElsewhere, AreAllElsewhere, AreSettled, IsKnown, AreKnown, line, down}
use Rattle.fsl_tags.proofs.Settled.{settled-law}
use Rattle.fsl_tags.proofs.Effective.{parent-is}

-- ---- nothing

pub rises_none : (row : List Assertion) → row ≡ [] → Rises row
unfolding IsStrictlySortedBy
rises_none row none = subst Rises (sym none) tt

pub full_none : (es : List (List ℕ × List Assertion)) → es ≡ [] → AreFull es
unfolding IsStrictlySortedBy
full_none es none = subst AreFull (sym none) (record { ordered = tt; full = λ x. refl })

pub laying_none : (facts : List (List ℕ × Node)) (children : List (Pair × Unit {0})) (own : List (List ℕ × List Assertion)) → facts ≡ [] → children ≡ [] → own ≡ [] → IsLaying facts children own
unfolding IsStrictlySortedBy
laying_none facts children own f c o =
    let laid : AreLaid [] [] [] = record { ordered = tt; pairs = λ k. alone k.second k.first; rise = λ x. tt } in
    let base : IsLaying [] [] [] = record { ordered = tt; sourced = tt; newest = λ x t. refl; laid = laid; full = record { ordered = tt; full = λ x. refl } } in
    transport (λ i. IsLaying (sym f i) (sym c i) (sym o i)) base
  where
    alone : (s : Option (List ℕ)) (p : List ℕ) → false ≡ is_name (option_and_then (parent_in []) s) p
    alone None p = refl
    alone (Some c) p = refl

pub grouped_none : (facts : List (List ℕ × Node)) (children : List (Pair × Unit {0})) (groups : List (List ℕ × List Assertion)) → facts ≡ [] → children ≡ [] → groups ≡ [] → IsGrouped facts children groups
grouped_none facts children groups f c g =
    let laying = laying_none facts children groups f c g in
    record {
      ordered = laying.ordered;
      sourced = laying.sourced;
      newest = λ x t. ap (λ es. newest_of t (row_in es x)) g ∙ ap (λ es. direct (facts_of es) x t) (sym f);
      children_ordered = laying.laid.ordered;
      pairs = laying.laid.pairs;
      full = laying.full;
    }

pub kept_none : (r : Rows) → r.facts.entries ≡ [] → r.children.entries ≡ [] → r.own.entries ≡ [] → r.rows.entries ≡ [] → IsKept r
unfolding IsStrictlySortedBy IsDistinct
kept_none r f c o w =
    let laying = laying_none r.facts.entries r.children.entries r.own.entries f c o in
    record {
      ordered = laying.ordered;
      fit = subst (λ es. AreTagFacts (facts_of es)) (sym f) (record { differ = tt; fit = tt });
      newest = laying.newest;
      right = record {
        laid = laying.laid;
        own_full = laying.full;
        full = full_none r.rows.entries w;
        right = λ x. ap (λ es. row_in es x) w ∙ (λ i. settled (sym f i) (sym o i) x);
      };
    }

-- ---- a fact more

-- nothing is taken out where there is no parent
pub gone_none : (facts : List (List ℕ × Node)) (name : List ℕ) (old : List (Pair × Unit {0})) → value_at bytes_cmp name facts ≡ None → (k : Pair)
    → is_some (value_at pair_cmp k old) ≡ (not (is_name k.second name && is_name (parent_in facts name) k.first) && is_some (value_at pair_cmp k old))
gone_none facts name old none k =
    idle (is_name k.second name) (is_some (value_at pair_cmp k old))
    ∙ ap (λ o. not (is_name k.second name && is_name o k.first) && is_some (value_at pair_cmp k old)) (sym (ap (option_and_then (λ n. n.parent)) none))
  where
    idle : (b s : Bool) → s ≡ (not (b && false) && s)
    idle true s = refl
    idle false s = refl

-- what no fact is named isn't there
pub value_none : (es : List (List ℕ × Node)) (q : List ℕ) → named (λ f. f.name) (facts_of es) q ≡ None → value_at bytes_cmp q es ≡ None
value_none [] q h = refl
value_none (e ∷ es) q h =
    ap (λ b. cond b (Some e.1) (value_at bytes_cmp q es)) (sym (texts_ties q e.0) ∙ nat_list_eq_equiv.symm q e.0)
    ∙ elim (bytes_eq e.0 q) as (λ b. cond b (Some (fact_of e)) (named (λ f. f.name) (facts_of es) q) ≡ None → cond b (Some e.1) (value_at bytes_cmp q es) ≡ None) [
      | true ↦ λ r. cc
      | false ↦ λ r. value_none es q r
    ] h

pub named_none : (fs : List Fact) (q : List ℕ) → AllByRecursion (λ n. bytes_eq q n ≡ false) (map (λ f. f.name) fs) → named (λ f. f.name) fs q ≡ None
named_none [] q all = refl
named_none (f ∷ fs) q all = ap (λ b. cond b (Some f) (named (λ f. f.name) fs q)) (nat_list_eq_equiv.symm f.name q ∙ all.0) ∙ named_none fs q all.1

-- ---- a row from above, or from all names above

pub alone-row : (facts : List (List ℕ × Node)) (own : List (List ℕ × List Assertion)) → ((x : List ℕ) → Rises (row_in own x)) → (x : List ℕ) → parent_in facts x ≡ None → row_in own x ≡ settled facts own x
alone-row facts own rise x none = sym (settled-law facts own rise x ∙ ap (λ o. joined (row_up (settled facts own) o) (row_in own x)) none)

pub below-row : (facts : List (List ℕ × Node)) (own : List (List ℕ × List Assertion)) → ((x : List ℕ) → Rises (row_in own x)) → (x up : List ℕ) (above : List Assertion) → parent_in facts x ≡ Some up → above ≡ settled facts own up
    → joined above (row_in own x) ≡ settled facts own x
below-row facts own rise x up above is right =
    ap (λ r. joined r (row_in own x)) right ∙ sym (settled-law facts own rise x ∙ ap (λ o. joined (row_up (settled facts own) o) (row_in own x)) is)

module _ (par : List ℕ → Option (List ℕ)) (own : List ℕ → List Assertion) where
  pub down-line : (k : ℕ) (x : List ℕ) → down own (line par k x) [] ≡ climbed par own k x
  down-line zero x = refl
  down-line (suc k) x = ap (λ r. joined r (own x)) (above (down-line k) (par x))
    where
      above : ((p : List ℕ) → down own (line par k p) [] ≡ climbed par own k p) → (o : Option (List ℕ)) → down own (option_map_or (line par k) o []) [] ≡ row_up (climbed par own k) o
      above f None = refl
      above f (Some p) = f p

-- the names above a name
abbrev pub above_line : (List ℕ → Option (List ℕ)) → ℕ → List ℕ → List (List ℕ)
above_line par zero x = []
above_line par (suc k) x = option_map_or (line par k) (par x) []

module _ (par : List ℕ → Option (List ℕ)) where
  pub line-first : (k : ℕ) (x : List ℕ) → line par k x ≡ x ∷ above_line par k x
  line-first zero x = refl
  line-first (suc k) x = refl

  pub above-none : (k : ℕ) (x : List ℕ) → par x ≡ None → above_line par k x ≡ []
  above-none zero x none = refl
  above-none (suc k) x none = ap (λ o. option_map_or (line par k) o []) none

  pub above-some : (k : ℕ) (x up : List ℕ) → 0 < k → par x ≡ Some up → above_line par k x ≡ up ∷ above_line par (k - 1) up
  above-some zero x up some is = absurd (omega (arith, some))
  above-some (suc k) x up some is =
      let e : suc k - 1 ≡ k = omega arith in
      ap (λ o. option_map_or (line par k) o []) is ∙ line-first k up ∙ ap (λ n. up ∷ above_line par n up) (sym e)

-- the last name of a line first
pub down-last : (own : List ℕ → List Assertion) (xs : List (List ℕ)) (x : List ℕ) (row : List Assertion) → down own (xs ++ x ∷ []) row ≡ down own xs (joined row (own x))
down-last own [] x row = refl
down-last own (y ∷ xs) x row = ap (λ r. joined r (own y)) (down-last own xs x row)

-- ---- what is worked out

pub settled_none : (facts : List (List ℕ × Node)) (own rows : List (List ℕ × List Assertion)) → rows ≡ [] → AreSettled facts own rows
settled_none facts own rows none = subst (AreSettled facts own) (sym none) (λ x. tt)

-- one row more
pub settled_more : (facts : List (List ℕ × Node)) (own rows then : List (List ℕ × List Assertion)) (name : List ℕ) (row : List Assertion)
    → ((x : List ℕ) → value_at bytes_cmp x then ≡ cond (bytes_eq x name) (Some row) (value_at bytes_cmp x rows)) → row ≡ settled facts own name → AreSettled facts own rows → AreSettled facts own then
settled_more facts own rows then name row put is right x =
    subst (λ o. IfSome o (λ row. row ≡ settled facts own x)) (sym (put x))
    (elim (bytes_eq x name) as (λ b. bytes_eq x name ≡ b → IfSome (cond b (Some row) (value_at bytes_cmp x rows)) (λ row. row ≡ settled facts own x)) [
      | true ↦ λ h. is ∙ ap (settled facts own) (sym ((bytes_decides x name).0 h))
      | false ↦ λ _. right x
    ] refl)

pub known_more : (rows then : List (List ℕ × List Assertion)) (name : List ℕ) (row : List Assertion) → ((x : List ℕ) → value_at bytes_cmp x then ≡ cond (bytes_eq x name) (Some row) (value_at bytes_cmp x rows))
    → (q : List ℕ) → IsKnown rows q → IsKnown then q
known_more rows then name row put q known =
    ap is_some (put q) ∙ elim (bytes_eq q name) as (λ b. is_some (cond b (Some row) (value_at bytes_cmp q rows)) ≡ true) [ true ↦ refl | false ↦ known ]

pub known_there : (rows then : List (List ℕ × List Assertion)) (name : List ℕ) (row : List Assertion) → ((x : List ℕ) → value_at bytes_cmp x then ≡ cond (bytes_eq x name) (Some row) (value_at bytes_cmp x rows)) → IsKnown then name
known_there rows then name row put = ap is_some (put name ∙ ap (λ b. cond b (Some row) (value_at bytes_cmp name rows)) ((bytes_decides name name).1 refl))

pub all_stay : {X : Type 0} (P Q : X → Type 0) → ((x : X) → P x → Q x) → (xs : List X) → AllByRecursion P xs → AllByRecursion Q xs
all_stay P Q f [] all = tt
all_stay P Q f (x ∷ xs) all = (f x all.0, all_stay P Q f xs all.1)

-- a name whose row isn't worked out is none of those whose rows are
other : (rows : List (List ℕ × List Assertion)) (x name : List ℕ) → value_at bytes_cmp x rows ≡ None → IsKnown rows name → bytes_eq x name ≡ false
other rows x name none known =
    elim (bytes_eq x name) as (λ b. bytes_eq x name ≡ b → b ≡ false) [
      | true ↦ λ h. absurd (true≢false (sym known ∙ ap (λ q. is_some (value_at bytes_cmp q rows)) (sym ((bytes_decides x name).0 h)) ∙ ap is_some none))
      | false ↦ λ _. refl
    ] refl

module _ (facts : List (List ℕ × Node)) (own rows : List (List ℕ × List Assertion)) (given : List Fact)
    (is : facts_of facts ≡ by_name (λ f. f.name) given) (rise : (x : List ℕ) → Rises (row_in own x)) (right : AreSettled facts own rows) (all : AllByRecursion (AreKnown rows) given)
    (away : (x : List ℕ) → AreAllElsewhere x given → row_in own x ≡ []) where
  elsewhere : (x : List ℕ) → value_at bytes_cmp x rows ≡ None → AreAllElsewhere x given
  elsewhere x none = all_stay (AreKnown rows) (λ f. AreElsewhere x f.tags) (λ f known. all_stay (λ a. IsKnown rows a.target) (λ a. bytes_eq x a.target ≡ false) (λ a there. other rows x a.target none there) f.tags known.1) given all

  unnamed : (x : List ℕ) → value_at bytes_cmp x rows ≡ None → (fs : List Fact) → AllByRecursion (AreKnown rows) fs → AllByRecursion (λ n. bytes_eq x n ≡ false) (map (λ f. f.name) fs)
  unnamed x none [] all = tt
  unnamed x none (f ∷ fs) all = (other rows x f.name none all.0.0, unnamed x none fs all.1)

  childless : (x : List ℕ) → value_at bytes_cmp x rows ≡ None → parent_in facts x ≡ None
  childless x none =
      sym (parent-is facts x) ∙ ap (λ fs. parent fs x) is
      ∙ ap (option_and_then (λ f. f.parent)) (named-by_name (λ f. f.name) given x ∙ named_none given x (unnamed x none given all))

  pub settled_all : (x : List ℕ) → unwrap_or (value_at bytes_cmp x rows) [] ≡ settled facts own x
  settled_all x =
      elim (value_at bytes_cmp x rows) as (λ o. value_at bytes_cmp x rows ≡ o → IfSome o (λ row. row ≡ settled facts own x) → unwrap_or o [] ≡ settled facts own x) [
        | Some row ↦ λ _ r. r
        | None ↦ λ none _. sym (away x (elsewhere x none)) ∙ alone-row facts own rise x (childless x none)
      ] refl (right x)

-- ---- rows that are moved

-- what was found is found, once the first row has been put
pub kept_next : (left rest rows then : List (List ℕ × List Assertion)) (e : List ℕ × List Assertion) → left ≡ e ∷ rest → IsStrictlySortedBy bytes_cmp (keys_of left)
    → ((x : List ℕ) → row_in then x ≡ cond (bytes_eq x e.0) e.1 (row_in rows x)) → (x : List ℕ) → unwrap_or (value_at bytes_cmp x rest) (row_in then x) ≡ unwrap_or (value_at bytes_cmp x left) (row_in rows x)
unfolding IsStrictlySortedBy
kept_next left rest rows then e cut sorted put x =
    ap (unwrap_or (value_at bytes_cmp x rest)) (put x)
    ∙ elim (bytes_eq x e.0) as (λ b. bytes_eq x e.0 ≡ b → unwrap_or (value_at bytes_cmp x rest) (cond b e.1 (row_in rows x)) ≡ unwrap_or (cond b (Some e.1) (value_at bytes_cmp x rest)) (row_in rows x)) [
      | true ↦ λ h. ap (λ o. unwrap_or o e.1) (ap (λ q. value_at bytes_cmp q rest) ((bytes_decides x e.0).0 h) ∙ none_above bytes_cmp-IsTotalOrder e.0 rest (subst (λ es. IsStrictlySortedBy bytes_cmp (keys_of es)) cut sorted).0)
      | false ↦ λ _. refl
    ] refl
    ∙ ap (λ b. unwrap_or (cond b (Some e.1) (value_at bytes_cmp x rest)) (row_in rows x)) (texts_ties x e.0)
    ∙ ap (λ es. unwrap_or (value_at bytes_cmp x es) (row_in rows x)) (sym cut)

pub sorted_rest : (left rest : List (List ℕ × List Assertion)) (e : List ℕ × List Assertion) → left ≡ e ∷ rest → IsStrictlySortedBy bytes_cmp (keys_of left) → IsStrictlySortedBy bytes_cmp (keys_of rest)
unfolding IsStrictlySortedBy
sorted_rest left rest e cut sorted = (subst (λ es. IsStrictlySortedBy bytes_cmp (keys_of es)) cut sorted).1
