-- The newest under each key: one more, what a map keeps of it, and what is told of a map.
use Rattle.std.proofs.Common.{◌≡◌, ℕ, true, false, cond, List, [], ◌∷◌, ◌++◌, map, Option, Some, None, refl, sym, ap, ◌∙◌}
use Rattle.std.specs.Prelude.{◌||◌, filter_map, flat_map, is_some, if◌then◌else◌}
use Rattle.std.specs.BTreeMap.{is_at}
use Rattle.std.specs.List.{AllByRecursion, IsDistinct, cons_option, list_any}
use Rattle.std.specs.List.Sorted.{IsStrictlySortedBy}
use Rattle.std.specs.Map.{keys_of}
use Rattle.std.specs.Option.{option_map_or}
use Rattle.std.specs.Ordering.{eq_by_cmp, is_lt}
use Rattle.std.specs.Cmp.{eq_by_cmp_equiv}
use Rattle.std.specs.Cmp.Lexicographic.{texts_ties, nat_list_eq_equiv, bytes_decides}
use Rattle.std.specs.Str.{bytes_eq}
use Rattle.std.proofs.lemmas.List.Elements.{filter_map-append}
use Rattle.std.proofs.lemmas.Map.Keys.{IsDistinct-from_sorted}
use Rattle.std.proofs.lemmas.Map.Made.{is_some-lookup}
use Rattle.fsl_order.specs.Maps.{value_at}
use Rattle.fsl_order.specs.Names.{bytes_cmp, dated_cmp, has}
use Rattle.fsl_order.specs.Rows.{greater, greatest}
use Rattle.fsl_order.proofs.GreatestLemmas.{greater-none, greatest-append}
use Rattle.fsl_order.proofs.Orders.{bytes_cmp-IsTotalOrder, dated_cmp-IsTotalOrder}
use Rattle.fsl_order.proofs.SortedLemmas.{ascending-from}
use Rattle.fsl_query.specs.Gathering.{Takes}
use Rattle.fsl_query.specs.Listings.{keys_in, newest, of_each, under}

abbrev pub Dated : Type 0
Dated = List ℕ × (ℕ × List ℕ)

-- ---- one more

newest_more : (xs : List Dated) (e : Dated) (q : List ℕ) → newest (xs ++ e ∷ []) q ≡ greater dated_cmp (newest xs q) (greatest dated_cmp (cons_option (under q e) []))
newest_more xs e q =
    ap (greatest dated_cmp) (filter_map-append (under q) xs (e ∷ []))
    ∙ greatest-append dated_cmp dated_cmp-IsTotalOrder (filter_map (under q) xs) (cons_option (under q e) [])

-- a map that keeps the newest of some, and takes one more, keeps the newest of these and of it
pub taken : (xs : List Dated) (e : Dated) (old new : List Dated) → ((q : List ℕ) → value_at old q ≡ newest xs q) → Takes old new e → (q : List ℕ) → value_at new q ≡ newest (xs ++ e ∷ []) q
taken xs e old new before takes q =
    takes q
    ∙ ap (λ o. cond (bytes_eq e.0 q) (greater dated_cmp o (Some e.1)) o) (before q)
    ∙ elim (bytes_eq e.0 q) as (λ b. cond b (greater dated_cmp (newest xs q) (Some e.1)) (newest xs q) ≡ greater dated_cmp (newest xs q) (greatest dated_cmp (cons_option (if b then Some e.1 else None) []))) [
      | true ↦ refl
      | false ↦ sym (greater-none dated_cmp dated_cmp-IsTotalOrder (newest xs q))
    ]
    ∙ sym (newest_more xs e q)

-- ---- what is written under a key

-- it is newer than what was there, and is written
pub written_newer : (old new : List Dated) (key text : List ℕ) (one : ℕ × List ℕ) → text ≡ key → option_map_or (λ k. is_lt (dated_cmp k one)) (value_at old text) true ≡ true
    → ((q : List ℕ) → value_at new q ≡ cond (is_at (bytes_cmp text) q) (Some one) (value_at old q)) → Takes old new (key, one)
written_newer old new key text one own newer written q =
    written q
    ∙ ap (λ t. cond (is_at (bytes_cmp t) q) (Some one) (value_at old q)) own
    ∙ ap (λ b. cond b (Some one) (value_at old q)) (sym (texts_ties key q))
    ∙ elim (bytes_eq key q) as (λ b. bytes_eq key q ≡ b → cond b (Some one) (value_at old q) ≡ cond b (greater dated_cmp (value_at old q) (Some one)) (value_at old q)) [
      | true ↦ λ e. comes (value_at old q) (sym (ap (λ t. option_map_or (λ k. is_lt (dated_cmp k one)) (value_at old t) true) (own ∙ (bytes_decides key q).0 e)) ∙ newer)
      | false ↦ λ _. refl
    ] refl
  where
    comes : (o : Option (ℕ × List ℕ)) → option_map_or (λ k. is_lt (dated_cmp k one)) o true ≡ true → Some one ≡ greater dated_cmp o (Some one)
    comes None e = refl
    comes (Some k) e = ap (λ b. Some (if b then one else k)) (sym e)

-- ---- maps as lists

told-same : (f g : List ℕ → List ℕ) (keys : List (List ℕ)) → AllByRecursion (λ q. f q ≡ g q) keys → flat_map f keys ≡ flat_map g keys
told-same f g [] same = refl
told-same f g (q ∷ keys) same = λ i. same.0 i ++ told-same f g keys same.1 i

module _ {X : Type 0} where
  elsewhere : (e : List ℕ × X) (es : List (List ℕ × X)) (tell : List ℕ → X → List ℕ) (keys : List (List ℕ)) → AllByRecursion (λ q. eq_by_cmp bytes_cmp e.0 q ≡ false) keys
      → AllByRecursion (λ q. option_map_or (tell q) (value_at (e ∷ es) q) [] ≡ option_map_or (tell q) (value_at es q) []) keys
  elsewhere e es tell [] apart = tt
  elsewhere e es tell (q ∷ keys) apart =
      (ap (λ b. option_map_or (tell q) (cond b (Some e.1) (value_at es q)) []) ((eq_by_cmp_equiv bytes_cmp-IsTotalOrder).symm q e.0 ∙ apart.0), elsewhere e es tell keys apart.1)

  -- what is told of the entries is told of the keys
  told_each : (tell : List ℕ → X → List ℕ) (es : List (List ℕ × X)) → IsDistinct (eq_by_cmp bytes_cmp) (keys_of es)
      → flat_map (λ q. option_map_or (tell q) (value_at es q) []) (keys_of es) ≡ flat_map (λ e. tell e.0 e.1) es
  unfolding IsDistinct
  told_each tell [] d = refl
  told_each tell (e ∷ es) d =
      ap (λ b. option_map_or (tell e.0) (cond b (Some e.1) (value_at es e.0)) [] ++ flat_map (λ q. option_map_or (tell q) (value_at (e ∷ es) q) []) (keys_of es)) ((eq_by_cmp_equiv bytes_cmp-IsTotalOrder).refl e.0)
      ∙ ap (λ l. tell e.0 e.1 ++ l) (told-same (λ q. option_map_or (tell q) (value_at (e ∷ es) q) []) (λ q. option_map_or (tell q) (value_at es q) []) (keys_of es) (elsewhere e es tell (keys_of es) d.0) ∙ told_each tell es d.1)

  has-keys : (es : List (List ℕ × X)) (q : List ℕ) → has (keys_of es) q ≡ is_some (value_at es q)
  has-keys es q = (λ i. list_any (λ k. texts_ties q k i) (keys_of es)) ∙ sym (is_some-lookup (eq_by_cmp bytes_cmp q) es)

  keys-told : (f : List ℕ → List ℕ) (es : List (List ℕ × X)) → flat_map (λ e. f e.0) es ≡ flat_map f (keys_of es)
  keys-told f [] = refl
  keys-told f (e ∷ es) = ap (λ l. f e.0 ++ l) (keys-told f es)

-- ---- which keys there are

some-greater : (a : ℕ × List ℕ) (p : Option (ℕ × List ℕ)) → is_some (greater dated_cmp (Some a) p) ≡ true
some-greater a None = refl
some-greater a (Some b) = refl

there : (q : List ℕ) (xs : List Dated) → is_some (newest xs q) ≡ has (map (λ e. e.0) xs) q
there q [] = refl
there q (e ∷ xs) =
    elim (bytes_eq e.0 q) as (λ b. is_some (greatest dated_cmp (cons_option (if b then Some e.1 else None) (filter_map (under q) xs))) ≡ (b || has (map (λ e. e.0) xs) q)) [
      | true ↦ some-greater e.1 (greatest dated_cmp (filter_map (under q) xs))
      | false ↦ there q xs
    ]
    ∙ ap (λ b. b || has (map (λ e. e.0) xs) q) (nat_list_eq_equiv.symm e.0 q)

-- a map that keeps the newest under each key has these keys
module _ (es xs : List Dated) (rising : IsStrictlySortedBy bytes_cmp (keys_of es)) (is : (q : List ℕ) → value_at es q ≡ newest xs q) where
  keys : keys_of es ≡ keys_in xs
  keys = ascending-from (map (λ e. e.0) xs) (keys_of es) rising (λ q. has-keys es q ∙ ap (λ (o : Option (ℕ × List ℕ)). is_some o) (is q) ∙ there q xs)

  -- what is told of it
  pub each_told : (tell : List ℕ → ℕ × List ℕ → List ℕ) → flat_map (λ e. tell e.0 e.1) es ≡ of_each tell xs
  each_told tell =
      sym (told_each tell es (IsDistinct-from_sorted bytes_cmp (keys_of es) rising))
      ∙ (λ i. flat_map (λ q. option_map_or (tell q) (is q i) []) (keys i))

  -- what is told of its keys
  pub keys_told : (f : List ℕ → List ℕ) → flat_map (λ e. f e.0) es ≡ flat_map f (keys_in xs)
  keys_told f = keys-told f es ∙ ap (flat_map f) keys
