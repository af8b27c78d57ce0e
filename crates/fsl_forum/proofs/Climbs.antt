-- A climb along a chain, and what it comes to: a name that is no post, an end, or a circle.
use Rattle.std.specs.Prelude.{◌≡◌, ◌⊎◌, ℕ, zero, suc, ◌+◌, ◌-◌, ◌<◌, ◌≤◌, List, [], ◌∷◌, ◌++◌, Bool, true, false, cond, ◌||◌, Option, Some, None, is_some, is_none, unwrap_or, if◌then◌else◌, map, take, drop, get_or, length, option_map, option_and_then}
use Rattle.std.proofs.Common.{refl, sym, ap, ◌∙◌, subst, inl, inr, arith}
use Rattle.std.specs.Option.{option_map_or}
use Rattle.std.specs.List.Sorted.{IsStrictlySortedBy}
use Rattle.std.specs.Map.{keys_of}
use Rattle.std.specs.Ordering.{eq_by_cmp}
use Rattle.std.specs.Cmp.{eq_by_cmp_equiv}
use Rattle.std.specs.Str.{bytes_eq}
use Rattle.std.specs.Cmp.Lexicographic.{bytes_decides, nat_list_eq_equiv}
use Rattle.std.proofs.lemmas.List.{take_more, map-append, take-append-drop}
use Rattle.std.proofs.lemmas.List.Folds.{list_any-append}
use Rattle.std.proofs.lemmas.Map.Entries.{length-keys_of}
use Rattle.std.proofs.lemmas.Map.Made.{is_some-lookup}
use Rattle.std.proofs.lemmas.Map.Keys.{IsDistinct-from_sorted}
use Rattle.std.proofs.lemmas.Map.Steps.{length-le_from_keys}
use Rattle.std.proofs.lemmas.Bool.{or_cases, or_left, or_right}
use Rattle.fsl_order.specs.Names.{bytes_cmp, has}
use Rattle.fsl_order.specs.Rows.{named, steps_on}
use Rattle.fsl_order.proofs.Orders.{bytes_cmp-IsTotalOrder}
use Rattle.fsl_order.proofs.RowLemmas.{is_some-named}
use Rattle.fsl_order.proofs.Walks.{steps_on-add, some_before}
use Rattle.fsl_forum.specs.declared.Fact.{Fact}
use Rattle.fsl_forum.specs.Threads.{post, next, next_of, last, end_at, end}
use Rattle.fsl_order.specs.Maps.{value_at}
use Rattle.fsl_forum.specs.Kept.{known_end, Nexts, AreNexts, AreRight, IsWithin, Leads, IsClimb, IsClimbed}
use Rattle.fsl_forum.proofs.ChainLaw.{end_by_next, first-at}

-- ---- lists of names

has-push : (names : List (List ℕ)) (name q : List ℕ) → has (names ++ name ∷ []) q ≡ (has names q || bytes_eq q name)
has-push names name q = list_any-append (bytes_eq q) names (name ∷ []) ∙ ap (λ b. has names q || b) (or_false (bytes_eq q name))
  where
    or_false : (b : Bool) → (b || false) ≡ b
    or_false true = refl
    or_false false = refl

-- a map has at most as many names as another that has all of them
pub fits : (some more : Nexts) → IsWithin some more → IsStrictlySortedBy bytes_cmp (keys_of some) → length some ≤ length more
fits some more within rising =
    let most = length-le_from_keys (eq_by_cmp_equiv bytes_cmp-IsTotalOrder) (keys_of some) more (IsDistinct-from_sorted bytes_cmp (keys_of some) rising)
    (λ q h. within q (is_some-lookup (eq_by_cmp bytes_cmp q) some ∙ h)) in
    omega (arith, most, length-keys_of some)

-- ---- one name put in

-- a value of a name is put in
abbrev pub Puts : Nexts → Nexts → List ℕ → Option (List ℕ) → Type 0
Puts old new name value = (q : List ℕ) → value_at new q ≡ cond (bytes_eq name q) (Some value) (value_at old q)

module _ (old new : Nexts) (name : List ℕ) (value : Option (List ℕ)) (put : Puts old new name value) where
  -- what was there is there still
  pub stays_there : IsWithin old new
  stays_there q h =
      ap is_some (put q) ∙ elim (bytes_eq name q) as (λ b. is_some (cond b (Some value) (value_at old q)) ≡ true) [ true ↦ refl | false ↦ h ]

  pub is_there : (q : List ℕ) → bytes_eq name q ≡ true → is_some (value_at new q) ≡ true
  is_there q h = ap is_some (put q) ∙ ap (λ b. is_some (cond b (Some value) (value_at old q))) h

  pub within_too : (more : Nexts) → IsWithin old more → is_some (value_at more name) ≡ true → IsWithin new more
  within_too more within there q h =
      elim (bytes_eq name q) as (λ b. bytes_eq name q ≡ b → is_some (cond b (Some value) (value_at old q)) ≡ true → is_some (value_at more q) ≡ true) [
        | true ↦ λ e _. ap (λ k. is_some (value_at more k)) (sym ((bytes_decides name q).0 e)) ∙ there
        | false ↦ λ _ r. within q r
      ] refl (sym (ap is_some (put q)) ∙ h)

  -- those that are passed, and the name, are there
  pub passed_there : (path : List (List ℕ)) → ((q : List ℕ) → has path q ≡ true → is_some (value_at old q) ≡ true) → (q : List ℕ) → has (path ++ name ∷ []) q ≡ true → is_some (value_at new q) ≡ true
  passed_there path there q h = by (or_cases (has path q) (bytes_eq q name) (sym (has-push path name q) ∙ h))
    where
      by : ((has path q ≡ true) ⊎ (bytes_eq q name ≡ true)) → is_some (value_at new q) ≡ true
      by (inl h) = stays_there q (there q h)
      by (inr h) = is_there q ((bytes_decides name q).1 (sym ((bytes_decides q name).0 h)))

-- the next of some names gets the value too
pub put_next : (names : List (List ℕ)) (i : ℕ) (name : List ℕ) (value : Option (List ℕ)) (old mid new : Nexts) → i < length names → name ≡ get_or names i name
    → ((q : List ℕ) → value_at mid q ≡ cond (has (take i names) q) (Some value) (value_at old q)) → Puts mid new name value
    → (q : List ℕ) → value_at new q ≡ cond (has (take (i + 1) names) q) (Some value) (value_at old q)
put_next names i name value old mid new within is before put q =
    put q
    ∙ (λ j. cond (nat_list_eq_equiv.symm name q j) (Some value) (before q j))
    ∙ either (bytes_eq q name) (has (take i names) q)
    ∙ ap (λ b. cond b (Some value) (value_at old q)) (sym (ap (λ l. has l q) (take_more names i name within ∙ ap (λ n. take i names ++ n ∷ []) (sym is)) ∙ has-push (take i names) name q))
  where
    either : (a b : Bool) → cond a (Some value) (cond b (Some value) (value_at old q)) ≡ cond (b || a) (Some value) (value_at old q)
    either true true = refl
    either true false = refl
    either false true = refl
    either false false = refl

-- ---- the posts in turn

module _ (facts : List Fact) (i : ℕ) (f : Fact) (within : i < length facts) (is : f ≡ get_or facts i f) where
  up_to : take (i + 1) facts ≡ take i facts ++ f ∷ []
  up_to = take_more facts i f within ∙ ap (λ n. take i facts ++ n ∷ []) (sym is)

  names_up_to : (q : List ℕ) → has (map (λ f. f.name) (take (i + 1) facts)) q ≡ (has (map (λ f. f.name) (take i facts)) q || bytes_eq q f.name)
  names_up_to q =
      ap (λ fs. has (map (λ (f : Fact). f.name) fs) q) up_to ∙ ap (λ ns. has ns q) (map-append (λ (f : Fact). f.name) (take i facts) (f ∷ [])) ∙ has-push (map (λ f. f.name) (take i facts)) f.name q

  -- its name is among the names
  pub among : has (map (λ f. f.name) facts) f.name ≡ true
  among =
      ap (λ fs. has (map (λ (f : Fact). f.name) fs) f.name) (sym (take-append-drop (i + 1) facts)) ∙ ap (λ ns. has ns f.name) (map-append (λ (f : Fact). f.name) (take (i + 1) facts) (drop (i + 1) facts))
      ∙ list_any-append (bytes_eq f.name) (map (λ f. f.name) (take (i + 1) facts)) (map (λ f. f.name) (drop (i + 1) facts))
      ∙ or_left _ _ (names_up_to f.name ∙ or_right _ _ (nat_list_eq_equiv.refl f.name))

  -- it has a next post, or is known to have none
  pub next_there : (nexts : Nexts) → AreNexts facts nexts → is_some (value_at nexts f.name) ≡ true
  next_there nexts are =
      ap is_some (are f.name) ∙ mapped (post facts f.name) ∙ is_some-named (λ f. f.name) facts f.name ∙ among
    where
      mapped : (o : Option Fact) → is_some (option_map next o) ≡ is_some o
      mapped None = refl
      mapped (Some f) = refl

  -- those that are passed with it are known
  pub known_next : (known : Nexts) → ((q : List ℕ) → has (map (λ f. f.name) (take i facts)) q ≡ true → is_some (value_at known q) ≡ true)
      → (q : List ℕ) → has (map (λ f. f.name) (take (i + 1) facts)) q ≡ true → (bytes_eq f.name q || is_some (value_at known q)) ≡ true
  known_next known before q h = by (or_cases _ _ (sym (names_up_to q) ∙ h))
    where
      by : ((has (map (λ f. f.name) (take i facts)) q ≡ true) ⊎ (bytes_eq q f.name ≡ true)) → (bytes_eq f.name q || is_some (value_at known q)) ≡ true
      by (inl h) = or_right _ _ (before q h)
      by (inr h) = or_left _ _ (nat_list_eq_equiv.symm f.name q ∙ h)

-- a post that is passed isn't known, and has a next post
pub ahead_is : (ends nexts : Nexts) (at y : List ℕ) → Some y ≡ (if is_some (value_at ends at) then None else option_and_then (λ n. n) (value_at nexts at)) → (value_at ends at ≡ None) × (value_at nexts at ≡ Some (Some y))
ahead_is ends nexts at y e =
    elim (value_at ends at) as (λ o. Some y ≡ (if is_some o then None else option_and_then (λ n. n) (value_at nexts at)) → (o ≡ None) × (value_at nexts at ≡ Some (Some y))) [
      | Some found ↦ λ r. cc
      | None ↦ λ r. (refl, elim (value_at nexts at) as (λ o. Some y ≡ option_and_then (λ n. n) o → o ≡ Some (Some y)) [ None ↦ λ r. cc | Some n ↦ λ r. ap Some (sym r) ] r)
    ] e

-- a post more is known, and all that are known are there
pub nearer : (some now more : Nexts) (name : List ℕ) → value_at some name ≡ None → length now ≡ length some + (if is_some (value_at some name) then 0 else 1)
    → IsWithin now more → IsStrictlySortedBy bytes_cmp (keys_of now) → length more - length now < length more - length some
nearer some now more name new longer within rising =
    let most = fits now more within rising in
    let one : length now ≡ length some + 1 = longer ∙ ap (λ o. length some + (if is_some o then 0 else 1)) new in
    omega (arith, most, one)

module _ (facts : List Fact) where
  -- ---- one step

  -- the post of a name has that name
  pub named_so : (posts : List Fact) (x : List ℕ) (f : Fact) → named (λ f. f.name) posts x ≡ Some f → f.name ≡ x
  named_so [] x f e = cc
  named_so (g ∷ posts) x f e =
      elim (bytes_eq g.name x) as (λ b. bytes_eq g.name x ≡ b → cond b (Some g) (named (λ f. f.name) posts x) ≡ Some f → f.name ≡ x) [
        | true ↦ λ h r. let same : g ≡ f = inside g r in ap (λ f. f.name) (sym same) ∙ (bytes_decides g.name x).0 h
        | false ↦ λ h r. named_so posts x f r
      ] refl e
    where
      inside : (g : Fact) → Some g ≡ Some f → g ≡ f
      inside g r = cc

  pub none_ends : (x : List ℕ) → option_map next (post facts x) ≡ None → end facts x ≡ None
  none_ends x e =
      end_by_next facts x
      ∙ elim (post facts x) as (λ o. option_map next o ≡ None → option_and_then (λ f. option_map_or (end facts) (next f) (Some f.name)) o ≡ None) [ None ↦ λ _. refl | Some f ↦ λ r. cc ] e

  last_ends : (x : List ℕ) → option_map next (post facts x) ≡ Some None → end facts x ≡ Some x
  last_ends x e =
      end_by_next facts x
      ∙ elim (post facts x) as (λ o. post facts x ≡ o → option_map next o ≡ Some None → option_and_then (λ f. option_map_or (end facts) (next f) (Some f.name)) o ≡ Some x) [
        | None ↦ λ _ r. cc
        | Some f ↦ λ p r. let no_next : next f ≡ None = cc in ap (λ n. option_map_or (end facts) n (Some f.name)) no_next ∙ ap Some (named_so facts x f p)
      ] refl e

  next_is : (x y : List ℕ) → option_map next (post facts x) ≡ Some (Some y) → next_of facts x ≡ Some y
  next_is x y e = elim (post facts x) as (λ o. option_map next o ≡ Some (Some y) → option_and_then next o ≡ Some y) [ None ↦ λ r. cc | Some f ↦ λ r. cc ] e

  -- a chain has the end of its next post's
  pub next_ends : (x y : List ℕ) → next_of facts x ≡ Some y → end facts x ≡ end facts y
  next_ends x y e =
      end_by_next facts x
      ∙ elim (post facts x) as (λ o. option_and_then next o ≡ Some y → option_and_then (λ f. option_map_or (end facts) (next f) (Some f.name)) o ≡ end facts y) [
        | None ↦ λ r. cc
        | Some f ↦ λ r. ap (λ n. option_map_or (end facts) n (Some f.name)) r
      ] e

  -- ---- several steps

  pub steps_end : (n : ℕ) (x z : List ℕ) → steps_on (next_of facts) x n ≡ Some z → end facts x ≡ end facts z
  steps_end zero x z e = let same : x ≡ z = cc in ap (end facts) same
  steps_end (suc n) x z e =
      let before = some_before (next_of facts) x n z e in
      steps_end n x before.0 before.1 ∙ next_ends before.0 z before.2

  leads_end : (x at : List ℕ) → Leads facts x at → end facts x ≡ end facts at
  leads_end x at l = steps_end (suc l.0) x at l.1

  -- where a chain ends, it goes no further
  stops : (x e : List ℕ) (k : ℕ) → end_at facts x k ≡ Some e → steps_on (next_of facts) x (suc k) ≡ None
  stops x e k at =
      elim (steps_on (next_of facts) x k) as (λ o. option_and_then (last facts) o ≡ Some e → option_and_then (next_of facts) o ≡ None) [
        | None ↦ λ r. refl
        | Some z ↦ λ r. no_next z r
      ] at
    where
      no_next : (z : List ℕ) → last facts z ≡ Some e → next_of facts z ≡ None
      no_next z r =
          elim (post facts z) as (λ o. option_and_then (λ f. if is_none (next f) then Some f.name else None) o ≡ Some e → option_and_then next o ≡ None) [
            | None ↦ λ r. refl
            | Some f ↦ λ r. elim (next f) as (λ n. (if is_none n then Some f.name else None) ≡ Some e → n ≡ None) [ None ↦ λ _. refl | Some y ↦ λ r. cc ] r
          ] r

  ends_once : (x e : List ℕ) (k more : ℕ) → end_at facts x k ≡ Some e → end_at facts x (suc k + more) ≡ None
  ends_once x e k more at =
      ap (option_and_then (last facts)) (steps_on-add (next_of facts) x (suc k) more ∙ ap (option_and_then (λ y. steps_on (next_of facts) y more)) (stops x e k at))

  -- a chain that comes back to its name has no end
  pub circle_ends : (x : List ℕ) → Leads facts x x → end facts x ≡ None
  circle_ends x round =
      elim (end facts x) as (λ o. end facts x ≡ o → o ≡ None) [
        | None ↦ λ _. refl
        | Some e ↦ λ whole. absurd (twice e whole)
      ] refl
    where
      twice : (e : List ℕ) → end facts x ≡ Some e → ⊥
      twice e whole =
          let at = first-at (end_at facts x) 0 (length facts + 1) e whole in
          let again : end_at facts x (suc round.0 + at.0) ≡ end_at facts x at.0 =
          ap (option_and_then (last facts)) (steps_on-add (next_of facts) x (suc round.0) at.0 ∙ ap (option_and_then (λ y. steps_on (next_of facts) y at.0)) round.1) in
          let past : suc at.0 + round.0 ≡ suc round.0 + at.0 = omega arith in
          no (sym (ends_once x e at.0 round.0 at.1) ∙ ap (end_at facts x) past ∙ again ∙ at.1)
        where
          no : None ≡ Some e → ⊥
          no h = cc

  -- ---- the climb

  leads_on : (x at y : List ℕ) → Leads facts x at → next_of facts at ≡ Some y → Leads facts x y
  leads_on x at y l e = (suc l.0, ap (option_and_then (next_of facts)) l.1 ∙ e)

  module _ (nexts : Nexts) (are : AreNexts facts nexts) where
    -- one post more is passed
    pub climb_on : (ends new : Nexts) (path : List (List ℕ)) (begun at y : List ℕ) → IsClimb facts ends path begun at → value_at nexts at ≡ Some (Some y)
        → ((q : List ℕ) → value_at new q ≡ cond (bytes_eq at q) (Some None) (value_at ends q)) → IsClimb facts new (path ++ at ∷ []) begun y
    climb_on ends new path begun at y climb on put = record {
      kept = λ q found e. kept_on q found e;
      leads = λ q h. leads_to q (or_cases (has path q) (bytes_eq q at) (sym (has-push path at q) ∙ h));
      first = begun_on climb.first;
    }
      where
        step : next_of facts at ≡ Some y
        step = next_is at y (sym (are at) ∙ on)

        here : Leads facts at y
        here = (0, step)

        leads_to : (q : List ℕ) → ((has path q ≡ true) ⊎ (bytes_eq q at ≡ true)) → Leads facts q y
        leads_to q (inl h) = leads_on q at y (climb.leads q h) step
        leads_to q (inr h) = subst (λ x. Leads facts x y) (sym ((bytes_decides q at).0 h)) here

        begun_on : ((begun ≡ at) ⊎ Leads facts begun at) → (begun ≡ y) ⊎ Leads facts begun y
        begun_on (inl same) = inr (subst (λ x. Leads facts x y) (sym same) here)
        begun_on (inr l) = inr (leads_on begun at y l step)

        passed_too : (q : List ℕ) (found : Option (List ℕ)) → ((found ≡ end facts q) ⊎ ((found ≡ None) × (has path q ≡ true))) → (found ≡ end facts q) ⊎ ((found ≡ None) × (has (path ++ at ∷ []) q ≡ true))
        passed_too q found (inl h) = inl h
        passed_too q found (inr h) = inr (h.0, has-push path at q ∙ or_left (has path q) (bytes_eq q at) h.1)

        kept_on : (q : List ℕ) (found : Option (List ℕ)) → value_at new q ≡ Some found → (found ≡ end facts q) ⊎ ((found ≡ None) × (has (path ++ at ∷ []) q ≡ true))
        kept_on q found e =
            elim (bytes_eq at q) as (λ b. bytes_eq at q ≡ b → cond b (Some None) (value_at ends q) ≡ Some found → (found ≡ end facts q) ⊎ ((found ≡ None) × (has (path ++ at ∷ []) q ≡ true))) [
              | true ↦ λ h r. inr (inside r, has-push path at q ∙ or_right (has path q) (bytes_eq q at) ((bytes_decides q at).1 (sym ((bytes_decides at q).0 h))))
              | false ↦ λ h r. passed_too q found (climb.kept q found r)
            ] refl (sym (put q) ∙ e)
          where
            inside : Some None ≡ Some found → found ≡ None
            inside r = cc

    -- the end that is known where the climb stops is that of the name
    known_is : (ends : Nexts) (path : List (List ℕ)) (begun at : List ℕ) → IsClimb facts ends path begun at
        → None ≡ (if is_some (value_at ends at) then None else option_and_then (λ n. n) (value_at nexts at)) → known_end nexts ends at ≡ end facts at
    known_is ends path begun at climb stop =
        elim (value_at ends at) as (λ o. value_at ends at ≡ o → None ≡ (if is_some o then None else option_and_then (λ n. n) (value_at nexts at)) → unwrap_or o (if is_some (value_at nexts at) then Some at else None) ≡ end facts at) [
          | Some found ↦ λ e _. known found (climb.kept at found e)
          | None ↦ λ e none. unknown (value_at nexts at) (sym (are at)) none
        ] refl stop
      where
        known : (found : Option (List ℕ)) → ((found ≡ end facts at) ⊎ ((found ≡ None) × (has path at ≡ true))) → found ≡ end facts at
        known found (inl h) = h
        known found (inr h) = h.0 ∙ sym (circle_ends at (climb.leads at h.1))

        unknown : (o : Option (Option (List ℕ))) → option_map next (post facts at) ≡ o → None ≡ option_and_then (λ n. n) o → (if is_some o then Some at else None) ≡ end facts at
        unknown None e none = sym (none_ends at e)
        unknown (Some None) e none = sym (last_ends at e)
        unknown (Some (Some y)) e none = cc

    pub climbed : (ends : Nexts) (path : List (List ℕ)) (begun at : List ℕ) → IsClimb facts ends path begun at
        → None ≡ (if is_some (value_at ends at) then None else option_and_then (λ n. n) (value_at nexts at)) → IsClimbed facts ends path begun (known_end nexts ends at)
    climbed ends path begun at climb stop = record {
      kept = λ q other e. still q other (climb.kept q other e);
      path_is = λ q h. known_is ends path begun at climb stop ∙ sym (leads_end q at (climb.leads q h));
      begun_is = known_is ends path begun at climb stop ∙ from climb.first;
    }
      where
        still : (q : List ℕ) (other : Option (List ℕ)) → ((other ≡ end facts q) ⊎ ((other ≡ None) × (has path q ≡ true))) → (other ≡ end facts q) ⊎ (has path q ≡ true)
        still q other (inl h) = inl h
        still q other (inr h) = inr h.1

        from : ((begun ≡ at) ⊎ Leads facts begun at) → end facts at ≡ end facts begun
        from (inl same) = ap (end facts) (sym same)
        from (inr l) = sym (leads_end begun at l)

  -- a climb begins at its name
  pub climb_begins : (ends : Nexts) (begun : List ℕ) → AreRight facts ends → IsClimb facts ends [] begun begun
  climb_begins ends begun right = record { kept = λ q found e. inl (right q found e); leads = λ q h. cc; first = inl refl }

  -- with the end of the path and of the name put in, all ends are right
  pub settled : (ends mid new : Nexts) (path : List (List ℕ)) (begun : List ℕ) (found : Option (List ℕ)) → IsClimbed facts ends path begun found
      → ((q : List ℕ) → value_at mid q ≡ cond (has path q) (Some found) (value_at ends q))
      → ((q : List ℕ) → value_at new q ≡ cond (bytes_eq begun q) (Some found) (value_at mid q)) → AreRight facts new
  settled ends mid new path begun found done put_path put_begun q other e =
      elim (bytes_eq begun q) as (λ b. bytes_eq begun q ≡ b → cond b (Some found) (value_at mid q) ≡ Some other → other ≡ end facts q) [
        | true ↦ λ h r. inside r ∙ done.begun_is ∙ ap (end facts) ((bytes_decides begun q).0 h)
        | false ↦ λ _ r. elim (has path q) as (λ b. has path q ≡ b → cond b (Some found) (value_at ends q) ≡ Some other → other ≡ end facts q) [
          | true ↦ λ h r. inside r ∙ done.path_is q h
          | false ↦ λ h r. old h (done.kept q other r)
        ] refl (sym (put_path q) ∙ r)
      ] refl (sym (put_begun q) ∙ e)
    where
      inside : Some found ≡ Some other → other ≡ found
      inside r = cc

      old : has path q ≡ false → ((other ≡ end facts q) ⊎ (has path q ≡ true)) → other ≡ end facts q
      old h (inl is) = is
      old h (inr so) = absurd (no (sym h ∙ so))
        where
          no : false ≡ true → ⊥
          no e = cc
