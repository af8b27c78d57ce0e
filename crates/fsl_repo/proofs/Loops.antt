-- One element more in a loop.
use Rattle.std.proofs.Common.{◌≡◌, ℕ, ◌+◌, ◌<◌, ◌≤◌, zero, suc, Bool, true, false, cond, not, List, [], ◌∷◌, ◌++◌, length, map, drop, filter, get_or, Option, Some, None, refl, sym, ap, ◌∙◌, arith, append_assoc}
use Rattle.std.proofs.lemmas.List.{drop_all, append-nil}
use Rattle.std.specs.Prelude.{◌&&◌, ◌||◌, filter_map, nat_le, if◌then◌else◌}
use Rattle.std.specs.List.{cons_option}
use Rattle.std.specs.Option.{option_map}
use Rattle.std.specs.Str.{bytes_eq}
use Rattle.std.specs.FinMap as map_of
use Rattle.std.specs.Cmp.Lexicographic.{texts_ties}
use Rattle.fsl_order.specs.Names.{has}
use Rattle.fsl_record.specs.declared.Record.{Record}
use Rattle.fsl_blobs.specs.Fold.{contents}
use Rattle.fsl_blobs.proofs.KeptLemmas.{turned}
use Rattle.fsl_blobs.specs.Kept.{is_same, stands}
use Rattle.fsl_blobs.specs.declared.Placed.{Placed}
use Rattle.fsl_answer.specs.Contents as reply
use Rattle.fsl_answer.specs.Contents.{each_once, first_of}
use Rattle.fsl_answer.specs.declared.SentFile.{SentFile}
use Rattle.fsl_repo.specs.declared.placed.PlacedHolding.{PlacedHolding}
use Rattle.fsl_repo.specs.Replies.{held_at}
use Rattle.fsl_repo.specs.Sending.{DueFile, as_held, due_of, sent_of, names_of, public_on}

-- the artifact of a placed name
abbrev pub placed_of : List Record → Placed → Option reply.Held
placed_of records p = option_map (held_at (p.place, p.name)) (map_of.get (contents records).held p.name)

-- the file of a name that may be sent
abbrev pub may_send : List Record → Bool → List ℕ → Option SentFile
may_send records private name = sent_of private name (map_of.get (contents records).held name)

-- the same, without its bytes
abbrev pub may_due : List Record → Bool → List ℕ → Option DueFile
may_due records private name = option_map due_of (may_send records private name)

pub filter_map-map : {X Y Z : Type 0} (g : Y → Option Z) (f : X → Y) (xs : List X) → filter_map g (map f xs) ≡ filter_map (λ x. g (f x)) xs
filter_map-map g f [] = refl
filter_map-map g f (x ∷ xs) = ap (cons_option (g (f x))) (filter_map-map g f xs)

-- the rest of a list from one of its elements on
pub rest_is : {X : Type 0} (xs : List X) (i : ℕ) (x : X) → i < length xs → x ≡ get_or xs i x → drop i xs ≡ x ∷ drop (i + 1) xs
rest_is [] i x lt is = absurd (omega (arith, lt))
rest_is (y ∷ xs) zero x lt is = ap (λ z. z ∷ xs) (sym is)
rest_is (y ∷ xs) (suc i) x lt is =
    let next : suc (i + 1) ≡ suc i + 1 = omega arith in
    rest_is xs i x (omega (arith, lt)) is ∙ ap (λ n. x ∷ drop n (y ∷ xs)) next

module _ {X Y : Type 0} (g : X → Option Y) (xs : List X) (i : ℕ) (x : X) (all out : List Y) (lt : i < length xs) (is : x ≡ get_or xs i x) (before : all ≡ out ++ filter_map g (drop i xs)) where
  next : all ≡ out ++ cons_option (g x) (filter_map g (drop (i + 1) xs))
  next = before ∙ ap (λ rest. out ++ filter_map g rest) (rest_is xs i x lt is)

  pub walk_some : (y : Y) → g x ≡ Some y → all ≡ (out ++ y ∷ []) ++ filter_map g (drop (i + 1) xs)
  walk_some y some = next ∙ ap (λ o. out ++ cons_option o (filter_map g (drop (i + 1) xs))) some ∙ sym (append_assoc out (y ∷ []) (filter_map g (drop (i + 1) xs)))

  pub walk_none : g x ≡ None → all ≡ out ++ filter_map g (drop (i + 1) xs)
  walk_none none = next ∙ ap (λ o. out ++ cons_option o (filter_map g (drop (i + 1) xs))) none

-- ---- the first of each name

-- what an insertion says of the set before it
was_there : (b added : Bool) → added ≡ not b → added ≡ false → b ≡ true
was_there true added e h = refl
was_there false added e h = cc

was_new : (b added : Bool) → added ≡ not b → added ≡ true → b ≡ false
was_new true added e h = cc
was_new false added e h = refl

has_stands : (names : List (List ℕ)) (q : List ℕ) → has names q ≡ stands names q
has_stands [] q = refl
has_stands (n ∷ names) q = λ i. texts_ties q n i || has_stands names q i

once_same : (s t : List (List ℕ)) → ((q : List ℕ) → has s q ≡ has t q) → (xs : List (List ℕ)) → each_once s xs ≡ each_once t xs
once_same s t same [] = refl
once_same s t same (x ∷ xs) =
    (λ i. if same x i then once_same s t same xs i else x ∷ once_same (x ∷ s) (x ∷ t) (λ q j. bytes_eq q x || same q j) xs i)

turned_or : (a b : Bool) → cond a true b ≡ (a || b)
turned_or true b = refl
turned_or false b = refl

module _ (names : List (List ℕ)) (i : ℕ) (name : List ℕ) (all out seen : List (List ℕ)) (lt : i < length names) (is : name ≡ get_or names i name) (before : all ≡ out ++ each_once seen (drop i names)) where
  next_once : all ≡ out ++ (if has seen name then each_once seen (drop (i + 1) names) else name ∷ each_once (name ∷ seen) (drop (i + 1) names))
  next_once = before ∙ ap (λ rest. out ++ each_once seen rest) (rest_is names i name lt is)

  once_there : stands seen name ≡ true → all ≡ out ++ each_once seen (drop (i + 1) names)
  once_there there = next_once ∙ ap (λ (b : Bool). out ++ (if b then each_once seen (drop (i + 1) names) else name ∷ each_once (name ∷ seen) (drop (i + 1) names))) (has_stands seen name ∙ there)

  pub once_again : (added : Bool) → added ≡ not (stands seen name) → added ≡ false → (more : List (List ℕ)) → more ≡ seen → (out2 : List (List ℕ)) → out2 ≡ out → all ≡ out2 ++ each_once more (drop (i + 1) names)
  once_again added was no_ more same out2 kept =
      once_there (was_there (stands seen name) added was no_)
      ∙ (λ j. sym kept j ++ each_once (sym same j) (drop (i + 1) names))

  once_new : stands seen name ≡ false → (more : List (List ℕ)) → ((q : List ℕ) → stands more q ≡ cond (is_same name q) true (stands seen q)) → all ≡ (out ++ name ∷ []) ++ each_once more (drop (i + 1) names)
  once_new absent more now =
      next_once ∙ ap (λ (b : Bool). out ++ (if b then each_once seen (drop (i + 1) names) else name ∷ each_once (name ∷ seen) (drop (i + 1) names))) (has_stands seen name ∙ absent)
      ∙ sym (append_assoc out (name ∷ []) (each_once (name ∷ seen) (drop (i + 1) names)))
      ∙ ap (λ rest. (out ++ name ∷ []) ++ rest) (once_same (name ∷ seen) more same (drop (i + 1) names))
    where
      same : (q : List ℕ) → has (name ∷ seen) q ≡ has more q
      same q =
          (λ j. texts_ties q name j || has_stands seen q j) ∙ ap (λ (b : Bool). b || stands seen q) (turned q name)
          ∙ sym (turned_or (is_same name q) (stands seen q)) ∙ sym (now q) ∙ sym (has_stands more q)

  pub once_first : (added : Bool) → added ≡ not (stands seen name) → added ≡ true → (more : List (List ℕ)) → ((q : List ℕ) → stands more q ≡ cond (is_same name q) true (stands seen q)) → (out2 : List (List ℕ)) → out2 ≡ out ++ name ∷ [] → all ≡ out2 ++ each_once more (drop (i + 1) names)
  once_first added was new more now out2 kept =
      once_new (was_new (stands seen name) added was new) more now
      ∙ (λ j. sym kept j ++ each_once more (drop (i + 1) names))

-- ---- artifacts at their places

module _ (held : List PlacedHolding) (i : ℕ) (x : PlacedHolding) (lt : i < length held) (is : x ≡ get_or held i x) where
  rest_at : map as_held (drop i held) ≡ as_held x ∷ map as_held (drop (i + 1) held)
  rest_at = ap (map as_held) (rest_is held i x lt is)

  abbrev is_by : Bool → reply.Held → Bool
  is_by private h = if private then h.private else not h.private

  pub names_next : (private : Bool) (all out : List (List ℕ)) → all ≡ out ++ names_of private (map as_held (drop i held)) → is_by private (as_held x) ≡ true → all ≡ (out ++ x.holding.name ∷ []) ++ names_of private (map as_held (drop (i + 1) held))
  names_next private all out before passes =
      before ∙ ap (λ rest. out ++ names_of private rest) rest_at
      ∙ ap (λ (b : Bool). out ++ map (λ h. h.name) (cond b (as_held x ∷ filter (is_by private) (map as_held (drop (i + 1) held))) (filter (is_by private) (map as_held (drop (i + 1) held))))) passes
      ∙ sym (append_assoc out (x.holding.name ∷ []) (names_of private (map as_held (drop (i + 1) held))))

  pub names_past : (private : Bool) (all out : List (List ℕ)) → all ≡ out ++ names_of private (map as_held (drop i held)) → is_by private (as_held x) ≡ false → all ≡ out ++ names_of private (map as_held (drop (i + 1) held))
  names_past private all out before fails =
      before ∙ ap (λ rest. out ++ names_of private rest) rest_at
      ∙ ap (λ (b : Bool). out ++ map (λ h. h.name) (cond b (as_held x ∷ filter (is_by private) (map as_held (drop (i + 1) held))) (filter (is_by private) (map as_held (drop (i + 1) held))))) fails

  abbrev is_on : ℕ → reply.Held → Bool
  is_on place h = not h.private && nat_le place h.place

  pub public_next : (place : ℕ) (all out : List reply.Held) → all ≡ out ++ public_on place (map as_held (drop i held)) → is_on place (as_held x) ≡ true → all ≡ (out ++ as_held x ∷ []) ++ public_on place (map as_held (drop (i + 1) held))
  public_next place all out before passes =
      before ∙ ap (λ rest. out ++ public_on place rest) rest_at
      ∙ ap (λ (b : Bool). out ++ cond b (as_held x ∷ public_on place (map as_held (drop (i + 1) held))) (public_on place (map as_held (drop (i + 1) held)))) passes
      ∙ sym (append_assoc out (as_held x ∷ []) (public_on place (map as_held (drop (i + 1) held))))

  pub public_past : (place : ℕ) (all out : List reply.Held) → all ≡ out ++ public_on place (map as_held (drop i held)) → is_on place (as_held x) ≡ false → all ≡ out ++ public_on place (map as_held (drop (i + 1) held))
  public_past place all out before fails =
      before ∙ ap (λ rest. out ++ public_on place rest) rest_at
      ∙ ap (λ (b : Bool). out ++ cond b (as_held x ∷ public_on place (map as_held (drop (i + 1) held))) (public_on place (map as_held (drop (i + 1) held)))) fails

pub walk_end : {X Y : Type 0} (g : X → Option Y) (xs : List X) (i : ℕ) (all out : List Y) → length xs ≤ i → all ≡ out ++ filter_map g (drop i xs) → all ≡ out
walk_end g xs i all out le before = before ∙ ap (λ rest. out ++ filter_map g rest) (drop_all i xs le) ∙ append-nil out
