-- The reply of a state keeps private artifacts to itself, and names no shunned one.
use Rattle.std.specs.Prelude.{◌≡◌, ℕ, ◌⊎◌, ◌||◌, ◌&&◌, Bool, true, false, not, cond, List, [], ◌∷◌, map, filter, filter_map, flat_map, Option, Some, None, is_some, option_map}
use Rattle.std.proofs.Common.{refl, sym, ap, ◌∙◌, inl, inr}
use Rattle.std.specs.List.{AllZip, AllByRecursion, cons_option, list_any}
use Rattle.std.specs.Option.{option_map_or}
use Rattle.std.specs.Str.{bytes_eq}
use Rattle.std.specs.Ordering.{eq_by_cmp}
use Rattle.std.specs.FinMap as map_of
use Rattle.std.specs.FinMap.{find}
use Rattle.std.specs.FinSet as set
use Rattle.std.specs.FinSet.{FinSet}
use Rattle.std.specs.Cmp.Lexicographic.{bytes_decides, texts_ties}
use Rattle.std.proofs.lemmas.Bool.{false_from_ne_true, or_cases, not-true}
use Rattle.fsl_order.specs.Names.{bytes_cmp, has}
use Rattle.fsl_order.proofs.AscendingLemmas.{has-ascending}
use Rattle.fsl_order.proofs.Booleans.{first_holds}
use Rattle.fsl_record.specs.declared.Record.{Record}
use Rattle.fsl_blobs.specs.Fold.{Held, contents, held_from}
use Rattle.fsl_cluster.specs.declared.Fact.{Fact}
use Rattle.fsl_cluster.specs.Clusters as clusters
use Rattle.fsl_cross.specs.declared.Item.{Item}
use Rattle.fsl_cross.specs.Facts.{cluster_fact}
use Rattle.fsl_answer.specs.Contents as reply
use Rattle.fsl_answer.specs.Contents.{names_by, sends_private, first_clone, asks_from, igots, gimmes, public_igots, private_igots}
use Rattle.fsl_answer.specs.Keeps.{held_names}
use Rattle.fsl_answer.proofs.Keeping.{no_private_igots, candidates_public, candidates_held, sent_names_in, told_in, public_among, private_among, asked_among}
use Rattle.fsl_repo.specs.declared.Ask.{Ask}
use Rattle.fsl_blobs.proofs.ShunnedNames.{shunned_are_not_held}
use Rattle.fsl_repo.specs.Machine.{State, now, IsItemOf, AreItems, AnnouncedAreNew, unclustered_names, wants}
use Rattle.fsl_repo.specs.Replies.{placed, held_at, reply_state, reply_lists, sent_names}
use Rattle.fsl_repo.specs.Keeps.{told_names, is_held_private, ReplyKeeps, BuildsKeep}
use Rattle.fsl_repo.proofs.PublicNames.{found_public}

-- ---- tests

clash : (b : Bool) → b ≡ true → b ≡ false → ⊥
clash b t f = let s = sym t ∙ f in cc

neither : (a b : Bool) → not (a || b) ≡ true → (a ≡ false) × (b ≡ false)
neither true b e = cc
neither false true e = cc
neither false false e = (refl, refl)

-- ---- names in lists

named_in : {X : Type 0} (name : X → List ℕ) (P : X → Type 0) (xs : List X) (q : List ℕ) → AllByRecursion P xs → has (map name xs) q ≡ true → (x : X) × P x × (q ≡ name x)
named_in name P [] q all e = cc
named_in {X = X} name P (x ∷ xs) q all e = by_first (or_cases (bytes_eq q (name x)) (has (map name xs) q) e) (named_in name P xs q all.1)
  where
    by_first : (bytes_eq q (name x) ≡ true) ⊎ (has (map name xs) q ≡ true) → (has (map name xs) q ≡ true → (x : X) × P x × (q ≡ name x)) → (x : X) × P x × (q ≡ name x)
    by_first (inl e) again = (x, all.0, (bytes_decides q (name x)).0 e)
    by_first (inr e) again = again e

filtered_all : {X : Type 0} (P : X → Type 0) (p : X → Bool) (xs : List X) → AllByRecursion P xs → AllByRecursion (λ x. P x × (p x ≡ true)) (filter p xs)
filtered_all P p [] all = tt
filtered_all P p (x ∷ xs) all = by_test (p x) refl (filtered_all P p xs all.1)
  where
    by_test : (b : Bool) → p x ≡ b → AllByRecursion (λ x. P x × (p x ≡ true)) (filter p xs) → AllByRecursion (λ x. P x × (p x ≡ true)) (cond b (x ∷ filter p xs) (filter p xs))
    by_test true e rest = ((all.0, e), rest)
    by_test false e rest = rest

-- a name in a list that is filtered passes the test, and is in the list
passed : (f : List ℕ → Bool) (xs : List (List ℕ)) (q : List ℕ) → has (filter f xs) q ≡ true → (f q ≡ true) × (has xs q ≡ true)
passed f [] q e = cc
passed f (x ∷ xs) q e = by_test (f x) refl e (passed f xs q)
  where
    more : (b : Bool) → has xs q ≡ true → (b || has xs q) ≡ true
    more true e = refl
    more false e = e

    at : (bytes_eq q x ≡ true) ⊎ (has (filter f xs) q ≡ true) → f x ≡ true → (has (filter f xs) q ≡ true → (f q ≡ true) × (has xs q ≡ true)) → (f q ≡ true) × ((bytes_eq q x || has xs q) ≡ true)
    at (inl e) t again = (ap f ((bytes_decides q x).0 e) ∙ t, ap (λ (b : Bool). b || has xs q) e)
    at (inr e) t again = ((again e).0, more (bytes_eq q x) (again e).1)

    by_test : (b : Bool) → f x ≡ b → has (cond b (x ∷ filter f xs) (filter f xs)) q ≡ true → (has (filter f xs) q ≡ true → (f q ≡ true) × (has xs q ≡ true)) → (f q ≡ true) × ((bytes_eq q x || has xs q) ≡ true)
    by_test true t e again = at (or_cases (bytes_eq q x) (has (filter f xs) q) e) t again
    by_test false t e again = ((again e).0, more (bytes_eq q x) (again e).1)

in_set : (s : FinSet bytes_cmp) (q : List ℕ) → set.contains s q ≡ has (set.items s) q
in_set s q = set.contains-items s q ∙ (λ i. list_any (λ k. sym (texts_ties q k) i) (set.items s))

shunned_apart : (records : List Record) (q : List ℕ) → set.contains (contents records).shunned q ≡ true → is_some (map_of.get (contents records).held q) ≡ false
shunned_apart records q e = ap is_some (shunned_are_not_held records q e)

-- ---- the artifacts that a reply depends on

-- what stands at a place is held, with its privacy
record IsHeldOf (s : State) (h : reply.Held) : Type 0 where
  artifact : Held
  found : map_of.get (now s).held h.name ≡ Some artifact
  private : h.private ≡ artifact.private

all_placed : (s : State) (ps : List (ℕ × List ℕ)) → AllByRecursion (IsHeldOf s) (filter_map (λ p. option_map (held_at p) (map_of.get (now s).held p.1)) ps)
all_placed s [] = tt
all_placed s (p ∷ ps) = by_held (map_of.get (now s).held p.1) refl (all_placed s ps)
  where
    by_held : (o : Option Held) → map_of.get (now s).held p.1 ≡ o → AllByRecursion (IsHeldOf s) (filter_map (λ p. option_map (held_at p) (map_of.get (now s).held p.1)) ps)
        → AllByRecursion (IsHeldOf s) (cons_option (option_map (held_at p) o) (filter_map (λ p. option_map (held_at p) (map_of.get (now s).held p.1)) ps))
    by_held None g rest = rest
    by_held (Some a) g rest = (record { artifact = a; found = g; private = refl }, rest)

-- the name of a held artifact is that of its item
listed : (es : List (List ℕ × Held)) (items : List Item) → AllZip IsItemOf es items → (q : List ℕ) → is_some (find bytes_cmp q es) ≡ true → has (clusters.names (map cluster_fact items)) q ≡ true
listed [] [] are q e = cc
listed [] (i ∷ items) are q e = absurd are
listed (e ∷ es) [] are q h = absurd are
listed (e ∷ es) (i ∷ items) are q h = by_name (eq_by_cmp bytes_cmp q e.0) refl h (listed es items are.1 q)
  where
    ties : bytes_eq q i.name ≡ eq_by_cmp bytes_cmp q e.0
    ties = ap (bytes_eq q) (are.0.name) ∙ texts_ties q e.0

    more : (b : Bool) → has (clusters.names (map cluster_fact items)) q ≡ true → (b || has (clusters.names (map cluster_fact items)) q) ≡ true
    more true r = refl
    more false r = r

    by_name : (b : Bool) → eq_by_cmp bytes_cmp q e.0 ≡ b → is_some (cond b (Some e.1) (find bytes_cmp q es)) ≡ true → (is_some (find bytes_cmp q es) ≡ true → has (clusters.names (map cluster_fact items)) q ≡ true)
        → (bytes_eq q i.name || has (clusters.names (map cluster_fact items)) q) ≡ true
    by_name true t h again = ap (λ (b : Bool). b || has (clusters.names (map cluster_fact items)) q) (ties ∙ t)
    by_name false t h again = more (bytes_eq q i.name) (again h)

private_some : (o : Option Held) → option_map_or (λ a. a.private) o false ≡ true → is_some o ≡ true
private_some None e = cc
private_some (Some a) e = refl

module _ (s : State) (items : List Item) (ask : Ask) (new : AnnouncedAreNew s) (are : AreItems (now s).held items) where
  abbrev seen : reply.State
  seen = reply_state s items

  abbrev get : List ℕ → Option Held
  get q = map_of.get (now s).held q

  abbrev facts : List Fact
  facts = map cluster_fact items

  -- it is held, and public
  record IsPublic (q : List ℕ) : Type 0 where
    held : is_some (get q) ≡ true
    public : is_held_private (now s) q ≡ false

  public_name : (q : List ℕ) → has (names_by false seen) q ≡ true → IsPublic q
  public_name q e =
      let f = named_in (λ h. h.name) (λ h. IsHeldOf s h × (not h.private ≡ true)) (filter (λ h. not h.private) (placed s)) q (filtered_all (IsHeldOf s) (λ h. not h.private) (placed s) (all_placed s (held_from s.records 0))) e in
      let g : get q ≡ Some f.1.0.artifact = ap (map_of.get (now s).held) f.2 ∙ f.1.0.found in
      record {
        held = ap is_some g;
        public = ap (λ (o : Option Held). option_map_or (λ a. a.private) o false) g ∙ sym f.1.0.private ∙ not-true f.0.private f.1.1;
      }

  private_name : (q : List ℕ) → has (names_by true seen) q ≡ true → is_some (get q) ≡ true
  private_name q e =
      let f = named_in (λ h. h.name) (λ h. IsHeldOf s h × (h.private ≡ true)) (filter (λ h. h.private) (placed s)) q (filtered_all (IsHeldOf s) (λ h. h.private) (placed s) (all_placed s (held_from s.records 0))) e in
      ap is_some (ap (map_of.get (now s).held) f.2 ∙ f.1.0.found)

  held_name : (q : List ℕ) → has (held_names seen) q ≡ true → is_some (get q) ≡ true
  held_name q e =
      let f = named_in (λ h. h.name) (IsHeldOf s) (placed s) q (all_placed s (held_from s.records 0)) e in
      ap is_some (ap (map_of.get (now s).held) f.2 ∙ f.1.found)

  unclustered_name : (q : List ℕ) → has (unclustered_names items) q ≡ true → IsPublic q
  unclustered_name q e =
      let p : Fact → Bool = λ f. not f.private && not (has (flat_map (λ g. g.members) facts) f.name) in
      let f = found_public p (λ f t. not-true f.private (first_holds (not f.private) _ t)) (map_of.entries (now s).held) items q (map_of.entries_sorted (now s).held) are (sym (has-ascending (clusters.names (filter p facts)) q) ∙ e) in
      let g : get q ≡ Some f.held = map_of.get-entries (now s).held q ∙ f.found in
      record { held = ap is_some g; public = ap (λ (o : Option Held). option_map_or (λ a. a.private) o false) g ∙ f.public }

  -- it is neither held nor shunned
  record IsUnknown (q : List ℕ) : Type 0 where
    absent : is_some (get q) ≡ false
    free : set.contains (now s).shunned q ≡ false

  wanted_name : (q : List ℕ) → has (wants (now s) items) q ≡ true → IsUnknown q
  wanted_name q e =
      let a = passed (λ n. not (has (set.items (now s).shunned) n)) (clusters.missing facts) q e in
      let refs = flat_map (λ f. f.refs) facts in
      let b = passed (λ n. not (has (clusters.names facts) n)) refs q (sym (has-ascending (filter (λ n. not (has (clusters.names facts) n)) refs) q) ∙ a.1) in
      record {
        absent =
            false_from_ne_true (is_some (get q)) (λ h. clash (has (clusters.names facts) q) (listed (map_of.entries (now s).held) items are q (ap is_some (sym (map_of.get-entries (now s).held q)) ∙ h))
            (not-true (has (clusters.names facts) q) b.0));
        free = in_set (now s).shunned q ∙ not-true (has (set.items (now s).shunned) q) a.0;
      }

  announced_name : (q : List ℕ) → has (set.items s.announced) q ≡ true → IsUnknown q
  announced_name q e =
      let n = neither (map_of.contains_key (now s).held q) (set.contains (now s).shunned q) (new q (in_set s.announced q ∙ e)) in
      record { absent = n.0; free = n.1 }

  asked_name : (q : List ℕ) → has (gimmes seen ask.message) q ≡ true → IsUnknown q
  asked_name q e = by_list (asked_among seen ask.message ask.caps q e)
    where
      by_list : (has (wants (now s) items) q ≡ true) ⊎ (has (set.items s.announced) q ≡ true) → IsUnknown q
      by_list (inl e) = wanted_name q e
      by_list (inr e) = announced_name q e

  of_public : (q : List ℕ) → has (public_igots seen ask.message) q ≡ true → IsPublic q
  of_public q e = by_list (public_among seen ask.message ask.caps q e)
    where
      by_list : (has (names_by false seen) q ≡ true) ⊎ (has (unclustered_names items) q ≡ true) → IsPublic q
      by_list (inl e) = public_name q e
      by_list (inr e) = unclustered_name q e

  told_held : (q : List ℕ) → has (told_names (reply_lists s items ask)) q ≡ true → is_some (get q) ≡ true
  told_held q e = by_list (told_in seen ask.message ask.caps q e)
    where
      by_list : (has (public_igots seen ask.message) q ≡ true) ⊎ (has (private_igots seen ask.message ask.caps) q ≡ true) → is_some (get q) ≡ true
      by_list (inl e) = IsPublic.held (of_public q e)
      by_list (inr e) = private_name q (private_among seen ask.message ask.caps q e)

  told_public : sends_private ask.message ask.caps ≡ false → (q : List ℕ) → has (told_names (reply_lists s items ask)) q ≡ true → is_held_private (now s) q ≡ false
  told_public hidden q e = by_list (told_in seen ask.message ask.caps q e)
    where
      by_list : (has (public_igots seen ask.message) q ≡ true) ⊎ (has (private_igots seen ask.message ask.caps) q ≡ true) → is_held_private (now s) q ≡ false
      by_list (inl e) = IsPublic.public (of_public q e)
      by_list (inr e) = let t = sym (ap (λ (ns : List (List ℕ)). has ns q) (no_private_igots seen ask.message ask.caps hidden)) ∙ e in cc

  keeps : ReplyKeeps s items ask
  keeps =
      let from = asks_from (first_clone ask.message) in
      record {
        igots = λ q hidden own. false_from_ne_true (has (told_names (reply_lists s items ask)) q) (λ e. clash (is_held_private (now s) q) own (told_public hidden q e));
        gimmes = λ q own. false_from_ne_true (has (gimmes seen ask.message) q) (λ e. clash (is_some (get q)) (private_some (get q) own) (IsUnknown.absent (asked_name q e)));
        files = λ q hidden own.
            false_from_ne_true (has (sent_names (reply_lists s items ask)) q)
            (λ e. clash (is_held_private (now s) q) own (IsPublic.public (public_name q (candidates_public seen ask.message ask.caps hidden from q (sent_names_in seen ask.message ask.caps from q e)))));
        shunned_told = λ q sh. false_from_ne_true (has (told_names (reply_lists s items ask)) q) (λ e. clash (is_some (get q)) (told_held q e) (shunned_apart s.records q sh));
        shunned_asked = λ q sh. false_from_ne_true (has (gimmes seen ask.message) q) (λ e. clash (set.contains (now s).shunned q) sh (IsUnknown.free (asked_name q e)));
        shunned_sent = λ q sh.
            false_from_ne_true (has (sent_names (reply_lists s items ask)) q)
            (λ e. clash (is_some (get q)) (held_name q (candidates_held seen ask.message ask.caps from q (sent_names_in seen ask.message ask.caps from q e))) (shunned_apart s.records q sh));
      }

pub builds_keep : BuildsKeep
builds_keep s items ask new are = keeps s items ask new are
