-- What stores say to each other are messages.
use Rattle.std.specs.Prelude.{◌≡◌, ◌||◌, ℕ, Bool, true, false, cond, List, [], ◌∷◌, ◌++◌, map, flat_map, Option, Some, None, IsTrue}
use Rattle.std.proofs.Common.{refl, sym, ap, subst, ◌∙◌}
use Rattle.std.specs.declared.cmp.Ordering.{Ordering}
use Rattle.std.specs.declared.cmp.Ordering.TheVariants.{Less, Equal, Greater}
use Rattle.std.specs.Ordering.{is_lt, match_ordering}
use Rattle.std.specs.List.{AllByRecursion, filter}
use Rattle.std.specs.Map.{keys_of}
use Rattle.std.specs.Str.{bytes_eq}
use Rattle.std.specs.Cmp.Lexicographic.{texts_ties, bytes_decides}
use Rattle.fsl_order.specs.Names.{has, dated_cmp}
use Rattle.fsl_order.specs.Rows.{ascending, greater, greatest}
use Rattle.fsl_order.specs.Maps.{value_at}
use Rattle.fsl_order.proofs.AscendingLemmas.{has-ascending}
use Rattle.fsl_order.proofs.Booleans.{or_true}
use Rattle.fsl_order.proofs.GreatestLemmas.{greater-none}
use Rattle.fsl_record.specs.declared.Record.{Record}
use Rattle.fsl_uv.specs.declared.Entry.{Entry}
use Rattle.fsl_uv.specs.declared.Card.{Card}
use Rattle.fsl_uv.specs.declared.Card.TheVariants.{Igot, Gimme, File}
use Rattle.fsl_uv.specs.Entries.{Version, IsEntry, version_of, is_path}
use Rattle.fsl_uv.specs.Maps.{stamp_of, version_cmp, versions, newest, uv, before, each}
use Rattle.fsl_uv.specs.Cards.{IsCard}
use Rattle.fsl_uv.specs.Syncing.{offered, offer_at, offered_paths, entry_of, file_of, answer_at, file_at, given, files, peer_answer, synced_here}
use Rattle.fsl_uv.specs.Stores.{IsUv}
use Rattle.fsl_uv.specs.Exchanging.{StoresTalk}
use Rattle.fsl_uv.proofs.Versions.{version_cmp-IsTotalOrder}
use Rattle.fsl_uv.proofs.Merging.{most, value-uv, value-merge}
use Rattle.fsl_uv.proofs.FrontLemmas.{sized-of}
use Rattle.fsl_uv.proofs.SyncLemmas.{paths-offered, given-flat, all_paths, ans, sent-is}

abbrev Map : Type 0
Map = List (List ℕ × Version)

-- ---- a map of good entries

abbrev Good : Map → Type 0
Good m = AllByRecursion (λ e. IsEntry (entry_of e.0 e.1)) m

inside : (x y : Version) → Some x ≡ Some y → x ≡ y
inside x y e = cc

greatest-good : (P : Version → Type 0) (xs : List Version) (x : Version) → AllByRecursion P xs → greatest version_cmp xs ≡ Some x → P x
greatest-good P [] x all is = absurd cc
greatest-good P (y ∷ ys) x all is = by (λ z e. greatest-good P ys z all.1 e) (greatest version_cmp ys) refl is
  where
    choose : (b : Bool) (z : Version) → P z → cond b z y ≡ x → P x
    choose true z good e = subst P e good
    choose false z good e = subst P e all.0

    by : ((z : Version) → greatest version_cmp ys ≡ Some z → P z) → (o : Option Version) → greatest version_cmp ys ≡ o → greater version_cmp (Some y) o ≡ Some x → P x
    by rest None e h = subst P (inside y x h) all.0
    by rest (Some z) e h = choose (is_lt (version_cmp y z)) z (rest z e) (inside (cond (is_lt (version_cmp y z)) z y) x h)

versions-good : (es : List Entry) (p : List ℕ) → AllByRecursion IsEntry es → AllByRecursion (λ v. IsEntry (entry_of p v)) (versions es p)
versions-good [] p all = tt
versions-good (e ∷ es) p all = by (versions-good es p all.1) (bytes_eq p e.path) refl
  where
    by : AllByRecursion (λ v. IsEntry (entry_of p v)) (versions es p) → (b : Bool) → bytes_eq p e.path ≡ b
        → AllByRecursion (λ v. IsEntry (entry_of p v)) (map version_of (cond b (e ∷ filter (λ (f : Entry). bytes_eq p f.path) es) (filter (λ (f : Entry). bytes_eq p f.path) es)))
    by rest true h = (subst (λ (q : List ℕ). IsEntry (entry_of q (version_of e))) (sym ((bytes_decides p e.path).0 h)) all.0, rest)
    by rest false h = rest

newest-good : (es : List Entry) → AllByRecursion IsEntry es → (p : List ℕ) (v : Version) → newest es p ≡ Some v → IsEntry (entry_of p v)
newest-good es all p v is = greatest-good (λ x. IsEntry (entry_of p x)) (versions es p) v (versions-good es p all) is

good-each : (paths : List (List ℕ)) (f : List ℕ → Option Version) → ((p : List ℕ) (v : Version) → f p ≡ Some v → IsEntry (entry_of p v)) → Good (each paths f)
good-each [] f good = tt
good-each (p ∷ paths) f good = by (good-each paths f good) (f p) refl
  where
    by : Good (each paths f) → (o : Option Version) → f p ≡ o → Good (before p o (each paths f))
    by rest None e = rest
    by rest (Some v) e = (good p v e, rest)

good-map : (records : List Record) (m : Map) → IsUv records m → Good m
good-map records m u = subst Good (sym u.2) (good-each (ascending (map (λ e. e.path) u.0)) (newest u.0) (newest-good u.0 u.1.good))

good-value : (m : Map) (p : List ℕ) (v : Version) → Good m → value_at m p ≡ Some v → IsEntry (entry_of p v)
good-value [] p v good is = absurd cc
good-value (e ∷ m) p v good is = by (good-value m p v good.1) (bytes_eq p e.0) refl (ap (λ b. cond b (Some e.1) (value_at m p)) (texts_ties p e.0) ∙ is)
  where
    by : (value_at m p ≡ Some v → IsEntry (entry_of p v)) → (b : Bool) → bytes_eq p e.0 ≡ b → cond b (Some e.1) (value_at m p) ≡ Some v → IsEntry (entry_of p v)
    by rest true h k = subst (λ (x : List ℕ × Version). IsEntry (entry_of x.0 x.1)) (λ i. (sym ((bytes_decides p e.0).0 h) i, inside e.1 v k i)) good.0
    by rest false h k = rest k

-- ---- paths

abbrev ArePaths : List (List ℕ) → Type 0
ArePaths paths = AllByRecursion (λ p. IsTrue (is_path p)) paths

from-all : (paths : List (List ℕ)) → ArePaths paths → (q : List ℕ) → has paths q ≡ true → IsTrue (is_path q)
from-all [] all q h = absurd cc
from-all (p ∷ paths) all q h = by (from-all paths all.1 q) (bytes_eq q p) refl h
  where
    by : (has paths q ≡ true → IsTrue (is_path q)) → (b : Bool) → bytes_eq q p ≡ b → (b || has paths q) ≡ true → IsTrue (is_path q)
    by rest true e k = ap is_path ((bytes_decides q p).0 e) ∙ all.0
    by rest false e k = rest k

all-from : (paths : List (List ℕ)) → ((q : List ℕ) → has paths q ≡ true → IsTrue (is_path q)) → ArePaths paths
all-from [] h = tt
all-from (p ∷ paths) h = (
  h p (ap (λ b. b || has paths p) ((bytes_decides p p).1 refl)),
  all-from paths (λ q k. h q (ap (λ b. bytes_eq q p || b) k ∙ or_true (bytes_eq q p))),
)

good-ascending : (paths : List (List ℕ)) → ArePaths paths → ArePaths (ascending paths)
good-ascending paths all = all-from (ascending paths) (λ q h. from-all paths all q (sym (has-ascending paths q) ∙ h))

good-keys : (m : Map) → Good m → ArePaths (keys_of m)
good-keys [] good = tt
good-keys (e ∷ m) good = (good.0.path, good-keys m good.1)

both-paths : (a b : List (List ℕ)) → ArePaths a → ArePaths b → ArePaths (a ++ b)
both-paths [] b p q = q
both-paths (x ∷ a) b p q = (p.0, both-paths a b p.1 q)

-- ---- cards

abbrev AreCards : List Card → Type 0
AreCards cards = AllByRecursion IsCard cards

both-cards : (a b : List Card) → AreCards a → AreCards b → AreCards (a ++ b)
both-cards [] b p q = q
both-cards (c ∷ a) b p q = (p.0, both-cards a b p.1 q)

good-offered : (m : Map) → Good m → AreCards (offered m)
good-offered [] good = tt
good-offered (e ∷ m) good = ((good.0.path, good.0.moment, sized-of e.1.bytes good.0.size), good-offered m good.1)

good-answer : (p : List ℕ) (o : Option Version) (offer : Option (ℕ × List ℕ)) → IsTrue (is_path p) → ((v : Version) → o ≡ Some v → IsEntry (entry_of p v)) → AreCards (answer_at p o offer)
good-answer p None None path good = tt
good-answer p None (Some s) path good = (path, tt)
good-answer p (Some y) None path good = (good y refl, tt)
good-answer p (Some y) (Some s) path good =
    elim (dated_cmp (stamp_of y) s) as (λ r. AreCards (match_ordering r (Gimme p ∷ []) [] (file_of p y ∷ []))) [ Less ↦ (path, tt) | Equal ↦ tt | Greater ↦ (good y refl, tt) ]

good-answers : (m : Map) (cards : List Card) (paths : List (List ℕ)) → Good m → ArePaths paths → AreCards (flat_map (λ p. answer_at p (value_at m p) (offer_at cards p)) paths)
good-answers m cards [] good all = tt
good-answers m cards (p ∷ paths) good all =
    both-cards (answer_at p (value_at m p) (offer_at cards p)) (flat_map (λ q. answer_at q (value_at m q) (offer_at cards q)) paths)
    (good-answer p (value_at m p) (offer_at cards p) all.0 (λ v is. good-value m p v good is)) (good-answers m cards paths good all.1)

good-file : (m : Map) (p : List ℕ) (o : Option Version) → Good m → value_at m p ≡ o → AreCards (file_at p o)
good-file m p None good is = tt
good-file m p (Some v) good is = (good-value m p v good is, tt)

good-given : (m : Map) (cards : List Card) → Good m → AreCards (given m cards)
good-given m [] good = tt
good-given m (Gimme p ∷ cards) good = both-cards (file_at p (value_at m p)) (given m cards) (good-file m p (value_at m p) good refl) (good-given m cards good)
good-given m (Igot path moment hash size ∷ cards) good = good-given m cards good
good-given m (File e ∷ cards) good = good-given m cards good

answer-good : (records others : List Record) (u v : Map) → IsUv records u → IsUv others v → AreCards (peer_answer u v)
answer-good records others u v is_u is_v =
    let good_u = good-map records u is_u in
    let good_v = good-map others v is_v in
    good-answers v (offered u) (all_paths u v) good_v
    (good-ascending (keys_of v ++ offered_paths (offered u)) (both-paths (keys_of v) (offered_paths (offered u)) (good-keys v good_v) (subst ArePaths (sym (paths-offered u)) (good-keys u good_u))))

-- ---- what is given behind the answer

-- where a path is asked for, nothing is sent of it, so it has what it had
asked-same : (u w : Map) (p : List ℕ) (b : Option Version) (s : Option (ℕ × List ℕ)) (h : Bool)
    → value_at w p ≡ most (value_at u p) (cond h (newest (files (answer_at p b s)) p) None) → given w (answer_at p b s) ≡ given u (answer_at p b s)
asked-same u w p None None h is = refl
asked-same u w p None (Some s) h is = ap (λ (o : Option Version). file_at p o ++ []) (is ∙ no-file u p h)
  where
    no-file : (u : Map) (p : List ℕ) (h : Bool) → most (value_at u p) (cond h None None) ≡ value_at u p
    no-file u p true = greater-none version_cmp version_cmp-IsTotalOrder (value_at u p)
    no-file u p false = greater-none version_cmp version_cmp-IsTotalOrder (value_at u p)
asked-same u w p (Some y) None h is = refl
asked-same u w p (Some y) (Some s) h is = by (dated_cmp (stamp_of y) s) is
  where
    no-file : (h : Bool) → most (value_at u p) (cond h None None) ≡ value_at u p
    no-file true = greater-none version_cmp version_cmp-IsTotalOrder (value_at u p)
    no-file false = greater-none version_cmp version_cmp-IsTotalOrder (value_at u p)

    by : (r : Ordering) → value_at w p ≡ most (value_at u p) (cond h (newest (files (match_ordering r (Gimme p ∷ []) [] (file_of p y ∷ []))) p) None)
        → given w (match_ordering r (Gimme p ∷ []) [] (file_of p y ∷ [])) ≡ given u (match_ordering r (Gimme p ∷ []) [] (file_of p y ∷ []))
    by Less is = ap (λ (o : Option Version). file_at p o ++ []) (is ∙ no-file h)
    by Equal is = refl
    by Greater is = refl

flat-same : (g k : List ℕ → List Card) → ((p : List ℕ) → g p ≡ k p) → (paths : List (List ℕ)) → flat_map g paths ≡ flat_map k paths
flat-same g k same [] = refl
flat-same g k same (p ∷ paths) = λ i. same p i ++ flat-same g k same paths i

given-same : (u v : Map) → given (synced_here u v) (peer_answer u v) ≡ given u (peer_answer u v)
given-same u v =
    given-flat (synced_here u v) (ans u v) (all_paths u v)
    ∙ flat-same (λ p. given (synced_here u v) (ans u v p)) (λ p. given u (ans u v p))
    (λ p. asked-same u (synced_here u v) p (value_at v p) (offer_at (offered u) p) (has (all_paths u v) p)
    (value-merge u (uv (files (peer_answer u v))) p ∙ ap (most (value_at u p)) (value-uv (files (peer_answer u v)) p ∙ sent-is u v p)))
    (all_paths u v)
    ∙ sym (given-flat u (ans u v) (all_paths u v))

pub stores_talk : StoresTalk
stores_talk = record {
  offer = λ records u is. (good-offered u (good-map records u is), refl);
  answer = λ records others u v is_u is_v. (answer-good records others u v is_u is_v, refl);
  back = λ records u cards is. (good-given u cards (good-map records u is), refl);
  same = given-same;
}
