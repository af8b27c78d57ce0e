-- A pull that ended well reaches each public artifact of the peer, from cluster to cluster.
use Rattle.std.specs.Prelude.{◌≡◌, ℕ, zero, suc, ◌+◌, ◌<◌, ◌≤◌, ◌||◌, Bool, true, false, not, cond, List, [], ◌∷◌, map, flat_map, Option, Some, None, is_some}
use Rattle.std.proofs.Common.{refl, sym, ap, subst, ◌∙◌, arith}
use Rattle.std.specs.Option.{option_map_or}
use Rattle.std.specs.FinMap as map_of
use Rattle.std.specs.FinMap.{find}
use Rattle.std.specs.FinSet as set
use Rattle.std.specs.FinSet.{FinSet}
use Rattle.fsl_order.specs.Names.{bytes_cmp, has}
use Rattle.fsl_artifact.specs.Kind.{IsKind}
use Rattle.fsl_blobs.specs.Fold.{Held, Contents, is_new}
use Rattle.fsl_cluster.specs.declared.Fact.{Fact}
use Rattle.fsl_cross.specs.declared.Item.{Item}
use Rattle.fsl_cross.specs.Facts.{cluster_fact}
use Rattle.fsl_repo.specs.Machine.{State, AreItems, now, unclustered_names}
use Rattle.fsl_repo.proofs.SomeArrival.{some_items}
use Rattle.fsl_pull.specs.Rounds.{End}
use Rattle.fsl_pull.specs.Pushes.{is_public}
use Rattle.fsl_pull.specs.Laws.{LeavesAll}
use Rattle.fsl_pull.proofs.LocalLaw.{local_pulls_leave_all}
use Rattle.laws_pulls.specs.Shown.{IsIn, AreMadeBy, ClustersCome, Agree, Gains, GainsAll}
use Rattle.laws_pulls.specs.Pulls.{PullsWell, OneWay}
use Rattle.laws_pulls.proofs.Gaining.{some_held, held_is, no_held, not_true}
use Rattle.laws_pulls.proofs.Pulling.{pull_gains}
use Rattle.laws_pulls.proofs.Clusters.{Standing, standing, is_unclustered, is_referred, at_first}

-- ---- public artifacts

pub record Public (c : Contents) (name : List ℕ) : Type 0 where
  pub held : Held
  pub is_held : map_of.get c.held name ≡ Some held
  pub public : held.private ≡ false

public_by : (c : Contents) (name : List ℕ) (o : Option Held) → map_of.get c.held name ≡ o → option_map_or (λ a. not a.private) o false ≡ true → Public c name
public_by c name None e h = not_true h
public_by c name (Some a) e h = by a.private refl h
  where
    by : (b : Bool) → a.private ≡ b → not b ≡ true → Public c name
    by true flag k = not_true k
    by false flag k = record { held = a; is_held = e; public = flag }

pub public_of : (c : Contents) (name : List ℕ) → is_public c name ≡ true → Public c name
public_of c name h = public_by c name (map_of.get c.held name) refl h

pub is_public_by : (c : Contents) (name : List ℕ) (a : Held) → map_of.get c.held name ≡ Some a → a.private ≡ false → is_public c name ≡ true
is_public_by c name a e flag = ap (λ (o : Option Held). option_map_or (λ x. not x.private) o false) e ∙ ap not flag

-- a name that isn't new and isn't shunned is held
pub record IsHeld (c : Contents) (name : List ℕ) : Type 0 where
  pub held : Held
  pub is_held : map_of.get c.held name ≡ Some held

held_by : (c : Contents) (name : List ℕ) (o : Option Held) → map_of.get c.held name ≡ o → not (is_some o || set.contains c.shunned name) ≡ false → set.contains c.shunned name ≡ false → IsHeld c name
held_by c name None e h shown = not_true (sym h ∙ ap not shown)
held_by c name (Some a) e h shown = record { held = a; is_held = e }

pub held_of_old : (c : Contents) (name : List ℕ) → is_new c name ≡ false → set.contains c.shunned name ≡ false → IsHeld c name
held_of_old c name h shown = held_by c name (map_of.get c.held name) refl h shown

-- ---- a number that no cluster passes

abbrev top : (List ℕ → ℕ) → List (List ℕ × Held) → ℕ
top made [] = 0
top made (e ∷ es) = made e.0 + top made es

under_top : (made : List ℕ → ℕ) (es : List (List ℕ × Held)) (name : List ℕ) (a : Held) → find bytes_cmp name es ≡ Some a → made name ≤ top made es
under_top made [] name a found = no_held a (sym found)
under_top made (e ∷ es) name a found =
    at_first e es name a found (λ same held. let is : made name ≡ made e.0 = ap made same in omega (arith, is)) (λ later. let rest = under_top made es name a later in omega (arith, rest))

-- ---- from cluster to cluster

module _ (s peer : State) (e : End) (agree : Agree (now s) (now peer)) (made : List ℕ → ℕ) (in_time : AreMadeBy made (now peer)) (come : ClustersCome (now peer) (now s))
    (gains : Gains (now s) (now peer) (now e.state)) (leaves : LeavesAll peer e) where
  abbrev here : Contents
  here = now e.state

  abbrev there : Contents
  there = now peer

  -- what the peer holds has the same content here
  same_content : (name : List ℕ) (x y : Held) → map_of.get there.held name ≡ Some x → map_of.get here.held name ≡ Some y → x.bytes ≡ y.bytes
  same_content name x y theirs ours = by (map_of.get (now s).held name) refl
    where
      by : (o : Option Held) → map_of.get (now s).held name ≡ o → x.bytes ≡ y.bytes
      by None none = ap (λ (h : Held). h.bytes) (held_is x y (sym theirs ∙ (gains.brought name y none ours).1))
      by (Some a) old =
          let stays = gains.kept name a old in
          sym (agree name a x old theirs) ∙ sym stays.same ∙ ap (λ (h : Held). h.bytes) (held_is stays.now y (sym stays.is_held ∙ ours))

  -- a name that stands in a cluster that is held here is
  by_cluster : (items : List Item) → AreItems here.held items → (name cluster : List ℕ) → is_public there name ≡ true → IsIn there cluster name → is_new here cluster ≡ false → is_new here name ≡ false
  by_cluster items are name cluster public stands old =
      let shown : set.contains here.shunned cluster ≡ false = ap (λ (sh : FinSet bytes_cmp). set.contains sh cluster) gains.shunned ∙ (come cluster name stands).1 in
      let h = held_of_old here cluster old shown in
      let kind = subst (λ (bytes : List ℕ). IsKind bytes stands.artifact) (same_content cluster stands.held h.held stands.is_held h.is_held) stands.kind in
      leaves.referred items are name
      (is_referred (map_of.entries here.held) items cluster h.held stands.artifact name are (sym (map_of.get-entries here.held cluster) ∙ h.is_held) kind stands.member) public

  module _ (theirs : List Item) (are_theirs : AreItems there.held theirs) (ours : List Item) (are_ours : AreItems here.held ours) where
    abbrev all_members : List (List ℕ)
    all_members = flat_map (λ (g : Fact). g.members) (map cluster_fact theirs)

    no_cluster : (name : List ℕ) → is_public there name ≡ true → has all_members name ≡ false → is_new here name ≡ false
    no_cluster name public out =
        let p = public_of there name public in
        leaves.unclustered (unclustered_names theirs) (theirs, are_theirs, refl) name
        (is_unclustered (map_of.entries there.held) theirs name p.held are_theirs (sym (map_of.get-entries there.held name) ∙ p.is_held) p.public out)

    in_cluster : (name : List ℕ) → has all_members name ≡ true → (cluster : List ℕ) × IsIn there cluster name
    in_cluster name h =
        let st = standing (map_of.entries there.held) theirs name (map_of.entries_sorted there.held) are_theirs h in
        (st.cluster, record { held = st.held; is_held = map_of.get-entries there.held st.cluster ∙ st.found; artifact = st.artifact; kind = st.kind; member = st.member })

    abbrev height : ℕ
    height = top made (map_of.entries there.held)

    below : (cluster name : List ℕ) → IsIn there cluster name → made cluster ≤ height
    below cluster name stands = under_top made (map_of.entries there.held) cluster stands.held (sym (map_of.get-entries there.held cluster) ∙ stands.is_held)

    by_members : (name : List ℕ) → is_public there name ≡ true → (b : Bool) → has all_members name ≡ b → ((cluster : List ℕ) → IsIn there cluster name → is_new here cluster ≡ false) → is_new here name ≡ false
    by_members name public false out through = no_cluster name public out
    by_members name public true inside through = let c = in_cluster name inside in by_cluster ours are_ours name c.0 public c.1 (through c.0 c.1)

    reach : (n : ℕ) (name : List ℕ) → is_public there name ≡ true → height ≤ made name + n → is_new here name ≡ false
    reach zero name public high =
        by_members name public (has all_members name) refl (λ cluster stands.
        let up = in_time cluster name stands in let most = below cluster name stands in absurd (omega (arith, up, most, high)))
    reach (suc n) name public high =
        by_members name public (has all_members name) refl (λ cluster stands.
        let up = in_time cluster name stands in reach n cluster ((come cluster name stands).0) (omega (arith, up, high)))

  pub reaches : (name : List ℕ) → is_public there name ≡ true → is_new here name ≡ false
  reaches name public =
      let theirs = some_items there.held in
      let ours = some_items here.held in
      reach theirs.0 theirs.1 ours.0 ours.1 (top made (map_of.entries there.held)) name public (omega arith)

pub one_way : OneWay
one_way s peer e agree made in_time come pulls =
    let gains = pull_gains s peer pulls.honest pulls.rounds e pulls.pulls in
    record { gains = gains; all = reaches s peer e agree made in_time come gains (local_pulls_leave_all s peer pulls.rounds e pulls.pulls pulls.well) }
