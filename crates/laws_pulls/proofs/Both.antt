-- Two repositories that pulled from each other hold the same artifacts.
use Rattle.std.specs.Prelude.{◌≡◌, ℕ, Bool, true, false, List, [], Option, Some, None}
use Rattle.std.proofs.Common.{refl, sym, ap, subst, ◌∙◌}
use Rattle.std.specs.Option.{option_map_or}
use Rattle.std.specs.FinMap as map_of
use Rattle.std.specs.FinSet as set
use Rattle.std.specs.FinSet.{FinSet}
use Rattle.fsl_order.specs.Names.{bytes_cmp}
use Rattle.fsl_order.proofs.Orders.{bytes_cmp-IsTotalOrder, bytes_cmp-IsAntisymmetric}
use Rattle.fsl_record.specs.declared.Config.{Config}
use Rattle.fsl_artifact.specs.Kind.{IsKind}
use Rattle.fsl_blobs.specs.Fold.{Held, HeldSet, Contents, is_new}
use Rattle.fsl_cross.specs.declared.Item.{Item}
use Rattle.fsl_repo.specs.Machine.{State, AreItems, now, configured}
use Rattle.fsl_repo.proofs.OneList.{are_one_list}
use Rattle.fsl_pull.specs.Rounds.{End}
use Rattle.fsl_pull.specs.Pushes.{is_public}
use Rattle.fsl_query.specs.Reports.{report}
use Rattle.laws_pulls.specs.Shown.{IsIn, AreMadeBy, ClustersCome, Agree, IsOpen, Gains, GainsAll, ShowTheSame}
use Rattle.laws_pulls.specs.Pulls.{PullsWell, AreAlike, EachWay, PulledShowTheSame}
use Rattle.laws_pulls.proofs.Gaining.{some_held, held_is, no_held, same_held}
use Rattle.laws_pulls.proofs.Reaching.{is_public_by, held_of_old, one_way}
use Rattle.laws_pulls.proofs.Telling.{same_report}

-- ---- behind the first pull

module _ (a b c : Contents) (alike : AreAlike a b) (gains : Gains a b c) where
  -- an artifact that is held then was held by one of the two, as it is
  from_either : {P : Type 0} (name : List ℕ) (x : Held) → map_of.get c.held name ≡ Some x
      → ((old : Held) → map_of.get a.held name ≡ Some old → x.bytes ≡ old.bytes → x.private ≡ false → P) → (map_of.get b.held name ≡ Some x → x.private ≡ false → P) → P
  from_either {P = P} name x is mine theirs = by (map_of.get a.held name) refl
    where
      by : (o : Option Held) → map_of.get a.held name ≡ o → P
      by None none = let k = gains.brought name x none is in theirs k.1 k.0
      by (Some old) was =
          let stays = gains.kept name old was in
          let same : stays.now ≡ x = held_is stays.now x (sym stays.is_held ∙ is) in
          mine old was (sym (ap (λ (h : Held). h.bytes) same) ∙ stays.same) (sym (ap (λ (h : Held). h.private) same) ∙ stays.public ((alike.first).public name old was))

  pub is_open : IsOpen c
  is_open =
      record {
        public = λ name x is. from_either name x is (λ old was same flag. flag) (λ theirs flag. flag);
        unshunned = λ name. ap (λ (sh : FinSet bytes_cmp). set.contains sh name) gains.shunned ∙ (alike.first).unshunned name;
      }

  pub agrees : Agree b c
  agrees name x y theirs ours =
      from_either name y ours (λ old was same flag. sym ((alike.agree) name old x was theirs) ∙ sym same) (λ k flag. ap (λ (h : Held). h.bytes) (held_is x y (sym theirs ∙ k)))

  pub made_in_time : AreMadeBy alike.made c
  made_in_time cluster name stands =
      from_either cluster stands.held stands.is_held
      (λ old was same flag.
      (alike.first_made) cluster name
      (record { held = old; is_held = was; artifact = stands.artifact; kind = subst (λ (bytes : List ℕ). IsKind bytes stands.artifact) same stands.kind; member = stands.member }))
      (λ k flag.
      (alike.second_made) cluster name (record { held = stands.held; is_held = k; artifact = stands.artifact; kind = stands.kind; member = stands.member }))

  pub all_come : ClustersCome c b
  all_come cluster name stands = (is_public_by c cluster stands.held stands.is_held (is_open.public cluster stands.held stands.is_held), (alike.second).unshunned cluster)

-- ---- what the clusters of an open repository meet

pub come_from : (a b : Contents) → IsOpen a → IsOpen b → ClustersCome b a
come_from a b mine theirs cluster name stands = (is_public_by b cluster stands.held stands.is_held (theirs.public cluster stands.held stands.is_held), mine.unshunned cluster)

-- ---- behind both

module _ (a b c d : Contents) (alike : AreAlike a b) (one : GainsAll a b c) (two : GainsAll b c d) where
  first_open : IsOpen c
  first_open = is_open a b c alike one.gains

  no_shun : (name : List ℕ) → set.contains d.shunned name ≡ false
  no_shun name = ap (λ (sh : FinSet bytes_cmp). set.contains sh name) ((two.gains).shunned) ∙ (alike.second).unshunned name

  -- an artifact of the second behind its pull is one of the first
  back : (name : List ℕ) (y : Held) → map_of.get d.held name ≡ Some y → map_of.get c.held name ≡ Some y
  back name y is = by (map_of.get b.held name) refl
    where
      by : (o : Option Held) → map_of.get b.held name ≡ o → map_of.get c.held name ≡ Some y
      by None none = ((two.gains).brought name y none is).1
      by (Some old) was =
          let stays = (two.gains).kept name old was in
          let flag = (alike.second).public name old was in
          let same : stays.now ≡ y = held_is stays.now y (sym stays.is_held ∙ is) in
          let here = held_of_old c name (one.all name (is_public_by b name old was flag)) (first_open.unshunned name) in
          let bytes : here.held.bytes ≡ y.bytes =
          sym (agrees a b c alike one.gains name old here.held was here.is_held) ∙ sym stays.same ∙ ap (λ (h : Held). h.bytes) same in
          let public : here.held.private ≡ y.private =
          first_open.public name here.held here.is_held ∙ sym (stays.public flag) ∙ ap (λ (h : Held). h.private) same in
          here.is_held ∙ ap some_held (same_held here.held y public bytes)

  same_at : (name : List ℕ) (o : Option Held) → map_of.get c.held name ≡ o → map_of.get c.held name ≡ map_of.get d.held name
  same_at name (Some x) is =
      let there = held_of_old d name (two.all name (is_public_by c name x is (first_open.public name x is))) (no_shun name) in
      back name there.held there.is_held ∙ sym there.is_held
  same_at name None none = by (map_of.get d.held name) refl
    where
      by : (o : Option Held) → map_of.get d.held name ≡ o → map_of.get c.held name ≡ map_of.get d.held name
      by None is = none ∙ sym is
      by (Some y) is = no_held y (sym (back name y is) ∙ none)

  same_all : c.held ≡ d.held
  same_all = map_of.same_map bytes_cmp-IsTotalOrder bytes_cmp-IsAntisymmetric c.held d.held (λ name. same_at name (map_of.get c.held name) refl)

  same_shunned : c.shunned ≡ d.shunned
  same_shunned = set.same_set bytes_cmp-IsTotalOrder bytes_cmp-IsAntisymmetric c.shunned d.shunned (λ name. first_open.unshunned name ∙ sym (no_shun name))

  abbrev fields_of : Option Config → List (List ℕ)
  fields_of config = option_map_or (λ x. x.fields) config []

  same_fields : configured c ≡ configured d
  same_fields = ap fields_of ((one.gains).config) ∙ alike.fields ∙ sym (ap fields_of ((two.gains).config))

  pub show_the_same : ShowTheSame c d
  show_the_same =
      record {
        held = same_all;
        reports = λ question of_file xs ys mine theirs.
            let same : xs ≡ ys = are_one_list d.held xs ys (subst (λ (h : HeldSet). AreItems h xs) same_all mine) theirs in
            same_report c d same_all same_fields same_shunned xs question of_file ∙ ap (λ (items : List Item). report d items question) same;
      }

pub each_way : EachWay
each_way a b c d e f alike first again is second =
    let one = one_way a b e alike.agree alike.made alike.second_made (come_from (now a) (now b) alike.first alike.second) first in
    let two =
    one_way c d f (subst (λ (x : Contents). Agree x (now d)) (sym again) (subst (Agree (now b)) (sym is) (agrees (now a) (now b) (now e.state) alike one.gains))) alike.made
    (subst (AreMadeBy alike.made) (sym is) (made_in_time (now a) (now b) (now e.state) alike one.gains))
    (subst (λ (x : Contents). ClustersCome (now d) x) (sym again) (subst (λ (x : Contents). ClustersCome x (now b)) (sym is) (all_come (now a) (now b) (now e.state) alike one.gains))) second in
    let here : GainsAll (now b) (now e.state) (now f.state) = subst (λ (x : Contents). GainsAll x (now e.state) (now f.state)) again (subst (λ (x : Contents). GainsAll (now c) x (now f.state)) is two) in
    show_the_same (now a) (now b) (now e.state) (now f.state) alike one here

pub pulled_show_the_same : PulledShowTheSame
pulled_show_the_same = record { one_way = one_way; each_way = each_way }
