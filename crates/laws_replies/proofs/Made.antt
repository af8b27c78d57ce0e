-- The text of a cluster that is made, as that of its cards.
use Rattle.std.specs.Prelude.{◌≡◌, ℕ, true, IsTrue, List, [], ◌∷◌, ◌++◌, map}
use Rattle.std.proofs.Common.{refl, sym, ap, ◌∙◌, append-nil}
use Rattle.std.proofs.lemmas.Bool.{and_from}
use Rattle.std.proofs.Math.Nat.{not-suc-le-zero}
use Rattle.fsl_order.specs.Names.{is_before}
use Rattle.fsl_order.specs.Rows.{rises}
use Rattle.fsl_order.proofs.Booleans.{first_holds, second_holds}
use Rattle.fsl_name.specs.Name.{name_text}
use Rattle.fsl_name.specs.Ref.{own_names}
use Rattle.fsl_name.specs.declared.reference.Ref.TheVariants.{Own}
use Rattle.fsl_name.proofs.WrittenOrder.{written_before}
use Rattle.fsl_card.specs.Cards.{text_of}
use Rattle.fsl_card.specs.Writing.{IsFinished, finished}
use Rattle.fsl_cluster.specs.Clusters.{AreMembers, member_cards, cluster_text}
use Rattle.fsl_forms.specs.WellFormed.{is_cluster_well_formed, rise_as_written}
use Rattle.fsl_forms.specs.Writing.{AreNames, AreRefs, AreReadBack, cluster_cards}
use Rattle.laws_replies.specs.Clusters.{MadeClustersRead}

same_cards : (names : List (List ℕ)) → text_of (cluster_cards (record { members = map Own names })) ≡ member_cards names
same_cards [] = refl
same_cards (name ∷ names) = λ i. (77 ∷ 32 ∷ (append-nil (name_text name) i ++ 10 ∷ [])) ++ same_cards names i

are_refs : (names : List (List ℕ)) → AreNames names → AreRefs (map Own names)
are_refs [] named = tt
are_refs (name ∷ names) named = (named.0, are_refs names named.1)

-- names rise as their digits do
rise : (names : List (List ℕ)) → AreNames names → rises names ≡ true → rise_as_written (map Own names) ≡ true
rise [] named h = refl
rise (a ∷ []) named h = refl
rise (a ∷ b ∷ names) named h =
    and_from _ _ (sym (written_before a b named.0.1 named.1.0.1) ∙ first_holds (is_before a b) (rises (b ∷ names)) h)
    (rise (b ∷ names) named.1 (second_holds (is_before a b) (rises (b ∷ names)) h))

well_formed : (names : List (List ℕ)) → AreMembers names → AreNames names → IsTrue (is_cluster_well_formed (record { members = map Own names }))
well_formed [] members named = absurd (not-suc-le-zero members.0)
well_formed (name ∷ names) members named = rise (name ∷ names) named members.2

own : (names : List (List ℕ)) → own_names (map Own names) ≡ names
own [] = refl
own (name ∷ names) = ap (λ (ns : List (List ℕ)). name ∷ ns) (own names)

pub made : IsFinished → AreReadBack → MadeClustersRead
made is_finished read_back names members named = record {
  kind = read_back.cluster (record { members = map Own names }) (cluster_text names) (are_refs names named) (well_formed names members named)
      (ap finished (sym (same_cards names)) ∙ is_finished (cluster_cards (record { members = map Own names })));
  members = own names;
}
