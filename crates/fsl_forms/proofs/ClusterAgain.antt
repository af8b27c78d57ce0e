-- What a cluster is written as reads back as the cluster.
use Rattle.std.proofs.Common.{◌≡◌, ℕ, true, not, List, [], ◌∷◌, map, refl}
use Rattle.std.specs.List.{AllByRecursion}
use Rattle.fsl_text.specs.Bytes.{is_empty}
use Rattle.fsl_name.specs.Ref.{IsRef, is_written_before, ref_text}
use Rattle.fsl_name.specs.declared.reference.Ref.{Ref}
use Rattle.fsl_card.specs.declared.types.Card.{Card}
use Rattle.fsl_card.specs.Cards.{IsTextOf, in_order}
use Rattle.fsl_grammar.specs.Letters.{cluster_letters}
use Rattle.fsl_grammar.specs.Forms.{ref_form}
use Rattle.fsl_grammar.specs.Writing.{card}
use Rattle.fsl_grammar.proofs.WrittenArguments.{is_argument-ref}
use Rattle.fsl_grammar.proofs.Blocks.{AreBlocks, block_each, plain_card}
use Rattle.fsl_grammar.proofs.FormsAgain.{ref_form_again, read_each}
use Rattle.fsl_grammar.proofs.BlockLemmas.{by_form, letters_are, some_cards, text_is}
use Rattle.fsl_forms.specs.declared.cluster.Cluster.{Cluster}
use Rattle.fsl_forms.specs.Kinds.{IsCluster}
use Rattle.fsl_forms.specs.WellFormed.{is_cluster_well_formed, rise_as_written}
use Rattle.fsl_forms.specs.Writing.{IsClusterText, cluster_cards}
use Rattle.std.proofs.lemmas.List.{append-nil}
use Rattle.std.proofs.lemmas.Bool.{and_from}
use Rattle.fsl_order.proofs.Booleans.{first_holds, second_holds}

abbrev member : Ref → Card
member r = card 77 (ref_text r ∷ [])

members_ordered : (refs : List Ref) → rise_as_written refs ≡ true → in_order (map member refs) ≡ true
members_ordered [] h = refl
members_ordered (a ∷ []) h = refl
members_ordered (a ∷ b ∷ refs) h =
    and_from _ _ (first_holds _ (rise_as_written (b ∷ refs)) h) (members_ordered (b ∷ refs) (second_holds (is_written_before a b) _ h))

-- the cards before the Z card
abbrev blocks : Cluster → List (ℕ × List Card)
blocks c = (77, map member c.members) ∷ []

module _ (c : Cluster) (named : AllByRecursion IsRef c.members) (w : is_cluster_well_formed c ≡ true) where
  are_blocks : AreBlocks (blocks c)
  are_blocks = (
    block_each 77 member IsRef (λ r. refl) (λ r h. plain_card 77 (ref_text r ∷ []) refl (and_from _ _ (is_argument-ref r h) refl)) c.members named
        (members_ordered c.members (second_holds (not (is_empty c.members)) _ w)),
    tt,
  )

  pub cluster_again : (text : List ℕ) → IsClusterText text c → IsTextOf IsCluster text c
  cluster_again text made =
      text_is (blocks c) are_blocks IsCluster c text (cluster_cards c) refl (append-nil (cluster_cards c)) made (record {
        letters = letters_are (blocks c) are_blocks cluster_letters (record {
          once = refl;
          optional = refl;
          some = and_from _ _ (some_cards member c.members (first_holds _ (rise_as_written c.members) w)) refl;
          known = refl;
        });
        members = by_form (blocks c) are_blocks 77 ref_form _ (read_each member ref_form IsRef (λ r h. ref_form_again r h) c.members named);
      })
