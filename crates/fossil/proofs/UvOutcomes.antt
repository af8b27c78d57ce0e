-- Commands of unversioned files have one outcome over a file, and one at most.
use Rattle.std.proofs.Common.{◌≡◌, ◌⊎◌, inl, inr, ℕ, List, refl, sym, ap, ◌∙◌}
use Rattle.fsl_record.specs.declared.Record.{Record}
use Rattle.fsl_uv.specs.Entries.{Version}
use Rattle.fsl_uv.specs.Stores.{IsUv, IsNoEntry}
use Rattle.fsl_uv.specs.Reports.{Done, says, not_unversioned}
use Rattle.fsl_uv.proofs.OneMap.{records_read_one_way}
use Rattle.fsl_uv.proofs.SomeMap.{records_read_some_way}
use Rattle.fossil.specs.Unversioned.{IsUvDone}
use Rattle.fossil.specs.Outcome.{Outcome, uv_outcome, IsUvOf}

module _ (does : List (List ℕ × Version) → Done) (records : List Record) where
  one_done : (d e : Done) → IsUvDone does records d → IsUvDone does records e → d ≡ e
  one_done d e (inl h) (inl k) = h.2 ∙ ap (λ (name : List ℕ). says (not_unversioned name)) (records_read_one_way.one_name records h.0 k.0 h.1 k.1) ∙ sym k.2
  one_done d e (inl h) (inr k) = absurd (records_read_one_way.not_both records k.0 h.0 k.1 h.1)
  one_done d e (inr h) (inl k) = absurd (records_read_one_way.not_both records h.0 k.0 h.1 k.1)
  one_done d e (inr h) (inr k) = h.2 ∙ ap does (records_read_one_way.one_map records h.0 k.0 h.1 k.1) ∙ sym k.2

  pub one_uv : (a b : Outcome) → IsUvOf does records a → IsUvOf does records b → a ≡ b
  one_uv a b h k = h.2 ∙ ap uv_outcome (one_done h.0 k.0 h.1 k.1) ∙ sym k.2

  some_done : ((m : List (List ℕ × Version)) × IsUv records m) ⊎ ((name : List ℕ) × IsNoEntry records name) → (d : Done) × IsUvDone does records d
  some_done (inl h) = (does h.0, inr (h.0, h.1, refl))
  some_done (inr h) = (says (not_unversioned h.0), inl (h.0, h.1, refl))

  pub some_uv : (o : Outcome) × IsUvOf does records o
  some_uv = let d = some_done (records_read_some_way records) in (uv_outcome d.0, (d.0, d.1, refl))
