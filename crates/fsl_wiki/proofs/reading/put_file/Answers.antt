use Rattle.std.proofs.Common.{◌≡◌, ◌∙◌, true, false, cond, if◌then◌else◌, Option, Some, None, refl, sym, ap}
use Rattle.std.specs.Option.{option_or}
use Rattle.std.specs.Str.{bytes_eq}
use Rattle.std.specs.BTreeMap.{is_at}
use Rattle.std.specs.Cmp.Lexicographic.{texts_ties, bytes_decides}
use Rattle.fsl_order.specs.Names.{bytes_cmp}
use Rattle.fsl_order.specs.Maps as maps
use Rattle.fsl_table.proofs.Finding.{none_from}
use Rattle.fsl_table.proofs.Outcomes.{on_ok_map}
use Rattle.fsl_wiki.specs.declared.Attached.{Attached}
use Rattle.fsl_wiki.proofs.reading.put_file.Goals as goal

or_none : (o : Option Attached) → o ≡ option_or o None
or_none None = refl
or_none (Some a) = refl

pub returns : goal.returns
returns c =
    let a = c.args.attached in
    let old = c.args.files.now.entries in
    let none : maps.value_at old a.file ≡ None = none_from (maps.value_at old a.file) (sym c.contains_key.ensures ∙ c.if-contains_key.false) in
    on_ok_map c.insert.result
    (λ put file. put file
    ∙ ap (λ k. cond (is_at (bytes_cmp k) file) (Some a) (maps.value_at old file)) (c.in_ok-file.ensures ∙ c.bytes.ensures)
    ∙ ap (λ b. cond b (Some a) (maps.value_at old file)) (sym (texts_ties a.file file))
    ∙ elim (bytes_eq a.file file) as (λ b. bytes_eq a.file file ≡ b → cond b (Some a) (maps.value_at old file) ≡ option_or (maps.value_at old file) (if b then Some a else None)) [
      | true ↦ λ h. ap (λ o. option_or o (Some a)) (sym none ∙ ap (maps.value_at old) ((bytes_decides a.file file).0 h))
      | false ↦ λ h. or_none (maps.value_at old file)
    ] refl)
    c.insert.ensures
