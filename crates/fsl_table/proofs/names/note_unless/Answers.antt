use Rattle.std.proofs.Common.{◌≡◌, ◌∙◌, true, false, ap, sym}
use Rattle.std.specs.Str.{bytes_eq}
use Rattle.std.specs.Cmp.Lexicographic.{bytes_decides}
use Rattle.fsl_order.specs.Names.{has}
use Rattle.fsl_table.proofs.Noting.{passed, taken, has-contains}
use Rattle.fsl_table.proofs.Outcomes.{on_ok_map}
use Rattle.fsl_table.proofs.names.note_unless.Goals as goal

pub returns-then-contains : goal.returns-then-contains
returns-then-contains c =
    let there : has c.args.but.now.keys c.args.name ≡ true = has-contains c.args.but.now.keys c.args.name ∙ sym c.contains.ensures ∙ c.if-contains.true in
    record { noted = λ q. passed (bytes_eq q c.args.name) (has c.args.but.now.keys q) (has c.args.names.now.keys q) (λ e. ap (has c.args.but.now.keys) ((bytes_decides q c.args.name).0 e) ∙ there) }

pub returns : goal.returns
returns c =
    let absent : has c.args.but.now.keys c.args.name ≡ false = has-contains c.args.but.now.keys c.args.name ∙ sym c.contains.ensures ∙ c.if-contains.false in
    record {
      noted = on_ok_map c.note.result
          (λ noted q. noted q ∙ taken (bytes_eq q c.args.name) (has c.args.but.now.keys q) (has c.args.names.now.keys q) (λ e. ap (has c.args.but.now.keys) ((bytes_decides q c.args.name).0 e) ∙ absent))
          c.note.ensures.noted;
    }
