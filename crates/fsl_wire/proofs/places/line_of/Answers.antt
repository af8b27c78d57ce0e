use Rattle.std.proofs.Common.{ℕ, ◌+◌, ◌-◌, ◌∙◌, length, take, drop, refl, subst, sym, arith}
use Rattle.fsl_wire.specs.Counts.{IsCountedTo}
use Rattle.fsl_wire.proofs.CountLemmas.{start_count, count_blank, count_card, line_found, last_found, none_found}
use Rattle.fsl_wire.proofs.places.line_of.Goals as goal
use Rattle.fsl_wire.proofs.places.line_of.Goals.{then-has_card+else-left-eq0, else-has_card}

pub lines-init : goal.lines-init
lines-init c = start_count c.args.bytes.now c.args.card

pub returns-then-left-eq0 : goal.returns-then-left-eq0
returns-then-left-eq0 c =
    let bytes = c.args.bytes.now in
    let rest = take (length bytes - c.lines.at) (drop c.lines.at bytes) in
    line_found bytes rest c.lines.line c.lines.at c.lines.left c.args.card c.lines.invariant refl c.requires.0 c.requires.1 c.in-Line.meaning c.in-Line.from c.in-Line.to c.in-Line.ensures
    (sym c.has_card.ensures ∙ c.if-has_card.true) c.if-left-eq0.true

pub returns-in-Last : goal.returns-in-Last
returns-in-Last c =
    let bytes = c.args.bytes.now in
    let rest = take (length bytes - c.lines.at) (drop c.lines.at bytes) in
    last_found bytes rest c.lines.line c.lines.at c.lines.left c.args.card c.lines.invariant refl c.requires.0 c.requires.1 c.in-Last.meaning c.in-Last.ensures c.requires.2

pub returns-in-Bad : goal.returns-in-Bad
returns-in-Bad c =
    let bytes = c.args.bytes.now in
    let rest = take (length bytes - c.lines.at) (drop c.lines.at bytes) in
    none_found bytes rest c.lines.line c.lines.at c.lines.left c.args.card c.lines.invariant refl c.requires.0 c.requires.1 c.in-Bad.wrong c.in-Bad.ensures

pub lines-preserved : goal.lines-preserved
lines-preserved c =
    let bytes = c.args.bytes.now in
    let rest = take (length bytes - c.lines.at) (drop c.lines.at bytes) in
    let next = c.lines.at + c.in-Line.to in
    elim c.if-has_card.branch [
      | then-has_card+else-left-eq0 w ↦
          let left = w.left-is in
          let some = w.if-left-eq0.false in
          count_card bytes rest c.lines.line c.lines.at next c.in-Line.from c.in-Line.to c.lines.left c.if-has_card.left c.args.card c.in-Line.meaning c.lines.invariant refl c.in-Line.ensures refl
          (sym c.has_card.ensures ∙ w.if-has_card.true) (omega arith)
      | else-has_card w ↦
          let P : ℕ → Type 0 = λ n. IsCountedTo bytes (c.lines.line + 1) next n c.args.card in
          subst P (sym w.left-is)
          (count_blank bytes rest c.lines.line c.lines.at next c.in-Line.from c.in-Line.to c.lines.left c.args.card c.in-Line.meaning c.lines.invariant refl c.in-Line.ensures refl
          (sym c.has_card.ensures ∙ w.if-has_card.false))
    ]
